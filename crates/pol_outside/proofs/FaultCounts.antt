-- How the count of a source in memory moves from one call to the next.
use Rattle.std.proofs.Common.{◌≡◌, ℕ, suc, ◌^◌, ◌<◌, ◌≤◌, ◌⊎◌, inl, inr, List, Bool, true, false, Ok, Err, arith, refl, ◌&&◌, nat_lt}
use Rattle.std.proofs.lemmas.Bool.Decides.{nat_tests}
use Rattle.pol_outside.specs.Faults.{HasCause, one_more}
use Rattle.pol_outside.specs.Memory.{fails_at, fault_count}

both_first : (a b : Bool) → (a && b) ≡ true → a ≡ true
both_first true b is = refl
both_first false b is = is

pub fails_below : (failing : List ℕ) (number : ℕ) → fails_at failing number ≡ true → number < 2 ^ 32
fails_below failing number fails =
    let below : nat_lt number (2 ^ 32) ≡ true = both_first _ _ fails in
    grind (arith, nat_tests)

pub counts_failing : (failing : List ℕ) (calls : ℕ) → fails_at failing calls ≡ true
    → fault_count failing (suc calls) ≡ suc (fault_count failing calls)
counts_failing failing calls fails = rw fails

pub counts_other : (failing : List ℕ) (calls : ℕ) → fails_at failing calls ≡ false
    → fault_count failing (suc calls) ≡ fault_count failing calls
counts_other failing calls fails = rw fails

pub never_falls : (failing : List ℕ) (calls : ℕ) → fault_count failing calls ≤ fault_count failing (suc calls)
never_falls failing calls =
    let by_test : (b : Bool) → fails_at failing calls ≡ b → fault_count failing calls ≤ fault_count failing (suc calls)
    = λ b is. elim b as (λ v. fails_at failing calls ≡ v → fault_count failing calls ≤ fault_count failing (suc calls)) [
      | true ↦ λ yes. omega (arith, counts_failing failing calls yes)
      | false ↦ λ not_so. omega (arith, counts_other failing calls not_so)
    ] is in
    by_test (fails_at failing calls) refl

-- a call that fails by its number is counted
pub counted_fault : {A E : Type 0} (failing : List ℕ) (calls next : ℕ) (error : E) → next ≡ one_more calls
    → fails_at failing calls ≡ true → HasCause {A = A} (fault_count failing calls) (fault_count failing next) (Err error)
counted_fault failing calls next error following fails =
    let below = fails_below failing calls fails in
    let same : next ≡ suc calls = omega arith in
    rw same (record {
      later = never_falls failing calls;
      failed = omega (arith, counts_failing failing calls fails);
      succeeded = tt;
    })

-- a call that does not fail by its number leaves the count where it stood
pub kept_count : {A E : Type 0} (failing : List ℕ) (calls next : ℕ) (answer : A) → next ≡ one_more calls
    → calls < 2 ^ 64 → fails_at failing calls ≡ false
    → HasCause {E = E} (fault_count failing calls) (fault_count failing next) (Ok answer)
kept_count failing calls next answer following fits passes =
    let either : (next ≡ suc calls) ⊎ (next ≡ calls) = grind arith in
    elim either [
      | inl further ↦ rw further (record {
        later = never_falls failing calls;
        failed = tt;
        succeeded = counts_other failing calls passes;
      })
      | inr still ↦ rw still (record { later = omega arith; failed = tt; succeeded = refl })
    ]
