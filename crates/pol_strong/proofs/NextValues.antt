-- A finished log gives a solution value by value: values that avoid it go on, and all of them together are a solution.
use Rattle.std.proofs.Common.{AllPairs, ◌+◌, ◌≡◌, ◌≢◌, ℕ, suc, ◌-◌, ◌<◌, List, [], ◌∷◌, ◌++◌, length, All, Contains, arith, ap, get_or, set, replicate, inl, inr, refl, sym, ◌∙◌, ◌⊎◌, subst, length-append, append-nil}
use Rattle.std.proofs.lemmas.Bool.{cases_eq}
use Rattle.std.proofs.lemmas.List.{get_or_push, get_or_append_left, length_push, length-replicate, get_or-set_same, get_or-set_other}
use Rattle.std.proofs.lemmas.List.Elements.{All-push, All-nil, All-append, All-replicate, All-from_get_or}
use Rattle.pol_base.specs.Tuples.{IsTuple}
use Rattle.pol_relation.specs.Relations.{LanguageView, IsLanguage}
use Rattle.pol_relation.specs.Instances.{InstanceView, Fits, IsSolution}
use Rattle.pol_nogood.specs.Nogoods.{Pair, IsContained}
use Rattle.pol_nogood.specs.Logs.{StepView, no_step, nogood_at}
use Rattle.pol_strong.specs.Families.{Extended, firsts, HeldAt, KeptBy}
use Rattle.pol_strong.specs.Contradictions.{given, Avoids}
use Rattle.pol_strong.specs.Finished.{IsDecided}
use Rattle.pol_strong.proofs.Variables.{in_firsts, firsts_below}
use Rattle.pol_strong.proofs.GivenPairs.{IsGiven, in_given, given_is}
use Rattle.pol_strong.proofs.KeptSolutions.{kept_next, kept_all}

-- an assignment that begins with values that avoid the log is kept at their variables
avoided_kept : (log : List StepView) (values more : List ℕ) → Avoids log values
    → KeptBy log (firsts (length values)) (values ++ more)
avoided_kept log values more avoids =
    All-from_get_or (λ (s : StepView). ¬ HeldAt (firsts (length values)) (values ++ more) s.nogood) log no_step
    (λ i inside held.
    avoids (record {
      step = i;
      known = inside;
      within = λ k d h.
          let p : Pair = get_or (nogood_at log i) k d in
          let below : p.variable < length values = firsts_below (length values) p.variable (held k d h).0 in
          in_given values p (record {
            below = below;
            value_is = sym (get_or_append_left values more 0 p.variable below) ∙ (held k d h).1;
          });
    }))

-- a value of the next variable with which values avoid the log
pub record NextValue (d : ℕ) (log : List StepView) (values : List ℕ) : Type 0 where
  pub value : ℕ
  pub below : value < d
  pub avoids : Avoids log (values ++ value ∷ [])

-- values of the first variables that avoid the log
pub record IsBegun (d : ℕ) (log : List StepView) (count : ℕ) (values : List ℕ) : Type 0 where
  pub tuple : IsTuple d count values
  pub avoids : Avoids log values

pub begun_push : (d : ℕ) (log : List StepView) (count : ℕ) (values : List ℕ) (value : ℕ) → IsBegun d log count values
    → value < d
    → Avoids log (values ++ value ∷ [])
    → IsBegun d log (count + 1) (values ++ value ∷ [])
begun_push d log count values value begun below avoids = record {
  tuple = record {
    long = omega (arith, begun.tuple.long, length_push values value);
    below = All-push (λ v. v < d) values value begun.tuple.below below;
  };
  avoids = avoids;
}

module _ (lang : LanguageView) (good : IsLanguage lang) (inst : InstanceView) (fits : Fits lang inst)
    (log : List StepView)
    (decided : IsDecided lang inst log) where
  abbrev n : ℕ
  n = length inst.variables

  pub log_ascends : All (λ s. AllPairs (λ p q. p.variable < q.variable) s.nogood) log
  log_ascends =
      All-from_get_or (λ (s : StepView). AllPairs (λ p q. p.variable < q.variable) s.nogood) log no_step
      (λ i inside. (decided.finished.valid i inside).placed.is_nogood.ascending)

  pub log_below : All (λ s. All (λ p. p.value < 5) s.nogood) log
  log_below =
      All-from_get_or (λ (s : StepView). All (λ p. p.value < 5) s.nogood) log no_step
      (λ i inside k e within.
      let pair = (decided.finished.valid i inside).placed.is_nogood.pairs k e within in
      omega (arith, pair.value_known, good.domain_is.few))

  -- no value avoids it
  pub avoided_none : Avoids log []
  avoided_none found = by (nogood_at log found.step)
      (decided.finished.nonempty found.step no_step found.known) found.within
    where
      by : (nogood : List Pair) → nogood ≢ [] → IsContained nogood (given []) → ⊥
      by [] some within = some refl
      by (p ∷ rest) some within = let there = given_is [] p (within 0 p (omega arith)) in omega (arith, there.below)

  -- values that avoid it do with some value of the next variable
  pub next_value : (values : List ℕ) → length values < n → All (λ v. v < lang.domain) values → Avoids log values
      → NextValue lang.domain log values
  next_value values further below avoids =
      let more : List ℕ = replicate (n - length values) 0 in
      let whole : List ℕ = values ++ more in
      let zeros : length more ≡ n - length values = length-replicate (n - length values) 0 in
      let long : length whole ≡ n = omega (arith, length-append values more, zeros) in
      let tuple : IsTuple lang.domain n whole = record {
        long = long;
        below = All-append (λ v. v < lang.domain) values more below
            (All-replicate (λ v. v < lang.domain) (n - length values) 0 good.domain_is.some);
      } in
      from whole long (λ j h. get_or_append_left values more 0 j h)
      (kept_next lang decided.most decided.operation decided.is_near good inst fits log decided.finished whole
      tuple (length values) further
      (avoided_kept log values more avoids))
    where
      from : (whole : List ℕ) → length whole ≡ n → ((j : ℕ) → j < length values → get_or whole j 0 ≡ get_or values j 0)
          → Extended lang.domain (KeptBy log) (firsts (length values)) whole (length values)
          → NextValue lang.domain log values
      from whole long same next = record {
        value = next.value;
        below = next.below;
        avoids = λ found. next.kept found.step no_step found.known (λ k d h.
            let p : Pair = get_or (nogood_at log found.step) k d in
            held p (given_is (values ++ next.value ∷ []) p (found.within k d h)));
      }
        where
          held : (p : Pair) → IsGiven (values ++ next.value ∷ []) p
              → Contains (firsts (suc (length values)))
              p.variable × (get_or (set whole (length values) next.value) p.variable 0 ≡ p.value)
          held p is = (
            in_firsts (suc (length values)) p.variable (omega (arith, is.below, length_push values next.value)),
            by (cases_eq p.variable (length values)) ∙ is.value_is,
          )
            where
              by : (p.variable ≡ length values) ⊎ (p.variable ≡ length values → ⊥)
                  → get_or (set whole (length values) next.value) p.variable 0 ≡ get_or
                  (values ++ next.value ∷ []) p.variable 0
              by (inl last) =
                  ap (λ x. get_or (set whole (length values) next.value) x 0) last
                  ∙ (get_or-set_same whole (length values) next.value 0 (omega (arith, long, further))
                  ∙ sym (get_or_push values next.value 0 p.variable (sym last)))
              by (inr apart) =
                  let before : p.variable < length values
                  = omega (arith, apart, is.below, length_push values next.value) in
                  get_or-set_other whole (length values) p.variable next.value 0 apart
                  ∙ (same p.variable before ∙ sym (get_or_append_left values (next.value ∷ []) 0 p.variable before))

  pub begun_none : IsBegun lang.domain log 0 []
  begun_none = record {
    tuple = record { long = refl; below = All-nil (λ v. v < lang.domain) };
    avoids = avoided_none;
  }

  -- values of all variables that avoid it are a solution
  pub avoided_solution : (values : List ℕ) → IsTuple lang.domain n values → Avoids log values
      → IsSolution lang inst values
  avoided_solution values tuple avoids =
      kept_all lang decided.most decided.operation decided.is_near good inst fits log decided.finished values tuple
      (rw tuple.long at (whole_kept values (avoided_kept log values [] avoids)))
    where
      whole_kept : (xs : List ℕ) → KeptBy log (firsts (length xs)) (xs ++ []) → KeptBy log (firsts (length xs)) xs
      whole_kept xs kept = subst (λ (a : List ℕ). KeptBy log (firsts (length xs)) a) (append-nil xs) kept
