-- The elements of a list that have a property which can be decided.
use Rattle.pol_base.proofs.MemberLemmas.{Contains-nil, Contains-here, Contains-there, Contains-cons_cases}
use Rattle.std.proofs.lemmas.Bool.{cases_eq}
use Rattle.std.proofs.Common.{◌≡◌, ℕ, suc, zero, ◌<◌, ◌⊎◌, inl, inr, List, [], ◌∷◌, Contains, sym, subst, arith}

abbrev pub Decidable : Type 0 → Type 0
Decidable P = P ⊎ (P → ⊥)

pub all_below : (P : ℕ → Type 0) → ((i : ℕ) → Decidable (P i)) → (n : ℕ) → Decidable ((i : ℕ) → i < n → P i)
all_below P test zero = inl (λ i less. absurd (omega arith))
all_below P test (suc n) = by (all_below P test n) (test n)
  where
    by : Decidable ((i : ℕ) → i < n → P i) → Decidable (P n) → Decidable ((i : ℕ) → i < suc n → P i)
    by (inr fails) last = inr (λ all. fails (λ i less. all i (omega arith)))
    by (inl all) (inr fails) = inr (λ each. fails (each n (omega arith)))
    by (inl all) (inl here) = inl (λ i less. at i less (cases_eq i n))
      where
        at : (i : ℕ) → i < suc n → (i ≡ n) ⊎ (i ≡ n → ⊥) → P i
        at i less (inl same) = subst P (sym same) here
        at i less (inr other) = all i (omega arith)

pub implied : (P Q : Type 0) → Decidable P → Decidable Q → Decidable (P → Q)
implied P Q (inr fails) second = inl (λ p. absurd (fails p))
implied P Q (inl p) (inl q) = inl (λ _. q)
implied P Q (inl p) (inr fails) = inr (λ implies. fails (implies p))

pub record Sifted {X : Type 0} (P : X → Type 0) (xs : List X) : Type 0 where
  pub kept : List X
  pub sound : (x : X) → Contains kept x → Contains xs x × P x
  pub whole : (x : X) → Contains xs x → P x → Contains kept x

pub sift : {X : Type 0} (P : X → Type 0) → ((x : X) → Decidable (P x)) → (xs : List X) → Sifted P xs
sift P test [] = record {
  kept = [];
  sound = λ x inside. absurd (Contains-nil x inside);
  whole = λ x inside holds. absurd (Contains-nil x inside);
}
sift {X = X} P test (y ∷ ys) = by (sift P test ys) (test y)
  where
    by : Sifted P ys → Decidable (P y) → Sifted P (y ∷ ys)
    by s (inl p) = record {
      kept = y ∷ s.kept;
      sound = λ x inside. up x (Contains-cons_cases y x s.kept inside);
      whole = λ x inside holds. down x holds (Contains-cons_cases y x ys inside);
    }
      where
        up : (x : X) → (y ≡ x) ⊎ Contains s.kept x → Contains (y ∷ ys) x × P x
        up x (inl same) = (subst (Contains (y ∷ ys)) same (Contains-here y ys), subst P same p)
        up x (inr later) = (Contains-there y x ys (s.sound x later).0, (s.sound x later).1)

        down : (x : X) → P x → (y ≡ x) ⊎ Contains ys x → Contains (y ∷ s.kept) x
        down x holds (inl same) = subst (Contains (y ∷ s.kept)) same (Contains-here y s.kept)
        down x holds (inr later) = Contains-there y x s.kept (s.whole x later holds)
    by s (inr fails) = record {
      kept = s.kept;
      sound = λ x inside. (Contains-there y x ys (s.sound x inside).0, (s.sound x inside).1);
      whole = λ x inside holds. down x holds (Contains-cons_cases y x ys inside);
    }
      where
        down : (x : X) → P x → (y ≡ x) ⊎ Contains ys x → Contains s.kept x
        down x holds (inl same) = absurd (fails (subst P (sym same) holds))
        down x holds (inr later) = s.whole x later holds
