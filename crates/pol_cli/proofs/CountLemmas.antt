-- Counting the things of a list that are such.
use Rattle.std.proofs.Common.{◌≡◌, ℕ, zero, suc, ◌+◌, ◌<◌, List, [], ◌∷◌, ◌++◌, length, take, get_or, inl, inr, refl, sym, ap, ◌∙◌, subst, arith}
use Rattle.std.proofs.lemmas.List.{take_more}
use Rattle.pol_cli.specs.Summaries.{Counts}

-- one more
pub counts_more : {A : Type 0} (P : A → Type 0) (things : List A) (thing : A) (n : ℕ) → Counts P things n → P thing → Counts P (things ++ thing ∷ []) (suc n)
counts_more P [] thing n none is = inl (is, none)
counts_more P (first ∷ rest) thing zero (not, none) is = inr (not, counts_more P rest thing zero none is)
counts_more P (first ∷ rest) thing (suc n) (inl (also, some)) is = inl (also, counts_more P rest thing n some is)
counts_more P (first ∷ rest) thing (suc n) (inr (not, some)) is = inr (not, counts_more P rest thing (suc n) some is)

-- another thing
pub counts_other : {A : Type 0} (P : A → Type 0) (things : List A) (thing : A) (n : ℕ) → Counts P things n → ¬ P thing → Counts P (things ++ thing ∷ []) n
counts_other P [] thing zero none not = (not, refl)
counts_other P [] thing (suc n) none not = absurd (omega (arith, none))
counts_other P (first ∷ rest) thing zero (unlike, none) not = (unlike, counts_other P rest thing zero none not)
counts_other P (first ∷ rest) thing (suc n) (inl (also, some)) not = inl (also, counts_other P rest thing n some not)
counts_other P (first ∷ rest) thing (suc n) (inr (unlike, some)) not = inr (unlike, counts_other P rest thing (suc n) some not)

-- the next of the things, which is such
pub counts_next : {A : Type 0} (P : A → Type 0) (things : List A) (i n : ℕ) (d : A) → i < length things → Counts P (take i things) n → P (get_or things i d) → Counts P (take (i + 1) things) (n + 1)
counts_next P things i n d inside some is =
    let one : suc n ≡ n + 1 = omega arith in
    let more = counts_more P (take i things) (get_or things i d) n some is in
    subst (λ first. Counts P first (n + 1)) (sym (take_more things i d inside)) (subst (Counts P (take i things ++ get_or things i d ∷ [])) one more)

-- and which is not
pub counts_past : {A : Type 0} (P : A → Type 0) (things : List A) (i n : ℕ) (d : A) → i < length things → Counts P (take i things) n → ¬ P (get_or things i d) → Counts P (take (i + 1) things) n
counts_past P things i n d inside some not =
    subst (λ first. Counts P first n) (sym (take_more things i d inside)) (counts_other P (take i things) (get_or things i d) n some not)

-- things that are such exactly where they are so
pub counts_same : {A : Type 0} (P Q : A → Type 0) (things : List A) (n : ℕ) → ((thing : A) → P thing → Q thing) → ((thing : A) → ¬ P thing → ¬ Q thing) → Counts P things n → Counts Q things n
counts_same P Q [] n is not none = none
counts_same P Q (first ∷ rest) zero is not (unlike, none) = (not first unlike, counts_same P Q rest zero is not none)
counts_same P Q (first ∷ rest) (suc n) is not (inl (also, some)) = inl (is first also, counts_same P Q rest n is not some)
counts_same P Q (first ∷ rest) (suc n) is not (inr (unlike, some)) = inr (not first unlike, counts_same P Q rest (suc n) is not some)

-- there is one count
pub counts_once : {A : Type 0} (P : A → Type 0) (things : List A) (n m : ℕ) → Counts P things n → Counts P things m → n ≡ m
counts_once P [] n m none also = none ∙ sym also
counts_once P (first ∷ rest) zero zero some also = refl
counts_once P (first ∷ rest) zero (suc m) (unlike, none) (inl (is, some)) = absurd (unlike is)
counts_once P (first ∷ rest) zero (suc m) (unlike, none) (inr (not, some)) = counts_once P rest zero (suc m) none some
counts_once P (first ∷ rest) (suc n) zero (inl (is, some)) (unlike, none) = absurd (unlike is)
counts_once P (first ∷ rest) (suc n) zero (inr (not, some)) (unlike, none) = counts_once P rest (suc n) zero some none
counts_once P (first ∷ rest) (suc n) (suc m) (inl (is, some)) (inl (also, more)) = ap (λ k. suc k) (counts_once P rest n m some more)
counts_once P (first ∷ rest) (suc n) (suc m) (inl (is, some)) (inr (not, more)) = absurd (not is)
counts_once P (first ∷ rest) (suc n) (suc m) (inr (not, some)) (inl (is, more)) = absurd (not is)
counts_once P (first ∷ rest) (suc n) (suc m) (inr (not, some)) (inr (unlike, more)) = counts_once P rest (suc n) (suc m) some more

-- things of which each is such or so, and none is both
pub counts_all : {A : Type 0} (P Q : A → Type 0) (things : List A) (n m : ℕ) → ((thing : A) → ¬ P thing → Q thing) → ((thing : A) → P thing → ¬ Q thing) → Counts P things n → Counts Q things m → n + m ≡ length things
counts_all P Q [] n m either not_both none also = omega (arith, none, also)
counts_all P Q (first ∷ rest) zero zero either not_both (unlike, none) (not, also) = absurd (not (either first unlike))
counts_all P Q (first ∷ rest) zero (suc m) either not_both (unlike, none) (inl (is, more)) = omega (arith, counts_all P Q rest zero m either not_both none more)
counts_all P Q (first ∷ rest) zero (suc m) either not_both (unlike, none) (inr (not, more)) = absurd (not (either first unlike))
counts_all P Q (first ∷ rest) (suc n) zero either not_both (inl (is, some)) (not, also) = omega (arith, counts_all P Q rest n zero either not_both some also)
counts_all P Q (first ∷ rest) (suc n) zero either not_both (inr (unlike, some)) (not, also) = absurd (not (either first unlike))
counts_all P Q (first ∷ rest) (suc n) (suc m) either not_both (inl (is, some)) (inl (also, more)) = absurd (not_both first is also)
counts_all P Q (first ∷ rest) (suc n) (suc m) either not_both (inl (is, some)) (inr (not, more)) = omega (arith, counts_all P Q rest n (suc m) either not_both some more)
counts_all P Q (first ∷ rest) (suc n) (suc m) either not_both (inr (unlike, some)) (inl (is, more)) = omega (arith, counts_all P Q rest (suc n) m either not_both some more)
counts_all P Q (first ∷ rest) (suc n) (suc m) either not_both (inr (unlike, some)) (inr (not, more)) = absurd (not (either first unlike))
