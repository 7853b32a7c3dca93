-- What holds of two numbers and a list holds of those that are equal to them.
use Rattle.std.proofs.Common.{◌≡◌, ℕ, List, subst}

pub carried : {X : Type 0} (P : ℕ → ℕ → List X → Type 0) (p d n k : ℕ) (xs ys : List X) → p ≡ d → n ≡ k → xs ≡ ys → P p n xs → P d k ys
carried {X = X} P p d n k xs ys same_p same_n same at =
    subst (λ (some : List X). P d k some) same (subst (λ (m : ℕ). P d m xs) same_n (subst (λ (m : ℕ). P m n xs) same_p at))
