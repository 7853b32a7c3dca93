-- Classes that are made value by value.
use Rattle.std.proofs.Common.{◌≡◌, ℕ, ◌<◌, ◌≤◌, ◌+◌, List, [], ◌∷◌, ◌++◌, length-append, get_or, arith, sym, refl, ◌∙◌, ◌⊎◌, inl, inr}
use Rattle.std.proofs.lemmas.Bool.{cases_order}
use Rattle.std.proofs.lemmas.List.{get_or_append_left, get_or_at}
use Rattle.std.proofs.lemmas.List.Elements.{All-nil, All-push}
use Rattle.pol_base.specs.Tuples.{IsTuple}
use Rattle.pol_maltsev.specs.Views.{ClassesView, no_classes, AreClasses, AreMade, IsMade, with_value}

-- of no value
pub made_none : (P : ℕ → List ℕ → ℕ → Type 0) (d n : ℕ) → AreMade P d n 0 no_classes
made_none P d n = record {
  all_rows = refl;
  tuples = All-nil (IsTuple d n);
  all_roots = refl;
  most = All-nil (λ r. r ≤ d);
  each = λ a low. absurd (omega (arith, low));
}

-- of one value more
pub made_more : (P : ℕ → List ℕ → ℕ → Type 0) (d n a : ℕ) (c : ClassesView) (row : List ℕ) (root : ℕ) → AreMade P d n a c → IsMade P d n a row root → AreMade P d n (a + 1) (with_value c row root)
made_more P d n a c row root made one = record {
  all_rows = length-append c.rows (row ∷ []) ∙ rw made.all_rows refl;
  tuples = All-push (IsTuple d n) c.rows row made.tuples one.tuple;
  all_roots = length-append c.roots (root ∷ []) ∙ rw made.all_roots refl;
  most = All-push (λ r. r ≤ d) c.roots root made.most one.most;
  each = λ b low. at b low (cases_order b a);
}
  where
    at : (b : ℕ) → b < a + 1 → (b ≡ a) ⊎ ((b < a) ⊎ (a < b)) → P b (get_or (c.rows ++ row ∷ []) b []) (get_or (c.roots ++ root ∷ []) b 0)
    at b low (inl e) = rw (get_or_at c.rows row [] [] b (made.all_rows ∙ sym e), get_or_at c.roots root [] 0 b (made.all_roots ∙ sym e), e) one.holds
    at b low (inr (inl before)) =
        rw (get_or_append_left c.rows (row ∷ []) [] b (rw made.all_rows before), get_or_append_left c.roots (root ∷ []) 0 b (rw made.all_roots before)) (made.each b before)
    at b low (inr (inr after)) = absurd (omega (arith, low, after))

-- of all values
pub made_classes : (P : ℕ → List ℕ → ℕ → Type 0) (d n : ℕ) (c : ClassesView) → AreMade P d n d c → AreClasses d n c
made_classes P d n c made = record { all_rows = made.all_rows; tuples = made.tuples; all_roots = made.all_roots; most = made.most }
