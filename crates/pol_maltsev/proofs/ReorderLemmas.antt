-- Tables whose order changes by swaps of neighbouring places.
use Rattle.std.proofs.Common.{◌≡◌, ℕ, ◌<◌, ◌≤◌, ◌+◌, ◌-◌, List, arith, refl, ap, ◌∙◌, ◌⊎◌, inl, inr}
use Rattle.std.proofs.lemmas.Bool.{cases_lt, cases_order}
use Rattle.std.specs.Prelude.{slice_index, ◌≢◌, AllPairs, length}
use Rattle.pol_optable.specs.Operations.{Operation}
use Rattle.pol_maltsev.specs.Orders.{IsSwapped}
use Rattle.pol_maltsev.specs.Views.{TableView, IsSoundTable, IsReordered, HaveOneShape, HaveOneSet}

-- nothing has changed
pub reordered_none : (f : Operation) (stayed : ℕ) (v : TableView) → IsSoundTable f v → IsReordered f stayed v v
reordered_none f stayed v is = record {
  shape = record { domain = refl; width = refl };
  sound = is;
  set = λ t. (λ h. h, λ h. h);
  before = λ i low. refl;
}

-- a place on its way to position `to` stands at position k
pub record IsOnItsWay (f : Operation) (to k p : ℕ) (old new : TableView) : Type 0 where
  pub reordered : IsReordered f to old new
  pub there : slice_index new.order k ≡ p
  pub high : to ≤ k
  pub low : k < new.width

-- it is found where it stands
pub way_begins : (f : Operation) (to k p : ℕ) (v : TableView) → IsSoundTable f v → ((i : ℕ) → i < to → slice_index v.order i ≢ p) → slice_index v.order k ≡ p → k < v.width → IsOnItsWay f to k p v v
way_begins f to k p v is later there low = record { reordered = reordered_none f to v is; there = there; high = high (cases_lt k to); low = low }
  where
    high : (k < to) ⊎ (to ≤ k) → to ≤ k
    high (inl h) = absurd (later k h there)
    high (inr h) = h

-- a swap brings it one position on
pub way_more : (f : Operation) (to k p : ℕ) (old mid new : TableView) → IsOnItsWay f to k p old mid → to < k → HaveOneShape mid new → IsSoundTable f new → HaveOneSet f mid new → IsSwapped (k - 1) mid.order new.order →
    IsOnItsWay f to (k - 1) p old new
way_more f to k p old mid new way more shape sound set swapped = record {
  reordered = record {
    shape = record { domain = shape.domain ∙ way.reordered.shape.domain; width = shape.width ∙ way.reordered.shape.width };
    sound = sound;
    set = λ t. (λ h. (way.reordered.set t).0 ((set t).0 h), λ h. (set t).1 ((way.reordered.set t).1 h));
    before = λ i low. swapped.others i (λ e. absurd (omega (arith, e, low, more))) (λ e. absurd (omega (arith, e, low, more))) ∙ way.reordered.before i low;
  };
  there = swapped.first ∙ ap (slice_index mid.order) up ∙ way.there;
  high = omega (arith, more);
  low = rw shape.width (omega (arith, way.low));
}
  where
    up : k - 1 + 1 ≡ k
    up = omega (arith, more)

-- where a swap did not come about
pub way_same : (f : Operation) (to k p : ℕ) (old mid new : TableView) → IsOnItsWay f to k p old mid → new ≡ mid → IsReordered f to old new
way_same f to k p old mid new way same = rw same way.reordered

-- the place stands at the position
pub way_ends : (f : Operation) (to k p : ℕ) (old new : TableView) → IsOnItsWay f to k p old new → k ≤ to → slice_index new.order to ≡ p
way_ends f to k p old new way low = let same : to ≡ k = omega (arith, low, way.high) in rw same way.there

-- the first k of some places stand first
pub record AreFirstSoFar (f : Operation) (places : List ℕ) (k : ℕ) (old new : TableView) : Type 0 where
  pub reordered : IsReordered f 0 old new
  pub first : (i : ℕ) → i < k → slice_index new.order i ≡ slice_index places i

pub first_none : (f : Operation) (places : List ℕ) (v : TableView) → IsSoundTable f v → AreFirstSoFar f places 0 v v
first_none f places v is = record { reordered = reordered_none f 0 v is; first = λ i low. absurd (omega (arith, low)) }

-- one order behind another
pub reordered_again : (f : Operation) (k : ℕ) (old mid new : TableView) → IsReordered f 0 old mid → IsReordered f k mid new → IsReordered f 0 old new
reordered_again f k old mid new h g = record {
  shape = record { domain = g.shape.domain ∙ h.shape.domain; width = g.shape.width ∙ h.shape.width };
  sound = g.sound;
  set = λ t. (λ q. (h.set t).0 ((g.set t).0 q), λ q. (g.set t).1 ((h.set t).1 q));
  before = λ i low. absurd (omega (arith, low));
}

-- one place more
pub first_more : (f : Operation) (places : List ℕ) (k : ℕ) (old mid new : TableView) → AreFirstSoFar f places k old mid → IsReordered f k mid new → slice_index new.order k ≡ slice_index places k → AreFirstSoFar f places (k + 1) old new
first_more f places k old mid new h g there = record { reordered = reordered_again f k old mid new h.reordered g; first = λ i low. at i (cases_order i k) low }
  where
    at : (i : ℕ) → (i ≡ k) ⊎ ((i < k) ⊎ (k < i)) → i < k + 1 → slice_index new.order i ≡ slice_index places i
    at i (inl e) low = rw e there
    at i (inr (inl before)) low = g.before i before ∙ h.first i before
    at i (inr (inr after)) low = absurd (omega (arith, low, after))

-- the next place is none of them
pub none_before : (f : Operation) (places : List ℕ) (k : ℕ) (old new : TableView) → AreFirstSoFar f places k old new → AllPairs (λ p q. p ≢ q) places → k < length places → (i : ℕ) → i < k → slice_index new.order i ≢ slice_index places k
none_before f places k old new h apart low i before = rw (h.first i before) (apart i k 0 before low)
