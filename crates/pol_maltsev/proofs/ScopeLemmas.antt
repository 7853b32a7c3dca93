-- The places of a scope, and orders where they stand first.
use Rattle.std.proofs.Common.{◌≡◌, ℕ, ◌<◌, ◌≤◌, ◌+◌, List, [], ◌∷◌, ◌++◌, length, get_or, All, Contains, arith, refl, sym, ap, ◌∙◌, ◌⊎◌, inl, inr, length-append}
use Rattle.std.specs.Prelude.{slice_index, ◌≢◌, AllPairs}
use Rattle.std.proofs.lemmas.Bool.{cases_order}
use Rattle.std.proofs.lemmas.List.{get_or-map, get_or_default, map_push}
use Rattle.std.proofs.lemmas.List.Elements.{All-nil, All-push, All-same, All-weaker, Contains-get_or, Contains-append_left, Contains-push}
use Rattle.std.proofs.lemmas.List.Quantifiers.{all_pairs_push}
use Rattle.pol_base.proofs.MemberLemmas.{AllPairs-nil, no_longer}
use Rattle.pol_relation.specs.Instances.{read_at}
use Rattle.pol_maltsev.specs.Orders.{InFront, IsOrder, AreFirst}
use Rattle.pol_maltsev.specs.Restrictions.{AreFirsts}
use Rattle.pol_maltsev.specs.Scopes.{StandsFirst, AreFirstPlaces}
use Rattle.pol_maltsev.proofs.ReadingLemmas.{read_value, length-read_at, word_below}

-- the places at the first k numbers of the scope
pub record AreFirstPlacesSoFar (scope : List ℕ) (k : ℕ) (numbers places : List ℕ) : Type 0 where
  pub first : All (StandsFirst scope) numbers
  pub before : All (λ e. e < k) numbers
  pub ascending : AllPairs (λ e j. e < j) numbers
  pub read : places ≡ read_at scope numbers
  pub each : (e : ℕ) → e < k → Contains places (slice_index scope e)

pub places_none : (scope : List ℕ) → AreFirstPlacesSoFar scope 0 [] []
places_none scope = record {
  first = All-nil (StandsFirst scope);
  before = All-nil (λ e. e < 0);
  ascending = AllPairs-nil (λ (e j : ℕ). e < j);
  read = refl;
  each = λ e low. absurd (omega (arith, low));
}

-- numbers below k are below k + 1
before_more : (k : ℕ) (numbers : List ℕ) → All (λ e. e < k) numbers → All (λ e. e < k + 1) numbers
before_more k numbers before i d low = let small : get_or numbers i d < k = before i d low in omega (arith, small)

-- one number more, where a place stands that is there already
pub places_same : (scope : List ℕ) (k : ℕ) (numbers places : List ℕ) → AreFirstPlacesSoFar scope k numbers places → Contains places (slice_index scope k) → AreFirstPlacesSoFar scope (k + 1) numbers places
places_same scope k numbers places so_far there = record {
  first = so_far.first;
  before = before_more k numbers so_far.before;
  ascending = so_far.ascending;
  read = so_far.read;
  each = λ e low. at e low (cases_order e k);
}
  where
    at : (e : ℕ) → e < k + 1 → (e ≡ k) ⊎ ((e < k) ⊎ (k < e)) → Contains places (slice_index scope e)
    at e low (inl same) = rw same there
    at e low (inr (inl before)) = so_far.each e before
    at e low (inr (inr after)) = absurd (omega (arith, low, after))

-- or one that is not
pub places_more : (scope : List ℕ) (k : ℕ) (numbers places : List ℕ) → k < length scope → AreFirstPlacesSoFar scope k numbers places → ¬ Contains places (slice_index scope k) →
    AreFirstPlacesSoFar scope (k + 1) (numbers ++ k ∷ []) (places ++ slice_index scope k ∷ [])
places_more scope k numbers places known so_far new = record {
  first = All-push (StandsFirst scope) numbers k so_far.first (record { known = known; first = λ e low same. new (rw (← same) (so_far.each e low)) });
  before = All-push (λ e. e < k + 1) numbers k (before_more k numbers so_far.before) (omega arith);
  ascending = all_pairs_push (λ (e j : ℕ). e < j) numbers k so_far.ascending so_far.before;
  read = ap (λ front. front ++ slice_index scope k ∷ []) so_far.read ∙ sym (map_push (λ e. slice_index scope e) numbers k);
  each = λ e low. at e low (cases_order e k);
}
  where
    at : (e : ℕ) → e < k + 1 → (e ≡ k) ⊎ ((e < k) ⊎ (k < e)) → Contains (places ++ slice_index scope k ∷ []) (slice_index scope e)
    at e low (inl same) = rw same (Contains-push places (slice_index scope k))
    at e low (inr (inl before)) = Contains-append_left places (slice_index scope k ∷ []) (slice_index scope e) (so_far.each e before)
    at e low (inr (inr after)) = absurd (omega (arith, low, after))

-- of the whole scope
pub places_all : (scope : List ℕ) (k : ℕ) (numbers places : List ℕ) → length scope ≤ k → AreFirstPlacesSoFar scope k numbers places → AreFirstPlaces scope numbers places
places_all scope k numbers places high so_far = record {
  first = so_far.first;
  ascending = so_far.ascending;
  read = so_far.read;
  each = λ e low. so_far.each e (omega (arith, low, high));
}

-- there are as many places as numbers
pub many_places : (scope numbers places : List ℕ) → AreFirstPlaces scope numbers places → length places ≡ length numbers
many_places scope numbers places firsts = ap (λ (ps : List ℕ). length ps) firsts.read ∙ length-read_at scope numbers

-- the place at a number
pub place_value : (scope numbers places : List ℕ) (i d : ℕ) → AreFirstPlaces scope numbers places → i < length numbers → get_or places i d ≡ slice_index scope (slice_index numbers i)
place_value scope numbers places i d firsts low = ap (λ (ps : List ℕ). get_or ps i d) firsts.read ∙ get_or-map (λ e. slice_index scope e) numbers i 0 d low

-- no place is there twice
pub places_apart : (scope numbers places : List ℕ) → AreFirstPlaces scope numbers places → AllPairs (λ p q. p ≢ q) places
places_apart scope numbers places firsts i j d less low same =
    (firsts.first j 0 inside).first (slice_index numbers i) (firsts.ascending i j 0 less inside)
    (sym (place_value scope numbers places i d firsts (omega (arith, less, inside))) ∙ same ∙ place_value scope numbers places j d firsts inside)
  where
    inside : j < length numbers
    inside = rw (← many_places scope numbers places firsts) low

-- and each is one of the scope
pub places_below : (n : ℕ) (scope numbers places : List ℕ) → AreFirstPlaces scope numbers places → All (λ p. p < n) scope → All (λ p. p < n) places
places_below n scope numbers places firsts below =
    All-same (λ p. p < n) places (read_at scope numbers) firsts.read
    (word_below n scope numbers below (All-weaker (StandsFirst scope) (λ e. e < length scope) (λ e h. h.known) numbers firsts.first))

-- so an order has each once
pub places_few : (n : ℕ) (ord scope numbers places : List ℕ) → IsOrder n ord → AreFirstPlaces scope numbers places → All (λ p. p < n) scope → length places ≤ n
places_few n ord scope numbers places order firsts below =
    rw (← order.long) (no_longer places ord (places_apart scope numbers places firsts) (λ k d low. there (get_or places k d) (order.found (get_or places k d) (places_below n scope numbers places firsts below k d low))))
  where
    there : (p : ℕ) → InFront ord n p → Contains ord p
    there p h = rw h.place at (Contains-get_or ord h.index 0 (rw order.long h.early))

-- a scope with a place has a first one
pub places_some : (scope numbers places : List ℕ) → AreFirstPlaces scope numbers places → 1 ≤ length scope → 1 ≤ length numbers
places_some scope numbers places firsts some = from (firsts.each 0 some)
  where
    from : Contains places (slice_index scope 0) → 1 ≤ length numbers
    from h = omega (arith, h.1, many_places scope numbers places firsts)

-- an order that begins with the places has the scope in front
pub firsts_of_places : (ord scope numbers places : List ℕ) → AreFirstPlaces scope numbers places → AreFirst places ord → AreFirsts ord scope numbers
firsts_of_places ord scope numbers places firsts front = record {
  known = All-weaker (StandsFirst scope) (λ e. e < length scope) (λ e h. h.known) numbers firsts.first;
  places = λ k low. front k (rw (many_places scope numbers places firsts) low) ∙ place_value scope numbers places k 0 firsts low;
  within = λ e low. at (slice_index scope e) (firsts.each e low);
}
  where
    at : (p : ℕ) → Contains places p → InFront ord (length numbers) p
    at p h = record {
      index = h.0;
      early = rw (← many_places scope numbers places firsts) h.1;
      place = front h.0 h.1 ∙ get_or_default places h.0 0 p h.1 ∙ h.2;
    }
