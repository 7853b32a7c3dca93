-- Things drawn one by one: those so far, those that are left, and what holds of each.
use Rattle.std.proofs.Common.{◌≡◌, ℕ, zero, suc, ◌+◌, ◌<◌, ◌≤◌, ◌%◌, ◌/◌, List, [], ◌∷◌, ◌++◌, length, All, refl, ap, sym, ◌∙◌, arith, append_assoc}
use Rattle.std.proofs.lemmas.List.{append-nil}
use Rattle.std.proofs.lemmas.List.Elements.{All-nil, All-cons}
use Rattle.pol_base.specs.Tuples.{IsTuple}
use Rattle.pol_gen.specs.Draws.{Drawn, draw, draw_numbers, one_by_one, turned}

-- the list has what is picked of the things so far, and what is left is drawn from the state
pub record IsOnTheWay {A : Type 0} (Pick : List A → List A) (count : ℕ) (next : ℕ → Drawn A) (start : List A) (s i : ℕ) (xs : List A) (now : ℕ) : Type 0 where
  pub left : ℕ
  pub in_all : i + left ≡ count
  pub list : xs ++ Pick (one_by_one left next now).drawn ≡ start ++ Pick (one_by_one count next s).drawn
  pub state : (one_by_one left next now).state ≡ (one_by_one count next s).state

pub way_begins : {A : Type 0} (pick : List A → List A) (count : ℕ) (next : ℕ → Drawn A) (start : List A) (s : ℕ) → IsOnTheWay pick count next start s 0 start s
way_begins pick count next start s = record { left = count; in_all = omega arith; list = refl; state = refl }

-- one thing more, of which the piece is picked
next_left : {A : Type 0} (pick : List A → List A) (count : ℕ) (next : ℕ → Drawn A) (start : List A) (s i : ℕ) (xs piece : List A) (now left : ℕ) → i < count → ((rest : List A) → pick ((next now).drawn ∷ rest) ≡ piece ++ pick rest) → i + left ≡ count → xs ++ pick (one_by_one left next now).drawn ≡ start ++ pick (one_by_one count next s).drawn → (one_by_one left next now).state ≡ (one_by_one count next s).state → IsOnTheWay pick count next start s (i + 1) (xs ++ piece) (next now).state
unfolding one_by_one
next_left pick count next start s i xs piece now zero more step in_all list state = absurd (omega arith)
next_left pick count next start s i xs piece now (suc left) more step in_all list state =
    let rest = (one_by_one left next (next now).state).drawn in
    record {
      left = left;
      in_all = omega arith;
      list = append_assoc xs piece (pick rest) ∙ (ap (λ ys. xs ++ ys) (sym (step rest)) ∙ list);
      state = state;
    }

pub way_goes_on : {A : Type 0} (pick : List A → List A) (count : ℕ) (next : ℕ → Drawn A) (start : List A) (s i : ℕ) (xs piece : List A) (now : ℕ) → i < count → ((rest : List A) → pick ((next now).drawn ∷ rest) ≡ piece ++ pick rest) → IsOnTheWay pick count next start s i xs now → IsOnTheWay pick count next start s (i + 1) (xs ++ piece) (next now).state
way_goes_on pick count next start s i xs piece now more step way = next_left pick count next start s i xs piece now way.left more step way.in_all way.list way.state

-- what was drawn in all
pub record IsAtTheEnd {A : Type 0} (Pick : List A → List A) (count : ℕ) (next : ℕ → Drawn A) (start : List A) (s : ℕ) (xs : List A) (now : ℕ) : Type 0 where
  pub list : xs ≡ start ++ Pick (one_by_one count next s).drawn
  pub state : now ≡ (one_by_one count next s).state

none_left : {A : Type 0} (pick : List A → List A) (count : ℕ) (next : ℕ → Drawn A) (start : List A) (s i : ℕ) (xs : List A) (now left : ℕ) → pick [] ≡ [] → count ≤ i → i + left ≡ count → xs ++ pick (one_by_one left next now).drawn ≡ start ++ pick (one_by_one count next s).drawn → (one_by_one left next now).state ≡ (one_by_one count next s).state → IsAtTheEnd pick count next start s xs now
unfolding one_by_one
none_left pick count next start s i xs now zero nothing done in_all list state = record {
  list = sym (append-nil xs) ∙ (ap (λ ys. xs ++ ys) (sym nothing) ∙ list);
  state = state;
}
none_left pick count next start s i xs now (suc left) nothing done in_all list state = absurd (omega arith)

pub way_ends : {A : Type 0} (pick : List A → List A) (count : ℕ) (next : ℕ → Drawn A) (start : List A) (s i : ℕ) (xs : List A) (now : ℕ) → pick [] ≡ [] → count ≤ i → IsOnTheWay pick count next start s i xs now → IsAtTheEnd pick count next start s xs now
way_ends pick count next start s i xs now nothing done way = none_left pick count next start s i xs now way.left nothing done way.in_all way.list way.state

-- ---- what holds of each

pub one_by_one-all : {A : Type 0} (P : A → Type 0) (next : ℕ → Drawn A) → ((s : ℕ) → P (next s).drawn) → (count s : ℕ) → All P (one_by_one count next s).drawn
unfolding one_by_one
one_by_one-all P next each zero s = All-nil P
one_by_one-all P next each (suc count) s = All-cons P (next s).drawn (one_by_one count next (next s).state).drawn (each s) (one_by_one-all P next each count (next s).state)

pub length-one_by_one : {A : Type 0} (next : ℕ → Drawn A) (count s : ℕ) → length (one_by_one count next s).drawn ≡ count
unfolding one_by_one
length-one_by_one next zero s = refl
length-one_by_one next (suc count) s = ap suc (length-one_by_one next count (next s).state)

pub draw-below : (n s : ℕ) → 0 < n → (draw n s).drawn < n
draw-below n s some = below n (turned s / 65536) some
  where
    below : (n x : ℕ) → 0 < n → x % n < n
    below n x some = omega arith

pub draw_numbers-tuple : (count n s : ℕ) → 0 < n → IsTuple n count (draw_numbers count n s).drawn
draw_numbers-tuple count n s some = record {
  long = length-one_by_one (draw n) count s;
  below = one_by_one-all (λ x. x < n) (draw n) (λ t. draw-below n t some) count s;
}
