-- Tuples place by place, and the places of an image.
use Rattle.std.proofs.Common.{◌≡◌, ℕ, ◌^◌, ◌<◌, List, [], ◌∷◌, length, All, arith, take, get_or, length-take, sym, refl, ap, ◌∙◌}
use Rattle.std.proofs.lemmas.List.{ext_get_or, get_or-take}
use Rattle.std.proofs.lemmas.List.FromFn.{length-map-range_with_len, get_or-map-range_with_len}
use Rattle.std.specs.Prelude.{slice_index}
use Rattle.pol_base.specs.Tuples.{IsTuple, cell_of}
use Rattle.pol_optable.specs.Operations.{Operation, value_at, column, image}
use Rattle.pol_optable.specs.Tables.{IsOpTable}
use Rattle.pol_base.proofs.CellLemmas.{cell_of-below}
use Rattle.std.proofs.lemmas.List.Elements.{All-from_get_or, All-nil, All-cons}

-- tuples of one length that agree at each place before i agree before i
pub same_front : (xs ys : List ℕ) (i : ℕ) → length xs ≡ length ys → ((j : ℕ) → j < i → slice_index xs j ≡ slice_index ys j) → take i xs ≡ take i ys
same_front xs ys i long same =
    ext_get_or 0 (take i xs) (take i ys) (simp length-take (rw long refl))
    (λ j h. let low : j < i = omega (arith, h, length-take i xs) in get_or-take i xs j 0 low ∙ same j low ∙ sym (get_or-take i ys j 0 low))

-- and the other way
pub front_at : (xs ys : List ℕ) (i j : ℕ) → take i xs ≡ take i ys → j < i → slice_index xs j ≡ slice_index ys j
front_at xs ys i j same low = sym (get_or-take i xs j 0 low) ∙ ap (λ zs. get_or zs j 0) same ∙ get_or-take i ys j 0 low

-- tuples of n values that agree at each place are one tuple
pub same_tuple : (xs ys : List ℕ) (n : ℕ) → length xs ≡ n → length ys ≡ n → ((j : ℕ) → j < n → slice_index xs j ≡ slice_index ys j) → xs ≡ ys
same_tuple xs ys n long long' same = ext_get_or 0 xs ys (cc) (λ j h. same j (omega arith))

-- a tuple's values are below the domain
pub value_below : (d n : ℕ) (t : List ℕ) (j : ℕ) → IsTuple d n t → j < n → slice_index t j < d
value_below d n t j is low = is.below j 0 (omega (arith, is.long))

pub length-image : (f : Operation) (n : ℕ) (ts : List (List ℕ)) → length (image f n ts) ≡ n
length-image f n ts = length-map-range_with_len (λ j. value_at f (column ts j)) 0 n

pub value-image : (f : Operation) (n : ℕ) (ts : List (List ℕ)) (j : ℕ) → j < n → slice_index (image f n ts) j ≡ value_at f (column ts j)
value-image f n ts j low = get_or-map-range_with_len (λ j. value_at f (column ts j)) 0 n j j 0 low (omega arith)

-- a full table's value at three values below the domain is below the domain
pub value_at_below : (f : Operation) (x y z : ℕ) → IsOpTable 3 f → x < f.domain → y < f.domain → z < f.domain → value_at f (x ∷ y ∷ z ∷ []) < f.domain
value_at_below f x y z is hx hy hz =
    let Below : ℕ → Type 0 = λ v. v < f.domain in
    let all : All Below (x ∷ y ∷ z ∷ []) = All-cons Below x (y ∷ z ∷ []) hx (All-cons Below y (z ∷ []) hy (All-cons Below z [] hz (All-nil Below))) in
    let low : cell_of f.domain (x ∷ y ∷ z ∷ []) < f.domain ^ 3 = cell_of-below f.domain (x ∷ y ∷ z ∷ []) all in
    is.is_operation.below (cell_of f.domain (x ∷ y ∷ z ∷ [])) 0 (rw (is.is_operation.all_cells, is.arity_is) low)

-- the image of three tuples is a tuple
pub image_tuple : (f : Operation) (n : ℕ) (r s t : List ℕ) → IsOpTable 3 f → IsTuple f.domain n r → IsTuple f.domain n s → IsTuple f.domain n t → IsTuple f.domain n (image f n (r ∷ s ∷ t ∷ []))
image_tuple f n r s t is hr hs ht = record {
  long = length-image f n (r ∷ s ∷ t ∷ []);
  below = All-from_get_or (λ v. v < f.domain) (image f n (r ∷ s ∷ t ∷ [])) 0 (λ j h.
      let low : j < n = omega (arith, h, length-image f n (r ∷ s ∷ t ∷ [])) in
      rw (value-image f n (r ∷ s ∷ t ∷ []) j low) (value_at_below f (slice_index r j) (slice_index s j) (slice_index t j) is
      (value_below f.domain n r j hr low) (value_below f.domain n s j hs low) (value_below f.domain n t j ht low)));
}
