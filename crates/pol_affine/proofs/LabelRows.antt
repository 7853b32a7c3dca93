-- The labels of the rows that an affine operation preserves are an affine set, and tell the rows.
use Rattle.std.proofs.Common.{◌≡◌, ℕ, ◌+◌, ◌-◌, ◌%◌, ◌<◌, List, [], ◌∷◌, length, get_or, map, All, Contains, sym, ap, ◌∙◌, subst, arith}
use Rattle.std.specs.List.{range_with_len}
use Rattle.std.proofs.lemmas.List.{ext_get_or, length-map, get_or-map, get_or_default}
use Rattle.std.proofs.lemmas.List.Elements.{All-map, All-contains, All-cons, All-nil}
use Rattle.std.proofs.lemmas.List.FromFn.{length-range_with_len, get_or-map-range_with_len}
use Rattle.pol_base.specs.Tuples.{IsTuple}
use Rattle.pol_base.proofs.MemberLemmas.{in_map}
use Rattle.pol_relation.specs.Relations.{RelationView, IsRelation}
use Rattle.pol_optable.specs.Operations.{Operation, value_at, image, column}
use Rattle.pol_optable.specs.Identities.{IsLabelling, IsAffineBy, affine_sum}
use Rattle.pol_identity.specs.LabelLaws.{same_label}
use Rattle.pol_modp.specs.Equations.{EquationView, MeetsEquation}
use Rattle.pol_modp.specs.Combinations.{labels_of}
use Rattle.pol_modp.specs.AffineSets.{mixed, IsAffineSet}
use Rattle.pol_affine.specs.RelationEquations.{IsPreservedBy, RowsMeetAlone}

pub length-labels : (labels values : List ℕ) → length (labels_of labels values) ≡ length values
length-labels labels values = length-map values (λ v. get_or labels v 0)

pub read-labels : (labels values : List ℕ) (i : ℕ) → i < length values → get_or (labels_of labels values) i 0 ≡ get_or labels (get_or values i 0) 0
read-labels labels values i inside = get_or-map (λ v. get_or labels v 0) values i 0 0 inside

-- the labels of a tuple are one
pub labels-tuple : (d n : ℕ) (labels values : List ℕ) → IsLabelling d labels → IsTuple d n values → IsTuple d n (labels_of labels values)
labels-tuple d n labels values is tuple = record {
  long = length-labels labels values ∙ tuple.long;
  below = All-map (λ v. v < d) (λ v. get_or labels v 0) values (λ k e inside. is.tuple.below (get_or values k e) 0 (omega (arith, is.tuple.long, tuple.below k e inside)));
}

-- and tell it
same_values : (d n : ℕ) (labels xs ys : List ℕ) → IsLabelling d labels → IsTuple d n xs → IsTuple d n ys → labels_of labels xs ≡ labels_of labels ys → xs ≡ ys
same_values d n labels xs ys is first second same = ext_get_or 0 xs ys (first.long ∙ sym second.long) (λ i inside.
    let within : i < length ys = omega (arith, first.long, second.long, inside) in
    same_label d labels (get_or xs i 0) (get_or ys i 0) is (first.below i 0 inside) (second.below i 0 within)
    (sym (read-labels labels xs i inside) ∙ (ap (λ l. get_or l i 0) same ∙ read-labels labels ys i within)))

-- a row with these labels
record IsLabelled (labels : List ℕ) (rows : List (List ℕ)) (x : List ℕ) : Type 0 where
  row : List ℕ
  listed : Contains rows row
  same : labels_of labels row ≡ x

row_of : (labels : List ℕ) (rows : List (List ℕ)) (x : List ℕ) → Contains (map (labels_of labels) rows) x → IsLabelled labels rows x
row_of labels rows x found =
    let k = found.0 in
    let inside : k < length rows = omega (arith, found.1, length-map rows (labels_of labels)) in
    record {
      row = get_or rows k [];
      listed = (k, inside, get_or_default rows k (get_or rows k []) [] inside);
      same = sym (get_or-map (labels_of labels) rows k [] x inside) ∙ found.2;
    }

same_sum : (d x y z x' y' z' : ℕ) → x ≡ x' → y ≡ y' → z ≡ z' → (x + (d - y) + z) % d ≡ affine_sum d x' y' z'
same_sum d x y z x' y' z' first second third = ap (λ u. (u + (d - y) + z) % d) first ∙ (ap (λ u. (x' + (d - u) + z) % d) second ∙ ap (λ u. (x' + (d - y') + u) % d) third)

module _ (f : Operation) (d n : ℕ) (labels a b c : List ℕ) where
  abbrev value : ℕ → ℕ
  value place = value_at f (column (a ∷ b ∷ c ∷ []) place)

  abbrev sum : ℕ → ℕ
  sum v = (get_or (labels_of labels a) v 0 + (d - get_or (labels_of labels b) v 0) + get_or (labels_of labels c) v 0) % d

  -- the labels of what the operation makes of three tuples are x - y + z of theirs
  mixed_image : f.domain ≡ d → IsAffineBy labels f → IsTuple d n a → IsTuple d n b → IsTuple d n c
      → labels_of labels (image f n (a ∷ b ∷ c ∷ [])) ≡ mixed d n (labels_of labels a) (labels_of labels b) (labels_of labels c)
  mixed_image same affine is_a is_b is_c =
      let range = range_with_len 0 n in
      let long = length-labels labels (map value range) ∙ (length-map range value ∙ sym (length-map range sum)) in
      ext_get_or 0 (labels_of labels (map value range)) (map sum range) long (λ i inside.
      let within : i < n = omega (arith, inside, length-labels labels (map value range), length-map range value, length-range_with_len 0 n) in
      let here : i < length (map value range) = omega (arith, within, length-map range value, length-range_with_len 0 n) in
      let in_a : i < length a = omega (arith, within, is_a.long) in
      let in_b : i < length b = omega (arith, within, is_b.long) in
      let in_c : i < length c = omega (arith, within, is_c.long) in
      let x = get_or a i 0 in
      let y = get_or b i 0 in
      let z = get_or c i 0 in
      let x_below : x < f.domain = omega (arith, same, is_a.below i 0 in_a) in
      let y_below : y < f.domain = omega (arith, same, is_b.below i 0 in_b) in
      let z_below : z < f.domain = omega (arith, same, is_c.below i 0 in_c) in
      let summed = affine.sums x y z x_below y_below z_below in
      read-labels labels (map value range) i here
      ∙ (ap (λ v. get_or labels v 0) (get_or-map-range_with_len value 0 n i i 0 within (omega arith))
      ∙ (summed
      ∙ (ap (λ e. affine_sum e (get_or labels x 0) (get_or labels y 0) (get_or labels z 0)) same
      ∙ (sym (same_sum d _ _ _ _ _ _ (read-labels labels a i in_a) (read-labels labels b i in_b) (read-labels labels c i in_c))
      ∙ sym (get_or-map-range_with_len sum 0 n i i 0 within (omega arith)))))))

module _ (labels : List ℕ) (r : RelationView) (is : IsRelation r) (labelling : IsLabelling r.domain labels) where
  row_tuple : (row : List ℕ) → Contains r.rows row → IsTuple r.domain r.arity row
  row_tuple row listed = All-contains (IsTuple r.domain r.arity) r.rows row is.tuples listed

  pub labels_are : All (IsTuple r.domain r.arity) (map (labels_of labels) r.rows)
  labels_are = All-map (IsTuple r.domain r.arity) (labels_of labels) r.rows (λ k e inside. labels-tuple r.domain r.arity labels (get_or r.rows k e) labelling (is.tuples k e inside))

  pub labels-affine : IsPreservedBy labels r → IsAffineSet r.domain r.arity (Contains (map (labels_of labels) r.rows))
  labels-affine preserved = record {
    tuples = λ x found. All-contains (IsTuple r.domain r.arity) (map (labels_of labels) r.rows) x labels_are found;
    kept = λ x y z in_x in_y in_z.
        let a = row_of labels r.rows x in_x in
        let b = row_of labels r.rows y in_y in
        let c = row_of labels r.rows z in_z in
        let f = preserved.operation in
        let listed : All (Contains r.rows) (a.row ∷ b.row ∷ c.row ∷ [])
        = All-cons (Contains r.rows) a.row (b.row ∷ c.row ∷ []) a.listed (All-cons (Contains r.rows) b.row (c.row ∷ []) b.listed (All-cons (Contains r.rows) c.row [] c.listed (All-nil (Contains r.rows)))) in
        let image_in = preserved.preserves (a.row ∷ b.row ∷ c.row ∷ []) (sym preserved.is_table.arity_is) listed in
        let mix = mixed_image f r.domain r.arity labels a.row b.row c.row preserved.same_domain preserved.by_labels (row_tuple a.row a.listed) (row_tuple b.row b.listed) (row_tuple c.row c.listed) in
        subst (Contains (map (labels_of labels) r.rows))
        (mix ∙ (ap (λ u. mixed r.domain r.arity u (labels_of labels b.row) (labels_of labels c.row)) a.same ∙ (ap (λ u. mixed r.domain r.arity x u (labels_of labels c.row)) b.same ∙ ap (λ u. mixed r.domain r.arity x y u) c.same)))
        (in_map (labels_of labels) r.rows (image f r.arity (a.row ∷ b.row ∷ c.row ∷ [])) image_in);
  }

  -- equations that the labels of the rows meet, and no others, describe the rows
  pub rows_alone : (equations : List EquationView) → All (λ x. All (MeetsEquation r.domain x) equations) (map (labels_of labels) r.rows)
      → ((x : List ℕ) → IsTuple r.domain r.arity x → All (MeetsEquation r.domain x) equations → Contains (map (labels_of labels) r.rows) x)
      → RowsMeetAlone labels r equations
  rows_alone equations meet only values tuple = (
    λ meets.
        let of = row_of labels r.rows (labels_of labels values) (only (labels_of labels values) (labels-tuple r.domain r.arity labels values labelling tuple) meets) in
        subst (Contains r.rows) (same_values r.domain r.arity labels of.row values labelling (row_tuple of.row of.listed) tuple of.same) of.listed,
    λ listed. All-contains (λ x. All (MeetsEquation r.domain x) equations) (map (labels_of labels) r.rows) (labels_of labels values) meet (in_map (labels_of labels) r.rows values listed),
  )
