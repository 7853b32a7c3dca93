-- The pairs of a nogood as its code keeps them: the first places of a list of variables and of a list of values.
use Rattle.std.proofs.Common.{◌≡◌, ℕ, ◌+◌, ◌<◌, ◌≤◌, List, [], ◌∷◌, ◌++◌, length, get_or, take, set, Some, slice_get, refl, ap, sym, ◌∙◌, arith}
use Rattle.std.proofs.lemmas.List.{length-take-le, get_or-take, take_more_set}
use Rattle.std.proofs.lemmas.Option.{slice_get-get_or}
use Rattle.pol_nogood.specs.Nogoods.{Pair}
use Rattle.pol_nogood.specs.Logs.{reading}
use Rattle.pol_nogood.proofs.LogCases.{length-reading, get_or-reading}

pub reading_push : (scope row : List ℕ) (x a : ℕ) → length row ≡ length scope → reading (scope ++ x ∷ []) (row ++ a ∷ []) ≡ reading scope row ++ record { variable = x; value = a } ∷ []
reading_push [] [] x a long = refl
reading_push [] (b ∷ row) x a long = absurd (omega arith)
reading_push (y ∷ scope) [] x a long = absurd (omega arith)
reading_push (y ∷ scope) (b ∷ row) x a long = ap (λ (rest : List Pair). record { variable = y; value = b } ∷ rest) (reading_push scope row x a (omega arith))

module _ (variables values : List ℕ) (len : ℕ) where
  abbrev pub packed : List Pair
  packed = reading (take len variables) (take len values)

  same_length : len ≤ length variables → len ≤ length values → length (take len values) ≡ length (take len variables)
  same_length inside within = length-take-le len values within ∙ sym (length-take-le len variables inside)

  length-packed : len ≤ length variables → len ≤ length values → length packed ≡ len
  length-packed inside within = length-reading (take len variables) (take len values) (same_length inside within) ∙ length-take-le len variables inside

  -- the list that a contract sees is as long
  pub length_seen : (pairs : List Pair) → packed ≡ pairs → len ≤ length variables → len ≤ length values → length pairs ≡ len
  length_seen pairs seen inside within = sym (ap (length {A = Pair}) seen) ∙ length-packed inside within

  pub packed_at : (i : ℕ) → i < len → len ≤ length variables → len ≤ length values → slice_get packed i ≡ Some (record { variable = get_or variables i 0; value = get_or values i 0 })
  packed_at i known inside within =
      let d : Pair = record { variable = 0; value = 0 } in
      let there : i < length packed = omega (arith, length-packed inside within) in
      let read = get_or-reading (take len variables) (take len values) i d (omega (arith, length-take-le len variables inside)) (omega (arith, length-take-le len values within)) in
      let x = get_or-take len variables i 0 known in
      let a = get_or-take len values i 0 known in
      slice_get-get_or packed i d there ∙ (ap (λ (p : Pair). Some p) read ∙ λ j. Some (record { variable = x j; value = a j }))

  pub packed_push : (x a : ℕ) → len < length variables → len < length values → reading (take (len + 1) (set variables len x)) (take (len + 1) (set values len a)) ≡ packed ++ record { variable = x; value = a } ∷ []
  packed_push x a inside within =
      ap (λ some. reading some (take (len + 1) (set values len a))) (take_more_set variables len x inside)
      ∙ (ap (reading (take len variables ++ x ∷ [])) (take_more_set values len a within)
      ∙ reading_push (take len variables) (take len values) x a (same_length (omega arith) (omega arith)))
