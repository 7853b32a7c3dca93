-- The hidden values are a solution, and the contradictions leave none.
use Rattle.std.proofs.Common.{◌≡◌, ℕ, ◌<◌, ◌%◌, List, [], ◌∷◌, ◌++◌, All, Contains, Bool, true, not, refl, ap, sym, ◌∙◌, arith}
use Rattle.std.specs.Prelude.{nat_le, ◌==◌, slice_index, slice_index_or}
use Rattle.std.specs.List.{filter, list_all, sum}
use Rattle.std.proofs.lemmas.Bool.{eq-eqb, eqb-true, leb-true, true≢false}
use Rattle.std.proofs.lemmas.List.Elements.{All-nil, All-cons, All-append, All-contains, All-tail}
use Rattle.std.proofs.lemmas.List.Sums.{AllPass-from_list_all}
use Rattle.pol_lang.specs.Files.{no_instance}
use Rattle.pol_relation.specs.Relations.{rows_of}
use Rattle.pol_relation.specs.Instances.{no_constraint, ConstraintView, IsSolution, HasNoSolution, Meets}
use Rattle.pol_gen.specs.Kinds.{kind_of, language_of, variables_of, contradiction}
use Rattle.pol_gen.specs.Files.{appended, draw_hidden, draw_instance, draw_over, draw_planted, hidden_of, is_met, made_file, made_instance, state_before, tries, HaveTheirHiddenSolutions, HaveNoSolution}
use Rattle.pol_gen.specs.declared.kinds.Kind.{Kind}
use Rattle.pol_gen.specs.declared.kinds.Kind.TheVariants.{Horn, TwoSat, Sums, Parity, Colours}
use Rattle.pol_gen.proofs.ConstraintLemmas.{kept-met}
use Rattle.pol_gen.proofs.DrawLemmas.{draw_numbers-tuple}
use Rattle.pol_gen.proofs.NameLemmas.{length-variable_names}

-- ---- solutions

some_values : (kind : Kind) → 0 < (language_of kind).domain
unfolding language_of
some_values Horn = omega arith
some_values TwoSat = omega arith
some_values Sums = omega arith
some_values Parity = omega arith
some_values Colours = omega arith

planted_solution : (kind : Kind) (i s : ℕ) → appended kind i ≡ [] → IsSolution (language_of kind) (draw_planted kind i s).drawn (draw_hidden kind s).drawn
planted_solution kind i s none =
    let lang = language_of kind in
    let hidden = draw_hidden kind s in
    let tried : List ConstraintView = (draw_over kind tries hidden.state).drawn in
    let met : List ConstraintView = filter (is_met lang hidden.drawn) tried in
    let are_met : ConstraintView → Type 0 = λ c. Meets lang c hidden.drawn in
    record {
      assigns = rw (length-variable_names (variables_of kind)) (draw_numbers-tuple (variables_of kind) lang.domain s (some_values kind));
      meets = All-append are_met met (appended kind i) (kept-met lang hidden.drawn tried) (rw none (All-nil are_met));
    }

solved_0 : (number : ℕ) → IsSolution (language_of (kind_of number)) (made_instance number 0) (hidden_of number 0)
unfolding made_instance draw_instance hidden_of
solved_0 number = planted_solution (kind_of number) 0 (state_before number 0) refl

solved_2 : (number : ℕ) → IsSolution (language_of (kind_of number)) (made_instance number 2) (hidden_of number 2)
unfolding made_instance draw_instance hidden_of
solved_2 number = planted_solution (kind_of number) 2 (state_before number 2) refl

solved_4 : (number : ℕ) → IsSolution (language_of (kind_of number)) (made_instance number 4) (hidden_of number 4)
unfolding made_instance draw_instance hidden_of
solved_4 number = planted_solution (kind_of number) 4 (state_before number 4) refl

pub have_their_solutions : (number : ℕ) → HaveTheirHiddenSolutions number (made_file number)
have_their_solutions number =
    let is_solved : ℕ → Type 0 = λ i. IsSolution (language_of (kind_of number)) (slice_index_or (made_file number).instances i no_instance) (hidden_of number i) in
    All-cons is_solved 0 (2 ∷ 4 ∷ []) (solved_0 number) (All-cons is_solved 2 (4 ∷ []) (solved_2 number) (All-cons is_solved 4 [] (solved_4 number) (All-nil is_solved)))

-- ---- no solutions

-- a row passes what all rows pass
row_passes : (test : List ℕ → Bool) (rows : List (List ℕ)) (t : List ℕ) → list_all test rows ≡ true → Contains rows t → test t ≡ true
row_passes test rows t all inside = All-contains (λ u. test u ≡ true) rows t (AllPass-from_list_all test rows all) inside

-- no assignment meets the contradiction
contradicted : (kind : Kind) (a : List ℕ) → All (λ c. Meets (language_of kind) c a) (contradiction kind) → ⊥
unfolding contradiction language_of
contradicted Horn a met =
    let x = slice_index a 0 in
    let one = eqb-true (sum (x ∷ [])) 1 (row_passes (λ t. sum t == 1) (rows_of (language_of Horn) 2) (x ∷ []) refl (met 0 no_constraint (omega arith))) in
    let zero = eqb-true (sum (x ∷ [])) 0 (row_passes (λ t. sum t == 0) (rows_of (language_of Horn) 1) (x ∷ []) refl (met 1 no_constraint (omega arith))) in
    omega arith
contradicted TwoSat a met =
    let x = slice_index a 0 in
    let some = leb-true 1 (sum (x ∷ x ∷ [])) (row_passes (λ t. nat_le 1 (sum t)) (rows_of (language_of TwoSat) 0) (x ∷ x ∷ []) refl (met 0 no_constraint (omega arith))) in
    let few = leb-true (sum (x ∷ x ∷ [])) 1 (row_passes (λ t. nat_le (sum t) 1) (rows_of (language_of TwoSat) 1) (x ∷ x ∷ []) refl (met 1 no_constraint (omega arith))) in
    omega arith
contradicted Sums a met =
    let t = slice_index a 0 ∷ slice_index a 1 ∷ slice_index a 2 ∷ [] in
    let zero = eqb-true (sum t % 3) 0 (row_passes (λ u. sum u % 3 == 0) (rows_of (language_of Sums) 0) t refl (met 0 no_constraint (omega arith))) in
    let one = eqb-true (sum t % 3) 1 (row_passes (λ u. sum u % 3 == 1) (rows_of (language_of Sums) 1) t refl (met 1 no_constraint (omega arith))) in
    omega arith
contradicted Parity a met =
    let x = slice_index a 0 in
    let few = leb-true (sum (x ∷ x ∷ x ∷ [])) 2 (row_passes (λ t. nat_le (sum t) 2) (rows_of (language_of Parity) 0) (x ∷ x ∷ x ∷ []) refl (met 0 no_constraint (omega arith))) in
    let two = eqb-true (sum (x ∷ [])) 2 (row_passes (λ t. sum t == 2) (rows_of (language_of Parity) 2) (x ∷ []) refl (met 1 no_constraint (omega arith))) in
    omega arith
contradicted Colours a met =
    let x = slice_index a 0 in
    let unequal : not (x == x) ≡ true = row_passes (λ t. not (slice_index t 0 == slice_index t 1)) (rows_of (language_of Colours) 0) (x ∷ x ∷ []) refl (met 0 no_constraint (omega arith)) in
    let same : (x == x) ≡ true = eq-eqb x x refl in
    true≢false (sym unequal ∙ ap not same)

-- what holds of each in two lists holds of each in the second
All-right : {X : Type 0} (P : X → Type 0) (xs ys : List X) → All P (xs ++ ys) → All P ys
All-right P [] ys all = all
All-right P (x ∷ xs) ys all = All-right P xs ys (All-tail P x (xs ++ ys) all)

planted_unsolvable : (kind : Kind) (i s : ℕ) → appended kind i ≡ contradiction kind → HasNoSolution (language_of kind) (draw_planted kind i s).drawn
planted_unsolvable kind i s all a solution =
    let lang = language_of kind in
    let hidden = draw_hidden kind s in
    let met : List ConstraintView = filter (is_met lang hidden.drawn) (draw_over kind tries hidden.state).drawn in
    let are_met : ConstraintView → Type 0 = λ c. Meets lang c a in
    contradicted kind a (rw all at (All-right are_met met (appended kind i) solution.meets))

unsolvable_1 : (number : ℕ) → HasNoSolution (language_of (kind_of number)) (made_instance number 1)
unfolding made_instance draw_instance
unsolvable_1 number = planted_unsolvable (kind_of number) 1 (state_before number 1) refl

unsolvable_3 : (number : ℕ) → HasNoSolution (language_of (kind_of number)) (made_instance number 3)
unfolding made_instance draw_instance
unsolvable_3 number = planted_unsolvable (kind_of number) 3 (state_before number 3) refl

unsolvable_5 : (number : ℕ) → HasNoSolution (language_of (kind_of number)) (made_instance number 5)
unfolding made_instance draw_instance
unsolvable_5 number = planted_unsolvable (kind_of number) 5 (state_before number 5) refl

pub have_no_solution : (number : ℕ) → HaveNoSolution (made_file number)
have_no_solution number =
    let has_none : ℕ → Type 0 = λ i. HasNoSolution (language_of (kind_of number)) (slice_index_or (made_file number).instances i no_instance) in
    All-cons has_none 1 (3 ∷ 5 ∷ []) (unsolvable_1 number) (All-cons has_none 3 (5 ∷ []) (unsolvable_3 number) (All-cons has_none 5 [] (unsolvable_5 number) (All-nil has_none)))
