-- Drawn constraints fit the language, and those that are kept are met.
use Rattle.std.proofs.Common.{◌≡◌, ℕ, ◌<◌, ◌≤◌, List, [], ◌∷◌, ◌++◌, length, All, Bool, true, false, cond, refl, ap, arith}
use Rattle.std.specs.Prelude.{nat_eq, nat_lt, ◌==◌, ◌&&◌, suc}
use Rattle.std.specs.List.{filter, list_all, list_any}
use Rattle.std.proofs.lemmas.Bool.{and_parts, cond-true, cond-false, cond_both, eqb-true, ltb-true}
use Rattle.std.proofs.lemmas.List.Elements.{All-nil, All-weaker, filter_passes}
use Rattle.pol_base.proofs.LookupLemmas.{is_among-decides}
use Rattle.pol_relation.specs.Relations.{LanguageView, relation_of, rows_of}
use Rattle.pol_relation.specs.Instances.{ConstraintView, FitsAt, Meets, read_at}
use Rattle.pol_gen.specs.Draws.{draw, draw_constraint, draw_constraints}
use Rattle.pol_gen.specs.Kinds.{language_of, variables_of, contradiction}
use Rattle.pol_gen.specs.Files.{appended, is_met, tries, unsolvable}
use Rattle.pol_gen.specs.declared.kinds.Kind.{Kind}
use Rattle.pol_gen.specs.declared.kinds.Kind.TheVariants.{Horn, TwoSat, Sums, Parity, Colours}
use Rattle.pol_gen.proofs.RowLemmas.{All-from_list_all}
use Rattle.pol_gen.proofs.DrawLemmas.{draw-below, draw_numbers-tuple, one_by_one-all}

pub draw_constraint-fits : (lang : LanguageView) (v s : ℕ) → 0 < length lang.relations → 0 < v → FitsAt lang v (draw_constraint lang v s).drawn
draw_constraint-fits lang v s some_relations some_variables =
    let relation = draw (length lang.relations) s in
    let scope = draw_numbers-tuple (relation_of lang relation.drawn).arity v relation.state some_variables in
    record { known = draw-below (length lang.relations) s some_relations; long = scope.long; below = scope.below }

pub draw_constraints-fit : (lang : LanguageView) (count v s : ℕ) → 0 < length lang.relations → 0 < v → All (FitsAt lang v) (draw_constraints count lang v s).drawn
draw_constraints-fit lang count v s some_relations some_variables =
    one_by_one-all (FitsAt lang v) (draw_constraint lang v) (λ t. draw_constraint-fits lang v t some_relations some_variables) count s

-- what is kept is met
pub kept-met : (lang : LanguageView) (hidden : List ℕ) (cs : List ConstraintView) → All (λ c. Meets lang c hidden) (filter (is_met lang hidden) cs)
kept-met lang hidden cs =
    All-weaker (λ c. is_met lang hidden c ≡ true) (λ c. Meets lang c hidden) (λ c passes. (is_among-decides (rows_of lang c.relation) (read_at hidden c.scope)).0 passes) (filter (is_met lang hidden) cs) (filter_passes (is_met lang hidden) cs)

-- a filter keeps the first
pub filter-kept : (test : ConstraintView → Bool) (c : ConstraintView) → test c ≡ true → (rest : List ConstraintView) → filter test (c ∷ rest) ≡ (c ∷ []) ++ filter test rest
filter-kept test c passes rest = ap (λ b. cond b (c ∷ filter test rest) (filter test rest)) passes

-- and drops it
pub filter-dropped : (test : ConstraintView → Bool) (c : ConstraintView) → test c ≡ false → (rest : List ConstraintView) → filter test (c ∷ rest) ≡ [] ++ filter test rest
filter-dropped test c fails rest = ap (λ b. cond b (c ∷ filter test rest) (filter test rest)) fails

pub sixty_tries : tries ≡ 60
unfolding tries
sixty_tries = refl

-- what is kept is no more than there was
pub length-kept : (test : ConstraintView → Bool) (cs : List ConstraintView) → length (filter test cs) ≤ length cs
length-kept test [] = omega arith
length-kept test (c ∷ cs) =
    let rest = length-kept test cs in
    cond_both (test c) (c ∷ filter test cs) (filter test cs) (λ kept. length kept ≤ suc (length cs)) (λ _. omega arith) (λ _. omega arith)

-- ---- the constraints that are appended

pub appended-contradiction : (kind : Kind) (i : ℕ) → list_any (λ k. i == k) unsolvable ≡ true → appended kind i ≡ contradiction kind
appended-contradiction kind i is = cond-true (list_any (λ k. i == k) unsolvable) (contradiction kind) [] is

pub appended-nothing : (kind : Kind) (i : ℕ) → list_any (λ k. i == k) unsolvable ≡ false → appended kind i ≡ []
appended-nothing kind i other = cond-false (list_any (λ k. i == k) unsolvable) (contradiction kind) [] other

-- the test that computes
abbrev fits_test : LanguageView → ℕ → ConstraintView → Bool
fits_test lang v c = nat_lt c.relation (length lang.relations) && (nat_eq (length c.scope) (relation_of lang c.relation).arity && list_all (λ x. nat_lt x v) c.scope)

fits-from_test : (lang : LanguageView) (v : ℕ) (c : ConstraintView) → fits_test lang v c ≡ true → FitsAt lang v c
fits-from_test lang v c passes =
    let parts = and_parts (nat_lt c.relation (length lang.relations)) (nat_eq (length c.scope) (relation_of lang c.relation).arity && list_all (λ x. nat_lt x v) c.scope) passes in
    let rest = and_parts (nat_eq (length c.scope) (relation_of lang c.relation).arity) (list_all (λ x. nat_lt x v) c.scope) parts.1 in
    record {
      known = ltb-true c.relation (length lang.relations) parts.0;
      long = eqb-true (length c.scope) (relation_of lang c.relation).arity rest.0;
      below = All-from_list_all (λ x. nat_lt x v) (λ x. x < v) (λ x below. ltb-true x v below) c.scope rest.1;
    }

contradiction-passes : (kind : Kind) → list_all (fits_test (language_of kind) (variables_of kind)) (contradiction kind) ≡ true
unfolding contradiction language_of
contradiction-passes Horn = refl
contradiction-passes TwoSat = refl
contradiction-passes Sums = refl
contradiction-passes Parity = refl
contradiction-passes Colours = refl

contradiction-fits : (kind : Kind) → All (FitsAt (language_of kind) (variables_of kind)) (contradiction kind)
contradiction-fits kind = All-from_list_all (fits_test (language_of kind) (variables_of kind)) (FitsAt (language_of kind) (variables_of kind)) (fits-from_test (language_of kind) (variables_of kind)) (contradiction kind) (contradiction-passes kind)

length-contradiction : (kind : Kind) → length (contradiction kind) ≤ 2
unfolding contradiction
length-contradiction Horn = omega arith
length-contradiction TwoSat = omega arith
length-contradiction Sums = omega arith
length-contradiction Parity = omega arith
length-contradiction Colours = omega arith

pub appended-fits : (kind : Kind) (i : ℕ) → All (FitsAt (language_of kind) (variables_of kind)) (appended kind i)
appended-fits kind i =
    let fit = FitsAt (language_of kind) (variables_of kind) in
    cond_both (list_any (λ k. i == k) unsolvable) (contradiction kind) [] (λ cs. All fit cs) (λ _. contradiction-fits kind) (λ _. All-nil fit)

pub length-appended : (kind : Kind) (i : ℕ) → length (appended kind i) ≤ 2
length-appended kind i = cond_both (list_any (λ k. i == k) unsolvable) (contradiction kind) [] (λ cs. length cs ≤ 2) (λ _. length-contradiction kind) (λ _. omega arith)
