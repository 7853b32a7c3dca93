-- The sums over the relations of a language, behind one more relation or one more row.
use Rattle.std.proofs.Common.{◌≡◌, ℕ, ◌+◌, ◌^◌, List, [], ◌∷◌, ◌++◌, length, arith, ◌-◌, refl, ap, get_or, suc, All, ◌≤◌, ◌<◌, Contains, ◌*◌, ◌∙◌}
use Rattle.std.proofs.lemmas.List.Elements.{All-nil, All-cons, All-head, All-tail}
use Rattle.std.proofs.Math.Nat.{pow-zero, pow-suc, pow-le-pow_left, pow-le-pow_right}
use Rattle.pol_relation.specs.Weights.{weight_of, subset_weight_of}
use Rattle.pol_relation.proofs.RelationLemmas.{AreLong-tuples, length-with_row_new, IsRelationOver-relation_of}
use Rattle.pol_relation.specs.Relations.{NamedRelation, with_row_in, with_row_at_last, with_row, LanguageView, IsLanguage, last_of, with_last_row, no_named}
use Rattle.pol_base.specs.Tuples.{IsTuple}

-- ---- the sums

pub weight_of-push : (k : ℕ) (relations : List NamedRelation) (e : NamedRelation) → weight_of k (relations ++ e ∷ []) ≡ weight_of k relations + length e.relation.rows ^ k
weight_of-push k [] e = omega arith
weight_of-push k (f ∷ rest) e = omega (arith, weight_of-push k rest e)

pub subset_weight_of-push : (d : ℕ) (relations : List NamedRelation) (e : NamedRelation) → subset_weight_of d (relations ++ e ∷ []) ≡ subset_weight_of d relations + (2 ^ d - 1) ^ e.relation.arity
subset_weight_of-push d [] e = omega arith
subset_weight_of-push d (f ∷ rest) e = omega (arith, subset_weight_of-push d rest e)

pub subset_weight_of-with_row_at_last : (d : ℕ) (t : List ℕ) (relations : List NamedRelation) → subset_weight_of d (with_row_at_last t relations) ≡ subset_weight_of d relations
subset_weight_of-with_row_at_last d t [] = refl
subset_weight_of-with_row_at_last d t (e ∷ []) = refl
subset_weight_of-with_row_at_last d t (e ∷ f ∷ rest) = ap (λ n. (2 ^ d - 1) ^ e.relation.arity + n) (subset_weight_of-with_row_at_last d t (f ∷ rest))

-- ---- languages

-- the relation that was added last, with its name
abbrev pub last_named : List NamedRelation → NamedRelation
last_named relations = get_or relations (length relations - 1) no_named

pub last_place : (n : ℕ) → suc n - 1 ≡ n
last_place n = omega arith

pub All-with_row_at_last : (P : NamedRelation → Type 0) (t : List ℕ) (e : NamedRelation) (rest : List NamedRelation) → All P (e ∷ rest) → (let last = get_or (e ∷ rest) (length rest) no_named in P (record { name = last.name; relation = with_row_in last.relation t })) → All P (with_row_at_last t (e ∷ rest))
All-with_row_at_last P t e [] all last = All-cons P (record { name = e.name; relation = with_row_in e.relation t }) [] last (All-nil P)
All-with_row_at_last P t e (f ∷ rest) all last = All-cons P e (with_row_at_last t (f ∷ rest)) (All-head P e (f ∷ rest) all) (All-with_row_at_last P t f rest (All-tail P e (f ∷ rest) all) last)

pub few-with_row : (t : List ℕ) (relations : List NamedRelation) → All (λ e. length e.relation.rows ≤ 128) relations → length (with_row t (last_named relations).relation.rows) ≤ 128 → All (λ e. length e.relation.rows ≤ 128) (with_row_at_last t relations)
few-with_row t [] all few = all
few-with_row t (e ∷ es) all few = All-with_row_at_last (λ f. length f.relation.rows ≤ 128) t e es all (rw (last_place (length es)) at few)

pub length-last_rows : (lang : LanguageView) (t : List ℕ) → IsLanguage lang → 0 < length lang.relations → IsTuple (last_of lang).domain (last_of lang).arity t → (Contains (last_of lang).rows t → ⊥) → length (with_row t (last_of lang).rows) ≡ length (last_of lang).rows + 1
length-last_rows lang t is some tuple new =
    let over = IsRelationOver-relation_of lang (length lang.relations - 1) is (omega arith) in
    length-with_row_new (last_of lang).arity t (last_of lang).rows tuple.long (AreLong-tuples (last_of lang).domain (last_of lang).arity (last_of lang).rows over.is_relation.tuples) new

-- ---- sums

cube : (n : ℕ) → n ^ 3 ≡ n * n * n
cube n =
    let unit : 1 * n ≡ n = grind arith in
    let line : n ^ 1 ≡ n = pow-suc n 0 ∙ (ap (λ m. m * n) (pow-zero n) ∙ unit) in
    let square : n ^ 2 ≡ n * n = pow-suc n 1 ∙ ap (λ m. m * n) line in
    pow-suc n 2 ∙ ap (λ m. m * n) square

cubes : (n : ℕ) → (n + 1) * (n + 1) * (n + 1) ≡ n * n * n + 3 * n * (n + 1) + 1
cubes n = grind arith

cube_more : (n : ℕ) → (n + 1) ^ 3 ≡ n ^ 3 + 3 * n * (n + 1) + 1
cube_more n = let low = cube n in let high = cube (n + 1) in let between = cubes n in cc

weight_of-longer : (t : List ℕ) (e : NamedRelation) (rest : List NamedRelation) → (let last = get_or (e ∷ rest) (length rest) no_named in length (with_row t last.relation.rows) ≡ length last.relation.rows + 1) → (let last = get_or (e ∷ rest) (length rest) no_named in weight_of 3 (with_row_at_last t (e ∷ rest)) ≡ weight_of 3 (e ∷ rest) + 3 * length last.relation.rows * (length last.relation.rows + 1) + 1)
weight_of-longer t e [] longer = let cube = ap (λ n. n ^ 3) longer ∙ cube_more (length e.relation.rows) in omega (arith, cube)
weight_of-longer t e (f ∷ rest) longer = omega (arith, weight_of-longer t f rest longer)

relations-longer : (t : List ℕ) (relations : List NamedRelation) → 0 < length relations → (let last = get_or relations (length relations - 1) no_named in length (with_row t last.relation.rows) ≡ length last.relation.rows + 1) → (let last = get_or relations (length relations - 1) no_named in weight_of 3 (with_row_at_last t relations) ≡ weight_of 3 relations + 3 * length last.relation.rows * (length last.relation.rows + 1) + 1)
relations-longer t [] some longer = absurd (omega arith)
relations-longer t (e ∷ rest) some longer =
    let last = last_place (length rest) in
    rw last (weight_of-longer t e rest (rw last at longer))

-- with one row more the sum of cubes grows by the next difference of cubes
pub weight_of-with_last_row : (lang : LanguageView) (t : List ℕ) → IsLanguage lang → 0 < length lang.relations → IsTuple (last_of lang).domain (last_of lang).arity t → (Contains (last_of lang).rows t → ⊥) → weight_of 3 (with_last_row lang t).relations ≡ weight_of 3 lang.relations + 3 * length (last_of lang).rows * (length (last_of lang).rows + 1) + 1
weight_of-with_last_row lang t is some tuple new = relations-longer t lang.relations some (length-last_rows lang t is some tuple new)

-- six nonempty sets of five values have 31 ^ 6 vectors
pub few_vectors : (d n : ℕ) → d ≤ 5 → n ≤ 6 → (2 ^ d - 1) ^ n ≤ 887503681
few_vectors d n few short =
    let power : 2 ^ d ≤ 2 ^ 5 = pow-le-pow_right {n = 2} (omega arith) {i = d} {j = 5} few in
    let masks : 2 ^ d - 1 ≤ 31 = omega arith in
    let base : (2 ^ d - 1) ^ n ≤ 31 ^ n = pow-le-pow_left {n = 2 ^ d - 1} {m = 31} masks n in
    let exponent : 31 ^ n ≤ 31 ^ 6 = pow-le-pow_right {n = 31} (omega arith) {i = n} {j = 6} short in
    omega arith
