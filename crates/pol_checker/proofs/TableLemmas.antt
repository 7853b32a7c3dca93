-- Tables of few cells, and what holds of each relation of a language and of each constraint of an instance.
use Rattle.std.proofs.Common.{◌≡◌, ◌⊎◌, ℕ, ◌+◌, ◌^◌, ◌<◌, ◌≤◌, Bool, true, false, IsTrue, List, length, All, refl, sym, subst, inl, inr, arith}
use Rattle.std.proofs.Math.Nat.{pow-le-pow_left, pow-le-pow_right}
use Rattle.std.proofs.lemmas.Bool.{cases_order}
use Rattle.std.proofs.lemmas.List.{get_or_default}
use Rattle.pol_base.specs.Tuples.{IsDomain}
use Rattle.pol_relation.specs.Relations.{RelationView, LanguageView, NamedRelation, no_named, relation_of}
use Rattle.pol_relation.specs.Instances.{InstanceView, ConstraintView, no_constraint, constraint_of}
use Rattle.pol_optable.specs.Operations.{Operation, IsOperation, IsPolymorphism, operation_of}
use Rattle.pol_optable.specs.SetFunctions.{SetFunctionView, IsSetFunction, IsSetPolymorphism}
use Rattle.pol_optable.specs.ClassLines.{IsTable, IsSetTable}
use Rattle.pol_optable.specs.Tables.{IsOpTable}
use Rattle.pol_checker.specs.Verdicts.{IsFirstWithout}

-- an operation of at most four arguments has a table
pub small_table : (K d : ℕ) (cells : List ℕ) → K ≤ 4 → IsDomain d → IsOperation (operation_of d K cells) → IsOpTable K (operation_of d K cells)
small_table K d cells few domain is =
    let wide : d ^ K ≤ 5 ^ K = pow-le-pow_left domain.few K in
    let long : 5 ^ K ≤ 5 ^ 4 = pow-le-pow_right (omega arith) few in
    record {
      arity_is = refl;
      domain_is = domain;
      is_operation = is;
      few_cells = omega (arith, wide, long);
      few_arguments = omega (arith, few);
    }

-- what holds of the relation with each number holds of all
pub each_relation : (P : RelationView → Type 0) (lang : LanguageView) → ((r : ℕ) → r < length lang.relations → P (relation_of lang r)) → All (λ (named : NamedRelation). P named.relation) lang.relations
each_relation P lang holds = λ i none inside.
    subst (λ (named : NamedRelation). P named.relation) (get_or_default lang.relations i no_named none inside) (holds i inside)

-- what holds of the constraint with each number holds of all
pub each_constraint : (P : ConstraintView → Type 0) (inst : InstanceView) → ((c : ℕ) → c < length inst.constraints → P (constraint_of inst c)) → All P inst.constraints
each_constraint P inst holds = λ i none inside. subst P (get_or_default inst.constraints i no_constraint none inside) (holds i inside)

-- what holds at each number so far, and at this one
pub one_more : (P : ℕ → Type 0) (count : ℕ) → ((r : ℕ) → r < count → P r) → P count → (r : ℕ) → r < count + 1 → P r
one_more P count before here r inside = by_order (cases_order r count)
  where
    by_order : (r ≡ count) ⊎ ((r < count) ⊎ (count < r)) → P r
    by_order (inl same) = subst P (sym same) here
    by_order (inr (inl less)) = before r less
    by_order (inr (inr more)) = absurd (omega (arith, inside, more))

refuted : (b : Bool) → b ≡ false → IsTrue b → ⊥
refuted true e is = cc
refuted false e is = cc

-- a test that fails tells the first number at which the property fails
pub first_failing : (P : ℕ → Type 0) (count i : ℕ) (test : Bool) → i < count → ((r : ℕ) → r < i → P r) → test ≡ false → (P i → IsTrue test) → IsFirstWithout P count i
first_failing P count i test inside before failed tells = record {
  known = inside;
  before = before;
  here = λ holds. refuted test failed (tells holds);
}

-- the operation of the cells, which satisfies the identities and preserves each relation
pub table_of : (identities : Operation → Type 0) (K : ℕ) (lang : LanguageView) (cells : List ℕ) (f : Operation) → f ≡ operation_of lang.domain K cells → IsOperation f → identities f → IsPolymorphism f lang → IsTable identities K lang cells
table_of identities K lang cells f same is satisfies keeps = record {
  is_operation = subst IsOperation same is;
  satisfies = subst identities same satisfies;
  preserves = subst (λ (h : Operation). IsPolymorphism h lang) same keeps;
}

-- the set function of the cells, which preserves each relation
pub set_table_of : (lang : LanguageView) (cells : List ℕ) (g : SetFunctionView) → g ≡ record { domain = lang.domain; cells = cells } → IsSetFunction g → IsSetPolymorphism g lang → IsSetTable lang cells
set_table_of lang cells g same is keeps = record {
  is_set_function = subst IsSetFunction same is;
  preserves = subst (λ (h : SetFunctionView). IsSetPolymorphism h lang) same keeps;
}
