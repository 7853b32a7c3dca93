-- Tables that were found, as operations on the domain of the language.
use Rattle.std.proofs.Common.{◌≡◌, ℕ, ◌*◌, ◌-◌, ◌^◌, ◌<◌, ◌≤◌, inl, inr, List, arith, ap, sym, ◌∙◌, subst, suc, get_or}
use Rattle.std.proofs.Math.Nat.{one-le-pow, pow-suc, pow-le-pow_left, mul-le-mul_left, mul-le-mul_right}
use Rattle.std.proofs.Math.Pow.{pow-lt}
use Rattle.std.proofs.lemmas.Bool.{cases_lt}
use Rattle.pol_relation.specs.Relations.{LanguageView, IsLanguage}
use Rattle.pol_optable.specs.Operations.{Operation, operation_of, IsPolymorphism}
use Rattle.pol_optable.specs.Identities.{IsSemilattice}
use Rattle.pol_optable.specs.Tables.{IsOpTable}
use Rattle.pol_optable.specs.SetFunctions.{SetFunctionView, IsSetFunction, IsSetPolymorphism}
use Rattle.pol_optable.specs.ClassLines.{IsTable, IsSetTable}
use Rattle.pol_setfn.specs.Folds.{IsFold}
use Rattle.pol_setfn.proofs.FoldLemmas.{fold_preserves}

-- the set function with these cells
abbrev set_function_of : ℕ → List ℕ → SetFunctionView
set_function_of d cells = record { domain = d; cells = cells }

-- a larger base has a larger power
power_less : (d e k : ℕ) → 1 ≤ d → d < e → d ^ suc k < e ^ suc k
power_less d e k some less =
    let one : 1 ≤ d ^ k = one-le-pow k d some in
    let up : d ^ k * suc d ≤ d ^ k * e = mul-le-mul_left (d ^ k) less in
    let more : d ^ k * e ≤ e ^ k * e = mul-le-mul_right e (pow-le-pow_left (omega (arith, less)) k) in
    rw (pow-suc d k, pow-suc e k) (omega (arith, one, up, more))

same_base : (d e k : ℕ) → 1 ≤ d → 1 ≤ e → d ^ suc k ≡ e ^ suc k → d ≡ e
same_base d e k some other same = elim (cases_lt d e) [
  | inl less ↦ absurd (omega (arith, power_less d e k some less, same))
  | inr not ↦ elim (cases_lt e d) [
    | inl less ↦ absurd (omega (arith, power_less e d k other less, same))
    | inr equal ↦ omega (arith, not, equal)
  ]
]

-- ---- operations

-- an operation on the domain of the language that satisfies the identities and preserves each relation
pub record IsServing (identities : Operation → Type 0) (lang : LanguageView) (f : Operation) : Type 0 where
  pub same_domain : f.domain ≡ lang.domain
  pub satisfies : identities f
  pub preserves : IsPolymorphism f lang

-- a table of the class is that of an operation on the domain of the language
pub served :
    (identities : Operation → Type 0) (k : ℕ) (lang : LanguageView) (f : Operation)
    → IsLanguage lang
    → IsOpTable (suc k) f
    → IsTable identities (suc k) lang f.cells
    → IsServing identities lang f
served identities k lang f is op table =
    let long : f.domain ^ suc k ≡ lang.domain ^ suc k =
    ap (λ n. f.domain ^ n) (sym op.arity_is) ∙ (sym op.is_operation.all_cells ∙ table.is_operation.all_cells) in
    let same : f.domain ≡ lang.domain = same_base f.domain lang.domain k op.domain_is.some is.domain_is.some long in
    let this : operation_of lang.domain (suc k) f.cells ≡ f =
    sym (ap (λ d. operation_of d f.arity f.cells) same ∙ ap (λ n. operation_of lang.domain n f.cells) op.arity_is) in
    record {
      same_domain = same;
      satisfies = subst identities this table.satisfies;
      preserves = subst (λ g. IsPolymorphism g lang) this table.preserves;
    }

-- ---- set functions

-- a set function on the domain of the language that preserves each relation
pub record IsSetServing (lang : LanguageView) (g : SetFunctionView) : Type 0 where
  pub same_domain : g.domain ≡ lang.domain
  pub preserves : IsSetPolymorphism g lang

same_count : (d e : ℕ) → 2 ^ d - 1 ≡ 2 ^ e - 1 → d ≡ e
same_count d e same = elim (cases_lt d e) [
  | inl less ↦ absurd (omega (arith, pow-lt less, one-le-pow d 2 (omega arith), same))
  | inr not ↦ elim (cases_lt e d) [
    | inl less ↦ absurd (omega (arith, pow-lt less, one-le-pow e 2 (omega arith), same))
    | inr equal ↦ omega (arith, not, equal)
  ]
]

-- a table of the class is that of a set function on the domain of the language
pub set_served : (lang : LanguageView) (g : SetFunctionView) → IsSetFunction g → IsSetTable lang g.cells → IsSetServing lang g
set_served lang g is table =
    let same : g.domain ≡ lang.domain = same_count g.domain lang.domain (sym is.all_cells ∙ table.is_set_function.all_cells) in
    let this : set_function_of lang.domain g.cells ≡ g = sym (ap (λ d. set_function_of d g.cells) same) in
    record { same_domain = same; preserves = subst (λ h. IsSetPolymorphism h lang) this table.preserves }

-- the fold of a semilattice operation serves where the operation does
pub fold_served :
    (lang : LanguageView) (f : Operation) (g : SetFunctionView)
    → IsLanguage lang
    → f.arity ≡ 2
    → IsServing IsSemilattice lang f
    → IsFold f g
    → IsSetServing lang g
fold_served lang f g is two serving fold = record {
  same_domain = fold.same_domain ∙ serving.same_domain;
  preserves = λ k none inside.
      (let r = (get_or lang.relations k none).relation in
      let over = is.relations_are k none inside in
      fold_preserves f r two (serving.preserves k none inside) over.is_relation.tuples g fold
      (serving.same_domain ∙ sym over.same_domain));
}
