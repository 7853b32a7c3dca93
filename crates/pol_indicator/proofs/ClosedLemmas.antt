-- The tables that satisfy an identity and preserve a language: what follows of the constraints that are added, and the least.
use Rattle.std.proofs.Common.{◌≡◌, ℕ, ◌≤◌, ◌^◌, ◌⊎◌, inl, inr, List, length, get_or, arith, sym, refl, All, subst, Bool, Option, Some, None, option_map, Result, Ok, Err}
use Rattle.std.specs.Prelude.{Contains, ◌↔◌, IsTrue, IfSome, IfNone, IfOk}
use Rattle.std.proofs.lemmas.List.Elements.{All-contains}
use Rattle.pol_base.specs.Tuples.{IsDomain, IsTuple}
use Rattle.pol_base.specs.Masks.{AreMasks}
use Rattle.pol_base.specs.Least.{IsLeast, AnswersLeast}
use Rattle.pol_relation.specs.Relations.{LanguageView, IsLanguage, no_named}
use Rattle.pol_relation.specs.Instances.{ConstraintView, FitsAt, Meets}
use Rattle.pol_optable.specs.Operations.{Operation, IsOperation, IsPolymorphism, operation_of}
use Rattle.pol_optable.specs.Tables.{IsOpTable}
use Rattle.pol_optable.specs.ClassLines.{IsTable}
use Rattle.pol_csp.specs.Narrowing.{MeetsAll}
use Rattle.pol_csp.specs.Searching.{FollowFrom}
use Rattle.pol_csp.specs.Variables.{IsFoundTied}
use Rattle.pol_csp.specs.Problems.{ProblemView}
use Rattle.pol_identity.specs.declared.identity.CellRule.{CellRule}
use Rattle.pol_identity.specs.Rules.{ObeysAll}
use Rattle.pol_indicator.specs.Indicators.{IsListed}
use Rattle.pol_indicator.specs.Ruled.{IsRuledProblem}
use Rattle.pol_indicator.specs.Closing.{AddsListed}
use Rattle.pol_indicator.proofs.ExactLemmas.{scope_fits, meets_image, within, tied}

-- constraints of lists of rows follow from what preserves the language
pub followed : (lang : LanguageView) (K n : ℕ) (W : List ℕ → Type 0) (old new : List ConstraintView) → IsLanguage lang → n ≡ lang.domain ^ K
    → ((cells : List ℕ) → W cells → IsPolymorphism (operation_of lang.domain K cells) lang)
    → FollowFrom W lang n old → AddsListed lang K old new → FollowFrom W lang n new
followed lang K n W old new is all keeps follow added = record { fits = fits; met = met }
  where
    fits : All (FitsAt lang n) new
    fits i none h = by (added i none h)
      where
        by : Contains old (get_or new i none) ⊎ IsListed lang K (length lang.relations) (get_or new i none) → FitsAt lang n (get_or new i none)
        by (inl here) = All-contains (FitsAt lang n) old (get_or new i none) follow.fits here
        by (inr listed) =
            let c = get_or new i none in
            subst (FitsAt lang n) (sym listed.is) (scope_fits lang is K n c.relation listed.rows listed.known listed.long all listed.members)

    met : (cells : List ℕ) → W cells → MeetsAll lang new cells
    met cells wanted i none h = by (added i none h)
      where
        by : Contains old (get_or new i none) ⊎ IsListed lang K (length lang.relations) (get_or new i none) → Meets lang (get_or new i none) cells
        by (inl here) = All-contains (λ c. Meets lang c cells) old (get_or new i none) (follow.met cells wanted) here
        by (inr listed) =
            let c = get_or new i none in
            let kept = keeps cells wanted c.relation no_named listed.known listed.rows listed.long listed.members in
            subst (λ e. Meets lang e cells) (sym listed.is) ((meets_image lang K c.relation cells listed.rows).1 kept)

-- a table that satisfies the identity is wanted exactly where it preserves the language
pub wanted_where_kept : (sat : Operation → Type 0) (K : ℕ) (lang : LanguageView) (cells : List ℕ) (f : Operation) (kept : Bool)
    → f ≡ operation_of lang.domain K cells → IsOperation f → sat f → IsTrue kept ↔ IsPolymorphism f lang
    → IsTrue kept ↔ IsTable sat K lang cells
wanted_where_kept sat K lang cells f kept same is holds exact =
    let S : Operation → Type 0 = sat in (
      λ held. record { is_operation = subst IsOperation same is; satisfies = subst S same holds; preserves = subst (λ e. IsPolymorphism e lang) same (exact.0 held) },
      λ table. exact.1 (subst (λ e. IsPolymorphism e lang) (sym same) table.preserves),
    )

module _ (lang : LanguageView) (is_domain : IsDomain lang.domain) (K : ℕ) (few : K ≤ 16) (few_cells : lang.domain ^ K ≤ 4096)
    (sat : Operation → Type 0) (rule : ℕ → CellRule) (p : ProblemView)
    (obeys : (cells : List ℕ) → IsOpTable K (operation_of lang.domain K cells) → sat (operation_of lang.domain K cells) → ObeysAll cells rule)
    (ruled : IsRuledProblem lang.domain K rule p) (masks : AreMasks lang.domain p.masks) where
  pub op_table : (cells : List ℕ) → IsOperation (operation_of lang.domain K cells) → IsOpTable K (operation_of lang.domain K cells)
  op_table cells is = record { arity_is = refl; domain_is = is_domain; is_operation = is; few_cells = few_cells; few_arguments = omega (arith, few) }

  -- a wanted table is within the masks and tied
  found_tied : (cells : List ℕ) → IsTable sat K lang cells → IsFoundTied (IsTable sat K lang) p.masks p.ties cells
  found_tied cells table =
      let tuple : IsTuple lang.domain (lang.domain ^ K) cells = record { long = table.is_operation.all_cells; below = table.is_operation.below } in
      let obeyed = obeys cells (op_table cells table.is_operation) table.satisfies in
      record {
        within = within lang p K rule masks ruled.all_cells ruled.ruled cells tuple obeyed;
        tied = tied lang p K rule masks ruled.all_cells ruled.ruled cells tuple obeyed;
        wanted = table;
      }

  pub none_wanted : ((cells : List ℕ) → ¬ IsFoundTied (IsTable sat K lang) p.masks p.ties cells) → (cells : List ℕ) → ¬ IsTable sat K lang cells
  none_wanted none cells table = none cells (found_tied cells table)

  least_wanted : (cells : List ℕ) → IsLeast (IsFoundTied (IsTable sat K lang) p.masks p.ties) cells → IsLeast (IsTable sat K lang) cells
  least_wanted cells least = record { holds = least.holds.wanted; first = λ ys long table before. least.first ys long (found_tied ys table) before }

  -- the table of the least list
  least_made : (cells : List ℕ) (made : Option Operation) → IsLeast (IsFoundTied (IsTable sat K lang) p.masks p.ties) cells
      → IfSome made (λ t. t ≡ operation_of lang.domain K cells)
      → IfNone made (¬ IsOpTable K (operation_of lang.domain K cells))
      → AnswersLeast (IsTable sat K lang) (option_map (λ t. t.cells) made)
  least_made cells None least same none = absurd (none (op_table cells (least_wanted cells least).holds.is_operation))
  least_made cells (Some t) least same none =
      subst (λ (f : Operation). IsLeast (IsTable sat K lang) f.cells) (sym same) (least_wanted cells least)

  -- so is the answer that holds it
  pub least_answered : {E : Type 0} (cells : List ℕ) (answer : Result (Option Operation) E)
      → IsLeast (IsFoundTied (IsTable sat K lang) p.masks p.ties) cells
      → IfOk answer (λ made. IfSome made (λ t. t ≡ operation_of lang.domain K cells))
      → IfOk answer (λ made. IfNone made (¬ IsOpTable K (operation_of lang.domain K cells)))
      → IfOk answer (λ made. AnswersLeast (IsTable sat K lang) (option_map (λ t. t.cells) made))
  least_answered cells (Ok made) least same none = least_made cells made least same none
  least_answered cells (Err e) least same none = tt
