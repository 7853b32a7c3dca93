-- The set functions that are sought, among those that the search reaches, and the least of them.
use Rattle.std.proofs.Common.{◌≡◌, ℕ, List, Bool, Option, Some, None, option_map, Result, Ok, Err, sym, subst}
use Rattle.std.specs.Prelude.{◌↔◌, IsTrue, IfSome, IfNone, IfOk}
use Rattle.pol_base.specs.Masks.{IsWithin}
use Rattle.pol_base.specs.Least.{IsLeast, AnswersLeast}
use Rattle.pol_relation.specs.Relations.{LanguageView}
use Rattle.pol_optable.specs.SetFunctions.{SetFunctionView, IsSetFunction, IsSetPolymorphism}
use Rattle.pol_csp.specs.Variables.{AreTied, IsFoundTied}
use Rattle.pol_setfn.specs.Sought.{IsIdempotent, IsSought}

-- what is idempotent where this is asked is sought exactly where it preserves the language
pub sought_where_kept : (lang : LanguageView) (idempotent : Bool) (cells : List ℕ) (g : SetFunctionView) (kept : Bool)
    → g ≡ record { domain = lang.domain; cells = cells }
    → IsSetFunction (record { domain = lang.domain; cells = cells })
    → (IsTrue idempotent → IsIdempotent g)
    → IsTrue kept ↔ IsSetPolymorphism g lang
    → IsTrue kept ↔ IsSought lang idempotent cells
sought_where_kept lang idempotent cells g kept same is singles exact = (
  λ held. record {
    table = record { is_set_function = is; preserves = subst (λ e. IsSetPolymorphism e lang) same (exact.0 held) };
    idempotent_is = λ asked. subst IsIdempotent same (singles asked);
  },
  λ sought. exact.1 (subst (λ e. IsSetPolymorphism e lang) (sym same) sought.table.preserves),
)

module _ (lang : LanguageView) (idempotent : Bool) (masks ties : List ℕ)
    (within : (cells : List ℕ) → IsSetFunction (record { domain = lang.domain; cells = cells })
    → (IsTrue idempotent → IsIdempotent (record { domain = lang.domain; cells = cells })) → IsWithin masks cells)
    (tied : (cells : List ℕ) → AreTied ties cells) where
  abbrev Found : List ℕ → Type 0
  Found = IsFoundTied (IsSought lang idempotent) masks ties

  -- what is sought is within the masks and tied
  found : (cells : List ℕ) → IsSought lang idempotent cells → Found cells
  found cells sought = record {
    within = within cells sought.table.is_set_function sought.idempotent_is;
    tied = tied cells;
    wanted = sought;
  }

  pub none_sought : ((cells : List ℕ) → ¬ IsFoundTied (IsSought lang idempotent) masks ties cells) → (cells : List ℕ) → ¬ IsSought lang idempotent cells
  none_sought none cells sought = none cells (found cells sought)

  least_sought : (cells : List ℕ) → IsLeast Found cells → IsLeast (IsSought lang idempotent) cells
  least_sought cells least = record { holds = least.holds.wanted; first = λ ys long sought before. least.first ys long (found ys sought) before }

  -- the set function of the least list
  least_made : (cells : List ℕ) (made : Option SetFunctionView) → IsLeast Found cells
      → IfSome made (λ g. g ≡ record { domain = lang.domain; cells = cells })
      → IfNone made (¬ IsSetFunction (record { domain = lang.domain; cells = cells }))
      → AnswersLeast (IsSought lang idempotent) (option_map (λ g. g.cells) made)
  least_made cells None least same none = absurd (none (least_sought cells least).holds.table.is_set_function)
  least_made cells (Some g) least same none =
      subst (λ (h : SetFunctionView). IsLeast (IsSought lang idempotent) h.cells) (sym same) (least_sought cells least)

  -- so is the answer that holds it
  pub least_answered : {E : Type 0} (cells : List ℕ) (answer : Result (Option SetFunctionView) E)
      → IsLeast (IsFoundTied (IsSought lang idempotent) masks ties) cells
      → IfOk answer (λ made. IfSome made (λ g. g ≡ record { domain = lang.domain; cells = cells }))
      → IfOk answer (λ made. IfNone made (¬ IsSetFunction (record { domain = lang.domain; cells = cells })))
      → IfOk answer (λ made. AnswersLeast (IsSought lang idempotent) (option_map (λ g. g.cells) made))
  least_answered cells (Ok made) least same none = least_made cells made least same none
  least_answered cells (Err e) least same none = tt
