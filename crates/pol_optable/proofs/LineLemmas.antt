-- A class has one line for a language, and a language has one chosen class.
use Rattle.std.proofs.Common.{◌≡◌, ◌<◌, ◌↔◌, ℕ, List, [], ◌∷◌, ◌++◌, length, Option, Some, None, All, refl, sym, ap, ◌∙◌, subst, arith, zero, suc, get_or}
use Rattle.std.proofs.lemmas.List.Elements.{All-nil, All-cons, All-head, All-tail, All-weaker}
use Rattle.pol_base.specs.declared.class_name.ClassName.{ClassName}
use Rattle.pol_base.specs.declared.class_name.ClassName.TheVariants.{Constant, Semilattice, SetFunction, Majority, Nu4, Affine, Maltsev}
use Rattle.pol_base.specs.Least.{IsLeast, AnswersLeast}
use Rattle.pol_base.proofs.OrderLemmas.{order_of}
use Rattle.pol_base.proofs.OrderLemmas.Order.{Before, Same, After}
use Rattle.pol_relation.specs.Relations.{LanguageView}
use Rattle.pol_relation.specs.Weights.{weight_of}
use Rattle.pol_optable.specs.ClassLines.{IsTableOf, Line, ClassLine, HoldsTable, Serves, IsFirstOf, Chooses, all_classes}
use Rattle.pol_optable.specs.ClassLines.Line.{Beyond, Sought}

-- tables of one class have one length
pub one_length : (class : ClassName) (lang : LanguageView) (xs ys : List ℕ) → IsTableOf class lang xs → IsTableOf class lang ys → length xs ≡ length ys
one_length Constant lang xs ys one other = one.is_operation.all_cells ∙ sym other.is_operation.all_cells
one_length Semilattice lang xs ys one other = one.is_operation.all_cells ∙ sym other.is_operation.all_cells
one_length SetFunction lang xs ys one other = one.is_set_function.all_cells ∙ sym other.is_set_function.all_cells
one_length Majority lang xs ys one other = one.is_operation.all_cells ∙ sym other.is_operation.all_cells
one_length Nu4 lang xs ys one other = one.is_operation.all_cells ∙ sym other.is_operation.all_cells
one_length Affine lang xs ys one other = one.is_operation.all_cells ∙ sym other.is_operation.all_cells
one_length Maltsev lang xs ys one other = one.is_operation.all_cells ∙ sym other.is_operation.all_cells

least_once : (class : ClassName) (lang : LanguageView) (xs ys : List ℕ) → IsLeast (IsTableOf class lang) xs → IsLeast (IsTableOf class lang) ys → xs ≡ ys
least_once class lang xs ys one other =
    let long = one_length class lang xs ys one.holds other.holds in
    elim (order_of xs ys long) [
      | Before before ↦ absurd (other.first xs long one.holds before)
      | Same same ↦ same
      | After after ↦ absurd (one.first ys (sym long) other.holds after)
    ]

one_answer : (class : ClassName) (lang : LanguageView) (one other : Option (List ℕ)) → AnswersLeast (IsTableOf class lang) one → AnswersLeast (IsTableOf class lang) other → one ≡ other
one_answer class lang None None a b = refl
one_answer class lang None (Some ys) a b = absurd (a ys b.holds)
one_answer class lang (Some xs) None a b = absurd (b xs a.holds)
one_answer class lang (Some xs) (Some ys) a b = ap (λ cells. Some cells) (least_once class lang xs ys a b)

-- a class has one line
pub one_line : (class : ClassName) (lang : LanguageView) (one other : Line) → ClassLine class lang one → ClassLine class lang other → one ≡ other
one_line class lang Beyond Beyond a b = refl
one_line class lang Beyond (Sought ys) a b = absurd (b.0 a)
one_line class lang (Sought xs) Beyond a b = absurd (a.0 b)
one_line class lang (Sought xs) (Sought ys) a b = ap (λ t. Sought t) (one_answer class lang xs ys a.1 b.1)

-- only the line of `nu4` may be beyond
pub beyond_is_nu4 : (class : ClassName) (lang : LanguageView) → ClassLine class lang Beyond ↔ ((class ≡ Nu4) × (2097152 < weight_of 4 lang.relations))
beyond_is_nu4 Constant lang = (λ beyond. absurd beyond, λ both. absurd (grind (arith, both.0)))
beyond_is_nu4 Semilattice lang = (λ beyond. absurd beyond, λ both. absurd (grind (arith, both.0)))
beyond_is_nu4 SetFunction lang = (λ beyond. absurd beyond, λ both. absurd (grind (arith, both.0)))
beyond_is_nu4 Majority lang = (λ beyond. absurd beyond, λ both. absurd (grind (arith, both.0)))
beyond_is_nu4 Nu4 lang = (λ beyond. (refl, beyond), λ both. both.1)
beyond_is_nu4 Affine lang = (λ beyond. absurd beyond, λ both. absurd (grind (arith, both.0)))
beyond_is_nu4 Maltsev lang = (λ beyond. absurd beyond, λ both. absurd (grind (arith, both.0)))

-- the classes of which something holds, and the first of them
module _ (P : ClassName → Type 0) where
  first_once :
      (one other : ClassName) (before behind after rest : List ClassName)
      → before ++ one ∷ after ≡ behind ++ other ∷ rest
      → P one
      → P other
      → All (λ c. ¬ P c) before
      → All (λ c. ¬ P c) behind
      → one ≡ other
  first_once one other [] [] after rest same holds holds' none none' = cc
  first_once one other [] (c ∷ cs) after rest same holds holds' none none' =
      let Q : ClassName → Type 0 = P in
      let first : one ≡ c = cc in
      absurd (All-head (λ d. ¬ Q d) c cs none' (subst Q first holds))
  first_once one other (c ∷ cs) [] after rest same holds holds' none none' =
      let Q : ClassName → Type 0 = P in
      let first : other ≡ c = cc in
      absurd (All-head (λ d. ¬ Q d) c cs none (subst Q first holds'))
  first_once one other (c ∷ cs) (d ∷ ds) after rest same holds holds' none none' =
      let Q : ClassName → Type 0 = P in
      let tails : cs ++ one ∷ after ≡ ds ++ other ∷ rest = cc in
      let left = All-tail (λ e. ¬ Q e) c cs none in
      let right = All-tail (λ e. ¬ Q e) d ds none' in
      first_once one other cs ds after rest tails holds holds' left right

  -- there is one first class
  pub one_first : (classes : List ClassName) (one other : ClassName) → IsFirstOf P classes one → IsFirstOf P classes other → one ≡ other
  one_first classes one other is is' =
      let same = sym is.split ∙ is'.split in
      first_once one other is.before is'.before is.after is'.after same is.holds is'.holds is.none_before is'.none_before

  none_among : (class : ClassName) (before after : List ClassName) → All (λ c. ¬ P c) (before ++ class ∷ after) → ¬ P class
  none_among class [] after none holds = let Q : ClassName → Type 0 = P in All-head (λ c. ¬ Q c) class after none holds
  none_among class (c ∷ cs) after none holds =
      let Q : ClassName → Type 0 = P in
      none_among class cs after (All-tail (λ d. ¬ Q d) c (cs ++ class ∷ after) none) holds

  -- where it holds of no class there is no first one
  pub none_first : (classes : List ClassName) (class : ClassName) → All (λ c. ¬ P c) classes → ¬ IsFirstOf P classes class
  none_first classes class none is =
      let Q : ClassName → Type 0 = P in
      none_among class is.before is.after (subst (All (λ c. ¬ Q c)) is.split none) is.holds

  -- a class of which it holds and that stands first is the first
  pub first_of_all : (class : ClassName) (rest : List ClassName) → P class → IsFirstOf P (class ∷ rest) class
  first_of_all class rest holds =
      let Q : ClassName → Type 0 = P in
      record { before = []; after = rest; split = refl; holds = holds; none_before = All-nil (λ c. ¬ Q c) }

  -- a class of which it does not hold is passed over
  pub passed_over : (class first : ClassName) (later : List ClassName) → ¬ P class → IsFirstOf P later first → IsFirstOf P (class ∷ later) first
  passed_over class first later not is =
      let Q : ClassName → Type 0 = P in
      record {
        before = class ∷ is.before;
        after = is.after;
        split = ap (λ classes. class ∷ classes) is.split;
        holds = is.holds;
        none_before = All-cons (λ c. ¬ Q c) class is.before not is.none_before;
      }

  -- the class at a place is the first where it holds of it, and of none before
  pub first_at :
      (none : ClassName) (classes : List ClassName) (i : ℕ)
      → i < length classes
      → P (get_or classes i none)
      → ((k : ℕ) → k < i → ¬ P (get_or classes k none))
      → IsFirstOf P classes (get_or classes i none)
  first_at none [] i inside holds before = absurd (omega (arith, inside))
  first_at none (class ∷ later) zero inside holds before = first_of_all class later holds
  first_at none (class ∷ later) (suc i) inside holds before =
      let rest = first_at none later i (omega (arith, inside)) holds (λ k less. before (suc k) (omega (arith, less))) in
      passed_over class (get_or later i none) later (before 0 (omega arith)) rest

-- there is one chosen class, or none
pub one_choice : (lang : LanguageView) (one other : Option ClassName) → Chooses lang one → Chooses lang other → one ≡ other
one_choice lang None None a b = refl
one_choice lang None (Some class) a b = absurd (none_first (Serves lang) all_classes class a b)
one_choice lang (Some class) None a b = absurd (none_first (Serves lang) all_classes class b a)
one_choice lang (Some class) (Some other) a b = ap (λ c. Some c) (one_first (Serves lang) all_classes class other a b)

-- a line of a class that holds no table is the line of a class that does not serve
pub not_serving : (class : ClassName) (lang : LanguageView) (line : Line) → ClassLine class lang line → ¬ HoldsTable line → ¬ Serves lang class
not_serving class lang line is none serves =
    let same : line ≡ Sought (Some serves.cells) = one_line class lang line (Sought (Some serves.cells)) is serves.line in
    none (subst HoldsTable (sym same) tt)

-- and one that holds a table that of a class that serves
pub serving : (class : ClassName) (lang : LanguageView) (line : Line) → ClassLine class lang line → HoldsTable line → Serves lang class
serving class lang Beyond is holds = absurd holds
serving class lang (Sought None) is holds = absurd holds
serving class lang (Sought (Some cells)) is holds = record { cells = cells; line = is }

-- where the line of no class holds a table, no class is chosen
pub none_is_chosen : (lang : LanguageView) → All (λ class. ClassLine class lang (Sought None)) all_classes → Chooses lang None
none_is_chosen lang none = All-weaker (λ class. ClassLine class lang (Sought None)) (λ class. ¬ Serves lang class)
    (λ class is. not_serving class lang (Sought None) is (λ holds. holds)) all_classes none
