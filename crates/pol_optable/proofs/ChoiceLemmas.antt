-- The first class of which a table was found is the chosen one.
use Rattle.std.proofs.Common.{◌≡◌, Option, Some, None, refl, ap}
use Rattle.std.proofs.lemmas.List.Elements.{All-weaker}
use Rattle.pol_base.specs.declared.class_name.ClassName.{ClassName}
use Rattle.pol_relation.specs.Relations.{LanguageView}
use Rattle.pol_optable.specs.ClassLines.{Line, ClassLine, Serves, Chooses, all_classes}
use Rattle.pol_optable.specs.ClassLines.Line.{Beyond, Sought}
use Rattle.pol_optable.specs.Choices.{HasTable, FirstFound, AreLines, HoldsNoOther, AreTables, line_in}
use Rattle.pol_optable.specs.declared.classes.Classes.{Classes}
use Rattle.pol_optable.proofs.LineLemmas.{serving, not_serving, none_first, one_first}

module _ (lang : LanguageView) (classes : Classes) (are : AreLines lang classes) where
  serves : (class : ClassName) → HasTable classes class → Serves lang class
  serves class = serving class lang (line_in classes class) (are class)

  serves_not : (class : ClassName) → ¬ HasTable classes class → ¬ Serves lang class
  serves_not class = not_serving class lang (line_in classes class) (are class)

  pub first_is_chosen : (first : Option ClassName) → FirstFound classes first → Chooses lang first
  first_is_chosen None none = All-weaker (λ class. ¬ HasTable classes class) (λ class. ¬ Serves lang class) serves_not all_classes none
  first_is_chosen (Some class) is = record {
    before = is.before;
    after = is.after;
    split = is.split;
    holds = serves class is.holds;
    none_before = All-weaker (λ other. ¬ HasTable classes other) (λ other. ¬ Serves lang other) serves_not is.before is.none_before;
  }

table_of_line : (class : ClassName) (lang : LanguageView) (line : Line) → ClassLine class lang line → HoldsNoOther class lang line
table_of_line class lang Beyond is = tt
table_of_line class lang (Sought None) is = tt
table_of_line class lang (Sought (Some cells)) is = is.1.holds

-- what the lines hold are tables
pub tables_of_lines : (lang : LanguageView) (classes : Classes) → AreLines lang classes → AreTables lang classes
tables_of_lines lang classes are class = table_of_line class lang (line_in classes class) (are class)

-- one class is found first, or none
pub one_found : (classes : Classes) (one other : Option ClassName) → FirstFound classes one → FirstFound classes other → one ≡ other
one_found classes None None a b = refl
one_found classes None (Some class) a b = absurd (none_first (HasTable classes) all_classes class a b)
one_found classes (Some class) None a b = absurd (none_first (HasTable classes) all_classes class b a)
one_found classes (Some class) (Some other) a b = ap (λ c. Some c) (one_first (HasTable classes) all_classes class other a b)
