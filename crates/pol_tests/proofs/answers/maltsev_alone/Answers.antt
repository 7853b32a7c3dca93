use Rattle.std.proofs.Common.{subst}
use Rattle.std.specs.Prelude.{None}
use Rattle.pol_base.specs.declared.class_name.ClassName.{ClassName}
use Rattle.pol_base.specs.declared.class_name.ClassName.TheVariants.{Constant, Semilattice, SetFunction, Majority, Nu4, Affine, Maltsev}
use Rattle.pol_relation.specs.Relations.{LanguageView}
use Rattle.pol_optable.specs.declared.classes.Classes.{Classes}
use Rattle.pol_optable.specs.declared.classes.Nu4.{Nu4 as Nu4Line}
use Rattle.pol_optable.specs.Choices.{AreLines, HoldsNoOther, line_in}
use Rattle.pol_optable.proofs.ChoiceLemmas.{tables_of_lines}
use Rattle.pol_tests.proofs.answers.maltsev_alone.Goals as goal

abbrev alone : Classes → Classes
alone found = record { constant = None; semilattice = None; setfn = None; majority = None; nu4 = Nu4Line.Absent; affine = None; maltsev = found.maltsev }

holds : (lang : LanguageView) (found : Classes) → AreLines lang found → (class : ClassName) → HoldsNoOther class lang (line_in (alone found) class)
holds lang found lines Constant = tt
holds lang found lines Semilattice = tt
holds lang found lines SetFunction = tt
holds lang found lines Majority = tt
holds lang found lines Nu4 = tt
holds lang found lines Affine = tt
holds lang found lines Maltsev = tables_of_lines lang found lines Maltsev

pub returns : goal.returns
returns c = record { tables = holds c.args.file.now.language c.in_ok-found.found (subst (λ lang. AreLines lang c.in_ok-found.found) c.lang.ensures.language c.in_ok-found.ensures.lines) }
