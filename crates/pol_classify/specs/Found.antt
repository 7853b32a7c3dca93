-- Finding the lines of the classes one by one, in the order in which the classes are tried.
use Rattle.std.specs.Prelude.{ℕ, ◌≤◌}
use Rattle.pol_base.specs.declared.class_name.ClassName.{ClassName}
use Rattle.pol_base.specs.declared.class_name.ClassName.TheVariants.{Constant, Semilattice, SetFunction, Majority}
use Rattle.pol_base.specs.declared.class_name.ClassName.TheVariants.{Nu4, Affine, Maltsev}
use Rattle.pol_relation.specs.Relations.{LanguageView}
use Rattle.pol_optable.specs.ClassLines.{ClassLine}
use Rattle.pol_optable.specs.Choices.{line_in}
use Rattle.pol_optable.specs.declared.classes.Classes.{Classes}

-- the place of the class among all classes
abbrev pub place_of : ClassName → ℕ
place_of Constant = 0
place_of Semilattice = 1
place_of SetFunction = 2
place_of Majority = 3
place_of Nu4 = 4
place_of Affine = 5
place_of Maltsev = 6

-- the lines of the first n classes for the language were found; that of the set functions from the first class on,
-- since the lines of `constant` and `semilattice` ask for it, and that of `maltsev` with that of `nu4`, which asks
-- for it
pub record AreFound (lang : LanguageView) (n : ℕ) (classes : Classes) : Type 0 where
  pub constant : 1 ≤ n → ClassLine Constant lang (line_in classes Constant)
  pub semilattice : 2 ≤ n → ClassLine Semilattice lang (line_in classes Semilattice)
  pub setfn : 1 ≤ n → ClassLine SetFunction lang (line_in classes SetFunction)
  pub majority : 4 ≤ n → ClassLine Majority lang (line_in classes Majority)
  pub nu4 : 5 ≤ n → ClassLine Nu4 lang (line_in classes Nu4)
  pub affine : 6 ≤ n → ClassLine Affine lang (line_in classes Affine)
  pub maltsev : 5 ≤ n → ClassLine Maltsev lang (line_in classes Maltsev)
