-- The classes by their places, and what is known of them where the lines of the first n were found.
use Rattle.std.proofs.Common.{◌≡◌, ◌<◌, ◌≤◌, ◌+◌, ℕ, zero, suc, length, refl, sym, subst, arith, get_or}
use Rattle.pol_base.specs.declared.class_name.ClassName.{ClassName}
use Rattle.pol_base.specs.declared.class_name.ClassName.TheVariants.{Constant, Semilattice, SetFunction, Majority, Nu4, Affine, Maltsev}
use Rattle.pol_relation.specs.Relations.{LanguageView}
use Rattle.pol_optable.specs.ClassLines.{ClassLine, all_classes}
use Rattle.pol_optable.specs.Choices.{AreLines, line_in}
use Rattle.pol_optable.specs.declared.classes.Classes.{Classes}
use Rattle.pol_classify.specs.Found.{AreFound, place_of}

-- the class at a place has that place
pub place_at : (i : ℕ) → i < length all_classes → place_of (get_or all_classes i Constant) ≡ i
place_at zero inside = refl
place_at (suc zero) inside = refl
place_at (suc (suc zero)) inside = refl
place_at (suc (suc (suc zero))) inside = refl
place_at (suc (suc (suc (suc zero)))) inside = refl
place_at (suc (suc (suc (suc (suc zero))))) inside = refl
place_at (suc (suc (suc (suc (suc (suc zero)))))) inside = refl
place_at (suc (suc (suc (suc (suc (suc (suc i))))))) inside = absurd (omega (arith, inside))

module _ (lang : LanguageView) (classes : Classes) where
  -- the line of a class among the first n
  pub line_found :
      (n : ℕ) (class : ClassName)
      → place_of class < n
      → AreFound lang n classes
      → ClassLine class lang (line_in classes class)
  line_found n Constant among found = found.constant (omega (arith, among))
  line_found n Semilattice among found = found.semilattice (omega (arith, among))
  line_found n SetFunction among found = found.setfn (omega (arith, among))
  line_found n Majority among found = found.majority (omega (arith, among))
  line_found n Nu4 among found = found.nu4 (omega (arith, among))
  line_found n Affine among found = found.affine (omega (arith, among))
  line_found n Maltsev among found = found.maltsev (omega (arith, among))

  -- the line of the class that was found last
  pub last_found : (class : ClassName) → AreFound lang (place_of class + 1) classes → ClassLine class lang (line_in classes class)
  last_found class found = line_found (place_of class + 1) class (omega arith) found

  -- the lines of the classes before a place are those of the classes before the class at it
  pub found_before : (i : ℕ) → i < length all_classes → AreFound lang i classes → AreFound lang (place_of (get_or all_classes i Constant)) classes
  found_before i inside found = subst (λ n. AreFound lang n classes) (sym (place_at i inside)) found

  -- and with the line of this class one more was found
  pub found_behind : (i : ℕ) → i < length all_classes → AreFound lang (place_of (get_or all_classes i Constant) + 1) classes → AreFound lang (i + 1) classes
  found_behind i inside found = subst (λ n. AreFound lang (n + 1) classes) (place_at i inside) found

  -- the lines of all classes, behind the last one
  pub all_found : (n : ℕ) → length all_classes ≤ n → AreFound lang n classes → AreLines lang classes
  all_found n all found Constant = found.constant (omega (arith, all))
  all_found n all found Semilattice = found.semilattice (omega (arith, all))
  all_found n all found SetFunction = found.setfn (omega (arith, all))
  all_found n all found Majority = found.majority (omega (arith, all))
  all_found n all found Nu4 = found.nu4 (omega (arith, all))
  all_found n all found Affine = found.affine (omega (arith, all))
  all_found n all found Maltsev = found.maltsev (omega (arith, all))
