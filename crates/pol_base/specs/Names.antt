-- The words of the classes, as they stand in the texts.
use Rattle.std.specs.Prelude.{ℕ, List, codes}
use Rattle.pol_base.specs.declared.class_name.ClassName.{ClassName}
use Rattle.pol_base.specs.declared.class_name.ClassName.TheVariants.{Constant, Semilattice, SetFunction, Majority}
use Rattle.pol_base.specs.declared.class_name.ClassName.TheVariants.{Nu4, Affine, Maltsev}

-- the word of a class in the texts
abbrev pub class_word : ClassName → List ℕ
class_word Constant = codes "constant"
class_word Semilattice = codes "semilattice"
class_word SetFunction = codes "set-function"
class_word Majority = codes "majority"
class_word Nu4 = codes "nu4"
class_word Affine = codes "affine"
class_word Maltsev = codes "maltsev"
