-- The class whose word a token is.
use Rattle.std.proofs.Common.{◌≡◌, ◌≢◌, ℕ, List, [], ◌∷◌, Ok, Err, refl, ap, ◌∙◌}
use Rattle.pol_base.specs.declared.class_name.ClassName.{ClassName}
use Rattle.pol_base.specs.declared.class_name.ClassName.TheVariants.{Constant, Semilattice, SetFunction, Majority, Nu4, Affine, Maltsev}
use Rattle.pol_base.specs.Names.{class_word}
use Rattle.pol_base.proofs.LookupLemmas.{other-is_same}
use Rattle.pol_text.specs.declared.word.Word.TheVariants.{BadLine}
use Rattle.pol_report.specs.Tokens.{one, class_among, as_class}

as_class-word : (class : ClassName) → as_class (class_word class) ≡ Ok class
unfolding as_class
as_class-word Constant = refl
as_class-word Semilattice = refl
as_class-word SetFunction = refl
as_class-word Majority = refl
as_class-word Nu4 = refl
as_class-word Affine = refl
as_class-word Maltsev = refl

as_class-found : (t : List ℕ) (class : ClassName) → t ≡ class_word class → as_class t ≡ Ok class
as_class-found t class same = ap as_class same ∙ as_class-word class

class_among-none : (t : List ℕ) (classes : List ClassName) → ((class : ClassName) → t ≢ class_word class) → class_among classes t ≡ Err BadLine
class_among-none t [] other = refl
class_among-none t (class ∷ classes) other = rw (other-is_same t (class_word class) (other class)) (class_among-none t classes other)

as_class-none : (t : List ℕ) → ((class : ClassName) → t ≢ class_word class) → as_class t ≡ Err BadLine
unfolding as_class
as_class-none t other = class_among-none t (Constant ∷ Semilattice ∷ SetFunction ∷ Majority ∷ Nu4 ∷ Affine ∷ Maltsev ∷ []) other

-- the first token is the word of a class
pub one_class-found : (tokens rest : List (List ℕ)) (t : List ℕ) (class : ClassName) → tokens ≡ t ∷ rest → t ≡ class_word class → one as_class tokens ≡ Ok (class, rest)
one_class-found tokens rest t class first same = rw (first, as_class-found t class same) refl

-- the first token is the word of no class
pub one_class-none : (tokens rest : List (List ℕ)) (t : List ℕ) → tokens ≡ t ∷ rest → ((class : ClassName) → t ≢ class_word class) → one as_class tokens ≡ Err BadLine
one_class-none tokens rest t first other = rw (first, as_class-none t other) refl
