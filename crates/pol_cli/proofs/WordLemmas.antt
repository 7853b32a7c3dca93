-- What the words of a command line ask for.
use Rattle.std.proofs.Common.{◌≡◌, ◌≢◌, ℕ, List, [], ◌∷◌, length, get_or, String, string_bytes, inl, inr, refl, sym, ap, ◌∙◌, subst, arith}
use Rattle.pol_cli.specs.declared.words.InputTask.{InputTask}
use Rattle.pol_cli.specs.declared.words.InputTask.TheVariants as input
use Rattle.pol_cli.specs.Due.{AskInput, AsksGen, AreKnown, input_words}
use Rattle.pol_cli.specs.Runs.{texts_of}

-- the words of such a task ask for something that reads the input
pub asks_input : (asked : InputTask) → AskInput (input_words asked)
asks_input input.Report = inl refl
asks_input input.Check = inr refl

pub words_ask : (words : List (List ℕ)) (asked : InputTask) → words ≡ input_words asked → AskInput words
words_ask words asked same = subst AskInput (sym same) (asks_input asked)

-- the texts of a word alone
pub texts_of-one : {A : Type 0} (words : List (String A)) (word : String A) → length words ≡ 1 → word ≡ get_or words 0 word → texts_of words ≡ string_bytes word ∷ []
texts_of-one [] word one is = absurd (omega (arith, one))
texts_of-one (w ∷ []) word one is = cc
texts_of-one (w ∷ v ∷ rest) word one is = absurd (omega (arith, one))

-- the texts of two words
pub texts_of-two : {A : Type 0} (words : List (String A)) (word token : String A) → length words ≡ 2 → word ≡ get_or words 0 word → token ≡ get_or words 1 token → texts_of words ≡ string_bytes word ∷ string_bytes token ∷ []
texts_of-two [] word token two is also = absurd (omega (arith, two))
texts_of-two (w ∷ []) word token two is also = absurd (omega (arith, two))
texts_of-two (w ∷ v ∷ []) word token two is also = cc
texts_of-two (w ∷ v ∷ u ∷ rest) word token two is also = absurd (omega (arith, two))

-- what is known is one word or two
pub unknown_other : (words : List (List ℕ)) → length words ≢ 1 → length words ≢ 2 → ¬ AreKnown words
unknown_other words one two (inl (inl report)) = one (ap length report)
unknown_other words one two (inl (inr check)) = one (ap length check)
unknown_other words one two (inr (number, asks)) = two (ap length asks.1)

-- words that ask for something that reads the input do not ask for a generated file
pub input_alone : (words : List (List ℕ)) (number : ℕ) → AskInput words → AsksGen words number → ⊥
input_alone words number (inl report) asks = absurd (omega (arith, ap length (sym report ∙ asks.1)))
input_alone words number (inr check) asks = absurd (omega (arith, ap length (sym check ∙ asks.1)))
