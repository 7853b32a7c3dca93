-- Refusals: a line and a word that says why a text is not accepted.
use Rattle.std.specs.Prelude.{ℕ, List, codes, ◌++◌, decimal}
use Rattle.pol_text.specs.declared.word.Word.{Word}
use Rattle.pol_text.specs.declared.word.Word.TheVariants.{NoHeader, BadVersion, BadDomain, BadLine, BadNumber}
use Rattle.pol_text.specs.declared.word.Word.TheVariants.{BadName, RepeatedName, BadArity, ValueOutside, ShortTuple}
use Rattle.pol_text.specs.declared.word.Word.TheVariants.{LongTuple, TooManyRelations, TooManyTuples}
use Rattle.pol_text.specs.declared.word.Word.TheVariants.{TooManyInstances, TooManyVariables, TooManyConstraints}
use Rattle.pol_text.specs.declared.word.Word.TheVariants.{TripleLimit, SubsetLimit, UnknownRelation, UnknownVariable}
use Rattle.pol_text.specs.declared.word.Word.TheVariants.{Ended, AfterEnd, TooManyItems, TooManySteps, TooManyParts}
use Rattle.pol_text.specs.declared.word.Word.TheVariants.{TooLong}
use Rattle.pol_text.specs.declared.refusal.Refusal.{Refusal}

-- the word as it is printed
abbrev pub word_text : Word → List ℕ
word_text NoHeader = codes "NoHeader"
word_text BadVersion = codes "BadVersion"
word_text BadDomain = codes "BadDomain"
word_text BadLine = codes "BadLine"
word_text BadNumber = codes "BadNumber"
word_text BadName = codes "BadName"
word_text RepeatedName = codes "RepeatedName"
word_text BadArity = codes "BadArity"
word_text ValueOutside = codes "ValueOutside"
word_text ShortTuple = codes "ShortTuple"
word_text LongTuple = codes "LongTuple"
word_text TooManyRelations = codes "TooManyRelations"
word_text TooManyTuples = codes "TooManyTuples"
word_text TooManyInstances = codes "TooManyInstances"
word_text TooManyVariables = codes "TooManyVariables"
word_text TooManyConstraints = codes "TooManyConstraints"
word_text TripleLimit = codes "TripleLimit"
word_text SubsetLimit = codes "SubsetLimit"
word_text UnknownRelation = codes "UnknownRelation"
word_text UnknownVariable = codes "UnknownVariable"
word_text Ended = codes "Ended"
word_text AfterEnd = codes "AfterEnd"
word_text TooManyItems = codes "TooManyItems"
word_text TooManySteps = codes "TooManySteps"
word_text TooManyParts = codes "TooManyParts"
word_text TooLong = codes "TooLong"

-- the line that says where and why: `refused LINE WORD`
abbrev pub refusal_line : Refusal → List ℕ
refusal_line refusal = codes "refused " ++ decimal refusal.line ++ codes " " ++ word_text refusal.word ++ codes "\n"
