-- Texts that the grammar refuses, each with its line and word, computed by the definitions.
-- Where a line has a second fault, the word of it is noted behind it: it comes later in the order.
-- A text that is refused as `Ended`, behind its last line, is accepted so far.
use Prim.Native.String.{String}
use Rattle.std.specs.Prelude.{◌≡◌, refl, ℕ, List, [], ◌∷◌, ◌++◌, map, flat_map, replicate, codes, Result, Err}
use Rattle.pol_text.specs.Texts.{joined}
use Rattle.pol_text.specs.declared.refusal.Refusal.{Refusal}
use Rattle.pol_text.specs.declared.word.Word.{Word}
use Rattle.pol_text.specs.declared.word.Word.TheVariants.{NoHeader, BadVersion, BadDomain, BadLine, BadNumber, BadName, RepeatedName, BadArity, ValueOutside, ShortTuple, LongTuple, TooManyRelations, TooManyTuples, TooManyInstances, TooManyVariables, TooManyConstraints, TripleLimit, SubsetLimit, UnknownRelation, UnknownVariable, Ended}
use Rattle.pol_lang.specs.Files.{Parsed}
use Rattle.pol_lang.specs.Grammar.{parse, header_line, domain_line, relation_line, begun_relation, with_tuple, tuple_line, language_line, instance_line, with_scope, constraint_line, entry_line}

abbrev refused : ℕ → Word → Result Parsed Refusal
refused line word = Err (record { line = line; word = word })

-- behind the front, each text is refused at the line with the word
abbrev AreRefused : List ℕ → List (String × ℕ × Word) → Type 0
AreRefused front cases = map (λ c. parse (front ++ codes c.0)) cases ≡ map (λ c. refused c.1 c.2) cases

-- ---- the first two lines

headers : AreRefused []
    (("", 1, NoHeader)
    ∷ ("# polyanna 1\n", 2, NoHeader)
    ∷ ("polyannas 1 1\n", 1, NoHeader)  -- and BadVersion
    ∷ ("polyanna\n", 1, BadVersion)
    ∷ ("polyanna 1 1\n", 1, BadVersion)
    ∷ ("polyanna one\n", 1, BadVersion)
    ∷ ("polyanna 2\ndomain 6\n", 1, BadVersion)  -- and BadDomain at line 2
    ∷ [])
unfolding parse header_line domain_line relation_line begun_relation with_tuple tuple_line language_line instance_line with_scope constraint_line entry_line
headers = refl

domains : AreRefused (codes "polyanna 1\n")
    (("", 2, Ended)
    ∷ ("\n# domain 2\n", 4, Ended)
    ∷ ("size two\n", 2, BadLine)  -- and BadNumber
    ∷ ("size 6\n", 2, BadLine)  -- and BadDomain
    ∷ ("domain\n", 2, BadLine)  -- and BadNumber
    ∷ ("domain two three\n", 2, BadLine)  -- and BadNumber
    ∷ ("domain 6 6\n", 2, BadLine)  -- and BadDomain
    ∷ ("domain two\n", 2, BadNumber)
    ∷ ("domain 0\n", 2, BadDomain)
    ∷ ("domain 6\n", 2, BadDomain)
    ∷ [])
unfolding parse header_line domain_line relation_line begun_relation with_tuple tuple_line language_line instance_line with_scope constraint_line entry_line
domains = refl

-- ---- which line may stand where

abbrev two_values : List ℕ
two_values = codes "polyanna 1\ndomain 2\n"

places : AreRefused two_values
    (("", 3, Ended)
    ∷ ("relation r 1\ntuple 0", 5, Ended)
    ∷ ("domain 2\n", 3, BadLine)
    ∷ ("Relation r 1\n", 3, BadLine)
    ∷ ("tuple x\n", 3, BadLine)
    ∷ ("constraint r x\n", 3, BadLine)  -- and UnknownRelation
    ∷ ("instance i x\nrelation 2r 1\n", 4, BadLine)  -- and BadName
    ∷ ("relation r 1\ninstance i x\ntuple x\n", 5, BadLine)  -- and BadNumber
    ∷ ("relation r 1\nend 1\n", 4, BadLine)
    ∷ [])
unfolding parse header_line domain_line relation_line begun_relation with_tuple tuple_line language_line instance_line with_scope constraint_line entry_line
places = refl

-- ---- relations

relations : AreRefused two_values
    (("relation 2r\n", 3, BadLine)  -- and BadName
    ∷ ("relation r 1\nrelation r\n", 4, BadLine)  -- and RepeatedName
    ∷ ("relation r 1 1\n", 3, BadLine)
    ∷ ("relation 2r two\n", 3, BadName)  -- and BadNumber
    ∷ ("relation r 1\nrelation r two\n", 4, RepeatedName)  -- and BadNumber
    ∷ ("relation r 1\nrelation r 7\n", 4, RepeatedName)  -- and BadArity
    ∷ ("relation r two\n", 3, BadNumber)
    ∷ ("relation r 0000000001\n", 3, BadNumber)
    ∷ ("relation r 0\n", 3, BadArity)
    ∷ ("relation r 7\n", 3, BadArity)
    ∷ ("relation r 000000006\n", 4, Ended)
    ∷ [])
unfolding parse header_line domain_line relation_line begun_relation with_tuple tuple_line language_line instance_line with_scope constraint_line entry_line
relations = refl

-- two times 31 ^ 4 vectors of nonempty sets of five values are within the limit, three times and 31 ^ 5 are not
wide_relations : AreRefused (codes "polyanna 1\ndomain 5\n")
    (("relation r 7\n", 3, BadArity)  -- and SubsetLimit
    ∷ ("relation r 5\n", 3, SubsetLimit)
    ∷ ("relation r 4\nrelation s 4\nrelation t 4\n", 5, SubsetLimit)
    ∷ [])
unfolding parse header_line domain_line relation_line begun_relation with_tuple tuple_line language_line instance_line with_scope constraint_line entry_line
wide_relations = refl

-- five values, and 32 relations
abbrev full_of_relations : List ℕ
full_of_relations =
    codes "polyanna 1\ndomain 5\n"
    ++ joined (λ letter. codes "relation " ++ letter ∷ codes " 1\n") (codes "ABCDEFGHIJKLMNOPQRSTUVWXYZabcdef")

relations_behind_32 : AreRefused full_of_relations
    (("relation g\n", 35, BadLine)  -- and TooManyRelations
    ∷ ("relation 7 1\n", 35, BadName)  -- and TooManyRelations
    ∷ ("relation f 1\n", 35, RepeatedName)  -- and TooManyRelations
    ∷ ("relation g one\n", 35, BadNumber)  -- and TooManyRelations
    ∷ ("relation g 7\n", 35, BadArity)  -- and TooManyRelations
    ∷ ("relation g 5\n", 35, TooManyRelations)  -- and SubsetLimit
    ∷ ("relation g 1\n", 35, TooManyRelations)
    ∷ [])
unfolding parse header_line domain_line relation_line begun_relation with_tuple tuple_line language_line instance_line with_scope constraint_line entry_line
relations_behind_32 = refl

-- ---- tuples

tuples : AreRefused (two_values ++ codes "relation r 2\n")
    (("tuple x\n", 4, ShortTuple)  -- and BadNumber
    ∷ ("tuple 2\n", 4, ShortTuple)  -- and ValueOutside
    ∷ ("tuple\n", 4, ShortTuple)
    ∷ ("tuple 0 1 x\n", 4, LongTuple)  -- and BadNumber
    ∷ ("tuple 0 1 2\n", 4, LongTuple)  -- and ValueOutside
    ∷ ("tuple x 2\n", 4, BadNumber)  -- and ValueOutside behind it
    ∷ ("tuple 2 x\n", 4, ValueOutside)  -- and BadNumber behind it
    ∷ ("tuple 0 2\n", 4, ValueOutside)
    ∷ ("tuple 0 -1\n", 4, BadNumber)
    ∷ [])
unfolding parse header_line domain_line relation_line begun_relation with_tuple tuple_line language_line instance_line with_scope constraint_line entry_line
tuples = refl

-- each of the texts with each of four values behind it
abbrev with_value : List (List ℕ) → List (List ℕ)
with_value texts = flat_map (λ text. map (λ digit. text ++ codes " " ++ digit ∷ []) (codes "0123")) texts

-- four values, and a relation of 128 tuples, the cube of which is 2 ^ 21
abbrev full_of_tuples : List ℕ
full_of_tuples =
    codes "polyanna 1\ndomain 4\nrelation r 4\n"
    ++ joined (λ line. line ++ codes "\n") (with_value (with_value (with_value (codes "tuple 0" ∷ codes "tuple 1" ∷ []))))

tuples_behind_128 : AreRefused full_of_tuples
    (("tuple 2 0 0 x\n", 132, BadNumber)  -- and TooManyTuples
    ∷ ("tuple 2 0 0 4\n", 132, ValueOutside)  -- and TooManyTuples
    ∷ ("tuple 2 0 0 0\n", 132, TooManyTuples)  -- and TripleLimit
    ∷ ("tuple 1 3 3 3\n", 133, Ended)
    ∷ ("relation s 1\ntuple 0\n", 133, TripleLimit)
    ∷ [])
unfolding parse header_line domain_line relation_line begun_relation with_tuple tuple_line language_line instance_line with_scope constraint_line entry_line
tuples_behind_128 = refl

-- ---- instances

instances : AreRefused two_values
    (("instance\n", 3, BadLine)  -- and BadName
    ∷ ("instance 2i\n", 3, BadLine)  -- and BadName
    ∷ ("instance i x\ninstance i\n", 4, BadLine)  -- and RepeatedName
    ∷ ("instance 2i x x\n", 3, BadName)  -- and RepeatedName of a variable
    ∷ ("instance i x\ninstance i 2x\n", 4, RepeatedName)  -- and BadName of a variable
    ∷ ("instance i x\ninstance i y\n", 4, RepeatedName)
    ∷ ("instance i 2x y y\n", 3, BadName)  -- and RepeatedName behind it
    ∷ ("instance i y y 2x\n", 3, RepeatedName)  -- and BadName behind it
    ∷ ("instance abcdefghijklmnopqrstuvwxyzABCDEFG x\n", 3, BadName)
    ∷ [])
unfolding parse header_line domain_line relation_line begun_relation with_tuple tuple_line language_line instance_line with_scope constraint_line entry_line
instances = refl

-- eight instances
abbrev full_of_instances : List ℕ
full_of_instances =
    two_values ++ joined (λ letter. codes "instance " ++ letter ∷ codes " x\n") (codes "abcdefgh")

instances_behind_8 : AreRefused full_of_instances
    (("instance i\n", 11, BadLine)  -- and TooManyInstances
    ∷ ("instance 9 x\n", 11, BadName)  -- and TooManyInstances
    ∷ ("instance h x\n", 11, RepeatedName)  -- and TooManyInstances
    ∷ ("instance i x x\n", 11, TooManyInstances)  -- and RepeatedName of a variable
    ∷ ("instance i A B C D E F G H I J K L M N O P Q R S T U V W X Y Z a b c d e f g h i j k l m n o\n", 11, TooManyInstances)  -- and TooManyVariables
    ∷ ("instance i x\n", 11, TooManyInstances)
    ∷ [])
unfolding parse header_line domain_line relation_line begun_relation with_tuple tuple_line language_line instance_line with_scope constraint_line entry_line
instances_behind_8 = refl

-- the line of an instance with 40 variables, without its end
abbrev full_of_variables : List ℕ
full_of_variables =
    two_values ++ codes "instance i"
    ++ joined (λ letter. codes " " ++ letter ∷ []) (codes "ABCDEFGHIJKLMNOPQRSTUVWXYZabcdefghijklmn")

variables_behind_40 : AreRefused full_of_variables
    (("\n", 4, Ended)
    ∷ (" 2x\n", 3, TooManyVariables)  -- and BadName
    ∷ (" A\n", 3, TooManyVariables)  -- and RepeatedName
    ∷ (" o\n", 3, TooManyVariables)
    ∷ [])
unfolding parse header_line domain_line relation_line begun_relation with_tuple tuple_line language_line instance_line with_scope constraint_line entry_line
variables_behind_40 = refl

-- ---- constraints

abbrev two_variables : List ℕ
two_variables = two_values ++ codes "relation r 2\nrelation s 1\ninstance i x y\n"

constraints : AreRefused two_variables
    (("constraint\n", 6, BadLine)  -- and UnknownRelation
    ∷ ("constraint t\n", 6, UnknownRelation)  -- and BadArity
    ∷ ("constraint t z\n", 6, UnknownRelation)  -- and UnknownVariable
    ∷ ("constraint r z\n", 6, BadArity)  -- and UnknownVariable
    ∷ ("constraint r\n", 6, BadArity)
    ∷ ("constraint s x y\n", 6, BadArity)
    ∷ ("constraint r z x\n", 6, UnknownVariable)
    ∷ ("instance j z\nconstraint s x\n", 7, UnknownVariable)
    ∷ [])
unfolding parse header_line domain_line relation_line begun_relation with_tuple tuple_line language_line instance_line with_scope constraint_line entry_line
constraints = refl

-- an instance with 256 constraints
abbrev full_of_constraints : List ℕ
full_of_constraints = two_variables ++ joined (λ line. line) (replicate 256 (codes "constraint s x\n"))

constraints_behind_256 : AreRefused full_of_constraints
    (("constraint s x y\n", 262, BadArity)  -- and TooManyConstraints
    ∷ ("constraint s z\n", 262, UnknownVariable)  -- and TooManyConstraints
    ∷ ("constraint s y\n", 262, TooManyConstraints)
    ∷ ("instance j z\nconstraint s z\n", 264, Ended)
    ∷ [])
unfolding parse header_line domain_line relation_line begun_relation with_tuple tuple_line language_line instance_line with_scope constraint_line entry_line
constraints_behind_256 = refl
