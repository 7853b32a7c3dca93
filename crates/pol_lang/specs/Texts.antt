-- The canonical text of a file: its lines in order, each with one space between its tokens and an LF behind them.
use Rattle.std.specs.Prelude.{ℕ, List, [], ◌∷◌, ◌++◌, map, flat_map, codes, decimal}
use Rattle.pol_text.specs.Texts.{joined, printed_line}
use Rattle.pol_relation.specs.Relations.{NamedRelation}
use Rattle.pol_lang.specs.Files.{FileView}
use Rattle.pol_lang.specs.Spelling.{instance_lines}

-- the tokens of the line of a row
abbrev pub tuple_tokens : List ℕ → List (List ℕ)
tuple_tokens row = codes "tuple" ∷ map decimal row

-- the tokens of each line of a relation, its rows in ascending order
abbrev pub relation_lines : NamedRelation → List (List (List ℕ))
relation_lines named =
    (codes "relation" ∷ named.name ∷ decimal named.relation.arity ∷ [])
    ∷ map tuple_tokens named.relation.rows

-- the tokens of each line between the `domain` line and the `end` line
abbrev pub entry_lines : FileView → List (List (List ℕ))
entry_lines file =
    flat_map relation_lines file.language.relations
    ++ flat_map (instance_lines file.language) file.instances

-- the tokens of each line
abbrev pub file_lines : FileView → List (List (List ℕ))
file_lines file =
    (codes "polyanna" ∷ codes "1" ∷ [])
    ∷ (codes "domain" ∷ decimal file.language.domain ∷ [])
    ∷ (entry_lines file ++ (codes "end" ∷ []) ∷ [])

-- the canonical text
abbrev pub file_text : FileView → List ℕ
file_text file = joined printed_line (file_lines file)
