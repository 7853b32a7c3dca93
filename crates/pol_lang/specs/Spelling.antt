-- How a file is spelled: the tokens of the lines that say it, in a reader's terms.
use Rattle.std.specs.Prelude.{◌≡◌, ℕ, List, [], map, Some, ◌∷◌, codes}
use Rattle.std.specs.Prelude.{true, All, Any, slice_index_or, ◌+◌, ◌++◌, flat_map}
use Rattle.std.specs.List.{AllZip}
use Rattle.pol_text.specs.Lines.{number_of, is_name, LineView}
use Rattle.pol_relation.specs.Relations.{LanguageView, name_of, NamedRelation}
use Rattle.pol_relation.specs.Instances.{ConstraintView, InstanceView}
use Rattle.pol_lang.specs.Files.{FileView, Parsed, IsFile}

-- the tokens write the values, one each
abbrev pub Write : List (List ℕ) → List ℕ → Type 0
Write tokens values = map number_of tokens ≡ map (λ v. Some v) values

-- the lines of one relation: a name, an arity, and the values of each tuple line
pub record Block : Type 0 where
  pub name : List ℕ
  pub arity : List ℕ
  pub tuples : List (List (List ℕ))

-- the tokens of each line of the block
abbrev pub block_lines : Block → List (List (List ℕ))
block_lines block =
    (codes "relation" ∷ block.name ∷ block.arity ∷ [])
    ∷ map (λ values. codes "tuple" ∷ values) block.tuples

-- the block says the relation under its name: each tuple line writes a row, and each row is written
pub record Spells (block : Block) (named : NamedRelation) : Type 0 where
  pub is_name : is_name block.name ≡ true
  pub same_name : block.name ≡ named.name
  pub arity_is : number_of block.arity ≡ Some named.relation.arity
  pub rows_only : All (λ tokens. Any (Write tokens) named.relation.rows) block.tuples
  pub each_row : All (λ row. Any (λ tokens. Write tokens row) block.tuples) named.relation.rows

-- the tokens behind the keyword of a constraint's line: the names of its relation and of its variables
abbrev pub constraint_tokens : LanguageView → InstanceView → ConstraintView → List (List ℕ)
constraint_tokens lang inst c = name_of lang c.relation ∷ map (λ x. slice_index_or inst.variables x []) c.scope

-- the tokens of each line of the instance
abbrev pub instance_lines : LanguageView → InstanceView → List (List (List ℕ))
instance_lines lang inst =
    (codes "instance" ∷ inst.name ∷ inst.variables)
    ∷ map (λ c. codes "constraint" ∷ constraint_tokens lang inst c) inst.constraints

-- the tokens of each line before `end`: the version, the domain, the blocks of the relations, and the instances
abbrev pub lines_before_end : (version domain : List ℕ) → List Block → FileView → List (List (List ℕ))
lines_before_end version domain blocks file =
    (codes "polyanna" ∷ version ∷ [])
    ∷ (codes "domain" ∷ domain ∷ [])
    ∷ (flat_map block_lines blocks ++ flat_map (instance_lines file.language) file.instances)

-- the first of the lines, up to the one behind which the file ends, say the file
pub record IsSpelled (lines : List LineView) (found : Parsed) : Type 0 where
  pub version : List ℕ
  pub domain : List ℕ
  pub blocks : List Block
  pub front : List LineView
  pub last : LineView
  pub rest : List LineView
  pub version_is : number_of version ≡ Some 1
  pub domain_is : number_of domain ≡ Some found.file.language.domain
  pub relations_are : AllZip Spells blocks found.file.language.relations
  pub is_file : IsFile found.file
  pub lines_are : lines ≡ front ++ last ∷ rest
  pub front_is : map (λ l. l.tokens) front ≡ lines_before_end version domain blocks found.file
  pub last_is : last.tokens ≡ codes "end" ∷ []
  pub place_is : found.place ≡ last.after
  pub line_is : found.line ≡ last.number + 1
