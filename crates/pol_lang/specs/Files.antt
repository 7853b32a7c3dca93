-- Files: a language within the limits, and instances over it.
use Rattle.std.specs.Prelude.{◌≡◌, ◌≢◌, ◌≤◌, ◌<◌, ◌-◌, ℕ, true, List, []}
use Rattle.std.specs.Prelude.{◌∷◌, ◌++◌, length, map, slice_index_or, All, AllPairs, Contains}
use Rattle.pol_relation.specs.Relations.{LanguageView, IsLanguage, with_relation}
use Rattle.pol_relation.specs.Weights.{weight_of, subset_weight_of, most_weight}
use Rattle.pol_relation.specs.Instances.{InstanceView, IsInstance, Fits, ConstraintView, with_constraint}
use Rattle.pol_text.specs.Lines.{is_name}
use Rattle.pol_lang.specs.Limits.{most_relations, most_tuples, most_instances, most_variables, most_constraints}

-- a language within the limits, whose relations have names
pub record IsFileLanguage (lang : LanguageView) : Type 0 where
  pub is_language : IsLanguage lang
  pub names_are : All (λ named. is_name named.name ≡ true) lang.relations
  pub few_relations : length lang.relations ≤ most_relations
  pub few_tuples : All (λ named. length named.relation.rows ≤ most_tuples) lang.relations
  pub few_triples : weight_of 3 lang.relations ≤ most_weight
  pub few_subsets : subset_weight_of lang.domain lang.relations ≤ most_weight

-- an instance that fits the language, within the limits, which has a name and whose variables have names
pub record IsFileInstance (lang : LanguageView) (inst : InstanceView) : Type 0 where
  pub is_instance : IsInstance inst
  pub fits : Fits lang inst
  pub name_is : is_name inst.name ≡ true
  pub names_are : All (λ x. is_name x ≡ true) inst.variables
  pub some_variables : 1 ≤ length inst.variables
  pub few_variables : length inst.variables ≤ most_variables
  pub few_constraints : length inst.constraints ≤ most_constraints

-- a file: its language, and its instances in their order
pub record FileView : Type 0 where
  pub language : LanguageView
  pub instances : List InstanceView

-- a language and at most eight instances over it, no two of one name
pub record IsFile (file : FileView) : Type 0 where
  pub language_is : IsFileLanguage file.language
  pub instances_are : All (IsFileInstance file.language) file.instances
  pub distinct : AllPairs (λ i j. i.name ≢ j.name) file.instances
  pub few_instances : length file.instances ≤ most_instances

-- the names of the instances
abbrev pub instance_names : FileView → List (List ℕ)
instance_names file = map (λ inst. inst.name) file.instances

-- the instance fits the file's language, its name is new, and there is room for it
pub record CanTake (file : FileView) (inst : InstanceView) : Type 0 where
  pub is_file_instance : IsFileInstance file.language inst
  pub new_name : ¬ Contains (instance_names file) inst.name
  pub room : length file.instances < most_instances

-- ---- the parts of a file

-- what stands at a number that the file does not have
abbrev pub no_instance : InstanceView
no_instance = record { name = []; variables = []; constraints = [] }

-- the instance with the number
abbrev pub instance_of : FileView → ℕ → InstanceView
instance_of file i = slice_index_or file.instances i no_instance

-- the instance that was added last
abbrev pub last_instance : FileView → InstanceView
last_instance file = instance_of file (length file.instances - 1)

-- ---- files with one part more

-- the language with a further relation, the last, that has no rows yet
abbrev pub with_empty_relation : LanguageView → List ℕ → ℕ → LanguageView
with_empty_relation lang name arity =
    with_relation lang name (record { domain = lang.domain; arity = arity; rows = [] })

-- the file with another language
abbrev pub with_language : FileView → LanguageView → FileView
with_language file lang = record { language = lang; instances = file.instances }

-- an instance that has no constraints yet
abbrev pub begun_instance : List ℕ → List (List ℕ) → InstanceView
begun_instance name variables = record { name = name; variables = variables; constraints = [] }

-- the file with a further instance, the last
abbrev pub with_instance : FileView → InstanceView → FileView
with_instance file inst = record { language = file.language; instances = file.instances ++ inst ∷ [] }

-- the last of the instances has the constraint too
abbrev pub with_constraint_at_last : ConstraintView → List InstanceView → List InstanceView
with_constraint_at_last c [] = []
with_constraint_at_last c (inst ∷ []) = with_constraint inst c ∷ []
with_constraint_at_last c (inst ∷ next ∷ rest) = inst ∷ with_constraint_at_last c (next ∷ rest)

-- the file whose last instance has the constraint too
abbrev pub with_last_constraint : FileView → ConstraintView → FileView
with_last_constraint file c =
    record { language = file.language; instances = with_constraint_at_last c file.instances }

-- ---- files that were read

-- a file that was read, the place behind its `end` line, and the number of the line that begins there
pub record Parsed : Type 0 where
  pub file : FileView
  pub place : ℕ
  pub line : ℕ
