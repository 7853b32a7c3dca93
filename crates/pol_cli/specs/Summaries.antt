-- What the summary of a file is.
use Rattle.std.specs.Prelude.{◌≡◌, ℕ, zero, suc, ◌⊎◌, List, [], ◌∷◌, ◌++◌, length, Option}
use Rattle.std.specs.Prelude.{Some, None, codes, decimal}
use Rattle.pol_base.specs.declared.class_name.ClassName.{ClassName}
use Rattle.pol_base.specs.Names.{class_word}
use Rattle.pol_text.specs.Texts.{printed_line}
use Rattle.pol_relation.specs.Relations.{LanguageView}
use Rattle.pol_relation.specs.Instances.{InstanceView, IsSolution, HasNoSolution}
use Rattle.pol_optable.specs.ClassLines.{Serves, Chooses, all_classes}
use Rattle.pol_report.specs.Texts.{last_line}
use Rattle.pol_lang.specs.Files.{FileView}
use Rattle.pol_gen.specs.Files.{made_file}
use Rattle.pol_cli.specs.declared.summary.Tally.{Tally}

-- so many of the things are such
abbrev pub Counts : {A : Type 0} → (A → Type 0) → List A → ℕ → Type 0
Counts P [] n = n ≡ 0
Counts P (thing ∷ rest) zero = ¬ P thing × Counts P rest 0
Counts P (thing ∷ rest) (suc n) = (P thing × Counts P rest n) ⊎ (¬ P thing × Counts P rest (suc n))

-- an assignment is a solution
abbrev pub HasSolution : LanguageView → InstanceView → Type 0
HasSolution lang inst = (assignment : List ℕ) × IsSolution lang inst assignment

-- where a class is chosen each instance has a solution or has none, and else each is undecided
abbrev pub IsTally : LanguageView → Option ClassName → List InstanceView → Tally → Type 0
IsTally lang None instances tally = tally ≡ record { yes = 0; no = 0; undecided = length instances }
IsTally lang (Some class) instances tally =
    Counts (HasSolution lang) instances tally.yes
    × Counts (HasNoSolution lang) instances tally.no
    × (tally.undecided ≡ 0)

-- the word of the chosen class
abbrev pub chosen_word : Option ClassName → List ℕ
chosen_word None = codes "none"
chosen_word (Some class) = class_word class

-- the line of the chosen class
abbrev pub chosen_line : Option ClassName → List ℕ
chosen_line chosen = printed_line (codes "chosen" ∷ chosen_word chosen ∷ [])

-- a line of a word and a number
abbrev pub count_line : List ℕ → ℕ → List ℕ
count_line word n = printed_line (word ∷ decimal n ∷ [])

-- the number, the chosen class, of how many classes the line holds a table, and the tally of the instances
abbrev pub summary_text : ℕ → Option ClassName → ℕ → Tally → List ℕ
summary_text number chosen classes tally =
    count_line (codes "gen") number
    ++ chosen_line chosen
    ++ count_line (codes "classes") classes
    ++ count_line (codes "yes") tally.yes
    ++ count_line (codes "no") tally.no
    ++ count_line (codes "undecided") tally.undecided
    ++ last_line

-- the text is the summary of the file, which the number made
pub record IsSummaryOf (file : FileView) (number : ℕ) (text : List ℕ) : Type 0 where
  pub chosen : Option ClassName
  pub chooses : Chooses file.language chosen
  pub classes : ℕ
  pub serving : Counts (Serves file.language) all_classes classes
  pub tally : Tally
  pub tallied : IsTally file.language chosen file.instances tally
  pub text_is : text ≡ summary_text number chosen classes tally

-- the text is the summary of the file that the number makes
abbrev pub IsSummary : ℕ → List ℕ → Type 0
IsSummary number text = IsSummaryOf (made_file number) number text
