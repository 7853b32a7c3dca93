-- What a report of a file is, and what a begun one is.
use Rattle.std.specs.Prelude.{◌≡◌, ◌⊎◌, ℕ, List, ◌++◌, map, Option, Some, None}
use Rattle.std.specs.Io.KnownBytes.{Appends}
use Rattle.pol_outside.specs.Contents.{AppendsFront}
use Rattle.std.specs.List.{AllZip}
use Rattle.pol_base.specs.declared.class_name.ClassName.{ClassName}
use Rattle.pol_text.specs.Texts.{joined}
use Rattle.pol_relation.specs.Relations.{LanguageView}
use Rattle.pol_relation.specs.Instances.{InstanceView}
use Rattle.pol_optable.specs.ClassLines.{Line, ClassLine, Chooses, all_classes}
use Rattle.pol_optable.specs.ClassLines.Line.{Beyond, Sought}
use Rattle.pol_solve.specs.declared.answering.InstanceAnswer.{InstanceAnswer}
use Rattle.pol_solve.specs.declared.answering.InstanceAnswer.TheVariants as answer
use Rattle.pol_solve.specs.Answers.{AnswersBy}
use Rattle.pol_report.specs.declared.item.Item.{Item}
use Rattle.pol_report.specs.declared.item.Item.TheVariants as item
use Rattle.pol_report.specs.Texts.{head_line, last_line, item_text}
use Rattle.pol_lang.specs.Files.{FileView}

-- the item that tells the line of a class: that nothing was sought, that there is no table, or the table
abbrev pub class_item : ClassName → Line → Item
class_item class Beyond = item.ClassBeyond
class_item class (Sought None) = item.ClassNone class
class_item class (Sought (Some cells)) = item.ClassTable class cells

-- the item tells the line of the class
pub record IsClassItem (lang : LanguageView) (class : ClassName) (told : Item) : Type 0 where
  pub line : Line
  pub is_line : ClassLine class lang line
  pub item_is : told ≡ class_item class line

-- the item that tells what is answered by the method of the chosen class of the instance with the name
abbrev pub answer_item : List ℕ → Option ClassName → InstanceAnswer → Item
answer_item name None given = item.Undecided name
answer_item name (Some class) (answer.Yes values) = item.Yes name class values
answer_item name (Some class) (answer.NoLog log) = item.NoLog name class log
answer_item name (Some class) (answer.NoSum combination) = item.NoSum name combination
answer_item name (Some class) (answer.YesSizes values sizes) = item.YesSizes name values sizes
answer_item name (Some class) (answer.NoSizes sizes) = item.NoSizes name sizes
answer_item name (Some class) answer.Undecided = item.Undecided name

-- the item tells the answer that the chosen class owes the instance
pub record IsInstanceItem (lang : LanguageView) (inst : InstanceView) (told : Item) : Type 0 where
  pub chosen : Option ClassName
  pub chooses : Chooses lang chosen
  pub given : InstanceAnswer
  pub owed : AnswersBy chosen lang inst given
  pub item_is : told ≡ answer_item inst.name chosen given

-- what a report has an item for
pub data Subject : Type 0 where
  OfClass : ClassName → Subject
  OfInstance : InstanceView → Subject

-- the item is right as that of the subject
abbrev pub IsItem : LanguageView → Subject → Item → Type 0
IsItem lang (Subject.OfClass class) told = IsClassItem lang class told
IsItem lang (Subject.OfInstance inst) told = IsInstanceItem lang inst told

-- each class in the order of the classes, and behind them each instance in its order
abbrev pub subjects : FileView → List Subject
subjects file = map Subject.OfClass all_classes ++ map Subject.OfInstance file.instances

-- the head line, and behind it a right item of each of the subjects in their order
pub record HasItems (lang : LanguageView) (some : List Subject) (text : List ℕ) : Type 0 where
  pub items : List Item
  pub right : AllZip (IsItem lang) some items
  pub text_is : text ≡ head_line ++ joined item_text items

-- a right item of each of the subjects was appended, in their order
pub record AppendsItems (lang : LanguageView) (some : List Subject) (old new : Option (List ℕ)) : Type 0 where
  pub items : List Item
  pub right : AllZip (IsItem lang) some items
  pub appended : Appends old new (joined item_text items)

-- a front was appended of right items of the first of the subjects
pub record AppendsItemsFront (lang : LanguageView) (some : List Subject) (old new : Option (List ℕ)) : Type 0 where
  pub first : List Subject
  pub later : List Subject
  pub split : some ≡ first ++ later
  pub items : List Item
  pub right : AllZip (IsItem lang) first items
  pub appended : AppendsFront old new (joined item_text items)

-- an item of each subject, and the last line behind them
pub record IsReport (file : FileView) (text : List ℕ) : Type 0 where
  pub front : List ℕ
  pub has_items : HasItems file.language (subjects file) front
  pub text_is : text ≡ front ++ last_line

-- an item of each of some first subjects
pub record IsBegunReport (file : FileView) (text : List ℕ) : Type 0 where
  pub first : List Subject
  pub later : List Subject
  pub split : subjects file ≡ first ++ later
  pub has_items : HasItems file.language first text

-- the report was appended
pub record AppendsReport (file : FileView) (old new : Option (List ℕ)) : Type 0 where
  pub text : List ℕ
  pub is_report : IsReport file text
  pub appended : Appends old new text

-- a front was appended of the report, or of a begun one
pub record AppendsReportFront (file : FileView) (old new : Option (List ℕ)) : Type 0 where
  pub text : List ℕ
  pub is : IsBegunReport file text ⊎ IsReport file text
  pub appended : AppendsFront old new text
