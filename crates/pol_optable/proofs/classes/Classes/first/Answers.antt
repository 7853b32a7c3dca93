use Rattle.std.proofs.Common.{◌≡◌, ℕ, arith, inl, inr, get_or, subst, Bool, true, false}
use Rattle.std.specs.Prelude.{IsTrue}
use Rattle.std.proofs.lemmas.Bool.{cases_eq}
use Rattle.std.proofs.lemmas.List.{get_or_default}
use Rattle.pol_base.specs.declared.class_name.ClassName.TheVariants.{Constant}
use Rattle.pol_optable.specs.ClassLines.{all_classes}
use Rattle.pol_optable.specs.Choices.{HasTable}
use Rattle.pol_optable.proofs.LineLemmas.{first_at}
use Rattle.pol_optable.proofs.classes.Classes.first.Goals as goal

refuted : (b : Bool) → b ≡ false → ¬ IsTrue b
refuted true e h = cc
refuted false e h = cc

-- no class before this one has a table
pub returns-then-has_table : goal.returns-then-has_table
returns-then-has_table c =
    let has = c.has_table.ensures.table.0 c.if-has_table.true in
    record { first = first_at (HasTable c.args.self.now) Constant all_classes c.loop-class.class-index c.loop-class-test.true has c.loop-class.invariant }

pub loop-class-preserved : goal.loop-class-preserved
loop-class-preserved c k less holds =
    let here : ℕ → Type 0 = λ i. HasTable c.args.self.now (get_or all_classes i Constant) in
    elim (cases_eq k c.loop-class.class-index) [
      | inl same ↦ refuted c.has_table.result c.if-has_table.false (c.has_table.ensures.table.1 (subst here same holds))
      | inr apart ↦ c.loop-class.invariant k (omega (arith, less, apart)) holds
    ]

pub returns : goal.returns
returns c = record {
  first = λ k d inside holds.
      let has : HasTable c.args.self.now (get_or all_classes k Constant) =
      subst (HasTable c.args.self.now) (get_or_default all_classes k d Constant inside) holds in
      c.loop-class.invariant k (omega (arith, inside, c.loop-class-test.false)) has;
}
