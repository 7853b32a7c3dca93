-- What a reader of verdicts may rely on.
use Rattle.std.proofs.Common.{◌≡◌, ◌↔◌, ℕ, zero, suc, ◌<◌, Bool, true, false, ◌||◌, List, [], ◌∷◌, ◌++◌, length, slice_index_or, refl, sym, ap, ap₂, ◌∙◌, subst, arith}
use Rattle.std.specs.Prelude.{Any}
use Rattle.pol_report.specs.declared.item.Item.{Item}
use Rattle.pol_report.specs.Texts.{last_line}
use Rattle.pol_lang.specs.Files.{FileView, IsFile}
use Rattle.pol_checker.specs.declared.verdict.Cause.{Cause}
use Rattle.pol_checker.specs.declared.verdict.Verdict.{Verdict}
use Rattle.pol_checker.specs.declared.verdict.Verdict.TheVariants.{Accepted, Unchecked, Rejected}
use Rattle.pol_checker.specs.Verdicts.{IsVerdict}
use Rattle.pol_checker.specs.Laws.{VerdictIsOne}
use Rattle.pol_cli.specs.declared.ended.Ended.{Ended}
use Rattle.pol_cli.specs.declared.ended.Ended.TheVariants as ended
use Rattle.pol_cli.specs.Checks.{has_rejected, verdicts_ending, verdict_lines, AreVerdicts, IsChecked}

-- the verdicts on the items are decided
verdicts_once : VerdictIsOne → (file : FileView) → IsFile file → (items : List Item) (some other : List Verdict) → AreVerdicts file items some → AreVerdicts file items other → some ≡ other
verdicts_once once file is [] [] [] all also = refl
verdicts_once once file is [] (v ∷ vs) other all also = absurd all
verdicts_once once file is [] [] (w ∷ ws) all also = absurd also
verdicts_once once file is (i ∷ is_left) [] other all also = absurd all
verdicts_once once file is (i ∷ is_left) (v ∷ vs) [] all also = absurd also
verdicts_once once file is (i ∷ is_left) (v ∷ vs) (w ∷ ws) all also =
    ap₂ (λ x xs. x ∷ xs) (once file i v w is all.0 also.0) (verdicts_once once file is is_left vs ws all.1 also.1)

-- and so are the text and the ending
pub checked_once : VerdictIsOne → (file : FileView) → IsFile file → (items : List Item) (one other : List ℕ) (ending last : Ended) → IsChecked file items one ending → IsChecked file items other last → (ending ≡ last) × (one ≡ other)
checked_once once file is items one other ending last checked also =
    let same = verdicts_once once file is items checked.verdicts also.verdicts checked.right also.right in (
      checked.ending_is ∙ (ap verdicts_ending same ∙ sym also.ending_is),
      checked.text_is ∙ (ap (λ verdicts. verdict_lines items verdicts ++ last_line) same ∙ sym also.text_is),
    )

-- ---- rejected items

-- some item is rejected
abbrev SomeRejected : FileView → List Item → Type 0
SomeRejected file items = Any (λ told. (cause : Cause) × IsVerdict file told (Rejected cause)) items

rejected_later : (file : FileView) (item : Item) (items : List Item) → SomeRejected file items → SomeRejected file (item ∷ items)
rejected_later file item items (k, told, inside, at, rejected) = (suc k, told, omega (arith, inside), at, rejected)

-- where a verdict is that an item is rejected, one is
rejected_found : (file : FileView) (items : List Item) (verdicts : List Verdict) → AreVerdicts file items verdicts → has_rejected verdicts ≡ true → SomeRejected file items
rejected_found file [] [] all rejected = absurd (cc rejected)
rejected_found file [] (v ∷ vs) all rejected = absurd all
rejected_found file (i ∷ is) [] all rejected = absurd all
rejected_found file (i ∷ is) (Rejected cause ∷ vs) all rejected = (zero, i, omega arith, refl, (cause, all.0))
rejected_found file (i ∷ is) (Accepted ∷ vs) all rejected = rejected_later file i is (rejected_found file is vs all.1 rejected)
rejected_found file (i ∷ is) (Unchecked ∷ vs) all rejected = rejected_later file i is (rejected_found file is vs all.1 rejected)

or-second : (a b : Bool) → b ≡ true → (a || b) ≡ true
or-second true b second = refl
or-second false b second = second

-- and where an item is rejected, its verdict is one of them
rejected_told_at : VerdictIsOne → (file : FileView) → IsFile file → (items : List Item) (verdicts : List Verdict) → AreVerdicts file items verdicts → (k : ℕ) (told : Item) → k < length items → slice_index_or items k told ≡ told → (cause : Cause) → IsVerdict file told (Rejected cause) → has_rejected verdicts ≡ true
rejected_told_at once file is [] verdicts all k told inside at cause rejected = absurd (omega (arith, inside))
rejected_told_at once file is (i ∷ is_left) [] all k told inside at cause rejected = absurd all
rejected_told_at once file is (i ∷ is_left) (v ∷ vs) all zero told inside at cause rejected =
    let same : v ≡ Rejected cause = once file i v (Rejected cause) is all.0 (subst (λ some. IsVerdict file some (Rejected cause)) (sym at) rejected) in
    rw same refl
rejected_told_at once file is (i ∷ is_left) (v ∷ vs) all (suc k) told inside at cause rejected =
    or-second _ (has_rejected vs) (rejected_told_at once file is is_left vs all.1 k told (omega (arith, inside)) at cause rejected)

rejected_made : VerdictIsOne → (file : FileView) → IsFile file → (items : List Item) (verdicts : List Verdict) → AreVerdicts file items verdicts → SomeRejected file items → has_rejected verdicts ≡ true
rejected_made once file is items verdicts all (k, told, inside, at, (cause, rejected)) = rejected_told_at once file is items verdicts all k told inside at cause rejected

-- how verdicts end tells whether one is rejected
rejected_ending : (verdicts : List Verdict) → (verdicts_ending verdicts ≡ ended.Rejected) ↔ (has_rejected verdicts ≡ true)
rejected_ending verdicts = by_test (has_rejected verdicts) refl
  where
    by_test : (b : Bool) → has_rejected verdicts ≡ b → (verdicts_ending verdicts ≡ ended.Rejected) ↔ (has_rejected verdicts ≡ true)
    by_test true is = (λ _. is, λ _. rw is refl)
    by_test false is = (λ same. absurd (cc (rw is at same)), λ yes. absurd (cc (is, yes)))

pub rejected_told : VerdictIsOne → (file : FileView) (items : List Item) (text : List ℕ) (ending : Ended) → IsFile file → IsChecked file items text ending → (ending ≡ ended.Rejected) ↔ Any (λ told. (cause : Cause) × IsVerdict file told (Rejected cause)) items
rejected_told once file items text ending is checked =
    let ends = rejected_ending checked.verdicts in (
      λ rejected. rejected_found file items checked.verdicts checked.right (ends.0 (sym checked.ending_is ∙ rejected)),
      λ some. checked.ending_is ∙ ends.1 (rejected_made once file is items checked.verdicts checked.right some),
    )
