-- Verdicts as they are written, one by one.
use Rattle.std.proofs.Common.{◌≡◌, ℕ, ◌+◌, ◌<◌, ◌≤◌, Bool, true, false, ◌||◌, List, [], ◌∷◌, ◌++◌, length, take, get_or, slice_get, Some, refl, sym, ap, ◌∙◌, subst, append_assoc, append-nil}
use Rattle.std.specs.List.{AllZip}
use Rattle.std.proofs.lemmas.List.{take_more, take_all}
use Rattle.std.proofs.lemmas.Option.{slice_get-get_or}
use Rattle.pol_report.specs.declared.item.Item.{Item}
use Rattle.pol_lang.specs.Files.{FileView}
use Rattle.pol_checker.specs.declared.verdict.Verdict.{Verdict}
use Rattle.pol_checker.specs.Verdicts.{IsVerdict}
use Rattle.pol_checker.specs.VerdictTexts.{verdict_line}
use Rattle.pol_cli.specs.Checks.{is_rejected, has_rejected, verdict_lines, AreVerdicts, AreJudged, AppendsVerdict}

-- one more at the end
AllZip-pushed : {A B : Type 0} (R : A → B → Type 0) (xs : List A) (ys : List B) (x : A) (y : B) → AllZip R xs ys → R x y → AllZip R (xs ++ x ∷ []) (ys ++ y ∷ [])
AllZip-pushed R [] [] x y all last = (last, tt)
AllZip-pushed R [] (b ∷ ys) x y all last = absurd all
AllZip-pushed R (a ∷ xs) [] x y all last = absurd all
AllZip-pushed R (a ∷ xs) (b ∷ ys) x y all last = (all.0, AllZip-pushed R xs ys x y all.1 last)

lines-pushed : (file : FileView) (items : List Item) (verdicts : List Verdict) (item : Item) (verdict : Verdict) → AreVerdicts file items verdicts → verdict_lines (items ++ item ∷ []) (verdicts ++ verdict ∷ []) ≡ verdict_lines items verdicts ++ verdict_line item verdict
lines-pushed file [] [] item verdict all = append-nil (verdict_line item verdict)
lines-pushed file [] (v ∷ vs) item verdict all = absurd all
lines-pushed file (i ∷ is) [] item verdict all = absurd all
lines-pushed file (i ∷ is) (v ∷ vs) item verdict all =
    ap (λ rest. verdict_line i v ++ rest) (lines-pushed file is vs item verdict all.1)
    ∙ sym (append_assoc (verdict_line i v) (verdict_lines is vs) (verdict_line item verdict))

or-assoc : (a b c : Bool) → (a || (b || c)) ≡ ((a || b) || c)
or-assoc true b c = refl
or-assoc false b c = refl

or-last : (b : Bool) → (b || false) ≡ b
or-last true = refl
or-last false = refl

rejected-pushed : (verdicts : List Verdict) (verdict : Verdict) → has_rejected (verdicts ++ verdict ∷ []) ≡ (has_rejected verdicts || is_rejected verdict)
rejected-pushed [] verdict = or-last (is_rejected verdict)
rejected-pushed (v ∷ vs) verdict =
    ap (λ rest. is_rejected v || rest) (rejected-pushed vs verdict)
    ∙ or-assoc (is_rejected v) (has_rejected vs) (is_rejected verdict)

-- one or the other, as it is computed
pub or-there : (a b joined : Bool) → a ≡ true → joined ≡ a → (a || b) ≡ joined
or-there true b joined here is = sym is
or-there false b joined here is = absurd (cc here)

pub or-not_there : (a b joined : Bool) → a ≡ false → joined ≡ b → (a || b) ≡ joined
or-not_there false b joined none is = sym is
or-not_there true b joined none is = absurd (cc none)

-- no verdicts yet
pub AreJudged-none : (file : FileView) → AreJudged file [] [] false
AreJudged-none file = record { verdicts = []; right = tt; text_is = refl; rejected_is = refl }

-- one verdict more
pub AreJudged-push : (file : FileView) (items : List Item) (item : Item) (old new : List ℕ) (before one : Bool) → AreJudged file items old before → AppendsVerdict file item old new one → AreJudged file (items ++ item ∷ []) new (before || one)
AreJudged-push file items item old new before one judged more = record {
  verdicts = judged.verdicts ++ more.verdict ∷ [];
  right = AllZip-pushed (IsVerdict file) items judged.verdicts item more.verdict judged.right more.right;
  text_is =
      more.appended
      ∙ (ap (λ front. front ++ verdict_line item more.verdict) judged.text_is
      ∙ sym (lines-pushed file items judged.verdicts item more.verdict judged.right));
  rejected_is =
      ap (λ b. b || one) judged.rejected_is
      ∙ (ap (λ b. has_rejected judged.verdicts || b) more.rejected_is
      ∙ sym (rejected-pushed judged.verdicts more.verdict));
}

-- the verdicts on the items up to the next place
pub AreJudged-next : (file : FileView) (items : List Item) (i : ℕ) (item : Item) (old new : List ℕ) (before one : Bool) → i < length items → slice_get items i ≡ Some item → AreJudged file (take i items) old before → AppendsVerdict file item old new one → AreJudged file (take (i + 1) items) new (before || one)
AreJudged-next file items i item old new before one inside at judged more =
    let here : get_or items i item ≡ item = cc (slice_get-get_or items i item inside, at) in
    let taken : take (i + 1) items ≡ take i items ++ item ∷ [] = take_more items i item inside ∙ ap (λ it. take i items ++ it ∷ []) here in
    subst (λ some. AreJudged file some new (before || one)) (sym taken)
    (AreJudged-push file (take i items) item old new before one judged more)

-- and on all of them
pub AreJudged-all : (file : FileView) (items : List Item) (i : ℕ) (text : List ℕ) (rejected : Bool) → length items ≤ i → AreJudged file (take i items) text rejected → AreJudged file items text rejected
AreJudged-all file items i text rejected all judged =
    subst (λ some. AreJudged file some text rejected) (take_all i items all) judged
