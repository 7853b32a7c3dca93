-- Texts that calls append, one behind another.
use Rattle.std.proofs.Common.{◌≡◌, ℕ, List, ◌++◌, ap, ◌∙◌, append_assoc}
use Rattle.std.specs.Prelude.{Result, Ok, Err, OnOk}
use Rattle.pol_text.specs.Texts.{Puts}

-- where a call appended its text whole, what follows from that
pub put_whole : {A E : Type 0} (r : Result A E) (old new text : List ℕ) {P : Type 0} → Puts r old new text → (new ≡ old ++ text → P) → OnOk r P
put_whole (Ok x) old new text puts follows = follows puts
put_whole (Err e) old new text puts follows = tt

-- what stands behind a text that stands behind another
pub appended_behind : (old front new first second : List ℕ) → front ≡ old ++ first → new ≡ front ++ second → new ≡ old ++ (first ++ second)
appended_behind old front new first second one two = two ∙ (ap (λ text. text ++ second) one ∙ append_assoc old first second)
