use Rattle.std.proofs.Common.{◌≡◌, ◌≢◌, ℕ, List, [], ◌∷◌, ◌++◌, Option, Some, None, Bor, sym, unwrap_or}
use Rattle.std.specs.Prelude.{MatchOption}
use Rattle.std.proofs.lemmas.Bool.Decides.{Decides-eqb}
use Rattle.std.proofs.lemmas.Slice.Eq.{strip_suffix_is}
use Rattle.pol_text.specs.Lines.{without_last}
use Rattle.pol_text.proofs.LineLemmas.{without_last-push, without_last-other}
use Rattle.pol_text.proofs.lines.without_last.Goals as goal

-- what is left is the front where the byte ends the list, and the list where it does not
front_of : (b : ℕ) (bs : Bor (List ℕ)) (front : Option (Bor (List ℕ))) → MatchOption front ((xs : List ℕ) → bs.now ≢ xs ++ b ∷ []) (λ x. bs.now ≡ x.now ++ b ∷ []) → (unwrap_or front bs).now ≡ without_last b bs.now
front_of b bs None other = sym (without_last-other b bs.now other)
front_of b bs (Some x) is = rw is (sym (without_last-push b x.now))

pub returns : goal.returns
returns c = record { front = rw c.unwrap_or.ensures (front_of c.args.byte c.args.bytes c.strip_suffix.result (strip_suffix_is Decides-eqb _ _ _ c.strip_suffix.ensures.cases)) }
