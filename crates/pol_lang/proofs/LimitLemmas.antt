-- What the grammar makes of a new tuple of the last relation, by the sum of the cubes with it.
use Rattle.std.proofs.Common.{ℕ, ◌<◌, ◌≤◌, ◌≡◌, false, List, length, Err, refl, Ok}
use Rattle.std.proofs.lemmas.Bool.{lt-ltb, lt-leb, le-leb}
use Rattle.pol_lang.specs.Limits.{most_tuples}
use Rattle.pol_relation.specs.Relations.{LanguageView, last_of, with_last_row}
use Rattle.pol_base.specs.Lists.{is_among}
use Rattle.pol_relation.specs.Weights.{weight_of, most_weight}
use Rattle.pol_lang.specs.Grammar.{with_tuple}
use Rattle.pol_text.specs.declared.word.Word.TheVariants.{TripleLimit}

-- the sum is beyond its limit
pub with_tuple-heavy : (lang : LanguageView) (t : List ℕ) → is_among (last_of lang).rows t ≡ false → length (last_of lang).rows < most_tuples → most_weight < weight_of 3 (with_last_row lang t).relations → with_tuple lang t ≡ Err TripleLimit
unfolding with_tuple
with_tuple-heavy lang t new room heavy = rw (new, lt-ltb (length (last_of lang).rows) most_tuples room, lt-leb (weight_of 3 (with_last_row lang t).relations) most_weight heavy) refl

-- the sum is within its limit
pub with_tuple-new : (lang : LanguageView) (t : List ℕ) → is_among (last_of lang).rows t ≡ false → length (last_of lang).rows < most_tuples → weight_of 3 (with_last_row lang t).relations ≤ most_weight → with_tuple lang t ≡ Ok (with_last_row lang t)
unfolding with_tuple
with_tuple-new lang t new room light = rw (new, lt-ltb (length (last_of lang).rows) most_tuples room, le-leb (weight_of 3 (with_last_row lang t).relations) most_weight light) refl
