-- A text that is appended call by call: what stands behind the last call, and where one of them was cut off.
use Rattle.std.proofs.Common.{◌≡◌, ℕ, List, [], ◌∷◌, ◌++◌, codes, Result, refl, sym, ap, ◌∙◌, subst, append_assoc, append-nil}
use Rattle.std.specs.Prelude.{Option, IsErr}
use Rattle.std.specs.Io.KnownBytes.{Appends}
use Rattle.std.proofs.KnownBytes.{Appends-trans}
use Rattle.std.proofs.lemmas.Result.{MatchResult-from_err}
use Rattle.pol_text.specs.Texts.{GrowsByFrontIn, PutsIn, spaced_texts}
use Rattle.pol_text.proofs.TextLemmas.{front_behind, puts_first, puts_then, joined-append}

-- the call behind what is done was cut off
pub cut_off : {A E : Type 0} (r : Result A E) (old mid new : Option (List ℕ)) (done part rest whole : List ℕ) → IsErr r → Appends old mid done → GrowsByFrontIn mid new part → done ++ part ++ rest ≡ whole → PutsIn r old new whole
cut_off r old mid new done part rest whole failed stands front same =
    MatchResult-from_err r _ _ failed (λ _. subst (GrowsByFrontIn old new) same (front_behind old mid new done part rest stands front))

-- the first call was cut off
pub cut_first : {A E : Type 0} (r : Result A E) (old new : Option (List ℕ)) (part rest whole : List ℕ) → IsErr r → GrowsByFrontIn old new part → part ++ rest ≡ whole → PutsIn r old new whole
cut_first r old new part rest whole failed front same = subst (PutsIn r old new) same (puts_first r old new part rest failed front)

-- the last call behind what is done
pub last_call : {A E : Type 0} (r : Result A E) (old mid new : Option (List ℕ)) (done last whole : List ℕ) → Appends old mid done → PutsIn r mid new last → done ++ last ≡ whole → PutsIn r old new whole
last_call r old mid new done last whole stands puts same = subst (PutsIn r old new) same (puts_then r old mid new done last stands puts)

-- ---- lines of tokens behind a keyword

-- one token behind a space
pub one_token : (token : List ℕ) → codes " " ++ token ≡ spaced_texts (token ∷ [])
one_token token = sym (append-nil (codes " " ++ token))

-- the tokens so far, further ones, and what is behind them
line_parts : (keyword : List ℕ) (xs ys : List (List ℕ)) (last : List ℕ) → (keyword ++ spaced_texts xs) ++ spaced_texts ys ++ last ≡ keyword ++ spaced_texts (xs ++ ys) ++ last
line_parts keyword xs ys last =
    ap (λ bytes. bytes ++ last) (append_assoc keyword (spaced_texts xs) (spaced_texts ys) ∙ ap (λ bytes. keyword ++ bytes) (sym (joined-append (λ text. codes " " ++ text) xs ys)))

-- further tokens stand behind those so far
pub line_more : (old mid new : Option (List ℕ)) (keyword : List ℕ) (xs ys : List (List ℕ)) → Appends old mid (keyword ++ spaced_texts xs) → Appends mid new (spaced_texts ys) → Appends old new (keyword ++ spaced_texts (xs ++ ys))
line_more old mid new keyword xs ys stands more =
    subst (Appends old new) (append_assoc keyword (spaced_texts xs) (spaced_texts ys) ∙ ap (λ bytes. keyword ++ bytes) (sym (joined-append (λ text. codes " " ++ text) xs ys))) (Appends-trans old mid new (keyword ++ spaced_texts xs) (spaced_texts ys) stands more)

-- one token more stands behind those so far
pub line_one_more : (old mid new : Option (List ℕ)) (keyword : List ℕ) (xs : List (List ℕ)) (token : List ℕ) → Appends old mid (keyword ++ spaced_texts xs) → Appends mid new (codes " " ++ token) → Appends old new (keyword ++ spaced_texts (xs ++ token ∷ []))
line_one_more old mid new keyword xs token stands more = line_more old mid new keyword xs (token ∷ []) stands (subst (Appends mid new) (one_token token) more)

-- the last call puts one token more
pub line_token : {A E : Type 0} (r : Result A E) (old mid new : Option (List ℕ)) (keyword : List ℕ) (xs : List (List ℕ)) (token : List ℕ) → Appends old mid (keyword ++ spaced_texts xs) → PutsIn r mid new (codes " " ++ token) → PutsIn r old new (keyword ++ spaced_texts (xs ++ token ∷ []))
line_token r old mid new keyword xs token stands puts =
    let whole = append_assoc keyword (spaced_texts xs) (spaced_texts (token ∷ [])) ∙ ap (λ bytes. keyword ++ bytes) (sym (joined-append (λ text. codes " " ++ text) xs (token ∷ []))) in
    last_call r old mid new (keyword ++ spaced_texts xs) (spaced_texts (token ∷ [])) _ stands (subst (PutsIn r mid new) (one_token token) puts) whole

-- further tokens were cut off behind those so far
pub line_cut : {A E : Type 0} (r : Result A E) (old mid new : Option (List ℕ)) (keyword : List ℕ) (xs ys zs : List (List ℕ)) (last : List ℕ) → IsErr r → Appends old mid (keyword ++ spaced_texts xs) → GrowsByFrontIn mid new (spaced_texts ys) → PutsIn r old new (keyword ++ spaced_texts (xs ++ (ys ++ zs)) ++ last)
line_cut r old mid new keyword xs ys zs last failed stands front =
    let rest : (keyword ++ spaced_texts xs) ++ spaced_texts ys ++ (spaced_texts zs ++ last) ≡ (keyword ++ spaced_texts xs) ++ spaced_texts (ys ++ zs) ++ last =
    regroup (keyword ++ spaced_texts xs) (spaced_texts ys) (spaced_texts zs) last ∙ ap (λ bytes. (keyword ++ spaced_texts xs) ++ bytes ++ last) (sym (joined-append (λ text. codes " " ++ text) ys zs)) in
    cut_off r old mid new (keyword ++ spaced_texts xs) (spaced_texts ys) (spaced_texts zs ++ last) _ failed stands front (rest ∙ line_parts keyword xs (ys ++ zs) last)
  where
    regroup : (a b c d : List ℕ) → a ++ b ++ (c ++ d) ≡ a ++ (b ++ c) ++ d
    regroup a b c d = simp append_assoc refl

-- the first tokens were cut off
pub line_cut_first : {A E : Type 0} (r : Result A E) (old new : Option (List ℕ)) (keyword : List ℕ) (xs ys : List (List ℕ)) (last : List ℕ) → IsErr r → GrowsByFrontIn old new (keyword ++ spaced_texts xs) → PutsIn r old new (keyword ++ spaced_texts (xs ++ ys) ++ last)
line_cut_first r old new keyword xs ys last failed front =
    cut_first r old new (keyword ++ spaced_texts xs) (spaced_texts ys ++ last) _ failed front (sym (append_assoc (keyword ++ spaced_texts xs) (spaced_texts ys) last) ∙ line_parts keyword xs ys last)

-- the last tokens of the line were cut off
pub line_cut_last : {A E : Type 0} (r : Result A E) (old mid new : Option (List ℕ)) (keyword : List ℕ) (xs ys : List (List ℕ)) (last : List ℕ) → IsErr r → Appends old mid (keyword ++ spaced_texts xs) → GrowsByFrontIn mid new (spaced_texts ys) → PutsIn r old new (keyword ++ spaced_texts (xs ++ ys) ++ last)
line_cut_last r old mid new keyword xs ys last failed stands front =
    cut_off r old mid new (keyword ++ spaced_texts xs) (spaced_texts ys) last _ failed stands front (line_parts keyword xs ys last)

-- the last token of the line was cut off
pub line_cut_token : {A E : Type 0} (r : Result A E) (old mid new : Option (List ℕ)) (keyword : List ℕ) (xs : List (List ℕ)) (token last : List ℕ) → IsErr r → Appends old mid (keyword ++ spaced_texts xs) → GrowsByFrontIn mid new (codes " " ++ token) → PutsIn r old new (keyword ++ spaced_texts (xs ++ token ∷ []) ++ last)
line_cut_token r old mid new keyword xs token last failed stands front =
    line_cut_last r old mid new keyword xs (token ∷ []) last failed stands (subst (GrowsByFrontIn mid new) (one_token token) front)

-- the first tokens of a line whose LF is not yet due were cut off
pub line_front_cut : {A E : Type 0} (r : Result A E) (old new : Option (List ℕ)) (keyword : List ℕ) (xs ys : List (List ℕ)) → IsErr r → GrowsByFrontIn old new (keyword ++ spaced_texts xs) → PutsIn r old new (keyword ++ spaced_texts (xs ++ ys))
line_front_cut r old new keyword xs ys failed front =
    cut_first r old new (keyword ++ spaced_texts xs) (spaced_texts ys) _ failed front (append_assoc keyword (spaced_texts xs) (spaced_texts ys) ∙ ap (λ bytes. keyword ++ bytes) (sym (joined-append (λ text. codes " " ++ text) xs ys)))

-- the line is ended, or is a front of itself
pub line_ended : {A E : Type 0} (r : Result A E) (old mid new : Option (List ℕ)) (line : List ℕ) → Appends old mid line → PutsIn r mid new (codes "\n") → PutsIn r old new (line ++ codes "\n")
line_ended r old mid new line stands ended = puts_then r old mid new line (codes "\n") stands ended
