-- How texts are put together, and what a call that appends one leaves where memory runs out.
use Rattle.std.specs.Prelude.{ℕ, List, [], ◌∷◌, ◌++◌, codes, decimal, ◌≡◌}
use Rattle.std.specs.Prelude.{Option, Some, Result, MatchResult}
use Rattle.std.specs.Io.KnownBytes.{Appends}

-- the texts of the items, one behind another
abbrev pub joined : {X : Type 0} → (X → List ℕ) → List X → List ℕ
joined item [] = []
joined item (x ∷ xs) = item x ++ joined item xs

-- the numbers, each behind a space
abbrev pub spaced : List ℕ → List ℕ
spaced numbers = joined (λ n. codes " " ++ decimal n) numbers

-- the texts, each behind a space
abbrev pub spaced_texts : List (List ℕ) → List ℕ
spaced_texts texts = joined (λ text. codes " " ++ text) texts

-- the tokens of a line, with one space between them
abbrev pub line_front : List (List ℕ) → List ℕ
line_front [] = []
line_front (token ∷ tokens) = token ++ spaced_texts tokens

-- a line of tokens: one space between them, and an LF behind the last
abbrev pub printed_line : List (List ℕ) → List ℕ
printed_line tokens = line_front tokens ++ codes "\n"

-- new is old and a front of the text behind it, where the bytes are told
pub record GrowsByFrontIn (old new : Option (List ℕ)) (text : List ℕ) : Type 0 where
  pub front : List ℕ
  pub rest : List ℕ
  pub text_is : text ≡ front ++ rest
  pub new_is : Appends old new front

-- a call that appends a text: it stands behind what was there, or where the call failed a front of it does
abbrev pub PutsIn : {A E : Type 0} → Result A E → (old new : Option (List ℕ)) → List ℕ → Type 0
PutsIn result old new text = MatchResult result (λ _. Appends old new text) (λ _. GrowsByFrontIn old new text)

-- new is old and a front of the text behind it
abbrev pub GrowsByFront : (old new text : List ℕ) → Type 0
GrowsByFront old new text = GrowsByFrontIn (Some old) (Some new) text

-- a call that appends a text: it stands behind what was there, or where memory ran out a front of it does
abbrev pub Puts : {A E : Type 0} → Result A E → (old new text : List ℕ) → Type 0
Puts result old new text = MatchResult result (λ _. new ≡ old ++ text) (λ _. GrowsByFront old new text)
