-- Texts that are appended part by part, and what stands where a part was not appended whole.
use Rattle.std.proofs.Common.{◌≡◌, ℕ, List, [], ◌∷◌, ◌++◌, sym, ◌∙◌, ap, append_assoc, append-nil, refl, Result, Ok, Err, subst, zero, suc, ◌<◌, length, take, get_or, arith, map, flat_map, drop, ◌+◌, ◌*◌, ◌≤◌, add-one, codes, All, length-append}
use Rattle.std.specs.Prelude.{Option, Some, OnOk, OnErr, IsErr}
use Rattle.std.proofs.lemmas.Result.{MatchResult-from_err}
use Rattle.std.proofs.lemmas.List.Elements.{All-head, All-tail}
use Rattle.std.specs.Io.KnownBytes.{Appends}
use Rattle.std.proofs.KnownBytes.{Appends-trans}
use Rattle.pol_text.specs.Texts.{joined, spaced_texts, printed_line, GrowsByFrontIn, GrowsByFront, PutsIn, Puts}

-- ---- fronts

regrouped : (a b c d : List ℕ) → a ++ (b ++ c) ++ d ≡ a ++ b ++ (c ++ d)
regrouped a b c d = simp append_assoc

-- a front of a text in the middle
pub front_behind : (old mid new : Option (List ℕ)) (front text rest : List ℕ) → Appends old mid front → GrowsByFrontIn mid new text → GrowsByFrontIn old new (front ++ text ++ rest)
front_behind old mid new front text rest grown part = record {
  front = front ++ part.front;
  rest = part.rest ++ rest;
  text_is = ap (λ bytes. front ++ bytes ++ rest) part.text_is ∙ regrouped front part.front part.rest rest;
  new_is = Appends-trans old mid new front part.front grown part.new_is;
}

-- a front of a text at the end
pub front_last : (old mid new : Option (List ℕ)) (front text : List ℕ) → Appends old mid front → GrowsByFrontIn mid new text → GrowsByFrontIn old new (front ++ text)
front_last old mid new front text grown part = record {
  front = front ++ part.front;
  rest = part.rest;
  text_is = ap (λ bytes. front ++ bytes) part.text_is ∙ sym (append_assoc front part.front part.rest);
  new_is = Appends-trans old mid new front part.front grown part.new_is;
}

pub GrowsByFront-last : (old mid new front text : List ℕ) → mid ≡ old ++ front → GrowsByFront mid new text → GrowsByFront old new (front ++ text)
GrowsByFront-last old mid new front text grown part = front_last (Some old) (Some mid) (Some new) front text grown part

-- a front of a text is a front of the longer text
pub GrowsByFront-more : (old new text rest : List ℕ) → GrowsByFront old new text → GrowsByFront old new (text ++ rest)
GrowsByFront-more old new text rest part = record {
  front = part.front;
  rest = part.rest ++ rest;
  text_is = ap (λ bytes. bytes ++ rest) part.text_is ∙ append_assoc part.front part.rest rest;
  new_is = part.new_is;
}

-- a whole text is a front of the longer text
pub GrowsByFront-whole : (old new text rest : List ℕ) → new ≡ old ++ text → GrowsByFront old new (text ++ rest)
GrowsByFront-whole old new text rest grown = record { front = text; rest = rest; text_is = refl; new_is = grown }

-- two texts, one behind the other
pub grown_twice : (old mid new one other : List ℕ) → mid ≡ old ++ one → new ≡ mid ++ other → new ≡ old ++ (one ++ other)
grown_twice old mid new one other first second = Appends-trans (Some old) (Some mid) (Some new) one other first second

-- ---- texts of lists

joined-next : {X : Type 0} (item : X → List ℕ) (xs : List X) (i : ℕ) (d : X) → i < length xs → joined item (take (suc i) xs) ≡ joined item (take i xs) ++ item (get_or xs i d)
joined-next item [] i d inside = absurd (omega arith)
joined-next item (x ∷ xs) zero d inside = append-nil (item x)
joined-next item (x ∷ xs) (suc i) d inside = ap (λ bytes. item x ++ bytes) (joined-next item xs i d (omega arith)) ∙ sym (append_assoc (item x) (joined item (take i xs)) (item (get_or xs i d)))

regrouped_again : (a b c d : List ℕ) → a ++ (b ++ c ++ d) ≡ a ++ b ++ c ++ d
regrouped_again a b c d = simp append_assoc

joined-at : {X : Type 0} (item : X → List ℕ) (xs : List X) (i : ℕ) (d : X) → i < length xs → joined item xs ≡ joined item (take i xs) ++ item (get_or xs i d) ++ joined item (drop (suc i) xs)
joined-at item [] i d inside = absurd (omega arith)
joined-at item (x ∷ xs) zero d inside = refl
joined-at item (x ∷ xs) (suc i) d inside = ap (λ bytes. item x ++ bytes) (joined-at item xs i d (omega arith)) ∙ regrouped_again (item x) (joined item (take i xs)) (item (get_or xs i d)) (joined item (drop (suc i) xs))

-- one item more stands behind the old
pub joined-appended : {X : Type 0} (item : X → List ℕ) (xs : List X) (i : ℕ) (d : X) (old mid new : Option (List ℕ)) → i < length xs → Appends old mid (joined item (take i xs)) → Appends mid new (item (get_or xs i d)) → Appends old new (joined item (take (i + 1) xs))
joined-appended item xs i d old mid new inside grown more =
    rw add-one (subst (Appends old new) (sym (joined-next item xs i d inside)) (Appends-trans old mid new (joined item (take i xs)) (item (get_or xs i d)) grown more))

pub joined-grown : {X : Type 0} (item : X → List ℕ) (xs : List X) (i : ℕ) (d : X) (old mid new : List ℕ) → i < length xs → mid ≡ old ++ joined item (take i xs) → new ≡ mid ++ item (get_or xs i d) → new ≡ old ++ joined item (take (i + 1) xs)
joined-grown item xs i d old mid new inside grown more = joined-appended item xs i d (Some old) (Some mid) (Some new) inside grown more

-- a front of an item stands behind the old
pub joined-front : {X : Type 0} (item : X → List ℕ) (xs : List X) (i : ℕ) (d : X) (old mid new : Option (List ℕ)) → i < length xs → Appends old mid (joined item (take i xs)) → GrowsByFrontIn mid new (item (get_or xs i d)) → GrowsByFrontIn old new (joined item xs)
joined-front item xs i d old mid new inside grown part = rw (joined-at item xs i d inside) (front_behind old mid new (joined item (take i xs)) (item (get_or xs i d)) (joined item (drop (suc i) xs)) grown part)

-- the texts of two lists, one behind the other
pub joined-append : {X : Type 0} (item : X → List ℕ) (xs ys : List X) → joined item (xs ++ ys) ≡ joined item xs ++ joined item ys
joined-append item [] ys = refl
joined-append item (x ∷ xs) ys = ap (λ bytes. item x ++ bytes) (joined-append item xs ys) ∙ sym (append_assoc (item x) (joined item xs) (joined item ys))

-- the texts of what is made of each element
pub joined-map : {X Y : Type 0} (item : Y → List ℕ) (f : X → Y) (xs : List X) → joined item (map f xs) ≡ joined (λ x. item (f x)) xs
joined-map item f [] = refl
joined-map item f (x ∷ xs) = ap (λ bytes. item (f x) ++ bytes) (joined-map item f xs)

-- the texts of the lists that are made of each element
pub joined-flat_map : {X Y : Type 0} (item : Y → List ℕ) (f : X → List Y) (xs : List X) → joined item (flat_map f xs) ≡ joined (λ x. joined item (f x)) xs
joined-flat_map item f [] = refl
joined-flat_map item f (x ∷ xs) = joined-append item (f x) (flat_map f xs) ∙ ap (λ bytes. joined item (f x) ++ bytes) (joined-flat_map item f xs)

-- ---- calls that append

-- a call that stopped in the text
pub puts_stopped : {A E : Type 0} (r : Result A E) (old new text : List ℕ) → IsErr r → GrowsByFront old new text → Puts r old new text
puts_stopped r old new text failed part = MatchResult-from_err r _ _ failed (λ _. part)

-- a call that appends the texts of a list one by one and stopped in one of them
pub joined-cut : {X A E : Type 0} (r : Result A E) (item : X → List ℕ) (xs : List X) (i : ℕ) (d : X) (old mid new : Option (List ℕ)) → IsErr r → i < length xs → Appends old mid (joined item (take i xs)) → GrowsByFrontIn mid new (item (get_or xs i d)) → PutsIn r old new (joined item xs)
joined-cut r item xs i d old mid new failed inside grown part = MatchResult-from_err r _ _ failed (λ _. joined-front item xs i d old mid new inside grown part)

pub joined-stopped : {X A E : Type 0} (r : Result A E) (item : X → List ℕ) (xs : List X) (i : ℕ) (d : X) (old mid new : List ℕ) → IsErr r → i < length xs → mid ≡ old ++ joined item (take i xs) → GrowsByFront mid new (item (get_or xs i d)) → Puts r old new (joined item xs)
joined-stopped r item xs i d old mid new failed inside grown part = joined-cut r item xs i d (Some old) (Some mid) (Some new) failed inside grown part

-- the same of the texts of what is made of each element
pub mapped-grown : {X Y : Type 0} (item : Y → List ℕ) (f : X → Y) (xs : List X) (i : ℕ) (d : X) (old mid new : List ℕ) → i < length xs → mid ≡ old ++ joined item (map f (take i xs)) → new ≡ mid ++ item (f (get_or xs i d)) → new ≡ old ++ joined item (map f (take (i + 1) xs))
mapped-grown item f xs i d old mid new inside grown more = rw (joined-map item f (take (i + 1) xs)) (joined-grown (λ x. item (f x)) xs i d old mid new inside (rw (joined-map item f (take i xs)) at grown) more)

pub mapped-stopped : {X Y A E : Type 0} (r : Result A E) (item : Y → List ℕ) (f : X → Y) (xs : List X) (i : ℕ) (d : X) (old mid new : List ℕ) → IsErr r → i < length xs → mid ≡ old ++ joined item (map f (take i xs)) → GrowsByFront mid new (item (f (get_or xs i d))) → Puts r old new (joined item (map f xs))
mapped-stopped r item f xs i d old mid new failed inside grown part = rw (joined-map item f xs) (joined-stopped r (λ x. item (f x)) xs i d old mid new failed inside (rw (joined-map item f (take i xs)) at grown) part)

-- and of the lists that are made of each element
pub flat_mapped-grown : {X Y : Type 0} (item : Y → List ℕ) (f : X → List Y) (xs : List X) (i : ℕ) (d : X) (old mid new : List ℕ) → i < length xs → mid ≡ old ++ joined item (flat_map f (take i xs)) → new ≡ mid ++ joined item (f (get_or xs i d)) → new ≡ old ++ joined item (flat_map f (take (i + 1) xs))
flat_mapped-grown item f xs i d old mid new inside grown more = rw (joined-flat_map item f (take (i + 1) xs)) (joined-grown (λ x. joined item (f x)) xs i d old mid new inside (rw (joined-flat_map item f (take i xs)) at grown) more)

pub flat_mapped-stopped : {X Y A E : Type 0} (r : Result A E) (item : Y → List ℕ) (f : X → List Y) (xs : List X) (i : ℕ) (d : X) (old mid new : List ℕ) → IsErr r → i < length xs → mid ≡ old ++ joined item (flat_map f (take i xs)) → GrowsByFront mid new (joined item (f (get_or xs i d))) → Puts r old new (joined item (flat_map f xs))
flat_mapped-stopped r item f xs i d old mid new failed inside grown part = rw (joined-flat_map item f xs) (joined-stopped r (λ x. joined item (f x)) xs i d old mid new failed inside (rw (joined-flat_map item f (take i xs)) at grown) part)

-- a call whose last step appends the last part of the text
pub puts_last : {A E : Type 0} (r : Result A E) (old mid new front last text : List ℕ) → mid ≡ old ++ front → OnOk r (new ≡ mid ++ last) → OnErr r (new ≡ mid) → text ≡ front ++ last → Puts r old new text
puts_last (Ok x) old mid new front last text grown more kept same = rw same (grown_twice old mid new front last grown more)
puts_last (Err e) old mid new front last text grown more kept same = rw same (GrowsByFront-whole old new front last (kept ∙ grown))

-- a call that stopped in the tokens behind the keyword of a line
pub GrowsByFront-line : (old mid new keyword : List ℕ) (tokens : List (List ℕ)) → mid ≡ old ++ keyword → GrowsByFront mid new (spaced_texts tokens) → GrowsByFront old new (printed_line (keyword ∷ tokens))
GrowsByFront-line old mid new keyword tokens grown part = GrowsByFront-more old new (keyword ++ spaced_texts tokens) (codes "\n") (GrowsByFront-last old mid new keyword (spaced_texts tokens) grown part)

-- the keyword of a line, the tokens behind it, and the LF
pub puts_line : {A E : Type 0} (r : Result A E) (old mid last new keyword : List ℕ) (tokens : List (List ℕ)) → mid ≡ old ++ keyword → last ≡ mid ++ spaced_texts tokens → OnOk r (new ≡ last ++ codes "\n") → OnErr r (new ≡ last) → Puts r old new (printed_line (keyword ∷ tokens))
puts_line r old mid last new keyword tokens first second ok err = puts_last r old last new (keyword ++ spaced_texts tokens) (codes "\n") _ (grown_twice old mid last keyword (spaced_texts tokens) first second) ok err refl

-- the texts of two items, of two lists and of a last item
pub joined-parts : {X : Type 0} (item : X → List ℕ) (first second last : X) (xs ys : List X) → joined item (first ∷ second ∷ (xs ++ ys ++ last ∷ [])) ≡ item first ++ item second ++ (joined item xs ++ (joined item ys ++ item last))
joined-parts item first second last xs ys = rw (joined-append item (xs ++ ys) (last ∷ []), joined-append item xs ys) (simp (append_assoc, append-nil))

-- what was cut off in a part of a text was cut off in the text
pub puts_cut : (old new text rest : List ℕ) → GrowsByFront old new text → GrowsByFront old new (text ++ rest)
puts_cut old new text rest part = GrowsByFront-more old new text rest part

-- two texts appended in turn, of which the first was appended whole
pub puts_then : {A E : Type 0} (r : Result A E) (old mid new : Option (List ℕ)) (one other : List ℕ) → Appends old mid one → PutsIn r mid new other → PutsIn r old new (one ++ other)
puts_then (Ok x) old mid new one other first second = Appends-trans old mid new one other first second
puts_then (Err e) old mid new one other first second = front_last old mid new one other first second

-- two texts appended in turn, where the first call was cut off
pub puts_first : {A E : Type 0} (r : Result A E) (old new : Option (List ℕ)) (one other : List ℕ) → IsErr r → GrowsByFrontIn old new one → PutsIn r old new (one ++ other)
puts_first r old new one other failed part = MatchResult-from_err r _ _ failed (λ _. record {
  front = part.front;
  rest = part.rest ++ other;
  text_is = ap (λ bytes. bytes ++ other) part.text_is ∙ append_assoc part.front part.rest other;
  new_is = part.new_is;
})

-- ---- lengths

-- the texts of a list of which each has at most n bytes
pub joined-long : {X : Type 0} (item : X → List ℕ) (n : ℕ) (xs : List X) → All (λ x. length (item x) ≤ n) xs → length (joined item xs) ≤ length xs * n
joined-long item n [] long = omega arith
joined-long item n (x ∷ xs) long =
    let first = All-head (λ y. length (item y) ≤ n) x xs long in
    let rest = joined-long item n xs (All-tail (λ y. length (item y) ≤ n) x xs long) in
    let whole = length-append (item x) (joined item xs) in
    grind arith

-- a line of which each token has at most n bytes
pub printed_line-long : (n : ℕ) (tokens : List (List ℕ)) → All (λ token. length token ≤ n) tokens → length (printed_line tokens) ≤ length tokens * (n + 1) + 1
printed_line-long n [] long = omega arith
printed_line-long n (token ∷ tokens) long =
    let first = All-head (λ t. length t ≤ n) token tokens long in
    let each : All (λ t. length (codes " " ++ t) ≤ n + 1) tokens = λ k fallback inside. let at = All-tail (λ t. length t ≤ n) token tokens long k fallback inside in omega arith in
    let rest = joined-long (λ t. codes " " ++ t) (n + 1) tokens each in
    let front = length-append token (spaced_texts tokens) in
    let whole = length-append (token ++ spaced_texts tokens) (codes "\n") in
    grind arith
