-- What a reader that accepts has read: the tests that passed, and what was taken of a line.
use Rattle.std.proofs.Common.{◌≡◌, Bool, true, [], Result, Ok, false, refl, ℕ, Option, Some, None, List, Err, ◌∷◌, length, arith, ap, ◌<◌, drop, sym}
use Rattle.pol_base.proofs.LookupLemmas.{is_same-decides}
use Rattle.pol_text.specs.declared.word.Word.{Word}
use Rattle.pol_text.specs.Reading.{unless, after_number, after_values, begins_with, after_line}
use Rattle.pol_text.specs.Lines.{token_at, LineView}
use Rattle.pol_text.specs.declared.refusal.Refusal.{Refusal}

-- a test that was passed
pub record PassedTest {A : Type 0} (test : Bool) (next : Result A Word) (found : A) : Type 0 where
  pub passed : test ≡ true
  pub went_on : next ≡ Ok found

pub unless-ok : {A : Type 0} (test : Bool) (word : Word) (next : Result A Word) (found : A) → unless test word next ≡ Ok found → PassedTest test next found
unless-ok true word next found e = record { passed = refl; went_on = e }
unless-ok false word next found e = cc

-- a value that was read
pub record PassedValue {A B : Type 0} (next : A → Result B Word) (found : B) (Read : A → Type 0) : Type 0 where
  pub value : A
  pub read : Read value
  pub went_on : next value ≡ Ok found

pub after_number-ok : {A : Type 0} (number : Option ℕ) (word : Word) (next : ℕ → Result A Word) (found : A) → after_number number word next ≡ Ok found → PassedValue next found (λ n. number ≡ Some n)
after_number-ok None word next found e = cc
after_number-ok (Some n) word next found e = record { value = n; read = refl; went_on = e }

pub after_values-ok : {A : Type 0} (values : Result (List ℕ) Word) (next : List ℕ → Result A Word) (found : A) → after_values values next ≡ Ok found → PassedValue next found (λ vs. values ≡ Ok vs)
after_values-ok (Err word) next found e = cc
after_values-ok (Ok vs) next found e = record { value = vs; read = refl; went_on = e }

-- ---- tokens

pub one_token : (tokens : List (List ℕ)) → length tokens ≡ 1 → tokens ≡ token_at tokens 0 ∷ []
one_token [] long = absurd (omega arith)
one_token (a ∷ []) long = refl
one_token (a ∷ b ∷ rest) long = absurd (omega arith)

pub two_tokens : (tokens : List (List ℕ)) → length tokens ≡ 2 → tokens ≡ token_at tokens 0 ∷ token_at tokens 1 ∷ []
two_tokens [] long = absurd (omega arith)
two_tokens (a ∷ rest) long = ap (λ ts. a ∷ ts) (one_token rest (omega arith))

pub three_tokens : (tokens : List (List ℕ)) → length tokens ≡ 3 → tokens ≡ token_at tokens 0 ∷ token_at tokens 1 ∷ token_at tokens 2 ∷ []
three_tokens [] long = absurd (omega arith)
three_tokens (a ∷ rest) long = ap (λ ts. a ∷ ts) (two_tokens rest (omega arith))

pub begins_with-first : (keyword : List ℕ) (tokens : List (List ℕ)) → begins_with keyword tokens ≡ true → token_at tokens 0 ≡ keyword
begins_with-first keyword tokens begins = (is_same-decides (token_at tokens 0) keyword).0 begins

pub begins_with-rest : (keyword : List ℕ) (tokens : List (List ℕ)) → 0 < length keyword → token_at tokens 0 ≡ keyword → tokens ≡ keyword ∷ drop 1 tokens
begins_with-rest keyword [] some first = absurd (let none : length keyword ≡ 0 = ap length (sym first) in omega arith)
begins_with-rest keyword (a ∷ rest) some first = ap (λ t. t ∷ rest) first

-- a line that was passed was accepted
pub record Passed {A B : Type 0} (read : Result A Word) (next : A → Result B Refusal) (found : B) : Type 0 where
  pub value : A
  pub accepted : read ≡ Ok value
  pub went_on : next value ≡ Ok found

pub after_line-ok : {A B : Type 0} (l : LineView) (read : Result A Word) (next : A → Result B Refusal) (found : B) → after_line l read next ≡ Ok found → Passed read next found
after_line-ok l (Ok x) next found e = record { value = x; accepted = refl; went_on = e }
after_line-ok l (Err word) next found e = cc
