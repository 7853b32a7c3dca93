-- Reading so many, one behind another, behind what is read already.
use Rattle.std.proofs.Common.{◌≡◌, Bool, true, false, IsTrue, ℕ, zero, suc, ◌+◌, ◌-◌, ◌<◌, ◌≤◌, List, [], ◌∷◌, ◌++◌, length, Result, Ok, Err, refl, ap, sym, arith, append_assoc}
use Rattle.std.proofs.lemmas.List.{append-nil}
use Rattle.std.specs.Bool.{OnTrue}
use Rattle.pol_text.specs.declared.refusal.LineFail.{LineFail}
use Rattle.pol_text.specs.declared.refusal.LineFail.TheVariants as line_fail
use Rattle.pol_text.specs.declared.refusal.ReadFail.{ReadFail}
use Rattle.pol_text.specs.declared.refusal.ReadFail.TheVariants as read_fail
use Rattle.pol_text.specs.declared.refusal.Refusal.{Refusal}
use Rattle.pol_text.specs.declared.word.Word.{Word}
use Rattle.pol_text.specs.declared.word.Word.TheVariants.{BadLine}
use Rattle.pol_report.specs.Tokens.{after, counted, to_end}
use Rattle.pol_report.specs.Reading.{Took, Takes, TookLines, behind, all_behind}

-- ---- so many

-- as many are left as are not read yet
left_is : (n i : ℕ) → i < n → n - i ≡ suc (n - (i + 1))
left_is n i small = omega arith

none_left : (n i : ℕ) → n ≤ i → n - i ≡ 0
none_left n i done = omega arith

behind_more : {A R E : Type 0} (front : List A) (x : A) (read : Result (List A × R) E) → behind front (after read (λ more. Ok (x ∷ more.0, more.1))) ≡ behind (front ++ x ∷ []) read
behind_more front x (Err refusal) = refl
behind_more front x (Ok read) = ap (λ xs. Ok (xs, read.1)) (sym (append_assoc front (x ∷ []) read.0))

-- one more was read
pub counted-next : {A R E : Type 0} (read : R → Result (A × R) E) (n i : ℕ) (front : List A) (before rest : R) (x : A) → i < n → read before ≡ Ok (x, rest) → behind front (counted read (n - i) before) ≡ behind (front ++ x ∷ []) (counted read (n - (i + 1)) rest)
counted-next read n i front before rest x small first = rw (left_is n i small, first) (behind_more front x (counted read (n - (i + 1)) rest))

-- the next one is refused
pub counted-refused : {A R E : Type 0} (read : R → Result (A × R) E) (n i : ℕ) (front : List A) (before : R) (refusal : E) → i < n → read before ≡ Err refusal → behind front (counted read (n - i) before) ≡ Err refusal
counted-refused read n i front before refusal small first = rw (left_is n i small, first) refl

-- all are read
pub counted-done : {A R E : Type 0} (read : R → Result (A × R) E) (n i : ℕ) (front : List A) (before : R) → n ≤ i → behind front (counted read (n - i) before) ≡ Ok (front, before)
counted-done read n i front before done = rw (none_left n i done) (ap (λ xs. Ok (xs, before)) (append-nil front))

-- none is read yet
pub behind-nothing : {A R E : Type 0} (read : Result (List A × R) E) → behind [] read ≡ read
behind-nothing (Err refusal) = refl
behind-nothing (Ok read) = refl

-- ---- all that are left

all_behind-more : {A E : Type 0} (front : List A) (x : A) (read : Result (List A) E) → all_behind front (after read (λ xs. Ok (x ∷ xs))) ≡ all_behind (front ++ x ∷ []) read
all_behind-more front x (Err refusal) = refl
all_behind-more front x (Ok read) = ap (λ xs. Ok xs) (sym (append_assoc front (x ∷ []) read))

pub to_end-next : {A : Type 0} (judge : List ℕ → Result A Word) (most : ℕ) (front : List A) (t : List ℕ) (rest : List (List ℕ)) (x : A) → length front < most → judge t ≡ Ok x → all_behind front (to_end judge (most - length front) (t ∷ rest)) ≡ all_behind (front ++ x ∷ []) (to_end judge (most - (length front + 1)) rest)
to_end-next judge most front t rest x small first = rw (left_is most (length front) small, first) (all_behind-more front x (to_end judge (most - (length front + 1)) rest))

pub to_end-refused : {A : Type 0} (judge : List ℕ → Result A Word) (most : ℕ) (front : List A) (t : List ℕ) (rest : List (List ℕ)) (word : Word) → length front < most → judge t ≡ Err word → all_behind front (to_end judge (most - length front) (t ∷ rest)) ≡ Err word
to_end-refused judge most front t rest word small first = rw (left_is most (length front) small, first) refl

-- a token more than there may be
pub to_end-full : {A : Type 0} (judge : List ℕ → Result A Word) (most : ℕ) (front : List A) (t : List ℕ) (rest : List (List ℕ)) → most ≤ length front → all_behind front (to_end judge (most - length front) (t ∷ rest)) ≡ Err BadLine
to_end-full judge most front t rest full = rw (none_left most (length front) full) refl

pub all_behind-nothing : {A E : Type 0} (read : Result (List A) E) → all_behind [] read ≡ read
all_behind-nothing (Err refusal) = refl
all_behind-nothing (Ok read) = refl

all_behind-one : {A E : Type 0} (x : A) (read : Result (List A) E) → after read (λ xs. Ok (x ∷ xs)) ≡ all_behind (x ∷ []) read
all_behind-one x (Err refusal) = refl
all_behind-one x (Ok read) = refl

-- the first one was read
pub to_end-first : {A : Type 0} (judge : List ℕ → Result A Word) (most : ℕ) (begun : List A) (t : List ℕ) (rest : List (List ℕ)) (x : A) → 1 ≤ most → judge t ≡ Ok x → begun ≡ x ∷ [] → to_end judge most (t ∷ rest) ≡ all_behind begun (to_end judge (most - length begun) rest)
to_end-first judge zero begun t rest x some first is = absurd (omega arith)
to_end-first judge (suc m) begun t rest x some first is =
    let fewer : suc m - 1 ≡ m = omega arith in
    rw (first, is, fewer) (all_behind-one x (to_end judge m rest))

-- ---- a call that is refused refuses what it is a part of

pub refused_part : {X Y U V R S : Type 0} (view : X → Y) (whole : U → V) (fail : LineFail) (left : R) (rest : S) (read : Result (Y × R) Word) (all : Result (V × S) Word) → Took view (Err fail) left read → ((word : Word) → read ≡ Err word → all ≡ Err word) → Took whole (Err fail) rest all
refused_part view whole line_fail.NoMemory left rest read all took so = tt
refused_part view whole (line_fail.Refused word) left rest read all took so = so word took

pub refused_item : {X Y U V : Type 0} (view : X → Y) (whole : U → V) (fail : LineFail) (read : Result Y Word) (all : Result V Word) → Takes view (Err fail) read → ((word : Word) → read ≡ Err word → all ≡ Err word) → Takes whole (Err fail) all
refused_item view whole line_fail.NoMemory read all took so = tt
refused_item view whole (line_fail.Refused word) read all took so = so word took

pub refused_lines : {X Y U V R S : Type 0} (view : X → Y) (whole : U → V) (fail : ReadFail) (left : R) (rest : S) (read : Result (Y × R) Refusal) (all : Result (V × S) Refusal) → TookLines view (Err fail) left read → ((refusal : Refusal) → read ≡ Err refusal → all ≡ Err refusal) → TookLines whole (Err fail) rest all
refused_lines view whole read_fail.NoMemory left rest read all took so = tt
refused_lines view whole (read_fail.Refused refusal) left rest read all took so = so refusal took

-- ---- what a call tells

pub told_true : (r : Bool) (P : Type 0) → IsTrue r → OnTrue r P → P
told_true true P yes_is p = p
told_true false P yes_is p = absurd (cc)
