-- What a further piece does to the bytes that were taken or written so far.
use Rattle.std.proofs.Common.{◌≡◌, ℕ, ◌-◌, ◌≤◌, List, ◌++◌, length, take, drop, Option, arith, append_assoc, length-append}
use Rattle.std.proofs.KnownBytes.{Consumes-trans, Appends-trans}
use Rattle.std.proofs.lemmas.List.{take-append-drop, take_rest}
use Rattle.std.specs.Io.KnownBytes.{Consumes, Appends}
use Rattle.pol_outside.specs.Contents.{Takes, TakesAtMost}

-- bytes that are held, and as many more as make up the count
pub takes_on : (a b c : Option (List ℕ)) (held : List ℕ) (count : ℕ) → Consumes a b held → length held ≤ count
    → Takes b c (count - length held) → Takes a c count
takes_on a b c held count begun short (more, goes_on, long) =
    (held ++ more, Consumes-trans a b c held more begun goes_on, omega (arith, length-append held more))

pub takes_at_most_on : (a b c : Option (List ℕ)) (held : List ℕ) (count : ℕ) → Consumes a b held → length held ≤ count
    → TakesAtMost b c (count - length held) → TakesAtMost a c count
takes_at_most_on a b c held count begun short (more, goes_on, long) =
    (held ++ more, Consumes-trans a b c held more begun goes_on, omega (arith, length-append held more))

-- a piece of the rest is appended, and what is behind it becomes the rest
pub writes_on : (a b c : Option (List ℕ)) (bytes front rest : List ℕ) (n : ℕ) → bytes ≡ front ++ rest → Appends a b front → Appends b c (take n rest)
    → (x : List ℕ) × (bytes ≡ x ++ take (length rest - n) (drop n rest)) × Appends a c x
writes_on a b c bytes front rest n split begun goes_on =
    let behind : take (length rest - n) (drop n rest) ≡ drop n rest = take_rest rest n in
    let parts : take n rest ++ drop n rest ≡ rest = take-append-drop n rest in
    (front ++ take n rest, rw (behind, append_assoc, parts) split, Appends-trans a b c front (take n rest) begun goes_on)
