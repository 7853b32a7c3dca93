-- What a text on its way to a sink has written and still holds.
use Rattle.std.specs.Prelude.{ℕ, List, drop, length, Option, Some, None}
use Rattle.std.specs.Io.KnownBytes.{append_known}

-- what was written, and behind it those of the held bytes that are not
abbrev pub piece_bytes : (written : Option (List ℕ)) → (from : ℕ) → (held : List ℕ) → Option (List ℕ)
piece_bytes written from held = append_known written (drop from held)

-- how many bytes were written, and 0 where that is not told
abbrev pub known_length : Option (List ℕ) → ℕ
known_length None = 0
known_length (Some bytes) = length bytes
