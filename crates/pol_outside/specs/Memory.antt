-- Sources and sinks in memory, whose calls are numbered from 0 and fail by a list of numbers.
use Rattle.std.specs.Prelude.{ℕ, zero, suc, ◌^◌, List, Bool, if◌then◌else◌, ◌&&◌, ◌==◌, nat_lt}
use Rattle.std.specs.List.{list_any}

-- what is left of the bytes, how many a call gives at most, which calls fail, and how many there were
pub record SourceView : Type 0 where
  pub left : List ℕ
  pub chunk : ℕ
  pub failing : List ℕ
  pub calls : ℕ

-- a source that never fails
pub record CalmView : Type 0 where
  pub left : List ℕ
  pub chunk : ℕ

-- the bytes it holds, the room for more, how many a call takes at most, which calls fail, and how many there were
pub record SinkView : Type 0 where
  pub bytes : List ℕ
  pub room : ℕ
  pub chunk : ℕ
  pub failing : List ℕ
  pub calls : ℕ
  pub faults : ℕ

-- the list has the number, which is below 2^32
abbrev pub fails_at : List ℕ → ℕ → Bool
fails_at failing number = nat_lt number (2 ^ 32) && list_any (λ k. k == number) failing

-- how many of the first calls have a number in the list
abbrev pub fault_count : List ℕ → ℕ → ℕ
fault_count failing zero = 0
fault_count failing (suc calls) =
    if fails_at failing calls then suc (fault_count failing calls) else fault_count failing calls
