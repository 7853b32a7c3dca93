-- What a call that sends a text to a sink leaves written, and what it tells of a fault.
use Rattle.std.specs.Prelude.{◌≡◌, ℕ, List, Option, Result, OnOk, OnErr}
use Rattle.std.specs.Io.KnownBytes.{Appends}
use Rattle.pol_outside.specs.Contents.{AppendsFront}
use Rattle.pol_outside.specs.Faults.{Rose}

-- a call that sends a text to a sink: all of it and without a fault, or a first part of it behind a fault
pub record Sends {A E : Type 0} (result : Result A E) (old new : Option (List ℕ)) (before after : ℕ)
    (text : List ℕ) : Type 0 where
  pub whole : OnOk result (Appends old new text)
  pub front : OnErr result (AppendsFront old new text)
  pub calm : OnOk result (after ≡ before)
  pub fault : OnErr result (Rose before after)
