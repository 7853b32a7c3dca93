-- The part of the definitions that a part of the code stands for.
use Rattle.std.specs.Prelude.{List, map}
use Rattle.pol_modp.specs.declared.combination.Part.{Part}
use Rattle.pol_modp.specs.Combinations.{PartView}

-- the same part, by its numbers
abbrev pub part_named : Part → PartView
part_named part = record { constraint = part.c; multiplier = part.multiplier; right = part.right; coefs = part.coefs }

-- the parts in their order
abbrev pub parts_named : List Part → List PartView
parts_named parts = map part_named parts
