-- the number that the digits before this byte write, which stays below a power of ten
use Rattle.std.proofs.Common.{◌≡◌, ◌-◌, ◌<◌, ◌≤◌, ◌^◌, true, map, take}
use Rattle.std.specs.List.{list_all}
use Rattle.pol_base.specs.Tuples.{cell_of}
use Rattle.pol_text.specs.Lines.{is_digit}
use Rattle.pol_text.proofs.decimals.leading_number.Given as goal

abbrev pub invariant-loop-byte : goal.invariant-loop-byte
invariant-loop-byte l = record {
  digits : list_all is_digit (take l.byte-index l.bytes) ≡ true;
  so_far : l.length ≤ 9 → l.value ≡ cell_of 10 (map (λ b. b - 48) (take l.byte-index l.bytes));
  below : l.length ≤ 9 → l.value < 10 ^ l.byte-index;
  counted : l.length ≡ l.byte-index;
}
