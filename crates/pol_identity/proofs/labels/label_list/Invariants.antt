use Rattle.std.proofs.Common.{◌≡◌, ℕ, ◌<◌, ◌≤◌, length, slice_index}
use Rattle.pol_base.specs.Tuples.{digits_of}
use Rattle.pol_identity.proofs.labels.label_list.Given as goal

abbrev pub invariant-loop-place : goal.invariant-loop-place
invariant-loop-place l = record {
  long : length l.labels ≡ 5;
  front : (k : ℕ) → k < l.place → slice_index l.labels k ≡ slice_index (digits_of l.fn.d l.fn.d l.fn.number) k;
  behind : (k : ℕ) → l.place ≤ k → k < 5 → slice_index l.labels k ≡ 0;
}
