use Rattle.std.proofs.Common.{◌≡◌, ℕ, ◌+◌, ◌*◌, ◌<◌, ◌≤◌, ◌^◌, ◌%◌, true, get_or, arith, add-one, rules}
use borrow.Author.Tests.{tests}
use Rattle.std.proofs.Math.Nat.{mod-eq_of_lt, pow-suc, pow-le-pow_right}
use Rattle.std.proofs.lemmas.List.Folds.{list_all_more}
use Rattle.pol_text.specs.Lines.{is_digit}
use Rattle.pol_text.proofs.LineLemmas.{IsDigit-from_test, cell_of-digit_more}
use Rattle.pol_text.proofs.decimals.leading_number.Goals as goal

-- at most eight digits stand before a digit that is taken
at_most_eight : (i : ℕ) → i < 9 → 10 ^ i ≤ 10 ^ 8
at_most_eight i small = pow-le-pow_right {n = 10} (omega arith) {i = i} {j = 8} (omega arith)

-- a digit more does not wrap, where the number stays below 2^32
unwrapped : (v digit : ℕ) → v * 10 + digit < 4294967296
    → ((v * 10) % 4294967296 + digit) % 4294967296 ≡ v * 10 + digit
unwrapped v digit small =
    rw (mod-eq_of_lt {n = v * 10} {m = 4294967296} (omega arith)) (mod-eq_of_lt {n = v * 10 + digit} {m = 4294967296} small)

pub loop-byte-preserved : goal.loop-byte-preserved
loop-byte-preserved c =
    let digit : is_digit (get_or c.args.bytes.now c.loop-byte.byte-index 0) ≡ true = search (rules, tests) in
    let within = IsDigit-from_test (get_or c.args.bytes.now c.loop-byte.byte-index 0) digit in
    let all = list_all_more is_digit c.args.bytes.now c.loop-byte.byte-index 0 c.loop-byte-test.true in
    let more = cell_of-digit_more c.args.bytes.now c.loop-byte.byte-index c.loop-byte-test.true in
    let next : 10 ^ (c.loop-byte.byte-index + 1) ≡ 10 ^ c.loop-byte.byte-index * 10 = rw add-one (pow-suc 10 c.loop-byte.byte-index) in
    record {
      digits = rw (all, c.loop-byte.invariant.digits) digit;
      so_far = λ few.
          let power = at_most_eight c.loop-byte.byte-index (omega arith) in
          let below = c.loop-byte.invariant.below (omega arith) in
          rw (unwrapped c.loop-byte.value c.from.result (omega arith)) (cc (more, c.loop-byte.invariant.so_far (omega arith), c.from.ensures));
      below = λ few.
          let power = at_most_eight c.loop-byte.byte-index (omega arith) in
          let below = c.loop-byte.invariant.below (omega arith) in
          rw (unwrapped c.loop-byte.value c.from.result (omega arith)) (omega arith);
      counted = omega arith;
    }
