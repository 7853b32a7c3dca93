use Rattle.std.proofs.Common.{◌≡◌, ℕ, ◌+◌, ◌*◌, ◌^◌, ◌<◌, ◌≤◌, List, ◌∷◌, length, arith, All}
use Rattle.std.proofs.Math.Nat.{pow-succ'}
use Rattle.std.proofs.lemmas.List.Elements.{All-head}
use Rattle.pol_base.specs.Tuples.{cell_of}
use Rattle.pol_base.proofs.counting.+advance.Goals as goal

-- after the last list of the rest, a first digit that cannot grow ends the lists
last_of :
    (n x : ℕ) (digits rest : List ℕ)
    → digits ≡ x ∷ rest
    → All (λ v. v < n) digits
    → n ≤ x + 1
    → cell_of n rest + 1 ≡ n ^ length rest
    → cell_of n digits + 1 ≡ n ^ length digits
last_of n x digits rest split below high last =
    let first : x < n = All-head (λ v. v < n) x rest (rw split at below) in
    rw (split, pow-succ' n (length rest)) (whole (n ^ length rest) (cell_of n rest) last first)
  where
    whole : (p c : ℕ) → c + 1 ≡ p → x < n → x * p + c + 1 ≡ n * p
    whole p c e h = let same : n ≡ x + 1 = omega arith in rw same (grind arith)

pub returns-else-first-n-clause-last : goal.returns-else-first-n-clause-last
returns-else-first-n-clause-last t c =
    let split = c.in-Some.ensures.cases in
    let high = c.if-first-n.false in
    let last = c.if-advance.ensures.last in
    last_of c.args.n c.in-Some.first.now c.args.digits.now c.in-Some.rest.now split.0 c.requires.below high last
