use Rattle.std.proofs.Common.{◌≡◌, ℕ, ◌+◌, List, length, take, drop, sym, ap, ◌∙◌, arith}
use Rattle.std.proofs.lemmas.List.{take_at, length-replicate}
use Rattle.std.proofs.lemmas.Result.{IfOk-weaker}
use Rattle.pol_modp.specs.Equations.{IsCommonSolution}
use Rattle.pol_modp.proofs.Solution.{common_solution}
use Rattle.pol_modp.proofs.elimination.solution.Goals as goal

pub returns : goal.returns
returns c =
    let p = c.args.p in
    let n = c.args.n in
    let ys = c.settle.new.ys in
    let items = c.in_ok-ys.ys.items in
    let zeros = c.deref_mut.ensures.value ∙ c.in_ok-ys.ensures.items_if_clones_equal (λ y e. e) in
    let long : length ys ≡ n + 1 = c.settle.auto.ys ∙ (ap length zeros ∙ length-replicate {A = ℕ} (n + 1) 0) in
    let back = take_at ys (drop (length ys) items) c.in_ok-ys.ys.len (long ∙ sym c.in_ok-ys.ensures.len) in
    record {
      solution = IfOk-weaker c.from_slice.result (λ (values : List ℕ). values ≡ take n c.deref.result.now) (IsCommonSolution p n c.args.equations.now)
          (λ values same. common_solution p n c.args.equations.now c.args.basis.now ys values (omega (arith, c.requires.positive)) c.requires.equations c.requires.basis long c.settle.ensures.below c.settle.ensures.last c.settle.ensures.vanish
          (same ∙ ap (take n) (c.deref.ensures.value ∙ back)))
          c.from_slice.ensures.ok;
    }
