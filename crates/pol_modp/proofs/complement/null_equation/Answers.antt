use Rattle.std.proofs.Common.{◌≡◌, ◌<◌, ℕ, ◌+◌, List, [], ◌∷◌, ◌++◌, length, take, drop, get_or, All, sym, ap, subst, ◌∙◌, arith}
use Rattle.std.proofs.lemmas.List.{get_or_read, take_at, take_all, take_more, length-take-le, length-replicate}
use Rattle.std.proofs.lemmas.List.Elements.{All-take}
use Rattle.std.proofs.lemmas.Result.{IfOk-weaker}
use Rattle.pol_modp.specs.Equations.{EquationView}
use Rattle.pol_modp.specs.Rows.{PivotView}
use Rattle.pol_modp.specs.Nulls.{IsFreeAt, IsNullAt}
use Rattle.pol_modp.proofs.complement.null_equation.Goals as goal

made : (p n f : ℕ) (basis : List PivotView) (ys : List ℕ) (e : EquationView) → length ys ≡ n + 2 → All (λ v. v < p) ys → get_or ys (n + 1) 0 ≡ 0 → IsFreeAt p (n + 1) basis f ys → e ≡ record { coefs = take n ys; right = get_or ys n 0 } → IsNullAt p n basis f e
made p n f basis ys e long below last free is =
    subst (λ (d : EquationView). IsNullAt p n basis f d) (sym is)
    (record {
      is_equation = record { long = length-take-le n ys (omega (arith, long)); below = All-take (λ v. v < p) n ys below; right_below = below n 0 (omega (arith, long)) };
      free = subst (λ (some : List ℕ). IsFreeAt p (n + 1) basis f some) split free;
    })
  where
    next : n + 1 + 1 ≡ n + 2
    next = omega arith

    split : ys ≡ (take n ys ++ get_or ys n 0 ∷ []) ++ 0 ∷ []
    split = sym (take_all (n + 1 + 1) ys (omega (arith, long))) ∙ (take_more ys (n + 1) 0 (omega (arith, long)) ∙ (ap (λ a. take (n + 1) ys ++ a ∷ []) last ∙ ap (λ front. front ++ 0 ∷ []) (take_more ys n 0 (omega (arith, long)))))

pub returns : goal.returns
returns c =
    let n = c.args.n in
    let ys = c.solve_free.new.ys in
    let items = c.in_ok-ys.ys.items in
    let zeros = c.deref_mut.ensures.value ∙ c.in_ok-ys.ensures.items_if_clones_equal (λ y e. e) in
    let long : length ys ≡ n + 2 = c.solve_free.auto.ys ∙ (ap length zeros ∙ length-replicate {A = ℕ} (n + 2) 0) in
    let back = take_at ys (drop (length ys) items) c.in_ok-ys.ys.len (long ∙ sym c.in_ok-ys.ensures.len) in
    let shown = take c.in_ok-ys.ys.len (ys ++ drop (length ys) items) in
    let inside : n < length shown = omega (arith, ap length back, long) in
    let right = get_or_read shown n c.index.result.now inside c.index.ensures 0 ∙ ap (λ some. get_or some n 0) back in
    let coefs = ap (take n) (c.deref.ensures.value ∙ back) in
    record {
      null = IfOk-weaker c.new.result (λ (e : EquationView). e ≡ record { coefs = take n c.deref.result.now; right = c.index.result.now }) (IsNullAt c.args.p n c.args.basis.now c.args.f)
          (λ e is. made c.args.p n c.args.f c.args.basis.now ys e long c.solve_free.ensures.below c.solve_free.ensures.last c.solve_free.ensures.free (is ∙ (λ i. record { coefs = coefs i; right = right i })))
          c.new.ensures.ok;
    }
