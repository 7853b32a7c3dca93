use Rattle.std.proofs.Common.{◌≡◌, ◌≢◌, ◌<◌, ◌⊎◌, inl, inr, ℕ, ◌+◌, List, [], ◌∷◌, ◌++◌, All, sym, ap, subst, ◌∙◌, arith}
use Rattle.std.proofs.lemmas.Bool.{cases_eq}
use Rattle.std.proofs.lemmas.List.{length_push}
use Rattle.std.proofs.lemmas.List.Elements.{All-push, Contains-push, Contains-append_left}
use Rattle.pol_modp.specs.Equations.{EquationView}
use Rattle.pol_modp.specs.Rows.{PivotView}
use Rattle.pol_modp.specs.Nulls.{IsNullAt, IsNull, HasNullAt, HasNulls}
use Rattle.pol_modp.proofs.complement.orthogonal.Goals as goal
use Rattle.pol_modp.proofs.complement.orthogonal.Goals.{then-not-is_pivot+in_ok-null_equation+in_ok-push, else-not-is_pivot}

module _ (p n : ℕ) (basis : List PivotView) (f : ℕ) (es : List EquationView) (low : f < n + 1) (so_far : HasNulls p n basis f es) where
  nulls-push : (e : EquationView) → IsNullAt p n basis f e → HasNulls p n basis (f + 1) (es ++ e ∷ [])
  nulls-push e null = record {
    each = All-push (IsNull p n basis) es e so_far.each (record { place = f; within = low; null = null });
    all = λ g within free. by g within free (cases_eq g f);
    few = omega (arith, length_push es e, so_far.few);
  }
    where
      by : (g : ℕ) → g < f + 1 → All (λ (b : PivotView). b.pivot ≢ g) basis → (g ≡ f) ⊎ (g ≢ f) → HasNullAt p n basis g (es ++ e ∷ [])
      by g within free (inl same) = record { equation = e; among = Contains-push es e; null = subst (λ (m : ℕ). IsNullAt p n basis m e) (sym same) null }
      by g within free (inr differs) = let found = so_far.all g (omega (arith, within, differs)) free in record { equation = found.equation; among = Contains-append_left es (e ∷ []) found.equation found.among; null = found.null }

  nulls-skip : (All (λ (b : PivotView). b.pivot ≢ f) basis → ⊥) → HasNulls p n basis (f + 1) es
  nulls-skip taken = record {
    each = so_far.each;
    all = λ g within free. by g within free (cases_eq g f);
    few = omega (arith, so_far.few);
  }
    where
      by : (g : ℕ) → g < f + 1 → All (λ (b : PivotView). b.pivot ≢ g) basis → (g ≡ f) ⊎ (g ≢ f) → HasNullAt p n basis g es
      by g within free (inl same) = absurd (taken (subst (λ (m : ℕ). All (λ (b : PivotView). b.pivot ≢ m) basis) same free))
      by g within free (inr differs) = so_far.all g (omega (arith, within, differs)) free

pub loop-f-preserved : goal.loop-f-preserved
loop-f-preserved c =
    let p = c.args.p in
    let n = c.args.n in
    let basis = c.args.basis.now in
    let f = c.loop-f.f in
    let es = c.loop-f.equations.items in
    let low : f < n + 1 = omega (arith, c.loop-f-test.true) in
    elim c.if-not-is_pivot.branch [
      | then-not-is_pivot+in_ok-null_equation+in_ok-push w ↦
          subst (λ (now : List EquationView). HasNulls p n basis (f + 1) now) (sym (ap (λ v. v.items) w.equations-is ∙ w.in_ok-push.ensures.items))
          (nulls-push p n basis f es low c.loop-f.invariant _ w.in_ok-null_equation.ensures.null)
      | else-not-is_pivot w ↦
          subst (λ (now : List EquationView). HasNulls p n basis (f + 1) now) (sym (ap (λ v. v.items) w.equations-is))
          (nulls-skip p n basis f es low c.loop-f.invariant w.if-not-is_pivot.ensures.pivot)
    ]
