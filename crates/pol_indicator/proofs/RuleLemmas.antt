-- Rules of cells, put on a problem's masks and ties one after another.
use Rattle.std.proofs.Common.{◌≡◌, ℕ, ◌+◌, ◌-◌, ◌^◌, ◌<◌, ◌≤◌, List, length, get_or, set, arith, sym, ◌∙◌, ◌⊎◌, inl, inr, length-set, replicate}
use Rattle.std.specs.List.{range_with_len}
use Rattle.std.proofs.lemmas.Bool.{cases_eq}
use Rattle.std.proofs.lemmas.List.{get_or-set_same, get_or-set_other, length-replicate, get_or-replicate}
use Rattle.std.proofs.lemmas.List.FromFn.{length-range_with_len, get_or-range_with_len}
use Rattle.pol_identity.specs.declared.identity.CellRule.{CellRule}
use Rattle.pol_indicator.specs.Ruled.{mask_by, tie_by, AreRuled}

put_at : (xs : List ℕ) (n : ℕ) (v : ℕ → ℕ) → n < length xs → ((c : ℕ) → c < n → get_or xs c 0 ≡ v c)
    → (c : ℕ) → c < n + 1 → get_or (set xs n (v n)) c 0 ≡ v c
put_at xs n v fits before c h = by (cases_eq c n)
  where
    by : (c ≡ n) ⊎ (c ≡ n → ⊥) → get_or (set xs n (v n)) c 0 ≡ v c
    by (inl e) = rw e (get_or-set_same xs n (v n) 0 fits)
    by (inr ne) = get_or-set_other xs n c (v n) 0 ne ∙ before c (omega arith)

-- one rule more
pub ruled_more : (d : ℕ) (rule : ℕ → CellRule) (n : ℕ) (masks ties : List ℕ) → n < length masks → AreRuled d rule n masks ties
    → AreRuled d rule (n + 1) (set masks n (mask_by d (rule n))) (set ties n (tie_by n (rule n)))
ruled_more d rule n masks ties fits r = record {
  counted = length-set ties n _ ∙ r.counted ∙ sym (length-set masks n _);
  masks_by = put_at masks n (λ c. mask_by d (rule c)) fits r.masks_by;
  ties_by = put_at ties n (λ c. tie_by c (rule c)) (omega (arith, r.counted)) r.ties_by;
  masks_free = λ c low high.
      get_or-set_other masks n c _ 0 (other c low) ∙ r.masks_free c (omega arith) (omega (arith, high, length-set masks n (mask_by d (rule n))));
  ties_free = λ c low high.
      get_or-set_other ties n c _ 0 (other c low) ∙ r.ties_free c (omega arith) (omega (arith, high, length-set masks n (mask_by d (rule n))));
}
  where
    other : (c : ℕ) → n + 1 ≤ c → c ≡ n → ⊥
    other c h e = omega arith

-- no rule yet
pub ruled_none : (d n : ℕ) (rule : ℕ → CellRule) → AreRuled d rule 0 (replicate n (2 ^ d - 1)) (range_with_len 0 n)
ruled_none d n rule = record {
  counted = length-range_with_len 0 n ∙ sym (length-replicate n (2 ^ d - 1));
  masks_by = λ c h. absurd (omega arith);
  ties_by = λ c h. absurd (omega arith);
  masks_free = λ c low high. get_or-replicate n c (2 ^ d - 1) 0 (rw (length-replicate n (2 ^ d - 1)) at high);
  ties_free = λ c low high. get_or-range_with_len 0 n c 0 (rw (length-replicate n (2 ^ d - 1)) at high) ∙ omega arith;
}
