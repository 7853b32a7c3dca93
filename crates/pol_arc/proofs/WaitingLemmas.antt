-- Which constraints wait, and what stays true of those that do not.
use Rattle.pol_base.specs.Tuples.{IsTuple}
use Rattle.pol_relation.specs.Relations.{LanguageView, IsLanguage, IsRelationOver, no_named, relation_of, rows_of}
use Rattle.pol_relation.specs.Instances.{InstanceView, FitsAt, Fits, constraint_of, no_constraint}
use Rattle.pol_arc.specs.Pruned.{IsWithout}
use Rattle.pol_arc.specs.Waiting.{IsDone, DoneAreSupported, KeepsDone, IsTouched}
use Rattle.pol_arc.specs.Arcs.{IsSupported, SupportsAll}
use Rattle.std.proofs.Common.{◌≡◌, ℕ, ◌+◌, ◌<◌, ◌≤◌, ◌⊎◌, inl, inr, true, false, Bool, List, length, get_or, Contains, refl, sym, ◌∙◌, subst, arith, set}
use Rattle.std.specs.Prelude.{IsBitSet, nat_eq}
use Rattle.std.proofs.lemmas.Bool.{cases_eq, both_ways, eq-eqb}
use Rattle.std.proofs.lemmas.List.{get_or_default, get_or-set_same, get_or-set_other, length-set}
use Rattle.std.proofs.lemmas.List.Elements.{All-contains}
use Rattle.std.specs.List.{list_any}
use Rattle.std.proofs.lemmas.List.Folds.{list_any_at}

-- a row whose places are all of other variables than x lies in the masks without a value of x, and what it supported it supports
pub kept_apart : (lang : LanguageView) (inst : InstanceView) (masks new : List ℕ) (x a c : ℕ) → IsLanguage lang → Fits lang inst
    → c < length inst.constraints → IsWithout lang.domain masks x a new → ¬ Contains (constraint_of inst c).scope x
    → SupportsAll lang inst masks c → SupportsAll lang inst new c
kept_apart lang inst masks new x a c language fits known without apart supports j b inside low bit =
    let fit : FitsAt lang (length inst.variables) (constraint_of inst c) = fits c no_constraint known in
    let over : IsRelationOver lang.domain (relation_of lang (constraint_of inst c).relation) = language.relations_are (constraint_of inst c).relation no_named fit.known in
    let scope : List ℕ = (constraint_of inst c).scope in
    let before : IsBitSet (get_or masks (get_or scope j 0) 0) b = (without.others (get_or scope j 0) b low (λ same. other scope apart j inside same.0)).0 bit in
    still scope apart fit.long over (supports j b inside low before)
  where
    other : (scope : List ℕ) → ¬ Contains scope x → (k : ℕ) → k < length scope → get_or scope k 0 ≡ x → ⊥
    other scope apart k inside same = apart (k, inside, get_or_default scope k x 0 inside ∙ same)

    still : (scope : List ℕ) → ¬ Contains scope x → length scope ≡ (relation_of lang (constraint_of inst c).relation).arity → IsRelationOver lang.domain (relation_of lang (constraint_of inst c).relation)
        → {y : ℕ} → IsSupported (rows_of lang (constraint_of inst c).relation) masks scope y b → IsSupported (rows_of lang (constraint_of inst c).relation) new scope y b
    still scope apart long over {y} found =
        let tuple : IsTuple (relation_of lang (constraint_of inst c).relation).domain (relation_of lang (constraint_of inst c).relation).arity found.row =
        All-contains (IsTuple (relation_of lang (constraint_of inst c).relation).domain (relation_of lang (constraint_of inst c).relation).arity) (rows_of lang (constraint_of inst c).relation) found.row over.is_relation.tuples found.listed in
        record {
          row = found.row;
          listed = found.listed;
          supports = record {
            one_value = found.supports.one_value;
            at_variable = found.supports.at_variable;
            lies = λ k within.
                let below : get_or found.row k 0 < lang.domain = subst (λ (d : ℕ). get_or found.row k 0 < d) over.same_domain (tuple.below k 0 (omega (arith, tuple.long, long))) in
                (without.others (get_or scope k 0) (get_or found.row k 0) below (λ same. other scope apart k within same.0)).1 (found.supports.lies k within);
          };
        }

-- ---- constraints that are touched

-- so far as the first constraints are looked at
pub record IsTouchedBelow (inst : InstanceView) (x count : ℕ) (waits new : List Bool) : Type 0 where
  pub long : length new ≡ length waits
  pub before : (c : ℕ) → c < length inst.constraints → IsDone new c → IsDone waits c
  pub apart : (c : ℕ) → c < count → IsDone new c → ¬ Contains (constraint_of inst c).scope x

pub touched_none : (inst : InstanceView) (x : ℕ) (waits : List Bool) → IsTouchedBelow inst x 0 waits waits
touched_none inst x waits = record { long = refl; before = λ c known done. done; apart = λ c less. absurd (omega arith) }

-- the next constraint does not have the variable
pub touched_skip : (inst : InstanceView) (x count : ℕ) (waits new : List Bool) → ¬ Contains (constraint_of inst count).scope x
    → IsTouchedBelow inst x count waits new → IsTouchedBelow inst x (count + 1) waits new
touched_skip inst x count waits new without touched = record {
  long = touched.long;
  before = touched.before;
  apart = λ c less done. by c less done (cases_eq c count);
}
  where
    by : (c : ℕ) → c < count + 1 → IsDone new c → (c ≡ count) ⊎ (c ≡ count → ⊥) → ¬ Contains (constraint_of inst c).scope x
    by c less done (inl same) = subst (λ (n : ℕ). ¬ Contains (constraint_of inst n).scope x) (sym same) without
    by c less done (inr other) = touched.apart c (omega arith) done

-- the next constraint waits
pub touched_put : (inst : InstanceView) (x count : ℕ) (waits new : List Bool) → count < length new
    → IsTouchedBelow inst x count waits new → IsTouchedBelow inst x (count + 1) waits (set new count true)
touched_put inst x count waits new inside touched = record {
  long = length-set new count true ∙ touched.long;
  before = λ c known done. touched.before c known (old c done (cases_eq c count));
  apart = λ c less done. by c less done (cases_eq c count);
}
  where
    never : IsDone (set new count true) count → ⊥
    never done = both_ways (get_or (set new count true) count true) done (get_or-set_same new count true true inside)

    old : (c : ℕ) → IsDone (set new count true) c → (c ≡ count) ⊎ (c ≡ count → ⊥) → IsDone new c
    old c done (inl same) = absurd (never (subst (IsDone (set new count true)) same done))
    old c done (inr other) = sym (get_or-set_other new count c true true other) ∙ done

    by : (c : ℕ) → c < count + 1 → IsDone (set new count true) c → (c ≡ count) ⊎ (c ≡ count → ⊥) → ¬ Contains (constraint_of inst c).scope x
    by c less done (inl same) = absurd (never (subst (IsDone (set new count true)) same done))
    by c less done (inr other) = touched.apart c (omega arith) (old c done (inr other))

pub touched_all : (inst : InstanceView) (x count : ℕ) (waits new : List Bool) → length inst.constraints ≤ count
    → IsTouchedBelow inst x count waits new → IsTouched inst x waits new
touched_all inst x count waits new all touched = record {
  long = touched.long;
  before = touched.before;
  apart = λ c known. touched.apart c (omega arith);
}

-- the test for the variable failed
pub not_in_scope : (scope : List ℕ) (x : ℕ) → list_any (λ y. nat_eq y x) scope ≡ false → ¬ Contains scope x
not_in_scope scope x none (k, inside, same) =
    both_ways (list_any (λ y. nat_eq y x) scope) none
    (list_any_at (λ y. nat_eq y x) scope k x inside (eq-eqb (get_or scope k x) x same))

-- ---- constraints that do not wait

module _ (lang : LanguageView) (inst : InstanceView) where
  pub keeps_same : (masks : List ℕ) (waits : List Bool) → KeepsDone lang inst masks waits masks waits
  keeps_same masks waits = record { long = refl; before = λ c known done. done; kept = λ c known done supports. supports }

  pub keeps_both : (a b c : List ℕ) (u v w : List Bool) → KeepsDone lang inst a u b v → KeepsDone lang inst b v c w → KeepsDone lang inst a u c w
  keeps_both a b c u v w first second = record {
    long = second.long ∙ first.long;
    before = λ k known done. first.before k known (second.before k known done);
    kept = λ k known done supports. second.kept k known done (first.kept k known (second.before k known done) supports);
  }

  -- a value is dropped, and the constraints that have its variable wait
  pub keeps_dropped : (masks new : List ℕ) (waits new_waits : List Bool) (x a : ℕ) → IsLanguage lang → Fits lang inst
      → IsWithout lang.domain masks x a new → IsTouched inst x waits new_waits → KeepsDone lang inst masks waits new new_waits
  keeps_dropped masks new waits new_waits x a language fits without touched = record {
    long = touched.long;
    before = touched.before;
    kept = λ c known done. kept_apart lang inst masks new x a c language fits known without (touched.apart c known done);
  }

  -- the constraint of the variable waits
  pub waits_again : (waits new : List Bool) (c j x : ℕ) → c < length inst.constraints → j < length (constraint_of inst c).scope
      → x ≡ get_or (constraint_of inst c).scope j 0 → IsTouched inst x waits new → IsDone new c → ⊥
  waits_again waits new c j x known inside place touched done =
      touched.apart c known done (j, inside, get_or_default (constraint_of inst c).scope j x 0 inside ∙ sym place)

  -- a constraint that waited was looked at
  pub supported_visited : (masks new : List ℕ) (waits new_waits : List Bool) (c : ℕ) → DoneAreSupported lang inst masks waits
      → KeepsDone lang inst masks (set waits c false) new new_waits → (IsDone new_waits c → SupportsAll lang inst new c)
      → DoneAreSupported lang inst new new_waits
  supported_visited masks new waits new_waits c supported keeps here = λ k known done. by k known done (cases_eq k c)
    where
      by : (k : ℕ) → k < length inst.constraints → IsDone new_waits k → (k ≡ c) ⊎ (k ≡ c → ⊥) → SupportsAll lang inst new k
      by k known done (inl same) = subst (SupportsAll lang inst new) (sym same) (here (subst (IsDone new_waits) same done))
      by k known done (inr other) =
          let before : IsDone waits k = sym (get_or-set_other waits c k false true other) ∙ keeps.before k known done in
          keeps.kept k known done (supported k known before)
