-- How masks are pruned, and what stays true of them and of the log.
use Rattle.pol_arc.proofs.SupportLemmas.{unsupported}
use Rattle.std.proofs.Common.{◌≡◌, ◌≢◌, ℕ, ◌+◌, ◌-◌, ◌^◌, ◌<◌, ◌≤◌, ◌⊎◌, inl, inr, List, [], ◌∷◌, ◌++◌, length, get_or, replicate, All, refl, sym, ap, ◌∙◌, subst, arith, length-append}
use Rattle.std.specs.Prelude.{IsBitSet}
use Rattle.std.proofs.lemmas.Bool.{cases_eq}
use Rattle.std.proofs.lemmas.Nat.{pow_pos}
use Rattle.std.proofs.lemmas.Nat.Bits.{bit_at_ones}
use Rattle.std.proofs.lemmas.List.{length_push, length-replicate, get_or-replicate}
use Rattle.std.proofs.lemmas.List.Elements.{All-nil, All-push, All-weaker, All-replicate, All-contains}
use Rattle.pol_base.specs.Tuples.{IsTuple}
use Rattle.pol_relation.specs.Relations.{LanguageView, IsLanguage, IsRelationOver, no_named, relation_of, rows_of}
use Rattle.pol_relation.specs.Instances.{InstanceView, FitsAt, Fits, constraint_of, no_constraint}
use Rattle.pol_nogood.specs.Nogoods.{Pair}
use Rattle.pol_nogood.specs.Logs.{Basis, StepView, value_case, cases_of}
use Rattle.pol_nogood.specs.ValidLogs.{IsValidStep, HasReferences}
use Rattle.pol_nogood.proofs.LogMaking.{nogood_at-append, nogood_at-push, valid_none, valid_push, FitsMost-none, FitsMost-push, IsNogood-one, IsNogood-none, constraint_step, variable_step, valid_log-push, constraint_step_of, variable_step_of}
use Rattle.pol_nogood.proofs.Counting.{few_steps_of_one}
use Rattle.pol_nogood.specs.Answers.{IsCertificate}
use Rattle.pol_arc.specs.Arcs.{IsSupported, IsSupportedAt, IsArcConsistent, AreMasksOf, HoldsArcs, IsWiped}
use Rattle.pol_arc.specs.Pruned.{IsDeleted, IsGone, IsPruned, IsWithout, Prunes, IsWipedLog}
use Rattle.pol_base.proofs.BitLemmas.{set_at, set_pos}
use Rattle.pol_arc.proofs.PairLemmas.{variable_same, value_same}

-- ---- steps that deleted a value

pub deleted_later : (log more : List StepView) (x a : ℕ) → IsDeleted log x a → IsDeleted (log ++ more) x a
deleted_later log more x a d = record { step = d.step; known = omega (arith, d.known, length-append log more); nogood = nogood_at-append log more d.step d.known ∙ d.nogood }

pub deleted_last : (log : List StepView) (s : StepView) (x a : ℕ) → s.nogood ≡ value_case x a → IsDeleted (log ++ s ∷ []) x a
deleted_last log s x a pair = record { step = length log; known = omega (arith, length_push log s); nogood = nogood_at-push log s ∙ pair }

-- ---- pruning

module _ (lang : LanguageView) (inst : InstanceView) where
  -- what the masks without a value still have
  less : (masks new : List ℕ) (x a y b : ℕ) → IsWithout lang.domain masks x a new → b < lang.domain → IsBitSet (get_or new y 0) b → IsBitSet (get_or masks y 0) b
  less masks new x a y b without below bit = by (cases_eq y x) (cases_eq b a)
    where
      by : (y ≡ x) ⊎ (y ≡ x → ⊥) → (b ≡ a) ⊎ (b ≡ a → ⊥) → IsBitSet (get_or masks y 0) b
      by (inl same) (inl equal) = absurd (without.gone (subst (λ (n : ℕ). IsBitSet (get_or new x 0) n) equal (subst (λ (n : ℕ). IsBitSet (get_or new n 0) b) same bit)))
      by (inl same) (inr apart) = (without.others y b below (λ same. apart same.1)).0 bit
      by (inr apart) equal = (without.others y b below (λ same. apart same.0)).0 bit

  pub pruned_without : (masks new : List ℕ) (log : List StepView) (s : StepView) (x a : ℕ) → IsPruned lang inst masks log → x < length inst.variables → a < lang.domain → IsBitSet (get_or masks x 0) a
      → IsWithout lang.domain masks x a new → s.nogood ≡ value_case x a → IsValidStep lang inst log s
      → ((others : List ℕ) → AreMasksOf lang inst others → IsArcConsistent lang inst others → IsBitSet (get_or others x 0) a → ⊥) → IsPruned lang inst new (log ++ s ∷ [])
  pruned_without masks new log s x a pruned known low bit without pair valid unsupported = record {
    are_masks = record { long = without.long ∙ pruned.are_masks.long; below = without.below pruned.are_masks.below };
    has_steps = λ y b within below none. steps y b within below none (cases_eq y x) (cases_eq b a);
    all_gone = All-push (λ (t : StepView). IsGone (length inst.variables) lang.domain new t.nogood) log s
        (All-weaker (λ (t : StepView). IsGone (length inst.variables) lang.domain masks t.nogood) (λ t. IsGone (length inst.variables) lang.domain new t.nogood) still log pruned.all_gone)
        (record { variable = x; value = a; variable_known = known; value_known = low; pair = pair; gone = without.gone });
    valid = valid_push lang inst log s pruned.valid valid;
    fits = FitsMost-push 1 log s pruned.fits (subst (λ (nogood : List Pair). length nogood ≤ 1) (sym pair) (omega arith)) (All-weaker (λ (t : StepView). IsGone (length inst.variables) lang.domain masks t.nogood) (λ t. t.nogood ≢ s.nogood) other log pruned.all_gone);
    greatest = λ others are consistent y b within below here. kept others are consistent y b within below here (cases_eq y x) (cases_eq b a);
  }
    where
      steps : (y b : ℕ) → y < length inst.variables → b < lang.domain → (IsBitSet (get_or new y 0) b → ⊥) → (y ≡ x) ⊎ (y ≡ x → ⊥) → (b ≡ a) ⊎ (b ≡ a → ⊥) → IsDeleted (log ++ s ∷ []) y b
      steps y b within below none (inl same) (inl equal) = subst (λ (n : ℕ). IsDeleted (log ++ s ∷ []) n b) (sym same) (subst (λ (n : ℕ). IsDeleted (log ++ s ∷ []) x n) (sym equal) (deleted_last log s x a pair))
      steps y b within below none (inl same) (inr apart) = deleted_later log (s ∷ []) y b (pruned.has_steps y b within below (λ here. none ((without.others y b below (λ same. apart same.1)).1 here)))
      steps y b within below none (inr apart) equal = deleted_later log (s ∷ []) y b (pruned.has_steps y b within below (λ here. none ((without.others y b below (λ same. apart same.0)).1 here)))

      still : (t : StepView) → IsGone (length inst.variables) lang.domain masks t.nogood → IsGone (length inst.variables) lang.domain new t.nogood
      still t is = record { variable = is.variable; value = is.value; variable_known = is.variable_known; value_known = is.value_known; pair = is.pair; gone = λ here. is.gone (less masks new x a is.variable is.value without is.value_known here) }

      other : (t : StepView) → IsGone (length inst.variables) lang.domain masks t.nogood → t.nogood ≢ s.nogood
      other t is same =
          let equal : value_case is.variable is.value ≡ value_case x a = sym is.pair ∙ (same ∙ pair) in
          is.gone (subst (λ (n : ℕ). IsBitSet (get_or masks n 0) is.value) (sym (variable_same is.variable is.value x a equal)) (subst (λ (n : ℕ). IsBitSet (get_or masks x 0) n) (sym (value_same is.variable is.value x a equal)) bit))

      kept : (others : List ℕ) → AreMasksOf lang inst others → IsArcConsistent lang inst others → (y b : ℕ) → y < length inst.variables → b < lang.domain → IsBitSet (get_or others y 0) b → (y ≡ x) ⊎ (y ≡ x → ⊥) → (b ≡ a) ⊎ (b ≡ a → ⊥) → IsBitSet (get_or new y 0) b
      kept others are consistent y b within below here (inl same) (inl equal) = absurd (unsupported others are consistent (subst (λ (n : ℕ). IsBitSet (get_or others x 0) n) equal (subst (λ (n : ℕ). IsBitSet (get_or others n 0) b) same here)))
      kept others are consistent y b within below here (inl same) (inr apart) = (without.others y b below (λ same. apart same.1)).1 (pruned.greatest others are consistent y b within below here)
      kept others are consistent y b within below here (inr apart) equal = (without.others y b below (λ same. apart same.0)).1 (pruned.greatest others are consistent y b within below here)

  -- arc-consistent masks do not have a value that has no support within greater masks
  pub unsupported_gone : (masks : List ℕ) (c j a : ℕ) → HoldsArcs lang inst masks → IsLanguage lang → Fits lang inst → c < length inst.constraints → j < length (constraint_of inst c).scope → a < lang.domain
      → (IsSupported (rows_of lang (constraint_of inst c).relation) masks (constraint_of inst c).scope (get_or (constraint_of inst c).scope j 0) a → ⊥)
      → (others : List ℕ) → AreMasksOf lang inst others → IsArcConsistent lang inst others → IsBitSet (get_or others (get_or (constraint_of inst c).scope j 0) 0) a → ⊥
  unsupported_gone masks c j a holds language fits known inside low none others are consistent bit =
      let fit : FitsAt lang (length inst.variables) (constraint_of inst c) = fits c no_constraint known in
      let over : IsRelationOver lang.domain (relation_of lang (constraint_of inst c).relation) = language.relations_are (constraint_of inst c).relation no_named fit.known in
      wider (constraint_of inst c).scope fit.below fit.long over (consistent c known j a inside low bit) none
    where
      wider : (scope : List ℕ) → All (λ x. x < length inst.variables) scope → length scope ≡ (relation_of lang (constraint_of inst c).relation).arity → IsRelationOver lang.domain (relation_of lang (constraint_of inst c).relation)
          → {x : ℕ} → IsSupported (rows_of lang (constraint_of inst c).relation) others scope x a → (IsSupported (rows_of lang (constraint_of inst c).relation) masks scope x a → ⊥) → ⊥
      wider scope below long over {x} found none =
          let tuple : IsTuple (relation_of lang (constraint_of inst c).relation).domain (relation_of lang (constraint_of inst c).relation).arity found.row =
          All-contains (IsTuple (relation_of lang (constraint_of inst c).relation).domain (relation_of lang (constraint_of inst c).relation).arity) (rows_of lang (constraint_of inst c).relation) found.row over.is_relation.tuples found.listed in
          none (record {
            row = found.row;
            listed = found.listed;
            supports = record {
              one_value = found.supports.one_value;
              at_variable = found.supports.at_variable;
              lies = λ k within. holds others are consistent (get_or scope k 0) (get_or found.row k 0) (below k 0 within) (subst (λ (d : ℕ). get_or found.row k 0 < d) over.same_domain (tuple.below k 0 (omega (arith, tuple.long, long)))) (found.supports.lies k within);
            };
          })

  -- full masks are pruned by no step
  pub pruned_none : AreMasksOf lang inst (replicate (length inst.variables) (2 ^ lang.domain - 1)) → IsPruned lang inst (replicate (length inst.variables) (2 ^ lang.domain - 1)) []
  pruned_none are = record {
    are_masks = are;
    has_steps = λ x a within low none. absurd (none (has x a within low));
    all_gone = All-nil (λ (s : StepView). IsGone (length inst.variables) lang.domain (replicate (length inst.variables) (2 ^ lang.domain - 1)) s.nogood);
    valid = valid_none lang inst;
    fits = FitsMost-none 1;
    greatest = λ others are consistent x a within low here. has x a within low;
  }
    where
      has : (x a : ℕ) → x < length inst.variables → a < lang.domain → IsBitSet (get_or (replicate (length inst.variables) (2 ^ lang.domain - 1)) x 0) a
      has x a within low = subst (λ (m : ℕ). IsBitSet m a) (sym (get_or-replicate (length inst.variables) x (2 ^ lang.domain - 1) 0 within)) (set_at (2 ^ lang.domain - 1) a (bit_at_ones lang.domain a low))

  pub pruned_full : (masks : List ℕ) → masks ≡ replicate (length inst.variables) (2 ^ lang.domain - 1) → IsPruned lang inst masks []
  pruned_full masks full =
      let top : 0 < 2 ^ lang.domain = pow_pos lang.domain in
      subst (λ (some : List ℕ). IsPruned lang inst some []) (sym full)
      (pruned_none (record { long = length-replicate (length inst.variables) (2 ^ lang.domain - 1); below = All-replicate (λ m. m < 2 ^ lang.domain) (length inst.variables) (2 ^ lang.domain - 1) (omega arith) }))

  -- ---- one thing after another

  pub prunes_nothing : (Settled : List ℕ → Type 0) (masks : List ℕ) (log : List StepView) → IsPruned lang inst masks log → Settled masks → Prunes lang inst Settled masks log masks log
  prunes_nothing Settled masks log pruned settled = record { pruned = pruned; grown = omega arith; same = λ _. refl; settled = λ _. settled }

  pub prunes_both : (P Q R : List ℕ → Type 0) (a b c : List ℕ) (k l m : List StepView) → Prunes lang inst P a k b l → Prunes lang inst Q b l c m → ((masks : List ℕ) → P masks → Q masks → R masks) → Prunes lang inst R a k c m
  prunes_both P Q R a b c k l m first second both =
      let one : length k ≤ length l = first.grown in
      let two : length l ≤ length m = second.grown in
      record {
        pruned = second.pruned;
        grown = omega arith;
        same = λ short. second.same (omega arith) ∙ first.same (omega arith);
        settled = λ short. both c (subst P (sym (second.same (omega arith))) (first.settled (omega arith))) (second.settled (omega arith));
      }

  -- the value is deleted
  pub prunes_value : (masks new : List ℕ) (log new_log : List StepView) (c j x a : ℕ) (nogood : List Pair) (references : List ℕ) → IsPruned lang inst masks log → IsLanguage lang → Fits lang inst
      → c < length inst.constraints → j < length (constraint_of inst c).scope → a < lang.domain → x ≡ get_or (constraint_of inst c).scope j 0 → IsBitSet (get_or masks x 0) a
      → (IsSupported (rows_of lang (constraint_of inst c).relation) masks (constraint_of inst c).scope x a → ⊥) → HasReferences log (value_case x a) (cases_of lang inst (Basis.ByConstraint c) (value_case x a)) references → nogood ≡ value_case x a
      → new_log ≡ log ++ constraint_step_of c nogood references ∷ [] → IsWithout lang.domain masks x a new → Prunes lang inst (λ m. IsSupportedAt lang inst m c j a) masks log new new_log
  prunes_value masks new log new_log c j x a nogood references pruned language fits known inside low place bit none referred pair last without =
      let fit : FitsAt lang (length inst.variables) (constraint_of inst c) = fits c no_constraint known in
      let variable : x < length inst.variables = subst (λ (y : ℕ). y < length inst.variables) (sym place) (fit.below j 0 inside) in
      let step : StepView = constraint_step_of c nogood references in
      let valid : IsValidStep lang inst log step =
      subst (λ (pairs : List Pair). IsValidStep lang inst log (constraint_step_of c pairs references)) (sym pair)
      (constraint_step lang inst log c (value_case x a) references known (IsNogood-one (length inst.variables) lang.domain (record { variable = x; value = a }) (record { variable_known = variable; value_known = low })) referred) in
      let grown : length new_log ≡ length log + 1 = ap length last ∙ length_push log step in
      let gone : (others : List ℕ) → AreMasksOf lang inst others → IsArcConsistent lang inst others → IsBitSet (get_or others x 0) a → ⊥ =
      subst (λ (y : ℕ). (others : List ℕ) → AreMasksOf lang inst others → IsArcConsistent lang inst others → IsBitSet (get_or others y 0) a → ⊥) (sym place)
      (unsupported_gone masks c j a pruned.greatest language fits known inside low (subst (λ (y : ℕ). IsSupported (rows_of lang (constraint_of inst c).relation) masks (constraint_of inst c).scope y a → ⊥) place none)) in
      record {
        pruned = subst (IsPruned lang inst new) (sym last) (pruned_without masks new log step x a pruned variable low bit without pair valid gone);
        grown = omega arith;
        same = λ short. absurd (omega arith);
        settled = λ short. absurd (omega arith);
      }

  pub settled_more : (masks : List ℕ) (P : List ℕ → ℕ → Type 0) (k : ℕ) → ((a : ℕ) → a < k → P masks a) → P masks k → (a : ℕ) → a < k + 1 → P masks a
  settled_more masks P k before last a less = by (cases_eq a k)
    where
      by : (a ≡ k) ⊎ (a ≡ k → ⊥) → P masks a
      by (inl same) = subst (P masks) (sym same) last
      by (inr apart) = before a (omega arith)

  -- ---- few steps

  pub few_pruned : (masks : List ℕ) (log : List StepView) → lang.domain ≤ 5 → length inst.variables ≤ 40 → IsPruned lang inst masks log → length log ≤ 201
  few_pruned masks log values variables pruned = few_steps_of_one lang inst log values variables pruned.valid pruned.fits

  -- ---- the end of a wipe-out

  pub wiped : (masks : List ℕ) (log : List StepView) (v : ℕ) → IsPruned lang inst masks log → v < length inst.variables → get_or masks v 0 ≡ 0 → IsWiped lang inst
  wiped masks log v pruned known empty = record {
    variable = v;
    known = known;
    empty = λ others a are consistent low here. none (get_or masks v 0) a empty (pruned.greatest others are consistent v a known low here);
  }
    where
      none : (m a : ℕ) → m ≡ 0 → IsBitSet m a → ⊥
      none m a nothing here = omega (arith, nothing, set_pos m a here)

  pub wiped_certificate : (masks : List ℕ) (log new : List StepView) (v : ℕ) → IsPruned lang inst masks log → v < length inst.variables → IsWipedLog log v lang.domain new → IsCertificate 1 lang inst new
  wiped_certificate masks log new v pruned known is =
      let step : StepView = variable_step_of v [] is.references in
      let valid : IsValidStep lang inst log step = variable_step lang inst log v [] is.references known (All-nil (λ (p : Pair). p.variable ≢ v)) (IsNogood-none (length inst.variables) lang.domain) is.referred in
      subst (IsCertificate 1 lang inst) (sym is.last) (record {
        valid = valid_log-push lang inst log step pruned.valid valid refl;
        fits = FitsMost-push 1 log step pruned.fits (omega arith) (All-weaker (λ (t : StepView). IsGone (length inst.variables) lang.domain masks t.nogood) (λ t. t.nogood ≢ []) other log pruned.all_gone);
      })
    where
      other : (t : StepView) → IsGone (length inst.variables) lang.domain masks t.nogood → t.nogood ≢ []
      other t is same = let some : length (value_case is.variable is.value) ≡ 0 = ap length (sym is.pair ∙ same) in omega arith

  pub deleted_where_empty : (masks : List ℕ) (log : List StepView) (v a : ℕ) → IsPruned lang inst masks log → v < length masks → get_or masks v 0 ≡ 0 → a < lang.domain → IsDeleted log v a
  deleted_where_empty masks log v a pruned known empty low = pruned.has_steps v a (omega (arith, pruned.are_masks.long)) low (none (get_or masks v 0) a empty)
    where
      none : (m a : ℕ) → m ≡ 0 → IsBitSet m a → ⊥
      none m a nothing here = omega (arith, nothing, set_pos m a here)
