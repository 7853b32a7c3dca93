-- From a family that extends and breaks no constraint to a solution, where a near unanimity operation preserves it.
use Rattle.std.proofs.Common.{◌≡◌, ℕ, suc, zero, ◌+◌, ◌<◌, ◌≤◌, List, [], ◌∷◌, length, All, arith, get_or, set, replicate, refl, sym, ◌∙◌, subst}
use Rattle.std.specs.Prelude.{◌≢◌, Contains, map}
use Rattle.std.proofs.lemmas.List.{get_or-map, length-map, length-replicate}
use Rattle.std.proofs.lemmas.List.Elements.{All-contains, All-map, All-from_get_or, All-replicate}
use Rattle.pol_base.specs.Tuples.{IsTuple}
use Rattle.pol_base.proofs.MemberLemmas.{Contains-nil}
use Rattle.pol_relation.specs.Relations.{RelationView, LanguageView, IsLanguage, IsRelationOver, relation_of, no_named}
use Rattle.pol_relation.specs.Instances.{InstanceView, ConstraintView, FitsAt, Fits, Meets, IsSolution, constraint_of, no_constraint, read_at}
use Rattle.pol_relation.proofs.SolutionLemmas.{IsTuple-read_at}
use Rattle.pol_optable.specs.Operations.{Operation, Preserves}
use Rattle.pol_optable.specs.Identities.{IsNearUnanimity}
use Rattle.pol_nogood.specs.Nogoods.{Pair}
use Rattle.pol_nogood.specs.Logs.{StepView, no_step, nogood_at}
use Rattle.pol_strong.specs.Parts.{Agrees}
use Rattle.pol_strong.specs.Families.{AreAmong, AreKnown, IsFamily, Extended, Extends, Supports, BreaksNone, IsPreserved, KeptAt, firsts, HeldAt, KeptBy}
use Rattle.pol_strong.specs.Finished.{IsNearUnanimityFor, IsFinished}
use Rattle.pol_strong.proofs.ImagePlaces.{IsTuple-set}
use Rattle.pol_strong.proofs.Variables.{in_firsts, firsts_known, firsts_below, firsts_distinct}
use Rattle.pol_strong.proofs.Decomposition.{by_parts}
use Rattle.pol_strong.proofs.Extension.{extends_all}
use Rattle.pol_strong.proofs.KeptParts.{kept_family, kept_preserved}
use Rattle.pol_strong.proofs.Settling.{settled_extends, settled_breaks_none}

-- ---- an assignment that is kept at all variables

module _ (f : Operation) (near : IsNearUnanimity f) (n most : ℕ) (size : f.arity ≡ most + 1)
    (Kept : List ℕ → List ℕ → Type 0) (family : IsFamily most Kept) where
  -- the tuple that it reads at a constraint's scope is one of the rows, where few places never exclude it
  read_kept : (r : RelationView) → All (IsTuple f.domain r.arity) r.rows → Preserves f r
      → (scope : List ℕ) → length scope ≡ r.arity → AreKnown n scope
      → ((vars a : List ℕ) → IsTuple f.domain n a → AreKnown n vars → length vars ≤ most → Kept vars a
      → Supports r.rows scope vars a)
      → (a : List ℕ) → IsTuple f.domain n a → Kept (firsts n) a
      → Contains r.rows (read_at a scope)
  read_kept r tuples preserves scope long known support a is kept =
      by_parts f near r.arity (Contains r.rows)
      (record { tuples = λ t m. All-contains (IsTuple f.domain r.arity) r.rows t tuples m; images = preserves })
      (read_at a scope) (IsTuple-read_at f.domain n r.arity a scope is known long) (omega arith) part
    where
      part : (places : List ℕ) → All (λ j. j < r.arity) places → length places < f.arity
          → Agrees (Contains r.rows) (read_at a scope) places
      part places inside short =
          let vars : List ℕ = map (λ j. get_or scope j 0) places in
          let counted : length vars ≡ length places = length-map places (λ j. get_or scope j 0) in
          let below : AreKnown n vars = All-map (λ v. v < n) (λ j. get_or scope j 0) places
          (λ i d h. known (get_or places i d) 0 (rw long (inside i d h))) in
          let among : AreAmong vars (firsts n) = λ x m. in_firsts n x (All-contains (λ v. v < n) vars x below m) in
          let s : Supports r.rows scope vars a
          = support vars a is below (omega arith) (family.parts (firsts n) vars a a among (λ k d h. refl) kept) in
          record {
            row = s.row;
            inside = s.listed;
            same = λ i d h.
                let j : ℕ = get_or places i d in
                let within : j < length scope = rw long (inside i d h) in
                let listed : Contains vars (get_or scope j 0)
                = (i, omega arith, get_or-map (λ j. get_or scope j 0) places i d (get_or scope j 0) h) in
                s.reads.same j within listed ∙ sym (get_or-map (λ v. get_or a v 0) scope j 0 0 within);
          }

-- it is a solution
pub kept_solution : (f : Operation) (lang : LanguageView) (most : ℕ) → IsNearUnanimityFor lang most f → IsLanguage lang
    → (inst : InstanceView) → Fits lang inst
    → (Kept : List ℕ → List ℕ → Type 0) → IsFamily most Kept → BreaksNone lang inst most Kept
    → (a : List ℕ) → IsTuple lang.domain (length inst.variables) a → Kept (firsts (length inst.variables)) a
    → IsSolution lang inst a
kept_solution f lang most is_near good inst fits Kept family unbroken a is kept = record {
  assigns = is;
  meets = All-from_get_or (λ c. Meets lang c a) inst.constraints no_constraint (λ c inside.
      let n : ℕ = length inst.variables in
      let k : ConstraintView = constraint_of inst c in
      let fit : FitsAt lang n k = fits c no_constraint inside in
      let r : RelationView = relation_of lang k.relation in
      let over : IsRelationOver lang.domain r = good.relations_are k.relation no_named fit.known in
      let tuples : All (IsTuple f.domain r.arity) r.rows
      = subst (λ (d : ℕ). All (IsTuple d r.arity) r.rows)
      (over.same_domain ∙ sym is_near.domain_is) over.is_relation.tuples in
      let to_lang : (b : List ℕ) → IsTuple f.domain n b → IsTuple lang.domain n b
      = λ b t. subst (λ (d : ℕ). IsTuple d n b) is_near.domain_is t in
      read_kept f is_near.near_unanimity n most is_near.arity_is Kept family r tuples
      (is_near.preserves k.relation no_named fit.known)
      k.scope fit.long fit.below (λ vars b t known short kept. unbroken.support c vars b inside
      (to_lang b t) known short kept)
      a (subst (λ (d : ℕ). IsTuple d n a) (sym is_near.domain_is) is) kept);
}

-- ---- finished logs

module _ (lang : LanguageView) (most : ℕ) (f : Operation) (is_near : IsNearUnanimityFor lang most f)
    (good : IsLanguage lang)
    (inst : InstanceView) (fits : Fits lang inst) (log : List StepView) (finished : IsFinished lang inst most log) where
  abbrev n : ℕ
  n = length inst.variables

  family : IsFamily most (KeptBy log)
  family = kept_family most log finished.fits.small

  extends : Extends f.domain n most (KeptBy log)
  extends = subst (λ (d : ℕ). Extends d n most (KeptBy log)) (sym is_near.domain_is)
      (settled_extends lang inst most log finished.settled)

  unbroken : BreaksNone lang inst most (KeptBy log)
  unbroken = settled_breaks_none lang inst most log finished.settled good fits

  preserved : IsPreserved f n most (KeptBy log)
  preserved = kept_preserved f is_near.is_operation lang good is_near.domain_is is_near.preserves inst fits most
      log finished.fits.small
      extends unbroken finished.valid finished.by_variables

  -- an assignment that is kept at the first variables takes a value at the next one with which it is kept there too
  pub kept_next : (a : List ℕ) → IsTuple lang.domain n a → (v : ℕ) → v < n → KeptBy log (firsts v) a
      → Extended lang.domain (KeptBy log) (firsts v) a v
  kept_next a is v further kept =
      let more : Extended f.domain (KeptBy log) (firsts v) a v
      = extends_all f is_near.is_operation is_near.near_unanimity n most is_near.arity_is
      (KeptBy log) family extends preserved a
      (subst (λ (d : ℕ). IsTuple d n a) (sym is_near.domain_is) is) v further (firsts v)
      (firsts_known n v (omega arith)) (firsts_distinct v)
      (λ m. absurd (omega (arith, firsts_below v v m))) kept in
      subst (λ (d : ℕ). Extended d (KeptBy log) (firsts v) a v) is_near.domain_is more

  -- an assignment that holds no nogood of the log is a solution
  pub kept_all : (a : List ℕ) → IsTuple lang.domain n a → KeptBy log (firsts n) a → IsSolution lang inst a
  kept_all a is kept = kept_solution f lang most is_near good inst fits (KeptBy log) family unbroken a is kept

  -- no nogood is held where no variable counts
  kept_none : (a : List ℕ) → KeptBy log [] a
  kept_none a = All-from_get_or (λ (s : StepView). ¬ HeldAt [] a s.nogood) log no_step (λ i inside held.
      by (nogood_at log i) (finished.nonempty i no_step inside) held)
    where
      by : (nogood : List Pair) → nogood ≢ [] → HeldAt [] a nogood → ⊥
      by [] some held = some refl
      by (p ∷ rest) some held = Contains-nil p.variable (held 0 p (omega arith)).0

  kept_up_to : (k : ℕ) → k ≤ n → KeptAt lang.domain n (KeptBy log) (firsts k)
  kept_up_to zero few = record {
    assignment = replicate n 0;
    tuple = record {
      long = length-replicate n 0;
      below = All-replicate
          (λ v. v < lang.domain) n 0 good.domain_is.some;
    };
    kept = kept_none (replicate n 0);
  }
  kept_up_to (suc k) few = more (kept_up_to k (omega arith))
    where
      more : KeptAt lang.domain n (KeptBy log) (firsts k) → KeptAt lang.domain n (KeptBy log) (firsts (suc k))
      more now =
          let next = kept_next now.assignment now.tuple k (omega arith) now.kept in
          record {
            assignment = set now.assignment k next.value;
            tuple = IsTuple-set lang.domain n now.assignment k next.value now.tuple next.below;
            kept = next.kept;
          }

  -- an instance to whose log nothing is left to add, and that does not end it by the empty nogood, has a solution
  pub finished_solution : (a : List ℕ) × IsSolution lang inst a
  finished_solution =
      let all = kept_up_to n (omega arith) in
      (all.assignment, kept_all all.assignment all.tuple all.kept)
