-- Where each nogood is settled, the parts that hold no nogood of the log extend, and break no constraint.
use Rattle.std.proofs.Common.{◌≡◌, ◌≢◌, ℕ, ◌<◌, ◌≤◌, Bool, true, List, [], ◌∷◌, ◌++◌, length, map, All, AllPairs, Contains, filter, arith, ap, get_or, set, inl, inr, refl, sym, ◌∙◌, ◌⊎◌, subst}
use Rattle.std.specs.Prelude.{◌==◌}
use Rattle.std.specs.List.{range_with_len, list_any}
use Rattle.std.proofs.lemmas.Bool.{cases_eq, eqb-true, eq-eqb}
use Rattle.std.proofs.lemmas.List.{get_or-map, length-map, get_or-set_same, get_or-set_other}
use Rattle.std.proofs.lemmas.List.Elements.{Contains-get_or, All-contains, All-map, All-from_get_or, Contains-append_left, Contains-append_right, filter_passes}
use Rattle.std.proofs.lemmas.List.FromFn.{length-range_with_len, get_or-range_with_len}
use Rattle.std.proofs.lemmas.List.Folds.{Any-from_list_any, list_any_at}
use Rattle.std.proofs.lemmas.List.Kept.{AllPairs-filter}
use Rattle.pol_base.specs.Tuples.{IsTuple}
use Rattle.pol_base.proofs.MemberLemmas.{Contains-here, Contains-cons_cases, in_map, in_filter, no_longer}
use Rattle.pol_relation.specs.Relations.{LanguageView, IsLanguage, IsRelationOver, relation_of, rows_of, no_named}
use Rattle.pol_relation.specs.Instances.{InstanceView, ConstraintView, FitsAt, Fits, constraint_of, no_constraint}
use Rattle.pol_nogood.specs.Nogoods.{Pair, IsPair, IsContained}
use Rattle.pol_nogood.specs.Logs.{StepView, no_step, nogood_at, value_case}
use Rattle.pol_nogood.proofs.LogCases.{IsCaseByPlace, places_from_case}
use Rattle.pol_strong.specs.Families.{AreAmong, AreKnown, Extends, BreaksNone, HeldAt, KeptBy}
use Rattle.pol_strong.specs.Contradictions.{IsContradicted, IsOpen, HasCase}
use Rattle.pol_strong.specs.Finished.{IsSmall, IsSettled, AllSettled}
use Rattle.pol_strong.proofs.Variables.{AreAmong-All}

-- ---- variables in ascending order

abbrev is_listed : List ℕ → ℕ → Bool
is_listed vars x = list_any (λ y. y == x) vars

-- the variables below n that are among these, each once
abbrev in_order : ℕ → List ℕ → List ℕ
in_order n vars = filter (is_listed vars) (range_with_len 0 n)

range_ascends : (n : ℕ) → AllPairs (λ x y. x < y) (range_with_len 0 n)
range_ascends n i j d less inside =
    let within : j < n = omega (arith, length-range_with_len 0 n) in
    omega (arith, get_or-range_with_len 0 n i d (omega arith), get_or-range_with_len 0 n j d within)

in_range : (n x : ℕ) → x < n → Contains (range_with_len 0 n) x
in_range n x below = (x, omega (arith, length-range_with_len 0 n), get_or-range_with_len 0 n x x below ∙ omega arith)

in_order-ascends : (n : ℕ) (vars : List ℕ) → AllPairs (λ x y. x < y) (in_order n vars)
in_order-ascends n vars = AllPairs-filter (λ (x y : ℕ). x < y) (is_listed vars) (range_with_len 0 n) (range_ascends n)

in_order-among : (n : ℕ) (vars : List ℕ) → AreAmong (in_order n vars) vars
in_order-among n vars x inside =
    let passes : is_listed vars x ≡ true
    = All-contains (λ x. is_listed vars x ≡ true) (in_order n vars) x
    (filter_passes (is_listed vars) (range_with_len 0 n)) inside in
    let found = Any-from_list_any (λ y. y == x) vars passes in
    let same : found.1 ≡ x = eqb-true found.1 x found.4 in
    subst (Contains vars) same (found.0, found.2, found.3)

among-in_order : (n : ℕ) (vars : List ℕ) → AreKnown n vars → AreAmong vars (in_order n vars)
among-in_order n vars known x inside =
    let passes : is_listed vars x ≡ true
    = list_any_at (λ y. y == x) vars inside.0 x inside.1 (eq-eqb (get_or vars inside.0 x) x inside.2) in
    in_filter (is_listed vars) (range_with_len 0 n) x
    (in_range n x (All-contains (λ v. v < n) vars x known inside)) passes

in_order-short : (n : ℕ) (vars : List ℕ) → length (in_order n vars) ≤ length vars
in_order-short n vars = no_longer (in_order n vars) vars
    (λ i j d less inside same. absurd (omega (arith, in_order-ascends n vars i j d less inside, same)))
    (λ k d h. in_order-among n vars (get_or (in_order n vars) k d) (Contains-get_or (in_order n vars) k d h))

-- ---- the values of an assignment as a nogood

abbrev pub assigned : List ℕ → ℕ → Pair
assigned a v = record { variable = v; value = get_or a v 0 }

-- the pairs of the variables with their values
abbrev pub assigned_pairs : List ℕ → List ℕ → List Pair
assigned_pairs a vars = map (assigned a) vars

pub same_pair : (p q : Pair) → p.variable ≡ q.variable → p.value ≡ q.value → p ≡ q
same_pair p q variables values = λ i. record { variable = variables i; value = values i }

-- a pair of the variables with their values
record IsPairOf (vars a : List ℕ) (p : Pair) : Type 0 where
  listed : Contains vars p.variable
  value_is : get_or a p.variable 0 ≡ p.value

assigned-pair : (a vars : List ℕ) (p : Pair) → Contains (assigned_pairs a vars) p → IsPairOf vars a p
assigned-pair a vars p inside =
    let within : inside.0 < length vars = omega (arith, inside.1, length-map vars (assigned a)) in
    let same : assigned a (get_or vars inside.0 0) ≡ p
    = sym (get_or-map (assigned a) vars inside.0 0 p within) ∙ inside.2 in
    subst (IsPairOf vars a) same (record { listed = Contains-get_or vars inside.0 0 within; value_is = refl })

-- a nogood that is contained in a part is held by it
pub held_within : (a xs vars : List ℕ) (nogood : List Pair) → AreAmong xs vars
    → IsContained nogood (assigned_pairs a xs)
    → HeldAt vars a nogood
held_within a xs vars nogood among within k d h =
    let p : Pair = get_or nogood k d in
    let is = assigned-pair a xs p (within k d h) in
    (among p.variable is.listed, is.value_is)

pub kept_free : (log : List StepView) (a xs vars : List ℕ) → AreAmong xs vars → KeptBy log vars a
    → ¬ IsContradicted log (assigned_pairs a xs)
kept_free log a xs vars among kept found =
    kept found.step no_step found.known (held_within a xs vars (nogood_at log found.step) among found.within)

-- a part with a value of a further variable that contains no nogood of the log is kept
pub kept_more : (log : List StepView) (a xs vars : List ℕ) (v b : ℕ) → AreAmong vars xs → v < length a
    → ¬ IsContradicted log (assigned_pairs a xs ++ value_case v b)
    → KeptBy log (v ∷ vars) (set a v b)
kept_more log a xs vars v b among known free =
    All-from_get_or (λ (s : StepView). ¬ HeldAt (v ∷ vars) (set a v b) s.nogood) log no_step (λ i inside held.
    let nogood : List Pair = nogood_at log i in
    free (record {
      step = i;
      known = inside;
      within = λ k d h. let is_held = held k d h in found (get_or nogood k d) is_held.0 is_held.1;
    }))
  where
    found : (p : Pair) → Contains (v ∷ vars) p.variable → get_or (set a v b) p.variable 0 ≡ p.value
        → Contains (assigned_pairs a xs ++ value_case v b) p
    found p listed value_is = by (cases_eq p.variable v)
      where
        last : Pair
        last = record { variable = v; value = b }

        old : (v ≡ p.variable) ⊎ Contains vars p.variable → (p.variable ≡ v → ⊥) → Contains vars p.variable
        old (inl same) apart = absurd (apart (sym same))
        old (inr here) apart = here

        by : (p.variable ≡ v) ⊎ (p.variable ≡ v → ⊥) → Contains (assigned_pairs a xs ++ value_case v b) p
        by (inl same) =
            let value_is_b : p.value ≡ b
            = sym value_is ∙ (ap (λ x. get_or (set a v b) x 0) same ∙ get_or-set_same a v b 0 known) in
            subst (Contains (assigned_pairs a xs ++ value_case v b)) (sym (same_pair p last same value_is_b))
            (Contains-append_right (assigned_pairs a xs) (value_case v b) last (Contains-here last []))
        by (inr apart) =
            let here : Contains vars p.variable = old (Contains-cons_cases v p.variable vars listed) apart in
            let value_is_old : p.value ≡ get_or a p.variable 0
            = sym value_is ∙ get_or-set_other a v p.variable b 0 apart in
            subst (Contains (assigned_pairs a xs ++ value_case v b))
            (sym (same_pair p (assigned a p.variable) refl value_is_old))
            (Contains-append_left (assigned_pairs a xs) (value_case v b) (assigned a p.variable)
            (in_map (assigned a) xs p.variable (among p.variable here)))

-- ---- where nothing is left to add

module _ (lang : LanguageView) (inst : InstanceView) (most : ℕ) (log : List StepView)
    (settled : AllSettled lang inst most log) where
  abbrev n : ℕ
  n = length inst.variables

  part_small : (vars a : List ℕ) → IsTuple lang.domain n a → AreKnown n vars → length vars ≤ most
      → IsSmall n lang.domain most (assigned_pairs a (in_order n vars))
  part_small vars a is known short =
      let among : AreKnown n (in_order n vars)
      = AreAmong-All (λ v. v < n) (in_order n vars) vars (in_order-among n vars) known in
      record {
        is_nogood = record {
          pairs = All-map (IsPair n lang.domain) (assigned a) (in_order n vars) (λ i d h. record {
            variable_known = among i d h;
            value_known = is.below (get_or (in_order n vars) i d) 0 (rw is.long (among i d h));
          });
          ascending = λ i j d less inside.
              let within : j < length (in_order n vars) = omega (arith, length-map (in_order n vars) (assigned a)) in
              let one = get_or-map (assigned a) (in_order n vars) i 0 d (omega arith) in
              let other = get_or-map (assigned a) (in_order n vars) j 0 d within in
              rw (one, other) (in_order-ascends n vars i j 0 less within);
        };
        few = omega (arith, length-map (in_order n vars) (assigned a), in_order-short n vars);
      }

  part_settled : (vars a : List ℕ) → IsTuple lang.domain n a → AreKnown n vars → length vars ≤ most → KeptBy log vars a
      → IsSettled lang inst log (assigned_pairs a (in_order n vars))
  part_settled vars a is known short kept =
      settled (assigned_pairs a (in_order n vars)) (part_small vars a is known short)
      (kept_free log a (in_order n vars) vars (in_order-among n vars) kept)

  pub settled_extends : Extends lang.domain n most (KeptBy log)
  settled_extends = record {
    more = λ vars a v is known short kept further new.
        let xs : List ℕ = in_order n vars in
        let s : IsSettled lang inst log (assigned_pairs a xs) = part_settled vars a is known short kept in
        let other : All (λ p. p.variable ≢ v) (assigned_pairs a xs)
        = All-map (λ p. p.variable ≢ v) (assigned a) xs (λ i d h same.
        new (in_order-among n vars v (subst (Contains xs) same (Contains-get_or xs i d h)))) in
        let x : IsOpen lang.domain log (assigned_pairs a xs) v = s.values v further other in
        record {
          value = x.value;
          below = x.below;
          kept = kept_more log a xs vars v x.value (among-in_order n vars known) (rw is.long further) x.free;
        };
  }

  pub settled_breaks_none : IsLanguage lang → Fits lang inst → BreaksNone lang inst most (KeptBy log)
  settled_breaks_none good fits = record {
    support = λ c vars a inside is known short kept.
        let xs : List ℕ = in_order n vars in
        let k : ConstraintView = constraint_of inst c in
        let fit : FitsAt lang n k = fits c no_constraint inside in
        let case : HasCase lang k (assigned_pairs a xs)
        = (part_settled vars a is known short kept).cases c no_constraint inside in
        let over : IsRelationOver lang.domain (relation_of lang k.relation)
        = good.relations_are k.relation no_named fit.known in
        let tuple : IsTuple (relation_of lang k.relation).domain (relation_of lang k.relation).arity case.row
        = All-contains (IsTuple (relation_of lang k.relation).domain (relation_of lang k.relation).arity)
        (rows_of lang k.relation) case.row over.is_relation.tuples case.listed in
        let places : IsCaseByPlace k.scope (assigned_pairs a xs) case.row
        = places_from_case k.scope (assigned_pairs a xs) case.row (tuple.long ∙ sym fit.long) case.is in
        record {
          row = case.row;
          listed = case.listed;
          reads = record {
            one_value = places.repeats;
            same = λ i within counts.
                let x : ℕ = get_or k.scope i 0 in
                All-contains (λ (q : Pair). x ≡ q.variable → get_or case.row i 0 ≡ q.value) (assigned_pairs a xs)
                (assigned a x)
                (places.agrees i within) (in_map (assigned a) xs x (among-in_order n vars known x counts)) refl;
          };
        };
  }
