-- The parts that hold no nogood of a log of deletions: a family, which an operation preserves that preserves the
-- relations.
use Rattle.std.proofs.Common.{◌≡◌, ◌≢◌, ℕ, ◌<◌, ◌≤◌, List, [], ◌∷◌, ◌++◌, length, All, Contains, arith, ap, get_or, set, inl, inr, refl, sym, ◌∙◌, ◌⊎◌, subst}
use Rattle.std.proofs.lemmas.List.{get_or-map, length-map, get_or-set_same, get_or-set_other}
use Rattle.std.proofs.lemmas.List.Elements.{Contains-get_or, All-contains, All-append, All-map, All-nil, All-cons, All-from_get_or, Contains-append_cases}
use Rattle.std.proofs.lemmas.List.FromFn.{length-map-range_with_len, get_or-map-range_with_len}
use Rattle.pol_base.specs.Tuples.{IsTuple}
use Rattle.pol_base.proofs.MemberLemmas.{Contains-here, Contains-there, Contains-cons_cases, Contains-nil, in_map}
use Rattle.pol_relation.specs.Relations.{LanguageView, IsLanguage, rows_of, no_named}
use Rattle.pol_relation.specs.Instances.{InstanceView, ConstraintView, FitsAt, Fits, constraint_of, no_constraint}
use Rattle.pol_optable.specs.Operations.{Operation, IsOperation, IsPolymorphism, value_at, image}
use Rattle.pol_nogood.specs.Nogoods.{Pair, IsNogood, Holds}
use Rattle.pol_nogood.specs.Logs.{Basis, StepView, no_step, step_at, nogood_at, value_case, value_cases, cases_of}
use Rattle.pol_nogood.specs.ValidLogs.{CanRestOn, AreValid}
use Rattle.pol_nogood.proofs.LogCases.{case_from_places, row_in_cases, HasHeldCase}
use Rattle.pol_nogood.proofs.LogSound.{HoldsParts, HoldsCases, refuted_all}
use Rattle.pol_strong.specs.Families.{AreAmong, AreKnown, IsFamily, Extended, Extends, Reads, Supports, BreaksNone, IsPreserved, vars_of, HeldAt, KeptBy}
use Rattle.pol_strong.specs.Contradictions.{HasCase}
use Rattle.pol_strong.specs.Finished.{RefersByVariable}
use Rattle.pol_strong.proofs.Choosing.{choose}
use Rattle.pol_strong.proofs.ImagePlaces.{length-image, image_place, column_is, columns_same, value_at-below, IsTuple-set}

-- ---- the variables of a nogood

pub length-vars_of : (nogood : List Pair) → length (vars_of nogood) ≡ length nogood
length-vars_of nogood = length-map nogood (λ (p : Pair). p.variable)

pub in_vars_of : (nogood : List Pair) (p : Pair) → Contains nogood p → Contains (vars_of nogood) p.variable
in_vars_of nogood p inside = in_map (λ (p : Pair). p.variable) nogood p inside

-- a pair of the variable
pub pair_of_var : (nogood : List Pair) (x : ℕ) → Contains (vars_of nogood) x
    → (p : Pair) × Contains nogood p × (p.variable ≡ x)
pair_of_var nogood x inside =
    let within : inside.0 < length nogood = omega (arith, inside.1, length-vars_of nogood) in
    let d : Pair = record { variable = 0; value = 0 } in (
      get_or nogood inside.0 d,
      Contains-get_or nogood inside.0 d within,
      sym (get_or-map (λ (p : Pair). p.variable) nogood inside.0 d x within) ∙ inside.2,
    )

pub vars_known : (n d : ℕ) (nogood : List Pair) → IsNogood n d nogood → AreKnown n (vars_of nogood)
vars_known n d nogood is = All-map (λ v. v < n) (λ (p : Pair). p.variable) nogood
    (λ k e h. (is.pairs k e h).variable_known)

-- a variable that no pair names
pub not_in_vars_of : (nogood : List Pair) (v : ℕ) → All (λ p. p.variable ≢ v) nogood → ¬ Contains (vars_of nogood) v
not_in_vars_of nogood v apart inside =
    let p = pair_of_var nogood v inside in
    All-contains (λ (p : Pair). p.variable ≢ v) nogood p.0 apart p.1 p.2

held_vars : (vars a : List ℕ) (nogood : List Pair) → HeldAt vars a nogood → AreAmong (vars_of nogood) vars
held_vars vars a nogood held x inside =
    let p = pair_of_var nogood x inside in
    subst (Contains vars) p.2
    (All-contains (λ (q : Pair). Contains vars q.variable × (get_or a q.variable 0 ≡ q.value)) nogood p.0 held p.1).0

-- ---- the kept parts are a family

pub kept_family : (most : ℕ) (log : List StepView) → All (λ s. length s.nogood ≤ most) log → IsFamily most (KeptBy log)
kept_family most log few = record {
  parts = λ vars some a b among same kept k d h held. kept k d h (λ i e inside.
      let p : Pair = get_or (get_or log k d).nogood i e in
      let is = held i e inside in
      (among p.variable is.0, All-contains (λ j. get_or a j 0 ≡ get_or b j 0) some p.variable same is.0 ∙ is.1));
  small = λ vars a kept k d h held.
      let nogood : List Pair = (get_or log k d).nogood in
      kept (vars_of nogood) (held_vars vars a nogood held) (rw (length-vars_of nogood) (few k d h)) k d h
      (λ i e inside. (in_vars_of nogood (get_or nogood i e) (Contains-get_or nogood i e inside), (held i e inside).1));
}

-- ---- what the operation makes of kept parts

-- the operation makes an assignment that holds the nogood of parts that are kept at its variables
pub record IsMade (f : Operation) (n : ℕ) (log : List StepView) (nogood : List Pair) : Type 0 where
  pub parts : List (List ℕ)
  pub many : length parts ≡ f.arity
  pub tuples : All (IsTuple f.domain n) parts
  pub kept : All (KeptBy log (vars_of nogood)) parts
  pub holds : Holds (image f n parts) nogood

-- a part with a value at v, kept at the variables
record IsGrown (d n : ℕ) (log : List StepView) (vars part : List ℕ) (v b : ℕ) (c : List ℕ) : Type 0 where
  tuple : IsTuple d n c
  kept : KeptBy log vars c
  at_v : get_or c v 0 ≡ b
  other : (j : ℕ) → j ≢ v → get_or c j 0 ≡ get_or part j 0

-- rows that read parts make a row that reads what the operation makes of the parts
reads_image : (f : Operation) (n : ℕ) (scope vars : List ℕ) (parts rows : List (List ℕ))
    → AreKnown n scope → length parts ≡ f.arity → length rows ≡ f.arity
    → ((k : ℕ) → k < f.arity → Reads scope vars (get_or parts k []) (get_or rows k []))
    → Reads scope vars (image f n parts) (image f (length scope) rows)
reads_image f n scope vars parts rows known many counted each = record {
  one_value = λ i j within inside same.
      image_place f (length scope) rows i within
      ∙ (ap (value_at f) (columns_same rows rows i j refl
      (λ k h. (each k (omega arith)).one_value i j within inside same))
      ∙ sym (image_place f (length scope) rows j inside));
  same = λ i within counts.
      image_place f (length scope) rows i within
      ∙ (ap (value_at f) (columns_same rows parts i (get_or scope i 0) (counted ∙ sym many)
      (λ k h. (each k (omega arith)).same i within counts))
      ∙ sym (image_place f n parts (get_or scope i 0) (known i 0 within)));
}

module _ (f : Operation) (op : IsOperation f) (lang : LanguageView) (good : IsLanguage lang)
    (domain : f.domain ≡ lang.domain)
    (poly : IsPolymorphism f lang) (inst : InstanceView) (fits : Fits lang inst)
    (most : ℕ) (log : List StepView) (few : All (λ s. length s.nogood ≤ most) log) where
  abbrev n : ℕ
  n = length inst.variables

  -- the operation's row for a constraint is a case of what it makes
  row_made : BreaksNone lang inst most (KeptBy log)
      → (c : ℕ) → c < length inst.constraints
      → (nogood : List Pair) → length nogood ≤ most → AreKnown n (vars_of nogood) → IsMade f n log nogood
      → HasCase lang (constraint_of inst c) nogood
  row_made unbroken c inside nogood short known made =
      let chosen = choose (λ i row. Contains (rows_of lang k.relation) row × Reads k.scope (vars_of nogood)
      (get_or made.parts i []) row)
      f.arity (λ i h.
      let part : List ℕ = get_or made.parts i [] in
      let s : Supports (rows_of lang k.relation) k.scope (vars_of nogood) part
      = unbroken.support c (vars_of nogood) part inside
      (rw domain at (made.tuples i [] (omega (arith, made.many)))) known (rw (length-vars_of nogood) short)
      (made.kept i [] (omega (arith, made.many))) in
      (s.row, (s.listed, s.reads))) in
      from chosen.0 chosen.1 chosen.2
    where
      k : ConstraintView
      k = constraint_of inst c

      fit : FitsAt lang n (constraint_of inst c)
      fit = fits c no_constraint inside

      from : (rows : List (List ℕ)) → length rows ≡ f.arity
          → ((i : ℕ) (d : List ℕ) → i < f.arity
          → Contains (rows_of lang k.relation) (get_or rows i d) × Reads k.scope (vars_of nogood)
          (get_or made.parts i []) (get_or rows i d))
          → HasCase lang (constraint_of inst c) nogood
      from rows counted each =
          let wide : List ℕ = image f (length k.scope) rows in
          let listed : Contains (rows_of lang k.relation) wide
          = rw (← fit.long) at (poly k.relation no_named fit.known rows counted
          (λ i d h. (each i d (omega arith)).0)) in
          let reads : Reads k.scope (vars_of nogood) (image f n made.parts) wide
          = reads_image f n k.scope (vars_of nogood) made.parts rows fit.below made.many counted
          (λ i h. (each i [] h).1) in
          record {
            row = wide;
            listed = listed;
            is = case_from_places k.scope nogood wide (length-image f (length k.scope) rows) (record {
              repeats = reads.one_value;
              agrees = λ j within i d h same.
                  let q : Pair = get_or nogood i d in
                  let counts : Contains (vars_of nogood) (get_or k.scope j 0)
                  = subst (Contains (vars_of nogood)) (sym same) (in_vars_of nogood q (Contains-get_or nogood i d h)) in
                  reads.same j within counts ∙ (ap (λ v. get_or (image f n made.parts) v 0) same ∙ made.holds i d h);
            });
          }

  -- what is made holds one value of each further variable
  value_made : Extends f.domain n most (KeptBy log)
      → (v : ℕ) → v < n
      → (nogood : List Pair) → length nogood ≤ most → AreKnown n (vars_of nogood) → All (λ p. p.variable ≢ v) nogood
      → IsMade f n log nogood
      → HasHeldCase (IsMade f n log) nogood (value_cases v lang.domain)
  value_made extends v further nogood short known apart made =
      let grown = choose (λ i c. IsGrown f.domain n log (v ∷ vars_of nogood) (get_or made.parts i []) v
      (get_or values.0 i 0) c)
      f.arity (λ i h.
      let part : List ℕ = get_or made.parts i [] in
      let is : IsTuple f.domain n part = made.tuples i [] (omega (arith, made.many)) in
      let b : ℕ = get_or values.0 i 0 in
      let open_value = values.2 i 0 h in (
        set part v b,
        record {
          tuple = IsTuple-set f.domain n part v b is open_value.0;
          kept = open_value.1;
          at_v = get_or-set_same part v b 0 (rw is.long further);
          other = λ j differ. get_or-set_other part v j b 0 differ;
        },
      )) in
      from values.0 values.1 (λ i d h. (values.2 i d h).0) grown.0 grown.1 grown.2
    where
      values : (bs : List ℕ) × (length bs ≡ f.arity)
          × ((i d : ℕ) → i < f.arity → (get_or bs i d < f.domain) × KeptBy log (v ∷ vars_of nogood)
          (set (get_or made.parts i []) v (get_or bs i d)))
      values = choose (λ i b. (b < f.domain) × KeptBy log (v ∷ vars_of nogood) (set (get_or made.parts i []) v b))
          f.arity (λ i h.
          let inside : i < length made.parts = omega (arith, made.many) in
          let x : Extended f.domain (KeptBy log) (vars_of nogood) (get_or made.parts i []) v
          = extends.more (vars_of nogood) (get_or made.parts i []) v (made.tuples i [] inside) known
          (rw (length-vars_of nogood) short) (made.kept i [] inside) further (not_in_vars_of nogood v apart) in
          (x.value, (x.below, x.kept)))

      -- the variables of the nogood with the value
      narrow : (b : ℕ) → AreAmong (vars_of (nogood ++ value_case v b)) (v ∷ vars_of nogood)
      narrow b x inside =
          let p = pair_of_var (nogood ++ value_case v b) x inside in
          by p.0 p.2 (Contains-append_cases nogood (value_case v b) p.0 p.1)
        where
          by : (q : Pair) → q.variable ≡ x → Contains nogood q ⊎ Contains (value_case v b) q
              → Contains (v ∷ vars_of nogood) x
          by q at (inl old) =
              subst (Contains (v ∷ vars_of nogood)) at (Contains-there v q.variable (vars_of nogood)
              (in_vars_of nogood q old))
          by q at (inr last) = last_is (Contains-cons_cases (record { variable = v; value = b }) q [] last)
            where
              last_is : (record { variable = v; value = b } ≡ q) ⊎ Contains [] q → Contains (v ∷ vars_of nogood) x
              last_is (inl same) =
                  subst (Contains (v ∷ vars_of nogood)) (ap (λ (p : Pair). p.variable) same ∙ at)
                  (Contains-here v (vars_of nogood))
              last_is (inr none) = absurd (Contains-nil q none)

      from : (bs : List ℕ) → length bs ≡ f.arity → ((i d : ℕ) → i < f.arity → get_or bs i d < f.domain)
          → (cs : List (List ℕ)) → length cs ≡ f.arity
          → ((i : ℕ) (d : List ℕ) → i < f.arity
          → IsGrown f.domain n log (v ∷ vars_of nogood) (get_or made.parts i []) v (get_or bs i 0) (get_or cs i d))
          → HasHeldCase (IsMade f n log) nogood (value_cases v lang.domain)
      from bs long below cs counted each =
          let b : ℕ = value_at f bs in
          let less : b < f.domain = value_at-below f op bs
          (record { long = long; below = λ i d h. below i d (omega arith) }) in
          let known_value : b < lang.domain = subst (λ (d : ℕ). b < d) domain less in
          let wide : List ℕ = image f n cs in
          let at_v : get_or wide v 0 ≡ b
          = image_place f n cs v further
          ∙ ap (value_at f) (column_is cs bs v (counted ∙ sym long) (λ i h. (each i [] (omega arith)).at_v)) in
          let old : Holds wide nogood = λ i d h.
          let p : Pair = get_or nogood i d in
          let p_known : p.variable < n
          = All-contains (λ x. x < n) (vars_of nogood) p.variable known
          (in_vars_of nogood p (Contains-get_or nogood i d h)) in
          image_place f n cs p.variable p_known
          ∙ (ap (value_at f) (columns_same cs made.parts p.variable p.variable (counted ∙ sym made.many)
          (λ k inside. (each k [] (omega arith)).other p.variable (apart i d h)))
          ∙ (sym (image_place f n made.parts p.variable p_known) ∙ made.holds i d h)) in
          let both : Holds wide (nogood ++ value_case v b)
          = All-append (λ (p : Pair). get_or wide p.variable 0 ≡ p.value) nogood (value_case v b) old
          (All-cons (λ (p : Pair). get_or wide p.variable 0 ≡ p.value) (record { variable = v; value = b }) [] at_v
          (All-nil (λ (p : Pair). get_or wide p.variable 0 ≡ p.value))) in
          let is_made : IsMade f n log (nogood ++ value_case v b) = record {
            parts = cs;
            many = counted;
            tuples = λ i d h. (each i d (omega arith)).tuple;
            kept = λ i d h.
                (kept_family most log few).parts (v ∷ vars_of nogood) (vars_of (nogood ++ value_case v b))
                (get_or cs i d) (get_or cs i d)
                (narrow b) (λ k d h. refl) (each i d (omega arith)).kept;
            holds = both;
          } in
          record {
            number = b;
            within = omega (arith, length-map-range_with_len (value_case v) 0 lang.domain);
            held = subst (λ (pairs : List Pair). IsMade f n log (nogood ++ pairs))
                (sym (get_or-map-range_with_len (value_case v) 0 lang.domain b b [] known_value (omega arith))) is_made;
          }

  made_parts : HoldsParts (IsMade f n log)
  made_parts some pairs within made = record {
    parts = made.parts;
    many = made.many;
    tuples = made.tuples;
    kept = λ i d h.
        (kept_family most log few).parts (vars_of pairs) (vars_of some) (get_or made.parts i d)
        (get_or made.parts i d) narrow
        (λ k d h. refl) (made.kept i d h);
    holds = λ k d h.
        All-contains (λ (p : Pair). get_or (image f n made.parts) p.variable 0 ≡ p.value) pairs
        (get_or some k d) made.holds (within k d h);
  }
    where
      narrow : AreAmong (vars_of some) (vars_of pairs)
      narrow x inside =
          let p = pair_of_var some x inside in
          subst (Contains (vars_of pairs)) p.2
          (in_vars_of pairs p.0 (All-contains (Contains pairs) some p.0 within p.1))

  module _ (extends : Extends f.domain n most (KeptBy log)) (unbroken : BreaksNone lang inst most (KeptBy log)) where
    -- where the nogood of a step is made, so is it with one of the step's cases
    step_made : (g : Basis) (nogood : List Pair) (references : List ℕ)
        → length nogood ≤ most
        → IsNogood n lang.domain nogood
        → CanRestOn inst nogood g
        → length references ≡ length (cases_of lang inst g nogood)
        → ((c : ℕ) → g ≡ Basis.ByConstraint c → references ≡ [])
        → IsMade f n log nogood
        → HasHeldCase (IsMade f n log) nogood (cases_of lang inst g nogood)
    step_made (Basis.ByConstraint c) nogood references short is rests as_many refers made =
        let case = row_made unbroken c rests nogood short (vars_known n lang.domain nogood is) made in
        let member = row_in_cases lang inst c nogood case.row case.listed case.is in
        let none : length references ≡ 0 = ap (λ (refs : List ℕ). length refs) (refers c refl) in
        absurd (omega (arith, member.1, as_many, none))
    step_made (Basis.ByVariable v) nogood references short is rests as_many refers made =
        value_made extends v rests.0 nogood short (vars_known n lang.domain nogood is) rests.1 made

    -- an operation that preserves the relations preserves the kept parts, where these extend and break no constraint
    pub kept_preserved : AreValid lang inst log → All RefersByVariable log → IsPreserved f n most (KeptBy log)
    kept_preserved valid by_variables = record {
      images = λ vars parts known short many tuples kept.
          All-from_get_or (λ (s : StepView). ¬ HeldAt vars (image f n parts) s.nogood) log no_step (λ i h held.
          let nogood : List Pair = nogood_at log i in
          refuted_all lang inst (IsMade f n log) log valid made_parts cases i h (record {
            parts = parts;
            many = many;
            tuples = tuples;
            kept = λ j e k.
                (kept_family most log few).parts vars (vars_of nogood) (get_or parts j e) (get_or parts j e)
                (held_vars vars (image f n parts) nogood held) (λ _ _ _. refl) (kept j e k);
            holds = λ j e k. (held j e k).1;
          }));
    }
      where
        cases : HoldsCases lang inst (IsMade f n log) log
        cases i h made =
            let step = valid i h in
            step_made (step_at log i).basis (nogood_at log i) (step_at log i).references
            (few i no_step h) step.placed.is_nogood
            step.placed.rests step.referred.as_many (by_variables i no_step h) made
