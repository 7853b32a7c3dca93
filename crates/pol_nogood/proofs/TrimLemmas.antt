-- The needed steps of a log, copied: what holds of the whole log holds of them.
use Rattle.std.proofs.Common.{◌≡◌, ◌≢◌, ◌⊎◌, inl, inr, ℕ, ◌+◌, ◌-◌, ◌<◌, ◌≤◌, List, [], ◌++◌, length, take, get_or, All, AllPairs, Contains, refl, sym, ap, ◌∙◌, subst, arith}
use Rattle.std.specs.List.{range_with_len}
use Rattle.std.proofs.lemmas.Bool.{cases_eq, cases_lt}
use Rattle.std.proofs.lemmas.List.{get_or-take, get_or_default, length-take-le}
use Rattle.std.proofs.lemmas.List.FromFn.{length-range_with_len, get_or-range_with_len}
use Rattle.pol_base.proofs.MemberLemmas.{no_longer}
use Rattle.pol_relation.specs.Relations.{LanguageView}
use Rattle.pol_relation.specs.Instances.{InstanceView}
use Rattle.pol_nogood.specs.Nogoods.{Pair, IsContained}
use Rattle.pol_nogood.specs.Logs.{StepView, Basis, no_step, step_at, nogood_at, cases_of, FitsMost}
use Rattle.pol_nogood.specs.ValidLogs.{IsPlaced, HasReferences, IsValidStep, IsValidLog}
use Rattle.pol_nogood.specs.Trims.{IsNeeded, IsRenumbered, IsTrimmed, IsReferredTo, AreReferredTo}
use Rattle.pol_nogood.specs.Trims.IsNeeded.{last, referred}

pub needed_known : (log : List StepView) (s : ℕ) → IsNeeded log s → s < length log
needed_known log s (last _ ends) = omega (arith, ends)
needed_known log s (referred _ t less needed among) = let known = needed_known log t needed in omega (arith, less, known)

-- ---- ascending numbers

less_at : (numbers : List ℕ) (i j : ℕ) → AllPairs (λ s t. s < t) numbers → i < j → j < length numbers → get_or numbers i 0 < get_or numbers j 0
less_at numbers i j ascending less inside = ascending i j 0 less inside

place_less : (numbers : List ℕ) (i j : ℕ) → AllPairs (λ s t. s < t) numbers → i < length numbers → get_or numbers i 0 < get_or numbers j 0 → i < j
place_less numbers i j ascending inside less = by (cases_lt i j) (cases_eq j i)
  where
    by : (i < j) ⊎ (j ≤ i) → (j ≡ i) ⊎ (j ≡ i → ⊥) → i < j
    by (inl before) other = before
    by (inr from) (inl same) = absurd (omega (arith, less, ap (λ k. get_or numbers k 0) same))
    by (inr from) (inr apart) = absurd (omega (arith, less, less_at numbers j i ascending (omega arith) inside))

same_place : (numbers : List ℕ) (i j : ℕ) → AllPairs (λ s t. s < t) numbers → i < length numbers → j < length numbers → get_or numbers i 0 ≡ get_or numbers j 0 → i ≡ j
same_place numbers i j ascending first second same = by (cases_lt i j) (cases_lt j i)
  where
    by : (i < j) ⊎ (j ≤ i) → (j < i) ⊎ (i ≤ j) → i ≡ j
    by (inl less) other = absurd (omega (arith, same, less_at numbers i j ascending less second))
    by (inr from) (inl less) = absurd (omega (arith, same, less_at numbers j i ascending less first))
    by (inr from) (inr upto) = omega arith

-- ascending numbers below n are at most n
pub few_ascending : (numbers : List ℕ) (n : ℕ) → AllPairs (λ s t. s < t) numbers → All (λ s. s < n) numbers → length numbers ≤ n
few_ascending numbers n ascending below =
    let apart : AllPairs (λ s t. s ≢ t) numbers = λ i j d less inside same. omega (arith, ascending i j d less inside, same) in
    let among : All (Contains (range_with_len 0 n)) numbers = λ i d inside. (get_or numbers i d, omega (arith, below i d inside, length-range_with_len 0 n), get_or-range_with_len 0 n (get_or numbers i d) (get_or numbers i d) (below i d inside) ∙ omega arith) in
    omega (arith, no_longer numbers (range_with_len 0 n) apart among, length-range_with_len 0 n)

-- ---- what holds of a trimmed log

module _ (log part : List StepView) (is : IsTrimmed log part) where
  abbrev number : ℕ → ℕ
  number i = get_or is.numbers i 0

  within : (i : ℕ) → i < length part → i < length is.numbers
  within i inside = omega (arith, inside, is.as_many)

  number_needed : (i : ℕ) → i < length part → IsNeeded log (number i)
  number_needed i inside = is.are_needed.only i 0 (within i inside)

  number_known : (i : ℕ) → i < length part → number i < length log
  number_known i inside = needed_known log (number i) (number_needed i inside)

  pub trimmed_shorter : length part ≤ length log
  trimmed_shorter =
      let below : All (λ s. s < length log) is.numbers = λ i d inside. needed_known log (get_or is.numbers i d) (is.are_needed.only i d inside) in
      omega (arith, is.as_many, few_ascending is.numbers (length log) is.are_needed.ascending below)

  -- the nogood of a step of the part, whatever stands for a step that is not there
  nogood_is : (i : ℕ) (d : StepView) → i < length part → (get_or part i d).nogood ≡ nogood_at log (number i)
  nogood_is i d inside = ap (λ (s : StepView). s.nogood) (get_or_default part i d no_step inside) ∙ (is.copies i inside).same_nogood

  pub trimmed_fits : (most : ℕ) → FitsMost most log → FitsMost most part
  trimmed_fits most fits = record {
    different = λ i j d less inside same.
        fits.different (number i) (number j) no_step (less_at is.numbers i j is.are_needed.ascending less (within j inside)) (number_known j inside)
        (sym (nogood_is i d (omega (arith, less, inside))) ∙ (same ∙ nogood_is j d inside));
    small = λ i d inside. subst (λ (pairs : List Pair). length pairs ≤ most) (sym (nogood_is i d inside)) (fits.small (number i) no_step (number_known i inside));
  }

  -- where the old number of a needed step stands
  place : (s : ℕ) → IsNeeded log s → (i : ℕ) × (i < length part) × (number i ≡ s)
  place s needed =
      let found = is.are_needed.all s needed in
      (found.0, omega (arith, found.1, is.as_many), get_or_default is.numbers found.0 0 s found.1 ∙ found.2)

  -- a reference to an earlier step, in the part
  module _ (i j : ℕ) (inside : i < length part) (known : j < length (step_at log (number i)).references)
      (earlier : get_or (step_at log (number i)).references j 0 < number i) where
    renumbered_at : IsRenumbered is.numbers (number i) (get_or (step_at log (number i)).references j 0) (get_or (step_at part i).references j 0)
    renumbered_at = (is.copies i inside).renumbered j known

    number_of_reference : number (get_or (step_at part i).references j 0) ≡ get_or (step_at log (number i)).references j 0
    number_of_reference = renumbered_at.same earlier

    reference_earlier : get_or (step_at part i).references j 0 < i
    reference_earlier = place_less is.numbers (get_or (step_at part i).references j 0) i is.are_needed.ascending (renumbered_at.kept earlier) (omega (arith, number_of_reference, earlier))

  pub trimmed_referred : AreReferredTo part
  trimmed_referred s before_last = by (number_needed s (omega (arith, before_last))) refl
    where
      later : number s + 1 < length log
      later = omega (arith, less_at is.numbers s (s + 1) is.are_needed.ascending (omega arith) (within (s + 1) before_last), number_known (s + 1) before_last)

      from : (t : ℕ) → number s < t → IsNeeded log t → Contains (step_at log t).references (number s) → IsReferredTo part s
      from t less needed among = at (place t needed)
        where
          at : (i : ℕ) × (i < length part) × (number i ≡ t) → IsReferredTo part s
          at (i, inside, same) =
              let refers : Contains (step_at log (number i)).references (number s) = subst (λ k. Contains (step_at log k).references (number s)) (sym same) among in
              let old : get_or (step_at log (number i)).references refers.0 0 ≡ number s = get_or_default (step_at log (number i)).references refers.0 0 (number s) refers.1 ∙ refers.2 in
              let earlier : get_or (step_at log (number i)).references refers.0 0 < number i = omega (arith, old, same, less) in
              let new = get_or (step_at part i).references refers.0 0 in
              let number_of : number new ≡ number s = number_of_reference i refers.0 inside refers.1 earlier ∙ old in
              let below : new < i = reference_earlier i refers.0 inside refers.1 earlier in
              let same_step : new ≡ s = same_place is.numbers new s is.are_needed.ascending (within new (omega (arith, below, inside))) (within s (omega (arith, before_last))) number_of in
              let there : refers.0 < length (step_at part i).references = omega (arith, refers.1, (is.copies i inside).as_many) in
              record {
                by = i;
                later = omega (arith, below, same_step);
                known = inside;
                refers = (refers.0, there, get_or_default (step_at part i).references refers.0 s 0 there ∙ same_step);
              }

      by : IsNeeded log (number s) → number s ≡ number s → IsReferredTo part s
      by (last _ ends) same = absurd (omega (arith, ends, later))
      by (referred _ t less needed among) same = from t less needed among

  -- the copy of a step whose references are to earlier steps refers to the copies of these
  module _ (i : ℕ) (inside : i < length part) (earlier : All (λ r. r < number i) (step_at log (number i)).references) where
    abbrev old_nogood : ℕ → List Pair
    old_nogood j = nogood_at (take (number i) log) (get_or (step_at log (number i)).references j 0)

    nogood_of_reference : (j : ℕ) → j < length (step_at log (number i)).references → nogood_at (take i part) (get_or (step_at part i).references j 0) ≡ old_nogood j
    nogood_of_reference j known =
        let old = get_or (step_at log (number i)).references j 0 in
        let new = get_or (step_at part i).references j 0 in
        let before : old < number i = earlier j 0 known in
        let below : new < i = reference_earlier i j inside known before in
        ap (λ (s : StepView). s.nogood) (get_or-take i part new no_step below)
        ∙ (nogood_is new no_step (omega (arith, below, inside))
        ∙ (ap (nogood_at log) (number_of_reference i j inside known before)
        ∙ ap (λ (s : StepView). s.nogood) (sym (get_or-take (number i) log old no_step before))))

    copy_referred : (nogood : List Pair) (cases : List (List Pair)) → HasReferences (take (number i) log) nogood cases (step_at log (number i)).references → HasReferences (take i part) nogood cases (step_at part i).references
    copy_referred nogood cases has = record {
      as_many = (is.copies i inside).as_many ∙ has.as_many;
      to_earlier = λ j d known.
          let old_known : j < length (step_at log (number i)).references = omega (arith, known, (is.copies i inside).as_many) in
          let below = reference_earlier i j inside old_known (earlier j 0 old_known) in
          omega (arith, below, get_or_default (step_at part i).references j d 0 known, length-take-le i part (omega (arith, inside)));
      contained = λ j known in_cases.
          let old_known : j < length (step_at log (number i)).references = omega (arith, known, (is.copies i inside).as_many) in
          subst (λ (pairs : List Pair). IsContained pairs (nogood ++ get_or cases j [])) (sym (nogood_of_reference j old_known)) (has.contained j old_known in_cases);
    }

  module _ (lang : LanguageView) (inst : InstanceView) (valid : IsValidLog lang inst log) where
    copy_valid : (i : ℕ) → i < length part → IsValidStep lang inst (take i part) (step_at part i)
    copy_valid i inside =
        let old = valid.steps (number i) (number_known i inside) in
        let copy = is.copies i inside in
        let long : length (take (number i) log) ≡ number i = length-take-le (number i) log (omega (arith, number_known i inside)) in
        let earlier : All (λ r. r < number i) (step_at log (number i)).references = λ j d known. omega (arith, old.referred.to_earlier j d known, long) in
        moved (step_at part i).basis (step_at part i).nogood (sym copy.same_basis) (sym copy.same_nogood) old.placed
        (copy_referred i inside earlier (step_at log (number i)).nogood (cases_of lang inst (step_at log (number i)).basis (step_at log (number i)).nogood) old.referred)
      where
        moved : (basis : Basis) (nogood : List Pair) → (step_at log (number i)).basis ≡ basis → (step_at log (number i)).nogood ≡ nogood → IsPlaced lang inst (step_at log (number i))
            → HasReferences (take i part) (step_at log (number i)).nogood (cases_of lang inst (step_at log (number i)).basis (step_at log (number i)).nogood) (step_at part i).references
            → IsValidStep lang inst (take i part) (record { basis = basis; nogood = nogood; references = (step_at part i).references })
        moved basis nogood same_basis same_nogood placed has =
            subst (λ (g : Basis). IsValidStep lang inst (take i part) (record { basis = g; nogood = nogood; references = (step_at part i).references })) same_basis
            (subst (λ (pairs : List Pair). IsValidStep lang inst (take i part) (record { basis = (step_at log (number i)).basis; nogood = pairs; references = (step_at part i).references })) same_nogood
            (record { placed = record { rests = placed.rests; is_nogood = placed.is_nogood }; referred = has }))

    -- the last step is the last of the part
    last_place : (i : ℕ) × (i < length part) × (number i ≡ length log - 1)
    last_place = place (length log - 1) (last (length log - 1) (omega (arith, valid.some_steps)))

    at_end : last_place.0 ≡ length part - 1
    at_end = by (cases_lt last_place.0 (length part - 1))
      where
        by : (last_place.0 < length part - 1) ⊎ (length part - 1 ≤ last_place.0) → last_place.0 ≡ length part - 1
        by (inl before) = absurd (omega (arith, less_at is.numbers last_place.0 (length part - 1) is.are_needed.ascending before (within (length part - 1) (omega (arith, before))), number_known (length part - 1) (omega (arith, before)), last_place.2))
        by (inr from) = omega (arith, from, last_place.1)

    pub trimmed_valid : IsValidLog lang inst part
    trimmed_valid = record {
      steps = copy_valid;
      some_steps = omega (arith, last_place.1);
      last_is_empty =
          subst (λ (j : ℕ). nogood_at part j ≡ []) at_end
          (nogood_is last_place.0 no_step last_place.1 ∙ (ap (nogood_at log) last_place.2 ∙ valid.last_is_empty));
    }
