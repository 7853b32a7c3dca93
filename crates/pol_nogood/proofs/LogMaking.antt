-- What a maker of logs needs: valid steps from their parts, references one by one, and a log from its steps.
use Rattle.std.proofs.Common.{ℕ, ◌<◌, [], List, ◌∷◌, ◌++◌, All, Contains, get_or, ◌≡◌, length, ◌≢◌, sym, ◌∙◌, subst, arith, Bool, false, filter, refl, map, ap, ◌+◌, ◌⊎◌, inl, inr, cond, take, append-nil, true, ◌≤◌, length-append, ◌-◌}
use Rattle.std.proofs.lemmas.Bool.{cond-false, cases_eq, cond-true}
use Rattle.std.proofs.lemmas.List.{length_push, get_or_push, get_or_append_left, map_push, take_all, take-append-le, take_at}
use Rattle.std.proofs.lemmas.List.Elements.{All-nil, All-push, All-cons, Contains-append_left, Contains-append_right, All-contains_itself, All-contains, All-head, All-tail, filter_more}
use Rattle.std.proofs.lemmas.List.FromFn.{length-map-range_with_len, get_or-map-range_with_len, map-range_with_len_more}
use Rattle.std.proofs.lemmas.List.Kept.{AllPairs-cons}
use Rattle.std.proofs.lemmas.List.Quantifiers.{all_pairs_push}
use Rattle.pol_nogood.specs.Nogoods.{Pair, IsPair, IsNogood, IsContained}
use Rattle.pol_nogood.specs.ValidLogs.{HasReferences, IsValidStep, AreValid, IsValidLog}
use Rattle.pol_base.proofs.MemberLemmas.{AllPairs-nil}
use Rattle.pol_nogood.specs.Logs.{Basis, StepView, no_step, step_at, nogood_at, reading, is_case, row_cases, value_case, value_cases, cases_of, breaking_log, FitsMost}
use Rattle.pol_nogood.proofs.LogCases.{pair_at, reading_place}
use Rattle.pol_relation.specs.Relations.{LanguageView, rows_of}
use Rattle.pol_relation.specs.Instances.{InstanceView, constraint_of}

-- nogoods

pub IsNogood-none : (n d : ℕ) → IsNogood n d []
IsNogood-none n d = record { pairs = All-nil (IsPair n d); ascending = AllPairs-nil (λ (p q : Pair). p.variable < q.variable) }

-- a nogood and a pair of a later variable
pub IsNogood-push : (n d : ℕ) (nogood : List Pair) (p : Pair) → IsNogood n d nogood → IsPair n d p → All (λ q. q.variable < p.variable) nogood → IsNogood n d (nogood ++ p ∷ [])
IsNogood-push n d nogood p is pair before = record {
  pairs = All-push (IsPair n d) nogood p is.pairs pair;
  ascending = all_pairs_push (λ (p q : Pair). p.variable < q.variable) nogood p is.ascending (λ k e inside. before k e inside);
}

pub IsNogood-one : (n d : ℕ) (p : Pair) → IsPair n d p → IsNogood n d (p ∷ [])
IsNogood-one n d p pair = IsNogood-push n d [] p (IsNogood-none n d) pair (All-nil (λ (q : Pair). q.variable < p.variable))

pub IsContained-none : (pairs : List Pair) → IsContained [] pairs
IsContained-none pairs = All-nil (Contains pairs)

pub IsContained-one : (p : Pair) (pairs : List Pair) → Contains pairs p → IsContained (p ∷ []) pairs
IsContained-one p pairs inside = All-cons (Contains pairs) p [] inside (All-nil (Contains pairs))

pub IsContained-left : (some pairs more : List Pair) → IsContained some pairs → IsContained some (pairs ++ more)
IsContained-left some pairs more within = λ k d inside. Contains-append_left pairs more (get_or some k d) (within k d inside)

pub IsContained-right : (some pairs more : List Pair) → IsContained some more → IsContained some (pairs ++ more)
IsContained-right some pairs more within = λ k d inside. Contains-append_right pairs more (get_or some k d) (within k d inside)

pub IsContained-itself : (pairs : List Pair) → IsContained pairs pairs
IsContained-itself pairs = All-contains_itself pairs

pub IsContained-trans : (some pairs others : List Pair) → IsContained some pairs → IsContained pairs others → IsContained some others
IsContained-trans some pairs others within inside = λ k d known. All-contains (Contains others) pairs (get_or some k d) inside (within k d known)

-- a nogood of one pair that the row has at a place is contained in its reading
pub reading_covers : (nogood : List Pair) (scope row : List ℕ) (j : ℕ) → length row ≡ length scope → j < length scope → IsContained (pair_at scope row j ∷ []) (nogood ++ reading scope row)
reading_covers nogood scope row j long inside =
    IsContained-one (pair_at scope row j) (nogood ++ reading scope row) (Contains-append_right nogood (reading scope row) (pair_at scope row j) (reading_place scope row j long inside))

pub value_covers : (nogood : List Pair) (v a : ℕ) → IsContained (value_case v a) (nogood ++ value_case v a)
value_covers nogood v a = IsContained-right (value_case v a) nogood (value_case v a) (IsContained-itself (value_case v a))

-- steps

abbrev pub constraint_step_of : ℕ → List Pair → List ℕ → StepView
constraint_step_of c nogood references = record { basis = Basis.ByConstraint c; nogood = nogood; references = references }

abbrev pub variable_step_of : ℕ → List Pair → List ℕ → StepView
variable_step_of v nogood references = record { basis = Basis.ByVariable v; nogood = nogood; references = references }

-- by a constraint, with one reference for each case
pub constraint_step : (lang : LanguageView) (inst : InstanceView) (earlier : List StepView) (c : ℕ) (nogood : List Pair) (references : List ℕ) → c < length inst.constraints → IsNogood (length inst.variables) lang.domain nogood → HasReferences earlier nogood (cases_of lang inst (Basis.ByConstraint c) nogood) references → IsValidStep lang inst earlier (constraint_step_of c nogood references)
constraint_step lang inst earlier c nogood references known is referred = record { placed = record { rests = known; is_nogood = is }; referred = referred }

-- by a variable, with one reference for each value
pub variable_step : (lang : LanguageView) (inst : InstanceView) (earlier : List StepView) (v : ℕ) (nogood : List Pair) (references : List ℕ) → v < length inst.variables → All (λ p. p.variable ≢ v) nogood → IsNogood (length inst.variables) lang.domain nogood → HasReferences earlier nogood (value_cases v lang.domain) references → IsValidStep lang inst earlier (variable_step_of v nogood references)
variable_step lang inst earlier v nogood references known apart is referred = record { placed = record { rests = (known, apart); is_nogood = is }; referred = referred }

-- the references of the values, place by place
pub values_referred : (earlier : List StepView) (nogood : List Pair) (v d : ℕ) (references : List ℕ) → length references ≡ d → All (λ r. r < length earlier) references → ((a : ℕ) → a < d → IsContained (nogood_at earlier (get_or references a 0)) (nogood ++ value_case v a)) → HasReferences earlier nogood (value_cases v d) references
values_referred earlier nogood v d references long known within = record {
  as_many = long ∙ sym (length-map-range_with_len (value_case v) 0 d);
  to_earlier = known;
  contained = λ i inside within_cases.
      let below : i < d = omega arith in
      subst (λ (one : List Pair). IsContained (nogood_at earlier (get_or references i 0)) (nogood ++ one)) (sym (get_or-map-range_with_len (value_case v) 0 d i i [] below (omega arith))) (within i below);
}

filter_none : {X : Type 0} (test : X → Bool) (xs : List X) → All (λ x. test x ≡ false) xs → filter test xs ≡ []
filter_none test [] fails = refl
filter_none test (x ∷ xs) fails =
    cond-false (test x) (x ∷ filter test xs) (filter test xs) (All-head (λ x. test x ≡ false) x xs fails) ∙ filter_none test xs (All-tail (λ x. test x ≡ false) x xs fails)

pub no_row_cases : (scope : List ℕ) (nogood : List Pair) (rows : List (List ℕ)) → All (λ row. is_case scope nogood row ≡ false) rows → row_cases scope nogood rows ≡ []
no_row_cases scope nogood rows excluded = ap (map (reading scope)) (filter_none (is_case scope nogood) rows excluded)

pub referred_none : (earlier : List StepView) (nogood : List Pair) → HasReferences earlier nogood [] []
referred_none earlier nogood = record { as_many = refl; to_earlier = All-nil (λ r. r < length earlier); contained = λ i inside within. absurd (omega arith) }

-- by a constraint all of whose rows are excluded
pub breaking_step : (lang : LanguageView) (inst : InstanceView) (earlier : List StepView) (c : ℕ) (nogood : List Pair) → c < length inst.constraints → IsNogood (length inst.variables) lang.domain nogood → All (λ row. is_case (constraint_of inst c).scope nogood row ≡ false) (rows_of lang (constraint_of inst c).relation) → IsValidStep lang inst earlier (constraint_step_of c nogood [])
breaking_step lang inst earlier c nogood known is excluded =
    let none = no_row_cases (constraint_of inst c).scope nogood (rows_of lang (constraint_of inst c).relation) excluded in
    constraint_step lang inst earlier c nogood [] known is (subst (λ (cases : List (List Pair)). HasReferences earlier nogood cases []) (sym none) (referred_none earlier nogood))

-- references one by one, as a loop over rows or values finds them

pub referred_push : (earlier : List StepView) (nogood : List Pair) (cases : List (List Pair)) (one : List Pair) (references : List ℕ) (r : ℕ) → HasReferences earlier nogood cases references → r < length earlier → IsContained (nogood_at earlier r) (nogood ++ one) → HasReferences earlier nogood (cases ++ one ∷ []) (references ++ r ∷ [])
referred_push earlier nogood cases one references r referred known within = record {
  as_many = length_push references r ∙ (ap (λ n. n + 1) referred.as_many ∙ sym (length_push cases one));
  to_earlier = All-push (λ r. r < length earlier) references r referred.to_earlier known;
  contained = λ i inside within_cases. by i (omega (arith, length_push references r)) (cases_eq i (length references));
}
  where
    by : (i : ℕ) → i < length references + 1 → (i ≡ length references) ⊎ (i ≡ length references → ⊥) → IsContained (nogood_at earlier (get_or (references ++ r ∷ []) i 0)) (nogood ++ get_or (cases ++ one ∷ []) i [])
    by i inside (inl last) =
        subst (λ (s : ℕ). IsContained (nogood_at earlier s) (nogood ++ get_or (cases ++ one ∷ []) i [])) (sym (get_or_push references r 0 i (sym last)))
        (subst (λ (pairs : List Pair). IsContained (nogood_at earlier r) (nogood ++ pairs)) (sym (get_or_push cases one [] i (sym referred.as_many ∙ sym last))) within)
    by i inside (inr before) =
        let old : i < length references = omega arith in
        let old_case : i < length cases = omega (arith, referred.as_many) in
        subst (λ (s : ℕ). IsContained (nogood_at earlier s) (nogood ++ get_or (cases ++ one ∷ []) i [])) (sym (get_or_append_left references (r ∷ []) 0 i old))
        (subst (λ (pairs : List Pair). IsContained (nogood_at earlier (get_or references i 0)) (nogood ++ pairs)) (sym (get_or_append_left cases (one ∷ []) [] i old_case)) (referred.contained i old old_case))

row_cases_more : (scope : List ℕ) (nogood : List Pair) (rows : List (List ℕ)) (k : ℕ) (d : List ℕ) → k < length rows → row_cases scope nogood (take (k + 1) rows) ≡ map (reading scope) (filter (is_case scope nogood) (take k rows) ++ cond (is_case scope nogood (get_or rows k d)) (get_or rows k d ∷ []) [])
row_cases_more scope nogood rows k d inside = ap (map (reading scope)) (filter_more (is_case scope nogood) rows k d inside)

-- a row that is no case wants no reference
pub row_skipped : (earlier : List StepView) (scope : List ℕ) (nogood : List Pair) (rows : List (List ℕ)) (k : ℕ) (d : List ℕ) (references : List ℕ) → k < length rows → is_case scope nogood (get_or rows k d) ≡ false → HasReferences earlier nogood (row_cases scope nogood (take k rows)) references → HasReferences earlier nogood (row_cases scope nogood (take (k + 1) rows)) references
row_skipped earlier scope nogood rows k d references inside excluded referred =
    let front = filter (is_case scope nogood) (take k rows) in
    let same : row_cases scope nogood (take (k + 1) rows) ≡ row_cases scope nogood (take k rows) =
    row_cases_more scope nogood rows k d inside ∙ ap (map (reading scope)) (ap (λ more. front ++ more) (cond-false (is_case scope nogood (get_or rows k d)) (get_or rows k d ∷ []) [] excluded) ∙ append-nil front) in
    subst (λ (cases : List (List Pair)). HasReferences earlier nogood cases references) (sym same) referred

-- and one that is a case wants one
pub row_referred : (earlier : List StepView) (scope : List ℕ) (nogood : List Pair) (rows : List (List ℕ)) (k : ℕ) (d : List ℕ) (references : List ℕ) (r : ℕ) → k < length rows → is_case scope nogood (get_or rows k d) ≡ true → HasReferences earlier nogood (row_cases scope nogood (take k rows)) references → r < length earlier → IsContained (nogood_at earlier r) (nogood ++ reading scope (get_or rows k d)) → HasReferences earlier nogood (row_cases scope nogood (take (k + 1) rows)) (references ++ r ∷ [])
row_referred earlier scope nogood rows k d references r inside is referred known within =
    let front = filter (is_case scope nogood) (take k rows) in
    let row = get_or rows k d in
    let same : row_cases scope nogood (take (k + 1) rows) ≡ row_cases scope nogood (take k rows) ++ reading scope row ∷ [] =
    row_cases_more scope nogood rows k d inside ∙ (ap (λ more. map (reading scope) (front ++ more)) (cond-true (is_case scope nogood row) (row ∷ []) [] is) ∙ map_push (reading scope) front row) in
    subst (λ (cases : List (List Pair)). HasReferences earlier nogood cases (references ++ r ∷ [])) (sym same) (referred_push earlier nogood (row_cases scope nogood (take k rows)) (reading scope row) references r referred known within)

-- all rows are passed
pub rows_referred : (earlier : List StepView) (scope : List ℕ) (nogood : List Pair) (rows : List (List ℕ)) (k : ℕ) (references : List ℕ) → length rows ≤ k → HasReferences earlier nogood (row_cases scope nogood (take k rows)) references → HasReferences earlier nogood (row_cases scope nogood rows) references
rows_referred earlier scope nogood rows k references all referred = subst (λ (some : List (List ℕ)). HasReferences earlier nogood (row_cases scope nogood some) references) (take_all k rows all) referred

pub value_referred : (earlier : List StepView) (nogood : List Pair) (v a : ℕ) (references : List ℕ) (r : ℕ) → HasReferences earlier nogood (value_cases v a) references → r < length earlier → IsContained (nogood_at earlier r) (nogood ++ value_case v a) → HasReferences earlier nogood (value_cases v (a + 1)) (references ++ r ∷ [])
value_referred earlier nogood v a references r referred known within =
    subst (λ (cases : List (List Pair)). HasReferences earlier nogood cases (references ++ r ∷ [])) (sym (map-range_with_len_more (value_case v) 0 a a (omega arith)))
    (referred_push earlier nogood (value_cases v a) (value_case v a) references r referred known within)

-- logs

-- the nogood of a step stands where the log grows
pub nogood_at-append : (log more : List StepView) (r : ℕ) → r < length log → nogood_at (log ++ more) r ≡ nogood_at log r
nogood_at-append log more r known = ap (λ (s : StepView). s.nogood) (get_or_append_left log more no_step r known)

-- references stay right where the log grows
pub referred_later : (earlier more : List StepView) (nogood : List Pair) (cases : List (List Pair)) (references : List ℕ) → HasReferences earlier nogood cases references → HasReferences (earlier ++ more) nogood cases references
referred_later earlier more nogood cases references referred = record {
  as_many = referred.as_many;
  to_earlier = λ k d inside. omega (arith, referred.to_earlier k d inside, length-append earlier more);
  contained = λ i inside within.
      let known : get_or references i 0 < length earlier = referred.to_earlier i 0 inside in
      subst (λ (some : List Pair). IsContained some (nogood ++ get_or cases i [])) (sym (nogood_at-append earlier more (get_or references i 0) known)) (referred.contained i inside within);
}

pub nogood_at-push : (log : List StepView) (s : StepView) → nogood_at (log ++ s ∷ []) (length log) ≡ s.nogood
nogood_at-push log s = ap (λ (t : StepView). t.nogood) (get_or_push log s no_step (length log) refl)

pub valid_none : (lang : LanguageView) (inst : InstanceView) → AreValid lang inst []
valid_none lang inst = λ i inside. absurd (omega arith)

-- valid steps and one more
pub valid_push : (lang : LanguageView) (inst : InstanceView) (log : List StepView) (s : StepView) → AreValid lang inst log → IsValidStep lang inst log s → AreValid lang inst (log ++ s ∷ [])
valid_push lang inst log s valid is = λ i inside. by i (omega (arith, length_push log s)) (cases_eq i (length log))
  where
    by : (i : ℕ) → i < length log + 1 → (i ≡ length log) ⊎ (i ≡ length log → ⊥) → IsValidStep lang inst (take i (log ++ s ∷ [])) (step_at (log ++ s ∷ []) i)
    by i inside (inl last) =
        subst (λ (t : StepView). IsValidStep lang inst (take i (log ++ s ∷ [])) t) (sym (get_or_push log s no_step i (sym last)))
        (subst (λ (front : List StepView). IsValidStep lang inst front s) (sym (take_at log (s ∷ []) i (sym last))) is)
    by i inside (inr before) =
        let old : i < length log = omega arith in
        subst (λ (t : StepView). IsValidStep lang inst (take i (log ++ s ∷ [])) t) (sym (get_or_append_left log (s ∷ []) no_step i old))
        (subst (λ (front : List StepView). IsValidStep lang inst front (step_at log i)) (sym (take-append-le i log (s ∷ []) (omega arith))) (valid i old))

-- the step that refutes every assignment ends the log
pub valid_log-push : (lang : LanguageView) (inst : InstanceView) (log : List StepView) (s : StepView) → AreValid lang inst log → IsValidStep lang inst log s → s.nogood ≡ [] → IsValidLog lang inst (log ++ s ∷ [])
valid_log-push lang inst log s valid is empty =
    let last : length (log ++ s ∷ []) - 1 ≡ length log = omega (arith, length_push log s) in
    record {
      steps = valid_push lang inst log s valid is;
      some_steps = omega (arith, length_push log s);
      last_is_empty = ap (nogood_at (log ++ s ∷ [])) last ∙ (nogood_at-push log s ∙ empty);
    }

-- nogoods that are pairwise different and small, and one more
pub FitsMost-none : (most : ℕ) → FitsMost most []
FitsMost-none most = record { different = AllPairs-nil (λ (s t : StepView). s.nogood ≢ t.nogood); small = All-nil (λ (s : StepView). length s.nogood ≤ most) }

pub FitsMost-push : (most : ℕ) (log : List StepView) (s : StepView) → FitsMost most log → length s.nogood ≤ most → All (λ t. t.nogood ≢ s.nogood) log → FitsMost most (log ++ s ∷ [])
FitsMost-push most log s fits few other = record {
  different = all_pairs_push (λ (s t : StepView). s.nogood ≢ t.nogood) log s fits.different (λ k d inside. other k d inside);
  small = All-push (λ (s : StepView). length s.nogood ≤ most) log s fits.small few;
}

pub FitsMost-one : (most : ℕ) (s : StepView) → length s.nogood ≤ most → FitsMost most (s ∷ [])
FitsMost-one most s few = record {
  different = AllPairs-cons (λ (s t : StepView). s.nogood ≢ t.nogood) s [] (All-nil (λ (t : StepView). s.nogood ≢ t.nogood)) (AllPairs-nil (λ (s t : StepView). s.nogood ≢ t.nogood));
  small = All-cons (λ (s : StepView). length s.nogood ≤ most) s [] few (All-nil (λ (s : StepView). length s.nogood ≤ most));
}

-- a constraint of an empty relation

pub breaking_log-valid : (lang : LanguageView) (inst : InstanceView) (c : ℕ) → c < length inst.constraints → rows_of lang (constraint_of inst c).relation ≡ [] → IsValidLog lang inst (breaking_log c)
breaking_log-valid lang inst c known empty =
    let scope = (constraint_of inst c).scope in
    valid_log-push lang inst [] (constraint_step_of c [] []) (valid_none lang inst)
    (breaking_step lang inst [] c [] known (IsNogood-none (length inst.variables) lang.domain) (subst (λ (rows : List (List ℕ)). All (λ row. is_case scope [] row ≡ false) rows) (sym empty) (All-nil (λ row. is_case scope [] row ≡ false))))
    refl
