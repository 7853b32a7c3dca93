-- How many nogoods there are, and that a log with pairwise different nogoods has no more steps.
use Rattle.std.proofs.Common.{ℕ, zero, suc, ◌≤◌, [], arith, ◌*◌, List, ◌∷◌, ◌++◌, map, ◌+◌, ◌≡◌, length, sym, ◌∙◌, suc-mul, length-append, refl, ◌<◌, ◌⊎◌, inl, inr, Contains, subst, All, ◌≢◌, AllPairs, get_or}
use Rattle.std.proofs.Math.Nat.{mul-le-mul}
use Rattle.std.proofs.lemmas.Bool.{cases_eq}
use Rattle.std.proofs.lemmas.List.{length-map, get_or-map, get_or_default}
use Rattle.std.proofs.lemmas.List.Elements.{Contains-append_left, Contains-append_right, All-tail, All-nil, All-cons, All-head, All-weaker, All-map}
use Rattle.pol_nogood.specs.ValidLogs.{AreValid}
use Rattle.pol_nogood.specs.Nogoods.{Pair, IsPair, IsNogood}
use Rattle.pol_base.proofs.MemberLemmas.{in_map, AllPairs-tail, Contains-here, AllPairs-head, no_longer}
use Rattle.pol_nogood.specs.Logs.{StepView, Basis, no_step, FitsMost}
use Rattle.pol_relation.specs.Relations.{LanguageView}
use Rattle.pol_relation.specs.Instances.{InstanceView}

-- the number of nogoods of at most so many pairs over n variables and d values: the first variable is not named, or has one of d values
abbrev pub nogood_count : (d n most : ℕ) → ℕ
nogood_count d zero most = 1
nogood_count d (suc n) zero = 1
nogood_count d (suc n) (suc most) = nogood_count d n (suc most) + d * nogood_count d n most

pub some_nogoods : (d n most : ℕ) → 1 ≤ nogood_count d n most
some_nogoods d zero most = omega arith
some_nogoods d (suc n) zero = omega arith
some_nogoods d (suc n) (suc most) = omega (arith, some_nogoods d n (suc most))

-- more values, more variables or more pairs make no fewer nogoods
pub count_more : (d e n m most more : ℕ) → d ≤ e → n ≤ m → most ≤ more → nogood_count d n most ≤ nogood_count e m more
count_more d e zero m most more values variables pairs = some_nogoods e m more
count_more d e (suc n) m zero more values variables pairs = some_nogoods e m more
count_more d e (suc n) zero (suc most) more values variables pairs = absurd (omega arith)
count_more d e (suc n) (suc m) (suc most) zero values variables pairs = absurd (omega arith)
count_more d e (suc n) (suc m) (suc most) (suc more) values variables pairs =
    let without_first = count_more d e n m (suc most) (suc more) values (omega arith) pairs in
    let behind_first = count_more d e n m most more values (omega arith) (omega arith) in
    let with_first : d * nogood_count d n most ≤ e * nogood_count e m more = mul-le-mul values behind_first in
    omega arith

-- the list of all nogoods

-- the variable with each of the first values, before each of the nogoods
abbrev with_values : ℕ → ℕ → List (List Pair) → List (List Pair)
with_values v zero nogoods = []
with_values v (suc a) nogoods = with_values v a nogoods ++ map (λ (rest : List Pair). record { variable = v; value = a } ∷ rest) nogoods

-- the nogoods of at most so many pairs of n variables from this one on
abbrev all_nogoods : (d low n most : ℕ) → List (List Pair)
all_nogoods d low zero most = [] ∷ []
all_nogoods d low (suc n) zero = [] ∷ []
all_nogoods d low (suc n) (suc most) = all_nogoods d (low + 1) n (suc most) ++ with_values low d (all_nogoods d (low + 1) n most)

length-with_values : (v d : ℕ) (nogoods : List (List Pair)) → length (with_values v d nogoods) ≡ d * length nogoods
length-with_values v zero nogoods = omega arith
length-with_values v (suc a) nogoods =
    let before = length-with_values v a nogoods in
    let more = length-map nogoods (λ (rest : List Pair). record { variable = v; value = a } ∷ rest) in
    length-append (with_values v a nogoods) (map (λ (rest : List Pair). record { variable = v; value = a } ∷ rest) nogoods) ∙ rw (before, more) (sym (suc-mul a (length nogoods)))

length-all_nogoods : (d low n most : ℕ) → length (all_nogoods d low n most) ≡ nogood_count d n most
length-all_nogoods d low zero most = refl
length-all_nogoods d low (suc n) zero = refl
length-all_nogoods d low (suc n) (suc most) =
    let without_first = length-all_nogoods d (low + 1) n (suc most) in
    let behind_first = length-all_nogoods d (low + 1) n most in
    length-append (all_nogoods d (low + 1) n (suc most)) (with_values low d (all_nogoods d (low + 1) n most))
    ∙ rw (without_first, length-with_values low d (all_nogoods d (low + 1) n most), behind_first) refl

in_with_values : (v d a : ℕ) (nogoods : List (List Pair)) (rest : List Pair) → a < d → Contains nogoods rest → Contains (with_values v d nogoods) (record { variable = v; value = a } ∷ rest)
in_with_values v zero a nogoods rest below inside = absurd (omega arith)
in_with_values v (suc d) a nogoods rest below inside = by (cases_eq a d) (λ less. in_with_values v d a nogoods rest less inside)
  where
    by : (a ≡ d) ⊎ (a ≡ d → ⊥) → (a < d → Contains (with_values v d nogoods) (record { variable = v; value = a } ∷ rest)) → Contains (with_values v (suc d) nogoods) (record { variable = v; value = a } ∷ rest)
    by (inl last) before =
        subst (λ (b : ℕ). Contains (with_values v (suc d) nogoods) (record { variable = v; value = b } ∷ rest)) (sym last)
        (Contains-append_right (with_values v d nogoods) (map (λ (rest : List Pair). record { variable = v; value = d } ∷ rest) nogoods) (record { variable = v; value = d } ∷ rest) (in_map (λ (rest : List Pair). record { variable = v; value = d } ∷ rest) nogoods rest inside))
    by (inr other) before =
        Contains-append_left (with_values v d nogoods) (map (λ (rest : List Pair). record { variable = v; value = d } ∷ rest) nogoods) (record { variable = v; value = a } ∷ rest) (before (omega arith))

IsNogood-tail : (n d : ℕ) (p : Pair) (rest : List Pair) → IsNogood n d (p ∷ rest) → IsNogood n d rest
IsNogood-tail n d p rest is = record { pairs = All-tail (IsPair n d) p rest is.pairs; ascending = AllPairs-tail (λ (p q : Pair). p.variable < q.variable) p rest is.ascending }

-- each nogood is listed
listed : (d low n high most : ℕ) (nogood : List Pair) → low + n ≡ high → IsNogood high d nogood → All (λ p. low ≤ p.variable) nogood → length nogood ≤ most → Contains (all_nogoods d low n most) nogood
listed d low zero high most [] ends is from few = Contains-here [] []
listed d low zero high most (p ∷ rest) ends is from few =
    let above : low ≤ p.variable = All-head (λ (p : Pair). low ≤ p.variable) p rest from in
    let below : IsPair high d p = All-head (IsPair high d) p rest is.pairs in
    absurd (omega (arith, below.variable_known))
listed d low (suc n) high zero [] ends is from few = Contains-here [] []
listed d low (suc n) high zero (p ∷ rest) ends is from few = absurd (omega arith)
listed d low (suc n) high (suc most) [] ends is from few =
    Contains-append_left (all_nogoods d (low + 1) n (suc most)) (with_values low d (all_nogoods d (low + 1) n most)) [] (listed d (low + 1) n high (suc most) [] (omega arith) is (All-nil (λ (p : Pair). low + 1 ≤ p.variable)) (omega arith))
listed d low (suc n) high (suc most) (p ∷ rest) ends is from few =
    by (cases_eq p.variable low)
    (λ above. listed d (low + 1) n high most rest (omega arith) (IsNogood-tail high d p rest is) above (omega arith))
    (λ above. listed d (low + 1) n high (suc most) (p ∷ rest) (omega arith) is above few)
  where
    by : (p.variable ≡ low) ⊎ (p.variable ≡ low → ⊥) → (All (λ q. low + 1 ≤ q.variable) rest → Contains (all_nogoods d (low + 1) n most) rest) → (All (λ q. low + 1 ≤ q.variable) (p ∷ rest) → Contains (all_nogoods d (low + 1) n (suc most)) (p ∷ rest)) → Contains (all_nogoods d low (suc n) (suc most)) (p ∷ rest)
    by (inl first) behind_first without_first =
        let greater = AllPairs-head (λ (p q : Pair). p.variable < q.variable) p rest is.ascending in
        let above : All (λ q. low + 1 ≤ q.variable) rest = All-weaker (λ (q : Pair). p.variable < q.variable) (λ q. low + 1 ≤ q.variable) (λ q less. omega arith) rest greater in
        let known : IsPair high d p = All-head (IsPair high d) p rest is.pairs in
        Contains-append_right (all_nogoods d (low + 1) n (suc most)) (with_values low d (all_nogoods d (low + 1) n most)) (p ∷ rest)
        (subst (λ (v : ℕ). Contains (with_values low d (all_nogoods d (low + 1) n most)) (record { variable = v; value = p.value } ∷ rest)) (sym first)
        (in_with_values low d p.value (all_nogoods d (low + 1) n most) rest known.value_known (behind_first above)))
    by (inr later) behind_first without_first =
        let from_low : low ≤ p.variable = All-head (λ (p : Pair). low ≤ p.variable) p rest from in
        let here : low + 1 ≤ p.variable = omega arith in
        let greater = AllPairs-head (λ (p q : Pair). p.variable < q.variable) p rest is.ascending in
        let above : All (λ q. low + 1 ≤ q.variable) rest = All-weaker (λ (q : Pair). p.variable < q.variable) (λ q. low + 1 ≤ q.variable) (λ q less. omega arith) rest greater in
        Contains-append_left (all_nogoods d (low + 1) n (suc most)) (with_values low d (all_nogoods d (low + 1) n most)) (p ∷ rest)
        (without_first (All-cons (λ (q : Pair). low + 1 ≤ q.variable) p rest here above))

-- the nogoods of a log

abbrev nogoods_of : List StepView → List (List Pair)
nogoods_of log = map (λ (s : StepView). s.nogood) log

different_nogoods : (log : List StepView) → AllPairs (λ s t. s.nogood ≢ t.nogood) log → AllPairs (λ x y. x ≢ y) (nogoods_of log)
different_nogoods log different = λ i j d less inside same.
    let unknown : StepView = record { basis = Basis.ByVariable 0; nogood = d; references = [] } in
    let within : j < length log = omega (arith, length-map log (λ (s : StepView). s.nogood)) in
    different i j unknown less within (sym (get_or-map (λ (s : StepView). s.nogood) log i unknown d (omega arith)) ∙ (same ∙ get_or-map (λ (s : StepView). s.nogood) log j unknown d within))

-- pairwise different nogoods, each small and of n variables and d values, are few
pub few_nogoods : (d n most : ℕ) (log : List StepView) → All (λ s. IsNogood n d s.nogood) log → FitsMost most log → length log ≤ nogood_count d n most
few_nogoods d n most log are fits =
    let inside : All (Contains (all_nogoods d 0 n most)) (nogoods_of log) =
    All-map (Contains (all_nogoods d 0 n most)) (λ (s : StepView). s.nogood) log (λ k e within. listed d 0 n n most (get_or log k e).nogood (omega arith) (are k e within) (λ i p known. omega arith) (fits.small k e within)) in
    omega (arith, no_longer (nogoods_of log) (all_nogoods d 0 n most) (different_nogoods log fits.different) inside, length-map log (λ (s : StepView). s.nogood), length-all_nogoods d 0 n most)

-- a log of valid steps that fits is short
pub few_steps : (lang : LanguageView) (inst : InstanceView) (most : ℕ) (log : List StepView) → AreValid lang inst log → FitsMost most log → length log ≤ nogood_count lang.domain (length inst.variables) most
few_steps lang inst most log valid fits = few_nogoods lang.domain (length inst.variables) most log (λ i d inside. subst (λ (s : StepView). IsNogood (length inst.variables) lang.domain s.nogood) (get_or_default log i no_step d inside) (valid i inside).placed.is_nogood) fits

-- the bounds of five values and forty variables

pub three_pairs : nogood_count 5 40 3 ≡ 1254701
three_pairs = refl

pub one_pair : nogood_count 5 40 1 ≡ 201
one_pair = refl

pub few_steps_of_three : (lang : LanguageView) (inst : InstanceView) (log : List StepView) → lang.domain ≤ 5 → length inst.variables ≤ 40 → AreValid lang inst log → FitsMost 3 log → length log ≤ 1254701
few_steps_of_three lang inst log values variables valid fits =
    let more = count_more lang.domain 5 (length inst.variables) 40 3 3 values variables (omega arith) in
    omega (arith, few_steps lang inst 3 log valid fits, more, three_pairs)

pub few_steps_of_one : (lang : LanguageView) (inst : InstanceView) (log : List StepView) → lang.domain ≤ 5 → length inst.variables ≤ 40 → AreValid lang inst log → FitsMost 1 log → length log ≤ 201
few_steps_of_one lang inst log values variables valid fits =
    let more = count_more lang.domain 5 (length inst.variables) 40 1 1 values variables (omega arith) in
    omega (arith, few_steps lang inst 1 log valid fits, more, one_pair)
