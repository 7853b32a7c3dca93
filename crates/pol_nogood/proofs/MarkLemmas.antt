-- Marks of steps: those of earlier steps are set one after another, and at the end those of all that are needed.
use Rattle.std.proofs.Common.{◌≡◌, ◌⊎◌, inl, inr, ℕ, zero, suc, ◌+◌, ◌-◌, ◌<◌, ◌≤◌, Bool, true, false, List, [], ◌∷◌, ◌++◌, length, take, drop, set, get_or, All, Contains, refl, sym, ap, ◌∙◌, subst, arith, length-append}
use Rattle.std.proofs.lemmas.Bool.{cases_eq, cases_lt, true≢false}
use Rattle.std.proofs.lemmas.List.{get_or-set_same, get_or-set_other, get_or_append_left, get_or-append_right, get_or-drop, get_or-take, length-set, length-drop, length-take-le}
use Rattle.std.proofs.lemmas.List.Elements.{Contains-push_cases, Contains-append_left, Contains-push}
use Rattle.pol_nogood.specs.Logs.{StepView, step_at}
use Rattle.pol_nogood.specs.Trims.{IsNeeded}
use Rattle.pol_nogood.specs.Marks.{IsMarked, AreMarks, MarksToo}
use Rattle.pol_nogood.specs.Trims.IsNeeded.{last, referred}

pub below_marked : (marks : List Bool) (s : ℕ) → IsMarked marks s → s < length marks
below_marked [] s is = absurd (true≢false (sym is))
below_marked (m ∷ marks) zero is = omega arith
below_marked (m ∷ marks) (suc s) is = let below = below_marked marks s is in omega (arith, below)

-- one more mark

set_here : (marks : List Bool) (s : ℕ) → s < length marks → IsMarked (set marks s true) s
set_here marks s inside = get_or-set_same marks s true false inside

still_set : (marks : List Bool) (r s : ℕ) → IsMarked marks s → IsMarked (set marks r true) s
still_set marks r s is = by (cases_eq s r)
  where
    by : (s ≡ r) ⊎ (s ≡ r → ⊥) → IsMarked (set marks r true) s
    by (inl same) = subst (λ i. IsMarked (set marks i true) s) same (set_here marks s (below_marked marks s is))
    by (inr other) = get_or-set_other marks r s true false other ∙ is

only_set : (marks : List Bool) (r s : ℕ) → IsMarked (set marks r true) s → IsMarked marks s ⊎ (s ≡ r)
only_set marks r s is = by (cases_eq s r)
  where
    by : (s ≡ r) ⊎ (s ≡ r → ⊥) → IsMarked marks s ⊎ (s ≡ r)
    by (inl same) = inr same
    by (inr other) = inl (sym (get_or-set_other marks r s true false other) ∙ is)

-- the marks of references, one by one

pub MarksToo-none : (marks : List Bool) → MarksToo [] marks marks
MarksToo-none marks = record {
  as_many = refl;
  kept = λ s is. is;
  marked = λ s inside among. absurd (omega (arith, among.1));
  only = λ s is. inl is;
}

pub MarksToo-set : (references : List ℕ) (before now : List Bool) (r : ℕ) → r < length now → MarksToo references before now → MarksToo (references ++ r ∷ []) before (set now r true)
MarksToo-set references before now r inside marks = record {
  as_many = length-set now r true ∙ marks.as_many;
  kept = λ s is. still_set now r s (marks.kept s is);
  marked = λ s below among. at s below (Contains-push_cases references r s among);
  only = λ s is. from s (only_set now r s is);
}
  where
    at : (s : ℕ) → s < length before → Contains references s ⊎ (r ≡ s) → IsMarked (set now r true) s
    at s below (inl among) = still_set now r s (marks.marked s below among)
    at s below (inr same) = subst (λ i. IsMarked (set now r true) i) same (set_here now r inside)

    from : (s : ℕ) → IsMarked now s ⊎ (s ≡ r) → IsMarked before s ⊎ Contains (references ++ r ∷ []) s
    from s (inl is) = more (marks.only s is)
      where
        more : IsMarked before s ⊎ Contains references s → IsMarked before s ⊎ Contains (references ++ r ∷ []) s
        more (inl old) = inl old
        more (inr among) = inr (Contains-append_left references (r ∷ []) s among)
    from s (inr same) = inr (subst (λ i. Contains (references ++ r ∷ []) i) (sym same) (Contains-push references r))

pub MarksToo-wild : (references : List ℕ) (before now : List Bool) (r : ℕ) → length now ≤ r → MarksToo references before now → MarksToo (references ++ r ∷ []) before now
MarksToo-wild references before now r outside marks = record {
  as_many = marks.as_many;
  kept = marks.kept;
  marked = λ s below among. at s below (Contains-push_cases references r s among);
  only = λ s is. more s (marks.only s is);
}
  where
    at : (s : ℕ) → s < length before → Contains references s ⊎ (r ≡ s) → IsMarked now s
    at s below (inl among) = marks.marked s below among
    at s below (inr same) = absurd (omega (arith, marks.as_many))

    more : (s : ℕ) → IsMarked before s ⊎ Contains references s → IsMarked before s ⊎ Contains (references ++ r ∷ []) s
    more s (inl old) = inl old
    more s (inr among) = inr (Contains-append_left references (r ∷ []) s among)

-- the marks of a log, from the last step down

-- marks of needed steps alone: the last one, and those that the marked steps from this number on refer to
pub record AreMarksFrom (log : List StepView) (count : ℕ) (marks : List Bool) : Type 0 where
  pub as_many : length marks ≡ length log
  pub only : (s : ℕ) → IsMarked marks s → IsNeeded log s
  pub ends : (s : ℕ) → s + 1 ≡ length log → IsMarked marks s
  pub led : (s t : ℕ) → s < t → count ≤ t → IsMarked marks t → Contains (step_at log t).references s → IsMarked marks s

pub AreMarksFrom-unmarked : (log : List StepView) (t : ℕ) (marks : List Bool) → ¬ IsMarked marks t → AreMarksFrom log (t + 1) marks → AreMarksFrom log t marks
AreMarksFrom-unmarked log t marks isnt are = record {
  as_many = are.as_many;
  only = are.only;
  ends = are.ends;
  led = λ r s less from is among. by r s less from is among (cases_eq s t);
}
  where
    by : (r s : ℕ) → r < s → t ≤ s → IsMarked marks s → Contains (step_at log s).references r → (s ≡ t) ⊎ (s ≡ t → ⊥) → IsMarked marks r
    by r s less from is among (inl same) = absurd (isnt (subst (IsMarked marks) same is))
    by r s less from is among (inr other) = are.led r s less (omega arith) is among

marked_behind : (front marks : List Bool) (t s : ℕ) → length front ≡ t → t ≤ s → get_or (front ++ drop t marks) s false ≡ get_or marks s false
marked_behind front marks t s long from =
    get_or-append_right front (drop t marks) t s false long from ∙ (get_or-drop t marks (s - t) false ∙ ap (λ i. get_or marks i false) (omega arith))

pub AreMarksFrom-marked : (log : List StepView) (t : ℕ) (marks front : List Bool) → IsMarked marks t → MarksToo (step_at log t).references (take t marks) front → AreMarksFrom log (t + 1) marks → AreMarksFrom log t (front ++ drop t marks)
AreMarksFrom-marked log t marks front is too are = record {
  as_many = length-append front (drop t marks) ∙ omega (arith, length-drop t marks, long, inside, are.as_many);
  only = λ s marked. known s (was s marked (cases_lt s t));
  ends = λ s ends. stays s (are.ends s ends) (cases_lt s t);
  led = λ r s less from marked among. by r s less from (above s from marked) among (cases_eq s t);
}
  where
    inside : t < length marks
    inside = below_marked marks t is

    length_front : length (take t marks) ≡ t
    length_front = length-take-le t marks (omega (arith, inside))

    long : length front ≡ t
    long = too.as_many ∙ length_front

    above : (s : ℕ) → t ≤ s → IsMarked (front ++ drop t marks) s → IsMarked marks s
    above s from marked = sym (marked_behind front marks t s long from) ∙ marked

    stays : (s : ℕ) → IsMarked marks s → (s < t) ⊎ (t ≤ s) → IsMarked (front ++ drop t marks) s
    stays s marked (inl before) = get_or_append_left front (drop t marks) false s (omega (arith, long)) ∙ too.kept s (get_or-take t marks s false before ∙ marked)
    stays s marked (inr from) = marked_behind front marks t s long from ∙ marked

    was : (s : ℕ) → IsMarked (front ++ drop t marks) s → (s < t) ⊎ (t ≤ s) → IsMarked marks s ⊎ ((s < t) × Contains (step_at log t).references s)
    was s marked (inr from) = inl (above s from marked)
    was s marked (inl before) = from (too.only s (sym (get_or_append_left front (drop t marks) false s (omega (arith, long))) ∙ marked))
      where
        from : IsMarked (take t marks) s ⊎ Contains (step_at log t).references s → IsMarked marks s ⊎ ((s < t) × Contains (step_at log t).references s)
        from (inl old) = inl (sym (get_or-take t marks s false before) ∙ old)
        from (inr among) = inr (before, among)

    known : (s : ℕ) → IsMarked marks s ⊎ ((s < t) × Contains (step_at log t).references s) → IsNeeded log s
    known s (inl old) = are.only s old
    known s (inr leads) = referred s t leads.0 (are.only t is) leads.1

    by : (r s : ℕ) → r < s → t ≤ s → IsMarked marks s → Contains (step_at log s).references r → (s ≡ t) ⊎ (s ≡ t → ⊥) → IsMarked (front ++ drop t marks) r
    by r s less from marked among (inr other) = stays r (are.led r s less (omega arith) marked among) (cases_lt r t)
    by r s less from marked among (inl same) =
        let before : r < t = omega (arith, same) in
        let refers : Contains (step_at log t).references r = subst (λ i. Contains (step_at log i).references r) same among in
        get_or_append_left front (drop t marks) false r (omega (arith, long)) ∙ too.marked r (omega (arith, length_front)) refers

-- nothing is marked but the last step

pub AreMarksFrom-last : (log : List StepView) (marks : List Bool) → length marks ≡ length log → All (λ mark. mark ≡ false) marks → 0 < length marks → AreMarksFrom log (length log) (set marks (length marks - 1) true)
AreMarksFrom-last log marks long unmarked some = record {
  as_many = same;
  only = λ s is. known s (only_set marks (length marks - 1) s is);
  ends = λ s at_end. subst (IsMarked (set marks (length marks - 1) true)) (omega (arith, long)) (set_here marks (length marks - 1) (omega (arith, some)));
  led = λ s t less from is among. absurd (omega (arith, below_marked (set marks (length marks - 1) true) t is, same));
}
  where
    same : length (set marks (length marks - 1) true) ≡ length log
    same = length-set marks (length marks - 1) true ∙ long

    known : (s : ℕ) → IsMarked marks s ⊎ (s ≡ length marks - 1) → IsNeeded log s
    known s (inl is) = absurd (true≢false (sym is ∙ unmarked s false (below_marked marks s is)))
    known s (inr at_end) = last s (omega (arith, long, some))

pub AreMarksFrom-none : (log : List StepView) (marks : List Bool) → length marks ≡ length log → length marks ≤ 0 → AreMarksFrom log (length log) marks
AreMarksFrom-none log marks long none = record {
  as_many = long;
  only = λ s is. absurd (omega (arith, below_marked marks s is));
  ends = λ s at_end. absurd (omega (arith, long));
  led = λ s t less from is among. absurd (omega (arith, below_marked marks t is));
}

pub AreMarks-from_first : (log : List StepView) (marks : List Bool) → AreMarksFrom log 0 marks → AreMarks log marks
AreMarks-from_first log marks are = record { as_many = are.as_many; exact = λ s. (are.only s, complete s) }
  where
    complete : (s : ℕ) → IsNeeded log s → IsMarked marks s
    complete s (last _ ends) = are.ends s ends
    complete s (referred _ t less needed among) = are.led s t less (omega arith) (complete t needed) among
