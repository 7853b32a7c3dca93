-- The marked steps of a log, copied one after another: with the marks of the needed steps they are the trimmed log.
use Rattle.std.proofs.Common.{◌≡◌, ◌⊎◌, inl, inr, ℕ, zero, suc, ◌+◌, ◌<◌, ◌≤◌, Bool, true, false, cond, List, [], ◌∷◌, ◌++◌, length, map, get_or, All, AllPairs, Contains, refl, sym, ap, ◌∙◌, subst, arith}
use Rattle.std.specs.List.{range_with_len}
use Rattle.std.proofs.lemmas.Bool.{cases_Bool, cases_eq, cond-true, cond-false}
use Rattle.std.proofs.lemmas.List.{length-map, length_push, get_or-map, get_or_append_left, get_or_push, get_or_past, get_or_default, map_push}
use Rattle.std.proofs.lemmas.List.Elements.{All-nil, All-push, All-weaker, Contains-get_or}
use Rattle.std.proofs.lemmas.List.FromFn.{length-map-range_with_len, get_or-map-range_with_len, map-range_with_len_more}
use Rattle.std.proofs.lemmas.List.Quantifiers.{all_pairs_push}
use Rattle.pol_base.proofs.MemberLemmas.{AllPairs-nil}
use Rattle.pol_nogood.specs.Logs.{StepView, no_step, step_at}
use Rattle.pol_nogood.specs.Trims.{IsNeeded, AreNeeded, IsRenumbered, IsCopy, IsTrimmed}
use Rattle.pol_nogood.specs.Marks.{IsMarked, AreMarks, renumbered, copy_by}
use Rattle.pol_nogood.specs.Trims.IsNeeded.{referred}
use Rattle.pol_nogood.proofs.TrimLemmas.{needed_known, few_ascending}

-- the numbers of the marked steps among the first so many
abbrev pub marked_below : List Bool → ℕ → List ℕ
marked_below marks zero = []
marked_below marks (suc s) = cond (get_or marks s false) (marked_below marks s ++ s ∷ []) (marked_below marks s)

pub marked_more : (marks : List Bool) (s : ℕ) → IsMarked marks s → marked_below marks (suc s) ≡ marked_below marks s ++ s ∷ []
marked_more marks s is = cond-true (get_or marks s false) (marked_below marks s ++ s ∷ []) (marked_below marks s) is

pub unmarked_more : (marks : List Bool) (s : ℕ) → get_or marks s false ≡ false → marked_below marks (suc s) ≡ marked_below marks s
unmarked_more marks s isnt = cond-false (get_or marks s false) (marked_below marks s ++ s ∷ []) (marked_below marks s) isnt

-- what holds of the numbers of marked steps, by one step after another
by_marks : (marks : List Bool) (s : ℕ) (P : List ℕ → Type 0) → (IsMarked marks s → P (marked_below marks s ++ s ∷ [])) → P (marked_below marks s) → P (marked_below marks (suc s))
by_marks marks s P with_it without_it = by (cases_Bool (get_or marks s false))
  where
    by : (get_or marks s false ≡ true) ⊎ (get_or marks s false ≡ false) → P (marked_below marks (suc s))
    by (inl is) = subst P (sym (marked_more marks s is)) (with_it is)
    by (inr isnt) = subst P (sym (unmarked_more marks s isnt)) without_it

marked_are : (marks : List Bool) (n : ℕ) → All (λ s. (s < n) × IsMarked marks s) (marked_below marks n)
marked_are marks zero = All-nil (λ s. (s < 0) × IsMarked marks s)
marked_are marks (suc n) =
    let before : All (λ s. (s < suc n) × IsMarked marks s) (marked_below marks n) = All-weaker (λ s. (s < n) × IsMarked marks s) (λ s. (s < suc n) × IsMarked marks s) (λ s known. (omega (arith, known.0), known.1)) (marked_below marks n) (marked_are marks n) in
    by_marks marks n (All (λ s. (s < suc n) × IsMarked marks s)) (λ is. All-push (λ s. (s < suc n) × IsMarked marks s) (marked_below marks n) n before (omega arith, is)) before

marked_ascending : (marks : List Bool) (n : ℕ) → AllPairs (λ s t. s < t) (marked_below marks n)
marked_ascending marks zero = AllPairs-nil (λ s t. s < t)
marked_ascending marks (suc n) =
    let before = marked_ascending marks n in
    by_marks marks n (AllPairs (λ s t. s < t)) (λ is. all_pairs_push (λ s t. s < t) (marked_below marks n) n before (λ k d inside. (marked_are marks n k d inside).0)) before

pub few_marked : (marks : List Bool) (n : ℕ) → length (marked_below marks n) ≤ n
few_marked marks n = few_ascending (marked_below marks n) n (marked_ascending marks n) (λ k d inside. (marked_are marks n k d inside).0)

-- a marked step stands behind those that are marked before it
marked_place : (marks : List Bool) (n s : ℕ) → s < n → IsMarked marks s → (length (marked_below marks s) < length (marked_below marks n)) × (get_or (marked_below marks n) (length (marked_below marks s)) 0 ≡ s)
marked_place marks zero s below is = absurd (omega arith)
marked_place marks (suc n) s below is = by (cases_eq s n) (λ less. marked_place marks n s less is)
  where
    by : (s ≡ n) ⊎ (s ≡ n → ⊥) → (s < n → (length (marked_below marks s) < length (marked_below marks n)) × (get_or (marked_below marks n) (length (marked_below marks s)) 0 ≡ s)) → (length (marked_below marks s) < length (marked_below marks (suc n))) × (get_or (marked_below marks (suc n)) (length (marked_below marks s)) 0 ≡ s)
    by (inl same) before =
        subst (λ i. (length (marked_below marks s) < length (marked_below marks (suc i))) × (get_or (marked_below marks (suc i)) (length (marked_below marks s)) 0 ≡ s)) same
        (subst (λ numbers. (length (marked_below marks s) < length numbers) × (get_or numbers (length (marked_below marks s)) 0 ≡ s)) (sym (marked_more marks s is))
        (omega (arith, length_push (marked_below marks s) s), get_or_push (marked_below marks s) s 0 (length (marked_below marks s)) refl))
    by (inr other) before =
        let old = before (omega (arith, below, other)) in
        by_marks marks n (λ numbers. (length (marked_below marks s) < length numbers) × (get_or numbers (length (marked_below marks s)) 0 ≡ s))
        (λ more. (omega (arith, old.0, length_push (marked_below marks n) n), get_or_append_left (marked_below marks n) (n ∷ []) 0 (length (marked_below marks s)) old.0 ∙ old.1))
        old

-- the new numbers of the steps before this one
abbrev pub numbers_below : List Bool → ℕ → List ℕ
numbers_below marks s = map (λ r. length (marked_below marks r)) (range_with_len 0 s)

abbrev pub marked_copy : List StepView → List Bool → ℕ → StepView
marked_copy log marks s = copy_by (numbers_below marks s) (step_at log s)

-- the copies of the marked steps among the first so many, and the new numbers of these
pub record IsCopying (log : List StepView) (marks : List Bool) (s : ℕ) (part : List StepView) (numbers : List ℕ) : Type 0 where
  pub part_is : part ≡ map (marked_copy log marks) (marked_below marks s)
  pub numbers_are : numbers ≡ numbers_below marks s

pub IsCopying-none : (log : List StepView) (marks : List Bool) → IsCopying log marks 0 [] []
IsCopying-none log marks = record { part_is = refl; numbers_are = refl }

pub length_copying : (log : List StepView) (marks : List Bool) (s : ℕ) (part : List StepView) (numbers : List ℕ) → IsCopying log marks s part numbers → length part ≡ length (marked_below marks s)
length_copying log marks s part numbers is = ap length is.part_is ∙ length-map (marked_below marks s) (marked_copy log marks)

numbers_more : (log : List StepView) (marks : List Bool) (s : ℕ) (part : List StepView) (numbers : List ℕ) → IsCopying log marks s part numbers → numbers ++ length part ∷ [] ≡ numbers_below marks (s + 1)
numbers_more log marks s part numbers is =
    ap (λ before. before ++ length part ∷ []) is.numbers_are
    ∙ (ap (λ count. numbers_below marks s ++ count ∷ []) (length_copying log marks s part numbers is)
    ∙ sym (map-range_with_len_more (λ r. length (marked_below marks r)) 0 s s (omega arith)))

pub IsCopying-marked : (log : List StepView) (marks : List Bool) (s : ℕ) (part : List StepView) (numbers : List ℕ) → IsMarked marks s → IsCopying log marks s part numbers → IsCopying log marks (s + 1) (part ++ copy_by numbers (step_at log s) ∷ []) (numbers ++ length part ∷ [])
IsCopying-marked log marks s part numbers marked is =
    let next : suc s ≡ s + 1 = omega arith in
    record {
      part_is =
          ap (λ before. before ++ copy_by numbers (step_at log s) ∷ []) is.part_is
          ∙ (ap (λ before. map (marked_copy log marks) (marked_below marks s) ++ copy_by before (step_at log s) ∷ []) is.numbers_are
          ∙ (sym (map_push (marked_copy log marks) (marked_below marks s) s)
          ∙ ap (map (marked_copy log marks)) (sym (marked_more marks s marked) ∙ ap (marked_below marks) next)));
      numbers_are = numbers_more log marks s part numbers is;
    }

pub IsCopying-unmarked : (log : List StepView) (marks : List Bool) (s : ℕ) (part : List StepView) (numbers : List ℕ) → get_or marks s false ≡ false → IsCopying log marks s part numbers → IsCopying log marks (s + 1) part (numbers ++ length part ∷ [])
IsCopying-unmarked log marks s part numbers unmarked is =
    let next : suc s ≡ s + 1 = omega arith in
    record {
      part_is = is.part_is ∙ ap (map (marked_copy log marks)) (sym (unmarked_more marks s unmarked) ∙ ap (marked_below marks) next);
      numbers_are = numbers_more log marks s part numbers is;
    }

-- with the marks of the needed steps the copies are the trimmed log
module _ (log : List StepView) (marks : List Bool) (are : AreMarks log marks) where
  marked_needed : AreNeeded log (marked_below marks (length log))
  marked_needed = record {
    ascending = marked_ascending marks (length log);
    only = λ k d inside. (are.exact (get_or (marked_below marks (length log)) k d)).0 (marked_are marks (length log) k d inside).1;
    all = λ s needed.
        let found = marked_place marks (length log) s (needed_known log s needed) ((are.exact s).1 needed) in
        (length (marked_below marks s), found.0, get_or_default (marked_below marks (length log)) (length (marked_below marks s)) s 0 found.0 ∙ found.1);
  }

  reference_renumbered : (s r : ℕ) → IsNeeded log s → Contains (step_at log s).references r → IsRenumbered (marked_below marks (length log)) s r (renumbered (numbers_below marks s) r)
  reference_renumbered s r needed among = record {
    kept = λ below. subst (λ now. now < length (marked_below marks (length log))) (sym (new below)) (found below).0;
    same = λ below. ap (λ now. get_or (marked_below marks (length log)) now 0) (new below) ∙ (found below).1;
    wild = λ outside. get_or_past (numbers_below marks s) r r (omega (arith, outside, length-map-range_with_len (λ t. length (marked_below marks t)) 0 s));
  }
    where
      new : r < s → renumbered (numbers_below marks s) r ≡ length (marked_below marks r)
      new below = get_or-map-range_with_len (λ t. length (marked_below marks t)) 0 s r r r below (omega arith)

      found : r < s → (length (marked_below marks r) < length (marked_below marks (length log))) × (get_or (marked_below marks (length log)) (length (marked_below marks r)) 0 ≡ r)
      found below =
          let too = referred r s below needed among in
          marked_place marks (length log) r (needed_known log r too) ((are.exact r).1 too)

  pub IsTrimmed-from_copying : (part : List StepView) (numbers : List ℕ) → IsCopying log marks (length log) part numbers → IsTrimmed log part
  IsTrimmed-from_copying part numbers is = record {
    numbers = marked_below marks (length log);
    are_needed = marked_needed;
    as_many = length_copying log marks (length log) part numbers is;
    copies = λ i inside.
        let s = get_or (marked_below marks (length log)) i 0 in
        let within : i < length (marked_below marks (length log)) = omega (arith, inside, length_copying log marks (length log) part numbers is) in
        let copy : marked_copy log marks s ≡ step_at part i = sym (ap (λ steps. step_at steps i) is.part_is ∙ get_or-map (marked_copy log marks) (marked_below marks (length log)) i 0 no_step within) in
        subst (IsCopy (marked_below marks (length log)) s (step_at log s)) copy (copied s (marked_needed.only i 0 within));
  }
    where
      copied : (s : ℕ) → IsNeeded log s → IsCopy (marked_below marks (length log)) s (step_at log s) (marked_copy log marks s)
      copied s needed = record {
        same_basis = refl;
        same_nogood = refl;
        as_many = length-map (step_at log s).references (renumbered (numbers_below marks s));
        renumbered = λ i inside.
            let r = get_or (step_at log s).references i 0 in
            subst (IsRenumbered (marked_below marks (length log)) s r) (sym (get_or-map (renumbered (numbers_below marks s)) (step_at log s).references i 0 0 inside))
            (reference_renumbered s r needed (Contains-get_or (step_at log s).references i 0 inside));
      }
