-- A checker that walks cases beside references: what is left of both tells what all do.
use Rattle.std.proofs.Common.{◌≡◌, ℕ, ◌+◌, ◌<◌, Bool, true, false, ◌&&◌, List, [], ◌∷◌, ◌++◌, length, drop, get_or, refl, sym, ap, ◌∙◌, subst, arith}
use Rattle.std.proofs.lemmas.List.{drop-drop}
use Rattle.pol_nogood.specs.Nogoods.{Pair}
use Rattle.pol_nogood.specs.Logs.{StepView, nogood_at, reading, is_case, row_cases, value_case, value_cases}
use Rattle.pol_nogood.specs.LogFaults.{contained_in, covered}
use Rattle.pol_nogood.proofs.LogWalks.{no_references, row_cases-skip, row_cases-next, values_from, values_from-next}

module _ (earlier : List StepView) (nogood : List Pair) where
  and_true : (b c : Bool) → (b && c) ≡ ((b && true) && c)
  and_true true c = refl
  and_true false c = refl

  first : (one : List Pair) (cases : List (List Pair)) (references : List ℕ) → covered earlier nogood (one ∷ cases) references ≡ (covered earlier nogood (one ∷ []) references && covered earlier nogood cases (drop 1 references))
  first one cases [] = sym (no_references earlier nogood cases)
  first one cases (r ∷ references) = and_true (contained_in (nogood_at earlier r) (nogood ++ one)) (covered earlier nogood cases references)

  -- the case that comes next meets the reference that comes next
  pub covered-step : (one : List Pair) (cases : List (List Pair)) (references : List ℕ) (k : ℕ) → covered earlier nogood (one ∷ cases) (drop k references) ≡ (covered earlier nogood (one ∷ []) (drop k references) && covered earlier nogood cases (drop (k + 1) references))
  covered-step one cases references k = first one cases (drop k references) ∙ ap (λ left. covered earlier nogood (one ∷ []) (drop k references) && covered earlier nogood cases left) (drop-drop 1 k references)

-- of all cases these are left, behind the first k
pub record IsWalk (earlier : List StepView) (nogood : List Pair) (references : List ℕ) (all left : List (List Pair)) (k : ℕ) : Type 0 where
  pub same : covered earlier nogood left (drop k references) ≡ covered earlier nogood all references
  pub count : k + length left ≡ length all

module _ (earlier : List StepView) (nogood : List Pair) (references : List ℕ) (all : List (List Pair)) where
  pub walk-same : (left next : List (List Pair)) (k : ℕ) → left ≡ next → IsWalk earlier nogood references all left k → IsWalk earlier nogood references all next k
  walk-same left next k same walk = subst (λ (cases : List (List Pair)). IsWalk earlier nogood references all cases k) same walk

  pub walk-next : (left next : List (List Pair)) (one : List Pair) (k : ℕ) → left ≡ one ∷ next → covered earlier nogood (one ∷ []) (drop k references) ≡ true → IsWalk earlier nogood references all left k → IsWalk earlier nogood references all next (k + 1)
  walk-next left next one k front passes walk =
      let walk = walk-same left (one ∷ next) k front walk in
      let more = covered-step earlier nogood one next references k in
      record {
        same = sym (more ∙ ap (λ b. b && covered earlier nogood next (drop (k + 1) references)) passes) ∙ walk.same;
        count = omega (arith, walk.count);
      }

-- over the rows of a relation

module _ (earlier : List StepView) (nogood : List Pair) (references scope : List ℕ) (rows : List (List ℕ)) where
  abbrev pub IsRowWalk : ℕ → ℕ → Type 0
  IsRowWalk i k = IsWalk earlier nogood references (row_cases scope nogood rows) (row_cases scope nogood (drop i rows)) k

  case_at : (i : ℕ) (row : List ℕ) (b : Bool) → row ≡ get_or rows i [] → is_case scope nogood row ≡ b → is_case scope nogood (get_or rows i []) ≡ b
  case_at i row b read is = subst (λ (some : List ℕ). is_case scope nogood some ≡ b) read is

  front : (i : ℕ) (row : List ℕ) → row ≡ get_or rows i [] → i < length rows → is_case scope nogood row ≡ true → row_cases scope nogood (drop i rows) ≡ reading scope row ∷ row_cases scope nogood (drop (i + 1) rows)
  front i row read inside is = row_cases-next scope nogood rows i [] inside (case_at i row true read is) ∙ ap (λ some. reading scope some ∷ row_cases scope nogood (drop (i + 1) rows)) (sym read)

  pub rows-next : (i k : ℕ) (row : List ℕ) → row ≡ get_or rows i [] → i < length rows → is_case scope nogood row ≡ true → covered earlier nogood (reading scope row ∷ []) (drop k references) ≡ true → IsRowWalk i k → IsRowWalk (i + 1) (k + 1)
  rows-next i k row read inside is passes walk = walk-next earlier nogood references (row_cases scope nogood rows) (row_cases scope nogood (drop i rows)) (row_cases scope nogood (drop (i + 1) rows)) (reading scope row) k (front i row read inside is) passes walk

  pub rows-skip : (i k : ℕ) (row : List ℕ) → row ≡ get_or rows i [] → i < length rows → is_case scope nogood row ≡ false → IsRowWalk i k → IsRowWalk (i + 1) k
  rows-skip i k row read inside excluded walk = walk-same earlier nogood references (row_cases scope nogood rows) (row_cases scope nogood (drop i rows)) (row_cases scope nogood (drop (i + 1) rows)) k (row_cases-skip scope nogood rows i [] inside (case_at i row false read excluded)) walk

-- over the values of a variable

module _ (earlier : List StepView) (nogood : List Pair) (references : List ℕ) (v d : ℕ) where
  abbrev pub IsValueWalk : ℕ → Type 0
  IsValueWalk a = IsWalk earlier nogood references (value_cases v d) (values_from v d a) a

  pub values-next : (a k : ℕ) → k ≡ a → a < d → covered earlier nogood (value_case v a ∷ []) (drop k references) ≡ true → IsValueWalk a → IsValueWalk (a + 1)
  values-next a k same less passes walk = walk-next earlier nogood references (value_cases v d) (values_from v d a) (values_from v d (a + 1)) (value_case v a) a (values_from-next v d a less) (subst (λ (n : ℕ). covered earlier nogood (value_case v a ∷ []) (drop n references) ≡ true) same passes) walk
