-- Lists of the variables' values, spread to the cells.
use Rattle.std.proofs.Common.{◌≡◌, ℕ, zero, suc, ◌<◌, ◌≤◌, arith, sym, ◌∙◌, refl, List, [], ◌∷◌, get_or, length, map}
use Rattle.std.proofs.Common.{All, inl, inr, Option, Some, None, option_map, subst}
use Rattle.std.specs.Prelude.{◌++◌, IsBitSet}
use Rattle.std.proofs.lemmas.List.{get_or-map, length-map, ext_get_or}
use Rattle.std.proofs.lemmas.List.Elements.{All-append, All-map}
use Rattle.pol_base.specs.Tuples.{IsBefore}
use Rattle.pol_base.specs.Masks.{IsMask, AreMasks, IsWithin}
use Rattle.pol_base.specs.Least.{AnswersLeast}
use Rattle.pol_base.proofs.OrderLemmas.{IsBefore-irrefl, IsBefore-trans, order_of, Before, Same, After}
use Rattle.pol_relation.specs.Relations.{LanguageView}
use Rattle.pol_relation.specs.Instances.{ConstraintView, FitsAt, Meets, read_at}
use Rattle.pol_csp.specs.Narrowing.{Rejects}
use Rattle.pol_csp.specs.Searching.{IsFound, FollowFrom}
use Rattle.pol_csp.specs.Variables.{IsFirstCell, AreVariables, AreTies, AreTied, IsNumbered, AreShared, IsFoundTied}
use Rattle.pol_csp.specs.Variables.{TakesSpread, on_variables}

-- the value of a cell is that of its variable
pub spread_at : (xs variables : List ℕ) (k : ℕ)
    → k < length variables
    → get_or (read_at xs variables) k 0 ≡ get_or xs (get_or variables k 0) 0
spread_at xs variables k inside = get_or-map (λ v. get_or xs v 0) variables k 0 0 inside

pub length-spread : (xs variables : List ℕ) → length (read_at xs variables) ≡ length variables
length-spread xs variables = length-map variables (λ v. get_or xs v 0)

-- each cell's variable is one of those that are taken
pub known_variables : (T : ℕ → Type 0) (firsts variables : List ℕ) (n : ℕ)
    → TakesSpread T firsts variables n
    → All (λ v. v < n) variables
known_variables T firsts variables n taken =
    subst (λ m. All (λ v. v < m) variables) (sym taken.counted) taken.variables_are.below

-- ---- masks and tuples

-- values within the masks of the variables are within them at the cells
spread_within : (masks variables xs : List ℕ)
    → All (λ v. v < length masks) variables
    → IsWithin masks xs
    → IsWithin (read_at masks variables) (read_at xs variables)
spread_within masks variables xs known w = record {
  long = length-spread xs variables ∙ sym (length-spread masks variables);
  within = within;
}
  where
    within : (k : ℕ)
        → k < length (read_at xs variables)
        → IsBitSet (get_or (read_at masks variables) k 0) (get_or (read_at xs variables) k 0)
    within k h =
        let inside : k < length variables = omega (arith, length-spread xs variables) in
        let at : get_or variables k 0 < length masks = known k 0 inside in
        rw (spread_at masks variables k inside, spread_at xs variables k inside)
        (w.within (get_or variables k 0) (omega (arith, w.long)))

-- the masks of the cells, each that of its variable
pub spread_masks : (d : ℕ) (masks variables : List ℕ)
    → All (λ v. v < length masks) variables
    → AreMasks d masks
    → AreMasks d (read_at masks variables)
spread_masks d masks variables known are =
    All-map (IsMask d) (λ v. get_or masks v 0) variables (λ k e h. are (get_or variables k e) 0 (known k e h))

-- what is found at the cells is rejected at the variables
pub spread_rejects : (W : List ℕ → Type 0) (masks variables : List ℕ)
    → All (λ v. v < length masks) variables
    → Rejects W (read_at masks variables)
    → Rejects (λ xs. W (read_at xs variables)) masks
spread_rejects W masks variables known rejects xs w wanted =
    rejects (read_at xs variables) (spread_within masks variables xs known w) wanted

-- ---- constraints

-- a constraint on cells is one on their variables; a place outside is not asked
read_spread : (xs variables scope : List ℕ)
    → All (λ c. c < length variables) scope
    → read_at xs (read_at variables scope) ≡ read_at (read_at xs variables) scope
read_spread xs variables [] inside = refl
read_spread xs variables (c ∷ scope) inside =
    let rest = read_spread xs variables scope (λ k e h. inside (suc k) e (omega arith)) in
    let here = spread_at xs variables c (inside 0 0 (omega arith)) in
    rw (rest, here) refl

-- a constraint on cells that fits, on their variables
fits_spread : (lang : LanguageView) (m : ℕ) (variables : List ℕ) (c : ConstraintView)
    → All (λ v. v < m) variables
    → FitsAt lang (length variables) c
    → FitsAt lang m (on_variables variables c)
fits_spread lang m variables c below fits = record {
  known = fits.known;
  long = length-spread variables c.scope ∙ fits.long;
  below = All-map (λ v. v < m) (λ x. get_or variables x 0) c.scope
      (λ k e h. below (get_or c.scope k e) 0 (fits.below k e h));
}

-- constraints that were found on cells, on their variables
pub follow_spread : (W : List ℕ → Type 0) (lang : LanguageView) (m : ℕ) (variables : List ℕ)
    (found old : List ConstraintView)
    → All (λ v. v < m) variables
    → FollowFrom W lang (length variables) found
    → FollowFrom (λ xs. W (read_at xs variables)) lang m old
    → FollowFrom (λ xs. W (read_at xs variables)) lang m (old ++ map (on_variables variables) found)
follow_spread W lang m variables found old below new before = record {
  fits = All-append (FitsAt lang m) old (map (on_variables variables) found) before.fits
      (All-map (FitsAt lang m) (on_variables variables) found fits);
  met = λ xs wanted. All-append (λ c. Meets lang c xs) old (map (on_variables variables) found) (before.met xs wanted)
      (All-map (λ c. Meets lang c xs) (on_variables variables) found (met xs wanted));
}
  where
    fits : All (λ c. FitsAt lang m (on_variables variables c)) found
    fits k e h = fits_spread lang m variables (get_or found k e) below (new.fits k e h)

    met : (xs : List ℕ) → W (read_at xs variables) → All (λ c. Meets lang (on_variables variables c) xs) found
    met xs wanted k e h =
        let c = get_or found k e in
        rw (read_spread xs variables c.scope (new.fits k e h).below) (new.met (read_at xs variables) wanted k e h)

-- ---- the order of lists

-- the first place where two lists differ, at which the first list is less
record Differ (xs ys : List ℕ) : Type 0 where
  pub at : ℕ
  pub inside : at < length xs
  pub same : (k : ℕ) → k < at → get_or xs k 0 ≡ get_or ys k 0
  pub less : get_or xs at 0 < get_or ys at 0

differ_before : (at : ℕ) (xs ys : List ℕ)
    → length xs ≡ length ys
    → at < length xs
    → ((k : ℕ) → k < at → get_or xs k 0 ≡ get_or ys k 0)
    → get_or xs at 0 < get_or ys at 0
    → IsBefore xs ys
differ_before at [] ys long inside same less = absurd (omega arith)
differ_before at (x ∷ xs) [] long inside same less = absurd (cc)
differ_before zero (x ∷ xs) (y ∷ ys) long inside same less = inl less
differ_before (suc at) (x ∷ xs) (y ∷ ys) long inside same less = inr (
  same 0 (omega arith),
  differ_before at xs ys (cc) (omega arith) (λ k h. same (suc k) (omega arith)) less,
)

later_differ : (x y : ℕ) (xs ys : List ℕ) → x ≡ y → Differ xs ys → Differ (x ∷ xs) (y ∷ ys)
later_differ x y xs ys equal rest = record {
  at = suc rest.at;
  inside = (let h : rest.at < length xs = rest.inside in omega arith);
  same = same;
  less = rest.less;
}
  where
    same : (k : ℕ) → k < suc rest.at → get_or (x ∷ xs) k 0 ≡ get_or (y ∷ ys) k 0
    same zero h = equal
    same (suc k) h = rest.same k (omega arith)

before_differ : (xs ys : List ℕ) → IsBefore xs ys → Differ xs ys
before_differ [] ys before = absurd before
before_differ (x ∷ xs) [] before = absurd before
before_differ (x ∷ xs) (y ∷ ys) (inl less) = record {
  at = 0;
  inside = omega arith;
  same = λ k h. absurd (omega arith);
  less = less;
}
before_differ (x ∷ xs) (y ∷ ys) (inr (equal, later)) = later_differ x y xs ys equal (before_differ xs ys later)

-- what is before stays before where it is spread
spread_before : (firsts variables xs ys : List ℕ)
    → AreVariables firsts variables
    → length xs ≡ length firsts
    → length ys ≡ length firsts
    → IsBefore xs ys
    → IsBefore (read_at xs variables) (read_at ys variables)
spread_before firsts variables xs ys are long_xs long_ys before =
    differ_before cell (read_at xs variables) (read_at ys variables)
    (length-spread xs variables ∙ sym (length-spread ys variables))
    (rw (length-spread xs variables) first.inside) same less
  where
    differ : Differ xs ys
    differ = before_differ xs ys before

    known : differ.at < length firsts
    known = let h : differ.at < length xs = differ.inside in omega (arith, long_xs)

    cell : ℕ
    cell = get_or firsts differ.at 0

    first : IsFirstCell variables differ.at cell
    first = are.first differ.at known

    same : (k : ℕ) → k < cell → get_or (read_at xs variables) k 0 ≡ get_or (read_at ys variables) k 0
    same k h =
        let inside : k < length variables = (let i : cell < length variables = first.inside in omega arith) in
        rw (spread_at xs variables k inside, spread_at ys variables k inside)
        (differ.same (get_or variables k 0) (first.lower k h))

    less : get_or (read_at xs variables) cell 0 < get_or (read_at ys variables) cell 0
    less =
        rw (spread_at xs variables cell first.inside, spread_at ys variables cell first.inside, first.here) differ.less

-- the values of the variables, each read at its cells
record IsSpread (W : List ℕ → Type 0) (variables masks cells : List ℕ) : Type 0 where
  pub values : List ℕ
  pub found : IsFound (λ xs. W (read_at xs variables)) masks values
  pub spread : cells ≡ read_at values variables

-- the least list of variables' values makes the least list of cells' values
least_spread : (W : List ℕ → Type 0) (firsts variables masks : List ℕ) (answer : Option (List ℕ))
    → AreVariables firsts variables
    → length masks ≡ length firsts
    → AnswersLeast (IsFound (λ xs. W (read_at xs variables)) masks) answer
    → AnswersLeast (IsSpread W variables masks) (option_map (λ xs. read_at xs variables) answer)
least_spread W firsts variables masks None are many answer = λ cells spread. answer spread.values spread.found
least_spread W firsts variables masks (Some xs) are many answer = record {
  holds = record { values = xs; found = answer.holds; spread = refl };
  first = first;
}
  where
    first : (cells : List ℕ)
        → length cells ≡ length (read_at xs variables)
        → IsSpread W variables masks cells
        → IsBefore cells (read_at xs variables)
        → ⊥
    first cells long spread before =
        let ys = spread.values in
        let within = spread.found.within in
        let here = answer.holds.within in
        let same_length = within.long ∙ sym here.long in
        let ahead = subst (λ zs. IsBefore zs (read_at xs variables)) spread.spread before in
        elim (order_of ys xs same_length) [
          | Before earlier ↦ answer.first ys same_length spread.found earlier
          | Same same ↦ IsBefore-irrefl (read_at xs variables)
              (subst (λ zs. IsBefore (read_at zs variables) (read_at xs variables)) same ahead)
          | After later ↦
              let behind = spread_before firsts variables xs ys are (here.long ∙ many) (within.long ∙ many) later in
              let around = IsBefore-trans (read_at ys variables) (read_at xs variables) (read_at ys variables) in
              IsBefore-irrefl (read_at ys variables) (around ahead behind)
        ]

-- ---- tied lists

-- a tied list is the values at the first cells, spread
tied_spread : (ties firsts variables xs : List ℕ)
    → IsNumbered ties (length xs) firsts variables
    → AreTied ties xs
    → xs ≡ read_at (read_at xs firsts) variables
tied_spread ties firsts variables xs numbered tied =
    ext_get_or 0 xs (read_at (read_at xs firsts) variables)
    (sym (length-spread (read_at xs firsts) variables ∙ numbered.long)) at
  where
    at : (c : ℕ) → c < length xs → get_or xs c 0 ≡ get_or (read_at (read_at xs firsts) variables) c 0
    at c h =
        let inside : c < length variables = omega (arith, numbered.long) in
        let known : get_or variables c 0 < length firsts = numbered.variables_are.below c 0 inside in
        rw (spread_at (read_at xs firsts) variables c inside, spread_at xs firsts (get_or variables c 0) known)
        (numbered.one xs tied c h)

-- the values of variables are equal at tied cells
spread_tied : (ties firsts variables xs : List ℕ)
    → AreTies ties
    → IsNumbered ties (length ties) firsts variables
    → AreTied ties (read_at xs variables)
spread_tied ties firsts variables xs ordered numbered c h =
    let behind : get_or ties c 0 ≤ c = ordered c h in
    let here : c < length variables = omega (arith, numbered.long) in
    let there : get_or ties c 0 < length variables = omega (arith, numbered.long) in
    rw (spread_at xs variables c here, spread_at xs variables (get_or ties c 0) there, numbered.shared c h) refl

-- the variables of tied cells, and the masks that they share
pub record AreSharedBy (ties firsts variables cells masks : List ℕ) : Type 0 where
  pub ordered : AreTies ties
  pub all_tied : length ties ≡ length cells
  pub numbered : IsNumbered ties (length ties) firsts variables
  pub shared : AreShared firsts variables cells masks

-- a list that is equal at tied cells and within the cells' masks, from its values at the first cells
found-spread : (W : List ℕ → Type 0) (ties firsts variables cells masks xs : List ℕ)
    → AreSharedBy ties firsts variables cells masks
    → IsFoundTied W cells ties xs
    → IsSpread W variables masks xs
found-spread W ties firsts variables cells masks xs by found = record {
  values = read_at xs firsts;
  found = record {
    within = (by.shared.within (read_at xs firsts) (length-spread xs firsts)).1
        (subst (IsWithin cells) same found.within);
    wanted = subst W same found.wanted;
  };
  spread = same;
}
  where
    long : length ties ≡ length xs
    long = by.all_tied ∙ sym found.within.long

    same : xs ≡ read_at (read_at xs firsts) variables
    same = tied_spread ties firsts variables xs
        (subst (λ n. IsNumbered ties n firsts variables) long by.numbered) found.tied

-- and the other way round
spread-found : (W : List ℕ → Type 0) (ties firsts variables cells masks xs : List ℕ)
    → AreSharedBy ties firsts variables cells masks
    → IsSpread W variables masks xs
    → IsFoundTied W cells ties xs
spread-found W ties firsts variables cells masks xs by spread = subst (IsFoundTied W cells ties) (sym spread.spread)
    (record {
      within = (by.shared.within spread.values (spread.found.within.long ∙ by.shared.long)).0 spread.found.within;
      tied = spread_tied ties firsts variables spread.values by.ordered by.numbered;
      wanted = spread.found.wanted;
    })

-- the least list with a property is the least with another that the same lists have
least_same : (P Q : List ℕ → Type 0) (answer : Option (List ℕ))
    → ((xs : List ℕ) → P xs → Q xs)
    → ((xs : List ℕ) → Q xs → P xs)
    → AnswersLeast P answer
    → AnswersLeast Q answer
least_same P Q None there back least = λ ys held. least ys (back ys held)
least_same P Q (Some xs) there back least = record {
  holds = there xs least.holds;
  first = λ ys long held. least.first ys long (back ys held);
}

-- the least list of variables' values, spread, is the least list that is equal at tied cells
pub least_tied : (W : List ℕ → Type 0) (ties firsts variables cells masks : List ℕ) (answer : Option (List ℕ))
    → AreSharedBy ties firsts variables cells masks
    → AnswersLeast (IsFound (λ xs. W (read_at xs variables)) masks) answer
    → AnswersLeast (IsFoundTied W cells ties) (option_map (λ xs. read_at xs variables) answer)
least_tied W ties firsts variables cells masks answer by least =
    least_same (IsSpread W variables masks) (IsFoundTied W cells ties) (option_map (λ xs. read_at xs variables) answer)
    (λ xs. spread-found W ties firsts variables cells masks xs by)
    (λ xs. found-spread W ties firsts variables cells masks xs by)
    (least_spread W firsts variables masks answer by.numbered.variables_are by.shared.long least)

-- where no values of the variables are within the cells' masks, no tied list is
pub none_tied : (W : List ℕ → Type 0) (ties firsts variables cells : List ℕ)
    → length ties ≡ length cells
    → IsNumbered ties (length ties) firsts variables
    → ((xs : List ℕ) → IsWithin cells (read_at xs variables) → ⊥)
    → (xs : List ℕ)
    → IsFoundTied W cells ties xs
    → ⊥
none_tied W ties firsts variables cells all numbered none xs found =
    let long : length ties ≡ length xs = all ∙ sym found.within.long in
    let numbered_xs : IsNumbered ties (length xs) firsts variables =
    subst (λ n. IsNumbered ties n firsts variables) long numbered in
    let same = tied_spread ties firsts variables xs numbered_xs found.tied in
    none (read_at xs firsts) (subst (IsWithin cells) same found.within)
