-- Which rows support a value, and the references of the cases of a value that none supports.
use Rattle.pol_nogood.specs.Nogoods.{Pair, IsContained}
use Rattle.pol_nogood.specs.Logs.{StepView, reading, is_case, row_cases, value_case, nogood_at}
use Rattle.pol_nogood.specs.ValidLogs.{HasReferences}
use Rattle.pol_nogood.proofs.LogCases.{IsCaseByPlace, places_from_case, case_from_places}
use Rattle.pol_nogood.proofs.LogMaking.{IsContained-right, row_referred, row_skipped}
use Rattle.pol_arc.specs.Pruned.{IsReference}
use Rattle.pol_arc.specs.Arcs.{LiesIn, Supports, IsSupported}
use Rattle.std.proofs.lemmas.Bool.{cases_eq, both_ways}
use Rattle.std.proofs.lemmas.List.{get_or_default}
use Rattle.std.proofs.lemmas.List.Elements.{All-nil, All-cons, All-head}
use Rattle.std.proofs.Common.{◌≡◌, ℕ, ◌+◌, ◌<◌, ◌≤◌, ◌⊎◌, inl, inr, true, false, List, [], ◌∷◌, ◌++◌, length, get_or, take, Contains, sym, ◌∙◌, subst, arith, ◌↔◌, Bool, IsTrue}

-- a case that lies in the masks supports the value
pub supports_from_case : (masks scope : List ℕ) (x a : ℕ) (row : List ℕ) → length row ≡ length scope
    → is_case scope (value_case x a) row ≡ true → LiesIn masks scope row → Supports masks scope x a row
supports_from_case masks scope x a row long case lies =
    let places : IsCaseByPlace scope (value_case x a) row = places_from_case scope (value_case x a) row long case in
    record {
      one_value = places.repeats;
      at_variable = λ j inside same.
          All-head (λ (q : Pair). get_or scope j 0 ≡ q.variable → get_or row j 0 ≡ q.value)
          (record { variable = x; value = a }) [] (places.agrees j inside) same;
      lies = lies;
    }

-- and a row that supports it is a case
pub case_from_supports : (masks scope : List ℕ) (x a : ℕ) (row : List ℕ) → length row ≡ length scope
    → Supports masks scope x a row → is_case scope (value_case x a) row ≡ true
case_from_supports masks scope x a row long supports =
    let Agrees : ℕ → Pair → Type 0 = λ j q. get_or scope j 0 ≡ q.variable → get_or row j 0 ≡ q.value in
    case_from_places scope (value_case x a) row long (record {
      repeats = supports.one_value;
      agrees = λ j inside.
          All-cons (λ (q : Pair). get_or scope j 0 ≡ q.variable → get_or row j 0 ≡ q.value)
          (record { variable = x; value = a }) [] (supports.at_variable j inside)
          (All-nil (λ (q : Pair). get_or scope j 0 ≡ q.variable → get_or row j 0 ≡ q.value));
    })

-- the test of the row says whether it is a case of the value
pub case_is : (scope row : List ℕ) (nogood pairs : List Pair) (result answer : Bool) → result ≡ is_case scope nogood row
    → nogood ≡ pairs → result ≡ answer → is_case scope pairs row ≡ answer
case_is scope row nogood pairs result answer told same is =
    subst (λ (some : List Pair). is_case scope some row ≡ answer) same (sym told ∙ is)

-- the test of the case and of the masks tells whether the row supports the value
pub supports_told : (masks scope : List ℕ) (x a : ℕ) (row : List ℕ) (nogood : List Pair) (case lies : Bool)
    → length row ≡ length scope → nogood ≡ value_case x a → case ≡ is_case scope nogood row → case ≡ true
    → IsTrue lies ↔ LiesIn masks scope row → IsTrue lies ↔ Supports masks scope x a row
supports_told masks scope x a row nogood case lies long pair told is tells =
    let here : is_case scope (value_case x a) row ≡ true =
    subst (λ (pairs : List Pair). is_case scope pairs row ≡ true) pair (sym told ∙ is) in (
      λ holds. supports_from_case masks scope x a row long here (tells.0 holds),
      λ supports. tells.1 supports.lies,
    )

pub supports_not : (masks scope : List ℕ) (x a : ℕ) (row : List ℕ) (nogood : List Pair) (case : Bool)
    → length row ≡ length scope → nogood ≡ value_case x a → case ≡ is_case scope nogood row → case ≡ false
    → IsTrue false ↔ Supports masks scope x a row
supports_not masks scope x a row nogood case long pair told fails =
    let none : is_case scope (value_case x a) row ≡ false =
    subst (λ (pairs : List Pair). is_case scope pairs row ≡ false) pair (sym told ∙ fails) in (
      λ never. cc,
      λ supports. absurd (both_ways (is_case scope (value_case x a) row) none (case_from_supports masks scope x a row long supports)),
    )

-- none of the first rows supports the value
abbrev pub NoneSupports : (rows : List (List ℕ)) (masks scope : List ℕ) (x a count : ℕ) → Type 0
NoneSupports rows masks scope x a count = (k : ℕ) → k < count → Supports masks scope x a (get_or rows k []) → ⊥

pub none_more : (rows : List (List ℕ)) (masks scope : List ℕ) (x a count : ℕ) → NoneSupports rows masks scope x a count
    → (Supports masks scope x a (get_or rows count []) → ⊥) → NoneSupports rows masks scope x a (count + 1)
none_more rows masks scope x a count none last = λ k less. by k less (cases_eq k count)
  where
    by : (k : ℕ) → k < count + 1 → (k ≡ count) ⊎ (k ≡ count → ⊥) → Supports masks scope x a (get_or rows k []) → ⊥
    by k less (inl same) supports = last (subst (λ (n : ℕ). Supports masks scope x a (get_or rows n [])) same supports)
    by k less (inr before) supports = none k (omega arith) supports

pub unsupported : (rows : List (List ℕ)) (masks scope : List ℕ) (x a count : ℕ) → length rows ≤ count
    → NoneSupports rows masks scope x a count → IsSupported rows masks scope x a → ⊥
unsupported rows masks scope x a count all none found = by found.listed
  where
    by : Contains rows found.row → ⊥
    by (k, inside, same) =
        let at : get_or rows k [] ≡ found.row = get_or_default rows k [] found.row inside ∙ same in
        none k (omega arith) (subst (Supports masks scope x a) (sym at) found.supports)

-- the row with the number supports the value
pub supported_by : (rows : List (List ℕ)) (masks scope : List ℕ) (x a i : ℕ) (row : List ℕ) → i < length rows
    → row ≡ get_or rows i [] → Supports masks scope x a row → IsSupported rows masks scope x a
supported_by rows masks scope x a i row inside read supports = record {
  row = row;
  listed = (i, inside, get_or_default rows i row [] inside ∙ sym read);
  supports = supports;
}

-- references of cases, one after another

pub case_referred : (log : List StepView) (rows : List (List ℕ)) (scope : List ℕ) (x a i : ℕ) (row references : List ℕ) (r : ℕ) → i < length rows → row ≡ get_or rows i [] → is_case scope (value_case x a) row ≡ true
    → HasReferences log (value_case x a) (row_cases scope (value_case x a) (take i rows)) references → IsReference log scope row r → HasReferences log (value_case x a) (row_cases scope (value_case x a) (take (i + 1) rows)) (references ++ r ∷ [])
case_referred log rows scope x a i row references r inside read case referred is =
    row_referred log scope (value_case x a) rows i [] references r inside (subst (λ (some : List ℕ). is_case scope (value_case x a) some ≡ true) read case) referred is.known
    (IsContained-right (nogood_at log r) (value_case x a) (reading scope (get_or rows i [])) (subst (λ (some : List ℕ). IsContained (nogood_at log r) (reading scope some)) read is.within))

pub case_skipped : (log : List StepView) (rows : List (List ℕ)) (scope : List ℕ) (x a i : ℕ) (row references : List ℕ) → i < length rows → row ≡ get_or rows i [] → is_case scope (value_case x a) row ≡ false
    → HasReferences log (value_case x a) (row_cases scope (value_case x a) (take i rows)) references → HasReferences log (value_case x a) (row_cases scope (value_case x a) (take (i + 1) rows)) references
case_skipped log rows scope x a i row references inside read excluded referred = row_skipped log scope (value_case x a) rows i [] references inside (subst (λ (some : List ℕ). is_case scope (value_case x a) some ≡ false) read excluded) referred
