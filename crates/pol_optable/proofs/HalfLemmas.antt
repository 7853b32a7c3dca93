-- The image of rows by the halves of its places.
use Rattle.std.proofs.Common.{◌≡◌, ℕ, zero, suc, ◌+◌, ◌-◌, ◌*◌, ◌/◌, ◌%◌, ◌^◌, ◌<◌, ◌≤◌, ◌⊎◌, inl, inr, subst, List, [], ◌∷◌, ◌++◌, length, take, drop, replicate, get_or, refl, sym, ap, ◌∙◌, arith, add-one}
use Rattle.std.proofs.Math.Nat.{pow-zero, pow-suc, pow-le-pow_left, pow-le-pow_right, div-one, mod-lt}
use Rattle.std.proofs.lemmas.Bool.{cases_lt}
use Rattle.std.proofs.lemmas.Nat.{mul-add-lt, div_below, div-mul-add, mod-mul-add, pow-add, mul-le}
use Rattle.std.proofs.lemmas.List.{length-append, take-append-drop, length-take-le, length-drop, drop_more, drop_all, get_or-take, get_or-drop, get_or-replicate, length-replicate}
use Rattle.std.proofs.lemmas.List.Elements.{All-head, All-tail, All-take, All-drop}
use Rattle.pol_base.specs.Tuples.{IsTuple, cell_of}
use Rattle.pol_base.proofs.CellLemmas.{cell_of-IsTuple, power_monotone, power_some}
use Rattle.pol_relation.proofs.RelationLemmas.{few_cells}
use Rattle.pol_relation.specs.Relations.{RelationView}
use Rattle.pol_optable.specs.Operations.{Operation, column}
use Rattle.pol_optable.specs.Tables.{IsOpTable}
use Rattle.pol_optable.specs.Breaks.{TellImages, AreImagesTuples, image_behind, rows_at, values_from}
use Rattle.pol_optable.proofs.ImageLemmas.{HasRoom, length-values_from, values_from-IsTuple, values_image}

-- ---- numbers of lists

join_step : (x p q a b : ℕ) → x * (p * q) + (a * q + b) ≡ (x * p + a) * q + b
join_step x p q a b = grind arith

-- the number that two lists write, one behind the other
pub cell_of-append :
    (d : ℕ) (xs ys : List ℕ) → cell_of d (xs ++ ys) ≡ cell_of d xs * d ^ length ys + cell_of d ys
cell_of-append d [] ys = omega arith
cell_of-append d (x ∷ xs) ys =
    let power : d ^ length (xs ++ ys) ≡ d ^ length xs * d ^ length ys =
    ap (λ n. d ^ n) (length-append xs ys) ∙ pow-add d (length xs) (length ys) in
    rw (power, cell_of-append d xs ys) (join_step x (d ^ length xs) (d ^ length ys) (cell_of d xs) (cell_of d ys))

-- there are few lists of at most three values
pub few_lists : (d n : ℕ) → d ≤ 5 → n ≤ 3 → d ^ n ≤ 125
few_lists d n few short =
    let base : d ^ n ≤ 5 ^ n = pow-le-pow_left {n = d} {m = 5} few n in
    let exponent : 5 ^ n ≤ 5 ^ 3 = pow-le-pow_right {n = 5} (omega arith) {i = n} {j = 3} short in
    omega arith

-- the values of a list in two parts
pub values_from-append :
    (f : Operation) (xs ys a b : List ℕ)
    → length xs ≡ length a
    → values_from f (xs ++ ys) (a ++ b) ≡ values_from f xs a ++ values_from f ys b
values_from-append f [] ys [] b long = refl
values_from-append f [] ys (v ∷ vs) b long = absurd (omega (arith, long))
values_from-append f (x ∷ xs) ys [] b long = absurd (omega (arith, long))
values_from-append f (x ∷ xs) ys (v ∷ vs) b long =
    ap (λ rest. get_or f.cells (x + v) 0 ∷ rest) (values_from-append f xs ys vs b (omega (arith, long)))

-- first cells beyond the values do not count
pub values_from-take :
    (f : Operation) (firsts values : List ℕ) (n : ℕ)
    → length values ≤ n
    → values_from f (take n firsts) values ≡ values_from f firsts values
values_from-take f [] values zero short = refl
values_from-take f [] values (suc n) short = refl
values_from-take f (x ∷ xs) [] zero short = refl
values_from-take f (x ∷ xs) [] (suc n) short = refl
values_from-take f (x ∷ xs) (v ∷ vs) zero short = absurd (omega (arith, short))
values_from-take f (x ∷ xs) (v ∷ vs) (suc n) short =
    ap (λ rest. get_or f.cells (x + v) 0 ∷ rest) (values_from-take f xs vs n (omega (arith, short)))

-- ---- the table of a half

-- the numbers for all lists at some places
pub record FillsHalf (f : Operation) (firsts : List ℕ) (weight count place_weight : ℕ) (cells : List ℕ) : Type 0 where
  pub counted : length cells ≡ 125
  pub count_is : count ≡ f.domain ^ length firsts
  pub weight_is : place_weight ≡ weight * f.domain ^ length firsts
  pub cells_are : (values : List ℕ) → IsTuple f.domain (length firsts) values
      → get_or cells (cell_of f.domain values) 0 ≡ cell_of f.domain (values_from f firsts values) * weight
  pub small : (i : ℕ) → i < count → get_or cells i 0 < place_weight

half_step : (v p c w : ℕ) → c * w + v * (w * p) ≡ (v * p + c) * w
half_step v p c w = grind arith

turned : (w p d : ℕ) → w * p * d ≡ w * (p * d)
turned w p d = grind arith

-- one place before the others
pub FillsHalf-more :
    (f : Operation) (firsts : List ℕ) (first weight count place_weight : ℕ) (old new : List ℕ)
    → FillsHalf f firsts weight count place_weight old
    → length new ≡ 125
    → ((i : ℕ) → i < count * f.domain
    → get_or new i 0 ≡ get_or old (i % count) 0 + get_or f.cells (first + i / count) 0 * place_weight)
    → ((i : ℕ) → i < count * f.domain → get_or new i 0 < place_weight * f.domain)
    → FillsHalf f (first ∷ firsts) weight (count * f.domain) (place_weight * f.domain) new
FillsHalf-more f firsts first weight count place_weight old new fills counted cells small = record {
  counted = counted;
  count_is = rw (pow-suc, fills.count_is) refl;
  weight_is = rw (pow-suc, fills.weight_is) (turned weight (f.domain ^ length firsts) f.domain);
  cells_are = λ values tuple. by values tuple;
  small = small;
}
  where
    by : (values : List ℕ)
        → IsTuple f.domain (suc (length firsts)) values
        → get_or new (cell_of f.domain values) 0 ≡ cell_of f.domain (values_from f (first ∷ firsts) values) * weight
    by [] tuple = absurd (omega (arith, tuple.long))
    by (v ∷ vs) tuple =
        let long : length vs ≡ length firsts = omega (arith, tuple.long) in
        let head : v < f.domain = All-head (λ u. u < f.domain) v vs tuple.below in
        let rest : IsTuple f.domain (length firsts) vs = record { long = long; below = All-tail (λ u. u < f.domain) v vs tuple.below } in
        let power : f.domain ^ length vs ≡ count = ap (λ n. f.domain ^ n) long ∙ sym fills.count_is in
        let within : cell_of f.domain vs < count = rw fills.count_is (cell_of-IsTuple f.domain (length firsts) vs rest) in
        let inside : v * count + cell_of f.domain vs < count * f.domain = mul-add-lt v count (cell_of f.domain vs) f.domain head within in
        let lower : (v * count + cell_of f.domain vs) % count ≡ cell_of f.domain vs = mod-mul-add v count (cell_of f.domain vs) within in
        let upper : (v * count + cell_of f.domain vs) / count ≡ v = div-mul-add v count (cell_of f.domain vs) within in
        let there : length (values_from f firsts vs) ≡ length firsts = length-values_from f firsts vs (omega (arith, long)) ∙ long in
        let weighed : place_weight ≡ weight * f.domain ^ length firsts = fills.weight_is in
        ap (λ p. get_or new (v * p + cell_of f.domain vs) 0) power
        ∙ cells (v * count + cell_of f.domain vs) inside
        ∙ ap (λ i. get_or old i 0 + get_or f.cells (first + (v * count + cell_of f.domain vs) / count) 0 * place_weight) lower
        ∙ ap (λ i. get_or old (cell_of f.domain vs) 0 + get_or f.cells (first + i) 0 * place_weight) upper
        ∙ ap (λ c. c + get_or f.cells (first + v) 0 * place_weight) (fills.cells_are vs rest)
        ∙ ap (λ w. cell_of f.domain (values_from f firsts vs) * weight + get_or f.cells (first + v) 0 * w) weighed
        ∙ half_step (get_or f.cells (first + v) 0) (f.domain ^ length firsts) (cell_of f.domain (values_from f firsts vs)) weight
        ∙ ap (λ n. (get_or f.cells (first + v) 0 * f.domain ^ n + cell_of f.domain (values_from f firsts vs)) * weight) (sym there)

-- a table of zeros
abbrev zeros : List ℕ
zeros = replicate 125 0

get_or-zeros : (i : ℕ) → i < 125 → get_or zeros i 0 ≡ 0
get_or-zeros i inside = let zero : ℕ = 0 in get_or-replicate 125 i zero zero inside

-- no place
FillsHalf-none : (f : Operation) (weight : ℕ) → 1 ≤ weight → FillsHalf f [] weight 1 weight zeros
FillsHalf-none f weight some = record {
  counted = let zero : ℕ = 0 in length-replicate 125 zero;
  count_is = sym (pow-zero f.domain);
  weight_is = omega (arith, ap (λ n. weight * n) (pow-zero f.domain));
  cells_are = λ values tuple. empty values tuple.long;
  small = λ i inside. omega (arith, get_or-zeros i (omega (arith, inside)), some);
}
  where
    empty : (values : List ℕ)
        → length values ≡ 0
        → get_or zeros (cell_of f.domain values) 0 ≡ cell_of f.domain (values_from f [] values) * weight
    empty [] none = omega (arith, get_or-zeros 0 (omega arith))
    empty (v ∷ vs) none = absurd (omega (arith, none))

-- the last place alone
pub FillsHalf-last :
    (f : Operation) (firsts : List ℕ) (weight : ℕ) (new : List ℕ)
    → 1 ≤ weight
    → 1 ≤ length firsts
    → length new ≡ 125
    → ((v : ℕ) → v < f.domain → get_or new v 0 ≡ get_or f.cells (get_or firsts (length firsts - 1) 0 + v) 0 * weight)
    → ((v : ℕ) → v < f.domain → get_or new v 0 < weight * f.domain)
    → FillsHalf f (drop (length firsts - 1) firsts) weight f.domain (weight * f.domain) new
FillsHalf-last f firsts weight new some place counted cells small =
    rw cut (subst (λ n. FillsHalf f (first ∷ []) weight n (weight * f.domain) new) once more)
  where
    first : ℕ
    first = get_or firsts (length firsts - 1) 0

    once : 1 * f.domain ≡ f.domain
    once = omega arith

    back : length firsts - 1 + 1 ≡ length firsts
    back = omega (arith, place)

    cut : drop (length firsts - 1) firsts ≡ first ∷ []
    cut = drop_more firsts (length firsts - 1) 0 (omega (arith, place))
        ∙ ap (λ k. first ∷ drop k firsts) back
        ∙ ap (λ rest. first ∷ rest) (drop_all (length firsts) firsts (omega arith))

    more : FillsHalf f (first ∷ []) weight (1 * f.domain) (weight * f.domain) new
    more = FillsHalf-more f [] first weight 1 weight zeros new (FillsHalf-none f weight some) counted
        (λ i inside.
        let value : get_or new i 0 ≡ get_or f.cells (first + i / 1) 0 * weight =
        cells i (omega (arith, inside)) ∙ ap (λ n. get_or f.cells (first + n) 0 * weight) (sym (div-one i)) in
        omega (arith, value, get_or-zeros (i % 1) (omega (arith, mod-lt i {m = 1} (omega arith)))))
        (λ i inside. small i (omega (arith, inside)))

-- there is room for one place more
pub record HasPlaceMore (d count place_weight : ℕ) : Type 0 where
  pub some : 1 ≤ count
  pub few_lists : count * d ≤ 125
  pub few : place_weight * d ≤ 15625

pub half_fits :
    (K : ℕ) (f : Operation) (firsts : List ℕ) (weight place count place_weight : ℕ) (cells : List ℕ)
    → IsOpTable K f
    → length firsts ≤ 3
    → weight * f.domain ^ length firsts ≤ 15625
    → 1 ≤ place
    → place ≤ length firsts
    → FillsHalf f (drop place firsts) weight count place_weight cells
    → HasPlaceMore f.domain count place_weight
half_fits K f firsts weight place count place_weight cells table short fits more within fills =
    let d = f.domain in
    let n = length firsts in
    let m = length (drop place firsts) in
    let left : m + 1 ≤ n = omega (arith, length-drop place firsts, more, within) in
    let longer : d ^ (m + 1) ≡ d ^ m * d = rw (add-one, pow-suc) refl in
    let lists : d ^ (m + 1) ≤ 125 = few_lists d (m + 1) table.domain_is.few (omega (arith, short, left)) in
    let power : d ^ (m + 1) ≤ d ^ n = power_monotone d (m + 1) n table.domain_is.some left in
    let heavy : weight * d ^ (m + 1) ≤ weight * d ^ n = mul-le weight (d ^ (m + 1)) weight (d ^ n) (omega arith) power in
    let lighter : weight * d ^ m * d ≤ weight * d ^ n = rw (turned weight (d ^ m) d, ← longer) heavy in
    record {
      some = rw fills.count_is (power_some d m table.domain_is.some);
      few_lists = rw (fills.count_is, ← longer) lists;
      few = rw fills.weight_is (omega (arith, lighter, fits));
    }

-- there is room for the last place
pub last_fits :
    (K : ℕ) (f : Operation) (firsts : List ℕ) (weight : ℕ)
    → IsOpTable K f
    → 1 ≤ length firsts
    → weight * f.domain ^ length firsts ≤ 15625
    → weight * f.domain ≤ 15625
last_fits K f firsts weight table place fits =
    let power : f.domain ^ 1 ≤ f.domain ^ length firsts = power_monotone f.domain 1 (length firsts) table.domain_is.some place in
    let one : f.domain ^ 1 ≡ f.domain = rw (pow-suc, pow-zero) (omega arith) in
    let heavy : weight * f.domain ≤ weight * f.domain ^ length firsts =
    mul-le weight f.domain weight (f.domain ^ length firsts) (omega arith) (rw one at power) in
    omega (arith, heavy, fits)

-- the place before those that are done is done
pub half_longer :
    (f : Operation) (firsts : List ℕ) (weight place count place_weight : ℕ) (old new : List ℕ)
    → 1 ≤ place
    → place ≤ length firsts
    → FillsHalf f (drop place firsts) weight count place_weight old
    → length new ≡ 125
    → ((i : ℕ) → i < count * f.domain → get_or new i 0
    ≡ get_or old (i % count) 0 + get_or f.cells (get_or firsts (place - 1) 0 + i / count) 0 * place_weight)
    → ((i : ℕ) → i < count * f.domain → get_or new i 0 < place_weight * f.domain)
    → FillsHalf f (drop (place - 1) firsts) weight (count * f.domain) (place_weight * f.domain) new
half_longer f firsts weight place count place_weight old new some within fills counted cells small =
    let inside : place - 1 < length firsts = omega (arith, some, within) in
    let back : place - 1 + 1 ≡ place = omega (arith, some) in
    let cut : drop (place - 1) firsts ≡ get_or firsts (place - 1) 0 ∷ drop place firsts =
    drop_more firsts (place - 1) 0 inside ∙ ap (λ k. get_or firsts (place - 1) 0 ∷ drop k firsts) back in
    rw cut (FillsHalf-more f (drop place firsts) (get_or firsts (place - 1) 0) weight count place_weight old new fills counted cells small)

-- ---- one place before the others, from the highest list down

-- the lists from one on are done, and the others are as they were
pub record Lengthens (f : Operation) (first weight count list : ℕ) (old cells : List ℕ) : Type 0 where
  pub counted : length cells ≡ 125
  pub within : list ≤ count * f.domain
  pub kept : (i : ℕ) → i < list → get_or cells i 0 ≡ get_or old i 0
  pub done : (i : ℕ) → list ≤ i → i < count * f.domain
      → get_or cells i 0 ≡ get_or old (i % count) 0 + get_or f.cells (first + i / count) 0 * weight

-- the lists that begin with one value more
pub lengthens_more :
    (f : Operation) (first weight count v : ℕ) (old cells new : List ℕ)
    → 1 ≤ count
    → v < f.domain
    → Lengthens f first weight count ((v + 1) * count) old cells
    → length new ≡ 125
    → ((k : ℕ) → k < count → get_or new (v * count + k) 0 ≡ get_or cells k 0 + get_or f.cells (first + v) 0 * weight)
    → ((i : ℕ) → (i < v * count) ⊎ (v * count + count ≤ i) → get_or new i 0 ≡ get_or cells i 0)
    → Lengthens f first weight count (v * count) old new
lengthens_more f first weight count v old cells new some below so_far long raised kept = record {
  counted = long;
  within = omega (arith, so_far.within, next);
  kept = λ i low. kept i (inl low) ∙ so_far.kept i (omega (arith, low, next));
  done = done;
}
  where
    next : (v + 1) * count ≡ v * count + count
    next = grind arith

    here : (k : ℕ) → k < count → get_or new (v * count + k) 0
        ≡ get_or old ((v * count + k) % count) 0 + get_or f.cells (first + (v * count + k) / count) 0 * weight
    here k inside =
        rw (div-mul-add v count k inside, mod-mul-add v count k inside)
        (raised k inside ∙ ap (λ n. n + get_or f.cells (first + v) 0 * weight) (so_far.kept k (omega (arith, inside, next))))

    done : (i : ℕ) → v * count ≤ i → i < count * f.domain
        → get_or new i 0 ≡ get_or old (i % count) 0 + get_or f.cells (first + i / count) 0 * weight
    done i low inside = by (cases_lt i (v * count + count))
      where
        by : (i < v * count + count) ⊎ (v * count + count ≤ i)
            → get_or new i 0 ≡ get_or old (i % count) 0 + get_or f.cells (first + i / count) 0 * weight
        by (inl less) =
            let back : v * count + (i - v * count) ≡ i = omega (arith, low) in
            let k_inside : i - v * count < count = omega (arith, less, low) in
            subst (λ n. get_or new n 0 ≡ get_or old (n % count) 0 + get_or f.cells (first + n / count) 0 * weight) back
            (here (i - v * count) k_inside)
        by (inr more) = kept i (inr more) ∙ so_far.done i (omega (arith, more, next)) inside

-- the number for the longer list is below the weight of the place before it
pub longer_small :
    (K : ℕ) (f : Operation) (first weight count i lower : ℕ)
    → IsOpTable K f
    → first + f.domain ≤ f.domain ^ K
    → 1 ≤ count
    → i < count * f.domain
    → lower < weight
    → lower + get_or f.cells (first + i / count) 0 * weight < weight * f.domain
longer_small K f first weight count i lower table room some inside small =
    let digit : i / count < f.domain = div_below i count f.domain some (omega (arith, inside)) in
    let power : f.domain ^ f.arity ≡ f.domain ^ K = ap (λ n. f.domain ^ n) table.arity_is in
    let known : first + i / count < length f.cells = omega (arith, room, digit, power, table.is_operation.all_cells) in
    let value : get_or f.cells (first + i / count) 0 < f.domain = table.is_operation.below (first + i / count) 0 known in
    let grown = mul-add-lt (get_or f.cells (first + i / count) 0) weight lower f.domain value small in
    omega (arith, grown)

-- ---- the halves together

-- the first cells of the front, and those of the back
abbrev pub front_of : ℕ → List ℕ → List ℕ
front_of n firsts = take (n / 2) firsts

abbrev pub back_of : ℕ → List ℕ → List ℕ
back_of n firsts = take (n - n / 2) (drop (n / 2) firsts)

pub length-front_of : (n : ℕ) (firsts : List ℕ) → n ≤ length firsts → length (front_of n firsts) ≡ n / 2
length-front_of n firsts short = length-take-le (n / 2) firsts (omega (arith, short))

pub length-back_of : (n : ℕ) (firsts : List ℕ) → n ≤ length firsts → length (back_of n firsts) ≡ n - n / 2
length-back_of n firsts short =
    length-take-le (n - n / 2) (drop (n / 2) firsts) (omega (arith, short, length-drop (n / 2) firsts))

-- what is asked of a half
pub record IsHalf (K : ℕ) (f : Operation) (firsts : List ℕ) (weight : ℕ) : Type 0 where
  pub short : length firsts ≤ 3
  pub within : HasRoom f.domain K (length firsts) firsts
  pub some : 1 ≤ weight
  pub few : weight * f.domain ^ length firsts ≤ 15625

pub IsHalf-back :
    (K : ℕ) (f : Operation) (firsts : List ℕ) (n : ℕ)
    → IsOpTable K f
    → n ≤ 6
    → n ≤ length firsts
    → HasRoom f.domain K n firsts
    → IsHalf K f (back_of n firsts) 1
IsHalf-back K f firsts n table few short room =
    let long = length-back_of n firsts short in
    let lists : f.domain ^ (n - n / 2) ≤ 125 = few_lists f.domain (n - n / 2) table.domain_is.few (omega (arith, few)) in
    record {
      short = omega (arith, long, few);
      within = λ place inside.
          let known : place < n - n / 2 = omega (arith, inside, long) in
          rw (get_or-take (n - n / 2) (drop (n / 2) firsts) place 0 known, get_or-drop (n / 2) firsts place 0)
          (room (n / 2 + place) (omega (arith, known)));
      some = omega arith;
      few = rw long (omega (arith, lists));
    }

pub IsHalf-front :
    (K : ℕ) (f : Operation) (firsts : List ℕ) (n weight : ℕ)
    → IsOpTable K f
    → n ≤ 6
    → n ≤ length firsts
    → HasRoom f.domain K n firsts
    → weight ≡ 1 * f.domain ^ length (back_of n firsts)
    → IsHalf K f (front_of n firsts) weight
IsHalf-front K f firsts n weight table few short room weight_is =
    let long = length-front_of n firsts short in
    let once : weight ≡ 1 * f.domain ^ (n - n / 2) = rw (length-back_of n firsts short) at weight_is in
    let weighed : weight ≡ f.domain ^ (n - n / 2) = omega (arith, once) in
    let whole : n - n / 2 + n / 2 ≡ n = omega arith in
    let power : f.domain ^ (n - n / 2) * f.domain ^ (n / 2) ≡ f.domain ^ n =
    sym (pow-add f.domain (n - n / 2) (n / 2)) ∙ ap (λ k. f.domain ^ k) whole in
    record {
      short = omega (arith, long, few);
      within = λ place inside.
          let known : place < n / 2 = omega (arith, inside, long) in
          rw (get_or-take (n / 2) firsts place 0 known) (room place (omega (arith, known)));
      some = rw weighed (power_some f.domain (n - n / 2) table.domain_is.some);
      few = rw (long, weighed, power) (few_cells f.domain n table.domain_is.few few);
    }

-- the tables of both halves of n places
pub record HasHalves (f : Operation) (firsts : List ℕ) (n : ℕ) (front_cells back_cells : List ℕ) : Type 0 where
  pub front_are : (values : List ℕ) → IsTuple f.domain (n / 2) values → get_or front_cells (cell_of f.domain values) 0
      ≡ cell_of f.domain (values_from f (front_of n firsts) values) * f.domain ^ (n - n / 2)
  pub back_are : (values : List ℕ) → IsTuple f.domain (n - n / 2) values → get_or back_cells (cell_of f.domain values) 0
      ≡ cell_of f.domain (values_from f (back_of n firsts) values)

pub HasHalves-from :
    (f : Operation) (firsts : List ℕ) (n weight : ℕ) (front_cells back_cells : List ℕ)
    → n ≤ length firsts
    → weight ≡ 1 * f.domain ^ length (back_of n firsts)
    → ((values : List ℕ) → IsTuple f.domain (length (front_of n firsts)) values
    → get_or front_cells (cell_of f.domain values) 0 ≡ cell_of f.domain (values_from f (front_of n firsts) values) * weight)
    → ((values : List ℕ) → IsTuple f.domain (length (back_of n firsts)) values
    → get_or back_cells (cell_of f.domain values) 0 ≡ cell_of f.domain (values_from f (back_of n firsts) values) * 1)
    → HasHalves f firsts n front_cells back_cells
HasHalves-from f firsts n weight front_cells back_cells short weight_is fronts backs =
    let once : weight ≡ 1 * f.domain ^ (n - n / 2) = rw (length-back_of n firsts short) at weight_is in
    let weighed : weight ≡ f.domain ^ (n - n / 2) = omega (arith, once) in
    record {
      front_are = λ values tuple.
          let of_half : IsTuple f.domain (length (front_of n firsts)) values = rw (length-front_of n firsts short) tuple in
          fronts values of_half ∙ ap (λ p. cell_of f.domain (values_from f (front_of n firsts) values) * p) weighed;
      back_are = λ values tuple.
          let of_half : IsTuple f.domain (length (back_of n firsts)) values = rw (length-back_of n firsts short) tuple in
          let once : cell_of f.domain (values_from f (back_of n firsts) values) * 1 ≡ cell_of f.domain (values_from f (back_of n firsts) values) = omega arith in
          backs values of_half ∙ once;
    }

pub front-IsTuple : (d n : ℕ) (row : List ℕ) → IsTuple d n row → IsTuple d (n / 2) (take (n / 2) row)
front-IsTuple d n row tuple = record {
  long = length-take-le (n / 2) row (omega (arith, tuple.long));
  below = All-take (λ v. v < d) (n / 2) row tuple.below;
}

pub back-IsTuple : (d n : ℕ) (row : List ℕ) → IsTuple d n row → IsTuple d (n - n / 2) (drop (n / 2) row)
back-IsTuple d n row tuple = record {
  long = length-drop (n / 2) row ∙ ap (λ k. k - n / 2) tuple.long;
  below = All-drop (λ v. v < d) (n / 2) row tuple.below;
}

-- the numbers of the halves of a row are indices of the tables
pub halves_below :
    (d n : ℕ) (row : List ℕ)
    → d ≤ 5
    → n ≤ 6
    → IsTuple d n row
    → (cell_of d (take (n / 2) row) < 125) × (cell_of d (drop (n / 2) row) < 125)
halves_below d n row few short tuple =
    let front = cell_of-IsTuple d (n / 2) (take (n / 2) row) (front-IsTuple d n row tuple) in
    let back = cell_of-IsTuple d (n - n / 2) (drop (n / 2) row) (back-IsTuple d n row tuple) in
    let fronts : d ^ (n / 2) ≤ 125 = few_lists d (n / 2) few (omega (arith, short)) in
    let backs : d ^ (n - n / 2) ≤ 125 = few_lists d (n - n / 2) few (omega (arith, short)) in
    (omega (arith, front, fronts), omega (arith, back, backs))

-- the numbers of the halves make that of the whole
halves_join :
    (f : Operation) (firsts values : List ℕ) (n : ℕ)
    → n ≤ length firsts
    → length values ≡ n
    → cell_of f.domain (values_from f (front_of n firsts) (take (n / 2) values)) * f.domain ^ (n - n / 2)
    + cell_of f.domain (values_from f (back_of n firsts) (drop (n / 2) values))
    ≡ cell_of f.domain (values_from f firsts values)
halves_join f firsts values n short long =
    let h = n / 2 in
    let front = values_from f (front_of n firsts) (take h values) in
    let back = values_from f (back_of n firsts) (drop h values) in
    let front_long : length (take h firsts) ≡ length (take h values) =
    length-front_of n firsts short ∙ sym (length-take-le h values (omega (arith, long))) in
    let rest_long : length (drop h values) ≡ n - h = length-drop h values ∙ ap (λ k. k - h) long in
    let written : length back ≡ n - h =
    length-values_from f (back_of n firsts) (drop h values) (omega (arith, length-back_of n firsts short, rest_long)) ∙ rest_long in
    ap (λ k. cell_of f.domain front * f.domain ^ k + cell_of f.domain back) (sym written)
    ∙ sym (cell_of-append f.domain front back)
    ∙ ap (λ vs. cell_of f.domain (front ++ vs)) (values_from-take f (drop h firsts) (drop h values) (n - h) (omega (arith, rest_long)))
    ∙ ap (cell_of f.domain) (sym (values_from-append f (take h firsts) (drop h firsts) (take h values) (drop h values) front_long))
    ∙ ap (λ xs. cell_of f.domain (values_from f xs (take h values ++ drop h values))) (take-append-drop h firsts)
    ∙ ap (λ vs. cell_of f.domain (values_from f firsts vs)) (take-append-drop h values)

-- so the entries of the tables at the halves of a row make the cell of the values
image_cell_by_halves :
    (f : Operation) (firsts row front_cells back_cells : List ℕ) (n front back : ℕ)
    → n ≤ length firsts
    → IsTuple f.domain n row
    → front ≡ cell_of f.domain (take (n / 2) row)
    → back ≡ cell_of f.domain (drop (n / 2) row)
    → HasHalves f firsts n front_cells back_cells
    → get_or front_cells front 0 + get_or back_cells back 0 ≡ cell_of f.domain (values_from f firsts row)
image_cell_by_halves f firsts row front_cells back_cells n front back short tuple front_is back_is halves =
    ap (λ i. get_or front_cells i 0 + get_or back_cells back 0) front_is
    ∙ ap (λ i. get_or front_cells (cell_of f.domain (take (n / 2) row)) 0 + get_or back_cells i 0) back_is
    ∙ ap (λ c. c + get_or back_cells (cell_of f.domain (drop (n / 2) row)) 0)
    (halves.front_are (take (n / 2) row) (front-IsTuple f.domain n row tuple))
    ∙ ap (λ c. cell_of f.domain (values_from f (front_of n firsts) (take (n / 2) row)) * f.domain ^ (n - n / 2) + c)
    (halves.back_are (drop (n / 2) row) (back-IsTuple f.domain n row tuple))
    ∙ halves_join f firsts row n short tuple.long

-- so the tables tell the images of the rows behind the front
pub tell_images :
    (f : Operation) (r : RelationView) (front firsts front_cells back_cells : List ℕ)
    → f.domain ≡ r.domain
    → ((last : ℕ) → last < length r.rows → IsTuple r.domain r.arity (get_or r.rows last []))
    → r.arity ≤ length firsts
    → ((place : ℕ) → place < r.arity → get_or firsts place 0 ≡ cell_of f.domain (column (rows_at r front) place) * f.domain)
    → HasHalves f firsts r.arity front_cells back_cells
    → TellImages f r front front_cells back_cells
tell_images f r front firsts front_cells back_cells domain tuples short columns halves last known =
    let row : List ℕ = get_or r.rows last [] in
    let tuple : IsTuple r.domain r.arity row = tuples last known in
    let own : IsTuple f.domain r.arity row = rw domain tuple in
    let n = r.arity in
    rw (← domain)
    (image_cell_by_halves f firsts row front_cells back_cells n (cell_of f.domain (take (n / 2) row)) (cell_of f.domain (drop (n / 2) row))
    short own refl refl halves
    ∙ ap (cell_of f.domain) (values_image f r front firsts last tuple.long short columns))

-- and these images are tuples
pub are_images_tuples :
    (K : ℕ) (f : Operation) (r : RelationView) (front firsts : List ℕ)
    → IsOpTable K f
    → f.domain ≡ r.domain
    → ((last : ℕ) → last < length r.rows → IsTuple r.domain r.arity (get_or r.rows last []))
    → r.arity ≤ length firsts
    → HasRoom f.domain K r.arity firsts
    → ((place : ℕ) → place < r.arity → get_or firsts place 0 ≡ cell_of f.domain (column (rows_at r front) place) * f.domain)
    → AreImagesTuples f r front
are_images_tuples K f r front firsts table domain tuples short room columns last known =
    let row : List ℕ = get_or r.rows last [] in
    let tuple : IsTuple r.domain r.arity row = tuples last known in
    let own : IsTuple f.domain r.arity row = rw domain tuple in
    let values : IsTuple f.domain (length row) (values_from f firsts row) =
    values_from-IsTuple K f firsts row table (omega (arith, short, tuple.long)) (rw tuple.long room) own.below in
    let here : IsTuple f.domain r.arity (values_from f firsts row) = rw tuple.long at values in
    rw (← domain) (subst (IsTuple f.domain r.arity) (values_image f r front firsts last tuple.long short columns) here)

-- the sum of the entries at the numbers of the halves of a row
pub entries_sum :
    (f : Operation) (r : RelationView) (front front_cells back_cells : List ℕ) (last a b : ℕ)
    → last < length r.rows
    → a ≡ cell_of r.domain (take (r.arity / 2) (get_or r.rows last []))
    → b ≡ cell_of r.domain (drop (r.arity / 2) (get_or r.rows last []))
    → TellImages f r front front_cells back_cells
    → get_or front_cells a 0 + get_or back_cells b 0 ≡ cell_of r.domain (image_behind f r front last)
entries_sum f r front front_cells back_cells last a b known a_is b_is images =
    ap (λ i. get_or front_cells i 0 + get_or back_cells b 0) a_is
    ∙ ap (λ i. get_or front_cells (cell_of r.domain (take (r.arity / 2) (get_or r.rows last []))) 0 + get_or back_cells i 0) b_is
    ∙ images last known
