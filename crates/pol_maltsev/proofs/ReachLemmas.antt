-- One member for each list that members read at some places.
use Rattle.std.proofs.Common.{◌≡◌, ℕ, ◌<◌, ◌≤◌, ◌^◌, List, [], ◌∷◌, length, take, get_or, All, Contains, arith, sym, ap, ◌∙◌, ◌↔◌, ◌⊎◌, inl, inr}
use Rattle.std.specs.Prelude.{slice_index}
use Rattle.std.proofs.Math.Nat.{pow-le-pow_left, pow-le-pow_right}
use Rattle.std.proofs.lemmas.Bool.{cases_lt}
use Rattle.std.proofs.lemmas.List.{get_or-map, length-map, get_or-take, length-take-le}
use Rattle.std.proofs.lemmas.List.Elements.{All-nil, All-cons, All-weaker, All-from_get_or, Contains-get_or}
use Rattle.pol_base.specs.Tuples.{IsBefore, IsTuple}
use Rattle.pol_base.proofs.MemberLemmas.{AllPairs-nil, Contains-here, in_map}
use Rattle.pol_relation.specs.Instances.{read_at}
use Rattle.pol_relation.proofs.RelationLemmas.{rows-le-cells}
use Rattle.pol_optable.specs.Operations.{Operation}
use Rattle.pol_maltsev.specs.Compacts.{readings, AreReached}
use Rattle.pol_maltsev.specs.Orders.{InFront, AreFirst}
use Rattle.pol_maltsev.specs.Scopes.{AreFirstPlaces}
use Rattle.pol_maltsev.specs.Tables.{Agree, SameRoot, step, IsMoved}
use Rattle.pol_maltsev.specs.Restrictions.{AreFirsts}
use Rattle.pol_maltsev.specs.Views.{TableView, InTable, IsSoundTable, row_in, root_in}
use Rattle.pol_maltsev.proofs.TupleLemmas.{value_below}
use Rattle.pol_maltsev.proofs.TableLemmas.{same_reading}
use Rattle.pol_maltsev.proofs.OrderLemmas.{front_frame}
use Rattle.pol_maltsev.proofs.SwapLemmas.{steps}
use Rattle.pol_maltsev.proofs.SetLemmas.{set_preserved}
use Rattle.pol_maltsev.proofs.ReadingLemmas.{length-read_at, word_below}
use Rattle.pol_maltsev.proofs.ScopeLemmas.{many_places, place_value, firsts_of_places}
use Rattle.pol_maltsev.proofs.BranchLemmas.{DifferAt, before_at, differ_at, agree_of_reading, reading_of_agree}

-- sets with the same members
pub reached_same : (S T : List ℕ → Type 0) (places : List ℕ) (rows : List (List ℕ)) → ((t : List ℕ) → S t ↔ T t) → AreReached S places rows → AreReached T places rows
reached_same S T places rows same h = record {
  members = All-weaker S T (λ t in_t. (same t).0 in_t) rows h.members;
  each = λ t in_t. h.each t ((same t).1 in_t);
  ascending = h.ascending;
}

-- ---- no place

-- of a set without members
pub reached_none : (T : List ℕ → Type 0) (places : List ℕ) → ((t : List ℕ) → ¬ T t) → AreReached T places []
reached_none T places none = record { members = All-nil T; each = λ t in_t. absurd (none t in_t); ascending = AllPairs-nil IsBefore }

-- of one with a member
pub reached_one : (T : List ℕ → Type 0) (ord t : List ℕ) → T t → AreReached T (take 0 ord) (t ∷ [])
reached_one T ord t in_t = record {
  members = All-cons T t [] in_t (All-nil T);
  each = λ u in_u. rw (reading_of_agree ord 0 u t (omega arith) (λ j h. absurd (omega (arith, h.early)))) (Contains-here (read_at t (take 0 ord)) []);
  ascending = λ i j d less low. absurd (omega (arith, less, low));
}

-- a member has at each place a value that is present
pub present_at : (f : Operation) (v : TableView) (p : ℕ) (t : List ℕ) → IsSoundTable f v → p < v.width → InTable f v t → root_in v p (slice_index t p) < f.domain
present_at f v p t is low in_t = from (is.table.order.found p low)
  where
    from : InFront v.order v.width p → root_in v p (slice_index t p) < f.domain
    from h = rw h.place at ((is.table.known h.index h.early).present t in_t)

pub value_at_place : (f : Operation) (v : TableView) (p : ℕ) (t : List ℕ) → IsSoundTable f v → p < v.width → InTable f v t → slice_index t p < v.domain
value_at_place f v p t is low in_t = rw is.same_domain (value_below f.domain v.width t p ((set_preserved f v is.operation is.same_domain is.view).tuples t in_t) low)

-- so there is no member where no value is
pub none_present : (f : Operation) (v : TableView) (p : ℕ) → IsSoundTable f v → p < v.width → ((a : ℕ) → a < v.domain → ¬ (root_in v p a < v.domain)) → (t : List ℕ) → ¬ InTable f v t
none_present f v p is low none t in_t = none (slice_index t p) (value_at_place f v p t is low in_t) (rw is.same_domain (present_at f v p t is low in_t))

-- ---- a step

-- to a value in one class
pub moved_is : (f : Operation) (v : TableView) (k a : ℕ) (t : List ℕ) → IsSoundTable f v → k < v.width → InTable f v t → a < v.domain →
    SameRoot v.domain (root_in v (slice_index v.order k)) (slice_index t (slice_index v.order k)) a →
    IsMoved (InTable f v) (InFront v.order k) (slice_index v.order k) a t (step f v.width (slice_index v.order k) (row_in v (slice_index v.order k)) t a)
moved_is f v k a t is low in_t a_low same =
    steps f v.width (InTable f v) (InFront v.order k) (slice_index v.order k) (row_in v (slice_index v.order k)) (root_in v (slice_index v.order k)) t a
    (front_frame f v.width (InTable f v) v.order k is.maltsev (set_preserved f v is.operation is.same_domain is.view) is.table.order (omega (arith, low)))
    (is.table.order.below k low) (is.table.known k low) in_t (rw is.same_domain at a_low) (rw is.same_domain at same)

-- and there is none to another
pub moved_none : (f : Operation) (v : TableView) (k a : ℕ) (t u : List ℕ) → IsSoundTable f v → k < v.width → InTable f v t →
    ¬ SameRoot v.domain (root_in v (slice_index v.order k)) (slice_index t (slice_index v.order k)) a → ¬ IsMoved (InTable f v) (InFront v.order k) (slice_index v.order k) a t u
moved_none f v k a t u is low in_t apart m = apart (rw is.same_domain (record {
  roots = (is.table.known k low).joined t u in_t m.inside (λ j h. sym (m.same j h)) ∙ ap (root_in v (slice_index v.order k)) m.there;
  present = (is.table.known k low).present t in_t;
}))

-- ---- the places of a scope

-- where the places stand first, the lists that are read at the scope come in the order of those at the first places
scope_before : (ord scope numbers places r s : List ℕ) (q : ℕ) → AreFirstPlaces scope numbers places → AreFirst places ord → q ≡ length places → q ≤ length ord → IsBefore (read_at r (take q ord)) (read_at s (take q ord)) → IsBefore (read_at r scope) (read_at s scope)
scope_before ord scope numbers places r s q firsts front end few before = from (differ_at r s (take q ord) before)
  where
    many : length places ≡ length numbers
    many = many_places scope numbers places firsts

    -- the place at a position stands first at its number
    place : (i : ℕ) → i < q → slice_index (take q ord) i ≡ slice_index scope (slice_index numbers i)
    place i low = get_or-take q ord i 0 low ∙ front i (omega (arith, low, end)) ∙ place_value scope numbers places i 0 firsts (omega (arith, low, end, many))

    from : DifferAt r s (take q ord) → IsBefore (read_at r scope) (read_at s scope)
    from d = before_at r s scope (slice_index numbers d.index) (firsts.first d.index 0 (omega (arith, early, end, many))).known (λ i low. same i low (firsts.each i (omega (arith, low, (firsts.first d.index 0 (omega (arith, early, end, many))).known)))) less
      where
        early : d.index < q
        early = rw (length-take-le q ord few) at d.early

        less : slice_index r (slice_index scope (slice_index numbers d.index)) < slice_index s (slice_index scope (slice_index numbers d.index))
        less = rw (place d.index early) at d.less

        -- an earlier number has the place of an earlier position
        same : (i : ℕ) → i < slice_index numbers d.index → Contains places (slice_index scope i) → slice_index r (slice_index scope i) ≡ slice_index s (slice_index scope i)
        same i low h = at (cases_lt h.0 d.index)
          where
            n_low : h.0 < length numbers
            n_low = omega (arith, h.1, many)

            is : slice_index scope (slice_index numbers h.0) ≡ slice_index scope i
            is = sym (place_value scope numbers places h.0 (slice_index scope i) firsts n_low) ∙ h.2

            at : (h.0 < d.index) ⊎ (d.index ≤ h.0) → slice_index r (slice_index scope i) ≡ slice_index s (slice_index scope i)
            at (inl before) = rw (← is, ← place h.0 (omega (arith, before, early))) (d.same h.0 before)
            at (inr behind) = absurd ((firsts.first h.0 0 n_low).first i (later (cases_lt d.index h.0)) (sym is))
              where
                later : (d.index < h.0) ⊎ (h.0 ≤ d.index) → i < slice_index numbers h.0
                later (inl more) = omega (arith, low, firsts.ascending d.index h.0 0 more n_low)
                later (inr most) = let one : h.0 ≡ d.index = omega (arith, most, behind) in rw one low

-- so the members for the lists at the first places are those for the lists at the scope
pub reached_at : (T : List ℕ → Type 0) (ord scope numbers places : List ℕ) (q : ℕ) (rows : List (List ℕ)) → AreFirstPlaces scope numbers places → AreFirst places ord → q ≡ length places → q ≤ length ord →
    AreReached T (take q ord) rows → AreReached T scope rows
reached_at T ord scope numbers places q rows firsts front end few h = record {
  members = h.members;
  each = λ t in_t. at t (h.each t in_t);
  ascending = λ i j d less low. before i j d less (rw (length-map rows (λ row. read_at row scope)) at low);
}
  where
    First : AreFirsts ord scope numbers
    First = firsts_of_places ord scope numbers places firsts front

    at : (t : List ℕ) → Contains (readings (take q ord) rows) (read_at t (take q ord)) → Contains (readings scope rows) (read_at t scope)
    at t g =
        let i_low : g.0 < length rows = rw (length-map rows (λ row. read_at row (take q ord))) at g.1 in
        let reads : read_at (get_or rows g.0 []) (take q ord) ≡ read_at t (take q ord) = sym (get_or-map (λ row. read_at row (take q ord)) rows g.0 [] (read_at t (take q ord)) i_low) ∙ g.2 in
        let agree : Agree (InFront ord q) (get_or rows g.0 []) t = agree_of_reading ord q (get_or rows g.0 []) t few reads in
        let same : read_at (get_or rows g.0 []) scope ≡ read_at t scope = same_reading (get_or rows g.0 []) t scope (λ e low. agree (slice_index scope e) (within (slice_index scope e) (First.within e low))) in
        rw (← same) (in_map (λ row. read_at row scope) rows (get_or rows g.0 []) (Contains-get_or rows g.0 [] i_low))
      where
        within : (p : ℕ) → InFront ord (length numbers) p → InFront ord q p
        within p m = record { index = m.index; early = omega (arith, m.early, end, many_places scope numbers places firsts); place = m.place }

    before : (i j : ℕ) (d : List ℕ) → i < j → j < length rows → IsBefore (get_or (readings scope rows) i d) (get_or (readings scope rows) j d)
    before i j d less low =
        let old : IsBefore (read_at (get_or rows i []) (take q ord)) (read_at (get_or rows j []) (take q ord)) =
        rw (get_or-map (λ row. read_at row (take q ord)) rows i [] [] (omega (arith, less, low)), get_or-map (λ row. read_at row (take q ord)) rows j [] [] low) at (h.ascending i j [] less (rw (length-map rows (λ row. read_at row (take q ord))) low)) in
        rw (get_or-map (λ row. read_at row scope) rows i [] d (omega (arith, less, low)), get_or-map (λ row. read_at row scope) rows j [] d low)
        (scope_before ord scope numbers places (get_or rows i []) (get_or rows j []) q firsts front end few old)

-- ---- how many

few_lists : (d q : ℕ) → d ≤ 5 → q ≤ 7 → d ^ q ≤ 78125
few_lists d q few short =
    let base : d ^ q ≤ 5 ^ q = pow-le-pow_left {n = d} {m = 5} few q in
    let exponent : 5 ^ q ≤ 5 ^ 7 = pow-le-pow_right {n = 5} (omega arith) {i = q} {j = 7} short in
    omega arith

-- different lists of at most seven values
pub few_reached : (T : List ℕ → Type 0) (d n : ℕ) (places : List ℕ) (rows : List (List ℕ)) → ((t : List ℕ) → T t → IsTuple d n t) → d ≤ 5 → length places ≤ 7 → All (λ p. p < n) places → AreReached T places rows → length rows ≤ 78125
few_reached T d n places rows tuples few short low h =
    omega (arith, length-map rows (λ row. read_at row places), rows-le-cells d (length places) (readings places rows) lists h.ascending, few_lists d (length places) few short)
  where
    list : (t : List ℕ) → T t → IsTuple d (length places) (read_at t places)
    list t in_t = record { long = length-read_at t places; below = word_below d t places (tuples t in_t).below (rw (tuples t in_t).long low) }

    lists : All (IsTuple d (length places)) (readings places rows)
    lists = All-from_get_or (IsTuple d (length places)) (readings places rows) [] (λ i i_low. at i (rw (length-map rows (λ row. read_at row places)) at i_low))
      where
        at : (i : ℕ) → i < length rows → IsTuple d (length places) (get_or (readings places rows) i [])
        at i i_low = rw (get_or-map (λ row. read_at row places) rows i [] [] i_low) (list (get_or rows i []) (h.members i [] i_low))
