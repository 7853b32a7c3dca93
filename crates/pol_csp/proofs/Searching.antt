-- Searches within masks.
use Rattle.std.proofs.Common.{◌≡◌, ℕ, zero, suc, ◌+◌, ◌^◌, ◌<◌, ◌≤◌, arith, sym, ◌∙◌, refl, List, [], ◌∷◌, ◌++◌, get_or, set, take, length, inl, inr, ◌⊎◌, length-set, Option, Some, None, subst, Bool, true, false}
use Rattle.std.specs.Prelude.{IsBitSet, ◌≢◌}
use Rattle.std.specs.Bool.{OnTrue, OnFalse}
use Rattle.std.proofs.lemmas.List.{get_or-set_same, ext_get_or, length_push, length-take-le, get_or-take, get_or_push, get_or_append_left}
use Rattle.std.proofs.lemmas.Nat.{pow_pos}
use Rattle.std.proofs.lemmas.Bool.{cases_eq}
use Rattle.pol_base.specs.Tuples.{IsBefore}
use Rattle.pol_base.specs.Least.{IsLeast}
use Rattle.pol_base.specs.Masks.{IsWithin}
use Rattle.pol_base.proofs.BitLemmas.{set_single, single_set}
use Rattle.pol_base.proofs.OrderLemmas.{IsBefore-irrefl}
use Rattle.pol_relation.specs.Relations.{LanguageView}
use Rattle.pol_relation.specs.Instances.{ConstraintView}
use Rattle.pol_csp.specs.Narrowing.{IsElse, MeetsAll, Narrows, Rejects}
use Rattle.pol_csp.specs.Searching.{FollowFrom, AnswersSome, IsFound, IsSettled, IsBehindAll, Leads}
use Rattle.pol_csp.proofs.Narrowing.{single_le, set_narrows, narrows_for}

-- one value of a cell
pub single_narrows : (masks : List ℕ) (at v : ℕ)
    → at < length masks
    → IsBitSet (get_or masks at 0) v
    → Narrows (λ xs. get_or xs at 0 ≡ v) masks (set masks at (2 ^ v))
single_narrows masks at v fits has =
    set_narrows (λ xs. get_or xs at 0 ≡ v) masks at (2 ^ v) fits (pow_pos v) (single_le (get_or masks at 0) v has)
    (λ u s. rw (single_set v u s) has) (λ xs w e. rw e (set_single v))

pub set_value : (masks xs : List ℕ) (at v : ℕ)
    → at < length masks
    → IsWithin (set masks at (2 ^ v)) xs
    → get_or xs at 0 ≡ v
set_value masks xs at v fits w =
    let low : at < length xs = omega (arith, w.long, length-set masks at (2 ^ v)) in
    let here : IsBitSet (get_or (set masks at (2 ^ v)) at 0) (get_or xs at 0) = w.within at low in
    single_set v (get_or xs at 0) (rw (get_or-set_same masks at (2 ^ v) 0 fits) at here)

pub settled_none : (masks : List ℕ) → IsSettled masks 0
settled_none masks = record { same = λ xs ys w u k h. absurd (omega arith) }

pub settled_inside : (old new : List ℕ) (at : ℕ)
    → ((xs : List ℕ) → IsWithin new xs → IsWithin old xs)
    → IsSettled old at
    → IsSettled new at
settled_inside old new at inside s = record { same = λ xs ys w u k h. s.same xs ys (inside xs w) (inside ys u) k h }

-- one cell more is settled by leaving it one value
pub settled_set : (masks : List ℕ) (at v : ℕ)
    → at < length masks
    → IsBitSet (get_or masks at 0) v
    → IsSettled masks at
    → IsSettled (set masks at (2 ^ v)) (at + 1)
settled_set masks at v fits has s = record { same = same }
  where
    same : (xs ys : List ℕ) → IsWithin (set masks at (2 ^ v)) xs → IsWithin (set masks at (2 ^ v)) ys
        → (k : ℕ) → k < at + 1 → get_or xs k 0 ≡ get_or ys k 0
    same xs ys w u k h = by (cases_eq k at)
      where
        n : Narrows (λ xs. get_or xs at 0 ≡ v) masks (set masks at (2 ^ v))
        n = single_narrows masks at v fits has

        by : (k ≡ at) ⊎ (k ≢ at) → get_or xs k 0 ≡ get_or ys k 0
        by (inl e) = rw e (set_value masks xs at v fits w ∙ sym (set_value masks ys at v fits u))
        by (inr ne) = s.same xs ys (n.inside xs w) (n.inside ys u) k (omega arith)

-- masks of one value each leave one list
pub all_single : (masks : List ℕ) (n : ℕ)
    → n ≡ length masks
    → ((c : ℕ) → c < n → (u v : ℕ) → IsBitSet (get_or masks c 0) u → IsBitSet (get_or masks c 0) v → u ≡ v)
    → IsSettled masks n
all_single masks n all single = record { same = same }
  where
    same : (xs ys : List ℕ) → IsWithin masks xs → IsWithin masks ys
        → (k : ℕ) → k < n → get_or xs k 0 ≡ get_or ys k 0
    same xs ys w u k h =
        let left = w.within k (omega (arith, w.long)) in
        let right = u.within k (omega (arith, u.long)) in
        single k h (get_or xs k 0) (get_or ys k 0) left right

pub only_one : (masks xs ys : List ℕ)
    → IsSettled masks (length masks)
    → IsWithin masks xs
    → IsWithin masks ys
    → ys ≡ xs
only_one masks xs ys s w u = ext_get_or 0 ys xs (u.long ∙ sym w.long)
    (λ i h. s.same ys xs u w i (omega (arith, u.long)))

-- the one list that is left is not wanted, so none is
pub none_of_one : (W : List ℕ → Type 0) (masks xs : List ℕ)
    → IsSettled masks (length masks)
    → IsWithin masks xs
    → (W xs → ⊥)
    → Rejects W masks
none_of_one W masks xs s w non ys u wanted =
    let P : List ℕ → Type 0 = W in
    non (subst P (only_one masks xs ys s w u) wanted)

-- equal before a place, and greater there: not before
pub not_before : (at : ℕ) (xs ys : List ℕ)
    → ((k : ℕ) → k < at → get_or ys k 0 ≡ get_or xs k 0)
    → at < length xs
    → get_or xs at 0 < get_or ys at 0
    → IsBefore ys xs → ⊥
not_before at [] ys same fits more b = absurd (omega arith)
not_before at (x ∷ xs) [] same fits more b = b
not_before zero (x ∷ xs) (y ∷ ys) same fits more (inl less) = omega arith
not_before zero (x ∷ xs) (y ∷ ys) same fits more (inr (e, later)) = omega arith
not_before (suc at) (x ∷ xs) (y ∷ ys) same fits more (inl less) = let e : y ≡ x = same 0 (omega arith) in omega arith
not_before (suc at) (x ∷ xs) (y ∷ ys) same fits more (inr (e, later)) =
    not_before at xs ys (λ k h. same (suc k) (omega arith)) (omega arith) more later

pub leads_trans : (W : List ℕ → Type 0) (a b c : List ℕ) → Leads W a b → Leads W b c → Leads W a c
leads_trans W a b c f s = record {
  long = s.long ∙ f.long;
  masks = λ d are. s.masks d (f.masks d are);
  inside = λ xs w. f.inside xs (s.inside xs w);
  kept = kept;
}
  where
    kept : (ys : List ℕ) → IsWithin a ys → W ys → IsWithin c ys ⊎ IsBehindAll c ys
    kept ys u wanted = by (f.kept ys u wanted)
      where
        by : IsWithin b ys ⊎ IsBehindAll b ys → IsWithin c ys ⊎ IsBehindAll c ys
        by (inl here) = s.kept ys here wanted
        by (inr behind) = inr (λ xs w. behind xs (s.inside xs w))

-- where the wanted lists are kept
pub leads_kept : (W : List ℕ → Type 0) (old new : List ℕ) → Narrows W old new → Leads W old new
leads_kept W old new n = record {
  long = n.long;
  masks = n.masks;
  inside = n.inside;
  kept = λ ys u wanted. inl (n.keeps ys u wanted);
}

-- where the lists with the least value of a cell are kept
pub leads_lowest : (W : List ℕ → Type 0) (masks : List ℕ) (at v : ℕ)
    → IsSettled masks at
    → at < length masks
    → IsBitSet (get_or masks at 0) v
    → ((u : ℕ) → IsBitSet (get_or masks at 0) u → v ≤ u)
    → Leads W masks (set masks at (2 ^ v))
leads_lowest W masks at v s fits has least = record {
  long = n.long;
  masks = n.masks;
  inside = n.inside;
  kept = λ ys u wanted. by ys u (cases_eq (get_or ys at 0) v);
}
  where
    n : Narrows (λ xs. get_or xs at 0 ≡ v) masks (set masks at (2 ^ v))
    n = single_narrows masks at v fits has

    by : (ys : List ℕ) → IsWithin masks ys → (get_or ys at 0 ≡ v) ⊎ (get_or ys at 0 ≢ v)
        → IsWithin (set masks at (2 ^ v)) ys ⊎ IsBehindAll (set masks at (2 ^ v)) ys
    by ys here (inl e) = inl (n.keeps ys here e)
    by ys here (inr ne) = inr (λ xs w.
        let above : v ≤ get_or ys at 0 = least (get_or ys at 0) (here.within at (omega (arith, here.long))) in
        let is : get_or xs at 0 ≡ v = set_value masks xs at v fits w in
        let inside = n.inside xs w in
        not_before at xs ys (λ k h. s.same ys xs here inside k h) (omega (arith, inside.long)) (omega (arith, is)))

-- the one that is left is the least
pub least_left : (W : List ℕ → Type 0) (old now xs : List ℕ)
    → Leads W old now
    → IsSettled now (length now)
    → IsFound W now xs
    → IsLeast (IsFound W old) xs
least_left W old now xs l s f = record {
  holds = record { within = l.inside xs f.within; wanted = f.wanted };
  first = first;
}
  where
    first : (ys : List ℕ) → length ys ≡ length xs → IsFound W old ys → IsBefore ys xs → ⊥
    first ys long g b = by (l.kept ys g.within g.wanted)
      where
        by : IsWithin now ys ⊎ IsBehindAll now ys → ⊥
        by (inl here) = IsBefore-irrefl xs (subst (λ zs. IsBefore zs xs) (only_one now xs ys s f.within here) b)
        by (inr behind) = behind xs f.within b

-- the value of one mask more
pub within_push : (masks values : List ℕ) (i v : ℕ)
    → i < length masks
    → IsBitSet (get_or masks i 0) v
    → IsWithin (take i masks) values
    → IsWithin (take (i + 1) masks) (values ++ v ∷ [])
within_push masks values i v fits has w = record {
  long = length_push values v ∙ rw (
    w.long,
    length-take-le i masks (omega arith),
    length-take-le (i + 1) masks
        (omega arith),
  ) refl;
  within = within;
}
  where
    here : length values ≡ i
    here = w.long ∙ length-take-le i masks (omega arith)

    within : (k : ℕ) → k < length (values ++ v ∷ [])
        → IsBitSet (get_or (take (i + 1) masks) k 0) (get_or (values ++ v ∷ []) k 0)
    within k h = by (cases_eq k i)
      where
        low : k < i + 1
        low = omega (arith, here, length_push values v)

        by : (k ≡ i) ⊎ (k ≢ i) → IsBitSet (get_or (take (i + 1) masks) k 0) (get_or (values ++ v ∷ []) k 0)
        by (inl e) = rw (get_or-take (i + 1) masks k 0 low, e, get_or_push values v 0 i here) has
        by (inr ne) =
            let less : k < i = omega (arith, low) in
            let short : k < length values = omega (arith, here) in
            rw (get_or-take (i + 1) masks k 0 low, get_or_append_left values (v ∷ []) 0 k short)
            (rw (get_or-take i masks k 0 less) at (w.within k short))

-- what narrows for the constraints narrows for the wanted lists
pub follow_narrows : (W : List ℕ → Type 0) (lang : LanguageView) (n : ℕ) (pool : List ConstraintView)
    (old new : List ℕ)
    → FollowFrom W lang n pool
    → Narrows (MeetsAll lang pool) old new
    → Narrows W old new
follow_narrows W lang n pool old new follow narrows =
    narrows_for (MeetsAll lang pool) W old new (λ xs w wanted. follow.met xs wanted) narrows

pub follow_rejects : (W : List ℕ → Type 0) (lang : LanguageView) (n : ℕ) (pool : List ConstraintView)
    (masks : List ℕ)
    → FollowFrom W lang n pool
    → Rejects (MeetsAll lang pool) masks
    → Rejects W masks
follow_rejects W lang n pool masks follow rejects xs w wanted = rejects xs w (follow.met xs wanted)

-- what holds unless the masks have no wanted list, where one was found
pub since_found : (P : Type 0) (W : List ℕ → Type 0) (masks best : List ℕ) (kept : Bool)
    → IsFound W masks best
    → OnTrue kept P
    → OnFalse kept (Rejects W masks)
    → P
since_found P W masks best true found holds rejects = holds
since_found P W masks best false found holds rejects = absurd (rejects best found.within found.wanted)

-- where a wanted list was found, the constraints narrow the masks
pub found_narrows : (W : List ℕ → Type 0) (lang : LanguageView) (n : ℕ) (pool : List ConstraintView)
    (masks next best : List ℕ) (kept : Bool)
    → FollowFrom W lang n pool
    → IsFound W masks best
    → OnTrue kept (Narrows (MeetsAll lang pool) masks next)
    → OnFalse kept (Rejects (MeetsAll lang pool) masks)
    → Narrows W masks next
found_narrows W lang n pool masks next best kept follow found narrows rejects =
    let met : IsFound (MeetsAll lang pool) masks best =
    record { within = found.within; wanted = follow.met best found.wanted } in
    follow_narrows W lang n pool masks next follow
    (since_found (Narrows (MeetsAll lang pool) masks next) (MeetsAll lang pool) masks best kept met narrows rejects)

-- a wanted list within masks that are narrowed for the wanted ones
pub found_kept : (W : List ℕ → Type 0) (old new best : List ℕ) → Narrows W old new → IsFound W old best → IsFound W
    new best
found_kept W old new best n found = record {
  within = n.keeps best found.within found.wanted;
  wanted = found.wanted;
}

-- a wanted list is left where a cell is left its value
pub single_found : (W : List ℕ → Type 0) (masks best : List ℕ) (at v : ℕ)
    → at < length masks
    → get_or best at 0 ≡ v
    → IsFound W masks best
    → IsFound W (set masks at (2 ^ v)) best
single_found W masks best at v fits here found = record {
  within = (single_narrows masks at v fits (rw here at (found.within.within at low))).keeps best found.within here;
  wanted = found.wanted;
}
  where
    low : at < length best
    low = omega (arith, found.within.long)

-- an answer for narrowed masks is one for the old masks
pub some_before : (W : List ℕ → Type 0) (old new : List ℕ) (answer : Option (List ℕ))
    → Narrows W old new
    → AnswersSome W new answer
    → AnswersSome W old answer
some_before W old new None n a = λ ys u wanted. a ys (n.keeps ys u wanted) wanted
some_before W old new (Some xs) n a = record { within = n.inside xs a.within; wanted = a.wanted }

-- where no wanted list has the value at the cell, each has another
pub wanted_else : (W : List ℕ → Type 0) (masks : List ℕ) (at v : ℕ)
    → at < length masks
    → IsBitSet (get_or masks at 0) v
    → Rejects W (set masks at (2 ^ v))
    → (xs : List ℕ) → IsWithin masks xs → W xs → IsElse at v xs
wanted_else W masks at v fits has non xs w wanted =
    λ e. (let n = single_narrows masks at v fits has in non xs (n.keeps xs w e) wanted)
