-- Members that read a row at a scope whose places are the first of the order.
use Rattle.std.proofs.Common.{◌≡◌, ℕ, ◌<◌, ◌≤◌, ◌+◌, List, [], ◌∷◌, ◌++◌, length, take, get_or, All, Contains, arith, sym, ap, ◌∙◌, ◌⊎◌, inl, inr}
use Rattle.std.specs.Prelude.{slice_index}
use Rattle.std.proofs.lemmas.List.{get_or-map, length-map, ext_get_or, take_more, map_push}
use Rattle.std.proofs.lemmas.List.{get_or_default}
use Rattle.std.proofs.lemmas.List.Elements.{All-nil, All-push, Contains-get_or, Contains-append_left, Contains-append_right}
use Rattle.std.proofs.lemmas.Bool.{cases_order}
use Rattle.pol_base.proofs.MemberLemmas.{Contains-here}
use Rattle.pol_maltsev.specs.Representations.{ReadsRow}
use Rattle.pol_relation.specs.Instances.{read_at}
use Rattle.pol_maltsev.specs.Orders.{InFront}
use Rattle.pol_maltsev.specs.Restrictions.{AreFirsts, AreReaders, IsFound, IsReader, IsReading}

-- what is read at one of the places
pub read_value : (t places : List ℕ) (k : ℕ) → k < length places → slice_index (read_at t places) k ≡ slice_index t (slice_index places k)
read_value t places k low = get_or-map (λ p. slice_index t p) places k 0 0 low

pub length-read_at : (t places : List ℕ) → length (read_at t places) ≡ length places
length-read_at t places = length-map places (λ p. slice_index t p)

-- the word of a row has values below the domain
pub word_below : (d : ℕ) (row first : List ℕ) → All (λ v. v < d) row → All (λ e. e < length row) first → All (λ v. v < d) (read_at row first)
word_below d row first below known k e low =
    let low' : k < length first = rw (length-read_at row first) at low in
    rw (get_or-map (λ p. slice_index row p) first k 0 e low') (below (slice_index first k) 0 (known k 0 low'))

-- a member that reads the row has the word's values at the first places
pub reader_walks : (T : List ℕ → Type 0) (ord scope first row t : List ℕ) → AreFirsts ord scope first → IsReader T scope row t → IsReading T ord (read_at row first) (length first) t
reader_walks T ord scope first row t firsts h = record {
  inside = h.inside;
  reads = λ k low.
      ap (slice_index t) (firsts.places k low)
      ∙ sym (read_value t scope (slice_index first k) (firsts.known k 0 low))
      ∙ ap (λ r. slice_index r (slice_index first k)) h.reads
      ∙ sym (read_value row first k low);
}

-- members that have the same values at the first places read the same at the scope
pub walked_reads : (T : List ℕ → Type 0) (ord scope first word t u : List ℕ) → AreFirsts ord scope first → IsReading T ord word (length first) t → IsReading T ord word (length first) u → read_at t scope ≡ read_at u scope
walked_reads T ord scope first word t u firsts h g =
    ext_get_or 0 (read_at t scope) (read_at u scope) (length-read_at t scope ∙ sym (length-read_at u scope)) (λ e low. at e (rw (length-read_at t scope) at low))
  where
    same : (e : ℕ) → InFront ord (length first) (slice_index scope e) → slice_index t (slice_index scope e) ≡ slice_index u (slice_index scope e)
    same e m = rw (← m.place) (h.reads m.index m.early ∙ sym (g.reads m.index m.early))

    at : (e : ℕ) → e < length scope → get_or (read_at t scope) e 0 ≡ get_or (read_at u scope) e 0
    at e low = read_value t scope e low ∙ same e (firsts.within e low) ∙ sym (read_value u scope e low)

-- so where the member that was walked to does not read the row, none does
pub none_reads : (T : List ℕ → Type 0) (ord scope first row m : List ℕ) → AreFirsts ord scope first → IsReading T ord (read_at row first) (length first) m → ¬ (read_at m scope ≡ row) → (t : List ℕ) → ¬ IsReader T scope row t
none_reads T ord scope first row m firsts h none t g =
    none (walked_reads T ord scope first (read_at row first) m t firsts h (reader_walks T ord scope first row t firsts g) ∙ g.reads)

-- what is read at one place more
pub read_more : (t places : List ℕ) (k : ℕ) → k < length places → read_at t (take (k + 1) places) ≡ read_at t (take k places) ++ slice_index t (slice_index places k) ∷ []
read_more t places k low = ap (read_at t) (take_more places k 0 low) ∙ map_push (λ p. slice_index t p) (take k places) (slice_index places k)

-- members that read the first k rows, one for each of them that some member reads
pub record AreReadersSoFar (T : List ℕ → Type 0) (scope : List ℕ) (rows : List (List ℕ)) (k : ℕ) (found : List (List ℕ)) : Type 0 where
  pub inside : All (ReadsRow T scope rows) found
  pub each : (i : ℕ) (t : List ℕ) → i < k → IsReader T scope (get_or rows i []) t → IsFound scope found (get_or rows i [])

pub readers_none : (T : List ℕ → Type 0) (scope : List ℕ) (rows : List (List ℕ)) → AreReadersSoFar T scope rows 0 []
readers_none T scope rows = record { inside = All-nil (ReadsRow T scope rows); each = λ i t low h. absurd (omega (arith, low)) }

-- of one row more, which a member reads
pub readers_more : (T : List ℕ → Type 0) (scope : List ℕ) (rows : List (List ℕ)) (k : ℕ) (found : List (List ℕ)) (m : List ℕ) → k < length rows → AreReadersSoFar T scope rows k found → IsReader T scope (get_or rows k []) m → AreReadersSoFar T scope rows (k + 1) (found ++ m ∷ [])
readers_more T scope rows k found m low so_far h = record {
  inside = All-push (ReadsRow T scope rows) found m so_far.inside (record { inside = h.inside; row = rw h.reads (Contains-get_or rows k [] low) });
  each = λ i t i_low g. at i t (cases_order i k) i_low g;
}
  where
    at : (i : ℕ) (t : List ℕ) → (i ≡ k) ⊎ ((i < k) ⊎ (k < i)) → i < k + 1 → IsReader T scope (get_or rows i []) t → IsFound scope (found ++ m ∷ []) (get_or rows i [])
    at i t (inl e) i_low g = record { member = m; listed = Contains-append_right found (m ∷ []) m (Contains-here m []); reads = h.reads ∙ ap (λ j. get_or rows j []) (sym e) }
    at i t (inr (inl before)) i_low g = old (so_far.each i t before g)
      where
        old : IsFound scope found (get_or rows i []) → IsFound scope (found ++ m ∷ []) (get_or rows i [])
        old o = record { member = o.member; listed = Contains-append_left found (m ∷ []) o.member o.listed; reads = o.reads }
    at i t (inr (inr after)) i_low g = absurd (omega (arith, i_low, after))

-- or which none reads
pub readers_same : (T : List ℕ → Type 0) (scope : List ℕ) (rows : List (List ℕ)) (k : ℕ) (found : List (List ℕ)) → AreReadersSoFar T scope rows k found → ((t : List ℕ) → ¬ IsReader T scope (get_or rows k []) t) → AreReadersSoFar T scope rows (k + 1) found
readers_same T scope rows k found so_far none = record { inside = so_far.inside; each = λ i t low g. at i t (cases_order i k) low g }
  where
    at : (i : ℕ) (t : List ℕ) → (i ≡ k) ⊎ ((i < k) ⊎ (k < i)) → i < k + 1 → IsReader T scope (get_or rows i []) t → IsFound scope found (get_or rows i [])
    at i t (inl e) low g = absurd (none t (record { inside = g.inside; reads = g.reads ∙ ap (λ j. get_or rows j []) e }))
    at i t (inr (inl before)) low g = so_far.each i t before g
    at i t (inr (inr after)) low g = absurd (omega (arith, low, after))

-- of all rows
pub readers_all : (T : List ℕ → Type 0) (scope : List ℕ) (rows : List (List ℕ)) (k : ℕ) (found : List (List ℕ)) → length rows ≤ k → AreReadersSoFar T scope rows k found → AreReaders T scope rows found
readers_all T scope rows k found high so_far = record { inside = so_far.inside; each = λ t h. from t h h.row }
  where
    from : (t : List ℕ) → ReadsRow T scope rows t → Contains rows (read_at t scope) → IsFound scope found (read_at t scope)
    from t h g =
        let same : get_or rows g.0 [] ≡ read_at t scope = get_or_default rows g.0 [] (read_at t scope) g.1 ∙ g.2 in
        rw same at (so_far.each g.0 t (omega (arith, g.1, high)) (record { inside = h.inside; reads = sym same }))
