-- Sets of tuples that a Mal'tsev operation preserves: the fixing step, and the closure of a representation.
use Rattle.std.proofs.Common.{◌≡◌, ℕ, suc, zero, ◌+◌, ◌<◌, ◌≤◌, List, [], ◌∷◌, All, Contains, arith, take, sym, refl, add-one, ◌∙◌, ◌↔◌}
use Rattle.std.specs.Prelude.{slice_index}
use Rattle.pol_base.specs.Tuples.{IsTuple}
use Rattle.pol_optable.specs.Operations.{Operation, image}
use Rattle.pol_optable.specs.Identities.{IsMaltsev}
use Rattle.pol_maltsev.specs.Representations.{IsPreserved, Follows, InClosure, Represents}
use Rattle.pol_optable.specs.Tables.{IsOpTable}
use Rattle.pol_rows.specs.Signatures.{InSignature}
use Rattle.pol_maltsev.specs.Representations.InClosure.{given, made}
use Rattle.pol_maltsev.proofs.TupleLemmas.{same_front, front_at, same_tuple, value_below, length-image, value-image, image_tuple}
use Rattle.std.proofs.lemmas.List.{take_more_same}
use Rattle.std.proofs.lemmas.List.Elements.{All-contains}

-- t1 has at place i what t2 has there, and t2 and t3 agree before i: then their image agrees with t1 before i, and has at i what t3 has
pub fixing_image : (f : Operation) (n i : ℕ) (t1 t2 t3 : List ℕ) → IsMaltsev f → IsTuple f.domain n t1 → IsTuple f.domain n t2 → IsTuple f.domain n t3 → i < n →
    slice_index t1 i ≡ slice_index t2 i → take i t2 ≡ take i t3 →
    (take i (image f n (t1 ∷ t2 ∷ t3 ∷ [])) ≡ take i t1) × (slice_index (image f n (t1 ∷ t2 ∷ t3 ∷ [])) i ≡ slice_index t3 i)
fixing_image f n i t1 t2 t3 mal is1 is2 is3 within at before = (
  same_front (image f n (t1 ∷ t2 ∷ t3 ∷ [])) t1 i (length-image f n (t1 ∷ t2 ∷ t3 ∷ []) ∙ sym is1.long) (λ j low.
      value-image f n (t1 ∷ t2 ∷ t3 ∷ []) j (omega arith)
      ∙ rw (← front_at t2 t3 i j before low) (mal.right (slice_index t1 j) (slice_index t2 j) (value_below f.domain n t1 j is1 (omega arith)) (value_below f.domain n t2 j is2 (omega arith)))),
  value-image f n (t1 ∷ t2 ∷ t3 ∷ []) i within
      ∙ rw at (mal.left (slice_index t3 i) (slice_index t2 i) (value_below f.domain n t3 i is3 within) (value_below f.domain n t2 i is2 within)),
)

-- the fixing step in a preserved set
pub fixing_step : (f : Operation) (n : ℕ) (T : List ℕ → Type 0) (i : ℕ) (t1 t2 t3 : List ℕ) → IsMaltsev f → IsPreserved f n T → i < n →
    T t1 → T t2 → T t3 → slice_index t1 i ≡ slice_index t2 i → take i t2 ≡ take i t3 → Follows T t1 i (slice_index t3 i)
fixing_step f n T i t1 t2 t3 mal kept within in1 in2 in3 at before =
    let h = fixing_image f n i t1 t2 t3 mal (kept.tuples t1 in1) (kept.tuples t2 in2) (kept.tuples t3 in3) within at before in
    record { member = image f n (t1 ∷ t2 ∷ t3 ∷ []); inside = kept.keeps t1 t2 t3 in1 in2 in3; same_before = h.0; there = h.1 }

-- a property of the rows that the operation keeps holds in the closure
pub closure_keeps : (f : Operation) (n : ℕ) (rows : List (List ℕ)) (P : List ℕ → Type 0) →
    All P rows → ((r s t : List ℕ) → P r → P s → P t → P (image f n (r ∷ s ∷ t ∷ []))) → (t : List ℕ) → InClosure f n rows t → P t
closure_keeps f n rows P all keeps t (given u h) = All-contains P rows u all h
closure_keeps f n rows P all keeps t (made u v w hu hv hw) =
    keeps u v w (closure_keeps f n rows P all keeps u hu) (closure_keeps f n rows P all keeps v hv) (closure_keeps f n rows P all keeps w hw)

-- so the closure of rows of a preserved set lies in the set
pub closure_within : (f : Operation) (n : ℕ) (T : List ℕ → Type 0) (rows : List (List ℕ)) → IsPreserved f n T → All T rows → (t : List ℕ) → InClosure f n rows t → T t
closure_within f n T rows kept all = closure_keeps f n rows T all kept.keeps

-- and it is itself a preserved set
pub closure_kept : (f : Operation) (n : ℕ) (T : List ℕ → Type 0) (rows : List (List ℕ)) → IsPreserved f n T → All T rows → IsPreserved f n (InClosure f n rows)
closure_kept f n T rows kept all = record {
  tuples = λ t c. kept.tuples t (closure_within f n T rows kept all t c);
  keeps = λ r s t hr hs ht. made r s t hr hs ht;
}

-- tuples of a full table's domain have a preserved closure, whether or not a preserved set is known
pub closure_of_tuples : (f : Operation) (n : ℕ) (rows : List (List ℕ)) → IsOpTable 3 f → All (IsTuple f.domain n) rows → IsPreserved f n (InClosure f n rows)
closure_of_tuples f n rows is all = record {
  tuples = closure_keeps f n rows (IsTuple f.domain n) all (λ r s t hr hs ht. image_tuple f n r s t is hr hs ht);
  keeps = λ r s t hr hs ht. made r s t hr hs ht;
}

-- a member of the closure that agrees with t before place i
record Near (C : List ℕ → Type 0) (t : List ℕ) (i : ℕ) : Type 0 where
  near : List ℕ
  closed : C near
  before : take i near ≡ take i t

-- one place more
nearer : (f : Operation) (n : ℕ) (T : List ℕ → Type 0) (rows : List (List ℕ)) (t : List ℕ) (i : ℕ) → IsMaltsev f → IsPreserved f n T → Represents n rows T → T t → i < n →
    Near (InClosure f n rows) t i → Near (InClosure f n rows) t (i + 1)
nearer f n T rows t i mal kept rep in_t within so_far =
    from so_far.near so_far.closed so_far.before
    (rep.signature i (slice_index so_far.near i) (slice_index t i) within
    record { one = so_far.near; other = t; one_in = closure_within f n T rows kept rep.inside so_far.near so_far.closed; other_in = in_t; same_before = so_far.before; one_at = refl; other_at = refl })
  where
    kept' : IsPreserved f n (InClosure f n rows)
    kept' = closure_kept f n T rows kept rep.inside

    last : (u : List ℕ) → take i u ≡ take i t → Follows (InClosure f n rows) u i (slice_index t i) → Near (InClosure f n rows) t (i + 1)
    last u before m = record {
      near = m.member;
      closed = m.inside;
      before = take_more_same m.member t i 0 (omega (arith, (kept'.tuples m.member m.inside).long)) (omega (arith, (kept.tuples t in_t).long)) (m.same_before ∙ before) m.there;
    }

    from : (u : List ℕ) → InClosure f n rows u → take i u ≡ take i t → InSignature (Contains rows) i (slice_index u i) (slice_index t i) → Near (InClosure f n rows) t (i + 1)
    from u closed before pair = last u before
        (rw pair.other_at at (fixing_step f n (InClosure f n rows) i u pair.one pair.other mal kept' within closed (given pair.one pair.one_in) (given pair.other pair.other_in) (sym pair.one_at) pair.same_before))

-- as many places as one likes
near_at : (f : Operation) (n : ℕ) (T : List ℕ → Type 0) (rows : List (List ℕ)) (t : List ℕ) (i : ℕ) → IsMaltsev f → IsPreserved f n T → Represents n rows T → T t → 1 ≤ n → i ≤ n →
    Near (InClosure f n rows) t i
near_at f n T rows t zero mal kept rep in_t one within =
    let pair = rep.signature 0 (slice_index t 0) (slice_index t 0) one
    record { one = t; other = t; one_in = in_t; other_in = in_t; same_before = refl; one_at = refl; other_at = refl } in
    record { near = pair.one; closed = given pair.one pair.one_in; before = refl }
near_at f n T rows t (suc i) mal kept rep in_t one within =
    rw (← add-one i) (nearer f n T rows t i mal kept rep in_t (omega arith) (near_at f n T rows t i mal kept rep in_t one (omega arith)))

-- the closure of A representation of a set that a Mal'tsev operation preserves is the set
pub closure_is_set : (f : Operation) (n : ℕ) (T : List ℕ → Type 0) (rows : List (List ℕ)) → IsMaltsev f → IsPreserved f n T → Represents n rows T → 1 ≤ n →
    (t : List ℕ) → InClosure f n rows t ↔ T t
closure_is_set f n T rows mal kept rep one t = (closure_within f n T rows kept rep.inside t, λ in_t. whole in_t (near_at f n T rows t n mal kept rep in_t one (omega arith)))
  where
    whole : T t → Near (InClosure f n rows) t n → InClosure f n rows t
    whole in_t m =
        let same : m.near ≡ t = same_tuple m.near t n (kept.tuples m.near (closure_within f n T rows kept rep.inside m.near m.closed)).long (kept.tuples t in_t).long (λ j low. front_at m.near t n j m.before low) in
        rw same at m.closed
