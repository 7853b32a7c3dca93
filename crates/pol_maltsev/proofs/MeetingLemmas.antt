-- What a ternary operation that preserves every relation keeps: all tuples, the assignments that meet the first constraints, and what is read at places.
use Rattle.std.proofs.Common.{◌≡◌, ℕ, ◌<◌, List, [], ◌∷◌, length, All, Contains, take, get_or, map, sym, refl, ◌∙◌}
use Rattle.std.specs.Prelude.{slice_index}
use Rattle.std.proofs.Common.{◌+◌, ◌↔◌, take, get_or, length-take, arith}
use Rattle.std.proofs.lemmas.List.Elements.{All-same, All-more}
use Rattle.std.proofs.lemmas.List.{take-take, get_or-take, length-map, get_or-map}
use Rattle.std.proofs.lemmas.List.Elements.{All-nil, All-cons, All-take, Contains-get_or}
use Rattle.pol_base.specs.Tuples.{IsTuple}
use Rattle.pol_relation.specs.Relations.{no_named, RelationView, LanguageView, rows_of}
use Rattle.pol_relation.specs.Instances.{ConstraintView, InstanceView, FitsAt, read_at, Meets}
use Rattle.pol_maltsev.specs.Representations.{MeetsFirst, IsPreserved, ReadsRow, InClosure}
use Rattle.pol_base.proofs.MemberLemmas.{in_map}
use Rattle.pol_optable.specs.Operations.{Operation, image, Preserves, IsPolymorphism}
use Rattle.pol_optable.specs.Tables.{IsOpTable}
use Rattle.pol_maltsev.specs.Representations.InClosure.{given, made}
use Rattle.pol_maltsev.proofs.ClosureLemmas.{closure_keeps}
use Rattle.pol_maltsev.proofs.TupleLemmas.{same_tuple, length-image, value-image, image_tuple}

-- all tuples below the domain
pub tuples_kept : (f : Operation) (n : ℕ) → IsOpTable 3 f → IsPreserved f n (IsTuple f.domain n)
tuples_kept f n is = record { tuples = λ t h. h; keeps = λ r s t hr hs ht. image_tuple f n r s t is hr hs ht }

-- reading an image at places is the image of what the tuples read there
pub read_at-image : (f : Operation) (n : ℕ) (r s t : List ℕ) (scope : List ℕ) → All (λ v. v < n) scope →
    read_at (image f n (r ∷ s ∷ t ∷ [])) scope ≡ image f (length scope) (read_at r scope ∷ read_at s scope ∷ read_at t scope ∷ [])
read_at-image f n r s t scope all =
    same_tuple (read_at (image f n (r ∷ s ∷ t ∷ [])) scope) (image f (length scope) (read_at r scope ∷ read_at s scope ∷ read_at t scope ∷ [])) (length scope)
    (length-map scope (λ v. slice_index (image f n (r ∷ s ∷ t ∷ [])) v))
    (length-image f (length scope) (read_at r scope ∷ read_at s scope ∷ read_at t scope ∷ []))
    (λ j low.
    get_or-map (λ v. slice_index (image f n (r ∷ s ∷ t ∷ [])) v) scope j 0 0 low
    ∙ value-image f n (r ∷ s ∷ t ∷ []) (slice_index scope j) (all j 0 low)
    ∙ sym (value-image f (length scope) (read_at r scope ∷ read_at s scope ∷ read_at t scope ∷ []) j low
    ∙ rw (get_or-map (slice_index r) scope j 0 0 low, get_or-map (slice_index s) scope j 0 0 low, get_or-map (slice_index t) scope j 0 0 low) refl))

-- the list of three rows
three_rows : (rows : List (List ℕ)) (r s t : List ℕ) → Contains rows r → Contains rows s → Contains rows t → All (Contains rows) (r ∷ s ∷ t ∷ [])
three_rows rows r s t hr hs ht = All-cons (Contains rows) r (s ∷ t ∷ []) hr (All-cons (Contains rows) s (t ∷ []) hs (All-cons (Contains rows) t [] ht (All-nil (Contains rows))))

-- what meets a constraint is kept, where the operation preserves the constraint's relation
pub meets_kept : (f : Operation) (lang : LanguageView) (n : ℕ) (c : ConstraintView) → f.arity ≡ 3 → IsPolymorphism f lang → FitsAt lang n c →
    (r s t : List ℕ) → Meets lang c r → Meets lang c s → Meets lang c t → Meets lang c (image f n (r ∷ s ∷ t ∷ []))
meets_kept f lang n c three pol fits r s t hr hs ht =
    let kept = pol c.relation no_named fits.known (read_at r c.scope ∷ read_at s c.scope ∷ read_at t c.scope ∷ []) (sym three)
    (three_rows (rows_of lang c.relation) (read_at r c.scope) (read_at s c.scope) (read_at t c.scope) hr hs ht) in
    rw (read_at-image f n r s t c.scope fits.below, fits.long) kept

-- the assignments that meet the first constraints are kept
pub meeting_kept : (f : Operation) (lang : LanguageView) (inst : InstanceView) (j : ℕ) → IsOpTable 3 f → f.domain ≡ lang.domain → IsPolymorphism f lang →
    All (FitsAt lang (length inst.variables)) inst.constraints → IsPreserved f (length inst.variables) (MeetsFirst lang inst j)
meeting_kept f lang inst j is same pol fits = record {
  tuples = λ t h. rw same h.tuple;
  keeps = λ r s t hr hs ht. record {
    tuple = rw (← same) (image_tuple f (length inst.variables) r s t is (rw same hr.tuple) (rw same hs.tuple) (rw same ht.tuple));
    meets = λ k d low. meets_kept f lang (length inst.variables) (get_or (take j inst.constraints) k d) is.arity_is pol
        (All-take (FitsAt lang (length inst.variables)) j inst.constraints fits k d low) r s t (hr.meets k d low) (hs.meets k d low) (ht.meets k d low);
  };
}

-- what the members of a closure read at places is the closure of what the rows read there
pub reads_in_closure : (f : Operation) (n : ℕ) (rows : List (List ℕ)) (places : List ℕ) → All (λ v. v < n) places →
    (t : List ℕ) → InClosure f n rows t → InClosure f (length places) (map (λ r. read_at r places) rows) (read_at t places)
reads_in_closure f n rows places below =
    closure_keeps f n rows (λ t. InClosure f (length places) (map (λ r. read_at r places) rows) (read_at t places))
    (λ k d low. given (read_at (get_or rows k d) places) (in_map (λ r. read_at r places) rows (get_or rows k d) (Contains-get_or rows k d low)))
    (λ r s t hr hs ht. rw (read_at-image f n r s t places below) (made (read_at r places) (read_at s places) (read_at t places) hr hs ht))

-- the members of a preserved set that read a row of a preserved relation are kept
pub reads_row_kept : (f : Operation) (n : ℕ) (T : List ℕ → Type 0) (places : List ℕ) (r : RelationView) → f.arity ≡ 3 → IsPreserved f n T → Preserves f r → All (λ v. v < n) places → length places ≡ r.arity →
    IsPreserved f n (ReadsRow T places r.rows)
reads_row_kept f n T places r three kept pres below wide = record {
  tuples = λ t h. kept.tuples t h.inside;
  keeps = λ u v w hu hv hw. record {
    inside = kept.keeps u v w hu.inside hv.inside hw.inside;
    row =
        let made_row = pres (read_at u places ∷ read_at v places ∷ read_at w places ∷ []) (sym three) (three_rows r.rows (read_at u places) (read_at v places) (read_at w places) hu.row hv.row hw.row) in
        rw (read_at-image f n u v w places below, wide) made_row;
  };
}

-- one constraint more: to meet it too is to read one of its relation's rows at its scope
pub meets_more : (lang : LanguageView) (inst : InstanceView) (j : ℕ) (d : ConstraintView) → j < length inst.constraints → (t : List ℕ) →
    MeetsFirst lang inst (j + 1) t ↔ ReadsRow (MeetsFirst lang inst j) (get_or inst.constraints j d).scope (rows_of lang (get_or inst.constraints j d).relation) t
meets_more lang inst j d low t = (
  λ h. record {
    inside = record {
      tuple = h.tuple;
      meets = All-same (λ c. Meets lang c t) (take j inst.constraints) (take j (take (j + 1) inst.constraints)) (sym (take-take j (j + 1) inst.constraints (omega arith)))
          (All-take (λ c. Meets lang c t) j (take (j + 1) inst.constraints) h.meets);
    };
    row = rw (get_or-take (j + 1) inst.constraints j d (omega arith)) at (h.meets j d (omega (arith, length-take (j + 1) inst.constraints)));
  },
  λ h. record { tuple = h.inside.tuple; meets = All-more (λ c. Meets lang c t) inst.constraints j d low h.inside.meets h.row },
)
