-- The constraints of the lists of rows of a relation, one list after another.
use Rattle.std.proofs.Common.{◌≡◌, ℕ, zero, suc, ◌+◌, ◌<◌, ◌≤◌, ◌^◌, List, [], ◌∷◌, ◌++◌, length, take, get_or, arith, sym, ap, ◌∙◌, All, subst, inl, inr, ◌⊎◌, refl}
use Rattle.std.specs.Prelude.{Contains}
use Rattle.std.proofs.lemmas.Bool.{cases_eq}
use Rattle.std.proofs.lemmas.List.{take_more}
use Rattle.std.proofs.lemmas.List.Elements.{All-push, All-weaker, All-nil, Contains-push, Contains-append_left}
use Rattle.std.proofs.Math.Nat.{pow-suc}
use Rattle.pol_base.specs.Tuples.{IsTuple, cell_of}
use Rattle.pol_base.proofs.CellLemmas.{cell_of-below}
use Rattle.pol_base.proofs.Enumeration.{one_more}
use Rattle.pol_relation.specs.Relations.{LanguageView, RelationView, NamedRelation, no_named, relation_of, rows_of}
use Rattle.pol_relation.specs.Weights.{weight_of}
use Rattle.pol_relation.proofs.SumLemmas.{weight_of-push}
use Rattle.pol_relation.specs.Instances.{ConstraintView}
use Rattle.pol_optable.specs.Breaks.{rows_at}
use Rattle.pol_indicator.specs.Indicators.{IsListed, AreIndicated, constraint_of_rows}
use Rattle.pol_optable.proofs.BreakLemmas.{numbers_of, rows_at-rows}
use Rattle.pol_indicator.proofs.ColumnLemmas.{length-rows_at}

-- the constraints of the lists of rows of a relation whose numbers write less than m
pub record IsAdded (lang : LanguageView) (K number m : ℕ) (old new : List ConstraintView) : Type 0 where
  pub sound : All (IsListed lang K (number + 1)) new
  pub kept : (c : ConstraintView) → Contains old c → Contains new c
  pub done : (numbers : List ℕ) → IsTuple (length (rows_of lang number)) K numbers
      → cell_of (length (rows_of lang number)) numbers < m
      → Contains new (constraint_of_rows lang number (rows_at (relation_of lang number) numbers))

listed_more : (lang : LanguageView) (K n : ℕ) (c : ConstraintView) → IsListed lang K n c → IsListed lang K (n + 1) c
listed_more lang K n c is = record { rows = is.rows; long = is.long; members = is.members; known = (let low : c.relation < n = is.known in omega arith); is = is.is }

pub added_none : (lang : LanguageView) (K number m : ℕ) (old : List ConstraintView) → m ≡ 0 → AreIndicated lang K number old
    → IsAdded lang K number m old old
added_none lang K number m old none are = record {
  sound = All-weaker (IsListed lang K number) (IsListed lang K (number + 1)) (listed_more lang K number) old are.sound;
  kept = λ c h. h;
  done = λ numbers tuple less. absurd (omega (arith, less, none));
}

-- one list more
pub added_more : (lang : LanguageView) (K number : ℕ) (now : List ℕ) (old constraints : List ConstraintView)
    → IsTuple (length (rows_of lang number)) K now
    → IsAdded lang K number (cell_of (length (rows_of lang number)) now) old constraints
    → IsAdded lang K number (cell_of (length (rows_of lang number)) now + 1) old
    (constraints ++ constraint_of_rows lang number (rows_at (relation_of lang number) now) ∷ [])
added_more lang K number now old constraints tuple added = record {
  sound = All-push (IsListed lang K (number + 1)) constraints here added.sound (record {
    rows = rows_at r now;
    long = length-rows_at r now ∙ tuple.long;
    members = rows_at-rows r now tuple.below;
    known = omega arith;
    is = refl;
  });
  kept = λ c h. Contains-append_left constraints (here ∷ []) c (added.kept c h);
  done = one_more (length r.rows) K (λ numbers. Contains (constraints ++ here ∷ []) (constraint_of_rows lang number (rows_at r numbers))) now tuple
      (λ numbers t less. Contains-append_left constraints (here ∷ []) _ (added.done numbers t less)) (Contains-push constraints here);
}
  where
    r : RelationView
    r = relation_of lang number

    here : ConstraintView
    here = constraint_of_rows lang number (rows_at r now)

-- all lists of the relation
pub added_all : (lang : LanguageView) (K number m : ℕ) (old new : List ConstraintView) → length (rows_of lang number) ^ K ≤ m
    → AreIndicated lang K number old → IsAdded lang K number m old new → AreIndicated lang K (number + 1) new
added_all lang K number m old new all are added = record { sound = added.sound; complete = complete }
  where
    complete : (n : ℕ) (rows : List (List ℕ)) → n < number + 1 → length rows ≡ K → All (Contains (rows_of lang n)) rows
        → Contains new (constraint_of_rows lang n rows)
    complete n rows low long members = by (cases_eq n number)
      where
        here : n ≡ number → Contains new (constraint_of_rows lang n rows)
        here e =
            let r = relation_of lang number in
            let found = numbers_of r rows (rw e at members) in
            let same : length found.numbers ≡ K = sym (length-rows_at r found.numbers) ∙ ap length found.same ∙ long in
            let less = rw same at (cell_of-below (length r.rows) found.numbers found.below) in
            let listed = added.done found.numbers (record { long = same; below = found.below }) (omega (arith, less, all)) in
            rw e (subst (λ some. Contains new (constraint_of_rows lang number some)) found.same listed)

        by : (n ≡ number) ⊎ (n ≡ number → ⊥) → Contains new (constraint_of_rows lang n rows)
        by (inl e) = here e
        by (inr ne) = added.kept (constraint_of_rows lang n rows) (are.complete n rows (omega arith) long members)

-- a relation without rows has no list of one row and more
pub zero_power : (n k : ℕ) → n ≡ 0 → 1 ≤ k → n ^ k ≡ 0
zero_power n zero none some = absurd (omega arith)
zero_power n (suc k) none some = pow-suc n k ∙ rw none (omega arith)

pub indicated_none : (lang : LanguageView) (K : ℕ) → AreIndicated lang K 0 []
indicated_none lang K = record {
  sound = All-nil (IsListed lang K 0);
  complete = λ n rows low long members. absurd (omega (arith, low));
}

-- the weight of some first relations, one more
pub weight_next : (k : ℕ) (relations : List NamedRelation) (i : ℕ) → i < length relations
    → weight_of k (take (i + 1) relations) ≡ weight_of k (take i relations) + length (get_or relations i no_named).relation.rows ^ k
weight_next k relations i inside = ap (weight_of k) (take_more relations i no_named inside) ∙ weight_of-push k (take i relations) (get_or relations i no_named)

pub weight_take : (k : ℕ) (relations : List NamedRelation) (i : ℕ) → weight_of k (take i relations) ≤ weight_of k relations
weight_take k [] zero = omega arith
weight_take k [] (suc i) = omega arith
weight_take k (e ∷ rest) zero = omega arith
weight_take k (e ∷ rest) (suc i) = let tail : weight_of k (take i rest) ≤ weight_of k rest = weight_take k rest i in omega (arith, tail)
