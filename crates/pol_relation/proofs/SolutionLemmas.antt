-- The tuple that an assignment reads at a scope.
use Rattle.std.proofs.Common.{◌≡◌, ℕ, ◌+◌, ◌<◌, List, ◌++◌, [], ◌∷◌, length, take, set, get_or, All, sym, ap, ◌∙◌, arith}
use Rattle.std.proofs.lemmas.List.{length-map, map_push, take_more, take_more_set, take_all}
use Rattle.std.proofs.lemmas.List.Elements.{All-get_or, All-map}
use Rattle.pol_base.specs.Tuples.{IsTuple}
use Rattle.pol_relation.specs.Instances.{read_at}

-- what is read is a tuple of the domain
pub IsTuple-read_at : (d n arity : ℕ) (assignment scope : List ℕ) → IsTuple d n assignment → All (λ x. x < n) scope → length scope ≡ arity → IsTuple d arity (read_at assignment scope)
IsTuple-read_at d n arity assignment scope assigns below long = record {
  long = length-map scope (λ x. get_or assignment x 0) ∙ long;
  below = All-map (λ v. v < d) (λ x. get_or assignment x 0) scope (λ k e inside. All-get_or (λ v. v < d) assignment (get_or scope k e) 0 (omega (arith, assigns.long, below k e inside)) assigns.below);
}

-- the tuple has been read up to a place of the scope
pub IsRead-next : (assignment scope tuple : List ℕ) (i : ℕ) → i < length scope → i < length tuple → take i tuple ≡ read_at assignment (take i scope) → take (i + 1) (set tuple i (get_or assignment (get_or scope i 0) 0)) ≡ read_at assignment (take (i + 1) scope)
IsRead-next assignment scope tuple i inside room read =
    let value = get_or assignment (get_or scope i 0) 0 in
    take_more_set tuple i value room
    ∙ ap (λ front. front ++ value ∷ []) read
    ∙ sym (ap (read_at assignment) (take_more scope i 0 inside) ∙ map_push (λ x. get_or assignment x 0) (take i scope) (get_or scope i 0))

pub IsRead-all : (assignment scope tuple : List ℕ) (i : ℕ) → i ≡ length scope → take i tuple ≡ read_at assignment (take i scope) → take (length scope) tuple ≡ read_at assignment scope
IsRead-all assignment scope tuple i done read =
    ap (λ n. take n tuple) (sym done) ∙ read ∙ ap (read_at assignment) (take_all i scope (omega (arith, done)))
