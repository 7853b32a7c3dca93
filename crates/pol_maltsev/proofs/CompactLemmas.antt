-- Compact representations of a preserved set: they are sound and stand for it.
use Rattle.std.proofs.Common.{◌↔◌}
use Rattle.std.proofs.Common.{ℕ, ◌*◌, ◌≤◌, List, length, get_or}
use Rattle.std.proofs.lemmas.List.Elements.{Contains-get_or}
use Rattle.pol_optable.specs.Operations.{Operation}
use Rattle.pol_optable.specs.Identities.{IsMaltsev}
use Rattle.pol_maltsev.specs.Representations.{IsPreserved, Represents, InClosure, IsSound}
use Rattle.pol_rows.specs.Signatures.{InSignature, IsSignatureSize}
use Rattle.pol_maltsev.specs.Representations.InClosure.{given}
use Rattle.pol_maltsev.proofs.ClosureLemmas.{closure_within, closure_is_set}
use Rattle.std.proofs.lemmas.Bool.Decides.{Decides-like}

-- a larger set has a larger signature
pub signature_up : (S T : List ℕ → Type 0) (i a b : ℕ) → ((t : List ℕ) → S t → T t) → InSignature S i a b → InSignature T i a b
signature_up S T i a b up s = record {
  one = s.one;
  other = s.other;
  one_in = up s.one s.one_in;
  other_in = up s.other s.other_in;
  same_before = s.same_before;
  one_at = s.one_at;
  other_at = s.other_at;
}

-- A compact representation of A preserved set is sound, and stands for the set
pub sound_from : (f : Operation) (n : ℕ) (T : List ℕ → Type 0) (rows : List (List ℕ)) → IsMaltsev f → IsPreserved f n T → 1 ≤ n → Represents n rows T →
    ((size : ℕ) → IsSignatureSize n f.domain T size → length rows ≤ 2 * size) → IsSound f n rows
sound_from f n T rows mal kept one rep few = record {
  represents = record {
    inside = λ k e low. given (get_or rows k e) (Contains-get_or rows k e low);
    signature = λ i a b hi h. rep.signature i a b hi (up i a b h);
  };
  compact = λ size s. few size record {
    test = s.test;
    decides = λ i a b hi ha hb. Decides-like (s.test i a b) (up i a b) (down i a b) (s.decides i a b hi ha hb);
    counted = s.counted;
  };
}
  where
    up : (i a b : ℕ) → InSignature (InClosure f n rows) i a b → InSignature T i a b
    up i a b = signature_up (InClosure f n rows) T i a b (closure_within f n T rows kept rep.inside)

    down : (i a b : ℕ) → InSignature T i a b → InSignature (InClosure f n rows) i a b
    down i a b = signature_up T (InClosure f n rows) i a b (λ t. (closure_is_set f n T rows mal kept rep one t).1)

-- the size goes by the members alone
pub size_of_same : (n d : ℕ) (S T : List ℕ → Type 0) (size : ℕ) → ((t : List ℕ) → S t ↔ T t) → IsSignatureSize n d S size → IsSignatureSize n d T size
size_of_same n d S T size same s = record {
  test = s.test;
  decides = λ i a b hi ha hb. Decides-like (s.test i a b) (signature_up S T i a b (λ t. (same t).0)) (signature_up T S i a b (λ t. (same t).1)) (s.decides i a b hi ha hb);
  counted = s.counted;
}
