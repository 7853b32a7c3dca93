-- What a text on its way to a sink has written and holds, where it is moved on.
use Rattle.std.proofs.Common.{◌≡◌, ℕ, ◌+◌, ◌≤◌, List, [], ◌++◌, length, take, drop, sym, ap, ◌∙◌, arith, append_assoc, append-nil, length-append, subst}
use Rattle.std.specs.Prelude.{Option, Some, None, Result, Ok, Err, IsErr, OnOk, OnErr}
use Rattle.std.specs.Io.KnownBytes.{Appends, Keeps, append_known}
use Rattle.std.proofs.KnownBytes.{Keeps-refl, append_known-moved}
use Rattle.std.proofs.lemmas.List.{drop-drop, take-append-drop, take-append-le, drop-append-le}
use Rattle.std.proofs.Math.Seq.{take-append_seam, drop-append_seam}
use Rattle.pol_outside.specs.Contents.{AppendsFront}
use Rattle.pol_text.specs.Texts.{GrowsByFrontIn}
use Rattle.pol_outside.specs.Faults.{Rose}
use Rattle.pol_report.specs.Pieces.{known_length, piece_bytes}
use Rattle.pol_report.specs.Sending.{Sends}

-- where bytes are appended, no fewer are known
pub known_length-grown : (old new : Option (List ℕ)) (more : List ℕ) → Appends old new more → known_length old ≤ known_length new
known_length-grown None new more appends = omega arith
known_length-grown (Some x) None more appends = absurd appends
known_length-grown (Some x) (Some y) more appends = let grown = ap length appends ∙ length-append x more in omega arith

-- the sink took n of the bytes that were held and not written
pub piece_bytes-moved : (old new : Option (List ℕ)) (from n : ℕ) (held : List ℕ) → Appends old new (take n (drop from held)) → Keeps (piece_bytes old from held) (piece_bytes new (from + n) held)
piece_bytes-moved old new from n held appends =
    subst (λ rest. Keeps (piece_bytes old from held) (append_known new rest)) (drop-drop n from held) (append_known-moved old new (take n (drop from held)) (drop n (drop from held)) (drop from held) appends (sym (take-append-drop n (drop from held))))

-- all that a piece had at its end was written
pub sent_whole : (old new : Option (List ℕ)) (at : Option (List ℕ)) (begun left text : List ℕ) → begun ≡ [] → left ≡ [] → Appends (append_known old begun) at text → Keeps at (append_known new left) → Appends old new text
sent_whole None new at begun left text none empty appends keeps = tt
sent_whole (Some x) new None begun left text none empty appends keeps = absurd appends
sent_whole (Some x) None (Some y) begun left text none empty appends keeps = absurd keeps
sent_whole (Some x) (Some z) (Some y) begun left text none empty appends keeps =
    sym (append-nil z) ∙ ap (λ rest. z ++ rest) (sym empty) ∙ keeps ∙ appends ∙ ap (λ rest. (x ++ rest) ++ text) none ∙ ap (λ bytes. bytes ++ text) (append-nil x)

-- what was written is a front of what was to be sent
pub sent_front : (old new : Option (List ℕ)) (at : Option (List ℕ)) (begun left text : List ℕ) → begun ≡ [] → known_length old ≤ known_length new → GrowsByFrontIn (append_known old begun) at text → Keeps at (append_known new left) → AppendsFront old new text
sent_front None new at begun left text none longer grown keeps = (text, [], sym (append-nil text), tt)
sent_front (Some x) new None begun left text none longer grown keeps = absurd grown.new_is
sent_front (Some x) None (Some y) begun left text none longer grown keeps = absurd keeps
sent_front (Some x) (Some z) (Some y) begun left text none longer grown keeps =
    let same : z ++ left ≡ x ++ grown.front = keeps ∙ grown.new_is ∙ ap (λ rest. (x ++ rest) ++ grown.front) none ∙ ap (λ bytes. bytes ++ grown.front) (append-nil x) in
    let front : take (length x) z ≡ x = sym (take-append-le (length x) z left longer) ∙ ap (take (length x)) same ∙ take-append_seam x grown.front in
    let rest : drop (length x) z ++ left ≡ grown.front = sym (drop-append-le (length x) z left longer) ∙ ap (drop (length x)) same ∙ drop-append_seam x grown.front in
    let sent : z ≡ x ++ drop (length x) z = sym (take-append-drop (length x) z) ∙ ap (λ bytes. bytes ++ drop (length x) z) front in
    (drop (length x) z, left ++ grown.rest, grown.text_is ∙ ap (λ bytes. bytes ++ grown.rest) (sym rest) ∙ append_assoc (drop (length x) z) left grown.rest, sent)

-- a call that was cut off before what is held was to be written
pub sends_cut : {A E : Type 0} (r : Result A E) (old new : Option (List ℕ)) (before after : ℕ) (begun left text : List ℕ) → IsErr r → begun ≡ [] → known_length old ≤ known_length new → GrowsByFrontIn (append_known old begun) (append_known new left) text → Rose before after → Sends r old new before after text
sends_cut (Ok x) old new before after begun left text failed none longer grown rose = cc failed
sends_cut (Err e) old new before after begun left text failed none longer grown rose = record {
  whole = tt;
  front = sent_front old new (append_known new left) begun left text none longer grown (Keeps-refl (append_known new left));
  calm = tt;
  fault = rose;
}

-- all was put, and then what is held was to be written
pub sends_all : {A E : Type 0} (r : Result A E) (old new : Option (List ℕ)) (at : Option (List ℕ)) (before after : ℕ) (begun left text : List ℕ) → begun ≡ [] → known_length old ≤ known_length new → Appends (append_known old begun) at text → Keeps at (append_known new left) → OnOk r (left ≡ []) → OnOk r (after ≡ before) → OnErr r (Rose before after) → Sends r old new before after text
sends_all (Ok x) old new at before after begun left text none longer appends keeps empty calm fault = record {
  whole = sent_whole old new at begun left text none empty appends keeps;
  front = tt;
  calm = calm;
  fault = tt;
}
sends_all (Err e) old new at before after begun left text none longer appends keeps empty calm fault = record {
  whole = tt;
  front = sent_front old new at begun left text none longer (record { front = text; rest = []; text_is = sym (append-nil text); new_is = appends }) keeps;
  calm = tt;
  fault = fault;
}
