-- What the ending and the status of a run tell.
use Rattle.std.proofs.Common.{◌≡◌, ◌↔◌, ℕ, ◌+◌, ◌≤◌, ◌⊎◌, inl, inr, List, [], length, Some, refl, ap, arith, length-append}
use Rattle.pol_lang.specs.Limits.{most_bytes}
use Rattle.pol_cli.specs.Runs.{IsAnswer, HasRead, status_of, unflushed}
use Rattle.pol_cli.specs.declared.ended.Ended.{Ended}
use Rattle.pol_cli.specs.declared.ended.Ended.TheVariants as ended

pub faults_read_few : (bytes left : List ℕ) (ending : Ended) → ¬ IsAnswer ending → HasRead ending (Some bytes) (Some left) → (left ≡ []) ⊎ (length bytes ≤ length left + (most_bytes + 1))
faults_read_few bytes left ended.Done cut read = absurd (cut tt)
faults_read_few bytes left ended.Rejected cut read = absurd (cut tt)
faults_read_few bytes left ended.Usage cut read = absurd (cut tt)
faults_read_few bytes left (ended.Refused refusal) cut read = absurd (cut tt)
faults_read_few bytes left ended.ReadFault cut (taken, consumed, few) = inr (omega (arith, few, ap length consumed, length-append taken left))
faults_read_few bytes left ended.WriteFault cut (inl at_end) = inl at_end
faults_read_few bytes left ended.WriteFault cut (inr (taken, consumed, count)) = inr (omega (arith, count, ap length consumed, length-append taken left))
faults_read_few bytes left ended.NoMemory cut (taken, consumed, few) = inr (omega (arith, few, ap length consumed, length-append taken left))

pub read_faults_read_fewer : (bytes left : List ℕ) → HasRead ended.ReadFault (Some bytes) (Some left) → length bytes ≤ length left + most_bytes
read_faults_read_fewer bytes left (taken, consumed, few) = omega (arith, few, ap length consumed, length-append taken left)

pub status_tells : (ending : Ended) → IsAnswer ending ↔ (status_of ending ≤ 3)
status_tells ended.Done = (λ _. omega arith, λ _. tt)
status_tells ended.Rejected = (λ _. omega arith, λ _. tt)
status_tells ended.Usage = (λ _. omega arith, λ _. tt)
status_tells (ended.Refused refusal) = (λ _. omega arith, λ _. tt)
status_tells ended.ReadFault = (λ answer. absurd answer, λ few. absurd (omega (arith, few)))
status_tells ended.WriteFault = (λ answer. absurd answer, λ few. absurd (omega (arith, few)))
status_tells ended.NoMemory = (λ answer. absurd answer, λ few. absurd (omega (arith, few)))

pub zero_done : (ending : Ended) → status_of ending ≡ 0 → ending ≡ ended.Done
zero_done ended.Done zero = refl
zero_done ended.Rejected zero = absurd (omega (arith, zero))
zero_done ended.Usage zero = absurd (omega (arith, zero))
zero_done (ended.Refused refusal) zero = absurd (omega (arith, zero))
zero_done ended.ReadFault zero = absurd (omega (arith, zero))
zero_done ended.WriteFault zero = absurd (omega (arith, zero))
zero_done ended.NoMemory zero = absurd (omega (arith, zero))

pub unflushed_cut_off : (ending : Ended) → ¬ IsAnswer (unflushed ending)
unflushed_cut_off ended.Done answer = answer
unflushed_cut_off ended.Rejected answer = answer
unflushed_cut_off ended.Usage answer = answer
unflushed_cut_off (ended.Refused refusal) answer = answer
unflushed_cut_off ended.ReadFault answer = answer
unflushed_cut_off ended.WriteFault answer = answer
unflushed_cut_off ended.NoMemory answer = answer
