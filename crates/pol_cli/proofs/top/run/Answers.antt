use Rattle.std.proofs.Common.{inl}
use Rattle.pol_cli.specs.Runs.{texts_of}
use Rattle.pol_cli.proofs.RunLemmas.{due-usage, due-summary, WritesFront-nothing, writes-due, writes-front}
use Rattle.pol_cli.proofs.OutputLemmas.{output-asked, deliver-due, deliver-read, deliver-no-read-fault, deliver-rose, deliver-fault, deliver-memory, deliver-memory-late, deliver-calm, deliver-complete}
use Rattle.pol_cli.proofs.top.run.Goals as goal

-- the words are unknown
pub returns-in-None-clause-due : goal.returns-in-None-clause-due
returns-in-None-clause-due g c =
    let usage = due-usage (texts_of c.args.words.now) (g.S.Source.left c.args.source.now) c.in-None.ensures.unknown in
    writes-due _ _ _ _ _ _ _ _ _ usage c.write-in-None.ensures.writes

pub returns-in-None-clause-write_fault_front : goal.returns-in-None-clause-write_fault_front
returns-in-None-clause-write_fault_front g c =
    let usage = due-usage (texts_of c.args.words.now) (g.S.Source.left c.args.source.now) c.in-None.ensures.unknown in
    writes-front _ _ _ _ _ _ _ _ _ usage tt c.write-in-None.ensures.writes

-- the output that is due for the input was delivered
pub returns-in-Ok-clause-due : goal.returns-in-Ok-clause-due
returns-in-Ok-clause-due g c =
    let due = output-asked _ _ _ _ (rw c.in-Some-Input.field-0-is at c.in-Some-Input.ensures.known) c.in-Ok.ensures.due in
    deliver-due _ _ _ _ _ _ _ _ due c.deliver.ensures.delivers

pub returns-in-Ok-clause-read : goal.returns-in-Ok-clause-read
returns-in-Ok-clause-read g c =
    let due = output-asked _ _ _ _ (rw c.in-Some-Input.field-0-is at c.in-Some-Input.ensures.known) c.in-Ok.ensures.due in
    λ _. deliver-read _ _ _ _ _ _ _ _ _ due c.in-Ok.ensures.read c.in-Ok.ensures.taken c.in-Ok.ensures.taken_most c.deliver.ensures.delivers

pub returns-in-Ok-clause-read_fault : goal.returns-in-Ok-clause-read_fault
returns-in-Ok-clause-read_fault g c =
    let due = output-asked _ _ _ _ (rw c.in-Some-Input.field-0-is at c.in-Some-Input.ensures.known) c.in-Ok.ensures.due in
    λ fault. absurd (deliver-no-read-fault _ _ _ _ _ _ _ _ due c.deliver.ensures.delivers fault)

pub returns-in-Ok-clause-read_fault_asked : goal.returns-in-Ok-clause-read_fault_asked
returns-in-Ok-clause-read_fault_asked g c =
    let due = output-asked _ _ _ _ (rw c.in-Some-Input.field-0-is at c.in-Some-Input.ensures.known) c.in-Ok.ensures.due in
    λ fault. absurd (deliver-no-read-fault _ _ _ _ _ _ _ _ due c.deliver.ensures.delivers fault)

pub returns-in-Ok-clause-write_fault : goal.returns-in-Ok-clause-write_fault
returns-in-Ok-clause-write_fault g c =
    let due = output-asked _ _ _ _ (rw c.in-Some-Input.field-0-is at c.in-Some-Input.ensures.known) c.in-Ok.ensures.due in
    deliver-rose _ _ _ _ _ _ _ _ due c.deliver.ensures.delivers

pub returns-in-Ok-clause-write_fault_front : goal.returns-in-Ok-clause-write_fault_front
returns-in-Ok-clause-write_fault_front g c =
    let due = output-asked _ _ _ _ (rw c.in-Some-Input.field-0-is at c.in-Some-Input.ensures.known) c.in-Ok.ensures.due in
    deliver-fault _ _ _ _ _ _ _ _ due c.deliver.ensures.delivers

pub returns-in-Ok-clause-no_memory_front : goal.returns-in-Ok-clause-no_memory_front
returns-in-Ok-clause-no_memory_front g c =
    let due = output-asked _ _ _ _ (rw c.in-Some-Input.field-0-is at c.in-Some-Input.ensures.known) c.in-Ok.ensures.due in
    deliver-memory _ _ _ _ _ _ _ _ due c.deliver.ensures.delivers

pub returns-in-Ok-clause-no_memory_early : goal.returns-in-Ok-clause-no_memory_early
returns-in-Ok-clause-no_memory_early g c =
    let due = output-asked _ _ _ _ (rw c.in-Some-Input.field-0-is at c.in-Some-Input.ensures.known) c.in-Ok.ensures.due in
    λ memory _. inl (deliver-memory-late _ _ _ _ _ _ _ _ _ due c.in-Ok.ensures.read c.deliver.ensures.delivers memory)

pub returns-in-Ok-clause-write_calm : goal.returns-in-Ok-clause-write_calm
returns-in-Ok-clause-write_calm g c = deliver-calm _ _ _ _ _ _ c.deliver.ensures.delivers

pub returns-in-Ok-clause-complete : goal.returns-in-Ok-clause-complete
returns-in-Ok-clause-complete g c =
    let due = output-asked _ _ _ _ (rw c.in-Some-Input.field-0-is at c.in-Some-Input.ensures.known) c.in-Ok.ensures.due in
    λ _ still. deliver-complete _ _ _ _ _ _ _ _ due c.deliver.ensures.delivers still

-- the summary was made
pub returns-in-Ok-summary-clause-due : goal.returns-in-Ok-summary-clause-due
returns-in-Ok-summary-clause-due g c =
    let asks = rw c.in-Some-Gen.field-0-is at c.in-Some-Gen.ensures.known in
    let due = due-summary (texts_of c.args.words.now) (g.S.Source.left c.args.source.now) _ _ _ asks c.as_slice.ensures.items c.in-Ok-summary.ensures.summary in
    writes-due _ _ _ _ _ _ _ _ _ due c.write.ensures.writes

pub returns-in-Ok-summary-clause-write_fault_front : goal.returns-in-Ok-summary-clause-write_fault_front
returns-in-Ok-summary-clause-write_fault_front g c =
    let asks = rw c.in-Some-Gen.field-0-is at c.in-Some-Gen.ensures.known in
    let due = due-summary (texts_of c.args.words.now) (g.S.Source.left c.args.source.now) _ _ _ asks c.as_slice.ensures.items c.in-Ok-summary.ensures.summary in
    writes-front _ _ _ _ _ _ _ _ _ due tt c.write.ensures.writes

-- memory ran out before anything was written
pub returns-in-Err-NoMemory-clause-no_memory_front : goal.returns-in-Err-NoMemory-clause-no_memory_front
returns-in-Err-NoMemory-clause-no_memory_front g c = λ _. WritesFront-nothing _ _ _

pub returns-in-Err-clause-no_memory_front : goal.returns-in-Err-clause-no_memory_front
returns-in-Err-clause-no_memory_front g c = λ _. WritesFront-nothing _ _ _
