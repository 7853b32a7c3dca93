use Rattle.std.proofs.Common.{◌≤◌, List, ℕ, length}
use Rattle.std.proofs.lemmas.Result.{IfOk-weaker}
use Rattle.pol_relation.specs.Relations.{LanguageView}
use Rattle.pol_relation.specs.Instances.{InstanceView}
use Rattle.pol_nogood.specs.Logs.{StepView, FitsMost}
use Rattle.pol_nogood.specs.ValidLogs.{IsValidLog}
use Rattle.pol_nogood.specs.Trims.{IsTrimmed, AreReferredTo}
use Rattle.pol_nogood.proofs.TrimLemmas.{trimmed_shorter, trimmed_fits, trimmed_referred, trimmed_valid}
use Rattle.pol_nogood.proofs.trimming.trimmed.Goals as goal

pub returns-clause-valid : goal.returns-clause-valid
returns-clause-valid c =
    IfOk-weaker c.copy_marked.result (IsTrimmed c.args.log.now) (λ (part : List StepView). (lang : LanguageView) (inst : InstanceView) → IsValidLog lang inst c.args.log.now → IsValidLog lang inst part)
    (λ part is lang inst valid. trimmed_valid c.args.log.now part is lang inst valid) c.copy_marked.ensures.part

pub returns-clause-shorter : goal.returns-clause-shorter
returns-clause-shorter c =
    IfOk-weaker c.copy_marked.result (IsTrimmed c.args.log.now) (λ (part : List StepView). length part ≤ length c.args.log.now)
    (λ part is. trimmed_shorter c.args.log.now part is) c.copy_marked.ensures.part

pub returns-clause-fits : goal.returns-clause-fits
returns-clause-fits c =
    IfOk-weaker c.copy_marked.result (IsTrimmed c.args.log.now) (λ (part : List StepView). (most : ℕ) → FitsMost most c.args.log.now → FitsMost most part)
    (λ part is most fits. trimmed_fits c.args.log.now part is most fits) c.copy_marked.ensures.part

pub returns-clause-needed : goal.returns-clause-needed
returns-clause-needed c =
    IfOk-weaker c.copy_marked.result (IsTrimmed c.args.log.now) AreReferredTo
    (λ part is. trimmed_referred c.args.log.now part is) c.copy_marked.ensures.part
