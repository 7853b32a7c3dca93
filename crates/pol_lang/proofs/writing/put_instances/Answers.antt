use Rattle.std.proofs.Common.{◌++◌, ◌∙◌, ap, subst, arith}
use Rattle.pol_text.specs.Texts.{joined, printed_line, GrowsByFront}
use Rattle.pol_text.proofs.TextLemmas.{flat_mapped-grown, flat_mapped-stopped}
use Rattle.pol_lang.specs.Files.{no_instance}
use Rattle.pol_lang.specs.Spelling.{instance_lines}
use Rattle.pol_lang.proofs.writing.put_instances.Goals as goal

-- a front of one more text
pub returns-in_err-put_instance : goal.returns-in_err-put_instance
returns-in_err-put_instance c =
    let lang = c.args.file.now.language in
    let part = subst (λ inst. GrowsByFront c.loop-i.out c.put_instance.new.out (joined printed_line (instance_lines lang inst))) c.instance.ensures.instance c.in_err-put_instance.ensures.puts in
    record { puts = flat_mapped-stopped _ printed_line (instance_lines lang) _ _ no_instance _ _ _ c.from_residual.ensures.0 (omega arith) c.loop-i.invariant part }

-- one more text
pub loop-i-preserved : goal.loop-i-preserved
loop-i-preserved c =
    let lang = c.args.file.now.language in
    let more = c.in_ok-put_instance.ensures.puts ∙ ap (λ inst. c.loop-i.out ++ joined printed_line (instance_lines lang inst)) c.instance.ensures.instance in
    flat_mapped-grown printed_line (instance_lines lang) _ _ no_instance _ _ _ (omega arith) c.loop-i.invariant more
