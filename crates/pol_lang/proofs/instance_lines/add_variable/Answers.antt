use Rattle.std.proofs.Common.{◌≡◌, true, false, Err, refl, ap, rules}
use Rattle.pol_text.specs.Lines.{is_name}
use Rattle.pol_base.specs.Lists.{is_among}
use Rattle.pol_base.proofs.LookupLemmas.{is_among-decides, other_name}
use Rattle.pol_lang.proofs.instance_lines.add_variable.Goals as goal

pub returns-in-Ok : goal.returns-in-Ok
returns-in-Ok c =
    let variables = c.args.inst.now.variables in
    let named : is_name c.args.token.now ≡ true = search rules in
    let other : is_among variables c.args.token.now ≡ false = other_name variables c.args.token.now (λ there. let same = c.in-Ok.ensures.repeated.1 there in cc) in
    record { changes = rw (named, other, c.in-Ok.ensures.ok) refl }

pub returns-in-Err-Repeated : goal.returns-in-Err-Repeated
returns-in-Err-Repeated c =
    let variables = c.args.inst.now.variables in
    let named : is_name c.args.token.now ≡ true = search rules in
    let there : is_among variables c.args.token.now ≡ true = (is_among-decides variables c.args.token.now).1 (c.in-Err-Repeated.ensures.repeated.0 (ap (λ e. Err e) c.in-Err-Repeated.field-0-is)) in
    record { changes = rw (named, there) refl }
