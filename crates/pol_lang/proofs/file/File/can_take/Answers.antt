use Rattle.std.proofs.Common.{◌≡◌, true, Contains, subst, sym, ◌∙◌}
use Rattle.std.proofs.lemmas.Bool.{false≢true}
use Rattle.pol_lang.specs.Files.{instance_names}
use Rattle.pol_lang.proofs.NameLemmas.{instance-lookup}
use Rattle.pol_base.specs.Lists.{is_among}
use Rattle.pol_base.proofs.LookupLemmas.{is_among-decides, is_some-lookup}
use Rattle.pol_lang.proofs.file.File.can_take.Goals as goal

-- an instance that is there has the name
pub returns-then-is_some : goal.returns-then-is_some
returns-then-is_some c =
    let names = instance_names c.args.self.now in
    let find = c.find_instance.ensures in
    let lookup = instance-lookup c.args.self.now c.name.result.now c.find_instance.result find.known find.found find.none in
    let among : is_among names c.name.result.now ≡ true = sym (is_some-lookup names c.name.result.now c.find_instance.result lookup) ∙ (sym c.is_some.ensures ∙ c.if-is_some.true) in
    let there : Contains names c.args.inst.now.name = subst (Contains names) c.name.ensures.name ((is_among-decides names c.name.result.now).0 among) in
    record { can_take = (λ held. absurd (false≢true held), λ taken. absurd (taken.new_name there)) }
