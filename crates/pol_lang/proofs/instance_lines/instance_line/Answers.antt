use Rattle.std.proofs.Common.{◌≡◌, ◌<◌, false, length, Contains, subst, rules}
use Rattle.pol_lang.specs.Files.{instance_names}
use Rattle.pol_base.specs.Lists.{is_among}
use Rattle.pol_base.proofs.LookupLemmas.{absent_name}
use Rattle.pol_lang.specs.Limits.{most_instances}
use Rattle.pol_lang.proofs.instance_lines.instance_line.Goals as goal

-- the name is new, and there is room
pub push-requires : goal.push-requires
push-requires c =
    let names = instance_names c.args.file.now in
    let new : is_among names c.token-name.result.now ≡ false = search rules in
    let room : length c.args.file.now.instances < most_instances = search rules in
    record {
      can_take = record {
        is_file_instance = c.in_ok-inst.ensures.fits c.args.file.now.language;
        new_name = λ there. absent_name names c.token-name.result.now new (subst (Contains names) c.in_ok-inst.ensures.name there);
        room = room;
      };
    }
