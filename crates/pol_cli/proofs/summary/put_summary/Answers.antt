use Rattle.std.proofs.Common.{◌++◌, codes}
use Rattle.pol_report.specs.Texts.{last_line}
use Rattle.pol_cli.specs.Summaries.{chosen_line, count_line}
use Rattle.pol_cli.proofs.ReportLemmas.{put_whole, appended_behind}
use Rattle.pol_cli.proofs.summary.put_summary.Goals as goal

pub returns : goal.returns
returns c =
    let old = c.args.out.now in
    let gen = count_line (codes "gen") c.args.number in
    let chosen = chosen_line c.args.chosen in
    let classes = count_line (codes "classes") c.args.classes in
    let solved = count_line (codes "yes") c.args.tally.yes in
    let refuted = count_line (codes "no") c.args.tally.no in
    let rest = count_line (codes "undecided") c.args.tally.undecided in
    let two = appended_behind old c.put_count.new.out c.put_chosen.new.out gen chosen c.in_ok-put_count.ensures.ok c.in_ok-put_chosen.ensures.ok in
    let three = appended_behind old c.put_chosen.new.out c.put_count-2.new.out (gen ++ chosen) classes two c.in_ok-put_count-2.ensures.ok in
    let four = appended_behind old c.put_count-2.new.out c.put_count-3.new.out (gen ++ chosen ++ classes) solved three c.in_ok-put_count-3.ensures.ok in
    let five = appended_behind old c.put_count-3.new.out c.put_count-4.new.out (gen ++ chosen ++ classes ++ solved) refuted four c.in_ok-put_count-4.ensures.ok in
    let six = appended_behind old c.put_count-4.new.out c.put_count-5.new.out (gen ++ chosen ++ classes ++ solved ++ refuted) rest five c.in_ok-put_count-5.ensures.ok in
    record {
      ok = put_whole c.put_last.result _ c.put_last.new.out last_line c.put_last.ensures.puts
          (appended_behind old c.put_count-5.new.out c.put_last.new.out (gen ++ chosen ++ classes ++ solved ++ refuted ++ rest) last_line six);
    }
