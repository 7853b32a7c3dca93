use Rattle.std.proofs.Common.{◌≡◌, Some, None, arith, rules}
use Rattle.pol_lang.specs.Files.{instance_of}
use Rattle.pol_lang.proofs.NameLemmas.{absent_instance, instance-lookup, lookup-instance}
use Rattle.pol_lang.proofs.file.File.find_instance.Goals as goal

-- no instance of the file has the name
pub returns-clause-none : goal.returns-clause-none
returns-clause-none c = absent_instance c.args.self.now.instances c.args.name.now (λ k inside same. c.loop-i.invariant k (omega (arith, inside, c.loop-i-test.false, c.instances-i-end.ensures.count)) same)

pub returns-clause-place : goal.returns-clause-place
returns-clause-place c =
    let lookup = instance-lookup c.args.self.now c.args.name.now None tt tt (returns-clause-none c) in
    lookup-instance c.args.self.now c.args.name.now None c.instances-i-end.ensures.file lookup

-- the instance at hand has the name
pub returns-then-eq-clause-place : goal.returns-then-eq-clause-place
returns-then-eq-clause-place c =
    let same : (instance_of c.args.self.now c.loop-i.i).name ≡ c.args.name.now = search rules in
    let lookup = instance-lookup c.args.self.now c.args.name.now (Some c.loop-i.i) (omega (arith, c.loop-i-test.true, c.instances-i-end.ensures.count)) same tt in
    lookup-instance c.args.self.now c.args.name.now (Some c.loop-i.i) c.instances-i-end.ensures.file lookup
