use Rattle.std.proofs.Common.{◌≡◌, ◌-◌, take, map, ap, ◌∙◌}
use Rattle.std.proofs.lemmas.List.{take-map}
use Rattle.std.proofs.lemmas.Result.{on_ok_weaker}
use Rattle.pol_relation.specs.Relations.{relation_of}
use Rattle.pol_setfn.proofs.ProjectedLemmas.{adds_push}
use Rattle.pol_setfn.proofs.broken.add_vector.Goals as goal

pub returns : goal.returns
returns c =
    let lang = c.args.lang.now in
    let r = relation_of lang c.args.relation in
    let masks = take r.arity c.args.masks.now in
    let arity : c.arity-arity.result ≡ r.arity = c.arity-arity.ensures.arity ∙ ap (λ r. r.arity) c.relation.ensures.relation in
    let scope : take c.arity-arity.result c.cells_of-scope.result ≡ map (λ mask. mask - 1) masks =
    rw (arity, c.cells_of-scope.ensures.cells) (take-map (λ mask. mask - 1) r.arity c.args.masks.now) in
    record {
      added = on_ok_weaker c.add.result (λ is. adds_push lang c.args.relation masks (take c.arity-arity.result c.cells_of-scope.result) c.args.pool.now c.add.new.self c.requires.known c.requires.projection scope is) c.add.ensures.ok;
    }
