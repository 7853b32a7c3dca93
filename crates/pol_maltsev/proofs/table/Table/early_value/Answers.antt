use Rattle.std.proofs.Common.{◌≡◌, ◌<◌, arith}
use Rattle.pol_maltsev.specs.Views.{sides_at}
use Rattle.pol_maltsev.proofs.SwapTables.{leads_from_root}
use Rattle.pol_maltsev.proofs.table.Table.early_value.Goals as goal

-- the root leads back to the old one
pub early_row-requires-clause-leads : goal.early_row-requires-clause-leads
early_row-requires-clause-leads c =
    let root : c.root.result ≡ (sides_at c.args.self.now c.args.k).cy c.args.c = cc (c.root.ensures.root, c.place-y.ensures.place) in
    let there : (sides_at c.args.self.now c.args.k).cy c.args.c < c.args.self.now.domain =
    omega (arith, root, c.root.ensures.most, c.if-root-d.false, c.size-d.ensures.size, c.domain.ensures.domain) in
    leads_from_root c.args.op.now c.args.k c.args.c c.early_root-root.result c.args.self.now c.requires.sound c.requires.position c.requires.value there c.early_root-root.ensures.root
