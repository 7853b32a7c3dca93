use Rattle.pol_arc.proofs.MaskLemmas.{without_value}
use Rattle.std.proofs.Common.{◌≡◌, ℕ, ◌↔◌, ◌∙◌, subst}
use Rattle.std.specs.Prelude.{IsBitSet}
use Rattle.std.proofs.lemmas.List.{get_or_default}
use Rattle.pol_arc.proofs.pruning.Pruning.drop_value.Goals as goal

pub returns-clause-without : goal.returns-clause-without
returns-clause-without c =
    let masks = c.args.self.now.masks.items in
    without_value c.args.d masks c.args.x c.args.a c.without.result c.requires.variable
    (subst (λ (m : ℕ). (v : ℕ) → IsBitSet c.without.result v ↔ (IsBitSet m v × ¬ (v ≡ c.args.a))) (c.index.ensures ∙ get_or_default masks c.args.x c.index.result.now 0 c.requires.variable) c.without.ensures.others)
