use Rattle.std.proofs.Common.{◌≡◌, ap, ◌∙◌, arith}
use Rattle.pol_relation.specs.Weights.{subset_weight_of}
use Rattle.pol_lang.proofs.file.File.subsets_with.Goals as goal

-- both sums are small
pub overflow_add-result : goal.overflow_add-result
overflow_add-result c =
    let light = c.lang-language.ensures.file.language_is.few_subsets in
    let sum : c.subset_weight.result ≡ subset_weight_of c.args.self.now.language.domain c.args.self.now.language.relations =
    c.subset_weight.ensures.sum ∙ ap (λ lang. subset_weight_of lang.domain lang.relations) c.lang-language.ensures.language in
    omega (arith, light, sum, c.set_vectors.ensures.few)
