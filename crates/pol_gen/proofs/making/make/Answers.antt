use Rattle.std.proofs.Common.{◌≡◌, ◌++◌, [], ◌∷◌, ◌∙◌, List, ap, ap₂, sym, subst, arith}
use Rattle.pol_relation.specs.Instances.{InstanceView, IsInstance}
use Rattle.pol_lang.specs.Files.{FileView}
use Rattle.pol_gen.specs.Kinds.{language_of}
use Rattle.pol_gen.specs.Files.{draw_instance, made_file, made_instance, HaveTheirHiddenSolutions, HaveNoSolution}
use Rattle.pol_gen.proofs.InstanceLemmas.{made_so_far, CanTake-next, one_more, made_from, state_behind, first_behind}
use Rattle.pol_gen.proofs.LanguageLemmas.{IsFileLanguage-kind}
use Rattle.pol_gen.proofs.SolvedLemmas.{have_their_solutions, have_no_solution}
use Rattle.pol_gen.proofs.making.make.Goals as goal

pub unwrap-file-requires : goal.unwrap-file-requires
unwrap-file-requires c =
    let language = c.len-relations.ensures.language in
    c.new.ensures.fits.1 (rw (c.in_ok-language.ensures.language) (IsFileLanguage-kind c.of-kind.result (rw c.in_ok-language.ensures.language at language)))

pub loop-i-init : goal.loop-i-init
loop-i-init c =
    let begun = rw c.unwrap-file.ensures at c.new.ensures.made in
    record {
      language = ap (λ (file : FileView). file.language) begun ∙ c.in_ok-language.ensures.language ∙ ap language_of c.of-kind.ensures.kind;
      instances = ap (λ (file : FileView). file.instances) begun;
      state = c.new-draws.ensures.first ∙ first_behind c.args.number;
    }

pub add-requires : goal.add-requires
add-requires c =
    let number = c.args.number in
    let i = c.loop-i.i in
    let so_far = c.loop-i.invariant in
    let made : c.in_ok-inst.inst ≡ made_instance number i = c.in_ok-inst.ensures.made ∙ ap (λ s. (draw_instance number i s).drawn) so_far.state ∙ made_from number i in
    let is : IsInstance (made_instance number i) = rw made at c.variables-variables.ensures.instance in
    record { can_take = rw made (CanTake-next number i c.loop-i.file c.loop-i-test.true so_far.language so_far.instances is) }

pub loop-i-preserved : goal.loop-i-preserved
loop-i-preserved c =
    let number = c.args.number in
    let i = c.loop-i.i in
    let so_far = c.loop-i.invariant in
    let made : c.in_ok-inst.inst ≡ made_instance number i = c.in_ok-inst.ensures.made ∙ ap (λ s. (draw_instance number i s).drawn) so_far.state ∙ made_from number i in
    let added = c.in_ok-add.ensures.ok in
    record {
      language = ap (λ (file : FileView). file.language) added ∙ so_far.language;
      instances = ap (λ (file : FileView). file.instances) added ∙ ap₂ (λ (insts : List InstanceView) (inst : InstanceView). insts ++ inst ∷ []) so_far.instances made ∙ sym (one_more number i);
      state = c.in_ok-inst.ensures.state ∙ ap (λ s. (draw_instance number i s).state) so_far.state ∙ state_behind number i;
    }

pub returns-clause-solved : goal.returns-clause-solved
returns-clause-solved c =
    let done : c.loop-i.i ≡ 8 = omega arith in
    let instances = c.loop-i.invariant.instances ∙ ap (made_so_far c.args.number) done in
    let whole : c.loop-i.file ≡ made_file c.args.number = (λ j. record { language = c.loop-i.invariant.language j; instances = instances j }) in
    subst (HaveTheirHiddenSolutions c.args.number) (sym whole) (have_their_solutions c.args.number)

pub returns-clause-unsolvable : goal.returns-clause-unsolvable
returns-clause-unsolvable c =
    let done : c.loop-i.i ≡ 8 = omega arith in
    let instances = c.loop-i.invariant.instances ∙ ap (made_so_far c.args.number) done in
    let whole : c.loop-i.file ≡ made_file c.args.number = (λ j. record { language = c.loop-i.invariant.language j; instances = instances j }) in
    subst HaveNoSolution (sym whole) (have_no_solution c.args.number)
