-- The tally of the instances of a file, answer by answer.
use Rattle.std.proofs.Common.{◌≡◌, ℕ, suc, ◌+◌, ◌⊎◌, inl, inr, List, [], ◌∷◌, ◌++◌, length, Option, Some, None, refl, sym, ap, ◌∙◌, subst, arith, length-append}
use Rattle.pol_base.specs.declared.class_name.ClassName.{ClassName}
use Rattle.pol_base.specs.declared.class_name.ClassName.TheVariants.{Constant, Semilattice, SetFunction, Majority, Nu4, Affine, Maltsev}
use Rattle.pol_relation.specs.Relations.{LanguageView}
use Rattle.pol_relation.specs.Instances.{InstanceView, HasNoSolution}
use Rattle.pol_nogood.specs.Logs.{StepView}
use Rattle.pol_modp.specs.Combinations.{CombinationView}
use Rattle.pol_solve.specs.declared.answering.InstanceAnswer.{InstanceAnswer}
use Rattle.pol_solve.specs.declared.answering.InstanceAnswer.TheVariants as answer
use Rattle.pol_solve.specs.Answers.{AnswersOf}
use Rattle.pol_cli.specs.declared.summary.Tally.{Tally}
use Rattle.pol_cli.specs.Summaries.{Counts, HasSolution, IsTally}
use Rattle.pol_cli.specs.Tallies.{AddsAnswer}
use Rattle.pol_cli.proofs.CountLemmas.{counts_more, counts_other, counts_once, counts_all}
use Rattle.pol_cli.proofs.ReportLaws.{true_owed}

-- an instance with a solution more
tally_yes : (class : ClassName) (lang : LanguageView) (some : List InstanceView) (inst : InstanceView) (old : Tally) → IsTally lang (Some class) some old → HasSolution lang inst → IsTally lang (Some class) (some ++ inst ∷ []) (record { yes = old.yes + 1; no = old.no; undecided = old.undecided })
tally_yes class lang some inst old tally is =
    let yes = counts_more (HasSolution lang) some inst old.yes tally.0 is in
    let more : suc old.yes ≡ old.yes + 1 = omega arith in
    (subst (Counts (HasSolution lang) (some ++ inst ∷ [])) more yes, counts_other (HasNoSolution lang) some inst old.no tally.1 (λ none. none is.0 is.1), tally.2)

-- one without more
tally_no : (class : ClassName) (lang : LanguageView) (some : List InstanceView) (inst : InstanceView) (old : Tally) → IsTally lang (Some class) some old → HasNoSolution lang inst → IsTally lang (Some class) (some ++ inst ∷ []) (record { yes = old.yes; no = old.no + 1; undecided = old.undecided })
tally_no class lang some inst old tally none =
    let no = counts_more (HasNoSolution lang) some inst old.no tally.1 none in
    let more : suc old.no ≡ old.no + 1 = omega arith in
    (counts_other (HasSolution lang) some inst old.yes tally.0 (λ is. none is.0 is.1), subst (Counts (HasNoSolution lang) (some ++ inst ∷ [])) more no, tally.2)

pub adds_yes : (old : Tally) (values : List ℕ) → AddsAnswer (answer.Yes values) old (record { yes = old.yes + 1; no = old.no; undecided = old.undecided })
adds_yes old values lang None some inst tally owed = absurd (cc owed)
adds_yes old values lang (Some class) some inst tally owed =
    tally_yes class lang some inst old tally (values, true_owed (Some class) lang inst (answer.Yes values) owed)

pub adds_yes_sizes : (old : Tally) (values sizes : List ℕ) → AddsAnswer (answer.YesSizes values sizes) old (record { yes = old.yes + 1; no = old.no; undecided = old.undecided })
adds_yes_sizes old values sizes lang None some inst tally owed = absurd (cc owed)
adds_yes_sizes old values sizes lang (Some class) some inst tally owed =
    tally_yes class lang some inst old tally (values, (true_owed (Some class) lang inst (answer.YesSizes values sizes) owed).0)

pub adds_no_log : (old : Tally) (log : List StepView) → AddsAnswer (answer.NoLog log) old (record { yes = old.yes; no = old.no + 1; undecided = old.undecided })
adds_no_log old log lang None some inst tally owed = absurd (cc owed)
adds_no_log old log lang (Some class) some inst tally owed =
    tally_no class lang some inst old tally (true_owed (Some class) lang inst (answer.NoLog log) owed)

pub adds_no_sum : (old : Tally) (combination : CombinationView) → AddsAnswer (answer.NoSum combination) old (record { yes = old.yes; no = old.no + 1; undecided = old.undecided })
adds_no_sum old combination lang None some inst tally owed = absurd (cc owed)
adds_no_sum old combination lang (Some class) some inst tally owed =
    tally_no class lang some inst old tally (true_owed (Some class) lang inst (answer.NoSum combination) owed)

pub adds_no_sizes : (old : Tally) (sizes : List ℕ) → AddsAnswer (answer.NoSizes sizes) old (record { yes = old.yes; no = old.no + 1; undecided = old.undecided })
adds_no_sizes old sizes lang None some inst tally owed = absurd (cc owed)
adds_no_sizes old sizes lang (Some class) some inst tally owed =
    tally_no class lang some inst old tally (true_owed (Some class) lang inst (answer.NoSizes sizes) owed).0

-- a chosen class decides each instance
decides : (class : ClassName) (lang : LanguageView) (inst : InstanceView) → ¬ AnswersOf class lang inst answer.Undecided
decides Constant lang inst owed = owed
decides Semilattice lang inst owed = owed
decides SetFunction lang inst owed = owed
decides Majority lang inst owed = owed
decides Nu4 lang inst owed = owed
decides Affine lang inst owed = owed
decides Maltsev lang inst owed = owed

pub adds_undecided : (old : Tally) → AddsAnswer answer.Undecided old (record { yes = old.yes; no = old.no; undecided = old.undecided + 1 })
adds_undecided old lang None some inst tally owed =
    let one : length (some ++ inst ∷ []) ≡ length some + 1 = length-append some (inst ∷ []) in
    ap (λ t. record { yes = t.yes; no = t.no; undecided = t.undecided + 1 }) tally
    ∙ ap (λ n. record { yes = 0; no = 0; undecided = n }) (sym one)
adds_undecided old lang (Some class) some inst tally owed = absurd (decides class lang inst owed)

-- either form of a Yes
pub adds_some_yes : (given : InstanceAnswer) (old : Tally) → ((values : List ℕ) × (given ≡ answer.Yes values)) ⊎ ((values sizes : List ℕ) × (given ≡ answer.YesSizes values sizes)) → AddsAnswer given old (record { yes = old.yes + 1; no = old.no; undecided = old.undecided })
adds_some_yes given old (inl said) = subst (λ some. AddsAnswer some old (record { yes = old.yes + 1; no = old.no; undecided = old.undecided })) (sym said.1) (adds_yes old said.0)
adds_some_yes given old (inr said) = subst (λ some. AddsAnswer some old (record { yes = old.yes + 1; no = old.no; undecided = old.undecided })) (sym said.2) (adds_yes_sizes old said.0 said.1)

-- each form of a No
pub adds_some_no : (given : InstanceAnswer) (old : Tally) → ((log : List StepView) × (given ≡ answer.NoLog log)) ⊎ ((sum : CombinationView) × (given ≡ answer.NoSum sum)) ⊎ ((sizes : List ℕ) × (given ≡ answer.NoSizes sizes)) → AddsAnswer given old (record { yes = old.yes; no = old.no + 1; undecided = old.undecided })
adds_some_no given old (inl said) = subst (λ some. AddsAnswer some old (record { yes = old.yes; no = old.no + 1; undecided = old.undecided })) (sym said.1) (adds_no_log old said.0)
adds_some_no given old (inr (inl said)) = subst (λ some. AddsAnswer some old (record { yes = old.yes; no = old.no + 1; undecided = old.undecided })) (sym said.1) (adds_no_sum old said.0)
adds_some_no given old (inr (inr said)) = subst (λ some. AddsAnswer some old (record { yes = old.yes; no = old.no + 1; undecided = old.undecided })) (sym said.1) (adds_no_sizes old said.0)

-- no instance was tallied yet
pub tally_none : (lang : LanguageView) (chosen : Option ClassName) → IsTally lang chosen [] (record { yes = 0; no = 0; undecided = 0 })
tally_none lang None = refl
tally_none lang (Some class) = (refl, refl, refl)

-- tallies of the same numbers
same_tally : (one other : Tally) → one.yes ≡ other.yes → one.no ≡ other.no → one.undecided ≡ other.undecided → one ≡ other
same_tally one other a b c =
    ap (λ n. record { yes = n; no = one.no; undecided = one.undecided }) a
    ∙ (ap (λ n. record { yes = other.yes; no = n; undecided = one.undecided }) b
    ∙ ap (λ n. record { yes = other.yes; no = other.no; undecided = n }) c)

-- there is one tally
pub tally_once : (lang : LanguageView) (chosen : Option ClassName) (instances : List InstanceView) (one other : Tally) → IsTally lang chosen instances one → IsTally lang chosen instances other → one ≡ other
tally_once lang None instances one other is also = is ∙ sym also
tally_once lang (Some class) instances one other is also =
    same_tally one other
    (counts_once (HasSolution lang) instances one.yes other.yes is.0 also.0)
    (counts_once (HasNoSolution lang) instances one.no other.no is.1 also.1)
    (is.2 ∙ sym also.2)

-- and each instance is one of the three
pub tally_all : (lang : LanguageView) (chosen : Option ClassName) (instances : List InstanceView) (tally : Tally) → IsTally lang chosen instances tally → tally.yes + tally.no + tally.undecided ≡ length instances
tally_all lang None instances tally is = omega (arith, ap (λ t. t.yes + t.no + t.undecided) is)
tally_all lang (Some class) instances tally is =
    let all = counts_all (HasSolution lang) (HasNoSolution lang) instances tally.yes tally.no (λ inst no assignment solution. no (assignment, solution)) (λ inst has none. none has.0 has.1) is.0 is.1 in
    omega (arith, all, is.2)
