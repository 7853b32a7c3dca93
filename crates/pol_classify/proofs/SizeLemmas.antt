-- Operations of few arguments have few cells.
use Rattle.std.proofs.Common.{◌^◌, ◌≤◌, arith}
use Rattle.std.proofs.Math.Nat.{pow-le-pow_left}
use Rattle.pol_relation.specs.Relations.{LanguageView, IsLanguage}

-- tables of one argument on the domain of a language are small enough to be sought
pub few_of_one : (lang : LanguageView) → IsLanguage lang → lang.domain ^ 1 ≤ 4096
few_of_one lang is =
    let within = pow-le-pow_left is.domain_is.few 1 in
    omega arith

-- and so are tables of two
pub few_of_two : (lang : LanguageView) → IsLanguage lang → lang.domain ^ 2 ≤ 4096
few_of_two lang is =
    let within = pow-le-pow_left is.domain_is.few 2 in
    omega arith

-- of three
pub few_of_three : (lang : LanguageView) → IsLanguage lang → lang.domain ^ 3 ≤ 4096
few_of_three lang is =
    let within = pow-le-pow_left is.domain_is.few 3 in
    omega arith

-- and of four
pub few_of_four : (lang : LanguageView) → IsLanguage lang → lang.domain ^ 4 ≤ 4096
few_of_four lang is =
    let within = pow-le-pow_left is.domain_is.few 4 in
    omega arith
