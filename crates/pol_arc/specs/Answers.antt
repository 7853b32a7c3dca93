-- What arc consistency promises of its answer.
use Rattle.std.specs.Prelude.{◌≢◌, All, ⊤}
use Rattle.pol_relation.specs.Relations.{LanguageView}
use Rattle.pol_relation.specs.Instances.{InstanceView}
use Rattle.pol_nogood.specs.Answers.{IsCertificate}
use Rattle.pol_arc.specs.Arcs.{IsArcMasks, IsWiped}
use Rattle.pol_arc.specs.declared.consistency.Consistency.{Consistency}
use Rattle.pol_arc.specs.declared.consistency.Consistency.TheVariants as answer

-- the masks are the greatest arc-consistent ones, and each has a value
abbrev pub DomainsAreGreatest : LanguageView → InstanceView → Consistency → Type 0
DomainsAreGreatest lang inst (answer.Domains masks) = IsArcMasks lang inst masks × All (λ m. m ≢ 0) masks
DomainsAreGreatest lang inst (answer.Wiped log) = ⊤

-- a log comes only where some variable has no value in any arc-consistent masks
abbrev pub WipedOnlyWhereEmpty : LanguageView → InstanceView → Consistency → Type 0
WipedOnlyWhereEmpty lang inst (answer.Domains masks) = ⊤
WipedOnlyWhereEmpty lang inst (answer.Wiped log) = IsWiped lang inst

-- the log is valid, and has pairwise different nogoods of at most one pair
abbrev pub WipedHasCertificate : LanguageView → InstanceView → Consistency → Type 0
WipedHasCertificate lang inst (answer.Domains masks) = ⊤
WipedHasCertificate lang inst (answer.Wiped log) = IsCertificate 1 lang inst log
