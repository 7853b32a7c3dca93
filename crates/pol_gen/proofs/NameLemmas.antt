-- Names with numbers: a letter, and the decimal digits of a number behind it.
use Rattle.std.proofs.Common.{◌≡◌, ℕ, ◌+◌, ◌<◌, ◌≤◌, ◌^◌, List, [], ◌∷◌, ◌++◌, length, map, All, Contains, true, decimal, refl, sym, ◌∙◌, arith}
use Rattle.std.specs.Fmt.{digits}
use Rattle.std.specs.List.{list_all, range_with_len}
use Rattle.std.proofs.lemmas.Fmt.{decimal_injective}
use Rattle.std.proofs.lemmas.List.FromFn.{length-map-range_with_len, get_or-map-range_with_len, map-range_with_len_more}
use Rattle.pol_text.specs.Lines.{is_name}
use Rattle.pol_gen.proofs.RowLemmas.{All-from_list_all}
use Rattle.pol_gen.specs.Kinds.{instance_name, variable_name, variable_names, variables_of}
use Rattle.pol_gen.specs.declared.kinds.Kind.{Kind}
use Rattle.pol_gen.specs.declared.kinds.Kind.TheVariants.{Horn, TwoSat, Sums, Parity, Colours}

-- the letter, and the number behind it
abbrev numbered : ℕ → ℕ → List ℕ
numbered letter i = letter ∷ decimal i

-- a number that is not among those below it has another name
new_number : (letter i : ℕ) → i < 2 ^ 32 → ¬ Contains (map (numbered letter) (range_with_len 0 i)) (numbered letter i)
new_number letter i small inside =
    let below : inside.0 < i = let within = inside.1 in omega (arith, length-map-range_with_len (numbered letter) 0 i) in
    let there : numbered letter inside.0 ≡ numbered letter i = sym (get_or-map-range_with_len (numbered letter) 0 i inside.0 inside.0 (numbered letter i) below (omega arith)) ∙ inside.2 in
    let same : decimal inside.0 ≡ decimal i = cc in
    let e = decimal_injective inside.0 i (omega arith) (omega arith) same in
    omega arith

pub new_variable : (x : ℕ) → x < 2 ^ 32 → ¬ Contains (variable_names x) (variable_name x)
unfolding variable_names
new_variable x small = new_number 120 x small

pub new_instance : (i : ℕ) → i < 2 ^ 32 → ¬ Contains (map instance_name (range_with_len 0 i)) (instance_name i)
new_instance i small = new_number 105 i small

pub no_variables : variable_names 0 ≡ []
unfolding variable_names
no_variables = refl

pub variable_names_more : (x : ℕ) → variable_names (x + 1) ≡ variable_names x ++ variable_name x ∷ []
unfolding variable_names
variable_names_more x = map-range_with_len_more variable_name 0 x x (omega arith)

pub length-variable_names : (v : ℕ) → length (variable_names v) ≡ v
unfolding variable_names
length-variable_names v = length-map-range_with_len variable_name 0 v

all_named : (v : ℕ) → list_all is_name (variable_names v) ≡ true → All (λ x. is_name x ≡ true) (variable_names v)
all_named v passes = All-from_list_all is_name (λ x. is_name x ≡ true) (λ x e. e) (variable_names v) passes

pub variables_named : (kind : Kind) → All (λ x. is_name x ≡ true) (variable_names (variables_of kind))
unfolding variable_names digits
variables_named Horn = all_named 40 refl
variables_named TwoSat = all_named 40 refl
variables_named Sums = all_named 40 refl
variables_named Parity = all_named 20 refl
variables_named Colours = all_named 40 refl

pub some_variables : (kind : Kind) → 3 ≤ variables_of kind
some_variables Horn = omega arith
some_variables TwoSat = omega arith
some_variables Sums = omega arith
some_variables Parity = omega arith
some_variables Colours = omega arith

pub few_variables : (kind : Kind) → variables_of kind ≤ 40
few_variables Horn = omega arith
few_variables TwoSat = omega arith
few_variables Sums = omega arith
few_variables Parity = omega arith
few_variables Colours = omega arith

-- the names of the eight instances
all_instances_named : list_all is_name (map instance_name (range_with_len 0 8)) ≡ true
unfolding digits
all_instances_named = refl

pub instance_named : (i : ℕ) → i < 8 → is_name (instance_name i) ≡ true
instance_named i small =
    let names = map instance_name (range_with_len 0 8) in
    let all : All (λ x. is_name x ≡ true) names = All-from_list_all is_name (λ x. is_name x ≡ true) (λ x e. e) names all_instances_named in
    let named = all i (instance_name i) (omega (arith, length-map-range_with_len instance_name 0 8)) in
    rw (get_or-map-range_with_len instance_name 0 8 i i (instance_name i) small (omega arith)) at named
