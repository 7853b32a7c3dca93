-- The instances of a file are within the limits, and have their names.
use Rattle.std.proofs.Common.{◌≡◌, ℕ, ◌+◌, ◌<◌, ◌≤◌, List, [], ◌∷◌, ◌++◌, length, map, All, refl, ap₂, arith, length-append, add-one}
use Rattle.std.specs.Prelude.{nat_lt}
use Rattle.std.specs.List.{filter, range_with_len}
use Rattle.std.proofs.lemmas.Bool.{cond_both}
use Rattle.std.proofs.lemmas.List.Elements.{All-append, All-filter}
use Rattle.std.proofs.lemmas.List.FromFn.{length-map-range_with_len, map-range_with_len_more}
use Rattle.pol_relation.specs.Instances.{ConstraintView, InstanceView, FitsAt, IsInstance}
use Rattle.pol_lang.specs.Files.{FileView, IsFileInstance, CanTake, instance_names}
use Rattle.pol_gen.specs.Draws.{Drawn, draw_constraint, first_state}
use Rattle.pol_gen.specs.Kinds.{kind_of, language_of, variables_of, instance_name, variable_names}
use Rattle.pol_gen.specs.Files.{appended, draw_free, draw_hidden, draw_instance, draw_over, draw_planted, free_count, is_met, made_instance, planted_count, state_before, tries}
use Rattle.pol_gen.specs.declared.kinds.Kind.{Kind}
use Rattle.pol_gen.proofs.ConstraintLemmas.{appended-fits, draw_constraints-fit, length-appended, length-kept, sixty_tries}
use Rattle.pol_gen.proofs.DrawLemmas.{length-one_by_one}
use Rattle.pol_gen.proofs.LanguageLemmas.{some_relations}
use Rattle.pol_gen.proofs.NameLemmas.{few_variables, instance_named, length-variable_names, new_instance, some_variables, variables_named}

-- an instance of the kind, with the number, of few constraints that fit
pub record IsMade (kind : Kind) (i : ℕ) (inst : InstanceView) : Type 0 where
  pub name : inst.name ≡ instance_name i
  pub variables : inst.variables ≡ variable_names (variables_of kind)
  pub few : length inst.constraints ≤ 62
  pub fits : All (FitsAt (language_of kind) (variables_of kind)) inst.constraints

draw_over-fits : (kind : Kind) (count s : ℕ) → All (FitsAt (language_of kind) (variables_of kind)) (draw_over kind count s).drawn
draw_over-fits kind count s = draw_constraints-fit (language_of kind) count (variables_of kind) s (some_relations kind) (omega (arith, some_variables kind))

length-draw_over : (kind : Kind) (count s : ℕ) → length (draw_over kind count s).drawn ≡ count
length-draw_over kind count s = length-one_by_one (draw_constraint (language_of kind) (variables_of kind)) count s

IsMade-planted : (kind : Kind) (i s : ℕ) → IsMade kind i (draw_planted kind i s).drawn
IsMade-planted kind i s =
    let hidden = draw_hidden kind s in
    let tried : List ConstraintView = (draw_over kind tries hidden.state).drawn in
    let met : List ConstraintView = filter (is_met (language_of kind) hidden.drawn) tried in
    let fit = FitsAt (language_of kind) (variables_of kind) in
    record {
      name = refl;
      variables = refl;
      few = omega (arith, length-append met (appended kind i), length-kept (is_met (language_of kind) hidden.drawn) tried, length-draw_over kind tries hidden.state, length-appended kind i, sixty_tries);
      fits = All-append fit met (appended kind i) (All-filter (is_met (language_of kind) hidden.drawn) fit tried (draw_over-fits kind tries hidden.state)) (appended-fits kind i);
    }

IsMade-free : (kind : Kind) (count i s : ℕ) → count ≤ 60 → IsMade kind i (draw_free kind count i s).drawn
IsMade-free kind count i s few_of = record {
  name = refl;
  variables = refl;
  few = omega (arith, length-draw_over kind count s);
  fits = draw_over-fits kind count s;
}

few_free : (number : ℕ) → free_count number ≤ 60
few_free number = omega arith

pub IsMade-instance : (number i : ℕ) → IsMade (kind_of number) i (made_instance number i)
unfolding made_instance draw_instance
IsMade-instance number i =
    let kind = kind_of number in
    let s = state_before number i in
    cond_both (nat_lt i planted_count) (draw_planted kind i s) (draw_free kind (free_count number) i s) (λ (made : Drawn InstanceView). IsMade kind i made.drawn) (λ _. IsMade-planted kind i s) (λ _. IsMade-free kind (free_count number) i s (few_free number))

-- ---- one instance more

pub IsFileInstance-made : (kind : Kind) (i : ℕ) (inst : InstanceView) → i < 8 → IsInstance inst → IsMade kind i inst → IsFileInstance (language_of kind) inst
IsFileInstance-made kind i inst small is made =
    let long : length inst.variables ≡ variables_of kind = rw made.variables (length-variable_names (variables_of kind)) in
    record {
      is_instance = is;
      fits = rw long made.fits;
      name_is = rw made.name (instance_named i small);
      names_are = rw made.variables (variables_named kind);
      some_variables = omega (arith, long, some_variables kind);
      few_variables = omega (arith, long, few_variables kind);
      few_constraints = omega (arith, made.few);
    }

-- the instances so far
abbrev pub made_so_far : ℕ → ℕ → List InstanceView
made_so_far number i = map (made_instance number) (range_with_len 0 i)

same_names : (number : ℕ) (numbers : List ℕ) → map (λ inst. inst.name) (map (made_instance number) numbers) ≡ map instance_name numbers
same_names number [] = refl
same_names number (i ∷ numbers) = ap₂ (λ name names. name ∷ names) (IsMade-instance number i).name (same_names number numbers)

pub CanTake-next : (number i : ℕ) (file : FileView) → i < 8 → file.language ≡ language_of (kind_of number) → file.instances ≡ made_so_far number i → IsInstance (made_instance number i) → CanTake file (made_instance number i)
CanTake-next number i file small language instances is =
    let made = IsMade-instance number i in
    let names : instance_names file ≡ map instance_name (range_with_len 0 i) = rw instances (same_names number (range_with_len 0 i)) in
    record {
      is_file_instance = rw language (IsFileInstance-made (kind_of number) i (made_instance number i) small is made);
      new_name = rw (names, made.name) (new_instance i (omega arith));
      room = rw instances (rw (length-map-range_with_len (made_instance number) 0 i) small);
    }

pub one_more : (number i : ℕ) → made_so_far number (i + 1) ≡ made_so_far number i ++ made_instance number i ∷ []
one_more number i = map-range_with_len_more (made_instance number) 0 i i (omega arith)

-- what an instance is made from, and what is left behind it
pub made_from : (number i : ℕ) → (draw_instance number i (state_before number i)).drawn ≡ made_instance number i
unfolding made_instance
made_from number i = refl

pub state_behind : (number i : ℕ) → (draw_instance number i (state_before number i)).state ≡ state_before number (i + 1)
unfolding state_before
state_behind number i = rw add-one refl

pub first_behind : (number : ℕ) → first_state number ≡ state_before number 0
unfolding state_before
first_behind number = refl
