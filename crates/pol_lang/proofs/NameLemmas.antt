-- The name of an instance, looked up among the names of its file.
use Rattle.std.proofs.Common.{◌≡◌, ℕ, List, [], Option, Some, None, Contains, ◌<◌, length, get_or, map, arith, sym, ◌∙◌}
use Rattle.std.specs.Prelude.{IfSome, IfNone}
use Rattle.std.proofs.lemmas.List.{length-map, get_or-map}
use Rattle.pol_base.specs.Lists.{place_in}
use Rattle.pol_base.proofs.LookupLemmas.{IsLookup, lookup-place_in, AllPairs-map}
use Rattle.pol_relation.specs.Instances.{InstanceView}
use Rattle.pol_lang.specs.Files.{FileView, IsFile, instance_names, instance_of, no_instance}

-- no instance of the list has the name
pub absent_instance : (instances : List InstanceView) (name : List ℕ) → ((k : ℕ) → k < length instances → ¬ (get_or instances k no_instance).name ≡ name) → ¬ Contains (map (λ inst. inst.name) instances) name
absent_instance instances name none inside =
    let within : inside.0 < length instances = let small = inside.1 in omega (arith, length-map instances (λ inst. inst.name)) in
    none inside.0 within (sym (get_or-map (λ inst. inst.name) instances inside.0 no_instance name within) ∙ inside.2)

-- the look-up of an instance's name
pub instance-lookup : (file : FileView) (name : List ℕ) (found : Option ℕ) → IfSome found (λ i. i < length file.instances) → IfSome found (λ i. (instance_of file i).name ≡ name) → IfNone found (¬ Contains (instance_names file) name) → IsLookup (instance_names file) name found
instance-lookup file name (Some i) known same absent = record { known = omega (arith, length-map file.instances (λ inst. inst.name)); same = get_or-map (λ inst. inst.name) file.instances i no_instance [] known ∙ same; absent = tt }
instance-lookup file name None known same absent = record { known = tt; same = tt; absent = absent }

-- the names of a file's instances are distinct, so the instance that is found is the first of the name
pub lookup-instance : (file : FileView) (name : List ℕ) (found : Option ℕ) → IsFile file → IsLookup (instance_names file) name found → found ≡ place_in (instance_names file) name
lookup-instance file name found is lookup = lookup-place_in (instance_names file) name found (AllPairs-map (λ inst. inst.name) file.instances no_instance is.distinct) lookup
