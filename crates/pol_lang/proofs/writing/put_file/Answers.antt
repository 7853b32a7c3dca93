use Rattle.std.proofs.Common.{◌≡◌, List, ℕ, [], ◌∷◌, ◌++◌, codes, decimal, flat_map, refl, Some}
use Rattle.pol_text.specs.Texts.{joined, printed_line}
use Rattle.pol_text.proofs.TextLemmas.{joined-parts, puts_cut, puts_last, puts_stopped, puts_then}
use Rattle.pol_lang.specs.Files.{FileView}
use Rattle.pol_lang.specs.Spelling.{instance_lines}
use Rattle.pol_lang.specs.Texts.{relation_lines, file_text}
use Rattle.pol_lang.proofs.writing.put_file.Goals as goal

abbrev front : FileView → List ℕ
front file = printed_line (codes "polyanna" ∷ codes "1" ∷ []) ++ printed_line (codes "domain" ∷ decimal file.language.domain ∷ [])

abbrev relations : FileView → List ℕ
relations file = joined printed_line (flat_map relation_lines file.language.relations)

abbrev instances : FileView → List ℕ
instances file = joined printed_line (flat_map (instance_lines file.language) file.instances)

parts : (file : FileView) → file_text file ≡ front file ++ (relations file ++ (instances file ++ codes "end\n"))
parts file = joined-parts printed_line (codes "polyanna" ∷ codes "1" ∷ []) (codes "domain" ∷ decimal file.language.domain ∷ []) (codes "end" ∷ []) (flat_map relation_lines file.language.relations) (flat_map (instance_lines file.language) file.instances)

pub returns-in_err-put_front : goal.returns-in_err-put_front
returns-in_err-put_front c =
    let file = c.args.file.now in
    record { puts = rw (parts file) (puts_stopped _ _ _ _ c.from_residual.ensures.0 (puts_cut _ _ (front file) _ c.in_err-put_front.ensures.puts)) }

pub returns-in_err-put_relations : goal.returns-in_err-put_relations
returns-in_err-put_relations c =
    let file = c.args.file.now in
    record { puts = rw (parts file) (puts_then _ (Some _) (Some _) (Some _) (front file) _ c.in_ok-put_front.ensures.puts (puts_stopped _ _ _ _ c.from_residual-in_err-put_relations.ensures.0 (puts_cut _ _ (relations file) _ c.in_err-put_relations.ensures.puts))) }

pub returns-in_err-put_instances : goal.returns-in_err-put_instances
returns-in_err-put_instances c =
    let file = c.args.file.now in
    record { puts = rw (parts file) (puts_then _ (Some _) (Some _) (Some _) (front file) _ c.in_ok-put_front.ensures.puts (puts_then _ (Some _) (Some _) (Some _) (relations file) _ c.in_ok-put_relations.ensures.puts (puts_stopped _ _ _ _ c.from_residual-in_err-put_instances.ensures.0 (puts_cut _ _ (instances file) (codes "end\n") c.in_err-put_instances.ensures.puts)))) }

pub returns : goal.returns
returns c =
    let file = c.args.file.now in
    record { puts = rw (parts file) (puts_then _ (Some _) (Some _) (Some _) (front file) _ c.in_ok-put_front.ensures.puts (puts_then _ (Some _) (Some _) (Some _) (relations file) _ c.in_ok-put_relations.ensures.puts (puts_last _ _ _ _ (instances file) (codes "end\n") _ c.in_ok-put_instances.ensures.puts c.append.ensures.ok c.append.ensures.err refl))) }
