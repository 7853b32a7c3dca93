-- Texts that the grammar accepts, and what it reads them as, computed by the definitions.
use Rattle.std.specs.Prelude.{◌≡◌, refl, [], ◌∷◌, codes, Some, None, Ok}
use Rattle.std.specs.Fmt.{digits}
use Rattle.pol_lang.specs.Files.{Parsed}
use Rattle.pol_lang.specs.Grammar.{parse, extra, header_line, domain_line, relation_line, begun_relation, with_tuple, tuple_line, language_line, instance_line, with_scope, constraint_line, entry_line}
use Rattle.pol_lang.specs.Texts.{file_text}

-- neither relations nor instances
small_is_read : parse (codes "polyanna 1\ndomain 2\nend\n") ≡ Ok (record { file = record { language = record { domain = 2; relations = [] }; instances = [] }; place = 24; line = 4 })
unfolding parse header_line domain_line
small_is_read = refl

-- comments, blanks, leading zeros, a CR, a repeated tuple, and no LF at the end
unequal_is_read : parse (codes "polyanna 1\n# two values\n\tdomain  2 \r\nrelation neq 2\ntuple 1 0\ntuple 00 1\ntuple 1 0\nend") ≡ Ok (record { file = record { language = record { domain = 2; relations = record { name = codes "neq"; relation = record { domain = 2; arity = 2; rows = (0 ∷ 1 ∷ []) ∷ (1 ∷ 0 ∷ []) ∷ [] } } ∷ [] }; instances = [] }; place = 86; line = 9 })
unfolding parse header_line domain_line relation_line begun_relation with_tuple tuple_line language_line entry_line
unequal_is_read = refl

abbrev path : Parsed
path = record { file = record { language = record { domain = 2; relations = record { name = codes "neq"; relation = record { domain = 2; arity = 2; rows = (0 ∷ 1 ∷ []) ∷ (1 ∷ 0 ∷ []) ∷ [] } } ∷ record { name = codes "zero"; relation = record { domain = 2; arity = 1; rows = (0 ∷ []) ∷ [] } } ∷ [] }; instances = record { name = codes "p"; variables = codes "x" ∷ codes "y" ∷ []; constraints = record { relation = 1; scope = 0 ∷ [] } ∷ record { relation = 0; scope = 0 ∷ 1 ∷ [] } ∷ [] } ∷ [] }; place = 135; line = 12 }

path_is_read : parse (codes "polyanna 1\ndomain 2\nrelation neq 2\ntuple 1 0\ntuple 0 1\nrelation zero 1\ntuple 0\ninstance p x y\nconstraint zero x\nconstraint neq x y\nend\n") ≡ Ok path
unfolding parse header_line domain_line relation_line begun_relation with_tuple tuple_line language_line instance_line with_scope constraint_line entry_line
path_is_read = refl

path_is_written : file_text path.file ≡ codes "polyanna 1\ndomain 2\nrelation neq 2\ntuple 0 1\ntuple 1 0\nrelation zero 1\ntuple 0\ninstance p x y\nconstraint zero x\nconstraint neq x y\nend\n"
unfolding digits
path_is_written = refl

-- ---- behind the `end` line

-- the lines there are not looked at
end_is_read : parse (codes "polyanna 1\ndomain 2\nend\nend 1\n") ≡ Ok (record { file = record { language = record { domain = 2; relations = [] }; instances = [] }; place = 24; line = 4 })
unfolding parse header_line domain_line
end_is_read = refl

nothing_more : extra (codes "polyanna 1\ndomain 2\nend\n\n # done\n") 24 4 ≡ None
unfolding extra
nothing_more = refl

one_line_more : extra (codes "polyanna 1\ndomain 2\nend\n# done\nend\n") 24 4 ≡ Some 5
unfolding extra
one_line_more = refl
