use Rattle.std.proofs.lemmas.Bool.{OnTrue_at, OnTrue_from, OnFalse_at, OnFalse_from}
use Rattle.pol_csp.specs.Words.{IsReadBy}
use Rattle.pol_csp.specs.Narrowing.{HasBit, Narrows, Rejects}
use Rattle.pol_csp.proofs.Narrowing.{narrows_refl, narrows_for}
use Rattle.pol_csp.proofs.Wording.{read_found}
use Rattle.pol_csp.proofs.row_words.RowWords.keep.Goals as goal

pub returns-then-not-is_open-clause-narrows : goal.returns-then-not-is_open-clause-narrows
returns-then-not-is_open-clause-narrows c =
    narrows_refl (IsReadBy c.args.self.now.rows c.args.word c.args.place c.args.cell) c.args.masks.now

pub returns-clause-wiped : goal.returns-clause-wiped
returns-clause-wiped c =
    OnFalse_from c.meet.result
    (Rejects (IsReadBy c.args.self.now.rows c.args.word c.args.place c.args.cell) c.args.masks.now)
    (λ no xs w read. OnFalse_at no c.meet.ensures.wiped xs w
    (read_found c.self.inside.relation.now c.args.self.now c.args.word c.args.place c.args.cell
    c.values_at-found.result xs c.self.view_is c.values_at-found.ensures.values read))

pub returns-clause-narrows : goal.returns-clause-narrows
returns-clause-narrows c =
    OnTrue_from c.meet.result
    (Narrows (IsReadBy c.args.self.now.rows c.args.word c.args.place c.args.cell) c.args.masks.now c.meet.new.masks)
    (λ yes. narrows_for (HasBit c.args.cell c.values_at-found.result)
    (IsReadBy c.args.self.now.rows c.args.word c.args.place c.args.cell) c.args.masks.now c.meet.new.masks
    (λ xs w read. read_found c.self.inside.relation.now c.args.self.now c.args.word c.args.place c.args.cell
    c.values_at-found.result xs c.self.view_is c.values_at-found.ensures.values read)
    (OnTrue_at yes c.meet.ensures.narrows))
