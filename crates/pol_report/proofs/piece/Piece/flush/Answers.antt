use Rattle.std.proofs.Common.{◌∙◌, arith}
use Rattle.std.proofs.KnownBytes.{Keeps-trans}
use Rattle.pol_report.proofs.PieceLemmas.{known_length-grown, piece_bytes-moved}
use Rattle.pol_report.proofs.piece.Piece.flush.Goals as goal

-- what the sink took is held no more
pub loop-self-preserved : goal.loop-self-preserved
loop-self-preserved g c =
    let took = rw (c.split_at.ensures.back, c.as_slice.ensures.value) at c.in-Ok.ensures.bytes in
    let grown = known_length-grown _ _ _ took in
    record {
      place = c.loop-self.invariant.place;
      bytes = Keeps-trans _ _ _ c.loop-self.invariant.bytes (piece_bytes-moved _ _ c.loop-self.self.from c.in-Ok.count c.loop-self.self.held.items took);
      sent = omega (arith, grown, c.loop-self.invariant.sent);
      calm = c.in-Ok.ensures.cause.succeeded ∙ c.loop-self.invariant.calm;
    }
