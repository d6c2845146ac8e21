use Rattle.std.proofs.Common.{◌++◌}
use Rattle.embedded_rack.proofs.Passing.{passed_in_turn}
use Rattle.embedded_rack.proofs.stream_laws.pieces_of_a_stream_do_not_matter.Goals as goal

pub returns : goal.returns
returns c = λ journal stream first later.
    passed_in_turn journal stream first later
    (c.later_octets_change_no_piece.ensures.cuts (stream.held ++ first) later) (c.later_octets_change_no_piece.ensures.rest (stream.held ++ first) later)
