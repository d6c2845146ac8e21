use Rattle.serve_sockets.proofs.Screening.{reads_first}
use Rattle.serve_sockets.proofs.screened.ScreenedRead.read.Goals as goal

pub returns-clause-bytes : goal.returns-clause-bytes
returns-clause-bytes g c =
    rw (c.hand_on-2.ensures.first, c.hand_on-2.ensures.reader, c.hand_on-2.ensures.given)
    (reads_first _ _ _ _ _ _ c.in_ok-read_first.ensures.kept c.hand_on-2.ensures.count c.hand_on-2.ensures.octets c.in_ok-read_first.ensures.within c.in_ok-read_first.ensures.end)
