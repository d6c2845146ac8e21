use Rattle.std.proofs.Common.{length}
use Rattle.serve_sockets.proofs.screen.Screen.ends_telegram.Given as goal

abbrev pub decreases-loop-cut : goal.decreases-loop-cut
decreases-loop-cut l = length l.self.cutter
