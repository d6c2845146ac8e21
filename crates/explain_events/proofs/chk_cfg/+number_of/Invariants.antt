use Rattle.std.proofs.Common.{length}
use Rattle.explain_events.proofs.chk_cfg.+number_of.Given as goal

abbrev pub decreases-number_of : goal.decreases-number_of
decreases-number_of l = length l.own.now
