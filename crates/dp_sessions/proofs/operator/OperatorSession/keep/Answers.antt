use Rattle.std.proofs.Common.{sym, ◌∙◌}
use Rattle.std.proofs.lemmas.Bool.{eqb-true}
use Rattle.dp_sessions.proofs.Operating.{kept_full, kept_room, short_of}
use Rattle.dp_sessions.proofs.operator.OperatorSession.keep.Goals as goal

pub returns-then-not-is_full-clause-begun : goal.returns-then-not-is_full-clause-begun
returns-then-not-is_full-clause-begun c =
    c.push.ensures.items ∙ kept_room c.args.self.now.begun.items c.args.octet (short_of c.args.self.now.begun.items c.is_full.ensures.fits (sym c.if-not-is_full.ensures.value))

pub returns-else-not-is_full-clause-begun : goal.returns-else-not-is_full-clause-begun
returns-else-not-is_full-clause-begun c =
    kept_full c.args.self.now.begun.items c.args.octet (eqb-true _ 1025 (sym c.if-not-is_full.ensures.value))
