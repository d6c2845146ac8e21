use Rattle.std.proofs.Common.{Option, sym, ap, ◌∙◌}
use Rattle.dp_sap.specs.AccessTable.{access_row, is_listed}
use Rattle.dp_sap.specs.declared.point.Point.{Point}
use Rattle.dp_responder.specs.Rules.{first_row}
use Rattle.dp_responder.specs.Judgement.{refusal_rows}
use Rattle.dp_responder.proofs.Refusals.{on_is}
use Rattle.dp_responder.proofs.judgement.refusal.Goals as goal

pub returns-clause-rule : goal.returns-clause-rule
returns-clause-rule c = c.refusal_at.ensures.rule ∙ sym (ap (λ (row : Option Point). first_row (refusal_rows row (is_listed c.args.points.now c.args.parts.now.dsap c.args.sender) c.args.sender c.args.fc c.args.parts.now.payload.items)) (on_is (access_row c.args.points.now c.args.parts.now.dsap) c.find-point.result (sym c.if-not-point.false ∙ rw c.dsap.ensures at c.find-point.ensures.active) (rw c.dsap.ensures at c.find-point.ensures.on)))
