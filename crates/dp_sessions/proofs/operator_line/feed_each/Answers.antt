use Rattle.std.proofs.Common.{OnOk, refl, sym, subst, ◌∙◌, arith}
use Rattle.dp_sessions.specs.Recording.{GainsRecorded}
use Rattle.dp_sessions.proofs.Feeding.{fed_all, fed_more, fed_start}
use Rattle.dp_sessions.proofs.RecordingLines.{and_gains, any_gains, any_then, either_gains, gains_none, if_err, ok_gains_as}
use Rattle.dp_sessions.proofs.operator_line.feed_each.Goals as goal

pub loop-slave-init : goal.loop-slave-init
loop-slave-init g c = record {
  ours = refl;
  number = refl;
  address = refl;
  fed = fed_start c.args.driven.now c.args.pass.now.view;
  room = omega arith;
  recorded = gains_none (g.G.Gate.recorded c.args.gate.now c.args.pass.now.line) c.args.pass.now.view c.args.pass.now.view refl;
  gains = any_gains _ _ _ (gains_none (g.G.Gate.recorded c.args.gate.now c.args.pass.now.line) c.args.pass.now.view c.args.pass.now.view refl);
}

pub loop-slave-preserved : goal.loop-slave-preserved
loop-slave-preserved g c =
    let counted = c.in-Some.ensures.cases.1 in record {
      ours = c.feed-fed.ensures.ours ∙ c.loop-slave.invariant.ours;
      number = c.feed-fed.ensures.number ∙ c.loop-slave.invariant.number;
      address = c.feed-fed.ensures.address ∙ c.loop-slave.invariant.address;
      fed =
          fed_more c.args.driven.now c.loop-slave.left.now c.in-Some.rest.now c.in-Some.slave.now c.args.pass.now.view c.loop-slave.pass.view c.feed-fed.new.pass.view
          c.loop-slave.count c.feed-fed.result.count c.in-Some.ensures.cases.0 c.loop-slave.invariant.fed c.feed-fed.ensures.fed;
      room = omega (arith, counted, c.feed-fed.ensures.most, c.loop-slave.invariant.room);
      recorded =
          subst (λ r. OnOk r (GainsRecorded (g.G.Gate.recorded c.args.gate.now c.args.pass.now.line) c.args.pass.now.view.receipts c.feed-fed.new.pass.view.receipts)) (sym c.and-recorded.ensures)
          (and_gains c.loop-slave.recorded c.feed-fed.result.recorded (g.G.Gate.recorded c.args.gate.now c.args.pass.now.line)
          c.args.pass.now.view.receipts c.loop-slave.pass.view.receipts c.feed-fed.new.pass.view.receipts c.loop-slave.invariant.recorded
          (ok_gains_as c.feed-fed.result.recorded (g.G.Gate.recorded c.args.gate.now) c.args.pass.now.line c.loop-slave.pass.line
          c.loop-slave.pass.view.receipts c.feed-fed.new.pass.view.receipts c.loop-slave.invariant.number c.feed-fed.ensures.recorded));
      gains =
          any_then c.args.pass.now.view.receipts c.loop-slave.pass.view.receipts c.feed-fed.new.pass.view.receipts c.loop-slave.invariant.gains
          (either_gains c.feed-fed.result.recorded (g.G.Gate.recorded c.args.gate.now c.loop-slave.pass.line) c.loop-slave.pass.view.receipts c.feed-fed.new.pass.view.receipts
          c.feed-fed.ensures.recorded c.feed-fed.ensures.unrecorded);
    }

pub returns-clause-fed : goal.returns-clause-fed
returns-clause-fed g c =
    fed_all c.args.driven.now c.loop-slave.left.now c.args.pass.now.view c.loop-slave.pass.view c.loop-slave.count c.in_default.ensures.cases c.loop-slave.invariant.fed

pub returns-clause-unrecorded : goal.returns-clause-unrecorded
returns-clause-unrecorded g c = if_err c.loop-slave.recorded c.loop-slave.invariant.gains
