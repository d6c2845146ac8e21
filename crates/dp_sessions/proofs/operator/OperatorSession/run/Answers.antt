use Rattle.std.proofs.Common.{rules, ◌≡◌, ℕ, ◌+◌, ◌<◌, List, length, take, refl, ap, ◌∙◌, arith, length-take}
use Rattle.arrayvec.specs.ArrayVec.{ArrayVec}
use Rattle.dp_sessions.specs.declared.session_end.SessionEnd.TheVariants as ends
use Rattle.rack_devices.specs.declared.driven_slave.DrivenSlave.{DrivenSlave}
use Rattle.dp_sessions.proofs.Listening.{breaks_off_as, ends_of_input, ends_of_read, ends_of_turns, ends_of_write, goes_on_as, operated_in, way_more, way_start}
use Rattle.dp_sessions.proofs.Exchanging.{consumed_none, keeps_same}
use Rattle.dp_sessions.proofs.RecordingLines.{gains_as, gains_none, gains_then, recorded_all, recorded_first, stops_off_as}
use Rattle.dp_sessions.proofs.operator.OperatorSession.run.Goals as goal

pub loop-made-init : goal.loop-made-init
loop-made-init g c = record {
  ours = refl;
  number = refl;
  address = refl;
  driven = refl;
  within = omega arith;
  counted = omega arith;
  way = way_start c.args.self.now.driven.items 0 c.args.self.now.begun.items c.args.pass.now.view (g.R.Read.remaining c.args.reader.now) (g.W.Write.contents c.args.writer.now) refl c.requires.empty;
  recorded = gains_none (g.G.Gate.recorded c.args.gate.now c.args.pass.now.line) c.args.pass.now.view c.args.pass.now.view refl;
}

pub returns-in-Ok-eq0-clause-operated : goal.returns-in-Ok-eq0-clause-operated
returns-in-Ok-eq0-clause-operated g c =
    let none : c.in-Ok-eq0.field-0 ≡ 0 = first_of (cc, omega (arith, c.in-Ok-eq0.field-0-is), omega (arith, c.in-Ok-eq0.field-0-test), search rules) in
    let bytes_read = rw none at c.in-Ok-eq0.ensures.bytes in
    let room : 0 < length c.read.new.buf = omega arith in
    operated_in ends.EndOfInput c.args.self.now.driven.items c.args.turns (c.loop-made.made + 1) c.args.pass.now.view c.loop-made.pass.view
    (g.R.Read.remaining c.args.reader.now) (g.R.Read.remaining c.read.new.reader) (g.W.Write.contents c.args.writer.now) (g.W.Write.contents c.loop-made.writer) (omega arith)
    (ends_of_input c.args.self.now.driven.items c.args.turns (c.loop-made.made + 1) c.loop-made.made c.loop-made.self.begun.items c.args.pass.now.view c.loop-made.pass.view
    (g.R.Read.remaining c.args.reader.now) (g.R.Read.remaining c.loop-made.reader) (g.R.Read.remaining c.read.new.reader) (g.W.Write.contents c.args.writer.now) (g.W.Write.contents c.loop-made.writer)
    c.loop-made.invariant.way bytes_read.0 (bytes_read.1 refl room))

pub loop-made-preserved : goal.loop-made-preserved
loop-made-preserved g c =
    let octets : List ℕ = take c.in-Ok.count c.read.new.buf in
    let some : 0 < length octets = omega (arith, length-take c.in-Ok.count c.read.new.buf, c.in-Ok.ensures.bound, c.in-Ok.count-test) in record {
      ours = c.pass_octets.ensures.same.table ∙ c.loop-made.invariant.ours;
      number = c.pass_octets.ensures.same.number ∙ c.loop-made.invariant.number;
      address = c.pass_octets.ensures.same.address ∙ c.loop-made.invariant.address;
      driven = c.pass_octets.ensures.driven ∙ c.loop-made.invariant.driven;
      within = omega arith;
      counted = omega (arith, c.read.ensures.counted, c.loop-made.invariant.counted);
      way =
          way_more c.args.self.now.driven.items c.loop-made.made (c.loop-made.made + 1) c.loop-made.self.begun.items c.pass_octets.new.self.begun.items octets
          c.args.pass.now.view c.loop-made.pass.view c.pass_octets.new.pass.view
          (g.R.Read.remaining c.args.reader.now) (g.R.Read.remaining c.loop-made.reader) (g.R.Read.remaining c.read.new.reader)
          (g.W.Write.contents c.args.writer.now) (g.W.Write.contents c.loop-made.writer) (g.W.Write.contents c.pass_octets.new.writer)
          refl c.loop-made.invariant.way c.in-Ok.ensures.bytes.0 some
          (goes_on_as c.args.self.now.driven.items c.loop-made.self.driven.items octets c.loop-made.self.begun.items c.pass_octets.new.self.begun.items
          c.loop-made.pass.view c.pass_octets.new.pass.view (g.W.Write.contents c.loop-made.writer) (g.W.Write.contents c.pass_octets.new.writer)
          (ap (λ (d : ArrayVec DrivenSlave). d.items) c.loop-made.invariant.driven) c.in-Ok-pass_octets.ensures.ok.served);
      recorded =
          gains_then (g.G.Gate.recorded c.args.gate.now c.args.pass.now.line) c.args.pass.now.view.receipts c.loop-made.pass.view.receipts c.pass_octets.new.pass.view.receipts c.loop-made.invariant.recorded
          (gains_as (g.G.Gate.recorded c.args.gate.now) c.args.pass.now.line c.loop-made.pass.line c.loop-made.pass.view.receipts c.pass_octets.new.pass.view.receipts
          c.loop-made.invariant.number c.in-Ok-pass_octets.ensures.ok.recorded);
    }

pub returns-in_default-clause-operated : goal.returns-in_default-clause-operated
returns-in_default-clause-operated g c =
    let octets : List ℕ = take c.in-Ok.count c.read.new.buf in
    operated_in ends.WriteFault c.args.self.now.driven.items c.args.turns (c.loop-made.made + 1) c.args.pass.now.view c.pass_octets.new.pass.view
    (g.R.Read.remaining c.args.reader.now) (g.R.Read.remaining c.read.new.reader) (g.W.Write.contents c.args.writer.now) (g.W.Write.contents c.pass_octets.new.writer) (omega arith)
    (ends_of_write c.args.self.now.driven.items c.args.turns (c.loop-made.made + 1) c.loop-made.made c.loop-made.self.begun.items octets
    c.args.pass.now.view c.loop-made.pass.view c.pass_octets.new.pass.view
    (g.R.Read.remaining c.args.reader.now) (g.R.Read.remaining c.loop-made.reader) (g.R.Read.remaining c.read.new.reader)
    (g.W.Write.contents c.args.writer.now) (g.W.Write.contents c.loop-made.writer) (g.W.Write.contents c.pass_octets.new.writer)
    c.loop-made.invariant.way c.in-Ok.ensures.bytes.0
    (breaks_off_as c.args.self.now.driven.items c.loop-made.self.driven.items octets c.loop-made.self.begun.items
    c.loop-made.pass.view c.pass_octets.new.pass.view (g.W.Write.contents c.loop-made.writer) (g.W.Write.contents c.pass_octets.new.writer)
    (ap (λ (d : ArrayVec DrivenSlave). d.items) c.loop-made.invariant.driven) c.in_default.ensures.err.broken))

pub returns-in-Err-clause-operated : goal.returns-in-Err-clause-operated
returns-in-Err-clause-operated g c =
    operated_in ends.ReadFault c.args.self.now.driven.items c.args.turns (c.loop-made.made + 1) c.args.pass.now.view c.loop-made.pass.view
    (g.R.Read.remaining c.args.reader.now) (g.R.Read.remaining c.read.new.reader) (g.W.Write.contents c.args.writer.now) (g.W.Write.contents c.loop-made.writer) (omega arith)
    (ends_of_read c.args.self.now.driven.items c.args.turns (c.loop-made.made + 1) c.loop-made.made c.loop-made.self.begun.items c.args.pass.now.view c.loop-made.pass.view
    (g.R.Read.remaining c.args.reader.now) (g.R.Read.remaining c.loop-made.reader) (g.R.Read.remaining c.read.new.reader) (g.W.Write.contents c.args.writer.now) (g.W.Write.contents c.loop-made.writer)
    c.loop-made.invariant.way c.in-Err.ensures.bytes)

pub returns-clause-operated : goal.returns-clause-operated
returns-clause-operated g c =
    operated_in ends.TurnLimit c.args.self.now.driven.items c.args.turns c.loop-made.made c.args.pass.now.view c.loop-made.pass.view
    (g.R.Read.remaining c.args.reader.now) (g.R.Read.remaining c.loop-made.reader) (g.W.Write.contents c.args.writer.now) (g.W.Write.contents c.loop-made.writer) c.loop-made.invariant.within
    (ends_of_turns c.args.self.now.driven.items c.args.turns c.loop-made.made c.loop-made.self.begun.items c.args.pass.now.view c.loop-made.pass.view
    (g.R.Read.remaining c.args.reader.now) (g.R.Read.remaining c.loop-made.reader) (g.W.Write.contents c.args.writer.now) (g.W.Write.contents c.loop-made.writer)
    c.loop-made.invariant.way c.loop-made.invariant.within (omega arith))

pub returns-in-Ok-eq0-clause-recorded : goal.returns-in-Ok-eq0-clause-recorded
returns-in-Ok-eq0-clause-recorded g c =
    let none : c.in-Ok-eq0.field-0 ≡ 0 = first_of (cc, omega (arith, c.in-Ok-eq0.field-0-is), omega (arith, c.in-Ok-eq0.field-0-test), search rules) in
    let bytes_read = rw none at c.in-Ok-eq0.ensures.bytes in
    recorded_all ends.EndOfInput c.args.self.now.driven.items (g.G.Gate.recorded c.args.gate.now c.args.pass.now.line) c.loop-made.made c.loop-made.self.begun.items c.args.pass.now.view c.loop-made.pass.view
    (g.R.Read.remaining c.args.reader.now) (g.R.Read.remaining c.loop-made.reader) (g.R.Read.remaining c.read.new.reader) (g.W.Write.contents c.args.writer.now) (g.W.Write.contents c.loop-made.writer)
    c.loop-made.invariant.way c.loop-made.invariant.recorded (consumed_none (g.R.Read.remaining c.loop-made.reader) (g.R.Read.remaining c.read.new.reader) bytes_read.0)

pub returns-in_default-clause-recorded : goal.returns-in_default-clause-recorded
returns-in_default-clause-recorded g c =
    let octets : List ℕ = take c.in-Ok.count c.read.new.buf in
    recorded_first c.args.self.now.driven.items (g.G.Gate.recorded c.args.gate.now c.args.pass.now.line) c.loop-made.made c.loop-made.self.begun.items octets
    c.args.pass.now.view c.loop-made.pass.view c.pass_octets.new.pass.view
    (g.R.Read.remaining c.args.reader.now) (g.R.Read.remaining c.loop-made.reader) (g.R.Read.remaining c.read.new.reader)
    (g.W.Write.contents c.args.writer.now) (g.W.Write.contents c.loop-made.writer) (g.W.Write.contents c.pass_octets.new.writer)
    c.loop-made.invariant.way c.loop-made.invariant.recorded c.in-Ok.ensures.bytes.0
    (stops_off_as c.args.self.now.driven.items c.loop-made.self.driven.items (g.G.Gate.recorded c.args.gate.now) c.args.pass.now.line c.loop-made.pass.line octets c.loop-made.self.begun.items
    c.loop-made.pass.view c.pass_octets.new.pass.view (g.W.Write.contents c.loop-made.writer) (g.W.Write.contents c.pass_octets.new.writer)
    (ap (λ (d : ArrayVec DrivenSlave). d.items) c.loop-made.invariant.driven) c.loop-made.invariant.number c.in_default.ensures.err.recorded)

pub returns-in-Err-clause-recorded : goal.returns-in-Err-clause-recorded
returns-in-Err-clause-recorded g c =
    recorded_all ends.ReadFault c.args.self.now.driven.items (g.G.Gate.recorded c.args.gate.now c.args.pass.now.line) c.loop-made.made c.loop-made.self.begun.items c.args.pass.now.view c.loop-made.pass.view
    (g.R.Read.remaining c.args.reader.now) (g.R.Read.remaining c.loop-made.reader) (g.R.Read.remaining c.read.new.reader) (g.W.Write.contents c.args.writer.now) (g.W.Write.contents c.loop-made.writer)
    c.loop-made.invariant.way c.loop-made.invariant.recorded c.in-Err.ensures.bytes

pub returns-clause-recorded : goal.returns-clause-recorded
returns-clause-recorded g c =
    recorded_all ends.TurnLimit c.args.self.now.driven.items (g.G.Gate.recorded c.args.gate.now c.args.pass.now.line) c.loop-made.made c.loop-made.self.begun.items c.args.pass.now.view c.loop-made.pass.view
    (g.R.Read.remaining c.args.reader.now) (g.R.Read.remaining c.loop-made.reader) (g.R.Read.remaining c.loop-made.reader) (g.W.Write.contents c.args.writer.now) (g.W.Write.contents c.loop-made.writer)
    c.loop-made.invariant.way c.loop-made.invariant.recorded (keeps_same (g.R.Read.remaining c.loop-made.reader))
