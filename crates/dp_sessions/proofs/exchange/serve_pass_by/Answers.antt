use Rattle.std.proofs.Common.{rules, ◌≡◌, ℕ, ◌+◌, ◌<◌, List, length, take, refl, ◌∙◌, arith, length-take}
use Rattle.dp_sessions.specs.declared.session_end.SessionEnd.TheVariants as ends
use Rattle.dp_sessions.proofs.Reading.{ends_of_input, ends_of_read, ends_of_turns, ends_of_write, exchanged_in, way_more, way_start}
use Rattle.dp_sessions.proofs.Recording.{replies_as, replies_none, replies_then, stops_as, stops_then, writes_all, writes_stopped}
use Rattle.dp_sessions.proofs.exchange.serve_pass_by.Goals as goal

pub loop-made-init : goal.loop-made-init
loop-made-init g c = record {
  ours = refl;
  number = refl;
  address = refl;
  most = rw c.new-cutter.ensures (omega arith);
  within = omega arith;
  counted = omega arith;
  way = way_start c.args.pass.now.view.address 0 c.new-cutter.result c.args.pass.now.view (g.R.Read.remaining c.args.reader.now) (g.W.Write.contents c.args.writer.now) refl c.new-cutter.ensures;
  replies = replies_none (g.G.Gate.recorded c.args.gate.now c.args.pass.now.line) c.args.pass.now.view.receipts (g.W.Write.contents c.args.writer.now);
}

pub returns-in-Ok-eq0-clause-exchanged : goal.returns-in-Ok-eq0-clause-exchanged
returns-in-Ok-eq0-clause-exchanged g c =
    let none : c.in-Ok-eq0.field-0 ≡ 0 = first_of (cc, omega (arith, c.in-Ok-eq0.field-0-is), omega (arith, c.in-Ok-eq0.field-0-test), search rules) in
    let bytes_read = rw none at c.in-Ok-eq0.ensures.bytes in
    let room : 0 < length c.read.new.buf = omega arith in
    exchanged_in ends.EndOfInput c.args.turns (c.loop-made.made + 1) c.args.pass.now.view c.loop-made.pass.view
    (g.R.Read.remaining c.args.reader.now) (g.R.Read.remaining c.read.new.reader) (g.W.Write.contents c.args.writer.now) (g.W.Write.contents c.loop-made.writer) (omega arith)
    (ends_of_input c.args.pass.now.view.address c.args.turns (c.loop-made.made + 1) c.loop-made.made c.loop-made.cutter c.args.pass.now.view c.loop-made.pass.view
    (g.R.Read.remaining c.args.reader.now) (g.R.Read.remaining c.loop-made.reader) (g.R.Read.remaining c.read.new.reader) (g.W.Write.contents c.args.writer.now) (g.W.Write.contents c.loop-made.writer)
    c.cut_and_computation_agree.ensures.whole c.loop-made.invariant.way bytes_read.0 (bytes_read.1 refl room))

pub loop-made-preserved : goal.loop-made-preserved
loop-made-preserved g c =
    let octets : List ℕ = take c.in-Ok.count c.read.new.buf in
    let some : 0 < length octets = omega (arith, length-take c.in-Ok.count c.read.new.buf, c.in-Ok.ensures.bound, c.in-Ok.count-test) in record {
      ours = c.pass_octets.ensures.same.table ∙ c.loop-made.invariant.ours;
      number = c.pass_octets.ensures.same.number ∙ c.loop-made.invariant.number;
      address = c.pass_octets.ensures.same.address ∙ c.loop-made.invariant.address;
      most = c.in-Ok-pass_octets.ensures.ok.most;
      within = omega arith;
      counted = omega (arith, c.read.ensures.counted, c.loop-made.invariant.counted);
      way =
          way_more c.args.pass.now.view.address c.loop-made.pass.view.address c.loop-made.made (c.loop-made.made + 1) c.loop-made.cutter c.pass_octets.new.cutter octets
          c.args.pass.now.view c.loop-made.pass.view c.pass_octets.new.pass.view
          (g.R.Read.remaining c.args.reader.now) (g.R.Read.remaining c.loop-made.reader) (g.R.Read.remaining c.read.new.reader)
          (g.W.Write.contents c.args.writer.now) (g.W.Write.contents c.loop-made.writer) (g.W.Write.contents c.pass_octets.new.writer)
          c.loop-made.invariant.address refl c.loop-made.invariant.way c.in-Ok.ensures.bytes.0 some c.in-Ok-pass_octets.ensures.ok.served c.in-Ok-pass_octets.ensures.ok.rest;
      replies =
          replies_then (g.G.Gate.recorded c.args.gate.now c.args.pass.now.line) c.args.pass.now.view.receipts c.loop-made.pass.view.receipts c.pass_octets.new.pass.view.receipts
          (g.W.Write.contents c.args.writer.now) (g.W.Write.contents c.loop-made.writer) (g.W.Write.contents c.pass_octets.new.writer) c.loop-made.invariant.replies
          (replies_as (g.G.Gate.recorded c.args.gate.now) c.args.pass.now.line c.loop-made.pass.line c.loop-made.pass.view.receipts c.pass_octets.new.pass.view.receipts
          (g.W.Write.contents c.loop-made.writer) (g.W.Write.contents c.pass_octets.new.writer) c.loop-made.invariant.number c.in-Ok-pass_octets.ensures.ok.recorded);
    }

pub returns-in_default-clause-exchanged : goal.returns-in_default-clause-exchanged
returns-in_default-clause-exchanged g c =
    let octets : List ℕ = take c.in-Ok.count c.read.new.buf in
    exchanged_in ends.WriteFault c.args.turns (c.loop-made.made + 1) c.args.pass.now.view c.pass_octets.new.pass.view
    (g.R.Read.remaining c.args.reader.now) (g.R.Read.remaining c.read.new.reader) (g.W.Write.contents c.args.writer.now) (g.W.Write.contents c.pass_octets.new.writer) (omega arith)
    (ends_of_write c.args.pass.now.view.address c.loop-made.pass.view.address c.args.turns (c.loop-made.made + 1) c.loop-made.made c.loop-made.cutter octets
    c.args.pass.now.view c.loop-made.pass.view c.pass_octets.new.pass.view
    (g.R.Read.remaining c.args.reader.now) (g.R.Read.remaining c.loop-made.reader) (g.R.Read.remaining c.read.new.reader)
    (g.W.Write.contents c.args.writer.now) (g.W.Write.contents c.loop-made.writer) (g.W.Write.contents c.pass_octets.new.writer)
    c.cut_and_computation_agree.ensures.whole c.loop-made.invariant.address c.loop-made.invariant.way c.in-Ok.ensures.bytes.0 c.in_default.ensures.err.broken)

pub returns-in-Err-clause-exchanged : goal.returns-in-Err-clause-exchanged
returns-in-Err-clause-exchanged g c =
    exchanged_in ends.ReadFault c.args.turns (c.loop-made.made + 1) c.args.pass.now.view c.loop-made.pass.view
    (g.R.Read.remaining c.args.reader.now) (g.R.Read.remaining c.read.new.reader) (g.W.Write.contents c.args.writer.now) (g.W.Write.contents c.loop-made.writer) (omega arith)
    (ends_of_read c.args.pass.now.view.address c.args.turns (c.loop-made.made + 1) c.loop-made.made c.loop-made.cutter c.args.pass.now.view c.loop-made.pass.view
    (g.R.Read.remaining c.args.reader.now) (g.R.Read.remaining c.loop-made.reader) (g.R.Read.remaining c.read.new.reader) (g.W.Write.contents c.args.writer.now) (g.W.Write.contents c.loop-made.writer)
    c.cut_and_computation_agree.ensures.whole c.loop-made.invariant.way c.in-Err.ensures.bytes)

pub returns-clause-exchanged : goal.returns-clause-exchanged
returns-clause-exchanged g c =
    exchanged_in ends.TurnLimit c.args.turns c.loop-made.made c.args.pass.now.view c.loop-made.pass.view
    (g.R.Read.remaining c.args.reader.now) (g.R.Read.remaining c.loop-made.reader) (g.W.Write.contents c.args.writer.now) (g.W.Write.contents c.loop-made.writer) c.loop-made.invariant.within
    (ends_of_turns c.args.pass.now.view.address c.args.turns c.loop-made.made c.loop-made.cutter c.args.pass.now.view c.loop-made.pass.view
    (g.R.Read.remaining c.args.reader.now) (g.R.Read.remaining c.loop-made.reader) (g.W.Write.contents c.args.writer.now) (g.W.Write.contents c.loop-made.writer)
    c.cut_and_computation_agree.ensures.whole c.loop-made.invariant.way c.loop-made.invariant.within (omega arith))

pub returns-in-Ok-eq0-clause-recorded : goal.returns-in-Ok-eq0-clause-recorded
returns-in-Ok-eq0-clause-recorded g c =
    writes_all (g.G.Gate.recorded c.args.gate.now c.args.pass.now.line) c.args.pass.now.view.receipts c.loop-made.pass.view.receipts
    (g.W.Write.contents c.args.writer.now) (g.W.Write.contents c.loop-made.writer) ends.EndOfInput c.loop-made.invariant.replies

pub returns-in_default-clause-recorded : goal.returns-in_default-clause-recorded
returns-in_default-clause-recorded g c =
    writes_stopped (g.G.Gate.recorded c.args.gate.now c.args.pass.now.line) c.args.pass.now.view.receipts c.pass_octets.new.pass.view.receipts
    (g.W.Write.contents c.args.writer.now) (g.W.Write.contents c.pass_octets.new.writer)
    (stops_then (g.G.Gate.recorded c.args.gate.now c.args.pass.now.line) c.args.pass.now.view.receipts c.loop-made.pass.view.receipts c.pass_octets.new.pass.view.receipts
    (g.W.Write.contents c.args.writer.now) (g.W.Write.contents c.loop-made.writer) (g.W.Write.contents c.pass_octets.new.writer) c.loop-made.invariant.replies
    (stops_as (g.G.Gate.recorded c.args.gate.now) c.args.pass.now.line c.loop-made.pass.line c.loop-made.pass.view.receipts c.pass_octets.new.pass.view.receipts
    (g.W.Write.contents c.loop-made.writer) (g.W.Write.contents c.pass_octets.new.writer) c.loop-made.invariant.number c.in_default.ensures.err.recorded))

pub returns-in-Err-clause-recorded : goal.returns-in-Err-clause-recorded
returns-in-Err-clause-recorded g c =
    writes_all (g.G.Gate.recorded c.args.gate.now c.args.pass.now.line) c.args.pass.now.view.receipts c.loop-made.pass.view.receipts
    (g.W.Write.contents c.args.writer.now) (g.W.Write.contents c.loop-made.writer) ends.ReadFault c.loop-made.invariant.replies

pub returns-clause-recorded : goal.returns-clause-recorded
returns-clause-recorded g c =
    writes_all (g.G.Gate.recorded c.args.gate.now c.args.pass.now.line) c.args.pass.now.view.receipts c.loop-made.pass.view.receipts
    (g.W.Write.contents c.args.writer.now) (g.W.Write.contents c.loop-made.writer) ends.TurnLimit c.loop-made.invariant.replies
