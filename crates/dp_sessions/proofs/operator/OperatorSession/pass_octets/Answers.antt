use Rattle.std.proofs.Common.{ℕ, [], ◌∷◌, ◌++◌, refl, sym, ap, ◌∙◌, append_assoc}
use Rattle.arrayvec.specs.ArrayVec.{ArrayVec}
use Rattle.rack_devices.specs.declared.driven_slave.DrivenSlave.{DrivenSlave}
use Rattle.dp_sessions.proofs.Exchanging.{on_err}
use Rattle.dp_sessions.proofs.Listening.{breaks_off_as, goes_on_as}
use Rattle.dp_sessions.proofs.Operating.{breaks_at, goes_to, on_more, on_start}
use Rattle.dp_sessions.proofs.RecordingLines.{gains_as, gains_none, gains_then, stops_at, stops_off_as}
use Rattle.dp_sessions.proofs.operator.OperatorSession.pass_octets.Goals as goal

pub loop-octet-init : goal.loop-octet-init
loop-octet-init g c = record {
  same = record { table = refl; number = refl; address = refl };
  driven = refl;
  on = ([], refl, on_start c.args.self.now.driven.items c.args.self.now.begun.items c.args.pass.now.view (g.W.Write.contents c.args.writer.now));
  recorded = gains_none (g.G.Gate.recorded c.args.gate.now c.args.pass.now.line) c.args.pass.now.view c.args.pass.now.view refl;
}

pub loop-octet-preserved : goal.loop-octet-preserved
loop-octet-preserved g c =
    let way = c.loop-octet.invariant.on in
    let octet : ℕ = c.in-Some.octet.now in record {
      same = record {
        table = c.take.ensures.same.table ∙ c.loop-octet.invariant.same.table;
        number = c.take.ensures.same.number ∙ c.loop-octet.invariant.same.number;
        address = c.take.ensures.same.address ∙ c.loop-octet.invariant.same.address;
      };
      driven = c.take.ensures.driven ∙ c.loop-octet.invariant.driven;
      on = (
        way.0 ++ octet ∷ [],
        way.1 ∙ ap (λ os. way.0 ++ os) c.in-Some.ensures.cases.0 ∙ sym (append_assoc way.0 (octet ∷ []) c.in-Some.rest.now),
        on_more c.args.self.now.driven.items way.0 (octet ∷ []) c.args.self.now.begun.items c.loop-octet.self.begun.items c.take.new.self.begun.items
            c.args.pass.now.view c.loop-octet.pass.view c.take.new.pass.view (g.W.Write.contents c.args.writer.now) (g.W.Write.contents c.loop-octet.writer) (g.W.Write.contents c.take.new.writer)
            way.2
            (goes_on_as c.args.self.now.driven.items c.loop-octet.self.driven.items (octet ∷ []) c.loop-octet.self.begun.items c.take.new.self.begun.items
            c.loop-octet.pass.view c.take.new.pass.view (g.W.Write.contents c.loop-octet.writer) (g.W.Write.contents c.take.new.writer)
            (ap (λ (d : ArrayVec DrivenSlave). d.items) c.loop-octet.invariant.driven) c.in_ok-take.ensures.ok.served),
      );
      recorded =
          gains_then (g.G.Gate.recorded c.args.gate.now c.args.pass.now.line) c.args.pass.now.view.receipts c.loop-octet.pass.view.receipts c.take.new.pass.view.receipts c.loop-octet.invariant.recorded
          (gains_as (g.G.Gate.recorded c.args.gate.now) c.args.pass.now.line c.loop-octet.pass.line c.loop-octet.pass.view.receipts c.take.new.pass.view.receipts
          c.loop-octet.invariant.same.number c.in_ok-take.ensures.ok.recorded);
    }

pub returns-in_err-take-clause-err : goal.returns-in_err-take-clause-err
returns-in_err-take-clause-err g c =
    let way = c.loop-octet.invariant.on in
    let octet : ℕ = c.in-Some.octet.now in
    on_err c.from_residual.result
    (record {
      broken = breaks_at c.args.self.now.driven.items c.args.octets.now way.0 c.loop-octet.left.now octet c.in-Some.rest.now c.args.self.now.begun.items c.loop-octet.self.begun.items
          c.args.pass.now.view c.loop-octet.pass.view c.take.new.pass.view (g.W.Write.contents c.args.writer.now) (g.W.Write.contents c.loop-octet.writer) (g.W.Write.contents c.take.new.writer)
          way.1 c.in-Some.ensures.cases.0 way.2
          (breaks_off_as c.args.self.now.driven.items c.loop-octet.self.driven.items (octet ∷ []) c.loop-octet.self.begun.items
          c.loop-octet.pass.view c.take.new.pass.view (g.W.Write.contents c.loop-octet.writer) (g.W.Write.contents c.take.new.writer)
          (ap (λ (d : ArrayVec DrivenSlave). d.items) c.loop-octet.invariant.driven) c.in_err-take.ensures.err.broken);
      recorded = stops_at c.args.self.now.driven.items (g.G.Gate.recorded c.args.gate.now c.args.pass.now.line) c.args.octets.now way.0 c.loop-octet.left.now octet c.in-Some.rest.now
          c.args.self.now.begun.items c.loop-octet.self.begun.items c.args.pass.now.view c.loop-octet.pass.view c.take.new.pass.view
          (g.W.Write.contents c.args.writer.now) (g.W.Write.contents c.loop-octet.writer) (g.W.Write.contents c.take.new.writer)
          way.1 c.in-Some.ensures.cases.0 way.2 c.loop-octet.invariant.recorded
          (stops_off_as c.args.self.now.driven.items c.loop-octet.self.driven.items (g.G.Gate.recorded c.args.gate.now) c.args.pass.now.line c.loop-octet.pass.line (octet ∷ []) c.loop-octet.self.begun.items
          c.loop-octet.pass.view c.take.new.pass.view (g.W.Write.contents c.loop-octet.writer) (g.W.Write.contents c.take.new.writer)
          (ap (λ (d : ArrayVec DrivenSlave). d.items) c.loop-octet.invariant.driven) c.loop-octet.invariant.same.number c.in_err-take.ensures.err.recorded);
    })

pub returns-clause-ok : goal.returns-clause-ok
returns-clause-ok g c =
    let way = c.loop-octet.invariant.on in record {
      served = goes_to c.args.self.now.driven.items c.args.octets.now way.0 c.loop-octet.left.now c.args.self.now.begun.items c.loop-octet.self.begun.items
          c.args.pass.now.view c.loop-octet.pass.view (g.W.Write.contents c.args.writer.now) (g.W.Write.contents c.loop-octet.writer)
          way.1 c.in_default.ensures.cases way.2;
      recorded = c.loop-octet.invariant.recorded;
    }
