use Rattle.std.proofs.Common.{◌≡◌, ◌<◌, ◌∙◌, sym, ap, arith}
use Rattle.serve_clock.specs.declared.line_time.Advance.{Advance}
use Rattle.serve_clock.specs.Moments.{advance_at}
use Rattle.serve_clock.proofs.Ticking.{refused_halted, ticked_none, ticked_some}
use Rattle.serve_clock.proofs.ticker.Ticker.advance.Goals as goal

pub invariant_of-self : goal.invariant_of-self
invariant_of-self g c =
    let before = c.args.self.now in
    let none : (advance_at before.time c.args.moment).units ≡ 0 = ap (λ (advance : Advance). advance.units) (sym c.advance-advance.ensures.advance) ∙ c.if-advance-eq0.true in
    record {
      ours = before.ours;
      operator = before.operator;
      ticked = rw (c.advance-advance.ensures.after, c.followed_by-self.ensures) (ticked_none before.time before.moments.items c.args.moment before.pass.view before.ticked none);
    }

pub invariant_of-self-2 : goal.invariant_of-self-2
invariant_of-self-2 g c =
    let before = c.args.self.now in
    let units = c.advance-advance.result.units in
    let passed : units ≡ (advance_at before.time c.args.moment).units = ap (λ (advance : Advance). advance.units) c.advance-advance.ensures.advance in
    let some : 0 < units = (let not_none = c.if-advance-eq0.false in omega (arith, not_none)) in
    let receipt = c.operate-receipt.result in
    let refused = refused_halted c.only_a_halted_line_refuses_a_tick.ensures before.pass.view units receipt.outcome receipt.place c.operate-receipt.ensures.cause in
    record {
      ours = c.operate-receipt.ensures.ours ∙ before.ours;
      operator = c.operate-receipt.ensures.address ∙ before.operator;
      ticked = rw (c.advance-advance.ensures.after, c.followed_by-self.ensures)
          (ticked_some before.time before.moments.items c.args.moment before.pass.view c.operate-receipt.new.pass.view receipt units before.ticked passed some
          c.operate-receipt.ensures.event c.operate-receipt.ensures.pass c.operate-receipt.ensures.running refused);
    }

pub returns-clause-pass : goal.returns-clause-pass
returns-clause-pass g c =
    let units = c.advance-advance.result.units in
    let receipt = c.operate-receipt.result in
    record {
      tick = (
        (let not_none = c.if-advance-eq0.false in omega (arith, not_none)),
        c.operate-receipt.ensures.event,
        refused_halted c.only_a_halted_line_refuses_a_tick.ensures c.args.self.now.pass.view units receipt.outcome receipt.place c.operate-receipt.ensures.cause,
      );
      received = c.operate-receipt.ensures.pass;
    }
