-- No bit before the current one is 1.
use Rattle.std.proofs.Common.{sym, ◌∙◌}
use Rattle.explain_octets.proofs.Bits.{set_here, set_later}
use Rattle.explain_octets.proofs.blocks.next_set.Goals as goal

pub returns-then-is_set_in-clause-found : goal.returns-then-is_set_in-clause-found
returns-then-is_set_in-clause-found c =
    c.loop-number.invariant
    ∙ set_here c.args.octets.now c.loop-number.number c.loop-number-test.true (sym c.is_set_in.ensures ∙ c.if-is_set_in.true)

pub loop-number-preserved : goal.loop-number-preserved
loop-number-preserved c =
    c.loop-number.invariant
    ∙ set_later c.args.octets.now c.loop-number.number c.loop-number-test.true (sym c.is_set_in.ensures ∙ c.if-is_set_in.false)
