-- The octets are blocks if the rest of them is.
use Rattle.std.proofs.Common.{sym, ◌∙◌}
use Rattle.explain_octets.specs.Blocks.{block}
use Rattle.explain_octets.proofs.Cutting.{more_are_blocks, none_is_first}
use Rattle.explain_octets.proofs.blocks.are_blocks.Goals as goal

pub loop-behind-preserved : goal.loop-behind-preserved
loop-behind-preserved c =
    c.loop-behind.invariant
    ∙ more_are_blocks c.loop-behind.rest.now (block c.in-Some.field-0-0.head c.in-Some.field-0-0.octets.now, c.in-Some.behind.now) (sym c.in-Some.ensures.found)

pub returns : goal.returns
returns c = c.is_empty.ensures ∙ none_is_first c.loop-behind.rest.now (sym c.in_default.ensures.found) ∙ sym c.loop-behind.invariant
