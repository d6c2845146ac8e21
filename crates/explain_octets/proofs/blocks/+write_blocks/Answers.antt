-- The first block is written, and then those after it.
use Rattle.std.proofs.Common.{◌≡◌, ℕ, true, List, arith, rules, sym, ◌∙◌}
use Rattle.std.specs.Prelude.{is_some}
use Rattle.std.proofs.lemmas.Grind.{common_steps}
use Rattle.explain_octets.specs.Blocks.{Block, block, blocks_of}
use Rattle.explain_octets.proofs.Cutting.{more_are_blocks, no_texts, texts_more}
use Rattle.explain_octets.proofs.blocks.+write_blocks.Goals as goal

pub returns-in_default : goal.returns-in_default
returns-in_default g t c =
    let are_blocks : is_some (blocks_of c.args.octets.now) ≡ true = search rules in
    rw (no_texts c.args.octets.now are_blocks (sym c.in_default.ensures.found)) (search rules)

pub write_blocks-requires : goal.write_blocks-requires
write_blocks-requires g t c κs within =
    let are_blocks : is_some (blocks_of c.args.octets.now) ≡ true = search rules in
    let first : Block × List ℕ = (block c.in-Some.block.head c.in-Some.block.octets.now, c.in-Some.behind.now) in
    let more : is_some (blocks_of c.in-Some.behind.now) ≡ true = sym (more_are_blocks c.args.octets.now first (sym c.in-Some.ensures.found)) ∙ are_blocks in
    search rules

pub returns : goal.returns
returns g t c =
    let are_blocks : is_some (blocks_of c.args.octets.now) ≡ true = search rules in
    let first : Block × List ℕ = (block c.in-Some.block.head c.in-Some.block.octets.now, c.in-Some.behind.now) in
    rw (texts_more c.args.octets.now first are_blocks (sym c.in-Some.ensures.found)) (grind (arith, common_steps))
