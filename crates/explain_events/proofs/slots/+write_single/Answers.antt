use Rattle.std.proofs.Common.{◌≡◌, true, rules}
use Rattle.std.proofs.Output.{has_written_append, has_written_of_eq}
use Rattle.explain_events.specs.Slots.{is_whole, slots_in}
use Rattle.explain_events.proofs.Splitting.{single_more}
use Rattle.explain_events.proofs.slots.+write_single.Goals as goal

pub returns : goal.returns
returns g t c = λ plain ok.
    let whole : is_whole c.args.octets.now ≡ true = search rules in
    let first = c.write.ensures.writes plain (search rules) in
    let others = c.write_single.ensures first.plain ok in
    has_written_of_eq _ _ _ _ _
    (single_more c.args.separator.now c.args.words.now c.args.number (slots_in c.args.octets.now) (slots_in c.in-Some.others.now) c.in-Some.slot.now (c.in-Some.ensures.slots whole))
    (has_written_append _ _ _ _ _ _ first others)
