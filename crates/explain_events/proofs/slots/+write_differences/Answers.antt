use Rattle.std.proofs.Common.{◌≡◌, true, false, length, rules, sym, ◌∙◌}
use Rattle.std.proofs.Output.{has_written_append, has_written_of_eq}
use Rattle.dp_cfg.specs.Choosing.{same_octets}
use Rattle.explain_events.specs.Slots.{is_whole, slots_in}
use Rattle.explain_events.proofs.Splitting.{differences_other, differences_same, differences_single, no_slots}
use Rattle.explain_events.proofs.slots.+write_differences.Goals as goal

pub returns-then-is_empty-2 : goal.returns-then-is_empty-2
returns-then-is_empty-2 g t c =
    let none : length c.args.own.now ≡ 0 = search rules in
    rw (no_slots c.args.own.now none, differences_single c.args.number (slots_in c.args.sent.now)) c.write_single-then-is_empty-2.ensures

pub returns-then-same_octets : goal.returns-then-same_octets
returns-then-same_octets g t c =
    let sent_whole : is_whole c.args.sent.now ≡ true = search rules in
    let own_whole : is_whole c.args.own.now ≡ true = search rules in
    let same : same_octets c.in-Some.sent_slot.now c.in-Some-first_slot.own_slot.now ≡ true = sym c.same_octets.ensures ∙ c.if-same_octets.true in
    rw (
      c.in-Some.ensures.slots sent_whole,
      c.in-Some-first_slot.ensures.slots own_whole,
      differences_same c.args.separator.now c.args.number (slots_in c.in-Some.sent.now) (slots_in c.in-Some-first_slot.own.now) c.in-Some.sent_slot.now c.in-Some-first_slot.own_slot.now same,
    )
    c.write_differences.ensures

pub returns : goal.returns
returns g t c = λ plain ok.
    let sent_whole : is_whole c.args.sent.now ≡ true = search rules in
    let own_whole : is_whole c.args.own.now ≡ true = search rules in
    let other : same_octets c.in-Some.sent_slot.now c.in-Some-first_slot.own_slot.now ≡ false = sym c.same_octets.ensures ∙ c.if-same_octets.false in
    let first = c.write.ensures.writes plain (search rules) in
    let others = c.write_differences-2.ensures first.plain ok in
    has_written_of_eq _ _ _ _ _
    (differences_other c.args.separator.now c.args.number (slots_in c.args.sent.now) (slots_in c.args.own.now) (slots_in c.in-Some.sent.now) (slots_in c.in-Some-first_slot.own.now)
    c.in-Some.sent_slot.now c.in-Some-first_slot.own_slot.now (c.in-Some.ensures.slots sent_whole) (c.in-Some-first_slot.ensures.slots own_whole) other)
    (has_written_append _ _ _ _ _ _ first others)
