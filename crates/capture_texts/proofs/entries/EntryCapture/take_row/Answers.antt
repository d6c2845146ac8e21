use Rattle.std.proofs.Common.{◌+◌, ℕ, Option, Ok, Err, ap, sym, ◌∙◌}
use Rattle.dp_audit.specs.Check.{judged_line}
use Rattle.capture_texts.specs.declared.entries.EntryCapture.{EntryCapture}
use Rattle.capture_texts.specs.declared.row_fault.Cut.TheVariants.{OutOfMemory}
use Rattle.capture_texts.specs.declared.row_fault.RowFault.TheVariants.{Cut}
use Rattle.capture_texts.specs.Captured.{microseconds}
use Rattle.capture_texts.proofs.Taking.{IsEntry, cut_short, entry_is, packets_are, packets_cut, packets_taken, rows_are, takes_right}
use Rattle.capture_texts.proofs.entries.EntryCapture.take_row.Goals as goal

pub returns-in-Err-Explain-clause-taken : goal.returns-in-Err-Explain-clause-taken
returns-in-Err-Explain-clause-taken g c =
    let self = c.args.self.now in
    let entry : IsEntry self.follower c.args.row.now c.in-Ok.event c.take_row-2.new.self c.take_row.new.state.world c.take_row.new.answer =
    entry_is self.follower c.args.row.now c.in-Ok.event c.take_row-2.new.self self.state.world c.take_row.new.state.world c.take_row.new.answer c.requires.faultless c.requires.same c.in-Ok.ensures c.take_row-2.ensures.known in
    takes_right self.interface (judged_line self.follower.known.context.world c.args.row.now) self.follower.known c.take_row-2.new.self c.take_row.new.state.world (g.W.Write.contents c.args.writer.now) (g.W.Write.contents c.args.writer.now)
    (Err (Cut OutOfMemory)) c.in-Ok.event entry.judged_so
    (cut_short self.interface self.follower.known c.in-Ok.event c.take_row-2.new.self c.take_row.new.state.world (g.W.Write.contents c.args.writer.now) OutOfMemory)

pub returns-in-Ok-write_packets-clause-taken : goal.returns-in-Ok-write_packets-clause-taken
returns-in-Ok-write_packets-clause-taken g c =
    let self = c.args.self.now in
    let after = c.write_packets.new.self in
    let entry : IsEntry self.follower c.args.row.now c.in-Ok.event c.take_row-2.new.self c.take_row.new.state.world c.take_row.new.answer =
    entry_is self.follower c.args.row.now c.in-Ok.event c.take_row-2.new.self self.state.world c.take_row.new.state.world c.take_row.new.answer c.requires.faultless c.requires.same c.in-Ok.ensures c.take_row-2.ensures.known in
    let rows =
    rows_are (λ rows. rows.writer.items) self.follower c.args.row.now c.in-Ok.event c.every_entry.result _ c.take_row-2.new.receiver c.in-Ok-take_row.field-0 c.requires.faultless entry.judged_so entry.faultless c.every_entry.ensures
    c.clear.ensures.items c.in-Ok-take_row.ensures.reported in
    let packets =
    packets_are self.interface c.microseconds-time.result (c.from-place.result + 1) self.follower.known.context c.in-Ok.event c.take_row.new.answer.outcome c.take_row-2.new.receiver.writer.items
    (ap (λ (n : ℕ). n + 1) (c.from-place.ensures ∙ c.count.ensures)) (c.microseconds-time.ensures ∙ ap (λ (t : Option ℕ). microseconds t (c.from-place.result + 1)) c.time.ensures) entry.outcome_is rows in
    let follower = ap (λ (s : EntryCapture). s.follower) c.write_packets.ensures.same in
    let state = ap (λ (s : EntryCapture). s.state.world) c.write_packets.ensures.same in
    takes_right self.interface (judged_line self.follower.known.context.world c.args.row.now) self.follower.known after.follower after.state.world (g.W.Write.contents c.args.writer.now) (g.W.Write.contents c.write_packets.new.writer) (Ok tt)
    c.in-Ok.event entry.judged_so
    (packets_taken self.interface self.follower.known c.in-Ok.event after.follower after.state.world (g.W.Write.contents c.args.writer.now) (g.W.Write.contents c.write_packets.new.writer) _ tt packets (follower ∙ entry.follows)
    (state ∙ entry.same ∙ sym (ap (λ (s : EntryCapture). s.follower.known.context.world) c.write_packets.ensures.same)) c.in-Ok-write_packets.ensures.written)

pub returns-in-Err-write_packets-clause-taken : goal.returns-in-Err-write_packets-clause-taken
returns-in-Err-write_packets-clause-taken g c =
    let self = c.args.self.now in
    let after = c.write_packets.new.self in
    let entry : IsEntry self.follower c.args.row.now c.in-Ok.event c.take_row-2.new.self c.take_row.new.state.world c.take_row.new.answer =
    entry_is self.follower c.args.row.now c.in-Ok.event c.take_row-2.new.self self.state.world c.take_row.new.state.world c.take_row.new.answer c.requires.faultless c.requires.same c.in-Ok.ensures c.take_row-2.ensures.known in
    let rows =
    rows_are (λ rows. rows.writer.items) self.follower c.args.row.now c.in-Ok.event c.every_entry.result _ c.take_row-2.new.receiver c.in-Ok-take_row.field-0 c.requires.faultless entry.judged_so entry.faultless c.every_entry.ensures
    c.clear.ensures.items c.in-Ok-take_row.ensures.reported in
    let packets =
    packets_are self.interface c.microseconds-time.result (c.from-place.result + 1) self.follower.known.context c.in-Ok.event c.take_row.new.answer.outcome c.take_row-2.new.receiver.writer.items
    (ap (λ (n : ℕ). n + 1) (c.from-place.ensures ∙ c.count.ensures)) (c.microseconds-time.ensures ∙ ap (λ (t : Option ℕ). microseconds t (c.from-place.result + 1)) c.time.ensures) entry.outcome_is rows in
    takes_right self.interface (judged_line self.follower.known.context.world c.args.row.now) self.follower.known after.follower after.state.world (g.W.Write.contents c.args.writer.now) (g.W.Write.contents c.write_packets.new.writer)
    (Err (Cut c.in-Err-write_packets.cut)) c.in-Ok.event entry.judged_so
    (packets_cut self.interface self.follower.known c.in-Ok.event after.follower after.state.world (g.W.Write.contents c.args.writer.now) (g.W.Write.contents c.write_packets.new.writer) _ c.in-Err-write_packets.cut packets c.in-Err-write_packets.ensures.written)
