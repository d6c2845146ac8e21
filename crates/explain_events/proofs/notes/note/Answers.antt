use Rattle.std.proofs.Common.{◌∙◌, ap, sym}
use Rattle.std.proofs.Math.ListN.{set}
use Rattle.explain_events.proofs.Noting.{noted_at_found, noted_at_none}
use Rattle.explain_events.proofs.notes.note.Goals as goal

pub returns-in-Some : goal.returns-in-Some
returns-in-Some c =
    ap (set c.args.notes.now c.in-Some.index) c.set.ensures
    ∙ noted_at_found c.args.slave c.args.master c.args.place c.args.octets.now c.args.notes.now c.in-Some.index c.index-notes-index.result c.in-Some.ensures

pub returns-in_default : goal.returns-in_default
returns-in_default c = sym (noted_at_none c.args.slave c.args.master c.args.place c.args.octets.now c.args.notes.now c.in_default.ensures)
