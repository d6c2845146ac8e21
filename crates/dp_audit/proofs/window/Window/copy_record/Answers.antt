use Rattle.std.proofs.Common.{◌∙◌}
use Rattle.dp_audit.proofs.Newest.{kept_read}
use Rattle.dp_audit.proofs.window.Window.copy_record.Goals as goal

pub copy-requires : goal.copy-requires
copy-requires c =
    (kept_read c.args.self.now.room c.args.self.now.entries c.args.place c.in-Some.octets.now c.are_packed.ensures.places c.are_packed.ensures.packable c.in-Some.ensures).1

pub returns-in-Some : goal.returns-in-Some
returns-in-Some c =
    c.copy.ensures
    ∙ (kept_read c.args.self.now.room c.args.self.now.entries c.args.place c.in-Some.octets.now c.are_packed.ensures.places c.are_packed.ensures.packable c.in-Some.ensures).0
