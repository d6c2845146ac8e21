use Rattle.std.proofs.Common.{sym, ap, ◌∙◌}
use Rattle.std.specs.Option.{option_copied}
use Rattle.dp_line.proofs.Restorable.{each_sound, first_unsound, no_other, shared, uncounted}
use Rattle.dp_line.proofs.line_state.restoring.restore_fault.Goals as goal

pub returns-in-Some : goal.returns-in-Some
returns-in-Some c =
    first_unsound c.args.masters.now c.args.count c.args.halted c.args.slaves.now (option_copied c.unsound.result) c.in-Some.slave.now c.address.result c.unsound.ensures (ap option_copied c.in-Some.is) c.address.ensures

pub returns-then-not-have_own_places : goal.returns-then-not-have_own_places
returns-then-not-have_own_places c =
    sym (each_sound c.args.masters.now c.args.count c.args.halted c.args.slaves.now (option_copied c.unsound.result) c.unsound.ensures (ap option_copied c.in_default.is)
    ∙ shared c.args.masters.now c.args.count c.args.halted c.args.slaves.now (sym c.have_own_places.ensures ∙ c.if-not-have_own_places.true))

pub returns-then-not-has_sound_count : goal.returns-then-not-has_sound_count
returns-then-not-has_sound_count c =
    sym (each_sound c.args.masters.now c.args.count c.args.halted c.args.slaves.now (option_copied c.unsound.result) c.unsound.ensures (ap option_copied c.in_default.is)
    ∙ uncounted c.args.masters.now c.args.count c.args.halted c.args.slaves.now (sym c.have_own_places.ensures ∙ c.if-not-have_own_places.false)
    (sym (c.has_sound_count.ensures c.args.masters.now) ∙ c.if-not-has_sound_count.true))

pub returns : goal.returns
returns c =
    sym (each_sound c.args.masters.now c.args.count c.args.halted c.args.slaves.now (option_copied c.unsound.result) c.unsound.ensures (ap option_copied c.in_default.is)
    ∙ no_other c.args.masters.now c.args.count c.args.halted c.args.slaves.now (sym c.have_own_places.ensures ∙ c.if-not-have_own_places.false)
    (sym (c.has_sound_count.ensures c.args.masters.now) ∙ c.if-not-has_sound_count.false))
