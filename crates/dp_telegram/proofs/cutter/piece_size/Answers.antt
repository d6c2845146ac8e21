use Rattle.std.proofs.Common.{◌≡◌, ◌∙◌, None, Some, sym, subst, arith}
use Rattle.dp_telegram.specs.declared.fault.FrameFault.TheVariants.{Long}
use Rattle.dp_telegram.specs.FrameText.{fault_of}
use Rattle.dp_telegram.proofs.Faults.{Means, means}
use Rattle.dp_telegram.proofs.Fronts.{take_front}
use Rattle.dp_telegram.proofs.cutter.piece_size.Goals as goal

pub returns-in-Some-Long-clause-piece : goal.returns-in-Some-Long-clause-piece
returns-in-Some-Long-clause-piece c =
    let s = c.args.octets.now in
    let fault : fault_of s ≡ Some Long = grind (arith, c.requires, c.in-Some-Long.is, c.in-Some-Long.field-0-is) in
    let meant : Means s (Some Long) = subst (Means s) fault (means s) in
    rw fault (c.frame_size-in-Some-Long.ensures ∙ sym (take_front s meant.0.room))

pub returns-in-None-clause-piece : goal.returns-in-None-clause-piece
returns-in-None-clause-piece c =
    let s = c.args.octets.now in
    let fault : fault_of s ≡ None = sym c.requires ∙ c.in-None.is in
    let meant : Means s None = subst (Means s) fault (means s) in
    rw fault (c.frame_size-in-None.ensures ∙ sym (take_front s meant.0.room))
