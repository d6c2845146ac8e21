use Rattle.std.proofs.Common.{ℕ, ap, ◌∙◌}
use Rattle.std.specs.Prelude.{nat_lt}
use Rattle.gsd_files.specs.GsdText.{flag}
use Rattle.gsd_files.proofs.Modes.{modes_joined}
use Rattle.gsd_files.proofs.writing.push_modes.Goals as goal

pub returns : goal.returns
returns c =
    modes_joined c.args.slave.now _ _ _ _ _ _ _ _ _ _ _ c.flag.ensures c.flag-2.ensures c.flag-3.ensures c.from.ensures
    (c.flag-4.ensures ∙ ap (λ (n : ℕ). flag (nat_lt 1 n)) c.len.ensures.value)
    c.in_ok-push_number.ensures c.in_ok-push_number-2.ensures c.in_ok-push_number-3.ensures c.in_ok-push_number-4.ensures c.in_ok-push_number-5.ensures
