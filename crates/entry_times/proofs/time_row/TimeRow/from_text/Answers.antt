use Rattle.std.proofs.Common.{◌≡◌, ℕ, Option, sym, subst, arith}
use Rattle.entry_times.specs.TimeRows.{IsReadFrom, IsTimeRow, time_row_text}
use Rattle.entry_times.specs.declared.time_row.TimeRow.{TimeRow}
use Rattle.entry_times.proofs.Numbers.{is_split, splits}
use Rattle.entry_times.proofs.time_row.TimeRow.from_text.Goals as goal

pub returns-in_err-place : goal.returns-in_err-place
returns-in_err-place c =
    subst (λ (r : Option TimeRow). IsReadFrom time_row_text IsTimeRow c.args.text.now r) (sym c.from_residual.ensures)
    (λ row is written. is_split c.args.text.now row is c.in_err-place.ensures.cases written)

pub returns-in_err-place_in : goal.returns-in_err-place_in
returns-in_err-place_in c =
    subst (λ (r : Option TimeRow). IsReadFrom time_row_text IsTimeRow c.args.text.now r) (sym c.from_residual-in_err-place_in.ensures)
    (λ row is written. c.in_err-place_in.ensures row.place is.0 (splits c.args.text.now row is (c.in_ok-place.place, c.in_ok-place.milliseconds) c.in_ok-place.ensures.cases written).0)

pub returns-in_err-number_in : goal.returns-in_err-number_in
returns-in_err-number_in c =
    subst (λ (r : Option TimeRow). IsReadFrom time_row_text IsTimeRow c.args.text.now r) (sym c.from_residual-in_err-number_in.ensures)
    (λ row is written. c.in_err-number_in.ensures row.milliseconds is.1 (splits c.args.text.now row is (c.in_ok-place.place, c.in_ok-place.milliseconds) c.in_ok-place.ensures.cases written).1)
