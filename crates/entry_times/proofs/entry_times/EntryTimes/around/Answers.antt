use Rattle.std.proofs.Common.{rules, ◌≡◌, ◌<◌, ◌≤◌, IfSome, sym, subst}
use Rattle.entry_times.specs.PlaceTimes.{row_before, row_from}
use Rattle.entry_times.proofs.Around.{are_around}
use Rattle.entry_times.proofs.entry_times.EntryTimes.around.Goals as goal

pub returns-clause-around : goal.returns-clause-around
returns-clause-around c =
    let rows = c.args.self.now.rows.items in
    let before : c.last_of.result ≡ row_before rows c.args.place = search rules in
    let from : c.row_at.result ≡ row_from rows c.args.place = search rules in
    let around = are_around c.args.place rows in
    (subst (λ found. IfSome found (λ row. row.place < c.args.place)) (sym before) around.0, subst (λ found. IfSome found (λ row. c.args.place ≤ row.place)) (sym from) around.1)
