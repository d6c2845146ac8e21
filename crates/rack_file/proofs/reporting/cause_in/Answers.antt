-- A text that toml refuses, unless memory ran out, is no document, and the reported offset is in the text.
use Rattle.std.proofs.Common.{◌≡◌, ◌≤◌, None, IsNone, Some, length, arith}
use Rattle.toml.specs.Parse.{parse_document}
use Rattle.rack_file.proofs.reporting.cause_in.Goals as goal

pub returns-in_ok-row_reported-in-Some : goal.returns-in_ok-row_reported-in-Some
returns-in_ok-row_reported-in-Some c =
    let none : parse_document c.args.text.now ≡ None = c.in-Err.ensures.refused (λ memory. let absent : IsNone (Some c.in-Some.span) = c.in-Some.ensures.none.1 memory in cc) in
    let within : c.in-Some.span.start ≤ length c.args.text.now = omega (arith, c.in-Some.ensures.range.0, c.in-Err.ensures.span.0, c.in-Err.ensures.span.1) in
    rw none (c.in-Some.span.start, c.message.result.now, within, rw c.row_at-row.ensures at c.in_ok-row_reported-in-Some.ensures)
