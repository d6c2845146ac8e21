use Rattle.std.proofs.Common.{◌≡◌, ℕ, Option, List, ◌++◌, sym, subst, ap, arith, ◌∙◌}
use Rattle.std.specs.Fmt.{decimal}
use Rattle.std.specs.Prelude.{codes}
use Rattle.entry_times.specs.TimeRows.{IsHeader, IsReadFrom, header_text}
use Rattle.entry_times.specs.declared.time_row.TimesHeader.{TimesHeader}
use Rattle.entry_times.proofs.Numbers.{behind_words, not_octet}
use Rattle.entry_times.proofs.time_row.TimesHeader.from_text.Goals as goal

pub returns-in_err-strip_prefix : goal.returns-in_err-strip_prefix
returns-in_err-strip_prefix c =
    subst (λ (r : Option TimesHeader). IsReadFrom header_text IsHeader c.args.text.now r) (sym c.from_residual.ensures)
    (λ header is written. c.in_err-strip_prefix.ensures.cases (decimal header.line) written)

pub returns-then-line-from : goal.returns-then-line-from
returns-then-line-from c = λ header is written.
    not_octet c.in_ok-strip_prefix.field-0.now c.in_ok-line.line c.in_ok-line.ensures.0 c.in_ok-line.ensures.1 (omega (arith, c.if-line-from.true, c.from.ensures)) header.line is
    (behind_words (codes "rack-times 1 line ") c.args.text.now c.in_ok-strip_prefix.field-0.now (decimal header.line) c.in_ok-strip_prefix.ensures.cases written)
