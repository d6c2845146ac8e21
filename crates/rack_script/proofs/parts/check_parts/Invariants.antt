use Rattle.std.proofs.Common.{◌≡◌, true}
use Rattle.explain_texts.specs.Entries.{is_between_rows}
use Rattle.explain_texts.specs.TextRows.{octets_read}
use Rattle.explain_texts.proofs.ReadRows.{ReadSince}
use Rattle.rack_script.proofs.CheckedParts.{IsBehindRows}
use Rattle.rack_script.proofs.parts.check_parts.Given as goal

abbrev pub invariant-loop : goal.invariant-loop
invariant-loop g l = record {
  right : IsBehindRows l.fn.check (octets_read l.rows.text) l.check;
  between : is_between_rows l.rows.text ≡ true;
  since : ReadSince (g.R.Read.remaining l.fn.rows.reader) l.fn.rows.text (g.R.Read.remaining l.rows.reader) l.rows.text;
}
