use Rattle.std.proofs.Common.{◌≡◌, ℕ, List, [], ◌++◌, map, Option, None, Some, IfSome, Err, OnOk, refl, subst, sym, ap, ◌∙◌, rules}
use Rattle.std.specs.Prelude.{find, option_map}
use Rattle.std.specs.Io.KnownBytes.{Appends}
use Rattle.std.proofs.lemmas.List.{append-nil}
use Rattle.std.proofs.lemmas.Grind.{flat_map-append}
use Rattle.dp_line.specs.World.{description_of}
use Rattle.dp_text.specs.Words.{lines_of}
use Rattle.dp_text.specs.Writes.{WritesPrefix}
use Rattle.dp_audit.specs.declared.fault.AuditFault.TheVariants.{BadLine}
use Rattle.dp_audit.specs.Check.{checked}
use Rattle.capture_texts.specs.Blocks.{block_octets, capture_octets}
use Rattle.explain_texts.specs.TextRows.{known_text, octets_read}
use Rattle.rack_script.specs.Checks.{checked_on, line_named}
use Rattle.rack_file.specs.declared.rack.RackLine.{RackLine}
use Rattle.rack_file.specs.Rack.{RackDescription, line_described, rack_described}
use Rattle.capture_texts.specs.Captured.{captured_by_line, captured_on, captured_text, interface_among, interface_named, opening_blocks}
use Rattle.capture_texts.specs.Captures.{Ends, WritesCapture}
use Rattle.capture_texts.proofs.FirstRow.{DecidesLine, FirstLine, capture_is, decides_if_ok, first_line, is_headed, found_opens, named_by, none_if_ok, only_line, verdict_is}
use Rattle.capture_texts.proofs.Texts.{ends_so, front_cut, front_unread, then_explains}
use Rattle.capture_texts.proofs.capturing.capture_on.Goals as goal

-- the octets of a capture on a rack: those of the opening, and then those of the packets
octets_on : (rack : RackDescription) (text : List ℕ)
    → capture_octets (captured_on rack text) ≡ capture_octets (opening_blocks rack.lines) ++ capture_octets (captured_by_line (line_named rack.lines (lines_of text)) (interface_named rack.lines (lines_of text)) text)
octets_on rack text =
    flat_map-append block_octets (opening_blocks rack.lines) (captured_by_line (line_named rack.lines (lines_of text)) (interface_named rack.lines (lines_of text)) text)

-- a capture that begins with the opening
opened : (workers : ℕ) (lines : List RackLine) (text row : List ℕ) (found : Option RackLine) (number : ℕ) (line : FirstLine text row) → found ≡ find (is_headed row) lines → number ≡ interface_among (map line_described lines) row
    → capture_octets (captured_on (record { workers = workers; lines = map line_described lines }) text)
    ≡ capture_octets (opening_blocks (map line_described lines)) ++ capture_octets (captured_by_line (option_map line_described found) number text)
opened workers lines text row found number line named is =
    ap capture_octets (capture_is workers lines text row found line named)
    ∙ flat_map-append block_octets (opening_blocks (map line_described lines)) (captured_by_line (option_map line_described found) (interface_among (map line_described lines) row) text)
    ∙ ap (λ (n : ℕ). capture_octets (opening_blocks (map line_described lines)) ++ capture_octets (captured_by_line (option_map line_described found) n text)) (sym is)

pub capture_line-requires-clause-opens : goal.capture_line-requires-clause-opens
capture_line-requires-clause-opens g c =
    found_opens c.row-2.result.now c.args.rack.now.lines.items c.in-Some.line.now (search rules) c.requires.opens

pub returns-in-Err-clause-captured : goal.returns-in-Err-clause-captured
returns-in-Err-clause-captured g c =
    let rack = rack_described c.args.rack.now in
    let text = octets_read c.args.rows.now.text in
    subst (λ (t : List ℕ). WritesCapture (checked_on rack text) c.args.rows.now.text.row t (g.W.Write.contents c.args.writer.now) (g.W.Write.contents c.write_opening.new.writer) (Err c.run_fault.result))
    (sym (octets_on rack text))
    (front_cut (checked_on rack text) c.args.rows.now.text.row (g.W.Write.contents c.args.writer.now) (g.W.Write.contents c.write_opening.new.writer) (capture_octets (opening_blocks rack.lines)) _ c.in-Err.cut c.run_fault.result c.run_fault.ensures
    (subst (λ (ls : List RackLine). WritesPrefix (g.W.Write.contents c.args.writer.now) (g.W.Write.contents c.write_opening.new.writer) (capture_octets (opening_blocks (map line_described ls)))) (search rules) c.in-Err.ensures))

pub returns-in-Err-complete_row-clause-captured : goal.returns-in-Err-complete_row-clause-captured
returns-in-Err-complete_row-clause-captured g c =
    let rack = rack_described c.args.rack.now in
    let new = c.complete_row.new.self.text in
    let text = octets_read new in
    subst (λ (t : List ℕ). WritesCapture (checked_on rack text) new.row t (g.W.Write.contents c.args.writer.now) (g.W.Write.contents c.write_opening.new.writer) (Err c.of_read.result))
    (sym (octets_on rack text))
    (front_unread (checked_on rack text) new.row (g.W.Write.contents c.args.writer.now) (g.W.Write.contents c.write_opening.new.writer) (capture_octets (opening_blocks rack.lines)) _ c.in-Err-complete_row.fault c.of_read.result c.of_read.ensures
    c.in-Err-complete_row.ensures.named
    (subst (λ (ls : List RackLine). Appends (g.W.Write.contents c.args.writer.now) (g.W.Write.contents c.write_opening.new.writer) (capture_octets (opening_blocks (map line_described ls)))) (search rules) c.in-Ok.ensures))

pub returns-in-Some-clause-captured : goal.returns-in-Some-clause-captured
returns-in-Some-clause-captured g c =
    let rack = c.args.rack.now in
    let text = c.complete_row.new.self.text in
    let new = c.capture_line.new.rows.text in
    let reads = c.complete_row.ensures.reads in
    let lines = map line_described rack.lines.items in
    let line = first_line text new (reads.same_past ∙ c.requires.first) reads.no_lf c.capture_line.ensures.begins c.capture_line.ensures.unread in
    let named = named_by rack.lines.items c.row-2.result.now text.row (Some c.in-Some.line.now) c.row-2.ensures.row (search rules) in
    let number =
    subst (λ (ls : List RackLine). c.interface_named-interface.result ≡ interface_among (map line_described ls) c.row.result.now) (search rules) c.interface_named-interface.ensures.number ∙ ap (interface_among lines) c.row.ensures.row in
    let written =
    subst (λ (ls : List RackLine). Appends (g.W.Write.contents c.args.writer.now) (g.W.Write.contents c.write_opening.new.writer) (capture_octets (opening_blocks (map line_described ls)))) (search rules) c.in-Ok.ensures in
    rw (
      verdict_is rack.workers rack.lines.items (octets_read new) text.row (Some c.in-Some.line.now) line named,
      opened rack.workers rack.lines.items (octets_read new) text.row (Some c.in-Some.line.now) c.interface_named-interface.result line named number,
    )
    (then_explains (checked (description_of c.in-Some.line.now.spec) (octets_read new)) new.row (g.W.Write.contents c.args.writer.now) (g.W.Write.contents c.write_opening.new.writer) (g.W.Write.contents c.capture_line.new.writer)
    (capture_octets (opening_blocks lines)) (capture_octets (captured_text c.interface_named-interface.result (description_of c.in-Some.line.now.spec) (octets_read new))) c.capture_line.result written c.capture_line.ensures.captured)

pub returns-in-Some-clause-decided : goal.returns-in-Some-clause-decided
returns-in-Some-clause-decided g c =
    let rack = c.args.rack.now in
    let text = c.complete_row.new.self.text in
    let new = c.capture_line.new.rows.text in
    let reads = c.complete_row.ensures.reads in
    let number =
    subst (λ (ls : List RackLine). c.interface_named-interface.result ≡ interface_among (map line_described ls) c.row.result.now) (search rules) c.interface_named-interface.ensures.number
    ∙ ap (interface_among (map line_described rack.lines.items)) c.row.ensures.row in
    decides_if_ok c.capture_line.result rack.workers rack.lines.items _ _ c.args.rows.now.text text new (Some c.in-Some.line.now)
    (record { first = reads.same_past ∙ c.requires.first; no_lf = reads.no_lf; kept = c.complete_row.ensures.kept; end = c.in-Ok-complete_row.ensures.end })
    (first_line text new (reads.same_past ∙ c.requires.first) reads.no_lf c.capture_line.ensures.begins c.capture_line.ensures.unread)
    (named_by rack.lines.items c.row-2.result.now text.row (Some c.in-Some.line.now) c.row-2.ensures.row (search rules)) c.capture_line.ensures.unread
    (λ whole.
    subst (λ (n : ℕ). OnOk c.capture_line.result (IfSome (known_text text (g.R.Read.remaining c.complete_row.new.self.reader)) (DecidesLine (Some c.in-Some.line.now) n (octets_read new)))) number (c.capture_line.ensures.decided whole))

pub returns-in-None-clause-captured : goal.returns-in-None-clause-captured
returns-in-None-clause-captured g c =
    let rack = c.args.rack.now in
    let text = c.complete_row.new.self.text in
    let reads = c.complete_row.ensures.reads in
    let lines = map line_described rack.lines.items in
    let line = only_line text (reads.same_past ∙ c.requires.first) reads.no_lf in
    let named = named_by rack.lines.items c.row-2.result.now text.row None c.row-2.ensures.row (search rules) in
    rw (
      verdict_is rack.workers rack.lines.items (octets_read text) text.row None line named,
      opened rack.workers rack.lines.items (octets_read text) text.row None (interface_among lines text.row) line named refl,
    )
    (ends_so (Err (BadLine 1)) (Err (BadLine 1)) text.row (capture_octets (opening_blocks lines) ++ capture_octets []) (g.W.Write.contents c.args.writer.now) (g.W.Write.contents c.write_opening.new.writer) c.end_text.result refl
    (subst (λ (t : List ℕ). Appends (g.W.Write.contents c.args.writer.now) (g.W.Write.contents c.write_opening.new.writer) t) (sym (append-nil (capture_octets (opening_blocks lines))))
    (subst (λ (ls : List RackLine). Appends (g.W.Write.contents c.args.writer.now) (g.W.Write.contents c.write_opening.new.writer) (capture_octets (opening_blocks (map line_described ls)))) (search rules) c.in-Ok.ensures))
    (subst (λ (r : List ℕ). Ends (Err (BadLine 1)) r c.end_text.result) c.row-in-None.ensures.row c.end_text.ensures))

pub returns-in-None-clause-decided : goal.returns-in-None-clause-decided
returns-in-None-clause-decided g c =
    let rack = c.args.rack.now in
    let text = c.complete_row.new.self.text in
    let reads = c.complete_row.ensures.reads in
    decides_if_ok c.end_text.result rack.workers rack.lines.items _ _ c.args.rows.now.text text text None
    (record { first = reads.same_past ∙ c.requires.first; no_lf = reads.no_lf; kept = c.complete_row.ensures.kept; end = c.in-Ok-complete_row.ensures.end })
    (only_line text (reads.same_past ∙ c.requires.first) reads.no_lf)
    (named_by rack.lines.items c.row-2.result.now text.row None c.row-2.ensures.row (search rules)) (λ part. refl)
    (λ whole. none_if_ok c.end_text.result _ (interface_among (map line_described rack.lines.items) text.row) (octets_read text))
