use Rattle.std.proofs.Common.{ap, sym, ◌∙◌}
use Rattle.dp_line.specs.World.{description_of}
use Rattle.explain_texts.proofs.FollowedRows.{text_decided, text_followed_by, text_headless}
use Rattle.explain_texts.proofs.ReadEntries.{between_rows}
use Rattle.explain_texts.proofs.ReadRows.{accepted_is, decides_at_header, no_header, not_whole}
use Rattle.explain_texts.proofs.explaining.follow_text.Goals as goal

pub returns-then-not-is_whole-clause-followed : goal.returns-then-not-is_whole-clause-followed
returns-then-not-is_whole-clause-followed g c =
    let line = description_of c.args.line.now in
    text_headless g.T.TakesEntries.takes c.args.choice.now line c.args.rows.now.text c.args.follower.now c.args.ended.now c.args.receiver.now
    (not_whole line c.args.rows.now.text c.requires.first (sym c.is_whole.ensures.whole ∙ c.if-not-is_whole.true) c.is_whole.ensures.no_lf) c.requires.opened

pub returns-then-not-is_header_of-clause-followed : goal.returns-then-not-is_header_of-clause-followed
returns-then-not-is_header_of-clause-followed g c =
    let line = description_of c.args.line.now in
    let text = c.args.rows.now.text in
    text_headless g.T.TakesEntries.takes c.args.choice.now line text c.args.follower.now c.args.ended.now c.args.receiver.now
    (no_header line text c.requires.first (sym c.is_whole.ensures.whole ∙ c.if-not-is_whole.false) c.is_whole.ensures.no_lf
    (accepted_is line text.row c.row.result.now c.is_header_of.result _ c.row.ensures.row c.is_header_of.ensures c.if-not-is_header_of.true)) c.requires.opened

pub returns-then-not-is_header_of-clause-decided : goal.returns-then-not-is_header_of-clause-decided
returns-then-not-is_header_of-clause-decided g c = λ whole.
    let line = description_of c.args.line.now in
    let text = c.args.rows.now.text in
    decides_at_header line (g.R.Read.remaining c.args.rows.now.reader) text c.requires.first whole
    (no_header line text c.requires.first whole c.is_whole.ensures.no_lf
    (accepted_is line text.row c.row.result.now c.is_header_of.result _ c.row.ensures.row c.is_header_of.ensures c.if-not-is_header_of.true))

pub follow_entries-requires-clause-right : goal.follow_entries-requires-clause-right
follow_entries-requires-clause-right g c = ap (λ f. f.fault) c.requires.opened

pub follow_entries-requires-clause-between : goal.follow_entries-requires-clause-between
follow_entries-requires-clause-between g c = between_rows c.args.rows.now.text (sym c.is_whole.ensures.whole ∙ c.if-not-is_whole.false)

pub returns-clause-followed : goal.returns-clause-followed
returns-clause-followed g c =
    let line = description_of c.args.line.now in
    let text = c.args.rows.now.text in
    text_followed_by g.T.TakesEntries.takes c.args.choice.now line text c.follow_entries.new.rows.text c.args.follower.now c.follow_entries.new.follower c.args.ended.now c.follow_entries.new.ended
    c.args.receiver.now c.follow_entries.new.receiver c.follow_entries.result
    c.requires.first (sym c.is_whole.ensures.whole ∙ c.if-not-is_whole.false) c.is_whole.ensures.no_lf
    (accepted_is line text.row c.row.result.now c.is_header_of.result _ c.row.ensures.row c.is_header_of.ensures c.if-not-is_header_of.false) c.requires.opened c.follow_entries.ensures.followed

pub returns-clause-decided : goal.returns-clause-decided
returns-clause-decided g c = λ begun.
    let line = description_of c.args.line.now in
    let text = c.args.rows.now.text in
    let after = c.follow_entries.new.rows.text in
    let old = c.args.receiver.now in
    let new = c.follow_entries.new.receiver in
    let result = c.follow_entries.result in
    let follows = c.follow_entries.ensures.followed in
    text_decided g.T.TakesEntries.takes c.args.choice.now line text after (g.R.Read.remaining c.args.rows.now.reader) (g.R.Read.remaining c.follow_entries.new.rows.reader) c.args.follower.now c.follow_entries.new.follower
    c.args.ended.now c.follow_entries.new.ended old new result follows
    (text_followed_by g.T.TakesEntries.takes c.args.choice.now line text after c.args.follower.now c.follow_entries.new.follower c.args.ended.now c.follow_entries.new.ended old new result
    c.requires.first begun c.is_whole.ensures.no_lf
    (accepted_is line text.row c.row.result.now c.is_header_of.result _ c.row.ensures.row c.is_header_of.ensures c.if-not-is_header_of.false) c.requires.opened follows)
    c.follow_entries.ensures.kept c.follow_entries.ensures.end c.follow_entries.ensures.wrong

pub returns-clause-begins : goal.returns-clause-begins
returns-clause-begins g c = (c.follow_entries.ensures.followed.entries, c.follow_entries.ensures.followed.read)
