use Rattle.std.proofs.Common.{ap, get_or, ◌-◌, ◌∙◌}
use Rattle.explain_texts.proofs.Reading.{before_last, no_lf_at_end}
use Rattle.explain_texts.proofs.row_buffer.take_lf.Goals as goal

pub returns-then-index-ne-LF-clause-no_lf : goal.returns-then-index-ne-LF-clause-no_lf
returns-then-index-ne-LF-clause-no_lf c = λ stops.
    let row = c.args.row.now.items in
    no_lf_at_end row c.index.result.now (λ none. c.if-count-eq0.false (c.len-count.ensures ∙ c.args.row.now.ok.0 ∙ none))
    (c.index.ensures ∙ ap (λ n. get_or row (n - 1) c.index.result.now) (c.len-count.ensures ∙ c.args.row.now.ok.0)) c.if-index-ne-LF.true stops

pub returns-clause-no_lf : goal.returns-clause-no_lf
returns-clause-no_lf c = λ stops. rw (c.truncate.ensures.items, c.len-count.ensures, c.args.row.now.ok.0) (before_last c.args.row.now.items stops)
