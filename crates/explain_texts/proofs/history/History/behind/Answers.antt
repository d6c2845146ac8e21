use Rattle.std.proofs.Common.{List, ℕ, ap, ◌∙◌}
use Rattle.dp_slave.specs.declared.description.SlaveSpec.{SlaveSpec}
use Rattle.dp_line.specs.World.{description_of}
use Rattle.explain_texts.specs.Behind.{all_holds_begun}
use Rattle.explain_texts.specs.Following.{known_at}
use Rattle.explain_texts.specs.Known.{first_world}
use Rattle.explain_texts.specs.Statistics.{moment}
use Rattle.explain_texts.proofs.Behind.{history_is}
use Rattle.explain_texts.proofs.history.History.behind.Goals as goal

pub returns : goal.returns
returns c =
    let line = description_of c.args.line.now in
    let world = c.args.state.now.world in
    let first = c.in_ok-history.history in
    history_is (known_at first (first_world line 0)) line 0 world c.args.time c.begin_all_holds.new.statistics.items (c.in_ok-history.ensures 0)
    (c.begin_all_holds.ensures
    ∙ ap (λ (now : ℕ). all_holds_begun world now c.as_slice-slaves.result.now first.statistics.items) c.moment.ensures
    ∙ ap (λ (slaves : List SlaveSpec). all_holds_begun world (moment c.args.time) slaves first.statistics.items) c.as_slice-slaves.ensures.value)
