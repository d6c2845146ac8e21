use Rattle.std.proofs.Common.{ℕ, ap, arith, ◌∙◌}
use Rattle.explain_texts.specs.StationCounts.{counted_at}
use Rattle.explain_texts.proofs.AtAddress.{counted_within, counted_outside}
use Rattle.explain_texts.proofs.statistics.count_at.Goals as goal

pub returns-then-index-statistics : goal.returns-then-index-statistics
returns-then-index-statistics c =
    counted_within c.args.statistics.now c.from-index.result c.args.count _ c.add.new.self c.if-index-statistics.true c.add.ensures
    ∙ ap (λ (index : ℕ). counted_at index c.args.count c.args.statistics.now) c.from-index.ensures

pub returns-else-index-statistics : goal.returns-else-index-statistics
returns-else-index-statistics c = counted_outside c.args.statistics.now c.args.address c.args.count (omega arith)
