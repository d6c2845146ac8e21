use Rattle.std.proofs.Common.{List, ℕ, drop, ap, ◌∙◌}
use Rattle.dp_telegram.proofs.Windows.{window_later}
use Rattle.dp_telegram.proofs.cutter.Cutter.pass.Goals as goal

pub returns-clause-held : goal.returns-clause-held
returns-clause-held c =
    window_later c.self.inside.buffer c.self.inside.start c.self.inside.end c.args.count ∙ ap (λ (o : List ℕ). drop c.args.count o) c.self.view_is
