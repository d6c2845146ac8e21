use Rattle.std.proofs.Common.{ℕ, eqb, sym, ap, ◌∙◌, subst, arith, Some, Option, ◌∷◌, List}
use mathlib.Core.Option.{none}
use prog.Atomic.{either}
use Rattle.atomic_table.specs.Table.{Allows, step, rest}
use Rattle.dp_shared.specs.Content.{Content}
use Rattle.dp_shared.specs.LineLock.{LineRule, takes_content}
use Rattle.dp_shared.proofs.LockKeeps.{takes_keeps}
use Rattle.dp_shared.proofs.line_lock.Line.try_take_content.Goals as goal

pub compare_exchange-requires : goal.compare_exchange-requires
compare_exchange-requires c = let t = c.args.self.now.table.shared in let words = c.args.self.now.counts.0 in let v = c.args.seat.now.me.0 in
    let P : List (ℕ × Option Content) → Type 0 = λ h. Allows (LineRule t.key) t.table_id.slots c.args.seat.now.id (v, h) 0 (λ n. either (eqb n 0) 1 n) (takes_content (step t.table_id.slots 0 0 1 none) (v, h)) in (
      c.requires.ours,
      (omega arith),
      subst P (sym c.requires.empty) (takes_keeps t.key t.table_id.slots c.args.seat.now.id v),
    )

pub exchange-requires : goal.exchange-requires
exchange-requires c = let won = c.compare_exchange.ensures.2.0 c.if-compare_exchange-ne0.false in (
  c.compare_exchange.ensures.0 ∙ c.requires.ours,
  (Some won.0, ap (λ m. m.1) won.1 ∙ sym (ap (λ m. (0, Some won.0) ∷ rest m.1) won.1)),
)
