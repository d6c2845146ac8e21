use Rattle.std.proofs.Common.{[], ◌∷◌, ◌++◌, arith, subst}
use Rattle.std.specs.Prelude.{IfSome}
use Rattle.std.proofs.lemmas.Grind.{common_steps}
use Rattle.std.proofs.lemmas.List.Elements.{All-pop, All-push, All-same}
use Rattle.dp_sessions.specs.Pools.{IsSeatAt}
use Rattle.test_passes.proofs.threads.tasks_of.Goals as goal

pub loop-client-preserved : goal.loop-client-preserved
loop-client-preserved g c =
    let popped = All-pop (IsSeatAt c.args.claims.now) c.loop-client.seats.items c.pop.new.self.items c.pop.result c.pop.ensures.items c.loop-client.invariant.0 in
    let taken = subst (λ r. IfSome r (IsSeatAt c.args.claims.now)) c.in-Some-pop.is popped.1 in (
      popped.0,
      All-same (λ task. IsSeatAt c.args.claims.now task.seat) c.push.new.self.items (c.loop-client.tasks.items ++ record { seat = c.in-Some-pop.seat; client = c.in-Some.client } ∷ []) c.in_ok-push.ensures.items
          (All-push (λ task. IsSeatAt c.args.claims.now task.seat) c.loop-client.tasks.items (record { seat = c.in-Some-pop.seat; client = c.in-Some.client }) c.loop-client.invariant.1 taken),
      grind (arith, common_steps),
    )
