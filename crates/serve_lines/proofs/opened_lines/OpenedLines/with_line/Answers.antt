use Rattle.std.proofs.Common.{rules, ◌≡◌, ◌∷◌, ◌++◌, [], Some, length, sym, subst, ap, ◌∙◌, arith}
use Rattle.std.proofs.lemmas.List.{length_push}
use Rattle.std.proofs.lemmas.List.Elements.{All-head, All-pop, All-push, All-rest, All-same}
use Rattle.dp_sessions.specs.Pools.{HasSeats, IsSeatAt}
use Rattle.serve_lines.proofs.Opening.{new_seats, one_more_seat, one_opened}
use Rattle.serve_lines.proofs.opened_lines.OpenedLines.with_line.Goals as goal

pub loop-own-init : goal.loop-own-init
loop-own-init c = (
  tt,
  tt,
  search rules,
  search rules,
  search rules,
  search rules,
  record {
    port = record { line = c.in_ok-line.line; claims = c.in-Ok.claims };
    more = search rules;
    each = new_seats c.in-Ok.claims c.in-Ok.fresh.items (search rules);
  },
)

pub loop-own-preserved : goal.loop-own-preserved
loop-own-preserved c =
    let new = c.loop-own.invariant.6 in
    let rest : c.loop-own.own-iterator.rest.items ≡ c.in-Some.own ∷ c.next.new.self.rest.items = search rules in
    let more : c.push-in-loop-own-2.new.self.items ≡ c.loop-own.more.items ++ c.push-in-loop-own.new.self ∷ [] = search rules in
    let seats : c.push-in-loop-own.new.self.items ≡ c.in-Some.own.items ++ c.in-Some-pop.seat ∷ [] = search rules in
    let has = All-head (λ own. HasSeats c.args.self.ports.items own.items) c.in-Some.own c.next.new.self.rest.items (All-same (λ own. HasSeats c.args.self.ports.items own.items) (c.in-Some.own ∷ c.next.new.self.rest.items) c.loop-own.own-iterator.rest.items (sym rest) c.loop-own.invariant.3) in
    let (left, here) = All-pop (IsSeatAt new.port.claims) c.loop-own.fresh.items c.pop.new.self.items (Some c.in-Some-pop.seat) c.in-Some-pop.ensures.items new.each in (
      tt,
      tt,
      (let n = ap length more in let m = ap length rest in let k = length_push c.loop-own.more.items c.push-in-loop-own.new.self in let all = c.loop-own.invariant.2 in omega (arith, n, m, k, all)),
      All-rest (λ own. HasSeats c.args.self.ports.items own.items) c.in-Some.own c.next.new.self.rest.items c.loop-own.own-iterator.rest.items rest c.loop-own.invariant.3,
      All-same (λ own. HasSeats c.push-2.new.self.items own.items) c.push-in-loop-own-2.new.self.items (c.loop-own.more.items ++ c.push-in-loop-own.new.self ∷ []) more
          (All-push (λ own. HasSeats c.push-2.new.self.items own.items) c.loop-own.more.items c.push-in-loop-own.new.self c.loop-own.invariant.4
          (subst (HasSeats c.push-2.new.self.items) (sym seats) (one_more_seat c.args.self.ports.items c.push-2.new.self.items c.loop-own.fresh.items c.in-Some.own.items c.in-Some-pop.seat new has here))),
      (let fewer = ap length c.in-Some-pop.ensures.items in let n = length_push c.pop.new.self.items c.in-Some-pop.seat in let m = ap length rest in let all = c.loop-own.invariant.5 in omega (arith, fewer, n, m, all)),
      record { port = new.port; more = new.more; each = left },
    )

pub returns-clause-line : goal.returns-clause-line
returns-clause-line c = (
  record { line = c.in_ok-line.line; claims = c.in-Ok.claims },
  search rules,
  (search rules, c.in-Ok.ensures.claims.0 ∙ sym (one_opened c.args.is_endless c.args.line)),
)
