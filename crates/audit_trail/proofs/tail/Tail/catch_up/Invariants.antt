use Rattle.std.proofs.Common.{◌≡◌, ◌≤◌, None, IfSome, length}
use Rattle.audit_trail.specs.Tails.{IsSameTail}
use Rattle.audit_trail.specs.Trails.{heads_seen}
use Rattle.audit_trail.proofs.tail.Tail.catch_up.Given as goal

abbrev pub invariant-loop : goal.invariant-loop
invariant-loop g l = record {
  tail : IsSameTail l.fn.self l.self;
  going : l.fn.self.broken ≡ None → l.self.broken ≡ None;
  no_fewer : length l.fn.self.pass.view.looks ≤ length l.self.pass.view.looks;
  grows : l.fn.self.seen ≤ l.self.seen;
  no_part : heads_seen l.self.pass.view.looks ≡ heads_seen l.fn.self.pass.view.looks;
  same : IfSome l.fn.self.broken (λ why. l.self ≡ l.fn.self);
}
