use Rattle.std.proofs.Common.{◌≡◌, ◌≤◌, [], ◌∷◌, ◌++◌, map, length, slice_index_or, sym, subst, ap, ◌∙◌, arith}
use Rattle.std.specs.List.{range_with_len}
use Rattle.std.proofs.lemmas.List.{take_all}
use Rattle.std.proofs.lemmas.Slice.Zip.{AllZip-long}
use Rattle.dp_shared.specs.Passes.{line_of}
use Rattle.serve_lines.specs.OpenedLines.{IsPortOf}
use Rattle.serve_sessions.proofs.Pairs.{one_more_numbered, one_more_of, pair_at}
use Rattle.serve_sessions.proofs.acceptors.Acceptors.new.Goals as goal

pub bounds-ports-place : goal.bounds-ports-place
bounds-ports-place g c =
    let place : c.len-place.result ≡ length c.loop-here.all.masters.items = c.len-place.ensures ∙ c.loop-here.all.masters.ok.0 in
    let rest : c.loop-here.here-iterator.rest.items ≡ c.in-Some.here ∷ c.next.new.self.rest.items = c.in-Some.ensures.steps.0 in
    let fewer = ap length rest in
    let long = AllZip-long (λ line port. IsPortOf line.spec port) c.args.served.lines.now c.args.served.ports.now c.requires.served.opened in
    let all = c.loop-here.invariant.2 in let each = c.requires.each in omega (arith, place, fewer, long, all, each)

pub invariant_of-target : goal.invariant_of-target
invariant_of-target g c =
    let place : c.len-place.result ≡ length c.loop-here.all.masters.items = c.len-place.ensures ∙ c.loop-here.all.masters.ok.0 in
    let rest : c.loop-here.here-iterator.rest.items ≡ c.in-Some.here ∷ c.next.new.self.rest.items = c.in-Some.ensures.steps.0 in
    let fewer = ap length rest in
    let all = c.loop-here.invariant.2 in let each = c.requires.each in record {
      described = subst (λ line. line_of c.index-ports-place.result.line ≡ line.spec) c.index-lines-place.is
          (pair_at (λ line port. IsPortOf line.spec port) c.args.served.lines.now c.args.served.ports.now c.len-place.result c.index-lines-place.result c.index-ports-place.result c.requires.served.opened
          (omega (arith, place, fewer, all, each)) c.index-lines-place.is c.index-ports-place.is).0;
    }

pub loop-here-preserved : goal.loop-here-preserved
loop-here-preserved g c =
    let place : c.len-place.result ≡ length c.loop-here.all.masters.items = c.len-place.ensures ∙ c.loop-here.all.masters.ok.0 in
    let rest : c.loop-here.here-iterator.rest.items ≡ c.in-Some.here ∷ c.next.new.self.rest.items = c.in-Some.ensures.steps.0 in
    let fewer = ap length rest in
    let long = AllZip-long (λ line port. IsPortOf line.spec port) c.args.served.lines.now c.args.served.ports.now c.requires.served.opened in
    let longer = c.in_ok-add.ensures.longer in let all = c.loop-here.invariant.2 in let each = c.requires.each in (
      tt,
      tt,
      omega (arith, fewer, longer, all),
      one_more_numbered _ _ (length c.loop-here.all.masters.items) (length c.add.new.self.masters.items) c.loop-here.invariant.3
          (subst (λ n. map (λ acceptor. acceptor.port) c.add.new.self.masters.items ≡ map (λ acceptor. acceptor.port) c.loop-here.all.masters.items ++ n ∷ []) place c.in_ok-add.ensures.masters) longer,
      one_more_of _ _ c.args.served.ports.now c.index-ports-place.result (length c.loop-here.all.masters.items) (length c.add.new.self.masters.items) c.loop-here.invariant.4
          c.in_ok-add.ensures.operators longer (omega (arith, fewer, long, all, each))
          (subst (λ i. c.index-ports-place.result ≡ slice_index_or c.args.served.ports.now i c.index-ports-place.result) place c.index-ports-place.is),
    )

pub returns-clause-masters : goal.returns-clause-masters
returns-clause-masters g c =
    let none : length c.loop-here.here-iterator.rest.items ≡ 0 = sym c.loop-here.here-iterator.rest.ok.0 ∙ c.in-None.ensures.steps.0 in
    let long = AllZip-long (λ line port. IsPortOf line.spec port) c.args.served.lines.now c.args.served.ports.now c.requires.served.opened in
    let all = c.loop-here.invariant.2 in let each = c.requires.each in
    let whole : length c.loop-here.all.masters.items ≡ length c.args.served.ports.now = omega (arith, none, long, all, each) in
    subst (λ n. map (λ acceptor. acceptor.port) c.loop-here.all.masters.items ≡ range_with_len 0 n) whole c.loop-here.invariant.3

pub returns-clause-operators : goal.returns-clause-operators
returns-clause-operators g c =
    let none : length c.loop-here.here-iterator.rest.items ≡ 0 = sym c.loop-here.here-iterator.rest.ok.0 ∙ c.in-None.ensures.steps.0 in
    let long = AllZip-long (λ line port. IsPortOf line.spec port) c.args.served.lines.now c.args.served.ports.now c.requires.served.opened in
    let all = c.loop-here.invariant.2 in let each = c.requires.each in
    let whole : length c.args.served.ports.now ≤ length c.loop-here.all.masters.items = omega (arith, none, long, all, each) in
    c.loop-here.invariant.4 ∙ take_all (length c.loop-here.all.masters.items) c.args.served.ports.now whole
