use Rattle.std.proofs.Common.{rules, ◌≡◌, ◌∙◌, length, slice_index_or, subst, arith}
use Rattle.std.proofs.lemmas.Slice.Zip.{AllZip-long}
use Rattle.serve_lines.specs.OpenedLines.{IsPortOf}
use Rattle.serve_sessions.proofs.Pairs.{pair_at}
use Rattle.serve_sessions.proofs.clocks.open_clocks.Goals as goal

pub offset_bounds-ports-len : goal.offset_bounds-ports-len
offset_bounds-ports-len g c =
    let place : c.len.result ≡ length c.loop-line.clocks.items = search rules in
    let all = c.loop-line.invariant in let within = c.loop-line-test.true in let few = c.requires.few in omega (arith, place, all, within, few)

pub bounds-ports-len : goal.bounds-ports-len
bounds-ports-len g c =
    let long = AllZip-long (λ line port. IsPortOf line.spec port) c.args.served.lines.now c.args.served.ports.now c.requires.opened in
    let place : c.len.result ≡ length c.loop-line.clocks.items = search rules in
    let all = c.loop-line.invariant in let within = c.loop-line-test.true in omega (arith, long, place, all, within)

pub open-requires : goal.open-requires
open-requires g c =
    let place : c.len.result ≡ length c.loop-line.clocks.items = search rules in record {
      described = (pair_at (λ line port. IsPortOf line.spec port) c.args.served.lines.now c.args.served.ports.now c.loop-line.line-index c.line-item.result c.index-ports-len.result c.requires.opened
          c.loop-line-test.true c.line-item.is
          (subst (λ i. c.index-ports-len.result ≡ slice_index_or c.args.served.ports.now i c.index-ports-len.result) (place ∙ c.loop-line.invariant) c.index-ports-len.is)).0;
    }
