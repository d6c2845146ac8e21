use Rattle.std.proofs.Common.{◌+◌, length, map, ap, refl, ◌∙◌, arith}
use Rattle.std.proofs.lemmas.List.{length-append, take_all}
use Rattle.serve_lines.specs.ServedLines.{line_numbers}
use Rattle.serve_lines.proofs.Opening.{one_more_number}
use Rattle.serve_lines.proofs.listening.ports_of.Goals as goal

pub loop-line-init : goal.loop-line-init
loop-line-init c = (ap length c.new-all.ensures, ap (λ ports. map (λ p. p.line) ports) c.new-all.ensures)

pub bounds-listening-len : goal.bounds-listening-len
bounds-listening-len c =
    let place = c.len.ensures.value in let so_far = c.loop-line.invariant.0 in let within = c.loop-line-test.true in let each = c.requires.each in
    omega (arith, place, so_far, within, each)

pub push-requires : goal.push-requires
push-requires c =
    let so_far = c.loop-line.invariant.0 in let within = c.loop-line-test.true in let few = c.requires.few in
    (omega arith, omega (arith, so_far, within, few))

pub loop-line-preserved : goal.loop-line-preserved
loop-line-preserved c =
    let longer = ap length c.push.ensures.items in (
      longer ∙ length-append c.loop-line.all.items _ ∙ ap (λ n. n + 1) c.loop-line.invariant.0,
      one_more_number c.args.lines.now c.loop-line.line-index c.line-item.result c.loop-line.all.items c.push.new.self.items _ c.loop-line.invariant.1 c.push.ensures.items refl
          c.loop-line-test.true c.line-item.is,
    )

pub returns : goal.returns
returns c = c.loop-line.invariant.1 ∙ ap line_numbers (take_all c.loop-line.line-index c.args.lines.now c.loop-line-test.false)
