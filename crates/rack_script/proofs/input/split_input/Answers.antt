use Rattle.std.proofs.Common.{arith, rules, sym}
use Rattle.std.specs.Prelude.{Some, None}
use Rattle.std.proofs.lemmas.Str.Pattern.{split_once_first}
use Rattle.rack_script.proofs.Parting.{line_passed, parted_at_mark, parted_at_last_mark, not_parted}
use Rattle.rack_script.proofs.input.split_input.Goals as goal

pub returns-then-eq : goal.returns-then-eq
returns-then-eq c =
    let first = split_once_first 10 c.loop-line.rest.now (Some (c.in-Some.line, c.in-Some.others)) c.in-Some.ensures.cases (omega arith) in
    parted_at_mark c.args.input.now c.loop-line.rest.now c.in-Some.line.now c.in-Some.others.now c.before-then-eq.result.now c.loop-line.invariant.0
    first.0 first.1 first.2 (sym c.if-eq.ensures) c.before-then-eq.ensures

pub loop-line-preserved : goal.loop-line-preserved
loop-line-preserved c =
    let first = split_once_first 10 c.loop-line.rest.now (Some (c.in-Some.line, c.in-Some.others)) c.in-Some.ensures.cases (omega arith) in
    (line_passed c.args.input.now c.loop-line.rest.now c.in-Some.line.now c.in-Some.others.now c.loop-line.invariant.0 first.0 first.1 first.2 (sym c.if-eq.ensures), search rules)

pub returns-then-eq-2 : goal.returns-then-eq-2
returns-then-eq-2 c =
    parted_at_last_mark c.args.input.now c.loop-line.rest.now c.before-then-eq-2.result.now c.loop-line.invariant.0
    (split_once_first 10 c.loop-line.rest.now None c.in_default.ensures.cases (omega arith)) (sym c.if-eq-2.ensures) c.before-then-eq-2.ensures

pub returns-else-eq-2 : goal.returns-else-eq-2
returns-else-eq-2 c =
    not_parted c.args.input.now c.loop-line.rest.now c.loop-line.invariant.0
    (split_once_first 10 c.loop-line.rest.now None c.in_default.ensures.cases (omega arith)) (sym c.if-eq-2.ensures)
