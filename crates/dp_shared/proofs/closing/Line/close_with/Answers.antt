use Rattle.std.proofs.Common.{map, ◌∙◌, arith}
use Rattle.dp_shared.specs.Passes.{PassIn}
use Rattle.dp_shared.proofs.Sums.{times_append}
use Rattle.dp_shared.proofs.closing.Line.close_with.Goals as goal

pub returns : goal.returns
returns c = let got = c.in_ok-line.ensures.1 in let book = c.in_ok-line.shared_book in
    let both = c.gather.ensures.all book (c.learn.ensures.learnt book (c.gather.ensures.note ∙ got.note)) in record {
      closed = (
        got.of_line,
        got.history,
        got.numbered,
        got.all book both.0,
        both.1,
        λ n. (let sum = c.gather.ensures.numbers n in
            let first = got.numbers n in
            let all = times_append n (map (λ (p : PassIn). p.view.number) c.args.passes.items) (map (λ (p : PassIn). p.view.number) c.args.returned_pass.now.items) in
            let most = c.learn.ensures.differ n in
            omega (arith, sum, first, all, most)),
      );
    }
