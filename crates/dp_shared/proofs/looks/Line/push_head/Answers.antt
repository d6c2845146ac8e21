use Rattle.std.proofs.Common.{rules, ap, subst, sym, ◌∙◌, length}
use Rattle.std.specs.Prelude.{◌==◌}
use Rattle.dp_shared.specs.declared.line_view.PassView.{PassView}
use Rattle.dp_shared.specs.Content.{head_behind, head_if, world_now}
use Rattle.dp_shared.specs.Passes.{pass_in, IsNoEarlier}
use Rattle.dp_shared.proofs.Sends.{no_earlier}
use Rattle.dp_shared.proofs.Taken.{is_there_if}
use Rattle.dp_shared.proofs.looks.Line.push_head.Goals as goal

pub returns-in-Ok-clause-later : goal.returns-in-Ok-clause-later
returns-in-Ok-clause-later g c = let ps = c.pass.inside.seat.me.0.passes in
    subst (λ (q : PassView). IsNoEarlier q c.count-now.result) (ap (λ z. z.view) c.pass.view_is)
    (no_earlier c.take_content-shared_book.result (pass_in ps) ps c.pass.invariant.one c.take_content-shared_book.ensures.took.taken.fits c.prove_legal.ensures.history c.prove_legal.ensures.counted c.count-now.result c.count-now.ensures)

pub returns-in-Ok-clause-look : goal.returns-in-Ok-clause-look
returns-in-Ok-clause-look g c = let content = c.take_content-shared_book.result in record {
  head = head_if c.args.count (world_now content) content.book.entries;
  there = is_there_if (length content.book.entries == c.args.count) (head_behind (world_now content) content.book.entries) ∙ ap (λ n. n == c.args.count) (sym c.count-now.ensures);
  look = search rules;
  appended = search rules;
}
