use Rattle.std.proofs.Common.{subst}
use Rattle.std.specs.List.{AllByRecursion}
use Rattle.dp_shared.specs.LineLock.{FitsPass}
use Rattle.dp_shared.specs.Passes.{PassIn}
use Rattle.test_passes.proofs.tied.serve_and_close.Goals as goal

pub returns-in-Ok-clause-answered : goal.returns-in-Ok-clause-answered
returns-in-Ok-clause-answered g c =
    let fits = subst (AllByRecursion (λ (pass : PassIn). FitsPass c.in-Ok.closed pass.view)) c.in_ok-listed.ensures c.in-Ok.ensures.3 in (
      c.serve_pass_by.new.pass.view,
      c.serve_pass_by.result,
      c.serve_pass_by.ensures.failed,
      c.a_session_has_its_entries.ensures.fits c.in-Ok.closed c.args.turns
          (record {
            left = g.R.Read.remaining c.args.reader.now;
            left_after = g.R.Read.remaining c.serve_pass_by.new.reader;
            written = g.W.Write.contents c.args.writer.now;
            written_after = g.W.Write.contents c.serve_pass_by.new.writer;
          })
          c.args.pass.view c.serve_pass_by.new.pass.view c.serve_pass_by.result c.serve_pass_by.ensures.exchanged fits.0,
    )
