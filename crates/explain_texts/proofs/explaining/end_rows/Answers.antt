use Rattle.explain_texts.proofs.Ending.{not_readable}
use Rattle.explain_texts.proofs.explaining.end_rows.Goals as goal

pub returns-in-Err : goal.returns-in-Err
returns-in-Err g c = not_readable g.T.TakesEntries.takes c.args.verdict c.args.row.now _ c.args.receiver.now c.in-Err.fault c.in-Err.ensures.verdict
