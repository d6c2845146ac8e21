use Rattle.audit_heads.proofs.FirstRow.{no_row, row_found}
use Rattle.audit_heads.proofs.rows.first_row.Goals as goal

pub returns-in-Some-clause-parts : goal.returns-in-Some-clause-parts
returns-in-Some-clause-parts c = row_found c.args.text.now c.in-Some.index c.in-Some.ensures.index

pub returns-in-None-clause-parts : goal.returns-in-None-clause-parts
returns-in-None-clause-parts c = no_row c.args.text.now c.in-None.ensures.index
