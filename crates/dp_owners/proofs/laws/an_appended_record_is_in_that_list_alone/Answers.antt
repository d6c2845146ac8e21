use Rattle.std.proofs.Common.{[], refl}
use Rattle.std.proofs.lemmas.Bool.{ne_eqb, eq-eqb}
use Rattle.dp_owners.proofs.laws.an_appended_record_is_in_that_list_alone.Goals as goal

pub returns-clause-there : goal.returns-clause-there
returns-clause-there c lists m at = rw (eq-eqb m m refl) (lists m, [], refl)

pub returns-clause-nowhere_else : goal.returns-clause-nowhere_else
returns-clause-nowhere_else c lists m at n free below other = rw (ne_eqb n m other) (free n below)
