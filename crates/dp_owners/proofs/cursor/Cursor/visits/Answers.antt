use Rattle.dp_owners.proofs.cursor.Cursor.visits.Goals as goal

pub returns : goal.returns
returns c links given rest walk = walk.visits
