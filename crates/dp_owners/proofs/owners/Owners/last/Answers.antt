use Rattle.dp_owners.proofs.owners.Owners.last.Goals as goal

pub returns : goal.returns
returns c links lists threaded = threaded.tails c.args.master c.requires
