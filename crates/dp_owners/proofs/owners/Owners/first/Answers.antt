use Rattle.dp_owners.proofs.owners.Owners.first.Goals as goal

pub returns : goal.returns
returns c links lists threaded = threaded.heads c.args.master c.requires
