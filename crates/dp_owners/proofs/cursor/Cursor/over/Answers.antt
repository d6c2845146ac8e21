use Rattle.std.proofs.Common.{refl, arith}
use Rattle.dp_owners.proofs.Counts.{list_fits}
use Rattle.dp_owners.proofs.cursor.Cursor.over.Goals as goal

pub returns : goal.returns
returns c links lists threaded = record {
  visits = refl;
  at = c.first.ensures links lists threaded;
  chain = threaded.chains c.args.master c.requires;
  room = omega (arith, list_fits c.args.owners.now links lists c.args.master c.requires threaded);
}
