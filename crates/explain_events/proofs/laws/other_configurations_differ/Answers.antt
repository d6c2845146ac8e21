use Rattle.explain_events.proofs.Differing.{differ}
use Rattle.explain_events.proofs.laws.other_configurations_differ.Goals as goal

pub returns : goal.returns
returns c = differ c.split_is_found.ensures
