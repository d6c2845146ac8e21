-- helper
-- What a diagnosis reports, with the stored diagnosis data lent.
use Rattle.dp_diag.specs.declared.facts.DiagFacts.{DiagFacts}
use Rattle.dp_diag.specs.declared.facts.DiagFactsLent.{DiagFactsLent}

-- the facts that a `DiagFactsLent` stands for
abbrev pub facts_lent : DiagFactsLent → DiagFacts
facts_lent facts = record {
  state = facts.state;
  holder = facts.holder;
  ident = facts.ident;
  wd_on = facts.wd_on;
  freeze_mode = facts.freeze_mode;
  sync_mode = facts.sync_mode;
  diag = facts.diag.now;
}
