-- promise
-- What an explanation reports of a text, one fact after another (own).
use Rattle.std.specs.Prelude.{ℕ, List, ◌++◌, Result}
use Rattle.dp_line.specs.declared.event.Event.{Event}
use Rattle.dp_line.specs.declared.event.Outcome.{Outcome}
use Rattle.dp_line.specs.World.{Description, World, description_of}
use Rattle.dp_audit.specs.declared.fault.AuditFault.{AuditFault}
use Rattle.explain_events.specs.declared.explained_entry.ExplainedEntry.{ExplainedEntry}
use Rattle.explain_events.specs.EventContexts.{EventContextView}
use Rattle.explain_texts.specs.declared.hold.Hold.{Hold}
use Rattle.explain_texts.specs.declared.statistics.AddressCounts.{AddressCounts}
use Rattle.explain_texts.specs.declared.summary.Summary.{Summary}
use Rattle.explain_texts.specs.declared.tally.SenderCounts.{SenderCounts}

-- an entry: what was known before it, the line after it, its place, its event and its outcome
pub record EntryFacts : Type 0 where
  pub context : EventContextView
  pub after : World
  pub place : ℕ
  pub event : Event
  pub outcome : Outcome

-- the end of an explanation: all holds, first those that ended, in the order in which they ended, and then those that last, in the order of the
-- line; and how often what was counted
pub record SummaryFacts : Type 0 where
  pub line : Description
  pub holds : List Hold
  pub tally : List SenderCounts
  -- the counts of each address, at its index
  pub statistics : List AddressCounts

pub data Reported : Type 0 where
  reports_entry : EntryFacts → Reported
  reports_summary : SummaryFacts → Reported
  reports_verdict : Result ℕ AuditFault → Reported

-- ---- what a receiver is lent

abbrev pub entry_reported : ExplainedEntry → Reported
entry_reported explained = reports_entry (record {
  context = explained.context.now;
  after = explained.after.now.world;
  place = explained.place;
  event = explained.event.now;
  outcome = explained.outcome.now;
})

abbrev pub summary_reported : Summary → Reported
summary_reported summary = reports_summary (record {
  line = description_of summary.line.now;
  holds = summary.ended.now ++ summary.lasting.now;
  tally = summary.tally.now;
  statistics = summary.statistics.now;
})
