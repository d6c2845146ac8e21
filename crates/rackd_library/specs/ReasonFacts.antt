-- detail
-- The facts of a reason for C: its number, and numbers for its addresses, places and lengths (own). include/rackd.h has their names.
use Rattle.std.specs.Prelude.{ℕ, Option, Some, None}
use Rattle.dp_sap.specs.declared.state.State.{State}
use Rattle.dp_sap.specs.declared.state.State.TheVariants.{WaitPrm, WaitCfg, DataExch}
use Rattle.dp_line.specs.Codes.{operator_fault_code}
use Rattle.explain_events.specs.declared.ending.Ending.{Ending}
use Rattle.explain_events.specs.declared.ending.Ending.TheVariants as endings
use Rattle.explain_events.specs.declared.line_reasons.LineReason.{LineReason}
use Rattle.explain_events.specs.declared.line_reasons.LineReason.TheVariants as line_reasons
use Rattle.explain_events.specs.declared.op_results.OpResult.{OpResult}
use Rattle.explain_events.specs.declared.op_results.OpResult.TheVariants as results
use Rattle.explain_events.specs.declared.reason.Lengths.{Lengths}
use Rattle.explain_events.specs.declared.reason.Lengths.TheVariants as lengths
use Rattle.explain_events.specs.declared.reason.Listing.{Listing}
use Rattle.explain_events.specs.declared.reason.Listing.TheVariants.{Lockers, Readers}
use Rattle.explain_events.specs.declared.reason.Reason.{Reason}
use Rattle.explain_events.specs.declared.reason.Reason.TheVariants as reasons
use Rattle.explain_events.specs.declared.reason.Repeat.{Repeat}
use Rattle.explain_events.specs.declared.reason.Repeat.TheVariants as repeats
use Rattle.explain_events.specs.declared.reason.TakenService.{TakenService}
use Rattle.explain_events.specs.declared.reason.TakenService.TheVariants.{Sdn, Srd}
use Rattle.explain_events.specs.declared.releases.Release.{Release}
use Rattle.embedded_rack.specs.declared.entry_reason.EntryReason.{EntryReason}
use Rattle.embedded_rack.specs.declared.entry_reason.EntryReason.TheVariants as entry_reasons
use Rattle.rackd_library.specs.declared.facts.Facts.{Facts}
use Rattle.rackd_library.specs.BlankFacts.{blank_facts, octet_or_none, truth_number}
use Rattle.rackd_library.specs.DoneFacts.{facts_of_done}

-- ---- words as numbers

abbrev pub state_number : State → ℕ
state_number WaitPrm = 0
state_number WaitCfg = 1
state_number DataExch = 2

abbrev pub service_number : Option TakenService → ℕ
service_number (Some Sdn) = 1
service_number (Some Srd) = 2
service_number None = 255

abbrev pub list_number : Listing → ℕ
list_number Lockers = 1
list_number Readers = 2

abbrev pub ending_number : Ending → ℕ
ending_number endings.WrongConfiguration = 1
ending_number endings.WrongParameters = 2
ending_number endings.Unlocked = 3
ending_number endings.Halted = 4
ending_number endings.Watchdog = 5
ending_number endings.Lasts = 6

-- ---- a rule of the line

abbrev pub facts_of_line : LineReason → Facts
facts_of_line line_reasons.Halted = blank_facts 1
facts_of_line line_reasons.NoFrame = blank_facts 2
facts_of_line (line_reasons.NoMaster master) = record (blank_facts 3) { master = master }
facts_of_line (line_reasons.ForeignSender station) = record (blank_facts 4) { master = octet_or_none station }
facts_of_line line_reasons.Token = blank_facts 5
facts_of_line line_reasons.NotRequest = blank_facts 6
facts_of_line line_reasons.BadFunction = blank_facts 7
facts_of_line line_reasons.BadExtension = blank_facts 8
facts_of_line line_reasons.BadBroadcast = blank_facts 9
facts_of_line line_reasons.NoStation = blank_facts 10
facts_of_line (line_reasons.MasterStation master) = record (blank_facts 11) { master = master }
facts_of_line line_reasons.LiveListPoll = blank_facts 12

-- ---- a rule of the slave

abbrev pub facts_of_repeat : Repeat → Facts
facts_of_repeat repeats.Unknown = blank_facts 15
facts_of_repeat (repeats.Retry place) = record (blank_facts 16) { since = place }
facts_of_repeat (repeats.Other place point) = record (blank_facts 17) { since = place; point = octet_or_none point }

abbrev pub facts_of_release : Option Release → Facts
facts_of_release None = blank_facts 19
facts_of_release (Some release) = record (blank_facts 19) { since = release.place; detail = ending_number release.ending }

abbrev pub facts_of_lengths : ℕ → Lengths → Facts
facts_of_lengths sent lengths.Nothing = record (blank_facts 23) { value = sent; detail = 0 }
facts_of_lengths sent (lengths.Exactly limit) = record (blank_facts 23) { value = sent; limit = limit; detail = 1 }
facts_of_lengths sent (lengths.OrNothing limit) = record (blank_facts 23) { value = sent; limit = limit; detail = 2 }
facts_of_lengths sent (lengths.UpTo limit) = record (blank_facts 23) { value = sent; limit = limit; detail = 3 }

abbrev pub facts_of_reason : Reason → Facts
facts_of_reason (reasons.Status address state) = record (blank_facts 13) { slave = address; state = state_number state }
facts_of_reason (reasons.NoService takes point) = record (blank_facts 14) { point = octet_or_none point; detail = service_number takes }
facts_of_reason (reasons.Repeat repeat) = facts_of_repeat repeat
facts_of_reason (reasons.NoPoint address point) = record (blank_facts 18) { slave = address; point = octet_or_none point }
facts_of_reason (reasons.PointOff address state since point) =
    record (facts_of_release since) { slave = address; point = octet_or_none point; state = state_number state }
facts_of_reason (reasons.NotHolder address holder since) = record (blank_facts 20) { slave = address; master = octet_or_none holder; since = since }
facts_of_reason (reasons.NotListed master list) = record (blank_facts 21) { master = master; detail = list_number list }
facts_of_reason (reasons.Busy point) = record (blank_facts 22) { point = octet_or_none point }
facts_of_reason (reasons.Length sent takes) = facts_of_lengths sent takes
facts_of_reason (reasons.NotSelected address select group) = record (blank_facts 24) { slave = address; value = select; limit = group }
facts_of_reason (reasons.Done done) = facts_of_done done

-- ---- the operator

abbrev pub facts_of_op : OpResult → Facts
facts_of_op results.Done = blank_facts 40
facts_of_op (results.Refused fault) = record (blank_facts 41) { detail = operator_fault_code fault }
facts_of_op results.Ticked = blank_facts 42
facts_of_op (results.Halted full) = record (blank_facts 43) { detail = truth_number full }

-- ---- any entry

abbrev pub facts_of_entry : EntryReason → Facts
facts_of_entry entry_reasons.Unknown = blank_facts 0
facts_of_entry (entry_reasons.Line reason) = facts_of_line reason
facts_of_entry (entry_reasons.Slave reason) = facts_of_reason reason
facts_of_entry entry_reasons.ToAll = blank_facts 39
facts_of_entry (entry_reasons.Operator done) = facts_of_op done
