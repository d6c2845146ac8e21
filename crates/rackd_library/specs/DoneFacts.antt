-- detail
-- The facts of a service that a slave did, for C (own).
use Rattle.std.specs.Prelude.{ℕ, ◌+◌, ◌*◌, Bool, Option, Some}
use Rattle.explain_events.specs.declared.done.CfgDone.{CfgDone}
use Rattle.explain_events.specs.declared.done.CfgDone.TheVariants as cfgs
use Rattle.explain_events.specs.declared.done.Controlled.{Controlled}
use Rattle.explain_events.specs.declared.done.Done.{Done}
use Rattle.explain_events.specs.declared.done.Done.TheVariants as dones
use Rattle.explain_events.specs.declared.done.ModeAct.{ModeAct}
use Rattle.explain_events.specs.declared.done.ModeAct.TheVariants as acts
use Rattle.explain_events.specs.declared.done.PrmDone.{PrmDone}
use Rattle.explain_events.specs.declared.done.PrmDone.TheVariants as prms
use Rattle.rackd_library.specs.declared.facts.Facts.{Facts}
use Rattle.rackd_library.specs.BlankFacts.{blank_facts, octet_or_none, truth_number}

abbrev pub act_number : ModeAct → ℕ
act_number acts.NotSent = 0
act_number acts.Acts = 1
act_number acts.BesideItsEnd = 2
act_number acts.NotAskedFor = 3

-- what ends: outputs are cleared, sync mode, freeze mode
abbrev pub ends_number : Bool → Bool → Bool → ℕ
ends_number clears unsyncs unfreezes = truth_number clears + 2 * truth_number unsyncs + 4 * truth_number unfreezes

abbrev pub facts_of_control : Controlled → Facts
facts_of_control control = record (blank_facts 29) {
  value = act_number control.sync;
  limit = act_number control.freeze;
  detail = ends_number control.clears control.unsyncs control.unfreezes;
}

-- a Set_Prm with a min TSDR
abbrev pub facts_of_tsdr : ℕ → ℕ → Option ℕ → ℕ → Facts
facts_of_tsdr reason slave holder min_tsdr = record (blank_facts reason) { slave = slave; master = octet_or_none holder; value = min_tsdr }

abbrev pub facts_of_prm : PrmDone → Facts
facts_of_prm (prms.Wrong released) = record (blank_facts 30) { master = octet_or_none released }
facts_of_prm (prms.Unlocked address holder locks) = record (blank_facts 31) { slave = address; master = octet_or_none holder; detail = truth_number locks }
facts_of_prm (prms.Locked address master min_tsdr) = facts_of_tsdr 32 address (Some master) min_tsdr
facts_of_prm (prms.LockedAgain address master since min_tsdr) = record (facts_of_tsdr 33 address (Some master) min_tsdr) { since = since }
facts_of_prm (prms.MinTsdrSet address holder min_tsdr) = facts_of_tsdr 34 address holder min_tsdr
facts_of_prm (prms.MinTsdrStays address holder min_tsdr) = facts_of_tsdr 35 address holder min_tsdr

abbrev pub facts_of_cfg : CfgDone → Facts
facts_of_cfg (cfgs.Wrong released) = record (blank_facts 36) { master = octet_or_none released }
facts_of_cfg (cfgs.Good number before) = record (blank_facts 37) { value = number; limit = before }

abbrev pub facts_of_done : Done → Facts
facts_of_done dones.OutputsTaken = blank_facts 25
facts_of_done dones.OutputsWait = blank_facts 26
facts_of_done dones.NoOutputs = blank_facts 27
facts_of_done (dones.Diagnosis to_holder) = record (blank_facts 28) { detail = truth_number to_holder }
facts_of_done (dones.Control control) = facts_of_control control
facts_of_done (dones.Parameters done) = facts_of_prm done
facts_of_done (dones.Configuration done) = facts_of_cfg done
facts_of_done dones.Other = blank_facts 38
