-- promise
-- The diagnosis data that a slave stores.
use Rattle.std.specs.Prelude.{ℕ, Bool, false, true, ◌||◌, List, []}
use Rattle.dp_diag.specs.declared.diag.Diag.{Diag}

-- the greatest number of octets of extended diagnosis: those of a telegram without its first six (IEC 61158-6-3, Slave_Diag response)
abbrev pub most_extended : ℕ
most_extended = 238

-- no fault, no diagnosis, nothing unread: what a slave starts with (own)
abbrev pub no_diagnosis : Diag
no_diagnosis = record {
  ext = false;
  stat = false;
  overflow = false;
  octets = record { items = [] };
  unread = false;
  prm_fault = false;
  cfg_fault = false;
  not_supported = false;
}

-- what a report of the application leaves: Ext_Diag, Stat_Diag, Ext_Diag_Overflow and the extended octets are the report's (IEC
-- 61158-6-3, Slave_Diag response), the diagnosis is unread, and the three faults stay (own)
abbrev pub reported : Diag → Bool → Bool → Bool → List ℕ → Diag
reported diag ext stat overflow octets = record diag {
  ext = ext;
  stat = stat;
  overflow = overflow;
  octets = record { items = octets };
  unread = true;
}

-- the next reply to Data_Exchange has high priority, so that the master asks for the diagnosis: it is unread, or Stat_Diag is set (own)
abbrev pub is_due_high : Diag → Bool
is_due_high diag = diag.unread || diag.stat
