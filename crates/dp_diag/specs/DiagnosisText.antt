-- promise
-- The octets of a diagnosis: each bit by its condition, in the order of the standard's table.
use Rattle.std.specs.Prelude.{ℕ, ◌+◌, ◌*◌, ◌/◌, ◌%◌, ◌<◌, Bool, true, false, not, if◌then◌else◌, List, [], ◌∷◌, ◌++◌, unwrap_or, IfSome}
use Rattle.dp_sap.specs.States.{is_in_data_exch, is_in_wait_prm}
use Rattle.dp_diag.specs.declared.facts.DiagFacts.{DiagFacts}

-- the octet of these bits, bit 0 first
abbrev pub octet_of : List Bool → ℕ
octet_of [] = 0
octet_of (bit ∷ bits) = (if bit then 1 else 0) + 2 * octet_of bits

-- octet 1 by its bits, bit 0 first (IEC 61158-6-3, Slave_Diag response, Station_status_1)
abbrev pub station_status_1 : DiagFacts → List Bool
station_status_1 facts =
    -- 0 Station_Non_Existent: set by the master; a slave sends 0
    false
    -- 1 Station_Not_Ready: the state is not Data_Exch
    ∷ not (is_in_data_exch facts.state)
    -- 2 Cfg_Fault: a configuration was refused
    ∷ facts.diag.cfg_fault
    -- 3 Ext_Diag: the extended octets report a fault
    ∷ facts.diag.ext
    -- 4 Not_Supported: the slave was asked for a function that it does not have
    ∷ facts.diag.not_supported
    -- 5 Invalid_Slave_Response: set by the master; a slave sends 0
    ∷ false
    -- 6 Prm_Fault: parameters were refused
    ∷ facts.diag.prm_fault
    -- 7 Master_Lock: set by the master; a slave sends 0
    ∷ false
    ∷ []

-- octet 2 by its bits, bit 0 first (IEC 61158-6-3, Slave_Diag response, Station_status_2)
abbrev pub station_status_2 : DiagFacts → List Bool
station_status_2 facts =
    -- 0 Prm_Req: the slave asks for parameters, in Wait_Prm
    is_in_wait_prm facts.state
    -- 1 Stat_Diag: the master asks for the diagnosis until this bit is 0
    ∷ facts.diag.stat
    -- 2 always 1
    ∷ true
    -- 3 WD_On: a watchdog runs
    ∷ facts.wd_on
    -- 4 Freeze_Mode: the inputs are frozen
    ∷ facts.freeze_mode
    -- 5 Sync_Mode: the outputs are frozen
    ∷ facts.sync_mode
    -- 6 reserved
    ∷ false
    -- 7 Deactivated: set by the master; a slave sends 0
    ∷ false
    ∷ []

-- octet 3 by its bits, bit 0 first (IEC 61158-6-3, Slave_Diag response, Station_status_3)
abbrev pub station_status_3 : DiagFacts → List Bool
station_status_3 facts =
    -- 0 to 6 reserved
    false
    ∷ false
    ∷ false
    ∷ false
    ∷ false
    ∷ false
    ∷ false
    -- 7 Ext_Diag_Overflow: there was more to report than fits
    ∷ facts.diag.overflow
    ∷ []

-- the address that stands for no master (IEC 61158-6-3, Slave_Diag response, Master_Add)
abbrev pub no_master : ℕ
no_master = 255

-- octet 4: the address of the holder, 255 if there is none (IEC 61158-6-3, Slave_Diag response, Master_Add)
abbrev pub master_add : DiagFacts → ℕ
master_add facts = unwrap_or facts.holder no_master

-- octets 5 and 6: the ident number, high octet first (IEC 61158-6-3, Slave_Diag response, Ident_Number)
abbrev pub ident_number : DiagFacts → List ℕ
ident_number facts = facts.ident / 256 ∷ facts.ident % 256 ∷ []

-- the octets of the diagnosis: six, and then the extended octets (IEC 61158-6-3, Slave_Diag response)
abbrev pub diagnosis_text : DiagFacts → List ℕ
diagnosis_text facts =
    octet_of (station_status_1 facts)
    ∷ octet_of (station_status_2 facts)
    ∷ octet_of (station_status_3 facts)
    ∷ master_add facts
    ∷ ident_number facts
    ++ facts.diag.octets.items

-- the holder, if there is one, has the address of a station, 0 to 126 (IEC 61158-4-3, station addresses)
abbrev pub HolderIsStation : DiagFacts → Type 0
HolderIsStation facts = IfSome facts.holder (λ holder. holder < 127)

-- what the octets show: every fact except whether the diagnosis is unread (own)
abbrev pub shown : DiagFacts → DiagFacts
shown facts = record facts { diag = record facts.diag { unread = false } }
