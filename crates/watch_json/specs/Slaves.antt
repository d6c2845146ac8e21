-- detail
-- A slave as JSON (own).
use Rattle.std.specs.Prelude.{codes, ℕ, List, [], ◌∷◌, ◌++◌, map, filter, Option, Some, None, option_map}
use Rattle.std.specs.Option.{option_and_then}
use Rattle.std.specs.Fmt.{decimal}
use Rattle.dp_sap.specs.AccessTable.{BusyMarks, chk_cfg, data_exchange, get_cfg, global_control, is_busy, rd_inp, rd_outp, set_prm, slave_diag}
use Rattle.dp_sap.specs.declared.lists.Lists.{Lists}
use Rattle.dp_diag.specs.declared.diag.Diag.{Diag}
use Rattle.dp_slave.specs.declared.description.SlaveSpec.{SlaveSpec}
use Rattle.dp_slave.specs.declared.view.SlaveView.{SlaveView}
use Rattle.dp_slave.specs.SlaveRecord.{SlaveRecord, group_of}
use Rattle.dp_slave.specs.View.{view_of}
use Rattle.explain_events.specs.declared.releases.Release.{Release}
use Rattle.explain_events.specs.Endings.{ending_text}
use Rattle.explain_events.specs.Words.{ident_words, state_words}
use Rattle.explain_texts.specs.JsonValues.{array_json, number_json, string_json, truth_json}
use Rattle.watch_json.specs.Values.{list_json, octets_json}

-- the points that may be marked busy, in the order of the access table
abbrev pub all_points : List (Option ℕ)
all_points = data_exchange ∷ rd_inp ∷ rd_outp ∷ global_control ∷ get_cfg ∷ slave_diag ∷ set_prm ∷ chk_cfg ∷ []

unfoldable pub busy_json : BusyMarks → List ℕ
busy_json marks = array_json (map number_json (filter (is_busy marks) all_points))

-- the end of the last hold
abbrev pub release_json : Option Release → List ℕ
release_json None = codes "null"
release_json (Some release) = codes "{\"place\":" ++ decimal release.place ++ codes ",\"ending\":" ++ string_json (ending_text release.ending) ++ codes "}"

-- an ident number, as a string of four hex digits
unfoldable pub ident_json : ℕ → List ℕ
ident_json ident = codes "\"" ++ ident_words ident ++ codes "\""

-- address, ident number, state and holder
unfoldable pub station_json : SlaveSpec → SlaveView → List ℕ
station_json spec slave =
    codes "\"address\":" ++ decimal slave.address
    ++ codes ",\"ident\":" ++ ident_json spec.ident
    ++ codes ",\"state\":" ++ string_json (state_words slave.state)
    ++ codes ",\"holder\":" ++ number_json slave.holder
    ++ codes ",\"since\":" ++ decimal slave.since

-- the full time of its watchdog, if that runs
abbrev pub full_time : SlaveView → Option ℕ
full_time slave = option_and_then (λ prm. prm.watchdog) slave.prm

-- the last release, the watchdog and the parameters
unfoldable pub hold_json : Option Release → ℕ → SlaveView → List ℕ
hold_json release group slave =
    codes "\"release\":" ++ release_json release
    ++ codes ",\"left\":" ++ number_json slave.left
    ++ codes ",\"full\":" ++ number_json (full_time slave)
    ++ codes ",\"min_tsdr\":" ++ decimal slave.min_tsdr
    ++ codes ",\"group\":" ++ decimal group

-- the process data
unfoldable pub data_json : SlaveView → List ℕ
data_json slave =
    codes "\"inputs\":" ++ octets_json slave.inputs.items
    ++ codes ",\"shown\":" ++ octets_json slave.shown.items
    ++ codes ",\"outputs\":" ++ octets_json slave.outputs.items
    ++ codes ",\"latest\":" ++ octets_json slave.latest.items

-- the modes that Global_Control set
unfoldable pub modes_json : SlaveView → List ℕ
modes_json slave =
    codes "\"sync\":" ++ truth_json slave.sync_mode
    ++ codes ",\"freeze\":" ++ truth_json slave.freeze_mode
    ++ codes ",\"cleared\":" ++ truth_json slave.cleared

-- what the application reported, and the faults
unfoldable pub report_json : Diag → List ℕ
report_json diag =
    codes "\"ext_diag\":" ++ truth_json diag.ext
    ++ codes ",\"stat_diag\":" ++ truth_json diag.stat
    ++ codes ",\"overflow\":" ++ truth_json diag.overflow
    ++ codes ",\"unread\":" ++ truth_json diag.unread

unfoldable pub faults_json : Diag → List ℕ
faults_json diag =
    codes "\"prm_fault\":" ++ truth_json diag.prm_fault
    ++ codes ",\"cfg_fault\":" ++ truth_json diag.cfg_fault
    ++ codes ",\"not_supported\":" ++ truth_json diag.not_supported

unfoldable pub diagnosis_json : Diag → List ℕ
diagnosis_json diag =
    codes "{" ++ report_json diag ++ codes "," ++ faults_json diag ++ codes ",\"octets\":" ++ octets_json diag.octets.items ++ codes "}"

-- who may use it
unfoldable pub access_json : BusyMarks → Lists → List ℕ
access_json marks lists =
    codes "\"busy\":" ++ busy_json marks
    ++ codes ",\"lockers\":" ++ list_json (option_map (λ list. list.items) lists.lockers)
    ++ codes ",\"readers\":" ++ list_json (option_map (λ list. list.items) lists.readers)

-- what it can do
unfoldable pub abilities_json : SlaveSpec → List ℕ
abilities_json spec =
    codes "\"has_sync\":" ++ truth_json spec.sync
    ++ codes ",\"has_freeze\":" ++ truth_json spec.freeze
    ++ codes ",\"failsafe\":" ++ truth_json spec.failsafe

-- the state of a slave, and what follows from its parameters
unfoldable pub state_json : Option Release → SlaveSpec → SlaveRecord → List ℕ
state_json release spec slave =
    station_json spec (view_of slave) ++ codes "," ++ hold_json release (group_of slave) (view_of slave)

-- its data, its modes and its diagnosis
unfoldable pub content_json : SlaveView → List ℕ
content_json slave = data_json slave ++ codes "," ++ modes_json slave ++ codes ",\"diagnosis\":" ++ diagnosis_json slave.diag

unfoldable pub slave_json : Option Release → SlaveSpec → SlaveRecord → List ℕ
slave_json release spec slave =
    codes "{" ++ state_json release spec slave
    ++ codes "," ++ content_json (view_of slave)
    ++ codes "," ++ access_json slave.busy spec.lists
    ++ codes "," ++ abilities_json spec
    ++ codes "}"
