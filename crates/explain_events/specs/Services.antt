-- detail
-- What is wrong with a Set_Prm or a Chk_Cfg, and what a Global_Control does, with their words (own).
use Rattle.std.specs.Prelude.{codes, ℕ, ◌==◌, ◌&&◌, ◌||◌, nat_lt, not, if◌then◌else◌, Bool, true, false, List, [], ◌∷◌, ◌++◌, length, Option, Some, None, is_none}
use Rattle.std.specs.List.{flat_map}
use Rattle.std.specs.Option.{option_map_or}
use Rattle.std.specs.Fmt.{decimal}
use Rattle.dp_prm.specs.declared.prm.Prm.{Prm}
use Rattle.dp_prm.specs.Meaning.{is_short, unlock_req, lock_req, ident_number, user_prm, has_factor_0, sync_req, freeze_req}
use Rattle.dp_cfg.specs.Choosing.{chosen}
use Rattle.dp_slave.specs.declared.description.SlaveSpec.{SlaveSpec}
use Rattle.dp_slave.specs.SlaveRecord.{configurations}
use Rattle.explain_octets.specs.Words.{listed}
use Rattle.explain_events.specs.declared.prm_fault.PrmFault.{PrmFault}
use Rattle.explain_events.specs.declared.prm_fault.PrmFault.TheVariants as faults
use Rattle.explain_events.specs.Slots.{compared_words, is_whole}
use Rattle.explain_events.specs.Words.{count_words, counted_words, ident_words, octets_words}

-- ---- Set_Prm (IEC 61158-6-3, Set_Prm request)

abbrev pub user_parameters_text : ℕ → ℕ → List ℕ
user_parameters_text count most =
    counted_words count (codes "user parameter") (codes "user parameters") ++ codes ", the slave takes " ++ decimal most

abbrev pub prm_fault_text : PrmFault → List ℕ
prm_fault_text (faults.Short count) = count_words count ++ codes ", at least 7"
prm_fault_text (faults.Ident reported own) = codes "ident " ++ ident_words reported ++ codes ", the slave has " ++ ident_words own
prm_fault_text faults.WatchdogTime = codes "watchdog time 0"
prm_fault_text faults.NoSync = codes "Sync_Req, the slave has no Sync"
prm_fault_text faults.NoFreeze = codes "Freeze_Req, the slave has no Freeze"
prm_fault_text (faults.UserParameters count most) = user_parameters_text count most

abbrev pub fault_where : Bool → PrmFault → List PrmFault
fault_where true fault = fault ∷ []
fault_where false fault = []

-- every reason why the octets of a locking request are wrong
abbrev pub lock_faults : List ℕ → SlaveSpec → List PrmFault
lock_faults octets slave =
    fault_where (not (ident_number octets == slave.ident)) (faults.Ident (ident_number octets) slave.ident)
    ++ fault_where (has_factor_0 octets) faults.WatchdogTime
    ++ fault_where (sync_req octets && not slave.sync) faults.NoSync
    ++ fault_where (freeze_req octets && not slave.freeze) faults.NoFreeze
    ++ fault_where (nat_lt slave.user_max (length (user_prm octets))) (faults.UserParameters (length (user_prm octets)) slave.user_max)

-- every reason why the octets of a Set_Prm are wrong. Those of an unlocking request, or of one that sets only min TSDR, are right
abbrev pub prm_faults : List ℕ → SlaveSpec → List PrmFault
prm_faults octets slave =
    if is_short octets then faults.Short (length octets) ∷ []
    else if unlock_req octets || not (lock_req octets) then []
    else lock_faults octets slave

-- the slave finds the parameters wrong
abbrev pub has_wrong_parameters : List ℕ → SlaveSpec → Bool
has_wrong_parameters octets slave = not (length (prm_faults octets slave) == 0)

abbrev pub prm_fault_behind : PrmFault → List ℕ
prm_fault_behind fault = codes "; " ++ prm_fault_text fault

abbrev pub prm_faults_words : List PrmFault → List ℕ
prm_faults_words [] = codes "none"
prm_faults_words (fault ∷ faults) = prm_fault_text fault ++ flat_map prm_fault_behind faults

-- wrong octets release a slave that somebody holds
abbrev pub released_words : Option ℕ → List ℕ
released_words None = codes "."
released_words (Some holder) = codes ". Released."

abbrev pub wrong_prm_text : Option ℕ → List PrmFault → List ℕ
wrong_prm_text holder faults = codes "wrong parameters: " ++ prm_faults_words faults ++ released_words holder

-- ---- Chk_Cfg (IEC 61158-6-3, Chk_Cfg request)

abbrev pub configuration_behind : List ℕ → List ℕ
configuration_behind octets = codes " or " ++ octets_words octets

-- the configurations of a slave
abbrev pub configurations_words : List (List ℕ) → List ℕ
configurations_words [] = codes "none"
configurations_words (first ∷ others) = octets_words first ++ flat_map configuration_behind others

-- the slave finds the configuration wrong
abbrev pub has_wrong_configuration : List ℕ → SlaveSpec → Bool
has_wrong_configuration octets slave = is_none (chosen (configurations slave) octets)

-- the slave's configuration, if it is the only one, and neither it nor the octets end within an identifier
abbrev pub comparable_cfg : List ℕ → List (List ℕ) → Option (List ℕ)
comparable_cfg octets (own ∷ []) = if is_whole octets && is_whole own then Some own else None
comparable_cfg octets own = None

-- the differences from the slave's configuration; if it has several, or an identifier is cut, all of its configurations
abbrev pub cfg_difference_words : List ℕ → List (List ℕ) → Option (List ℕ) → List ℕ
cfg_difference_words octets own None = codes "the slave has " ++ configurations_words own
cfg_difference_words octets own (Some single) = compared_words octets single

abbrev pub wrong_cfg_text : Option ℕ → List ℕ → List (List ℕ) → List ℕ
wrong_cfg_text holder octets own =
    codes "wrong configuration: " ++ cfg_difference_words octets own (comparable_cfg octets own) ++ released_words holder

-- ---- Global_Control (IEC 61158-6-3, Global_Control request)

abbrev pub sync_is_asked : Option Prm → Bool
sync_is_asked prm = option_map_or (λ p. p.sync_req) prm false

abbrev pub freeze_is_asked : Option Prm → Bool
freeze_is_asked prm = option_map_or (λ p. p.freeze_req) prm false

-- the actions, in their order: Clear_Data; Unsync, or else Sync; Unfreeze, or else Freeze; Sync and Freeze only if the parameters asked for
-- them (own order)
unfoldable pub acts_words : Bool → Bool → Bool → Bool → Bool → List ℕ
acts_words clears unsyncs syncs unfreezes freezes =
    listed (codes "no change") [] (
    (clears, codes "outputs cleared")
    ∷ (unsyncs, codes "Unsync")
    ∷ (syncs, codes "Sync")
    ∷ (unfreezes, codes "Unfreeze")
    ∷ (freezes, codes "Freeze")
    ∷ [])
