-- helper
-- A slave with two octets of outputs that master 1 holds and exchanges data with, and what it remembers of masters 1 and 2.
use Rattle.std.specs.Prelude.{◌≡◌, ℕ, List, [], ◌∷◌, true, false, Option, Some, None, refl}
use Rattle.dp_telegram.specs.declared.access.Parts.{Parts}
use Rattle.dp_telegram.specs.FunctionCode.{not_activated, no_resource, user_error}
use Rattle.dp_sap.specs.AccessTable.{PointsView, no_lists, unmarked, with_mark, rd_inp, rd_outp, set_prm, slave_diag, global_control, data_exchange}
use Rattle.dp_sap.specs.declared.lists.Lists.{Lists}
use Rattle.dp_sap.specs.declared.state.State.TheVariants.{WaitPrm, DataExch}
use Rattle.dp_responder.specs.declared.rule.Rule.TheVariants as rules
use Rattle.dp_responder.specs.declared.judgement.Judged.TheVariants.{Pass, Repeat, Refuse, Silent}
use Rattle.dp_responder.specs.Memory.{MasterMemory, no_memory, remembered_of, with_remembered}
use Rattle.dp_responder.specs.Judgement.{judgement}

abbrev pub exchanging : PointsView
exchanging = unmarked DataExch (Some 1) 2 false no_lists

-- a request to a point, with these octets
abbrev pub request_to : Option ℕ → List ℕ → Parts
request_to point octets = record { dsap = point; ssap = Some 62; payload = record { items = octets } }

-- nothing is remembered yet
abbrev pub no_requests : List MasterMemory
no_requests = no_memory (1 ∷ 2 ∷ [])

-- the holder exchanges data, by SRD high with FCB 0
pub holder_passes : judgement exchanging None 1 0x5D (request_to data_exchange (0x12 ∷ 0x34 ∷ [])) ≡ Pass
holder_passes = refl

-- another master sends parameters: RS
pub stranger_is_not_holder : judgement exchanging None 2 0x6D (request_to set_prm (0x88 ∷ 2 ∷ 5 ∷ 11 ∷ 0x80 ∷ 0xA1 ∷ 1 ∷ [])) ≡ Refuse not_activated rules.NotHolder
stranger_is_not_holder = refl

-- and again, with FCV and the same FCB: it gets the reply that was stored
pub stranger_repeats :
    judgement exchanging (remembered_of (with_remembered no_requests 2 0x6D (0x10 ∷ 0x02 ∷ 0x05 ∷ 0x03 ∷ 0x0A ∷ 0x16 ∷ [])) 2) 2 0x7D (request_to set_prm [])
    ≡ Repeat (record { items = 0x10 ∷ 0x02 ∷ 0x05 ∷ 0x03 ∷ 0x0A ∷ 0x16 ∷ [] })
stranger_repeats = refl

-- nothing is remembered of the other master by that
pub others_memory_stays : remembered_of (with_remembered no_requests 2 0x6D (0xE5 ∷ [])) 1 ≡ None
others_memory_stays = refl

-- the point is marked busy: RR
pub busy_point :
    judgement (record exchanging { busy = with_mark exchanging.busy set_prm true }) None 1 0x7D (request_to set_prm (0x88 ∷ 2 ∷ 5 ∷ 11 ∷ 0x80 ∷ 0xA1 ∷ 1 ∷ []))
    ≡ Refuse no_resource rules.Busy
busy_point = refl

-- three octets for two outputs: UE
pub wrong_length : judgement exchanging None 1 0x7D (request_to data_exchange (0x12 ∷ 0x34 ∷ 0x56 ∷ [])) ≡ Refuse user_error rules.Length
wrong_length = refl

-- a point that is off, and a point of the other service, by SRD: RS
pub point_is_off : judgement (unmarked WaitPrm None 2 false no_lists) None 1 0x6D (request_to data_exchange (0x12 ∷ 0x34 ∷ [])) ≡ Refuse not_activated rules.NotActive
point_is_off = refl

pub other_service : judgement exchanging None 1 0x7D (request_to global_control (0 ∷ 0 ∷ [])) ≡ Refuse not_activated rules.NoService
other_service = refl

-- a point of SRD, by SDN: no reply
pub unacknowledged : judgement exchanging None 1 0x46 (request_to slave_diag []) ≡ Silent rules.NoService
unacknowledged = refl

-- a slave that only master 1 may lock and only its holder may read: another master's Set_Prm is refused by the list if nobody holds the slave, and by
-- NotHolder if master 1 does; an SDN is refused in silence; the holder reads
abbrev pub one_locker : Lists
one_locker = record { lockers = Some (record { items = 1 ∷ [] }); readers = Some (record { items = [] }) }

pub stranger_is_not_listed : judgement (unmarked WaitPrm None 2 false one_locker) None 2 0x6D (request_to set_prm []) ≡ Refuse not_activated rules.NotListed
stranger_is_not_listed = refl

pub holder_comes_before_the_list : judgement (unmarked DataExch (Some 1) 2 false one_locker) None 2 0x6D (request_to set_prm []) ≡ Refuse not_activated rules.NotHolder
holder_comes_before_the_list = refl

pub list_comes_before_the_service : judgement (unmarked WaitPrm None 2 false one_locker) None 2 0x46 (request_to set_prm []) ≡ Silent rules.NotListed
list_comes_before_the_service = refl

pub stranger_may_not_read : judgement (unmarked DataExch (Some 1) 2 false one_locker) None 2 0x6D (request_to rd_inp []) ≡ Refuse not_activated rules.NotListed
stranger_may_not_read = refl

pub holder_may_read : judgement (unmarked DataExch (Some 1) 2 false one_locker) None 1 0x7D (request_to rd_outp []) ≡ Pass
holder_may_read = refl

-- a point that is off is NotActive, whoever is on a list
pub off_comes_before_the_list : judgement (unmarked WaitPrm None 2 false one_locker) None 2 0x6D (request_to rd_inp []) ≡ Refuse not_activated rules.NotActive
off_comes_before_the_list = refl

-- if the default point takes two octets or none: none, two, and one
pub empty_passes : judgement (unmarked DataExch (Some 1) 2 true no_lists) None 1 0x7D (request_to data_exchange []) ≡ Pass
empty_passes = refl

pub whole_passes : judgement (unmarked DataExch (Some 1) 2 true no_lists) None 1 0x7D (request_to data_exchange (0x12 ∷ 0x34 ∷ [])) ≡ Pass
whole_passes = refl

pub one_is_a_wrong_length : judgement (unmarked DataExch (Some 1) 2 true no_lists) None 1 0x7D (request_to data_exchange (0x12 ∷ [])) ≡ Refuse user_error rules.Length
one_is_a_wrong_length = refl

-- otherwise no octets are a wrong length
pub empty_is_a_wrong_length : judgement exchanging None 1 0x7D (request_to data_exchange []) ≡ Refuse user_error rules.Length
empty_is_a_wrong_length = refl

-- SRD with FCV 0 and FCB 1 is remembered; with FCV 0 and FCB 0 it empties the memory; SDN leaves it unchanged
pub first_is_remembered : remembered_of (with_remembered no_requests 1 0x6D (0xE5 ∷ [])) 1 ≡ Some (record { fcb = true; reply = 0xE5 ∷ [] })
first_is_remembered = refl

pub memory_emptied : remembered_of (with_remembered (with_remembered no_requests 1 0x5D (0xE5 ∷ [])) 1 0x4D (0xE5 ∷ [])) 1 ≡ None
memory_emptied = refl

pub send_data_leaves_the_memory :
    remembered_of (with_remembered (with_remembered no_requests 1 0x5D (0xE5 ∷ [])) 1 0x46 []) 1 ≡ Some (record { fcb = false; reply = 0xE5 ∷ [] })
send_data_leaves_the_memory = refl
