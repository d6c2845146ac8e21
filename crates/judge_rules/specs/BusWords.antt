-- helper
-- Words for the laws of what depends on all entries of a master, whatever the station: a window of a hundred entries, retries in a row (IEC
-- 61158-4-3, function code of a request, and retry), Clear_Data, and what a Set_Prm asks for (IEC 61158-6-3, Global_Control and Set_Prm request).
use Rattle.std.specs.Prelude.{◌==◌, ◌&&◌, ◌||◌, not, Bool, true, false, List, [], ◌∷◌, ℕ, Option, Some, None}
use Rattle.std.specs.List.{count_by, list_all}
use Rattle.dp_cfg.specs.Choosing.{same_octets}
use Rattle.judge_rules.specs.declared.entry.Control.{Control}
use Rattle.judge_rules.specs.declared.entry.Entry.{Entry}
use Rattle.judge_rules.specs.declared.entry.Entry.TheVariants as entries
use Rattle.judge_rules.specs.declared.entry.Request.{Request}
use Rattle.judge_rules.specs.BusFacts.{asks_freeze, asks_sync, clears, controls_all}
use Rattle.judge_rules.specs.Entries.{control_asked, is_answered, is_srd}

abbrev pub is_token : Entry → Bool
is_token (entries.PassedToken to) = true
is_token other = false

abbrev pub is_stray : Entry → Bool
is_stray entries.Stray = true
is_stray other = false

-- the number of entries among these that are no passed token, and of those that are no request
abbrev pub entry_count : List Entry → ℕ
entry_count past = count_by (λ entry. not (is_token entry)) past

abbrev pub stray_count : List Entry → ℕ
stray_count past = count_by is_stray past

-- the request is the same SRD as the one before it, which was not answered; with FCV 0, no time has passed
abbrev pub is_retry_of : Request → Request → Bool
is_retry_of before request =
    is_srd request && not (is_answered before.answer) && (request.fcv || before.time == request.time) && same_octets before.octets.items request.octets.items

-- each of these entries is a retry of the request before it, or a passed token after a request with FCV 1
abbrev pub are_retries : Request → List Entry → Bool
are_retries before [] = true
are_retries before (entries.Request request ∷ rest) = is_retry_of before request && are_retries request rest
are_retries before (entries.PassedToken to ∷ rest) = before.fcv && are_retries before rest
are_retries before (entries.Stray ∷ rest) = false

-- the last request of an earlier one and these entries
abbrev pub last_request : Request → List Entry → Request
last_request before [] = before
last_request before (entries.Request request ∷ rest) = last_request request rest
last_request before (entries.PassedToken to ∷ rest) = last_request before rest
last_request before (entries.Stray ∷ rest) = last_request before rest

-- none of these entries is a Global_Control to all stations
abbrev pub is_control_to_all : Entry → Bool
is_control_to_all (entries.Request request) = controls_all request
is_control_to_all other = false

abbrev pub have_no_control_to_all : List Entry → Bool
have_no_control_to_all past = list_all (λ entry. not (is_control_to_all entry)) past

-- a Global_Control with Clear_Data to all stations and all groups, and one without Clear_Data
abbrev pub sets_clear : Request → Option Control → Bool
sets_clear request None = false
sets_clear request (Some control) = control.clear && clears control request

abbrev pub sets_operate : Option Control → Bool
sets_operate None = false
sets_operate (Some control) = not control.clear

abbrev pub is_clear_to_all : Entry → Bool
is_clear_to_all (entries.Request request) = sets_clear request (control_asked request)
is_clear_to_all other = false

abbrev pub is_operate : Entry → Bool
is_operate (entries.Request request) = sets_operate (control_asked request)
is_operate other = false

abbrev pub have_no_clear_to_all : List Entry → Bool
have_no_clear_to_all past = list_all (λ entry. not (is_clear_to_all entry)) past

abbrev pub have_no_operate : List Entry → Bool
have_no_operate past = list_all (λ entry. not (is_operate entry)) past

-- a Set_Prm with Freeze_Req, with Sync_Req
abbrev pub is_freeze_prm : Entry → Bool
is_freeze_prm (entries.Request request) = asks_freeze request
is_freeze_prm other = false

abbrev pub is_sync_prm : Entry → Bool
is_sync_prm (entries.Request request) = asks_sync request
is_sync_prm other = false

abbrev pub have_no_freeze_prm : List Entry → Bool
have_no_freeze_prm past = list_all (λ entry. not (is_freeze_prm entry)) past

abbrev pub have_no_sync_prm : List Entry → Bool
have_no_sync_prm past = list_all (λ entry. not (is_sync_prm entry)) past
