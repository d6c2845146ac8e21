-- promise
-- What the entries of a master left, whatever the station (own): how often the last telegram was sent again, how many of the last entries were stray
-- octets, when a Global_Control last went to all stations, whether it left the outputs cleared, and whether a Set_Prm asked for Freeze and Sync.
use Rattle.std.specs.Prelude.{◌+◌, ◌==◌, ◌&&◌, ◌||◌, not, min, nat_le, is_some, if◌then◌else◌, Bool, true, false, List, fold, Option, Some, None}
use Rattle.dp_cfg.specs.Choosing.{same_octets}
use Rattle.dp_telegram.specs.Access.{global_address}
use Rattle.judge_rules.specs.declared.bus.Bus.{Bus}
use Rattle.judge_rules.specs.declared.bus.Window.{Window}
use Rattle.judge_rules.specs.declared.entry.Control.{Control}
use Rattle.judge_rules.specs.declared.entry.Entry.{Entry}
use Rattle.judge_rules.specs.declared.entry.Entry.TheVariants as entries
use Rattle.judge_rules.specs.declared.entry.Parameters.{Parameters}
use Rattle.judge_rules.specs.declared.entry.Request.{Request}
use Rattle.judge_rules.specs.declared.station.Last.{Last}
use Rattle.judge_rules.specs.Entries.{control_asked, is_srd, prm_asked}
use Rattle.judge_rules.specs.Stations.{last_of}

abbrev pub new_window : Window
new_window = record { entries = 0; strays = 0 }

abbrev pub new_bus : Bus
new_bus = record { last = None; retries = 0; window = new_window; controlled = 0; is_clear = false; freeze_asked = false; sync_asked = false }

-- one more entry; with the hundredth a new window begins
abbrev pub window_after : Window → Bool → Window
window_after window is_stray =
    if nat_le 99 window.entries then new_window
    else record { entries = window.entries + 1; strays = if is_stray then min (window.strays + 1) 255 else window.strays }

-- the same SRD again, after no answer: with FCV 1 after any time, since the FCB says that it is no new one; with FCV 0 if no time has passed
abbrev pub is_retry : Option Last → Request → Bool
is_retry None request = false
is_retry (Some last) request =
    is_srd request && not last.answered && (request.fcv || last.time == request.time) && same_octets last.octets.items request.octets.items

-- a Global_Control to all stations, which is an SDN; it restarts watchdogs
abbrev pub controls_all : Request → Bool
controls_all request = request.address == global_address && is_some (control_asked request)

-- Clear_Data: a Global_Control with it to all stations and all groups begins it; one without it, to whichever, ends it
abbrev pub clears : Control → Request → Bool
clears control request = request.address == global_address && control.is_to_all_groups

abbrev pub clear_by : Bool → Request → Option Control → Bool
clear_by clear request None = clear
clear_by clear request (Some control) = if control.clear then clear || clears control request else false

abbrev pub clear_after : Bool → Request → Bool
clear_after clear request = clear_by clear request (control_asked request)

-- a Set_Prm with Freeze_Req, or with Sync_Req
abbrev pub has_freeze : Option Parameters → Bool
has_freeze None = false
has_freeze (Some parameters) = parameters.freeze

abbrev pub has_sync : Option Parameters → Bool
has_sync None = false
has_sync (Some parameters) = parameters.sync

abbrev pub asks_freeze : Request → Bool
asks_freeze request = has_freeze (prm_asked request)

abbrev pub asks_sync : Request → Bool
asks_sync request = has_sync (prm_asked request)

abbrev pub bus_after_request : Bus → Request → Bus
bus_after_request bus request = record {
  last = if is_srd request then Some (last_of request) else None;
  retries = if is_retry bus.last request then min (bus.retries + 1) 255 else 0;
  window = window_after bus.window false;
  controlled = if controls_all request then request.time else bus.controlled;
  is_clear = clear_after bus.is_clear request;
  freeze_asked = bus.freeze_asked || asks_freeze request;
  sync_asked = bus.sync_asked || asks_sync request;
}

-- when the master has the token again, an SRD with FCV 0 is a new one
abbrev pub has_fcv : Option Last → Bool
has_fcv None = false
has_fcv (Some last) = last.fcv

abbrev pub bus_after_token : Bus → Bus
bus_after_token bus = record bus { last = if has_fcv bus.last then bus.last else None }

abbrev pub bus_after : Bus → Entry → Bus
bus_after bus (entries.Request request) = bus_after_request bus request
bus_after bus (entries.PassedToken to) = bus_after_token bus
bus_after bus entries.Stray = record bus { last = None; retries = 0; window = window_after bus.window true }

-- what these entries, one after another, left
abbrev pub bus_of : List Entry → Bus
bus_of past = fold bus_after new_bus past
