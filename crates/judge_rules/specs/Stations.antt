-- promise
-- What the requests of a master to one station left (own): the last SRD, the stage of the bring-up, three facts of Data_Exchange and of the
-- watchdog, and whether the station has answered.
use Rattle.std.specs.Prelude.{ℕ, ◌+◌, ◌==◌, ◌&&◌, ◌||◌, nat_lt, is_some, if◌then◌else◌, Bool, false, List, fold, Option, Some, None}
use Rattle.judge_rules.specs.declared.entry.Answer.{Answer}
use Rattle.judge_rules.specs.declared.entry.Asked.{Asked}
use Rattle.judge_rules.specs.declared.entry.Asked.TheVariants as asks
use Rattle.judge_rules.specs.declared.entry.Entry.{Entry}
use Rattle.judge_rules.specs.declared.entry.Entry.TheVariants as entries
use Rattle.judge_rules.specs.declared.entry.Parameters.{Parameters}
use Rattle.judge_rules.specs.declared.entry.Request.{Request}
use Rattle.judge_rules.specs.declared.stage.Stage.TheVariants as stages
use Rattle.judge_rules.specs.declared.station.Last.{Last}
use Rattle.judge_rules.specs.declared.station.Station.{Station}
use Rattle.judge_rules.specs.Entries.{is_answered, is_dh, is_done, is_srd, is_ue, diag_read, exchange_asked, prm_asked}
use Rattle.judge_rules.specs.Stages.{stage_after}

abbrev pub last_of : Request → Last
last_of request = record {
  fcb = request.fcb;
  fcv = request.fcv;
  answered = is_answered request.answer;
  time = request.time;
  octets = request.octets;
}

abbrev pub new_station : Station
new_station = record { last = None; stage = stages.Unseen; wrong_length = false; unread = None; watchdog = None; has_answered = false }

abbrev pub is_acknowledged_prm : Request → Bool
is_acknowledged_prm request = is_some (prm_asked request) && is_done request.answer

-- a Data_Exchange was refused by UE since the last Set_Prm that was acknowledged
abbrev pub wrong_length_after : Bool → Request → Bool
wrong_length_after wrong request =
    if is_acknowledged_prm request then false else wrong || exchange_asked request && is_ue request.answer

-- exchanges since the first DH that no Slave_Diag has followed; more than four count as four
abbrev pub one_more : Option ℕ → Answer → Option ℕ
one_more (Some exchanges) answer = if nat_lt exchanges 4 then Some (exchanges + 1) else Some 4
one_more None answer = if is_dh answer then Some 0 else None

abbrev pub unread_after : Option ℕ → Request → Option ℕ
unread_after unread request =
    if diag_read request then None
    else if is_acknowledged_prm request then None
    else if exchange_asked request then one_more unread request.answer
    else unread

-- the watchdog time of the last Set_Prm that was acknowledged
abbrev pub watchdog_by : Option ℕ → Option ℕ → Asked → Option ℕ
watchdog_by watchdog time asks.Lock = time
watchdog_by watchdog time asks.Unlock = None
watchdog_by watchdog time asks.MinTsdr = watchdog
watchdog_by watchdog time asks.Short = None

abbrev pub watchdog_asked : Option ℕ → Parameters → Option ℕ
watchdog_asked watchdog parameters = watchdog_by watchdog parameters.watchdog parameters.asked

abbrev pub watchdog_given : Option ℕ → Answer → Option Parameters → Option ℕ
watchdog_given watchdog answer (Some parameters) = if is_done answer then watchdog_asked watchdog parameters else watchdog
watchdog_given watchdog answer None = watchdog

abbrev pub watchdog_after : Option ℕ → Request → Option ℕ
watchdog_after watchdog request = watchdog_given watchdog request.answer (prm_asked request)

-- after one more request to the station
abbrev pub station_after : Station → Request → Station
station_after station request = record {
  last = if is_srd request then Some (last_of request) else station.last;
  stage = stage_after station.stage request;
  wrong_length = wrong_length_after station.wrong_length request;
  unread = unread_after station.unread request;
  watchdog = watchdog_after station.watchdog request;
  has_answered = station.has_answered || is_answered request.answer;
}

-- after one more entry: only a request to the station of the address counts
abbrev pub station_with : ℕ → Station → Entry → Station
station_with address station (entries.Request request) = if request.address == address then station_after station request else station
station_with address station other = station

-- what these entries, one after another, left of the station of an address
abbrev pub station_of : ℕ → List Entry → Station
station_of address past = fold (station_with address) new_station past
