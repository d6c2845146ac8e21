-- promise
-- The rules of Data_Exchange and of retries (IEC 61158-6-3, Data_Exchange; IEC 61158-4-3, retry), and of what is no request.
use Rattle.std.specs.Prelude.{ℕ, ◌-◌, ◌==◌, ◌&&◌, ◌||◌, not, max, nat_le, Bool, true, false, Option, Some, None}
use Rattle.judge_rules.specs.declared.bus.Bus.{Bus}
use Rattle.judge_rules.specs.declared.entry.Request.{Request}
use Rattle.judge_rules.specs.declared.stage.Stage.{Stage}
use Rattle.judge_rules.specs.declared.stage.Stage.TheVariants as stages
use Rattle.judge_rules.specs.declared.station.Last.{Last}
use Rattle.judge_rules.specs.declared.station.Station.{Station}
use Rattle.judge_rules.specs.Entries.{is_srd, is_ue, is_rs, exchange_asked}
use Rattle.judge_rules.specs.Stages.{is_parametrized}
use Rattle.judge_rules.specs.BusFacts.{is_retry}

-- length-repeated: Data_Exchange of a length that the slave refuses by UE, not for the first time since the last Set_Prm that was acknowledged
abbrev pub length_repeated : Station → Request → Bool
length_repeated station request = exchange_asked request && is_ue request.answer && station.wrong_length

-- extension-missing: Data_Exchange whose data begin with two access points, and that is refused: by UE, since its length is not that of the outputs, or by
-- RS before the station was ready. Outputs may look like access points, and a station that exchanges data refuses right ones by RS if it was lost.
abbrev pub may_exchange : Stage → Bool
may_exchange stages.Ready = true
may_exchange stages.Exchanging = true
may_exchange other = false

abbrev pub extension_missing : Station → Request → Bool
extension_missing station request =
    exchange_asked request && request.payload.has_points && (is_ue request.answer || is_rs request.answer && not (may_exchange station.stage))

-- diag-not-read: the fourth Data_Exchange after a DH, with no Slave_Diag since that was answered with a diagnosis or RR; of one DH it is reported once
abbrev pub is_third : Option ℕ → Bool
is_third None = false
is_third (Some exchanges) = exchanges == 3

abbrev pub diag_not_read : Station → Request → Bool
diag_not_read station request = exchange_asked request && is_third station.unread

-- watchdog-short: an SRD to a station that has parameters, and at least its watchdog time has passed since the later of two: the last SRD to it, and the
-- last Global_Control to all stations
abbrev pub is_gap : ℕ → ℕ → Option Last → ℕ → Bool
is_gap watchdog controlled None time = false
is_gap watchdog controlled (Some last) time = nat_le watchdog (time - max last.time controlled)

abbrev pub is_past : Option ℕ → ℕ → Option Last → ℕ → Bool
is_past None controlled last time = false
is_past (Some watchdog) controlled last time = is_gap watchdog controlled last time

abbrev pub watchdog_short : Bus → Station → Request → Bool
watchdog_short bus station request =
    is_srd request && is_parametrized station.stage && is_past station.watchdog bus.controlled station.last request.time

-- retry-limit: one retry more than are allowed; of one telegram it is reported once
abbrev pub retry_limit : ℕ → Bus → Request → Bool
retry_limit limit bus request = is_retry bus.last request && bus.retries == limit

-- no-request: the fourth entry of a hundred that is no request of the master
abbrev pub is_stray_often : Bus → Bool
is_stray_often bus = bus.window.strays == 3

-- outputs-in-clear: Data_Exchange with outputs that are not all 0, though the last Global_Control that changes it was Clear_Data to all slaves
abbrev pub outputs_in_clear : Bus → Request → Bool
outputs_in_clear bus request = exchange_asked request && bus.is_clear && not request.payload.is_zero
