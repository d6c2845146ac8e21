use Rattle.std.proofs.Common.{ℕ, ◌∷◌, ◌++◌, ap, ◌∙◌}
use Rattle.std.specs.Prelude.{◌&&◌}
use Rattle.judge_rules.specs.declared.station.Station.{Station}
use Rattle.judge_rules.specs.BusFacts.{bus_of}
use Rattle.judge_rules.specs.Entries.{is_srd}
use Rattle.judge_rules.specs.ExchangeRules.{is_past, watchdog_short}
use Rattle.judge_rules.specs.Stages.{is_parametrized}
use Rattle.judge_rules.specs.Stations.{station_of}
use Rattle.judge_rules.proofs.Controls.{same_without}
use Rattle.judge_rules.proofs.Since.{same_station}
use Rattle.judge_rules.proofs.exchange_laws.only_a_global_control_to_all_matters_to_a_gap.Goals as goal

pub returns : goal.returns
returns c limit front back entry request other uncontrolled =
    ap (λ (s : Station). watchdog_short (bus_of (front ++ entry ∷ back)) s request) (same_station request.address front back entry other)
    ∙ ap (λ (t : ℕ). is_srd request && is_parametrized (station_of request.address (front ++ back)).stage && is_past (station_of request.address (front ++ back)).watchdog t (station_of request.address (front ++ back)).last request.time)
    (same_without front back entry uncontrolled)
