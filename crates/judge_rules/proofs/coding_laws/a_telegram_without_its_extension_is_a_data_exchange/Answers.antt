use Rattle.std.proofs.Common.{Bool, true, ap, ◌∙◌}
use Rattle.std.specs.Prelude.{◌&&◌, ◌||◌, not}
use Rattle.judge_rules.specs.declared.entry.Payload.{Payload}
use Rattle.judge_rules.specs.Entries.{is_rs, is_ue}
use Rattle.judge_rules.specs.ExchangeRules.{may_exchange}
use Rattle.judge_rules.specs.Stations.{station_of}
use Rattle.judge_rules.proofs.coding_laws.a_telegram_without_its_extension_is_a_data_exchange.Goals as goal

pub returns-clause-exchange : goal.returns-clause-exchange
returns-clause-exchange c limit past request octets asks are =
    ap (λ (b : Bool). b && request.payload.has_points && (is_ue request.answer || is_rs request.answer && not (may_exchange (station_of request.address past).stage))) asks
    ∙ ap (λ (d : Payload). true && d.has_points && (is_ue request.answer || is_rs request.answer && not (may_exchange (station_of request.address past).stage))) are

pub returns-clause-other : goal.returns-clause-other
returns-clause-other c limit past request is =
    ap (λ (b : Bool). b && request.payload.has_points && (is_ue request.answer || is_rs request.answer && not (may_exchange (station_of request.address past).stage))) is
