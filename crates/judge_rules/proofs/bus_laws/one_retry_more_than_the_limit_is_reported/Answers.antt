use Rattle.std.proofs.Common.{◌≡◌, ℕ, ◌+◌, Bool, ◌∷◌, Option, Some, None, ap, arith, ◌∙◌}
use Rattle.std.specs.Prelude.{◌==◌, ◌&&◌, if◌then◌else◌}
use Rattle.std.specs.List.{fold}
use Rattle.std.proofs.lemmas.List.Sums.{fold-append}
use Rattle.judge_rules.specs.declared.bus.Bus.{Bus}
use Rattle.judge_rules.specs.declared.entry.Entry.TheVariants as entries
use Rattle.judge_rules.specs.declared.station.Last.{Last}
use Rattle.judge_rules.specs.BusFacts.{bus_after, bus_after_request, bus_of, is_retry, new_bus}
use Rattle.judge_rules.specs.BusWords.{entry_count, is_retry_of, last_request}
use Rattle.judge_rules.specs.ExchangeRules.{retry_limit}
use Rattle.judge_rules.specs.Stations.{last_of}
use Rattle.judge_rules.proofs.Retries.{Row, below_255, first_row, no_retry, rows, stored}
use Rattle.judge_rules.proofs.Walks.{bus_more}
use Rattle.judge_rules.proofs.bus_laws.one_retry_more_than_the_limit_is_reported.Goals as goal

pub returns-clause-retries : goal.returns-clause-retries
returns-clause-retries c limit front first retries request is new are below =
    let bus : Bus = bus_after_request (bus_of front) first in
    let after : Bus = fold bus_after bus retries in
    let row : Row after (last_request first retries) (0 + entry_count retries) =
    rows bus first 0 retries (first_row (bus_of front) first is (no_retry (is_retry (bus_of front).last first) (bus_of front).retries new)) are in
    let count : 0 + entry_count retries ≡ entry_count retries = omega arith in
    ap (λ (b : Bus). retry_limit limit b request) (fold-append bus_after new_bus front (entries.Request first ∷ retries))
    ∙ ap (λ (l : Option Last). is_retry l request && (after.retries == limit)) row.last
    ∙ ap (λ (k : ℕ). is_retry_of (last_request first retries) request && (k == limit)) row.retries
    ∙ ap (λ (b : Bool). is_retry_of (last_request first retries) request && b) (below_255 (0 + entry_count retries) limit below)
    ∙ ap (λ (k : ℕ). is_retry_of (last_request first retries) request && (k == limit)) count

pub returns-clause-new : goal.returns-clause-new
returns-clause-new c limit front before request is other =
    ap (λ (b : Bus). retry_limit limit b request) (bus_more front (entries.Request before))
    ∙ ap (λ (l : Option Last). is_retry l request && ((bus_after_request (bus_of front) before).retries == limit)) (stored (bus_of front) before is)
    ∙ ap (λ (b : Bool). b && ((bus_after_request (bus_of front) before).retries == limit)) other

pub returns-clause-no_srd : goal.returns-clause-no_srd
returns-clause-no_srd c limit front before request is =
    ap (λ (b : Bus). retry_limit limit b request) (bus_more front (entries.Request before))
    ∙ ap (λ (b : Bool). is_retry (if b then Some (last_of before) else None) request && ((bus_after_request (bus_of front) before).retries == limit)) is

pub returns-clause-after_stray : goal.returns-clause-after_stray
returns-clause-after_stray c limit front request = ap (λ (b : Bus). retry_limit limit b request) (bus_more front entries.Stray)
