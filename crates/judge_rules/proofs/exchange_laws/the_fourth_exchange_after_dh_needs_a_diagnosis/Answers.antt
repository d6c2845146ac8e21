use Rattle.std.proofs.Common.{ℕ, Bool, ◌∷◌, ◌++◌, Option, None, ap, refl, ◌∙◌}
use Rattle.std.specs.Prelude.{◌&&◌}
use Rattle.judge_rules.specs.declared.entry.Entry.TheVariants as entries
use Rattle.judge_rules.specs.Entries.{exchange_asked}
use Rattle.judge_rules.specs.ExchangeRules.{is_third}
use Rattle.judge_rules.specs.Stations.{new_station, station_of}
use Rattle.judge_rules.specs.StationWords.{announces_diagnosis, exchanges_to}
use Rattle.judge_rules.proofs.Announcements.{none_now, none_stays, since_dh, third}
use Rattle.judge_rules.proofs.Bools.{and_false}
use Rattle.judge_rules.proofs.Since.{kept, since}
use Rattle.judge_rules.proofs.exchange_laws.the_fourth_exchange_after_dh_needs_a_diagnosis.Goals as goal

pub returns-clause-none : goal.returns-clause-none
returns-clause-none c limit past request none =
    ap (λ (u : Option ℕ). exchange_asked request && is_third u)
    (kept (λ s. s.unread) None announces_diagnosis (λ s r now other. none_stays s.unread r now other) request.address new_station past refl none)
    ∙ and_false (exchange_asked request)

pub returns-clause-read : goal.returns-clause-read
returns-clause-read c limit front back reading request at is none =
    ap (λ (u : Option ℕ). exchange_asked request && is_third u)
    (since (λ s. s.unread) None announces_diagnosis (λ s r now other. none_stays s.unread r now other) request.address front back reading at
    (none_now (station_of request.address front).unread reading is) none)
    ∙ and_false (exchange_asked request)

pub returns-clause-first : goal.returns-clause-first
returns-clause-first c limit front back announcing request before at is none =
    ap (λ (u : Option ℕ). exchange_asked request && is_third u)
    (since_dh request.address front back announcing
    (kept (λ s. s.unread) None announces_diagnosis (λ s r now other. none_stays s.unread r now other) request.address new_station front refl before) at is none)
    ∙ ap (λ (b : Bool). exchange_asked request && b) (third (exchanges_to request.address back))

pub returns-clause-since : goal.returns-clause-since
returns-clause-since c limit front middle back reading announcing request at_reading reads between at is none =
    ap (λ (u : Option ℕ). exchange_asked request && is_third u)
    (since_dh request.address (front ++ entries.Request reading ∷ middle) back announcing
    (since (λ s. s.unread) None announces_diagnosis (λ s r now other. none_stays s.unread r now other) request.address front middle reading at_reading
    (none_now (station_of request.address front).unread reading reads) between) at is none)
    ∙ ap (λ (b : Bool). exchange_asked request && b) (third (exchanges_to request.address back))
