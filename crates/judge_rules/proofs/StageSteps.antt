-- What each effect leaves of a stage.
use Rattle.std.proofs.Common.{◌≡◌, Bool, true, false, not, refl, ◌∙◌}
use Rattle.std.specs.Prelude.{◌&&◌, ◌||◌, if◌then◌else◌}
use Rattle.judge_rules.specs.declared.stage.Stage.{Stage}
use Rattle.judge_rules.specs.declared.stage.Stage.TheVariants as stages
use Rattle.judge_rules.specs.BringUpRules.{is_before_ready, is_configured, is_lost, is_taken, is_unseen}
use Rattle.judge_rules.specs.Effects.{Effect, locks, releases, shows, configures, exchanges, refuses, nothing, changes_parameters, gives_parameters, is_configured_by, is_refused, may_lose_parameters, ends_readiness, goes_on, goes_on_or_is_ready, shows_any, shows_or_refuses, shows_other, shows_own, shows_ready, shows_state, shows_unready, starts, starts_again, takes_parameters}
use Rattle.judge_rules.specs.Stages.{is_parametrized, refused, shown_ready, shown_unready}
use Rattle.judge_rules.proofs.EffectSteps.{after_effect}

-- unseen: only a reply that shows the state ends it, for good
pub unseen_stays : (stage : Stage) (e : Effect) → is_unseen stage ≡ true → not (shows_state e) ≡ true → is_unseen (after_effect stage e) ≡ true
unseen_stays stages.Unseen configures now other = refl
unseen_stays stages.Unseen refuses now other = refl
unseen_stays stages.Unseen nothing now other = refl
unseen_stays stages.Unseen e now other = absurd cc
unseen_stays stage e now other = absurd cc

seen_by : (stage : Stage) (other needs ready : Bool)
    → is_unseen (if other then stages.Taken else if needs then stages.Idle else if ready then shown_ready stage else shown_unready stage) ≡ false
seen_by stage true needs ready = refl
seen_by stage false true ready = refl
seen_by stages.Unseen false false true = refl
seen_by stage false false true = refl
seen_by stages.Unseen false false false = refl
seen_by stage false false false = refl

pub seen_now : (stage : Stage) (e : Effect) → shows_state e ≡ true → is_unseen (after_effect stage e) ≡ false
seen_now stage locks now = refl
seen_now stage releases now = refl
seen_now stage (shows diagnosis) now = seen_by stage diagnosis.is_of_other diagnosis.needs_parameters diagnosis.is_ready
seen_now stage exchanges now = refl
seen_now stage other now = absurd cc

pub seen_stays : (stage : Stage) (e : Effect) → is_unseen stage ≡ false → is_unseen (after_effect stage e) ≡ false
seen_stays stage locks now = refl
seen_stays stage releases now = refl
seen_stays stage (shows diagnosis) now = seen_by stage diagnosis.is_of_other diagnosis.needs_parameters diagnosis.is_ready
seen_stays stage exchanges now = refl
seen_stays stages.Unseen e now = absurd cc
seen_stays stages.Idle e now = refl
seen_stays stages.Configured e now = refl
seen_stays stage e now = refl

-- taken: each reply that shows the state decides
taken_by : (stage : Stage) (other needs ready : Bool)
    → is_taken (if other then stages.Taken else if needs then stages.Idle else if ready then shown_ready stage else shown_unready stage) ≡ other
taken_by stage true needs ready = refl
taken_by stage false true ready = refl
taken_by stages.Unseen false false true = refl
taken_by stage false false true = refl
taken_by stages.Unseen false false false = refl
taken_by stage false false false = refl

pub taken_now : (stage : Stage) (e : Effect) → shows_state e ≡ true → is_taken (after_effect stage e) ≡ shows_other e
taken_now stage locks now = refl
taken_now stage releases now = refl
taken_now stage (shows diagnosis) now = taken_by stage diagnosis.is_of_other diagnosis.needs_parameters diagnosis.is_ready
taken_now stage exchanges now = refl
taken_now stage other now = absurd cc

taken_left : (stage : Stage) (e : Effect) → not (shows_state e) ≡ true → is_taken (after_effect stage e) ≡ is_taken stage
taken_left stages.Unseen configures other = refl
taken_left stage configures other = refl
taken_left stages.Unseen refuses other = refl
taken_left stage refuses other = refl
taken_left stage nothing other = refl
taken_left stage e other = absurd cc

pub taken_stays : (x : Bool) (stage : Stage) (e : Effect) → is_taken stage ≡ x → not (shows_state e) ≡ true → is_taken (after_effect stage e) ≡ x
taken_stays x stage e now other = taken_left stage e other ∙ now

-- parameters
parameters_lost_by : (stage : Stage) (other needs ready : Bool) → (other || needs) ≡ true
    → is_parametrized (if other then stages.Taken else if needs then stages.Idle else if ready then shown_ready stage else shown_unready stage) ≡ false
parameters_lost_by stage true needs ready is = refl
parameters_lost_by stage false true ready is = refl
parameters_lost_by stage false false ready is = absurd cc

parameters_left_by : (stage : Stage) (other needs ready : Bool) → not (other || needs) ≡ true
    → is_parametrized (if other then stages.Taken else if needs then stages.Idle else if ready then shown_ready stage else shown_unready stage) ≡ is_parametrized stage
parameters_left_by stage true needs ready is = absurd cc
parameters_left_by stage false true ready is = absurd cc
parameters_left_by stages.Unseen false false true is = refl
parameters_left_by stage false false true is = refl
parameters_left_by stages.Unseen false false false is = refl
parameters_left_by stage false false false is = refl

parameters_stay_none : (stage : Stage) (other needs ready : Bool) → is_parametrized stage ≡ false
    → is_parametrized (if other then stages.Taken else if needs then stages.Idle else if ready then shown_ready stage else shown_unready stage) ≡ false
parameters_stay_none stage true needs ready now = refl
parameters_stay_none stage false true ready now = refl
parameters_stay_none stage false false ready now = parameters_left_by stage false false ready refl ∙ now

configuring_leaves : (stage : Stage) → is_parametrized (if is_parametrized stage then stages.Configured else stage) ≡ is_parametrized stage
configuring_leaves stages.Unseen = refl
configuring_leaves stage = refl

refusing_takes : (stage : Stage) → is_parametrized stage ≡ false → is_parametrized (refused stage) ≡ false
refusing_takes stages.Unseen now = refl
refusing_takes stages.Idle now = refl
refusing_takes stages.Taken now = refl
refusing_takes stages.Lost now = refl
refusing_takes stage now = absurd cc

pub parameters_given : (stage : Stage) (e : Effect) → gives_parameters e ≡ true → is_parametrized (after_effect stage e) ≡ true
parameters_given stage locks is = refl
parameters_given stage exchanges is = refl
parameters_given stage e is = absurd cc

pub parameters_taken : (stage : Stage) (e : Effect) → takes_parameters e ≡ true → is_parametrized (after_effect stage e) ≡ false
parameters_taken stage releases is = refl
parameters_taken stage (shows diagnosis) is = parameters_lost_by stage diagnosis.is_of_other diagnosis.needs_parameters diagnosis.is_ready is
parameters_taken stage e is = absurd cc

not_false : (b : Bool) → not (b || false) ≡ true → not b ≡ true
not_false true is = absurd cc
not_false false is = refl

pub parameters_stay : (stage : Stage) (e : Effect) → is_parametrized stage ≡ true → not (may_lose_parameters e) ≡ true → is_parametrized (after_effect stage e) ≡ true
parameters_stay stage locks now other = refl
parameters_stay stage releases now other = absurd cc
parameters_stay stage (shows diagnosis) now other =
    parameters_left_by stage diagnosis.is_of_other diagnosis.needs_parameters diagnosis.is_ready (not_false (diagnosis.is_of_other || diagnosis.needs_parameters) other) ∙ now
parameters_stay stage configures now other = configuring_leaves stage ∙ now
parameters_stay stage exchanges now other = refl
parameters_stay stage refuses now other = absurd cc
parameters_stay stage nothing now other = now

pub none_stay : (stage : Stage) (e : Effect) → is_parametrized stage ≡ false → not (gives_parameters e) ≡ true → is_parametrized (after_effect stage e) ≡ false
none_stay stage locks now other = absurd cc
none_stay stage releases now other = refl
none_stay stage (shows diagnosis) now other = parameters_stay_none stage diagnosis.is_of_other diagnosis.needs_parameters diagnosis.is_ready now
none_stay stage configures now other = configuring_leaves stage ∙ now
none_stay stage exchanges now other = absurd cc
none_stay stage refuses now other = refusing_takes stage now
none_stay stage nothing now other = now

pub parameters_same : (x : Bool) (stage : Stage) (e : Effect) → is_parametrized stage ≡ x → not (changes_parameters e) ≡ true → is_parametrized (after_effect stage e) ≡ x
parameters_same x stage locks now other = absurd cc
parameters_same x stage releases now other = absurd cc
parameters_same x stage (shows diagnosis) now other =
    parameters_left_by stage diagnosis.is_of_other diagnosis.needs_parameters diagnosis.is_ready (not_false (diagnosis.is_of_other || diagnosis.needs_parameters) other) ∙ now
parameters_same x stage configures now other = configuring_leaves stage ∙ now
parameters_same x stage exchanges now other = absurd cc
parameters_same x stage refuses now other = absurd cc
parameters_same x stage nothing now other = now

-- a Data_Exchange that RS refuses takes the parameters, unless it was too early
pub refusal_takes : (stage : Stage) → is_before_ready stage ≡ false → is_parametrized (refused stage) ≡ false
refusal_takes stages.Taken is = refl
refusal_takes stages.Configured is = refl
refusal_takes stages.Ready is = refl
refusal_takes stages.Exchanging is = refl
refusal_takes stages.Lost is = refl
refusal_takes stage is = absurd cc

pub refusal_leaves : (stage : Stage) → is_before_ready stage ≡ true → is_parametrized (refused stage) ≡ is_parametrized stage
refusal_leaves stages.Unseen is = refl
refusal_leaves stages.Idle is = refl
refusal_leaves stages.Parametrized is = refl
refusal_leaves stages.NotReady is = refl
refusal_leaves stage is = absurd cc

-- lost
found_by : (stage : Stage) (other needs ready : Bool)
    → is_lost (if other then stages.Taken else if needs then stages.Idle else if ready then shown_ready stage else shown_unready stage) ≡ false
found_by stage true needs ready = refl
found_by stage false true ready = refl
found_by stages.Unseen false false true = refl
found_by stage false false true = refl
found_by stages.Unseen false false false = refl
found_by stage false false false = refl

configuring_finds : (stage : Stage) → is_lost stage ≡ false → is_lost (if is_parametrized stage then stages.Configured else stage) ≡ false
configuring_finds stages.Lost now = absurd cc
configuring_finds stage now = refl

pub found : (stage : Stage) (e : Effect) → shows_state e ≡ true → is_lost (after_effect stage e) ≡ false
found stage locks is = refl
found stage releases is = refl
found stage (shows diagnosis) is = found_by stage diagnosis.is_of_other diagnosis.needs_parameters diagnosis.is_ready
found stage exchanges is = refl
found stage e is = absurd cc

pub found_stays : (stage : Stage) (e : Effect) → is_lost stage ≡ false → not (is_refused e) ≡ true → is_lost (after_effect stage e) ≡ false
found_stays stage locks now other = refl
found_stays stage releases now other = refl
found_stays stage (shows diagnosis) now other = found_by stage diagnosis.is_of_other diagnosis.needs_parameters diagnosis.is_ready
found_stays stage configures now other = configuring_finds stage now
found_stays stage exchanges now other = refl
found_stays stage refuses now other = absurd cc
found_stays stage nothing now other = now

pub lost_stays : (stage : Stage) (e : Effect) → is_lost stage ≡ true → not (shows_state e) ≡ true → is_lost (after_effect stage e) ≡ true
lost_stays stages.Lost configures now other = refl
lost_stays stages.Lost refuses now other = refl
lost_stays stages.Lost nothing now other = refl
lost_stays stages.Lost e now other = absurd cc
lost_stays stage e now other = absurd cc

pub refusal_loses : (stage : Stage) → (is_before_ready stage || is_taken stage) ≡ false → is_lost (refused stage) ≡ true
refusal_loses stages.Configured is = refl
refusal_loses stages.Ready is = refl
refusal_loses stages.Exchanging is = refl
refusal_loses stages.Lost is = refl
refusal_loses stage is = absurd cc

pub refusal_is_early : (stage : Stage) → (is_before_ready stage || is_taken stage) ≡ true → is_lost (refused stage) ≡ false
refusal_is_early stages.Unseen is = refl
refusal_is_early stages.Idle is = refl
refusal_is_early stages.Parametrized is = refl
refusal_is_early stages.NotReady is = refl
refusal_is_early stages.Taken is = refl
refusal_is_early stage is = absurd cc

-- configured
unconfigured_by : (stage : Stage) (other needs ready : Bool)
    → is_configured (if other then stages.Taken else if needs then stages.Idle else if ready then shown_ready stage else shown_unready stage) ≡ false
unconfigured_by stage true needs ready = refl
unconfigured_by stage false true ready = refl
unconfigured_by stages.Unseen false false true = refl
unconfigured_by stage false false true = refl
unconfigured_by stages.Unseen false false false = refl
unconfigured_by stage false false false = refl

refusal_is_other : (stage : Stage) → is_configured (refused stage) ≡ false
refusal_is_other stages.Unseen = refl
refusal_is_other stages.Configured = refl
refusal_is_other stages.Ready = refl
refusal_is_other stages.Exchanging = refl
refusal_is_other stage = refl

pub unconfigured : (stage : Stage) (e : Effect) → shows_or_refuses e ≡ true → is_configured (after_effect stage e) ≡ false
unconfigured stage locks is = refl
unconfigured stage releases is = refl
unconfigured stage (shows diagnosis) is = unconfigured_by stage diagnosis.is_of_other diagnosis.needs_parameters diagnosis.is_ready
unconfigured stage exchanges is = refl
unconfigured stage refuses is = refusal_is_other stage
unconfigured stage e is = absurd cc

pub unconfigured_stays : (stage : Stage) (e : Effect) → is_configured stage ≡ false → not (is_configured_by e) ≡ true → is_configured (after_effect stage e) ≡ false
unconfigured_stays stage locks now other = refl
unconfigured_stays stage releases now other = refl
unconfigured_stays stage (shows diagnosis) now other = unconfigured_by stage diagnosis.is_of_other diagnosis.needs_parameters diagnosis.is_ready
unconfigured_stays stage configures now other = absurd cc
unconfigured_stays stage exchanges now other = refl
unconfigured_stays stage refuses now other = refusal_is_other stage
unconfigured_stays stage nothing now other = now

pub configured_stays : (stage : Stage) (e : Effect) → is_configured stage ≡ true → not (shows_or_refuses e) ≡ true → is_configured (after_effect stage e) ≡ true
configured_stays stages.Configured configures now other = refl
configured_stays stages.Configured nothing now other = refl
configured_stays stages.Configured e now other = absurd cc
configured_stays stage e now other = absurd cc

pub configuring : (stage : Stage) → not (is_parametrized stage) ≡ false → is_configured (if is_parametrized stage then stages.Configured else stage) ≡ true
configuring stages.Unseen is = absurd cc
configuring stages.Idle is = absurd cc
configuring stages.Taken is = absurd cc
configuring stages.Lost is = absurd cc
configuring stage is = refl

pub configuring_early : (stage : Stage) → not (is_parametrized stage) ≡ true → is_parametrized (if is_parametrized stage then stages.Configured else stage) ≡ false
configuring_early stages.Unseen is = refl
configuring_early stages.Idle is = refl
configuring_early stages.Taken is = refl
configuring_early stages.Lost is = refl
configuring_early stage is = absurd cc

pub configured_has : (stage : Stage) → is_parametrized stage ≡ false → is_configured stage ≡ false
configured_has stages.Configured is = absurd cc
configured_has stage is = refl

-- not configured yet, and no other master's
abbrev pub is_at_start : Stage → Bool
is_at_start stages.Unseen = true
is_at_start stages.Idle = true
is_at_start stages.Parametrized = true
is_at_start other = false

-- configured, and not waiting for the station
abbrev pub is_usable : Stage → Bool
is_usable stages.Configured = true
is_usable stages.Ready = true
is_usable stages.Exchanging = true
is_usable other = false

-- configured
abbrev pub is_set_up : Stage → Bool
is_set_up stages.Configured = true
is_set_up stages.NotReady = true
is_set_up stages.Ready = true
is_set_up stages.Exchanging = true
is_set_up other = false

pub start_is_early : (stage : Stage) → is_at_start stage ≡ true → is_before_ready stage ≡ true
start_is_early stages.Unseen is = refl
start_is_early stages.Idle is = refl
start_is_early stages.Parametrized is = refl
start_is_early stage is = absurd cc

pub usable_is_late : (stage : Stage) → is_usable stage ≡ true → is_before_ready stage ≡ false
usable_is_late stages.Configured is = refl
usable_is_late stages.Ready is = refl
usable_is_late stages.Exchanging is = refl
usable_is_late stage is = absurd cc

start_by : (stage : Stage) (other needs ready : Bool) → is_at_start stage ≡ true → not other ≡ true
    → is_at_start (if other then stages.Taken else if needs then stages.Idle else if ready then shown_ready stage else shown_unready stage) ≡ true
start_by stage true needs ready now own = absurd cc
start_by stage false true ready now own = refl
start_by stages.Unseen false false true now own = refl
start_by stages.Idle false false true now own = refl
start_by stages.Parametrized false false true now own = refl
start_by stage false false true now own = absurd cc
start_by stages.Unseen false false false now own = refl
start_by stages.Idle false false false now own = refl
start_by stages.Parametrized false false false now own = refl
start_by stage false false false now own = absurd cc

start_refuses : (stage : Stage) → is_at_start stage ≡ true → is_at_start (refused stage) ≡ true
start_refuses stages.Unseen is = refl
start_refuses stages.Idle is = refl
start_refuses stages.Parametrized is = refl
start_refuses stage is = absurd cc

pub start_stays : (stage : Stage) (e : Effect) → is_at_start stage ≡ true → not (goes_on e) ≡ true → is_at_start (after_effect stage e) ≡ true
start_stays stage locks now other = refl
start_stays stage releases now other = refl
start_stays stage (shows diagnosis) now other = start_by stage diagnosis.is_of_other diagnosis.needs_parameters diagnosis.is_ready now other
start_stays stage configures now other = absurd cc
start_stays stage exchanges now other = absurd cc
start_stays stage refuses now other = start_refuses stage now
start_stays stage nothing now other = now

waiting_by : (stage : Stage) (other needs ready : Bool) → (not other && needs) ≡ true
    → is_at_start (if other then stages.Taken else if needs then stages.Idle else if ready then shown_ready stage else shown_unready stage) ≡ true
waiting_by stage true needs ready is = absurd cc
waiting_by stage false true ready is = refl
waiting_by stage false false ready is = absurd cc

pub started : (stage : Stage) (e : Effect) → starts e ≡ true → is_at_start (after_effect stage e) ≡ true
started stage locks is = refl
started stage releases is = refl
started stage (shows diagnosis) is = waiting_by stage diagnosis.is_of_other diagnosis.needs_parameters diagnosis.is_ready is
started stage e is = absurd cc

unready_by : (stage : Stage) (other needs ready : Bool) → (not other && (needs || not ready)) ≡ true
    → is_before_ready (if other then stages.Taken else if needs then stages.Idle else if ready then shown_ready stage else shown_unready stage) ≡ true
unready_by stage true needs ready is = absurd cc
unready_by stage false true ready is = refl
unready_by stage false false true is = absurd cc
unready_by stages.Unseen false false false is = refl
unready_by stage false false false is = refl

pub unready : (stage : Stage) (e : Effect) → shows_unready e ≡ true → is_before_ready (after_effect stage e) ≡ true
unready stage (shows diagnosis) is = unready_by stage diagnosis.is_of_other diagnosis.needs_parameters diagnosis.is_ready is
unready stage e is = absurd cc

still_unready_by : (stage : Stage) (other needs ready : Bool) → not (other || not other && not needs && ready) ≡ true
    → is_before_ready (if other then stages.Taken else if needs then stages.Idle else if ready then shown_ready stage else shown_unready stage) ≡ true
still_unready_by stage true needs ready is = absurd cc
still_unready_by stage false true ready is = refl
still_unready_by stage false false true is = absurd cc
still_unready_by stages.Unseen false false false is = refl
still_unready_by stage false false false is = refl

refusing_early : (stage : Stage) → is_before_ready (refused stage) ≡ is_before_ready stage
refusing_early stages.Unseen = refl
refusing_early stages.Configured = refl
refusing_early stages.Ready = refl
refusing_early stages.Exchanging = refl
refusing_early stage = refl

pub early_stays : (stage : Stage) (e : Effect) → is_before_ready stage ≡ true → not (goes_on_or_is_ready e) ≡ true → is_before_ready (after_effect stage e) ≡ true
early_stays stage locks now other = refl
early_stays stage releases now other = refl
early_stays stage (shows diagnosis) now other = still_unready_by stage diagnosis.is_of_other diagnosis.needs_parameters diagnosis.is_ready other
early_stays stage configures now other = absurd cc
early_stays stage exchanges now other = absurd cc
early_stays stage refuses now other = refusing_early stage ∙ now
early_stays stage nothing now other = now

pub refusal_keeps_early : (stage : Stage) → is_before_ready (refused stage) ≡ is_before_ready stage
refusal_keeps_early stage = refusing_early stage

pub early_same : (x : Bool) (stage : Stage) (e : Effect) → is_before_ready stage ≡ x → not (shows_any e) ≡ true → is_before_ready (after_effect stage e) ≡ x
early_same x stage nothing now other = now
early_same x stage e now other = absurd cc

set_up_by : (stage : Stage) (other needs ready : Bool) → is_set_up stage ≡ true → not (other || needs) ≡ true
    → is_set_up (if other then stages.Taken else if needs then stages.Idle else if ready then shown_ready stage else shown_unready stage) ≡ true
set_up_by stage true needs ready now own = absurd cc
set_up_by stage false true ready now own = absurd cc
set_up_by stages.Configured false false true now own = refl
set_up_by stages.NotReady false false true now own = refl
set_up_by stages.Ready false false true now own = refl
set_up_by stages.Exchanging false false true now own = refl
set_up_by stage false false true now own = absurd cc
set_up_by stages.Configured false false false now own = refl
set_up_by stages.NotReady false false false now own = refl
set_up_by stages.Ready false false false now own = refl
set_up_by stages.Exchanging false false false now own = refl
set_up_by stage false false false now own = absurd cc

configuring_sets_up : (stage : Stage) → is_set_up stage ≡ true → is_set_up (if is_parametrized stage then stages.Configured else stage) ≡ true
configuring_sets_up stages.Configured now = refl
configuring_sets_up stages.NotReady now = refl
configuring_sets_up stages.Ready now = refl
configuring_sets_up stages.Exchanging now = refl
configuring_sets_up stage now = absurd cc

pub set_up_stays : (stage : Stage) (e : Effect) → is_set_up stage ≡ true → not (starts_again e) ≡ true → is_set_up (after_effect stage e) ≡ true
set_up_stays stage locks now other = absurd cc
set_up_stays stage releases now other = absurd cc
set_up_stays stage (shows diagnosis) now other = set_up_by stage diagnosis.is_of_other diagnosis.needs_parameters diagnosis.is_ready now other
set_up_stays stage configures now other = configuring_sets_up stage now
set_up_stays stage exchanges now other = refl
set_up_stays stage refuses now other = absurd cc
set_up_stays stage nothing now other = now

ready_by : (stage : Stage) (other needs ready : Bool) → is_set_up stage ≡ true → (not other && not needs && ready) ≡ true
    → is_usable (if other then stages.Taken else if needs then stages.Idle else if ready then shown_ready stage else shown_unready stage) ≡ true
ready_by stage true needs ready now is = absurd cc
ready_by stage false true ready now is = absurd cc
ready_by stage false false false now is = absurd cc
ready_by stages.Configured false false true now is = refl
ready_by stages.NotReady false false true now is = refl
ready_by stages.Ready false false true now is = refl
ready_by stages.Exchanging false false true now is = refl
ready_by stage false false true now is = absurd cc

pub ready_now : (stage : Stage) (e : Effect) → is_set_up stage ≡ true → shows_ready e ≡ true → is_usable (after_effect stage e) ≡ true
ready_now stage (shows diagnosis) now is = ready_by stage diagnosis.is_of_other diagnosis.needs_parameters diagnosis.is_ready now is
ready_now stage e now is = absurd cc

usable_by : (stage : Stage) (other needs ready : Bool) → is_usable stage ≡ true → not (other || needs || not other && (needs || not ready)) ≡ true
    → is_usable (if other then stages.Taken else if needs then stages.Idle else if ready then shown_ready stage else shown_unready stage) ≡ true
usable_by stage true needs ready now own = absurd cc
usable_by stage false true ready now own = absurd cc
usable_by stage false false false now own = absurd cc
usable_by stages.Configured false false true now own = refl
usable_by stages.Ready false false true now own = refl
usable_by stages.Exchanging false false true now own = refl
usable_by stage false false true now own = absurd cc

configuring_is_usable : (stage : Stage) → is_usable stage ≡ true → is_usable (if is_parametrized stage then stages.Configured else stage) ≡ true
configuring_is_usable stages.Configured now = refl
configuring_is_usable stages.Ready now = refl
configuring_is_usable stages.Exchanging now = refl
configuring_is_usable stage now = absurd cc

pub usable_stays : (stage : Stage) (e : Effect) → is_usable stage ≡ true → not (ends_readiness e) ≡ true → is_usable (after_effect stage e) ≡ true
usable_stays stage locks now other = absurd cc
usable_stays stage releases now other = absurd cc
usable_stays stage (shows diagnosis) now other = usable_by stage diagnosis.is_of_other diagnosis.needs_parameters diagnosis.is_ready now other
usable_stays stage configures now other = configuring_is_usable stage now
usable_stays stage exchanges now other = refl
usable_stays stage refuses now other = absurd cc
usable_stays stage nothing now other = now

pub configured_is_usable : (stage : Stage) → is_configured stage ≡ true → is_usable stage ≡ true
configured_is_usable stages.Configured is = refl
configured_is_usable stage is = absurd cc

pub configured_is_set_up : (stage : Stage) → is_configured stage ≡ true → is_set_up stage ≡ true
configured_is_set_up stages.Configured is = refl
configured_is_set_up stage is = absurd cc

-- after another master, and after RS
own_by : (stage : Stage) (other needs ready : Bool) → (is_taken stage || is_lost stage) ≡ true → not other ≡ true
    → is_at_start (if other then stages.Taken else if needs then stages.Idle else if ready then shown_ready stage else shown_unready stage) ≡ true
own_by stage true needs ready now own = absurd cc
own_by stage false true ready now own = refl
own_by stages.Taken false false true now own = refl
own_by stages.Lost false false true now own = refl
own_by stage false false true now own = absurd cc
own_by stages.Taken false false false now own = refl
own_by stages.Lost false false false now own = refl
own_by stage false false false now own = absurd cc

pub own_now : (stage : Stage) (e : Effect) → (is_taken stage || is_lost stage) ≡ true → shows_own e ≡ true → is_at_start (after_effect stage e) ≡ true
own_now stage (shows diagnosis) now is = own_by stage diagnosis.is_of_other diagnosis.needs_parameters diagnosis.is_ready now is
own_now stage e now is = absurd cc

pub taken_or_lost : (stage : Stage) → is_taken stage ≡ true → (is_taken stage || is_lost stage) ≡ true
taken_or_lost stages.Taken is = refl
taken_or_lost stage is = absurd cc

pub lost_or_taken : (stage : Stage) → is_lost stage ≡ true → (is_taken stage || is_lost stage) ≡ true
lost_or_taken stages.Lost is = refl
lost_or_taken stage is = absurd cc

pub other_is_state : (e : Effect) → shows_other e ≡ true → shows_state e ≡ true
other_is_state (shows diagnosis) is = refl
other_is_state e is = absurd cc
