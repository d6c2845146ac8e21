-- An act that fits and suits a slave leaves a slave that passes the test of the slaves to which acts can have led.
use Rattle.std.proofs.Common.{◌≡◌, ℕ, zero, suc, ◌-◌, ◌≤◌, Bool, true, false, not, eqb, leb, List, [], ◌∷◌, length, take, Option, Some, None, is_some, refl, ap, ◌∙◌, arith}
use Rattle.std.specs.Prelude.{◌&&◌, ◌||◌, if◌then◌else◌, nat_eq, option_map, slice_get, unwrap_or}
use Rattle.std.specs.Option.{option_and_then, option_eq, option_map_or}
use Rattle.std.proofs.lemmas.List.Folds.{list_all-append}
use Rattle.std.proofs.lemmas.Bool.{and_from, and_parts, and_right, eq-eqb, eqb-false, le-leb, leb-true, leb-false}
use Rattle.dp_sap.specs.declared.state.State.{State}
use Rattle.dp_sap.specs.declared.state.State.TheVariants.{WaitPrm}
use Rattle.dp_sap.specs.AccessTable.{may_lock}
use Rattle.dp_sap.specs.States.{is_in_wait_prm}
use Rattle.dp_prm.specs.declared.prm.Prm.{Prm}
use Rattle.dp_cfg.specs.Choosing.{chosen, same_octets}
use Rattle.dp_slave.specs.declared.description.SlaveSpec.{SlaveSpec}
use Rattle.dp_slave.specs.SlaveRecord.{SlaveRecord, configurations, cut_or_filled, inputs_of, output_length, outputs_of, starting_slave, zeros}
use Rattle.dp_slave.specs.Acts.{Act, locks, faults, sets_min_tsdr, configures, misconfigures, exchanges, exchanges_none, is_controlled, ticks, releases, retriggers, runs_out}
use Rattle.dp_slave.specs.Fields.{acted, freeze_is_asked, is_synced_by, keeps_shape, sync_is_asked}
use Rattle.dp_slave.specs.Sound.{are_zero}
use Rattle.dp_slave.specs.Soundness.{acts_after, all_fit, fits}
use Rattle.dp_slave.proofs.Sounds.{zeros_zero}
use Rattle.dp_slave.specs.Reachable.{all_suit, has_asked_modes, has_choosable_shape, has_listed_holder, has_min_tsdr, has_put_out, has_reachable_data, has_reachable_hold, has_sound_faults, has_sound_frozen_inputs, has_taken_prm, has_time_left, is_left_of, is_reachable, is_watchdog_time, suits, takes}

-- what holds of a value holds of none, if an act releases the slave
kept_if : {X : Type 0} (test : X → Bool) (b : Bool) (value : Option X) → option_map_or test value true ≡ true → option_map_or test (if b then None else value) true ≡ true
kept_if test true value was = refl
kept_if test false value was = was

-- ---- the holder and the parameters

listed_act : (slave : SlaveRecord) (act : Act) → suits slave act ≡ true → has_listed_holder slave ≡ true → has_listed_holder (acted slave act) ≡ true
unfolding acted
listed_act slave (locks sender place prm) suit was = (and_parts (may_lock slave.description.lists sender) (takes slave.description prm) suit).0
listed_act slave other suit was = kept_if (may_lock slave.description.lists) (releases slave other) slave.holder was

taken_act : (slave : SlaveRecord) (act : Act) → suits slave act ≡ true → has_taken_prm slave ≡ true → has_taken_prm (acted slave act) ≡ true
unfolding acted
taken_act slave (locks sender place prm) suit was = (and_parts (may_lock slave.description.lists sender) (takes slave.description prm) suit).1
taken_act slave other suit was = kept_if (takes slave.description) (releases slave other) slave.prm was

-- ---- the watchdog

-- this time is left of the full one
abbrev HasLeft : Option ℕ → Option ℕ → Type 0
HasLeft left full = option_map_or (λ l. is_left_of l full) left true ≡ true

watchdog_taken : (description : SlaveSpec) (prm : Prm) → takes description prm ≡ true → option_map_or is_watchdog_time prm.watchdog true ≡ true
watchdog_taken description prm taken =
    let user = and_parts (option_map_or is_watchdog_time prm.watchdog true && (not prm.sync_req || description.sync) && (not prm.freeze_req || description.freeze)) _ taken in
    let freeze = and_parts (option_map_or is_watchdog_time prm.watchdog true && (not prm.sync_req || description.sync)) _ user.0 in
    (and_parts (option_map_or is_watchdog_time prm.watchdog true) _ freeze.0).0

whole_left : (full : Option ℕ) → option_map_or is_watchdog_time full true ≡ true → HasLeft full full
whole_left None time = refl
whole_left (Some units) time = and_from (leb 1 units) (leb units units) (and_parts (leb 1 units) _ time).0 (le-leb units units (omega arith))

abbrev full_of : Option Prm → Option ℕ
full_of prm = option_and_then (λ (p : Prm). p.watchdog) prm

full_taken : (description : SlaveSpec) (prm : Option Prm) → option_map_or (takes description) prm true ≡ true
    → option_map_or is_watchdog_time (full_of prm) true ≡ true
full_taken description None taken = refl
full_taken description (Some prm) taken = watchdog_taken description prm taken

again_left : (b : Bool) (left full : Option ℕ) → option_map_or is_watchdog_time full true ≡ true → HasLeft left full
    → HasLeft (if b then (if is_some left then full else None) else left) full
again_left false left full time was = was
again_left true None full time was = refl
again_left true (Some l) full time was = whole_left full time

less_by : (time units : ℕ) (full : Option ℕ) → leb units time ≡ false → HasLeft (Some units) full → HasLeft (Some (units - time)) full
less_by time units None stays was =
    let none = (and_parts (leb 1 units) false was).1 in absurd cc
less_by time units (Some more) stays was =
    let most = leb-true units more (and_parts (leb 1 units) (leb units more) was).1 in
    let above = leb-false units time stays in
    and_from (leb 1 (units - time)) (leb (units - time) more) (le-leb 1 (units - time) (omega (arith, above))) (le-leb (units - time) more (omega (arith, most)))

time_passed : (time : ℕ) (left full : Option ℕ) → runs_out time left ≡ false → HasLeft left full → HasLeft (option_map (λ units. units - time) left) full
time_passed time None full stays was = refl
time_passed time (Some units) full stays was = less_by time units full stays was

ticked : (b : Bool) (time : ℕ) (left : Option ℕ) (prm : Option Prm) → runs_out time left ≡ b → HasLeft left (full_of prm)
    → HasLeft (if b then None else option_map (λ units. units - time) left) (full_of (if b then None else prm))
ticked true time left prm out was = refl
ticked false time left prm stays was = time_passed time left (full_of prm) stays was

released_or_again : (b c : Bool) (left : Option ℕ) (prm : Option Prm) → option_map_or is_watchdog_time (full_of prm) true ≡ true → HasLeft left (full_of prm)
    → HasLeft (if b then None else if c then (if is_some left then full_of prm else None) else left) (full_of (if b then None else prm))
released_or_again true c left prm time was = refl
released_or_again false c left prm time was = again_left c left (full_of prm) time was

time_act : (slave : SlaveRecord) (act : Act) → suits slave act ≡ true → has_taken_prm slave ≡ true → has_time_left slave ≡ true → has_time_left (acted slave act) ≡ true
unfolding acted
time_act slave (locks sender place prm) suit taken was =
    whole_left prm.watchdog (watchdog_taken slave.description prm (and_parts (may_lock slave.description.lists sender) (takes slave.description prm) suit).1)
time_act slave (ticks time) suit taken was = ticked (runs_out time slave.left) time slave.left slave.prm refl was
time_act slave other suit taken was = released_or_again (releases slave other) (retriggers slave other) slave.left slave.prm (full_taken slave.description slave.prm taken) was

-- ---- min TSDR

unless_by : (octet least : ℕ) (b : Bool) → eqb octet 0 ≡ b → leb 1 least ≡ true → leb 1 (if b then least else octet) ≡ true
unless_by octet least true is was = was
unless_by octet least false is was = le-leb 1 octet (some octet (eqb-false octet 0 is))
  where
    some : (n : ℕ) → (n ≡ 0 → ⊥) → 1 ≤ n
    some zero apart = absurd (apart refl)
    some (suc n) apart = omega arith

min_tsdr_act : (slave : SlaveRecord) (act : Act) → has_min_tsdr slave ≡ true → has_min_tsdr (acted slave act) ≡ true
unfolding acted
min_tsdr_act slave (locks sender place prm) was = unless_by prm.min_tsdr slave.min_tsdr (eqb prm.min_tsdr 0) refl was
min_tsdr_act slave (sets_min_tsdr sender octet) was = unless_by octet slave.min_tsdr (eqb octet 0) refl was
min_tsdr_act slave other was = was

-- ---- the modes

asked_still : (b mode : Bool) (flag : Prm → Bool) (prm : Option Prm) → (not mode || option_map_or flag prm false) ≡ true
    → (not (if b then false else mode) || option_map_or flag (if b then None else prm) false) ≡ true
asked_still true mode flag prm was = refl
asked_still false mode flag prm was = was

asked_shape : (keeps mode asked : Bool) → (not mode || asked) ≡ true → (not (keeps && mode) || asked) ≡ true
asked_shape true mode asked was = was
asked_shape false mode asked was = refl

asked_control : (ends begins asked mode : Bool) → (not mode || asked) ≡ true → (not (not ends && (not ends && begins && asked || mode)) || asked) ≡ true
asked_control true begins asked mode was = refl
asked_control false true true mode was = refl
asked_control false true false mode was = was
asked_control false false true true was = refl
asked_control false false true false was = refl
asked_control false false false mode was = was

sync_act : (slave : SlaveRecord) (act : Act) → (not slave.sync_mode || sync_is_asked slave) ≡ true → (not (acted slave act).sync_mode || sync_is_asked (acted slave act)) ≡ true
unfolding acted
sync_act slave (locks sender place prm) was = refl
sync_act slave (configures number) was = asked_shape (keeps_shape slave number) slave.sync_mode (sync_is_asked slave) was
sync_act slave (is_controlled control) was = asked_control control.unsync control.sync (sync_is_asked slave) slave.sync_mode was
sync_act slave other was = asked_still (releases slave other) slave.sync_mode (λ (p : Prm). p.sync_req) slave.prm was

freeze_act : (slave : SlaveRecord) (act : Act) → (not slave.freeze_mode || freeze_is_asked slave) ≡ true → (not (acted slave act).freeze_mode || freeze_is_asked (acted slave act)) ≡ true
unfolding acted
freeze_act slave (locks sender place prm) was = refl
freeze_act slave (configures number) was = asked_shape (keeps_shape slave number) slave.freeze_mode (freeze_is_asked slave) was
freeze_act slave (is_controlled control) was = asked_control control.unfreeze control.freeze (freeze_is_asked slave) slave.freeze_mode was
freeze_act slave other was = asked_still (releases slave other) slave.freeze_mode (λ (p : Prm). p.freeze_req) slave.prm was

modes_act : (slave : SlaveRecord) (act : Act) → has_asked_modes slave ≡ true → has_asked_modes (acted slave act) ≡ true
modes_act slave act was =
    let parts = and_parts (not slave.sync_mode || sync_is_asked slave) (not slave.freeze_mode || freeze_is_asked slave) was in
    and_from (not (acted slave act).sync_mode || sync_is_asked (acted slave act)) (not (acted slave act).freeze_mode || freeze_is_asked (acted slave act))
    (sync_act slave act parts.0) (freeze_act slave act parts.1)

-- ---- the outputs

same_refl : (octets : List ℕ) → same_octets octets octets ≡ true
same_refl [] = refl
same_refl (x ∷ octets) = and_from (eqb x x) (same_octets octets octets) (eq-eqb x x refl) (same_refl octets)

out_still : (b mode : Bool) (outputs latest none : List ℕ) → (mode || same_octets outputs latest) ≡ true
    → ((if b then false else mode) || same_octets (if b then none else outputs) (if b then none else latest)) ≡ true
out_still true mode outputs latest none was = same_refl none
out_still false mode outputs latest none was = was

out_shape : (keeps mode : Bool) (outputs latest none : List ℕ) → (mode || same_octets outputs latest) ≡ true
    → ((keeps && mode) || same_octets (if keeps then outputs else none) (if keeps then latest else none)) ≡ true
out_shape true mode outputs latest none was = was
out_shape false mode outputs latest none was = same_refl none

out_data : (mode : Bool) (outputs octets : List ℕ) → (mode || same_octets (if mode then outputs else octets) octets) ≡ true
out_data true outputs octets = refl
out_data false outputs octets = same_refl octets

out_control : (ends begins mode clears : Bool) (outputs latest none : List ℕ) → (mode || same_octets outputs latest) ≡ true
    → ((not ends && (begins || mode)) || same_octets (if ends || begins then (if clears then none else latest) else (if clears then none else outputs)) (if clears then none else latest)) ≡ true
out_control true begins mode clears outputs latest none was = same_refl (if clears then none else latest)
out_control false true mode clears outputs latest none was = refl
out_control false false true clears outputs latest none was = refl
out_control false false false true outputs latest none was = same_refl none
out_control false false false false outputs latest none was = was

out_act : (slave : SlaveRecord) (act : Act) → has_put_out slave ≡ true → has_put_out (acted slave act) ≡ true
unfolding acted
out_act slave (locks sender place prm) was = same_refl (zeros (output_length slave))
out_act slave (configures number) was = out_shape (keeps_shape slave number) slave.sync_mode slave.outputs slave.latest (zeros (outputs_of slave.description number)) was
out_act slave (exchanges octets) was = out_data slave.sync_mode slave.outputs octets
out_act slave exchanges_none was = out_data slave.sync_mode slave.outputs (zeros (output_length slave))
out_act slave (is_controlled control) was =
    out_control control.unsync (is_synced_by slave control) slave.sync_mode control.clear_data slave.outputs slave.latest (zeros (output_length slave)) was
out_act slave other was = out_still (releases slave other) slave.sync_mode slave.outputs slave.latest (zeros (output_length slave)) was

-- ---- the frozen inputs

zero_taken : (count : ℕ) (octets : List ℕ) → are_zero octets ≡ true → are_zero (take count octets) ≡ true
zero_taken zero octets was = refl
zero_taken (suc count) [] was = refl
zero_taken (suc count) (x ∷ octets) was =
    let parts = and_parts (eqb x 0) (are_zero octets) was in
    and_from (eqb x 0) (are_zero (take count octets)) parts.0 (zero_taken count octets parts.1)

zero_cut : (count : ℕ) (octets : List ℕ) → are_zero octets ≡ true → are_zero (cut_or_filled count octets) ≡ true
zero_cut count octets was =
    list_all-append (λ octet. eqb octet 0) (take count octets) (zeros (count - length octets))
    ∙ and_from (are_zero (take count octets)) (are_zero (zeros (count - length octets))) (zero_taken count octets was) (zeros_zero (count - length octets))

frozen_shape : (freeze keeps : Bool) (count : ℕ) (octets : List ℕ) → (freeze || are_zero octets) ≡ true → (freeze || are_zero (if keeps then octets else cut_or_filled count octets)) ≡ true
frozen_shape true keeps count octets was = refl
frozen_shape false true count octets was = was
frozen_shape false false count octets was = zero_cut count octets was

frozen_by : (freeze one asked : Bool) (inputs octets : List ℕ) → (not asked || freeze) ≡ true → (freeze || are_zero octets) ≡ true
    → (freeze || are_zero (if one && asked then inputs else octets)) ≡ true
frozen_by true one asked inputs octets needs was = refl
frozen_by false one true inputs octets needs was = absurd cc
frozen_by false one false inputs octets needs was = ap (λ (b : Bool). are_zero (if b then inputs else octets)) (and_right one false refl) ∙ was

freeze_taken : (description : SlaveSpec) (prm : Option Prm) → option_map_or (takes description) prm true ≡ true
    → (not (option_map_or (λ (p : Prm). p.freeze_req) prm false) || description.freeze) ≡ true
freeze_taken description None taken = refl
freeze_taken description (Some prm) taken =
    let user = and_parts (option_map_or is_watchdog_time prm.watchdog true && (not prm.sync_req || description.sync) && (not prm.freeze_req || description.freeze)) _ taken in
    (and_parts (option_map_or is_watchdog_time prm.watchdog true && (not prm.sync_req || description.sync)) (not prm.freeze_req || description.freeze) user.0).1

frozen_act : (slave : SlaveRecord) (act : Act) → has_taken_prm slave ≡ true → has_sound_frozen_inputs slave ≡ true → has_sound_frozen_inputs (acted slave act) ≡ true
unfolding acted
frozen_act slave (configures number) taken was = frozen_shape slave.description.freeze (keeps_shape slave number) (inputs_of slave.description number) slave.frozen_inputs was
frozen_act slave (is_controlled control) taken was =
    frozen_by slave.description.freeze (not control.unfreeze && control.freeze) (freeze_is_asked slave) slave.inputs slave.frozen_inputs (freeze_taken slave.description slave.prm taken) was
frozen_act slave other taken was = was

-- ---- the faults

-- the test, by state and faults
abbrev faults_test : (waits prm cfg unsupported lacks : Bool) → Bool
faults_test waits prm cfg unsupported lacks = (waits || not (prm || cfg)) && not (prm && cfg) && (not unsupported || prm && lacks)

no_faults : (waits prm cfg unsupported lacks : Bool) → not waits ≡ true → faults_test waits prm cfg unsupported lacks ≡ true → (prm ≡ false) × (unsupported ≡ false)
no_faults true prm cfg unsupported lacks held was = absurd cc
no_faults false true cfg unsupported lacks held was = absurd cc
no_faults false false true unsupported lacks held was = absurd cc
no_faults false false false true lacks held was = absurd cc
no_faults false false false false lacks held was = (refl, refl)

now_good : (prm unsupported lacks : Bool) → prm ≡ false → unsupported ≡ false → faults_test false prm false unsupported lacks ≡ true
now_good prm unsupported lacks e f = rw (e, f) refl

now_wrong : (prm unsupported lacks : Bool) → prm ≡ false → unsupported ≡ false → faults_test true prm true unsupported lacks ≡ true
now_wrong prm unsupported lacks e f = rw (e, f) refl

faults_still : (b : Bool) (state : State) (prm cfg unsupported lacks : Bool) → faults_test (is_in_wait_prm state) prm cfg unsupported lacks ≡ true
    → faults_test (is_in_wait_prm (if b then WaitPrm else state)) prm cfg unsupported lacks ≡ true
faults_still true state prm cfg unsupported lacks was =
    let parts = and_parts ((is_in_wait_prm state || not (prm || cfg)) && not (prm && cfg)) (not unsupported || prm && lacks) was in
    let one = and_parts (is_in_wait_prm state || not (prm || cfg)) (not (prm && cfg)) parts.0 in
    and_from (not (prm && cfg)) (not unsupported || prm && lacks) one.1 parts.1
faults_still false state prm cfg unsupported lacks was = was

faults_act : (slave : SlaveRecord) (act : Act) → fits slave act ≡ true → suits slave act ≡ true → has_sound_faults slave ≡ true → has_sound_faults (acted slave act) ≡ true
unfolding acted
faults_act slave (locks sender place prm) fit suit was = refl
faults_act slave (faults not_supported) fit suit was = suit
faults_act slave (configures number) fit suit was =
    let lacks = not (slave.description.sync && slave.description.freeze) in
    let none = no_faults (is_in_wait_prm slave.state) slave.diag.prm_fault slave.diag.cfg_fault slave.diag.not_supported lacks (and_parts (not (is_in_wait_prm slave.state)) _ fit).0 was in
    now_good slave.diag.prm_fault slave.diag.not_supported lacks none.0 none.1
faults_act slave misconfigures fit suit was =
    let lacks = not (slave.description.sync && slave.description.freeze) in
    let none = no_faults (is_in_wait_prm slave.state) slave.diag.prm_fault slave.diag.cfg_fault slave.diag.not_supported lacks fit was in
    now_wrong slave.diag.prm_fault slave.diag.not_supported lacks none.0 none.1
faults_act slave other fit suit was =
    faults_still (releases slave other) slave.state slave.diag.prm_fault slave.diag.cfg_fault slave.diag.not_supported (not (slave.description.sync && slave.description.freeze)) was

-- ---- the shape

shape_act : (slave : SlaveRecord) (act : Act) → suits slave act ≡ true → has_choosable_shape slave ≡ true → has_choosable_shape (acted slave act) ≡ true
unfolding acted
shape_act slave (configures number) suit was = suit
shape_act slave other suit was = was

-- ---- all of them

-- the conditions one by one
pub record Reaches (slave : SlaveRecord) : Type 0 where
  pub listed : has_listed_holder slave ≡ true
  pub taken : has_taken_prm slave ≡ true
  pub time : has_time_left slave ≡ true
  pub min_tsdr : has_min_tsdr slave ≡ true
  pub modes : has_asked_modes slave ≡ true
  pub out : has_put_out slave ≡ true
  pub frozen : has_sound_frozen_inputs slave ≡ true
  pub no_other_faults : has_sound_faults slave ≡ true
  pub shaped : has_choosable_shape slave ≡ true

reaches_of : (slave : SlaveRecord) → is_reachable slave ≡ true → Reaches slave
reaches_of slave is =
    let shape = and_parts (has_reachable_hold slave && has_reachable_data slave && has_sound_faults slave) (has_choosable_shape slave) is in
    let fault = and_parts (has_reachable_hold slave && has_reachable_data slave) (has_sound_faults slave) shape.0 in
    let both = and_parts (has_reachable_hold slave) (has_reachable_data slave) fault.0 in
    let least = and_parts (has_listed_holder slave && has_taken_prm slave && has_time_left slave) (has_min_tsdr slave) both.0 in
    let time = and_parts (has_listed_holder slave && has_taken_prm slave) (has_time_left slave) least.0 in
    let prm = and_parts (has_listed_holder slave) (has_taken_prm slave) time.0 in
    let frozen = and_parts (has_asked_modes slave && has_put_out slave) (has_sound_frozen_inputs slave) both.1 in
    let modes = and_parts (has_asked_modes slave) (has_put_out slave) frozen.0 in
    record {
      listed = prm.0;
      taken = prm.1;
      time = time.1;
      min_tsdr = least.1;
      modes = modes.0;
      out = modes.1;
      frozen = frozen.1;
      no_other_faults = fault.1;
      shaped = shape.1;
    }

is_by : (slave : SlaveRecord) → Reaches slave → is_reachable slave ≡ true
is_by slave r =
    and_from (has_reachable_hold slave && has_reachable_data slave && has_sound_faults slave) (has_choosable_shape slave)
    (and_from (has_reachable_hold slave && has_reachable_data slave) (has_sound_faults slave)
    (and_from (has_reachable_hold slave) (has_reachable_data slave)
    (and_from (has_listed_holder slave && has_taken_prm slave && has_time_left slave) (has_min_tsdr slave)
    (and_from (has_listed_holder slave && has_taken_prm slave) (has_time_left slave) (and_from (has_listed_holder slave) (has_taken_prm slave) r.listed r.taken) r.time) r.min_tsdr)
    (and_from (has_asked_modes slave && has_put_out slave) (has_sound_frozen_inputs slave) (and_from (has_asked_modes slave) (has_put_out slave) r.modes r.out) r.frozen))
    r.no_other_faults)
    r.shaped

pub reachable_act : (slave : SlaveRecord) (act : Act) → is_reachable slave ≡ true → fits slave act ≡ true → suits slave act ≡ true → is_reachable (acted slave act) ≡ true
reachable_act slave act is fit suit =
    let r = reaches_of slave is in
    is_by (acted slave act) (record {
      listed = listed_act slave act suit r.listed;
      taken = taken_act slave act suit r.taken;
      time = time_act slave act suit r.taken r.time;
      min_tsdr = min_tsdr_act slave act r.min_tsdr;
      modes = modes_act slave act r.modes;
      out = out_act slave act r.out;
      frozen = frozen_act slave act r.taken r.frozen;
      no_other_faults = faults_act slave act fit suit r.no_other_faults;
      shaped = shape_act slave act suit r.shaped;
    })

pub reachable_after : (acts : List Act) (slave : SlaveRecord) → is_reachable slave ≡ true → all_fit slave acts ≡ true → all_suit slave acts ≡ true → is_reachable (acts_after slave acts) ≡ true
reachable_after [] slave is fit suit = is
reachable_after (act ∷ acts) slave is fit suit =
    let fits_too = and_parts (fits slave act) (all_fit (acted slave act) acts) fit in
    let suits_too = and_parts (suits slave act) (all_suit (acted slave act) acts) suit in
    reachable_after acts (acted slave act) (reachable_act slave act is fits_too.0 suits_too.0) fits_too.1 suits_too.1

-- ---- the start

first_chosen : (known : List (List ℕ)) → 1 ≤ length known → option_eq nat_eq (chosen known (unwrap_or (slice_get known 0) [])) (Some 0) ≡ true
first_chosen [] some = absurd (omega (arith, some))
first_chosen (first ∷ others) some =
    ap (λ (b : Bool). option_eq nat_eq (if b then Some 0 else option_map suc (chosen others first)) (Some 0)) (same_refl first)

frozen_start : (freeze : Bool) (count : ℕ) → (freeze || are_zero (zeros count)) ≡ true
frozen_start true count = refl
frozen_start false count = zeros_zero count

pub reachable_start : (masters : List ℕ) (description : SlaveSpec) → 1 ≤ length (configurations description) → is_reachable (starting_slave masters description) ≡ true
reachable_start masters description some = is_by (starting_slave masters description) (record {
  listed = refl;
  taken = refl;
  time = refl;
  min_tsdr = refl;
  modes = refl;
  out = same_refl (zeros (outputs_of description 0));
  frozen = frozen_start description.freeze (inputs_of description 0);
  no_other_faults = refl;
  shaped = first_chosen (configurations description) some;
})
