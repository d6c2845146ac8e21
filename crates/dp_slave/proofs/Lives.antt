-- What holds of a slave after an act.
use Rattle.std.proofs.Common.{◌≡◌, ◌≢◌, ℕ, ◌+◌, ◌-◌, ◌<◌, Bool, true, false, not, eqb, List, [], ◌∷◌, length, Option, Some, None, is_some, inl, inr, refl, sym, ap, subst, ◌∙◌, arith}
use Rattle.std.specs.Prelude.{◌&&◌, ◌||◌, if◌then◌else◌, is_none, nat_lt, option_map}
use Rattle.std.proofs.lemmas.Bool.{and_parts, cases_Bool, leb-false, lt-leb, ltb-true, eqb-true, both_ways}
use Rattle.std.proofs.lemmas.List.{length-replicate}
use Rattle.dp_prm.specs.declared.prm.PrmVerdict.{PrmVerdict}
use Rattle.dp_prm.specs.declared.prm.PrmVerdict.TheVariants as prm
use Rattle.dp_sap.specs.declared.state.State.{State}
use Rattle.dp_sap.specs.declared.state.State.TheVariants.{WaitPrm, WaitCfg, DataExch}
use Rattle.dp_sap.specs.States.{is_in_data_exch, is_in_wait_prm}
use Rattle.dp_slave.specs.declared.description.SlaveSpec.{SlaveSpec}
use Rattle.dp_slave.specs.SlaveRecord.{SlaveRecord, configurations, full_time, input_length, inputs_of, is_held_by, output_length, outputs_of, released, starting_slave, zeros}
use Rattle.dp_slave.specs.Acts.{Act, Control, locks, faults, unlocks, sets_min_tsdr, configures, misconfigures, exchanges, exchanges_none, sends_diagnosis, is_read, is_controlled, is_fed, reports, is_marked, ticks, halts, releases, runs_out}
use Rattle.dp_slave.specs.Fields.{acted, cleared_by, is_frozen_by, keeps_shape}
use Rattle.dp_slave.specs.Services.{prm_act}
use Rattle.dp_slave.proofs.Lengths.{cut_long}
use Rattle.dp_slave.specs.Soundness.{IsSound, acts_after, all_fit, ends_clearing, fits}

pub released_again : (slave : SlaveRecord) → released (released slave) ≡ released slave
unfolding released
released_again slave = refl

pub halt_releases : (slave : SlaveRecord) → acted slave halts ≡ released slave
unfolding acted released
halt_releases slave = refl

-- Slave_Diag by a master that isn't the holder, and reading
pub reported_stranger : (slave : SlaveRecord) (sender : ℕ) → is_held_by sender slave ≡ false → acted slave (sends_diagnosis sender) ≡ slave
unfolding acted
reported_stranger slave sender apart = rw apart refl

pub only_read : (slave : SlaveRecord) → acted slave is_read ≡ slave
unfolding acted
only_read slave = refl

-- data wait in sync mode
pub data_wait : (slave : SlaveRecord) (octets : List ℕ) → slave.sync_mode ≡ true → (acted slave (exchanges octets)).outputs ≡ slave.outputs
unfolding acted
data_wait slave octets on = rw on refl

pub put_out : (slave : SlaveRecord) (octets : List ℕ) (control : Control) → control.unsync ≡ true → control.clear_data ≡ false
    → (acted (acted slave (exchanges octets)) (is_controlled control)).outputs ≡ octets
unfolding acted
put_out slave octets control unsync clear = rw (unsync, clear) refl

-- a tick that doesn't release the slave
waited : (slave : SlaveRecord) (time : ℕ) → runs_out time slave.left ≡ false → acted slave (ticks time) ≡ record slave { left = option_map (λ units. units - time) slave.left }
unfolding acted
waited slave time stays = rw stays refl

parts_stay : (time more : ℕ) (left : Option ℕ) → runs_out (time + more) left ≡ false
    → (runs_out time left ≡ false) × (runs_out more (option_map (λ units. units - time) left) ≡ false)
    × (option_map (λ units. units - more) (option_map (λ units. units - time) left) ≡ option_map (λ units. units - (time + more)) left)
parts_stay time more None stays = (refl, refl, refl)
parts_stay time more (Some units) stays =
    let above : time + more < units = leb-false units (time + more) stays in
    (lt-leb units time (omega arith), lt-leb (units - time) more (omega arith), ap Some (omega arith))

pub times_add : (slave : SlaveRecord) (time more : ℕ) → releases slave (ticks (time + more)) ≡ false → acted (acted slave (ticks time)) (ticks more) ≡ acted slave (ticks (time + more))
times_add slave time more stays =
    let parts = parts_stay time more slave.left stays in
    ap (λ (s : SlaveRecord). acted s (ticks more)) (waited slave time parts.0)
    ∙ waited (record slave { left = option_map (λ units. units - time) slave.left }) more parts.1
    ∙ ap (λ (left : Option ℕ). record slave { left = left }) parts.2
    ∙ sym (waited slave (time + more) stays)

-- a request for what the slave doesn't support
pub reported_by : (slave : SlaveRecord) (sender place : ℕ) (verdict : PrmVerdict) → verdict ≡ prm.Fault true
    → ((acted slave (prm_act sender place verdict)).diag.prm_fault ≡ true) × ((acted slave (prm_act sender place verdict)).diag.not_supported ≡ true)
unfolding acted
reported_by slave sender place verdict e = rw e (refl, refl)

-- a slave stays sound
pub sound_start : (masters : List ℕ) (description : SlaveSpec) → IsSound (starting_slave masters description)
sound_start masters description = record {
  held = refl;
  parameters = refl;
  watchdog = refl;
  outputs_zero = λ outside. refl;
  latest_zero = λ outside. refl;
  no_sync = λ outside. refl;
  no_freeze = λ outside. refl;
  configured = refl;
  shaped = λ some. omega arith;
  cleared_failsafe = λ on. absurd cc;
  cleared_exchanging = λ on. absurd cc;
  cleared_outputs = λ on. absurd cc;
  cleared_latest = λ on. absurd cc;
  inputs_long = length-replicate _ 0;
  frozen_inputs_long = length-replicate _ 0;
  outputs_long = length-replicate _ 0;
  latest_long = length-replicate _ 0;
}

sound_released : (slave : SlaveRecord) → IsSound slave → IsSound (released slave)
unfolding released
sound_released slave s = record {
  held = refl;
  parameters = refl;
  watchdog = refl;
  outputs_zero = λ outside. refl;
  latest_zero = λ outside. refl;
  no_sync = λ outside. refl;
  no_freeze = λ outside. refl;
  configured = refl;
  shaped = s.shaped;
  cleared_failsafe = λ on. absurd cc;
  cleared_exchanging = λ on. absurd cc;
  cleared_outputs = λ on. absurd cc;
  cleared_latest = λ on. absurd cc;
  inputs_long = s.inputs_long;
  frozen_inputs_long = s.frozen_inputs_long;
  outputs_long = length-replicate _ 0;
  latest_long = length-replicate _ 0;
}

-- a watchdog is set to its full time, or doesn't change
again_runs : (b : Bool) (left full : Option ℕ) → is_some left ≡ is_some full → is_some (if b then (if is_some left then full else None) else left) ≡ is_some full
again_runs false left full same = same
again_runs true None None same = refl
again_runs true None (Some units) same = absurd cc
again_runs true (Some units) None same = absurd cc
again_runs true (Some units) (Some more) same = refl

again_only : (left full : Option ℕ) → is_some left ≡ is_some full → is_some (if is_some left then full else None) ≡ is_some full
again_only left full same = again_runs true left full same

time_runs : (time : ℕ) (left : Option ℕ) → is_some (option_map (λ units. units - time) left) ≡ is_some left
time_runs time None = refl
time_runs time (Some units) = refl

-- in Data_Exch, what must hold outside it needs no proof
in_exchange : {X : Type 0} (state : State) → is_in_data_exch state ≡ true → is_in_data_exch state ≡ false → X
in_exchange state inside outside = absurd (both_ways (is_in_data_exch state) outside inside)

-- a slave that isn't in Wait_Prm is held
held_by : (state : State) (holder : Option ℕ) → is_in_wait_prm state ≡ is_none holder → not (is_in_wait_prm state) ≡ true → false ≡ is_none holder
held_by WaitPrm holder held fit = absurd cc
held_by WaitCfg holder held fit = held
held_by DataExch holder held fit = held

cleared_long : (clear : Bool) (count : ℕ) (octets : List ℕ) → length octets ≡ count → length (if clear then zeros count else octets) ≡ count
cleared_long true count octets long = length-replicate count 0
cleared_long false count octets long = long

chosen_long : (b : Bool) (count : ℕ) (xs ys : List ℕ) → length xs ≡ count → length ys ≡ count → length (if b then xs else ys) ≡ count
chosen_long true count xs ys one two = one
chosen_long false count xs ys one two = two

-- octets of the shape in force stay if that stays, else they have the lengths of the other one
kept_long : (count : ℕ → ℕ) (shape number : ℕ) (xs ys : List ℕ) (b : Bool) → eqb number shape ≡ b → length xs ≡ count shape → length ys ≡ count number → length (if b then xs else ys) ≡ count number
kept_long count shape number xs ys true e one two = one ∙ ap count (sym (eqb-true number shape e))
kept_long count shape number xs ys false e one two = two

kept_zero : (description : SlaveSpec) (shape number : ℕ) (octets : List ℕ) (b : Bool) → eqb number shape ≡ b → octets ≡ zeros (outputs_of description shape)
    → (if b then octets else zeros (outputs_of description number)) ≡ zeros (outputs_of description number)
kept_zero description shape number octets true e zero = zero ∙ ap (λ (n : ℕ). zeros (outputs_of description n)) (sym (eqb-true number shape e))
kept_zero description shape number octets false e zero = refl

-- the data of a cleared slave are zero
chosen_zero : (b : Bool) (count : ℕ) (xs ys : List ℕ) → xs ≡ zeros count → ys ≡ zeros count → (if b then xs else ys) ≡ zeros count
chosen_zero true count xs ys one two = one
chosen_zero false count xs ys one two = two

zero_by : (clear failsafe cleared : Bool) (count : ℕ) (octets : List ℕ) → (clear && failsafe || cleared) ≡ true → (cleared ≡ true → octets ≡ zeros count)
    → (if clear then zeros count else octets) ≡ zeros count
zero_by true failsafe cleared count octets on zero = refl
zero_by false failsafe cleared count octets on zero = zero on

failsafe_by : (clear failsafe cleared : Bool) → (clear && failsafe || cleared) ≡ true → (cleared ≡ true → failsafe ≡ true) → failsafe ≡ true
failsafe_by clear true cleared on was = refl
failsafe_by true false cleared on was = was on
failsafe_by false false cleared on was = was on

-- time releases the slave, or runs the watchdog down
tick_releases : (slave : SlaveRecord) (time : ℕ) → runs_out time slave.left ≡ true → acted slave (ticks time) ≡ released slave
unfolding acted released
tick_releases slave time out = rw out refl

sound_waited : (slave : SlaveRecord) (time : ℕ) → IsSound slave → IsSound (record slave { left = option_map (λ units. units - time) slave.left })
sound_waited slave time s = record {
  held = s.held;
  parameters = s.parameters;
  watchdog = time_runs time slave.left ∙ s.watchdog;
  outputs_zero = s.outputs_zero;
  latest_zero = s.latest_zero;
  no_sync = s.no_sync;
  no_freeze = s.no_freeze;
  configured = s.configured;
  shaped = s.shaped;
  cleared_failsafe = s.cleared_failsafe;
  cleared_exchanging = s.cleared_exchanging;
  cleared_outputs = s.cleared_outputs;
  cleared_latest = s.cleared_latest;
  inputs_long = s.inputs_long;
  frozen_inputs_long = s.frozen_inputs_long;
  outputs_long = s.outputs_long;
  latest_long = s.latest_long;
}

sound_tick : (slave : SlaveRecord) (time : ℕ) → IsSound slave → IsSound (acted slave (ticks time))
sound_tick slave time s = elim (cases_Bool (runs_out time slave.left)) [
  | inl out ↦ subst IsSound (sym (tick_releases slave time out)) (sound_released slave s)
  | inr stays ↦ subst IsSound (sym (waited slave time stays)) (sound_waited slave time s)
]

sound_act : (slave : SlaveRecord) (act : Act) → IsSound slave → fits slave act ≡ true → IsSound (acted slave act)
unfolding acted released
sound_act slave (locks sender place prm) s fit = record {
  held = refl;
  parameters = refl;
  watchdog = refl;
  outputs_zero = λ outside. refl;
  latest_zero = λ outside. refl;
  no_sync = λ outside. refl;
  no_freeze = λ outside. refl;
  configured = refl;
  shaped = s.shaped;
  cleared_failsafe = λ on. absurd cc;
  cleared_exchanging = λ on. absurd cc;
  cleared_outputs = λ on. absurd cc;
  cleared_latest = λ on. absurd cc;
  inputs_long = s.inputs_long;
  frozen_inputs_long = s.frozen_inputs_long;
  outputs_long = length-replicate _ 0;
  latest_long = length-replicate _ 0;
}
sound_act slave (faults not_supported) s fit = record {
  held = refl;
  parameters = refl;
  watchdog = refl;
  outputs_zero = λ outside. refl;
  latest_zero = λ outside. refl;
  no_sync = λ outside. refl;
  no_freeze = λ outside. refl;
  configured = refl;
  shaped = s.shaped;
  cleared_failsafe = λ on. absurd cc;
  cleared_exchanging = λ on. absurd cc;
  cleared_outputs = λ on. absurd cc;
  cleared_latest = λ on. absurd cc;
  inputs_long = s.inputs_long;
  frozen_inputs_long = s.frozen_inputs_long;
  outputs_long = length-replicate _ 0;
  latest_long = length-replicate _ 0;
}
sound_act slave unlocks s fit = sound_released slave s
sound_act slave (sets_min_tsdr sender octet) s fit = record {
  held = s.held;
  parameters = s.parameters;
  watchdog = again_runs (is_held_by sender slave) slave.left (full_time slave) s.watchdog;
  outputs_zero = s.outputs_zero;
  latest_zero = s.latest_zero;
  no_sync = s.no_sync;
  no_freeze = s.no_freeze;
  configured = s.configured;
  shaped = s.shaped;
  cleared_failsafe = s.cleared_failsafe;
  cleared_exchanging = s.cleared_exchanging;
  cleared_outputs = s.cleared_outputs;
  cleared_latest = s.cleared_latest;
  inputs_long = s.inputs_long;
  frozen_inputs_long = s.frozen_inputs_long;
  outputs_long = s.outputs_long;
  latest_long = s.latest_long;
}
sound_act slave (configures number) s fit =
    let parts = and_parts (not (is_in_wait_prm slave.state)) (nat_lt number (length (configurations slave.description))) fit in
    record {
      held = held_by slave.state slave.holder s.held parts.0;
      parameters = s.parameters;
      watchdog = again_only slave.left (full_time slave) s.watchdog;
      outputs_zero = λ outside. absurd cc;
      latest_zero = λ outside. absurd cc;
      no_sync = λ outside. absurd cc;
      no_freeze = λ outside. absurd cc;
      configured = refl;
      shaped = λ some. ltb-true number (length (configurations slave.description)) parts.1;
      cleared_failsafe = λ on. s.cleared_failsafe (and_parts (keeps_shape slave number) slave.cleared on).1;
      cleared_exchanging = λ on. refl;
      cleared_outputs = λ on. kept_zero slave.description slave.shape number slave.outputs (keeps_shape slave number) refl (s.cleared_outputs (and_parts (keeps_shape slave number) slave.cleared on).1);
      cleared_latest = λ on. kept_zero slave.description slave.shape number slave.latest (keeps_shape slave number) refl (s.cleared_latest (and_parts (keeps_shape slave number) slave.cleared on).1);
      inputs_long = kept_long (inputs_of slave.description) slave.shape number slave.inputs _ (keeps_shape slave number) refl s.inputs_long (cut_long (inputs_of slave.description number) slave.inputs);
      frozen_inputs_long = kept_long (inputs_of slave.description) slave.shape number slave.frozen_inputs _ (keeps_shape slave number) refl s.frozen_inputs_long (cut_long (inputs_of slave.description number) slave.frozen_inputs);
      outputs_long = kept_long (outputs_of slave.description) slave.shape number slave.outputs _ (keeps_shape slave number) refl s.outputs_long (length-replicate (outputs_of slave.description number) 0);
      latest_long = kept_long (outputs_of slave.description) slave.shape number slave.latest _ (keeps_shape slave number) refl s.latest_long (length-replicate (outputs_of slave.description number) 0);
    }
sound_act slave misconfigures s fit = record {
  held = refl;
  parameters = refl;
  watchdog = refl;
  outputs_zero = λ outside. refl;
  latest_zero = λ outside. refl;
  no_sync = λ outside. refl;
  no_freeze = λ outside. refl;
  configured = refl;
  shaped = s.shaped;
  cleared_failsafe = λ on. absurd cc;
  cleared_exchanging = λ on. absurd cc;
  cleared_outputs = λ on. absurd cc;
  cleared_latest = λ on. absurd cc;
  inputs_long = s.inputs_long;
  frozen_inputs_long = s.frozen_inputs_long;
  outputs_long = length-replicate _ 0;
  latest_long = length-replicate _ 0;
}
sound_act slave (exchanges octets) s fit =
    let parts = and_parts (is_in_data_exch slave.state) (eqb (length octets) (output_length slave)) fit in
    let long = eqb-true _ _ parts.1 in
    record {
      held = s.held;
      parameters = s.parameters;
      watchdog = again_only slave.left (full_time slave) s.watchdog;
      outputs_zero = in_exchange slave.state parts.0;
      latest_zero = in_exchange slave.state parts.0;
      no_sync = s.no_sync;
      no_freeze = s.no_freeze;
      configured = s.configured;
      shaped = s.shaped;
      cleared_failsafe = λ on. absurd cc;
      cleared_exchanging = λ on. absurd cc;
      cleared_outputs = λ on. absurd cc;
      cleared_latest = λ on. absurd cc;
      inputs_long = s.inputs_long;
      frozen_inputs_long = s.frozen_inputs_long;
      outputs_long = chosen_long slave.sync_mode (output_length slave) slave.outputs octets s.outputs_long long;
      latest_long = long;
    }
sound_act slave exchanges_none s fit =
    let parts = and_parts (is_in_data_exch slave.state) slave.cleared fit in
    record {
      held = s.held;
      parameters = s.parameters;
      watchdog = again_only slave.left (full_time slave) s.watchdog;
      outputs_zero = in_exchange slave.state parts.0;
      latest_zero = in_exchange slave.state parts.0;
      no_sync = s.no_sync;
      no_freeze = s.no_freeze;
      configured = s.configured;
      shaped = s.shaped;
      cleared_failsafe = s.cleared_failsafe;
      cleared_exchanging = s.cleared_exchanging;
      cleared_outputs = λ on. chosen_zero slave.sync_mode (output_length slave) slave.outputs (zeros (output_length slave)) (s.cleared_outputs on) refl;
      cleared_latest = λ on. refl;
      inputs_long = s.inputs_long;
      frozen_inputs_long = s.frozen_inputs_long;
      outputs_long = chosen_long slave.sync_mode (output_length slave) slave.outputs (zeros (output_length slave)) s.outputs_long (length-replicate _ 0);
      latest_long = length-replicate _ 0;
    }
sound_act slave (sends_diagnosis sender) s fit = record {
  held = s.held;
  parameters = s.parameters;
  watchdog = again_runs (is_held_by sender slave) slave.left (full_time slave) s.watchdog;
  outputs_zero = s.outputs_zero;
  latest_zero = s.latest_zero;
  no_sync = s.no_sync;
  no_freeze = s.no_freeze;
  configured = s.configured;
  shaped = s.shaped;
  cleared_failsafe = s.cleared_failsafe;
  cleared_exchanging = s.cleared_exchanging;
  cleared_outputs = s.cleared_outputs;
  cleared_latest = s.cleared_latest;
  inputs_long = s.inputs_long;
  frozen_inputs_long = s.frozen_inputs_long;
  outputs_long = s.outputs_long;
  latest_long = s.latest_long;
}
sound_act slave is_read s fit = s
sound_act slave (is_controlled control) s fit = record {
  held = s.held;
  parameters = s.parameters;
  watchdog = again_only slave.left (full_time slave) s.watchdog;
  outputs_zero = in_exchange slave.state fit;
  latest_zero = in_exchange slave.state fit;
  no_sync = in_exchange slave.state fit;
  no_freeze = in_exchange slave.state fit;
  configured = s.configured;
  shaped = s.shaped;
  cleared_failsafe = λ on. failsafe_by control.clear_data slave.description.failsafe slave.cleared on s.cleared_failsafe;
  cleared_exchanging = λ on. fit;
  cleared_outputs = λ on. chosen_zero _ (output_length slave) (cleared_by slave control slave.latest) (cleared_by slave control slave.outputs)
      (zero_by control.clear_data slave.description.failsafe slave.cleared (output_length slave) slave.latest on s.cleared_latest)
      (zero_by control.clear_data slave.description.failsafe slave.cleared (output_length slave) slave.outputs on s.cleared_outputs);
  cleared_latest = λ on. zero_by control.clear_data slave.description.failsafe slave.cleared (output_length slave) slave.latest on s.cleared_latest;
  inputs_long = s.inputs_long;
  frozen_inputs_long = chosen_long (is_frozen_by slave control) (input_length slave) slave.inputs slave.frozen_inputs s.inputs_long s.frozen_inputs_long;
  outputs_long = chosen_long _ (output_length slave) (cleared_by slave control slave.latest) (cleared_by slave control slave.outputs)
      (cleared_long control.clear_data (output_length slave) slave.latest s.latest_long) (cleared_long control.clear_data (output_length slave) slave.outputs s.outputs_long);
  latest_long = cleared_long control.clear_data (output_length slave) slave.latest s.latest_long;
}
sound_act slave (is_fed octets) s fit = record {
  held = s.held;
  parameters = s.parameters;
  watchdog = s.watchdog;
  outputs_zero = s.outputs_zero;
  latest_zero = s.latest_zero;
  no_sync = s.no_sync;
  no_freeze = s.no_freeze;
  configured = s.configured;
  shaped = s.shaped;
  cleared_failsafe = s.cleared_failsafe;
  cleared_exchanging = s.cleared_exchanging;
  cleared_outputs = s.cleared_outputs;
  cleared_latest = s.cleared_latest;
  inputs_long = eqb-true _ _ fit;
  frozen_inputs_long = s.frozen_inputs_long;
  outputs_long = s.outputs_long;
  latest_long = s.latest_long;
}
sound_act slave (reports ext stat overflow octets) s fit = record {
  held = s.held;
  parameters = s.parameters;
  watchdog = s.watchdog;
  outputs_zero = s.outputs_zero;
  latest_zero = s.latest_zero;
  no_sync = s.no_sync;
  no_freeze = s.no_freeze;
  configured = s.configured;
  shaped = s.shaped;
  cleared_failsafe = s.cleared_failsafe;
  cleared_exchanging = s.cleared_exchanging;
  cleared_outputs = s.cleared_outputs;
  cleared_latest = s.cleared_latest;
  inputs_long = s.inputs_long;
  frozen_inputs_long = s.frozen_inputs_long;
  outputs_long = s.outputs_long;
  latest_long = s.latest_long;
}
sound_act slave (is_marked point busy) s fit = record {
  held = s.held;
  parameters = s.parameters;
  watchdog = s.watchdog;
  outputs_zero = s.outputs_zero;
  latest_zero = s.latest_zero;
  no_sync = s.no_sync;
  no_freeze = s.no_freeze;
  configured = s.configured;
  shaped = s.shaped;
  cleared_failsafe = s.cleared_failsafe;
  cleared_exchanging = s.cleared_exchanging;
  cleared_outputs = s.cleared_outputs;
  cleared_latest = s.cleared_latest;
  inputs_long = s.inputs_long;
  frozen_inputs_long = s.frozen_inputs_long;
  outputs_long = s.outputs_long;
  latest_long = s.latest_long;
}
sound_act slave (ticks time) s fit = sound_tick slave time s
sound_act slave halts s fit = sound_released slave s

pub sound_after : (acts : List Act) (slave : SlaveRecord) → IsSound slave → all_fit slave acts ≡ true → IsSound (acts_after slave acts)
sound_after [] slave s fit = s
sound_after (act ∷ acts) slave s fit =
    let parts = and_parts (fits slave act) (all_fit (acted slave act) acts) fit in
    sound_after acts (acted slave act) (sound_act slave act s parts.0) parts.1

-- only a configuration changes the shape
pub shape_changed : (slave : SlaveRecord) (act : Act) → (acted slave act).shape ≢ slave.shape → (number : ℕ) × (act ≡ configures number) × ((acted slave act).shape ≡ number)
unfolding acted
shape_changed slave (configures number) changed = (number, refl, refl)
shape_changed slave other changed = absurd (changed refl)

-- a cleared slave
pub clearing_begins : (slave : SlaveRecord) (control : Control) → slave.description.failsafe ≡ true → control.clear_data ≡ true → (acted slave (is_controlled control)).cleared ≡ true
unfolding acted
clearing_begins slave control safe clear = rw (clear, safe) refl

stays_by : (ends cleared : Bool) → cleared ≡ true → (if ends then false else cleared) ≡ not ends
stays_by true cleared on = refl
stays_by false cleared on = on

keeps_by : (keeps cleared : Bool) → cleared ≡ true → (keeps && cleared) ≡ not (not keeps)
keeps_by true cleared on = on
keeps_by false cleared on = refl

or_by : (clear cleared : Bool) → cleared ≡ true → (clear || cleared) ≡ true
or_by true cleared on = refl
or_by false cleared on = on

pub clearing_stays : (slave : SlaveRecord) (act : Act) → slave.cleared ≡ true → (acted slave act).cleared ≡ not (ends_clearing slave act)
unfolding acted
clearing_stays slave (locks sender place prm) on = refl
clearing_stays slave (configures number) on = keeps_by (keeps_shape slave number) slave.cleared on
clearing_stays slave (exchanges octets) on = refl
clearing_stays slave (is_controlled control) on = or_by (control.clear_data && slave.description.failsafe) slave.cleared on
clearing_stays slave other on = stays_by (releases slave other) slave.cleared on

abbrev AreZero : SlaveRecord → Type 0
AreZero slave = (slave.outputs ≡ zeros (output_length slave)) × (slave.latest ≡ zeros (output_length slave))

pub cleared_zero : (slave : SlaveRecord) (act : Act) → IsSound slave → slave.cleared ≡ true → fits slave act ≡ true → ((octets : List ℕ) → act ≢ exchanges octets) → AreZero (acted slave act)
unfolding acted
cleared_zero slave (locks sender place prm) s on fit other = (refl, refl)
cleared_zero slave (configures number) s on fit other = (
  kept_zero slave.description slave.shape number slave.outputs (keeps_shape slave number) refl (s.cleared_outputs on),
  kept_zero slave.description slave.shape number slave.latest (keeps_shape slave number) refl (s.cleared_latest on),
)
cleared_zero slave (exchanges octets) s on fit other = absurd (other octets refl)
cleared_zero slave exchanges_none s on fit other =
    (chosen_zero slave.sync_mode (output_length slave) slave.outputs (zeros (output_length slave)) (s.cleared_outputs on) refl, refl)
cleared_zero slave (is_controlled control) s on fit other =
    let latest = chosen_zero control.clear_data (output_length slave) (zeros (output_length slave)) slave.latest refl (s.cleared_latest on) in
    let outputs = chosen_zero control.clear_data (output_length slave) (zeros (output_length slave)) slave.outputs refl (s.cleared_outputs on) in
    (chosen_zero _ (output_length slave) (cleared_by slave control slave.latest) (cleared_by slave control slave.outputs) latest outputs, latest)
cleared_zero slave act s on fit other = (
  chosen_zero (releases slave act) (output_length slave) (zeros (output_length slave)) slave.outputs refl (s.cleared_outputs on),
  chosen_zero (releases slave act) (output_length slave) (zeros (output_length slave)) slave.latest refl (s.cleared_latest on),
)
