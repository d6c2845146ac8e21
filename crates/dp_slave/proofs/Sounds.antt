-- The test of a slave that is sound.
use Rattle.std.proofs.Common.{◌≡◌, ℕ, zero, suc, ◌<◌, Bool, true, false, not, ◌&&◌, ◌||◌, List, length, Option, Some, None, is_some, refl, sym, ap, subst, ◌∙◌}
use Rattle.std.specs.Prelude.{if◌then◌else◌, is_none, nat_eq, nat_lt}
use Rattle.std.specs.Option.{option_eq}
use Rattle.std.proofs.lemmas.Bool.{and_from, not_from_false, eq-eqb, lt-ltb}
use Rattle.dp_sap.specs.States.{is_in_data_exch, is_in_wait_prm}
use Rattle.dp_slave.specs.SlaveRecord.{SlaveRecord, configurations, full_time, output_length, zeros}
use Rattle.dp_slave.specs.Sound.{agree, are_zero, has_sound_data, has_sound_lock, has_sound_shape, has_zero_outputs, is_sound}
use Rattle.dp_slave.specs.Soundness.{IsSound}

agreed : (a b : Bool) → a ≡ b → agree a b ≡ true
agreed true b e = sym e
agreed false true e = absurd cc
agreed false false e = refl

pub zeros_zero : (n : ℕ) → are_zero (zeros n) ≡ true
zeros_zero zero = refl
zeros_zero (suc n) = zeros_zero n

zero_octets : (n : ℕ) (octets : List ℕ) → octets ≡ zeros n → are_zero octets ≡ true
zero_octets n octets e = ap are_zero e ∙ zeros_zero n

itself : (a : Option ℕ) → option_eq nat_eq a a ≡ true
itself None = refl
itself (Some x) = eq-eqb x x refl

same_option : (a b : Option ℕ) → a ≡ b → option_eq nat_eq a b ≡ true
same_option a b e = subst (λ (o : Option ℕ). option_eq nat_eq a o ≡ true) e (itself a)

data_by : (inside cleared sync freeze failsafe empty : Bool) → (inside ≡ false → empty ≡ true) → (inside ≡ false → sync ≡ false) → (inside ≡ false → freeze ≡ false)
    → (cleared ≡ true → failsafe ≡ true) → (cleared ≡ true → inside ≡ true) → (cleared ≡ true → empty ≡ true)
    → ((inside || empty && not sync && not freeze) && (not cleared || failsafe && inside && empty)) ≡ true
data_by true false sync freeze failsafe empty rests no_sync no_freeze safe in_exchange no_data = refl
data_by true true sync freeze failsafe empty rests no_sync no_freeze safe in_exchange no_data =
    and_from (failsafe && true) empty (and_from failsafe true (safe refl) refl) (no_data refl)
data_by false true sync freeze failsafe empty rests no_sync no_freeze safe in_exchange no_data = let e : false ≡ true = in_exchange refl in absurd cc
data_by false false sync freeze failsafe empty rests no_sync no_freeze safe in_exchange no_data =
    and_from (empty && not sync && not freeze) true
    (and_from (empty && not sync) (not freeze) (and_from empty (not sync) (rests refl) (not_from_false sync (no_sync refl))) (not_from_false freeze (no_freeze refl)))
    refl

lock_passes : (slave : SlaveRecord) → IsSound slave → has_sound_lock slave ≡ true
lock_passes slave s =
    and_from (agree (is_in_wait_prm slave.state) (is_none slave.holder) && agree (is_some slave.prm) (is_some slave.holder)) (agree (is_some slave.left) (is_some (full_time slave)))
    (and_from (agree (is_in_wait_prm slave.state) (is_none slave.holder)) (agree (is_some slave.prm) (is_some slave.holder))
    (agreed (is_in_wait_prm slave.state) (is_none slave.holder) s.held) (agreed (is_some slave.prm) (is_some slave.holder) s.parameters))
    (agreed (is_some slave.left) (is_some (full_time slave)) s.watchdog)

shape_passes : (slave : SlaveRecord) → IsSound slave → slave.shape < length (configurations slave.description) → has_sound_shape slave ≡ true
shape_passes slave s shaped =
    and_from (nat_lt slave.shape (length (configurations slave.description))) (option_eq nat_eq slave.cfg (if is_in_data_exch slave.state then Some slave.shape else None))
    (lt-ltb slave.shape (length (configurations slave.description)) shaped)
    (same_option slave.cfg (if is_in_data_exch slave.state then Some slave.shape else None) s.configured)

zero_by : (slave : SlaveRecord) → slave.outputs ≡ zeros (output_length slave) → slave.latest ≡ zeros (output_length slave) → has_zero_outputs slave ≡ true
zero_by slave outputs latest =
    and_from (are_zero slave.outputs) (are_zero slave.latest) (zero_octets (output_length slave) slave.outputs outputs) (zero_octets (output_length slave) slave.latest latest)

data_passes : (slave : SlaveRecord) → IsSound slave → has_sound_data slave ≡ true
data_passes slave s =
    data_by (is_in_data_exch slave.state) slave.cleared slave.sync_mode slave.freeze_mode slave.description.failsafe (has_zero_outputs slave)
    (λ outside. zero_by slave (s.outputs_zero outside) (s.latest_zero outside)) s.no_sync s.no_freeze
    s.cleared_failsafe s.cleared_exchanging (λ on. zero_by slave (s.cleared_outputs on) (s.cleared_latest on))

pub sound_passes : (slave : SlaveRecord) → IsSound slave → slave.shape < length (configurations slave.description) → is_sound slave ≡ true
sound_passes slave s shaped =
    and_from (has_sound_lock slave && has_sound_shape slave) (has_sound_data slave)
    (and_from (has_sound_lock slave) (has_sound_shape slave) (lock_passes slave s) (shape_passes slave s shaped)) (data_passes slave s)
