-- Each fact of a diagnosis from its octets.
use Rattle.std.specs.Prelude.{◌≡◌, ℕ, ◌/◌, ◌%◌, ◌<◌, Bool, true, false, not, List, [], ◌∷◌, length, Option, Some, None, unwrap_or, IfSome, refl}
use Rattle.std.proofs.Common.{ap, arith}
use Rattle.arrayvec.specs.ArrayVec.{ArrayVec}
use Rattle.dp_sap.specs.declared.state.State.{State}
use Rattle.dp_sap.specs.declared.state.State.TheVariants.{WaitPrm, WaitCfg, DataExch}
use Rattle.dp_diag.specs.declared.facts.DiagFacts.{DiagFacts}
use Rattle.dp_sap.specs.States.{is_in_data_exch, is_in_wait_prm}
use Rattle.dp_diag.specs.DiagnosisText.{octet_of, diagnosis_text, no_master, station_status_1, station_status_2, station_status_3, shown, HolderIsStation}

-- an octet determines its bits, for lists of bits of the same length
bits_reported : (these those : List Bool) → length these ≡ length those → octet_of these ≡ octet_of those → these ≡ those
bits_reported [] [] _ _ = refl
bits_reported [] (bit ∷ bits) many _ = cc
bits_reported (bit ∷ bits) [] many _ = cc
bits_reported (true ∷ these) (true ∷ those) many same = ap (λ bits. true ∷ bits) (bits_reported these those (omega arith) (omega arith))
bits_reported (false ∷ these) (false ∷ those) many same = ap (λ bits. false ∷ bits) (bits_reported these those (omega arith) (omega arith))
bits_reported (true ∷ these) (false ∷ those) many same = absurd (omega arith)
bits_reported (false ∷ these) (true ∷ those) many same = absurd (omega arith)

-- the state, by Station_Not_Ready and Prm_Req
abbrev state_of : Bool → Bool → State
state_of true true = WaitPrm
state_of true false = WaitCfg
state_of false _ = DataExch

-- the two conditions determine the state
state_of-state : (state : State) → state_of (not (is_in_data_exch state)) (is_in_wait_prm state) ≡ state
state_of-state WaitPrm = refl
state_of-state WaitCfg = refl
state_of-state DataExch = refl

-- octet 4 determines the holder
holder_reported : (one another : Option ℕ) → IfSome one (λ holder. holder < 127) → IfSome another (λ holder. holder < 127)
    → unwrap_or one no_master ≡ unwrap_or another no_master → one ≡ another
holder_reported None None _ _ _ = refl
holder_reported None (Some holder) _ below same = absurd (omega arith)
holder_reported (Some holder) None below _ same = absurd (omega arith)
holder_reported (Some one) (Some another) _ _ same = ap Some same

-- octets 5 and 6 determine the ident number
ident_reported : (one another : ℕ) → one / 256 ≡ another / 256 → one % 256 ≡ another % 256 → one ≡ another
ident_reported one another high low = omega arith

-- the vector of these elements
abbrev array_vec_of : List ℕ → ArrayVec ℕ
array_vec_of items = record { items = items }

-- the octets determine each fact except whether the diagnosis is unread
pub diagnosis_text_reported : (one another : DiagFacts) → HolderIsStation one → HolderIsStation another
    → diagnosis_text one ≡ diagnosis_text another → shown one ≡ shown another
diagnosis_text_reported one another held held' same =
    let octet_1 = bits_reported (station_status_1 one) (station_status_1 another) refl (cc) in
    let octet_2 = bits_reported (station_status_2 one) (station_status_2 another) refl (cc) in
    let octet_3 = bits_reported (station_status_3 one) (station_status_3 another) refl (cc) in
    let holder = holder_reported one.holder another.holder held held' (cc) in
    let ident = ident_reported one.ident another.ident (cc) (cc) in
    let state : one.state ≡ another.state = cc (state_of-state one.state, state_of-state another.state) in
    let items : one.diag.octets.items ≡ another.diag.octets.items = cc in
    let octets : one.diag.octets ≡ another.diag.octets = ap array_vec_of items in
    cc
