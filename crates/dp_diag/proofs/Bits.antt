-- Bits of an octet: `|` of bits at different places is the octet of these bits.
use Rattle.std.specs.Prelude.{◌≡◌, ℕ, ◌^◌, [], ◌∷◌, Bool, true, false, if◌then◌else◌}
use Rattle.std.proofs.Common.{bit_or, arith}
use Rattle.dp_diag.specs.DiagnosisText.{octet_of}

-- an octet in which only the bit of this number may be 1
abbrev bit : ℕ → Bool → ℕ
bit number flag = if flag then 2 ^ number else 0

-- the bits of octet 1
pub or_station_status_1 : (a b c d e : Bool) →
    bit_or (bit_or (bit_or (bit_or (bit 1 a) (bit 2 b)) (bit 3 c)) (bit 4 d)) (bit 6 e)
    ≡ octet_of (false ∷ a ∷ b ∷ c ∷ d ∷ false ∷ e ∷ false ∷ [])
or_station_status_1 a b c d e = grind arith

-- the bits of octet 2
pub or_station_status_2 : (a b c d e : Bool) →
    bit_or (bit_or (bit_or (bit_or (bit_or (bit 0 a) (bit 1 b)) (bit 2 true)) (bit 3 c)) (bit 4 d)) (bit 5 e)
    ≡ octet_of (a ∷ b ∷ true ∷ c ∷ d ∷ e ∷ false ∷ false ∷ [])
or_station_status_2 a b c d e = grind arith
