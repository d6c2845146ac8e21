use Rattle.std.proofs.Common.{◌≡◌, ℕ, ◌+◌, ◌*◌, ◌/◌, ◌%◌, List, [], ◌∷◌, ◌++◌, length, refl, sym, ap, arith, length-append}
use Rattle.dp_audit.specs.Packed.{packed_entry, record_octets, two_octets}
use Rattle.dp_audit.proofs.laws.a_record_has_its_length.Goals as goal

reports : (octets behind : List ℕ) (high low : ℕ) → two_octets (length octets) ++ octets ≡ high ∷ low ∷ behind → length behind ≡ 256 * high + low
reports octets behind high low e =
    let first : length octets / 256 ≡ high = cc in
    let second : length octets % 256 ≡ low = cc in
    let others : octets ≡ behind = cc in
    let same = ap length others in
    omega arith

none_left : (rest : List ℕ) → length rest ≡ 0 → rest ≡ []
none_left [] e = refl
none_left (octet ∷ rest) e = absurd (omega arith)

stands_apart : (octets others rest : List ℕ) → (two_octets (length octets) ++ octets) ++ rest ≡ two_octets (length others) ++ others → rest ≡ []
stands_apart octets others rest e =
    let size = reports others (octets ++ rest) (length octets / 256) (length octets % 256) (sym e) in
    let joined = length-append octets rest in
    none_left rest (omega arith)

pub returns-clause-reported : goal.returns-clause-reported
unfolding record_octets
returns-clause-reported c = λ entry high low octets e. reports (packed_entry entry) octets high low e

pub returns-clause-apart : goal.returns-clause-apart
unfolding record_octets
returns-clause-apart c = λ first second rest e. stands_apart (packed_entry first) (packed_entry second) rest e
