-- promise
-- The service access points that a telegram names (IEC 61158-4-3, address extension).
use Rattle.std.specs.Prelude.{◌≡◌, ℕ, ◌+◌, ◌%◌, Bool, true, false, nat_lt, nat_le, if◌then◌else◌, List, [], ◌∷◌, ◌++◌, Option, Some, None, is_some, IfSome, option_and_then, option_to_list}
use Rattle.dp_telegram.specs.declared.access.Parts.{Parts}
use Rattle.dp_telegram.specs.declared.frame.Telegram.{Telegram}
use Rattle.dp_telegram.specs.declared.frame.Frame.{Frame}
use Rattle.dp_telegram.specs.declared.frame.Frame.TheVariants as frames

-- bits 6 to 0 of an address octet are the address (IEC 61158-4-3, address octets)
abbrev pub address_of : ℕ → ℕ
address_of octet = octet % 128

-- the global address, which addresses all stations (IEC 61158-4-3, address octets)
abbrev pub global_address : ℕ
global_address = 127

-- a station may have every address below the global one (IEC 61158-4-3, address octets)
abbrev pub is_station : ℕ → Bool
is_station address = nat_lt address global_address

-- the source address of a frame that has one: a token or a telegram
abbrev pub source_of : Frame → Option ℕ
source_of (frames.Token da sa) = Some (address_of sa)
source_of frames.Ack = None
source_of (frames.Telegram telegram) = Some (address_of telegram.sa)

-- bit 7 announces an extension octet at the front of the data unit (IEC 61158-4-3, address extension)
abbrev pub announces : ℕ → Bool
announces octet = nat_le 128 octet

-- an extension octet is plain if its bits 7 and 6 are 0; then it is the point's number (own)
abbrev pub is_plain : ℕ → Bool
is_plain octet = nat_lt octet 64

-- the telegram has these points and this payload: DSAP first, then SSAP, each exactly if its address octet announces it
pub record HasParts (telegram : Telegram) (parts : Parts) : Type 0 where
  pub octets : telegram.du.items ≡ option_to_list parts.dsap ++ option_to_list parts.ssap ++ parts.payload.items
  pub dsap : is_some parts.dsap ≡ announces telegram.da
  pub ssap : is_some parts.ssap ≡ announces telegram.sa
  pub plain_dsap : IfSome parts.dsap (λ point. is_plain point ≡ true)
  pub plain_ssap : IfSome parts.ssap (λ point. is_plain point ≡ true)

-- the point at the front of the octets, if one is announced, and what follows it; None if it is missing or not plain
abbrev pub extension_of : Bool → List ℕ → Option (Option ℕ × List ℕ)
extension_of false octets = Some (None, octets)
extension_of true [] = None
extension_of true (octet ∷ octets) = if is_plain octet then Some (Some octet, octets) else None

-- points and payload, DSAP before SSAP
abbrev pub parts_of : Telegram → Option Parts
parts_of telegram =
    option_and_then
    (λ destination. option_and_then
    (λ source. Some (record { dsap = destination.0; ssap = source.0; payload = record { items = source.1 } }))
    (extension_of (announces telegram.sa) destination.1))
    (extension_of (announces telegram.da) telegram.du.items)

-- an address octet, with bit 7 set if a point is announced
abbrev pub address_octet : ℕ → Option ℕ → ℕ
address_octet address point = if is_some point then address + 128 else address

-- the telegram of a request
abbrev pub request_of : ℕ → ℕ → ℕ → Option ℕ → Option ℕ → List ℕ → Telegram
request_of da sa fc dsap ssap payload = record {
  da = address_octet da dsap;
  sa = address_octet sa ssap;
  fc = fc;
  du = record { items = option_to_list dsap ++ option_to_list ssap ++ payload };
}

-- the parts of a request
abbrev pub request_parts : Option ℕ → Option ℕ → List ℕ → Parts
request_parts dsap ssap payload = record { dsap = dsap; ssap = ssap; payload = record { items = payload } }
