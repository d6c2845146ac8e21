-- The lengths of the parts of a block.
use Rattle.std.proofs.Common.{◌≡◌, ℕ, ◌+◌, ◌-◌, ◌%◌, ◌≤◌, ◌<◌, min, List, [], ◌∷◌, ◌++◌, length, take, refl, arith, length-append, length-take}
use Rattle.std.specs.Prelude.{replicate}
use Rattle.std.proofs.lemmas.List.{length-replicate, take-replicate, take_min}
use Rattle.capture_texts.specs.declared.packet.Direction.{Direction}
use Rattle.capture_texts.specs.Blocks.{PacketView, comment_kept, direction_flags, end_of_options, flags_option, interface_body, packet_body, packet_data, packet_head, section_body, size_octets, time_octets, four, option_octets, padded, padding, pdu_tags, two}

pub length_two : (number : ℕ) → length (two number) ≡ 2
unfolding two
length_two number = refl

pub length_four : (number : ℕ) → length (four number) ≡ 4
unfolding four
length_four number = refl

few_zeros : (n : ℕ) → (4 - n % 4) % 4 ≤ 3
few_zeros n = omega arith

pub zeros_are : (n : ℕ) → take {A = ℕ} ((4 - n % 4) % 4) (0 ∷ 0 ∷ 0 ∷ []) ≡ replicate ((4 - n % 4) % 4) 0
zeros_are n = take-replicate ((4 - n % 4) % 4) 3 0 (few_zeros n)

pub length_padding : (count : ℕ) → length (padding count) ≡ (4 - count % 4) % 4
unfolding padding
length_padding count = length-replicate ((4 - count % 4) % 4) 0

pub padding_fits : (count : ℕ) → length (padding count) ≤ 3
padding_fits count = omega (arith, length_padding count, few_zeros count)

pub padded_fits : (octets : List ℕ) → length (padded octets) ≤ length octets + 3
unfolding padded
padded_fits octets = omega (arith, length-append octets (padding (length octets)), length_padding (length octets), few_zeros (length octets))

pub option_fits : (code : ℕ) (value : List ℕ) → length (option_octets code value) ≤ length value + 7
unfolding option_octets
option_fits code value =
    omega (arith, length-append (two code ++ two (length value)) (padded value), length-append (two code) (two (length value)), length_two code, length_two (length value), padded_fits value)

pub length_data : (telegram : List ℕ) → length (packet_data telegram) ≡ 12 + length telegram
unfolding packet_data
length_data telegram = length-append pdu_tags telegram

-- ---- a comment

pub comment_is : (comment : List ℕ) → take (min 65535 (length comment)) comment ≡ comment_kept comment
comment_is comment = take_min 65535 comment

kept_fits : (comment : List ℕ) → length (comment_kept comment) ≤ 65535
kept_fits comment = omega (arith, length-take 65535 comment)

-- ---- the bodies

length_end : length end_of_options ≡ 4
unfolding end_of_options two
length_end = refl

pub section_fits : (comment : List ℕ) → length comment ≤ 65535 → length (section_body comment) < 262144
unfolding section_body
section_fits comment few = grind (arith, length-append, length_two, length_four, option_fits, length_end)

pub interface_fits : (name : List ℕ) → length name ≤ 65535 → length (interface_body name) < 262144
unfolding interface_body
interface_fits name few = grind (arith, length-append, length_two, length_four, option_fits, length_end)

length_head : (sent : PacketView) → length (packet_head sent) ≡ 20
unfolding packet_head time_octets size_octets
length_head sent = grind (arith, length-append, length_four)

flags_fit : (direction : Direction) → length (flags_option direction) ≤ 11
unfolding flags_option
flags_fit direction = omega (arith, option_fits 2 (four (direction_flags direction)), length_four (direction_flags direction))

parts_fit : (head octets comment flags : List ℕ) → length head ≡ 20 → length octets ≤ 65535 → length comment ≤ 65535 → length flags ≤ 11
    → length (head ++ padded (packet_data octets) ++ option_octets 1 comment ++ flags ++ end_of_options) < 262144
parts_fit head octets comment flags a b c d =
    let captured = packet_data octets in
    let first = head ++ padded captured in
    let second = first ++ option_octets 1 comment in
    let third = second ++ flags in
    omega (
      arith,
      a,
      b,
      c,
      d,
      length-append third end_of_options,
      length-append second flags,
      length-append first (option_octets 1 comment),
      length-append head (padded captured),
      padded_fits captured,
      length_data octets,
      option_fits 1 comment,
      length_end,
    )

pub packet_fits : (sent : PacketView) → length sent.telegram ≤ 65535 → length (packet_body sent) < 262144
unfolding packet_body
packet_fits sent few =
    parts_fit (packet_head sent) sent.telegram (comment_kept sent.comment) (flags_option sent.direction) (length_head sent) few (kept_fits sent.comment) (flags_fit sent.direction)
