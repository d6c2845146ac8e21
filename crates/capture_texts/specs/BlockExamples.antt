-- helper
-- Worked examples: blocks to the octet.
use Rattle.std.specs.Prelude.{codes, ◌≡◌, refl, [], ◌∷◌}
use Rattle.capture_texts.specs.declared.packet.Direction.TheVariants.{Outbound}
use Rattle.capture_texts.specs.Blocks.{block_octets, end_of_options, flags_option, four, framed, interface, interface_body, option_octets, packet, packet_body, packet_data, packet_head, padded, padding, section, section_body, size_octets, time_octets, two}

-- no zero follows 4 octets, and one follows 3
pub four_octets : padded (1 ∷ 2 ∷ 3 ∷ 4 ∷ []) ≡ 1 ∷ 2 ∷ 3 ∷ 4 ∷ []
unfolding padded padding
four_octets = refl

pub three_octets : padded (1 ∷ 2 ∷ 3 ∷ []) ≡ 1 ∷ 2 ∷ 3 ∷ 0 ∷ []
unfolding padded padding
three_octets = refl

pub no_octets : padded [] ≡ []
unfolding padded padding
no_octets = refl

pub a_section : block_octets (section (codes "time"))
    ≡ 0x0A ∷ 0x0D ∷ 0x0D ∷ 0x0A ∷ 0x28 ∷ 0 ∷ 0 ∷ 0
    ∷ 0x4D ∷ 0x3C ∷ 0x2B ∷ 0x1A ∷ 1 ∷ 0 ∷ 0 ∷ 0 ∷ 0xFF ∷ 0xFF ∷ 0xFF ∷ 0xFF ∷ 0xFF ∷ 0xFF ∷ 0xFF ∷ 0xFF
    ∷ 1 ∷ 0 ∷ 4 ∷ 0 ∷ 0x74 ∷ 0x69 ∷ 0x6D ∷ 0x65 ∷ 0 ∷ 0 ∷ 0 ∷ 0
    ∷ 0x28 ∷ 0 ∷ 0 ∷ 0 ∷ []
unfolding framed section_body option_octets padded padding end_of_options four two
a_section = refl

pub an_interface : block_octets (interface (codes "line 1"))
    ≡ 1 ∷ 0 ∷ 0 ∷ 0 ∷ 0x2C ∷ 0 ∷ 0 ∷ 0
    ∷ 0xFC ∷ 0 ∷ 0 ∷ 0 ∷ 0 ∷ 0 ∷ 0 ∷ 0
    ∷ 2 ∷ 0 ∷ 6 ∷ 0 ∷ 0x6C ∷ 0x69 ∷ 0x6E ∷ 0x65 ∷ 0x20 ∷ 0x31 ∷ 0 ∷ 0
    ∷ 9 ∷ 0 ∷ 1 ∷ 0 ∷ 6 ∷ 0 ∷ 0 ∷ 0 ∷ 0 ∷ 0 ∷ 0 ∷ 0
    ∷ 0x2C ∷ 0 ∷ 0 ∷ 0 ∷ []
unfolding framed interface_body option_octets padded padding end_of_options four two
an_interface = refl

-- a short acknowledgement on the second interface, 2^32 + 3 microseconds after the start
pub a_packet : block_octets (packet (record { interface = 1; time = 4294967299; direction = Outbound; telegram = 0xE5 ∷ []; comment = codes "hello" }))
    ≡ 6 ∷ 0 ∷ 0 ∷ 0 ∷ 0x48 ∷ 0 ∷ 0 ∷ 0
    ∷ 1 ∷ 0 ∷ 0 ∷ 0 ∷ 1 ∷ 0 ∷ 0 ∷ 0 ∷ 3 ∷ 0 ∷ 0 ∷ 0 ∷ 13 ∷ 0 ∷ 0 ∷ 0 ∷ 13 ∷ 0 ∷ 0 ∷ 0
    ∷ 0 ∷ 12 ∷ 0 ∷ 4 ∷ 0x66 ∷ 0x64 ∷ 0x6C ∷ 0 ∷ 0 ∷ 0 ∷ 0 ∷ 0 ∷ 0xE5 ∷ 0 ∷ 0 ∷ 0
    ∷ 1 ∷ 0 ∷ 5 ∷ 0 ∷ 0x68 ∷ 0x65 ∷ 0x6C ∷ 0x6C ∷ 0x6F ∷ 0 ∷ 0 ∷ 0
    ∷ 2 ∷ 0 ∷ 4 ∷ 0 ∷ 2 ∷ 0 ∷ 0 ∷ 0 ∷ 0 ∷ 0 ∷ 0 ∷ 0
    ∷ 0x48 ∷ 0 ∷ 0 ∷ 0 ∷ []
unfolding framed packet_body flags_option packet_head time_octets size_octets packet_data option_octets padded padding end_of_options four two
a_packet = refl
