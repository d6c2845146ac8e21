-- helper
-- Examples of blocks of an extended diagnosis, and of their texts.
use Rattle.std.specs.Prelude.{◌≡◌, codes, [], ◌∷◌, Some, None, refl}
use Rattle.std.specs.Fmt.{digits}
use Rattle.explain_octets.specs.Blocks.{block, block_text, blocks_of, channel_text}
use Rattle.explain_octets.specs.Diagnoses.{extended_text}

-- ---- cutting

pub no_octets : blocks_of [] ≡ Some []
unfolding blocks_of
no_octets = refl

-- a block of each kind
pub each_kind : blocks_of (0x03 ∷ 0x01 ∷ 0xFF ∷ 0x42 ∷ 0x05 ∷ 0x81 ∷ 0x42 ∷ 0xA6 ∷ 0xC7 ∷ []) ≡ Some (block 0x03 (0x01 ∷ 0xFF ∷ []) ∷ block 0x42 (0x05 ∷ []) ∷ block 0x81 (0x42 ∷ 0xA6 ∷ []) ∷ block 0xC7 [] ∷ [])
unfolding blocks_of
each_kind = refl

-- blocks of the head alone
pub heads_alone : blocks_of (0x01 ∷ 0x41 ∷ []) ≡ Some (block 0x01 [] ∷ block 0x41 [] ∷ [])
unfolding blocks_of
heads_alone = refl

-- a size of 0
pub device_block_of_size_0 : blocks_of (0x00 ∷ []) ≡ None
unfolding blocks_of
device_block_of_size_0 = refl

pub identifier_block_of_size_0 : blocks_of (0x40 ∷ 0x05 ∷ []) ≡ None
unfolding blocks_of
identifier_block_of_size_0 = refl

-- a block that is cut off, also after a whole one
pub device_block_is_cut_off : blocks_of (0x03 ∷ 0x01 ∷ []) ≡ None
unfolding blocks_of
device_block_is_cut_off = refl

pub identifier_block_is_cut_off : blocks_of (0x43 ∷ 0x05 ∷ []) ≡ None
unfolding blocks_of
identifier_block_is_cut_off = refl

pub channel_block_is_cut_off : blocks_of (0x81 ∷ 0x42 ∷ []) ≡ None
unfolding blocks_of
channel_block_is_cut_off = refl

pub second_block_is_cut_off : blocks_of (0x42 ∷ 0x05 ∷ 0x81 ∷ 0x42 ∷ []) ≡ None
unfolding blocks_of
second_block_is_cut_off = refl

-- ---- a block

pub device_with_octets : block_text (block 0x03 (0x01 ∷ 0xFF ∷ [])) ≡ codes "device 01 ff"
unfolding block_text channel_text digits
device_with_octets = refl

pub device_without_octets : block_text (block 0x01 ([])) ≡ codes "device"
unfolding block_text channel_text digits
device_without_octets = refl

pub two_identifiers : block_text (block 0x42 (0x05 ∷ [])) ≡ codes "identifiers 0, 2"
unfolding block_text channel_text digits
two_identifiers = refl

pub identifier_of_the_second_octet : block_text (block 0x43 (0x00 ∷ 0x01 ∷ [])) ≡ codes "identifier 8"
unfolding block_text channel_text digits
identifier_of_the_second_octet = refl

pub identifiers_of_two_octets : block_text (block 0x43 (0x81 ∷ 0x80 ∷ [])) ≡ codes "identifiers 0, 7, 15"
unfolding block_text channel_text digits
identifiers_of_two_octets = refl

pub no_bit_is_1 : block_text (block 0x43 (0x00 ∷ 0x00 ∷ [])) ≡ codes "no identifier"
unfolding block_text channel_text digits
no_bit_is_1 = refl

pub no_octet_of_bits : block_text (block 0x41 ([])) ≡ codes "no identifier"
unfolding block_text channel_text digits
no_octet_of_bits = refl

pub line_break : block_text (block 0x81 (0x42 ∷ 0xA6 ∷ [])) ≡ codes "channel 2 of identifier 1 (input, 1 word): line break"
unfolding block_text channel_text digits
line_break = refl

-- directions, types and errors
pub short_circuit : block_text (block 0x80 (0x80 ∷ 0x21 ∷ [])) ≡ codes "channel 0 of identifier 0 (output, 1 bit): short circuit"
unfolding block_text channel_text digits
short_circuit = refl

pub undervoltage : block_text (block 0xBF (0xFF ∷ 0x42 ∷ [])) ≡ codes "channel 63 of identifier 63 (input and output, 2 bits): undervoltage"
unfolding block_text channel_text digits
undervoltage = refl

pub overvoltage : block_text (block 0x81 (0x42 ∷ 0x63 ∷ [])) ≡ codes "channel 2 of identifier 1 (input, 4 bits): overvoltage"
unfolding block_text channel_text digits
overvoltage = refl

pub overload : block_text (block 0x81 (0x42 ∷ 0x84 ∷ [])) ≡ codes "channel 2 of identifier 1 (input, 1 octet): overload"
unfolding block_text channel_text digits
overload = refl

pub overtemperature : block_text (block 0x81 (0x42 ∷ 0xC5 ∷ [])) ≡ codes "channel 2 of identifier 1 (input, 2 words): overtemperature"
unfolding block_text channel_text digits
overtemperature = refl

pub upper_limit : block_text (block 0x81 (0x42 ∷ 0xA7 ∷ [])) ≡ codes "channel 2 of identifier 1 (input, 1 word): upper limit exceeded"
unfolding block_text channel_text digits
upper_limit = refl

pub lower_limit : block_text (block 0x81 (0x42 ∷ 0xA8 ∷ [])) ≡ codes "channel 2 of identifier 1 (input, 1 word): lower limit exceeded"
unfolding block_text channel_text digits
lower_limit = refl

pub error : block_text (block 0x81 (0x42 ∷ 0xA9 ∷ [])) ≡ codes "channel 2 of identifier 1 (input, 1 word): error"
unfolding block_text channel_text digits
error = refl

pub error_0 : block_text (block 0x81 (0x42 ∷ 0xA0 ∷ [])) ≡ codes "channel 2 of identifier 1 (input, 1 word): error 0"
unfolding block_text channel_text digits
error_0 = refl

pub error_31 : block_text (block 0x81 (0x42 ∷ 0xBF ∷ [])) ≡ codes "channel 2 of identifier 1 (input, 1 word): error 31"
unfolding block_text channel_text digits
error_31 = refl

-- a type that the table does not have, no direction, and neither
pub no_type : block_text (block 0x81 (0x42 ∷ 0x06 ∷ [])) ≡ codes "channel 2 of identifier 1 (input): line break"
unfolding block_text channel_text digits
no_type = refl

pub type_7 : block_text (block 0x81 (0x42 ∷ 0xE6 ∷ [])) ≡ codes "channel 2 of identifier 1 (input): line break"
unfolding block_text channel_text digits
type_7 = refl

pub no_direction : block_text (block 0x81 (0x02 ∷ 0xA6 ∷ [])) ≡ codes "channel 2 of identifier 1 (1 word): line break"
unfolding block_text channel_text digits
no_direction = refl

pub neither : block_text (block 0x81 (0x02 ∷ 0x06 ∷ [])) ≡ codes "channel 2 of identifier 1: line break"
unfolding block_text channel_text digits
neither = refl

pub revision : block_text (block 0xC7 ([])) ≡ codes "revision 7"
unfolding block_text channel_text digits
revision = refl

-- ---- the extended diagnosis

pub nothing : extended_text [] ≡ []
nothing = refl

pub one_block : extended_text (0x03 ∷ 0x01 ∷ 0xFF ∷ []) ≡ codes "; extended diagnosis 03 01 ff (device 01 ff)"
unfolding block_text blocks_of channel_text digits
one_block = refl

pub two_blocks : extended_text (0x42 ∷ 0x05 ∷ 0x81 ∷ 0x42 ∷ 0xA6 ∷ []) ≡ codes "; extended diagnosis 42 05 81 42 a6 (identifiers 0, 2; channel 2 of identifier 1 (input, 1 word): line break)"
unfolding block_text blocks_of channel_text digits
two_blocks = refl

-- octets that are not blocks
pub no_blocks : extended_text (0x42 ∷ 0x05 ∷ 0x81 ∷ 0x42 ∷ []) ≡ codes "; extended diagnosis 42 05 81 42"
unfolding block_text blocks_of channel_text digits
no_blocks = refl
