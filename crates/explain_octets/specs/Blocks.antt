-- detail
-- The blocks of an extended diagnosis, in words (IEC 61158-6-3, Ext_Diag_Data).
use Rattle.std.specs.Prelude.{codes, ℕ, zero, suc, ◌*◌, ◌/◌, ◌%◌, ◌==◌, nat_lt, Bool, if◌then◌else◌, List, [], ◌∷◌, ◌++◌, filter, length, take, drop, slice_index, Option, Some, None, option_and_then}
use Rattle.std.specs.Fmt.{decimal}
use Rattle.std.specs.List.{join_by, range_with_len}
use Rattle.std.specs.Option.{option_map}
use Rattle.dp_cfg.specs.Identifiers.{bits_5_0, bits_7_6}
use Rattle.dp_telegram.specs.FunctionCode.{is_set}
use Rattle.explain_octets.specs.Words.{hex_text, text_in}

-- ---- octets cut into blocks

-- a block: its first octet, and the octets after that
pub record Block : Type 0 where
  pub head : ℕ
  pub octets : List ℕ

abbrev pub block : ℕ → List ℕ → Block
block head octets = record { head = head; octets = octets }

-- the size of a block, its head included, by bits 7 and 6 of the head: 00 is a device block, 01 an identifier block, 10 a channel block, 11 a revision
-- block (IEC 61158-6-3, Header_Octet)
abbrev pub block_size : ℕ → ℕ
block_size head =
    if bits_7_6 head == 0 then bits_5_0 head
    else if bits_7_6 head == 1 then bits_5_0 head
    else if bits_7_6 head == 2 then 3
    else 1

-- the block of this size and with this head, and the octets after it; None if the size is 0, or if the block is cut off
abbrev pub block_at : ℕ → ℕ → List ℕ → Option (Block × List ℕ)
block_at zero head rest = None
block_at (suc count) head rest =
    if nat_lt (length rest) count then None else Some (block head (take count rest), drop count rest)

-- the first block, and the octets after it
abbrev pub first_block : List ℕ → Option (Block × List ℕ)
first_block [] = None
first_block (head ∷ rest) = block_at (block_size head) head rest

-- the blocks of octets of at most this length
abbrev pub blocks_within : ℕ → List ℕ → Option (List Block)
blocks_within most [] = Some []
blocks_within zero (head ∷ rest) = None
blocks_within (suc most) (head ∷ rest) =
    option_and_then (λ first. option_map (λ others. first.0 ∷ others) (blocks_within most first.1)) (first_block (head ∷ rest))

-- the blocks that octets are, one after another; None if the octets don't have this form
unfoldable pub blocks_of : List ℕ → Option (List Block)
blocks_of octets = blocks_within (length octets) octets

-- ---- a device block: octets whose meaning the device defines (IEC 61158-6-3, device related diagnosis)

abbrev pub device_text : List ℕ → List ℕ
device_text [] = codes "device"
device_text (octet ∷ octets) = codes "device " ++ hex_text (octet ∷ octets)

-- ---- an identifier block: a bit for each identifier that has a diagnosis (IEC 61158-6-3, identifier related diagnosis)

-- the bit with a number is 1: bit 0 of the first octet has the number 0, and bit 0 of the second octet the number 8
abbrev pub is_set_in : List ℕ → ℕ → Bool
is_set_in octets number = is_set (number % 8) (slice_index octets (number / 8))

-- the numbers of the bits that are 1
abbrev pub set_bits : List ℕ → List ℕ
set_bits octets = filter (is_set_in octets) (range_with_len 0 (length octets * 8))

abbrev pub identifiers_word : List ℕ → List ℕ
identifiers_word [] = codes "no identifier"
identifiers_word (number ∷ []) = codes "identifier "
identifiers_word (number ∷ next ∷ others) = codes "identifiers "

abbrev pub identifiers_text : List ℕ → List ℕ
identifiers_text numbers = identifiers_word numbers ++ join_by decimal (codes ", ") numbers

-- ---- a channel block: three octets about one channel of an identifier (IEC 61158-6-3, channel related diagnosis)

-- bits 7 and 6 of the second octet
abbrev pub directions : List (ℕ × List ℕ)
directions = (1, codes "input") ∷ (2, codes "output") ∷ (3, codes "input and output") ∷ []

-- bits 7 to 5 of the third octet
abbrev pub bits_7_5 : ℕ → ℕ
bits_7_5 octet = octet / 32 % 8

abbrev pub channel_types : List (ℕ × List ℕ)
channel_types =
    (1, codes "1 bit")
    ∷ (2, codes "2 bits")
    ∷ (3, codes "4 bits")
    ∷ (4, codes "1 octet")
    ∷ (5, codes "1 word")
    ∷ (6, codes "2 words")
    ∷ []

-- bits 4 to 0 of the third octet
abbrev pub bits_4_0 : ℕ → ℕ
bits_4_0 octet = octet % 32

abbrev pub channel_errors : List (ℕ × List ℕ)
channel_errors =
    (1, codes "short circuit")
    ∷ (2, codes "undervoltage")
    ∷ (3, codes "overvoltage")
    ∷ (4, codes "overload")
    ∷ (5, codes "overtemperature")
    ∷ (6, codes "line break")
    ∷ (7, codes "upper limit exceeded")
    ∷ (8, codes "lower limit exceeded")
    ∷ (9, codes "error")
    ∷ []

-- the direction and the type of a channel, of which the tables may have neither
abbrev pub channel_data : Option (List ℕ) → Option (List ℕ) → List ℕ
channel_data None None = []
channel_data None (Some size) = codes " (" ++ size ++ codes ")"
channel_data (Some direction) None = codes " (" ++ direction ++ codes ")"
channel_data (Some direction) (Some size) = codes " (" ++ direction ++ codes ", " ++ size ++ codes ")"

-- an error by its name; one that the table doesn't have by its number
abbrev pub named_error : Option (List ℕ) → ℕ → List ℕ
named_error None number = codes "error " ++ decimal number
named_error (Some name) number = name

abbrev pub error_text : ℕ → List ℕ
error_text number = named_error (text_in channel_errors number) number

-- the three octets of a channel block
unfoldable pub channel_text : ℕ → ℕ → ℕ → List ℕ
channel_text head second third =
    codes "channel " ++ decimal (bits_5_0 second) ++ codes " of identifier " ++ decimal (bits_5_0 head)
    ++ channel_data (text_in directions (bits_7_6 second)) (text_in channel_types (bits_7_5 third))
    ++ codes ": " ++ error_text (bits_4_0 third)

-- ---- all blocks

-- a block; a revision block is one number (IEC 61158-6-3, Revision_Number)
unfoldable pub block_text : Block → List ℕ
block_text block =
    if bits_7_6 block.head == 0 then device_text block.octets
    else if bits_7_6 block.head == 1 then identifiers_text (set_bits block.octets)
    else if bits_7_6 block.head == 2 then channel_text block.head (slice_index block.octets 0) (slice_index block.octets 1)
    else codes "revision " ++ decimal (bits_5_0 block.head)

-- blocks, after a space and in parentheses; nothing if octets don't have the form of blocks (own)
abbrev pub blocks_text : Option (List Block) → List ℕ
blocks_text None = []
blocks_text (Some blocks) = codes " (" ++ join_by block_text (codes "; ") blocks ++ codes ")"
