-- detail
-- Reading a capture back (own): a reader cuts it into blocks by the lengths in it, and takes the telegrams of the packets.
use Rattle.std.specs.Prelude.{ℕ, zero, suc, ◌-◌, ◌==◌, ◌||◌, ◌≤◌, nat_lt, not, if◌then◌else◌, List, [], ◌∷◌, length, take, drop, Option, Some, None, option_and_then}
use Rattle.std.specs.Int.{w32, from_le_bytes}
use Rattle.std.specs.List.{flat_map}
use Rattle.std.specs.Option.{option_map}
use Rattle.capture_texts.specs.Blocks.{Block, block_body, block_kind, interface, packet, section}

-- ---- cutting

-- a block as a reader finds it: its type and its body
pub record Framed : Type 0 where
  pub kind : ℕ
  pub body : List ℕ

-- the number in the first 4 octets
unfoldable pub number_at : List ℕ → ℕ
number_at octets = from_le_bytes w32 (take 4 octets)

-- the block of this length at the front of octets, and the octets after it; None if the length is too small, if octets are missing, or if the block
-- doesn't end with its length
abbrev pub cut_of : ℕ → List ℕ → Option (Framed × List ℕ)
cut_of size octets =
    if nat_lt size 12 || nat_lt (length octets) size || not (number_at (drop (size - 4) octets) == size) then None
    else Some (record { kind = number_at octets; body = take (size - 12) (drop 8 octets) }, drop size octets)

-- the length is in octets 5 to 8
unfoldable pub first_block : List ℕ → Option (Framed × List ℕ)
first_block octets = cut_of (number_at (drop 4 octets)) octets

-- the blocks that octets, of at most this number, are
abbrev pub blocks_within : ℕ → List ℕ → Option (List Framed)
blocks_within most [] = Some []
blocks_within zero (octet ∷ octets) = None
blocks_within (suc most) (octet ∷ octets) =
    option_and_then (λ first. option_map (λ others. first.0 ∷ others) (blocks_within most first.1)) (first_block (octet ∷ octets))

abbrev pub blocks_in : List ℕ → Option (List Framed)
blocks_in octets = blocks_within (length octets) octets

-- ---- telegrams

-- the telegram of a packet: behind the 20 octets at the front of its body lie as many octets as are captured, and the first 12 of them are tags
unfoldable pub telegram_of : List ℕ → List ℕ
telegram_of body = drop 12 (take (number_at (drop 12 body)) (drop 20 body))

-- the telegrams of the packets, in order; a packet has type 6
abbrev pub telegram_if_packet : Framed → List (List ℕ)
telegram_if_packet block = if block.kind == 6 then telegram_of block.body ∷ [] else []

abbrev pub telegrams_in : List Framed → List (List ℕ)
telegrams_in blocks = flat_map telegram_if_packet blocks

-- ---- what is read

-- a block, as a reader is to find it
abbrev pub framed_block : Block → Framed
framed_block block = record { kind = block_kind block; body = block_body block }

-- the telegrams of blocks, in order
abbrev pub telegrams_of : Block → List (List ℕ)
telegrams_of (section comment) = []
telegrams_of (interface name) = []
telegrams_of (packet sent) = sent.telegram ∷ []

abbrev pub telegrams : List Block → List (List ℕ)
telegrams blocks = flat_map telegrams_of blocks

-- the parts that blocks have by their makers: nothing longer than an option can be
abbrev pub IsWithinLimits : Block → Type 0
IsWithinLimits (section comment) = length comment ≤ 65535
IsWithinLimits (interface name) = length name ≤ 65535
IsWithinLimits (packet sent) = length sent.telegram ≤ 65535
