-- detail
-- The blocks of a capture file and their octets (pcapng, "PCAP Next Generation Capture File Format", little-endian)
use Rattle.std.specs.Prelude.{ℕ, ◌+◌, ◌-◌, ◌/◌, ◌%◌, ◌^◌, List, [], ◌∷◌, ◌++◌, length, replicate, take}
use Rattle.std.specs.Int.{w16, w32, to_le_bytes}
use Rattle.std.specs.List.{flat_map}
use Rattle.capture_texts.specs.declared.packet.Direction.{Direction}
use Rattle.capture_texts.specs.declared.packet.Direction.TheVariants.{Inbound, Outbound, Unknown}

-- ---- parts of a block

-- a number in 2 or in 4 octets, the low one first
unfoldable pub two : ℕ → List ℕ
two number = to_le_bytes w16 number

unfoldable pub four : ℕ → List ℕ
four number = to_le_bytes w32 number

-- the zeros that follow this number of octets, up to a multiple of 4
unfoldable pub padding : ℕ → List ℕ
padding count = replicate ((4 - count % 4) % 4) 0

unfoldable pub padded : List ℕ → List ℕ
padded octets = octets ++ padding (length octets)

-- an option: its code, the number of octets of its value, and the value, which is padded (Options)
unfoldable pub option_octets : ℕ → List ℕ → List ℕ
option_octets code value = two code ++ two (length value) ++ padded value

-- opt_endofopt, which ends the options
unfoldable pub end_of_options : List ℕ
end_of_options = two 0 ++ two 0

-- opt_comment
abbrev pub comment_option : List ℕ → List ℕ
comment_option comment = option_octets 1 comment

-- a block: its type, its length, its body, and its length again (General Block Structure)
unfoldable pub framed : ℕ → List ℕ → List ℕ
framed kind body = four kind ++ four (length body + 12) ++ body ++ four (length body + 12)

-- ---- the bodies

-- Section Header Block: the number by which a reader finds the order of the octets, version 1.0, an unknown length, and a comment
unfoldable pub section_body : List ℕ → List ℕ
section_body comment =
    four 0x1A2B3C4D ++ two 1 ++ two 0 ++ four 0xFFFFFFFF ++ four 0xFFFFFFFF ++ comment_option comment ++ end_of_options

-- Interface Description Block: link type 252 (LINKTYPE_WIRESHARK_UPPER_PDU), 2 reserved octets, no limit of the captured octets, the name
-- (if_name), and times in microseconds (if_tsresol)
unfoldable pub interface_body : List ℕ → List ℕ
interface_body name = two 252 ++ two 0 ++ four 0 ++ option_octets 2 name ++ option_octets 9 (6 ∷ []) ++ end_of_options

-- the flags of a packet (epb_flags, bits 0 and 1): inbound 1, outbound 2, 0 if there is no direction
abbrev pub direction_flags : Direction → ℕ
direction_flags Inbound = 1
direction_flags Outbound = 2
direction_flags Unknown = 0

unfoldable pub flags_option : Direction → List ℕ
flags_option direction = option_octets 2 (four (direction_flags direction))

-- the tags of an exported PDU: that of a dissector's name, 12, with 4 octets, `fdl` and a zero; then the end of the tags. Their numbers are
-- in big-endian order (Wireshark, exported_pdu_tlvs.h)
abbrev pub pdu_tags : List ℕ
pdu_tags = 0 ∷ 12 ∷ 0 ∷ 4 ∷ 102 ∷ 100 ∷ 108 ∷ 0 ∷ 0 ∷ 0 ∷ 0 ∷ 0 ∷ []

-- a packet: the number of its interface, its time in microseconds, its direction, the octets of its telegram, and its comment
pub record PacketView : Type 0 where
  pub interface : ℕ
  pub time : ℕ
  pub direction : Direction
  pub telegram : List ℕ
  pub comment : List ℕ

-- the octets that are captured: the tags and then the telegram
unfoldable pub packet_data : List ℕ → List ℕ
packet_data telegram = pdu_tags ++ telegram

-- as much of a comment as an option can have
abbrev pub comment_kept : List ℕ → List ℕ
comment_kept comment = take 65535 comment

-- Enhanced Packet Block: the interface; the time, its upper 32 bits first; how many octets are captured, and how many the packet has; the
-- octets, padded; the comment; and the flags
unfoldable pub time_octets : ℕ → List ℕ
time_octets time = four (time / 2 ^ 32) ++ four (time % 2 ^ 32)

unfoldable pub size_octets : ℕ → List ℕ
size_octets size = four size ++ four size

unfoldable pub packet_head : PacketView → List ℕ
packet_head packet = four packet.interface ++ time_octets packet.time ++ size_octets (length (packet_data packet.telegram))

unfoldable pub packet_body : PacketView → List ℕ
packet_body packet =
    packet_head packet ++ padded (packet_data packet.telegram)
    ++ comment_option (comment_kept packet.comment) ++ flags_option packet.direction ++ end_of_options

-- ---- the blocks

pub data Block : Type 0 where
  section : List ℕ → Block
  interface : List ℕ → Block
  packet : PacketView → Block

abbrev pub block_kind : Block → ℕ
block_kind (section comment) = 0x0A0D0D0A
block_kind (interface name) = 1
block_kind (packet sent) = 6

abbrev pub block_body : Block → List ℕ
block_body (section comment) = section_body comment
block_body (interface name) = interface_body name
block_body (packet sent) = packet_body sent

abbrev pub block_octets : Block → List ℕ
block_octets block = framed (block_kind block) (block_body block)

-- the octets of a capture of these blocks
abbrev pub capture_octets : List Block → List ℕ
capture_octets blocks = flat_map block_octets blocks
