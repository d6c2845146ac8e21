-- promise
-- What a slave remembers of each master (own, but for the alternation of FCB: IEC 61158-4-3, frame count bit).
use Rattle.std.specs.Prelude.{ℕ, Bool, true, false, not, ◌&&◌, ◌||◌, ◌==◌, if◌then◌else◌, List, [], ◌∷◌, map, find, Option, Some, None, option_and_then}
use Rattle.dp_telegram.specs.FunctionCode.{function_of, asks_srd, frame_count_bit, frame_count_is_valid}

-- the last SRD of a master with FCV 1 or FCB 1 that was judged and was no repeat: its FCB, and the octets of the reply to it
pub record Remembered : Type 0 where
  pub fcb : Bool
  pub reply : List ℕ

-- a master of the line, and what is remembered of it, if anything is
pub record MasterMemory : Type 0 where
  pub master : ℕ
  pub last : Option Remembered

-- before any request nothing is remembered of these masters
abbrev pub no_memory : List ℕ → List MasterMemory
no_memory masters = map (λ master. record { master = master; last = None }) masters

-- what is remembered of a sender
abbrev pub remembered_of : List MasterMemory → ℕ → Option Remembered
remembered_of memory sender = option_and_then (λ m. m.last) (find (λ m. m.master == sender) memory)

-- what a request that was judged and was no repeat leaves of its sender's memory: an SRD is remembered with FCV 1, or with FCV 0 and FCB 1; with FCV
-- 0 and FCB 0 it empties the memory; SDN and every other function leave it unchanged
abbrev pub last_after : ℕ → List ℕ → Option Remembered → Option Remembered
last_after fc reply last =
    if not (asks_srd (function_of fc)) then last
    else if frame_count_is_valid fc || frame_count_bit fc then Some (record { fcb = frame_count_bit fc; reply = reply })
    else None

-- the memory of a master after a request of the sender: other masters' memories stay
abbrev pub master_after : ℕ → ℕ → List ℕ → MasterMemory → MasterMemory
master_after sender fc reply m = if m.master == sender then record m { last = last_after fc reply m.last } else m

abbrev pub with_remembered : List MasterMemory → ℕ → ℕ → List ℕ → List MasterMemory
with_remembered memory sender fc reply = map (master_after sender fc reply) memory

-- requests that were judged and were no repeats, one after another, with the replies to them
pub record JudgedRequest : Type 0 where
  pub sender : ℕ
  pub fc : ℕ
  pub reply : List ℕ

abbrev pub memory_after : List MasterMemory → List JudgedRequest → List MasterMemory
memory_after memory [] = memory
memory_after memory (request ∷ requests) = memory_after (with_remembered memory request.sender request.fc request.reply) requests

-- two bits are equal
abbrev pub same_bit : Bool → Bool → Bool
same_bit true bit = bit
same_bit false bit = not bit

-- a repeat: an SRD with FCV 1 whose FCB is the remembered one, whatever else it holds
abbrev pub is_repeat : Option Remembered → ℕ → Bool
is_repeat None fc = false
is_repeat (Some last) fc = asks_srd (function_of fc) && frame_count_is_valid fc && same_bit last.fcb (frame_count_bit fc)

-- the stored reply; no octets if nothing is remembered
abbrev pub kept_reply : Option Remembered → List ℕ
kept_reply None = []
kept_reply (Some last) = last.reply
