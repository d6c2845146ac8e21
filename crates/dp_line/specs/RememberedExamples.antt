-- helper
-- What slave 5, with two octets of outputs and two of inputs, can remember as its reply to master 1.
use Rattle.std.specs.Prelude.{◌≡◌, [], ◌∷◌, true, false, refl}
use Rattle.dp_slave.specs.SlaveExamples.{slave_5}
use Rattle.dp_line.specs.RememberedReplies.{is_reply_of}

-- the short acknowledgement, and a Data_Exchange with data high and two inputs
pub acknowledgement : is_reply_of 1 slave_5 (0xE5 ∷ []) ≡ true
acknowledgement = refl

pub two_inputs : is_reply_of 1 slave_5 (0x68 ∷ 0x05 ∷ 0x05 ∷ 0x68 ∷ 0x01 ∷ 0x05 ∷ 0x0A ∷ 0xAA ∷ 0x54 ∷ 0x0E ∷ 0x16 ∷ []) ≡ true
two_inputs = refl

-- a refusal is one; none is a reply to another master, one with another number of inputs, the FDL status, or a request
pub to_another_master : is_reply_of 2 slave_5 (0x68 ∷ 0x05 ∷ 0x05 ∷ 0x68 ∷ 0x01 ∷ 0x05 ∷ 0x0A ∷ 0xAA ∷ 0x54 ∷ 0x0E ∷ 0x16 ∷ []) ≡ false
to_another_master = refl

pub three_inputs : is_reply_of 1 slave_5 (0x68 ∷ 0x06 ∷ 0x06 ∷ 0x68 ∷ 0x01 ∷ 0x05 ∷ 0x0A ∷ 0xAA ∷ 0x54 ∷ 0x00 ∷ 0x0E ∷ 0x16 ∷ []) ≡ false
three_inputs = refl

pub status : is_reply_of 1 slave_5 (0x10 ∷ 0x01 ∷ 0x05 ∷ 0x00 ∷ 0x06 ∷ 0x16 ∷ []) ≡ false
status = refl

pub refusal : is_reply_of 1 slave_5 (0x10 ∷ 0x01 ∷ 0x05 ∷ 0x03 ∷ 0x09 ∷ 0x16 ∷ []) ≡ true
refusal = refl

pub request : is_reply_of 1 slave_5 (0x10 ∷ 0x01 ∷ 0x05 ∷ 0x6D ∷ 0x73 ∷ 0x16 ∷ []) ≡ false
request = refl
