-- detail
-- What a slave can remember as its reply to a master (own). It only remembers replies to SRDs, so the FDL status is none of them.
use Rattle.std.specs.Prelude.{ℕ, ◌==◌, nat_le, Bool, true, false, not, ◌&&◌, ◌||◌, if◌then◌else◌, List, length, map, Option, Some, None}
use Rattle.std.specs.List.{list_all}
use Rattle.std.specs.Option.{option_map_or}
use Rattle.dp_telegram.specs.declared.frame.Telegram.{Telegram}
use Rattle.dp_telegram.specs.declared.frame.Frame.{Frame}
use Rattle.dp_telegram.specs.declared.frame.Frame.TheVariants as frames
use Rattle.dp_telegram.specs.declared.access.Parts.{Parts}
use Rattle.dp_telegram.specs.Access.{address_of, parts_of}
use Rattle.dp_telegram.specs.FrameText.{delimiter, frame_of, sd3}
use Rattle.dp_telegram.specs.FunctionCode.{data_high, data_low, no_resource, not_activated, user_error}
use Rattle.dp_sap.specs.AccessTable.{data_exchange, get_cfg, most_data, rd_inp, rd_outp, same_point, slave_diag}
use Rattle.dp_cfg.specs.Choosing.{same_octets}
use Rattle.dp_responder.specs.Memory.{MasterMemory, Remembered}
use Rattle.dp_slave.specs.declared.description.SlaveSpec.{SlaveSpec}
use Rattle.dp_slave.specs.Reachable.{has_configuration, has_inputs, has_outputs}

-- the function of a reply without data: a refusal; or data high, which shows that a diagnosis is due, from Data_Exchange of a configuration without
-- inputs (IEC 61158-4-3, function code of a response)
abbrev pub has_no_data : SlaveSpec → ℕ → Bool
has_no_data slave fc = fc == user_error || fc == no_resource || fc == not_activated || fc == data_high && has_inputs slave 0

-- the function of a reply with data from this point: data low, and from Data_Exchange also data high
abbrev pub has_data_function : ℕ → Option ℕ → Bool
has_data_function fc point = fc == data_low || fc == data_high && same_point point data_exchange

-- these can be the data of a reply from this point: from Data_Exchange and RD_Inp as many as a configuration of the slave has inputs, from RD_Outp as
-- many as one has outputs, from Get_Cfg the octets of one, from Slave_Diag at least the first six of a diagnosis; no other point answers with data
abbrev pub has_data_from : SlaveSpec → Option ℕ → List ℕ → Bool
has_data_from slave point octets =
    if same_point point data_exchange || same_point point rd_inp then has_inputs slave (length octets)
    else if same_point point rd_outp then has_outputs slave (length octets)
    else if same_point point get_cfg then has_configuration slave octets
    else same_point point slave_diag && nat_le 6 (length octets)

-- a reply with data names the point that it comes from as its source, and has 1 to 244 octets of data (IEC 61158-6-3, data unit)
abbrev pub has_data_parts : SlaveSpec → ℕ → Option Parts → Bool
has_data_parts slave fc None = false
has_data_parts slave fc (Some parts) =
    has_data_function fc parts.ssap && nat_le 1 (length parts.payload.items) && nat_le (length parts.payload.items) most_data
    && has_data_from slave parts.ssap parts.payload.items

-- a telegram from the slave to the master: without data unit, or with points and data
abbrev pub is_short_reply : ℕ → SlaveSpec → Telegram → Bool
is_short_reply master slave telegram = telegram.da == master && telegram.sa == slave.address && has_no_data slave telegram.fc

abbrev pub is_data_reply : ℕ → SlaveSpec → Telegram → Bool
is_data_reply master slave telegram =
    address_of telegram.da == master && address_of telegram.sa == slave.address && has_data_parts slave telegram.fc (parts_of telegram)

abbrev pub is_reply_telegram : ℕ → SlaveSpec → Telegram → Bool
is_reply_telegram master slave telegram =
    if length telegram.du.items == 0 then is_short_reply master slave telegram else is_data_reply master slave telegram

-- the octets are the short acknowledgement, or the text of such a telegram; no slave writes SD3 (IEC 61158-4-3, response telegrams)
abbrev pub is_reply_frame : ℕ → SlaveSpec → Option Frame → Bool
is_reply_frame master slave (Some frames.Ack) = true
is_reply_frame master slave (Some (frames.Telegram telegram)) = is_reply_telegram master slave telegram
is_reply_frame master slave other = false

abbrev pub is_reply_of : ℕ → SlaveSpec → List ℕ → Bool
is_reply_of master slave octets = not (delimiter octets == sd3) && is_reply_frame master slave (frame_of octets)

-- a slave of this description can remember that of the master
abbrev pub is_remembered : SlaveSpec → MasterMemory → Bool
is_remembered slave memory = option_map_or (λ (last : Remembered). is_reply_of memory.master slave last.reply) memory.last true

-- it remembers these masters, in their order, and each only as it can
abbrev pub is_memory_of : List ℕ → SlaveSpec → List MasterMemory → Bool
is_memory_of masters slave memory = same_octets (map (λ m. m.master) memory) masters && list_all (is_remembered slave) memory
