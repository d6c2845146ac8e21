-- promise
-- The telegram of a reply with data.
use Rattle.std.specs.Prelude.{◌++◌, option_to_list}
use Rattle.dp_telegram.specs.declared.frame.Telegram.{Telegram}
use Rattle.dp_telegram.specs.declared.encoding.DataReply.{DataReply}

-- the source point comes first, then the destination point (IEC 61158-4-3, address extension)
abbrev pub reply_telegram : DataReply → Telegram
reply_telegram reply = record {
  da = reply.da;
  sa = reply.sa;
  fc = reply.fc;
  du = record { items = option_to_list reply.ssap ++ option_to_list reply.dsap ++ reply.data.now };
}
