-- helper
-- Example streams, and the pieces that they are cut into.
use Rattle.std.specs.Prelude.{◌≡◌, [], ◌∷◌, None, refl}
use Rattle.dp_telegram.specs.declared.fault.FrameFault.TheVariants.{NoStart, BadHead, BadEnd}
use Rattle.dp_telegram.specs.declared.frame.Frame.TheVariants as frames
use Rattle.dp_telegram.specs.declared.cutter.Cut.TheVariants as pieces
use Rattle.dp_telegram.specs.Stream.{first_cut, cuts_of}

-- nothing, and a Slave_Diag request to slave 5 without its end delimiter
pub nothing_to_cut : first_cut [] ≡ None
nothing_to_cut = refl

pub end_has_not_come : first_cut (0x68 ∷ 0x05 ∷ 0x05 ∷ 0x68 ∷ 0x85 ∷ 0x81 ∷ 0x6D ∷ 0x3C ∷ 0x3E ∷ 0xED ∷ []) ≡ None
end_has_not_come = refl

-- LE and LEr that differ: only the start delimiter is dropped, then what starts no frame, and the other start delimiter is the rest
pub bad_head_drops_one : cuts_of (0x68 ∷ 0x05 ∷ 0x04 ∷ 0x68 ∷ []) ≡ record {
  cuts = pieces.Dropped BadHead 1 ∷ pieces.Dropped NoStart 1 ∷ pieces.Dropped NoStart 1 ∷ [];
  rest = 0x68 ∷ [];
}
bad_head_drops_one = refl

-- a wrong check sequence, and then an FDL status request
pub bad_end_drops_the_frame : cuts_of (0x68 ∷ 0x05 ∷ 0x05 ∷ 0x68 ∷ 0x05 ∷ 0x01 ∷ 0x5D ∷ 0x12 ∷ 0x34 ∷ 0xA8 ∷ 0x16 ∷ 0x10 ∷ 0x05 ∷ 0x01 ∷ 0x49 ∷ 0x4F ∷ 0x16 ∷ []) ≡ record {
  cuts = pieces.Dropped BadEnd 11
      ∷ pieces.Frame (frames.Telegram (record { da = 0x05; sa = 0x01; fc = 0x49; du = record { items = [] } })) (record { items = 0x10 ∷ 0x05 ∷ 0x01 ∷ 0x49 ∷ 0x4F ∷ 0x16 ∷ [] })
      ∷ [];
  rest = [];
}
bad_end_drops_the_frame = refl

-- a token, a short acknowledgement, and a token that lacks one octet
pub tokens : cuts_of (0xDC ∷ 0x02 ∷ 0x01 ∷ 0xE5 ∷ 0xDC ∷ 0x01 ∷ []) ≡ record {
  cuts = pieces.Frame (frames.Token 0x02 0x01) (record { items = 0xDC ∷ 0x02 ∷ 0x01 ∷ [] })
      ∷ pieces.Frame frames.Ack (record { items = 0xE5 ∷ [] })
      ∷ [];
  rest = 0xDC ∷ 0x01 ∷ [];
}
tokens = refl
