-- detail
-- The data of a request in words, as one row with its label (IEC 61158-6-3, service access points).
use Rattle.std.specs.Prelude.{codes, ℕ, ◌==◌, ◌&&◌, if◌then◌else◌, List, [], ◌∷◌, ◌++◌, length, Option, Some, None, option_and_then}
use Rattle.dp_telegram.specs.declared.access.Parts.{Parts}
use Rattle.dp_telegram.specs.declared.frame.Frame.{Frame}
use Rattle.dp_telegram.specs.declared.frame.Frame.TheVariants as frames
use Rattle.dp_telegram.specs.declared.frame.Telegram.{Telegram}
use Rattle.dp_telegram.specs.Access.{parts_of}
use Rattle.dp_telegram.specs.FrameText.{frame_of}
use Rattle.dp_telegram.specs.FunctionCode.{is_request, function_of}
use Rattle.dp_sap.specs.AccessTable.{same_point, data_exchange, global_control, set_prm, chk_cfg}
use Rattle.explain_octets.specs.Words.{hex_text}
use Rattle.explain_octets.specs.Kinds.{is_of_point}
use Rattle.explain_octets.specs.Parameters.{parameters_text}
use Rattle.explain_octets.specs.Configurations.{configuration_text}
use Rattle.explain_octets.specs.Commands.{command_text}
use Rattle.explain_octets.specs.declared.contents.Subject.{Subject}
use Rattle.explain_octets.specs.declared.contents.Subject.TheVariants as subjects

-- the meaning of octets that are sent to a point
abbrev pub subject_at : Option ℕ → Subject
subject_at point =
    if same_point point data_exchange then subjects.Outputs
    else if same_point point set_prm then subjects.Parameters
    else if same_point point chk_cfg then subjects.Configuration
    else if same_point point global_control then subjects.Command
    else subjects.Octets

-- a Global_Control has two octets; any other number of octets is shown in hex
abbrev pub control_row : List ℕ → List ℕ
control_row octets = if length octets == 2 then codes "command     " ++ command_text octets else codes "data        " ++ hex_text octets

-- octets in words after their label, which has 12 columns
abbrev pub row_text : Subject → List ℕ → List ℕ
row_text subjects.Parameters octets = codes "parameters  " ++ parameters_text octets
row_text subjects.Configuration octets = codes "configured  " ++ configuration_text octets
row_text subjects.Command octets = control_row octets
row_text subjects.Outputs octets = codes "outputs     " ++ hex_text octets
row_text subjects.Octets octets = codes "data        " ++ hex_text octets

-- the row of octets; None if there are none
abbrev pub row_where_any : Subject → List ℕ → Option (List ℕ)
row_where_any subject [] = None
row_where_any subject (octet ∷ octets) = Some (row_text subject (octet ∷ octets))

-- the meaning of the octets after the access points; those of a function without access points are shown in hex
abbrev pub subject_of : ℕ → Parts → Subject
subject_of fc parts =
    if is_request fc && is_of_point (function_of fc) then subject_at parts.dsap else subjects.Octets

-- the row of a telegram; if its access points cannot be read, the row of its whole data unit
abbrev pub telegram_row : Telegram → Option Parts → Option (List ℕ)
telegram_row telegram None = row_where_any subjects.Octets telegram.du.items
telegram_row telegram (Some parts) = row_where_any (subject_of telegram.fc parts) parts.payload.items

-- a token and a short acknowledgement have no data
abbrev pub frame_row : Frame → Option (List ℕ)
frame_row (frames.Token da sa) = None
frame_row frames.Ack = None
frame_row (frames.Telegram telegram) = telegram_row telegram (parts_of telegram)

-- the data of octets; None if they have none
unfoldable pub contents_text : List ℕ → Option (List ℕ)
contents_text octets = option_and_then frame_row (frame_of octets)
