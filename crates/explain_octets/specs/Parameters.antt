-- detail
-- Set_Prm in words (IEC 61158-6-3, Set_Prm request).
use Rattle.std.specs.Prelude.{codes, ℕ, ◌*◌, ◌==◌, Bool, true, not, if◌then◌else◌, List, [], ◌∷◌, ◌++◌, length, slice_index, Option, Some, None}
use Rattle.std.specs.Fmt.{decimal}
use Rattle.dp_prm.specs.Meaning.{is_short, lock_req, unlock_req, sync_req, freeze_req, watchdog_time, min_tsdr, group_ident, user_prm}
use Rattle.explain_octets.specs.Words.{hex_text, ident_text, listed, groups_text}
use Rattle.explain_octets.specs.DpV1.{dp_v1_text}

-- the requests of a locking Set_Prm apart from the watchdog: whether it asks for Sync and for Freeze
unfoldable pub requests_text : Bool → Bool → List ℕ
requests_text sync freeze = listed [] [] ((true, codes "Lock_Req") ∷ (sync, codes "Sync_Req") ∷ (freeze, codes "Freeze_Req") ∷ [])

-- the watchdog time in units of 10 ms; None if the watchdog is off
abbrev pub watchdog_text : Option ℕ → List ℕ
watchdog_text None = codes "watchdog off"
watchdog_text (Some units) = if units == 0 then codes "watchdog time 0" else codes "watchdog " ++ decimal (units * 10) ++ codes " ms"

-- min TSDR in bit times; 0 leaves the slave's value unchanged
abbrev pub min_tsdr_text : ℕ → List ℕ
min_tsdr_text octet = if octet == 0 then codes "min TSDR unchanged" else codes "min TSDR " ++ decimal octet

-- the user parameters in hex, and the names of their bits if they have the form of DP-V1
abbrev pub user_text : List ℕ → List ℕ
user_text [] = codes "user parameters none"
user_text (octet ∷ octets) = codes "user parameters " ++ hex_text (octet ∷ octets) ++ dp_v1_text (octet ∷ octets)

-- a Set_Prm that locks a slave, one part after another
unfoldable pub locking_text : List ℕ → List ℕ
locking_text octets =
    requests_text (sync_req octets) (freeze_req octets)
    ++ codes "; " ++ watchdog_text (watchdog_time octets)
    ++ codes "; " ++ min_tsdr_text (min_tsdr octets)
    ++ codes "; " ++ ident_text (slice_index octets 4) (slice_index octets 5)
    ++ codes "; " ++ groups_text (codes "groups none") (group_ident octets)
    ++ codes "; " ++ user_text (user_prm octets)

-- only min TSDR is set; 0 sets nothing
abbrev pub min_tsdr_alone : ℕ → List ℕ
min_tsdr_alone octet = if octet == 0 then codes "nothing is set" else codes "min TSDR " ++ decimal octet ++ codes " alone"

-- the octets of a Set_Prm, by its forms: too short, unlock, only min TSDR, lock; what a form ignores is not shown
unfoldable pub parameters_text : List ℕ → List ℕ
parameters_text octets =
    if is_short octets then codes "too short: " ++ decimal (length octets) ++ codes " of at least 7 octets"
    else if unlock_req octets then codes "Unlock_Req"
    else if not (lock_req octets) then min_tsdr_alone (min_tsdr octets)
    else locking_text octets
