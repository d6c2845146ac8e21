-- helper
-- Parameter telegrams to a slave with ident number 80A1.
use Rattle.std.specs.Prelude.{◌≡◌, true, false, [], ◌∷◌, replicate, Some, None, refl}
use Rattle.dp_prm.specs.declared.limits.Limits.{Limits}
use Rattle.dp_prm.specs.declared.prm.Prm.{Prm}
use Rattle.dp_prm.specs.declared.prm.PrmVerdict.TheVariants.{MinTsdr, Unlock, Lock, Fault}
use Rattle.dp_prm.specs.Meaning.{meaning_of, most_octets}

-- the slave supports Sync and Freeze and takes two octets of user parameters
abbrev pub slave : Limits
slave = record { ident = 0x80A1; sync = true; freeze = true; user_max = 2 }

-- the same slave without Sync
abbrev pub slave_without_sync : Limits
slave_without_sync = record slave { sync = false }

-- watchdog of 100 ms, min TSDR 11, group 1
abbrev pub watched : Prm
watched = record {
  watchdog = Some 10;
  sync_req = false;
  freeze_req = false;
  min_tsdr = 11;
  group = 1;
  user = record { items = [] };
}

pub locks : meaning_of (0x88 ∷ 0x02 ∷ 0x05 ∷ 0x0B ∷ 0x80 ∷ 0xA1 ∷ 0x01 ∷ []) slave ≡ Lock watched
locks = refl

pub locks_for_sync :
    meaning_of (0xA8 ∷ 0x02 ∷ 0x05 ∷ 0x0B ∷ 0x80 ∷ 0xA1 ∷ 0x01 ∷ []) slave
    ≡ Lock (record watched { sync_req = true })
locks_for_sync = refl

pub locks_without_watchdog :
    meaning_of (0x80 ∷ 0x02 ∷ 0x05 ∷ 0x0B ∷ 0x80 ∷ 0xA1 ∷ 0x01 ∷ []) slave
    ≡ Lock (record watched { watchdog = None })
locks_without_watchdog = refl

pub longest_watchdog :
    meaning_of (0x88 ∷ 0xFF ∷ 0xFF ∷ 0x0B ∷ 0x80 ∷ 0xA1 ∷ 0x01 ∷ []) slave
    ≡ Lock (record watched { watchdog = Some 65025 })
longest_watchdog = refl

pub factor_0 : meaning_of (0x88 ∷ 0x02 ∷ 0x00 ∷ 0x0B ∷ 0x80 ∷ 0xA1 ∷ 0x01 ∷ []) slave ≡ Fault false
factor_0 = refl

pub another_ident : meaning_of (0x88 ∷ 0x02 ∷ 0x05 ∷ 0x0B ∷ 0x80 ∷ 0xA2 ∷ 0x01 ∷ []) slave ≡ Fault false
another_ident = refl

pub sync_not_supported :
    meaning_of (0xA8 ∷ 0x02 ∷ 0x05 ∷ 0x0B ∷ 0x80 ∷ 0xA1 ∷ 0x01 ∷ []) slave_without_sync ≡ Fault true
sync_not_supported = refl

pub sync_not_supported_beside_another_ident :
    meaning_of (0xA8 ∷ 0x02 ∷ 0x05 ∷ 0x0B ∷ 0x80 ∷ 0xA2 ∷ 0x01 ∷ []) slave_without_sync ≡ Fault true
sync_not_supported_beside_another_ident = refl

pub six_octets : meaning_of (0x88 ∷ 0x02 ∷ 0x05 ∷ 0x0B ∷ 0x80 ∷ 0xA1 ∷ []) slave ≡ Fault false
six_octets = refl

pub user_parameters_at_the_limit :
    meaning_of (0x88 ∷ 0x02 ∷ 0x05 ∷ 0x0B ∷ 0x80 ∷ 0xA1 ∷ 0x01 ∷ 0x11 ∷ 0x22 ∷ []) slave
    ≡ Lock (record watched { user = record { items = 0x11 ∷ 0x22 ∷ [] } })
user_parameters_at_the_limit = refl

pub user_parameters_above_the_limit :
    meaning_of (0x88 ∷ 0x02 ∷ 0x05 ∷ 0x0B ∷ 0x80 ∷ 0xA1 ∷ 0x01 ∷ 0x11 ∷ 0x22 ∷ 0x33 ∷ []) slave ≡ Fault false
user_parameters_above_the_limit = refl

pub unlocks : meaning_of (0x40 ∷ 0x00 ∷ 0x00 ∷ 0x00 ∷ 0x00 ∷ 0x00 ∷ 0x00 ∷ []) slave ≡ Unlock
unlocks = refl

pub lock_with_unlock_unlocks : meaning_of (0xC8 ∷ 0x02 ∷ 0x05 ∷ 0x0B ∷ 0x80 ∷ 0xA1 ∷ 0x01 ∷ []) slave ≡ Unlock
lock_with_unlock_unlocks = refl

pub longest_telegram_of_zeros : meaning_of (replicate most_octets 0x00) slave ≡ MinTsdr 0
longest_telegram_of_zeros = refl
