-- promise
-- What a parameter telegram means: its octets and bits by name, and the cases in their order.
use Rattle.std.specs.Prelude.{ℕ, ◌+◌, ◌*◌, ◌/◌, ◌%◌, ◌^◌, Bool, false, not, ◌&&◌, ◌||◌, ◌==◌, nat_lt, if◌then◌else◌, List, [], ◌∷◌, length, drop, find, slice_index, Option, Some, None}
use Rattle.std.specs.List.{list_any}
use Rattle.std.specs.Option.{option_map_or}
use Rattle.dp_prm.specs.declared.limits.Limits.{Limits}
use Rattle.dp_prm.specs.declared.prm.Prm.{Prm}
use Rattle.dp_prm.specs.declared.prm.PrmVerdict.{PrmVerdict}
use Rattle.dp_prm.specs.declared.prm.PrmVerdict.TheVariants.{MinTsdr, Unlock, Lock, Fault}

-- the greatest number of octets of a parameter telegram (IEC 61158-6-3, data unit)
abbrev pub most_octets : ℕ
most_octets = 244

-- the greatest number of octets of user parameters (IEC 61158-6-3, Set_Prm request, User_Prm)
abbrev pub most_user_parameters : ℕ
most_user_parameters = 237

-- the bit of this number is 1; bit 0 is the lowest (own)
abbrev pub is_set : ℕ → ℕ → Bool
is_set number octet = octet / 2 ^ number % 2 == 1

-- octet 1: what is asked for (IEC 61158-6-3, Set_Prm request, Station_status)
abbrev pub station_status : List ℕ → ℕ
station_status octets = slice_index octets 0

-- bit 7: the slave is to be locked (IEC 61158-6-3, Set_Prm request, Station_status)
abbrev pub lock_req : List ℕ → Bool
lock_req octets = is_set 7 (station_status octets)

-- bit 6: the slave is to be released (IEC 61158-6-3, Set_Prm request, Station_status)
abbrev pub unlock_req : List ℕ → Bool
unlock_req octets = is_set 6 (station_status octets)

-- bit 5: Sync is to be used (IEC 61158-6-3, Set_Prm request, Station_status)
abbrev pub sync_req : List ℕ → Bool
sync_req octets = is_set 5 (station_status octets)

-- bit 4: Freeze is to be used (IEC 61158-6-3, Set_Prm request, Station_status)
abbrev pub freeze_req : List ℕ → Bool
freeze_req octets = is_set 4 (station_status octets)

-- bit 3: a watchdog is to run (IEC 61158-6-3, Set_Prm request, Station_status); bits 2 to 0 are ignored (own)
abbrev pub wd_on : List ℕ → Bool
wd_on octets = is_set 3 (station_status octets)

-- octet 2: the first factor of the watchdog time (IEC 61158-6-3, Set_Prm request, WD_Fact_1)
abbrev pub wd_fact_1 : List ℕ → ℕ
wd_fact_1 octets = slice_index octets 1

-- octet 3: its second factor (IEC 61158-6-3, Set_Prm request, WD_Fact_2)
abbrev pub wd_fact_2 : List ℕ → ℕ
wd_fact_2 octets = slice_index octets 2

-- octet 4: min TSDR; 0 leaves it unchanged (IEC 61158-6-3, Set_Prm request, min TSDR)
abbrev pub min_tsdr : List ℕ → ℕ
min_tsdr octets = slice_index octets 3

-- octets 5 and 6: the ident number, high octet first (IEC 61158-6-3, Set_Prm request, Ident_Number)
abbrev pub ident_number : List ℕ → ℕ
ident_number octets = slice_index octets 4 * 256 + slice_index octets 5

-- octet 7: the groups (IEC 61158-6-3, Set_Prm request, Group_Ident)
abbrev pub group_ident : List ℕ → ℕ
group_ident octets = slice_index octets 6

-- octet 8 onwards: the user parameters (IEC 61158-6-3, Set_Prm request, User_Prm)
abbrev pub user_prm : List ℕ → List ℕ
user_prm octets = drop 7 octets

-- the watchdog time in units of 10 ms; none without WD_On (IEC 61158-6-3, Set_Prm request, WD_Fact_1 and WD_Fact_2)
abbrev pub watchdog_time : List ℕ → Option ℕ
watchdog_time octets = if wd_on octets then Some (wd_fact_1 octets * wd_fact_2 octets) else None

-- the parameters that the octets set (IEC 61158-6-3, Set_Prm request)
abbrev pub parameters : List ℕ → Prm
parameters octets = record {
  watchdog = watchdog_time octets;
  sync_req = sync_req octets;
  freeze_req = freeze_req octets;
  min_tsdr = min_tsdr octets;
  group = group_ident octets;
  user = record { items = user_prm octets };
}

-- there are fewer octets than the seven that come before the user parameters (IEC 61158-6-3, Set_Prm request)
abbrev pub is_short : List ℕ → Bool
is_short octets = nat_lt (length octets) 7

-- a reason to refuse: the ident number is not the slave's (IEC 61158-6-3, Set_Prm request)
abbrev pub is_of_another_ident : List ℕ → Limits → Bool
is_of_another_ident octets limits = not (ident_number octets == limits.ident)

-- a reason to refuse: a watchdog is to run, and a factor of its time is 0 (IEC 61158-6-3, Set_Prm request)
abbrev pub has_factor_0 : List ℕ → Bool
has_factor_0 octets = wd_on octets && (wd_fact_1 octets == 0 || wd_fact_2 octets == 0)

-- a reason to refuse: Sync is to be used, and the slave does not support it (IEC 61158-6-3, Set_Prm request)
abbrev pub asks_unsupported_sync : List ℕ → Limits → Bool
asks_unsupported_sync octets limits = sync_req octets && not limits.sync

-- a reason to refuse: Freeze is to be used, and the slave does not support it (IEC 61158-6-3, Set_Prm request)
abbrev pub asks_unsupported_freeze : List ℕ → Limits → Bool
asks_unsupported_freeze octets limits = freeze_req octets && not limits.freeze

-- a reason to refuse: there are more user parameters than the slave takes (own)
abbrev pub has_too_many_user_prm : List ℕ → Limits → Bool
has_too_many_user_prm octets limits = nat_lt limits.user_max (length (user_prm octets))

-- a locking request is refused for any of these reasons (own)
abbrev pub is_faulty : List ℕ → Limits → Bool
is_faulty octets limits = list_any (λ reason. reason) (
    is_of_another_ident octets limits
    ∷ has_factor_0 octets
    ∷ asks_unsupported_sync octets limits
    ∷ asks_unsupported_freeze octets limits
    ∷ has_too_many_user_prm octets limits
    ∷ [])

-- what a refused locking request reports as not supported (own)
abbrev pub is_not_supported : List ℕ → Limits → Bool
is_not_supported octets limits = asks_unsupported_sync octets limits || asks_unsupported_freeze octets limits

-- the verdict of the first case whose condition holds, or else `otherwise` (own)
abbrev pub first_case : List (Bool × PrmVerdict) → PrmVerdict → PrmVerdict
first_case cases otherwise = option_map_or (λ row. row.1) (find (λ row. row.0) cases) otherwise

-- what the octets mean to a slave with these limits, by the cases in their order (own order)
abbrev pub meaning_of : List ℕ → Limits → PrmVerdict
meaning_of octets limits = first_case (
    (is_short octets, Fault false)
    ∷ (unlock_req octets, Unlock)
    ∷ (not (lock_req octets), MinTsdr (min_tsdr octets))
    ∷ (is_faulty octets limits, Fault (is_not_supported octets limits))
    ∷ []) (Lock (parameters octets))
