-- detail
-- The kinds of requests, and what makes a request acceptable, as conditions without an order of cases.
use Rattle.std.specs.Prelude.{◌≡◌, ℕ, ◌<◌, ◌≤◌, ◌⊎◌, true, false, List, length}
use Rattle.dp_prm.specs.declared.limits.Limits.{Limits}
use Rattle.dp_prm.specs.Meaning.{lock_req, unlock_req, sync_req, freeze_req, wd_on, wd_fact_1, wd_fact_2, ident_number, user_prm}

-- the slave is to be released, whatever Lock_Req is (IEC 61158-6-3, Set_Prm request)
pub record IsUnlocking (octets : List ℕ) : Type 0 where
  pub whole : 7 ≤ length octets
  pub unlock : unlock_req octets ≡ true

-- only min TSDR is to be set (IEC 61158-6-3, Set_Prm request)
pub record IsForMinTsdr (octets : List ℕ) : Type 0 where
  pub whole : 7 ≤ length octets
  pub no_unlock : unlock_req octets ≡ false
  pub no_lock : lock_req octets ≡ false

-- the slave is to be locked (IEC 61158-6-3, Set_Prm request)
pub record IsLocking (octets : List ℕ) : Type 0 where
  pub whole : 7 ≤ length octets
  pub no_unlock : unlock_req octets ≡ false
  pub lock : lock_req octets ≡ true

-- a slave with these limits can take the parameters (own)
pub record IsAcceptable (octets : List ℕ) (limits : Limits) : Type 0 where
  pub ident : ident_number octets ≡ limits.ident
  pub factors : wd_on octets ≡ true → (0 < wd_fact_1 octets) × (0 < wd_fact_2 octets)
  pub sync : sync_req octets ≡ true → limits.sync ≡ true
  pub freeze : freeze_req octets ≡ true → limits.freeze ≡ true
  pub user : length (user_prm octets) ≤ limits.user_max

-- Sync or Freeze is to be used, and a slave with these limits does not support it (IEC 61158-6-3, Set_Prm request)
abbrev pub AsksUnsupported : List ℕ → Limits → Type 0
AsksUnsupported octets limits =
    ((sync_req octets ≡ true) × (limits.sync ≡ false))
    ⊎ ((freeze_req octets ≡ true) × (limits.freeze ≡ false))
