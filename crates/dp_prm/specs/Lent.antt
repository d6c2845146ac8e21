-- helper
-- What a parameter telegram means, with user parameters that are lent.
use Rattle.std.specs.Prelude.{ℕ, List, []}
use Rattle.dp_prm.specs.declared.prm.Prm.{Prm}
use Rattle.dp_prm.specs.declared.prm.PrmVerdict.{PrmVerdict}
use Rattle.dp_prm.specs.declared.prm.PrmVerdict.TheVariants as verdicts
use Rattle.dp_prm.specs.declared.lent.PrmLent.{PrmLent}
use Rattle.dp_prm.specs.declared.lent.PrmVerdictLent.{PrmVerdictLent}
use Rattle.dp_prm.specs.declared.lent.PrmVerdictLent.TheVariants as lent

-- the parameters that a `PrmLent` stands for
abbrev pub prm_lent : PrmLent → Prm
prm_lent prm = record {
  watchdog = prm.watchdog;
  sync_req = prm.sync_req;
  freeze_req = prm.freeze_req;
  min_tsdr = prm.min_tsdr;
  group = prm.group;
  user = record { items = prm.user.now };
}

-- the verdict that a `PrmVerdictLent` stands for
abbrev pub verdict_lent : PrmVerdictLent → PrmVerdict
verdict_lent (lent.MinTsdr octet) = verdicts.MinTsdr octet
verdict_lent lent.Unlock = verdicts.Unlock
verdict_lent (lent.Lock prm) = verdicts.Lock (prm_lent prm)
verdict_lent (lent.Fault not_supported) = verdicts.Fault not_supported

-- the user parameters that are lent; none if nothing is locked
abbrev pub user_lent : PrmVerdictLent → List ℕ
user_lent (lent.Lock prm) = prm.user.now
user_lent verdict = []
