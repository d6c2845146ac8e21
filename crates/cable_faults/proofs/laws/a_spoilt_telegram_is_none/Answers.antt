use Rattle.cable_faults.proofs.SpoiltTelegrams.{spoilt_checked, spoilt_unchecked}
use Rattle.cable_faults.proofs.laws.a_spoilt_telegram_is_none.Goals as goal

pub returns-clause-checked : goal.returns-clause-checked
returns-clause-checked c = spoilt_checked

pub returns-clause-unchecked : goal.returns-clause-unchecked
returns-clause-unchecked c = spoilt_unchecked
