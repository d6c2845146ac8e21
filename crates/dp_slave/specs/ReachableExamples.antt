-- helper
-- Watchdog times, and slaves to which acts can have led or not.
use Rattle.std.specs.Prelude.{◌≡◌, true, false, Some, refl}
use Rattle.dp_slave.specs.Fields.{acted}
use Rattle.dp_slave.specs.SlaveExamples.{fed, locked, requested}
use Rattle.dp_slave.specs.Reachable.{has_factor, is_reachable, is_watchdog_time}

-- the shortest and the longest one; none is 0, a prime number above 255, or longer than the longest
pub shortest_time : is_watchdog_time 1 ≡ true
unfolding has_factor
shortest_time = refl

pub longest_time : is_watchdog_time 65025 ≡ true
unfolding has_factor
longest_time = refl

pub no_time : is_watchdog_time 0 ≡ false
unfolding has_factor
no_time = refl

pub prime_time : is_watchdog_time 257 ≡ false
unfolding has_factor
prime_time = refl

pub longer_time : is_watchdog_time 65026 ≡ false
unfolding has_factor
longer_time = refl

-- slave 5 after its lock with a watchdog of 10 units, and the same slave with more time left, in sync mode, with a fault, or held with min TSDR 0
pub locked_slave : is_reachable locked ≡ true
unfolding locked requested fed acted has_factor
locked_slave = refl

pub too_much_time : is_reachable (record locked { left = Some 11 }) ≡ false
unfolding locked requested fed acted has_factor
too_much_time = refl

pub sync_not_asked : is_reachable (record locked { sync_mode = true }) ≡ false
unfolding locked requested fed acted has_factor
sync_not_asked = refl

pub fault_while_held : is_reachable (record locked { diag = record (locked.diag) { prm_fault = true } }) ≡ false
unfolding locked requested fed acted has_factor
fault_while_held = refl

pub no_min_tsdr : is_reachable (record locked { min_tsdr = 0 }) ≡ false
unfolding locked requested fed acted has_factor
no_min_tsdr = refl
