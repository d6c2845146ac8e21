-- promise
-- What a master sees in a journal of a slave that it holds (own).
use Rattle.std.specs.Prelude.{ℕ, if◌then◌else◌, List, [], ◌∷◌, ◌++◌}
use Rattle.dp_line.specs.World.{World}
use Rattle.dp_line.specs.Isolation.{Seen, is_holder_at, is_no_others, seen_by}
use Rattle.dp_audit.specs.declared.entry.Entry.{Entry}
use Rattle.dp_audit.specs.Legal.{after_entry}
use Rattle.dp_audit.specs.JournalRuns.{answer_recorded}

-- what is seen of the slave of an address at an entry, which results in this world: its process data, the outcome and the facts of the entry if
-- its event is for this slave only, the slave's rule in a broadcast, and whether it is released
abbrev pub seen_in : ℕ → World → Entry → Seen
seen_in address after entry = seen_by address entry.event after (answer_recorded entry)

-- what is seen at one entry; nothing at another master's request
abbrev pub noticed_in : ℕ → ℕ → World → Entry → List Seen
noticed_in master address after entry = if is_no_others master entry.event then seen_in address after entry ∷ [] else []

-- what is seen at each entry behind this world, up to and including the one that ends the master's hold
abbrev pub watched_in : ℕ → ℕ → World → List Entry → List Seen
watched_in master address world [] = []
watched_in master address world (entry ∷ entries) =
    let after = after_entry world entry in
    if is_holder_at master address world then noticed_in master address after entry ++ watched_in master address after entries else []
