-- detail
-- The entries of a line that are stored for the page (own).
use Rattle.std.specs.Prelude.{ℕ, ◌-◌, List, [], ◌∷◌, ◌++◌, length, take, drop, filter}
use Rattle.watch_lines.specs.declared.kept_entry.KeptEntry.{KeptEntry}

-- the recent entries, and of those before them the notable ones, both oldest first
pub record KeptView : Type 0 where
  pub notable : List KeptEntry
  pub recent : List KeptEntry

-- the newest of these entries, at most this number, and those before them
abbrev pub newest : ℕ → List KeptEntry → List KeptEntry
newest most entries = drop (length entries - most) entries

abbrev pub older : ℕ → List KeptEntry → List KeptEntry
older most entries = take (length entries - most) entries

abbrev pub most_recent : ℕ
most_recent = 300

abbrev pub most_notable : ℕ
most_notable = 120

abbrev pub nothing_kept : KeptView
nothing_kept = record { notable = []; recent = [] }

-- one more entry is stored: the oldest recent entry makes room for it if necessary, and stays if it is notable
abbrev pub entry_kept : KeptEntry → KeptView → KeptView
entry_kept entry kept = record {
  notable = newest most_notable (kept.notable ++ filter (λ other. other.is_notable) (older most_recent (kept.recent ++ entry ∷ [])));
  recent = newest most_recent (kept.recent ++ entry ∷ []);
}
