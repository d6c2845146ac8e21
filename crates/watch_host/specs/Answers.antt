-- detail
-- What the page is sent (own).
use Rattle.std.specs.Prelude.{◌≡◌, ℕ, List, Option}
use Rattle.watch_lines.specs.Watched.{WatchedView}
use Rattle.watch_json.specs.Racks.{rack_json}
use Rattle.watch_page.specs.Queries.{entries_after}

-- the text is that of some lines that were followed, with the entries that the query asks for
pub record MayAnswer (run : ℕ) (file folder : List ℕ) (query : Option (List ℕ)) (text : List ℕ) : Type 0 where
  pub number : ℕ
  pub lines : List WatchedView
  pub written : text ≡ rack_json run number (entries_after query run) file folder lines
