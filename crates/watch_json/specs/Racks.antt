-- detail
-- The lines of a rack as JSON (own).
use Rattle.std.specs.Prelude.{codes, ℕ, ◌==◌, ◌&&◌, not, List, ◌++◌, map, if◌then◌else◌}
use Rattle.std.specs.Fmt.{decimal}
use Rattle.explain_texts.specs.JsonValues.{array_json, string_json}
use Rattle.watch_lines.specs.Watched.{WatchedView}
use Rattle.watch_json.specs.Lines.{line_json}

-- the number of the run, as a string
unfoldable pub run_json : ℕ → ℕ → List ℕ
run_json run number = codes "\"run\":\"" ++ decimal run ++ codes "\",\"number\":" ++ decimal number

-- the names of the rack file and of the folder
unfoldable pub names_json : List ℕ → List ℕ → List ℕ
names_json rack folder = codes "\"rack\":" ++ string_json rack ++ codes ",\"folder\":" ++ string_json folder

-- all lines, with the entries after this number
unfoldable pub changed_json : ℕ → ℕ → ℕ → List ℕ → List ℕ → List WatchedView → List ℕ
changed_json run number after rack folder lines =
    codes "{" ++ run_json run number
    ++ codes ",\"same\":false," ++ names_json rack folder
    ++ codes ",\"lines\":" ++ array_json (map (line_json after) lines)
    ++ codes "}\n"

unfoldable pub same_json : ℕ → ℕ → List ℕ
same_json run number = codes "{" ++ run_json run number ++ codes ",\"same\":true}\n"

-- what has changed after this number; nothing has if it is that of the last change, which is above 0
abbrev pub rack_json : ℕ → ℕ → ℕ → List ℕ → List ℕ → List WatchedView → List ℕ
rack_json run number after rack folder lines =
    if number == after && not (after == 0) then same_json run number else changed_json run number after rack folder lines
