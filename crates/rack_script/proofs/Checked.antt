-- The line of a rack that an audit text names.
use Rattle.std.proofs.Common.{◌≡◌, ℕ, Bool, true, false, List, [], ◌∷◌, map, All, Option, Some, None, cond, refl, sym, ap, ◌∙◌}
use Rattle.std.specs.Prelude.{find, option_map}
use Rattle.std.specs.List.{AllByRecursion}
use Rattle.std.proofs.lemmas.List.Elements.{recursion_from_All}
use Rattle.dp_line.specs.World.{description_of, opening_fault}
use Rattle.rack_file.specs.declared.rack.RackLine.{RackLine}
use Rattle.rack_file.specs.Rack.{LineDescription, line_described}
use Rattle.dp_text.specs.Words.{lines_of}
use Rattle.dp_audit.specs.Check.{is_accepted_header}
use Rattle.explain_texts.specs.declared.choice.Choice.{Choice}
use Rattle.rack_script.specs.Checks.{line_named, checked_by_line, checked_on}
use Rattle.rack_script.specs.Explanations.{explained_by_line, explained_on}

-- this is an accepted header of the line
abbrev pub is_headed : List ℕ → RackLine → Bool
is_headed header line = is_accepted_header (description_of line.spec) header

abbrev is_described_headed : List ℕ → LineDescription → Bool
is_described_headed header line = is_accepted_header line.line header

first_or : (is : Bool) (first : RackLine) (found : Option LineDescription) (others : Option RackLine) → found ≡ option_map line_described others
    → cond is (Some (line_described first)) found ≡ option_map line_described (cond is (Some first) others)
first_or true first found others same = refl
first_or false first found others same = same

-- finding a line among the described lines is finding it among the lines
found_described : (header : List ℕ) (lines : List RackLine)
    → find (is_described_headed header) (map line_described lines) ≡ option_map line_described (find (is_headed header) lines)
found_described header [] = refl
found_described header (line ∷ lines) =
    first_or (is_headed header line) line (find (is_described_headed header) (map line_described lines)) (find (is_headed header) lines) (found_described header lines)

-- the first line of the text names the line that it finds
line_of_named : (lines : List RackLine) (text header : List ℕ) (others : List (List ℕ)) (found : Option RackLine)
    → lines_of text ≡ header ∷ others → found ≡ find (is_headed header) lines
    → line_named (map line_described lines) (lines_of text) ≡ option_map line_described found
line_of_named lines text header others found parted named =
    ap (λ ls. line_named (map line_described lines) ls) parted ∙ found_described header lines ∙ ap (option_map line_described) (sym named)

pub verdict_of_named : (workers : ℕ) (lines : List RackLine) (text header : List ℕ) (others : List (List ℕ)) (found : Option RackLine)
    → lines_of text ≡ header ∷ others → found ≡ find (is_headed header) lines
    → checked_on (record { workers = workers; lines = map line_described lines }) text ≡ checked_by_line (option_map line_described found) text
verdict_of_named workers lines text header others found parted named =
    ap (λ l. checked_by_line l text) (line_of_named lines text header others found parted named)

pub explained_of_named : (workers : ℕ) (lines : List RackLine) (text header : List ℕ) (others : List (List ℕ)) (found : Option RackLine) (choice : Choice)
    → lines_of text ≡ header ∷ others → found ≡ find (is_headed header) lines
    → explained_on (record { workers = workers; lines = map line_described lines }) text choice ≡ explained_by_line (option_map line_described found) text choice
explained_of_named workers lines text header others found choice parted named =
    ap (λ l. explained_by_line l text choice) (line_of_named lines text header others found parted named)

open_among : (is : Bool) (first : RackLine) (others : Option RackLine) (line : RackLine) → Some line ≡ cond is (Some first) others
    → opening_fault (description_of first.spec) ≡ None → (Some line ≡ others → opening_fault (description_of line.spec) ≡ None)
    → opening_fault (description_of line.spec) ≡ None
open_among true first others line found opens rest = cc
open_among false first others line found opens rest = rest found

open_by_recursion : (header : List ℕ) (lines : List RackLine) (line : RackLine) → Some line ≡ find (is_headed header) lines
    → AllByRecursion (λ l. opening_fault (description_of l.spec) ≡ None) lines → opening_fault (description_of line.spec) ≡ None
open_by_recursion header [] line found all = absurd cc
open_by_recursion header (first ∷ lines) line found all =
    open_among (is_headed header first) first (find (is_headed header) lines) line found all.0 (λ more. open_by_recursion header lines line more all.1)

-- if each line can be opened, the one that is found can be opened
pub found_opens : (header : List ℕ) (lines : List RackLine) (line : RackLine) → Some line ≡ find (is_headed header) lines
    → All (λ l. opening_fault (description_of l.spec) ≡ None) lines → opening_fault (description_of line.spec) ≡ None
found_opens header lines line found all =
    open_by_recursion header lines line found (recursion_from_All (λ l. opening_fault (description_of l.spec) ≡ None) lines all)
