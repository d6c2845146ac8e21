-- The first row of an audit text that was read, which names a line of the rack.
use Rattle.std.proofs.Common.{◌≡◌, ℕ, Bool, true, false, cond, List, [], ◌∷◌, ◌++◌, map, All, Option, Some, None, IfSome, Result, Ok, Err, OnOk, refl, sym, ap, subst, ◌∙◌}
use Rattle.std.specs.Prelude.{find, option_map}
use Rattle.std.specs.Io.KnownBytes.{Keeps}
use Rattle.std.specs.List.{AllByRecursion}
use Rattle.std.proofs.lemmas.List.{append-nil}
use Rattle.std.proofs.lemmas.List.Elements.{All-from_recursion, recursion_from_All}
use Rattle.dp_line.specs.World.{description_of, opening_fault}
use Rattle.dp_text.specs.Words.{lines_of}
use Rattle.dp_audit.specs.FirstWrong.{HasNoLf}
use Rattle.dp_audit.specs.Check.{is_accepted_header}
use Rattle.capture_texts.specs.Blocks.{Block}
use Rattle.explain_texts.specs.TextRows.{Begins, EndsAt, TextRead, known_text, octets_read}
use Rattle.explain_texts.proofs.ReadLines.{line_alone}
use Rattle.explain_texts.proofs.ReadRows.{first_is}
use Rattle.rack_file.specs.declared.rack.RackLine.{RackLine}
use Rattle.rack_file.specs.Rack.{LineDescription, line_described}
use Rattle.rack_script.specs.Checks.{checked_by_line, checked_on, line_named}
use Rattle.capture_texts.specs.Captured.{captured_by_line, captured_on, interface_among, interface_named, opening_blocks}
use Rattle.capture_texts.specs.Captures.{Decides, DecidesOnRack}
use Rattle.capture_texts.proofs.Deciding.{lines_with}

-- ---- the first line

-- this is the first line of a text
pub record FirstLine (text row : List ℕ) : Type 0 where
  pub others : List (List ℕ)
  pub is : lines_of text ≡ row ∷ others

part_first : (text : TextRead) → text.past ≡ [] → text.whole ≡ false → HasNoLf text.row → FirstLine (octets_read text) text.row
part_first text first part none = record {
  others = [];
  is = ap lines_of (first_is text false first part ∙ append-nil text.row) ∙ line_alone text.row none;
}

whole_first : (text : TextRead) (behind : List ℕ) → text.past ≡ [] → text.whole ≡ true → HasNoLf text.row → FirstLine (octets_read text ++ behind) text.row
whole_first text behind first whole none = record {
  others = lines_of behind;
  is = ap (λ (t : List ℕ). lines_of (t ++ behind)) (first_is text true first whole) ∙ lines_with text.row behind none;
}

first_by : (text new : TextRead) (whole : Bool) → text.past ≡ [] → text.whole ≡ whole → HasNoLf text.row → Begins (octets_read text) (octets_read new) → (text.whole ≡ false → new ≡ text) → FirstLine (octets_read new) text.row
first_by text new true first whole none begins unread = subst (λ (t : List ℕ). FirstLine t text.row) (sym begins.1) (whole_first text begins.0 first whole none)
first_by text new false first part none begins unread =
    subst (λ (t : List ℕ). FirstLine t text.row) (sym (ap octets_read (unread part))) (part_first text first part none)

-- the first row is the first line, whatever was read behind it
pub first_line : (text new : TextRead) → text.past ≡ [] → HasNoLf text.row → Begins (octets_read text) (octets_read new) → (text.whole ≡ false → new ≡ text) → FirstLine (octets_read new) text.row
first_line text new first none begins unread = first_by text new text.whole first refl none begins unread

pub only_line : (text : TextRead) → text.past ≡ [] → HasNoLf text.row → FirstLine (octets_read text) text.row
only_line text first none = first_line text text first none ([], sym (append-nil (octets_read text))) (λ part. refl)

-- ---- the line that it names

-- this is an accepted header of the line
abbrev pub is_headed : List ℕ → RackLine → Bool
is_headed header line = is_accepted_header (description_of line.spec) header

abbrev is_described_headed : List ℕ → LineDescription → Bool
is_described_headed header line = is_accepted_header line.line header

first_or : (is : Bool) (first : RackLine) (found : Option LineDescription) (others : Option RackLine) → found ≡ option_map line_described others
    → cond is (Some (line_described first)) found ≡ option_map line_described (cond is (Some first) others)
first_or true first found others same = refl
first_or false first found others same = same

-- finding a line among the described lines is finding it among the lines
found_described : (header : List ℕ) (lines : List RackLine)
    → find (is_described_headed header) (map line_described lines) ≡ option_map line_described (find (is_headed header) lines)
found_described header [] = refl
found_described header (line ∷ lines) =
    first_or (is_headed header line) line (find (is_described_headed header) (map line_described lines)) (find (is_headed header) lines) (found_described header lines)

open_among : (is : Bool) (first : RackLine) (others : Option RackLine) (line : RackLine) → Some line ≡ cond is (Some first) others
    → opening_fault (description_of first.spec) ≡ None → (Some line ≡ others → opening_fault (description_of line.spec) ≡ None)
    → opening_fault (description_of line.spec) ≡ None
open_among true first others line found opens rest = cc
open_among false first others line found opens rest = rest found

open_by_recursion : (header : List ℕ) (lines : List RackLine) (line : RackLine) → Some line ≡ find (is_headed header) lines
    → AllByRecursion (λ l. opening_fault (description_of l.spec) ≡ None) lines → opening_fault (description_of line.spec) ≡ None
open_by_recursion header [] line found all = absurd cc
open_by_recursion header (first ∷ lines) line found all =
    open_among (is_headed header first) first (find (is_headed header) lines) line found all.0 (λ more. open_by_recursion header lines line more all.1)

-- if each line can be opened, the one that is found can be opened
pub found_opens : (header : List ℕ) (lines : List RackLine) (line : RackLine) → Some line ≡ find (is_headed header) lines
    → All (λ l. opening_fault (description_of l.spec) ≡ None) lines → opening_fault (description_of line.spec) ≡ None
found_opens header lines line found all =
    open_by_recursion header lines line found (recursion_from_All (λ l. opening_fault (description_of l.spec) ≡ None) lines all)

described_open : (lines : List RackLine) → AllByRecursion (λ line. opening_fault line.line ≡ None) (map line_described lines)
    → AllByRecursion (λ line. opening_fault (description_of line.spec) ≡ None) lines
described_open [] all = tt
described_open (x ∷ xs) all = (all.0, described_open xs all.1)

-- if each described line can be opened, each line can be opened
pub lines_open : (lines : List RackLine) → All (λ line. opening_fault line.line ≡ None) (map line_described lines)
    → All (λ line. opening_fault (description_of line.spec) ≡ None) lines
lines_open lines all =
    All-from_recursion (λ line. opening_fault (description_of line.spec) ≡ None) lines
    (described_open lines (recursion_from_All (λ line. opening_fault line.line ≡ None) (map line_described lines) all))

-- ---- the check and the capture on it

pub verdict_is : (workers : ℕ) (lines : List RackLine) (text row : List ℕ) (found : Option RackLine) → FirstLine text row → found ≡ find (is_headed row) lines
    → checked_on (record { workers = workers; lines = map line_described lines }) text ≡ checked_by_line (option_map line_described found) text
verdict_is workers lines text row found line named =
    ap (λ (ls : List (List ℕ)). checked_by_line (line_named (map line_described lines) ls) text) line.is
    ∙ ap (λ (l : Option LineDescription). checked_by_line l text) (found_described row lines ∙ sym (ap (option_map line_described) named))

pub capture_is : (workers : ℕ) (lines : List RackLine) (text row : List ℕ) (found : Option RackLine) → FirstLine text row → found ≡ find (is_headed row) lines
    → captured_on (record { workers = workers; lines = map line_described lines }) text
    ≡ opening_blocks (map line_described lines) ++ captured_by_line (option_map line_described found) (interface_among (map line_described lines) row) text
capture_is workers lines text row found line named =
    let described = map line_described lines in
    ap (λ (ls : List (List ℕ)). opening_blocks described ++ captured_by_line (line_named described ls) (interface_named described ls) text) line.is
    ∙ ap (λ (l : Option LineDescription). opening_blocks described ++ captured_by_line l (interface_among described row) text) (found_described row lines ∙ sym (ap (option_map line_described) named))

-- ---- what was read decides

abbrev pub DecidesLine : Option RackLine → ℕ → List ℕ → List ℕ → Type 0
DecidesLine None number read text = Unit {0}
DecidesLine (Some line) number read text = Decides number (description_of line.spec) read text

same_check : (found : Option RackLine) (number : ℕ) (read text : List ℕ) → DecidesLine found number read text → checked_by_line (option_map line_described found) text ≡ checked_by_line (option_map line_described found) read
same_check None number read text decides = refl
same_check (Some line) number read text decides = decides.same_check

same_capture : (found : Option RackLine) (number : ℕ) (read text : List ℕ) → DecidesLine found number read text
    → captured_by_line (option_map line_described found) number text ≡ captured_by_line (option_map line_described found) number read
same_capture None number read text decides = refl
same_capture (Some line) number read text decides = decides.same_capture

on_rack : (workers : ℕ) (lines : List RackLine) (read text row : List ℕ) (found : Option RackLine) → FirstLine read row → FirstLine text row → found ≡ find (is_headed row) lines
    → DecidesLine found (interface_among (map line_described lines) row) read text → DecidesOnRack (record { workers = workers; lines = map line_described lines }) read text
on_rack workers lines read text row found first second named decides =
    let described = map line_described lines in
    let number = interface_among described row in
    record {
      same_check = verdict_is workers lines text row found second named ∙ same_check found number read text decides ∙ sym (verdict_is workers lines read row found first named);
      same_capture =
          capture_is workers lines text row found second named
          ∙ ap (λ (packets : List Block). opening_blocks described ++ packets) (same_capture found number read text decides)
          ∙ sym (capture_is workers lines read row found first named);
    }

itself : (workers : ℕ) (lines : List RackLine) (read text : List ℕ) → read ≡ text → DecidesOnRack (record { workers = workers; lines = map line_described lines }) read text
itself workers lines read text is = subst (DecidesOnRack (record { workers = workers; lines = map line_described lines }) read) is (record { same_check = refl; same_capture = refl })

-- what the first row was, and what is read behind it
pub record IsFirstRow (left left_after : Option (List ℕ)) (before text : TextRead) : Type 0 where
  pub first : text.past ≡ []
  pub no_lf : HasNoLf text.row
  pub kept : Keeps (known_text before left) (known_text text left_after)
  pub end : text.whole ≡ false → EndsAt left left_after

by_whole : (P : List ℕ → Type 0) (octets behind text : List ℕ) (left : List ℕ) (whole : Bool) → octets ++ behind ≡ text → (whole ≡ false → EndsAt (Some left) (Some behind)) → (whole ≡ true → P (octets ++ behind)) → (whole ≡ false → P octets) → P text
by_whole P octets behind text left true kept end on alone = subst P kept (on refl)
by_whole P octets behind text left false kept end on alone =
    let none : ◌≡◌ {A = Option (List ℕ)} (Some behind) (Some []) = end refl in
    let empty : behind ≡ [] = cc in
    subst P (sym (append-nil octets) ∙ ap (λ (b : List ℕ). octets ++ b) (sym empty) ∙ kept) (alone refl)

known_by : (P : List ℕ → Type 0) (left left_after : Option (List ℕ)) (before text : TextRead) → IsFirstRow left left_after before text
    → ((behind : List ℕ) → left_after ≡ Some behind → text.whole ≡ true → P (octets_read text ++ behind)) → (text.whole ≡ false → P (octets_read text)) → IfSome (known_text before left) P
known_by P None left_after before text row on alone = tt
known_by P (Some left) None before text row on alone = absurd row.kept
known_by P (Some left) (Some behind) before text row on alone =
    by_whole P (octets_read text) behind (octets_read before ++ left) left text.whole row.kept row.end (on behind refl) alone

-- the line that was found decides, if the row is whole
decides_on_rack : (workers : ℕ) (lines : List RackLine) (left left_after : Option (List ℕ)) (before text new : TextRead) (found : Option RackLine) → IsFirstRow left left_after before text → FirstLine (octets_read new) text.row
    → found ≡ find (is_headed text.row) lines → (text.whole ≡ false → new ≡ text)
    → (text.whole ≡ true → IfSome (known_text text left_after) (DecidesLine found (interface_among (map line_described lines) text.row) (octets_read new)))
    → IfSome (known_text before left) (DecidesOnRack (record { workers = workers; lines = map line_described lines }) (octets_read new))
decides_on_rack workers lines left left_after before text new found row line named unread decides =
    let number = interface_among (map line_described lines) text.row in
    known_by (DecidesOnRack (record { workers = workers; lines = map line_described lines }) (octets_read new)) left left_after before text row
    (λ behind is whole.
    on_rack workers lines (octets_read new) (octets_read text ++ behind) text.row found line (whole_first text behind row.first whole row.no_lf) named
    (subst (λ (o : Option (List ℕ)). IfSome (known_text text o) (DecidesLine found number (octets_read new))) is (decides whole)))
    (λ part. itself workers lines (octets_read new) (octets_read text) (ap octets_read (unread part)))

none_decides : (known : Option (List ℕ)) (number : ℕ) (read : List ℕ) → IfSome known (DecidesLine None number read)
none_decides None number read = tt
none_decides (Some text) number read = tt

-- the same, if the call that read the text succeeded
pub decides_if_ok : {T E : Type 0} (result : Result T E) (workers : ℕ) (lines : List RackLine) (left left_after : Option (List ℕ)) (before text new : TextRead) (found : Option RackLine) → IsFirstRow left left_after before text
    → FirstLine (octets_read new) text.row → found ≡ find (is_headed text.row) lines → (text.whole ≡ false → new ≡ text)
    → (text.whole ≡ true → OnOk result (IfSome (known_text text left_after) (DecidesLine found (interface_among (map line_described lines) text.row) (octets_read new))))
    → OnOk result (IfSome (known_text before left) (DecidesOnRack (record { workers = workers; lines = map line_described lines }) (octets_read new)))
decides_if_ok (Ok value) workers lines left left_after before text new found row line named unread decides = decides_on_rack workers lines left left_after before text new found row line named unread decides
decides_if_ok (Err fault) workers lines left left_after before text new found row line named unread decides = tt

-- no line decides each text
pub none_if_ok : {T E : Type 0} (result : Result T E) (known : Option (List ℕ)) (number : ℕ) (read : List ℕ) → OnOk result (IfSome known (DecidesLine None number read))
none_if_ok (Ok value) known number read = none_decides known number read
none_if_ok (Err fault) known number read = tt

-- the row as it was shown
pub named_by : (lines : List RackLine) (shown row : List ℕ) (found : Option RackLine) → shown ≡ row → found ≡ find (is_headed shown) lines → found ≡ find (is_headed row) lines
named_by lines shown row found same named = named ∙ ap (λ (r : List ℕ). find (is_headed r) lines) same
