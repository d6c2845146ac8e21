-- promise
-- Checking an endless audit text from one of its parts on (own).
use Rattle.std.specs.Prelude.{codes, ◌≡◌, ℕ, ◌+◌, ◌*◌, ◌==◌, ◌&&◌, nat_lt, Bool, true, false, if◌then◌else◌, List, [], ◌∷◌, length, take, drop, Option, Some, None, is_some, option_and_then, Result, Ok, Err}
use Rattle.std.specs.List.{count_by}
use Rattle.dp_slave.specs.declared.description.SlaveSpec.{SlaveSpec}
use Rattle.dp_line.specs.declared.event.Event.{Event}
use Rattle.dp_line.specs.declared.fault.RestoreFault.{RestoreFault}
use Rattle.dp_line.specs.declared.fault.RestoreFault.TheVariants as restored
use Rattle.dp_line.specs.World.{Description, start_of}
use Rattle.dp_line.specs.Endless.{endless}
use Rattle.dp_line.specs.Effects.{effect}
use Rattle.dp_text.specs.Words.{lines_of, same_text}
use Rattle.dp_audit.specs.declared.fault.AuditFault.{AuditFault}
use Rattle.dp_audit.specs.declared.fault.AuditFault.TheVariants as faults
use Rattle.dp_audit.specs.AuditText.{header_text, line_text}
use Rattle.dp_audit.specs.Check.{Judged, bad, not_the_policy, right, judged_line}
use Rattle.dp_audit.specs.Times.{time_after}
use Rattle.audit_heads.specs.declared.head_fault.HeadFault.{HeadFault}
use Rattle.audit_heads.specs.declared.head_fault.HeadFault.TheVariants as heads
use Rattle.audit_heads.specs.Rows.{Left}
use Rattle.audit_heads.specs.Head.{Head, head_text, place_of_row}
use Rattle.audit_heads.specs.HeadLines.{line_read}

-- ---- row by row

-- a check behind some rows of a text: the number of the line, its world and the sum of its ticks behind the entries so far, and what has to come yet
-- of a head
pub record PartsView : Type 0 where
  pub line : ℕ
  pub head : Head
  pub awaited : List ℕ

-- what a row gives: the check behind it, and its event if it is an entry
abbrev pub Taken : Type 0
Taken = PartsView × Option Event

-- the number of the next row: the header of the text is row 1, the entry of place P is row P + 1, and rows of heads are not counted, so that a row
-- has the same number whichever part a check begins with
abbrev pub row_number : PartsView → ℕ
row_number view = view.head.world.count + 2

-- what is left of a text behind its beginning, if it begins so
abbrev pub behind : List ℕ → List ℕ → Option (List ℕ)
behind front text = if same_text (take (length front) text) front then Some (drop (length front) text) else None

-- what is left of a text behind its first row, if this is that row
abbrev pub behind_row : List ℕ → List ℕ → Option (List ℕ)
behind_row row text = option_and_then (behind (codes "\n")) (behind row text)

abbrev pub if_awaited : PartsView → Option (List ℕ) → Result Taken AuditFault
if_awaited view None = Err (faults.NotThePolicy (row_number view))
if_awaited view (Some rest) = Ok (record view { awaited = rest }, None)

-- a row of a head is the one that is awaited
abbrev pub head_row_taken : PartsView → List ℕ → Result Taken AuditFault
head_row_taken view row = if_awaited view (behind_row row view.awaited)

-- the world and the sum of the ticks after an event
abbrev pub head_after : Head → Event → Head
head_after head event = record { world = (effect head.world event).world; time = time_after head.time event }

-- the row of an entry
abbrev pub entry_taken : PartsView → Judged → Result Taken AuditFault
entry_taken view bad = Err (faults.BadLine (row_number view))
entry_taken view not_the_policy = Err (faults.NotThePolicy (row_number view))
entry_taken view (right event) = Ok (record view { head = head_after view.head event }, Some event)

-- with the header of a part a head begins, which is that of the world and the ticks so far
abbrev pub with_head : PartsView → PartsView
with_head view = record view { awaited = head_text view.line view.head }

-- no head has begun, and the row is the header of a part
abbrev pub begins_head : PartsView → List ℕ → Bool
begins_head view row = length view.awaited == 0 && is_some (place_of_row view.line row)

-- what has to come yet of a head, beside a line of this number and its world and ticks so far
abbrev pub check_of : ℕ → Head → List ℕ → PartsView
check_of line head awaited = record { line = line; head = head; awaited = awaited }

-- a row of a head that has begun, or the header of a part; None if it is the row of an entry
abbrev pub head_taken : PartsView → List ℕ → Option (Result Taken AuditFault)
head_taken view row =
    if nat_lt 0 (length view.awaited) then Some (head_row_taken view row)
    else if is_some (place_of_row view.line row) then Some (head_row_taken (with_head view) row)
    else None

-- a row is one of a head, and this is the check behind it; or it is the row of an entry, and nothing has changed
abbrev pub TakesHead : Bool → PartsView → List ℕ → PartsView → Type 0
TakesHead true view row after = head_taken view row ≡ Some (Ok (after, None))
TakesHead false view row after = (head_taken view row ≡ None) × (after ≡ view)

-- a row: of a head that has begun, or the header of a part, or an entry
abbrev pub row_taken : PartsView → List ℕ → Result Taken AuditFault
row_taken view row =
    if nat_lt 0 (length view.awaited) then head_row_taken view row
    else if is_some (place_of_row view.line row) then head_row_taken (with_head view) row
    else entry_taken view (judged_line view.head.world row)

-- ---- a text

abbrev pub and_checked : {A B : Type 0} → Result A AuditFault → (A → Result B AuditFault) → Result B AuditFault
and_checked (Err fault) next = Err fault
and_checked (Ok value) next = next value

-- what follows the last LF is nothing, and no head lacks a row
abbrev pub end_checked : PartsView → List ℕ → Result ℕ AuditFault
end_checked view last =
    if length last == 0 && length view.awaited == 0 then Ok view.head.world.count else Err (faults.BadLine (row_number view))

-- the rows of a text: the place of the last entry, or the fault of the first wrong row
abbrev pub rows_checked : PartsView → List (List ℕ) → Result ℕ AuditFault
rows_checked view [] = end_checked view []
rows_checked view (last ∷ []) = end_checked view last
rows_checked view (row ∷ next ∷ rows) = and_checked (row_taken view row) (λ taken. rows_checked taken.0 (next ∷ rows))

-- ---- its beginning

-- behind the header of the first part
abbrev pub first_part : Description → PartsView
first_part line = record { line = line.number; head = record { world = start_of (endless line); time = None }; awaited = [] }

-- behind the head of a later part
abbrev pub later_part : Description → Head × Left → PartsView × List ℕ
later_part line read = (record { line = line.number; head = read.0; awaited = [] }, read.1.text)

-- the row of a head with which a text begins, if it says what no line can be: the first one of the slave, the header for a place of two locks, and row 2 for the count. The rows
-- of slaves begin with row 3, in ascending order of address; each slave has six and one for each master
abbrev pub row_of_unsound : Description → RestoreFault → ℕ
row_of_unsound line (restored.UnsoundSlave address) =
    3 + count_by (λ (slave : SlaveSpec). nat_lt slave.address address) line.slaves * (6 + length line.masters)
row_of_unsound line restored.SharedPlace = 1
row_of_unsound line restored.UnsoundCount = 2
row_of_unsound line restored.OutOfMemory = 0

-- the fault of a text whose head is refused
abbrev pub fault_of_head : Description → HeadFault → AuditFault
fault_of_head line (heads.WrongRow number) = faults.BadLine number
fault_of_head line (heads.Unsound fault) = faults.NotThePolicy (row_of_unsound line fault)
fault_of_head line heads.OutOfMemory = faults.OutOfMemory

abbrev pub begun_later : Description → Result (Head × Left) HeadFault → Result (PartsView × List ℕ) AuditFault
begun_later line (Err fault) = Err (fault_of_head line fault)
begun_later line (Ok read) = Ok (later_part line read)

abbrev pub begun_by : Description → List ℕ → Option (List ℕ) → Result (PartsView × List ℕ) AuditFault
begun_by line text (Some rest) = Ok (first_part line, rest)
begun_by line text None = begun_later line (line_read line text)

-- a text begins with the header of the first part or with the head of a later one; the check behind it, and the text that is left
abbrev pub parts_begun : Description → List ℕ → Result (PartsView × List ℕ) AuditFault
parts_begun line text = begun_by line text (behind (line_text (header_text 3 line.number)) text)

-- an endless text from one of its parts on: the place of its last entry, or the fault of its first wrong row
unfoldable pub parts_checked : Description → List ℕ → Result ℕ AuditFault
parts_checked line text = and_checked (parts_begun line text) (λ begun. rows_checked begun.0 (lines_of begun.1))
