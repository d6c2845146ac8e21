-- detail
-- The part of an audit text that is being written (own).
use Rattle.std.specs.Prelude.{◌≡◌, [], ℕ, ◌+◌, ◌-◌, ◌*◌, ◌^◌, ◌==◌, ◌&&◌, Bool, false, if◌then◌else◌, nat_le, nat_lt, min, List, length, slice_get, Option, Some, None}
use Rattle.serve_options.specs.declared.options.PartOptions.{PartOptions}
use Rattle.audit_files.specs.declared.audit_writer.Part.{Part}

-- the first part, to which nothing was written; a megabyte has 1,000,000 bytes
abbrev pub first_part : PartOptions → Part
first_part parts = record { number = 1; minimum = parts.megabytes * 1000000; written = 0; ends_row = false }

-- the part ends with a whole row and has its minimum size
abbrev pub is_full : Part → Bool
is_full part = part.ends_row && nat_le part.minimum part.written

-- the next part is to begin, and there is a number for it
abbrev pub is_due : Part → Bool
is_due part = is_full part && nat_lt part.number 4294967295

-- a text in one file has no next part
abbrev pub is_due_in : Option Part → Bool
is_due_in None = false
is_due_in (Some part) = is_due part

-- the next part, to which nothing was written, if there is a number for it
abbrev pub after : Part → Option Part
after part = if nat_lt part.number 4294967295 then Some (record part { number = part.number + 1; written = 0; ends_row = false }) else None

-- whether a row has just ended, after this last byte: an LF ends a row
abbrev pub has_ended : Bool → Option ℕ → Bool
has_ended before None = before
has_ended before (Some byte) = byte == 10

-- the part once these bytes were written to it; its size stops at the largest number of 64 bits
abbrev pub counted : Part → List ℕ → Part
counted part bytes = record part { written = min (part.written + length bytes) (2 ^ 64 - 1); ends_row = has_ended part.ends_row (slice_get bytes (length bytes - 1)) }

-- the bytes that a file accepted, and none if there is no file
abbrev pub bytes_of : Option (List ℕ) → List ℕ
bytes_of None = []
bytes_of (Some bytes) = bytes

-- the part after this one has begun, and its file has accepted nothing yet
abbrev pub HasBegun : Part → Option Part → Option (List ℕ) → Type 0
HasBegun before part bytes = (part ≡ after before) × (bytes ≡ Some [])

-- nothing was written to a text yet: there are no earlier files, and its file has accepted nothing
abbrev pub IsEmptyText : List ℕ → Option (List ℕ) → Type 0
IsEmptyText earlier bytes = (earlier ≡ []) × (bytes ≡ Some [])
