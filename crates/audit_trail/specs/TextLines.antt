-- detail
-- The text line of an entry, in the text that a trail wrote (own).
use Rattle.std.specs.Prelude.{◌≡◌, ℕ, ◌-◌, List, ◌++◌, Some, slice_get}
use Rattle.dp_audit.specs.declared.entry.Entry.{Entry}
use Rattle.dp_audit.specs.declared.entry.Receipt.{Receipt}
use Rattle.dp_audit.specs.AuditText.{entry_text, line_text}
use Rattle.dp_shared.specs.Content.{Content}
use Rattle.dp_shared.specs.LineLock.{receipt_for}
use Rattle.dp_shared.specs.declared.line_view.Look.{Look}
use Rattle.audit_trail.specs.Trails.{found, parts_text}

-- The looks saw this entry at this place, and the text of the looks has the text line of the entry.
pub record HasTextLine (version number place : ℕ) (looks : List Look) (entry : Entry) : Type 0 where
  pub there : slice_get (found looks) (place - 1) ≡ Some (place, entry)
  pub front : List ℕ
  pub back : List ℕ
  pub text : parts_text version number looks ≡ front ++ (line_text (entry_text entry) ++ back)

-- The receipt is that of the journal's entry at this place, and the text of the looks has the text line of that entry.
pub record HasLineOf (content : Content) (version number place : ℕ) (looks : List Look) (receipt : Receipt) : Type 0 where
  pub entry : Entry
  pub receipt_is : receipt ≡ receipt_for entry
  pub in_journal : slice_get content.book.entries (place - 1) ≡ Some entry
  pub line : HasTextLine version number place looks entry
