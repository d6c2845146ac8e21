-- promise
-- What a trail has written (own).
use Rattle.std.specs.Prelude.{◌≡◌, ◌≢◌, ℕ, ◌+◌, ◌<◌, ◌≤◌, ◌^◌, ◌⊎◌, ◌==◌, ◌&&◌, Bool, true, false, List, [], ◌∷◌, ◌++◌, length, map, not, take, Option, Some, None, option_map, Result, Ok, Err}
use Rattle.std.specs.List.{AllByRecursion, filter, flat_map, range_with_len}
use Rattle.dp_audit.specs.declared.entry.Entry.{Entry}
use Rattle.std.specs.Io.KnownBytes.{Appends}
use Rattle.dp_text.specs.Writes.{WritesPrefix}
use Rattle.dp_audit.specs.AuditText.{audit_text, entry_text, header_text, line_text}
use Rattle.audit_heads.specs.Head.{Head, head_text}
use Rattle.dp_shared.specs.Passes.{IsNoEarlier, look_by, with_look}
use Rattle.dp_shared.specs.declared.line_view.PassView.{PassView}
use Rattle.dp_shared.specs.declared.line_view.Look.{Look}
use Rattle.dp_shared.specs.declared.line_view.Question.{Question}
use Rattle.dp_shared.specs.declared.line_view.Question.TheVariants as asks
use Rattle.dp_shared.specs.declared.line_view.Answer.{Answer}
use Rattle.dp_shared.specs.declared.line_view.Answer.TheVariants as answers
use Rattle.audit_trail.specs.declared.fault.TrailBreak.{TrailBreak}
use Rattle.audit_trail.specs.declared.fault.TrailBreak.TheVariants as breaks
use Rattle.audit_trail.specs.declared.row.Next.{Next}
use Rattle.audit_trail.specs.declared.row.Next.TheVariants as nexts
use Rattle.audit_trail.specs.declared.row.NextPart.{NextPart}
use Rattle.audit_trail.specs.declared.row.NextPart.TheVariants as parts

-- the place and the entry that a look saw; none if it asked for something else, or found no entry
abbrev pub found_by : Question → Answer → List (ℕ × Entry)
found_by (asks.Entry place) (answers.Entry (Some entry)) = (place, entry) ∷ []
found_by question answer = []

-- the places and the entries that looks saw, in order
unfoldable pub found : List Look → List (ℕ × Entry)
found looks = flat_map (λ look. found_by look.question look.answer) looks

-- their places are this one and those after it, without gaps and each once
abbrev pub AreFrom : ℕ → List (ℕ × Entry) → Type 0
AreFrom place seen = map (λ one. one.0) seen ≡ range_with_len place (length seen)

-- the audit text of the line of this number, with the version in its header, as far as the looks saw it
abbrev pub seen_text : ℕ → ℕ → List Look → List ℕ
seen_text version number looks = audit_text version number (map (λ seen. seen.1) (found looks))

-- what is written of a look at the line of this number: the text line of the entry that it found, or the head that it saw
abbrev pub written_by : ℕ → Question → Answer → List ℕ
written_by number (asks.Entry place) (answers.Entry (Some entry)) = line_text (entry_text entry)
written_by number (asks.Head count) (answers.Head (Some head)) = head_text number head
written_by number question answer = []

-- the same text in parts, of which each but the first begins with a head
unfoldable pub parts_text : ℕ → ℕ → List Look → List ℕ
parts_text version number looks = line_text (header_text version number) ++ flat_map (λ look. written_by number look.question look.answer) looks

-- a look at a head asks for the one behind `seen` entries
abbrev pub asks_behind : ℕ → Question → Bool
asks_behind seen (asks.Head count) = count == seen
asks_behind seen question = true

-- each look at a head asks for the one behind the entries that were found before
abbrev pub heads_follow : ℕ → List Look → Bool
heads_follow seen [] = true
heads_follow seen (look ∷ looks) = asks_behind seen look.question && heads_follow (seen + length (found_by look.question look.answer)) looks

abbrev pub HeadsFollow : List Look → Type 0
HeadsFollow looks = heads_follow 0 looks ≡ true

-- the looks but those at heads
abbrev pub asks_head : Question → Bool
asks_head (asks.Head count) = true
asks_head question = false

unfoldable pub without_heads : List Look → List Look
without_heads looks = filter (λ look. not (asks_head look.question)) looks

-- all octets of a text are written, after what was there before
abbrev pub IsWhole : Option (List ℕ) → Option (List ℕ) → List ℕ → Type 0
IsWhole before now text = (front : List ℕ) → before ≡ Some front → now ≡ Some (front ++ text)

-- the first octets of a text are written, after what was there before
abbrev pub IsBegun : Option (List ℕ) → Option (List ℕ) → List ℕ → Type 0
IsBegun before now text = (front : List ℕ) → before ≡ Some front
    → (option_map (λ out. take (length front) out) now ≡ Some front) × (option_map (λ out. take (length out) (front ++ text)) now ≡ now)

-- a look at the place found no entry
abbrev pub FoundNone : ℕ → Look → Type 0
FoundNone place look = (look.question ≡ asks.Entry place) × (look.answer ≡ answers.Entry None)

-- a look saw the entry of the place, and the text line of the entry is written
abbrev pub WritesRow : ℕ → Look → Option (List ℕ) → Option (List ℕ) → Type 0
WritesRow place look now after =
    (entry : Entry) × (found_by look.question look.answer ≡ (place, entry) ∷ []) × Appends now after (line_text (entry_text entry))

-- the result of a look at the next place: it found no entry, since no entry has the place yet or the entry is forgotten, and nothing was written;
-- or it saw the entry, which may be the last one, and the text line of the entry is written, or only its first octets
abbrev pub Comes : Next → ℕ → Look → Option (List ℕ) → Option (List ℕ) → Type 0
Comes nexts.Nothing place look now after = FoundNone place look × (look.count < place) × (after ≡ now)
Comes nexts.Gone place look now after = FoundNone place look × (place ≤ look.count) × (after ≡ now)
Comes nexts.Row place look now after = WritesRow place look now after
Comes nexts.LastRow place look now after = (look.count ≤ place) × WritesRow place look now after
Comes nexts.Cut place look now after =
    (entry : Entry) × (found_by look.question look.answer ≡ (place, entry) ∷ []) × WritesPrefix now after (line_text (entry_text entry))

-- at the last of these looks the journal had at most `seen` entries, and no fewer than at the looks before: so all entries that there were at that
-- look are seen
pub record SawAll (looks : List Look) (seen : ℕ) : Type 0 where
  pub earlier : List Look
  pub last : Look
  pub in_order : looks ≡ earlier ++ last ∷ []
  pub reached : last.count ≤ seen
  pub latest : AllByRecursion (λ look. look.count ≤ last.count) earlier

-- the last of these looks found no entry at the place after `seen` ones, though the journal had more: that entry is forgotten, and was not seen
pub record MissedOne (looks : List Look) (seen : ℕ) : Type 0 where
  pub earlier : List Look
  pub last : Look
  pub in_order : looks ≡ earlier ++ last ∷ []
  pub none : FoundNone (seen + 1) last
  pub behind : seen < last.count

-- the last of these looks asked for the head behind `seen` entries
pub record EndsWithHead (looks : List Look) (seen : ℕ) : Type 0 where
  pub earlier : List Look
  pub last : Look
  pub in_order : looks ≡ earlier ++ last ∷ []
  pub behind : last.question ≡ asks.Head seen

-- the pass took one look, no earlier than all that it had seen, and this is the result at the place
abbrev pub Looks : Next → ℕ → PassView → PassView → Option (List ℕ) → Option (List ℕ) → Type 0
Looks next place old new now after = (look : Look) × (new ≡ with_look old look) × IsNoEarlier old look.count × Comes next place look now after

-- the pass took a look at the list of the operator, which is none; its count of entries is at most the number of places
abbrev pub LooksAside : PassView → PassView → Type 0
LooksAside old new =
    (look : Look) × (new ≡ with_look old look) × IsNoEarlier old look.count × (look.question ≡ asks.Owned 127) × (look.count < 2 ^ 32)

-- the pass took one look, no earlier than all that it had seen, at the head behind `seen` entries, when there were `count`
pub record LooksAtHead (seen count : ℕ) (head : Option Head) (old new : PassView) : Type 0 where
  pub look : new ≡ with_look old (look_by old (asks.Head seen) count (answers.Head head))
  pub later : IsNoEarlier old count

-- a part was due at a call with this result
abbrev pub was_due : NextPart → Bool
was_due parts.NotDue = false
was_due part = true

-- the next part: it has not begun, and nothing was written; or it has begun, and its head is written, or only the first octets of it
abbrev pub PartOutcome : NextPart → ℕ → ℕ → PassView → PassView → Option (List ℕ) → Option (List ℕ) → Type 0
PartOutcome parts.NotDue number seen old new now after = (new ≡ old) × (after ≡ now)
PartOutcome parts.NoMemory number seen old new now after = (new ≡ old) × (after ≡ now)
PartOutcome parts.NotYet number seen old new now after = (count : ℕ) × (count ≢ seen) × LooksAtHead seen count None old new × (after ≡ now)
PartOutcome parts.Begun number seen old new now after = (head : Head) × LooksAtHead seen seen (Some head) old new × Appends now after (head_text number head)
PartOutcome parts.Cut number seen old new now after = (head : Head) × LooksAtHead seen seen (Some head) old new × WritesPrefix now after (head_text number head)

-- a part began from this writer before anything was written: so what is written after that belongs to the part
abbrev pub BeginsFirst : {W : Type 0} → (W → W → Type 0) → (W → Option (List ℕ)) → W → Type 0
BeginsFirst {W} begins contents writer = (begun : W) × begins writer begun × (contents begun ≡ contents writer)

-- the heads that looks saw, in order: of each a part was begun, or its first octets were written
abbrev pub head_by : Question → Answer → List Head
head_by (asks.Head count) (answers.Head (Some head)) = head ∷ []
head_by question answer = []

unfoldable pub heads_seen : List Look → List Head
heads_seen looks = flat_map (λ look. head_by look.question look.answer) looks

-- how an unbroken tail that has seen `seen` entries begins a part, if one is `due`: a look at the head shows that there are other entries; or no part
-- is due, or memory for the head is refused, or the head is written; or only the first octets of the head are written
abbrev pub BeginsPart : Result Bool TrailBreak → Bool → ℕ → ℕ → PassView → PassView → Option (List ℕ) → Option (List ℕ) → Type 0
BeginsPart (Ok true) due number seen old new now after = (due ≡ true) × PartOutcome parts.NotYet number seen old new now after
BeginsPart (Ok false) due number seen old new now after =
    ((due ≡ false) × PartOutcome parts.NotDue number seen old new now after) ⊎ ((due ≡ true) × PartOutcome parts.NoMemory number seen old new now after)
    ⊎ ((due ≡ true) × PartOutcome parts.Begun number seen old new now after)
BeginsPart (Err breaks.WriteFault) due number seen old new now after = (due ≡ true) × PartOutcome parts.Cut number seen old new now after
BeginsPart (Err breaks.Overtaken) due number seen old new now after = ⊥

-- How a call ends that has written all entries. `before` is what the pass had seen when it had written the last one, and `writer` is the writer then; no
-- head was written before. If no part is due then, none begins. If one is due, it begins with the head behind these entries, and nothing else is
-- written; only if memory for the head is refused, nothing is written, and the part is still due.
pub record EndsWithPart {W : Type 0} (due : W → Bool) (contents : W → Option (List ℕ)) (number seen : ℕ) (old new : PassView) (after : W) : Type 0 where
  pub before : PassView
  pub writer : W
  pub no_head : heads_seen before.looks ≡ heads_seen old.looks
  pub all : SawAll before.looks seen
  pub begins : BeginsPart (Ok false) (due writer) number seen before new (contents writer) (contents after)

-- the pass took looks, and nothing else of it changed
abbrev pub OnlyLooks : PassView → PassView → Type 0
OnlyLooks old new = (more : List Look) × (new ≡ record old { looks = old.looks ++ more })

-- a step of an unbroken tail, from `before` to `seen` entries: the next text line is written; or all entries are seen, since no entry or no line has
-- the next place, or the last text line is written; or only the first octets of the text line are written; or its entry is forgotten
abbrev pub Steps : Result Bool TrailBreak → ℕ → ℕ → PassView → PassView → Option (List ℕ) → Option (List ℕ) → Type 0
Steps (Ok true) before seen old new now after = (seen ≡ before + 1) × Looks nexts.Row seen old new now after
Steps (Ok false) before seen old new now after =
    SawAll new.looks seen
    × (((seen ≡ before) × Looks nexts.Nothing (seen + 1) old new now after) ⊎ ((seen ≡ before + 1) × Looks nexts.LastRow seen old new now after)
    ⊎ ((before + 1 ≡ 2 ^ 32) × (seen ≡ before) × LooksAside old new × (after ≡ now)))
Steps (Err breaks.WriteFault) before seen old new now after = (seen ≡ before + 1) × Looks nexts.Cut seen old new now after
Steps (Err breaks.Overtaken) before seen old new now after = (seen ≡ before) × MissedOne new.looks seen × Looks nexts.Gone (seen + 1) old new now after

-- how a tail breaks that had seen `before` entries and has seen `seen`: it saw an entry whose text line is cut, or a head that is cut, or missed the
-- next entry
abbrev pub Breaks : TrailBreak → ℕ → ℕ → List Look → Type 0
Breaks breaks.WriteFault before seen looks = (before < seen) ⊎ EndsWithHead looks seen
Breaks breaks.Overtaken before seen looks = MissedOne looks seen
