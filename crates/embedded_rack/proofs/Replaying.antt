-- One entry after another of a journal is taken again.
use Rattle.std.proofs.Common.{◌≡◌, ℕ, List, suc, ◌+◌, ◌-◌, ◌<◌, ◌≤◌, Bool, true, false, Option, Some, None, Ok, Err, Result, length, get_or, refl, sym, ap, subst, ◌∙◌, arith}
use Rattle.std.specs.Prelude.{option_and_then, option_map, slice_get}
use Rattle.std.proofs.lemmas.Option.{slice_get_read}
use Rattle.dp_audit.specs.declared.entry.Entry.{Entry}
use Rattle.dp_audit.specs.Journal.{Journal, kept_in}
use Rattle.explain_events.specs.EventContexts.{EventContextView}
use Rattle.dp_line.specs.World.{Description}
use Rattle.embedded_rack.specs.declared.entry_reason.EntryReason.{EntryReason}
use Rattle.embedded_rack.specs.declared.entry_reason.ReasonFault.{ReasonFault}
use Rattle.embedded_rack.specs.declared.entry_reason.ReasonFault.TheVariants as faults
use Rattle.embedded_rack.specs.EmbeddedLines.{EmbeddedLine}
use Rattle.embedded_rack.specs.EntryReasons.{Explains, Replays, context_after, entry_explained, explained_at, first_context, replayed}
use Rattle.embedded_rack.specs.RackCalls.{EmbeddedRack}
use Rattle.embedded_rack.specs.RackReasons.{ExplainsDescribed, ExplainsLine}

-- the entries that are left are this one and those behind it
one_more : (journal : Journal) (context : EventContextView) (next place : ℕ) → next < place
    → replayed journal context next (place - next)
    ≡ option_and_then (λ entry. replayed journal (context_after context entry) (next + 1) (place - (next + 1))) (kept_in journal next)
one_more journal context next place within =
    let left : place - next ≡ suc (place - (next + 1)) = omega arith in
    ap (replayed journal context next) left

-- the entry is stored
pub entry_taken : (journal : Journal) (first context : EventContextView) (next place : ℕ) (entry : Entry)
    → replayed journal context next (place - next) ≡ replayed journal first 1 (place - 1) → next < place → Some entry ≡ kept_in journal next
    → replayed journal (context_after context entry) (next + 1) (place - (next + 1)) ≡ replayed journal first 1 (place - 1)
entry_taken journal first context next place entry before within kept =
    ap (option_and_then (λ entry. replayed journal (context_after context entry) (next + 1) (place - (next + 1)))) kept
    ∙ sym (one_more journal context next place within) ∙ before

-- the entry is not stored
pub entry_missing : (journal : Journal) (first context : EventContextView) (next place : ℕ)
    → replayed journal context next (place - next) ≡ replayed journal first 1 (place - 1) → next < place → None ≡ kept_in journal next
    → Replays (replayed journal first 1 (place - 1)) context false
entry_missing journal first context next place before within kept =
    let none : None ≡ replayed journal first 1 (place - 1) =
    ap (option_and_then (λ entry. replayed journal (context_after context entry) (next + 1) (place - (next + 1)))) kept
    ∙ sym (one_more journal context next place within) ∙ before in
    subst (λ (o : Option EventContextView). Replays o context false) none refl

-- all entries before the place are taken
pub entries_taken : (journal : Journal) (first context : EventContextView) (next place : ℕ)
    → replayed journal context next (place - next) ≡ replayed journal first 1 (place - 1) → place ≤ next
    → Replays (replayed journal first 1 (place - 1)) context true
entries_taken journal first context next place before past =
    let left : place - next ≡ 0 = omega arith in
    let some : Some context ≡ replayed journal first 1 (place - 1) = sym (ap (replayed journal context next) left) ∙ before in
    subst (λ (o : Option EventContextView). Replays o context true) some (refl, refl)

-- ---- an entry is explained

all_before : (before : Option EventContextView) (entry : Entry) (context : EventContextView) (taken : Bool) (reason : EntryReason) (sentence : List ℕ)
    → Replays before context taken → taken ≡ true → record { reason = reason; sentence = sentence } ≡ entry_explained context entry
    → Explains (option_map (λ context. entry_explained context entry) before) sentence (Ok reason)
all_before None entry context taken reason sentence replays is explained = let no : true ≡ false = sym is ∙ replays in absurd cc
all_before (Some first) entry context taken reason sentence replays is explained = explained ∙ ap (λ context. entry_explained context entry) replays.1

pub kept_explained : (journal : Journal) (first : EventContextView) (place : ℕ) (entry : Entry) (context : EventContextView) (taken : Bool) (reason : EntryReason) (sentence : List ℕ)
    → Some entry ≡ kept_in journal place → Replays (replayed journal first 1 (place - 1)) context taken → taken ≡ true
    → record { reason = reason; sentence = sentence } ≡ entry_explained context entry
    → Explains (explained_at journal first place) sentence (Ok reason)
kept_explained journal first place entry context taken reason sentence kept replays is explained =
    subst (λ (found : Option Entry). Explains (option_and_then (λ entry. option_map (λ context. entry_explained context entry) (replayed journal first 1 (place - 1))) found) sentence (Ok reason)) kept
    (all_before (replayed journal first 1 (place - 1)) entry context taken reason sentence replays is explained)

-- ---- a line of a rack

pub line_explained : (rack : EmbeddedRack) (index place : ℕ) (line : EmbeddedLine) (description : Description) (sentence : List ℕ) (result : Result EntryReason ReasonFault)
    → Some description ≡ slice_get rack.described index → index < length rack.lines → line ≡ get_or rack.lines index line
    → Explains (explained_at line.journal (first_context rack.forgets description) place) sentence result
    → ExplainsLine rack index place sentence result (slice_get rack.lines index)
line_explained rack index place line description sentence result described within read explains =
    subst (ExplainsLine rack index place sentence result) (sym (slice_get_read rack.lines (length rack.lines) index line refl within read))
    (subst (ExplainsDescribed rack line place sentence result) described explains)

pub no_line_explained : (rack : EmbeddedRack) (index place : ℕ) (sentence : List ℕ) (found : Option EmbeddedLine)
    → None ≡ slice_get rack.described index → ExplainsLine rack index place sentence (Err faults.NoLine) found
no_line_explained rack index place sentence None none = refl
no_line_explained rack index place sentence (Some line) none = subst (ExplainsDescribed rack line place sentence (Err faults.NoLine)) none refl
