-- The explanation of a text, from what is reported of its rows.
use Rattle.std.proofs.Common.{◌≡◌, ℕ, List, [], ◌∷◌, ◌++◌, Option, Some, Result, Ok, Err, refl, sym, ap, subst, ◌∙◌, unwrap_or}
use Rattle.dp_line.specs.World.{Description}
use Rattle.dp_audit.specs.declared.fault.AuditFault.{AuditFault}
use Rattle.dp_audit.specs.Check.{checked}
use Rattle.explain_texts.specs.declared.choice.Choice.{Choice}
use Rattle.explain_texts.specs.declared.explain_fault.ExplainFault.{ExplainFault}
use Rattle.explain_texts.specs.declared.hold.Hold.{Hold}
use Rattle.explain_texts.specs.declared.read_fault.ReadFault.{ReadFault}
use Rattle.explain_texts.specs.declared.read_fault.ReadFault.TheVariants as faults
use Rattle.explain_texts.specs.declared.rows_fault.RowsFault.{RowsFault}
use Rattle.explain_texts.specs.declared.rows_fault.RowsFault.TheVariants as rows
use Rattle.explain_texts.specs.Explained.{Explains, explained, summary_of}
use Rattle.explain_texts.specs.ExplainedRows.{ExplainsRows, Reads}
use Rattle.explain_texts.specs.Holds.{holds_lasting}
use Rattle.explain_texts.specs.Known.{KnownView}
use Rattle.explain_texts.specs.Entries.{ExplainsEntries, entries_verdict, followed_entries}
use Rattle.explain_texts.specs.Followed.{Followed, FollowerView, ending_facts, followed_summary, followed_text}
use Rattle.explain_texts.specs.FollowedText.{FollowsEntries, FollowsRows, FollowsText, IsFollowed}
use Rattle.explain_texts.specs.Following.{stored_with}
use Rattle.explain_texts.specs.Reported.{Reported}
use Rattle.explain_texts.specs.Reports.{LeavesFacts, Reports, Takes}
use Rattle.explain_texts.specs.TextRows.{TextRead}
use Rattle.explain_texts.proofs.Following.{reported_by_rows}
use Rattle.explain_texts.proofs.Reporting.{first_cut, none_reported, one_taken, reports_more, then_cut}

-- what follows the last entry
end_same : (line : Description) (verdict known : Result ℕ AuditFault) (ended first : Option (List Hold)) (holds : List Hold) (last after : FollowerView)
    → verdict ≡ known → last ≡ after → ended ≡ stored_with holds first → first ≡ Some []
    → ending_facts line (unwrap_or ended []) last.known verdict ≡ ending_facts line holds after.known known
end_same line verdict known ended first holds last after is same stores opened =
    let all : unwrap_or ended [] ≡ holds = ap (λ (e : Option (List Hold)). unwrap_or e []) (stores ∙ ap (stored_with holds) opened) in
    ap (λ (hs : List Hold). ending_facts line hs last.known verdict) all
    ∙ ap (λ (f : FollowerView). ending_facts line holds f.known verdict) same
    ∙ ap (λ (v : Result ℕ AuditFault). ending_facts line holds after.known v) is

-- facts are taken, and then others, all or a first part
then_explains : {S : Type 0} (takes : Takes S) (verdict : Result ℕ AuditFault) (row : List ℕ) (old now new : S) (facts more : List Reported) (result : Result ℕ RowsFault) → Reports takes old now facts
    → ExplainsRows takes verdict row more now new result → ExplainsRows takes verdict row (facts ++ more) old new result
then_explains takes verdict row old now new facts more (Ok status) first others = (others.0, reports_more takes old now new facts more first others.1, others.2)
then_explains takes verdict row old now new facts more (Err (rows.Explain fault)) first others = then_cut takes old now new facts more first others
then_explains takes verdict row old now new facts more (Err (rows.Read faults.OutOfMemory)) first others = then_cut takes old now new facts more first others
then_explains takes verdict row old now new facts more (Err (rows.Read faults.CannotRead)) first others = then_cut takes old now new facts more first others
then_explains takes verdict row old now new facts more (Err (rows.Read faults.NotText)) first others = (then_cut takes old now new facts more first others.0, others.1)

-- what is reported of rows, then the summary of them and their verdict
abbrev all_facts : Description → Followed → Result ℕ AuditFault → List Reported
all_facts line all judged = all.reported ++ ending_facts line all.ended all.last.known judged

-- the rows are reported, and then what follows the last one
explains_by : {S : Type 0} (takes : Takes S) (line : Description) (all : Followed) (judged : Result ℕ AuditFault) (row : List ℕ) (verdict : Result ℕ AuditFault) (last : FollowerView) (ended stored : Option (List Hold)) (old now new : S)
    (result : Result ℕ RowsFault)
    → IsFollowed takes all judged verdict last ended stored old now → ended ≡ Some []
    → ExplainsRows takes verdict row (ending_facts line (unwrap_or stored []) last.known verdict) now new result
    → ExplainsRows takes judged row (all_facts line all judged) old new result
explains_by takes line all judged row verdict last ended stored old now new result is none others =
    let whole : all.reported ++ ending_facts line (unwrap_or stored []) last.known verdict ≡ all_facts line all judged =
    ap (λ (fs : List Reported). all.reported ++ fs) (end_same line verdict judged stored ended all.ended last all.last is.verdict_is is.known is.ended_so none) in
    subst (λ (v : Result ℕ AuditFault). ExplainsRows takes v row (all_facts line all judged) old new result) is.verdict_is
    (subst (λ (fs : List Reported). ExplainsRows takes verdict row fs old new result) whole
    (then_explains takes verdict row old now new all.reported (ending_facts line (unwrap_or stored []) last.known verdict) result is.reported others))

-- only a first part of the rows is reported
cut_by : {S : Type 0} (takes : Takes S) (line : Description) (all : Followed) (judged : Result ℕ AuditFault) (row : List ℕ) (last : FollowerView) (ended stored : Option (List Hold)) (old new : S) (fault : RowsFault)
    → FollowsRows takes all judged last ended stored old new (Err fault) → ExplainsRows takes judged row (all_facts line all judged) old new (Err fault)
cut_by takes line all judged row last ended stored old new (rows.Explain fault) cut = first_cut takes old new all.reported (ending_facts line all.ended all.last.known judged) cut
cut_by takes line all judged row last ended stored old new (rows.Read faults.OutOfMemory) cut = first_cut takes old new all.reported (ending_facts line all.ended all.last.known judged) cut
cut_by takes line all judged row last ended stored old new (rows.Read faults.CannotRead) cut = first_cut takes old new all.reported (ending_facts line all.ended all.last.known judged) cut
cut_by takes line all judged row last ended stored old new (rows.Read faults.NotText) never = absurd never

-- ---- a whole text

pub explains : {S : Type 0} (takes : Takes S) (choice : Choice) (line : Description) (text row : List ℕ) (verdict : Result ℕ AuditFault) (last : FollowerView) (ended stored : Option (List Hold)) (old now new : S) (result : Result ℕ RowsFault)
    → FollowsText takes choice line text last ended stored old now (Ok verdict) → ended ≡ Some []
    → ExplainsRows takes verdict row (ending_facts line (unwrap_or stored []) last.known verdict) now new result
    → ExplainsRows takes (checked line text) row (explained line text choice) old new result
explains takes choice line text row verdict last ended stored old now new result is none others =
    subst (λ (fs : List Reported). ExplainsRows takes (checked line text) row fs old new result) (sym (reported_by_rows choice line text))
    (explains_by takes line (followed_text choice line text) (checked line text) row verdict last ended stored old now new result is none others)

pub explains_cut : {S : Type 0} (takes : Takes S) (choice : Choice) (line : Description) (text row : List ℕ) (last : FollowerView) (ended stored : Option (List Hold)) (old new : S) (fault : RowsFault)
    → FollowsText takes choice line text last ended stored old new (Err fault) → ExplainsRows takes (checked line text) row (explained line text choice) old new (Err fault)
explains_cut takes choice line text row last ended stored old new fault cut =
    subst (λ (fs : List Reported). ExplainsRows takes (checked line text) row fs old new (Err fault)) (sym (reported_by_rows choice line text))
    (cut_by takes line (followed_text choice line text) (checked line text) row last ended stored old new fault cut)

-- ---- rows of entries

pub explains_entries : {S : Type 0} (takes : Takes S) (choice : Choice) (line : Description) (first : FollowerView) (before after : TextRead) (verdict : Result ℕ AuditFault) (last : FollowerView) (ended stored : Option (List Hold)) (old now new : S)
    (result : Result ℕ RowsFault)
    → FollowsEntries takes choice first before after last ended stored old now (Ok verdict) → ended ≡ Some []
    → ExplainsRows takes verdict after.row (ending_facts line (unwrap_or stored []) last.known verdict) now new result
    → ExplainsEntries takes choice line first before after old new result
explains_entries takes choice line first before after verdict last ended stored old now new result follows none others = record {
  entries = follows.entries;
  read = follows.read;
  explains =
      explains_by takes line (followed_entries choice first follows.entries) (entries_verdict choice first follows.entries) after.row verdict last ended stored old now new result follows.follows none others;
}

pub entries_cut : {S : Type 0} (takes : Takes S) (choice : Choice) (line : Description) (first : FollowerView) (before after : TextRead) (last : FollowerView) (ended stored : Option (List Hold)) (old new : S) (fault : RowsFault)
    → FollowsEntries takes choice first before after last ended stored old new (Err fault) → ExplainsEntries takes choice line first before after old new (Err fault)
entries_cut takes choice line first before after last ended stored old new fault follows = record {
  entries = follows.entries;
  read = follows.read;
  explains = cut_by takes line (followed_entries choice first follows.entries) (entries_verdict choice first follows.entries) after.row last ended stored old new fault follows.follows;
}

-- ---- what follows the last entry

-- the summary, and then the verdict
pub then_verdict : {S : Type 0} (takes : Takes S) (verdict : Result ℕ AuditFault) (old now new : S) (fact : Reported) (more : List Reported) (result : Result ℕ ExplainFault) → Reports takes old now (fact ∷ [])
    → Explains takes verdict more now new result → Explains takes verdict (fact ∷ more) old new result
then_verdict takes verdict old now new fact more (Ok status) first others = (others.0, reports_more takes old now new (fact ∷ []) more first others.1)
then_verdict takes verdict old now new fact more (Err fault) first others = then_cut takes old now new (fact ∷ []) more first others

-- the summary, from equal parts
pub summary_taken : {S : Type 0} (takes : Takes S) (line : Description) (old new : S) (ended shown lasting : List Hold) (at known : KnownView) (result : Result (Unit {0}) ExplainFault) → takes old (summary_of (shown ++ lasting) at) result new
    → shown ≡ ended → lasting ≡ holds_lasting known.context.world line.slaves → at ≡ known → LeavesFacts takes (followed_summary line ended known ∷ []) old new result
summary_taken takes line old new ended shown lasting at known result took a b c =
    let same : summary_of (shown ++ lasting) at ≡ followed_summary line ended known = rw (a, b, c) refl in
    one_taken takes old new (followed_summary line ended known) result (subst (λ (fact : Reported). takes old fact result new) same took)

-- nothing is reported if the last row is not text
pub not_readable : {S : Type 0} (takes : Takes S) (verdict : Result ℕ AuditFault) (row : List ℕ) (facts : List Reported) (old : S) (fault : ReadFault) → Reads verdict row (Err fault) → ExplainsRows takes verdict row facts old old (Err (rows.Read fault))
not_readable takes verdict row facts old faults.OutOfMemory reads = none_reported takes old facts
not_readable takes verdict row facts old faults.CannotRead reads = none_reported takes old facts
not_readable takes verdict row facts old faults.NotText reads = (none_reported takes old facts, reads)
