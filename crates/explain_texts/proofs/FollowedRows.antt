-- The rows that are followed so far.
use Rattle.std.proofs.Common.{◌≡◌, ℕ, ◌+◌, Bool, true, false, List, [], ◌∷◌, ◌++◌, Option, Some, None, Result, Ok, Err, IfSome, OnOk, IfOk, is_err, refl, sym, ap, subst, ◌∙◌, append_assoc}
use Rattle.std.specs.Io.KnownBytes.{Keeps}
use Rattle.std.specs.List.{AllByRecursion}
use Rattle.std.proofs.lemmas.List.{append-nil}
use Rattle.dp_line.specs.declared.event.Event.{Event}
use Rattle.dp_line.specs.World.{Description}
use Rattle.dp_audit.specs.FirstWrong.{HasNoLf}
use Rattle.dp_audit.specs.declared.fault.AuditFault.{AuditFault}
use Rattle.dp_audit.specs.declared.fault.AuditFault.TheVariants.{BadLine}
use Rattle.dp_audit.specs.Check.{Judged, bad, not_the_policy, right, checked, is_accepted_header}
use Rattle.explain_texts.specs.declared.choice.Choice.{Choice}
use Rattle.explain_texts.specs.declared.explain_fault.ExplainFault.{ExplainFault}
use Rattle.explain_texts.specs.declared.follow_fault.FollowFault.{FollowFault}
use Rattle.explain_texts.specs.declared.follow_fault.FollowFault.TheVariants.{Wrong, Explain}
use Rattle.explain_texts.specs.declared.hold.Hold.{Hold}
use Rattle.explain_texts.specs.declared.read_fault.ReadFault.{ReadFault}
use Rattle.explain_texts.specs.declared.read_fault.ReadFault.TheVariants as faults
use Rattle.explain_texts.specs.declared.rows_fault.RowsFault.{RowsFault}
use Rattle.explain_texts.specs.declared.rows_fault.RowsFault.TheVariants as row_faults
use Rattle.explain_texts.specs.Entries.{entries_verdict, followed_entries}
use Rattle.explain_texts.specs.Explained.{ended_by_row, known_behind, reported_row}
use Rattle.explain_texts.specs.ExplainedRows.{Decides}
use Rattle.explain_texts.specs.Followed.{Followed, FollowerView, FollowsRow, after_row, event_taken, event_unless, first_follower, first_wrong, followed, followed_text, holds_of_row, judged_next, facts_of_row, verdict_at, verdict_by}
use Rattle.explain_texts.specs.Following.{StoresHolds, stored_with}
use Rattle.explain_texts.specs.FollowedText.{FollowsEntries, FollowsRows, FollowsText, IsFollowed}
use Rattle.explain_texts.specs.Reported.{Reported}
use Rattle.explain_texts.specs.Reports.{Reports, ReportsPrefix, Takes}
use Rattle.explain_texts.specs.TextRows.{TextRead, known_text, lf_if, octets_read}
use Rattle.explain_texts.proofs.EntryLines.{all_with_row, entries_followed, entries_judged, rows_text, text_followed, text_judged, text_with_row}
use Rattle.explain_texts.proofs.ReadEntries.{text_decides}
use Rattle.explain_texts.proofs.ReadLines.{followed_row}
use Rattle.explain_texts.proofs.ReadRows.{IsHeadless, first_is}
use Rattle.explain_texts.proofs.Reporting.{first_cut, reports_more, then_cut, whole_prefix}
use Rattle.explain_texts.proofs.RightRows.{fails, right_is_step, step_counts}

-- ---- the result of a row

abbrev taken : Unit {0} → Result (Unit {0}) FollowFault
taken done = Ok done

abbrev refused : FollowFault → Result (Unit {0}) FollowFault
refused fault = Err fault

abbrev some_fault : AuditFault → Option AuditFault
some_fault fault = Some fault

is_taken : {P : Type 0} (done : Unit {0}) (fault : FollowFault) → taken done ≡ refused fault → P
is_taken done fault e = absurd cc

pub right_after : {S : Type 0} (takes : Takes S) (facts : List Reported) (fault : Option AuditFault) (old new : S) (done : Unit {0}) → FollowsRow takes facts fault old new (Ok done) → fault ≡ None
right_after takes facts None old new done follows = refl
right_after takes facts (Some fault) old new done follows = is_taken done (Wrong fault) follows.0

all_taken : {S : Type 0} (takes : Takes S) (facts : List Reported) (fault : Option AuditFault) (old new : S) (done : Unit {0}) → FollowsRow takes facts fault old new (Ok done) → Reports takes old new facts
all_taken takes facts None old new done follows = follows
all_taken takes facts (Some fault) old new done follows = is_taken done (Wrong fault) follows.0

same_wrong : {a b : AuditFault} → refused (Wrong a) ≡ refused (Wrong b) → some_fault b ≡ some_fault a
same_wrong e = cc

wrong_after : {S : Type 0} (takes : Takes S) (facts : List Reported) (fault : Option AuditFault) (old new : S) (found : AuditFault) → FollowsRow takes facts fault old new (Err (Wrong found)) → (fault ≡ Some found) × (new ≡ old)
wrong_after takes facts None old new found follows = absurd follows
wrong_after takes facts (Some fault) old new found follows = (same_wrong follows.0, follows.1)

not_wrong : {P : Type 0} (found : AuditFault) (fault : ExplainFault) → refused (Explain fault) ≡ refused (Wrong found) → P
not_wrong found fault e = absurd cc

cut_after : {S : Type 0} (takes : Takes S) (facts : List Reported) (fault : Option AuditFault) (old new : S) (found : ExplainFault) → FollowsRow takes facts fault old new (Err (Explain found)) → ReportsPrefix takes old new facts
cut_after takes facts None old new found follows = follows
cut_after takes facts (Some fault) old new found follows = not_wrong fault found follows.0

-- one more entry
counts_by : (follower : FollowerView) (row : List ℕ) (before : Option AuditFault) (judged : Judged) → judged_next follower row ≡ judged → first_wrong before follower.known.context.world.count judged ≡ None
    → (known_behind follower.known (event_unless before judged)).context.world.count ≡ follower.known.context.world.count + 1
counts_by follower row (Some fault) judged is e = absurd (let never : some_fault fault ≡ None = e in cc)
counts_by follower row None bad is e = absurd cc
counts_by follower row None not_the_policy is e = absurd cc
counts_by follower row None (right event) is e = step_counts follower.known.context.world event (right_is_step follower.known.context.world row event is)

pub counts : {S : Type 0} (takes : Takes S) (facts : List Reported) (row : List ℕ) (follower new : FollowerView) (now newer : S) (done : Unit {0}) → new ≡ after_row follower row → FollowsRow takes facts (after_row follower row).fault now newer (Ok done)
    → new.known.context.world.count ≡ follower.known.context.world.count + 1
counts takes facts row follower new now newer done is follows =
    ap (λ (f : FollowerView). f.known.context.world.count) is
    ∙ counts_by follower row follower.fault (judged_next follower row) refl (right_after takes facts (after_row follower row).fault now newer done follows)

-- ---- what was reported so far

-- the rows that were read behind these octets, all right
pub record AreFollowed {S : Type 0} (takes : Takes S) (choice : Choice) (first : FollowerView) (before now : List ℕ) (follower : FollowerView) (ended stored : Option (List Hold)) (old new : S) : Type 0 where
  pub rows : List (List ℕ)
  pub none : AllByRecursion HasNoLf rows
  pub read : now ≡ before ++ rows_text rows
  pub last : (followed choice first rows).last ≡ follower
  pub right_so : follower.fault ≡ None
  pub stored_so : stored ≡ stored_with (followed choice first rows).ended ended
  pub taken_so : Reports takes old new (followed choice first rows).reported

stored_nothing : (stored : Option (List Hold)) → stored ≡ stored_with [] stored
stored_nothing None = refl
stored_nothing (Some holds) = sym (ap (λ (hs : List Hold). Some hs) (append-nil holds))

-- before the first row
pub none_followed : {S : Type 0} (takes : Takes S) (choice : Choice) (first : FollowerView) (before : List ℕ) (ended : Option (List Hold)) (old : S) → first.fault ≡ None → AreFollowed takes choice first before before first ended ended old old
none_followed takes choice first before ended old faultless = record {
  rows = [];
  none = tt;
  read = sym (append-nil before);
  last = refl;
  right_so = faultless;
  stored_so = stored_nothing ended;
  taken_so = refl;
}

stored_twice : (first more : List Hold) (stored : Option (List Hold)) → stored_with more (stored_with first stored) ≡ stored_with (first ++ more) stored
stored_twice first more None = refl
stored_twice first more (Some holds) = ap (λ (hs : List Hold). Some hs) (append_assoc holds first more)

-- the rows with one more, which the follower takes next
with_row_is : (choice : Choice) (first : FollowerView) (rows : List (List ℕ)) (row : List ℕ) (follower : FollowerView) → (followed choice first rows).last ≡ follower
    → followed choice first (rows ++ row ∷ [])
    ≡ record { reported = (followed choice first rows).reported ++ facts_of_row choice follower row; ended = (followed choice first rows).ended ++ holds_of_row follower row; last = after_row follower row }
with_row_is choice first rows row follower last =
    let before = followed choice first rows in
    followed_row choice first rows row
    ∙ ap (λ (f : FollowerView). record { reported = before.reported ++ facts_of_row choice f row; ended = before.ended ++ holds_of_row f row; last = after_row f row }) last

octets_with : (before now more : List ℕ) (rows : List (List ℕ)) → now ≡ before ++ rows_text rows → now ++ more ≡ before ++ (rows_text rows ++ more)
octets_with before now more rows is = ap (λ (t : List ℕ). t ++ more) is ∙ append_assoc before (rows_text rows) more

octets_with_row : (before now row : List ℕ) (rows : List (List ℕ)) → now ≡ before ++ rows_text rows → now ++ (row ++ 10 ∷ []) ≡ before ++ rows_text (rows ++ row ∷ [])
octets_with_row before now row rows is = octets_with before now (row ++ 10 ∷ []) rows is ∙ ap (λ (t : List ℕ). before ++ t) (sym (text_with_row rows row))

-- one more right row
pub row_followed : {S : Type 0} (takes : Takes S) (choice : Choice) (first : FollowerView) (before now row : List ℕ) (follower new : FollowerView) (ended stored more : Option (List Hold)) (old now_taken newer : S) (done : Unit {0})
    → AreFollowed takes choice first before now follower ended stored old now_taken → HasNoLf row → new ≡ after_row follower row → FollowsRow takes (facts_of_row choice follower row) (after_row follower row).fault now_taken newer (Ok done)
    → StoresHolds (holds_of_row follower row) stored more (Ok done) → AreFollowed takes choice first before (now ++ (row ++ 10 ∷ [])) new ended more old newer
row_followed takes choice first before now row follower new ended stored more old now_taken newer done are none is follows stores =
    let others = followed choice first are.rows in
    let all = with_row_is choice first are.rows row follower are.last in
    record {
      rows = are.rows ++ row ∷ [];
      none = all_with_row are.rows row are.none none;
      read = octets_with_row before now row are.rows are.read;
      last = ap (λ (f : Followed). f.last) all ∙ sym is;
      right_so = ap (λ (f : FollowerView). f.fault) is ∙ right_after takes (facts_of_row choice follower row) (after_row follower row).fault now_taken newer done follows;
      stored_so =
          stores
          ∙ ap (stored_with (holds_of_row follower row)) are.stored_so
          ∙ stored_twice others.ended (holds_of_row follower row) ended
          ∙ sym (ap (λ (f : Followed). stored_with f.ended ended) all);
      taken_so =
          subst (λ (f : Followed). Reports takes old newer f.reported) (sym all)
          (reports_more takes old now_taken newer others.reported (facts_of_row choice follower row) are.taken_so (all_taken takes (facts_of_row choice follower row) (after_row follower row).fault now_taken newer done follows));
    }

-- ---- at the end

-- the rows that were read, and what follows the last LF
follows_by : {S : Type 0} (takes : Takes S) (choice : Choice) (first : FollowerView) (before after : TextRead) (rows : List (List ℕ)) (last : List ℕ) (left : FollowerView) (ended stored : Option (List Hold)) (old new : S) (result : Result (Result ℕ AuditFault) RowsFault)
    → AllByRecursion HasNoLf rows → HasNoLf last → octets_read after ≡ octets_read before ++ (rows_text rows ++ last)
    → FollowsRows takes (followed choice first rows) (verdict_at (followed choice first rows).last last) left ended stored old new result → FollowsEntries takes choice first before after left ended stored old new result
follows_by takes choice first before after rows last left ended stored old new result none ends read follows = record {
  entries = rows_text rows ++ last;
  read = read;
  follows =
      subst (λ (f : Followed). FollowsRows takes f (entries_verdict choice first (rows_text rows ++ last)) left ended stored old new result) (sym (entries_followed choice first rows last none ends))
      (subst (λ (v : Result ℕ AuditFault). FollowsRows takes (followed choice first rows) v left ended stored old new result) (sym (entries_judged choice first rows last none ends)) follows);
}

-- it ends behind the right rows
pub entries_ended : {S : Type 0} (takes : Takes S) (choice : Choice) (first : FollowerView) (before after : TextRead) (now row shown : List ℕ) (count : ℕ) (verdict : Result ℕ AuditFault) (follower : FollowerView) (ended stored : Option (List Hold)) (old new : S)
    → AreFollowed takes choice first (octets_read before) now follower ended stored old new → HasNoLf row → count ≡ follower.known.context.world.count → shown ≡ row → verdict ≡ verdict_by None count shown
    → octets_read after ≡ now ++ row → FollowsEntries takes choice first before after follower ended stored old new (Ok verdict)
entries_ended takes choice first before after now row shown count verdict follower ended stored old new are none counted same is all =
    follows_by takes choice first before after are.rows row follower ended stored old new (Ok verdict) are.none none (all ∙ octets_with (octets_read before) now row are.rows are.read)
    (record {
      verdict_is =
          is
          ∙ ap (λ (n : ℕ). verdict_by None n shown) counted
          ∙ ap (verdict_by None follower.known.context.world.count) same
          ∙ sym (ap (λ (fault : Option AuditFault). verdict_by fault follower.known.context.world.count row) are.right_so)
          ∙ sym (ap (λ (f : FollowerView). verdict_at f row) are.last);
      known = sym are.last;
      ended_so = are.stored_so;
      reported = are.taken_so;
    })

-- the rows with one more row
follows_with_row : {S : Type 0} (takes : Takes S) (choice : Choice) (first : FollowerView) (before after : TextRead) (now row : List ℕ) (follower left : FollowerView) (ended stored more : Option (List Hold)) (old now_taken new : S) (result : Result (Result ℕ AuditFault) RowsFault)
    → (are : AreFollowed takes choice first (octets_read before) now follower ended stored old now_taken) → HasNoLf row → octets_read after ≡ now ++ (row ++ 10 ∷ [])
    → FollowsRows takes (record { reported = (followed choice first are.rows).reported ++ facts_of_row choice follower row; ended = (followed choice first are.rows).ended ++ holds_of_row follower row; last = after_row follower row })
    (verdict_at (after_row follower row) []) left ended more old new result → FollowsEntries takes choice first before after left ended more old new result
follows_with_row takes choice first before after now row follower left ended stored more old now_taken new result are none all follows =
    let rows = are.rows ++ row ∷ [] in
    follows_by takes choice first before after rows [] left ended more old new result (all_with_row are.rows row are.none none) tt
    (all ∙ octets_with_row (octets_read before) now row are.rows are.read ∙ ap (λ (t : List ℕ). octets_read before ++ t) (sym (append-nil (rows_text rows))))
    (subst (λ (f : Followed). FollowsRows takes f (verdict_at f.last []) left ended more old new result) (sym (with_row_is choice first are.rows row follower are.last)) follows)

no_event : (before : Option AuditFault) (entries : ℕ) (judged : Judged) (fault : AuditFault) → first_wrong before entries judged ≡ Some fault → event_unless before judged ≡ None
no_event (Some first) entries judged fault e = refl
no_event None entries bad fault e = refl
no_event None entries not_the_policy fault e = refl
no_event None entries (right event) fault e = absurd cc

-- it ends at a wrong row
pub entries_wrong : {S : Type 0} (takes : Takes S) (choice : Choice) (first : FollowerView) (before after : TextRead) (now row : List ℕ) (follower left : FollowerView) (ended stored more : Option (List Hold)) (old now_taken newer : S) (fault : AuditFault)
    → AreFollowed takes choice first (octets_read before) now follower ended stored old now_taken → HasNoLf row → octets_read after ≡ now ++ (row ++ 10 ∷ []) → left ≡ after_row follower row
    → FollowsRow takes (facts_of_row choice follower row) (after_row follower row).fault now_taken newer (Err (Wrong fault)) → StoresHolds (holds_of_row follower row) stored more (Err (Wrong fault))
    → FollowsEntries takes choice first before after left ended more old newer (Ok (fails fault))
entries_wrong takes choice first before after now row follower left ended stored more old now_taken newer fault are none all is follows same =
    let others = followed choice first are.rows in
    let wrong = wrong_after takes (facts_of_row choice follower row) (after_row follower row).fault now_taken newer fault follows in
    let nothing : event_taken follower row ≡ None = no_event follower.fault follower.known.context.world.count (judged_next follower row) fault wrong.0 in
    follows_with_row takes choice first before after now row follower left ended stored more old now_taken newer (Ok (fails fault)) are none all
    (record {
      verdict_is = sym (ap (λ (f : Option AuditFault). verdict_by f (after_row follower row).known.context.world.count []) wrong.0);
      known = is;
      ended_so =
          same ∙ are.stored_so
          ∙ sym (ap (λ (hs : List Hold). stored_with hs ended) (ap (λ (e : Option Event). others.ended ++ ended_by_row follower.known.context.world e) nothing ∙ append-nil others.ended));
      reported =
          subst (λ (facts : List Reported). Reports takes old newer facts) (sym (ap (λ (e : Option Event). others.reported ++ reported_row choice follower.known e) nothing ∙ append-nil others.reported))
          (subst (λ s. Reports takes old s others.reported) (sym wrong.1) are.taken_so);
    })

-- ---- it ends early

-- an entry is not taken whole
pub entries_cut : {S : Type 0} (takes : Takes S) (choice : Choice) (first : FollowerView) (before after : TextRead) (now row : List ℕ) (follower left : FollowerView) (ended stored more : Option (List Hold)) (old now_taken newer : S) (fault : ExplainFault)
    → AreFollowed takes choice first (octets_read before) now follower ended stored old now_taken → HasNoLf row → octets_read after ≡ now ++ (row ++ 10 ∷ [])
    → FollowsRow takes (facts_of_row choice follower row) (after_row follower row).fault now_taken newer (Err (Explain fault)) → FollowsEntries takes choice first before after left ended more old newer (Err (row_faults.Explain fault))
entries_cut takes choice first before after now row follower left ended stored more old now_taken newer fault are none all follows =
    follows_with_row takes choice first before after now row follower left ended stored more old now_taken newer (Err (row_faults.Explain fault)) are none all
    (then_cut takes old now_taken newer (followed choice first are.rows).reported (facts_of_row choice follower row) are.taken_so
    (cut_after takes (facts_of_row choice follower row) (after_row follower row).fault now_taken newer fault follows))

abbrev unread : ReadFault → Result Bool ReadFault
unread fault = Err fault

-- a read never finds that a row is not text
read_ended : {S : Type 0} (takes : Takes S) (all : Followed) (judged : Result ℕ AuditFault) (last : FollowerView) (ended stored : Option (List Hold)) (old new : S) (fault : ReadFault) → (unread fault ≡ unread faults.NotText → ⊥)
    → ReportsPrefix takes old new all.reported → FollowsRows takes all judged last ended stored old new (Err (row_faults.Read fault))
read_ended takes all judged last ended stored old new faults.OutOfMemory named cut = cut
read_ended takes all judged last ended stored old new faults.CannotRead named cut = cut
read_ended takes all judged last ended stored old new faults.NotText named cut = named refl

-- a row is not read whole
pub entries_unread : {S : Type 0} (takes : Takes S) (choice : Choice) (first : FollowerView) (before after : TextRead) (now row : List ℕ) (whole : Bool) (follower : FollowerView) (ended stored : Option (List Hold)) (old new : S) (fault : ReadFault)
    → (unread fault ≡ unread faults.NotText → ⊥) → AreFollowed takes choice first (octets_read before) now follower ended stored old new → HasNoLf row → octets_read after ≡ now ++ (row ++ lf_if whole)
    → FollowsEntries takes choice first before after follower ended stored old new (Err (row_faults.Read fault))
entries_unread takes choice first before after now row true follower ended stored old new fault named are none all =
    let others = (followed choice first are.rows).reported in
    follows_with_row takes choice first before after now row follower follower ended stored stored old new new (Err (row_faults.Read fault)) are none all
    (read_ended takes (record { reported = others ++ facts_of_row choice follower row; ended = (followed choice first are.rows).ended ++ holds_of_row follower row; last = after_row follower row })
    (verdict_at (after_row follower row) []) follower ended stored old new fault named (first_cut takes old new others (facts_of_row choice follower row) (whole_prefix takes old new others are.taken_so)))
entries_unread takes choice first before after now row false follower ended stored old new fault named are none all =
    follows_by takes choice first before after are.rows row follower ended stored old new (Err (row_faults.Read fault)) are.none none
    (all ∙ ap (λ (r : List ℕ). now ++ r) (append-nil row) ∙ octets_with (octets_read before) now row are.rows are.read)
    (read_ended takes (followed choice first are.rows) (verdict_at (followed choice first are.rows).last row) follower ended stored old new fault named (whole_prefix takes old new (followed choice first are.rows).reported are.taken_so))

-- ---- a text with its header

-- behind the header
pub text_followed_by : {S : Type 0} (takes : Takes S) (choice : Choice) (line : Description) (before after : TextRead) (first left : FollowerView) (ended stored : Option (List Hold)) (old new : S) (result : Result (Result ℕ AuditFault) RowsFault)
    → before.past ≡ [] → before.whole ≡ true → HasNoLf before.row → is_accepted_header line before.row ≡ true → first ≡ first_follower line (before.row ∷ []) → FollowsEntries takes choice first before after left ended stored old new result
    → FollowsText takes choice line (octets_read after) left ended stored old new result
text_followed_by takes choice line before after first left ended stored old new result empty whole none accepted opened follows =
    let entries = follows.entries in
    let header = first_follower line (before.row ∷ []) in
    let text : octets_read after ≡ (before.row ++ 10 ∷ []) ++ entries = follows.read ∙ ap (λ (t : List ℕ). t ++ entries) (first_is before true empty whole) in
    let all : followed_text choice line (octets_read after) ≡ followed_entries choice first entries =
    ap (followed_text choice line) text ∙ text_followed choice line before.row entries none accepted ∙ sym (ap (λ (f : FollowerView). followed_entries choice f entries) opened) in
    let judged : checked line (octets_read after) ≡ entries_verdict choice first entries =
    ap (checked line) text ∙ text_judged choice line before.row entries none accepted ∙ sym (ap (λ (f : FollowerView). entries_verdict choice f entries) opened) in
    subst (λ (f : Followed). FollowsRows takes f (checked line (octets_read after)) left ended stored old new result) (sym all)
    (subst (λ (v : Result ℕ AuditFault). FollowsRows takes (followed_entries choice first entries) v left ended stored old new result) (sym judged) follows.follows)

-- a text that was read to its end or to a wrong row
pub text_decided : {S : Type 0} (takes : Takes S) (choice : Choice) (line : Description) (before after : TextRead) (left left_after : Option (List ℕ)) (first last : FollowerView) (ended stored : Option (List Hold)) (old new : S) (result : Result (Result ℕ AuditFault) RowsFault)
    → FollowsEntries takes choice first before after last ended stored old new result → FollowsText takes choice line (octets_read after) last ended stored old new result → Keeps (known_text before left) (known_text after left_after)
    → OnOk result (after.whole ≡ false → IfSome (known_text before left) (λ text. text ≡ octets_read after)) → IfOk result (λ verdict. after.whole ≡ true → is_err verdict ≡ true)
    → OnOk result (IfSome (known_text before left) (Decides line (octets_read after)))
text_decided takes choice line before after left left_after first last ended stored old new (Ok verdict) follows is kept ends wrong =
    text_decides line left left_after before after verdict follows.entries follows.read kept ends wrong is.verdict_is
text_decided takes choice line before after left left_after first last ended stored old new (Err fault) follows is kept ends wrong = tt

-- the text has no header
pub text_headless : {S : Type 0} (takes : Takes S) (choice : Choice) (line : Description) (text : TextRead) (follower : FollowerView) (ended : Option (List Hold)) (old : S) → IsHeadless line text → follower ≡ first_follower line (text.row ∷ [])
    → FollowsText takes choice line (octets_read text) follower ended ended old old (Ok (fails (BadLine 1)))
text_headless takes choice line text follower ended old headless opened =
    subst (λ (f : Followed). IsFollowed takes f (checked line (octets_read text)) (fails (BadLine 1)) follower ended ended old old) (sym (headless.followed_so choice))
    (record { verdict_is = sym headless.judged; known = opened; ended_so = stored_nothing ended; reported = refl })
