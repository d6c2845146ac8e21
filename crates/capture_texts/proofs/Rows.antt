-- The packets of rows that were taken so far.
use Rattle.std.proofs.Common.{◌≡◌, ℕ, Bool, true, false, cond, List, [], ◌∷◌, ◌++◌, Option, Some, None, Result, Ok, Err, refl, sym, ap, subst, ◌∙◌, append_assoc}
use Rattle.std.specs.Io.KnownBytes.{Appends}
use Rattle.std.proofs.lemmas.Grind.{flat_map-append}
use Rattle.std.proofs.lemmas.List.{append-nil}
use Rattle.dp_line.specs.declared.event.Event.{Event}
use Rattle.dp_line.specs.World.{Description, World}
use Rattle.dp_text.specs.Writes.{WritesPrefix}
use Rattle.dp_audit.specs.FirstWrong.{HasNoLf}
use Rattle.dp_audit.specs.declared.fault.AuditFault.{AuditFault}
use Rattle.dp_audit.specs.Check.{Judged, bad, not_the_policy, right, is_accepted_header, judged_line, places_of_header}
use Rattle.dp_audit.proofs.Written.{appends_more, front_prefix, more_prefix}
use Rattle.capture_texts.specs.Blocks.{Block, block_octets, capture_octets}
use Rattle.explain_texts.specs.Explained.{known_behind}
use Rattle.explain_texts.specs.Followed.{FollowerView, after_row, event_unless, first_follower, first_wrong, following, whole_rows}
use Rattle.explain_texts.specs.Known.{KnownView, first_known, known_after}
use Rattle.explain_texts.specs.TextRows.{TextRead, lf_if, octets_read}
use Rattle.explain_texts.proofs.CheckedRows.{AreRight, right_with_row}
use Rattle.explain_texts.proofs.ReadLines.{AreRows, has_first, last_lines, lines_are, rows_before_last, whole_rows_more, with_row}
use Rattle.explain_texts.proofs.ReadRows.{behind_header}
use Rattle.explain_texts.proofs.WrongRow.{any_choice}
use Rattle.capture_texts.specs.declared.row_fault.Cut.{Cut}
use Rattle.capture_texts.specs.declared.row_fault.RowFault.{RowFault}
use Rattle.capture_texts.specs.declared.row_fault.RowFault.TheVariants as faults
use Rattle.capture_texts.specs.Captured.{captured_lines, captured_rows, captured_text, entry_packets, if_right}
use Rattle.capture_texts.specs.Captures.{TakesEntry}

-- ---- rows, and rows after them

-- what is known behind rows that are right; None if one of them is wrong
abbrev pub known_behind_rows : KnownView → List (List ℕ) → Option KnownView
known_behind_rows known [] = Some known
known_behind_rows known (row ∷ rows) = if_right (judged_line known.context.world row) None (λ event. known_behind_rows (known_after known event) rows)

abbrev some_known : KnownView → Option KnownView
some_known known = Some known

same_known : {a b : KnownView} → some_known a ≡ some_known b → a ≡ b
same_known e = cc

append_front : {T : Type 0} (front a b c : List T) → a ≡ b ++ c → front ++ a ≡ (front ++ b) ++ c
append_front {T} front a b c e = ap (λ (xs : List T). front ++ xs) e ∙ sym (append_assoc front b c)

more_by : (number : ℕ) (known last : KnownView) (rows others : List (List ℕ)) (judged : Judged) → if_right judged None (λ event. known_behind_rows (known_after known event) rows) ≡ Some last
    → ((event : Event) → known_behind_rows (known_after known event) rows ≡ Some last
    → captured_rows number (known_after known event) (rows ++ others) ≡ captured_rows number (known_after known event) rows ++ captured_rows number last others)
    → if_right judged [] (λ event. entry_packets number known.context event ++ captured_rows number (known_after known event) (rows ++ others))
    ≡ if_right judged [] (λ event. entry_packets number known.context event ++ captured_rows number (known_after known event) rows) ++ captured_rows number last others
more_by number known last rows others bad is more = absurd cc
more_by number known last rows others not_the_policy is more = absurd cc
more_by number known last rows others (right event) is more = append_front (entry_packets number known.context event) _ _ _ (more event is)

-- the packets of rows that are right, and of what follows them
pub rows_more : (number : ℕ) (known last : KnownView) (rows others : List (List ℕ)) → known_behind_rows known rows ≡ Some last
    → captured_rows number known (rows ++ others) ≡ captured_rows number known rows ++ captured_rows number last others
rows_more number known last [] others is = ap (λ (k : KnownView). captured_rows number k others) (same_known is)
rows_more number known last (row ∷ rows) others is =
    more_by number known last rows others (judged_line known.context.world row) is (λ event. rows_more number (known_after known event) last rows others)

known_more_by : (known last : KnownView) (rows others : List (List ℕ)) (judged : Judged) → if_right judged None (λ event. known_behind_rows (known_after known event) rows) ≡ Some last
    → ((event : Event) → known_behind_rows (known_after known event) rows ≡ Some last → known_behind_rows (known_after known event) (rows ++ others) ≡ known_behind_rows last others)
    → if_right judged None (λ event. known_behind_rows (known_after known event) (rows ++ others)) ≡ known_behind_rows last others
known_more_by known last rows others bad is more = absurd cc
known_more_by known last rows others not_the_policy is more = absurd cc
known_more_by known last rows others (right event) is more = more event is

pub known_more : (known last : KnownView) (rows others : List (List ℕ)) → known_behind_rows known rows ≡ Some last → known_behind_rows known (rows ++ others) ≡ known_behind_rows last others
known_more known last [] others is = ap (λ (k : KnownView). known_behind_rows k others) (same_known is)
known_more known last (row ∷ rows) others is =
    known_more_by known last rows others (judged_line known.context.world row) is (λ event. known_more (known_after known event) last rows others)

-- a wrong row has no packets, whatever follows it
abbrev pub is_wrong : Judged → Type 0
is_wrong bad = Unit {0}
is_wrong not_the_policy = Unit {0}
is_wrong (right event) = ⊥

wrong_by : {T : Type 0} (judged : Judged) (none : T) (others : Event → T) → is_wrong judged → if_right judged none others ≡ none
wrong_by bad none others wrong = refl
wrong_by not_the_policy none others wrong = refl
wrong_by (right event) none others wrong = absurd wrong

pub wrong_row : (number : ℕ) (known : KnownView) (row : List ℕ) (others : List (List ℕ)) → is_wrong (judged_line known.context.world row) → captured_rows number known (row ∷ others) ≡ []
wrong_row number known row others wrong =
    wrong_by (judged_line known.context.world row) [] (λ event. entry_packets number known.context event ++ captured_rows number (known_after known event) others) wrong

right_by : {T : Type 0} (judged : Judged) (event : Event) (none : T) (others : Event → T) → judged ≡ right event → if_right judged none others ≡ others event
right_by judged event none others is = ap (λ (j : Judged). if_right j none others) is

-- a right row has its packets
pub right_row : (number : ℕ) (known : KnownView) (row : List ℕ) (event : Event) → judged_line known.context.world row ≡ right event → captured_rows number known (row ∷ []) ≡ entry_packets number known.context event
right_row number known row event is =
    right_by (judged_line known.context.world row) event [] (λ event. entry_packets number known.context event ++ captured_rows number (known_after known event) []) is
    ∙ append-nil (entry_packets number known.context event)

pub right_known : (known : KnownView) (row : List ℕ) (event : Event) → judged_line known.context.world row ≡ right event → known_behind_rows known (row ∷ []) ≡ Some (known_after known event)
right_known known row event is = right_by (judged_line known.context.world row) event None (λ event. known_behind_rows (known_after known event) []) is

-- ---- the row that a call took

abbrev taken : Unit {0} → Result (Unit {0}) RowFault
taken done = Ok done

abbrev refused : RowFault → Result (Unit {0}) RowFault
refused fault = Err fault

never_refused : {P : Type 0} (done : Unit {0}) (fault : RowFault) → taken done ≡ refused fault → P
never_refused done fault e = absurd cc

never_cut : {P : Type 0} (cut : Cut) (fault : AuditFault) → refused (faults.Cut cut) ≡ refused (faults.Wrong fault) → P
never_cut cut fault e = absurd cc

abbrev some_fault : AuditFault → Option AuditFault
some_fault fault = Some fault

same_fault : {a b : AuditFault} → refused (faults.Wrong a) ≡ refused (faults.Wrong b) → some_fault b ≡ some_fault a
same_fault e = cc

pub record IsTaken (number : ℕ) (judged : Judged) (known : KnownView) (after : FollowerView) (world : World) (old new : Option (List ℕ)) : Type 0 where
  pub event : Event
  pub judged_so : judged ≡ right event
  pub follows : after ≡ following (known_after known event)
  pub same : world ≡ after.known.context.world
  pub written : Appends old new (capture_octets (entry_packets number known.context event))

pub taken_is : (number : ℕ) (judged : Judged) (known : KnownView) (after : FollowerView) (world : World) (old new : Option (List ℕ)) (done : Unit {0}) → TakesEntry number judged known after world old new (Ok done)
    → IsTaken number judged known after world old new
taken_is number bad known after world old new done takes = never_refused done _ takes.0
taken_is number not_the_policy known after world old new done takes = never_refused done _ takes.0
taken_is number (right event) known after world old new done takes = record { event = event; judged_so = refl; follows = takes.0; same = takes.1; written = takes.2 }

-- a wrong row: its fault, and nothing is written
pub record IsRefused (judged : Judged) (entries : ℕ) (fault : AuditFault) (old new : Option (List ℕ)) : Type 0 where
  pub wrong : is_wrong judged
  pub fault_is : first_wrong None entries judged ≡ Some fault
  pub same : new ≡ old

pub refused_is : (number : ℕ) (judged : Judged) (known : KnownView) (after : FollowerView) (world : World) (old new : Option (List ℕ)) (fault : AuditFault) → TakesEntry number judged known after world old new (Err (faults.Wrong fault))
    → IsRefused judged known.context.world.count fault old new
refused_is number bad known after world old new fault takes = record { wrong = tt; fault_is = same_fault takes.0; same = takes.1 }
refused_is number not_the_policy known after world old new fault takes = record { wrong = tt; fault_is = same_fault takes.0; same = takes.1 }
refused_is number (right event) known after world old new fault takes = absurd takes

cut_by : (number : ℕ) (judged : Judged) (known : KnownView) (after : FollowerView) (world : World) (old new : Option (List ℕ)) (cut : Cut) (row : List ℕ) → judged_line known.context.world row ≡ judged
    → TakesEntry number judged known after world old new (Err (faults.Cut cut)) → WritesPrefix old new (capture_octets (captured_rows number known (row ∷ [])))
cut_by number bad known after world old new cut row is takes = never_cut cut _ takes.0
cut_by number not_the_policy known after world old new cut row is takes = never_cut cut _ takes.0
cut_by number (right event) known after world old new cut row is takes =
    subst (λ (packets : List Block). WritesPrefix old new (capture_octets packets)) (sym (right_row number known row event is)) takes

pub cut_is : (number : ℕ) (known : KnownView) (after : FollowerView) (world : World) (old new : Option (List ℕ)) (cut : Cut) (row : List ℕ)
    → TakesEntry number (judged_line known.context.world row) known after world old new (Err (faults.Cut cut)) → WritesPrefix old new (capture_octets (captured_rows number known (row ∷ [])))
cut_is number known after world old new cut row takes = cut_by number (judged_line known.context.world row) known after world old new cut row refl takes

-- ---- a text of whole rows

-- the packets of the text, with what follows its last LF
pub text_captured : (number : ℕ) (line : Description) (text last : List ℕ) (are : AreRows line text) → HasNoLf last
    → captured_text number line (text ++ last) ≡ captured_rows number (first_known line (places_of_header line are.header)) are.rows
text_captured number line text last are none =
    ap (captured_lines number line) (last_lines line text last are none)
    ∙ ap (λ (b : Bool). captured_rows number (first_known line (places_of_header line are.header)) (cond b (whole_rows (are.rows ++ last ∷ [])) [])) are.accepted
    ∙ ap (captured_rows number (first_known line (places_of_header line are.header))) (rows_before_last are.rows last)

-- with any octets behind it, there may be more rows
pub record HasMore (number : ℕ) (line : Description) (text behind : List ℕ) (are : AreRows line text) : Type 0 where
  pub others : List (List ℕ)
  pub is : captured_text number line (text ++ behind) ≡ captured_rows number (first_known line (places_of_header line are.header)) (are.rows ++ others)

pub more_captured : (number : ℕ) (line : Description) (text behind : List ℕ) (are : AreRows line text) → HasMore number line text behind are
more_captured number line text behind are =
    let first = has_first behind in
    let from = first_known line (places_of_header line are.header) in
    record {
      others = whole_rows (first.first ∷ first.others);
      is =
          ap (captured_lines number line) (lines_are line text behind are ∙ ap (λ (ls : List (List ℕ)). are.header ∷ (are.rows ++ ls)) first.is)
          ∙ ap (λ (b : Bool). captured_rows number from (cond b (whole_rows (are.rows ++ first.first ∷ first.others)) [])) are.accepted
          ∙ ap (captured_rows number from) (whole_rows_more are.rows first.first first.others);
    }

-- ---- what was written so far

pub record AreCaptured (number : ℕ) (line : Description) (text : List ℕ) (follower : FollowerView) (old now : Option (List ℕ)) : Type 0 where
  pub rows : AreRight any_choice line text follower
  pub known : known_behind_rows (first_known line (places_of_header line rows.are.header)) rows.are.rows ≡ Some follower.known
  pub written : Appends old now (capture_octets (captured_rows number (first_known line (places_of_header line rows.are.header)) rows.are.rows))

nothing_appended : (old : Option (List ℕ)) → Appends old old []
nothing_appended None = tt
nothing_appended (Some octets) = sym (append-nil octets)

-- behind the header
pub header_captured : (number : ℕ) (line : Description) (text : TextRead) (follower : FollowerView) (old : Option (List ℕ)) (first : text.past ≡ []) (whole : text.whole ≡ true) (none : HasNoLf text.row)
    (accepted : is_accepted_header line text.row ≡ true) → follower ≡ first_follower line (text.row ∷ []) → AreCaptured number line (octets_read text) follower old old
header_captured number line text follower old first whole none accepted opened = record {
  rows = record { are = behind_header line text first whole none accepted; last = sym opened; right_so = ap (λ (f : FollowerView). f.fault) opened };
  known = ap (λ (f : FollowerView). some_known f.known) (sym opened);
  written = nothing_appended old;
}

octets_more : (blocks others : List Block) → capture_octets (blocks ++ others) ≡ capture_octets blocks ++ capture_octets others
octets_more blocks others = flat_map-append block_octets blocks others

abbrev after_by : FollowerView → Option AuditFault → Judged → FollowerView
after_by follower before judged = record { known = known_behind follower.known (event_unless before judged); fault = first_wrong before follower.known.context.world.count judged }

pub follower_after : (follower : FollowerView) (row : List ℕ) (event : Event) → follower.fault ≡ None → judged_line follower.known.context.world row ≡ right event → after_row follower row ≡ following (known_after follower.known event)
follower_after follower row event faultless judged =
    ap (λ (j : Judged). after_by follower follower.fault j) judged ∙ ap (λ (f : Option AuditFault). after_by follower f (right event)) faultless

-- one more right row
pub row_captured : (number : ℕ) (line : Description) (text row : List ℕ) (follower after : FollowerView) (world : World) (old now newer : Option (List ℕ)) → AreCaptured number line text follower old now → HasNoLf row
    → IsTaken number (judged_line follower.known.context.world row) follower.known after world now newer → AreCaptured number line (text ++ (row ++ 10 ∷ [])) after old newer
row_captured number line text row follower after world old now newer are none is =
    let first = first_known line (places_of_header line are.rows.are.header) in
    let rows = are.rows.are.rows in
    let packets : captured_rows number first (rows ++ row ∷ []) ≡ captured_rows number first rows ++ entry_packets number follower.known.context is.event =
    rows_more number first follower.known rows (row ∷ []) are.known
    ∙ ap (λ (ps : List Block). captured_rows number first rows ++ ps) (right_row number follower.known row is.event is.judged_so) in
    record {
      rows =
          right_with_row any_choice line text row follower after are.rows none (is.follows ∙ sym (follower_after follower row is.event are.rows.right_so is.judged_so)) (ap (λ (f : FollowerView). f.fault) is.follows);
      known =
          known_more first follower.known rows (row ∷ []) are.known
          ∙ right_known follower.known row is.event is.judged_so
          ∙ ap (λ (f : FollowerView). some_known f.known) (sym is.follows);
      written =
          subst (Appends old newer) (sym (ap capture_octets packets ∙ octets_more (captured_rows number first rows) (entry_packets number follower.known.context is.event)))
          (appends_more old now newer (capture_octets (captured_rows number first rows)) (capture_octets (entry_packets number follower.known.context is.event)) are.written is.written);
    }

-- ---- at the end

-- the text ends behind the right rows
pub end_captured : (number : ℕ) (line : Description) (text row read : List ℕ) (follower : FollowerView) (old now : Option (List ℕ)) → AreCaptured number line text follower old now → HasNoLf row → read ≡ text ++ row
    → Appends old now (capture_octets (captured_text number line read))
end_captured number line text row read follower old now are none all =
    subst (λ (packets : List Block). Appends old now (capture_octets packets)) (sym (ap (captured_text number line) all ∙ text_captured number line text row are.rows.are none)) are.written

-- the packets of the text with one more row
pub with_row_captured : (number : ℕ) (line : Description) (text row read : List ℕ) (follower : FollowerView) (old now : Option (List ℕ)) (are : AreCaptured number line text follower old now) (none : HasNoLf row)
    → read ≡ text ++ (row ++ 10 ∷ [])
    → captured_text number line read ≡ captured_rows number (first_known line (places_of_header line are.rows.are.header)) are.rows.are.rows ++ captured_rows number follower.known (row ∷ [])
with_row_captured number line text row read follower old now are none all =
    let more = text ++ (row ++ 10 ∷ []) in
    let first = first_known line (places_of_header line are.rows.are.header) in
    ap (captured_text number line) (all ∙ sym (append-nil more))
    ∙ text_captured number line more [] (with_row line text row are.rows.are none) tt
    ∙ rows_more number first follower.known are.rows.are.rows (row ∷ []) are.known

octets_with_row : (number : ℕ) (line : Description) (text row read : List ℕ) (follower : FollowerView) (old now : Option (List ℕ)) (are : AreCaptured number line text follower old now) (none : HasNoLf row)
    → read ≡ text ++ (row ++ 10 ∷ [])
    → capture_octets (captured_text number line read)
    ≡ capture_octets (captured_rows number (first_known line (places_of_header line are.rows.are.header)) are.rows.are.rows) ++ capture_octets (captured_rows number follower.known (row ∷ []))
octets_with_row number line text row read follower old now are none all =
    let first = first_known line (places_of_header line are.rows.are.header) in
    ap capture_octets (with_row_captured number line text row read follower old now are none all) ∙ octets_more (captured_rows number first are.rows.are.rows) (captured_rows number follower.known (row ∷ []))

-- it ends at a wrong row
pub wrong_captured : (number : ℕ) (line : Description) (text row read : List ℕ) (follower : FollowerView) (old now newer : Option (List ℕ)) → AreCaptured number line text follower old now → HasNoLf row
    → read ≡ text ++ (row ++ 10 ∷ []) → is_wrong (judged_line follower.known.context.world row) → newer ≡ now → Appends old newer (capture_octets (captured_text number line read))
wrong_captured number line text row read follower old now newer are none all wrong same =
    let before = capture_octets (captured_rows number (first_known line (places_of_header line are.rows.are.header)) are.rows.are.rows) in
    let is : capture_octets (captured_text number line read) ≡ before =
    octets_with_row number line text row read follower old now are none all
    ∙ ap (λ (packets : List Block). before ++ capture_octets packets) (wrong_row number follower.known row [] wrong)
    ∙ append-nil before in
    subst (Appends old newer) (sym is) (subst (λ (n : Option (List ℕ)). Appends old n before) (sym same) are.written)

-- a row is not written whole
pub cut_captured : (number : ℕ) (line : Description) (text row read : List ℕ) (follower : FollowerView) (old now newer : Option (List ℕ)) → AreCaptured number line text follower old now → HasNoLf row
    → read ≡ text ++ (row ++ 10 ∷ []) → WritesPrefix now newer (capture_octets (captured_rows number follower.known (row ∷ []))) → WritesPrefix old newer (capture_octets (captured_text number line read))
cut_captured number line text row read follower old now newer are none all cut =
    let before = capture_octets (captured_rows number (first_known line (places_of_header line are.rows.are.header)) are.rows.are.rows) in
    let piece = capture_octets (captured_rows number follower.known (row ∷ [])) in
    subst (WritesPrefix old newer) (sym (octets_with_row number line text row read follower old now are none all))
    (more_prefix old now newer before piece [] (before ++ piece) are.written cut (ap (λ (t : List ℕ). before ++ t) (append-nil piece)))

whole_prefix : (old now : Option (List ℕ)) (text : List ℕ) → Appends old now text → WritesPrefix old now text
whole_prefix old now text written = (text, [], sym (append-nil text), written)

-- a row is not read whole
pub unread_captured : (number : ℕ) (line : Description) (text row read : List ℕ) (whole : Bool) (follower : FollowerView) (old now : Option (List ℕ)) → AreCaptured number line text follower old now → HasNoLf row
    → read ≡ text ++ (row ++ lf_if whole) → WritesPrefix old now (capture_octets (captured_text number line read))
unread_captured number line text row read true follower old now are none all =
    let before = capture_octets (captured_rows number (first_known line (places_of_header line are.rows.are.header)) are.rows.are.rows) in
    subst (WritesPrefix old now) (sym (octets_with_row number line text row read follower old now are none all))
    (front_prefix old now before (capture_octets (captured_rows number follower.known (row ∷ []))) _ (whole_prefix old now before are.written) refl)
unread_captured number line text row read false follower old now are none all =
    whole_prefix old now (capture_octets (captured_text number line read))
    (end_captured number line text row read follower old now are none (all ∙ ap (λ (r : List ℕ). text ++ r) (append-nil row)))
