-- The receipts that an operator's lines gain, while the gate records their places and the answers are written.
use Rattle.std.proofs.Common.{◌≡◌, ℕ, List, [], ◌∷◌, ◌++◌, map, Option, Some, None, Result, Ok, Err, OnOk, OnErr, inl, inr, refl, sym, ap, subst, ◌∙◌, append_assoc}
use Rattle.std.specs.Prelude.{IfSome}
use Rattle.std.specs.List.{concat}
use Rattle.std.specs.Io.KnownBytes.{Appends, Consumes, Keeps}
use Rattle.std.specs.Result.{result_and}
use Rattle.std.proofs.lemmas.List.{append-nil}
use Rattle.dp_text.specs.Writes.{WritesPrefix}
use Rattle.dp_audit.specs.declared.entry.Receipt.{Receipt}
use Rattle.dp_shared.specs.declared.line_view.PassView.{PassView}
use Rattle.dp_shared.specs.Passes.{with_receipt}
use Rattle.rack_devices.specs.declared.driven_slave.DrivenSlave.{DrivenSlave}
use Rattle.dp_sessions.specs.declared.session_end.SessionEnd.{SessionEnd}
use Rattle.dp_sessions.specs.declared.session_end.SessionEnd.TheVariants as ends
use Rattle.dp_sessions.specs.Operators.{IsAnswered, ended, line_feed}
use Rattle.dp_sessions.specs.Operating.{AreServedTo, GoesOn}
use Rattle.dp_sessions.specs.Recorded.{AnswersRecorded, HasOperatedRecorded}
use Rattle.dp_sessions.specs.Recording.{Gains, GainsRecorded, StopsAnswer, StopsOff}
use Rattle.dp_sessions.proofs.Exchanging.{concat_append, consumes_kept, consumes_more}
use Rattle.dp_sessions.proofs.Operating.{answered_kept, answered_then, line_ends}
use Rattle.dp_sessions.proofs.Listening.{IsListening}
use Rattle.dp_sessions.proofs.Recording.{each_and, gained_then, prefix_behind, whole_prefix}

-- ---- gains

pub gains_none : (recorded : ℕ → Type 0) (p q : PassView) → q.receipts ≡ p.receipts → GainsRecorded recorded p.receipts q.receipts
gains_none recorded p q same = record { receipts = []; gained = same ∙ sym (append-nil p.receipts); each = tt }

pub gains_then : (recorded : ℕ → Type 0) (xs ys zs : List Receipt) → GainsRecorded recorded xs ys → GainsRecorded recorded ys zs → GainsRecorded recorded xs zs
gains_then recorded xs ys zs first second = record {
  receipts = first.receipts ++ second.receipts;
  gained = gained_then xs ys zs first.receipts second.receipts first.gained second.gained;
  each = each_and recorded first.receipts second.receipts first.each second.each;
}

pub any_gains : (recorded : ℕ → Type 0) (xs ys : List Receipt) → GainsRecorded recorded xs ys → Gains xs ys
any_gains recorded xs ys gains = record { receipts = gains.receipts; gained = gains.gained }

pub any_then : (xs ys zs : List Receipt) → Gains xs ys → Gains ys zs → Gains xs zs
any_then xs ys zs first second =
    record { receipts = first.receipts ++ second.receipts; gained = gained_then xs ys zs first.receipts second.receipts first.gained second.gained }

one_any : (p q : PassView) (receipt : Receipt) (place : Option ℕ) → q ≡ with_receipt p receipt place → Gains p.receipts q.receipts
one_any p q receipt None is = record { receipts = []; gained = ap (λ (w : PassView). w.receipts) is ∙ sym (append-nil p.receipts) }
one_any p q receipt (Some k) is = record { receipts = receipt ∷ []; gained = ap (λ (w : PassView). w.receipts) is }

one_gain : (recorded : ℕ → Type 0) (p q : PassView) (receipt : Receipt) (place : Option ℕ) → receipt.place ≡ place → q ≡ with_receipt p receipt place → IfSome place recorded
    → GainsRecorded recorded p.receipts q.receipts
one_gain recorded p q receipt None placed is kept = record { receipts = []; gained = ap (λ (w : PassView). w.receipts) is ∙ sym (append-nil p.receipts); each = tt }
one_gain recorded p q receipt (Some k) placed is kept = record {
  receipts = receipt ∷ [];
  gained = ap (λ (w : PassView). w.receipts) is;
  each = (subst (λ (o : Option ℕ). IfSome o recorded) (sym placed) kept, tt);
}

-- one event, which the gate recorded or not
pub event_gains : {T E : Type 0} (r : Result T E) (recorded : ℕ → ℕ → Type 0) (line number : ℕ) (p q : PassView) (receipt : Receipt) → number ≡ line → q ≡ with_receipt p receipt receipt.place
    → OnOk r (IfSome receipt.place (recorded number)) → OnOk r (GainsRecorded (recorded line) p.receipts q.receipts)
event_gains (Ok x) recorded line number p q receipt same is kept =
    one_gain (recorded line) p q receipt receipt.place refl is (subst (λ n. IfSome receipt.place (recorded n)) same kept)
event_gains (Err e) recorded line number p q receipt same is kept = tt

pub event_any : {T E : Type 0} (r : Result T E) (p q : PassView) (receipt : Receipt) → q ≡ with_receipt p receipt receipt.place → OnErr r (Gains p.receipts q.receipts)
event_any (Ok x) p q receipt is = tt
event_any (Err e) p q receipt is = one_any p q receipt receipt.place is

-- gains from an earlier view on, whose receipts are the same
pub gains_from : {T E : Type 0} (r : Result T E) (recorded : ℕ → Type 0) (p start q : PassView) → start.receipts ≡ p.receipts
    → OnOk r (GainsRecorded recorded start.receipts q.receipts) → OnOk r (GainsRecorded recorded p.receipts q.receipts)
gains_from r recorded p start q same gains = subst (λ xs. OnOk r (GainsRecorded recorded xs q.receipts)) same gains

pub any_from : {T E : Type 0} (r : Result T E) (p start q : PassView) → start.receipts ≡ p.receipts → OnErr r (Gains start.receipts q.receipts) → OnErr r (Gains p.receipts q.receipts)
any_from r p start q same gains = subst (λ xs. OnErr r (Gains xs q.receipts)) same gains

-- gains so far, and those of one event more
pub and_gains : {T U E : Type 0} (r : Result T E) (s : Result U E) (recorded : ℕ → Type 0) (xs ys zs : List Receipt)
    → OnOk r (GainsRecorded recorded xs ys) → OnOk s (GainsRecorded recorded ys zs) → OnOk (result_and r s) (GainsRecorded recorded xs zs)
and_gains (Ok x) (Ok y) recorded xs ys zs first second = gains_then recorded xs ys zs first second
and_gains (Ok x) (Err e) recorded xs ys zs first second = tt
and_gains (Err e) s recorded xs ys zs first second = tt

pub either_gains : {T E : Type 0} (r : Result T E) (recorded : ℕ → Type 0) (xs ys : List Receipt)
    → OnOk r (GainsRecorded recorded xs ys) → OnErr r (Gains xs ys) → Gains xs ys
either_gains (Ok x) recorded xs ys all some = any_gains recorded xs ys all
either_gains (Err e) recorded xs ys all some = some

pub if_err : {T E P : Type 0} (r : Result T E) → P → OnErr r P
if_err (Ok x) p = tt
if_err (Err e) p = p

pub if_ok : {T E P : Type 0} (r : Result T E) → P → OnOk r P
if_ok (Ok x) p = p
if_ok (Err e) p = tt

-- ---- the end of a line

stopped_line : (driven : List DrivenSlave) (recorded : ℕ → Type 0) (held : List ℕ) (p q : PassView) (text : List ℕ) (old new : Option (List ℕ))
    → IsAnswered driven held p q text → WritesPrefix old new text → StopsAnswer recorded p.receipts q.receipts old new → StopsOff driven recorded (line_feed ∷ []) held p q old new
stopped_line driven recorded held p q text old new answered written (inl gains) stream start at_first s so_far = record {
  lines = s.lines ++ s.rest ∷ [];
  others = [];
  begins = line_ends stream s.rest s.lines s.parted;
  between = q;
  texts = s.texts ++ text ∷ [];
  answered = answered_then driven s.lines s.rest s.texts text start p q s.answered (answered_kept driven s.rest held p q text s.held_is answered);
  first = so_far.receipts ++ gains.receipts;
  gained = gained_then start.receipts p.receipts q.receipts so_far.receipts gains.receipts so_far.gained gains.gained;
  each = each_and recorded so_far.receipts gains.receipts so_far.each gains.each;
  later = [];
  gained_later = sym (append-nil q.receipts);
  written =
      subst (WritesPrefix at_first new) (sym (concat_append s.texts (text ∷ [])))
      (prefix_behind at_first old new (concat s.texts) (concat (text ∷ [])) s.written (subst (WritesPrefix old new) (sym (append-nil text)) written));
}
stopped_line driven recorded held p q text old new answered written (inr unrecorded) stream start at_first s so_far = record {
  lines = s.lines;
  others = s.rest ++ line_feed ∷ [];
  begins = record {
    whole = ap (λ t. t ++ line_feed ∷ []) s.parted.begins.whole ∙ append_assoc (concat (map ended s.lines)) s.rest (line_feed ∷ []);
    unended = s.parted.begins.unended;
  };
  between = p;
  texts = s.texts;
  answered = s.answered;
  first = so_far.receipts;
  gained = so_far.gained;
  each = so_far.each;
  later = unrecorded.0.receipts;
  gained_later = unrecorded.0.gained;
  written = whole_prefix at_first new (concat s.texts) (subst (λ w. Appends at_first w (concat s.texts)) (sym unrecorded.1) s.written);
}

pub line_stopped : (driven : List DrivenSlave) (recorded : ℕ → Type 0) (held : List ℕ) (octet : ℕ) (p q : PassView) (text : List ℕ) (old new : Option (List ℕ))
    → octet ≡ line_feed → IsAnswered driven held p q text → WritesPrefix old new text → StopsAnswer recorded p.receipts q.receipts old new
    → StopsOff driven recorded (octet ∷ []) held p q old new
line_stopped driven recorded held octet p q text old new is answered written stop =
    subst (λ o. StopsOff driven recorded (o ∷ []) held p q old new) (sym is) (stopped_line driven recorded held p q text old new answered written stop)

-- ---- octets, one after another

answers_more : (driven : List DrivenSlave) (recorded : ℕ → Type 0) (stream more : List ℕ) (p q : PassView) (a b : Option (List ℕ))
    → AnswersRecorded driven recorded stream p q a b → AnswersRecorded driven recorded (stream ++ more) p q a b
answers_more driven recorded stream more p q a b s = record {
  lines = s.lines;
  others = s.others ++ more;
  begins = record {
    whole = ap (λ t. t ++ more) s.begins.whole ∙ append_assoc (concat (map ended s.lines)) s.others more;
    unended = s.begins.unended;
  };
  between = s.between;
  texts = s.texts;
  answered = s.answered;
  first = s.first;
  gained = s.gained;
  each = s.each;
  later = s.later;
  gained_later = s.gained_later;
  written = s.written;
}

stops_more : (driven : List DrivenSlave) (recorded : ℕ → Type 0) (octets one more h k : List ℕ) (p q r : PassView) (a b c : Option (List ℕ))
    → GoesOn driven octets h k p q a b → GainsRecorded recorded p.receipts q.receipts → StopsOff driven recorded one k q r b c
    → StopsOff driven recorded (octets ++ (one ++ more)) h p r a c
stops_more driven recorded octets one more h k p q r a b c on gains off stream start first s each =
    subst (λ os. AnswersRecorded driven recorded os start r first c)
    (append_assoc (stream ++ octets) one more ∙ append_assoc stream octets (one ++ more))
    (answers_more driven recorded ((stream ++ octets) ++ one) more start r first c
    (off (stream ++ octets) start first (on stream start first s) (gains_then recorded start.receipts p.receipts q.receipts each gains)))

-- the answers stop at this octet
pub stops_at : (driven : List DrivenSlave) (recorded : ℕ → Type 0) (octets done left : List ℕ) (octet : ℕ) (more h k : List ℕ) (p q r : PassView) (a b c : Option (List ℕ))
    → octets ≡ done ++ left → left ≡ octet ∷ more → GoesOn driven done h k p q a b → GainsRecorded recorded p.receipts q.receipts → StopsOff driven recorded (octet ∷ []) k q r b c
    → StopsOff driven recorded octets h p r a c
stops_at driven recorded octets done left octet more h k p q r a b c parts first on gains off =
    subst (λ os. StopsOff driven recorded os h p r a c) (sym (parts ∙ ap (λ l. done ++ l) first)) (stops_more driven recorded done (octet ∷ []) more h k p q r a b c on gains off)

-- the same slaves, and the same line
pub stops_off_as : (driven same : List DrivenSlave) (recorded : ℕ → ℕ → Type 0) (line number : ℕ) (octets held : List ℕ) (p q : PassView) (a b : Option (List ℕ))
    → same ≡ driven → number ≡ line → StopsOff same (recorded number) octets held p q a b → StopsOff driven (recorded line) octets held p q a b
stops_off_as driven same recorded line number octets held p q a b slaves is stop =
    subst (λ d. StopsOff d (recorded line) octets held p q a b) slaves (subst (λ n. StopsOff same (recorded n) octets held p q a b) is stop)

pub gains_as : (recorded : ℕ → ℕ → Type 0) (line number : ℕ) (xs ys : List Receipt) → number ≡ line → GainsRecorded (recorded number) xs ys → GainsRecorded (recorded line) xs ys
gains_as recorded line number xs ys is gains = subst (λ n. GainsRecorded (recorded n) xs ys) is gains

pub ok_gains_as : {T E : Type 0} (r : Result T E) (recorded : ℕ → ℕ → Type 0) (line number : ℕ) (xs ys : List Receipt) → number ≡ line
    → OnOk r (GainsRecorded (recorded number) xs ys) → OnOk r (GainsRecorded (recorded line) xs ys)
ok_gains_as r recorded line number xs ys is gains = subst (λ n. OnOk r (GainsRecorded (recorded n) xs ys)) is gains

-- ---- the end of a session

answers_all : (driven : List DrivenSlave) (recorded : ℕ → Type 0) (stream held : List ℕ) (p q : PassView) (a b : Option (List ℕ))
    → AreServedTo driven stream held p q a b → GainsRecorded recorded p.receipts q.receipts → (answers : AnswersRecorded driven recorded stream p q a b) × (answers.later ≡ [])
answers_all driven recorded stream held p q a b s so_far = (
  record {
    lines = s.lines;
    others = s.rest;
    begins = s.parted.begins;
    between = q;
    texts = s.texts;
    answered = s.answered;
    first = so_far.receipts;
    gained = so_far.gained;
    each = so_far.each;
    later = [];
    gained_later = sym (append-nil q.receipts);
    written = whole_prefix a b (concat s.texts) s.written;
  },
  refl,
)

pub recorded_all : (end : SessionEnd) (driven : List DrivenSlave) (recorded : ℕ → Type 0) (reads : ℕ) (held : List ℕ) (p q : PassView) (l now then a b : Option (List ℕ))
    → IsListening driven reads held p q l now a b → GainsRecorded recorded p.receipts q.receipts → Keeps now then
    → HasOperatedRecorded driven recorded (record { left = l; left_after = then; written = a; written_after = b }) p q end
recorded_all end driven recorded reads held p q l now then a b way each kept =
    let answered = answers_all driven recorded way.stream held p q a b way.served each in
    record { stream = way.stream; read = consumes_kept l now then way.stream way.read kept; answers = answered.0; all = inl answered.1 }

pub recorded_first : (driven : List DrivenSlave) (recorded : ℕ → Type 0) (reads : ℕ) (held octets : List ℕ) (p q r : PassView) (l now then a b c : Option (List ℕ))
    → IsListening driven reads held p q l now a b → GainsRecorded recorded p.receipts q.receipts → Consumes now then octets → StopsOff driven recorded octets held q r b c
    → HasOperatedRecorded driven recorded (record { left = l; left_after = then; written = a; written_after = c }) p r ends.WriteFault
recorded_first driven recorded reads held octets p q r l now then a b c way each read stop = record {
  stream = way.stream ++ octets;
  read = consumes_more l now then way.stream octets way.read read;
  answers = stop way.stream p a way.served each;
  all = inr refl;
}
