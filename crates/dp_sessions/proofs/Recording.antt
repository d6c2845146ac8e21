-- The receipts that a pass gains, while the gate records their places and their replies are written.
use Rattle.std.proofs.Common.{◌≡◌, ℕ, List, [], ◌∷◌, ◌++◌, map, Option, Some, None, Result, Ok, Err, OnOk, OnErr, inl, inr, refl, sym, ap, subst, ◌∙◌, append_assoc}
use Rattle.std.specs.Prelude.{IfNone, IfSome}
use Rattle.std.specs.List.{concat}
use Rattle.std.specs.Io.KnownBytes.{Appends}
use Rattle.std.proofs.lemmas.List.{append-nil, map-append}
use Rattle.dp_responder.specs.declared.rule.Rule.TheVariants as rules
use Rattle.dp_line.specs.declared.event.Outcome.TheVariants.{Silence}
use Rattle.dp_text.specs.Writes.{WritesPrefix}
use Rattle.dp_audit.specs.declared.entry.Receipt.{Receipt}
use Rattle.dp_shared.specs.declared.line_view.PassView.{PassView}
use Rattle.dp_shared.specs.Passes.{with_receipt}
use Rattle.dp_sessions.specs.declared.session_end.SessionEnd.{SessionEnd}
use Rattle.dp_sessions.specs.declared.session_end.SessionEnd.TheVariants as ends
use Rattle.dp_sessions.specs.Recorded.{AreRecorded, WritesRecorded}
use Rattle.dp_sessions.specs.Recording.{RepliesRecorded, StopsRecorded}
use Rattle.dp_sessions.specs.Sessions.{IsCutOff, acceptance, octets_of, reply_in}
use Rattle.dp_sessions.proofs.Exchanging.{appends_more, appends_none, concat_append}

-- ---- what is written

pub whole_prefix : (a b : Option (List ℕ)) (x : List ℕ) → Appends a b x → WritesPrefix a b x
whole_prefix a b x written = (x, [], sym (append-nil x), written)

pub none_prefix : (a : Option (List ℕ)) (x : List ℕ) → WritesPrefix a a x
none_prefix a x = ([], x, refl, appends_none a)

pub prefix_behind : (a b c : Option (List ℕ)) (x y : List ℕ) → Appends a b x → WritesPrefix b c y → WritesPrefix a c (x ++ y)
prefix_behind a b c x y written (front, back, split, appends) =
    (x ++ front, back, ap (λ t. x ++ t) split ∙ sym (append_assoc x front back), appends_more a b c x front written appends)

-- ---- receipts, one after another

pub each_and : (recorded : ℕ → Type 0) (xs ys : List Receipt) → AreRecorded recorded xs → AreRecorded recorded ys → AreRecorded recorded (xs ++ ys)
each_and recorded [] ys first second = second
each_and recorded (x ∷ xs) ys first second = (first.0, each_and recorded xs ys first.1 second)

pub gained_then : (a b c xs ys : List Receipt) → b ≡ a ++ xs → c ≡ b ++ ys → c ≡ a ++ (xs ++ ys)
gained_then a b c xs ys first second = second ∙ ap (λ l. l ++ ys) first ∙ append_assoc a xs ys

replies_append : (xs ys : List Receipt) → concat (map reply_in xs) ++ concat (map reply_in ys) ≡ concat (map reply_in (xs ++ ys))
replies_append xs ys = sym (concat_append (map reply_in xs) (map reply_in ys)) ∙ ap concat (sym (map-append reply_in xs ys))

pub replies_none : (recorded : ℕ → Type 0) (xs : List Receipt) (a : Option (List ℕ)) → RepliesRecorded recorded xs xs a a
replies_none recorded xs a = record { receipts = []; gained = sym (append-nil xs); each = tt; written = appends_none a }

pub replies_then : (recorded : ℕ → Type 0) (xs ys zs : List Receipt) (a b c : Option (List ℕ))
    → RepliesRecorded recorded xs ys a b → RepliesRecorded recorded ys zs b c → RepliesRecorded recorded xs zs a c
replies_then recorded xs ys zs a b c first second = record {
  receipts = first.receipts ++ second.receipts;
  gained = gained_then xs ys zs first.receipts second.receipts first.gained second.gained;
  each = each_and recorded first.receipts second.receipts first.each second.each;
  written =
      subst (Appends a c) (replies_append first.receipts second.receipts)
      (appends_more a b c (concat (map reply_in first.receipts)) (concat (map reply_in second.receipts)) first.written second.written);
}

pub stops_then : (recorded : ℕ → Type 0) (xs ys zs : List Receipt) (a b c : Option (List ℕ))
    → RepliesRecorded recorded xs ys a b → StopsRecorded recorded ys zs b c → StopsRecorded recorded xs zs a c
stops_then recorded xs ys zs a b c begun stop = record {
  first = begun.receipts ++ stop.first;
  later = stop.later;
  gained = gained_then xs ys zs begun.receipts (stop.first ++ stop.later) begun.gained stop.gained ∙ ap (λ l. xs ++ l) (sym (append_assoc begun.receipts stop.first stop.later));
  each = each_and recorded begun.receipts stop.first begun.each stop.each;
  written =
      subst (WritesPrefix a c) (replies_append begun.receipts stop.first)
      (prefix_behind a b c (concat (map reply_in begun.receipts)) (concat (map reply_in stop.first)) begun.written stop.written);
}

-- ---- one frame

-- a receipt without a place has no reply
abbrev pub IsSilentUnplaced : Receipt → Option ℕ → Type 0
IsSilentUnplaced receipt place = IfNone place (reply_in receipt ≡ [])

pub silent_unplaced : (receipt : Receipt) (place : Option ℕ) → IfNone place ((receipt.facts ≡ None) × (receipt.outcome ≡ Silence rules.Halted)) → IsSilentUnplaced receipt place
silent_unplaced receipt None halted = ap octets_of halted.1
silent_unplaced receipt (Some k) halted = tt

one_reply : (recorded : ℕ → Type 0) (p q : PassView) (receipt : Receipt) (place : Option ℕ) (a b : Option (List ℕ))
    → receipt.place ≡ place → q ≡ with_receipt p receipt place → IsSilentUnplaced receipt place → IfSome place recorded → Appends a b (reply_in receipt)
    → RepliesRecorded recorded p.receipts q.receipts a b
one_reply recorded p q receipt None a b placed is silent kept written = record {
  receipts = [];
  gained = ap (λ (w : PassView). w.receipts) is ∙ sym (append-nil p.receipts);
  each = tt;
  written = subst (Appends a b) silent written;
}
one_reply recorded p q receipt (Some k) a b placed is silent kept written = record {
  receipts = receipt ∷ [];
  gained = ap (λ (w : PassView). w.receipts) is;
  each = (subst (λ (o : Option ℕ). IfSome o recorded) (sym placed) kept, tt);
  written = subst (Appends a b) (sym (append-nil (reply_in receipt))) written;
}

one_stop : (recorded : ℕ → Type 0) (p q : PassView) (receipt : Receipt) (place : Option ℕ) (a b : Option (List ℕ))
    → receipt.place ≡ place → q ≡ with_receipt p receipt place → IsSilentUnplaced receipt place → IfSome place recorded → WritesPrefix a b (reply_in receipt)
    → StopsRecorded recorded p.receipts q.receipts a b
one_stop recorded p q receipt None a b placed is silent kept written = record {
  first = [];
  later = [];
  gained = ap (λ (w : PassView). w.receipts) is ∙ sym (append-nil p.receipts);
  each = tt;
  written = subst (WritesPrefix a b) silent written;
}
one_stop recorded p q receipt (Some k) a b placed is silent kept written = record {
  first = receipt ∷ [];
  later = [];
  gained = ap (λ (w : PassView). w.receipts) is;
  each = (subst (λ (o : Option ℕ). IfSome o recorded) (sym placed) kept, tt);
  written = subst (WritesPrefix a b) (sym (append-nil (reply_in receipt))) written;
}

one_unrecorded : (recorded : ℕ → Type 0) (p q : PassView) (receipt : Receipt) (place : Option ℕ) (a : Option (List ℕ))
    → q ≡ with_receipt p receipt place → StopsRecorded recorded p.receipts q.receipts a a
one_unrecorded recorded p q receipt None a is =
    record { first = []; later = []; gained = ap (λ (w : PassView). w.receipts) is ∙ sym (append-nil p.receipts); each = tt; written = none_prefix a [] }
one_unrecorded recorded p q receipt (Some k) a is =
    record { first = []; later = receipt ∷ []; gained = ap (λ (w : PassView). w.receipts) is; each = tt; written = none_prefix a [] }

-- the reply is written, or not written whole, once its place is recorded
pub reply_written : {F : Type 0} (s : Result (Unit {0}) F) (recorded : ℕ → Type 0) (p q : PassView) (receipt : Receipt) (a b : Option (List ℕ)) (text : List ℕ)
    → q ≡ with_receipt p receipt receipt.place → IsSilentUnplaced receipt receipt.place → IfSome receipt.place recorded → text ≡ reply_in receipt
    → OnOk s (Appends a b text) → OnOk s (RepliesRecorded recorded p.receipts q.receipts a b)
reply_written (Ok done) recorded p q receipt a b text is silent kept same written =
    one_reply recorded p q receipt receipt.place a b refl is silent kept (subst (Appends a b) same written)
reply_written (Err fault) recorded p q receipt a b text is silent kept same written = tt

pub reply_stopped : {F : Type 0} (s : Result (Unit {0}) F) (recorded : ℕ → Type 0) (p q : PassView) (receipt : Receipt) (a b : Option (List ℕ)) (text : List ℕ)
    → q ≡ with_receipt p receipt receipt.place → IsSilentUnplaced receipt receipt.place → IfSome receipt.place recorded → text ≡ reply_in receipt
    → OnErr s (WritesPrefix a b text) → OnErr s (StopsRecorded recorded p.receipts q.receipts a b)
reply_stopped (Ok done) recorded p q receipt a b text is silent kept same written = tt
reply_stopped (Err fault) recorded p q receipt a b text is silent kept same written =
    one_stop recorded p q receipt receipt.place a b refl is silent kept (subst (WritesPrefix a b) same written)

pub reply_unrecorded : (recorded : ℕ → Type 0) (p q : PassView) (receipt : Receipt) (a : Option (List ℕ))
    → q ≡ with_receipt p receipt receipt.place → StopsRecorded recorded p.receipts q.receipts a a
reply_unrecorded recorded p q receipt a is = one_unrecorded recorded p q receipt receipt.place a is

-- no octet of a reply is written
pub unwritten : (a : Option (List ℕ)) (receipt : Receipt) → IsCutOff a a (map reply_in (receipt ∷ []))
unwritten a receipt = record { whole = []; last = reply_in receipt; texts_are = refl; between = a; written = appends_none a; failed = none_prefix a (reply_in receipt) }

-- the number of the line is the same
pub replies_as : (recorded : ℕ → ℕ → Type 0) (line number : ℕ) (xs ys : List Receipt) (a b : Option (List ℕ)) → number ≡ line
    → RepliesRecorded (recorded number) xs ys a b → RepliesRecorded (recorded line) xs ys a b
replies_as recorded line number xs ys a b is all = subst (λ n. RepliesRecorded (recorded n) xs ys a b) is all

pub stops_as : (recorded : ℕ → ℕ → Type 0) (line number : ℕ) (xs ys : List Receipt) (a b : Option (List ℕ)) → number ≡ line
    → StopsRecorded (recorded number) xs ys a b → StopsRecorded (recorded line) xs ys a b
stops_as recorded line number xs ys a b is stop = subst (λ n. StopsRecorded (recorded n) xs ys a b) is stop

-- ---- ends

pub writes_all : (recorded : ℕ → Type 0) (xs ys : List Receipt) (a b : Option (List ℕ)) (end : SessionEnd)
    → RepliesRecorded recorded xs ys a b → WritesRecorded recorded [] xs ys a b end
writes_all recorded xs ys a b end replied = record {
  first = replied.receipts;
  later = [];
  gained = replied.gained ∙ ap (λ l. xs ++ l) (sym (append-nil replied.receipts));
  each = replied.each;
  written = whole_prefix a b (concat (map reply_in replied.receipts)) replied.written;
  all = inl refl;
}

pub writes_stopped : (recorded : ℕ → Type 0) (xs ys : List Receipt) (a b : Option (List ℕ))
    → StopsRecorded recorded xs ys a b → WritesRecorded recorded [] xs ys a b ends.WriteFault
writes_stopped recorded xs ys a b stop =
    record { first = stop.first; later = stop.later; gained = stop.gained; each = stop.each; written = stop.written; all = inr refl }

-- the acceptance is written first
pub accepts_first : (recorded : ℕ → Type 0) (xs ys : List Receipt) (a b c : Option (List ℕ)) (end : SessionEnd)
    → Appends a b acceptance → WritesRecorded recorded [] xs ys b c end → WritesRecorded recorded acceptance xs ys a c end
accepts_first recorded xs ys a b c end accepted writes = record {
  first = writes.first;
  later = writes.later;
  gained = writes.gained;
  each = writes.each;
  written = prefix_behind a b c acceptance (concat (map reply_in writes.first)) accepted writes.written;
  all = writes.all;
}

pub accepts_not : (recorded : ℕ → Type 0) (xs : List Receipt) (a b : Option (List ℕ)) → WritesPrefix a b acceptance → WritesRecorded recorded acceptance xs xs a b ends.WriteFault
accepts_not recorded xs a b written = record { first = []; later = []; gained = sym (append-nil xs); each = tt; written = written; all = inr refl }
