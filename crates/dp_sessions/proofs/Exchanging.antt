-- The progress of a session: octets come, pieces are exchanged one after another, and a write fails.
use Rattle.std.proofs.Common.{◌≡◌, ℕ, List, [], ◌∷◌, ◌++◌, map, length, take, drop, eqb, true, Option, Some, None, Result, Ok, Err, OnOk, OnErr, refl, sym, ap, subst, ◌∙◌, append_assoc}
use Rattle.std.specs.List.{concat}
use Rattle.std.specs.Io.KnownBytes.{Appends, Consumes, Keeps}
use Rattle.std.proofs.lemmas.List.{append-nil, map-append, nil_from_length, take-append-drop}
use Rattle.std.proofs.lemmas.Bool.{eqb-true}
use Rattle.dp_telegram.specs.declared.cutter.Cut.{Cut}
use Rattle.dp_telegram.specs.declared.cutter.Cut.TheVariants as pieces
use Rattle.dp_telegram.specs.Stream.{CutStream, CutsInto, cuts_of, uncut, with_cut}
use Rattle.dp_line.specs.declared.event.Event.TheVariants.{Request}
use Rattle.dp_text.specs.Writes.{WritesPrefix}
use Rattle.dp_audit.specs.declared.entry.Receipt.{Receipt}
use Rattle.dp_shared.specs.declared.line_view.PassView.{PassView}
use Rattle.dp_shared.specs.Passes.{with_receipt}
use Rattle.dp_sessions.specs.Sessions.{AreExchanged, AreReceivedBy, IsBrokenOff, IsCutOff, IsServed, IsReceivedBy, reply_in, requests_in, with_receipts}
use Rattle.dp_sessions.specs.SessionProgress.{IsBrokenIn, IsCutTo, IsServedTo, with_cuts}

-- ---- known octets

pub appends_none : (old : Option (List ℕ)) → Appends old old []
appends_none None = tt
appends_none (Some xs) = sym (append-nil xs)

pub appends_more : (a b c : Option (List ℕ)) (x y : List ℕ) → Appends a b x → Appends b c y → Appends a c (x ++ y)
appends_more None b c x y first second = tt
appends_more (Some xs) None c x y first second = absurd first
appends_more (Some xs) (Some ys) None x y first second = absurd second
appends_more (Some xs) (Some ys) (Some zs) x y first second = second ∙ ap (λ bs. bs ++ y) first ∙ append_assoc xs x y

pub consumes_none : (old : Option (List ℕ)) → Consumes old old []
consumes_none None = tt
consumes_none (Some xs) = refl

pub consumes_more : (a b c : Option (List ℕ)) (x y : List ℕ) → Consumes a b x → Consumes b c y → Consumes a c (x ++ y)
consumes_more None b c x y first second = tt
consumes_more (Some xs) None c x y first second = absurd first
consumes_more (Some xs) (Some ys) None x y first second = absurd second
consumes_more (Some xs) (Some ys) (Some zs) x y first second = first ∙ ap (λ bs. x ++ bs) second ∙ sym (append_assoc x y zs)

pub consumes_kept : (a b c : Option (List ℕ)) (x : List ℕ) → Consumes a b x → Keeps b c → Consumes a c x
consumes_kept None b c x first same = tt
consumes_kept (Some xs) None c x first same = absurd first
consumes_kept (Some xs) (Some ys) None x first same = absurd same
consumes_kept (Some xs) (Some ys) (Some zs) x first same = first ∙ ap (λ bs. x ++ bs) (sym same)

pub consumed_none : (a b : Option (List ℕ)) → Consumes a b [] → Keeps a b
consumed_none None b none = tt
consumed_none (Some xs) None none = absurd none
consumed_none (Some xs) (Some ys) none = sym none

pub keeps_same : (old : Option (List ℕ)) → Keeps old old
keeps_same None = tt
keeps_same (Some xs) = refl

pub concat_append : (first later : List (List ℕ)) → concat (first ++ later) ≡ concat first ++ concat later
concat_append [] later = refl
concat_append (x ∷ xs) later = ap (λ t. x ++ t) (concat_append xs later) ∙ sym (append_assoc x (concat xs) (concat later))

-- ---- exchanges, one after another

requests_append : (master : ℕ) (first later : List Cut) → requests_in master (first ++ later) ≡ requests_in master first ++ requests_in master later
requests_append master [] later = refl
requests_append master (pieces.Frame frame octets ∷ cuts) later = ap (λ es. Request master octets ∷ es) (requests_append master cuts later)
requests_append master (pieces.Dropped fault count ∷ cuts) later = requests_append master cuts later

receipts_append : (pass : PassView) (first later : List Receipt) → with_receipts pass (first ++ later) ≡ with_receipts (with_receipts pass first) later
receipts_append pass [] later = refl
receipts_append pass (receipt ∷ receipts) later = receipts_append (with_receipt pass receipt receipt.place) receipts later

seen_then : (pass : PassView) (receipts others : List Receipt) → AreReceivedBy pass receipts → AreReceivedBy (with_receipts pass receipts) others → AreReceivedBy pass (receipts ++ others)
seen_then pass [] others first second = second
seen_then pass (receipt ∷ receipts) others first second = (first.0, seen_then (with_receipt pass receipt receipt.place) receipts others first.1 second)

-- a piece without a request is exchanged by no receipt
pub none_exchanged : (master : ℕ) (cut : Cut) (pass : PassView) → requests_in master (cut ∷ []) ≡ [] → AreExchanged master (cut ∷ []) [] pass pass
none_exchanged master cut pass none = record { events = sym none; gained = refl; received = tt }

exchanged_then : (master : ℕ) (cuts more : List Cut) (receipts others : List Receipt) (p q r : PassView)
    → AreExchanged master cuts receipts p q → AreExchanged master more others q r → AreExchanged master (cuts ++ more) (receipts ++ others) p r
exchanged_then master cuts more receipts others p q r first second = record {
  events =
      map-append (λ (receipt : Receipt). receipt.event) receipts others
      ∙ ap (λ es. es ++ map (λ (receipt : Receipt). receipt.event) others) first.events
      ∙ ap (λ es. requests_in master cuts ++ es) second.events
      ∙ sym (requests_append master cuts more);
  gained = second.gained ∙ ap (λ w. with_receipts w others) first.gained ∙ sym (receipts_append p receipts others);
  received = seen_then p receipts others first.received (subst (λ w. AreReceivedBy w others) first.gained second.received);
}

replies_then : (a b c : Option (List ℕ)) (receipts others : List Receipt) → Appends a b (concat (map reply_in receipts)) → Appends b c (concat (map reply_in others))
    → Appends a c (concat (map reply_in (receipts ++ others)))
replies_then a b c receipts others first second =
    subst (Appends a c)
    (sym (concat_append (map reply_in receipts) (map reply_in others)) ∙ ap concat (sym (map-append reply_in receipts others)))
    (appends_more a b c (concat (map reply_in receipts)) (concat (map reply_in others)) first second)

pub cut_off_then : (a b c : Option (List ℕ)) (texts others : List (List ℕ)) → Appends a b (concat texts) → IsCutOff b c others → IsCutOff a c (texts ++ others)
cut_off_then a b c texts others first o = record {
  whole = texts ++ o.whole;
  last = o.last;
  texts_are = ap (λ ts. texts ++ ts) o.texts_are ∙ sym (append_assoc texts o.whole (o.last ∷ []));
  between = o.between;
  written = subst (Appends a o.between) (sym (concat_append texts o.whole)) (appends_more a b o.between (concat texts) (concat o.whole) first o.written);
  failed = o.failed;
}

-- ---- the cut of a stream so far

cut_none : (stream : List ℕ) → IsCutTo stream [] stream
cut_none stream = record { goes_on = λ more. refl }

cut_then : (stream ahead behind : List ℕ) (cuts more : List Cut) → IsCutTo stream cuts ahead → IsCutTo ahead more behind → IsCutTo stream (cuts ++ more) behind
cut_then stream ahead behind cuts more first second = record {
  goes_on = λ octets.
      first.goes_on octets
      ∙ ap (with_cuts cuts) (second.goes_on octets)
      ∙ ap (λ cs. let cut : CutStream = record { cuts = cs; rest = (cuts_of (behind ++ octets)).rest } in cut) (sym (append_assoc cuts more (cuts_of (behind ++ octets)).cuts));
}

cut_more : (stream ahead octets : List ℕ) (cuts : List Cut) → IsCutTo stream cuts ahead → IsCutTo (stream ++ octets) cuts (ahead ++ octets)
cut_more stream ahead octets cuts first = record {
  goes_on = λ more.
      ap cuts_of (append_assoc stream octets more)
      ∙ first.goes_on (octets ++ more)
      ∙ ap (λ os. with_cuts cuts (cuts_of os)) (sym (append_assoc ahead octets more));
}

-- ---- what was served so far

pub served_none : (master : ℕ) (stream : List ℕ) (pass : PassView) (old : Option (List ℕ)) → IsServedTo master stream stream pass pass old old
served_none master stream pass old = record {
  cuts = [];
  cut = cut_none stream;
  receipts = [];
  exchanged = record { events = refl; gained = refl; received = tt };
  written = appends_none old;
}

pub served_then : (master : ℕ) (stream ahead behind : List ℕ) (p q r : PassView) (a b c : Option (List ℕ))
    → IsServedTo master stream ahead p q a b → IsServedTo master ahead behind q r b c → IsServedTo master stream behind p r a c
served_then master stream ahead behind p q r a b c first second = record {
  cuts = first.cuts ++ second.cuts;
  cut = cut_then stream ahead behind first.cuts second.cuts first.cut second.cut;
  receipts = first.receipts ++ second.receipts;
  exchanged = exchanged_then master first.cuts second.cuts first.receipts second.receipts p q r first.exchanged second.exchanged;
  written = replies_then a b c first.receipts second.receipts first.written second.written;
}

pub broken_then : (master : ℕ) (stream ahead : List ℕ) (p q r : PassView) (a b c : Option (List ℕ))
    → IsServedTo master stream ahead p q a b → IsBrokenIn master ahead q r b c → IsBrokenIn master stream p r a c
broken_then master stream ahead p q r a b c first second = record {
  ahead = second.ahead;
  cuts = first.cuts ++ second.cuts;
  cut = cut_then stream ahead second.ahead first.cuts second.cuts first.cut second.cut;
  receipts = first.receipts ++ second.receipts;
  exchanged = exchanged_then master first.cuts second.cuts first.receipts second.receipts p q r first.exchanged second.exchanged;
  written =
      subst (IsCutOff a c) (sym (map-append reply_in first.receipts second.receipts))
      (cut_off_then a b c (map reply_in first.receipts) (map reply_in second.receipts) first.written second.written);
}

-- more octets come
pub served_more : (master : ℕ) (stream ahead octets : List ℕ) (p q : PassView) (a b : Option (List ℕ))
    → IsServedTo master stream ahead p q a b → IsServedTo master (stream ++ octets) (ahead ++ octets) p q a b
served_more master stream ahead octets p q a b first = record {
  cuts = first.cuts;
  cut = cut_more stream ahead octets first.cuts first.cut;
  receipts = first.receipts;
  exchanged = first.exchanged;
  written = first.written;
}

-- ---- one piece

-- one receipt for a frame and none for dropped octets; the reply is written
abbrev pub OnePiece : ℕ → Cut → PassView → PassView → Option (List ℕ) → Option (List ℕ) → Type 0
OnePiece master cut p q a b = (receipts : List Receipt) × AreExchanged master (cut ∷ []) receipts p q × Appends a b (concat (map reply_in receipts))

abbrev pub OneBroken : ℕ → Cut → PassView → PassView → Option (List ℕ) → Option (List ℕ) → Type 0
OneBroken master cut p q a b = (receipts : List Receipt) × AreExchanged master (cut ∷ []) receipts p q × IsCutOff a b (map reply_in receipts)

-- a frame's receipt
pub one_exchanged : (master : ℕ) (cut : Cut) (receipt : Receipt) (p q : PassView)
    → requests_in master (cut ∷ []) ≡ receipt.event ∷ [] → q ≡ with_receipt p receipt receipt.place → IsReceivedBy p receipt → AreExchanged master (cut ∷ []) (receipt ∷ []) p q
one_exchanged master cut receipt p q requested gained received = record { events = sym requested; gained = gained; received = (received, tt) }

pub one_written : {E : Type 0} (r : Result (Unit {0}) E) (master : ℕ) (cut : Cut) (receipt : Receipt) (p q : PassView) (a b : Option (List ℕ)) (text : List ℕ)
    → AreExchanged master (cut ∷ []) (receipt ∷ []) p q → text ≡ reply_in receipt → OnOk r (Appends a b text) → OnOk r (OnePiece master cut p q a b)
one_written (Ok done) master cut receipt p q a b text exchanged is written =
    (receipt ∷ [], exchanged, subst (Appends a b) (is ∙ sym (append-nil (reply_in receipt))) written)
one_written (Err fault) master cut receipt p q a b text exchanged is written = tt

pub one_broken : {E : Type 0} (r : Result (Unit {0}) E) (master : ℕ) (cut : Cut) (receipt : Receipt) (p q : PassView) (a b : Option (List ℕ)) (text : List ℕ)
    → AreExchanged master (cut ∷ []) (receipt ∷ []) p q → text ≡ reply_in receipt → OnErr r (WritesPrefix a b text) → OnErr r (OneBroken master cut p q a b)
one_broken (Ok done) master cut receipt p q a b text exchanged is failed = tt
one_broken (Err fault) master cut receipt p q a b text exchanged is failed = (
  receipt ∷ [],
  exchanged,
  record { whole = []; last = reply_in receipt; texts_are = refl; between = a; written = appends_none a; failed = subst (WritesPrefix a b) is failed },
)

-- the piece was cut off the octets held, of which `behind` is left
pub piece_served : (master same : ℕ) (stream held left behind : List ℕ) (cut : Cut) (p q r : PassView) (a b c : Option (List ℕ))
    → same ≡ master → IsServedTo master stream (held ++ left) p q a b → ((more : List ℕ) → cuts_of (held ++ more) ≡ with_cut cut (cuts_of (behind ++ more)))
    → OnePiece same cut q r b c → IsServedTo master stream (behind ++ left) p r a c
piece_served master same stream held left behind cut p q r a b c is first handed one =
    served_then master stream (held ++ left) (behind ++ left) p q r a b c first
    (served_more master held behind left q r b c
    (record {
      cuts = cut ∷ [];
      cut = record { goes_on = handed };
      receipts = one.0;
      exchanged = subst (λ m. AreExchanged m (cut ∷ []) one.0 q r) is one.1;
      written = one.2;
    }))

pub piece_broken : (master same : ℕ) (stream held left behind : List ℕ) (cut : Cut) (p q r : PassView) (a b c : Option (List ℕ))
    → same ≡ master → IsServedTo master stream (held ++ left) p q a b → ((more : List ℕ) → cuts_of (held ++ more) ≡ with_cut cut (cuts_of (behind ++ more)))
    → OneBroken same cut q r b c → IsBrokenIn master stream p r a c
piece_broken master same stream held left behind cut p q r a b c is first handed one =
    broken_then master stream (held ++ left) p q r a b c first
    (record {
      ahead = behind ++ left;
      cuts = cut ∷ [];
      cut = cut_more held behind left (cut ∷ []) (record { goes_on = handed });
      receipts = one.0;
      exchanged = subst (λ m. AreExchanged m (cut ∷ []) one.0 q r) is one.1;
      written = one.2;
    })

-- ---- the end of a stream

ended_at : (stream ahead : List ℕ) (cuts : List Cut) → IsCutTo stream cuts ahead → cuts_of stream ≡ with_cuts cuts (cuts_of ahead)
ended_at stream ahead cuts cut = ap cuts_of (sym (append-nil stream)) ∙ cut.goes_on [] ∙ ap (λ os. with_cuts cuts (cuts_of os)) (append-nil ahead)

into : (stream : List ℕ) (cut other : CutStream) → CutsInto stream cut.cuts cut.rest → cut ≡ other → CutsInto stream other.cuts other.rest
into stream cut other is same = subst (λ (c : CutStream). CutsInto stream c.cuts c.rest) same is

-- no piece is ahead
pub served_whole : (master : ℕ) (stream ahead : List ℕ) (p q : PassView) (a b : Option (List ℕ))
    → CutsInto stream (cuts_of stream).cuts (cuts_of stream).rest → IsServedTo master stream ahead p q a b → cuts_of ahead ≡ uncut ahead → IsServed master stream p q a b
served_whole master stream ahead p q a b whole first none = record {
  cuts = first.cuts ++ [];
  rest = ahead;
  cut = into stream (cuts_of stream) (with_cuts first.cuts (uncut ahead)) whole (ended_at stream ahead first.cuts first.cut ∙ ap (with_cuts first.cuts) none);
  receipts = first.receipts;
  exchanged = subst (λ cs. AreExchanged master cs first.receipts p q) (sym (append-nil first.cuts)) first.exchanged;
  written = first.written;
}

pub broken_off : (master : ℕ) (stream : List ℕ) (p q : PassView) (a b : Option (List ℕ))
    → CutsInto stream (cuts_of stream).cuts (cuts_of stream).rest → IsBrokenIn master stream p q a b → IsBrokenOff master stream p q a b
broken_off master stream p q a b whole first = record {
  first = first.cuts;
  later = (cuts_of first.ahead).cuts;
  rest = (cuts_of first.ahead).rest;
  cut = into stream (cuts_of stream) (with_cuts first.cuts (cuts_of first.ahead)) whole (ended_at stream first.ahead first.cuts first.cut);
  receipts = first.receipts;
  exchanged = first.exchanged;
  written = first.written;
}

-- the octets held are followed by those that are fed
pub fed : (held left : List ℕ) (count : ℕ) → (held ++ take count left) ++ drop count left ≡ held ++ left
fed held left count = append_assoc held (take count left) (drop count left) ∙ ap (λ os. held ++ os) (take-append-drop count left)

-- nothing is left
pub none_left : (held left : List ℕ) → eqb (length left) 0 ≡ true → held ++ left ≡ held
none_left held left none = ap (λ os. held ++ os) (nil_from_length left (eqb-true (length left) 0 none)) ∙ append-nil held

pub on_err : {T E P : Type 0} (r : Result T E) → P → OnErr r P
on_err (Ok x) p = tt
on_err (Err e) p = p
