-- The progress of an operator's session: octets come, lines are answered one after another, and a write fails.
use Rattle.std.proofs.Common.{◌≡◌, ◌≢◌, ℕ, zero, suc, ◌≤◌, ◌<◌, Bool, true, false, not, ◌&&◌, ◌==◌, List, [], ◌∷◌, ◌++◌, map, length, take, Option, Result, Ok, Err, OnOk, OnErr, ok_or, if◌then◌else◌, inl, inr, refl, sym, ap, subst, ◌∙◌, arith, append_assoc, length-append}
use Rattle.std.specs.List.{AllByRecursion, concat, list_all}
use Rattle.std.specs.Io.KnownBytes.{Appends}
use Rattle.std.specs.Str.{is_utf8}
use Rattle.std.proofs.lemmas.Grind.{common_steps}
use Rattle.std.proofs.lemmas.Bool.{cases_lt, lt-ltb}
use Rattle.std.proofs.lemmas.List.{append-nil, length-take, map-append, nil_from_length, take_all}
use Rattle.dp_text.specs.Writes.{WritesPrefix}
use Rattle.dp_shared.specs.declared.line_view.PassView.{PassView}
use Rattle.rack_devices.specs.declared.driven_slave.DrivenSlave.{DrivenSlave}
use Rattle.dp_text.specs.declared.operator_line.LineFault.TheVariants as faults
use Rattle.dp_text.specs.OperatorLines.{asked_in, command_in}
use Rattle.dp_sessions.specs.Operators.{AreAnswered, AreBrokenOff, AreServed, BeginsWith, FallsInto, IsAnswered, IsDone, IsUnended, ended, line_feed}
use Rattle.dp_sessions.specs.Operating.{AreServedTo, BreaksOff, GoesOn, kept}
use Rattle.dp_sessions.proofs.Exchanging.{appends_more, appends_none, concat_append, cut_off_then}

-- ---- lines

line_parts : (lines : List (List ℕ)) (line : List ℕ) → concat (map ended (lines ++ line ∷ [])) ≡ concat (map ended lines) ++ (line ++ line_feed ∷ [])
line_parts lines line =
    ap concat (map-append ended lines (line ∷ []))
    ∙ concat_append (map ended lines) (ended line ∷ [])
    ∙ ap (λ t. concat (map ended lines) ++ t) (append-nil (ended line))

all_unended : (lines : List (List ℕ)) (line : List ℕ) → AllByRecursion IsUnended lines → IsUnended line → AllByRecursion IsUnended (lines ++ line ∷ [])
all_unended [] line all one = (one, tt)
all_unended (first ∷ lines) line all one = (all.0, all_unended lines line all.1 one)

and_more : (b x y : Bool) → (x ≡ true → y ≡ true) → (b && x) ≡ true → (b && y) ≡ true
and_more true x y f all = f all
and_more false x y f all = all

unended_more : (line : List ℕ) (octet : ℕ) → IsUnended line → (octet == line_feed) ≡ false → IsUnended (line ++ octet ∷ [])
unended_more [] octet before other = ap (λ b. not b && true) other
unended_more (first ∷ line) octet before other =
    and_more (not (first == line_feed)) (list_all (λ o. not (o == line_feed)) line) (list_all (λ o. not (o == line_feed)) (line ++ octet ∷ []))
    (λ all. unended_more line octet all other) before

-- ---- answers

pub answered_then : (driven : List DrivenSlave) (lines : List (List ℕ)) (line : List ℕ) (texts : List (List ℕ)) (text : List ℕ) (p q r : PassView)
    → AreAnswered driven lines p q texts → IsAnswered driven line q r text → AreAnswered driven (lines ++ line ∷ []) p r (texts ++ text ∷ [])
answered_then driven [] line texts text p q r first one =
    let here : IsAnswered driven line p r text = subst (λ w. IsAnswered driven line w r text) first.0 one in
    (r, text, [], ap (λ ts. ts ++ text ∷ []) first.1, here, (refl, refl))
answered_then driven (begun ∷ lines) line texts text p q r first one = (
  first.0,
  first.1,
  first.2 ++ text ∷ [],
  ap (λ ts. ts ++ text ∷ []) first.3,
  first.4,
  answered_then driven lines line first.2 text first.0 q r first.5 one,
)

-- ---- what is stored of a line

take_front : (n : ℕ) (xs ys : List ℕ) → take n (take n xs ++ ys) ≡ take n (xs ++ ys)
take_front zero xs ys = refl
take_front (suc n) [] ys = refl
take_front (suc n) (x ∷ xs) ys = ap (λ t. x ∷ t) (take_front n xs ys)

take_front_all : (xs ys : List ℕ) → take (length xs) (xs ++ ys) ≡ xs
take_front_all [] ys = refl
take_front_all (x ∷ xs) ys = ap (λ t. x ∷ t) (take_front_all xs ys)

pub short_of : (held : List ℕ) → length held ≤ 1025 → (length held == 1025) ≡ false → length held < 1025
short_of held fits short = grind (arith, common_steps, fits, short)

pub kept_room : (held : List ℕ) (octet : ℕ) → length held < 1025 → held ++ octet ∷ [] ≡ kept (held ++ octet ∷ [])
kept_room held octet room = sym (take_all 1025 (held ++ octet ∷ []) (omega (arith, room, length-append held (octet ∷ []))))

pub kept_full : (held : List ℕ) (octet : ℕ) → length held ≡ 1025 → held ≡ kept (held ++ octet ∷ [])
kept_full held octet full = sym (take_front_all held (octet ∷ [])) ∙ ap (λ n. take n (held ++ octet ∷ [])) full

kept_more : (held rest : List ℕ) (octet : ℕ) → held ≡ kept rest → kept (held ++ octet ∷ []) ≡ kept (rest ++ octet ∷ [])
kept_more held rest octet is = ap (λ h. kept (h ++ octet ∷ [])) is ∙ take_front 1025 rest (octet ∷ [])

long_command : (line : List ℕ) → 1024 < length line → Err faults.TooLong ≡ command_in line
long_command line long = sym (ap (λ b. if b then Err faults.TooLong else ok_or (asked_in (is_utf8 line) line) faults.NotACommand) (lt-ltb 1024 (length line) long))

kept_command : (line : List ℕ) → command_in (kept line) ≡ command_in line
kept_command line = elim (cases_lt 1024 (length line)) [
  | inl long ↦
      let long_too : 1024 < length (kept line) = omega (arith, long, length-take 1025 line) in
      sym (long_command (kept line) long_too) ∙ long_command line long
  | inr short ↦ ap command_in (take_all 1025 line (omega (arith, short)))
]

pub answered_kept : (driven : List DrivenSlave) (line held : List ℕ) (q r : PassView) (text : List ℕ) → held ≡ kept line → IsAnswered driven held q r text → IsAnswered driven line q r text
answered_kept driven line held q r text is answered = subst (λ c. IsDone driven c q r text) (ap command_in is ∙ kept_command line) answered

-- ---- what was served so far

pub served_start : (driven : List DrivenSlave) (held : List ℕ) (pass : PassView) (old : Option (List ℕ)) → held ≡ [] → AreServedTo driven [] held pass pass old old
served_start driven held pass old empty = record {
  lines = [];
  rest = [];
  parted = record { begins = record { whole = refl; unended = tt }; unended = refl };
  held_is = empty;
  texts = [];
  answered = (refl, refl);
  written = appends_none old;
}

-- an octet that is no LF
octet_served : (driven : List DrivenSlave) (held now : List ℕ) (octet : ℕ) (p : PassView) (old : Option (List ℕ))
    → (octet == line_feed) ≡ false → now ≡ kept (held ++ octet ∷ []) → GoesOn driven (octet ∷ []) held now p p old old
octet_served driven held now octet p old other is stream start first s = record {
  lines = s.lines;
  rest = s.rest ++ octet ∷ [];
  parted = record {
    begins = record {
      whole = ap (λ t. t ++ octet ∷ []) s.parted.begins.whole ∙ append_assoc (concat (map ended s.lines)) s.rest (octet ∷ []);
      unended = s.parted.begins.unended;
    };
    unended = unended_more s.rest octet s.parted.unended other;
  };
  held_is = is ∙ kept_more held s.rest octet s.held_is;
  texts = s.texts;
  answered = s.answered;
  written = s.written;
}

pub served_octet : (driven : List DrivenSlave) (held now : List ℕ) (octet : ℕ) (p q : PassView) (old : Option (List ℕ))
    → (octet == line_feed) ≡ false → q ≡ p → now ≡ kept (held ++ octet ∷ []) → GoesOn driven (octet ∷ []) held now p q old old
served_octet driven held now octet p q old other same is = subst (λ w. GoesOn driven (octet ∷ []) held now p w old old) (sym same) (octet_served driven held now octet p old other is)

pub not_ended : (octet : ℕ) → octet ≢ line_feed → (octet == line_feed) ≡ false
not_ended octet other = grind (arith, common_steps, other)

pub on_ok : {T E P Q : Type 0} (r : Result T E) → (P → Q) → OnOk r P → OnOk r Q
on_ok (Ok x) f p = f p
on_ok (Err e) f p = tt

pub both_ok : {T E P Q R : Type 0} (r : Result T E) → (P → Q → R) → OnOk r P → OnOk r Q → OnOk r R
both_ok (Ok x) f p q = f p q
both_ok (Err e) f p q = tt

pub both_failed : {T E P Q R : Type 0} (r : Result T E) → (P → Q → R) → OnErr r P → OnErr r Q → OnErr r R
both_failed (Ok x) f p q = tt
both_failed (Err e) f p q = f p q

pub on_failed : {T E P Q : Type 0} (r : Result T E) → (P → Q) → OnErr r P → OnErr r Q
on_failed (Ok x) f p = tt
on_failed (Err e) f p = f p

-- the line that was begun ends here
pub line_ends : (stream rest : List ℕ) (lines : List (List ℕ)) → FallsInto stream lines rest → BeginsWith (stream ++ line_feed ∷ []) (lines ++ rest ∷ []) []
line_ends stream rest lines parted = record {
  whole =
      ap (λ t. t ++ line_feed ∷ []) parted.begins.whole
      ∙ append_assoc (concat (map ended lines)) rest (line_feed ∷ [])
      ∙ sym (line_parts lines rest)
      ∙ sym (append-nil (concat (map ended (lines ++ rest ∷ []))));
  unended = all_unended lines rest parted.begins.unended parted.unended;
}

served_line : (driven : List DrivenSlave) (held now : List ℕ) (p q : PassView) (text : List ℕ) (old new : Option (List ℕ))
    → now ≡ [] → IsAnswered driven held p q text → Appends old new text → GoesOn driven (line_feed ∷ []) held now p q old new
served_line driven held now p q text old new empty answered written stream start first s = record {
  lines = s.lines ++ s.rest ∷ [];
  rest = [];
  parted = record { begins = line_ends stream s.rest s.lines s.parted; unended = refl };
  held_is = empty;
  texts = s.texts ++ text ∷ [];
  answered = answered_then driven s.lines s.rest s.texts text start p q s.answered (answered_kept driven s.rest held p q text s.held_is answered);
  written =
      subst (Appends first new) (sym (concat_append s.texts (text ∷ [])))
      (appends_more first old new (concat s.texts) (concat (text ∷ [])) s.written (subst (Appends old new) (sym (append-nil text)) written));
}

broken_line : (driven : List DrivenSlave) (held : List ℕ) (p q : PassView) (text : List ℕ) (old new : Option (List ℕ))
    → IsAnswered driven held p q text → WritesPrefix old new text → BreaksOff driven (line_feed ∷ []) held p q old new
broken_line driven held p q text old new answered failed stream start first s = record {
  lines = s.lines ++ s.rest ∷ [];
  others = [];
  begins = line_ends stream s.rest s.lines s.parted;
  texts = s.texts ++ text ∷ [];
  answered = answered_then driven s.lines s.rest s.texts text start p q s.answered (answered_kept driven s.rest held p q text s.held_is answered);
  written =
      cut_off_then first old new s.texts (text ∷ []) s.written
      (record { whole = []; last = text; texts_are = refl; between = old; written = appends_none old; failed = failed });
}

pub line_served : (driven : List DrivenSlave) (held now : List ℕ) (octet : ℕ) (p q : PassView) (text : List ℕ) (old new : Option (List ℕ))
    → octet ≡ line_feed → now ≡ [] → IsAnswered driven held p q text → Appends old new text → GoesOn driven (octet ∷ []) held now p q old new
line_served driven held now octet p q text old new is empty answered written =
    subst (λ o. GoesOn driven (o ∷ []) held now p q old new) (sym is) (served_line driven held now p q text old new empty answered written)

pub line_broken : (driven : List DrivenSlave) (held : List ℕ) (octet : ℕ) (p q : PassView) (text : List ℕ) (old new : Option (List ℕ))
    → octet ≡ line_feed → IsAnswered driven held p q text → WritesPrefix old new text → BreaksOff driven (octet ∷ []) held p q old new
line_broken driven held octet p q text old new is answered failed =
    subst (λ o. BreaksOff driven (o ∷ []) held p q old new) (sym is) (broken_line driven held p q text old new answered failed)

-- ---- octets, one after another

pub on_start : (driven : List DrivenSlave) (held : List ℕ) (p : PassView) (old : Option (List ℕ)) → GoesOn driven [] held held p p old old
on_start driven held p old stream start first s = subst (λ os. AreServedTo driven os held start p first old) (sym (append-nil stream)) s

pub on_more : (driven : List DrivenSlave) (octets more h k l : List ℕ) (p q r : PassView) (a b c : Option (List ℕ))
    → GoesOn driven octets h k p q a b → GoesOn driven more k l q r b c → GoesOn driven (octets ++ more) h l p r a c
on_more driven octets more h k l p q r a b c one other stream start first s =
    subst (λ os. AreServedTo driven os l start r first c) (append_assoc stream octets more) (other (stream ++ octets) start first (one stream start first s))

broken_more : (driven : List DrivenSlave) (stream more : List ℕ) (p q : PassView) (a b : Option (List ℕ)) → AreBrokenOff driven stream p q a b → AreBrokenOff driven (stream ++ more) p q a b
broken_more driven stream more p q a b s = record {
  lines = s.lines;
  others = s.others ++ more;
  begins = record {
    whole = ap (λ t. t ++ more) s.begins.whole ∙ append_assoc (concat (map ended s.lines)) s.others more;
    unended = s.begins.unended;
  };
  texts = s.texts;
  answered = s.answered;
  written = s.written;
}

pub breaks_more : (driven : List DrivenSlave) (octets one more h k : List ℕ) (p q r : PassView) (a b c : Option (List ℕ))
    → GoesOn driven octets h k p q a b → BreaksOff driven one k q r b c → BreaksOff driven (octets ++ (one ++ more)) h p r a c
breaks_more driven octets one more h k p q r a b c on off stream start first s =
    subst (λ os. AreBrokenOff driven os start r first c)
    (append_assoc (stream ++ octets) one more ∙ append_assoc stream octets (one ++ more))
    (broken_more driven ((stream ++ octets) ++ one) more start r first c (off (stream ++ octets) start first (on stream start first s)))

pub served_all : (driven : List DrivenSlave) (stream held : List ℕ) (p q : PassView) (a b : Option (List ℕ)) → AreServedTo driven stream held p q a b → AreServed driven stream p q a b
served_all driven stream held p q a b s = record {
  lines = s.lines;
  rest = s.rest;
  parted = s.parted;
  texts = s.texts;
  answered = s.answered;
  written = s.written;
}

-- no octet is left
pub goes_to : (driven : List DrivenSlave) (octets done left h k : List ℕ) (p q : PassView) (a b : Option (List ℕ))
    → octets ≡ done ++ left → length left ≡ 0 → GoesOn driven done h k p q a b → GoesOn driven octets h k p q a b
goes_to driven octets done left h k p q a b parts none on =
    subst (λ os. GoesOn driven os h k p q a b) (sym (parts ∙ ap (λ l. done ++ l) (nil_from_length left none) ∙ append-nil done)) on

-- the session breaks off at this octet
pub breaks_at : (driven : List DrivenSlave) (octets done left : List ℕ) (octet : ℕ) (more h k : List ℕ) (p q r : PassView) (a b c : Option (List ℕ))
    → octets ≡ done ++ left → left ≡ octet ∷ more → GoesOn driven done h k p q a b → BreaksOff driven (octet ∷ []) k q r b c → BreaksOff driven octets h p r a c
breaks_at driven octets done left octet more h k p q r a b c parts first on off =
    subst (λ os. BreaksOff driven os h p r a c) (sym (parts ∙ ap (λ l. done ++ l) first)) (breaks_more driven done (octet ∷ []) more h k p q r a b c on off)
