-- The requests that are noted for slaves and masters.
use Rattle.std.proofs.Common.{◌≡◌, ℕ, Bool, true, false, cond, eqb, List, [], ◌∷◌, map, Option, Some, None, refl, sym, ap, subst, ◌∙◌}
use Rattle.std.specs.Prelude.{◌||◌, ◌&&◌, find, is_some}
use Rattle.std.specs.Option.{option_map_or}
use Rattle.std.specs.List.{list_any}
use Rattle.std.proofs.lemmas.Bool.{and_from, and_parts, both_ways, cond-false, cond-true, eqb-true, eq-eqb}
use Rattle.std.proofs.lemmas.List.Concat.{flat_map-cons}
use Rattle.std.proofs.lemmas.List.Folds.{list_any-append}
use Rattle.arrayvec.specs.ArrayVec.{ArrayVec}
use Rattle.dp_telegram.specs.declared.frame.Telegram.{Telegram}
use Rattle.dp_telegram.specs.Access.{address_of}
use Rattle.dp_telegram.specs.FunctionCode.{asks_srd, function_of}
use Rattle.dp_responder.specs.declared.rule.Rule.{Rule}
use Rattle.dp_slave.specs.declared.description.SlaveSpec.{SlaveSpec}
use Rattle.dp_line.specs.declared.event.Event.{Event}
use Rattle.dp_line.specs.declared.event.Event.TheVariants.{Request}
use Rattle.dp_line.specs.declared.event.Outcome.{Outcome}
use Rattle.dp_line.specs.declared.event.Outcome.TheVariants.{Reply}
use Rattle.dp_line.specs.World.{described_at}
use Rattle.dp_line.specs.Hearing.{telegram_spelt}
use Rattle.explain_events.specs.declared.notes.Noted.{Noted}
use Rattle.explain_events.specs.Notes.{first_notes, is_judged_anew, is_note_of, note_of, noted_at, noted_telegram, notes_after, unnoted}
use Rattle.explain_texts.specs.Repeats.{is_replied_anew, is_srd_to}

-- there is a note for the slave and the master
abbrev pub has_note : List Noted → ℕ → ℕ → Bool
has_note notes slave master = is_some (note_of notes slave master)

-- a note with another request
abbrev renoted : ℕ → ArrayVec ℕ → Noted → Noted
renoted place octets noted = record noted { place = place; octets = octets }

-- ---- an event leaves a note for each slave and master that had one

either_found : (b : Bool) (one other : Noted) (found : Option Noted) → is_some (cond b (Some one) found) ≡ is_some (cond b (Some other) found)
either_found true one other found = refl
either_found false one other found = refl

later_found : (b : Bool) (first : Noted) (found later : Option Noted) → is_some later ≡ is_some found → is_some (cond b (Some first) later) ≡ is_some (cond b (Some first) found)
later_found true first found later same = refl
later_found false first found later same = same

has_by : (slave master place : ℕ) (octets : ArrayVec ℕ) (first : Noted) (notes later : List Noted) (b : Bool) → has_note later slave master ≡ has_note notes slave master
    → has_note (cond b (renoted place octets first ∷ notes) (first ∷ later)) slave master ≡ has_note (first ∷ notes) slave master
has_by slave master place octets first notes later true same = either_found (is_note_of slave master first) (renoted place octets first) first (note_of notes slave master)
has_by slave master place octets first notes later false same = later_found (is_note_of slave master first) first (note_of notes slave master) (note_of later slave master) same

has_at : (slave master da sender place : ℕ) (octets : ArrayVec ℕ) (notes : List Noted) → has_note (noted_at da sender place octets notes) slave master ≡ has_note notes slave master
has_at slave master da sender place octets [] = refl
has_at slave master da sender place octets (first ∷ notes) =
    has_by slave master place octets first notes (noted_at da sender place octets notes) (is_note_of da sender first) (has_at slave master da sender place octets notes)

has_where : (slave master : ℕ) (changed notes : List Noted) (b : Bool) → has_note changed slave master ≡ has_note notes slave master → has_note (cond b changed notes) slave master ≡ has_note notes slave master
has_where slave master changed notes true same = same
has_where slave master changed notes false same = refl

has_telegram : (slave master place sender : ℕ) (octets : ArrayVec ℕ) (notes : List Noted) (rule : Rule) (telegram : Option Telegram)
    → has_note (noted_telegram notes place sender octets rule telegram) slave master ≡ has_note notes slave master
has_telegram slave master place sender octets notes rule None = refl
has_telegram slave master place sender octets notes rule (Some telegram) =
    has_where slave master (noted_at (address_of telegram.da) sender place octets notes) notes (is_judged_anew rule && asks_srd (function_of telegram.fc))
    (has_at slave master (address_of telegram.da) sender place octets notes)

pub has_after : (slave master place : ℕ) (notes : List Noted) (event : Event) (outcome : Outcome) → has_note (notes_after notes place event outcome) slave master ≡ has_note notes slave master
has_after slave master place notes (Request sender octets) (Reply reply rule) = has_telegram slave master place sender octets notes rule (telegram_spelt octets.items)
has_after slave master place notes event outcome = refl

-- ---- another slave, or another master

not_true : (b : Bool) → (b ≡ true → ⊥) → b ≡ false
not_true true none = absurd (none refl)
not_true false none = refl

-- a note is for one slave and one master
note_apart : (slave master da sender : ℕ) (noted : Noted) → (da ≡ slave → sender ≡ master → ⊥) → is_note_of da sender noted ≡ true → is_note_of slave master noted ≡ false
note_apart slave master da sender noted apart is =
    let one = and_parts (eqb noted.slave da) (eqb noted.master sender) is in
    not_true (is_note_of slave master noted) (λ same.
    let other = and_parts (eqb noted.slave slave) (eqb noted.master master) same in
    apart (sym (eqb-true noted.slave da one.0) ∙ eqb-true noted.slave slave other.0) (sym (eqb-true noted.master sender one.1) ∙ eqb-true noted.master master other.1))

kept_by : (slave master da sender place : ℕ) (octets : ArrayVec ℕ) (first : Noted) (notes later : List Noted) (b : Bool) → is_note_of da sender first ≡ b → (da ≡ slave → sender ≡ master → ⊥)
    → note_of later slave master ≡ note_of notes slave master → note_of (cond b (renoted place octets first ∷ notes) (first ∷ later)) slave master ≡ note_of (first ∷ notes) slave master
kept_by slave master da sender place octets first notes later true is apart same =
    let other = note_apart slave master da sender first apart is in
    cond-false (is_note_of slave master first) (Some (renoted place octets first)) (note_of notes slave master) other
    ∙ sym (cond-false (is_note_of slave master first) (Some first) (note_of notes slave master) other)
kept_by slave master da sender place octets first notes later false is apart same = ap (cond (is_note_of slave master first) (Some first)) same

note_kept : (slave master da sender place : ℕ) (octets : ArrayVec ℕ) (notes : List Noted) → (da ≡ slave → sender ≡ master → ⊥) → note_of (noted_at da sender place octets notes) slave master ≡ note_of notes slave master
note_kept slave master da sender place octets [] apart = refl
note_kept slave master da sender place octets (first ∷ notes) apart =
    kept_by slave master da sender place octets first notes (noted_at da sender place octets notes) (is_note_of da sender first) refl apart
    (note_kept slave master da sender place octets notes apart)

anew_apart : (sender master : ℕ) (anew srd : Bool) (da slave : ℕ) → (eqb sender master && anew && (srd && eqb da slave)) ≡ false → (anew && srd) ≡ true → da ≡ slave → sender ≡ master → ⊥
anew_apart sender master anew srd da slave none is to from =
    let both = and_parts anew srd is in
    both_ways (eqb sender master && anew && (srd && eqb da slave)) none
    (and_from (eqb sender master && anew) (srd && eqb da slave) (and_from (eqb sender master) anew (eq-eqb sender master from) both.0) (and_from srd (eqb da slave) both.1 (eq-eqb da slave to)))

note_by : (slave master da sender place : ℕ) (octets : ArrayVec ℕ) (notes : List Noted) (b : Bool) → (b ≡ true → da ≡ slave → sender ≡ master → ⊥)
    → note_of (cond b (noted_at da sender place octets notes) notes) slave master ≡ note_of notes slave master
note_by slave master da sender place octets notes true apart = note_kept slave master da sender place octets notes (apart refl)
note_by slave master da sender place octets notes false apart = refl

note_telegram : (slave master place sender : ℕ) (octets : ArrayVec ℕ) (notes : List Noted) (rule : Rule) (telegram : Option Telegram)
    → (eqb sender master && is_judged_anew rule && option_map_or (is_srd_to slave) telegram false) ≡ false
    → note_of (noted_telegram notes place sender octets rule telegram) slave master ≡ note_of notes slave master
note_telegram slave master place sender octets notes rule None none = refl
note_telegram slave master place sender octets notes rule (Some telegram) none =
    note_by slave master (address_of telegram.da) sender place octets notes (is_judged_anew rule && asks_srd (function_of telegram.fc))
    (anew_apart sender master (is_judged_anew rule) (asks_srd (function_of telegram.fc)) (address_of telegram.da) slave none)

pub note_left : (slave master place : ℕ) (notes : List Noted) (event : Event) (outcome : Outcome) → is_replied_anew slave master event outcome ≡ false
    → note_of (notes_after notes place event outcome) slave master ≡ note_of notes slave master
note_left slave master place notes (Request sender octets) (Reply reply rule) none = note_telegram slave master place sender octets notes rule (telegram_spelt octets.items) none
note_left slave master place notes event outcome none = refl

-- ---- this slave and this master

-- this request is noted for the slave and the master
pub record IsNoted (notes : List Noted) (slave master place : ℕ) (octets : ArrayVec ℕ) : Type 0 where
  pub note : Noted
  pub found : note_of notes slave master ≡ Some note
  pub at : note.place ≡ place
  pub spelt : note.octets ≡ octets

new_by : (slave master place : ℕ) (octets : ArrayVec ℕ) (first : Noted) (notes later : List Noted) (b : Bool) → is_note_of slave master first ≡ b → is_some (cond b (Some first) (note_of notes slave master)) ≡ true
    → (has_note notes slave master ≡ true → IsNoted later slave master place octets) → IsNoted (cond b (renoted place octets first ∷ notes) (first ∷ later)) slave master place octets
new_by slave master place octets first notes later true is there more = record {
  note = renoted place octets first;
  found = cond-true (is_note_of slave master first) (Some (renoted place octets first)) (note_of notes slave master) is;
  at = refl;
  spelt = refl;
}
new_by slave master place octets first notes later false other there more =
    let behind = more there in
    record {
      note = behind.note;
      found = cond-false (is_note_of slave master first) (Some first) (note_of later slave master) other ∙ behind.found;
      at = behind.at;
      spelt = behind.spelt;
    }

note_new : (slave master place : ℕ) (octets : ArrayVec ℕ) (notes : List Noted) → has_note notes slave master ≡ true → IsNoted (noted_at slave master place octets notes) slave master place octets
note_new slave master place octets [] there = absurd cc
note_new slave master place octets (first ∷ notes) there =
    new_by slave master place octets first notes (noted_at slave master place octets notes) (is_note_of slave master first) refl there (note_new slave master place octets notes)

pub note_given : (slave master place : ℕ) (notes : List Noted) (octets reply : ArrayVec ℕ) (rule : Rule) (telegram : Telegram) → telegram_spelt octets.items ≡ Some telegram
    → is_srd_to slave telegram ≡ true → is_judged_anew rule ≡ true → has_note notes slave master ≡ true
    → IsNoted (notes_after notes place (Request master octets) (Reply reply rule)) slave master place octets
note_given slave master place notes octets reply rule telegram spelt srd anew there =
    let both = and_parts (asks_srd (function_of telegram.fc)) (eqb (address_of telegram.da) slave) srd in
    let to = eqb-true (address_of telegram.da) slave both.1 in
    let after : notes_after notes place (Request master octets) (Reply reply rule) ≡ noted_at slave master place octets notes =
    ap (noted_telegram notes place master octets rule) spelt
    ∙ cond-true (is_judged_anew rule && asks_srd (function_of telegram.fc)) (noted_at (address_of telegram.da) master place octets notes) notes
    (and_from (is_judged_anew rule) (asks_srd (function_of telegram.fc)) anew both.0)
    ∙ ap (λ (a : ℕ). noted_at a master place octets notes) to in
    subst (λ (l : List Noted). IsNoted l slave master place octets) (sym after) (note_new slave master place octets notes there)

-- ---- at first each described slave has a note for each master

some_by : (test : Noted → Bool) (first : Noted) (found : Option Noted) (b : Bool) (others : Bool) → (others ≡ true → is_some found ≡ true) → (b || others) ≡ true → is_some (cond b (Some first) found) ≡ true
some_by test first found true others more is = refl
some_by test first found false others more is = more is

some_found : (test : Noted → Bool) (notes : List Noted) → list_any test notes ≡ true → is_some (find test notes) ≡ true
some_found test [] is = absurd cc
some_found test (first ∷ notes) is = some_by test first (find test notes) (test first) (list_any test notes) (some_found test notes) is

either_first : (a b : Bool) → a ≡ true → (a || b) ≡ true
either_first true b is = refl
either_first false b is = absurd cc

either_second : (a b : Bool) → b ≡ true → (a || b) ≡ true
either_second true b is = refl
either_second false b is = is

master_by : (a b others later : Bool) → a ≡ true → (b || others) ≡ true → (others ≡ true → later ≡ true) → ((a && b) || later) ≡ true
master_by true true others later same is more = refl
master_by true false others later same is more = more is
master_by false b others later same is more = absurd cc

of_masters : (slave address master : ℕ) (masters : List ℕ) → eqb address slave ≡ true → list_any (λ m. eqb m master) masters ≡ true → list_any (is_note_of slave master) (map (unnoted address) masters) ≡ true
of_masters slave address master [] same is = absurd cc
of_masters slave address master (first ∷ masters) same is =
    master_by (eqb address slave) (eqb first master) (list_any (λ m. eqb m master) masters) (list_any (is_note_of slave master) (map (unnoted address) masters)) same is
    (of_masters slave address master masters same)

described_by : (slave master : ℕ) (first : SlaveSpec) (found : Option SlaveSpec) (masters : List ℕ) (others : Bool) (b : Bool) → eqb first.address slave ≡ b
    → list_any (λ m. eqb m master) masters ≡ true → (is_some found ≡ true → others ≡ true) → is_some (cond b (Some first) found) ≡ true
    → (list_any (is_note_of slave master) (map (unnoted first.address) masters) || others) ≡ true
described_by slave master first found masters others true e known more is =
    either_first (list_any (is_note_of slave master) (map (unnoted first.address) masters)) others (of_masters slave first.address master masters e known)
described_by slave master first found masters others false e known more is =
    either_second (list_any (is_note_of slave master) (map (unnoted first.address) masters)) others (more is)

any_noted : (slaves : List SlaveSpec) (masters : List ℕ) (slave master : ℕ) → is_some (described_at slaves slave) ≡ true → list_any (λ m. eqb m master) masters ≡ true
    → list_any (is_note_of slave master) (first_notes (map (λ s. s.address) slaves) masters) ≡ true
any_noted [] masters slave master here known = absurd cc
any_noted (first ∷ slaves) masters slave master here known =
    let others = first_notes (map (λ s. s.address) slaves) masters in
    ap (list_any (is_note_of slave master)) (flat_map-cons (λ address. map (unnoted address) masters) first.address (map (λ s. s.address) slaves))
    ∙ list_any-append (is_note_of slave master) (map (unnoted first.address) masters) others
    ∙ described_by slave master first (described_at slaves slave) masters (list_any (is_note_of slave master) others) (eqb first.address slave) refl known
    (λ there. any_noted slaves masters slave master there known) here

pub noted_first : (slaves : List SlaveSpec) (masters : List ℕ) (slave master : ℕ) → is_some (described_at slaves slave) ≡ true → list_any (λ m. eqb m master) masters ≡ true
    → has_note (first_notes (map (λ s. s.address) slaves) masters) slave master ≡ true
noted_first slaves masters slave master here known =
    some_found (is_note_of slave master) (first_notes (map (λ s. s.address) slaves) masters) (any_noted slaves masters slave master here known)
