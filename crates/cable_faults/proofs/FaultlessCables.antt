-- A cable without faults, and a telegram that is lost.
use Rattle.std.proofs.Common.{◌≡◌, ℕ, ◌*◌, ◌^◌, ◌<◌, Bool, true, false, List, [], ◌∷◌, ◌++◌, length, take, drop, refl, sym, ap, ◌∙◌, subst, Option, Some, None, append_assoc, arith}
use Rattle.std.specs.Prelude.{if◌then◌else◌}
use Rattle.std.proofs.lemmas.Bool.{le-ltb, lt-ltb}
use Rattle.std.proofs.lemmas.List.{take-append-drop}
use Rattle.dp_telegram.specs.declared.cutter.Cut.{Cut}
use Rattle.dp_telegram.specs.Stream.{cut_length, left_behind, left_of, piece_of}
use Rattle.dp_telegram.specs.FrameText.{frame_at}
use Rattle.cable_faults.specs.declared.cable.Cable.{Cable}
use Rattle.cable_faults.specs.declared.chance.Chance.{Chance}
use Rattle.cable_faults.specs.declared.random_words.Draw.{Draw}
use Rattle.cable_faults.specs.declared.treatment.Treatment.{Treatment}
use Rattle.cable_faults.specs.declared.treatment.Treatment.TheVariants.{Lost, Passed}
use Rattle.cable_faults.specs.declared.options.Direction.{Direction}
use Rattle.cable_faults.specs.declared.options.Direction.TheVariants.{Request, Reply}
use Rattle.cable_faults.specs.declared.options.Options.{Options}
use Rattle.cable_faults.specs.declared.order.Order.{Order}
use Rattle.cable_faults.specs.Chances.{hits}
use Rattle.cable_faults.specs.Decisions.{are_covered, chance_treatment, decision_of, treatment_by, is_off, order_at, slave_of, turn_of, used, waiting_after}
use Rattle.cable_faults.specs.Treatments.{sent_of}
use Rattle.cable_faults.specs.Faultless.{IsFree, IsFaultless}
use Rattle.cable_faults.specs.Passing.{IsCutInto, ended, begins, all_passed, sent_for}

pub never : (chance : Chance) (word : ℕ) → chance.millionths ≡ 0 → hits chance word ≡ false
never chance word none = le-ltb (word * 1000000) (chance.millionths * 2 ^ 32) (rw none (omega arith))

pub always : (chance : Chance) (word : ℕ) → chance.millionths ≡ 1000000 → word < 2 ^ 32 → hits chance word ≡ true
always chance word all small = lt-ltb (word * 1000000) (chance.millionths * 2 ^ 32) (rw all (omega arith))

faultless_chance : (options : Options) (octets : List ℕ) (draw : Draw) → IsFaultless options → chance_treatment options octets draw ≡ Passed
faultless_chance options octets draw kind =
    rw (
      never options.lose draw.lose kind.lose,
      never options.spoil draw.spoil kind.spoil,
      never options.cut draw.cut kind.cut,
      never options.late draw.late kind.late,
    ) refl

faultless_by : (options : Options) (direction : Direction) (covered : Bool) (octets : List ℕ) (draw : Draw) → IsFaultless options
    → (if covered then chance_treatment options octets draw else Passed) ≡ Passed
faultless_by options direction true octets draw kind = faultless_chance options octets draw kind
faultless_by options direction false octets draw kind = refl

none_off : (slave : Option ℕ) → is_off [] slave ≡ false
none_off None = refl
none_off (Some slave) = refl

no_turn : (direction : Direction) (slave : Option ℕ) → turn_of direction false [] slave ≡ None
no_turn Request slave = refl
no_turn Reply None = refl
no_turn Reply (Some slave) = refl

faultless_free : (options : Options) (direction : Direction) (octets : List ℕ) (draw : Draw) → IsFaultless options
    → treatment_by options direction false None octets draw ≡ Passed
faultless_free options direction octets draw kind = rw kind.tokens (faultless_by options direction (are_covered options.covered direction) octets draw kind)

pub faultless_treatment : (cable : Cable) (direction : Direction) (octets : List ℕ) (asked : Option ℕ) (draw : Draw) → IsFree cable
    → (decision_of cable direction octets asked draw).treatment ≡ Passed
faultless_treatment cable direction octets asked draw free =
    let slave = slave_of direction (frame_at octets) asked in
    let P : List ℕ → List Order → Type 0 = λ off waiting.
    treatment_by cable.options direction (is_off off slave) (order_at waiting (turn_of direction (is_off off slave) waiting slave)) octets draw ≡ Passed in
    let Q : List ℕ → Type 0 = λ off. P off cable.waiting.items in
    let empty : P [] [] = rw (none_off slave, no_turn direction slave) (faultless_free cable.options direction octets draw free.faultless) in
    subst Q (sym free.off) (subst (P []) (sym free.waiting) empty)

pub none_waits : (cable : Cable) (direction : Direction) (octets : List ℕ) (asked : Option ℕ) → IsFree cable
    → waiting_after cable direction octets asked ≡ []
none_waits cable direction octets asked free =
    let slave = slave_of direction (frame_at octets) asked in
    let P : List ℕ → List Order → Type 0 = λ off waiting. used waiting (turn_of direction (is_off off slave) waiting slave) ≡ [] in
    let Q : List ℕ → Type 0 = λ off. P off cable.waiting.items in
    let empty : P [] [] = rw (none_off slave, no_turn direction slave) refl in
    subst Q (sym free.off) (subst (P []) (sym free.waiting) empty)

piece_and_left : (stream : List ℕ) (cut : Cut) → piece_of stream ≡ Some cut → take (cut_length cut) stream ++ left_of stream ≡ stream
piece_and_left stream cut is =
    let left : left_of stream ≡ drop (cut_length cut) stream = ap (λ (first : Option Cut). left_behind first stream) is in
    ap (λ (more : List ℕ). take (cut_length cut) stream ++ more) left ∙ take-append-drop (cut_length cut) stream

pub all_octets : (stream : List ℕ) (parts : List (List ℕ)) (rest : List ℕ) → IsCutInto stream parts rest → sent_for (all_passed parts) parts ++ rest ≡ stream
all_octets stream parts rest (ended none) = refl
all_octets stream parts rest (begins {others = others} cut is more) =
    append_assoc (take (cut_length cut) stream) (sent_for (all_passed others) others) rest
    ∙ ap (λ (behind : List ℕ). take (cut_length cut) stream ++ behind) (all_octets (left_of stream) others rest more)
    ∙ piece_and_left stream cut is

pub left_out : (treatments others : List Treatment) (parts : List (List ℕ)) (part : List ℕ) (more : List (List ℕ)) → length treatments ≡ length parts
    → sent_for (treatments ++ Lost ∷ others) (parts ++ part ∷ more) ≡ sent_for (treatments ++ others) (parts ++ more)
left_out [] others [] part more same = refl
left_out [] others (first ∷ parts) part more same = absurd (omega arith)
left_out (treatment ∷ treatments) others [] part more same = absurd (omega arith)
left_out (treatment ∷ treatments) others (first ∷ parts) part more same =
    ap (λ (behind : List ℕ). sent_of treatment first ++ behind) (left_out treatments others parts part more (omega arith))
