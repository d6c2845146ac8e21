-- Lines of an operator are read as they are written.
use Rattle.std.proofs.Common.{◌≡◌, ℕ, ◌<◌, eqb, Bool, true, false, cond, List, [], ◌∷◌, ◌++◌, map, Option, Some, None, refl, sym, ap, subst, ◌∙◌, codes, arith}
use Rattle.std.specs.Prelude.{option_map, option_and_then}
use Rattle.std.specs.List.{join_with_byte}
use Rattle.std.specs.Char.{to_ascii_lowercase}
use Rattle.std.specs.Fmt.{decimal}
use Rattle.std.proofs.lemmas.Bool.{eqb-true}
use Rattle.std.proofs.lemmas.List.Splits.{join_with_byte-slice_split}
use Rattle.arrayvec.specs.ArrayVec.{ArrayVec}
use Rattle.dp_line.specs.declared.event.Op.{Op}
use Rattle.dp_line.specs.declared.event.Op.TheVariants.{Input, Diag, Busy, Tick, Halt}
use Rattle.dp_text.specs.declared.ops.HexCase.TheVariants.{Lower, Either}
use Rattle.dp_text.specs.declared.op_line.OpLine.{OpLine}
use Rattle.dp_text.specs.declared.op_line.OpLine.TheVariants.{Event, Owned, Show, Step, Nothing}
use Rattle.dp_text.specs.Numbers.{number_to, octet_number}
use Rattle.dp_text.specs.Words.{words_of, same_text}
use Rattle.dp_text.specs.Texts.{flags_text, point_text, on_or_off_text}
use Rattle.dp_text.specs.Events.{Flags, diag_with, event_octets, flags_of, on_or_off, point_of, input_of, diag_of, busy_of, tick_of, halt_of, op_of_words, AreOctets, IsOpWithinLimits}
use Rattle.dp_text.specs.OpLines.{IsOctetsWord, IsOpText, IsRemark, IsOpLine, only_octet, step_of, op_line_of_words, op_line_of}
use Rattle.dp_text.proofs.Cases.{either_is_lower, octets_word_is_word}
use Rattle.dp_text.proofs.ReadBack.{IsWord, same_is, number_read, octets_read, flags_are_written, flags_read, number_is_word, written_is_word, last_word, two_words, three_words, busy_read, tick_read}
use Rattle.dp_text.proofs.ReadExactly.{some_same, octets_are, flags_are, state_is, octet_is, point_is, number_is, two_are, three_are, from_halt, from_tick, from_busy}
use Rattle.dp_text.proofs.Limits.{number_within, octet_within, octets_within_limits, point_within}

-- ---- what is written is read

octets_word : (word octets : List ℕ) → IsOctetsWord word octets → IsWord word
unfolding IsWord
octets_word word octets e = octets_word_is_word word octets e

octets_back : (most : ℕ) (word octets : List ℕ) → AreOctets most octets → IsOctetsWord word octets → event_octets Either most word ≡ Some octets
octets_back most word octets are e = either_is_lower most word ∙ ap (event_octets Lower most) e ∙ octets_read most octets are

input_back : (address : ℕ) (octets : ArrayVec ℕ) (word : List ℕ) → address < 256 → AreOctets 244 octets.items → IsOctetsWord word octets.items
    → input_of Either (words_of ((decimal address ++ 32 ∷ []) ++ word)) ≡ Some (Input address octets)
input_back address octets word small are e =
    ap (input_of Either) (two_words (decimal address) word (number_is_word address (omega arith)) (octets_word word octets.items e))
    ∙ ap (option_and_then (λ number. option_map (λ items. Input number (record { items = items })) (event_octets Either 244 word))) (number_read address 255 (omega arith) (omega arith))
    ∙ ap (option_map (λ items. Input address (record { items = items }))) (octets_back 244 word octets.items are e)

diag_back : (address : ℕ) (ext stat overflow : Bool) (octets : ArrayVec ℕ) (word : List ℕ) → address < 256 → AreOctets 238 octets.items → IsOctetsWord word octets.items
    → diag_of Either (words_of ((((decimal address ++ 32 ∷ []) ++ flags_text ext stat overflow) ++ 32 ∷ []) ++ word)) ≡ Some (Diag address ext stat overflow octets)
diag_back address ext stat overflow octets word small are e =
    ap (diag_of Either) (three_words (decimal address) (flags_text ext stat overflow) word (number_is_word address (omega arith)) (written_is_word (flags_text ext stat overflow) (flags_are_written ext stat overflow)) (octets_word word octets.items e))
    ∙ ap (option_and_then (λ number. option_and_then (λ set. option_map (diag_with number set) (event_octets Either 238 word)) (flags_of (flags_text ext stat overflow)))) (number_read address 255 (omega arith) (omega arith))
    ∙ ap (option_and_then (λ set. option_map (diag_with address set) (event_octets Either 238 word))) (flags_read ext stat overflow)
    ∙ ap (option_map (diag_with address (ext, stat, overflow))) (octets_back 238 word octets.items are e)

op_back : (text : List ℕ) (op : Op) → IsOpWithinLimits op → IsOpText text op → op_line_of text ≡ Some (Event op)
op_back text (Input address octets) limits written =
    ap op_line_of written.1 ∙ ap (option_map Event) (input_back address octets written.0 limits.0 limits.1 written.2)
op_back text (Diag address ext stat overflow octets) limits written =
    ap op_line_of written.1 ∙ ap (option_map Event) (diag_back address ext stat overflow octets written.0 limits.0 limits.1 written.2)
op_back text (Busy address point on) limits written = ap op_line_of written ∙ ap (option_map Event) (busy_read address point on limits.0 limits.1)
op_back text (Tick units) limits written = ap op_line_of written ∙ ap (option_map Event) (tick_read units limits)
op_back text Halt limits written = ap op_line_of written

only_number_back : (number : ℕ) → number < 256 → only_octet (words_of (decimal number)) ≡ Some number
only_number_back number small =
    ap only_octet (last_word (decimal number) (number_is_word number (omega arith))) ∙ number_read number 255 (omega arith) (omega arith)

remark_back : (text : List ℕ) → IsRemark text → op_line_of text ≡ Some Nothing
remark_back [] remark = refl
remark_back (first ∷ others) remark = ap (λ f. op_line_of (f ∷ others)) remark

pub line_read : (text : List ℕ) (line : OpLine) → IsOpLine text line → op_line_of text ≡ Some line
line_read text (Event op) is = op_back text op is.0 is.1
line_read text (Owned master) is = ap op_line_of is.1 ∙ ap (option_map Owned) (only_number_back master is.0)
line_read text (Show address) is = ap op_line_of is.1 ∙ ap (option_map Show) (only_number_back address is.0)
line_read text Step is = ap op_line_of is
line_read text Nothing is = remark_back text is

-- ---- what is read was written

IsOp : List ℕ → Op → Type 0
IsOp text op = IsOpWithinLimits op × IsOpText text op

input_is : (words : List (List ℕ)) (op : Op) → input_of Either words ≡ Some op → IsOp (join_with_byte 32 (codes "in" ∷ words)) op
unfolding IsOp
input_is [] op e = absurd cc
input_is (address ∷ []) op e = absurd cc
input_is (address ∷ octets ∷ more ∷ words) op e = absurd cc
input_is (address ∷ word ∷ []) op e = by (octet_number address) (event_octets Either 244 word) refl refl e
  where
    by : (number : Option ℕ) (octets : Option (List ℕ)) → octet_number address ≡ number → event_octets Either 244 word ≡ octets
        → option_and_then (λ n. option_map (λ items. Input n (record { items = items })) octets) number ≡ Some op
        → IsOp (codes "in " ++ (address ++ 32 ∷ word)) op
    by None octets first second e = absurd cc
    by (Some number) None first second e = absurd cc
    by (Some number) (Some items) first second e =
        let lower = sym (either_is_lower 244 word) ∙ second in
        subst (λ o. IsOpWithinLimits o × IsOpText (codes "in " ++ (address ++ 32 ∷ word)) o) is (
          (octet_within address number first, octets_within_limits 244 (map to_ascii_lowercase word) items lower),
          (
            word,
            ap (λ (t : List ℕ). codes "in " ++ t) (two_are (decimal number) word address word (octet_is address number first) refl),
            sym (octets_are 244 (map to_ascii_lowercase word) items lower),
          ),
        )
      where
        is : Input number (record { items = items }) ≡ op
        is = some_same e

diag_is : (words : List (List ℕ)) (op : Op) → diag_of Either words ≡ Some op → IsOp (join_with_byte 32 (codes "diag" ∷ words)) op
unfolding IsOp
diag_is [] op e = absurd cc
diag_is (address ∷ []) op e = absurd cc
diag_is (address ∷ flags ∷ []) op e = absurd cc
diag_is (address ∷ flags ∷ octets ∷ more ∷ words) op e = absurd cc
diag_is (address ∷ flags ∷ word ∷ []) op e = by (octet_number address) (flags_of flags) (event_octets Either 238 word) refl refl refl e
  where
    by : (number : Option ℕ) (read : Option Flags) (octets : Option (List ℕ)) → octet_number address ≡ number → flags_of flags ≡ read → event_octets Either 238 word ≡ octets
        → option_and_then (λ n. option_and_then (λ set. option_map (diag_with n set) octets) read) number ≡ Some op
        → IsOp (codes "diag " ++ (address ++ 32 ∷ (flags ++ 32 ∷ word))) op
    by None read octets first second third e = absurd cc
    by (Some number) None octets first second third e = absurd cc
    by (Some number) (Some set) None first second third e = absurd cc
    by (Some number) (Some set) (Some items) first second third e =
        let lower = sym (either_is_lower 238 word) ∙ third in
        subst (λ o. IsOpWithinLimits o × IsOpText (codes "diag " ++ (address ++ 32 ∷ (flags ++ 32 ∷ word))) o) is (
          (octet_within address number first, octets_within_limits 238 (map to_ascii_lowercase word) items lower),
          (
            word,
            ap (λ (t : List ℕ). codes "diag " ++ t)
                (three_are (decimal number) (flags_text set.0 set.1 set.2) word address flags word (octet_is address number first) (flags_are flags set second) refl),
            sym (octets_are 238 (map to_ascii_lowercase word) items lower),
          ),
        )
      where
        is : diag_with number set items ≡ op
        is = some_same e

busy_is : (words : List (List ℕ)) (op : Op) → busy_of words ≡ Some op → IsOp (join_with_byte 32 (codes "busy" ∷ words)) op
unfolding IsOp
busy_is [] op e = absurd cc
busy_is (address ∷ []) op e = absurd cc
busy_is (address ∷ point ∷ []) op e = absurd cc
busy_is (address ∷ point ∷ state ∷ more ∷ words) op e = absurd cc
busy_is (address ∷ point ∷ state ∷ []) op e = by (octet_number address) (point_of point) (on_or_off state) refl refl refl e
  where
    by : (number : Option ℕ) (at : Option (Option ℕ)) (on : Option Bool) → octet_number address ≡ number → point_of point ≡ at → on_or_off state ≡ on
        → option_and_then (λ n. option_and_then (λ p. option_map (Busy n p) on) at) number ≡ Some op
        → IsOp (codes "busy " ++ (address ++ 32 ∷ (point ++ 32 ∷ state))) op
    by None at on first second third e = absurd cc
    by (Some number) None on first second third e = absurd cc
    by (Some number) (Some at) None first second third e = absurd cc
    by (Some number) (Some at) (Some on) first second third e =
        subst (λ o. IsOpWithinLimits o × IsOpText (codes "busy " ++ (address ++ 32 ∷ (point ++ 32 ∷ state))) o) is (
          (octet_within address number first, point_within point at second),
          ap (λ (t : List ℕ). codes "busy " ++ t)
              (three_are (decimal number) (point_text at) (on_or_off_text on) address point state (octet_is address number first) (point_is point at second) (state_is state on third)),
        )
      where
        is : Busy number at on ≡ op
        is = some_same e

tick_is : (words : List (List ℕ)) (op : Op) → tick_of words ≡ Some op → IsOp (join_with_byte 32 (codes "tick" ∷ words)) op
unfolding IsOp
tick_is [] op e = absurd cc
tick_is (units ∷ more ∷ words) op e = absurd cc
tick_is (units ∷ []) op e = by (number_to 4294967295 units) refl e
  where
    by : (number : Option ℕ) → number_to 4294967295 units ≡ number → option_map Tick number ≡ Some op → IsOp (codes "tick " ++ units) op
    by None read e = absurd cc
    by (Some number) read e =
        let within = number_within 4294967295 units number read in
        subst (λ o. IsOpWithinLimits o × IsOpText (codes "tick " ++ units) o) is (
          omega arith,
          ap (λ (t : List ℕ). codes "tick " ++ t) (sym (number_is 4294967295 units number (omega arith) read)),
        )
      where
        is : Tick number ≡ op
        is = some_same e

halt_is : (words : List (List ℕ)) (op : Op) → halt_of words ≡ Some op → IsOp (join_with_byte 32 (codes "halt" ∷ words)) op
unfolding IsOp
halt_is [] op e =
    let is : Halt ≡ op = some_same e in
    subst (λ o. IsOpWithinLimits o × IsOpText (codes "halt") o) is (tt, refl)
halt_is (more ∷ words) op e = absurd cc

-- a row of the table of first words: the word is that of this row, or of another row
row : {X : Type 0} (test : Bool) (here others : Option X) (x : X) (P : Type 0) → cond test here others ≡ Some x → (test ≡ true → here ≡ Some x → P) → (others ≡ Some x → P) → P
row true here others x P e yes_here elsewhere = yes_here refl e
row false here others x P e yes_here elsewhere = elsewhere e

abbrev from_diag : List ℕ → List (List ℕ) → Option Op
from_diag word words = cond (same_text word (codes "diag")) (diag_of Either words) (from_busy word words)

op_is : (words : List (List ℕ)) (op : Op) → op_of_words Either words ≡ Some op → IsOp (join_with_byte 32 words) op
op_is [] op e = absurd cc
op_is (word ∷ words) op e =
    row (same_text word (codes "in")) (input_of Either words) (from_diag word words) op (IsOp (join_with_byte 32 (word ∷ words)) op) e (λ is here. behind (codes "in") is (input_is words op here)) (λ e.
    row (same_text word (codes "diag")) (diag_of Either words) (from_busy word words) op (IsOp (join_with_byte 32 (word ∷ words)) op) e (λ is here. behind (codes "diag") is (diag_is words op here)) (λ e.
    row (same_text word (codes "busy")) (busy_of words) (from_tick word words) op (IsOp (join_with_byte 32 (word ∷ words)) op) e (λ is here. behind (codes "busy") is (busy_is words op here)) (λ e.
    row (same_text word (codes "tick")) (tick_of words) (from_halt word words) op (IsOp (join_with_byte 32 (word ∷ words)) op) e (λ is here. behind (codes "tick") is (tick_is words op here)) (λ e.
    row (same_text word (codes "halt")) (halt_of words) None op (IsOp (join_with_byte 32 (word ∷ words)) op) e (λ is here. behind (codes "halt") is (halt_is words op here)) (λ e. absurd cc)))))
  where
    behind : (kind : List ℕ) → same_text word kind ≡ true → IsOp (join_with_byte 32 (kind ∷ words)) op → IsOp (join_with_byte 32 (word ∷ words)) op
    behind kind is written = subst (λ w. IsOp (join_with_byte 32 (w ∷ words)) op) (sym (same_is word kind is)) written

-- ---- lines

event_is : (words : List (List ℕ)) (read : Option Op) (line : OpLine) → op_of_words Either words ≡ read → option_map Event read ≡ Some line → IsOpLine (join_with_byte 32 words) line
unfolding IsOp
event_is words None line read e = absurd cc
event_is words (Some op) line read e =
    let is : Event op ≡ line = some_same e in
    subst (IsOpLine (join_with_byte 32 words)) is (op_is words op read)

owned_is : (words : List (List ℕ)) (line : OpLine) → option_map Owned (only_octet words) ≡ Some line → IsOpLine (join_with_byte 32 (codes "owned" ∷ words)) line
owned_is [] line e = absurd cc
owned_is (number ∷ more ∷ words) line e = absurd cc
owned_is (number ∷ []) line e = by (octet_number number) refl e
  where
    by : (read : Option ℕ) → octet_number number ≡ read → option_map Owned read ≡ Some line → IsOpLine (codes "owned " ++ number) line
    by None read e = absurd cc
    by (Some master) read e =
        let is : Owned master ≡ line = some_same e in
        subst (IsOpLine (codes "owned " ++ number)) is
        (octet_within number master read, ap (λ (t : List ℕ). codes "owned " ++ t) (sym (octet_is number master read)))

show_is : (words : List (List ℕ)) (line : OpLine) → option_map Show (only_octet words) ≡ Some line → IsOpLine (join_with_byte 32 (codes "show" ∷ words)) line
show_is [] line e = absurd cc
show_is (number ∷ more ∷ words) line e = absurd cc
show_is (number ∷ []) line e = by (octet_number number) refl e
  where
    by : (read : Option ℕ) → octet_number number ≡ read → option_map Show read ≡ Some line → IsOpLine (codes "show " ++ number) line
    by None read e = absurd cc
    by (Some address) read e =
        let is : Show address ≡ line = some_same e in
        subst (IsOpLine (codes "show " ++ number)) is
        (octet_within number address read, ap (λ (t : List ℕ). codes "show " ++ t) (sym (octet_is number address read)))

step_is : (words : List (List ℕ)) (line : OpLine) → step_of words ≡ Some line → IsOpLine (join_with_byte 32 (codes "step" ∷ words)) line
step_is [] line e =
    let is : Step ≡ line = some_same e in
    subst (IsOpLine (codes "step")) is refl
step_is (more ∷ words) line e = absurd cc

abbrev else_event : List ℕ → List (List ℕ) → Option OpLine
else_event word words = option_map Event (op_of_words Either (word ∷ words))

abbrev else_step : List ℕ → List (List ℕ) → Option OpLine
else_step word words = cond (same_text word (codes "step")) (step_of words) (else_event word words)

abbrev else_show : List ℕ → List (List ℕ) → Option OpLine
else_show word words = cond (same_text word (codes "show")) (option_map Show (only_octet words)) (else_step word words)

words_are : (words : List (List ℕ)) (line : OpLine) → op_line_of_words words ≡ Some line → IsOpLine (join_with_byte 32 words) line
words_are [] line e = absurd cc
words_are (word ∷ words) line e =
    row (same_text word (codes "owned")) (option_map Owned (only_octet words)) (else_show word words) line (IsOpLine (join_with_byte 32 (word ∷ words)) line) e (λ is here. behind (codes "owned") is (owned_is words line here)) (λ e.
    row (same_text word (codes "show")) (option_map Show (only_octet words)) (else_step word words) line (IsOpLine (join_with_byte 32 (word ∷ words)) line) e (λ is here. behind (codes "show") is (show_is words line here)) (λ e.
    row (same_text word (codes "step")) (step_of words) (else_event word words) line (IsOpLine (join_with_byte 32 (word ∷ words)) line) e (λ is here. behind (codes "step") is (step_is words line here)) (λ e.
    event_is (word ∷ words) (op_of_words Either (word ∷ words)) line refl e)))
  where
    behind : (kind : List ℕ) → same_text word kind ≡ true → IsOpLine (join_with_byte 32 (kind ∷ words)) line → IsOpLine (join_with_byte 32 (word ∷ words)) line
    behind kind is written = subst (λ w. IsOpLine (join_with_byte 32 (w ∷ words)) line) (sym (same_is word kind is)) written

pub line_is : (text : List ℕ) (line : OpLine) → op_line_of text ≡ Some line → IsOpLine text line
line_is [] line e =
    let is : Nothing ≡ line = some_same e in
    subst (IsOpLine []) is tt
line_is (first ∷ others) line e =
    row (eqb first 35) (Some Nothing) (op_line_of_words (words_of (first ∷ others))) line (IsOpLine (first ∷ others) line) e
    (λ hash here. subst (IsOpLine (first ∷ others)) (some_same here) (eqb-true first 35 hash))
    (λ more. subst (λ t. IsOpLine t line) (join_with_byte-slice_split 32 (first ∷ others)) (words_are (words_of (first ∷ others)) line more))
