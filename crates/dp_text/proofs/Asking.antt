-- What a line of octets asks for.
use Rattle.std.proofs.Common.{◌≡◌, ◌≤◌, ℕ, Bool, true, false, List, length, nat_lt, Option, Some, None, Result, Ok, Err, ok_or, if◌then◌else◌, IsUtf8, refl, sym, ap, ◌∙◌, arith}
use Rattle.std.specs.Str.{is_utf8}
use Rattle.std.proofs.lemmas.Grind.{common_steps}
use Rattle.std.proofs.lemmas.Str.{IsUtf8-from_is_utf8, is_utf8-from_IsUtf8}
use Rattle.dp_text.specs.declared.op_line.OpLine.{OpLine}
use Rattle.dp_text.specs.declared.op_line.TextFault.{TextFault}
use Rattle.dp_text.specs.declared.op_line.TextFault.TheVariants as text_faults
use Rattle.dp_text.specs.OpLines.{op_line_of}
use Rattle.dp_text.specs.declared.operator_line.LineFault.{LineFault}
use Rattle.dp_text.specs.declared.operator_line.LineFault.TheVariants as faults
use Rattle.dp_text.specs.OperatorLines.{asked_in, command_in}

abbrev pub read_ok : OpLine → Result OpLine TextFault
read_ok op_line = Ok op_line

abbrev pub done_ok : OpLine → Result OpLine LineFault
done_ok op_line = Ok op_line

abbrev pub asked_or : Bool → Bool → List ℕ → Result OpLine LineFault
asked_or long text line = if long then Err faults.TooLong else ok_or (asked_in text line) faults.NotACommand

no_utf8 : (line : List ℕ) → (IsUtf8 line → ⊥) → is_utf8 line ≡ false
no_utf8 line refused = by_bool (is_utf8 line) refl
  where
    by_bool : (b : Bool) → is_utf8 line ≡ b → is_utf8 line ≡ false
    by_bool true is = absurd (refused (IsUtf8-from_is_utf8 line is))
    by_bool false is = is

short_line : (count : ℕ) → count ≤ 1024 → nat_lt 1024 count ≡ false
short_line count short = grind (arith, common_steps, short)

pub not_text : (line : List ℕ) → length line ≤ 1024 → (IsUtf8 line → ⊥) → Err faults.NotACommand ≡ command_in line
not_text line short refused = sym (ap (λ long. asked_or long (is_utf8 line) line) (short_line (length line) short) ∙ ap (λ text. asked_or false text line) (no_utf8 line refused))

recoded : (read : Option OpLine) (op_line : OpLine) → read_ok op_line ≡ ok_or read text_faults.NotACommand → done_ok op_line ≡ ok_or read faults.NotACommand
recoded (Some other) op_line is = cc
recoded None op_line is = absurd cc

pub of_text : (line text : List ℕ) (op_line : OpLine) → length line ≤ 1024 → text ≡ line → IsUtf8 line → read_ok op_line ≡ ok_or (op_line_of text) text_faults.NotACommand
    → done_ok op_line ≡ command_in line
of_text line text op_line short same is_text read =
    recoded (op_line_of line) op_line (read ∙ ap (λ t. ok_or (op_line_of t) text_faults.NotACommand) same)
    ∙ sym (ap (λ long. asked_or long (is_utf8 line) line) (short_line (length line) short) ∙ ap (λ yes_text. asked_or false yes_text line) (is_utf8-from_IsUtf8 line is_text))
