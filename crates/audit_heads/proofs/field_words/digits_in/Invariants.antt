use Rattle.std.proofs.Common.{◌≡◌, ◌≤◌, length}
use Rattle.std.specs.Str.{all_ascii_digits}
use Rattle.std.specs.Str.Parse.{digits_value, digits_value_after}
use Rattle.audit_heads.specs.FieldWords.{most_64}
use Rattle.audit_heads.proofs.field_words.digits_in.Given as goal

abbrev pub invariant-loop-left : goal.invariant-loop-left
invariant-loop-left l = record {
  value : digits_value_after 10 l.value l.left ≡ digits_value 10 l.word;
  digits : all_ascii_digits l.left ≡ all_ascii_digits l.word;
  bound : l.value ≤ most_64;
}

abbrev pub decreases-loop-left : goal.decreases-loop-left
decreases-loop-left l = length l.left
