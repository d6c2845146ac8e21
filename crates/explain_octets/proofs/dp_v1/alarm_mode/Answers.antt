-- Each of the eight numbers has one digit.
use Rattle.std.proofs.Common.{◌≡◌, ℕ, ◌++◌, codes, arith, sym, ap, ◌∙◌}
use Rattle.std.specs.Prelude.{bit_and}
use Rattle.std.specs.Fmt.{decimal, digits}
use Rattle.std.proofs.lemmas.Nat.{and_mask}
use Rattle.explain_octets.specs.DpV1.{alarm_mode_text}
use Rattle.explain_octets.proofs.dp_v1.alarm_mode.Goals as goal

text_of : (third number : ℕ) → bit_and third 7 ≡ number → codes "Alarm_Mode " ++ decimal number ≡ alarm_mode_text third
text_of third number same = ap (λ n. codes "Alarm_Mode " ++ decimal n) (sym same ∙ and_mask third 3)

pub returns-in-0 : goal.returns-in-0
unfolding digits
returns-in-0 c = text_of c.args.third 0 c.in-0.is

pub returns-in-1 : goal.returns-in-1
unfolding digits
returns-in-1 c = text_of c.args.third 1 c.in-1.is

pub returns-in-2 : goal.returns-in-2
unfolding digits
returns-in-2 c = text_of c.args.third 2 c.in-2.is

pub returns-in-3 : goal.returns-in-3
unfolding digits
returns-in-3 c = text_of c.args.third 3 c.in-3.is

pub returns-in-4 : goal.returns-in-4
unfolding digits
returns-in-4 c = text_of c.args.third 4 c.in-4.is

pub returns-in-5 : goal.returns-in-5
unfolding digits
returns-in-5 c = text_of c.args.third 5 c.in-5.is

pub returns-in-6 : goal.returns-in-6
unfolding digits
returns-in-6 c = text_of c.args.third 6 c.in-6.is

pub returns-in_default : goal.returns-in_default
unfolding digits
returns-in_default c = text_of c.args.third 7 (omega (arith, and_mask c.args.third 3))
