-- The first row that applies, and the result for a request by its rule.
use Rattle.std.proofs.Common.{◌≡◌, ◌≢◌, ℕ, Bool, true, false, ◌&&◌, cond, List, [], ◌∷◌, ◌++◌, Option, Some, None, inl, inr, refl, sym, ap, ◌∙◌}
use Rattle.std.specs.Prelude.{◌↔◌, if◌then◌else◌, is_some, IfSome}
use Rattle.std.specs.List.{AllByRecursion, list_any}
use Rattle.std.proofs.lemmas.Bool.{cases_Bool, cond-true}
use Rattle.dp_telegram.specs.declared.access.Parts.{Parts}
use Rattle.dp_telegram.specs.declared.function_code.Function.{Function}
use Rattle.dp_telegram.specs.declared.function_code.Function.TheVariants.{SdnLow, SdnHigh}
use Rattle.dp_telegram.specs.FunctionCode.{function_of, asks_sdn, asks_srd, frame_count_bit, frame_count_is_valid}
use Rattle.dp_sap.specs.AccessTable.{PointsView, access_row, is_listed}
use Rattle.dp_sap.specs.declared.point.Point.{Point}
use Rattle.dp_responder.specs.Memory.{Remembered, is_repeat, same_bit}
use Rattle.dp_responder.specs.Rules.{first_row}
use Rattle.dp_responder.specs.Judgement.{judged_by, judged_in_silence, judgement, judgement_rows, refusal_function, refusal_rows}
use Rattle.dp_responder.specs.declared.judgement.Judged.TheVariants as verdicts
use Rattle.dp_responder.specs.declared.rule.Rule.{Rule}
use Rattle.dp_responder.specs.declared.rule.Rule.TheVariants as rules

-- the row of a point that is on
pub on_is : (row : Option Point) (point : Point) → true ≡ is_some row → IfSome row (λ p. point ≡ p) → row ≡ Some point
on_is None point on is = absurd cc
on_is (Some p) point on is = ap Some (sym is)

-- the first row
pub first_applies : (before behind : List (Bool × Rule)) (row : Bool × Rule) → list_any (λ r. r.0) before ≡ false → row.0 ≡ true
    → first_row (before ++ row ∷ behind) ≡ row.1
first_applies [] behind row none here = rw here refl
first_applies (r ∷ before) behind row none here = elim (cases_Bool r.0) [
  | inl e ↦ absurd (cc (none, e))
  | inr e ↦ rw e (first_applies before behind row (rw e at none) here)
]

none_applies : (rows : List (Bool × Rule)) → list_any (λ row. row.0) rows ≡ false → first_row rows ≡ rules.Done
none_applies [] none = refl
none_applies (row ∷ rows) none = elim (cases_Bool row.0) [
  | inl e ↦ absurd (cc (none, e))
  | inr e ↦ rw e (none_applies rows (rw e at none))
]

-- rows that name another rule than Done
done_by : (b : Bool) (rule rest : Rule) → rule ≢ rules.Done → cond b rule rest ≡ rules.Done → (b ≡ false) × (rest ≡ rules.Done)
done_by true rule rest other done = absurd (other done)
done_by false rule rest other done = (refl, done)

any_by : (b rest : Bool) → b ≡ false → rest ≡ false → cond b true rest ≡ false
any_by b rest here later = rw here later

done_applies : (rows : List (Bool × Rule)) → AllByRecursion (λ row. row.1 ≢ rules.Done) rows → first_row rows ≡ rules.Done → list_any (λ row. row.0) rows ≡ false
done_applies [] all done = refl
done_applies (row ∷ rows) all done =
    let (here, later) = done_by row.0 row.1 (first_row rows) all.0 done in rw here (done_applies rows all.1 later)

-- with another rule than Done nothing passes
refused : (sdn : Bool) (rule : Rule) (function : ℕ) → (if sdn then verdicts.Silent rule else verdicts.Refuse function rule) ≢ verdicts.Pass
refused true rule function e = absurd cc
refused false rule function e = absurd cc

passes_by : (last : Option Remembered) (fc : ℕ) (rule : Rule) → judged_by last fc rule ≡ verdicts.Pass → rule ≡ rules.Done
passes_by last fc rules.Done e = refl
passes_by last fc rules.Repeat e = absurd cc
passes_by last fc other e = absurd (refused (asks_sdn (function_of fc)) other (refusal_function other) e)

pub passes : (points : PointsView) (last : Option Remembered) (sender fc : ℕ) (parts : Parts)
    → (judgement points last sender fc parts ≡ verdicts.Pass) ↔ (list_any (λ row. row.0) (judgement_rows points last sender fc parts) ≡ false)
passes points last sender fc parts = (
  λ pass. done_applies (judgement_rows points last sender fc parts)
      (λ e. absurd cc, (λ e. absurd cc, (λ e. absurd cc, (λ e. absurd cc, (λ e. absurd cc, (λ e. absurd cc, (λ e. absurd cc, tt)))))))
      (passes_by last fc (first_row (judgement_rows points last sender fc parts)) pass),
  λ none. ap (judged_by last fc) (none_applies (judgement_rows points last sender fc parts) none),
)

-- every rule but Done and Repeat refuses
pub refuses : (last : Option Remembered) (fc : ℕ) (rule : Rule) → rule ≢ rules.Done → rule ≢ rules.Repeat
    → judged_by last fc rule ≡ (if asks_sdn (function_of fc) then verdicts.Silent rule else verdicts.Refuse (refusal_function rule) rule)
refuses last fc rules.Done done repeat = absurd (done refl)
refuses last fc rules.Repeat done repeat = absurd (repeat refl)
refuses last fc other done repeat = refl

-- an SDN is no repeat
sdn_no_srd : (function : Function) → asks_sdn function ≡ true → asks_srd function ≡ false
sdn_no_srd SdnLow e = refl
sdn_no_srd SdnHigh e = refl
sdn_no_srd other e = absurd cc

no_repeat : (last : Option Remembered) (fc : ℕ) → asks_srd (function_of fc) ≡ false → is_repeat last fc ≡ false
no_repeat None fc none = refl
no_repeat (Some last) fc none = ap (λ b. b && frame_count_is_valid fc && same_bit last.fcb (frame_count_bit fc)) none

sdn_rule : (points : PointsView) (last : Option Remembered) (sender fc : ℕ) (parts : Parts) → asks_sdn (function_of fc) ≡ true
    → first_row (judgement_rows points last sender fc parts) ≡ first_row (refusal_rows (access_row points parts.dsap) (is_listed points parts.dsap sender) sender fc parts.payload.items)
sdn_rule points last sender fc parts sdn =
    ap (λ b. cond b rules.Repeat (first_row (refusal_rows (access_row points parts.dsap) (is_listed points parts.dsap sender) sender fc parts.payload.items))) (no_repeat last fc (sdn_no_srd (function_of fc) sdn))

silenced : (last : Option Remembered) (fc : ℕ) (rule : Rule) → asks_sdn (function_of fc) ≡ true → rule ≢ rules.Repeat → judged_by last fc rule ≡ judged_in_silence rule
silenced last fc rules.Done sdn other = refl
silenced last fc rules.Repeat sdn other = absurd (other refl)
silenced last fc rule sdn other = cond-true (asks_sdn (function_of fc)) (verdicts.Silent rule) (verdicts.Refuse (refusal_function rule) rule) sdn

pub sdn_judged : (points : PointsView) (last : Option Remembered) (sender fc : ℕ) (parts : Parts) (rule : Rule) → asks_sdn (function_of fc) ≡ true → rule ≢ rules.Repeat
    → rule ≡ first_row (refusal_rows (access_row points parts.dsap) (is_listed points parts.dsap sender) sender fc parts.payload.items) → judgement points last sender fc parts ≡ judged_in_silence rule
sdn_judged points last sender fc parts rule sdn other is =
    ap (judged_by last fc) (sdn_rule points last sender fc parts sdn ∙ sym is) ∙ silenced last fc rule sdn other
