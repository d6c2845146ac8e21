-- promise
-- The verdict of a slave on a request, from the repeat to the length (own order).
use Rattle.std.specs.Prelude.{ℕ, Bool, true, false, not, ◌&&◌, ◌||◌, ◌==◌, nat_le, if◌then◌else◌, List, [], ◌∷◌, length, Option, is_none}
use Rattle.std.specs.Option.{option_map_or}
use Rattle.dp_telegram.specs.FunctionCode.{function_of, asks_srd, asks_sdn, not_activated, no_resource, user_error}
use Rattle.dp_telegram.specs.declared.access.Parts.{Parts}
use Rattle.dp_sap.specs.AccessTable.{PointsView, access_row, is_listed}
use Rattle.dp_sap.specs.declared.point.Point.{Point}
use Rattle.dp_sap.specs.declared.point.Access.{Access}
use Rattle.dp_sap.specs.declared.point.Access.TheVariants.{All, Only}
use Rattle.dp_sap.specs.declared.point.Service.{Service}
use Rattle.dp_sap.specs.declared.point.Service.TheVariants.{Srd, Sdn}
use Rattle.dp_responder.specs.declared.rule.Rule.{Rule}
use Rattle.dp_responder.specs.declared.rule.Rule.TheVariants as rules
use Rattle.dp_responder.specs.declared.judgement.Judged.{Judged}
use Rattle.dp_responder.specs.declared.judgement.Judged.TheVariants as verdicts
use Rattle.dp_responder.specs.declared.judgement.JudgedLent.{JudgedLent}
use Rattle.dp_responder.specs.declared.judgement.JudgedLent.TheVariants as lent
use Rattle.dp_responder.specs.Memory.{Remembered, is_repeat, kept_reply}
use Rattle.dp_responder.specs.Rules.{first_row}

-- a condition on a point that is on; it does not hold if the point is off
abbrev pub point_has : (Point → Bool) → Option Point → Bool
point_has condition point = option_map_or condition point false

-- the sender is admitted to the point: every master is, or only the holder
abbrev pub admits : ℕ → Access → Bool
admits sender All = true
admits sender (Only holder) = holder == sender

-- a function uses the service
abbrev pub uses : ℕ → Service → Bool
uses fc Srd = asks_srd (function_of fc)
uses fc Sdn = asks_sdn (function_of fc)

-- the point takes this number of octets: its row allows the number, or it is 0 and the point may be empty
abbrev pub takes_length : ℕ → Point → Bool
takes_length count point = nat_le point.least count && nat_le count point.most || point.empty && count == 0

-- the function of the reply without data by which a rule refuses an SRD, an SDA, or a request for ident or for LSAP status: no resource if the point
-- is busy, user error for a wrong length, and service not activated by every other rule (IEC 61158-4-3, function code of a response; own in detail)
abbrev pub refusal_function : Rule → ℕ
refusal_function rules.Busy = no_resource
refusal_function rules.Length = user_error
refusal_function other = not_activated

-- the rows by which a request is refused, by their places in the table of the verdict (docs/reference/policy.md): the point is the one that it names,
-- None if that is off, and listed is true if the slave's lists let the sender use it
abbrev pub refusal_rows : Option Point → Bool → ℕ → ℕ → List ℕ → List (Bool × Rule)
refusal_rows point listed sender fc payload =
    -- 14: the point is off
    (is_none point, rules.NotActive)
    -- 15: the point is for the holder, and the sender is another master
    ∷ (point_has (λ p. not (admits sender p.access)) point, rules.NotHolder)
    -- 16: the slave's lists don't let the sender use the point
    ∷ (not listed, rules.NotListed)
    -- 17: the point takes the other service
    ∷ (point_has (λ p. not (uses fc p.service)) point, rules.NoService)
    -- 18: the point is marked busy
    ∷ (point_has (λ p. p.busy) point, rules.Busy)
    -- 19: the point doesn't take this number of octets
    ∷ (point_has (λ p. not (takes_length (length payload) p)) point, rules.Length)
    ∷ []

-- the rows of a slave with these points, which remembers this of the sender: the repeat, then the refusals
abbrev pub judgement_rows : PointsView → Option Remembered → ℕ → ℕ → Parts → List (Bool × Rule)
judgement_rows points last sender fc parts =
    -- 13: an SRD with FCV 1, and its FCB is the remembered one
    (is_repeat last fc, rules.Repeat)
    ∷ refusal_rows (access_row points parts.dsap) (is_listed points parts.dsap sender) sender fc parts.payload.items

-- the result for a request by the rule of these rows: with Done it passes, a repeat gets the stored reply, and every other rule refuses it, an SDN in
-- silence
abbrev pub judged_by : Option Remembered → ℕ → Rule → Judged
judged_by last fc rules.Done = verdicts.Pass
judged_by last fc rules.Repeat = verdicts.Repeat (record { items = kept_reply last })
judged_by last fc rule =
    if asks_sdn (function_of fc) then verdicts.Silent rule else verdicts.Refuse (refusal_function rule) rule

-- the result that a `JudgedLent` stands for
abbrev pub judged_lent : JudgedLent → Judged
judged_lent lent.Pass = verdicts.Pass
judged_lent (lent.Repeat octets) = verdicts.Repeat octets.now
judged_lent (lent.Refuse function rule) = verdicts.Refuse function rule
judged_lent (lent.Silent rule) = verdicts.Silent rule

-- the result for an SDN by its rule, which is never Repeat
abbrev pub judged_in_silence : Rule → Judged
judged_in_silence rules.Done = verdicts.Pass
judged_in_silence rule = verdicts.Silent rule

-- the first row that applies decides; if no row applies, the request passes
abbrev pub judgement : PointsView → Option Remembered → ℕ → ℕ → Parts → Judged
judgement points last sender fc parts = judged_by last fc (first_row (judgement_rows points last sender fc parts))
