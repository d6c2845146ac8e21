-- helper
-- What follows the first wrong row of an audit text (own).
use Rattle.std.specs.Prelude.{◌≡◌, ℕ, List, [], ◌∷◌, ◌++◌, Err}
use Rattle.dp_line.specs.World.{Description}
use Rattle.dp_audit.specs.declared.fault.AuditFault.{AuditFault}
use Rattle.dp_audit.specs.Check.{checked}
use Rattle.judge_texts.specs.declared.choice.JudgeChoice.{JudgeChoice}
use Rattle.judge_texts.specs.Judging.{judged}

-- a text of whole rows that is not legal is judged as it is with anything behind it: the same verdict, text and exit status
abbrev pub IsJudgedToItsFirstWrongRow : Type 0
IsJudgedToItsFirstWrongRow =
    (choice : JudgeChoice) (line : Description) (front behind : List ℕ) (fault : AuditFault)
    → checked line (front ++ 10 ∷ []) ≡ Err fault
    → judged choice line ((front ++ 10 ∷ []) ++ behind) ≡ judged choice line (front ++ 10 ∷ [])
