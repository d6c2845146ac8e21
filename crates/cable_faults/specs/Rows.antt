-- detail
-- The rows that the cable writes (own).
use Rattle.std.specs.Prelude.{codes, ℕ, List, [], ◌++◌, Option, Some, None}
use Rattle.std.specs.Fmt.{decimal}
use Rattle.dp_text.specs.Texts.{octets_text}
use Rattle.cable_faults.specs.declared.treatment.Treatment.{Treatment}
use Rattle.cable_faults.specs.declared.treatment.Treatment.TheVariants.{Passed, Withheld, Lost, Spoilt, Cut, Late}
use Rattle.cable_faults.specs.declared.options.Direction.{Direction}
use Rattle.cable_faults.specs.declared.options.Direction.TheVariants.{Request, Reply}
use Rattle.cable_faults.specs.declared.order.Answer.{Answer}
use Rattle.cable_faults.specs.declared.order.Answer.TheVariants.{Done, Waits, TooMany}
use Rattle.cable_faults.specs.declared.order.Line.{Line}
use Rattle.cable_faults.specs.declared.passing.Passage.{Passage}
use Rattle.cable_faults.specs.Treatments.{sent_of}
use Rattle.cable_faults.specs.LineTexts.{line_text}

-- ---- the rows that answer lines; each ends in LF

abbrev pub done_row : Line → List ℕ
done_row line = codes "done " ++ line_text line ++ codes "\n"

abbrev pub answer_row : Answer → Line → List ℕ
answer_row Done line = done_row line
answer_row Waits line = []
answer_row TooMany line = codes "refused TooMany\n"

-- ---- the rows of faults

abbrev pub direction_text : Direction → List ℕ
direction_text Request = codes " request "
direction_text Reply = codes " reply "

abbrev pub slave_text : Option ℕ → List ℕ
slave_text None = codes "-"
slave_text (Some address) = decimal address

abbrev pub who_text : ℕ → Direction → Option ℕ → List ℕ
who_text master direction slave = codes "master " ++ decimal master ++ direction_text direction ++ slave_text slave ++ codes ": "

abbrev pub treatment_text : Treatment → List ℕ
treatment_text Passed = []
treatment_text Withheld = []
treatment_text Lost = codes "lost "
treatment_text (Spoilt place octet) = codes "spoilt "
treatment_text (Cut count) = codes "cut "
treatment_text (Late milliseconds) = codes "late " ++ decimal milliseconds ++ codes " "

-- whose telegram it is, what becomes of it, and the octets before and after
abbrev pub fault_row : ℕ → Direction → Passage → List ℕ
fault_row master direction passage =
    who_text master direction passage.decision.slave ++ treatment_text passage.decision.treatment ++ octets_text passage.before.items ++ codes " -> "
    ++ octets_text (sent_of passage.decision.treatment passage.before.items)
