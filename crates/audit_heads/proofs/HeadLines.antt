-- A head is read row by row, and a line goes on from it.
use Rattle.std.proofs.Common.{◌≡◌, ◌≢◌, ℕ, zero, suc, ◌+◌, ◌-◌, Bool, true, false, not, cond, eqb, List, [], ◌∷◌, ◌++◌, map, Option, Some, None, Result, Ok, Err, refl, sym, ap, subst, ◌∙◌, append_assoc, arith}
use Rattle.std.specs.List.{cons_option, filter_map, list_all, range_with_len}
use Rattle.std.proofs.lemmas.Bool.{and_parts}
use Rattle.dp_slave.specs.declared.description.SlaveSpec.{SlaveSpec}
use Rattle.dp_slave.specs.SlaveRecord.{SlaveRecord, can_be_parsed, configurations}
use Rattle.dp_slave.specs.SlaveParts.{SlaveParts}
use Rattle.dp_line.specs.declared.fault.OpenFault.TheVariants.{TwiceAddress, Limit, BadCfg, UnknownListed}
use Rattle.dp_line.specs.declared.fault.RestoreFault.{RestoreFault}
use Rattle.dp_line.specs.World.{Description, ascending, described_at, has_configurations, has_twice, is_within_limits, lists_masters, opening_fault, station_addresses}
use Rattle.dp_line.specs.SoundWorld.{restore_fault}
use Rattle.dp_line.specs.Stations.{restored_world, slaves_of}
use Rattle.audit_heads.specs.declared.running.Running.{Running}
use Rattle.audit_heads.specs.declared.head_fault.HeadFault.{HeadFault}
use Rattle.audit_heads.specs.declared.head_fault.HeadFault.TheVariants.{WrongRow, Unsound, OutOfMemory}
use Rattle.audit_heads.specs.Rows.{Left, and_then, read_row}
use Rattle.audit_heads.specs.SlaveRows.{slave_read}
use Rattle.audit_heads.specs.Head.{Head, head_read, head_with, place_of_row, running_of_row, slaves_read}
use Rattle.audit_heads.specs.HeadLines.{if_sound, line_read, sound_head}
use Rattle.audit_heads.specs.Reading.{AreRead, behind_slaves, described_from}
use Rattle.audit_heads.proofs.SlavesRead.{Reading, slaves_are}

-- ---- descriptions

has_by : (p : SlaveSpec → Bool) (b : Bool) (x y : SlaveSpec) (found : Option SlaveSpec) → p x ≡ true → (found ≡ Some y → p y ≡ true) → cond b (Some x) found ≡ Some y → p y ≡ true
has_by p true x y found here others is = let same : x ≡ y = cc in ap p (sym same) ∙ here
has_by p false x y found here others is = others is

described_has : (p : SlaveSpec → Bool) (slaves : List SlaveSpec) (address : ℕ) (y : SlaveSpec) → list_all p slaves ≡ true → described_at slaves address ≡ Some y → p y ≡ true
described_has p [] address y all is = absurd cc
described_has p (x ∷ xs) address y all is =
    let (here, others) = and_parts (p x) (list_all p xs) all in
    has_by p (eqb x.address address) x y (described_at xs address) here (described_has p xs address y others) is

pub parsed_here : (descriptions : List SlaveSpec) (address : ℕ) (found : Option SlaveSpec) (y : SlaveSpec) → list_all has_configurations descriptions ≡ true → found ≡ described_at descriptions address → found ≡ Some y
    → list_all can_be_parsed (configurations y) ≡ true
parsed_here descriptions address found y all is was = described_has has_configurations descriptions address y all (sym is ∙ was)

configured_by : (a b l c : Bool) → cond (not a) (Some Limit) (cond b (Some TwiceAddress) (cond (not l) (Some UnknownListed) (cond (not c) (Some BadCfg) None))) ≡ None → c ≡ true
configured_by true false true true e = refl
configured_by false b l c e = absurd cc
configured_by true true l c e = absurd cc
configured_by true false false c e = absurd cc
configured_by true false true false e = absurd cc

pub configured : (line : Description) → opening_fault line ≡ None → list_all has_configurations line.slaves ≡ true
configured line e =
    configured_by (is_within_limits line) (has_twice (station_addresses line)) (list_all (lists_masters line.masters) line.slaves) (list_all has_configurations line.slaves) e

from_more : (ds : List SlaveSpec) (address count : ℕ) → count ≢ 0 → described_from ds address count ≡ cons_option (described_at ds address) (described_from ds (address + 1) (count - 1))
from_more ds address zero e = absurd (e refl)
from_more ds address (suc n) e =
    let less : suc n - 1 ≡ n = omega arith in
    ap (λ (k : ℕ). cons_option (described_at ds address) (filter_map (described_at ds) (range_with_len (address + 1) k))) (sym less)

found_more : (ds : List SlaveSpec) (address count : ℕ) (d : SlaveSpec) → count ≢ 0 → described_at ds address ≡ Some d → described_from ds address count ≡ d ∷ described_from ds (address + 1) (count - 1)
found_more ds address count d e found = from_more ds address count e ∙ ap (λ (o : Option SlaveSpec). cons_option o (described_from ds (address + 1) (count - 1))) found

-- ---- slaves

abbrev with_first : SlaveRecord → List SlaveRecord → Left → Reading (List SlaveRecord)
with_first slave others rest = Ok (slave ∷ others, rest)

abbrev at_others : List ℕ → List SlaveSpec → SlaveRecord → Left → Reading (List SlaveRecord)
at_others masters ds slave behind = and_then (slaves_read masters ds behind) (with_first slave)

one_by : (old : List SlaveRecord) (slave : SlaveRecord) (others : Reading (List SlaveRecord)) → behind_slaves old (and_then others (with_first slave)) ≡ behind_slaves (old ++ slave ∷ []) others
one_by old slave (Err number) = refl
one_by old slave (Ok read) = ap (λ (l : List SlaveRecord). Ok (l, read.1)) (sym (append_assoc old (slave ∷ []) read.0))

pub slave_more : (old : List SlaveRecord) (masters : List ℕ) (ds : List SlaveSpec) (address count : ℕ) (left l1 : Left) (d : SlaveSpec) (slave : SlaveRecord) → count ≢ 0 → described_at ds address ≡ Some d
    → slave_read masters d left ≡ Ok (slave, l1)
    → behind_slaves old (slaves_read masters (described_from ds address count) left) ≡ behind_slaves (old ++ slave ∷ []) (slaves_read masters (described_from ds (address + 1) (count - 1)) l1)
slave_more old masters ds address count left l1 d slave e found is =
    ap (λ (xs : List SlaveSpec). behind_slaves old (slaves_read masters xs left)) (found_more ds address count d e found)
    ∙ ap (λ (r : Reading SlaveRecord). behind_slaves old (and_then r (at_others masters (described_from ds (address + 1) (count - 1))))) is
    ∙ one_by old slave (slaves_read masters (described_from ds (address + 1) (count - 1)) l1)

pub slave_wrong : (old : List SlaveRecord) (masters : List ℕ) (ds : List SlaveSpec) (address count : ℕ) (left : Left) (d : SlaveSpec) (number : ℕ) → count ≢ 0 → described_at ds address ≡ Some d
    → slave_read masters d left ≡ Err number → behind_slaves old (slaves_read masters (described_from ds address count) left) ≡ Err number
slave_wrong old masters ds address count left d number e found is =
    ap (λ (xs : List SlaveSpec). behind_slaves old (slaves_read masters xs left)) (found_more ds address count d e found)
    ∙ ap (λ (r : Reading SlaveRecord). behind_slaves old (and_then r (at_others masters (described_from ds (address + 1) (count - 1))))) is

behind_no_slaves : (r : Reading (List SlaveRecord)) → behind_slaves [] r ≡ r
behind_no_slaves (Err number) = refl
behind_no_slaves (Ok read) = refl

-- what was read of all slaves
pub all_read : {V : Type 0} (items : V → List SlaveParts) (r : Result V HeadFault) (masters : List ℕ) (ds : List SlaveSpec) (before : List SlaveParts) (left rest : Left) → before ≡ []
    → AreRead items r rest (behind_slaves (slaves_of before) (slaves_read masters (described_from ds 0 127) left)) → AreRead items r rest (slaves_read masters (ascending ds) left)
unfolding ascending
all_read items r masters ds before left rest empty is =
    subst (AreRead items r rest) (ap (λ (b : List SlaveParts). behind_slaves (slaves_of b) (slaves_read masters (described_from ds 0 127) left)) empty ∙ behind_no_slaves (slaves_read masters (described_from ds 0 127) left)) is

descriptions_by : (parts : List SlaveParts) → map (λ p. p.slave.description) parts ≡ map (λ (s : SlaveRecord). s.description) (slaves_of parts)
descriptions_by [] = refl
descriptions_by (x ∷ parts) = ap (λ (l : List SlaveSpec). x.slave.description ∷ l) (descriptions_by parts)

pub descriptions_read : (masters : List ℕ) (ds : List SlaveSpec) (parts : List SlaveParts) (left rest : Left) → slaves_read masters ds left ≡ Ok (slaves_of parts, rest) → map (λ p. p.slave.description) parts ≡ ds
descriptions_read masters ds parts left rest is = descriptions_by parts ∙ (slaves_are masters ds left (slaves_of parts) rest is).described

-- ---- the head

abbrev pub with_slaves : Description → ℕ → Running → List SlaveRecord → Left → Reading Head
with_slaves line place running slaves rest = Ok (head_with line place running slaves, rest)

abbrev pub at_slaves : Description → ℕ → Running → Left → Reading Head
at_slaves line place running left = and_then (slaves_read line.masters (ascending line.slaves) left) (with_slaves line place running)

abbrev pub at_running : Description → ℕ → Left → Reading Head
at_running line place left = and_then (read_row running_of_row left) (at_slaves line place)

pub wrong_place : (line : Description) (text : List ℕ) (number : ℕ) → read_row (place_of_row line.number) (record { number = 1; text = text }) ≡ Err number → line_read line text ≡ Err (WrongRow number)
unfolding line_read head_read
wrong_place line text number is = ap (λ (r : Reading ℕ). sound_head (and_then r (at_running line))) is

pub wrong_running : (line : Description) (text : List ℕ) (place number : ℕ) (l1 : Left) → read_row (place_of_row line.number) (record { number = 1; text = text }) ≡ Ok (place, l1)
    → read_row running_of_row l1 ≡ Err number → line_read line text ≡ Err (WrongRow number)
unfolding line_read head_read
wrong_running line text place number l1 first is =
    ap (λ (r : Reading ℕ). sound_head (and_then r (at_running line))) first ∙ ap (λ (r : Reading Running). sound_head (and_then r (at_slaves line place))) is

-- the rows before the slaves are read
pub record IsBegun (line : Description) (text : List ℕ) (place : ℕ) (running : Running) (l1 l2 : Left) : Type 0 where
  pub first : read_row (place_of_row line.number) (record { number = 1; text = text }) ≡ Ok (place, l1)
  pub second : read_row running_of_row l1 ≡ Ok (running, l2)

so_far : (line : Description) (text : List ℕ) (place : ℕ) (running : Running) (l1 l2 : Left) → IsBegun line text place running l1 l2 → line_read line text ≡ sound_head (at_slaves line place running l2)
unfolding line_read head_read
so_far line text place running l1 l2 begun =
    ap (λ (r : Reading ℕ). sound_head (and_then r (at_running line))) begun.first ∙ ap (λ (r : Reading Running). sound_head (and_then r (at_slaves line place))) begun.second

pub wrong_slaves : {V : Type 0} (items : V → List SlaveParts) (r : Result V HeadFault) (line : Description) (text : List ℕ) (place : ℕ) (running : Running) (l1 l2 rest : Left) (fault : HeadFault)
    → IsBegun line text place running l1 l2 → AreRead items r rest (slaves_read line.masters (ascending line.slaves) l2) → r ≡ Err fault → fault ≢ OutOfMemory → line_read line text ≡ Err fault
wrong_slaves items r line text place running l1 l2 rest (WrongRow number) begun is was apart =
    so_far line text place running l1 l2 begun
    ∙ ap (λ (s : Reading (List SlaveRecord)). sound_head (and_then s (with_slaves line place running))) (subst (λ x. AreRead items x rest (slaves_read line.masters (ascending line.slaves) l2)) was is)
wrong_slaves items r line text place running l1 l2 rest (Unsound why) begun is was apart = absurd (subst (λ x. AreRead items x rest (slaves_read line.masters (ascending line.slaves) l2)) was is)
wrong_slaves items r line text place running l1 l2 rest OutOfMemory begun is was apart = absurd (apart refl)

pub slaves_got : {V : Type 0} (items : V → List SlaveParts) (r : Result V HeadFault) (masters : List ℕ) (ds : List SlaveSpec) (left rest : Left) (value : V) → AreRead items r rest (slaves_read masters ds left) → r ≡ Ok value
    → slaves_read masters ds left ≡ Ok (slaves_of (items value), rest)
slaves_got items r masters ds left rest value is was = subst (λ x. AreRead items x rest (slaves_read masters ds left)) was is

pub head_got : (line : Description) (text : List ℕ) (place : ℕ) (running : Running) (l1 l2 rest : Left) (parts : List SlaveParts) (found : Option RestoreFault) → IsBegun line text place running l1 l2
    → slaves_read line.masters (ascending line.slaves) l2 ≡ Ok (slaves_of parts, rest) → restore_fault (restored_world line.masters place running.halted parts) ≡ found
    → line_read line text ≡ if_sound found (head_with line place running (slaves_of parts)) rest
head_got line text place running l1 l2 rest parts found begun is reported =
    so_far line text place running l1 l2 begun
    ∙ ap (λ (s : Reading (List SlaveRecord)). sound_head (and_then s (with_slaves line place running))) is
    ∙ ap (λ (f : Option RestoreFault). if_sound f (head_with line place running (slaves_of parts)) rest) reported
