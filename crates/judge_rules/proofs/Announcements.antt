-- How many Data_Exchange followed a DH.
use Rattle.std.proofs.Common.{◌≡◌, ℕ, zero, suc, ◌+◌, Bool, true, false, not, List, [], ◌∷◌, ◌++◌, Option, Some, None, ap, refl, sym, arith, ◌∙◌}
use Rattle.std.specs.Prelude.{◌==◌, ◌&&◌, ◌||◌, cond, if◌then◌else◌, is_some}
use Rattle.std.specs.List.{fold}
use Rattle.std.proofs.lemmas.Bool.{and_parts, cond-true, eq-eqb, ne_eqb}
use Rattle.std.proofs.lemmas.List.Sums.{fold-append, sum_by-cons}
use Rattle.judge_rules.specs.declared.entry.Answer.{Answer}
use Rattle.judge_rules.specs.declared.entry.Answer.TheVariants as answers
use Rattle.judge_rules.specs.declared.entry.Entry.{Entry}
use Rattle.judge_rules.specs.declared.entry.Entry.TheVariants as entries
use Rattle.judge_rules.specs.declared.entry.Request.{Request}
use Rattle.judge_rules.specs.declared.station.Station.{Station}
use Rattle.judge_rules.specs.Effects.{have_none, is_request_to}
use Rattle.judge_rules.specs.Entries.{diagnosis_in, diag_asked, diag_read, exchange_asked, is_dh, is_done, is_rr, prm_asked}
use Rattle.judge_rules.specs.Stations.{is_acknowledged_prm, new_station, one_more, station_after, station_of, station_with, unread_after}
use Rattle.judge_rules.specs.StationWords.{announces_diagnosis, ends_announcement, exchanges_to}
use Rattle.judge_rules.proofs.Bools.{and_false}

-- nothing is announced as long as no DH comes, and after a Slave_Diag or a Set_Prm
no_dh : (answer : Answer) (exchange : Bool) → not (exchange && is_dh answer) ≡ true → (if exchange then one_more None answer else None) ≡ None
no_dh answers.Dh true other = absurd cc
no_dh answer true other = refl
no_dh answer false other = refl

stays_none : (read acknowledged exchange : Bool) (answer : Answer) → not (exchange && is_dh answer) ≡ true
    → (if read then None else if acknowledged then None else if exchange then one_more None answer else None) ≡ None
stays_none true acknowledged exchange answer other = refl
stays_none false true exchange answer other = refl
stays_none false false exchange answer other = no_dh answer exchange other

pub none_stays : (unread : Option ℕ) (r : Request) → unread ≡ None → not (announces_diagnosis r) ≡ true → unread_after unread r ≡ None
none_stays unread r now other =
    ap (λ (u : Option ℕ). unread_after u r) now
    ∙ stays_none (diag_read r) (is_acknowledged_prm r) (exchange_asked r) r.answer other

ended : (read acknowledged : Bool) (rest : Option ℕ) → (read || acknowledged) ≡ true → (if read then None else if acknowledged then None else rest) ≡ None
ended true acknowledged rest is = refl
ended false true rest is = refl
ended false false rest is = absurd cc

pub none_now : (unread : Option ℕ) (r : Request) → ends_announcement r ≡ true → unread_after unread r ≡ None
none_now unread r is =
    ended (diag_read r) (is_acknowledged_prm r) (if exchange_asked r then one_more unread r.answer else unread) is

-- the DH itself
dh_is_no_diagnosis : (answer : Answer) → is_dh answer ≡ true → (is_some (diagnosis_in answer) || is_rr answer) ≡ false
dh_is_no_diagnosis answers.Dh is = refl
dh_is_no_diagnosis answer is = absurd cc

dh_is_not_done : (answer : Answer) → is_dh answer ≡ true → is_done answer ≡ false
dh_is_not_done answers.Dh is = refl
dh_is_not_done answer is = absurd cc

begun : (read acknowledged exchange : Bool) (answer : Answer) → read ≡ false → acknowledged ≡ false → (exchange && is_dh answer) ≡ true
    → (if read then None else if acknowledged then None else if exchange then one_more None answer else None) ≡ Some 0
begun false false true answers.Dh not_read other is = refl
begun false false true answer not_read other is = absurd cc
begun false false false answer not_read other is = absurd cc
begun false true exchange answer not_read other is = absurd cc
begun true acknowledged exchange answer not_read other is = absurd cc

pub announced : (unread : Option ℕ) (r : Request) → unread ≡ None → announces_diagnosis r ≡ true → unread_after unread r ≡ Some 0
announced unread r now is =
    let dh : is_dh r.answer ≡ true = (and_parts (exchange_asked r) (is_dh r.answer) is).1 in
    ap (λ (u : Option ℕ). unread_after u r) now
    ∙ begun (diag_read r) (is_acknowledged_prm r) (exchange_asked r) r.answer
    (ap (λ (b : Bool). diag_asked r && b) (dh_is_no_diagnosis r.answer dh) ∙ and_false (diag_asked r))
    (ap (λ (b : Bool). is_some (prm_asked r) && b) (dh_is_not_done r.answer dh) ∙ and_false (is_some (prm_asked r)))
    is

-- the Data_Exchange after it: more than four count as four
abbrev pub four : ℕ → ℕ
four zero = 0
four (suc zero) = 1
four (suc (suc zero)) = 2
four (suc (suc (suc zero))) = 3
four (suc (suc (suc (suc n)))) = 4

same_count : (a b : ℕ) → a ≡ b → Some (four a) ≡ Some (four b)
same_count a b same = ap (λ (k : ℕ). Some (four k)) same

counted : (n : ℕ) (answer : Answer) → one_more (Some (four n)) answer ≡ Some (four (suc n))
counted zero answer = refl
counted (suc zero) answer = refl
counted (suc (suc zero)) answer = refl
counted (suc (suc (suc zero))) answer = refl
counted (suc (suc (suc (suc n)))) answer = refl

goes_on : (read acknowledged exchange : Bool) (n : ℕ) (answer : Answer) → not (read || acknowledged) ≡ true
    → (if read then None else if acknowledged then None else if exchange then one_more (Some (four n)) answer else Some (four n)) ≡ Some (four (n + cond exchange 1 0))
goes_on true acknowledged exchange n answer other = absurd cc
goes_on false true exchange n answer other = absurd cc
goes_on false false true n answer other = counted n answer ∙ same_count (suc n) (n + 1) (omega arith)
goes_on false false false n answer other = same_count n (n + 0) (omega arith)

more : (unread : Option ℕ) (r : Request) (n : ℕ) → unread ≡ Some (four n) → not (ends_announcement r) ≡ true → unread_after unread r ≡ Some (four (n + cond (exchange_asked r) 1 0))
more unread r n now other =
    ap (λ (u : Option ℕ). unread_after u r) now
    ∙ goes_on (diag_read r) (is_acknowledged_prm r) (exchange_asked r) n r.answer other

here : (at ends exchange : Bool) (s after : Station) (n : ℕ) → s.unread ≡ Some (four n) → (not ends ≡ true → after.unread ≡ Some (four (n + cond exchange 1 0))) → not (at && ends) ≡ true
    → (if at then after else s).unread ≡ Some (four (n + cond (at && exchange) 1 0))
here true ends exchange s after n now step other = step other
here false ends exchange s after n now step other = now ∙ same_count n (n + 0) (omega arith)

pub count_goes_on : (address n : ℕ) (s : Station) (past : List Entry) → s.unread ≡ Some (four n) → have_none ends_announcement address past ≡ true
    → (fold (station_with address) s past).unread ≡ Some (four (n + exchanges_to address past))
count_goes_on address n s [] now none = now ∙ same_count n (n + 0) (omega arith)
count_goes_on address n s (entries.Request request ∷ past) now none =
    let parts = and_parts (not (is_request_to ends_announcement address (entries.Request request))) (have_none ends_announcement address past) none in
    let one : ℕ = cond (request.address == address && exchange_asked request) 1 0 in
    let sum : exchanges_to address (entries.Request request ∷ past) ≡ one + exchanges_to address past =
    sum_by-cons (λ entry. cond (is_request_to exchange_asked address entry) 1 0) (entries.Request request) past in
    count_goes_on address (n + one) (station_with address s (entries.Request request)) past
    (here (request.address == address) (ends_announcement request) (exchange_asked request) s (station_after s request) n now (more s.unread request n now) parts.0) parts.1
    ∙ same_count (n + one + exchanges_to address past) (n + exchanges_to address (entries.Request request ∷ past)) (omega (arith, sum))
count_goes_on address n s (entries.PassedToken to ∷ past) now none =
    let sum : exchanges_to address (entries.PassedToken to ∷ past) ≡ 0 + exchanges_to address past =
    sum_by-cons (λ entry. cond (is_request_to exchange_asked address entry) 1 0) (entries.PassedToken to) past in
    count_goes_on address n s past now none
    ∙ same_count (n + exchanges_to address past) (n + exchanges_to address (entries.PassedToken to ∷ past)) (omega (arith, sum))
count_goes_on address n s (entries.Stray ∷ past) now none =
    let sum : exchanges_to address (entries.Stray ∷ past) ≡ 0 + exchanges_to address past =
    sum_by-cons (λ entry. cond (is_request_to exchange_asked address entry) 1 0) entries.Stray past in
    count_goes_on address n s past now none
    ∙ same_count (n + exchanges_to address past) (n + exchanges_to address (entries.Stray ∷ past)) (omega (arith, sum))

-- from the DH on
pub since_dh : (address : ℕ) (front back : List Entry) (dh : Request) → (station_of address front).unread ≡ None → dh.address ≡ address → announces_diagnosis dh ≡ true
    → have_none ends_announcement address back ≡ true
    → (station_of address (front ++ entries.Request dh ∷ back)).unread ≡ Some (four (exchanges_to address back))
since_dh address front back dh before at is none =
    ap (λ (s : Station). s.unread) (fold-append (station_with address) new_station front (entries.Request dh ∷ back))
    ∙ count_goes_on address 0 (station_with address (station_of address front) (entries.Request dh)) back
    (ap (λ (s : Station). s.unread) (cond-true (dh.address == address) (station_after (station_of address front) dh) (station_of address front) (eq-eqb dh.address address at))
    ∙ announced (station_of address front).unread dh before is)
    none
    ∙ same_count (0 + exchanges_to address back) (exchanges_to address back) (omega arith)

pub third : (n : ℕ) → (four n == 3) ≡ (n == 3)
third zero = refl
third (suc zero) = refl
third (suc (suc zero)) = refl
third (suc (suc (suc zero))) = refl
third (suc (suc (suc (suc n)))) = sym (ne_eqb (suc (suc (suc (suc n)))) 3 (λ same. omega (arith, same)))
