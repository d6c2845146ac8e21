-- What a request left of a station stays as long as none follows that changes it.
use Rattle.std.proofs.Common.{◌≡◌, ℕ, Bool, true, false, not, List, [], ◌∷◌, ◌++◌, ap, refl, sym, ◌∙◌}
use Rattle.std.specs.Prelude.{◌==◌, ◌&&◌, if◌then◌else◌}
use Rattle.std.specs.List.{fold}
use Rattle.std.proofs.lemmas.Bool.{and_parts, cond-false, cond-true, eq-eqb}
use Rattle.std.proofs.lemmas.List.Sums.{fold-append}
use Rattle.judge_rules.specs.declared.entry.Entry.{Entry}
use Rattle.judge_rules.specs.declared.entry.Entry.TheVariants as entries
use Rattle.judge_rules.specs.declared.entry.Request.{Request}
use Rattle.judge_rules.specs.declared.station.Station.{Station}
use Rattle.judge_rules.specs.Effects.{have_none, is_request_to}
use Rattle.judge_rules.specs.Stations.{new_station, station_after, station_of, station_with}
use Rattle.judge_rules.proofs.Bools.{and_true}

-- at another station nothing changes
one : {X : Type 0} (P : Station → X) (x : X) (at is : Bool) (s after : Station) → P s ≡ x → (not is ≡ true → P after ≡ x) → not (at && is) ≡ true
    → P (if at then after else s) ≡ x
one P x true is s after now step other = step other
one P x false is s after now step other = now

pub kept : {X : Type 0} (P : Station → X) (x : X) (test : Request → Bool) → ((s : Station) (r : Request) → P s ≡ x → not (test r) ≡ true → P (station_after s r) ≡ x)
    → (address : ℕ) (s : Station) (past : List Entry) → P s ≡ x → have_none test address past ≡ true → P (fold (station_with address) s past) ≡ x
kept P x test step address s [] now none = now
kept P x test step address s (entries.Request request ∷ past) now none =
    let parts = and_parts (not (is_request_to test address (entries.Request request))) (have_none test address past) none in
    kept P x test step address (station_with address s (entries.Request request)) past
    (one P x (request.address == address) (test request) s (station_after s request) now (step s request now) parts.0) parts.1
kept P x test step address s (entries.PassedToken to ∷ past) now none = kept P x test step address s past now none
kept P x test step address s (entries.Stray ∷ past) now none = kept P x test step address s past now none

-- what a request to the station left is there after the entries that follow
pub since : {X : Type 0} (P : Station → X) (x : X) (test : Request → Bool) → ((s : Station) (r : Request) → P s ≡ x → not (test r) ≡ true → P (station_after s r) ≡ x)
    → (address : ℕ) (front back : List Entry) (before : Request) → before.address ≡ address → P (station_after (station_of address front) before) ≡ x
    → have_none test address back ≡ true → P (station_of address (front ++ entries.Request before ∷ back)) ≡ x
since P x test step address front back before at now none =
    ap (λ (s : Station). P s) (fold-append (station_with address) new_station front (entries.Request before ∷ back))
    ∙ kept P x test step address (station_with address (station_of address front) (entries.Request before)) back
    (ap (λ (s : Station). P s) (cond-true (before.address == address) (station_after (station_of address front) before) (station_of address front) (eq-eqb before.address address at)) ∙ now)
    none

either : {X : Type 0} (P : Station → X) (x : X) (at : Bool) (s after : Station) → P s ≡ x → P after ≡ x → P (if at then after else s) ≡ x
either P x true s after now step = step
either P x false s after now step = now

-- what no request changes is there after any entries
pub always : {X : Type 0} (P : Station → X) (x : X) → ((s : Station) (r : Request) → P s ≡ x → P (station_after s r) ≡ x)
    → (address : ℕ) (s : Station) (past : List Entry) → P s ≡ x → P (fold (station_with address) s past) ≡ x
always P x step address s [] now = now
always P x step address s (entries.Request request ∷ past) now =
    always P x step address (station_with address s (entries.Request request)) past (either P x (request.address == address) s (station_after s request) now (step s request now))
always P x step address s (entries.PassedToken to ∷ past) now = always P x step address s past now
always P x step address s (entries.Stray ∷ past) now = always P x step address s past now

pub ever_since : {X : Type 0} (P : Station → X) (x : X) → ((s : Station) (r : Request) → P s ≡ x → P (station_after s r) ≡ x)
    → (address : ℕ) (front back : List Entry) (before : Request) → before.address ≡ address → P (station_after (station_of address front) before) ≡ x
    → P (station_of address (front ++ entries.Request before ∷ back)) ≡ x
ever_since P x step address front back before at now =
    ap (λ (s : Station). P s) (fold-append (station_with address) new_station front (entries.Request before ∷ back))
    ∙ always P x step address (station_with address (station_of address front) (entries.Request before)) back
    (ap (λ (s : Station). P s) (cond-true (before.address == address) (station_after (station_of address front) before) (station_of address front) (eq-eqb before.address address at)) ∙ now)

-- what is not sent to a station leaves it
left : (address : ℕ) (station : Station) (entry : Entry) → is_request_to (λ any. true) address entry ≡ false → station_with address station entry ≡ station
left address station (entries.Request request) other =
    cond-false (request.address == address) (station_after station request) station (sym (and_true (request.address == address)) ∙ other)
left address station (entries.PassedToken to) other = refl
left address station entries.Stray other = refl

pub same_station : (address : ℕ) (front back : List Entry) (entry : Entry) → is_request_to (λ any. true) address entry ≡ false
    → station_of address (front ++ entry ∷ back) ≡ station_of address (front ++ back)
same_station address front back entry other =
    fold-append (station_with address) new_station front (entry ∷ back)
    ∙ ap (λ (s : Station). fold (station_with address) s back) (left address (station_of address front) entry other)
    ∙ sym (fold-append (station_with address) new_station front back)
