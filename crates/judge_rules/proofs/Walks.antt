-- One more entry, at the station that it is sent to.
use Rattle.std.proofs.Common.{◌≡◌, ℕ, ◌+◌, ◌<◌, List, [], ◌∷◌, ◌++◌, length, get_or, map, inl, inr, refl, sym, ap, ◌∙◌, arith}
use Rattle.std.specs.Prelude.{◌==◌}
use Rattle.std.specs.List.{range_with_len}
use Rattle.std.proofs.Math.ListN.{set}
use Rattle.std.proofs.lemmas.Bool.{cases_eq, cond-true, cond-false, eq-eqb, ne_eqb}
use Rattle.std.proofs.lemmas.List.{length-set, get_or-set_same, get_or-set_other}
use Rattle.std.proofs.lemmas.List.FromFn.{fill_by_all, get_or-map-range_with_len, length-map-range_with_len, map-range_with_len_more}
use Rattle.std.proofs.lemmas.List.Sums.{fold-append}
use Rattle.judge_rules.specs.declared.bus.Bus.{Bus}
use Rattle.judge_rules.specs.declared.entry.Entry.{Entry}
use Rattle.judge_rules.specs.declared.entry.Entry.TheVariants as entries
use Rattle.judge_rules.specs.declared.entry.Request.{Request}
use Rattle.judge_rules.specs.declared.station.Station.{Station}
use Rattle.judge_rules.specs.Before.{octets_stored, srd_before}
use Rattle.judge_rules.specs.BusFacts.{bus_after, bus_of, new_bus}
use Rattle.judge_rules.specs.Stations.{new_station, station_after, station_of, station_with}
use Rattle.judge_rules.specs.declared.rule.JudgeRule.{JudgeRule}
use Rattle.judge_rules.specs.Judges.{JudgeView, all_stations}
use Rattle.judge_rules.specs.Rules.{breaks, broken_by}

-- one more entry is taken last
pub bus_more : (past : List Entry) (entry : Entry) → bus_of (past ++ entry ∷ []) ≡ bus_after (bus_of past) entry
bus_more past entry = fold-append bus_after new_bus past (entry ∷ [])

pub station_more : (address : ℕ) (past : List Entry) (entry : Entry) → station_of address (past ++ entry ∷ []) ≡ station_with address (station_of address past) entry
station_more address past entry = fold-append (station_with address) new_station past (entry ∷ [])

pub length-all_stations : (past : List Entry) → length (all_stations past) ≡ 256
unfolding all_stations
length-all_stations past = length-map-range_with_len (λ address. station_of address past) 0 256

pub station_at : (past : List Entry) (address : ℕ) (d : Station) → address < 256 → get_or (all_stations past) address d ≡ station_of address past
unfolding all_stations
station_at past address d within = get_or-map-range_with_len (λ address. station_of address past) 0 256 address address d within (omega arith)

-- an entry that leaves each station leaves all of them
left : (past : List Entry) (entry : Entry) → ((address : ℕ) (station : Station) → station_with address station entry ≡ station) → all_stations past ≡ all_stations (past ++ entry ∷ [])
unfolding all_stations
left past entry leaves =
    fill_by_all (λ address. station_of address (past ++ entry ∷ [])) (all_stations past) 256 new_station (length-all_stations past)
    (λ address within. station_at past address new_station within ∙ sym (leaves address (station_of address past)) ∙ sym (station_more address past entry))

-- so do octets that are no request, and a token that is passed on
pub stray_taken : (past : List Entry) → all_stations past ≡ all_stations (past ++ entries.Stray ∷ [])
stray_taken past = left past entries.Stray (λ address station. refl)

pub token_taken : (past : List Entry) (to : ℕ) → all_stations past ≡ all_stations (past ++ entries.PassedToken to ∷ [])
token_taken past to = left past (entries.PassedToken to) (λ address station. refl)

-- a request changes the station that it is sent to
here : (past : List Entry) (request : Request) (address : ℕ) (v : Station) → address ≡ request.address → v ≡ station_after (station_of request.address past) request
    → v ≡ station_of address (past ++ entries.Request request ∷ [])
here past request address v same is =
    is
    ∙ ap (λ a. station_after (station_of a past) request) (sym same)
    ∙ sym (cond-true (request.address == address) (station_after (station_of address past) request) (station_of address past) (eq-eqb request.address address (sym same)))
    ∙ sym (station_more address past (entries.Request request))

other : (past : List Entry) (request : Request) (address : ℕ) → (address ≡ request.address → ⊥)
    → station_of address past ≡ station_of address (past ++ entries.Request request ∷ [])
other past request address differs =
    sym (cond-false (request.address == address) (station_after (station_of address past) request) (station_of address past) (ne_eqb request.address address (λ same. differs (sym same))))
    ∙ sym (station_more address past (entries.Request request))

pub request_taken : (past : List Entry) (request : Request) (stations : List Station) (v d : Station) → request.address < 256
    → stations ≡ all_stations past → v ≡ station_after (get_or stations request.address d) request
    → set stations request.address v ≡ all_stations (past ++ entries.Request request ∷ [])
unfolding all_stations
request_taken past request stations v d within are is =
    let long : length stations ≡ 256 = ap (λ (l : List Station). length l) are ∙ length-all_stations past in
    let before : get_or stations request.address d ≡ station_of request.address past = ap (λ (l : List Station). get_or l request.address d) are ∙ station_at past request.address d within in
    let value : v ≡ station_after (station_of request.address past) request = is ∙ ap (λ s. station_after s request) before in
    fill_by_all (λ address. station_of address (past ++ entries.Request request ∷ [])) (set stations request.address v) 256 d
    (length-set stations request.address v ∙ long)
    (λ address below.
    elim (cases_eq address request.address) [
      | inl same ↦ ap (λ a. get_or (set stations request.address v) a d) same ∙ get_or-set_same stations request.address v d (omega (arith, long, within)) ∙ here past request address v same value
      | inr differs ↦ get_or-set_other stations request.address address v d differs
          ∙ ap (λ (l : List Station). get_or l address d) are
          ∙ station_at past address d below
          ∙ other past request address differs
    ])

-- one more station, before the first entry
pub one_more_station : (stations more : List Station) (number : ℕ) (v : Station) → stations ≡ map (λ address. station_of address []) (range_with_len 0 number) → v ≡ new_station
    → more ≡ stations ++ v ∷ [] → more ≡ map (λ address. station_of address []) (range_with_len 0 (number + 1))
one_more_station stations more number v done new pushed =
    pushed
    ∙ ap (λ (l : List Station). l ++ v ∷ []) done
    ∙ ap (λ (s : Station). map (λ address. station_of address []) (range_with_len 0 number) ++ s ∷ []) new
    ∙ sym (map-range_with_len_more (λ address. station_of address []) 0 number number (omega arith))

pub request_taken_at : (past : List Entry) (entry : Entry) (request : Request) (stations : List Station) (index : ℕ) (v d : Station) → entry ≡ entries.Request request
    → index ≡ request.address → index < 256 → stations ≡ all_stations past → v ≡ station_after (get_or stations index d) request
    → set stations index v ≡ all_stations (past ++ entry ∷ [])
request_taken_at past entry request stations index v d is_request at within are is =
    ap (λ i. set stations i v) at
    ∙ request_taken past request stations v d (omega (arith, at, within)) are (is ∙ ap (λ i. station_after (get_or stations i d) request) at)
    ∙ ap (λ e. all_stations (past ++ e ∷ [])) (sym is_request)

pub stray_taken_at : (past : List Entry) (entry : Entry) (stations : List Station) → entry ≡ entries.Stray → stations ≡ all_stations past
    → stations ≡ all_stations (past ++ entry ∷ [])
stray_taken_at past entry stations is_stray are = are ∙ stray_taken past ∙ ap (λ e. all_stations (past ++ e ∷ [])) (sym is_stray)

pub token_taken_at : (past : List Entry) (entry : Entry) (to : ℕ) (stations : List Station) → entry ≡ entries.PassedToken to → stations ≡ all_stations past
    → stations ≡ all_stations (past ++ entry ∷ [])
token_taken_at past entry to stations is_token are = are ∙ token_taken past to ∙ ap (λ e. all_stations (past ++ e ∷ [])) (sym is_token)

pub found_at : (past : List Entry) (stations : List Station) (address index : ℕ) (found d : Station) → index ≡ address → index < 256 → found ≡ get_or stations index d
    → stations ≡ all_stations past → found ≡ station_of address past
found_at past stations address index found d at within is are =
    is ∙ ap (λ (l : List Station). get_or l index d) are ∙ station_at past index d within ∙ ap (λ a. station_of a past) at

-- a rule over what the entries left is a rule over the entries
pub broken_at : (view : JudgeView) (retries : ℕ) (past : List Entry) (bus : Bus) (station : Station) (entry : Entry) (request : Request) (rule : JudgeRule)
    → view ≡ record { retries = retries; past = past } → entry ≡ entries.Request request → bus ≡ bus_of past → station ≡ station_of request.address past
    → broken_by retries bus station request rule ≡ breaks view.retries view.past entry rule
broken_at view retries past bus station entry request rule viewed is_request bus_is station_is =
    ap (λ b. broken_by retries b station request rule) bus_is
    ∙ ap (λ s. broken_by retries (bus_of past) s request rule) station_is
    ∙ ap (λ e. breaks retries past e rule) (sym is_request)
    ∙ ap (λ (v : JudgeView). breaks v.retries v.past entry rule) (sym viewed)

pub before_at : (view : JudgeView) (retries : ℕ) (past : List Entry) (station : Station) (entry : Entry) (request : Request)
    → view ≡ record { retries = retries; past = past } → entry ≡ entries.Request request → station ≡ station_of request.address past
    → octets_stored station.last ≡ srd_before view.past entry
before_at view retries past station entry request viewed is_request station_is =
    ap (λ (s : Station). octets_stored s.last) station_is
    ∙ ap (λ e. srd_before past e) (sym is_request)
    ∙ ap (λ (v : JudgeView). srd_before v.past entry) (sym viewed)

pub many : (stations : List Station) (past : List Entry) → stations ≡ all_stations past → length stations ≡ 256
many stations past are = ap (λ (l : List Station). length l) are ∙ length-all_stations past
