-- The last SRD to a station is what is stored of it.
use Rattle.std.proofs.Common.{◌≡◌, ℕ, Bool, true, false, not, List, [], ◌∷◌, ◌++◌, Option, Some, None, refl, ap, ◌∙◌}
use Rattle.std.specs.Prelude.{◌==◌, ◌&&◌, if◌then◌else◌}
use Rattle.std.specs.List.{fold}
use Rattle.std.proofs.lemmas.Bool.{and_parts}
use Rattle.std.proofs.lemmas.List.Sums.{fold-append}
use Rattle.judge_rules.specs.declared.entry.Entry.{Entry}
use Rattle.judge_rules.specs.declared.entry.Entry.TheVariants as entries
use Rattle.judge_rules.specs.declared.entry.Request.{Request}
use Rattle.judge_rules.specs.declared.station.Last.{Last}
use Rattle.judge_rules.specs.declared.station.Station.{Station}
use Rattle.judge_rules.specs.Entries.{is_srd}
use Rattle.judge_rules.specs.Laws.{have_no_srd_to, is_srd_to}
use Rattle.judge_rules.specs.Stations.{last_of, new_station, station_after, station_of, station_with}

-- a request that is no SRD to the station leaves what is stored
same_last : (at srd : Bool) (station after : Station) (new : Option Last) → after.last ≡ (if srd then new else station.last) → not (at && srd) ≡ true
    → (if at then after else station).last ≡ station.last
same_last true true station after new is other = absurd cc
same_last true false station after new is other = is
same_last false srd station after new is other = refl

-- entries without an SRD to the station leave it
last_kept : (address : ℕ) (station : Station) (past : List Entry) → have_no_srd_to address past ≡ true → (fold (station_with address) station past).last ≡ station.last
last_kept address station [] none = refl
last_kept address station (entries.Request request ∷ past) none =
    let parts = and_parts (not (is_srd_to address (entries.Request request))) (have_no_srd_to address past) none in
    last_kept address (station_with address station (entries.Request request)) past parts.1
    ∙ same_last (request.address == address) (is_srd request) station (station_after station request) (Some (last_of request)) refl parts.0
last_kept address station (entries.PassedToken to ∷ past) none = last_kept address station past none
last_kept address station (entries.Stray ∷ past) none = last_kept address station past none

stored : (at srd : Bool) (station after : Station) (new : Last) → after.last ≡ (if srd then Some new else station.last) → (at && srd) ≡ true
    → (if at then after else station).last ≡ Some new
stored true true station after new is here = is
stored true false station after new is here = absurd cc
stored false srd station after new is here = absurd cc

-- the last SRD to the station is what is stored
pub last_is : (address : ℕ) (front back : List Entry) (before : Request) → is_srd_to address (entries.Request before) ≡ true → have_no_srd_to address back ≡ true
    → (station_of address (front ++ entries.Request before ∷ back)).last ≡ Some (last_of before)
last_is address front back before here none =
    ap (λ (s : Station). s.last) (fold-append (station_with address) new_station front (entries.Request before ∷ back))
    ∙ last_kept address (station_with address (station_of address front) (entries.Request before)) back none
    ∙ stored (before.address == address) (is_srd before) (station_of address front) (station_after (station_of address front) before) (last_of before) refl here

-- without one, nothing is stored
pub none_is : (address : ℕ) (past : List Entry) → have_no_srd_to address past ≡ true → (station_of address past).last ≡ None
none_is address past none = last_kept address new_station past none
