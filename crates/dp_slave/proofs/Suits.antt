-- What a request that is let through does suits the slave.
use Rattle.std.proofs.Common.{◌≡◌, ℕ, suc, ◌*◌, ◌<◌, ◌≤◌, ◌↔◌, ◌⊎◌, Bool, true, false, not, cond, eqb, leb, List, [], ◌∷◌, length, All, Option, Some, None, inl, inr, refl, sym, ap, subst, ◌∙◌, arith}
use Rattle.std.specs.Prelude.{◌&&◌, ◌||◌, if◌then◌else◌, nat_eq, option_map, slice_get, unwrap_or}
use Rattle.std.specs.Option.{option_eq, option_map_or}
use Rattle.std.proofs.lemmas.Bool.{and_from, and_parts, eq-eqb, eqb-true, le-leb}
use Rattle.std.proofs.lemmas.List.Elements.{All-get_or}
use Rattle.dp_sap.specs.AccessTable.{is_listed, may_lock}
use Rattle.dp_prm.specs.declared.limits.Limits.{Limits}
use Rattle.dp_prm.specs.declared.prm.Prm.{Prm}
use Rattle.dp_prm.specs.declared.prm.PrmVerdict.{PrmVerdict}
use Rattle.dp_prm.specs.declared.prm.PrmVerdict.TheVariants as prm
use Rattle.dp_prm.specs.Meaning.{freeze_req, meaning_of, parameters, sync_req, user_prm, wd_fact_1, wd_fact_2, wd_on}
use Rattle.dp_prm.specs.Requests.{AsksUnsupported, IsAcceptable, IsLocking}
use Rattle.dp_cfg.specs.Choosing.{chosen, same_octets}
use Rattle.dp_slave.specs.declared.description.SlaveSpec.{SlaveSpec}
use Rattle.dp_slave.specs.SlaveRecord.{SlaveRecord, configuration, configurations, limits_of, output_length, points_of}
use Rattle.dp_slave.specs.Acts.{exchanges, exchanges_none, is_controlled, is_read, sends_diagnosis}
use Rattle.dp_slave.specs.Services.{cfg_act, chk_cfg_act, control_of, prm_act, service_act, set_prm_act}
use Rattle.dp_slave.specs.Reachable.{is_choosable, is_watchdog_time, suits, takes}
use Rattle.dp_slave.proofs.Factors.{product}

-- ---- the configuration that is chosen

same_are : (xs ys : List ℕ) → same_octets xs ys ≡ true → xs ≡ ys
same_are [] [] e = refl
same_are [] (y ∷ ys) e = absurd cc
same_are (x ∷ xs) [] e = absurd cc
same_are (x ∷ xs) (y ∷ ys) e =
    let parts = and_parts (eqb x y) (same_octets xs ys) e in
    ap (λ (n : ℕ). n ∷ xs) (eqb-true x y parts.0) ∙ ap (λ (l : List ℕ). y ∷ l) (same_are xs ys parts.1)

chosen_by : (first octets : List ℕ) (others : List (List ℕ)) (found : Option ℕ) (number : ℕ) (b : Bool) → same_octets first octets ≡ b
    → cond b (Some 0) (option_map suc found) ≡ Some number → ((n : ℕ) → found ≡ Some n → unwrap_or (slice_get others n) [] ≡ octets)
    → unwrap_or (slice_get (first ∷ others) number) [] ≡ octets
chosen_by first octets others found number true same is later =
    let here : 0 ≡ number = cc in subst (λ (n : ℕ). unwrap_or (slice_get (first ∷ others) n) [] ≡ octets) here (same_are first octets same)
chosen_by first octets others None number false same is later = absurd cc
chosen_by first octets others (Some n) number false same is later =
    let there : suc n ≡ number = cc in subst (λ (m : ℕ). unwrap_or (slice_get (first ∷ others) m) [] ≡ octets) there (later n refl)

chosen_is : (octets : List ℕ) (known : List (List ℕ)) (number : ℕ) → chosen known octets ≡ Some number → unwrap_or (slice_get known number) [] ≡ octets
chosen_is octets [] number is = absurd cc
chosen_is octets (first ∷ others) number is =
    chosen_by first octets others (chosen others octets) number (same_octets first octets) refl is (chosen_is octets others)

equal_to : (found : Option ℕ) (number : ℕ) → found ≡ Some number → option_eq nat_eq found (Some number) ≡ true
equal_to found number is = subst (λ (o : Option ℕ). option_eq nat_eq o (Some number) ≡ true) (sym is) (eq-eqb number number refl)

choosable : (description : SlaveSpec) (octets : List ℕ) (number : ℕ) → chosen (configurations description) octets ≡ Some number → is_choosable description number ≡ true
choosable description octets number is =
    equal_to (chosen (configurations description) (configuration description number)) number
    (ap (chosen (configurations description)) (chosen_is octets (configurations description) number is) ∙ is)

cfg_suits : (slave : SlaveRecord) (found : Option ℕ) → ((number : ℕ) → found ≡ Some number → is_choosable slave.description number ≡ true) → suits slave (cfg_act found) ≡ true
cfg_suits slave (Some number) choose = choose number refl
cfg_suits slave None choose = refl

-- ---- the parameters

time_by : (on : Bool) (first second : ℕ) → (on ≡ true → (0 < first) × (0 < second)) → first < 256 → second < 256
    → option_map_or is_watchdog_time (if on then Some (first * second) else None) true ≡ true
time_by true first second some few less = let above = some refl in product first second above.0 above.1 few less
time_by false first second some few less = refl

needs : (asked has : Bool) → (asked ≡ true → has ≡ true) → (not asked || has) ≡ true
needs true has need = need refl
needs false has need = refl

taken : (slave : SlaveRecord) (octets : List ℕ) → All (λ octet. octet < 256) octets → 7 ≤ length octets → IsAcceptable octets (limits_of slave) → takes slave.description (parameters octets) ≡ true
taken slave octets below whole good =
    let time = option_map_or is_watchdog_time (parameters octets).watchdog true in
    let sync = not (sync_req octets) || slave.description.sync in
    let freeze = not (freeze_req octets) || slave.description.freeze in
    and_from (time && sync && freeze) (leb (length (user_prm octets)) slave.description.user_max)
    (and_from (time && sync) freeze
    (and_from time sync
    (time_by (wd_on octets) (wd_fact_1 octets) (wd_fact_2 octets) good.factors (All-get_or (λ octet. octet < 256) octets 1 0 (omega (arith, whole)) below)
    (All-get_or (λ octet. octet < 256) octets 2 0 (omega (arith, whole)) below))
    (needs (sync_req octets) slave.description.sync good.sync))
    (needs (freeze_req octets) slave.description.freeze good.freeze))
    (le-leb (length (user_prm octets)) slave.description.user_max good.user)

-- what locks, and what is not supported, by the laws of the parameters
abbrev pub Locks : Type 0
Locks = (octets : List ℕ) (limits : Limits) (p : Prm) → (meaning_of octets limits ≡ prm.Lock p) ↔ (IsLocking octets × IsAcceptable octets limits × (p ≡ parameters octets))

abbrev pub Unsupported : Type 0
Unsupported = (octets : List ℕ) (limits : Limits) → (meaning_of octets limits ≡ prm.Fault true) ↔ (IsLocking octets × AsksUnsupported octets limits)

lacking : (sync freeze : Bool) → (sync ≡ false) ⊎ (freeze ≡ false) → not (sync && freeze) ≡ true
lacking true freeze (inl e) = absurd cc
lacking false freeze (inl e) = refl
lacking true freeze (inr e) = ap not e
lacking false freeze (inr e) = refl

lacks : (octets : List ℕ) (limits : Limits) → AsksUnsupported octets limits → not (limits.sync && limits.freeze) ≡ true
lacks octets limits (inl e) = lacking limits.sync limits.freeze (inl e.1)
lacks octets limits (inr e) = lacking limits.sync limits.freeze (inr e.1)

prm_suits : (slave : SlaveRecord) (sender place : ℕ) (verdict : PrmVerdict) → may_lock slave.description.lists sender ≡ true
    → ((p : Prm) → verdict ≡ prm.Lock p → takes slave.description p ≡ true) → (verdict ≡ prm.Fault true → not (slave.description.sync && slave.description.freeze) ≡ true)
    → suits slave (prm_act sender place verdict) ≡ true
prm_suits slave sender place (prm.MinTsdr octet) listed takes_it lacks_it = refl
prm_suits slave sender place prm.Unlock listed takes_it lacks_it = refl
prm_suits slave sender place (prm.Lock p) listed takes_it lacks_it = and_from (may_lock slave.description.lists sender) (takes slave.description p) listed (takes_it p refl)
prm_suits slave sender place (prm.Fault true) listed takes_it lacks_it = lacks_it refl
prm_suits slave sender place (prm.Fault false) listed takes_it lacks_it = refl

set_prm_suits : Locks → Unsupported → (slave : SlaveRecord) (sender place : ℕ) (octets : List ℕ) → All (λ octet. octet < 256) octets → may_lock slave.description.lists sender ≡ true
    → suits slave (set_prm_act slave sender place octets) ≡ true
set_prm_suits locking unsupported slave sender place octets below listed =
    prm_suits slave sender place (meaning_of octets (limits_of slave)) listed
    (λ p is. let known = (locking octets (limits_of slave) p).0 is in
    subst (λ (q : Prm). takes slave.description q ≡ true) (sym known.2) (taken slave octets below known.0.whole known.1))
    (λ is. lacks octets (limits_of slave) ((unsupported octets (limits_of slave)).0 is).1)

-- ---- each service

exchange_suits : (slave : SlaveRecord) (octets : List ℕ) (b : Bool) → suits slave (cond b (exchanges octets) exchanges_none) ≡ true
exchange_suits slave octets true = refl
exchange_suits slave octets false = refl

number_suits : (slave : SlaveRecord) (sender place : ℕ) (octets : List ℕ) (control diag set check : Bool)
    → (set ≡ true → suits slave (set_prm_act slave sender place octets) ≡ true)
    → suits slave (cond control (is_controlled (control_of octets)) (cond diag (sends_diagnosis sender) (cond set (set_prm_act slave sender place octets) (cond check (chk_cfg_act slave octets) is_read)))) ≡ true
number_suits slave sender place octets true diag set check locks = refl
number_suits slave sender place octets false true set check locks = refl
number_suits slave sender place octets false false true check locks = locks refl
number_suits slave sender place octets false false false true locks =
    cfg_suits slave (chosen (configurations slave.description) octets) (λ number is. choosable slave.description octets number is)
number_suits slave sender place octets false false false false locks = refl

listed_by : (slave : SlaveRecord) (sender number : ℕ) → is_listed (points_of slave) (Some number) sender ≡ true → eqb number 61 ≡ true → may_lock slave.description.lists sender ≡ true
listed_by slave sender number listed set =
    subst (λ (n : ℕ). is_listed (points_of slave) (Some n) sender ≡ true) (eqb-true number 61 set) listed

pub service_suits : Locks → Unsupported → (slave : SlaveRecord) (sender place : ℕ) (point : Option ℕ) (octets : List ℕ) → All (λ octet. octet < 256) octets
    → is_listed (points_of slave) point sender ≡ true → suits slave (service_act slave sender place point octets) ≡ true
service_suits locking unsupported slave sender place None octets below listed = exchange_suits slave octets (eqb (length octets) (output_length slave))
service_suits locking unsupported slave sender place (Some number) octets below listed =
    number_suits slave sender place octets (eqb number 58) (eqb number 60) (eqb number 61) (eqb number 62)
    (λ set. set_prm_suits locking unsupported slave sender place octets below (listed_by slave sender number listed set))
