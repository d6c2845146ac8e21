-- detail
-- The reasons why a slave refuses a request: one sentence for each rule, about the slave's own state (own).
use Rattle.std.specs.Prelude.{codes, ℕ, Bool, List, [], ◌∷◌, ◌++◌, Option, Some, None}
use Rattle.std.specs.Fmt.{decimal}
use Rattle.arrayvec.specs.ArrayVec.{ArrayVec}
use Rattle.dp_sap.specs.declared.state.State.{State}
use Rattle.dp_sap.specs.declared.lists.Lists.{Lists}
use Rattle.explain_octets.specs.Words.{groups_text, hex_pair, hex_text}
use Rattle.explain_events.specs.declared.reason.Lengths.{Lengths}
use Rattle.explain_events.specs.declared.reason.Lengths.TheVariants as lengths
use Rattle.explain_events.specs.declared.reason.Listing.{Listing}
use Rattle.explain_events.specs.declared.reason.Listing.TheVariants.{Lockers, Readers}
use Rattle.explain_events.specs.declared.reason.Repeat.{Repeat}
use Rattle.explain_events.specs.declared.reason.Repeat.TheVariants as repeats
use Rattle.explain_events.specs.declared.reason.TakenService.{TakenService}
use Rattle.explain_events.specs.declared.reason.TakenService.TheVariants.{Sdn, Srd}
use Rattle.explain_events.specs.declared.releases.Release.{Release}
use Rattle.explain_events.specs.Reasons.{repeated}
use Rattle.explain_events.specs.Endings.{ending_text}
use Rattle.explain_events.specs.Words.{count_words, numbers_words, point_words, since_words, state_words}

-- since when a slave is in Wait_Prm: its last release, and how that came
abbrev pub released_words : Option Release → List ℕ
released_words None = []
released_words (Some release) = codes " since entry " ++ decimal release.place ++ codes " (" ++ ending_text release.ending ++ codes ")"

-- NotActive: the point is off in this state
abbrev pub point_off_text : ℕ → State → Option Release → Option ℕ → List ℕ
point_off_text address state since point =
    codes "Slave " ++ decimal address ++ codes " is in " ++ state_words state ++ released_words since ++ codes ", where " ++ point_words point
    ++ codes " is off."

-- NotActive: the slave has no such point
abbrev pub no_point_text : ℕ → Option ℕ → List ℕ
no_point_text address point = codes "Slave " ++ decimal address ++ codes " has no " ++ point_words point ++ codes "."

abbrev pub holds_words : ℕ → ℕ → List ℕ
holds_words address holder = codes "Master " ++ decimal holder ++ codes " holds slave " ++ decimal address

-- NotHolder: another master holds the slave, since the entry of its lock
abbrev pub not_holder_text : ℕ → Option ℕ → ℕ → List ℕ
not_holder_text address None since = codes "Nobody holds slave " ++ decimal address ++ codes "."
not_holder_text address (Some holder) since = holds_words address holder ++ since_words since

-- the masters that may use a point, by a list; if there is no list, every master may
abbrev pub listed_words : Option (ArrayVec ℕ) → List ℕ
listed_words None = codes "all"
listed_words (Some masters) = numbers_words masters.items

abbrev pub not_named_text : ℕ → List ℕ → Option (ArrayVec ℕ) → List ℕ
not_named_text master of list = codes "Master " ++ decimal master ++ codes " is none of its " ++ of ++ codes " (" ++ listed_words list ++ codes ")."

-- NotListed: the lockers are those of Set_Prm, and the readers those of RD_Inp and RD_Outp
abbrev pub not_listed_text : ℕ → Listing → Lists → List ℕ
not_listed_text master Lockers lists = not_named_text master (codes "lockers") lists.lockers
not_listed_text master Readers lists = not_named_text master (codes "readers") lists.readers

-- NoService: no slave has the function, or the point takes the other service
abbrev pub service_words : TakenService → List ℕ
service_words Sdn = codes "SDN"
service_words Srd = codes "SRD"

abbrev pub no_service_text : Option TakenService → Option ℕ → List ℕ
no_service_text None point = codes "No slave has this function."
no_service_text (Some service) point = point_words point ++ codes " takes " ++ service_words service ++ codes " alone."

-- Busy
abbrev pub busy_text : Option ℕ → List ℕ
busy_text point = codes "The operator has marked " ++ point_words point ++ codes " busy."

-- how many octets a point takes
abbrev pub lengths_words : Lengths → List ℕ
lengths_words lengths.Nothing = codes "none"
lengths_words (lengths.Exactly count) = decimal count
lengths_words (lengths.OrNothing count) = decimal count ++ codes " or none"
lengths_words (lengths.UpTo count) = codes "up to " ++ decimal count

-- Length
abbrev pub length_text : ℕ → Lengths → List ℕ
length_text sent takes = count_words sent ++ codes ", the slave takes " ++ lengths_words takes ++ codes "."

-- NotSelected: Group_Select and the slave's groups have no bit in common
abbrev pub selecting_words : ℕ → List ℕ
selecting_words select = codes "The command is for " ++ groups_text (codes "every slave") select ++ codes " (Group_Select " ++ hex_pair select ++ codes ")"

abbrev pub grouped_words : ℕ → ℕ → List ℕ
grouped_words address group =
    codes "slave " ++ decimal address ++ codes " is in " ++ groups_text (codes "no group") group ++ codes " (Group_Ident " ++ hex_pair group ++ codes ")"

abbrev pub not_selected_text : ℕ → ℕ → ℕ → List ℕ
not_selected_text address select group = selecting_words select ++ codes ", " ++ grouped_words address group ++ codes "."

-- Repeat: what isn't done if the request is another telegram than the one whose reply it gets
abbrev pub undone_words : Option ℕ → List ℕ → List ℕ
undone_words None (octet ∷ octets) = codes "outputs " ++ hex_text (octet ∷ octets) ++ codes " not taken"
undone_words point octets = point_words point ++ codes " not done"

-- Repeat: another telegram, which has the frame count bit of the one at this place
abbrev pub other_telegram_text : ℕ → Option ℕ → List ℕ → List ℕ
other_telegram_text place point octets =
    codes "repeat: FCB as in entry " ++ decimal place ++ codes ", but another telegram: " ++ undone_words point octets ++ codes "."

-- Repeat: which request is repeated; the octets are the data of the request
abbrev pub repeat_words : Repeat → List ℕ → List ℕ
repeat_words repeats.Unknown octets = codes "repeat: the reply to an earlier request is sent again."
repeat_words (repeats.Retry place) octets = codes "retry of entry " ++ decimal place ++ codes ": its reply is sent again."
repeat_words (repeats.Other place point) octets = other_telegram_text place point octets

abbrev pub repeat_text : Bool → ℕ → Option ℕ → List ℕ → List ℕ
repeat_text is_same place point octets = repeat_words (repeated is_same place point) octets

-- Status
abbrev pub status_text : ℕ → State → List ℕ
status_text address state = codes "Slave " ++ decimal address ++ codes " is there, in " ++ state_words state ++ codes "."
