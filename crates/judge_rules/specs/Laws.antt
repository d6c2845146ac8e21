-- helper
-- Words for the laws of the frame count bit: an SRD to a station, and what a new SRD has in common with an earlier one (IEC 61158-4-3, frame count
-- bit).
use Rattle.std.specs.Prelude.{ℕ, ◌==◌, ◌&&◌, ◌||◌, not, Bool, false, List}
use Rattle.std.specs.List.{list_all}
use Rattle.dp_telegram.specs.Access.{global_address}
use Rattle.dp_cfg.specs.Choosing.{same_octets}
use Rattle.judge_rules.specs.declared.entry.Entry.{Entry}
use Rattle.judge_rules.specs.declared.entry.Entry.TheVariants as entries
use Rattle.judge_rules.specs.declared.entry.Request.{Request}
use Rattle.judge_rules.specs.Entries.{is_answered, is_srd}
use Rattle.judge_rules.specs.FcbRules.{same_bit}

-- an SRD to the station of an address
abbrev pub is_srd_to : ℕ → Entry → Bool
is_srd_to address (entries.Request request) = request.address == address && is_srd request
is_srd_to address other = false

-- none of these entries is one
abbrev pub have_no_srd_to : ℕ → List Entry → Bool
have_no_srd_to address past = list_all (λ entry. not (is_srd_to address entry)) past

-- the FCB of the new SRD is that of the earlier one, and is valid; the earlier one began the counting or went on with it
abbrev pub has_fcb_of : Request → Request → Bool
has_fcb_of before request = is_srd request && not (request.address == global_address) && request.fcv && (before.fcv || before.fcb) && same_bit before.fcb request.fcb

abbrev pub has_octets_of : Request → Request → Bool
has_octets_of before request = same_octets before.octets.items request.octets.items

-- the new SRD is counted, though the earlier one was neither counted nor answered
abbrev pub is_counted_too_early : Request → Request → Bool
is_counted_too_early before request = is_srd request && not (request.address == global_address) && request.fcv && not (before.fcv || is_answered before.answer)

-- the new SRD has FCV 0 as the earlier one, another telegram, which was answered
abbrev pub stays_without_fcv : Request → Request → Bool
stays_without_fcv before request =
    is_srd request && not (request.address == global_address) && not request.fcv && not before.fcv && not (has_octets_of before request) && is_answered before.answer
