-- detail
-- What becomes of a telegram on the cable (own).
use Rattle.std.specs.Prelude.{ℕ, Bool, true, false, ◌+◌, ◌-◌, ◌%◌, ◌==◌, if◌then◌else◌, List, [], length, slice_index, slice_set, take}
use Rattle.dp_telegram.specs.FrameText.{head_length, is_checked, is_start}
use Rattle.cable_faults.specs.declared.treatment.Treatment.{Treatment}
use Rattle.cable_faults.specs.declared.treatment.Treatment.TheVariants.{Passed, Withheld, Lost, Spoilt, Cut, Late}

-- the octets that go out
abbrev pub sent_of : Treatment → List ℕ → List ℕ
sent_of Passed octets = octets
sent_of Withheld octets = []
sent_of Lost octets = []
sent_of (Spoilt place octet) octets = slice_set octets place octet
sent_of (Cut count) octets = take count octets
sent_of (Late milliseconds) octets = octets

-- a token that is withheld is none
abbrev pub is_fault : Treatment → Bool
is_fault Passed = false
is_fault Withheld = false
is_fault Lost = true
is_fault (Spoilt place octet) = true
is_fault (Cut count) = true
is_fault (Late milliseconds) = true

-- the milliseconds for which a telegram is late
abbrev pub lateness : Treatment → ℕ
lateness Passed = 0
lateness Withheld = 0
lateness Lost = 0
lateness (Spoilt place octet) = 0
lateness (Cut count) = 0
lateness (Late milliseconds) = milliseconds

-- ---- a spoilt octet

-- another octet, which a word chooses
abbrev pub changed : ℕ → ℕ → ℕ
changed octet word = (octet + (1 + word % 255)) % 256

-- no start delimiter: an octet above a start delimiter is none
abbrev pub no_start : ℕ → ℕ
no_start octet = if is_start octet then octet + 1 else octet

-- the place of the octet that is changed: one that the check sequence covers or the check sequence itself, or the start delimiter of a telegram
-- without a check sequence
abbrev pub spoilt_place : List ℕ → ℕ → ℕ
spoilt_place octets word =
    if is_checked octets then head_length octets + word % (length octets - 1 - head_length octets) else 0

abbrev pub spoilt_octet : List ℕ → ℕ → ℕ → ℕ
spoilt_octet octets place word =
    if is_checked octets then changed (slice_index octets place) word else no_start (changed (slice_index octets place) word)

abbrev pub spoilt_treatment : List ℕ → ℕ → ℕ → Treatment
spoilt_treatment octets place_word change_word =
    Spoilt (spoilt_place octets place_word) (spoilt_octet octets (spoilt_place octets place_word) change_word)

-- ---- a cut

-- at least one octet goes out and at least one is missing; of a single octet none goes out
abbrev pub cut_count : List ℕ → ℕ → ℕ
cut_count octets word = if length octets == 1 then 0 else 1 + word % (length octets - 1)

abbrev pub cut_treatment : List ℕ → ℕ → Treatment
cut_treatment octets word = Cut (cut_count octets word)
