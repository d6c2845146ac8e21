-- detail
-- What a GSD file says, line by line (GSD specification, revision 3; own in detail).
use Rattle.std.specs.Prelude.{codes, ℕ, ◌+◌, ◌==◌, ◌&&◌, not, Bool, true, false, nat_lt, if◌then◌else◌, List, [], ◌∷◌, ◌++◌, length, Option, Some, None, Result, Ok, Err}
use Rattle.std.specs.List.{slice_split}
use Rattle.gsd_files.specs.Steps.{◌>>=◌}
use Rattle.gsd_files.specs.Rows.{code_of, ends_quoted, goes_on, body_of, key_of, argument_of, value_of}
use Rattle.gsd_files.specs.Values.{number_to, with_octets, name_in, span_of, is_separator}
use Rattle.gsd_files.specs.Keys.{same_key, kind_of, is_left, most_of}
use Rattle.gsd_files.specs.UserParameters.{padded, overlaid_within, default_with, defaulted}
use Rattle.gsd_files.specs.declared.cause.Cause.{Cause}
use Rattle.gsd_files.specs.declared.cause.Cause.TheVariants.{OpenText, NoHeading, NoKey, NoValue, OpenModule, NoModule, NoReference, ManyReferences}
use Rattle.gsd_files.specs.declared.facts.End.{End}
use Rattle.gsd_files.specs.declared.facts.Ended.TheVariants as endeds
use Rattle.gsd_files.specs.declared.facts.Facts.{Facts}
use Rattle.gsd_files.specs.declared.facts.LeftOut.{LeftOut}
use Rattle.gsd_files.specs.declared.facts.Module.{Module}
use Rattle.gsd_files.specs.declared.facts.Next.{Next}
use Rattle.gsd_files.specs.declared.facts.Next.TheVariants as nexts
use Rattle.gsd_files.specs.declared.facts.Slot.{Slot}
use Rattle.gsd_files.specs.declared.facts.State.{State}
use Rattle.gsd_files.specs.declared.facts.Step.{Step}
use Rattle.gsd_files.specs.declared.keys.Setting.{Setting}
use Rattle.gsd_files.specs.declared.keys.Setting.TheVariants as settings
use Rattle.gsd_files.specs.declared.keys.Group.{Group}
use Rattle.gsd_files.specs.declared.keys.Group.TheVariants as groups
use Rattle.gsd_files.specs.declared.keys.Kind.{Kind}
use Rattle.gsd_files.specs.declared.keys.Kind.TheVariants as kinds
use Rattle.gsd_files.specs.declared.user.UserDefault.{UserDefault}
use Rattle.gsd_files.specs.declared.values.Span.{Span}

-- ---- before the first line

abbrev pub nothing_left : LeftOut
nothing_left = record { parameters = false; diagnosis = false; others = false }

abbrev pub no_facts : Facts
no_facts = record {
  headed = false;
  ident = None;
  sync = false;
  freeze = false;
  failsafe = false;
  most_parameters = None;
  user = record { items = [] };
  modular = false;
  fixed = false;
  most_modules = None;
  most_inputs = None;
  most_outputs = None;
  most_data = None;
  left = nothing_left;
}

-- ---- one row

-- the facts with one more number
abbrev pub with_number : Facts → Setting → ℕ → Facts
with_number facts settings.Ident number = record facts { ident = Some number }
with_number facts settings.Sync number = record facts { sync = number == 1 }
with_number facts settings.Freeze number = record facts { freeze = number == 1 }
with_number facts settings.FailSafe number = record facts { failsafe = number == 1 }
with_number facts settings.MostParameters number = record facts { most_parameters = Some number }
with_number facts settings.Modular number = record facts { modular = number == 1 }
with_number facts settings.Fixed number = record facts { fixed = number == 1 }
with_number facts settings.MostModules number = record facts { most_modules = Some number }
with_number facts settings.MostInputs number = record facts { most_inputs = Some number }
with_number facts settings.MostOutputs number = record facts { most_outputs = Some number }
with_number facts settings.MostData number = record facts { most_data = Some number }

-- the kinds of rows that were read over, and one more
abbrev pub with_left : LeftOut → Group → LeftOut
with_left left groups.Parameters = record left { parameters = true }
with_left left groups.Diagnosis = record left { diagnosis = true }
with_left left groups.Others = record left { others = true }

-- how the line behind a row is read that needs no more lines
abbrev pub next_of : Bool → Next
next_of true = nexts.Nothing false
next_of false = nexts.Row

-- how the line behind a row is read that is read over
abbrev pub left_next_of : End → Next
left_next_of end = if end.more then nexts.Nothing end.quoted else nexts.Row

-- how the line behind octets of a module is read
abbrev pub octets_next_of : Bool → Next
octets_next_of true = nexts.Octets
octets_next_of false = nexts.Row

-- how the line behind octets of user parameters is read, before this place
abbrev pub user_next_of : Bool → ℕ → Next
user_next_of true place = nexts.UserOctets place
user_next_of false place = nexts.Row

-- a line that ends neither a module nor a slot
abbrev pub step_to : Facts → Option Module → Next → Step
step_to facts current next =
    record { state = record { facts = facts; current = current; slot = None; next = next }; ended = endeds.Nothing }

-- ---- modules

abbrev pub module_of : List ℕ → List ℕ → Module
module_of name octets =
    record { name = record { items = name }; octets = record { items = octets }; preset = false; reference = None; user = record { items = [] } }

abbrev pub begun : Facts → Bool → List ℕ × List ℕ → Result Step Cause
begun facts more named =
    with_octets [] named.1 >>= λ octets. Ok (step_to facts (Some (module_of named.0 octets)) (octets_next_of more))

-- `Module = "NAME" OCTETS`
abbrev pub begin_module : Facts → Option Module → Bool → Option (List ℕ) → Result Step Cause
begin_module facts (Some current) more value = Err OpenModule
begin_module facts None more None = Err NoValue
begin_module facts None more (Some value) = name_in value >>= begun facts more

-- `EndModule`
abbrev pub end_module : Facts → Option Module → Bool → Result Step Cause
end_module facts None more = Err NoModule
end_module facts (Some current) more =
    Ok (record { state = record { facts = facts; current = None; slot = None; next = next_of more }; ended = endeds.Module current })

-- `Preset = 0` or `Preset = 1`
abbrev pub preset_module : Facts → Option Module → Bool → ℕ → Result Step Cause
preset_module facts None more number = Err NoModule
preset_module facts (Some current) more number = Ok (step_to facts (Some (record current { preset = number == 1 })) (next_of more))

-- a row that is nothing but a number: the reference of the module, if one is open
abbrev pub refer_module : Facts → Option Module → Bool → ℕ → Step
refer_module facts None more number = step_to (record facts { left = with_left facts.left groups.Others }) None (next_of more)
refer_module facts (Some current) more number = step_to facts (Some (record current { reference = Some number })) (next_of more)

-- ---- user parameters: those of the module that is open, or else of the station

abbrev pub user_of : Facts → Option Module → List ℕ
user_of facts None = facts.user.items
user_of facts (Some current) = current.user.items

abbrev pub with_user : Facts → Option Module → Next → List ℕ → Step
with_user facts None next user = step_to (record facts { user = record { items = user } }) None next
with_user facts (Some current) next user = step_to facts (Some (record current { user = record { items = user } })) next

-- octets of a text from this place
abbrev pub user_octets : Facts → Option Module → Bool → ℕ → List ℕ → Result Step Cause
user_octets facts current more place text =
    with_octets [] text >>= λ octets.
    overlaid_within place octets (user_of facts current) >>= λ user.
    Ok (with_user facts current (user_next_of more (place + length octets)) user)

abbrev pub user_octets_in : Facts → Option Module → Bool → ℕ → Option (List ℕ) → Result Step Cause
user_octets_in facts current more place None = Err NoValue
user_octets_in facts current more place (Some text) = user_octets facts current more place text

-- the default with this reference at this place
abbrev pub user_default : List UserDefault → Facts → Option Module → Bool → ℕ → ℕ → Result Step Cause
user_default defaults facts current more place reference =
    defaulted place (default_with reference defaults) (user_of facts current) >>= λ user. Ok (with_user facts current (next_of more) user)

-- ---- slots

-- the first number is the default, and each further one a reference, or the first of several
abbrev pub with_span_behind : Slot → Span → Option ℕ → Result Slot Cause
with_span_behind slot span None = Ok (record slot { default = Some span.first })
with_span_behind slot span (Some default) =
    if nat_lt (length slot.allowed.items) 256 then Ok (record slot { allowed = record { items = slot.allowed.items ++ span ∷ [] } }) else Err ManyReferences

abbrev pub with_span : Slot → Span → Result Slot Cause
with_span slot span = with_span_behind slot span slot.default

abbrev pub with_span_read : Slot → Option Span → Result Slot Cause
with_span_read slot None = Err NoReference
with_span_read slot (Some span) = with_span slot span

abbrev pub with_reference : Slot → List ℕ → Result Slot Cause
with_reference slot word = if length word == 0 then Ok slot else with_span_read slot (span_of word)

abbrev pub with_reference_words : Slot → List (List ℕ) → Result Slot Cause
with_reference_words slot [] = Ok slot
with_reference_words slot (word ∷ words) = with_reference slot word >>= λ more. with_reference_words more words

-- a slot with the references of a text
abbrev pub with_references : Slot → List ℕ → Result Slot Cause
with_references slot text = with_reference_words slot (slice_split is_separator text)

-- the row of the slot goes on, or ends
abbrev pub slot_step : Facts → Option Module → Bool → Slot → Step
slot_step facts current true slot =
    record { state = record { facts = facts; current = current; slot = Some slot; next = nexts.References }; ended = endeds.Nothing }
slot_step facts current false slot =
    record { state = record { facts = facts; current = current; slot = None; next = nexts.Row }; ended = endeds.Slot slot }

abbrev pub slot_of : ℕ → List ℕ → Slot
slot_of number name = record { number = number; name = record { items = name }; default = None; allowed = record { items = [] } }

-- `Slot(1) = "NAME" DEFAULT REFERENCES`
abbrev pub begin_slot : Facts → Option Module → Bool → ℕ → Option (List ℕ) → Result Step Cause
begin_slot facts current more number None = Err NoValue
begin_slot facts current more number (Some value) =
    name_in value >>= λ named. with_references (slot_of number named.0) named.1 >>= λ slot. Ok (slot_step facts current more slot)

-- ---- one row

-- a row of this kind with this value, in which no text is open unless it is read over
abbrev pub after_kind : List UserDefault → Facts → Option Module → End → Option (List ℕ) → Kind → Result Step Cause
after_kind defaults facts current end value kinds.Module = begin_module facts current end.more value
after_kind defaults facts current end value kinds.EndModule = end_module facts current end.more
after_kind defaults facts current end value kinds.Preset = number_to 1 value >>= preset_module facts current end.more
after_kind defaults facts current end value (kinds.Setting setting) =
    number_to (most_of setting) value >>= λ number. Ok (step_to (with_number facts setting number) current (next_of end.more))
after_kind defaults facts current end value kinds.UserLength =
    number_to 237 value >>= λ count. Ok (with_user facts current (next_of end.more) (padded count (user_of facts current)))
after_kind defaults facts current end value (kinds.UserOctets place) = user_octets_in facts current end.more place value
after_kind defaults facts current end value (kinds.UserDefault place) =
    number_to 65535 value >>= user_default defaults facts current end.more place
after_kind defaults facts current end value (kinds.Slot number) = begin_slot facts current end.more number value
after_kind defaults facts current end value (kinds.Reference reference) = Ok (refer_module facts current end.more reference)
after_kind defaults facts current end value (kinds.Left group) =
    Ok (step_to (record facts { left = with_left facts.left group }) current (left_next_of end))

-- a text may be open at the end of a row that is read over
abbrev pub after_text : List UserDefault → Facts → Option Module → End → Option (List ℕ) → Kind → Result Step Cause
after_text defaults facts current end value kind =
    if end.quoted && not (is_left kind) then Err OpenText else after_kind defaults facts current end value kind

-- a row ends behind its `=`, and goes on in the next line
abbrev pub awaits_value : Bool → Option (List ℕ) → Bool
awaits_value more None = false
awaits_value more (Some value) = more && (length value == 0)

-- a row of this kind, whose value may be in the next line
abbrev pub after_key : List UserDefault → Facts → Option Module → End → Option (List ℕ) → Kind → Result Step Cause
after_key defaults facts current end value kind =
    if awaits_value end.more value then Ok (step_to facts current (nexts.Value kind)) else after_text defaults facts current end value kind

-- a row behind the heading
abbrev pub after_body : List UserDefault → Facts → Option Module → End → List ℕ → Result Step Cause
after_body defaults facts current end body =
    if length (key_of body) == 0 then Err NoKey
    else after_key defaults facts current end (value_of body) (kind_of (key_of body) (argument_of body))

-- the heading
abbrev pub after_heading : Facts → Option Module → Bool → List ℕ → Result Step Cause
after_heading facts current more body =
    if same_key body (codes "#profibus_dp") then Ok (step_to (record facts { headed = true }) current (next_of more)) else Err NoHeading

-- a row; one that is empty says nothing
abbrev pub after_row : List UserDefault → Facts → Option Module → End → List ℕ → Result Step Cause
after_row defaults facts current end body =
    if length body == 0 then Ok (step_to facts current (next_of end.more))
    else if facts.headed then after_body defaults facts current end body
    else after_heading facts current end.more body

-- ---- one line

-- more octets of the module that is open
abbrev pub after_octets : Facts → Option Module → Bool → List ℕ → Result Step Cause
after_octets facts None more body = Err NoModule
after_octets facts (Some current) more body =
    with_octets current.octets.items body >>= λ octets. Ok (step_to facts (Some (record current { octets = record { items = octets } })) (octets_next_of more))

-- more references of the slot that is open
abbrev pub after_references : Facts → Option Module → Bool → List ℕ → Option Slot → Result Step Cause
after_references facts current more body None = Err NoReference
after_references facts current more body (Some slot) = with_references slot body >>= λ slot. Ok (slot_step facts current more slot)

-- the code of a line, by how it is read
abbrev pub after_code : List UserDefault → State → End → List ℕ → Next → Result Step Cause
after_code defaults state end body nexts.Row = after_row defaults state.facts state.current end body
after_code defaults state end body nexts.Octets = after_octets state.facts state.current end.more body
after_code defaults state end body (nexts.UserOctets place) = user_octets state.facts state.current end.more place body
after_code defaults state end body nexts.References = after_references state.facts state.current end.more body state.slot
after_code defaults state end body (nexts.Value kind) = after_key defaults state.facts state.current end (Some body) kind
after_code defaults state end body (nexts.Nothing quoted) = Ok (step_to state.facts state.current (left_next_of end))

-- a text of the row is open before its next line
abbrev pub is_quoted : Next → Bool
is_quoted nexts.Row = false
is_quoted nexts.Octets = false
is_quoted (nexts.UserOctets place) = false
is_quoted nexts.References = false
is_quoted (nexts.Value kind) = false
is_quoted (nexts.Nothing quoted) = quoted

abbrev pub end_of : Bool → List ℕ → End
end_of quoted code = record { more = goes_on code; quoted = ends_quoted quoted code }

-- what one more line gives
abbrev pub after_line : List UserDefault → State → List ℕ → Result Step Cause
after_line defaults state line =
    code_of (is_quoted state.next) line >>= λ code. after_code defaults state (end_of (is_quoted state.next) code) (body_of code) state.next
