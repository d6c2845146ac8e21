-- On an ordinary line no look misses an entry.
use Rattle.std.specs.List.{AllByRecursion}
use Rattle.std.proofs.Common.{◌≡◌, ◌≤◌, ℕ, ◌+◌, List, [], ◌∷◌, ◌++◌, length, take, Option, Some, None, IsSome, refl, sym, ap, subst, ◌∙◌, arith}
use Rattle.std.proofs.lemmas.List.{length-take-le}
use Rattle.dp_line.specs.World.{World, description_of, opening_fault, start_of}
use Rattle.dp_line.specs.Effects.{effect}
use Rattle.dp_line.specs.declared.description.LineSpec.{LineSpec}
use Rattle.dp_audit.specs.declared.entry.Entry.{Entry}
use Rattle.dp_audit.specs.Legal.{IsLegal, after_entry}
use Rattle.dp_audit.specs.Records.{forgotten}
use Rattle.dp_audit.proofs.Histories.{place_bounds}
use Rattle.dp_audit.proofs.Newest.{none_forgotten, none_lost}
use Rattle.dp_audit.proofs.Texts.{HasRoom, room_kept}
use Rattle.dp_audit.proofs.Written.{is_there}
use Rattle.dp_shared.specs.Content.{Content, IsHistory}
use Rattle.dp_shared.specs.LineLock.{FitsLook, FitsPass, IsOf, IsPassAt, LineRule, Slotted, answer_in, first_entries, world_after}
use Rattle.dp_shared.specs.declared.line_view.Answer.{Answer}
use Rattle.dp_shared.specs.declared.line_view.Answer.TheVariants as answers
use Rattle.dp_shared.specs.declared.line_view.PassView.{PassView}
use Rattle.dp_shared.specs.declared.line_view.Question.TheVariants as asks
use Rattle.audit_trail.specs.Trails.{MissedOne}
use Rattle.audit_trail.proofs.Trailing.{fits_now}

-- a legal history has no more entries than there are places left
within : (world : World) (entries : List Entry) → IsLegal world entries → HasRoom world → world.count ≤ world.capacity → world.count + length entries ≤ world.capacity
unfolding effect
within world [] legal room most = omega (arith, most)
within world (entry ∷ entries) legal room most =
    let left = room.left legal.0.running in
    let behind = within (after_entry world entry) entries legal.1 (room_kept world entry legal.0 room) (omega (arith, left)) in
    omega (arith, behind)

has_room : (line : LineSpec) → opening_fault (description_of line) ≡ None → HasRoom (start_of (description_of line))
has_room line accepted =
    let (least, most) = place_bounds (description_of line) accepted in
    record { left = λ running. omega (arith, least); most = omega (arith, most) }

last_of : {X : Type 0} (P : X → Type 0) (xs : List X) (x : X) → AllByRecursion P (xs ++ x ∷ []) → P x
last_of P [] x all = all.0
last_of P (y ∷ xs) x all = last_of P xs x all.1

abbrev entry_reported : Answer → Option Entry
entry_reported (answers.Entry entry) = entry
entry_reported answer = None

nobody : (none : Option Entry) → None ≡ none → IsSome none → ⊥
nobody None is never = absurd cc
nobody (Some entry) is some = absurd cc

pub never_missed_closed : (line : LineSpec) (content : Content) (pass : PassView) (seen : ℕ)
    → opening_fault (description_of line) ≡ None → IsOf line content.book → IsHistory content → FitsPass content pass → MissedOne pass.looks seen → ⊥
never_missed_closed line content pass seen accepted of_line history fits missed =
    let (least, most) = place_bounds (description_of line) accepted in
    let room : content.book.room ≡ line.capacity = of_line.kept (omega (arith, most)) in
    let from_start : IsLegal (start_of (description_of line)) content.book.entries = subst (λ (w : World). IsLegal w content.book.entries) of_line.opening history.legal in
    let all : 0 + length content.book.entries ≤ line.capacity = within (start_of (description_of line)) content.book.entries from_start (has_room line accepted) (omega (arith, least)) in
    let fit : FitsLook content missed.last = last_of (FitsLook content) missed.earlier missed.last (subst (AllByRecursion (FitsLook content)) missed.in_order fits.looks) in
    let there = fit.there in
    let behind = missed.behind in
    let long : length (take missed.last.count content.book.entries) ≡ missed.last.count = length-take-le missed.last.count content.book.entries there in
    let none_lost_here : forgotten content.book.room (length (take missed.last.count content.book.entries)) ≡ 0 = none_lost content.book.room (length (take missed.last.count content.book.entries)) (omega (arith, long, there, all, room)) in
    let reported : answers.Entry None ≡ answer_in content.book.room (world_after content missed.last.count) (first_entries content missed.last.count) (asks.Entry (seen + 1)) =
    sym missed.none.1 ∙ fit.value ∙ ap (answer_in content.book.room (world_after content missed.last.count) (first_entries content missed.last.count)) missed.none.0 in
    nobody None refl (is_there (take missed.last.count content.book.entries) seen None (omega (arith, long, behind)) (ap entry_reported reported ∙ none_forgotten content.book.room (take missed.last.count content.book.entries) (seen + 1) none_lost_here))

pub never_missed : (line : LineSpec) (state : Slotted) (rule : LineRule line state) (seat index : ℕ) (pass : PassView) (seen : ℕ)
    → opening_fault (description_of line) ≡ None → IsPassAt state seat index pass → MissedOne pass.looks seen → ⊥
never_missed line state rule seat index pass seen accepted at =
    never_missed_closed line rule.content pass seen accepted rule.of_line rule.history (fits_now line state rule seat index pass at)
