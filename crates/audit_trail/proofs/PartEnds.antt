-- Steps of a tail at which no head is seen, and the one that begins a part.
use Rattle.std.specs.List.{flat_map}
use Rattle.std.specs.Prelude.{Bool, IfSome, Result, Ok, Err}
use Rattle.std.proofs.Common.{◌≡◌, ℕ, inl, inr, true, false, List, [], ◌∷◌, ◌++◌, length, Option, Some, None, ap, refl, subst, ◌∙◌, arith}
use Rattle.std.proofs.lemmas.List.{append-nil}
use Rattle.std.proofs.lemmas.Grind.{flat_map-append}
use Rattle.dp_audit.specs.declared.entry.Entry.{Entry}
use Rattle.audit_heads.specs.Head.{Head}
use Rattle.dp_shared.specs.declared.line_view.Look.{Look}
use Rattle.dp_shared.specs.declared.line_view.PassView.{PassView}
use Rattle.dp_shared.specs.declared.line_view.Question.{Question}
use Rattle.dp_shared.specs.declared.line_view.Question.TheVariants as asks
use Rattle.dp_shared.specs.declared.line_view.Answer.{Answer}
use Rattle.dp_shared.specs.declared.line_view.Answer.TheVariants as answers
use Rattle.audit_trail.specs.declared.fault.TrailBreak.{TrailBreak}
use Rattle.audit_trail.specs.declared.row.Next.{Next}
use Rattle.audit_trail.specs.declared.row.Next.TheVariants as nexts
use Rattle.audit_trail.specs.Trails.{BeginsPart, Comes, EndsWithPart, Looks, SawAll, Steps, found_by, head_by, heads_seen}

more_seen : (looks : List Look) (l : Look) → heads_seen (looks ++ l ∷ []) ≡ heads_seen looks ++ head_by l.question l.answer
unfolding heads_seen
more_seen looks l = flat_map-append (λ (k : Look). head_by k.question k.answer) looks (l ∷ [])
    ∙ ap (λ (r : List Head). flat_map (λ (k : Look). head_by k.question k.answer) looks ++ r) (append-nil (head_by l.question l.answer))

none_more : (looks : List Look) (l : Look) → head_by l.question l.answer ≡ [] → heads_seen (looks ++ l ∷ []) ≡ heads_seen looks
none_more looks l none = more_seen looks l ∙ ap (λ (r : List Head). heads_seen looks ++ r) none ∙ append-nil (heads_seen looks)

-- a look that found an entry asked for no head
entry_no_head : (question : Question) (answer : Answer) (s : ℕ × Entry) → found_by question answer ≡ s ∷ [] → head_by question answer ≡ []
entry_no_head (asks.Entry place) answer s is = refl
entry_no_head (asks.View address) answer s is = refl
entry_no_head (asks.Owned master) answer s is = refl
entry_no_head (asks.Head count) answer s is = absurd (let e : 0 ≡ 1 = ap length is in omega arith)

-- nor did one that found none
none_no_head : (question : Question) (answer : Answer) (place : ℕ) → question ≡ asks.Entry place → head_by question answer ≡ []
none_no_head question answer place is = rw is refl

aside_no_head : (question : Question) (answer : Answer) (master : ℕ) → question ≡ asks.Owned master → head_by question answer ≡ []
aside_no_head question answer master is = rw is refl

comes_no_head : (next : Next) (place : ℕ) (look : Look) (now after : Option (List ℕ)) → Comes next place look now after → head_by look.question look.answer ≡ []
comes_no_head nexts.Nothing place look now after comes = none_no_head look.question look.answer place comes.0.0
comes_no_head nexts.Gone place look now after comes = none_no_head look.question look.answer place comes.0.0
comes_no_head nexts.Row place look now after (entry, is, written) = entry_no_head look.question look.answer (place, entry) is
comes_no_head nexts.LastRow place look now after (last, (entry, is, written)) = entry_no_head look.question look.answer (place, entry) is
comes_no_head nexts.Cut place look now after (entry, is, written) = entry_no_head look.question look.answer (place, entry) is

look_no_head : (next : Next) (place : ℕ) (old new : PassView) (now after : Option (List ℕ)) → Looks next place old new now after → heads_seen new.looks ≡ heads_seen old.looks
look_no_head next place old new now after (look, is, later, comes) =
    ap (λ (v : PassView). heads_seen v.looks) is ∙ none_more old.looks look (comes_no_head next place look now after comes)

-- a step writes no head
pub step_no_head : (result : Result Bool TrailBreak) (more : Bool) (before seen : ℕ) (old new : PassView) (now after : Option (List ℕ)) → Steps result before seen old new now after → result ≡ Ok more
    → heads_seen new.looks ≡ heads_seen old.looks
step_no_head (Ok true) more before seen old new now after steps is = look_no_head nexts.Row seen old new now after steps.1
step_no_head (Ok false) more before seen old new now after (all, inl (same, looks)) is = look_no_head nexts.Nothing _ old new now after looks
step_no_head (Ok false) more before seen old new now after (all, inr (inl (next, looks))) is = look_no_head nexts.LastRow seen old new now after looks
step_no_head (Ok false) more before seen old new now after (all, inr (inr (full, same, (look, looked, later, asked, few), written))) is =
    ap (λ (v : PassView). heads_seen v.looks) looked ∙ none_more old.looks look (aside_no_head look.question look.answer 127 asked)
step_no_head (Err why) more before seen old new now after steps is = absurd cc

-- nor does a part that waits for entries
pub waits_no_head : (result : Result Bool TrailBreak) (due : Bool) (number seen : ℕ) (old new : PassView) (now after : Option (List ℕ)) → BeginsPart result due number seen old new now after → result ≡ Ok true
    → heads_seen new.looks ≡ heads_seen old.looks
waits_no_head (Ok true) due number seen old new now after (is_due, (count, other, at, same)) is =
    ap (λ (v : PassView). heads_seen v.looks) at.look ∙ none_more old.looks _ refl
waits_no_head (Ok false) due number seen old new now after begins is = absurd cc
waits_no_head (Err why) due number seen old new now after begins is = absurd cc

-- a part begins behind all entries
pub part_ends : {W : Type 0} (due : W → Bool) (contents : W → Option (List ℕ)) (result : Result Bool TrailBreak) (number seen : ℕ) (old before new : PassView) (writer after : W)
    → heads_seen before.looks ≡ heads_seen old.looks → SawAll before.looks seen → BeginsPart result (due writer) number seen before new (contents writer) (contents after) → result ≡ Ok false
    → EndsWithPart due contents number seen old new after
part_ends due contents result number seen old before new writer after none all begins is = record {
  before = before;
  writer = writer;
  no_head = none;
  all = all;
  begins = subst (λ (r : Result Bool TrailBreak). BeginsPart r (due writer) number seen before new (contents writer) (contents after)) is begins;
}

-- a tail that goes on was not broken
pub unbroken : (broken : Option TrailBreak) (result : Result Bool TrailBreak) (more : Bool) (Same : Type 0) → IfSome broken (λ why. (result ≡ Err why) × Same) → result ≡ Ok more → broken ≡ None
unbroken None result more Same stays is = refl
unbroken (Some why) result more Same stays is = absurd (let no = stays.0 in cc)

-- a step after which there is no entry has seen all
pub step_sees_all : (result : Result Bool TrailBreak) (before seen : ℕ) (old new : PassView) (now after : Option (List ℕ)) → Steps result before seen old new now after → result ≡ Ok false
    → SawAll new.looks seen
step_sees_all (Ok true) before seen old new now after steps is = absurd cc
step_sees_all (Ok false) before seen old new now after steps is = steps.0
step_sees_all (Err why) before seen old new now after steps is = absurd cc
