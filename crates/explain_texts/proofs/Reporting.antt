-- Facts that a receiver takes one after another.
use Rattle.std.proofs.Common.{◌≡◌, Bool, true, false, cond, List, [], ◌∷◌, ◌++◌, Result, Ok, Err, refl, sym, ap, subst, ◌∙◌, append_assoc}
use Rattle.std.proofs.lemmas.Bool.{false≢true}
use Rattle.std.proofs.lemmas.List.{append-nil}
use Rattle.explain_texts.specs.declared.explain_fault.ExplainFault.{ExplainFault}
use Rattle.explain_texts.specs.Reported.{Reported}
use Rattle.explain_texts.specs.Reports.{IsStopped, LeavesFacts, Reports, ReportsPrefix, Takes, failed, not_begun}

-- facts are taken, and then others
pub reports_more : {S : Type 0} (takes : Takes S) (old now new : S) (facts more : List Reported) → Reports takes old now facts → Reports takes now new more → Reports takes old new (facts ++ more)
reports_more {S} takes old now new [] more first second = subst (λ (s : S). Reports takes s new more) first second
reports_more {S} takes old now new (fact ∷ facts) more first second = (first.0, first.1, reports_more takes first.0 now new facts more first.2 second)

stopped_more : {S : Type 0} (takes : Takes S) (old new : S) (facts more : List Reported) → IsStopped takes old new facts → IsStopped takes old new (facts ++ more)
stopped_more takes old new facts more (not_begun same) = not_begun same
stopped_more takes old new facts more (failed fact others fault is fails) = failed fact (others ++ more) fault (ap (λ (fs : List Reported). fs ++ more) is) fails

-- a first part of the first of two lists
pub first_cut : {S : Type 0} (takes : Takes S) (old new : S) (facts more : List Reported) → ReportsPrefix takes old new facts → ReportsPrefix takes old new (facts ++ more)
first_cut takes old new facts more cut = record {
  front = cut.front;
  back = cut.back ++ more;
  split = ap (λ (fs : List Reported). fs ++ more) cut.split ∙ append_assoc cut.front cut.back more;
  left = cut.left;
  taken = cut.taken;
  stopped = stopped_more takes cut.left new cut.back more cut.stopped;
}

-- facts are taken, and then a first part of others
pub then_cut : {S : Type 0} (takes : Takes S) (old now new : S) (facts more : List Reported) → Reports takes old now facts → ReportsPrefix takes now new more → ReportsPrefix takes old new (facts ++ more)
then_cut takes old now new facts more first cut = record {
  front = facts ++ cut.front;
  back = cut.back;
  split = ap (λ (fs : List Reported). facts ++ fs) cut.split ∙ sym (append_assoc facts cut.front cut.back);
  left = cut.left;
  taken = reports_more takes old now cut.left facts cut.front first cut.taken;
  stopped = cut.stopped;
}

pub whole_prefix : {S : Type 0} (takes : Takes S) (old new : S) (facts : List Reported) → Reports takes old new facts → ReportsPrefix takes old new facts
whole_prefix takes old new facts reports = record {
  front = facts;
  back = [];
  split = sym (append-nil facts);
  left = new;
  taken = reports;
  stopped = not_begun refl;
}

pub none_reported : {S : Type 0} (takes : Takes S) (old : S) (facts : List Reported) → ReportsPrefix takes old old facts
none_reported takes old facts = record { front = []; back = facts; split = refl; left = old; taken = refl; stopped = not_begun refl }

-- one fact
pub one_taken : {S : Type 0} (takes : Takes S) (old new : S) (fact : Reported) (result : Result (Unit {0}) ExplainFault) → takes old fact result new → LeavesFacts takes (fact ∷ []) old new result
one_taken takes old new fact (Ok done) took = (new, took, refl)
one_taken takes old new fact (Err fault) took =
    record { front = []; back = fact ∷ []; split = refl; left = old; taken = refl; stopped = failed fact [] fault refl took }

-- facts that are reported only if something holds
pub leaves_where : {S : Type 0} (takes : Takes S) (facts : List Reported) (holds : Bool) (old new : S) (result : Result (Unit {0}) ExplainFault) → holds ≡ true → LeavesFacts takes facts old new result
    → LeavesFacts takes (cond holds facts []) old new result
leaves_where takes facts true old new result is leaves = leaves
leaves_where takes facts false old new result is leaves = absurd (false≢true is)
