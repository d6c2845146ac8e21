-- detail
-- What facts leave of a receiver that takes them one after another (own).
use Rattle.std.specs.Prelude.{◌≡◌, List, [], ◌∷◌, ◌++◌, Result, Ok, Err}
use Rattle.explain_texts.specs.declared.explain_fault.ExplainFault.{ExplainFault}
use Rattle.explain_texts.specs.Reported.{Reported}

-- how taking a fact ends, and what it leaves of a receiver: each kind of receiver has its own relation
abbrev pub Takes : Type 0 → Type 1
Takes S = S → Reported → Result (Unit {0}) ExplainFault → S → Type 0

-- exactly these facts were taken, in this order
abbrev pub Reports : {S : Type 0} → Takes S → S → S → List Reported → Type 0
Reports takes old new [] = new ≡ old
Reports {S} takes old new (fact ∷ facts) = (next : S) × takes old fact (Ok tt) next × Reports takes next new facts

-- no more of these facts was taken, or the first of them failed
pub data IsStopped {S : Type 0} (takes : Takes S) (old new : S) (facts : List Reported) : Type 0 where
  not_begun : new ≡ old → IsStopped takes old new facts
  failed : (fact : Reported) (others : List Reported) (fault : ExplainFault) → facts ≡ fact ∷ others → takes old fact (Err fault) new → IsStopped takes old new facts

-- some first facts were taken, in this order, and no more but for one that failed
pub record ReportsPrefix {S : Type 0} (takes : Takes S) (old new : S) (facts : List Reported) : Type 0 where
  pub front : List Reported
  pub back : List Reported
  pub split : facts ≡ front ++ back
  pub left : S
  pub taken : Reports takes old left front
  pub stopped : IsStopped takes left new back

-- all facts were taken, or a first part of them if the call ended early
abbrev pub LeavesFacts : {S : Type 0} → Takes S → List Reported → S → S → Result (Unit {0}) ExplainFault → Type 0
LeavesFacts takes facts old new (Ok done) = Reports takes old new facts
LeavesFacts takes facts old new (Err fault) = ReportsPrefix takes old new facts
