-- helper
-- What a trail saw, worked out.
use Rattle.std.specs.Prelude.{◌≡◌, ℕ, List, [], ◌∷◌, ◌++◌, Option, Some, None, false}
use Rattle.std.proofs.Common.{refl, arith}
use Rattle.dp_audit.specs.declared.entry.Entry.{Entry}
use Rattle.dp_shared.specs.declared.line_view.Look.{Look}
use Rattle.dp_shared.specs.declared.line_view.Question.TheVariants as asks
use Rattle.dp_shared.specs.declared.line_view.Answer.TheVariants as answers
use Rattle.audit_trail.specs.Trails.{AreFrom, SawAll, found}

-- a look at the entry of a place, when there were `count` entries
abbrev look_at : ℕ → ℕ → Option Entry → Look
look_at place count entry = record { question = asks.Entry place; count = count; answer = answers.Entry entry; saw_halt = false }

-- no entry at place 1 yet, then its entry; no entry at place 2 yet, then its entry
abbrev pub example_looks : Entry → Entry → List Look
example_looks first second =
    look_at 1 0 None ∷ look_at 1 1 (Some first) ∷ look_at 2 1 None ∷ look_at 2 2 (Some second) ∷ []

pub both_are_found : (first second : Entry) → found (example_looks first second) ≡ (1, first) ∷ (2, second) ∷ []
unfolding found
both_are_found first second = refl

pub in_order : (first second : Entry) → AreFrom 1 (found (example_looks first second))
unfolding found
in_order first second = refl

-- then no entry at place 3: both entries are all
pub both_are_all : (first second : Entry) → SawAll (example_looks first second ++ look_at 3 2 None ∷ []) 2
both_are_all first second = record {
  earlier = example_looks first second;
  last = look_at 3 2 None;
  in_order = refl;
  reached = omega arith;
  latest = (omega arith, (omega arith, (omega arith, (omega arith, tt))));
}
