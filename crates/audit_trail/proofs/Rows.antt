-- The text line of a place, by a tail that caught up.
use Rattle.std.proofs.Common.{◌≡◌, ℕ, ◌≤◌, List, length, Option, sym, subst, ◌∙◌}
use Rattle.dp_shared.specs.Passes.{PassIn}
use Rattle.audit_trail.specs.Named.{HasRow, IsOneOf, TrailName}
use Rattle.audit_trail.proofs.TextLines.{line_seen}
use Rattle.audit_trail.specs.Trails.{AreFrom, IsWhole, found, parts_text}

pub row_of : {W : Type 0} (contents : W → Option (List ℕ)) (trails : List TrailName) (pass : PassIn) (own line place seen version : ℕ) (opened written : W)
    → IsOneOf trails pass → pass.line ≡ own → own ≡ line → AreFrom 1 (found pass.view.looks) → length (found pass.view.looks) ≡ seen → place ≤ seen
    → IsWhole (contents opened) (contents written) (parts_text version pass.line pass.view.looks) → HasRow contents trails line place
row_of contents trails pass own line place seen version opened written one of_line same places counted within whole = record {
  pass = pass;
  one = one;
  of_line = of_line ∙ same;
  places = places;
  seen = subst (λ (n : ℕ). place ≤ n) (sym counted) within;
  version = version;
  row = λ first. line_seen version pass.line place pass.view.looks places first (subst (λ (n : ℕ). place ≤ n) (sym counted) within);
  opened = opened;
  written = written;
  whole = whole;
}
