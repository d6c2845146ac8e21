-- helper
-- What is left of a pass by an event that it sends (own).
use Rattle.std.specs.Prelude.{◌≡◌, false, IfNone, IfSome}
use Rattle.dp_audit.specs.declared.entry.Receipt.{Receipt}
use Rattle.dp_shared.specs.declared.line_view.PassView.{PassView}
use Rattle.dp_shared.specs.Causes.{HasCause}
use Rattle.dp_shared.specs.Passes.{IsAbove, IsRejected, PassIn, with_receipt}

-- the same pass, later: of the same line, with the same address
pub record IsSamePass (old new : PassIn) : Type 0 where
  pub table : new.table ≡ old.table
  pub number : new.line ≡ old.line
  pub address : new.view.address ≡ old.view.address

-- The pass has this receipt as its last one, if the receipt has a place: that is above all that it knew, and the pass had seen no halt. Without a place
-- the event was not recorded, for a cause.
pub record HasReceipt (before after : PassView) (receipt : Receipt) : Type 0 where
  pub pass : after ≡ with_receipt before receipt receipt.place
  pub unplaced : IfNone receipt.place (IsRejected receipt)
  pub cause : IfNone receipt.place (HasCause before receipt.event receipt.outcome)
  pub above : IfSome receipt.place (λ place. IsAbove before place)
  pub running : IfSome receipt.place (λ _. before.saw_halt ≡ false)
