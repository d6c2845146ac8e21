-- The key that is suggested stands behind the text for a key that isn't accepted.
use Rattle.std.proofs.Common.{◌≡◌, Some, append_assoc, rules}
use Rattle.rack_file.specs.Suggestions.{suggested_key}
use Rattle.rack_file.proofs.reporting.key_reported.Goals as goal

pub returns-in-Some : goal.returns-in-Some
returns-in-Some c =
    let found : suggested_key c.args.bad.now.place c.args.bad.now.key c.args.bad.now.cause ≡ Some c.in-Some.name.now = search rules in
    rw found (simp append_assoc (simp append_assoc at c.format.ensures.ok))
