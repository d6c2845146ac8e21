use native.Mathlib.Omega.{arith}
use Rattle.std.proofs.Common.{◌≡◌, ℕ, ◌+◌, ◌-◌, ◌≤◌, Bool, false, List, [], ◌∷◌, map, length, drop, take, sym, ap, subst, ◌∙◌}
use Rattle.std.specs.Prelude.{if◌then◌else◌}
use Rattle.std.proofs.lemmas.List.{take_all}
use lib.ListN.{get_or}
use Rattle.dp_line.specs.World.{description_of}
use Rattle.dp_audit.specs.Check.{is_accepted_header}
use Rattle.rack_file.specs.declared.rack.RackLine.{RackLine}
use Rattle.rack_file.specs.Rack.{line_described}
use Rattle.capture_texts.specs.Captured.{interface_among}
use Rattle.capture_texts.proofs.opening.+interface_named.Goals as goal

-- a line that doesn't accept the header is counted before the others
counted_before : (first : RackLine) (others : List RackLine) (header : List ℕ) (number : ℕ) → is_accepted_header (description_of first.spec) header ≡ false → number ≡ interface_among (map line_described others) header
    → number + 1 ≡ interface_among (map line_described (first ∷ others)) header
counted_before first others header number other is =
    ap (λ (n : ℕ). n + 1) is ∙ sym (ap (λ (b : Bool). if b then 0 else interface_among (map line_described others) header + 1) other)

counted : (lines : List RackLine) (line : RackLine) (header : List ℕ) (number : ℕ) → 1 ≤ length lines → line ≡ get_or lines 0 line → is_accepted_header (description_of line.spec) header ≡ false
    → number ≡ interface_among (map line_described (take (length lines - 1) (drop 1 lines))) header → number + 1 ≡ interface_among (map line_described lines) header
counted [] line header number some first other is = absurd (omega (arith, some))
counted (x ∷ xs) line header number some first other is =
    counted_before x xs header number (subst (λ (l : RackLine). is_accepted_header (description_of l.spec) header ≡ false) first other)
    (is ∙ ap (λ (ls : List RackLine). interface_among (map line_described ls) header) (take_all (length (x ∷ xs) - 1) xs (omega arith)))

pub returns-else-is_header_of-clause-number : goal.returns-else-is_header_of-clause-number
returns-else-is_header_of-clause-number t c =
    counted c.args.lines.now c.line-item.result c.args.header.now c.interface_named.result c.in-len1-up.len_at_least c.line-item.is (sym c.is_header_of.ensures ∙ c.if-is_header_of.false) c.interface_named.ensures.number
