-- The lines of a rack that is accepted.
use Rattle.std.proofs.Common.{◌≡◌, ℕ, Bool, List, [], ◌∷◌, map, All, None, refl, ap, ◌∙◌}
use Rattle.std.specs.List.{AllByRecursion}
use Rattle.std.proofs.lemmas.List.Elements.{All-from_recursion, recursion_from_All}
use Rattle.dp_line.specs.World.{description_of, opening_fault}
use Rattle.rack_file.specs.declared.rack.RackLine.{RackLine}
use Rattle.rack_file.specs.Rack.{LineDescription, line_described}
use Rattle.embedded_rack.specs.EmbeddedLines.{EmbeddedLine}
use Rattle.embedded_rack.specs.RackCalls.{blank_answer, descriptions_of, line_opened, rack_at_start}

pub map-map : {A B C : Type 0} (f : B → C) (g : A → B) (xs : List A) → map (λ x. f (g x)) xs ≡ map f (map g xs)
map-map f g [] = refl
map-map f g (x ∷ xs) = ap (λ ys. f (g x) ∷ ys) (map-map f g xs)

open_by_recursion : (lines : List RackLine) → AllByRecursion (λ line. opening_fault line.line ≡ None) (map line_described lines)
    → AllByRecursion (λ line. opening_fault (description_of line.spec) ≡ None) lines
open_by_recursion [] all = tt
open_by_recursion (x ∷ xs) all = (all.0, open_by_recursion xs all.1)

-- if each described line can be opened, each line can be opened
pub lines_open : (lines : List RackLine) → All (λ line. opening_fault line.line ≡ None) (map line_described lines)
    → All (λ line. opening_fault (description_of line.spec) ≡ None) lines
lines_open lines all =
    All-from_recursion (λ line. opening_fault (description_of line.spec) ≡ None) lines
    (open_by_recursion lines (recursion_from_All (λ line. opening_fault line.line ≡ None) (map line_described lines) all))

-- a rack whose lines were opened one after another
pub rack_started : (endless : Bool) (workers : ℕ) (lines : List RackLine) (opened : List EmbeddedLine)
    → opened ≡ map (λ line. line_opened endless (description_of line.spec)) lines
    → record { described = descriptions_of lines; forgets = endless; lines = opened; answer = blank_answer; text = [] }
    ≡ rack_at_start endless (record { workers = workers; lines = map line_described lines })
rack_started endless workers lines opened is =
    ap (λ ds. record { described = ds; forgets = endless; lines = opened; answer = blank_answer; text = [] }) (map-map (λ (line : LineDescription). line.line) line_described lines)
    ∙ ap (λ ls. record { described = map (λ (line : LineDescription). line.line) (map line_described lines); forgets = endless; lines = ls; answer = blank_answer; text = [] })
    (is ∙ map-map (λ (line : LineDescription). line_opened endless line.line) line_described lines)
