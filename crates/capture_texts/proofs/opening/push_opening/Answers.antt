use Rattle.std.proofs.Common.{◌≡◌, ℕ, List, ◌++◌, map, Result, Ok, Err, OnOk, ap, ◌∙◌, append_assoc}
use Rattle.capture_texts.specs.Blocks.{block_octets, capture_octets, section}
use Rattle.rack_file.specs.Rack.{line_described}
use Rattle.capture_texts.specs.Captured.{line_interface, time_comment}
use Rattle.capture_texts.proofs.opening.push_opening.Goals as goal

opened_by : {T E : Type 0} (result : Result T E) (new middle old first others : List ℕ) → middle ≡ old ++ first → OnOk result (new ≡ middle ++ others) → OnOk result (new ≡ old ++ (first ++ others))
opened_by (Ok done) new middle old first others begun more = more ∙ ap (λ (xs : List ℕ). xs ++ others) begun ∙ append_assoc old first others
opened_by (Err fault) new middle old first others begun more = tt

pub returns : goal.returns
returns c =
    opened_by c.push_lines.result c.push_lines.new.capture c.push_section.new.self c.args.capture.now (block_octets (section time_comment)) (capture_octets (map line_interface (map line_described c.args.lines.now)))
    (c.in_ok-push_section.ensures ∙ ap (λ (text : List ℕ). c.args.capture.now ++ block_octets (section text)) c.as_bytes.ensures.value) c.push_lines.ensures
