use Rattle.std.proofs.Common.{filter, map, rules}
use Rattle.explain_texts.specs.JsonCounts.{was_counted, way_json, ways_json}
use Rattle.explain_texts.specs.Tallies.{all_ways}
use Rattle.explain_texts.proofs.PlainValues.{bracketed}
use Rattle.explain_texts.proofs.json_counts.WaysDisplay.fmt.Goals as goal

pub returns-clause-writes : goal.returns-clause-writes
unfolding ways_json
returns-clause-writes g c = λ plain ok.
    let opened = c.write_str.ensures.writes plain (search rules) in
    let inside = c.write_ways.ensures opened.plain (search rules) in
    bracketed _ _ _ _ _ (map (way_json c.args.self.now.0.now) (filter (was_counted c.args.self.now.0.now) all_ways)) opened inside
    (c.write_str-2.ensures.writes inside.plain ok)
