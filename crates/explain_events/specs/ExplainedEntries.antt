-- detail
-- All rows of an entry (own).
use Rattle.std.specs.Prelude.{ℕ, List, [], ◌++◌}
use Rattle.dp_line.specs.declared.event.Event.{Event}
use Rattle.dp_line.specs.declared.event.Event.TheVariants.{Request, Operator}
use Rattle.dp_line.specs.declared.event.Outcome.{Outcome}
use Rattle.dp_line.specs.declared.event.Outcome.TheVariants.{Reply}
use Rattle.dp_line.specs.World.{World}
use Rattle.explain_octets.specs.Replies.{reply_text}
use Rattle.explain_events.specs.TelegramRows.{row_where, sent_row}
use Rattle.explain_events.specs.Heads.{head_text}
use Rattle.explain_events.specs.EventContexts.{EventContextView}
use Rattle.explain_events.specs.Results.{result_rows}
use Rattle.explain_events.specs.Ways.{answered_as, is_judged_afterwards}
use Rattle.explain_events.specs.Changes.{change_rows}

abbrev pub contents_row : Event → List ℕ
contents_row (Request master octets) = sent_row octets.items
contents_row (Operator op) = []

-- the reply to a request, which says if the slave judges the request only afterwards
abbrev pub reply_row : EventContextView → Event → Outcome → List ℕ
reply_row context (Request master octets) (Reply reply rule) =
    row_where (reply_text (is_judged_afterwards (answered_as context master octets.items rule)) octets.items reply.items)
reply_row context event outcome = []

-- the rows of an event with this outcome, after which the line is this world
abbrev pub explained_entry_text : EventContextView → World → ℕ → Event → Outcome → List ℕ
explained_entry_text context after place event outcome =
    head_text context.time place event ++ contents_row event ++ result_rows context event outcome ++ reply_row context event outcome
    ++ change_rows context.world after event outcome
