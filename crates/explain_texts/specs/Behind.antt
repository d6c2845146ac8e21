-- detail
-- What is known behind the head of a part of an audit text (own).
use Rattle.std.specs.Prelude.{ℕ, List, [], ◌∷◌, Option, Some, None}
use Rattle.dp_slave.specs.declared.description.SlaveSpec.{SlaveSpec}
use Rattle.dp_slave.specs.declared.view.SlaveView.{SlaveView}
use Rattle.dp_line.specs.World.{Description, World}
use Rattle.audit_heads.specs.Head.{Head}
use Rattle.explain_events.specs.Notes.{first_notes}
use Rattle.explain_events.specs.Releases.{first_releases}
use Rattle.explain_events.specs.Shown.{shown_at}
use Rattle.explain_texts.specs.declared.statistics.AddressCounts.{AddressCounts}
use Rattle.explain_texts.specs.Followed.{FollowerView, following}
use Rattle.explain_texts.specs.Known.{KnownView, slave_addresses}
use Rattle.explain_texts.specs.StationCounts.{first_statistics}
use Rattle.explain_texts.specs.Statistics.{hold_begun, moment}
use Rattle.explain_texts.specs.Tallies.{first_tally}

-- the hold of a slave at a head, if somebody holds it, begins at the time of the head: the time before counts for other parts of the text
abbrev pub shown_hold_begun : ℕ → ℕ → Option SlaveView → List AddressCounts → List AddressCounts
shown_hold_begun now slave None statistics = statistics
shown_hold_begun now slave (Some shown) statistics = hold_begun now slave shown.holder statistics

-- the same for each of these slaves
abbrev pub all_holds_begun : World → ℕ → List SlaveSpec → List AddressCounts → List AddressCounts
all_holds_begun world now [] statistics = statistics
all_holds_begun world now (slave ∷ slaves) statistics =
    all_holds_begun world now slaves (shown_hold_begun now slave.address (shown_at world slave.address) statistics)

-- before the first entry behind a head: of the entries before the head nothing is known but the line and the time behind them
abbrev pub known_behind_head : Description → Head → KnownView
known_behind_head line head = record {
  context = record {
    description = line;
    world = head.world;
    notes = first_notes (slave_addresses line) line.masters;
    releases = first_releases;
    time = head.time;
  };
  tally = first_tally line.masters;
  statistics = all_holds_begun head.world (moment head.time) line.slaves first_statistics;
}

abbrev pub follower_behind : Description → Head → FollowerView
follower_behind line head = following (known_behind_head line head)
