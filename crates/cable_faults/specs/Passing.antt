-- detail
-- The pieces of a stream on the cable (own).
use Rattle.std.specs.Prelude.{◌≡◌, ℕ, List, [], ◌∷◌, ◌++◌, take, Option, Some, None, option_map}
use Rattle.dp_telegram.specs.declared.cutter.Cut.{Cut}
use Rattle.dp_telegram.specs.declared.cutter.Cut.TheVariants as pieces
use Rattle.dp_telegram.specs.Stream.{cut_length, left_of, piece_of}
use Rattle.cable_faults.specs.declared.cable.Cable.{Cable}
use Rattle.cable_faults.specs.declared.cable.Decision.{Decision}
use Rattle.cable_faults.specs.declared.random_words.RandomWords.{RandomWords}
use Rattle.cable_faults.specs.declared.treatment.Treatment.{Treatment}
use Rattle.cable_faults.specs.declared.treatment.Treatment.TheVariants.{Passed}
use Rattle.cable_faults.specs.declared.options.Direction.{Direction}
use Rattle.cable_faults.specs.declared.options.Options.{Options}
use Rattle.cable_faults.specs.declared.order.Order.{Order}
use Rattle.cable_faults.specs.declared.passing.Passage.{Passage}
use Rattle.cable_faults.specs.Chances.{random_words_after_draw, draw_of}
use Rattle.cable_faults.specs.Decisions.{decision_of, delay_of, waiting_after}
use Rattle.cable_faults.specs.Treatments.{sent_of}

-- octets that are no telegram
abbrev pub passed_on : Options → Direction → Decision
passed_on options direction = record { treatment = Passed; wait = delay_of options direction; slave = None; done = None }

-- octets that are no whole telegram, and what becomes of them
abbrev pub rest_with : Treatment → List ℕ → Passage
rest_with treatment octets = record {
  before = record { items = octets };
  decision = record { treatment = treatment; wait = 0; slave = None; done = None };
}

abbrev pub decision_on : Cable → Direction → Option ℕ → RandomWords → Cut → Decision
decision_on cable direction asked random_words (pieces.Frame frame octets) = decision_of cable direction octets.items asked (draw_of random_words)
decision_on cable direction asked random_words (pieces.Dropped fault count) = passed_on cable.options direction

abbrev pub passage_by : Cable → Direction → Option ℕ → RandomWords → List ℕ → Cut → Passage
passage_by cable direction asked random_words stream cut = record {
  before = record { items = take (cut_length cut) stream };
  decision = decision_on cable direction asked random_words cut;
}

-- the first piece of a stream, and what becomes of it
abbrev pub passage_of : Cable → Direction → Option ℕ → RandomWords → List ℕ → Option Passage
passage_of cable direction asked random_words stream = option_map (passage_by cable direction asked random_words stream) (piece_of stream)

-- only a telegram takes random words and is counted by an order
abbrev pub random_words_after_piece : RandomWords → Option Cut → RandomWords
random_words_after_piece random_words None = random_words
random_words_after_piece random_words (Some (pieces.Frame frame octets)) = random_words_after_draw random_words
random_words_after_piece random_words (Some (pieces.Dropped fault count)) = random_words

abbrev pub waiting_after_piece : Cable → Direction → Option ℕ → Option Cut → List Order
waiting_after_piece cable direction asked None = cable.waiting.items
waiting_after_piece cable direction asked (Some (pieces.Frame frame octets)) = waiting_after cable direction octets.items asked
waiting_after_piece cable direction asked (Some (pieces.Dropped fault count)) = cable.waiting.items

-- ---- whole streams

-- a stream is these pieces one after another, and a rest that begins with no piece
pub data IsCutInto : List ℕ → List (List ℕ) → List ℕ → Type 0 where
  ended : {rest : List ℕ} → piece_of rest ≡ None → IsCutInto rest [] rest
  begins : {stream rest : List ℕ} {others : List (List ℕ)} (cut : Cut) → piece_of stream ≡ Some cut
      → IsCutInto (left_of stream) others rest → IsCutInto stream (take (cut_length cut) stream ∷ others) rest

-- what goes out for pieces, each with what becomes of it
abbrev pub sent_for : List Treatment → List (List ℕ) → List ℕ
sent_for [] parts = []
sent_for (treatment ∷ treatments) [] = []
sent_for (treatment ∷ treatments) (part ∷ parts) = sent_of treatment part ++ sent_for treatments parts

-- all are passed on
abbrev pub all_passed : List (List ℕ) → List Treatment
all_passed [] = []
all_passed (part ∷ parts) = Passed ∷ all_passed parts
