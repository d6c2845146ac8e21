use Rattle.std.proofs.Common.{◌≡◌, ◌++◌, length}
use Rattle.std.specs.List.{flat_map}
use Rattle.capture_texts.specs.Comments.{spaced_word}
use Rattle.capture_texts.proofs.comments.push_words.Given as goal

abbrev pub invariant-loop-word : goal.invariant-loop-word
invariant-loop-word l = l.comment.items ++ flat_map spaced_word l.words ≡ l.initial.comment.items ++ flat_map spaced_word l.initial.words

abbrev pub decreases-loop-word : goal.decreases-loop-word
decreases-loop-word l = length l.words
