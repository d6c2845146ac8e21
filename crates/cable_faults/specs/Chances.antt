-- detail
-- Chances, and the random words that decide by them (own).
use Rattle.std.specs.Prelude.{ℕ, ◌*◌, ◌^◌, Bool, nat_lt}
use Rattle.rand_pcg.specs.Lcg.{Lcg, increment_of, started}
use Rattle.rand_pcg.specs.Pcg.{multiplier_64, pcg32}
use Rattle.cable_faults.specs.declared.chance.Chance.{Chance}
use Rattle.cable_faults.specs.declared.random_words.RandomWords.{RandomWords}
use Rattle.cable_faults.specs.declared.random_words.Draw.{Draw}

-- of the 2^32 words, the first ones come under a chance: as many as its millionths say, rounded up
abbrev pub hits : Chance → ℕ → Bool
hits chance word = nat_lt (word * 1000000) (chance.millionths * 2 ^ 32)

-- ---- the generator PCG32

abbrev pub generator_of : RandomWords → Lcg
generator_of random_words = record { state = random_words.state; increment = increment_of 64 random_words.stream }

-- the sequence with this number among those of a seed, at its first word
unfoldable pub first_random_words : ℕ → ℕ → RandomWords
first_random_words seed stream = record { state = (started 64 multiplier_64 seed (increment_of 64 stream)).state; stream = stream }

-- the next word of a sequence
unfoldable pub word_of : RandomWords → ℕ
word_of random_words = (pcg32 (generator_of random_words)).0

-- the sequence after that word
unfoldable pub random_words_after : RandomWords → RandomWords
random_words_after random_words = record random_words { state = (pcg32 (generator_of random_words)).1.state }

-- ---- what is drawn for a telegram

-- the sequence after this number of words, 0 to 6
abbrev pub after_2 : RandomWords → RandomWords
after_2 random_words = random_words_after (random_words_after random_words)

abbrev pub after_4 : RandomWords → RandomWords
after_4 random_words = after_2 (after_2 random_words)

-- each telegram takes six words, whatever comes of it
abbrev pub draw_of : RandomWords → Draw
draw_of random_words = record {
  lose = word_of random_words;
  spoil = word_of (random_words_after random_words);
  cut = word_of (after_2 random_words);
  late = word_of (random_words_after (after_2 random_words));
  place = word_of (after_4 random_words);
  change = word_of (random_words_after (after_4 random_words));
}

abbrev pub random_words_after_draw : RandomWords → RandomWords
random_words_after_draw random_words = after_2 (after_4 random_words)
