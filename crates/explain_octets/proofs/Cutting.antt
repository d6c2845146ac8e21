-- The blocks of octets, one after another.
use Rattle.std.proofs.Common.{◌≡◌, ℕ, zero, suc, ◌<◌, ◌≤◌, Bool, true, false, if◌then◌else◌, codes, List, [], ◌∷◌, ◌++◌, length, map, take, drop, Option, Some, None, refl, ap, sym, ◌∙◌, arith, length-drop}
use Rattle.std.specs.Prelude.{◌==◌, IfSome, is_some, nat_lt, unwrap_or, option_and_then}
use Rattle.std.specs.Option.{option_map}
use Rattle.std.specs.List.{flat_map, join_by}
use Rattle.std.proofs.lemmas.Bool.Decides.{nat_tests}
use Rattle.std.proofs.lemmas.Option.{IfSome_then}
use Rattle.explain_octets.specs.Blocks.{Block, block, block_at, block_size, block_text, blocks_of, blocks_text, blocks_within, first_block}
use Rattle.explain_octets.specs.PrivateWords.{block_texts, each_behind}

-- what is found is right, if anything is
found_unless : (b : Bool) (first : Block × List ℕ) (P : Block × List ℕ → Type 0) → P first → IfSome (if b then None else Some first) P
found_unless true first P holds = tt
found_unless false first P holds = holds

shortens_at : (size head : ℕ) (rest : List ℕ) → IfSome (block_at size head rest) (λ first. length first.1 < length (head ∷ rest))
shortens_at zero head rest = tt
shortens_at (suc count) head rest =
    found_unless (nat_lt (length rest) count) (block head (take count rest), drop count rest) (λ first. length first.1 < length (head ∷ rest)) (omega (arith, length-drop count rest))

-- fewer octets follow a block
pub first_shortens : (octets : List ℕ) → IfSome (first_block octets) (λ first. length first.1 < length octets)
first_shortens [] = tt
first_shortens (head ∷ rest) = shortens_at (block_size head) head rest

-- the first block and the others
abbrev with_first : (List ℕ → Option (List Block)) → Option (Block × List ℕ) → Option (List Block)
with_first others first = option_and_then (λ first. option_map (λ more. first.0 ∷ more) (others first.1)) first

same_with_first : (these those : List ℕ → Option (List Block)) (bound : ℕ) (o : Option (Block × List ℕ)) → IfSome o (λ first. length first.1 ≤ bound) → ((rest : List ℕ) → length rest ≤ bound → these rest ≡ those rest) → with_first these o ≡ with_first those o
same_with_first these those bound None short same = refl
same_with_first these those bound (Some first) short same = ap (λ others. option_map (λ more. first.0 ∷ more) others) (same first.1 short)

-- every bound on the length gives the same blocks
within_any : (m n : ℕ) (octets : List ℕ) → length octets ≤ m → length octets ≤ n → blocks_within m octets ≡ blocks_within n octets
within_any zero zero octets p q = refl
within_any (suc m) zero [] p q = refl
within_any zero (suc n) [] p q = refl
within_any (suc m) (suc n) [] p q = refl
within_any (suc m) zero (head ∷ rest) p q = absurd (omega arith)
within_any zero (suc n) (head ∷ rest) p q = absurd (omega arith)
within_any (suc m) (suc n) (head ∷ rest) p q =
    same_with_first (blocks_within m) (blocks_within n) (length rest) (first_block (head ∷ rest))
    (IfSome_then (first_block (head ∷ rest)) (first_shortens (head ∷ rest)) (λ first short. omega arith))
    (λ octets short. within_any m n octets (omega arith) (omega arith))

-- the blocks, by the first one
blocks_step : (octets : List ℕ) → 0 < length octets → blocks_of octets ≡ with_first blocks_of (first_block octets)
unfolding blocks_of
blocks_step [] some = absurd (omega arith)
blocks_step (head ∷ rest) some =
    same_with_first (blocks_within (length rest)) blocks_of (length rest) (first_block (head ∷ rest))
    (IfSome_then (first_block (head ∷ rest)) (first_shortens (head ∷ rest)) (λ first short. omega arith))
    (λ octets short. within_any (length rest) (length octets) octets short (omega arith))

some_octets : (octets : List ℕ) (first : Block × List ℕ) → first_block octets ≡ Some first → 0 < length octets
some_octets [] first e = cc
some_octets (head ∷ rest) first e = omega arith

blocks_more : (octets : List ℕ) (first : Block × List ℕ) → first_block octets ≡ Some first → blocks_of octets ≡ option_map (λ more. first.0 ∷ more) (blocks_of first.1)
blocks_more octets first e = blocks_step octets (some_octets octets first e) ∙ ap (with_first blocks_of) e

-- ---- whether octets are blocks

still_some : (one : Block) (o : Option (List Block)) → is_some (option_map (λ more. one ∷ more) o) ≡ is_some o
still_some one None = refl
still_some one (Some more) = refl

-- octets are blocks if those after the first one are
pub more_are_blocks : (octets : List ℕ) (first : Block × List ℕ) → first_block octets ≡ Some first → is_some (blocks_of octets) ≡ is_some (blocks_of first.1)
more_are_blocks octets first e = ap is_some (blocks_more octets first e) ∙ still_some first.0 (blocks_of first.1)

cut_are_no_blocks : (octets : List ℕ) → 0 < length octets → first_block octets ≡ None → is_some (blocks_of octets) ≡ false
cut_are_no_blocks octets some e = ap is_some (blocks_step octets some ∙ ap (with_first blocks_of) e)

some_are_not_0 : (count : ℕ) → 0 < count → (count == 0) ≡ false
some_are_not_0 count some = grind (arith, nat_tests)

-- octets without a first block are blocks if there are no octets
pub none_is_first : (octets : List ℕ) → first_block octets ≡ None → (length octets == 0) ≡ is_some (blocks_of octets)
unfolding blocks_of
none_is_first [] e = refl
none_is_first (head ∷ rest) e = some_are_not_0 (length (head ∷ rest)) (omega arith) ∙ sym (cut_are_no_blocks (head ∷ rest) (omega arith) e)

-- ---- the texts of blocks

texts_from : (one : Block) (o : Option (List Block)) → is_some (option_map (λ more. one ∷ more) o) ≡ true → map block_text (unwrap_or (option_map (λ more. one ∷ more) o) []) ≡ block_text one ∷ map block_text (unwrap_or o [])
texts_from one None some = cc
texts_from one (Some more) some = refl

-- the text of the first one, and those of the octets after it
pub texts_more : (octets : List ℕ) (first : Block × List ℕ) → is_some (blocks_of octets) ≡ true → first_block octets ≡ Some first → block_texts octets ≡ block_text first.0 ∷ block_texts first.1
texts_more octets first some e =
    let step = blocks_more octets first e in
    ap (λ blocks. map block_text (unwrap_or blocks [])) step ∙ texts_from first.0 (blocks_of first.1) (sym (ap is_some step) ∙ some)

pub no_texts : (octets : List ℕ) → is_some (blocks_of octets) ≡ true → first_block octets ≡ None → block_texts octets ≡ []
unfolding blocks_of
no_texts [] some e = refl
no_texts (head ∷ rest) some e = cc (cut_are_no_blocks (head ∷ rest) (omega arith) e)

more_behind : (blocks : List Block) → each_behind (codes "; ") (map block_text blocks) ≡ flat_map (λ one. codes "; " ++ block_text one) blocks
more_behind [] = refl
more_behind (one ∷ blocks) = ap (λ more. codes "; " ++ block_text one ++ more) (more_behind blocks)

each_is_joined : (blocks : List Block) → each_behind [] (map block_text blocks) ≡ join_by block_text (codes "; ") blocks
each_is_joined [] = refl
each_is_joined (one ∷ blocks) = ap (λ more. block_text one ++ more) (more_behind blocks)

joined_from : (o : Option (List Block)) → is_some o ≡ true → codes " (" ++ each_behind [] (map block_text (unwrap_or o [])) ++ codes ")" ≡ blocks_text o
joined_from None some = cc
joined_from (Some blocks) some = ap (λ text. codes " (" ++ text ++ codes ")") (each_is_joined blocks)

-- all texts with their separators are the text of the blocks
pub texts_are_joined : (octets : List ℕ) → is_some (blocks_of octets) ≡ true → codes " (" ++ each_behind [] (block_texts octets) ++ codes ")" ≡ blocks_text (blocks_of octets)
texts_are_joined octets some = joined_from (blocks_of octets) some

no_text_from : (o : Option (List Block)) → is_some o ≡ false → blocks_text o ≡ []
no_text_from None none = refl
no_text_from (Some blocks) none = cc

-- octets that are no blocks have no text
pub no_text : (octets : List ℕ) → is_some (blocks_of octets) ≡ false → blocks_text (blocks_of octets) ≡ []
no_text octets none = no_text_from (blocks_of octets) none
