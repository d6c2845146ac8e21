-- Splitting an input: the lines before the mark, and the remaining input.
use Rattle.std.proofs.Common.{◌≡◌, ℕ, suc, ◌+◌, ◌-◌, ◌<◌, take, subst, length-append, Bool, true, false, cond, not, ◌||◌, drop, List, [], ◌∷◌, ◌++◌, length, refl, sym, ap, ◌∙◌, append_assoc, arith}
use Rattle.std.specs.List.{list_any, before_first, after_first, position_or_len, join_with_byte}
use Rattle.std.proofs.lemmas.List.Splits.{slice_split_first, slice_split_none, join_with_byte-slice_split}
use Rattle.std.proofs.lemmas.List.Sums.{split_at_first, passes_at_first, fails_before_first}
use Rattle.std.proofs.lemmas.Bool.{eqb-true}
use Rattle.std.proofs.lemmas.List.{append-nil, append_cancel_right}
use Rattle.std.proofs.Math.Seq.{take-append_seam}
use Rattle.std.proofs.lemmas.Str.{IsCharBoundary-at_seam}
use Rattle.std.specs.Str.{IsUtf8, IsCharBoundary}
use Rattle.rack_script.specs.Input.{Parts, is_lf, lines_in, is_mark, with_ends, parts_by_lines, parts_of}

-- lines in front of the rack text
abbrev pub in_front : List ℕ → Parts → Parts
in_front front parts = record { rack = front ++ parts.rack; script = parts.script }

-- the remaining input after lines without a mark are taken off its front
pub record SoFar (input left : List ℕ) : Type 0 where
  pub front : List ℕ
  pub whole : input ≡ front ++ left
  pub parts : parts_of input ≡ in_front front (parts_of left)

pub at_start : (input : List ℕ) → SoFar input input
at_start input = record { front = []; whole = refl; parts = refl }

-- ---- a text is cut at the start of its end

front_length : (text front end : List ℕ) → text ≡ front ++ end → length text - length end ≡ length front
front_length text front end e = let lengths : length text ≡ length front + length end = ap length e ∙ length-append front end in omega arith

pub can_cut : (text front end : List ℕ) → text ≡ front ++ end → IsUtf8 end → IsCharBoundary text (length text - length end)
can_cut text front end e whole =
    let P : ℕ → Type 0 = λ i. IsCharBoundary text i in
    subst P (sym (front_length text front end e)) (IsCharBoundary-at_seam text front end e whole)

pub front_and_end : (text front end : List ℕ) → text ≡ front ++ end → text ≡ take (length text - length end) text ++ end
front_and_end text front end e =
    e ∙ ap (λ xs. xs ++ end) (sym (take-append_seam front end) ∙ ap (λ xs. take (length front) xs) (sym e) ∙ ap (λ i. take i text) (sym (front_length text front end e)))

-- ---- lines

-- the first line of a text with a LF
first_line : (text : List ℕ) → position_or_len is_lf text < length text → lines_in text ≡ before_first is_lf text ∷ lines_in (after_first is_lf text)
first_line text has = slice_split_first is_lf text 0 has

-- a text with no LF is one line
pub one_line : (text : List ℕ) → position_or_len is_lf text ≡ length text → lines_in text ≡ text ∷ []
one_line text none = slice_split_none is_lf text (λ k d below. fails_before_first is_lf text k d (let e = none in omega arith))

-- a text is its first line, the LF of that line, and the rest
line_and_rest : (text : List ℕ) → position_or_len is_lf text < length text → text ≡ (before_first is_lf text ++ 10 ∷ []) ++ after_first is_lf text
line_and_rest text has =
    split_at_first is_lf text 0 has
    ∙ ap (λ octet. before_first is_lf text ++ (octet ∷ after_first is_lf text)) (eqb-true _ 10 (passes_at_first is_lf text 0 has))
    ∙ sym (append_assoc (before_first is_lf text) (10 ∷ []) (after_first is_lf text))

-- the parts, by whether there is a mark, and at which line
abbrev parts_if : Bool → ℕ → List (List ℕ) → List ℕ → Parts
parts_if has place lines text =
    cond has (record { rack = with_ends (take place lines); script = join_with_byte 10 (drop (place + 1) lines) }) (record { rack = text; script = [] })

plain_line_by_tests : (marks has : Bool) (place : ℕ) (line : List ℕ) (lines : List (List ℕ)) (text rest : List ℕ) → marks ≡ false → text ≡ (line ++ 10 ∷ []) ++ rest
    → parts_if (marks || has) (cond (not marks) (1 + place) 0) (line ∷ lines) text ≡ in_front (line ++ 10 ∷ []) (parts_if has place lines rest)
plain_line_by_tests true has place line lines text rest plain e = absurd cc
plain_line_by_tests false true place line lines text rest plain e =
    let here : 1 + place ≡ suc place = omega arith in
    let behind : 1 + place + 1 ≡ suc (place + 1) = omega arith in
    ap (λ n. record { rack = with_ends (take n (line ∷ lines)); script = join_with_byte 10 (drop (1 + place + 1) (line ∷ lines)) }) here
    ∙ ap (λ n. record { rack = with_ends (take (suc place) (line ∷ lines)); script = join_with_byte 10 (drop n (line ∷ lines)) }) behind
plain_line_by_tests false false place line lines text rest plain e = ap (λ xs. record { rack = xs; script = [] }) e

-- a line that is no mark belongs to the rack text
plain_line : (text line rest : List ℕ) → lines_in text ≡ line ∷ lines_in rest → text ≡ (line ++ 10 ∷ []) ++ rest → is_mark line ≡ false
    → parts_of text ≡ in_front (line ++ 10 ∷ []) (parts_of rest)
plain_line text line rest first e plain =
    ap (parts_by_lines text) first
    ∙ plain_line_by_tests (is_mark line) (list_any is_mark (lines_in rest)) (position_or_len is_mark (lines_in rest)) line (lines_in rest) text rest plain e

mark_by_tests : (marks has : Bool) (place : ℕ) (line : List ℕ) (lines : List (List ℕ)) (text : List ℕ) → marks ≡ true
    → parts_if (marks || has) (cond (not marks) (1 + place) 0) (line ∷ lines) text ≡ record { rack = []; script = join_with_byte 10 lines }
mark_by_tests true has place line lines text marked = refl
mark_by_tests false has place line lines text marked = absurd cc

-- what follows a mark is the script
mark_line : (text line : List ℕ) (lines : List (List ℕ)) → lines_in text ≡ line ∷ lines → is_mark line ≡ true
    → parts_of text ≡ record { rack = []; script = join_with_byte 10 lines }
mark_line text line lines first marked =
    ap (parts_by_lines text) first ∙ mark_by_tests (is_mark line) (list_any is_mark lines) (position_or_len is_mark lines) line lines text marked

-- ---- a step of the loop, and its ends

pub line_passed : (input left line others : List ℕ) → SoFar input left → position_or_len is_lf left < length left
    → line ≡ before_first is_lf left → others ≡ after_first is_lf left → is_mark line ≡ false → SoFar input others
line_passed input left line others so_far has is_line is_rest plain =
    let front = so_far.front in
    let ended : List ℕ = line ++ 10 ∷ [] in
    let first : lines_in left ≡ line ∷ lines_in others = first_line left has ∙ ap (λ xs. xs ∷ lines_in (after_first is_lf left)) (sym is_line) ∙ ap (λ xs. line ∷ lines_in xs) (sym is_rest) in
    let whole : left ≡ ended ++ others = line_and_rest left has ∙ ap (λ xs. (xs ++ 10 ∷ []) ++ after_first is_lf left) (sym is_line) ∙ ap (λ xs. ended ++ xs) (sym is_rest) in
    record {
      front = front ++ ended;
      whole = so_far.whole ∙ ap (λ xs. front ++ xs) whole ∙ sym (append_assoc front ended others);
      parts = so_far.parts ∙ ap (in_front front) (plain_line left line others first whole plain)
          ∙ ap (λ xs. record { rack = xs; script = (parts_of others).script }) (sym (append_assoc front ended (parts_of others).rack));
    }

-- the parts of an input, from those of the remaining input
of_what_is_left : (input left rack : List ℕ) (parts : Parts) → SoFar input left → parts_of left ≡ parts → input ≡ rack ++ left
    → parts_of input ≡ in_front rack parts
of_what_is_left input left rack parts so_far of_left e =
    so_far.parts ∙ ap (in_front so_far.front) of_left ∙ ap (λ front. in_front front parts) (append_cancel_right so_far.front rack left (sym so_far.whole ∙ e))

pub parted_at_mark : (input left line others rack : List ℕ) → SoFar input left → position_or_len is_lf left < length left
    → line ≡ before_first is_lf left → others ≡ after_first is_lf left → is_mark line ≡ true → input ≡ rack ++ left
    → record { rack = rack; script = others } ≡ parts_of input
parted_at_mark input left line others rack so_far has is_line is_rest marked e =
    let first : lines_in left ≡ line ∷ lines_in others = first_line left has ∙ ap (λ xs. xs ∷ lines_in (after_first is_lf left)) (sym is_line) ∙ ap (λ xs. line ∷ lines_in xs) (sym is_rest) in
    sym (of_what_is_left input left rack _ so_far (mark_line left line (lines_in others) first marked) e
    ∙ ap (λ xs. record { rack = xs; script = join_with_byte 10 (lines_in others) }) (append-nil rack)
    ∙ ap (λ xs. record { rack = rack; script = xs }) (join_with_byte-slice_split 10 others))

pub parted_at_last_mark : (input left rack : List ℕ) → SoFar input left → position_or_len is_lf left ≡ length left → is_mark left ≡ true → input ≡ rack ++ left
    → record { rack = rack; script = [] } ≡ parts_of input
parted_at_last_mark input left rack so_far none marked e =
    sym (of_what_is_left input left rack _ so_far (mark_line left left [] (one_line left none) marked) e
    ∙ ap (λ xs. record { rack = xs; script = [] }) (append-nil rack))

plain_text_by_tests : (marks : Bool) (text : List ℕ) → marks ≡ false → parts_if (marks || false) (cond (not marks) (1 + 0) 0) (text ∷ []) text ≡ record { rack = text; script = [] }
plain_text_by_tests true text plain = absurd cc
plain_text_by_tests false text plain = refl

pub not_parted : (input left : List ℕ) → SoFar input left → position_or_len is_lf left ≡ length left → is_mark left ≡ false
    → record { rack = input; script = [] } ≡ parts_of input
not_parted input left so_far none plain =
    sym (so_far.parts ∙ ap (in_front so_far.front) (ap (parts_by_lines left) (one_line left none) ∙ plain_text_by_tests (is_mark left) left plain)
    ∙ ap (λ xs. record { rack = xs; script = [] }) (sym so_far.whole))
