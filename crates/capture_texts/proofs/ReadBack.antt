-- A capture that is read back.
use Rattle.std.proofs.Common.{◌≡◌, ℕ, zero, suc, ◌+◌, ◌-◌, ◌==◌, ◌<◌, ◌≤◌, ◌^◌, ◌/◌, ◌%◌, Bool, true, false, cond, List, [], ◌∷◌, ◌++◌, length, take, drop, map, Option, Some, None, refl, sym, ap, ◌∙◌, append_assoc, arith, length-append}
use Rattle.std.specs.Prelude.{nat_lt, not, option_and_then, ◌||◌}
use Rattle.std.specs.List.{AllByRecursion}
use Rattle.std.specs.Option.{option_map}
use Rattle.std.proofs.lemmas.Bool.{eq-eqb, le-ltb}
use Rattle.std.proofs.lemmas.Nat.{from_le_bytes-to_le_bytes_4}
use Rattle.std.proofs.Math.Seq.{drop-append-add, drop-append_seam, take-append_seam}
use Rattle.capture_texts.specs.Blocks.{Block, PacketView, block_body, block_kind, block_octets, capture_octets, comment_kept, comment_option, end_of_options, flags_option, four, framed, interface, packet, packet_body, packet_data, packet_head, padded, padding, pdu_tags, section, size_octets, time_octets}
use Rattle.capture_texts.specs.ReadBack.{Framed, IsWithinLimits, blocks_in, blocks_within, cut_of, first_block, framed_block, number_at, telegram_if_packet, telegram_of, telegrams, telegrams_in, telegrams_of}
use Rattle.capture_texts.proofs.Sizes.{interface_fits, length_data, length_four, packet_fits, section_fits}

-- ---- numbers

pub number_is : (number : ℕ) (rest : List ℕ) → number < 4294967296 → number_at (four number ++ rest) ≡ number
unfolding number_at four
number_is number rest fits = from_le_bytes-to_le_bytes_4 number fits

-- ---- one block

-- a block in a form that shows each part at the front
abbrev laid_out : ℕ → ℕ → List ℕ → List ℕ → List ℕ
laid_out kind size body rest = four kind ++ (four size ++ (body ++ (four size ++ rest)))

framed_is : (kind : ℕ) (body rest : List ℕ) → framed kind body ++ rest ≡ laid_out kind (length body + 12) body rest
unfolding framed
framed_is kind body rest =
    let size = four (length body + 12) in
    append_assoc (four kind ++ size ++ body) size rest
    ∙ append_assoc (four kind ++ size) body (size ++ rest)
    ∙ append_assoc (four kind) size (body ++ (size ++ rest))

behind_four : (number n : ℕ) (rest : List ℕ) → drop (4 + n) (four number ++ rest) ≡ drop n rest
behind_four number n rest =
    ap (λ (m : ℕ). drop (m + n) (four number ++ rest)) (sym (length_four number)) ∙ drop-append-add (four number) rest n

behind_head : (kind size n : ℕ) (rest : List ℕ) → drop (8 + n) (four kind ++ (four size ++ rest)) ≡ drop n rest
behind_head kind size n rest =
    let e : 8 + n ≡ 4 + (4 + n) = omega arith in
    ap (λ (m : ℕ). drop m (four kind ++ (four size ++ rest))) e ∙ behind_four kind (4 + n) (four size ++ rest) ∙ behind_four size n rest

length_laid : (kind size : ℕ) (body rest : List ℕ) → length (laid_out kind size body rest) ≡ length body + 12 + length rest
length_laid kind size body rest =
    omega (
      arith,
      length-append (four kind) (four size ++ (body ++ (four size ++ rest))),
      length-append (four size) (body ++ (four size ++ rest)),
      length-append body (four size ++ rest),
      length-append (four size) rest,
      length_four kind,
      length_four size,
    )

or_false : (a b c : Bool) → a ≡ false → b ≡ false → c ≡ true → (a || b || not c) ≡ false
or_false a b c first second third = rw (first, second, third) refl

abbrev some_cut : ℕ → List ℕ → List ℕ → Option (Framed × List ℕ)
some_cut kind body rest = Some (record { kind = kind; body = body }, rest)

cut_by : (kind size : ℕ) (body rest : List ℕ) → kind < 4294967296 → size < 4294967296 → size ≡ length body + 12
    → cut_of size (laid_out kind size body rest) ≡ Some (record { kind = kind; body = body }, rest)
cut_by kind size body rest first fits is =
    let octets = laid_out kind size body rest in
    let seam : size - 12 ≡ length body = omega (arith, is) in
    let at_end : drop (size - 4) octets ≡ four size ++ rest =
    ap (λ (m : ℕ). drop m octets) (let e : size - 4 ≡ 8 + length body = omega (arith, is) in e) ∙ behind_head kind size (length body) (body ++ (four size ++ rest)) ∙ drop-append_seam body (four size ++ rest) in
    let inside : take (size - 12) (drop 8 octets) ≡ body =
    ap (λ (xs : List ℕ). take (size - 12) xs) (ap (λ (m : ℕ). drop m octets) (let e : 8 ≡ 8 + 0 = omega arith in e) ∙ behind_head kind size 0 (body ++ (four size ++ rest)))
    ∙ ap (λ (m : ℕ). take m (body ++ (four size ++ rest))) seam
    ∙ take-append_seam body (four size ++ rest) in
    let behind : drop size octets ≡ rest =
    ap (λ (m : ℕ). drop m octets) (let e : size ≡ 8 + (length body + 4) = omega (arith, is) in e)
    ∙ behind_head kind size (length body + 4) (body ++ (four size ++ rest))
    ∙ drop-append-add body (four size ++ rest) 4
    ∙ ap (λ (m : ℕ). drop m (four size ++ rest)) (let e : 4 ≡ 4 + 0 = omega arith in e)
    ∙ behind_four size 0 rest in
    let many : nat_lt (length octets) size ≡ false = le-ltb (length octets) size (omega (arith, is, length_laid kind size body rest)) in
    let some : nat_lt size 12 ≡ false = le-ltb size 12 (omega (arith, is)) in
    let same : (number_at (drop (size - 4) octets) == size) ≡ true = eq-eqb (number_at (drop (size - 4) octets)) size (ap number_at at_end ∙ number_is size rest fits) in
    ap (λ (refused : Bool). cond refused None (Some (record { kind = number_at octets; body = take (size - 12) (drop 8 octets) }, drop size octets)))
    (or_false (nat_lt size 12) (nat_lt (length octets) size) (number_at (drop (size - 4) octets) == size) some many same)
    ∙ ap (λ (k : ℕ). some_cut k (take (size - 12) (drop 8 octets)) (drop size octets)) (number_is kind (four size ++ (body ++ (four size ++ rest))) first)
    ∙ ap (λ (b : List ℕ). some_cut kind b (drop size octets)) inside
    ∙ ap (some_cut kind body) behind

pub first_is : (kind : ℕ) (body rest : List ℕ) → kind < 4294967296 → length body < 262144 → first_block (framed kind body ++ rest) ≡ Some (record { kind = kind; body = body }, rest)
unfolding first_block
first_is kind body rest known few =
    let size = length body + 12 in
    let fits : size < 4294967296 = omega (arith, few) in
    let at_front : number_at (drop 4 (laid_out kind size body rest)) ≡ size =
    ap number_at (ap (λ (m : ℕ). drop m (laid_out kind size body rest)) (let e : 4 ≡ 4 + 0 = omega arith in e) ∙ behind_four kind 0 (four size ++ (body ++ (four size ++ rest))))
    ∙ number_is size (body ++ (four size ++ rest)) fits in
    ap (λ (octets : List ℕ). cut_of (number_at (drop 4 octets)) octets) (framed_is kind body rest)
    ∙ ap (λ (n : ℕ). cut_of n (laid_out kind size body rest)) at_front
    ∙ cut_by kind size body rest known fits refl

-- ---- all blocks

body_fits : (block : Block) → IsWithinLimits block → length (block_body block) < 262144
body_fits (section comment) few = section_fits comment few
body_fits (interface name) few = interface_fits name few
body_fits (packet sent) few = packet_fits sent few

kind_fits : (block : Block) → block_kind block < 4294967296
kind_fits (section comment) = omega arith
kind_fits (interface name) = omega arith
kind_fits (packet sent) = omega arith

block_long : (block : Block) → 12 ≤ length (block_octets block)
unfolding framed
block_long block =
    let size = four (length (block_body block) + 12) in
    omega (
      arith,
      length-append (four (block_kind block) ++ size ++ block_body block) size,
      length-append (four (block_kind block) ++ size) (block_body block),
      length-append (four (block_kind block)) size,
      length_four (block_kind block),
      length_four (length (block_body block) + 12),
    )

within_by : (most : ℕ) (octets : List ℕ) (first : Framed) (rest : List ℕ) → 12 ≤ length octets → length octets ≤ most → first_block octets ≡ Some (first, rest)
    → (others : List Framed) → ((less : ℕ) → most ≡ suc less → blocks_within less rest ≡ Some others) → blocks_within most octets ≡ Some (first ∷ others)
within_by most [] first rest long few is others more = absurd (omega (arith, long))
within_by zero (octet ∷ octets) first rest long few is others more = absurd (omega (arith, few))
within_by (suc most) (octet ∷ octets) first rest long few is others more =
    ap (λ (f : Option (Framed × List ℕ)). option_and_then (λ first. option_map (λ others. first.0 ∷ others) (blocks_within most first.1)) f) is
    ∙ ap (λ (o : Option (List Framed)). option_map (λ others. first ∷ others) o) (more most refl)

read_within : (blocks : List Block) (most : ℕ) → AllByRecursion IsWithinLimits blocks → length (capture_octets blocks) ≤ most → blocks_within most (capture_octets blocks) ≡ Some (map framed_block blocks)
read_within [] most all few = refl
read_within (block ∷ blocks) most all few =
    let rest = capture_octets blocks in
    let long = block_long block in
    within_by most (block_octets block ++ rest) (framed_block block) rest (omega (arith, long, length-append (block_octets block) rest)) few
    (first_is (block_kind block) (block_body block) rest (kind_fits block) (body_fits block all.0)) (map framed_block blocks)
    (λ less is. read_within blocks less all.1 (omega (arith, few, is, long, length-append (block_octets block) rest)))

pub blocks_read : (blocks : List Block) → AllByRecursion IsWithinLimits blocks → blocks_in (capture_octets blocks) ≡ Some (map framed_block blocks)
blocks_read blocks all = read_within blocks (length (capture_octets blocks)) all (omega arith)

-- ---- telegrams

nested : (front a b octets zeros comment flags last : List ℕ)
    → front ++ (a ++ b) ++ (octets ++ zeros) ++ comment ++ flags ++ last ≡ front ++ (a ++ (b ++ (octets ++ (zeros ++ (comment ++ (flags ++ last))))))
nested front a b octets zeros comment flags last = simp append_assoc refl

body_is : (sent : PacketView)
    → packet_body sent
    ≡ (four sent.interface ++ time_octets sent.time)
    ++ (four (length (packet_data sent.telegram))
    ++ (four (length (packet_data sent.telegram))
    ++ (packet_data sent.telegram
    ++ (padding (length (packet_data sent.telegram)) ++ (comment_option (comment_kept sent.comment) ++ (flags_option sent.direction ++ end_of_options))))))
unfolding packet_body packet_head size_octets padded
body_is sent =
    let size = four (length (packet_data sent.telegram)) in
    nested (four sent.interface ++ time_octets sent.time) size size (packet_data sent.telegram) (padding (length (packet_data sent.telegram))) (comment_option (comment_kept sent.comment))
    (flags_option sent.direction) end_of_options

length_front : (number time : ℕ) → length (four number ++ time_octets time) ≡ 12
unfolding time_octets
length_front number time =
    omega (
      arith,
      length-append (four number) (four (time / 2 ^ 32) ++ four (time % 2 ^ 32)),
      length-append (four (time / 2 ^ 32)) (four (time % 2 ^ 32)),
      length_four number,
      length_four (time / 2 ^ 32),
      length_four (time % 2 ^ 32),
    )

read_by : (front octets rest : List ℕ) (size : ℕ) → length front ≡ 12 → size ≡ length octets → size < 4294967296
    → take (number_at (drop 12 (front ++ (four size ++ (four size ++ (octets ++ rest)))))) (drop 20 (front ++ (four size ++ (four size ++ (octets ++ rest))))) ≡ octets
read_by front octets rest size twelve is fits =
    let behind = four size ++ (four size ++ (octets ++ rest)) in
    let at_front : drop 12 (front ++ behind) ≡ behind = ap (λ (n : ℕ). drop n (front ++ behind)) (sym twelve) ∙ drop-append_seam front behind in
    let inside : drop 20 (front ++ behind) ≡ octets ++ rest =
    ap (λ (n : ℕ). drop n (front ++ behind)) (let e : 20 ≡ length front + 8 = omega (arith, twelve) in e)
    ∙ drop-append-add front behind 8
    ∙ ap (λ (n : ℕ). drop n behind) (let e : 8 ≡ 8 + 0 = omega arith in e)
    ∙ behind_head size size 0 (octets ++ rest) in
    ap (λ (xs : List ℕ). take (number_at xs) (drop 20 (front ++ behind))) at_front
    ∙ ap (λ (n : ℕ). take n (drop 20 (front ++ behind))) (number_is size (four size ++ (octets ++ rest)) fits ∙ is)
    ∙ ap (λ (xs : List ℕ). take (length octets) xs) inside
    ∙ take-append_seam octets rest

behind_tags : (telegram : List ℕ) → drop 12 (packet_data telegram) ≡ telegram
unfolding packet_data
behind_tags telegram = drop-append_seam pdu_tags telegram

telegram_is : (sent : PacketView) → length sent.telegram ≤ 65535 → telegram_of (packet_body sent) ≡ sent.telegram
unfolding telegram_of
telegram_is sent few =
    let octets = packet_data sent.telegram in
    ap (λ (body : List ℕ). drop 12 (take (number_at (drop 12 body)) (drop 20 body))) (body_is sent)
    ∙ ap (drop 12)
    (read_by (four sent.interface ++ time_octets sent.time) octets
    (padding (length octets) ++ (comment_option (comment_kept sent.comment) ++ (flags_option sent.direction ++ end_of_options))) (length octets) (length_front sent.interface sent.time) refl
    (omega (arith, few, length_data sent.telegram)))
    ∙ behind_tags sent.telegram

block_telegrams : (block : Block) → IsWithinLimits block → telegram_if_packet (framed_block block) ≡ telegrams_of block
block_telegrams (section comment) few = refl
block_telegrams (interface name) few = refl
block_telegrams (packet sent) few = ap (λ (telegram : List ℕ). telegram ∷ []) (telegram_is sent few)

pub telegrams_read : (blocks : List Block) → AllByRecursion IsWithinLimits blocks → telegrams_in (map framed_block blocks) ≡ telegrams blocks
telegrams_read [] all = refl
telegrams_read (block ∷ blocks) all =
    ap (λ (first : List (List ℕ)). first ++ telegrams_in (map framed_block blocks)) (block_telegrams block all.0)
    ∙ ap (λ (others : List (List ℕ)). telegrams_of block ++ others) (telegrams_read blocks all.1)
