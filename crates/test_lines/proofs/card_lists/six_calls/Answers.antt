use Rattle.std.proofs.Common.{rules, ◌≡◌, ◌≢◌, ◌<◌, ℕ, List, [], ◌∷◌, map, refl, ap, ◌∙◌, arith}
use Rattle.dp_owners.specs.declared.owners.TheConstants.{MOST_MASTERS}
use Rattle.dp_owners.specs.declared.owners.Owners.{Owners}
use Rattle.dp_owners.specs.declared.links.Links.{Links}
use Rattle.test_lines.specs.declared.card_lists.Card.{Card}
use Rattle.dp_owners.specs.Chain.{no_links}
use Rattle.dp_owners.specs.Threaded.{IsThreaded, IsFree, IsListed, appended, unlinked}
use Rattle.test_lines.proofs.card_lists.six_calls.Goals as goal

-- the lists after each call
abbrev after_one : ℕ → List ℕ
after_one = appended (λ m. []) 0 2

abbrev after_two : ℕ → List ℕ
after_two = appended after_one 0 0

abbrev after_three : ℕ → List ℕ
after_three = appended after_two 1 1

abbrev after_four : ℕ → List ℕ
after_four = unlinked after_three 0 2

abbrev after_five : ℕ → List ℕ
after_five = appended after_four 0 3

-- the contracts of the calls and of the law
abbrev Appends : ℕ → ℕ → Owners → List Links → Owners → List Links → Type 0
Appends m at before own after later = (lists : ℕ → List ℕ) → IsThreaded before own lists → IsFree at lists → IsThreaded after later (appended lists m at)

abbrev Unlinks : ℕ → ℕ → Owners → List Links → Owners → List Links → Type 0
Unlinks m at before own after later = (lists : ℕ → List ℕ) → IsThreaded before own lists → IsListed m at lists → IsThreaded after later (unlinked lists m at)

abbrev StaysOut : Type 0
StaysOut = (lists : ℕ → List ℕ) (m at other : ℕ) → m < MOST_MASTERS → other ≢ at → IsFree other lists → IsFree other (appended lists m at)

abbrev StaysOutTaken : Type 0
StaysOutTaken = (lists : ℕ → List ℕ) (m at other : ℕ) → m < MOST_MASTERS → IsFree other lists → IsFree other (unlinked lists m at)

-- the records that are in no list
free_zero : StaysOut → IsFree 0 after_one
free_zero stays = stays (λ m. []) 0 2 0 (search rules) (λ e. omega arith) (λ m small. tt)

free_one : StaysOut → IsFree 1 after_two
free_one stays =
    stays after_one 0 0 1 (search rules) (λ e. omega arith) (stays (λ m. []) 0 2 1 (search rules) (λ e. omega arith) (λ m small. tt))

free_three : StaysOut → StaysOutTaken → IsFree 3 after_four
free_three stays taken =
    taken after_three 0 2 3 (search rules) (stays after_two 1 1 3 (search rules) (λ e. omega arith)
    (stays after_one 0 0 3 (search rules) (λ e. omega arith) (stays (λ m. []) 0 2 3 (search rules) (λ e. omega arith) (λ m small. tt))))

-- the lists of the calls before the unlink, and of all
three : {a b c d : Owners} {p q r s : List Links} → StaysOut → IsThreaded a p (λ m. []) → Appends 0 2 a p b q → Appends 0 0 b q c r → Appends 1 1 c r d s → IsThreaded d s after_three
three stays start one two next =
    next after_two (two after_one (one (λ m. []) start (λ m small. tt)) (free_zero stays)) (free_one stays)

four : {d e : Owners} {s t : List Links} → IsThreaded d s after_three → Unlinks 0 2 d s e t → IsThreaded e t after_four
four before next = next after_three before ([], 0 ∷ [], refl)

five : {e f : Owners} {t u : List Links} → StaysOut → StaysOutTaken → IsThreaded e t after_four → Appends 0 3 e t f u → IsThreaded f u after_five
five stays taken before next = next after_four before (free_three stays taken)

pub unlink-requires-clause-listed : goal.unlink-requires-clause-listed
unlink-requires-clause-listed c =
    (after_three, (three c.other_records_stay.ensures.free_after_append (c.new-owners.ensures _ c.requires.fresh) c.append.ensures.lists c.append-2.ensures.lists c.append-3.ensures.lists, ([], 0 ∷ [], refl)))

pub append-requires-4-clause-free : goal.append-requires-4-clause-free
append-requires-4-clause-free c =
    let before = three c.other_records_stay.ensures.free_after_append (c.new-owners.ensures _ c.requires.fresh) c.append.ensures.lists c.append-2.ensures.lists c.append-3.ensures.lists in
    (after_four, (four before c.unlink.ensures.lists, free_three c.other_records_stay.ensures.free_after_append c.other_records_stay.ensures.free_after_unlink))

pub list-requires-clause-threaded : goal.list-requires-clause-threaded
list-requires-clause-threaded c =
    let before = three c.other_records_stay.ensures.free_after_append (c.new-owners.ensures _ c.requires.fresh) c.append.ensures.lists c.append-2.ensures.lists c.append-3.ensures.lists in
    (after_five, five c.other_records_stay.ensures.free_after_append c.other_records_stay.ensures.free_after_unlink (four before c.unlink.ensures.lists) c.append-4.ensures.lists)

pub returns-clause-list : goal.returns-clause-list
returns-clause-list c =
    let before = three c.other_records_stay.ensures.free_after_append (c.new-owners.ensures _ c.requires.fresh) c.append.ensures.lists c.append-2.ensures.lists c.append-3.ensures.lists in
    c.list.ensures after_five (five c.other_records_stay.ensures.free_after_append c.other_records_stay.ensures.free_after_unlink (four before c.unlink.ensures.lists) c.append-4.ensures.lists)

abbrev bare_of : Card → Card
bare_of card = record card { links = no_links }

names_stay : (xs ys : List Card) → map bare_of xs ≡ map bare_of ys → map (λ card. card.name) xs ≡ map (λ card. card.name) ys
names_stay [] [] same = refl
names_stay [] (y ∷ ys) same = absurd cc
names_stay (x ∷ xs) [] same = absurd cc
names_stay (x ∷ xs) (y ∷ ys) same =
    let here : bare_of x ≡ bare_of y = cc in
    let rest : map bare_of xs ≡ map bare_of ys = cc in
    let name : x.name ≡ y.name = ap (λ (card : Card). card.name) here in
    let names : map (λ (card : Card). card.name) xs ≡ map (λ (card : Card). card.name) ys = names_stay xs ys rest in
    cc

pub returns-clause-names : goal.returns-clause-names
returns-clause-names c = names_stay c.append-4.new.records c.args.cards.now
    (c.append-4.ensures.all_else ∙ c.unlink.ensures.all_else ∙ c.append-3.ensures.all_else ∙ c.append-2.ensures.all_else ∙ c.append.ensures.all_else)
