-- The text that names ports is read back.
use Rattle.std.proofs.Common.{◌≡◌, ℕ, ◌<◌, ◌^◌, ◌==◌, false, List, [], ◌∷◌, ◌++◌, get_or, Some, refl, sym, ap, ◌∙◌, append_assoc, codes, arith}
use Rattle.std.specs.Prelude.{All}
use Rattle.std.specs.Fmt.{decimal}
use Rattle.std.specs.List.{AllByRecursion}
use Rattle.std.proofs.lemmas.Bool.{ne_eqb}
use Rattle.std.proofs.lemmas.Fmt.{digits_decimal}
use Rattle.std.proofs.lemmas.List.{get_or_default}
use Rattle.std.proofs.lemmas.List.Elements.{All-append, All-cons, All-from_recursion, recursion_from_All}
use Rattle.std.proofs.lemmas.List.Splits.{slice_split_at}
use Rattle.std.proofs.lemmas.Str.Parse.{not_in_digits}
use Rattle.dp_text.specs.Words.{lines_of, words_of}
use Rattle.dp_text.proofs.ReadBack.{last_word, next_word, number_is_word, number_read, own, written_is_word}
use Rattle.serve_sockets.specs.Ports.{AreNumbers, ports_in, ports_row, ports_text, read_ports, read_rows}
use Rattle.serve_sockets.specs.declared.line_ports.LinePorts.{LinePorts}

-- a row without its LF
abbrev row_of : LinePorts → List ℕ
row_of ports = codes "line" ++ 32 ∷ (decimal ports.line ++ 32 ∷ (codes "listen" ++ 32 ∷ (decimal ports.listen ++ 32 ∷ (codes "operator" ++ 32 ∷ decimal ports.operator))))

-- ---- texts that are joined

-- seven texts and a rest, from the first one on
flat : (a b c d e f g rest : List ℕ) → (a ++ b ++ c ++ d ++ e ++ f ++ g) ++ rest ≡ a ++ (b ++ (c ++ (d ++ (e ++ (f ++ (g ++ rest))))))
flat a b c d e f g rest =
    append_assoc (a ++ b ++ c ++ d ++ e ++ f) g rest ∙ append_assoc (a ++ b ++ c ++ d ++ e) f (g ++ rest) ∙ append_assoc (a ++ b ++ c ++ d) e (f ++ (g ++ rest))
    ∙ append_assoc (a ++ b ++ c) d (e ++ (f ++ (g ++ rest))) ∙ append_assoc (a ++ b) c (d ++ (e ++ (f ++ (g ++ rest)))) ∙ append_assoc a b (c ++ (d ++ (e ++ (f ++ (g ++ rest)))))

joined : (a b c rest : List ℕ)
    → (codes "line" ++ 32 ∷ (a ++ 32 ∷ (codes "listen" ++ 32 ∷ (b ++ 32 ∷ (codes "operator" ++ 32 ∷ c))))) ++ rest
    ≡ codes "line" ++ 32 ∷ (a ++ 32 ∷ (codes "listen" ++ 32 ∷ (b ++ 32 ∷ (codes "operator" ++ 32 ∷ (c ++ rest)))))
joined a b c rest =
    ap (λ t. codes "line" ++ 32 ∷ t)
    (append_assoc a (32 ∷ (codes "listen" ++ 32 ∷ (b ++ 32 ∷ (codes "operator" ++ 32 ∷ c)))) rest
    ∙ ap (λ t. a ++ 32 ∷ (codes "listen" ++ 32 ∷ t)) (append_assoc b (32 ∷ (codes "operator" ++ 32 ∷ c)) rest))

-- ---- lines

abbrev IsNoEnd : ℕ → Type 0
IsNoEnd octet = (octet == 10) ≡ false

number_in_line : (number : ℕ) → number < 2 ^ 64 → All IsNoEnd (decimal number)
number_in_line number small = λ k d within.
    let other = not_in_digits own (decimal number) 10 (digits_decimal own number small) (λ range. omega (arith, range)) k within in
    ne_eqb (get_or (decimal number) k d) 10 (λ e. other (get_or_default (decimal number) k 0 d within ∙ e))

word_in_line : (word rest : List ℕ) → All IsNoEnd word → All IsNoEnd rest → All IsNoEnd (word ++ 32 ∷ rest)
word_in_line word rest first others = All-append IsNoEnd word (32 ∷ rest) first (All-cons IsNoEnd 32 rest refl others)

row_in_line : (ports : LinePorts) → AreNumbers ports → All IsNoEnd (row_of ports)
row_in_line ports are =
    let last = word_in_line (codes "operator") (decimal ports.operator) (All-from_recursion IsNoEnd (codes "operator") (refl, (refl, (refl, (refl, (refl, (refl, (refl, (refl, tt)))))))))
    (number_in_line ports.operator (omega (arith, are.2))) in
    let listen = word_in_line (decimal ports.listen) (codes "operator" ++ 32 ∷ decimal ports.operator) (number_in_line ports.listen (omega (arith, are.1))) last in
    let third = word_in_line (codes "listen") (decimal ports.listen ++ 32 ∷ (codes "operator" ++ 32 ∷ decimal ports.operator))
    (All-from_recursion IsNoEnd (codes "listen") (refl, (refl, (refl, (refl, (refl, (refl, tt))))))) listen in
    let line = word_in_line (decimal ports.line) (codes "listen" ++ 32 ∷ (decimal ports.listen ++ 32 ∷ (codes "operator" ++ 32 ∷ decimal ports.operator)))
    (number_in_line ports.line (omega (arith, are.0))) third in
    word_in_line (codes "line") (decimal ports.line ++ 32 ∷ (codes "listen" ++ 32 ∷ (decimal ports.listen ++ 32 ∷ (codes "operator" ++ 32 ∷ decimal ports.operator))))
    (All-from_recursion IsNoEnd (codes "line") (refl, (refl, (refl, (refl, tt))))) line

row_is_line : (ports : LinePorts) (rest : List ℕ) → AreNumbers ports → lines_of (ports_row ports ++ rest) ≡ row_of ports ∷ lines_of rest
row_is_line ports rest are =
    ap lines_of
    (flat (codes "line ") (decimal ports.line) (codes " listen ") (decimal ports.listen) (codes " operator ") (decimal ports.operator) (10 ∷ []) rest
    ∙ sym (joined (decimal ports.line) (decimal ports.listen) (decimal ports.operator) (10 ∷ rest)))
    ∙ slice_split_at (λ octet. octet == 10) (row_of ports) 10 rest (row_in_line ports are) refl

-- ---- words

row_words : (ports : LinePorts) → AreNumbers ports
    → words_of (row_of ports) ≡ codes "line" ∷ decimal ports.line ∷ codes "listen" ∷ decimal ports.listen ∷ codes "operator" ∷ decimal ports.operator ∷ []
row_words ports are =
    next_word (codes "line") (decimal ports.line ++ 32 ∷ (codes "listen" ++ 32 ∷ (decimal ports.listen ++ 32 ∷ (codes "operator" ++ 32 ∷ decimal ports.operator)))) (written_is_word (codes "line") refl)
    ∙ ap (λ ws. codes "line" ∷ ws)
    (next_word (decimal ports.line) (codes "listen" ++ 32 ∷ (decimal ports.listen ++ 32 ∷ (codes "operator" ++ 32 ∷ decimal ports.operator))) (number_is_word ports.line (omega (arith, are.0)))
    ∙ ap (λ ws. decimal ports.line ∷ ws)
    (next_word (codes "listen") (decimal ports.listen ++ 32 ∷ (codes "operator" ++ 32 ∷ decimal ports.operator)) (written_is_word (codes "listen") refl)
    ∙ ap (λ ws. codes "listen" ∷ ws)
    (next_word (decimal ports.listen) (codes "operator" ++ 32 ∷ decimal ports.operator) (number_is_word ports.listen (omega (arith, are.1)))
    ∙ ap (λ ws. decimal ports.listen ∷ ws)
    (next_word (codes "operator") (decimal ports.operator) (written_is_word (codes "operator") refl)
    ∙ ap (λ ws. codes "operator" ∷ ws) (last_word (decimal ports.operator) (number_is_word ports.operator (omega (arith, are.2))))))))

row_read : (ports : LinePorts) → AreNumbers ports → ports_in (words_of (row_of ports)) ≡ Some ports
row_read ports are =
    ap ports_in (row_words ports are)
    ∙ rw (
      number_read ports.line 255 (omega (arith, are.0)) (omega (arith, are.0)),
      number_read ports.listen 65535 (omega (arith, are.1)) (omega (arith, are.1)),
      number_read ports.operator 65535 (omega (arith, are.2)) (omega (arith, are.2)),
    ) refl

-- ---- texts

rows_read : (lines : List LinePorts) → AllByRecursion AreNumbers lines → read_rows (lines_of (ports_text lines)) ≡ Some lines
rows_read [] all = refl
rows_read (ports ∷ lines) all =
    ap read_rows (row_is_line ports (ports_text lines) all.0)
    ∙ rw (row_read ports all.0, rows_read lines all.1) refl

pub ports_read : (lines : List LinePorts) → All AreNumbers lines → read_ports (ports_text lines) ≡ Some lines
ports_read lines all = rows_read lines (recursion_from_All AreNumbers lines all)
