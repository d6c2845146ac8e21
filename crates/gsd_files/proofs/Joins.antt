-- Texts that are appended one after another.
use Rattle.std.proofs.Common.{◌≡◌, ℕ, List, [], ◌∷◌, ◌++◌, sym, ap, ◌∙◌, append_assoc, ◌/◌, ◌%◌, ◌+◌, ◌^◌, ◌≤◌, ◌<◌}
use Rattle.std.specs.Fmt.{decimal}
use Rattle.gsd_files.proofs.Decimals.{last_digit}

pub join_2 : (o o1 o2 a b : List ℕ) → o1 ≡ o ++ a → o2 ≡ o1 ++ b → o2 ≡ o ++ (a ++ b)
join_2 o o1 o2 a b p q = q ∙ ap (λ x. x ++ b) p ∙ append_assoc o a b

pub join_3 : (o o1 o2 o3 a b c : List ℕ) → o1 ≡ o ++ a → o2 ≡ o1 ++ b → o3 ≡ o2 ++ c → o3 ≡ o ++ (a ++ (b ++ c))
join_3 o o1 o2 o3 a b c p q r = join_2 o o1 o3 a (b ++ c) p (join_2 o1 o2 o3 b c q r)

pub join_4 : (o o1 o2 o3 o4 a b c d : List ℕ) → o1 ≡ o ++ a → o2 ≡ o1 ++ b → o3 ≡ o2 ++ c → o4 ≡ o3 ++ d
    → o4 ≡ o ++ (a ++ (b ++ (c ++ d)))
join_4 o o1 o2 o3 o4 a b c d p q r s = join_2 o o1 o4 a (b ++ (c ++ d)) p (join_3 o1 o2 o3 o4 b c d q r s)

pub join_5 : (o o1 o2 o3 o4 o5 a b c d e : List ℕ) → o1 ≡ o ++ a → o2 ≡ o1 ++ b → o3 ≡ o2 ++ c → o4 ≡ o3 ++ d → o5 ≡ o4 ++ e
    → o5 ≡ o ++ (a ++ (b ++ (c ++ (d ++ e))))
join_5 o o1 o2 o3 o4 o5 a b c d e p q r s t = join_2 o o1 o5 a (b ++ (c ++ (d ++ e))) p (join_4 o1 o2 o3 o4 o5 b c d e q r s t)

pub join_7 : (o o1 o2 o3 o4 o5 o6 o7 a b c d e f g : List ℕ) → o1 ≡ o ++ a → o2 ≡ o1 ++ b → o3 ≡ o2 ++ c → o4 ≡ o3 ++ d → o5 ≡ o4 ++ e
    → o6 ≡ o5 ++ f → o7 ≡ o6 ++ g → o7 ≡ o ++ (a ++ (b ++ (c ++ (d ++ (e ++ (f ++ g))))))
join_7 o o1 o2 o3 o4 o5 o6 o7 a b c d e f g p q r s t u v =
    join_3 o o1 o2 o7 a b (c ++ (d ++ (e ++ (f ++ g)))) p q (join_5 o2 o3 o4 o5 o6 o7 c d e f g r s t u v)

pub join_digit : (n : ℕ) (o o1 o2 : List ℕ) → 10 ≤ n → n < 2 ^ 64 → o1 ≡ o ++ decimal (n / 10) → o2 ≡ o1 ++ (48 + n % 10) ∷ []
    → o2 ≡ o ++ decimal n
join_digit n o o1 o2 large small p q = join_2 o o1 o2 (decimal (n / 10)) ((48 + n % 10) ∷ []) p q ∙ ap (λ x. o ++ x) (sym (last_digit n large small))
