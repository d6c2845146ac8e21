-- Texts that are appended one after another.
use Rattle.std.proofs.Common.{◌≡◌, ℕ, List, ◌++◌, ap, ◌∙◌, append_assoc}

join_2 : (o o1 o2 a b : List ℕ) → o1 ≡ o ++ a → o2 ≡ o1 ++ b → o2 ≡ o ++ (a ++ b)
join_2 o o1 o2 a b p q = q ∙ ap (λ x. x ++ b) p ∙ append_assoc o a b

pub join_3 : (o o1 o2 o3 a b c : List ℕ) → o1 ≡ o ++ a → o2 ≡ o1 ++ b → o3 ≡ o2 ++ c → o3 ≡ o ++ (a ++ (b ++ c))
join_3 o o1 o2 o3 a b c p q r = join_2 o o1 o3 a (b ++ c) p (join_2 o1 o2 o3 b c q r)
