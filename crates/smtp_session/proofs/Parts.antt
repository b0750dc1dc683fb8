-- Texts that are written in parts.
use Rattle.std.proofs.Common.{◌≡◌, ℕ, List, ◌++◌}
use Rattle.std.proofs.lemmas.List.{append_assoc}

pub three_parts : (out a b c one two three : List ℕ) → one ≡ out ++ a → two ≡ one ++ b → three ≡ two ++ c → three ≡ out ++ (a ++ b ++ c)
three_parts out a b c one two three e f g = rw (g, f, e) (simp append_assoc)

pub six_parts : (out a b c d y z one two three four five : List ℕ) → one ≡ out ++ a → two ≡ one ++ b → three ≡ two ++ c → four ≡ three ++ d
    → five ≡ four ++ y ++ z → five ≡ out ++ (a ++ b ++ c ++ d ++ y ++ z)
six_parts out a b c d y z one two three four five e f g h i = rw (i, h, g, f, e) (simp append_assoc)
