-- What is written piece by piece after a text stands there as one piece.
use Rattle.std.proofs.Common.{◌≡◌, ℕ, List, ◌++◌, ap, ◌∙◌, append_assoc}

pub joined2 : (before one two a b : List ℕ) → one ≡ before ++ a → two ≡ one ++ b → two ≡ before ++ (a ++ b)
joined2 before one two a b e f = f ∙ ap (λ t. t ++ b) e ∙ append_assoc before a b

pub joined3 : (before one two three a b c : List ℕ) → one ≡ before ++ a → two ≡ one ++ b → three ≡ two ++ c → three ≡ before ++ (a ++ b ++ c)
joined3 before one two three a b c e f g = joined2 before two three (a ++ b) c (joined2 before one two a b e f) g

pub joined4 : (before one two three four a b c d : List ℕ) → one ≡ before ++ a → two ≡ one ++ b → three ≡ two ++ c → four ≡ three ++ d →
    four ≡ before ++ (a ++ b ++ c ++ d)
joined4 before one two three four a b c d e f g h = joined2 before three four (a ++ b ++ c) d (joined3 before one two three a b c e f g) h

pub joined5 : (before one two three four five a b c d z : List ℕ) → one ≡ before ++ a → two ≡ one ++ b → three ≡ two ++ c → four ≡ three ++ d →
    five ≡ four ++ z → five ≡ before ++ (a ++ b ++ c ++ d ++ z)
joined5 before one two three four five a b c d z e f g h i = joined2 before four five (a ++ b ++ c ++ d) z (joined4 before one two three four a b c d e f g h) i
