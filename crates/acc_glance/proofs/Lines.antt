-- One line of a look more.
use Rattle.std.proofs.Common.{◌≡◌, ℕ, ◌+◌, ◌<◌, ◌≤◌, List, ◌++◌, drop, get_or, length, sym, ◌∙◌, ap}
use Rattle.std.proofs.lemmas.List.{append_assoc, append-nil, drop_more, drop_all}
use Rattle.acc_glance.specs.declared.seen.Seen.{Seen}
use Rattle.acc_glance.specs.Texts.{seen_text, seens_text, seens_text_from}

pub line_more : (seens all : List Seen) (i : ℕ) (d : Seen) (text more : List ℕ) → i < length seens → more ≡ text ++ seen_text i (get_or seens i d)
    → text ++ seens_text_from i (drop i seens) ≡ seens_text all → more ++ seens_text_from (i + 1) (drop (i + 1) seens) ≡ seens_text all
line_more seens all i d text more within is so_far =
    ap (λ t. t ++ seens_text_from (i + 1) (drop (i + 1) seens)) is
    ∙ append_assoc text (seen_text i (get_or seens i d)) (seens_text_from (i + 1) (drop (i + 1) seens))
    ∙ ap (λ left. text ++ seens_text_from i left) (sym (drop_more seens i d within))
    ∙ so_far

pub lines_over : (seens all : List Seen) (i : ℕ) (text : List ℕ) → length seens ≤ i → text ++ seens_text_from i (drop i seens) ≡ seens_text all → text ≡ seens_text all
lines_over seens all i text past so_far =
    sym (append-nil text) ∙ ap (λ left. text ++ seens_text_from i left) (sym (drop_all i seens past)) ∙ so_far
