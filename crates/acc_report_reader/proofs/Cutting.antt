-- What loops over bytes keep.
use Rattle.std.proofs.Common.{◌≡◌, ℕ, ◌+◌, ◌<◌, Bool, true, false, not, ◌&&◌, ◌||◌, cond, List, [], ◌∷◌, ◌++◌, length, get_or, take, drop, Option, Some, None, refl, sym, ap, ◌∙◌, append_assoc, drop-cons, add-one}
use mathlib.Core.Bool.{beq}
use Rattle.std.specs.Prelude.{option_map, ◌==◌}
use Rattle.std.proofs.lemmas.List.{take_more, append-nil}
use Rattle.acc_report_reader.specs.Fields.{turned, piece_at, content_in}
use Rattle.acc_report_reader.proofs.Pieces.{behind_one}

drop_one : (bytes : List ℕ) (i : ℕ) → i < length bytes → drop i bytes ≡ get_or bytes i 0 ∷ drop (i + 1) bytes
drop_one bytes i h = rw (add-one, drop-cons bytes i 0) refl

turns : (a b : Bool) → turned a b ≡ not (beq a b)
turns true true = refl
turns true false = refl
turns false true = refl
turns false false = refl

abbrev behind : List ℕ → List ℕ × List ℕ → List ℕ × List ℕ
behind front p = (front ++ p.0, p.1)

behind_byte : (front : List ℕ) (c : ℕ) (o : Option (List ℕ × List ℕ)) → option_map (behind front) (option_map (behind (c ∷ [])) o) ≡ option_map (behind (front ++ c ∷ [])) o
behind_byte front c None = refl
behind_byte front c (Some q) =
    let pair : List ℕ → Option (List ℕ × List ℕ) = λ l. Some (l, q.1) in ap pair (sym (append_assoc front (c ∷ []) q.0))

uncut : (c : ℕ) (cs : List ℕ) (inside : Bool) → ((c == 44) && not inside) ≡ false → piece_at inside (c ∷ cs) ≡ option_map (behind (c ∷ [])) (piece_at (turned inside (c == 39)) cs)
uncut c cs inside h = rw h refl

pub piece_on : (bytes : List ℕ) (i : ℕ) (inside : Bool) → i < length bytes → ((get_or bytes i 0 == 44) && not inside) ≡ false
    → piece_at false bytes ≡ option_map (behind (take i bytes)) (piece_at inside (drop i bytes))
    → piece_at false bytes ≡ option_map (behind (take (i + 1) bytes)) (piece_at (not (beq inside (get_or bytes i 0 == 39))) (drop (i + 1) bytes))
piece_on bytes i inside h other e =
    let c = get_or bytes i 0 in
    e ∙ ap (λ rest. option_map (behind (take i bytes)) (piece_at inside rest)) (drop_one bytes i h)
    ∙ ap (option_map (behind (take i bytes))) (uncut c (drop (i + 1) bytes) inside other)
    ∙ behind_byte (take i bytes) c (piece_at (turned inside (c == 39)) (drop (i + 1) bytes))
    ∙ ap (λ front. option_map (behind front) (piece_at (turned inside (c == 39)) (drop (i + 1) bytes))) (sym (take_more bytes i 0 h))
    ∙ ap (λ b. option_map (behind (take (i + 1) bytes)) (piece_at b (drop (i + 1) bytes))) (turns inside (c == 39))

said_step : (said : List ℕ) (c : ℕ) (cs : List ℕ) (waits quote : Bool) → (c == 39) ≡ quote → (waits && not quote) ≡ false
    → option_map (λ r. said ++ r) (content_in waits (c ∷ cs)) ≡ option_map (λ r. (said ++ cond (waits || not quote) (c ∷ []) []) ++ r) (content_in (quote && not waits) cs)
said_step said c cs true true is h = rw is (behind_one said c (content_in false cs))
said_step said c cs true false is h = cc
said_step said c cs false true is h = rw is (ap (λ l. option_map (λ r. l ++ r) (content_in true cs)) (sym (append-nil said)))
said_step said c cs false false is h = rw is (behind_one said c (content_in false cs))

pub content_on : (whole : Option (List ℕ)) (bytes said : List ℕ) (i : ℕ) (waits : Bool) → i < length bytes → (waits && not (get_or bytes i 0 == 39)) ≡ false
    → whole ≡ option_map (λ r. said ++ r) (content_in waits (drop i bytes))
    → whole ≡ option_map (λ r. (said ++ cond (waits || not (get_or bytes i 0 == 39)) (get_or bytes i 0 ∷ []) []) ++ r) (content_in ((get_or bytes i 0 == 39) && not waits) (drop (i + 1) bytes))
content_on whole bytes said i waits h other e =
    e ∙ ap (λ rest. option_map (λ r. said ++ r) (content_in waits rest)) (drop_one bytes i h)
    ∙ said_step said (get_or bytes i 0) (drop (i + 1) bytes) waits (get_or bytes i 0 == 39) refl other
