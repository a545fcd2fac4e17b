-- The last disk that was given back under a number.
use Rattle.std.proofs.Common.{◌≡◌, ℕ, zero, suc, ◌+◌, ◌<◌, List, [], ◌∷◌, length, get_or, drop, refl, sym, ◌∙◌, ap, Some, None, eq-eqb}
use Rattle.std.specs.Prelude.{◌==◌, true}
use Rattle.std.proofs.lemmas.List.{drop_more}
use Rattle.acc_ports.specs.MemoryDisk.{MemoryDisk}
use Rattle.acc_ports.specs.MemoryMaker.{last_content}

later_found : (number place : ℕ) (given : List (ℕ × MemoryDisk)) (content : List ℕ) → last_content number (drop place given) ≡ Some content → last_content number given ≡ Some content
later_found number zero given content found = found
later_found number (suc place) [] content found = found
later_found number (suc place) (back ∷ later) content found = rw (later_found number place later content found) refl

-- It stands at a place behind which there is none.
pub last_content_at : (number place : ℕ) (given : List (ℕ × MemoryDisk)) (back : ℕ × MemoryDisk) → place < length given → back ≡ get_or given place back → back.0 ≡ number → last_content number (drop (place + 1) given) ≡ None → last_content number given ≡ Some back.1.now.content
last_content_at number place given back inside is numbered none =
    let here : drop place given ≡ back ∷ drop (place + 1) given = drop_more given place back inside ∙ ap (λ (b : ℕ × MemoryDisk). b ∷ drop (place + 1) given) (sym is) in
    let found : last_content number (back ∷ drop (place + 1) given) ≡ Some back.1.now.content = rw none (let same : (back.0 == number) ≡ true = eq-eqb back.0 number numbered in rw same refl) in
    later_found number place given back.1.now.content (ap (last_content number) here ∙ found)
