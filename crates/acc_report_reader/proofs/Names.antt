-- Names and paths are read exactly as they are written.
use Rattle.std.proofs.Common.{◌≡◌, ℕ, Bool, true, false, not, ◌&&◌, cond, List, [], ◌∷◌, ◌++◌, length, nat_le, Option, Some, None, refl, sym, ap, ◌∙◌, subst, arith}
use Rattle.std.specs.Prelude.{codes, option_map, ◌==◌}
use Rattle.std.specs.Char.{is_ascii_lowercase}
use Rattle.std.specs.List.{list_all, flat_map, AllByRecursion}
use Rattle.std.specs.Str.{bytes_eq}
use Rattle.std.proofs.lemmas.Bool.{and_parts}
use Rattle.std.proofs.lemmas.Bool.Decides.{nat_tests}
use Rattle.acc_message.specs.declared.note.Path.{Path}
use Rattle.acc_message.specs.declared.note.Path.TheVariants.{Fast, Slow, Recovered, Adopted}
use Rattle.acc_report_line.specs.Forms.{is_name, is_name_byte, IsName, AreNames}
use Rattle.acc_report_line.specs.Texts.{names_text, path_text}
use Rattle.acc_report_reader.specs.Gives.{guarded}
use Rattle.acc_report_reader.specs.Fields.{turned, piece_at, pieces, each_in, name_in, list_in, names_in, path_in}
use Rattle.acc_report_reader.proofs.Options.{bind_some, guarded_some}
use Rattle.acc_report_reader.proofs.Slices.{Lacks, lacks_from, same_bytes}
use Rattle.acc_report_reader.proofs.Pieces.{IsPiece, list-of, list-is, not_empty}

-- ---- a name

pub name-of : (name : List ℕ) → IsName name → name_in name ≡ Some name
unfolding name_in
name-of name h = rw h refl

pub name-is : (bytes name : List ℕ) → name_in bytes ≡ Some name → IsName name × (name ≡ bytes)
unfolding name_in
name-is bytes name e = let g = guarded_some (is_name bytes) bytes name e in (ap is_name (sym g.1) ∙ g.0, sym g.1)

name_bytes : (name : List ℕ) → IsName name → list_all is_name_byte name ≡ true
name_bytes [] h = cc
name_bytes (c ∷ cs) h =
    let p = and_parts (is_ascii_lowercase c && nat_le (length cs) 15) (list_all is_name_byte cs) h in
    let q = and_parts (is_ascii_lowercase c) (nat_le (length cs) 15) p.0 in
    rw q.0 p.1

pub name_lacks : (c : ℕ) (name : List ℕ) → is_name_byte c ≡ false → IsName name → Lacks c name
name_lacks c name h is = lacks_from is_name_byte c name h (name_bytes name is)

-- ---- a text without commas and quotes

plain_step : (c : ℕ) (cs rest : List ℕ) (comma quote : Bool) → not comma ≡ true → not quote ≡ true
    → piece_at false (cs ++ 44 ∷ rest) ≡ Some (cs, rest)
    → cond {A = Option (List ℕ × List ℕ)} (comma && not false) (Some ([], cs ++ 44 ∷ rest)) (option_map (λ p. (c ∷ p.0, p.1)) (piece_at (turned false quote) (cs ++ 44 ∷ rest))) ≡ Some (c ∷ cs, rest)
plain_step c cs rest true quote h k e = cc
plain_step c cs rest false true h k e = cc
plain_step c cs rest false false h k e = let f : List ℕ × List ℕ → List ℕ × List ℕ = λ p. (c ∷ p.0, p.1) in ap (option_map f) e

pub plain_cut : (text rest : List ℕ) → Lacks 44 text → Lacks 39 text → piece_at false (text ++ 44 ∷ rest) ≡ Some (text, rest)
plain_cut [] rest h k = refl
plain_cut (c ∷ cs) rest h k =
    let p = and_parts (not (c == 44)) (list_all (λ b. not (b == 44)) cs) h in
    let q = and_parts (not (c == 39)) (list_all (λ b. not (b == 39)) cs) k in
    plain_step c cs rest (c == 44) (c == 39) p.0 q.0 (plain_cut cs rest p.1 q.1)

uncut_step : (c : ℕ) (cs : List ℕ) (comma quote : Bool) → not comma ≡ true → not quote ≡ true → piece_at false cs ≡ None
    → cond {A = Option (List ℕ × List ℕ)} (comma && not false) (Some ([], cs)) (option_map (λ p. (c ∷ p.0, p.1)) (piece_at (turned false quote) cs)) ≡ None
uncut_step c cs true quote h k e = cc
uncut_step c cs false true h k e = cc
uncut_step c cs false false h k e = let f : List ℕ × List ℕ → List ℕ × List ℕ = λ p. (c ∷ p.0, p.1) in ap (option_map f) e

pub plain_uncut : (text : List ℕ) → Lacks 44 text → Lacks 39 text → piece_at false text ≡ None
plain_uncut [] h k = refl
plain_uncut (c ∷ cs) h k =
    let p = and_parts (not (c == 44)) (list_all (λ b. not (b == 44)) cs) h in
    let q = and_parts (not (c == 39)) (list_all (λ b. not (b == 39)) cs) k in
    uncut_step c cs (c == 44) (c == 39) p.0 q.0 (plain_uncut cs p.1 q.1)

-- ---- names

all_names : (names : List (List ℕ)) → AreNames names → AllByRecursion IsName names
all_names [] h = tt
all_names (n ∷ ns) h = let p = and_parts (is_name n) (list_all is_name ns) h in (p.0, all_names ns p.1)

are_names : (names : List (List ℕ)) → AllByRecursion IsName names → AreNames names
are_names [] h = refl
are_names (n ∷ ns) h = rw h.0 (are_names ns h.1)

name_piece : (name : List ℕ) → IsName name → IsPiece name_in name
name_piece name h =
    let comma = name_lacks 44 name refl h in
    let quote = name_lacks 39 name refl h in
    (λ rest. plain_cut name rest comma quote, plain_uncut name comma quote)

not_hyphen : (name rest : List ℕ) → IsName name → bytes_eq (name ++ rest) (codes "-") ≡ false
not_hyphen [] rest h = cc
not_hyphen (c ∷ cs) rest h =
    let p = and_parts (is_ascii_lowercase c && nat_le (length cs) 15) (list_all is_name_byte cs) h in
    let q = and_parts (is_ascii_lowercase c) (nat_le (length cs) 15) p.0 in
    let other : (c == 45) ≡ false = grind (arith, nat_tests, q.0) in
    rw other refl

pub names-of : (names : List (List ℕ)) → AreNames names → names_in (names_text names) ≡ Some names
unfolding names_in
names-of [] h = refl
names-of (n ∷ ns) h =
    let all = all_names (n ∷ ns) h in
    let no = not_hyphen n (flat_map (λ y. codes "," ++ y) ns) all.0 in
    rw no (list-of name_in IsName (λ n. n) name_piece name-of n ns all.0 all.1)

names_found : (bytes : List ℕ) (names : List (List ℕ)) (none : Bool) → bytes_eq bytes (codes "-") ≡ none → cond none (Some []) (list_in name_in bytes) ≡ Some names
    → AreNames names × (names_text names ≡ bytes)
names_found bytes names true is e =
    let empty : [] ≡ names = cc in
    let P : List (List ℕ) → Type 0 = λ names. AreNames names × (names_text names ≡ bytes) in
    subst P empty (refl, sym (same_bytes bytes (codes "-") is))
names_found bytes [] false is e = absurd (not_empty name_in bytes e)
names_found bytes (n ∷ ns) false is e =
    let all = list-is name_in IsName (λ n. n) name-is bytes (n ∷ ns) e in
    (are_names (n ∷ ns) all.0, all.1)

pub names-is : (bytes : List ℕ) (names : List (List ℕ)) → names_in bytes ≡ Some names → AreNames names × (names_text names ≡ bytes)
unfolding names_in
names-is bytes names e = names_found bytes names (bytes_eq bytes (codes "-")) refl e

-- names are what stands between the commas
each_name : (ps ys : List (List ℕ)) → each_in name_in ps ≡ Some ys → ys ≡ ps
each_name [] ys e = cc
each_name (x ∷ xs) ys e =
    let y = bind_some (name_in x) _ ys e in
    let zs = bind_some (each_in name_in xs) _ ys y.2 in
    let same : y.0 ∷ zs.0 ≡ ys = cc in
    let one : y.0 ≡ x = (name-is x y.0 y.1).1 in
    let others : zs.0 ≡ xs = each_name xs zs.0 zs.1 in
    sym same ∙ ap (λ (a : List ℕ). a ∷ zs.0) one ∙ ap (λ (rest : List (List ℕ)). x ∷ rest) others

pub names_are_pieces : (bytes : List ℕ) (names : List (List ℕ)) → list_in name_in bytes ≡ Some names → names ≡ pieces false bytes
unfolding list_in
names_are_pieces bytes names e = each_name (pieces false bytes) names e

-- ---- paths

pub path-of : (path : Path) → path_in (path_text path) ≡ Some path
unfolding path_in
path-of Fast = refl
path-of Slow = refl
path-of Recovered = refl
path-of Adopted = refl

path_found : (bytes : List ℕ) (path : Path) (fast slow recovered : Bool) → bytes_eq bytes (codes "fast") ≡ fast → bytes_eq bytes (codes "slow") ≡ slow
    → bytes_eq bytes (codes "recovered") ≡ recovered
    → cond fast (Some Fast) (cond slow (Some Slow) (cond recovered (Some Recovered) (guarded (bytes_eq bytes (codes "adopted")) Adopted))) ≡ Some path
    → path_text path ≡ bytes
path_found bytes path true slow recovered f s r e = let is : Fast ≡ path = cc in ap path_text (sym is) ∙ sym (same_bytes bytes (codes "fast") f)
path_found bytes path false true recovered f s r e = let is : Slow ≡ path = cc in ap path_text (sym is) ∙ sym (same_bytes bytes (codes "slow") s)
path_found bytes path false false true f s r e = let is : Recovered ≡ path = cc in ap path_text (sym is) ∙ sym (same_bytes bytes (codes "recovered") r)
path_found bytes path false false false f s r e =
    let g = guarded_some (bytes_eq bytes (codes "adopted")) Adopted path e in
    ap path_text (sym g.1) ∙ sym (same_bytes bytes (codes "adopted") g.0)

pub path-is : (bytes : List ℕ) (path : Path) → path_in bytes ≡ Some path → path_text path ≡ bytes
unfolding path_in
path-is bytes path e = path_found bytes path (bytes_eq bytes (codes "fast")) (bytes_eq bytes (codes "slow")) (bytes_eq bytes (codes "recovered")) refl refl refl e

pub path_lacks : (path : Path) → Lacks 32 (path_text path)
path_lacks Fast = refl
path_lacks Slow = refl
path_lacks Recovered = refl
path_lacks Adopted = refl
