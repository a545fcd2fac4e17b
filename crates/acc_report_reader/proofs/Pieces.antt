-- Lists with commas between their items are read exactly as they are written.
use Rattle.std.proofs.Common.{◌≡◌, ℕ, ◌<◌, Bool, true, false, not, ◌&&◌, cond, List, [], ◌∷◌, ◌++◌, length, map, Option, Some, None, refl, sym, ap, ◌∙◌, subst, append_assoc, arith}
use Rattle.std.specs.Prelude.{codes, option_map, ◌==◌}
use Rattle.std.specs.List.{flat_map, join_by, onto_first, AllByRecursion}
use Rattle.std.proofs.lemmas.Bool.{and_parts, eqb-true}
use Rattle.std.proofs.lemmas.List.{append-nil}
use Rattle.std.proofs.lemmas.List.Folds.{flat_map-map}
use Rattle.acc_report_reader.specs.Gives.{◌>>=◌}
use Rattle.acc_report_reader.specs.Fields.{turned, piece_at, pieces, each_in, list_in}
use Rattle.acc_report_reader.proofs.Options.{bind_some, map_some, map_none}

-- ---- small facts

bound : {Y : Type 0} (x : Y) (o : Option (List Y)) → (o >>= (λ ys. Some (x ∷ ys))) ≡ option_map (λ ys. x ∷ ys) o
bound x None = refl
bound x (Some ys) = refl

single : {Y : Type 0} (o : Option Y) → (o >>= (λ y. Some (y ∷ []))) ≡ option_map (λ y. y ∷ []) o
single None = refl
single (Some y) = refl

pub behind_one : {Y : Type 0} (before : List Y) (x : Y) (o : Option (List Y)) → option_map (λ ys. before ++ ys) (option_map (λ ys. x ∷ ys) o) ≡ option_map (λ ys. (before ++ x ∷ []) ++ ys) o
behind_one before x None = refl
behind_one before x (Some ys) = ap (λ l. Some l) (sym (append_assoc before (x ∷ []) ys))

mapped : {Y : Type 0} (text : Y → List ℕ) (ys : List Y) → join_by text (codes ",") ys ≡ join_by (λ p. p) (codes ",") (map text ys)
mapped text [] = refl
mapped text (y ∷ ys) = ap (λ l. text y ++ l) (sym (flat_map-map (λ p. codes "," ++ p) text ys))

cons_step : (b : ℕ) (bs : List ℕ) (here : Bool) (later : List (List ℕ)) → (q : List ℕ) × (qs : List (List ℕ)) × (cond here ([] ∷ pieces false bs) (onto_first b later) ≡ q ∷ qs)
cons_step b bs true later = ([], pieces false bs, refl)
cons_step b bs false [] = (b ∷ [], [], refl)
cons_step b bs false (p ∷ ps) = (b ∷ p, ps, refl)

join_cons : (ps : List (List ℕ)) (q : List ℕ) (qs : List (List ℕ)) → ps ≡ q ∷ qs → flat_map (λ p. codes "," ++ p) ps ≡ 44 ∷ join_by (λ p. p) (codes ",") ps
join_cons ps q qs e =
    let P : List (List ℕ) → Type 0 = λ ps. flat_map (λ p. codes "," ++ p) ps ≡ 44 ∷ join_by (λ p. p) (codes ",") ps in
    subst P (sym e) refl

join_onto : (b : ℕ) (ps : List (List ℕ)) → join_by (λ p. p) (codes ",") (onto_first b ps) ≡ b ∷ join_by (λ p. p) (codes ",") ps
join_onto b [] = refl
join_onto b (p ∷ ps) = refl

join_step : (b : ℕ) (bs : List ℕ) (inside here : Bool) → ((b == 44) && not inside) ≡ here → (after later : List (List ℕ))
    → ((q : List ℕ) × (qs : List (List ℕ)) × (after ≡ q ∷ qs)) → join_by (λ p. p) (codes ",") after ≡ bs → join_by (λ p. p) (codes ",") later ≡ bs
    → join_by (λ p. p) (codes ",") (cond here ([] ∷ after) (onto_first b later)) ≡ b ∷ bs
join_step b bs inside true is after later some next other =
    let comma = eqb-true b 44 (and_parts (b == 44) (not inside) is).0 in
    join_cons after some.0 some.1 some.2 ∙ ap (λ l. 44 ∷ l) next ∙ ap (λ c. c ∷ bs) (sym comma)
join_step b bs inside false is after later some next other = join_onto b later ∙ ap (λ l. b ∷ l) other

pieces-cons : (inside : Bool) (bytes : List ℕ) → (q : List ℕ) × (qs : List (List ℕ)) × (pieces inside bytes ≡ q ∷ qs)
pieces-cons inside [] = ([], [], refl)
pieces-cons inside (b ∷ bs) = cons_step b bs ((b == 44) && not inside) (pieces (turned inside (b == 39)) bs)

joined : (inside : Bool) (bytes : List ℕ) → join_by (λ p. p) (codes ",") (pieces inside bytes) ≡ bytes
joined inside [] = refl
joined inside (b ∷ bs) =
    join_step b bs inside ((b == 44) && not inside) refl (pieces false bs) (pieces (turned inside (b == 39)) bs) (pieces-cons false bs) (joined false bs) (joined (turned inside (b == 39)) bs)

-- ---- pieces, one by one

piece_step : (b : ℕ) (bs : List ℕ) (inside later here : Bool) (p : List ℕ × List ℕ)
    → cond here (Some ([], bs)) (option_map (λ q. (b ∷ q.0, q.1)) (piece_at later bs)) ≡ Some p
    → ((q : List ℕ × List ℕ) → piece_at later bs ≡ Some q → pieces later bs ≡ q.0 ∷ pieces false q.1)
    → cond here ([] ∷ pieces false bs) (onto_first b (pieces later bs)) ≡ p.0 ∷ pieces false p.1
piece_step b bs inside later true p e next =
    let found : ([], bs) ≡ p = cc in
    let all : List ℕ × List ℕ → List (List ℕ) = λ q. q.0 ∷ pieces false q.1 in
    ap all found
piece_step b bs inside later false p e next =
    let f : List ℕ × List ℕ → List ℕ × List ℕ = λ q. (b ∷ q.0, q.1) in
    let q = map_some f (piece_at later bs) p e in
    let all : List ℕ × List ℕ → List (List ℕ) = λ q. q.0 ∷ pieces false q.1 in
    ap (onto_first b) (next q.0 q.1) ∙ ap all q.2

pub piece-some : (inside : Bool) (bytes : List ℕ) (p : List ℕ × List ℕ) → piece_at inside bytes ≡ Some p → pieces inside bytes ≡ p.0 ∷ pieces false p.1
piece-some inside [] p e = cc
piece-some inside (b ∷ bs) p e =
    piece_step b bs inside (turned inside (b == 39)) ((b == 44) && not inside) p e (λ q h. piece-some (turned inside (b == 39)) bs q h)

last_step : (b : ℕ) (bs : List ℕ) (later here : Bool)
    → cond {A = Option (List ℕ × List ℕ)} here (Some ([], bs)) (option_map (λ q. (b ∷ q.0, q.1)) (piece_at later bs)) ≡ None
    → (piece_at later bs ≡ None → pieces later bs ≡ bs ∷ [])
    → cond here ([] ∷ pieces false bs) (onto_first b (pieces later bs)) ≡ (b ∷ bs) ∷ []
last_step b bs later true e next = cc
last_step b bs later false e next =
    let f : List ℕ × List ℕ → List ℕ × List ℕ = λ q. (b ∷ q.0, q.1) in
    ap (onto_first b) (next (map_none f (piece_at later bs) e))

pub piece-none : (inside : Bool) (bytes : List ℕ) → piece_at inside bytes ≡ None → pieces inside bytes ≡ bytes ∷ []
piece-none inside [] e = refl
piece-none inside (b ∷ bs) e = last_step b bs (turned inside (b == 39)) ((b == 44) && not inside) e (λ h. piece-none (turned inside (b == 39)) bs h)

-- what is cut off leaves less
shorter_step : (b : ℕ) (bs : List ℕ) (later here : Bool) (p : List ℕ × List ℕ)
    → cond here (Some ([], bs)) (option_map (λ q. (b ∷ q.0, q.1)) (piece_at later bs)) ≡ Some p
    → ((q : List ℕ × List ℕ) → piece_at later bs ≡ Some q → length q.1 < length bs) → length p.1 < length (b ∷ bs)
shorter_step b bs later true p e next =
    let found : ([], bs) ≡ p = cc in
    let left : List ℕ × List ℕ → ℕ = λ q. length q.1 in
    let same : length bs ≡ length p.1 = ap left found in omega arith
shorter_step b bs later false p e next =
    let f : List ℕ × List ℕ → List ℕ × List ℕ = λ q. (b ∷ q.0, q.1) in
    let q = map_some f (piece_at later bs) p e in
    let left : List ℕ × List ℕ → ℕ = λ q. length q.1 in
    let same : length q.0.1 ≡ length p.1 = ap left q.2 in
    let less = next q.0 q.1 in omega arith

pub shorter : (inside : Bool) (bytes : List ℕ) (p : List ℕ × List ℕ) → piece_at inside bytes ≡ Some p → length p.1 < length bytes
shorter inside [] p e = cc
shorter inside (b ∷ bs) p e = shorter_step b bs (turned inside (b == 39)) ((b == 44) && not inside) p e (λ q h. shorter (turned inside (b == 39)) bs q h)

-- ---- reading a list piece by piece

module _ {Y : Type 0} (one : List ℕ → Option Y) where
  list_more : (rest : List ℕ) (p : List ℕ × List ℕ) (x : Y) → piece_at false rest ≡ Some p → one p.0 ≡ Some x
      → list_in one rest ≡ option_map (λ ys. x ∷ ys) (list_in one p.1)
  unfolding list_in
  list_more rest p x cut is = ap (each_in one) (piece-some false rest p cut) ∙ rw is (bound x (each_in one (pieces false p.1)))

  list_last : (rest : List ℕ) → piece_at false rest ≡ None → list_in one rest ≡ option_map (λ y. y ∷ []) (one rest)
  unfolding list_in
  list_last rest cut = ap (each_in one) (piece-none false rest cut) ∙ single (one rest)

  pub loop_more : (whole : Option (List Y)) (before : List Y) (rest : List ℕ) (p : List ℕ × List ℕ) (x : Y) → whole ≡ option_map (λ ys. before ++ ys) (list_in one rest)
      → Some p ≡ piece_at false rest → one p.0 ≡ Some x → whole ≡ option_map (λ ys. (before ++ x ∷ []) ++ ys) (list_in one p.1)
  loop_more whole before rest p x e cut is =
      e ∙ ap (option_map (λ ys. before ++ ys)) (list_more rest p x (sym cut) is) ∙ behind_one before x (list_in one p.1)

  pub loop_fails : (whole : Option (List Y)) (before : List Y) (rest : List ℕ) (p : List ℕ × List ℕ) → whole ≡ option_map (λ ys. before ++ ys) (list_in one rest)
      → Some p ≡ piece_at false rest → one p.0 ≡ None → whole ≡ None
  unfolding list_in
  loop_fails whole before rest p e cut is =
      e ∙ ap (λ ps. option_map (λ ys. before ++ ys) (each_in one ps)) (piece-some false rest p (sym cut)) ∙ rw is refl

  pub loop_ends : (whole : Option (List Y)) (before : List Y) (rest : List ℕ) (x : Y) → whole ≡ option_map (λ ys. before ++ ys) (list_in one rest)
      → None ≡ piece_at false rest → one rest ≡ Some x → whole ≡ Some (before ++ x ∷ [])
  loop_ends whole before rest x e cut is =
      let wrap : Y → List Y = λ y. y ∷ [] in
      let left : list_in one rest ≡ Some (x ∷ []) = list_last rest (sym cut) ∙ ap (option_map wrap) is in
      e ∙ ap (option_map (λ ys. before ++ ys)) left

  pub loop_ends_badly : (whole : Option (List Y)) (before : List Y) (rest : List ℕ) → whole ≡ option_map (λ ys. before ++ ys) (list_in one rest)
      → None ≡ piece_at false rest → one rest ≡ None → whole ≡ None
  loop_ends_badly whole before rest e cut is =
      let wrap : Y → List Y = λ y. y ∷ [] in
      let left : list_in one rest ≡ None = list_last rest (sym cut) ∙ ap (option_map wrap) is in
      e ∙ ap (option_map (λ ys. before ++ ys)) left

  -- ---- what a list says

  -- a text with no comma outside of its quotes, which are closed
  abbrev pub IsPiece : List ℕ → Type 0
  IsPiece text = ((rest : List ℕ) → piece_at false (text ++ 44 ∷ rest) ≡ Some (text, rest)) × (piece_at false text ≡ None)

  pub list-of : (form : Y → Type 0) (text : Y → List ℕ) → ((y : Y) → form y → IsPiece (text y)) → ((y : Y) → form y → one (text y) ≡ Some y)
      → (y : Y) (ys : List Y) → form y → AllByRecursion form ys → list_in one (join_by text (codes ",") (y ∷ ys)) ≡ Some (y ∷ ys)
  list-of form text piece said y [] h hs =
      let wrap : Y → List Y = λ y. y ∷ [] in
      ap (list_in one) (append-nil (text y)) ∙ list_last (text y) (piece y h).1 ∙ ap (option_map wrap) (said y h)
  list-of form text piece said y (z ∷ zs) h hs =
      list_more (text y ++ 44 ∷ join_by text (codes ",") (z ∷ zs)) (text y, join_by text (codes ",") (z ∷ zs)) y ((piece y h).0 (join_by text (codes ",") (z ∷ zs))) (said y h)
      ∙ ap (option_map (λ ys. y ∷ ys)) (list-of form text piece said z zs hs.0 hs.1)

  each-is : (form : Y → Type 0) (text : Y → List ℕ) → ((bytes : List ℕ) (y : Y) → one bytes ≡ Some y → form y × (text y ≡ bytes))
      → (ps : List (List ℕ)) (ys : List Y) → each_in one ps ≡ Some ys → AllByRecursion form ys × (map text ys ≡ ps)
  each-is form text is [] ys e =
      let none : [] ≡ ys = cc in
      let P : List Y → Type 0 = λ ys. AllByRecursion form ys × (map text ys ≡ []) in
      subst P none (tt, refl)
  each-is form text is (x ∷ xs) ys e =
      let y = bind_some (one x) _ ys e in
      let zs = bind_some (each_in one xs) _ ys y.2 in
      let same : y.0 ∷ zs.0 ≡ ys = cc in
      let here = is x y.0 y.1 in
      let later = each-is form text is xs zs.0 zs.1 in
      let P : List Y → Type 0 = λ ys. AllByRecursion form ys × (map text ys ≡ x ∷ xs) in
      subst P same ((here.0, later.0), ap (λ a. a ∷ map text zs.0) here.1 ∙ ap (λ rest. x ∷ rest) later.1)

  pub list-is : (form : Y → Type 0) (text : Y → List ℕ) → ((bytes : List ℕ) (y : Y) → one bytes ≡ Some y → form y × (text y ≡ bytes))
      → (bytes : List ℕ) (ys : List Y) → list_in one bytes ≡ Some ys → AllByRecursion form ys × (join_by text (codes ",") ys ≡ bytes)
  unfolding list_in
  list-is form text is bytes ys e =
      let each = each-is form text is (pieces false bytes) ys e in
      (each.0, mapped text ys ∙ ap (λ ps. join_by (λ p. p) (codes ",") ps) each.1 ∙ joined false bytes)

  pub not_empty : (bytes : List ℕ) → list_in one bytes ≡ Some [] → ⊥
  unfolding list_in
  not_empty bytes e =
      let p = pieces-cons false bytes in
      let y = bind_some (one p.0) _ [] (sym (ap (each_in one) p.2) ∙ e) in
      let zs = bind_some (each_in one p.1) _ [] y.2 in
      let wrong : Some (y.0 ∷ zs.0) ≡ Some [] = zs.2 in cc
