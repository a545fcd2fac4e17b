-- The outcomes are those of the bodies run one by one.
use Rattle.std.proofs.Common.{◌≡◌, ◌⊎◌, inl, inr, ℕ, zero, suc, ◌+◌, ◌-◌, ◌<◌, ◌≤◌, List, [], ◌∷◌, ◌++◌, length, take, reverse, map, get_or, Bool, true, false, not, ◌||◌, cond, Option, Some, None, is_some, unwrap_or, slice_get, refl, sym, ap, subst, ◌∙◌, arith}
use Rattle.std.specs.List.{list_any, fold}
use Rattle.std.specs.Str.{bytes_eq}
use Rattle.std.proofs.lemmas.Bool.{true≢false}
use Rattle.std.proofs.lemmas.Grind.{fold-append}
use Rattle.std.proofs.lemmas.List.{length-take, get_or-take, map-append, take_all, take_more, reverse-append}
use Rattle.std.proofs.lemmas.List.Folds.{Any-from_list_any}
use Rattle.std.proofs.lemmas.List.Sorted.{list_any-IsPermutation, IsPermutation-reverse}
use Rattle.std.proofs.lemmas.Option.{slice_get-get_or, slice_get_cases, slice_get_within}
use Rattle.std.proofs.lemmas.Slice.Eq.{bytes_eq-Decides}
use Rattle.acc_base.specs.Faults.{or_else}
use Rattle.acc_stamp.specs.declared.stamps.Stamp.{Stamp}
use Rattle.acc_value.specs.declared.key.Key.{Key}
use Rattle.acc_value.specs.declared.value.Value.{Value}
use Rattle.acc_txn.specs.declared.parts.BodyParts.{BodyParts}
use Rattle.acc_txn.specs.declared.outcome.Reply.{Reply as ReplyValue}
use Rattle.acc_txn.specs.Meaning.{outcome_of}
use Rattle.acc_txn.specs.Serial.{map_after, replies_from, serial}
use Rattle.acc_report_line.specs.declared.line.Line.{Line}
use Rattle.acc_report_line.specs.declared.line.Line.TheVariants.{Begin, Recover, Blocked, Ended, Decide, Outcome, Reply, SkipNoMessage, SkipDown, SkipBegun, SkipUnknown, SkipNoQuorum, Down, Restart, Decided, End}
use Rattle.acc_audit.specs.Said.{begins, outcome_in, same_reply}
use Rattle.acc_audit.specs.Fronts.{answer_of, before, body_of, cells_of_all, first_reply, has_outcome, newly_in, with_outcomes}
use Rattle.acc_audit.specs.Rules.{differs_from, KeepsRules}
use Rattle.acc_audit_laws.specs.Meaning.{outcome_of as said_of, LinesAreSerial, StandsAt}
use Rattle.acc_audit_laws.proofs.Kept.{test_kept}
use Rattle.acc_audit_laws.proofs.SameReply.{same_reply-sound}

-- ---- lines by what they say

begin_of : (name : List ℕ) (line : Line) → begins name line ≡ true → (id : Stamp) × (line ≡ Begin name id)
begin_of name (Begin b1 b2) h = (b2, ap (λ x. Begin x b2) (sym ((bytes_eq-Decides name b1).0 h)))
begin_of name (Recover b1 b2) h = absurd (true≢false (sym h))
begin_of name (Blocked b1 b2 b3) h = absurd (true≢false (sym h))
begin_of name (Ended b1 b2 b3) h = absurd (true≢false (sym h))
begin_of name (Decide b1 b2 b3 b4) h = absurd (true≢false (sym h))
begin_of name (Outcome b1 b2) h = absurd (true≢false (sym h))
begin_of name (Reply b1 b2) h = absurd (true≢false (sym h))
begin_of name (SkipNoMessage b1 b2 b3) h = absurd (true≢false (sym h))
begin_of name (SkipDown b1 b2) h = absurd (true≢false (sym h))
begin_of name (SkipBegun b1 b2) h = absurd (true≢false (sym h))
begin_of name (SkipUnknown b1 b2) h = absurd (true≢false (sym h))
begin_of name (SkipNoQuorum b1 b2) h = absurd (true≢false (sym h))
begin_of name (Down b1) h = absurd (true≢false (sym h))
begin_of name (Restart b1 b2) h = absurd (true≢false (sym h))
begin_of name (Decided b1 b2 b3 b4) h = absurd (true≢false (sym h))
begin_of name (End b1 b2 b3) h = absurd (true≢false (sym h))

outcome_line : (name : List ℕ) (line : Line) → is_some (outcome_in name line) ≡ true → (reply : ReplyValue) × (line ≡ Outcome name reply)
outcome_line name (Begin b1 b2) h = absurd (true≢false (sym h))
outcome_line name (Recover b1 b2) h = absurd (true≢false (sym h))
outcome_line name (Blocked b1 b2 b3) h = absurd (true≢false (sym h))
outcome_line name (Ended b1 b2 b3) h = absurd (true≢false (sym h))
outcome_line name (Decide b1 b2 b3 b4) h = absurd (true≢false (sym h))
outcome_line name (Outcome b1 b2) h = (b2, ap (λ x. Outcome x b2) (sym ((bytes_eq-Decides name b1).0 (tested (bytes_eq name b1) b2 h))))
  where
    tested : (b : Bool) (r : ReplyValue) → is_some (cond b (Some r) None) ≡ true → b ≡ true
    tested true r h = refl
    tested false r h = absurd (true≢false (sym h))
outcome_line name (Reply b1 b2) h = absurd (true≢false (sym h))
outcome_line name (SkipNoMessage b1 b2 b3) h = absurd (true≢false (sym h))
outcome_line name (SkipDown b1 b2) h = absurd (true≢false (sym h))
outcome_line name (SkipBegun b1 b2) h = absurd (true≢false (sym h))
outcome_line name (SkipUnknown b1 b2) h = absurd (true≢false (sym h))
outcome_line name (SkipNoQuorum b1 b2) h = absurd (true≢false (sym h))
outcome_line name (Down b1) h = absurd (true≢false (sym h))
outcome_line name (Restart b1 b2) h = absurd (true≢false (sym h))
outcome_line name (Decided b1 b2 b3 b4) h = absurd (true≢false (sym h))
outcome_line name (End b1 b2 b3) h = absurd (true≢false (sym h))

-- a line before a place that passes a test
found_before : (lines : List Line) (j : ℕ) (test : Line → Bool) → list_any test (before lines j) ≡ true → (i : ℕ) × (line : Line) × (i < j) × (slice_get lines i ≡ Some line) × (test line ≡ true)
found_before lines j test h =
    let any = Any-from_list_any test (take j lines) (list_any-IsPermutation test (take j lines) (reverse (take j lines)) (IsPermutation-reverse (take j lines)) ∙ h) in
    let i : ℕ = any.0 in
    let x : Line = any.1 in
    let low : i < j = omega (arith, any.2, length-take j lines) in
    let within : i < length lines = omega (arith, any.2, length-take j lines) in
    (i, x, low, slice_get-get_or lines i x within ∙ ap Some (sym (get_or-take j lines i x low) ∙ any.3), any.4)

some_outcome : (name : List ℕ) (earlier : List Line) → is_some (first_reply name earlier) ≡ true → list_any (λ line. is_some (outcome_in name line)) earlier ≡ true
some_outcome name [] h = absurd (true≢false (sym h))
some_outcome name (line ∷ earlier) h = by_first (some_outcome name earlier) (first_reply name earlier) refl h
  where
    or_right : (a b : Bool) → b ≡ true → (a || b) ≡ true
    or_right true b is = refl
    or_right false b is = is

    by_first : (is_some (first_reply name earlier) ≡ true → list_any (λ l. is_some (outcome_in name l)) earlier ≡ true) → (o : Option ReplyValue) → first_reply name earlier ≡ o → is_some (or_else o (outcome_in name line)) ≡ true → (is_some (outcome_in name line) || list_any (λ l. is_some (outcome_in name l)) earlier) ≡ true
    by_first later None is here = ap (λ b. b || list_any (λ l. is_some (outcome_in name l)) earlier) here
    by_first later (Some r) is here = or_right (is_some (outcome_in name line)) (list_any (λ l. is_some (outcome_in name l)) earlier) (later (ap is_some is))

-- ---- first outcomes stay

line_more : (lines : List Line) (k : ℕ) (line : Line) → slice_get lines k ≡ Some line → before lines (k + 1) ≡ line ∷ before lines k
line_more lines k line stands =
    let within = slice_get_within lines k line stands in
    let here : get_or lines k line ≡ line = some_same (get_or lines k line) line (sym (slice_get-get_or lines k line within) ∙ stands) in
    ap reverse (take_more lines k line within) ∙ reverse-append (take k lines) (get_or lines k line ∷ []) ∙ ap (λ (x : Line). x ∷ before lines k) here
  where
    some_same : (a b : Line) → Some a ≡ Some b → a ≡ b
    some_same a b e = cc

all_lines : (lines : List Line) (k : ℕ) → length lines ≤ k → before lines k ≡ reverse lines
all_lines lines k far = ap reverse (take_all k lines far)

stays_one : (lines : List Line) (name : List ℕ) (first : ReplyValue) (m : ℕ) → first_reply name (before lines m) ≡ Some first → first_reply name (before lines (m + 1)) ≡ Some first
stays_one lines name first m is = by_cases (slice_get_cases lines m).1
  where
    by_cases : ((x : Line) × (m < length lines) × (slice_get lines m ≡ Some x) × (get_or lines m x ≡ x)) ⊎ ((length lines ≤ m) × (slice_get lines m ≡ None)) → first_reply name (before lines (m + 1)) ≡ Some first
    by_cases (inl at) = ap (first_reply name) (line_more lines m at.0 at.2) ∙ ap (λ o. or_else o (outcome_in name at.0)) is
    by_cases (inr far) = ap (first_reply name) (all_lines lines (m + 1) (omega (arith, far.0)) ∙ sym (all_lines lines m far.0)) ∙ is

stays_on : (lines : List Line) (name : List ℕ) (first : ReplyValue) (k more : ℕ) → first_reply name (before lines k) ≡ Some first → first_reply name (before lines (k + more)) ≡ Some first
stays_on lines name first k zero is = ap (λ n. first_reply name (before lines n)) (plus_none k) ∙ is
  where
    plus_none : (n : ℕ) → n + 0 ≡ n
    plus_none n = omega arith
stays_on lines name first k (suc more) is =
    ap (λ n. first_reply name (before lines n)) (one_on k more) ∙ stays_one lines name first (k + more) (stays_on lines name first k more is)
  where
    one_on : (a b : ℕ) → a + suc b ≡ (a + b) + 1
    one_on a b = omega arith

-- the first outcome of the front is that of the whole
stays : (lines : List Line) (name : List ℕ) (first : ReplyValue) (k : ℕ) → k ≤ length lines → first_reply name (before lines k) ≡ Some first → said_of lines name ≡ Some first
stays lines name first k low is =
    ap (first_reply name) (sym (all_lines lines (k + (length lines - k)) (omega (arith, low)))) ∙ stays_on lines name first k (length lines - k) is

-- ---- bodies in turn

pub cells_in_turn : (bodies : List BodyParts) → cells_of_all bodies ≡ fold map_after (λ _. None) (reverse bodies)
cells_in_turn [] = refl
cells_in_turn (body ∷ bodies) =
    ap (λ cells. map_after cells body) (cells_in_turn bodies)
    ∙ sym (ap (fold map_after (λ _. None)) (reverse-append (body ∷ []) bodies) ∙ fold-append map_after (λ _. None) (reverse bodies) (body ∷ []))

replies_more : (cells : Key → Option Value) (bodies : List BodyParts) (body : BodyParts) → replies_from cells (bodies ++ body ∷ []) ≡ replies_from cells bodies ++ (outcome_of body (fold map_after cells bodies)).reply ∷ []
replies_more cells [] body = refl
replies_more cells (first ∷ bodies) body = ap (λ rest. (outcome_of first cells).reply ∷ rest) (replies_more (map_after cells first) bodies body)

pub map-reverse : {X Y : Type 0} (f : X → Y) (xs : List X) → map f (reverse xs) ≡ reverse (map f xs)
map-reverse f [] = refl
map-reverse f (x ∷ xs) =
    ap (map f) (reverse-append (x ∷ []) xs) ∙ map-append f (reverse xs) (x ∷ []) ∙ ap (λ ys. ys ++ f x ∷ []) (map-reverse f xs) ∙ sym (reverse-append (f x ∷ []) (map f xs))

not_false : (a : Bool) → not a ≡ false → a ≡ true
not_false true h = refl
not_false false h = absurd (true≢false h)

module _ (names : List (List ℕ)) (bodies : List BodyParts) (lines : List Line) (keeps : KeepsRules names bodies lines) where
  -- an outcome is the first one of its transaction, or what the body answers
  right : (place : ℕ) (name : List ℕ) (reply : ReplyValue) → StandsAt lines place (Outcome name reply) → unwrap_or (first_reply name (before lines place)) (answer_of names bodies (before lines place) name) ≡ reply
  right place name reply stands =
      same_reply-sound (unwrap_or (first_reply name (before lines place)) (answer_of names bodies (before lines place) name)) reply
      (not_false (same_reply (unwrap_or (first_reply name (before lines place)) (answer_of names bodies (before lines place) name)) reply) (test_kept names bodies lines place (Outcome name reply) 5 keeps stands))

  outcome_alike : (place : ℕ) (name : List ℕ) (reply : ReplyValue) → StandsAt lines place (Outcome name reply) → said_of lines name ≡ Some reply
  outcome_alike place name reply stands = by_first (first_reply name (before lines place)) refl
    where
      within : place < length lines
      within = slice_get_within lines place (Outcome name reply) stands

      by_first : (o : Option ReplyValue) → first_reply name (before lines place) ≡ o → said_of lines name ≡ Some reply
      by_first (Some first) is =
          let same : first ≡ reply = sym (ap (λ o. unwrap_or o (answer_of names bodies (before lines place) name)) is) ∙ right place name reply stands in
          stays lines name reply place (omega (arith, within)) (is ∙ ap Some same)
      by_first None is =
          stays lines name reply (place + 1) (omega (arith, within))
          (ap (first_reply name) (line_more lines place (Outcome name reply) stands)
          ∙ ap (λ o. or_else o (cond (bytes_eq name name) (Some reply) None)) is ∙ ap (λ b. cond b (Some reply) None) ((bytes_eq-Decides name name).1 refl))

  reply_alike : (place : ℕ) (name : List ℕ) (reply : ReplyValue) → StandsAt lines place (Reply name reply) → said_of lines name ≡ Some reply
  reply_alike place name reply stands = by_first (first_reply name (before lines place)) refl (test_kept names bodies lines place (Reply name reply) 4 keeps stands) (test_kept names bodies lines place (Reply name reply) 5 keeps stands)
    where
      within : place < length lines
      within = slice_get_within lines place (Reply name reply) stands

      by_first : (o : Option ReplyValue) → first_reply name (before lines place) ≡ o → not (is_some (first_reply name (before lines place))) ≡ false → differs_from (first_reply name (before lines place)) reply ≡ false → said_of lines name ≡ Some reply
      by_first None is early wrong = absurd (true≢false (ap (λ o. not (is_some o)) (sym is) ∙ early))
      by_first (Some first) is early wrong =
          let same : first ≡ reply = same_reply-sound first reply (not_false (same_reply first reply) (ap (λ o. differs_from o reply) (sym is) ∙ wrong)) in
          stays lines name reply place (omega (arith, within)) (is ∙ ap Some same)

  begun : (place : ℕ) (name : List ℕ) (reply : ReplyValue) → StandsAt lines place (Outcome name reply) → (earlier : ℕ) × (id : Stamp) × (earlier < place) × StandsAt lines earlier (Begin name id)
  begun place name reply stands =
      let there = not_false (list_any (begins name) (before lines place)) (test_kept names bodies lines place (Outcome name reply) 4 keeps stands) in
      let f = found_before lines place (begins name) there in
      let b = begin_of name f.1 f.4 in
      (f.0, b.0, f.2, f.3 ∙ ap Some b.1)

  has_first : (place : ℕ) (name : List ℕ) (reply : ReplyValue) → StandsAt lines place (Reply name reply) → (earlier : ℕ) × (first : ReplyValue) × (earlier < place) × StandsAt lines earlier (Outcome name first)
  has_first place name reply stands =
      let there = not_false (has_outcome name (before lines place)) (test_kept names bodies lines place (Reply name reply) 4 keeps stands) in
      let f = found_before lines place (λ line. is_some (outcome_in name line)) (some_outcome name (before lines place) there) in
      let o = outcome_line name f.1 f.4 in
      (f.0, o.0, f.2, f.3 ∙ ap Some o.1)

  -- the first outcomes of a front are the replies of its bodies in turn
  abbrev AreInTurn : List (List ℕ) → Type 0
  AreInTurn newest = map (said_of lines) (reverse newest) ≡ map (λ reply. Some reply) (serial (map (body_of names bodies) (reverse newest)))

  one_in_turn : (newest : List (List ℕ)) (name : List ℕ) (reply : ReplyValue) → said_of lines name ≡ Some reply → (outcome_of (body_of names bodies name) (cells_of_all (map (body_of names bodies) newest))).reply ≡ reply → AreInTurn newest → AreInTurn (name ∷ newest)
  one_in_turn newest name reply said answers so_far =
      let body = body_of names bodies in
      let turned : reverse (name ∷ newest) ≡ reverse newest ++ name ∷ [] = reverse-append (name ∷ []) newest in
      let cells : cells_of_all (map body newest) ≡ fold map_after (λ _. None) (map body (reverse newest)) = cells_in_turn (map body newest) ∙ ap (fold map_after (λ _. None)) (sym (map-reverse body newest)) in
      ap (map (said_of lines)) turned
      ∙ map-append (said_of lines) (reverse newest) (name ∷ [])
      ∙ (λ i. so_far i ++ (said ∙ ap Some (sym answers ∙ ap (λ c. (outcome_of (body name) c).reply) cells)) i ∷ [])
      ∙ sym (map-append (λ reply. Some reply) (serial (map body (reverse newest))) ((outcome_of (body name) (fold map_after (λ _. None) (map body (reverse newest)))).reply ∷ []))
      ∙ sym (ap (map (λ reply. Some reply)) (ap (λ ns. serial (map body ns)) turned ∙ ap serial (map-append body (reverse newest) (name ∷ [])) ∙ replies_more (λ _. None) (map body (reverse newest)) (body name)))

  in_turn_to : (k : ℕ) → AreInTurn (with_outcomes (before lines k))
  in_turn_to zero = refl
  in_turn_to (suc k) = by_cases (in_turn_to k) (slice_get_cases lines k).1
    where
      add_one : (n : ℕ) → suc n ≡ n + 1
      add_one n = omega arith

      by_has : (has : Bool) (name : List ℕ) (reply : ReplyValue) → has_outcome name (before lines k) ≡ has → StandsAt lines k (Outcome name reply) → AreInTurn (with_outcomes (before lines k)) → AreInTurn (cond has [] (name ∷ []) ++ with_outcomes (before lines k))
      by_has true name reply is stands so_far = so_far
      by_has false name reply is stands so_far =
          let none : first_reply name (before lines k) ≡ None = no_first (first_reply name (before lines k)) is in
          one_in_turn (with_outcomes (before lines k)) name reply (outcome_alike k name reply stands)
          (sym (ap (λ o. unwrap_or o (answer_of names bodies (before lines k) name)) none) ∙ right k name reply stands) so_far
        where
          no_first : (o : Option ReplyValue) → is_some o ≡ false → o ≡ None
          no_first None h = refl
          no_first (Some r) h = absurd (true≢false h)

      by_line : (line : Line) → StandsAt lines k line → AreInTurn (with_outcomes (before lines k)) → AreInTurn (newly_in (before lines k) line ++ with_outcomes (before lines k))
      by_line (Outcome name reply) stands so_far = by_has (has_outcome name (before lines k)) name reply refl stands so_far
      by_line (Begin b1 b2) stands so_far = so_far
      by_line (Recover b1 b2) stands so_far = so_far
      by_line (Blocked b1 b2 b3) stands so_far = so_far
      by_line (Ended b1 b2 b3) stands so_far = so_far
      by_line (Decide b1 b2 b3 b4) stands so_far = so_far
      by_line (Reply b1 b2) stands so_far = so_far
      by_line (SkipNoMessage b1 b2 b3) stands so_far = so_far
      by_line (SkipDown b1 b2) stands so_far = so_far
      by_line (SkipBegun b1 b2) stands so_far = so_far
      by_line (SkipUnknown b1 b2) stands so_far = so_far
      by_line (SkipNoQuorum b1 b2) stands so_far = so_far
      by_line (Down b1) stands so_far = so_far
      by_line (Restart b1 b2) stands so_far = so_far
      by_line (Decided b1 b2 b3 b4) stands so_far = so_far
      by_line (End b1 b2 b3) stands so_far = so_far

      by_cases : AreInTurn (with_outcomes (before lines k)) → ((x : Line) × (k < length lines) × (slice_get lines k ≡ Some x) × (get_or lines k x ≡ x)) ⊎ ((length lines ≤ k) × (slice_get lines k ≡ None)) → AreInTurn (with_outcomes (before lines (suc k)))
      by_cases so_far (inl at) = subst (λ (ls : List Line). AreInTurn (with_outcomes ls)) (sym (ap (before lines) (add_one k) ∙ line_more lines k at.0 at.2)) (by_line at.0 at.2 so_far)
      by_cases so_far (inr far) = subst (λ (ls : List Line). AreInTurn (with_outcomes ls)) (all_lines lines k far.0 ∙ sym (all_lines lines (suc k) (omega (arith, far.0)))) so_far

  pub lines_are_serial : LinesAreSerial names bodies lines
  lines_are_serial = record {
    replies = subst (λ (ls : List Line). AreInTurn (with_outcomes ls)) (all_lines lines (length lines) (omega arith)) (in_turn_to (length lines));
    outcomes_alike = outcome_alike;
    replies_alike = reply_alike;
    begun_first = begun;
    outcome_first = has_first;
  }
