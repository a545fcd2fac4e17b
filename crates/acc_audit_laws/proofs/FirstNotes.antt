-- The first outcomes among notes.
use Rattle.std.proofs.Common.{◌≡◌, ◌⊎◌, inl, inr, List, [], ◌∷◌, ◌++◌, cond, reverse, Bool, true, false, ◌||◌, refl, sym, ap, subst, ◌∙◌, ⊎_elim}
use Rattle.std.proofs.lemmas.Bool.{or_from, or_parts, true≢false}
use Rattle.std.proofs.lemmas.Grind.{flat_map-append}
use Rattle.std.proofs.lemmas.List.{append_assoc, append-nil, reverse-append}
use Rattle.std.proofs.lemmas.List.Folds.{list_any-append}
use Rattle.std.proofs.lemmas.List.Sorted.{list_any-IsPermutation, IsPermutation-reverse}
use Rattle.acc_stamp.specs.declared.stamps.TxnId.{TxnId}
use Rattle.acc_stamp.specs.Stamp.{id_eq}
use Rattle.acc_stamp.proofs.Order.{id_order}
use Rattle.acc_txn.specs.declared.outcome.Reply.{Reply as ReplyValue}
use Rattle.acc_message.specs.declared.note.Note.{Note}
use Rattle.acc_message.specs.declared.note.Note.TheVariants.{Begin, Recover, Blocked, Ended, Decide, Outcome, Reply}
use Rattle.acc_safety.specs.Decisions.{Answered, firsts_after, first_outcomes, is_answered, outcomes_in, outcomes_of}
use Rattle.acc_safety.specs.Places.{IsIn, First, Later}
use Rattle.acc_safety.proofs.PlaceOrder.{IsIn-cases, IsIn-cond_cases, none_is_in}

-- ---- the place of the first outcome of a transaction

pub record FirstAt (x : TxnId) (notes : List Note) : Type 0 where
  pub before : List Note
  pub reply : ReplyValue
  pub after : List Note
  pub are : notes ≡ before ++ Outcome x reply ∷ after
  pub new : is_answered x (outcomes_of before) ≡ false

pub first_at : (x : TxnId) (notes : List Note) → is_answered x (outcomes_of notes) ≡ true → FirstAt x notes
first_at x [] h = absurd (true≢false (sym h))
first_at x (note ∷ notes) h = by_note note h (first_at x notes)
  where
    later : (note : Note) → outcomes_in note ≡ [] → FirstAt x notes → FirstAt x (note ∷ notes)
    later note none f =
        record {
          before = note ∷ f.before;
          reply = f.reply;
          after = f.after;
          are = ap (λ (ns : List Note). note ∷ ns) f.are;
          new = ap (λ (answers : List Answered). is_answered x (answers ++ outcomes_of f.before)) none ∙ f.new;
        }

    by_answer : (y : TxnId) (reply : ReplyValue) (b : Bool) → id_eq y x ≡ b → (b || is_answered x (outcomes_of notes)) ≡ true
        → (is_answered x (outcomes_of notes) ≡ true → FirstAt x notes) → FirstAt x (Outcome y reply ∷ notes)
    by_answer y reply true is h rest =
        record { before = []; reply = reply; after = notes; are = ap (λ (z : TxnId). Outcome z reply ∷ notes) ((id_order.decides y x).0 is); new = refl }
    by_answer y reply false is h rest =
        let f = rest h in
        record {
          before = Outcome y reply ∷ f.before;
          reply = f.reply;
          after = f.after;
          are = ap (λ (ns : List Note). Outcome y reply ∷ ns) f.are;
          new = or_from (id_eq y x) (is_answered x (outcomes_of f.before)) is f.new;
        }

    by_note : (note : Note) → is_answered x (outcomes_of (note ∷ notes)) ≡ true → (is_answered x (outcomes_of notes) ≡ true → FirstAt x notes) → FirstAt x (note ∷ notes)
    by_note (Outcome y reply) h rest = by_answer y reply (id_eq y x) refl h rest
    by_note (Begin id) h rest = later (Begin id) refl (rest h)
    by_note (Recover id ballot) h rest = later (Recover id ballot) refl (rest h)
    by_note (Blocked id ballot by) h rest = later (Blocked id ballot by) refl (rest h)
    by_note (Ended id ballot by) h rest = later (Ended id ballot by) refl (rest h)
    by_note (Decide id t path deps) h rest = later (Decide id t path deps) refl (rest h)
    by_note (Reply id reply) h rest = later (Reply id reply) refl (rest h)

pub answered_append : (x : TxnId) (notes more : List Note) → is_answered x (outcomes_of (notes ++ more)) ≡ (is_answered x (outcomes_of notes) || is_answered x (outcomes_of more))
answered_append x notes more =
    ap (is_answered x) (flat_map-append outcomes_in notes more) ∙ list_any-append (λ (a : Answered). id_eq a.id x) (outcomes_of notes) (outcomes_of more)

-- ---- of each transaction one outcome is first

is_first : (seen answers : List Answered) (a : Answered) → IsIn a (firsts_after seen answers) → is_answered a.id seen ≡ false
is_first seen [] a there = absurd (none_is_in a there)
is_first seen (b ∷ answers) a there =
    by (is_first (b ∷ seen) answers a) (IsIn-cond_cases a (is_answered b.id seen) (firsts_after (b ∷ seen) answers) (b ∷ firsts_after (b ∷ seen) answers) there)
  where
    by : (IsIn a (firsts_after (b ∷ seen) answers) → is_answered a.id (b ∷ seen) ≡ false)
        → ((is_answered b.id seen ≡ true) × IsIn a (firsts_after (b ∷ seen) answers)) ⊎ ((is_answered b.id seen ≡ false) × IsIn a (b ∷ firsts_after (b ∷ seen) answers))
        → is_answered a.id seen ≡ false
    by rest (inl old) = (or_parts (id_eq b.id a.id) (is_answered a.id seen) (rest old.1)).1
    by rest (inr new) =
        ⊎_elim (λ same. ap (λ (z : Answered). is_answered z.id seen) same ∙ new.0) (λ more. (or_parts (id_eq b.id a.id) (is_answered a.id seen) (rest more)).1)
        (IsIn-cases a b (firsts_after (b ∷ seen) answers) new.1)

pub firsts_there : (seen answers : List Answered) (a : Answered) → IsIn a (firsts_after seen answers) → IsIn a answers
firsts_there seen [] a there = there
firsts_there seen (b ∷ answers) a there =
    ⊎_elim (λ old. Later a b answers (firsts_there (b ∷ seen) answers a old.1))
    (λ new. ⊎_elim (λ same. subst (λ z. IsIn z (b ∷ answers)) (sym same) (First b answers)) (λ more. Later a b answers (firsts_there (b ∷ seen) answers a more))
    (IsIn-cases a b (firsts_after (b ∷ seen) answers) new.1))
    (IsIn-cond_cases a (is_answered b.id seen) (firsts_after (b ∷ seen) answers) (b ∷ firsts_after (b ∷ seen) answers) there)

pub one_first : (seen answers : List Answered) (a b : Answered) → IsIn a (firsts_after seen answers) → IsIn b (firsts_after seen answers) → a.id ≡ b.id → a.reply ≡ b.reply
one_first seen [] a b here there same = absurd (none_is_in a here)
one_first seen (c ∷ answers) a b here there same = by (λ i j. one_first (c ∷ seen) answers a b i j same) (is_answered c.id seen) here there
  where
    both : (IsIn a (firsts_after (c ∷ seen) answers) → IsIn b (firsts_after (c ∷ seen) answers) → a.reply ≡ b.reply)
        → (a ≡ c) ⊎ IsIn a (firsts_after (c ∷ seen) answers) → (b ≡ c) ⊎ IsIn b (firsts_after (c ∷ seen) answers) → a.reply ≡ b.reply
    both rest (inl p) (inl q) = ap (λ (z : Answered). z.reply) (p ∙ sym q)
    both rest (inl p) (inr q) =
        absurd (true≢false
        (sym ((id_order.decides c.id b.id).1 (ap (λ (z : Answered). z.id) (sym p) ∙ same))
        ∙ (or_parts (id_eq c.id b.id) (is_answered b.id seen) (is_first (c ∷ seen) answers b q)).0))
    both rest (inr p) (inl q) =
        absurd (true≢false
        (sym ((id_order.decides c.id a.id).1 (ap (λ (z : Answered). z.id) (sym q) ∙ sym same))
        ∙ (or_parts (id_eq c.id a.id) (is_answered a.id seen) (is_first (c ∷ seen) answers a p)).0))
    both rest (inr p) (inr q) = rest p q

    by : (IsIn a (firsts_after (c ∷ seen) answers) → IsIn b (firsts_after (c ∷ seen) answers) → a.reply ≡ b.reply)
        → (o : Bool) → IsIn a (cond o (firsts_after (c ∷ seen) answers) (c ∷ firsts_after (c ∷ seen) answers)) → IsIn b (cond o (firsts_after (c ∷ seen) answers) (c ∷ firsts_after (c ∷ seen) answers))
        → a.reply ≡ b.reply
    by rest true i j = rest i j
    by rest false i j = both rest (IsIn-cases a c (firsts_after (c ∷ seen) answers) i) (IsIn-cases b c (firsts_after (c ∷ seen) answers) j)

pub firsts_append : (seen answers more : List Answered) → firsts_after seen (answers ++ more) ≡ firsts_after seen answers ++ firsts_after (reverse answers ++ seen) more
firsts_append seen [] more = refl
firsts_append seen (a ∷ answers) more =
    by (firsts_append (a ∷ seen) answers more ∙ ap (λ (l : List Answered). firsts_after (a ∷ seen) answers ++ firsts_after l more) turned) (is_answered a.id seen)
  where
    turned : reverse answers ++ a ∷ seen ≡ reverse (a ∷ answers) ++ seen
    turned = sym (ap (λ (l : List Answered). l ++ seen) (reverse-append (a ∷ []) answers) ∙ append_assoc (reverse answers) (a ∷ []) seen)

    by : firsts_after (a ∷ seen) (answers ++ more) ≡ firsts_after (a ∷ seen) answers ++ firsts_after (reverse (a ∷ answers) ++ seen) more
        → (b : Bool) → cond b (firsts_after (a ∷ seen) (answers ++ more)) (a ∷ firsts_after (a ∷ seen) (answers ++ more))
        ≡ cond b (firsts_after (a ∷ seen) answers) (a ∷ firsts_after (a ∷ seen) answers) ++ firsts_after (reverse (a ∷ answers) ++ seen) more
    by rest true = rest
    by rest false = ap (λ (l : List Answered). a ∷ l) rest

-- those of notes with one more outcome, of a transaction that has none so far
pub next_first : (front rest : List Note) (x : TxnId) (reply : ReplyValue) → is_answered x (outcomes_of front) ≡ false
    → first_outcomes (front ++ Outcome x reply ∷ rest)
    ≡ first_outcomes front ++ record { id = x; reply = reply } ∷ firsts_after (record { id = x; reply = reply } ∷ reverse (outcomes_of front) ++ []) (outcomes_of rest)
next_first front rest x reply new =
    let a : Answered = record { id = x; reply = reply } in
    let seen : List Answered = reverse (outcomes_of front) ++ [] in
    let none : is_answered x seen ≡ false =
    ap (is_answered x) (append-nil (reverse (outcomes_of front)))
    ∙ sym (list_any-IsPermutation (λ (b : Answered). id_eq b.id x) (outcomes_of front) (reverse (outcomes_of front)) (IsPermutation-reverse (outcomes_of front))) ∙ new in
    ap (firsts_after []) (flat_map-append outcomes_in front (Outcome x reply ∷ rest))
    ∙ firsts_append [] (outcomes_of front) (a ∷ outcomes_of rest)
    ∙ ap (λ b. first_outcomes front ++ cond b (firsts_after (a ∷ seen) (outcomes_of rest)) (a ∷ firsts_after (a ∷ seen) (outcomes_of rest))) none
