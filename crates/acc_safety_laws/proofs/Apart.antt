-- Each known transaction stands once among the stable ones of a store.
use Rattle.std.proofs.Common.{◌≡◌, Bool, true, false, cond, List, [], ◌∷◌, ◌++◌, Option, None, Some, refl, sym, ◌∙◌}
use Rattle.std.specs.List.{AllByRecursion}
use Rattle.std.proofs.lemmas.Bool.{true≢false, or_parts, cond_both}
use Rattle.acc_stamp.specs.declared.stamps.TxnId.{TxnId}
use Rattle.acc_stamp.specs.Stamp.{id_eq}
use Rattle.acc_stamp.specs.Rising.{rising_with}
use Rattle.acc_stamp.proofs.Order.{id_order}
use Rattle.acc_stamp.proofs.Rising.{each_append}
use Rattle.acc_deps.specs.declared.records.Settled.{Settled}
use Rattle.acc_txn.specs.declared.parts.BodyParts.{BodyParts}
use Rattle.acc_message.specs.Fields.{id_of}
use Rattle.acc_message.specs.Taken.{Taken, Heard, is_heard, known, learnt, body_in}
use Rattle.acc_message.specs.BallotRules.{stable_of}
use Rattle.acc_message.specs.Opening.{Standing, standing_with, stable_ones, standing_lt, in_turn}

-- ---- known ones

abbrev pub NotHeard : TxnId → List Heard → Type 0
NotHeard x heard = AllByRecursion (λ (k : Heard). k.id ≡ x → ⊥) heard

abbrev pub HeardApart : List Heard → Type 0
HeardApart [] = Unit {0}
HeardApart (k ∷ heard) = NotHeard k.id heard × HeardApart heard

not_heard : (x : TxnId) (heard : List Heard) → is_heard x heard ≡ false → NotHeard x heard
not_heard x [] h = tt
not_heard x (k ∷ heard) h =
    let parts = or_parts (id_eq k.id x) (is_heard x heard) h in
    ((λ same. true≢false (sym ((id_order.decides k.id x).1 same) ∙ parts.0)), not_heard x heard parts.1)

learnt-apart : (b : Bool) (x : TxnId) (body : Option BodyParts) (before : List Heard) → is_heard x before ≡ b → HeardApart before
    → HeardApart (learnt b x body before)
learnt-apart true x body before is h = h
learnt-apart false x None before is h = h
learnt-apart false x (Some body) before is h = (not_heard x before is, h)

known-apart : (history : List Taken) → HeardApart (known history)
known-apart [] = tt
known-apart (step ∷ past) =
    learnt-apart (is_heard (id_of step.message) (known past)) (id_of step.message) (body_in step.message) (known past) refl (known-apart past)

-- ---- stable ones

abbrev pub NotStanding : TxnId → List Standing → Type 0
NotStanding x list = AllByRecursion (λ (s : Standing). s.id ≡ x → ⊥) list

abbrev pub StandApart : List Standing → Type 0
StandApart [] = Unit {0}
StandApart (s ∷ list) = NotStanding s.id list × StandApart list

one_not : (x y : TxnId) (o : Option Settled) → (y ≡ x → ⊥) → NotStanding x (standing_with y o)
one_not x y None h = tt
one_not x y (Some s) h = (h, tt)

stable_ones-not : (history : List Taken) (x : TxnId) (heard : List Heard) → NotHeard x heard → NotStanding x (stable_ones history heard)
stable_ones-not history x [] h = tt
stable_ones-not history x (k ∷ heard) h =
    each_append (λ (s : Standing). s.id ≡ x → ⊥) (standing_with k.id (stable_of history k.id)) (stable_ones history heard)
    (one_not x k.id (stable_of history k.id) h.0) (stable_ones-not history x heard h.1)

one_more : (x : TxnId) (o : Option Settled) (list : List Standing) → NotStanding x list → StandApart list
    → StandApart (standing_with x o ++ list)
one_more x None list h apart = apart
one_more x (Some s) list h apart = (h, apart)

stable_ones-apart : (history : List Taken) (heard : List Heard) → HeardApart heard → StandApart (stable_ones history heard)
stable_ones-apart history [] h = tt
stable_ones-apart history (k ∷ heard) h =
    one_more k.id (stable_of history k.id) (stable_ones history heard) (stable_ones-not history k.id heard h.0) (stable_ones-apart history heard h.1)

-- ---- in turn

with_each : (P : Standing → Type 0) (s : Standing) (list : List Standing) → P s → AllByRecursion P list
    → AllByRecursion P (rising_with standing_lt s list)
with_each P s [] p h = (p, tt)
with_each P s (z ∷ zs) p h =
    cond_both (standing_lt s z) (s ∷ z ∷ zs) (cond (standing_lt z s) (z ∷ rising_with standing_lt s zs) (z ∷ zs)) (AllByRecursion P)
    (λ _. (p, h))
    (λ _. cond_both (standing_lt z s) (z ∷ rising_with standing_lt s zs) (z ∷ zs) (AllByRecursion P)
    (λ _. (h.0, with_each P s zs p h.1)) (λ _. h))

with-apart : (s : Standing) (list : List Standing) → NotStanding s.id list → StandApart list → StandApart (rising_with standing_lt s list)
with-apart s [] h apart = (tt, tt)
with-apart s (z ∷ zs) h apart =
    cond_both (standing_lt s z) (s ∷ z ∷ zs) (cond (standing_lt z s) (z ∷ rising_with standing_lt s zs) (z ∷ zs)) StandApart
    (λ _. (h, apart))
    (λ _. cond_both (standing_lt z s) (z ∷ rising_with standing_lt s zs) (z ∷ zs) StandApart
    (λ _. (with_each (λ (r : Standing). r.id ≡ z.id → ⊥) s zs (λ same. h.0 (sym same)) apart.0, with-apart s zs h.1 apart.1))
    (λ _. apart))

in_turn-not : (x : TxnId) (list : List Standing) → NotStanding x list → NotStanding x (in_turn list)
in_turn-not x [] h = tt
in_turn-not x (s ∷ list) h = with_each (λ (r : Standing). r.id ≡ x → ⊥) s (in_turn list) h.0 (in_turn-not x list h.1)

in_turn-apart : (list : List Standing) → StandApart list → StandApart (in_turn list)
in_turn-apart [] h = tt
in_turn-apart (s ∷ list) h = with-apart s (in_turn list) (in_turn-not s.id list h.0) (in_turn-apart list h.1)

pub turns-apart : (history : List Taken) → StandApart (in_turn (stable_ones history (known history)))
turns-apart history = in_turn-apart (stable_ones history (known history)) (stable_ones-apart history (known history) (known-apart history))
