-- The stable transactions of a store, in the order of their timestamps.
use Rattle.std.proofs.Common.{◌≡◌, Bool, true, false, cond, List, [], ◌∷◌, Option, None, Some, refl, sym, ◌∙◌, ap, subst, ⊎_elim, arith}
use Rattle.std.specs.List.{AllByRecursion, list_any}
use Rattle.std.proofs.lemmas.Bool.{true≢false, or_left, or_right, or_cases, cond_both}
use Rattle.std.proofs.lemmas.Bool.Decides.{nat_tests}
use Rattle.std.proofs.lemmas.List.Folds.{list_any-append}
use Rattle.acc_stamp.specs.declared.stamps.TxnId.{TxnId}
use Rattle.acc_stamp.specs.Stamp.{id_eq, stamp_lt}
use Rattle.acc_stamp.proofs.Order.{stamp_order, id_order, le-trans}
use Rattle.acc_stamp.proofs.Rising.{each_append}
use Rattle.acc_deps.specs.declared.records.Settled.{Settled}
use Rattle.acc_txn.specs.declared.parts.BodyParts.{BodyParts}
use Rattle.acc_message.specs.declared.message.Message.{Message}
use Rattle.acc_message.specs.declared.message.Message.TheVariants.{PreAccept, PreAcceptOk, Accept, AcceptOk, Commit, CommitOk, Stable, ReadOk, Apply, Recover, RecoverOk, Nack, Decided, Inform}
use Rattle.acc_message.specs.Fields.{id_of}
use Rattle.acc_base.specs.Faults.{or_else}
use Rattle.acc_message.specs.Taken.{Taken, Heard, is_heard, known, learnt, learnt_from, body_in}
use Rattle.acc_message.specs.BallotRules.{stable_of, settled_in}
use Rattle.acc_message.specs.Opening.{Standing, standing_with, stable_ones, standing_lt, in_turn}
use Rattle.acc_stamp.specs.Rising.{rising_with}

pub not_none : {T : Type 0} (x : T) → None ≡ Some x → ⊥
not_none x e = cc

-- ---- the order

pub standing_lt-t : (a b : Standing) → standing_lt a b ≡ true → stamp_lt b.settled.t a.settled.t ≡ false
standing_lt-t a b e = grind (arith, nat_tests)

standing_apart : (a b : Standing) → standing_lt a b ≡ false → standing_lt b a ≡ false → id_eq a.id b.id ≡ true
standing_apart a b e f = grind (arith, nat_tests)

-- ---- transactions that stand in a list

-- some standing of the list is that of x
abbrev pub stands : TxnId → List Standing → Bool
stands x list = list_any (λ (s : Standing). id_eq s.id x) list

-- each stands with its stable record
abbrev pub Truly : List Taken → List Standing → Type 0
Truly history list = AllByRecursion (λ (s : Standing). stable_of history s.id ≡ Some s.settled) list

one_truly : (history : List Taken) (x : TxnId) (o : Option Settled) → stable_of history x ≡ o → Truly history (standing_with x o)
one_truly history x None e = tt
one_truly history x (Some s) e = (e, tt)

stable_ones-Truly : (history : List Taken) (heard : List Heard) → Truly history (stable_ones history heard)
stable_ones-Truly history [] = tt
stable_ones-Truly history (k ∷ heard) =
    each_append (λ (s : Standing). stable_of history s.id ≡ Some s.settled) (standing_with k.id (stable_of history k.id)) (stable_ones history heard)
    (one_truly history k.id (stable_of history k.id) refl) (stable_ones-Truly history heard)

one_stands : (x : TxnId) (s : Settled) (o : Option Settled) → o ≡ Some s → stands x (standing_with x o) ≡ true
one_stands x s None e = absurd (not_none s e)
one_stands x s (Some t) e = or_left _ _ ((id_order.decides x x).1 refl)

-- a known stable transaction stands among the stable ones
stable_ones-stands : (history : List Taken) (heard : List Heard) (x : TxnId) (s : Settled)
    → is_heard x heard ≡ true → stable_of history x ≡ Some s → stands x (stable_ones history heard) ≡ true
stable_ones-stands history [] x s known stable = known
stable_ones-stands history (k ∷ heard) x s known stable =
    list_any-append (λ (s : Standing). id_eq s.id x) (standing_with k.id (stable_of history k.id)) (stable_ones history heard)
    ∙ ⊎_elim
    (λ same. or_left _ _ (subst (λ y. stands y (standing_with k.id (stable_of history k.id)) ≡ true) ((id_order.decides k.id x).0 same)
    (one_stands k.id s (stable_of history k.id) (ap (stable_of history) ((id_order.decides k.id x).0 same) ∙ stable))))
    (λ later. or_right _ _ (stable_ones-stands history heard x s later stable))
    (or_cases (id_eq k.id x) (is_heard x heard) known)

-- ---- in turn

with_each : (P : Standing → Type 0) (s : Standing) (list : List Standing) → P s → AllByRecursion P list
    → AllByRecursion P (rising_with standing_lt s list)
with_each P s [] p h = (p, tt)
with_each P s (z ∷ zs) p h =
    cond_both (standing_lt s z) (s ∷ z ∷ zs) (cond (standing_lt z s) (z ∷ rising_with standing_lt s zs) (z ∷ zs)) (AllByRecursion P)
    (λ _. (p, h))
    (λ _. cond_both (standing_lt z s) (z ∷ rising_with standing_lt s zs) (z ∷ zs) (AllByRecursion P)
    (λ _. (h.0, with_each P s zs p h.1)) (λ _. h))

pub in_turn-each : (P : Standing → Type 0) (list : List Standing) → AllByRecursion P list → AllByRecursion P (in_turn list)
in_turn-each P [] h = tt
in_turn-each P (s ∷ rest) h = with_each P s (in_turn rest) h.0 (in_turn-each P rest h.1)

-- no later one has a smaller timestamp
abbrev pub Sorted : List Standing → Type 0
Sorted [] = Unit {0}
Sorted (s ∷ rest) = AllByRecursion (λ (r : Standing). stamp_lt r.settled.t s.settled.t ≡ false) rest × Sorted rest

behind_too : (s z : Standing) (zs : List Standing) → stamp_lt z.settled.t s.settled.t ≡ false
    → AllByRecursion (λ (r : Standing). stamp_lt r.settled.t z.settled.t ≡ false) zs
    → AllByRecursion (λ (r : Standing). stamp_lt r.settled.t s.settled.t ≡ false) zs
behind_too s z [] first h = tt
behind_too s z (r ∷ zs) first h =
    (le-trans stamp_order s.settled.t z.settled.t r.settled.t first h.0, behind_too s z zs first h.1)

with_Sorted : (s : Standing) (list : List Standing) → Sorted list → Sorted (rising_with standing_lt s list)
with_Sorted s [] h = (tt, tt)
with_Sorted s (z ∷ zs) h =
    cond_both (standing_lt s z) (s ∷ z ∷ zs) (cond (standing_lt z s) (z ∷ rising_with standing_lt s zs) (z ∷ zs)) Sorted
    (λ before. let first = standing_lt-t s z before in ((first, behind_too s z zs first h.0), h))
    (λ _. cond_both (standing_lt z s) (z ∷ rising_with standing_lt s zs) (z ∷ zs) Sorted
    (λ before. (with_each (λ (r : Standing). stamp_lt r.settled.t z.settled.t ≡ false) s zs (standing_lt-t z s before) h.0, with_Sorted s zs h.1))
    (λ _. h))

pub in_turn-Sorted : (list : List Standing) → Sorted (in_turn list)
in_turn-Sorted [] = tt
in_turn-Sorted (s ∷ rest) = with_Sorted s (in_turn rest) (in_turn-Sorted rest)

with_stands : (x : TxnId) (s : Standing) (list : List Standing) → stands x list ≡ true
    → stands x (rising_with standing_lt s list) ≡ true
with_stands x s [] h = absurd (true≢false (sym h))
with_stands x s (z ∷ zs) h =
    cond_both (standing_lt s z) (s ∷ z ∷ zs) (cond (standing_lt z s) (z ∷ rising_with standing_lt s zs) (z ∷ zs)) (λ list. stands x list ≡ true)
    (λ _. or_right (id_eq s.id x) _ h)
    (λ _. cond_both (standing_lt z s) (z ∷ rising_with standing_lt s zs) (z ∷ zs) (λ list. stands x list ≡ true)
    (λ _. ⊎_elim (λ same. or_left (id_eq z.id x) _ same) (λ later. or_right (id_eq z.id x) _ (with_stands x s zs later)) (or_cases (id_eq z.id x) (stands x zs) h))
    (λ _. h))

with_itself : (x : TxnId) (s : Standing) (list : List Standing) → id_eq s.id x ≡ true
    → stands x (rising_with standing_lt s list) ≡ true
with_itself x s [] same = or_left (id_eq s.id x) _ same
with_itself x s (z ∷ zs) same =
    cond_both (standing_lt s z) (s ∷ z ∷ zs) (cond (standing_lt z s) (z ∷ rising_with standing_lt s zs) (z ∷ zs)) (λ list. stands x list ≡ true)
    (λ _. or_left (id_eq s.id x) _ same)
    (λ above. cond_both (standing_lt z s) (z ∷ rising_with standing_lt s zs) (z ∷ zs) (λ list. stands x list ≡ true)
    (λ _. or_right (id_eq z.id x) _ (with_itself x s zs same))
    (λ below. or_left (id_eq z.id x) _ (subst (λ y. id_eq z.id y ≡ true) ((id_order.decides s.id x).0 same) (standing_apart z s below above))))

pub in_turn-stands : (x : TxnId) (list : List Standing) → stands x list ≡ true → stands x (in_turn list) ≡ true
in_turn-stands x [] h = h
in_turn-stands x (s ∷ rest) h =
    ⊎_elim (with_itself x s (in_turn rest)) (λ later. with_stands x s (in_turn rest) (in_turn-stands x rest later))
    (or_cases (id_eq s.id x) (stands x rest) h)

-- ---- what is stable is known

learnt_keeps : (b : Bool) (id x : TxnId) (body : Option BodyParts) (before : List Heard) → is_heard x before ≡ true
    → is_heard x (learnt b id body before) ≡ true
learnt_keeps true id x body before h = h
learnt_keeps false id x None before h = h
learnt_keeps false id x (Some body) before h = or_right (id_eq id x) _ h

learnt_new : (b : Bool) (id x : TxnId) (body : BodyParts) (before : List Heard) → is_heard id before ≡ b → id_eq id x ≡ true
    → is_heard x (learnt b id (Some body) before) ≡ true
learnt_new true id x body before h same = subst (λ y. is_heard y before ≡ true) ((id_order.decides id x).0 same) h
learnt_new false id x body before h same = or_left (id_eq id x) _ same

settled_if : (b : Bool) (mine s : Settled) → cond b (Some mine) None ≡ Some s → b ≡ true
settled_if true mine s e = refl
settled_if false mine s e = absurd (not_none s e)

settled-learnt : (m : Message) (x : TxnId) (s : Settled) (before : List Heard) → settled_in x m ≡ Some s
    → is_heard x (learnt_from m before) ≡ true
settled-learnt (Stable from to id ballot body t deps) x s before e =
    learnt_new (is_heard id before) id x body before refl (settled_if (id_eq id x) _ s e)
settled-learnt (Apply from to id ballot body t deps outcome) x s before e =
    learnt_new (is_heard id before) id x body before refl (settled_if (id_eq id x) _ s e)
settled-learnt (PreAccept from to id ballot body) x s before e = absurd (not_none s e)
settled-learnt (PreAcceptOk from to id ballot vote deps) x s before e = absurd (not_none s e)
settled-learnt (Accept from to id ballot body t deps) x s before e = absurd (not_none s e)
settled-learnt (AcceptOk from to id ballot deps) x s before e = absurd (not_none s e)
settled-learnt (Commit from to id ballot body t deps) x s before e = absurd (not_none s e)
settled-learnt (CommitOk from to id ballot) x s before e = absurd (not_none s e)
settled-learnt (ReadOk from to id ballot answer) x s before e = absurd (not_none s e)
settled-learnt (Recover from to id ballot body) x s before e = absurd (not_none s e)
settled-learnt (RecoverOk from to id ballot view) x s before e = absurd (not_none s e)
settled-learnt (Nack from to id ballot promised) x s before e = absurd (not_none s e)
settled-learnt (Decided from to id ballot t deps) x s before e = absurd (not_none s e)
settled-learnt (Inform from to id ballot outcome) x s before e = absurd (not_none s e)

stable_either : (step : Taken) (past : List Taken) (x : TxnId) (s : Settled) (o : Option Settled) → stable_of past x ≡ o
    → or_else o (settled_in x step.message) ≡ Some s → (stable_of past x ≡ Some s → is_heard x (known past) ≡ true)
    → is_heard x (known (step ∷ past)) ≡ true
stable_either step past x s None was e earlier = settled-learnt step.message x s (known past) e
stable_either step past x s (Some t) was e earlier =
    learnt_keeps (is_heard (id_of step.message) (known past)) (id_of step.message) x (body_in step.message) (known past) (earlier (was ∙ e))

pub stable_of-known : (history : List Taken) (x : TxnId) (s : Settled) → stable_of history x ≡ Some s → is_heard x (known history) ≡ true
stable_of-known [] x s e = absurd (not_none s e)
stable_of-known (step ∷ past) x s e =
    stable_either step past x s (stable_of past x) refl e (stable_of-known past x s)

-- ---- the whole

pub turns-stands : (history : List Taken) (x : TxnId) (s : Settled) → stable_of history x ≡ Some s
    → stands x (in_turn (stable_ones history (known history))) ≡ true
turns-stands history x s e =
    in_turn-stands x (stable_ones history (known history))
    (stable_ones-stands history (known history) x s (stable_of-known history x s e) e)

pub turns-Truly : (history : List Taken) → Truly history (in_turn (stable_ones history (known history)))
turns-Truly history =
    in_turn-each (λ (s : Standing). stable_of history s.id ≡ Some s.settled) (stable_ones history (known history))
    (stable_ones-Truly history (known history))
