-- A plan ends: each turn is of another known transaction.
use Rattle.std.proofs.Common.{◌≡◌, ℕ, ◌+◌, ◌<◌, ◌≤◌, Bool, true, false, cond, ◌||◌, List, [], ◌∷◌, ◌++◌, Some, sym, refl, ap, ◌∙◌, arith}
use Rattle.std.specs.Map.{lookup as lookup_in}
use Rattle.std.specs.List.{Contains, list_any}
use Rattle.std.proofs.lemmas.Bool.{true≢false, or_left, or_right, false_from_ne_true}
use Rattle.std.proofs.lemmas.List.Folds.{list_any-append}
use Rattle.acc_stamp.specs.declared.stamps.TxnId.{TxnId}
use Rattle.acc_stamp.specs.Stamp.{id_eq}
use Rattle.acc_stamp.proofs.Order.{id_order}
use Rattle.acc_record.specs.declared.record.Record.{Record}
use Rattle.acc_record.specs.declared.shelf.Watch.{Watch}
use Rattle.acc_record.specs.Shelf.{Records, record_at}
use Rattle.acc_opening.specs.Plan.{Lookup, settled_in}
use Rattle.acc_opening.specs.declared.turns.Turn.{Turn}
use Rattle.acc_opening.specs.Lookup.{lookup}
use Rattle.acc_opening.specs.Turns.{key_of, key_lt, HasItsTime}
use Rattle.acc_opening.specs.State.{IsUnderWay}
use Rattle.acc_opening.proofs.TurnFacts.{key_lt-irrefl, Contains-first, Contains-later}
use Rattle.acc_opening.proofs.StateFacts.{some_same, each_contained}

abbrev pub is_turned : List Turn → TxnId → Bool
is_turned done x = list_any (λ (a : Turn). id_eq a.id x) done

abbrev pub is_left : List Turn → TxnId → ℕ
is_left done x = cond (is_turned done x) 0 1

abbrev pub left_in : List Turn → List (TxnId × Record) → ℕ
left_in done [] = 0
left_in done (e ∷ es) = is_left done e.0 + left_in done es

-- how many of the known transactions had no turn
abbrev pub left : Records → Record → List Turn → ℕ
left records own done = left_in done records.entries + is_left done own.id

fewer : (a b : Bool) → (a ≡ true → b ≡ true) → cond b 0 1 ≤ cond a 0 1
fewer true true f = omega arith
fewer true false f = absurd (true≢false (sym (f refl)))
fewer false true f = omega arith
fewer false false f = omega arith

turned-push : (done : List Turn) (t : Turn) (x : TxnId) → is_turned (done ++ t ∷ []) x ≡ (is_turned done x || (id_eq t.id x || false))
turned-push done t x = list_any-append (λ (a : Turn). id_eq a.id x) done (t ∷ [])

turned-kept : (done : List Turn) (t : Turn) (x : TxnId) → is_turned done x ≡ true → is_turned (done ++ t ∷ []) x ≡ true
turned-kept done t x h = turned-push done t x ∙ or_left (is_turned done x) _ h

left-less : (done : List Turn) (t : Turn) (x : TxnId) → is_left (done ++ t ∷ []) x ≤ is_left done x
left-less done t x = fewer (is_turned done x) (is_turned (done ++ t ∷ []) x) (turned-kept done t x)

left_in-less : (done : List Turn) (t : Turn) (es : List (TxnId × Record)) → left_in (done ++ t ∷ []) es ≤ left_in done es
left_in-less done t [] = omega arith
left_in-less done t (e ∷ es) = let h = left-less done t e.0 in let k = left_in-less done t es in omega arith

one_less : (done : List Turn) (t : Turn) (x : TxnId) → t.id ≡ x → is_turned done t.id ≡ false → is_left (done ++ t ∷ []) x < is_left done x
one_less done t x e h =
    let now : is_turned (done ++ t ∷ []) x ≡ true = turned-push done t x ∙ or_right (is_turned done x) _ (or_left (id_eq t.id x) false ((id_order.decides t.id x).1 e)) in
    let was : is_turned done x ≡ false = ap (is_turned done) (sym e) ∙ h in
    let p : is_left (done ++ t ∷ []) x ≡ 0 = ap (λ b. cond b 0 1) now in
    let q : is_left done x ≡ 1 = ap (λ b. cond b 0 1) was in
    omega arith

entries_less : (done : List Turn) (t : Turn) (es : List (TxnId × Record)) (r : Record) → lookup_in (λ k. id_eq t.id k) es ≡ Some r
    → is_turned done t.id ≡ false → left_in (done ++ t ∷ []) es < left_in done es
entries_less done t [] r e h = absurd cc
entries_less done t (e ∷ es) r is h = by (λ rest. entries_less done t es r rest h) (id_eq t.id e.0) refl
  where
    by : (lookup_in (λ k. id_eq t.id k) es ≡ Some r → left_in (done ++ t ∷ []) es < left_in done es) → (b : Bool) → id_eq t.id e.0 ≡ b
        → left_in (done ++ t ∷ []) (e ∷ es) < left_in done (e ∷ es)
    by later true k =
        let a = one_less done t e.0 ((id_order.decides t.id e.0).0 k) h in
        let b = left_in-less done t es in
        omega arith
    by later false k =
        let a = left-less done t e.0 in
        let rest : lookup_in (λ k. id_eq t.id k) es ≡ Some r = sym (ap (λ b. cond b (Some e.1) (lookup_in (λ k. id_eq t.id k) es)) k) ∙ is in
        let b = later rest in
        omega arith

any_at : (x : TxnId) (done : List Turn) → is_turned done x ≡ true → (a : Turn) × Contains done a × (a.id ≡ x)
any_at x [] h = absurd (true≢false (sym h))
any_at x (a ∷ done) h = by (any_at x done) (id_eq a.id x) refl
  where
    by : (is_turned done x ≡ true → (c : Turn) × Contains done c × (c.id ≡ x)) → (b : Bool) → id_eq a.id x ≡ b
        → (c : Turn) × Contains (a ∷ done) c × (c.id ≡ x)
    by later true k = (a, Contains-first a done, (id_order.decides a.id x).0 k)
    by later false k =
        let rest = later (sym (ap (λ b. b || is_turned done x) k) ∙ h) in
        (rest.0, Contains-later a done rest.0 rest.1, rest.2)

-- the one that comes had no turn
not_turned : (shard : ℕ) (at : Lookup) (watching : TxnId → List Watch) (done : List Turn) (turn : Turn) (rest : List Turn)
    → IsUnderWay shard at watching [] done (turn ∷ rest) → is_turned done turn.id ≡ false
not_turned shard at watching done turn rest s =
    false_from_ne_true (is_turned done turn.id)
    (λ h.
    let a = any_at turn.id done h in
    let mine : HasItsTime at turn = s.queue_times turn (Contains-first turn rest) in
    let its : HasItsTime at a.0 = each_contained (HasItsTime at) done a.0 s.times a.1 in
    let same : its.settled ≡ mine.settled = some_same its.settled mine.settled (sym its.stable ∙ ap (λ x. settled_in (at x)) a.2 ∙ mine.stable) in
    let t : a.0.t ≡ turn.t = its.t ∙ ap (λ z. z.t) same ∙ sym mine.t in
    let key : key_of a.0 ≡ key_of turn = λ i. (t i, a.2 i) in
    true≢false (sym (s.later a.0 turn a.1 (Contains-first turn rest)) ∙ ap (λ k. key_lt k (key_of turn)) key ∙ key_lt-irrefl (key_of turn)))

pub less_left : (shard : ℕ) (records : Records) (own : Record) (watching : TxnId → List Watch) (done : List Turn) (turn : Turn) (rest : List Turn)
    → IsUnderWay shard (lookup records own) watching [] done (turn ∷ rest) → left records own (done ++ turn ∷ []) < left records own done
less_left shard records own watching done turn rest s = by (id_eq turn.id own.id) refl
  where
    h : is_turned done turn.id ≡ false
    h = not_turned shard (lookup records own) watching done turn rest s

    by : (b : Bool) → id_eq turn.id own.id ≡ b → left records own (done ++ turn ∷ []) < left records own done
    by true k =
        let a = one_less done turn own.id ((id_order.decides turn.id own.id).0 k) h in
        let b = left_in-less done turn records.entries in
        omega arith
    by false k =
        let right = s.due turn (Contains-first turn rest) in
        let there : record_at records turn.id ≡ Some right.there = sym (ap (λ b. cond b (Some own) (record_at records turn.id)) k) ∙ right.there_is in
        let a = left-less done turn own.id in
        let b = entries_less done turn records.entries right.there there h in
        omega arith
