-- Items that begin the transactions of given ids, and nothing else: a history that knows these ids stands for them.
use Rattle.std.proofs.Common.{◌≡◌, ℕ, zero, suc, ◌+◌, ◌<◌, ◌==◌, ◌||◌, Bool, true, false, cond, List, [], ◌∷◌, Option, None, Some, slice_get, refl, sym, ◌∙◌, ap, arith}
use Rattle.std.proofs.lemmas.Bool.Decides.{nat_tests}
use Rattle.acc_base.specs.Faults.{or_else}
use Rattle.acc_stamp.specs.declared.actors.Actor.{Actor}
use Rattle.acc_stamp.specs.declared.stamps.TxnId.{TxnId}
use Rattle.acc_message.specs.declared.entry.Event.TheVariants.{Begin}
use Rattle.acc_message.specs.declared.note.Note.TheVariants.{Begin as BeginNote}
use Rattle.acc_message.specs.declared.item.Item.{Item}
use Rattle.acc_message.specs.declared.item.Item.TheVariants.{Step}
use Rattle.acc_message.specs.Items.{is_begun, id_of_txn}
use Rattle.acc_message.specs.Run.{is_down, down_after}
use Rattle.acc_history.specs.Begun.{begun_as, known_as}

-- an item that begins the transaction with this number
abbrev pub begin_of : ℕ → TxnId → Item
begin_of txn id =
    Step (record { actor = record { 0 = 0 }; event = Begin txn; emitted = record { notes = BeginNote id ∷ []; out = [] }; lost = false })

-- those of the ids from this number on
pub begins_of : ℕ → List (Option TxnId) → List Item
begins_of first [] = []
begins_of first (None ∷ ids) = begins_of (suc first) ids
begins_of first (Some id ∷ ids) = begin_of first id ∷ begins_of (suc first) ids

-- nobody is down there
pub nobody_down : (first : ℕ) (ids : List (Option TxnId)) (a : Actor) → is_down a (begins_of first ids) ≡ false
unfolding begins_of
nobody_down first [] a = refl
nobody_down first (None ∷ ids) a = nobody_down (suc first) ids a
nobody_down first (Some id ∷ ids) a = ap (down_after a (begin_of first id)) (nobody_down (suc first) ids a)

unlike : (n k : ℕ) → n < k → (k == n) ≡ false
unlike n k low = grind (arith, nat_tests)

-- no smaller number is begun
none_below : (first : ℕ) (ids : List (Option TxnId)) (n : ℕ) → n < first
    → (is_begun (begins_of first ids) n ≡ false) × (id_of_txn (begins_of first ids) n ≡ None)
unfolding begins_of
none_below first [] n low = (refl, refl)
none_below first (None ∷ ids) n low = none_below (suc first) ids n (omega (arith, low))
none_below first (Some id ∷ ids) n low =
    let rest = none_below (suc first) ids n (omega (arith, low)) in
    let other = unlike n first low in (
      ap (λ b. b || is_begun (begins_of (suc first) ids) n) other ∙ rest.0,
      ap (λ b. or_else (id_of_txn (begins_of (suc first) ids) n) (cond b (Some id) None)) other ∙ ap (λ o. or_else o None) rest.1,
    )

or_none : (o : Option TxnId) → or_else o None ≡ o
or_none None = refl
or_none (Some id) = refl

-- the first of them is known, and behind another one nothing has changed
here_known : (here begun : Bool) (rest : Option TxnId) (id : TxnId) → here ≡ true → rest ≡ None
    → begun_as (here || begun) (or_else rest (cond here (Some id) None)) ≡ Some (Some id)
here_known true begun rest id is none = ap (λ o. Some (or_else o (Some id))) none
here_known false begun rest id is none = cc

there_known : (here begun : Bool) (rest : Option TxnId) (id : TxnId) → here ≡ false
    → begun_as (here || begun) (or_else rest (cond here (Some id) None)) ≡ begun_as begun rest
there_known true begun rest id is = cc
there_known false begun rest id is = ap (begun_as begun) (or_none rest)

same_number : (n : ℕ) → (n == n + 0) ≡ true
same_number n = grind (arith, nat_tests)

told_from : (first : ℕ) (ids : List (Option TxnId)) (k : ℕ)
    → known_as (slice_get ids k) ≡ begun_as (is_begun (begins_of first ids) (first + k)) (id_of_txn (begins_of first ids) (first + k))
unfolding begins_of
told_from first [] k = refl
told_from first (None ∷ ids) zero =
    sym (ap (λ b. begun_as b (id_of_txn (begins_of (suc first) ids) (first + 0))) (none_below (suc first) ids (first + 0) (omega arith)).0)
told_from first (None ∷ ids) (suc k) =
    let next : suc first + k ≡ first + suc k = omega arith in
    told_from (suc first) ids k
    ∙ ap (λ n. begun_as (is_begun (begins_of (suc first) ids) n) (id_of_txn (begins_of (suc first) ids) n)) next
told_from first (Some id ∷ ids) zero =
    sym (here_known (first == first + 0) (is_begun (begins_of (suc first) ids) (first + 0)) (id_of_txn (begins_of (suc first) ids) (first + 0)) id
    (same_number first) (none_below (suc first) ids (first + 0) (omega arith)).1)
told_from first (Some id ∷ ids) (suc k) =
    let next : suc first + k ≡ first + suc k = omega arith in
    told_from (suc first) ids k
    ∙ ap (λ n. begun_as (is_begun (begins_of (suc first) ids) n) (id_of_txn (begins_of (suc first) ids) n)) next
    ∙ sym (there_known (first == first + suc k) (is_begun (begins_of (suc first) ids) (first + suc k)) (id_of_txn (begins_of (suc first) ids) (first + suc k)) id (apart first k))
  where
    apart : (n j : ℕ) → (n == n + suc j) ≡ false
    apart n j = grind (arith, nat_tests)

-- what is known of each transaction is told by them
pub told : (ids : List (Option TxnId)) (txn : ℕ) → known_as (slice_get ids txn) ≡ begun_as (is_begun (begins_of 0 ids) txn) (id_of_txn (begins_of 0 ids) txn)
told ids txn =
    let same : 0 + txn ≡ txn = omega arith in
    told_from 0 ids txn ∙ ap (λ n. begun_as (is_begun (begins_of 0 ids) n) (id_of_txn (begins_of 0 ids) n)) same
