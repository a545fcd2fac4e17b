-- A bounded message whose dependencies are sets fits the format, where few transactions were begun.
use Rattle.std.proofs.Common.{◌≡◌, ℕ, ◌+◌, ◌≤◌, ◌<◌, ◌^◌, true, false, List, [], ◌∷◌, ◌++◌, length, Option, None, Some, sym, ap, subst, arith, ⊎_elim}
use Rattle.std.specs.Prelude.{IfSome}
use Rattle.std.specs.List.{AllByRecursion, IsDistinct}
use Rattle.std.specs.Cmp.{IsEquivalence}
use Rattle.std.specs.Set.{is_member}
use Rattle.std.proofs.lemmas.Bool.{true≢false, or_cases, or_left, or_right, ltb-true}
use Rattle.std.proofs.lemmas.Map.Made.{length-le_from_is_member}
use Rattle.acc_stamp.specs.declared.stamps.TxnId.{TxnId}
use Rattle.acc_stamp.specs.declared.actors.Actor.{Actor}
use Rattle.acc_stamp.specs.Stamp.{id_eq, id_lt}
use Rattle.acc_stamp.specs.Rising.{IsRisingBy, IsRising}
use Rattle.acc_stamp.proofs.Order.{id_order, eq_itself, eq-sym, apart}
use Rattle.acc_stamp.proofs.Rising.{each_weaker, each_parts}
use Rattle.acc_deps.specs.declared.shards.ShardDeps.{ShardDeps}
use Rattle.acc_deps.specs.declared.records.Accepted.{Accepted}
use Rattle.acc_deps.specs.declared.records.Settled.{Settled}
use Rattle.acc_deps.specs.declared.records.View.{View}
use Rattle.acc_deps.specs.Deps.{AreDeps, shard_lt}
use Rattle.acc_message.specs.declared.message.Message.{Message}
use Rattle.acc_message.specs.declared.message.Message.TheVariants.{PreAccept, PreAcceptOk, Accept, AcceptOk, Commit, CommitOk, Stable, ReadOk, Apply, Recover, RecoverOk, Nack, Decided, Inform}
use Rattle.acc_message.specs.Fields.{from_of, to_of}
use Rattle.acc_message_code.specs.Short.{IsShortActor, AreShortIds, IsShortShard, AreShortDeps, IsShortAccepted, IsShortSettled, IsShortView, HasShortContent, IsShortMessage}
use Rattle.acc_safety.specs.Places.{IsIn, First, Later}
use Rattle.acc_safety.specs.Statements.{deps_accepted, deps_settled, deps_in_view, deps_named}
use Rattle.acc_safety.proofs.PlaceOrder.{each_at}
use Rattle.acc_run_laws.proofs.Bounded.{IsActor, IsBegunShard, AreBegunDeps, IsBoundedSettled, IsBoundedAccepted, IsBoundedView, HasBoundedContent, IsBounded}

-- ---- how many there are

id_equivalence : IsEquivalence id_eq
id_equivalence = record { refl = eq_itself id_order; symm = eq-sym id_order; congr = λ x y z same. ap (λ k. id_eq k z) ((id_order.decides x y).0 same) }

rising_distinct : (ids : List TxnId) → IsRising ids → IsDistinct id_eq ids
unfolding IsDistinct
rising_distinct [] h = tt
rising_distinct (x ∷ ids) h = (each_weaker (λ y. id_lt x y ≡ true) (λ y. id_eq x y ≡ false) ids (λ y below. apart id_order x y below) h.0, rising_distinct ids h.1)

member_is_in : (ids : List TxnId) (q : TxnId) → is_member id_eq ids q ≡ true → IsIn q ids
member_is_in [] q h = absurd (true≢false (sym h))
member_is_in (x ∷ ids) q h =
    ⊎_elim (λ same. subst (λ y. IsIn y (x ∷ ids)) (sym ((id_order.decides q x).0 same)) (First x ids)) (λ rest. Later q x ids (member_is_in ids q rest))
    (or_cases (id_eq q x) (is_member id_eq ids q) h)

is_in_member : (ids : List TxnId) (q : TxnId) → IsIn q ids → is_member id_eq ids q ≡ true
is_in_member ids q (First x rest) = or_left (id_eq x x) (is_member id_eq rest x) (eq_itself id_order x)
is_in_member ids q (Later x y rest there) = or_right (id_eq x y) (is_member id_eq rest x) (is_in_member rest x there)

few_ids : (begun ids : List TxnId) → IsRising ids → AllByRecursion (λ id. IsIn id begun) ids → length ids ≤ length begun
few_ids begun ids rise h =
    length-le_from_is_member id_equivalence ids begun (rising_distinct ids rise)
    (λ q among. is_in_member begun q (each_at (λ id. IsIn id begun) q ids h (member_is_in ids q among)))

few_shards : (begun : List TxnId) (deps : List ShardDeps) (first : ℕ) → first ≤ 16 → IsRisingBy shard_lt deps → AllByRecursion (λ (d : ShardDeps). first ≤ d.shard) deps → AreBegunDeps begun deps
    → length deps + first ≤ 16
few_shards begun [] first le rise above h = omega (arith, le)
few_shards begun (d ∷ deps) first le rise above h =
    let most = h.0.most in
    let rest = few_shards begun deps (d.shard + 1) (omega (arith, most)) rise.1 (each_weaker (λ (e : ShardDeps). shard_lt d e ≡ true) (λ (e : ShardDeps). d.shard + 1 ≤ e.shard) deps (λ e lt. after d.shard e.shard (ltb-true d.shard e.shard lt)) rise.0) h.1 in
    omega (arith, rest, above.0)
  where
    after : (n m : ℕ) → n < m → n + 1 ≤ m
    after n m lt = omega (arith, lt)

-- ---- dependencies and records

module _ (begun : List TxnId) (few : length begun ≤ 10000) where
  short_ids : (ids : List TxnId) → IsRising ids → AllByRecursion (λ id. IsIn id begun) ids → AreShortIds ids
  short_ids ids rise h = let count = few_ids begun ids rise h in omega (arith, count, few)

  short_shards : (deps : List ShardDeps) → AllByRecursion (λ (d : ShardDeps). IsRising d.ids) deps → AreBegunDeps begun deps → AllByRecursion IsShortShard deps
  short_shards [] rise h = tt
  short_shards (d ∷ deps) rise h = (record { least = h.0.least; most = h.0.most; ids = short_ids d.ids rise.0 h.0.ids }, short_shards deps rise.1 h.1)

  short_deps : (deps : List ShardDeps) → AreDeps deps → AreBegunDeps begun deps → AreShortDeps deps
  short_deps deps set h =
      let count = few_shards begun deps 1 (omega arith) set.shards (each_weaker (IsBegunShard begun) (λ (d : ShardDeps). 1 ≤ d.shard) deps (λ d k. k.least) h) h in
      record { count = omega (arith, count); shards = short_shards deps set.ids h }

  module _ (most : ℕ) where
    short_accepted : (o : Option Accepted) → AllByRecursion AreDeps (deps_accepted o) → IfSome o (IsBoundedAccepted most begun) → IfSome o IsShortAccepted
    short_accepted None sets h = tt
    short_accepted (Some a) sets h = short_deps a.deps sets.0 h.deps

    short_settled : (o : Option Settled) → AllByRecursion AreDeps (deps_settled o) → IfSome o (IsBoundedSettled most begun) → IfSome o IsShortSettled
    short_settled None sets h = tt
    short_settled (Some s) sets h = short_deps s.deps sets.0 h.deps

    short_actor : (a : Actor) → IsActor a → IsShortActor a
    short_actor a h = low a.0 h.number
      where
        low : (n : ℕ) → n < 1024 → n < 2 ^ 16
        low n lt = omega (arith, lt)

    short_view : (v : View) → AllByRecursion AreDeps (deps_in_view v) → IsBoundedView most begun v → IsShortView v
    short_view v sets h =
        let outer = each_parts AreDeps (deps_accepted v.accepted ++ deps_accepted v.committed) (deps_settled v.stable) sets.1 in
        let inner = each_parts AreDeps (deps_accepted v.accepted) (deps_accepted v.committed) outer.0 in
        record {
          store = short_actor v.store h.store;
          vote_deps = short_deps v.vote_deps sets.0 h.vote_deps;
          accepted = short_accepted v.accepted inner.0 h.accepted;
          committed = short_accepted v.committed inner.1 h.committed;
          stable = short_settled v.stable outer.1 h.stable;
          waits = short_ids v.waits h.waits_rise h.waits;
          waits_rise = h.waits_rise;
        }

    -- ---- messages

    short_content : (m : Message) → AllByRecursion AreDeps (deps_named m) → HasBoundedContent most begun m → HasShortContent m
    short_content (PreAccept from to id ballot body) sets h = tt
    short_content (PreAcceptOk from to id ballot vote deps) sets h = short_deps deps sets.0 h.1
    short_content (Accept from to id ballot body t deps) sets h = short_deps deps sets.0 h.deps_begun
    short_content (AcceptOk from to id ballot deps) sets h = short_deps deps sets.0 h
    short_content (Commit from to id ballot body t deps) sets h = short_deps deps sets.0 h.deps_begun
    short_content (CommitOk from to id ballot) sets h = tt
    short_content (Stable from to id ballot body t deps) sets h = short_deps deps sets.0 h.deps_begun
    short_content (ReadOk from to id ballot answer) sets h = h
    short_content (Apply from to id ballot body t deps outcome) sets h = (short_deps deps sets.0 h.0.deps_begun, h.1)
    short_content (Recover from to id ballot body) sets h = tt
    short_content (RecoverOk from to id ballot view) sets h = short_view view sets h
    short_content (Nack from to id ballot promised) sets h = tt
    short_content (Decided from to id ballot t deps) sets h = short_deps deps sets.0 h.1
    short_content (Inform from to id ballot outcome) sets h = h

    pub short_message : (m : Message) → AllByRecursion AreDeps (deps_named m) → IsBounded most begun m → IsShortMessage m
    short_message m sets h = record { from = short_actor (from_of m) h.from; to = short_actor (to_of m) h.address.to; content = short_content m sets h.content }
