-- Stamps and dependencies: what is read is what is spelled.
use Rattle.std.proofs.Common.{◌≡◌, ℕ, ◌+◌, ◌^◌, ◌<◌, ◌≤◌, true, List, [], ◌∷◌, ◌++◌, length, append_assoc, refl, sym, subst, ◌∙◌, IsTrue, arith}
use Rattle.std.specs.Prelude.{nat_le, nat_lt}
use Rattle.std.specs.List.{flat_map, list_all, AllByRecursion}
use Rattle.std.proofs.lemmas.Bool.{leb-true, le-leb}
use Rattle.std.proofs.lemmas.List.{append-nil}
use Rattle.acc_wire.specs.Spelling.{u8_bytes, u16_bytes, u32_bytes, u64_bytes}
use Rattle.acc_wire.specs.Reading.{Passes, u16_at}
use Rattle.acc_wire.proofs.Fields.{IsField, unread, u16_field, u32_field, u64_field, Passes-then}
use Rattle.acc_wire.proofs.Chains.{step_takes, step_again, Passes-split}
use Rattle.acc_stamp.specs.declared.stamps.Stamp.{Stamp}
use Rattle.acc_stamp.specs.declared.stamps.TxnId.{TxnId}
use Rattle.acc_stamp.specs.declared.stamps.Ballot.{Ballot}
use Rattle.acc_stamp.specs.declared.actors.Actor.{Actor}
use Rattle.acc_deps.specs.declared.shards.ShardDeps.{ShardDeps}
use Rattle.acc_stamp.specs.Stamp.{id_lt}
use Rattle.acc_stamp.specs.Rising.{IsRising, IsRisingBy}
use Rattle.acc_stamp.proofs.Order.{id_order}
use Rattle.acc_stamp.proofs.Rising.{IsRisingBy-across, each_parts}
use Rattle.acc_deps.specs.Deps.{shard_lt}
use Rattle.acc_code.specs.Reading.{passing, each_at}
use Rattle.acc_code.proofs.Formats.{made_field, made_of_two, same_field, passing_field, between_field, EachFits, each_takes, each_again, listed_field}
use Rattle.acc_message_code.specs.Spelling.{actor_bytes, stamp_bytes, id_bytes, ballot_bytes, ids_bytes, shard_bytes, deps_bytes}
use Rattle.acc_message_code.specs.Reading.{actor_at, stamp_at, id_at, ballot_at, next_id_at, ids_at, next_shard_at, shard_at, deps_at}
use Rattle.acc_message_code.specs.Short.{IsShortActor}
use Rattle.acc_message_code.specs.Fitting.{FitsStamp, FitIds, FitsShard, FitDeps}
use Rattle.acc_message_code.proofs.Rising.{each_true, true_each, rising_snoc}

abbrev make_actor : ℕ → Actor
make_actor number = record { 0 = number }

pub actor_field : IsField IsShortActor actor_bytes actor_at
unfolding actor_bytes actor_at
actor_field = same_field (made_field make_actor (λ a. u16_bytes a.0) (λ n fits. refl) u16_field) (record {
  to = λ a m. subst IsShortActor (sym m.2) m.1;
  from = λ a h. (a.0, h, refl);
  bytes_are = λ a h. refl;
})

abbrev make_stamp : ℕ → ℕ → Stamp
make_stamp h origin = record { h = h; origin = origin }

pub stamp_field : IsField FitsStamp stamp_bytes stamp_at
unfolding stamp_bytes stamp_at
stamp_field = same_field (made_of_two make_stamp (λ s. u64_bytes s.h ++ u32_bytes s.origin) (λ x y f g. refl) u64_field (λ _ _. u32_field)) (record {
  to = λ s m. subst FitsStamp (sym m.4) (record { h = m.2; origin = m.3 });
  from = λ s h. (s.h, s.origin, h.h, h.origin, refl);
  bytes_are = λ s h. refl;
})

abbrev FitsId : TxnId → Type 0
FitsId id = FitsStamp id.0

abbrev make_id : Stamp → TxnId
make_id stamp = record { 0 = stamp }

pub id_field : IsField FitsId id_bytes id_at
unfolding id_at
id_field = same_field (made_field make_id id_bytes (λ s fits. refl) stamp_field) (record {
  to = λ id m. subst FitsId (sym m.2) m.1;
  from = λ id h. (id.0, h, refl);
  bytes_are = λ id h. refl;
})

abbrev FitsBallot : Ballot → Type 0
FitsBallot ballot = FitsStamp ballot.0

abbrev make_ballot : Stamp → Ballot
make_ballot stamp = record { 0 = stamp }

pub ballot_field : IsField FitsBallot ballot_bytes ballot_at
unfolding ballot_at
ballot_field = same_field (made_field make_ballot ballot_bytes (λ s fits. refl) stamp_field) (record {
  to = λ b m. subst FitsBallot (sym m.2) m.1;
  from = λ b h. (b.0, h, refl);
  bytes_are = λ b h. refl;
})

-- ---- transactions

abbrev FitsNextId : List TxnId → TxnId → Type 0
FitsNextId front id = FitsId id × IsTrue (list_all (λ y. id_lt y id) front)

next_id_field : (front : List TxnId) → IsField (FitsNextId front) id_bytes (next_id_at front)
unfolding next_id_at
next_id_field front = passing_field (λ id. list_all (λ y. id_lt y id) front) id_field

ids_to : (front xs : List TxnId) → IsRising front → EachFits FitsNextId front xs → AllByRecursion FitsId xs × IsRising (front ++ xs)
ids_to front [] rises h = (tt, subst IsRising (sym (append-nil front)) rises)
ids_to front (x ∷ xs) rises h =
    let t = ids_to (front ++ x ∷ []) xs (rising_snoc front x rises h.0.1) h.1 in
    ((h.0.0, t.0), subst IsRising (append_assoc front (x ∷ []) xs) t.1)

heads : (front xs : List TxnId) (x : TxnId) → AllByRecursion (λ y. AllByRecursion (λ z. id_lt y z ≡ true) (x ∷ xs)) front → AllByRecursion (λ y. id_lt y x ≡ true) front
heads [] xs x h = tt
heads (y ∷ front) xs x h = (h.0.0, heads front xs x h.1)

ids_from : (front xs : List TxnId) → AllByRecursion FitsId xs → IsRising (front ++ xs) → EachFits FitsNextId front xs
ids_from front [] fits rises = tt
ids_from front (x ∷ xs) fits rises = (
  (fits.0, true_each (λ y. id_lt y x) front (heads front xs x (IsRisingBy-across id_order front (x ∷ xs) rises))),
  ids_from (front ++ x ∷ []) xs fits.1 (subst IsRising (sym (append_assoc front (x ∷ []) xs)) rises),
)

abbrev FitCounted : ℕ → List TxnId → Type 0
FitCounted least ids = (least ≤ length ids) × (length ids < 2 ^ 16) × EachFits FitsNextId [] ids

count_field : (least : ℕ) → IsField (λ n. (n < 2 ^ 16) × IsTrue (nat_le least n)) u16_bytes (passing (λ n. nat_le least n) u16_at)
count_field least = passing_field (λ n. nat_le least n) u16_field

counted_field : (least : ℕ) → IsField (FitCounted least) ids_bytes (ids_at least)
unfolding ids_bytes ids_at
counted_field least = record {
  takes = λ before after xs are_bytes e.
      let s = step_takes (count_field least) (λ n. each_at next_id_at n.0 [] n.1) before (xs, after) are_bytes e in
      let t = each_takes {Fits = FitsNextId} {at = next_id_at} next_id_field s.value [] s.after after xs s.bytes s.goes_on in
      let passes : Passes before after (u16_bytes s.value ++ flat_map id_bytes t.0) = Passes-then before s.after after (u16_bytes s.value) (flat_map id_bytes t.0) s.passes t.2 in
      let counted : Passes before after (u16_bytes (length t.0) ++ flat_map id_bytes t.0) = subst (λ (n : ℕ). Passes before after (u16_bytes n ++ flat_map id_bytes t.0)) (sym t.3) passes in
      let least_is = leb-true least s.value s.fits.1 in
      subst (λ (ys : List TxnId). Passes before after (u16_bytes (length ys) ++ flat_map id_bytes ys) × FitCounted least ys) (sym t.1) (counted, (omega (arith, least_is, t.3), omega (arith, s.fits.0, t.3), t.4));
  again = λ before after xs fits p.
      let parts = Passes-split before after (u16_bytes (length xs)) (flat_map id_bytes xs) p in
      let middle = unread (flat_map id_bytes xs ++ after.bytes) (before.place + length (u16_bytes (length xs))) in
      step_again (count_field least) (λ n. each_at next_id_at n.0 [] n.1) before middle (length xs) (fits.1, le-leb least (length xs) fits.0) parts.0
      ∙ each_again {Fits = FitsNextId} {at = next_id_at} next_id_field xs [] middle after fits.2 parts.1;
}

pub ids_field : (least : ℕ) → IsField (λ ids. (least ≤ length ids) × FitIds ids) ids_bytes (ids_at least)
ids_field least = same_field (counted_field least) (record {
  to = λ ids h. let t = ids_to [] ids tt h.2 in (h.0, record { count = h.1; stamps = t.0; rise = t.1 });
  from = λ ids h. (h.0, h.1.count, ids_from [] ids h.1.stamps h.1.rise);
  bytes_are = λ ids h. refl;
})

-- ---- dependencies

abbrev FitsNextNumber : List ShardDeps → ℕ → Type 0
FitsNextNumber front shard = ((1 ≤ shard) × (shard ≤ 15)) × IsTrue (list_all (λ d. nat_lt d.shard shard) front)

next_shard_field : (front : List ShardDeps) → IsField (FitsNextNumber front) u8_bytes (next_shard_at front)
unfolding next_shard_at
next_shard_field front = passing_field (λ shard. list_all (λ d. nat_lt d.shard shard) front) (between_field 1 15 (omega arith))

abbrev FitsNextShard : List ShardDeps → ShardDeps → Type 0
FitsNextShard front d = FitsNextNumber front d.shard × ((1 ≤ length d.ids) × FitIds d.ids)

abbrev make_shard : ℕ → List TxnId → ShardDeps
make_shard shard ids = record { shard = shard; ids = ids }

shard_field : (front : List ShardDeps) → IsField (FitsNextShard front) shard_bytes (shard_at front)
unfolding shard_bytes shard_at
shard_field front = same_field (made_of_two make_shard (λ d. u8_bytes d.shard ++ ids_bytes d.ids) (λ x y f g. refl) (next_shard_field front) (λ _ _. ids_field 1)) (record {
  to = λ d m. subst (FitsNextShard front) (sym m.4) (m.2, m.3);
  from = λ d h. (d.shard, d.ids, h.0, h.1, refl);
  bytes_are = λ d h. refl;
})

abbrev Rise : List ShardDeps → Type 0
Rise deps = IsRisingBy shard_lt deps

each_more : (P : ShardDeps → Type 0) (xs : List ShardDeps) (x : ShardDeps) → AllByRecursion P xs → P x → AllByRecursion P (xs ++ x ∷ [])
each_more P [] x h p = (p, tt)
each_more P (y ∷ xs) x h p = (h.0, each_more P xs x h.1 p)

deps_snoc : (front : List ShardDeps) (x : ShardDeps) → Rise front → AllByRecursion (λ d. shard_lt d x ≡ true) front → Rise (front ++ x ∷ [])
deps_snoc [] x rises h = (tt, tt)
deps_snoc (d ∷ front) x rises h = (each_more (λ e. shard_lt d e ≡ true) front x rises.0 h.0, deps_snoc front x rises.1 h.1)

deps_to : (front xs : List ShardDeps) → Rise front → EachFits FitsNextShard front xs → AllByRecursion FitsShard xs × Rise (front ++ xs)
deps_to front [] rises h = (tt, subst Rise (sym (append-nil front)) rises)
deps_to front (x ∷ xs) rises h =
    let t = deps_to (front ++ x ∷ []) xs (deps_snoc front x rises (each_true (λ d. nat_lt d.shard x.shard) front h.0.0.1)) h.1 in
    ((record { least = h.0.0.0.0; most = h.0.0.0.1; some = h.0.1.0; ids = h.0.1.1 }, t.0), subst Rise (append_assoc front (x ∷ []) xs) t.1)

first_above : (front : List ShardDeps) (x : ShardDeps) (xs : List ShardDeps) → Rise (front ++ x ∷ xs) → AllByRecursion (λ d. shard_lt d x ≡ true) front
first_above [] x xs h = tt
first_above (d ∷ front) x xs h = ((each_parts (λ e. shard_lt d e ≡ true) front (x ∷ xs) h.0).1.0, first_above front x xs h.1)

deps_from : (front xs : List ShardDeps) → AllByRecursion FitsShard xs → Rise (front ++ xs) → EachFits FitsNextShard front xs
deps_from front [] fits rises = tt
deps_from front (x ∷ xs) fits rises = (
  (((fits.0.least, fits.0.most), true_each (λ d. nat_lt d.shard x.shard) front (first_above front x xs rises)), (fits.0.some, fits.0.ids)),
  deps_from (front ++ x ∷ []) xs fits.1 (subst Rise (sym (append_assoc front (x ∷ []) xs)) rises),
)

pub deps_field : IsField FitDeps deps_bytes deps_at
unfolding deps_bytes deps_at
deps_field = same_field (listed_field {Fits = FitsNextShard} {at = shard_at} shard_field 0 15 (omega arith)) (record {
  to = λ deps h. let t = deps_to [] deps tt h.2 in record { count = h.1; shards = t.0; rise = t.1 };
  from = λ deps h. (omega arith, h.count, deps_from [] deps h.shards h.rise);
  bytes_are = λ deps h. refl;
})
