-- The tests tell what they are named for.
use Rattle.std.proofs.Common.{◌≡◌, ℕ, zero, suc, nat_le, nat_lt, ◌≤◌, ◌<◌, ◌^◌, Bool, true, false, ◌&&◌, IfSome, List, [], ◌∷◌, length, Option, None, Some, All, refl, arith}
use Rattle.std.proofs.lemmas.Bool.Decides.{nat_tests}
use Rattle.std.specs.List.{list_all, AllByRecursion}
use Rattle.acc_stamp.specs.declared.stamps.TxnId.{TxnId}
use Rattle.acc_stamp.specs.Stamp.{id_lt}
use Rattle.acc_stamp.specs.Rising.{is_rising_by, IsRising}
use Rattle.acc_stamp.proofs.Order.{id_order}
use Rattle.acc_stamp.proofs.Rising.{IsRisingBy-from_neighbours}
use Rattle.acc_deps.specs.declared.shards.ShardDeps.{ShardDeps}
use Rattle.acc_deps.specs.declared.records.Accepted.{Accepted}
use Rattle.acc_deps.specs.declared.records.Settled.{Settled}
use Rattle.acc_deps.specs.declared.records.View.{View}
use Rattle.acc_value.specs.declared.key.Key.{Key}
use Rattle.acc_value.specs.declared.value.Value.{Value}
use Rattle.acc_value.specs.declared.value.Value.TheVariants.{Number, Text}
use Rattle.acc_txn.specs.declared.outcome.Outcome.{Outcome}
use Rattle.acc_code.specs.Short.{IsShortKey, HoldsText, AreShortCells, IsShortOutcome}
use Rattle.acc_message.specs.declared.answer.ReadAnswer.{ReadAnswer}
use Rattle.acc_message.specs.declared.answer.ReadAnswer.TheVariants.{Values, Known}
use Rattle.acc_message.specs.declared.message.Message.{Message}
use Rattle.acc_message.specs.declared.message.Message.TheVariants.{PreAccept, PreAcceptOk, Accept, AcceptOk, Commit, CommitOk, Stable, ReadOk, Apply, Recover, RecoverOk, Nack, Decided, Inform}
use Rattle.acc_message.specs.Fields.{from_of, to_of}
use Rattle.acc_message_code.specs.Short.{IsShortShard, AreShortDeps, IsShortAccepted, IsShortSettled, IsShortView, IsShortAnswer, HasShortContent, IsShortMessage}
use Rattle.acc_short.specs.Tests.{is_short_shard, are_short_deps, has_short_deps, has_short_settled, is_short_view, is_short_key, holds_text, is_short_pair, are_short_cells, is_short_outcome, is_short_answer, has_short_content, is_short_message}

-- ---- tests

both : (a b : Bool) → (a && b) ≡ true → (a ≡ true) × (b ≡ true)
both true true is = (refl, refl)
both true false is = cc
both false true is = cc
both false false is = cc

most : (n k : ℕ) → nat_le n k ≡ true → n ≤ k
most n k is = grind (arith, nat_tests)

less : (n k : ℕ) → nat_lt n k ≡ true → n < k
less n k is = grind (arith, nat_tests)

fits : (n : ℕ) → nat_lt n 65536 ≡ true → n < 2 ^ 16
fits n is = let low : n < 65536 = less n 65536 is in omega (arith, low)

each : {T : Type 0} (test : T → Bool) (P : T → Type 0) → ((x : T) → test x ≡ true → P x) → (xs : List T) → list_all test xs ≡ true → AllByRecursion P xs
each test P tells [] is = tt
each test P tells (x ∷ xs) is = let parts = both (test x) (list_all test xs) is in (tells x parts.0, each test P tells xs parts.1)

-- ---- dependencies

shard_tells : (d : ShardDeps) → is_short_shard d ≡ true → IsShortShard d
shard_tells d is =
    let one = both (nat_le 1 d.shard) (nat_le d.shard 15 && nat_lt (length d.ids) 65536) is in
    let two = both (nat_le d.shard 15) (nat_lt (length d.ids) 65536) one.1 in
    record { least = most 1 d.shard one.0; most = most d.shard 15 two.0; ids = fits (length d.ids) two.1 }

deps_tell : (deps : List ShardDeps) → are_short_deps deps ≡ true → AreShortDeps deps
deps_tell deps is =
    let parts = both (nat_le (length deps) 15) (list_all is_short_shard deps) is in
    record { count = most (length deps) 15 parts.0; shards = each is_short_shard IsShortShard shard_tells deps parts.1 }

accepted_tells : (a : Option Accepted) → has_short_deps a ≡ true → IfSome a IsShortAccepted
accepted_tells None is = tt
accepted_tells (Some a) is = deps_tell a.deps is

settled_tells : (s : Option Settled) → has_short_settled s ≡ true → IfSome s IsShortSettled
settled_tells None is = tt
settled_tells (Some s) is = deps_tell s.deps is

waits_tell : (ids : List TxnId) → is_rising_by id_lt ids ≡ true → IsRising ids
waits_tell ids is = IsRisingBy-from_neighbours id_order ids is

view_tells : (v : View) → is_short_view v ≡ true → IsShortView v
view_tells v is =
    let store = both (nat_lt v.store.0 65536) _ is in
    let deps = both (are_short_deps v.vote_deps) _ store.1 in
    let accepted = both (has_short_deps v.accepted) _ deps.1 in
    let committed = both (has_short_deps v.committed) _ accepted.1 in
    let stable = both (has_short_settled v.stable) _ committed.1 in
    let waits = both (nat_lt (length v.waits) 65536) _ stable.1 in
    record {
      store = fits v.store.0 store.0;
      vote_deps = deps_tell v.vote_deps deps.0;
      accepted = accepted_tells v.accepted accepted.0;
      committed = accepted_tells v.committed committed.0;
      stable = settled_tells v.stable stable.0;
      waits = fits (length v.waits) waits.0;
      waits_rise = waits_tell v.waits waits.1;
    }

-- ---- cells

key_tells : (key : Key) → is_short_key key ≡ true → IsShortKey key
key_tells key is =
    let parts = both (nat_lt (length key.table) 256) (nat_lt (length key.key) 256) is in
    record { table = less (length key.table) 256 parts.0; key = less (length key.key) 256 parts.1 }

text_tells : (cell : Option Value) → holds_text cell ≡ true → HoldsText cell
text_tells None is = tt
text_tells (Some (Number number)) is = tt
text_tells (Some (Text text)) is = is

cells_tell : (pairs : List (Key × Option Value)) → are_short_cells pairs ≡ true → AreShortCells pairs
cells_tell pairs is =
    let parts = both (nat_lt (length pairs) 256) (list_all is_short_pair pairs) is in
    record {
      count = less (length pairs) 256 parts.0;
      keys = each is_short_pair (λ p. IsShortKey p.0) (λ p h. key_tells p.0 (both (is_short_key p.0) (holds_text p.1) h).0) pairs parts.1;
      texts = each is_short_pair (λ p. HoldsText p.1) (λ p h. text_tells p.1 (both (is_short_key p.0) (holds_text p.1) h).1) pairs parts.1;
    }

outcome_tells : (o : Outcome) → is_short_outcome o ≡ true → IsShortOutcome o
outcome_tells o is =
    let one = both (nat_lt (length o.reply.values) 256) (list_all holds_text o.reply.values && are_short_cells o.writes) is in
    let two = both (list_all holds_text o.reply.values) (are_short_cells o.writes) one.1 in
    record {
      values = less (length o.reply.values) 256 one.0;
      texts = each holds_text HoldsText text_tells o.reply.values two.0;
      writes = cells_tell o.writes two.1;
    }

-- ---- messages

answer_tells : (answer : ReadAnswer) → is_short_answer answer ≡ true → IsShortAnswer answer
answer_tells (Values cells) is = cells_tell cells is
answer_tells (Known outcome) is = outcome_tells outcome is

content_tells : (m : Message) → has_short_content m ≡ true → HasShortContent m
content_tells (PreAccept from to id ballot body) is = tt
content_tells (PreAcceptOk from to id ballot vote deps) is = deps_tell deps is
content_tells (Accept from to id ballot body t deps) is = deps_tell deps is
content_tells (AcceptOk from to id ballot deps) is = deps_tell deps is
content_tells (Commit from to id ballot body t deps) is = deps_tell deps is
content_tells (CommitOk from to id ballot) is = tt
content_tells (Stable from to id ballot body t deps) is = deps_tell deps is
content_tells (ReadOk from to id ballot answer) is = answer_tells answer is
content_tells (Apply from to id ballot body t deps outcome) is =
    let parts = both (are_short_deps deps) (is_short_outcome outcome) is in (deps_tell deps parts.0, outcome_tells outcome parts.1)
content_tells (Recover from to id ballot body) is = tt
content_tells (RecoverOk from to id ballot view) is = view_tells view is
content_tells (Nack from to id ballot promised) is = tt
content_tells (Decided from to id ballot t deps) is = deps_tell deps is
content_tells (Inform from to id ballot outcome) is = outcome_tells outcome is

pub message_tells : (m : Message) → is_short_message m ≡ true → IsShortMessage m
message_tells m is =
    let one = both (nat_lt (from_of m).0 65536) (nat_lt (to_of m).0 65536 && has_short_content m) is in
    let two = both (nat_lt (to_of m).0 65536) (has_short_content m) one.1 in
    record { from = fits (from_of m).0 one.0; to = fits (to_of m).0 two.0; content = content_tells m two.1 }

first_and : (m : Message) (messages : List Message) → IsShortMessage m → All IsShortMessage messages → All IsShortMessage (m ∷ messages)
first_and m messages here rest zero d low = here
first_and m messages here rest (suc k) d low = rest k d (omega (arith, low))

pub messages_tell : (messages : List Message) → list_all is_short_message messages ≡ true → All IsShortMessage messages
messages_tell [] is = λ k d low. absurd (omega (arith, low))
messages_tell (m ∷ messages) is =
    let parts = both (is_short_message m) (list_all is_short_message messages) is in
    first_and m messages (message_tells m parts.0) (messages_tell messages parts.1)

-- ---- lists of transactions

pub few_rise : (ids : List TxnId) → length ids < 2 → true ≡ is_rising_by id_lt ids
few_rise [] low = refl
few_rise (x ∷ []) low = refl
few_rise (x ∷ y ∷ ids) low = absurd (omega (arith, low))
