-- How many bytes a bounded message takes at most.
use Rattle.std.proofs.Common.{ℕ, ◌+◌, ◌*◌, ◌≤◌, ◌<◌, ◌^◌, List, [], ◌∷◌, ◌++◌, length, Option, None, Some, arith, length-append}
use Rattle.std.specs.Prelude.{IfSome}
use Rattle.std.specs.List.{AllByRecursion, flat_map}
use Rattle.std.proofs.lemmas.List.Sums.{sum_by-cons}
use Rattle.std.proofs.Math.Nat.{mul-suc}
use Rattle.acc_wire.specs.Spelling.{u8_bytes, u16_bytes, u32_bytes, u64_bytes, i64_bytes, text_bytes, IsShortText}
use Rattle.acc_stamp.specs.declared.stamps.Stamp.{Stamp}
use Rattle.acc_stamp.specs.declared.stamps.TxnId.{TxnId}
use Rattle.acc_stamp.proofs.Rising.{each_weaker}
use Rattle.acc_deps.specs.declared.shards.ShardDeps.{ShardDeps}
use Rattle.acc_deps.specs.declared.records.Accepted.{Accepted}
use Rattle.acc_deps.specs.declared.records.Settled.{Settled}
use Rattle.acc_deps.specs.declared.records.View.{View}
use Rattle.acc_value.specs.declared.key.Key.{Key}
use Rattle.acc_value.specs.declared.value.Value.{Value}
use Rattle.acc_value.specs.declared.value.Value.TheVariants.{Number as NumberValue, Text as TextValue}
use Rattle.acc_txn.specs.declared.parts.Let.{Let}
use Rattle.acc_txn.specs.declared.parts.Select.{Select}
use Rattle.acc_txn.specs.declared.parts.Select.TheVariants.{Nothing, Names, Get}
use Rattle.acc_txn.specs.declared.parts.Term.{Term}
use Rattle.acc_txn.specs.declared.parts.Term.TheVariants.{Number, Name, Null, Text}
use Rattle.acc_txn.specs.declared.parts.Part.{Part}
use Rattle.acc_txn.specs.declared.parts.Condition.{Condition}
use Rattle.acc_txn.specs.declared.parts.Condition.TheVariants.{Compare, IsNull, IsNotNull}
use Rattle.acc_txn.specs.declared.parts.Update.{Update}
use Rattle.acc_txn.specs.declared.parts.Update.TheVariants.{Set, Delete}
use Rattle.acc_txn.specs.declared.parts.BodyParts.{BodyParts}
use Rattle.acc_txn.specs.declared.outcome.Outcome.{Outcome}
use Rattle.acc_txn.specs.Rules.{IsBody}
use Rattle.acc_code.specs.Spelling.{listed, cell_bytes, key_bytes, pair_bytes, cells_bytes, verdict_number, outcome_bytes}
use Rattle.acc_txn.specs.BodySpelling.{let_bytes, select_bytes, term_bytes, sign_number, part_bytes, sum_bytes, operator_number, condition_bytes, update_bytes, body_bytes}
use Rattle.acc_code.specs.Short.{IsShortKey, IsShortLet, IsShortSelect, IsShortTerm, IsShortSum, IsShortCondition, IsShortUpdate, HoldsText, AreShortCells, IsShortOutcome}
use Rattle.acc_code.proofs.Shortness.{short_text}
use Rattle.acc_code.proofs.BodyFacts.{short_body}
use Rattle.acc_txn.proofs.ByteCounts.{length-bytes}
use Rattle.acc_message.specs.declared.answer.ReadAnswer.{ReadAnswer}
use Rattle.acc_message.specs.declared.answer.ReadAnswer.TheVariants.{Values, Known}
use Rattle.acc_stamp.specs.declared.actors.Actor.{Actor}
use Rattle.acc_message.specs.declared.envelope.Envelope.{Envelope}
use Rattle.acc_message.specs.Fields.{envelope_of}
use Rattle.acc_message.specs.declared.message.Message.{Message}
use Rattle.acc_message.specs.declared.message.Message.TheVariants.{PreAccept, PreAcceptOk, Accept, AcceptOk, Commit, CommitOk, Stable, ReadOk, Apply, Recover, RecoverOk, Nack, Decided, Inform}
use Rattle.acc_message_code.specs.Spelling.{actor_bytes, stamp_bytes, id_bytes, flag_bytes, ids_bytes, shard_bytes, deps_bytes, accepted_bytes, settled_bytes, optional, view_bytes, ballot_bytes}
use Rattle.acc_message_code.specs.MessageSpelling.{number_of, envelope_bytes, answer_bytes, dated_bytes, proposal_bytes, content_bytes, message_bytes}
use Rattle.acc_message_code.specs.Short.{AreShortIds, IsShortShard, AreShortDeps, IsShortAccepted, IsShortSettled, IsShortView, IsShortAnswer, HasShortContent}
use Rattle.acc_message_code.specs.Weight.{weight_of_all}
use Rattle.acc_run_laws.proofs.Bounded.{HasBoundedContent}

flat_most : {X : Type 0} (spelling : X → List ℕ) (most : ℕ) (xs : List X) → AllByRecursion (λ x. length (spelling x) ≤ most) xs → length (flat_map spelling xs) ≤ most * length xs
flat_most spelling most [] h = omega arith
flat_most spelling most (x ∷ xs) h =
    let rest = flat_most spelling most xs h.1 in
    omega (arith, mul-suc most (length xs), length-append (spelling x) (flat_map spelling xs), h.0, rest)

-- ---- keys, cells and outcomes

text_most : (text : List ℕ) → IsShortText text → length (text_bytes text) ≤ 256
unfolding text_bytes
text_most text h = omega (arith, h)

key_most : (key : Key) → IsShortKey key → length (key_bytes key) ≤ 512
unfolding key_bytes
key_most key h =
    let t = text_most key.table h.table in let k = text_most key.key h.key in
    omega (arith, length-append (text_bytes key.table) (text_bytes key.key), t, k)

cell_most : (cell : Option Value) → HoldsText cell → length (cell_bytes cell) ≤ 257
unfolding cell_bytes i64_bytes u64_bytes
cell_most None h = omega arith
cell_most (Some (NumberValue number)) h = omega arith
cell_most (Some (TextValue text)) h = let t = text_most text (short_text text h) in omega (arith, t)

pair_most : (p : Key × Option Value) → IsShortKey p.0 → HoldsText p.1 → length (pair_bytes p) ≤ 769
unfolding pair_bytes
pair_most p k h =
    let key = key_most p.0 k in let cell = cell_most p.1 h in
    omega (arith, length-append (key_bytes p.0) (cell_bytes p.1), key, cell)

pairs_most : (pairs : List (Key × Option Value)) → AllByRecursion (λ p. IsShortKey p.0) pairs → AllByRecursion (λ p. HoldsText p.1) pairs → AllByRecursion (λ p. length (pair_bytes p) ≤ 769) pairs
pairs_most [] k h = tt
pairs_most (p ∷ pairs) k h = (pair_most p k.0 h.0, pairs_most pairs k.1 h.1)

cells_most : (pairs : List (Key × Option Value)) → AreShortCells pairs → length (cells_bytes pairs) < 2 ^ 18
unfolding cells_bytes listed
cells_most pairs h =
    let all = flat_most pair_bytes 769 pairs (pairs_most pairs h.keys h.texts) in
    let count = h.count in
    omega (arith, all, count)

values_most : (values : List (Option Value)) → length values < 256 → AllByRecursion HoldsText values → length (listed cell_bytes values) < 2 ^ 17
unfolding listed
values_most values few h =
    let all = flat_most cell_bytes 257 values (each_weaker HoldsText (λ cell. length (cell_bytes cell) ≤ 257) values cell_most h) in
    omega (arith, all, few)

outcome_most : (o : Outcome) → IsShortOutcome o → length (outcome_bytes o) < 2 ^ 19
unfolding outcome_bytes
outcome_most o h =
    let values = values_most o.reply.values h.values h.texts in let writes = cells_most o.writes h.writes in
    omega (
      arith,
      length-append (u8_bytes (verdict_number o.reply.verdict) ++ listed cell_bytes o.reply.values) (cells_bytes o.writes),
      length-append (u8_bytes (verdict_number o.reply.verdict)) (listed cell_bytes o.reply.values),
      values,
      writes,
    )

-- ---- bodies

term_most : (term : Term) → IsShortTerm term → length (term_bytes term) ≤ 257
unfolding term_bytes i64_bytes u64_bytes
term_most (Number number) h = omega arith
term_most (Name name) h = omega arith
term_most Null h = omega arith
term_most (Text text) h = let t = text_most text (short_text text h) in omega (arith, t)

part_most : (part : Part) → IsShortTerm part.term → length (part_bytes part) ≤ 258
unfolding part_bytes
part_most part h = let t = term_most part.term h in omega (arith, length-append (u8_bytes (sign_number part.minus)) (term_bytes part.term), t)

sum_most : (sum : List Part) → IsShortSum sum → length (sum_bytes sum) < 2 ^ 17
unfolding sum_bytes listed
sum_most sum h =
    let all = flat_most part_bytes 258 sum (each_weaker (λ (part : Part). IsShortTerm part.term) (λ part. length (part_bytes part) ≤ 258) sum part_most h.terms) in
    let count = h.count in
    omega (arith, all, count)

let_most : (l : Let) → IsShortLet l → length (let_bytes l) ≤ 768
unfolding let_bytes
let_most l h =
    let name = text_most l.name h.name in let key = key_most l.key h.key in
    omega (arith, length-append (text_bytes l.name) (key_bytes l.key), name, key)

select_most : (select : Select) → IsShortSelect select → length (select_bytes select) ≤ 513
unfolding select_bytes listed
select_most Nothing h = omega arith
select_most (Names names) h = omega (arith, h, length-bytes names)
select_most (Get key) h = let k = key_most key h in omega (arith, k)

condition_most : (c : Condition) → IsShortCondition c → length (condition_bytes c) ≤ 262144
unfolding condition_bytes
condition_most (Compare op left right) h =
    let l = sum_most left h.0 in let r = sum_most right h.1 in
    omega (
      arith,
      length-append (u8_bytes (operator_number op) ++ sum_bytes left) (sum_bytes right),
      length-append (u8_bytes (operator_number op)) (sum_bytes left),
      l,
      r,
    )
condition_most (IsNull name) h = omega arith
condition_most (IsNotNull name) h = omega arith

update_most : (u : Update) → IsShortUpdate u → length (update_bytes u) ≤ 262144
unfolding update_bytes
update_most (Set key value) h =
    let k = key_most key h.0 in let v = sum_most value h.1 in
    omega (arith, length-append (u8_bytes 1 ++ key_bytes key) (sum_bytes value), length-append (u8_bytes 1) (key_bytes key), k, v)
update_most (Delete key) h = let k = key_most key h in omega (arith, k)

lets_most : (lets : List Let) → length lets < 256 → AllByRecursion IsShortLet lets → length (listed let_bytes lets) < 2 ^ 18
unfolding listed
lets_most lets few h =
    let all = flat_most let_bytes 768 lets (each_weaker IsShortLet (λ l. length (let_bytes l) ≤ 768) lets let_most h) in omega (arith, all, few)

conditions_most : (guards : List Condition) → length guards < 256 → AllByRecursion IsShortCondition guards → length (listed condition_bytes guards) ≤ 2 ^ 26
unfolding listed
conditions_most guards few h =
    let all = flat_most condition_bytes 262144 guards (each_weaker IsShortCondition (λ c. length (condition_bytes c) ≤ 262144) guards condition_most h) in omega (arith, all, few)

updates_most : (updates : List Update) → length updates < 256 → AllByRecursion IsShortUpdate updates → length (listed update_bytes updates) ≤ 2 ^ 26
unfolding listed
updates_most updates few h =
    let all = flat_most update_bytes 262144 updates (each_weaker IsShortUpdate (λ u. length (update_bytes u) ≤ 262144) updates update_most h) in omega (arith, all, few)

body_most : (body : BodyParts) → IsBody body → length (body_bytes body) < 2 ^ 28
unfolding body_bytes
body_most body rules =
    let short = short_body body rules in
    let l = lets_most body.lets short.lets_count short.lets in let s = select_most body.select short.select in
    let g = conditions_most body.guards short.guards_count short.guards in let u = updates_most body.updates short.updates_count short.updates in
    omega (
      arith,
      length-append (listed let_bytes body.lets ++ select_bytes body.select ++ listed condition_bytes body.guards) (listed update_bytes body.updates),
      length-append (listed let_bytes body.lets ++ select_bytes body.select) (listed condition_bytes body.guards),
      length-append (listed let_bytes body.lets) (select_bytes body.select),
      l,
      s,
      g,
      u,
    )

-- ---- dependencies and records

stamp_most : (stamp : Stamp) → length (stamp_bytes stamp) ≤ 12
unfolding stamp_bytes u64_bytes u32_bytes
stamp_most stamp = omega arith

actor_most : (actor : Actor) → length (actor_bytes actor) ≤ 2
unfolding actor_bytes u16_bytes
actor_most actor = omega arith

each_id_most : (ids : List TxnId) → AllByRecursion (λ id. length (id_bytes id) ≤ 12) ids
each_id_most [] = tt
each_id_most (id ∷ ids) = (stamp_most id.0, each_id_most ids)

two : (n : ℕ) (xs : List ℕ) → length (u16_bytes n ++ xs) ≤ 2 + length xs
unfolding u16_bytes
two n xs = omega arith

ids_most : (ids : List TxnId) → AreShortIds ids → length (ids_bytes ids) < 2 ^ 20
unfolding ids_bytes
ids_most ids h = let all = flat_most id_bytes 12 ids (each_id_most ids) in omega (arith, two (length ids) (flat_map id_bytes ids), all, h)

shard_most : (d : ShardDeps) → IsShortShard d → length (shard_bytes d) ≤ 1048576
unfolding shard_bytes
shard_most d h = let ids = ids_most d.ids h.ids in omega (arith, length-append (u8_bytes d.shard) (ids_bytes d.ids), ids)

deps_most : (deps : List ShardDeps) → AreShortDeps deps → length (deps_bytes deps) < 2 ^ 24
unfolding deps_bytes listed
deps_most deps h =
    let all = flat_most shard_bytes 1048576 deps (each_weaker IsShortShard (λ d. length (shard_bytes d) ≤ 1048576) deps shard_most h.shards) in
    let count = h.count in
    omega (arith, all, count)

accepted_most : (o : Option Accepted) → IfSome o IsShortAccepted → length (optional accepted_bytes o) < 2 ^ 25
unfolding optional accepted_bytes
accepted_most None h = omega arith
accepted_most (Some a) h =
    let d = deps_most a.deps h in
    omega (
      arith,
      length-append (stamp_bytes a.ballot.0 ++ stamp_bytes a.t) (deps_bytes a.deps),
      length-append (stamp_bytes a.ballot.0) (stamp_bytes a.t),
      stamp_most a.ballot.0,
      stamp_most a.t,
      d,
    )

settled_most : (o : Option Settled) → IfSome o IsShortSettled → length (optional settled_bytes o) < 2 ^ 25
unfolding optional settled_bytes
settled_most None h = omega arith
settled_most (Some s) h = let d = deps_most s.deps h in omega (arith, length-append (stamp_bytes s.t) (deps_bytes s.deps), stamp_most s.t, d)

flag_most : (v : View) → length (flag_bytes v.superseded) ≤ 1
unfolding flag_bytes
flag_most v = omega arith

four_take : (a b c d : List ℕ) → length (a ++ b ++ c ++ d) ≤ length a + length b + length c + length d
four_take a b c d = omega (arith, length-append (a ++ b ++ c) d, length-append (a ++ b) c, length-append a b)

view_most : (v : View) → IsShortView v → length (view_bytes v) < 2 ^ 28
unfolding view_bytes
view_most v h =
    let d = deps_most v.vote_deps h.vote_deps in let a = accepted_most v.accepted h.accepted in let c = accepted_most v.committed h.committed in
    let s = settled_most v.stable h.stable in let w = ids_most v.waits h.waits in
    let front : List ℕ = actor_bytes v.store ++ stamp_bytes v.vote ++ deps_bytes v.vote_deps ++ optional accepted_bytes v.accepted in
    omega (
      arith,
      length-append (front ++ optional accepted_bytes v.committed ++ optional settled_bytes v.stable ++ flag_bytes v.superseded) (ids_bytes v.waits),
      four_take front (optional accepted_bytes v.committed) (optional settled_bytes v.stable) (flag_bytes v.superseded),
      four_take (actor_bytes v.store) (stamp_bytes v.vote) (deps_bytes v.vote_deps) (optional accepted_bytes v.accepted),
      actor_most v.store,
      stamp_most v.vote,
      flag_most v,
      d,
      a,
      c,
      s,
      w,
    )

answer_most : (answer : ReadAnswer) → IsShortAnswer answer → length (answer_bytes answer) < 2 ^ 20
unfolding answer_bytes
answer_most (Values cells) h = let c = cells_most cells h in omega (arith, c)
answer_most (Known outcome) h = let o = outcome_most outcome h in omega (arith, o)

-- ---- messages

dated_most : (t : Stamp) (deps : List ShardDeps) → AreShortDeps deps → length (dated_bytes t deps) < 2 ^ 25
unfolding settled_bytes
dated_most t deps h = let d = deps_most deps h in omega (arith, length-append (stamp_bytes t) (deps_bytes deps), stamp_most t, d)

proposal_most : (body : BodyParts) (t : Stamp) (deps : List ShardDeps) → IsBody body → AreShortDeps deps → length (proposal_bytes body t deps) < 2 ^ 29
unfolding proposal_bytes
proposal_most body t deps rules h = let d = dated_most t deps h in let b = body_most body rules in omega (arith, length-append (body_bytes body) (dated_bytes t deps), d, b)

apply_most : (body : BodyParts) (t : Stamp) (deps : List ShardDeps) (o : Outcome) → IsBody body → AreShortDeps deps → IsShortOutcome o → length (proposal_bytes body t deps ++ outcome_bytes o) < 2 ^ 30
apply_most body t deps o rules h k =
    let p = proposal_most body t deps rules h in let out = outcome_most o k in omega (arith, length-append (proposal_bytes body t deps) (outcome_bytes o), p, out)

below : (n m : ℕ) → n < m → m ≤ 2 ^ 30 → n < 2 ^ 30
below n m lt le = omega (arith, lt, le)

module _ (most : ℕ) (begun : List TxnId) where
  content_most : (m : Message) → HasBoundedContent most begun m → HasShortContent m → length (content_bytes m) < 2 ^ 30
  unfolding content_bytes
  content_most (PreAccept from to id ballot body) h k = below (length (body_bytes body)) (2 ^ 28) (body_most body h) (omega arith)
  content_most (PreAcceptOk from to id ballot vote deps) h k = below (length (dated_bytes vote deps)) (2 ^ 25) (dated_most vote deps k) (omega arith)
  content_most (Accept from to id ballot body t deps) h k = below (length (proposal_bytes body t deps)) (2 ^ 29) (proposal_most body t deps h.rules k) (omega arith)
  content_most (AcceptOk from to id ballot deps) h k = below (length (deps_bytes deps)) (2 ^ 24) (deps_most deps k) (omega arith)
  content_most (Commit from to id ballot body t deps) h k = below (length (proposal_bytes body t deps)) (2 ^ 29) (proposal_most body t deps h.rules k) (omega arith)
  content_most (CommitOk from to id ballot) h k = omega arith
  content_most (Stable from to id ballot body t deps) h k = below (length (proposal_bytes body t deps)) (2 ^ 29) (proposal_most body t deps h.rules k) (omega arith)
  content_most (ReadOk from to id ballot answer) h k = below (length (answer_bytes answer)) (2 ^ 20) (answer_most answer k) (omega arith)
  content_most (Apply from to id ballot body t deps outcome) h k = apply_most body t deps outcome h.0.rules k.0 k.1
  content_most (Recover from to id ballot body) h k = below (length (body_bytes body)) (2 ^ 28) (body_most body h) (omega arith)
  content_most (RecoverOk from to id ballot view) h k = below (length (view_bytes view)) (2 ^ 28) (view_most view k) (omega arith)
  content_most (Nack from to id ballot promised) h k = below (length (ballot_bytes promised)) 13 (twelve (length (ballot_bytes promised)) (stamp_most promised.0)) (omega arith)
    where
      twelve : (n : ℕ) → n ≤ 12 → n < 13
      twelve n e = omega (arith, e)
  content_most (Decided from to id ballot t deps) h k = below (length (dated_bytes t deps)) (2 ^ 25) (dated_most t deps k) (omega arith)
  content_most (Inform from to id ballot outcome) h k = below (length (outcome_bytes outcome)) (2 ^ 19) (outcome_most outcome k) (omega arith)

  envelope_most : (e : Envelope) → length (envelope_bytes e) ≤ 28
  unfolding envelope_bytes
  envelope_most e =
      omega (
        arith,
        four_take (actor_bytes e.from) (actor_bytes e.to) (stamp_bytes e.id.0) (stamp_bytes e.ballot.0),
        actor_most e.from,
        actor_most e.to,
        stamp_most e.id.0,
        stamp_most e.ballot.0,
      )

  pub message_most : (m : Message) → HasBoundedContent most begun m → HasShortContent m → length (message_bytes m) ≤ 2147483648
  unfolding message_bytes
  message_most m h k =
      let c = content_most m h k in
      omega (
        arith,
        length-append (u8_bytes (number_of m) ++ envelope_bytes (envelope_of m)) (content_bytes m),
        length-append (u8_bytes (number_of m)) (envelope_bytes (envelope_of m)),
        envelope_most (envelope_of m),
        c,
      )

pub weight_most : (messages : List Message) → AllByRecursion (λ m. length (message_bytes m) ≤ 2147483648) messages → weight_of_all messages ≤ 2147483648 * length messages
weight_most [] h = omega arith
weight_most (m ∷ messages) h =
    let rest = weight_most messages h.1 in
    omega (arith, mul-suc 2147483648 (length messages), sum_by-cons (λ n. length (message_bytes n)) m messages, h.0, rest)
