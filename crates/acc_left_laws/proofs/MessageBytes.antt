-- The spelling of a message to a store is bytes, and so is that of a draw.
use Rattle.std.proofs.Common.{◌≡◌, ◌<◌, true, List, [], ◌∷◌, ◌++◌, length, Option, None, Some, is_some, sym, arith}
use Rattle.std.specs.List.{flat_map, AllByRecursion}
use Rattle.std.proofs.lemmas.Bool.{true≢false}
use Rattle.acc_wire.specs.Spelling.{u16_bytes, u32_bytes, u64_bytes}
use Rattle.acc_stamp.specs.declared.actors.Actor.{Actor}
use Rattle.acc_stamp.specs.declared.stamps.Stamp.{Stamp}
use Rattle.acc_stamp.specs.declared.stamps.TxnId.{TxnId}
use Rattle.acc_deps.specs.declared.shards.ShardDeps.{ShardDeps}
use Rattle.acc_value.specs.declared.key.Key.{Key}
use Rattle.acc_value.specs.declared.value.Value.{Value}
use Rattle.acc_value.specs.declared.value.Value.TheVariants.{Number as NumberValue, Text as TextValue}
use Rattle.acc_txn.specs.BodySpelling.{body_bytes, key_bytes, listed}
use Rattle.acc_txn.specs.declared.outcome.Outcome.{Outcome}
use Rattle.acc_txn.specs.declared.outcome.Verdict.{Verdict}
use Rattle.acc_txn.specs.declared.outcome.Verdict.TheVariants.{Ok as Done, Overflow, Skipped}
use Rattle.acc_txn.specs.declared.parts.BodyParts.{BodyParts}
use Rattle.acc_txn.specs.Short.{IsNumberedBody}
use Rattle.acc_txn.specs.Words.{is_key}
use Rattle.acc_code.specs.Short.{IsCell}
use Rattle.acc_code.specs.Spelling.{cell_bytes, cells_bytes, outcome_bytes, pair_bytes, verdict_number}
use Rattle.acc_message.specs.declared.envelope.Envelope.{Envelope}
use Rattle.acc_message.specs.declared.message.Message.{Message}
use Rattle.acc_message.specs.declared.message.Message.TheVariants.{PreAccept, PreAcceptOk, Accept, AcceptOk, Commit, CommitOk, Stable, ReadOk, Apply, Recover, RecoverOk, Nack, Decided, Inform}
use Rattle.acc_message.specs.Fields.{envelope_of}
use Rattle.acc_message.specs.Taken.{body_in}
use Rattle.acc_message_code.specs.Fitting.{FitDeps, FitsMessage, FitsSettled, FitsShard, HasFittingContent}
use Rattle.acc_message_code.specs.MessageSpelling.{content_bytes, dated_bytes, envelope_bytes, message_bytes, number_of, proposal_bytes}
use Rattle.acc_message_code.specs.Spelling.{actor_bytes, deps_bytes, id_bytes, ids_bytes, settled_bytes, shard_bytes, stamp_bytes}
use Rattle.acc_payloads.specs.declared.draw.Draw.{Draw}
use Rattle.acc_payloads.specs.declared.draw.Purpose.{Purpose}
use Rattle.acc_payloads.specs.declared.draw.Purpose.TheVariants.{Begin, Recover as RecoverPurpose}
use Rattle.acc_payloads.specs.Spelling.{draw_bytes, purpose_number}
use Rattle.acc_left_laws.proofs.BodyBytes.{body_is_bytes}
use Rattle.acc_left_laws.proofs.ByteLists.{joined_bytes, u64_are_bytes, flat_bytes, u32_are_bytes, list_is_bytes, key_is_bytes, i64_are_bytes, text_value_bytes, u16_are_bytes, AllBytes}
use Rattle.acc_left_laws.proofs.CellContents.{HasFittingCells}
use Rattle.acc_left_laws.proofs.WrittenKeys.{IsSpelled}

-- ---- stamps and dependencies

stamp_is_bytes : (s : Stamp) → AllBytes (stamp_bytes s)
unfolding stamp_bytes
stamp_is_bytes s = joined_bytes (u64_bytes s.h) (u32_bytes s.origin) (u64_are_bytes s.h) (u32_are_bytes s.origin)

actor_is_bytes : (a : Actor) → AllBytes (actor_bytes a)
unfolding actor_bytes
actor_is_bytes a = u16_are_bytes a.0

each_id : (ids : List TxnId) → AllByRecursion (λ (x : TxnId). AllBytes (id_bytes x)) ids
each_id [] = tt
each_id (x ∷ ids) = (stamp_is_bytes x.0, each_id ids)

ids_are_bytes : (ids : List TxnId) → AllBytes (ids_bytes ids)
unfolding ids_bytes
ids_are_bytes ids = joined_bytes (u16_bytes (length ids)) (flat_map id_bytes ids) (u16_are_bytes (length ids)) (flat_bytes id_bytes ids (each_id ids))

shard_is_bytes : (d : ShardDeps) → FitsShard d → AllBytes (shard_bytes d)
unfolding shard_bytes
shard_is_bytes d fits = let most = fits.most in (omega (arith, most), ids_are_bytes d.ids)

shards_are_bytes : (deps : List ShardDeps) → AllByRecursion FitsShard deps → AllByRecursion (λ (d : ShardDeps). AllBytes (shard_bytes d)) deps
shards_are_bytes [] fit = tt
shards_are_bytes (d ∷ deps) fit = (shard_is_bytes d fit.0, shards_are_bytes deps fit.1)

deps_are_bytes : (deps : List ShardDeps) → FitDeps deps → AllBytes (deps_bytes deps)
unfolding deps_bytes
deps_are_bytes deps fit = let count = fit.count in list_is_bytes shard_bytes deps (omega (arith, count)) (shards_are_bytes deps fit.shards)

dated_is_bytes : (t : Stamp) (deps : List ShardDeps) → FitsSettled (record { t = t; deps = deps }) → AllBytes (dated_bytes t deps)
unfolding settled_bytes
dated_is_bytes t deps fit = joined_bytes (stamp_bytes t) (deps_bytes deps) (stamp_is_bytes t) (deps_are_bytes deps fit.deps)

-- ---- outcomes

cell_is_bytes : (cell : Option Value) → IsCell cell → AllBytes (cell_bytes cell)
unfolding cell_bytes
cell_is_bytes None is = (omega arith, tt)
cell_is_bytes (Some (NumberValue number)) is = (omega arith, i64_are_bytes number)
cell_is_bytes (Some (TextValue text)) is = (omega arith, text_value_bytes text is)

cells_are_bytes : (cells : List (Option Value)) → AllByRecursion IsCell cells → AllByRecursion (λ (c : Option Value). AllBytes (cell_bytes c)) cells
cells_are_bytes [] are = tt
cells_are_bytes (c ∷ cells) are = (cell_is_bytes c are.0, cells_are_bytes cells are.1)

pairs_are_bytes : (pairs : List (Key × Option Value)) → AllByRecursion (λ p. IsCell p.1) pairs → AllByRecursion (λ p. is_key p.0 ≡ true) pairs
    → AllByRecursion (λ (p : Key × Option Value). AllBytes (pair_bytes p)) pairs
unfolding pair_bytes
pairs_are_bytes [] cells keys = tt
pairs_are_bytes (p ∷ pairs) cells keys = (
  joined_bytes (key_bytes p.0) (cell_bytes p.1) (key_is_bytes p.0 keys.0) (cell_is_bytes p.1 cells.0),
  pairs_are_bytes pairs cells.1 keys.1,
)

verdict_small : (v : Verdict) → verdict_number v < 256
verdict_small Done = omega arith
verdict_small Skipped = omega arith
verdict_small Overflow = omega arith

outcome_is_bytes : (o : Outcome) → IsSpelled o → AllBytes (outcome_bytes o)
unfolding outcome_bytes cells_bytes
outcome_is_bytes o spelled = (
  verdict_small o.reply.verdict,
  joined_bytes (listed cell_bytes o.reply.values) (listed pair_bytes o.writes) (list_is_bytes cell_bytes o.reply.values spelled.fits.count (cells_are_bytes o.reply.values spelled.fits.values))
      (list_is_bytes pair_bytes o.writes spelled.fits.writes.short.count (pairs_are_bytes o.writes spelled.fits.writes.cells spelled.keys)),
)

-- ---- messages

envelope_is_bytes : (e : Envelope) → AllBytes (envelope_bytes e)
unfolding envelope_bytes
envelope_is_bytes e =
    joined_bytes (actor_bytes e.from ++ actor_bytes e.to ++ stamp_bytes e.id.0) (stamp_bytes e.ballot.0)
    (joined_bytes (actor_bytes e.from ++ actor_bytes e.to) (stamp_bytes e.id.0) (joined_bytes (actor_bytes e.from) (actor_bytes e.to) (actor_is_bytes e.from) (actor_is_bytes e.to))
    (stamp_is_bytes e.id.0)) (stamp_is_bytes e.ballot.0)

proposal_is_bytes : (body : BodyParts) (t : Stamp) (deps : List ShardDeps) → IsNumberedBody body → FitsSettled (record { t = t; deps = deps }) → AllBytes (proposal_bytes body t deps)
unfolding proposal_bytes
proposal_is_bytes body t deps numbered fit = joined_bytes (body_bytes body) (dated_bytes t deps) (body_is_bytes body numbered) (dated_is_bytes t deps fit)

number_small : (m : Message) → number_of m < 256
number_small (PreAccept from to id ballot body) = omega arith
number_small (PreAcceptOk from to id ballot vote deps) = omega arith
number_small (Accept from to id ballot body t deps) = omega arith
number_small (AcceptOk from to id ballot deps) = omega arith
number_small (Commit from to id ballot body t deps) = omega arith
number_small (CommitOk from to id ballot) = omega arith
number_small (Stable from to id ballot body t deps) = omega arith
number_small (ReadOk from to id ballot answer) = omega arith
number_small (Apply from to id ballot body t deps outcome) = omega arith
number_small (Recover from to id ballot body) = omega arith
number_small (RecoverOk from to id ballot view) = omega arith
number_small (Nack from to id ballot promised) = omega arith
number_small (Decided from to id ballot t deps) = omega arith
number_small (Inform from to id ballot outcome) = omega arith

-- of a message that brings a body
content_is_bytes : (m : Message) → is_some (body_in m) ≡ true → HasFittingContent m → HasFittingCells m → AllBytes (content_bytes m)
unfolding content_bytes
content_is_bytes (PreAccept from to id ballot body) brings fits cells = body_is_bytes body fits
content_is_bytes (Accept from to id ballot body t deps) brings fits cells = proposal_is_bytes body t deps fits.0 fits.1
content_is_bytes (Commit from to id ballot body t deps) brings fits cells = proposal_is_bytes body t deps fits.0 fits.1
content_is_bytes (Stable from to id ballot body t deps) brings fits cells = proposal_is_bytes body t deps fits.0 fits.1
content_is_bytes (Apply from to id ballot body t deps outcome) brings fits cells =
    joined_bytes (proposal_bytes body t deps) (outcome_bytes outcome) (proposal_is_bytes body t deps fits.0.0 fits.0.1) (outcome_is_bytes outcome cells.1)
content_is_bytes (Recover from to id ballot body) brings fits cells = body_is_bytes body fits
content_is_bytes (PreAcceptOk from to id ballot vote deps) brings fits cells = absurd (true≢false (sym brings))
content_is_bytes (AcceptOk from to id ballot deps) brings fits cells = absurd (true≢false (sym brings))
content_is_bytes (CommitOk from to id ballot) brings fits cells = absurd (true≢false (sym brings))
content_is_bytes (ReadOk from to id ballot answer) brings fits cells = absurd (true≢false (sym brings))
content_is_bytes (RecoverOk from to id ballot view) brings fits cells = absurd (true≢false (sym brings))
content_is_bytes (Nack from to id ballot promised) brings fits cells = absurd (true≢false (sym brings))
content_is_bytes (Decided from to id ballot t deps) brings fits cells = absurd (true≢false (sym brings))
content_is_bytes (Inform from to id ballot outcome) brings fits cells = absurd (true≢false (sym brings))

pub message_is_bytes : (m : Message) → is_some (body_in m) ≡ true → FitsMessage m → HasFittingCells m → AllBytes (message_bytes m)
unfolding message_bytes
message_is_bytes m brings fits cells = (
  number_small m,
  joined_bytes (envelope_bytes (envelope_of m)) (content_bytes m) (envelope_is_bytes (envelope_of m)) (content_is_bytes m brings fits.content cells),
)

-- ---- draws

purpose_small : (p : Purpose) → purpose_number p < 256
purpose_small Begin = omega arith
purpose_small RecoverPurpose = omega arith

pub draw_is_bytes : (d : Draw) → AllBytes (draw_bytes d)
unfolding draw_bytes
draw_is_bytes d = (purpose_small d.purpose, joined_bytes (u32_bytes d.txn) (u64_bytes d.h) (u32_are_bytes d.txn) (u64_are_bytes d.h))
