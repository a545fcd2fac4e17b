-- How many bytes stamps take, and what is made of them.
use Rattle.std.proofs.Common.{◌≡◌, ℕ, Bool, ◌+◌, ◌*◌, List, [], ◌∷◌, ◌++◌, length, refl, ap, ◌∙◌, arith, length-append}
use Rattle.std.specs.List.{flat_map}
use Rattle.std.proofs.lemmas.List.Concat.{flat_map-cons}
use Rattle.acc_wire.specs.Spelling.{u8_bytes, u16_bytes, u32_bytes, u64_bytes}
use Rattle.acc_stamp.specs.declared.stamps.Stamp.{Stamp}
use Rattle.acc_stamp.specs.declared.stamps.TxnId.{TxnId}
use Rattle.acc_deps.specs.declared.shards.ShardDeps.{ShardDeps}
use Rattle.acc_deps.specs.declared.records.Accepted.{Accepted}
use Rattle.acc_deps.specs.declared.records.Settled.{Settled}
use Rattle.acc_deps.specs.declared.records.View.{View}
use Rattle.acc_txn.specs.declared.parts.BodyParts.{BodyParts}
use Rattle.acc_message.specs.declared.envelope.Envelope.{Envelope}
use Rattle.acc_message.specs.declared.message.Message.{Message}
use Rattle.acc_message.specs.Fields.{envelope_of}
use Rattle.acc_txn.specs.declared.outcome.Outcome.{Outcome}
use Rattle.acc_stamp.specs.declared.actors.Actor.{Actor}
use Rattle.acc_code.specs.Spelling.{outcome_bytes}
use Rattle.acc_txn.specs.BodySpelling.{body_bytes}
use Rattle.acc_message_code.specs.Spelling.{actor_bytes, stamp_bytes, id_bytes, ids_bytes, deps_bytes, accepted_bytes, settled_bytes, optional, flag_bytes, view_bytes}
use Rattle.acc_message_code.specs.MessageSpelling.{number_of, envelope_bytes, dated_bytes, proposal_bytes, content_bytes, message_bytes}

pub stamp_takes : (stamp : Stamp) → length (stamp_bytes stamp) ≡ 12
unfolding stamp_bytes u64_bytes u32_bytes
stamp_takes stamp = refl

pub each_id_takes : (ids : List TxnId) → length (flat_map id_bytes ids) ≡ 12 * length ids
each_id_takes [] = refl
each_id_takes (id ∷ ids) =
    ap length (flat_map-cons id_bytes id ids)
    ∙ (omega (arith, length-append (id_bytes id) (flat_map id_bytes ids), stamp_takes id.0, each_id_takes ids))

pub ids_take : (ids : List TxnId) → length (ids_bytes ids) ≡ 2 + 12 * length ids
unfolding ids_bytes u16_bytes
ids_take ids = omega (arith, each_id_takes ids)

pub settled_takes : (s : Settled) → length (settled_bytes s) ≡ 12 + length (deps_bytes s.deps)
unfolding settled_bytes
settled_takes s = omega (arith, length-append (stamp_bytes s.t) (deps_bytes s.deps), stamp_takes s.t)

pub dated_takes : (t : Stamp) (deps : List ShardDeps) → length (dated_bytes t deps) ≡ 12 + length (deps_bytes deps)
dated_takes t deps = settled_takes (record { t = t; deps = deps })

pub proposal_takes : (body : BodyParts) (t : Stamp) (deps : List ShardDeps) → length (proposal_bytes body t deps) ≡ length (body_bytes body) + (12 + length (deps_bytes deps))
unfolding proposal_bytes
proposal_takes body t deps = omega (arith, length-append (body_bytes body) (dated_bytes t deps), dated_takes t deps)

pub accepted_takes : (a : Accepted) → length (accepted_bytes a) ≡ 24 + length (deps_bytes a.deps)
unfolding accepted_bytes
accepted_takes a =
    omega (
      arith,
      length-append (stamp_bytes a.ballot.0 ++ stamp_bytes a.t) (deps_bytes a.deps),
      length-append (stamp_bytes a.ballot.0) (stamp_bytes a.t),
      stamp_takes a.ballot.0,
      stamp_takes a.t,
    )

actor_takes : (actor : Actor) → length (actor_bytes actor) ≡ 2
unfolding actor_bytes u16_bytes
actor_takes actor = refl

flag_takes : (flag : Bool) → length (flag_bytes flag) ≡ 1
unfolding flag_bytes
flag_takes flag = refl

-- parts that stand one after the other
four_take : (a b c d : List ℕ) → length (a ++ b ++ c ++ d) ≡ length a + length b + length c + length d
four_take a b c d = omega (arith, length-append (a ++ b ++ c) d, length-append (a ++ b) c, length-append a b)

eight_take : (a b c d e f g h : List ℕ) → length (a ++ b ++ c ++ d ++ e ++ f ++ g ++ h) ≡ length a + length b + length c + length d + length e + length f + length g + length h
eight_take a b c d e f g h =
    omega (
      arith,
      length-append (a ++ b ++ c ++ d ++ e ++ f ++ g) h,
      length-append (a ++ b ++ c ++ d ++ e ++ f) g,
      length-append (a ++ b ++ c ++ d ++ e) f,
      length-append (a ++ b ++ c ++ d) e,
      four_take a b c d,
    )

pub view_takes : (v : View) → length (view_bytes v) ≡ 3 + (12 + length (deps_bytes v.vote_deps)) + length (optional accepted_bytes v.accepted) + length (optional accepted_bytes v.committed) + length (optional settled_bytes v.stable) + length (ids_bytes v.waits)
unfolding view_bytes
view_takes v =
    omega (
      arith,
      eight_take (actor_bytes v.store) (stamp_bytes v.vote) (deps_bytes v.vote_deps) (optional accepted_bytes v.accepted) (optional accepted_bytes v.committed) (optional settled_bytes v.stable) (flag_bytes v.superseded) (ids_bytes v.waits),
      actor_takes v.store,
      stamp_takes v.vote,
      flag_takes v.superseded,
    )

pub apply_takes : (body : BodyParts) (t : Stamp) (deps : List ShardDeps) (outcome : Outcome) → length (proposal_bytes body t deps ++ outcome_bytes outcome) ≡ length (body_bytes body) + (12 + length (deps_bytes deps)) + length (outcome_bytes outcome)
apply_takes body t deps outcome = omega (arith, length-append (proposal_bytes body t deps) (outcome_bytes outcome), proposal_takes body t deps)

envelope_takes : (e : Envelope) → length (envelope_bytes e) ≡ 28
unfolding envelope_bytes
envelope_takes e =
    omega (
      arith,
      four_take (actor_bytes e.from) (actor_bytes e.to) (stamp_bytes e.id.0) (stamp_bytes e.ballot.0),
      actor_takes e.from,
      actor_takes e.to,
      stamp_takes e.id.0,
      stamp_takes e.ballot.0,
    )

pub message_takes : (m : Message) → length (message_bytes m) ≡ 29 + length (content_bytes m)
unfolding message_bytes
message_takes m =
    omega (
      arith,
      length-append (u8_bytes (number_of m) ++ envelope_bytes (envelope_of m)) (content_bytes m),
      length-append (u8_bytes (number_of m)) (envelope_bytes (envelope_of m)),
      envelope_takes (envelope_of m),
    )
