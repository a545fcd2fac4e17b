-- Messages: more after one changes no answer other than that the bytes are too short. So a cut message is too short.
use Rattle.std.proofs.Common.{◌≡◌, inl, inr, ℕ, zero, suc, Bool, true, false, ◌<◌, ◌≤◌, List, [], ◌++◌, length, take, drop, Some, None, Ok, Err, refl, sym, ap, subst, ◌∙◌, arith, length-append}
use Rattle.std.specs.Prelude.{◌==◌, nat_le, nat_lt}
use Rattle.std.specs.List.{list_all}
use Rattle.std.proofs.lemmas.List.{append-nil, take-append-drop, length-take, length-drop}
use Rattle.acc_wire.specs.declared.error.WireKind.TheVariants.{Short}
use Rattle.acc_wire.specs.Reading.{Unread, Passes, Read}
use Rattle.acc_wire.proofs.Fields.{unread}
use Rattle.acc_stamp.specs.declared.stamps.Stamp.{Stamp}
use Rattle.acc_stamp.specs.declared.stamps.TxnId.{TxnId}
use Rattle.acc_stamp.specs.declared.stamps.Ballot.{Ballot}
use Rattle.acc_stamp.specs.declared.actors.Actor.{Actor}
use Rattle.acc_stamp.specs.Stamp.{id_lt}
use Rattle.acc_deps.specs.declared.shards.ShardDeps.{ShardDeps}
use Rattle.acc_deps.specs.declared.records.Settled.{Settled}
use Rattle.acc_message.specs.declared.answer.ReadAnswer.TheVariants.{Values, Known}
use Rattle.acc_message.specs.declared.envelope.Envelope.{Envelope}
use Rattle.acc_message.specs.declared.message.Message.{Message}
use Rattle.acc_message.specs.declared.message.Message.TheVariants.{PreAccept, PreAcceptOk, Accept, AcceptOk, Commit, CommitOk, Stable, ReadOk, Apply, Recover, RecoverOk, Nack, Decided, Inform}
use Rattle.acc_message_code.specs.Fitting.{FitsMessage}
use Rattle.acc_message_code.specs.MessageSpelling.{message_bytes}
use Rattle.acc_message_code.specs.Reading.{actor_at, stamp_at, id_at, ballot_at, next_id_at, ids_at, next_shard_at, shard_at, deps_at, settled_at, accepted_at, optional_behind, optional_at, flag_at, voted_at, view_at}
use Rattle.acc_message_code.specs.MessageReading.{envelope_at, answer_behind, answer_at, proposal_at, pre_accept_at, accept_at, commit_at, stable_at, apply_at, recover_at, request_at, pre_accept_ok_at, accept_ok_at, read_ok_at, recover_ok_at, nack_at, decided_at, inform_at, reply_at, is_request, content_at, message_at, message_of}
use Rattle.acc_message_code.proofs.Stability.{Agrees, end_of, IsStable, stable_then, stable_done, stable_either, stable_passing, u16_stable, u32_stable, u64_stable, between_stable, each_stable, listed_stable}
use Rattle.acc_message_code.proofs.BodyStability.{cells_stable, outcome_stable, body_stable}
use Rattle.acc_message_code.proofs.MessageFormat.{message_field}

-- ---- stamps and dependencies

abbrev make_actor : ℕ → Actor
make_actor number = record { 0 = number }

actor_stable : IsStable actor_at
unfolding actor_at
actor_stable = stable_then u16_stable (λ number. stable_done (make_actor number))

abbrev make_stamp : ℕ → ℕ → Stamp
make_stamp h origin = record { h = h; origin = origin }

stamp_stable : IsStable stamp_at
unfolding stamp_at
stamp_stable = stable_then u64_stable (λ h. stable_then u32_stable (λ origin. stable_done (make_stamp h origin)))

abbrev make_id : Stamp → TxnId
make_id stamp = record { 0 = stamp }

id_stable : IsStable id_at
unfolding id_at
id_stable = stable_then stamp_stable (λ stamp. stable_done (make_id stamp))

abbrev make_ballot : Stamp → Ballot
make_ballot stamp = record { 0 = stamp }

ballot_stable : IsStable ballot_at
unfolding ballot_at
ballot_stable = stable_then stamp_stable (λ stamp. stable_done (make_ballot stamp))

next_id_stable : (front : List TxnId) → IsStable (next_id_at front)
unfolding next_id_at
next_id_stable front = stable_passing (λ id. list_all (λ y. id_lt y id) front) id_stable

ids_stable : (least : ℕ) → IsStable (ids_at least)
unfolding ids_at
ids_stable least = stable_then (stable_passing (λ n. nat_le least n) u16_stable) (λ n. each_stable next_id_stable n [])

next_shard_stable : (front : List ShardDeps) → IsStable (next_shard_at front)
unfolding next_shard_at
next_shard_stable front = stable_passing (λ shard. list_all (λ d. nat_lt d.shard shard) front) (between_stable 1 15)

abbrev make_shard : ℕ → List TxnId → ShardDeps
make_shard shard ids = record { shard = shard; ids = ids }

shard_stable : (front : List ShardDeps) → IsStable (shard_at front)
unfolding shard_at
shard_stable front = stable_then (next_shard_stable front) (λ shard. stable_then (ids_stable 1) (λ ids. stable_done (make_shard shard ids)))

deps_stable : IsStable deps_at
unfolding deps_at
deps_stable = listed_stable shard_stable 0 15

-- ---- what a store keeps

abbrev make_settled : Stamp → List ShardDeps → Settled
make_settled t deps = record { t = t; deps = deps }

settled_stable : IsStable settled_at
unfolding settled_at
settled_stable = stable_then stamp_stable (λ t. stable_then deps_stable (λ deps. stable_done (make_settled t deps)))

accepted_stable : IsStable accepted_at
unfolding accepted_at
accepted_stable = stable_then ballot_stable (λ ballot. stable_then settled_stable (λ settled. stable_done (record { ballot = ballot; t = settled.t; deps = settled.deps })))

optional_behind_stable : {A : Type 0} {at : Unread → Read A} → IsStable at → (tag : ℕ) → IsStable (optional_behind at tag)
optional_behind_stable field zero = stable_done None
optional_behind_stable field (suc _) = stable_then field (λ value. stable_done (Some value))

optional_stable : {A : Type 0} {at : Unread → Read A} → IsStable at → IsStable (optional_at at)
unfolding optional_at
optional_stable field = stable_then (between_stable 0 1) (optional_behind_stable field)

flag_stable : IsStable flag_at
unfolding flag_at
flag_stable = stable_then (between_stable 0 1) (λ number. stable_done (number == 1))

voted_stable : IsStable voted_at
unfolding voted_at
voted_stable = stable_then actor_stable (λ store. stable_then settled_stable (λ vote. stable_done (store, vote)))

view_stable : IsStable view_at
unfolding view_at
view_stable =
    stable_then voted_stable (λ voted.
    stable_then (optional_stable accepted_stable) (λ accepted.
    stable_then (optional_stable accepted_stable) (λ committed.
    stable_then (optional_stable settled_stable) (λ stable.
    stable_then flag_stable (λ superseded.
    stable_then (ids_stable 0) (λ waits. stable_done (record {
      store = voted.0;
      vote = voted.1.t;
      vote_deps = voted.1.deps;
      accepted = accepted;
      committed = committed;
      stable = stable;
      superseded = superseded;
      waits = waits;
    })))))))

-- ---- what a message has besides

envelope_stable : IsStable envelope_at
unfolding envelope_at
envelope_stable =
    stable_then actor_stable (λ from.
    stable_then actor_stable (λ to.
    stable_then id_stable (λ id.
    stable_then ballot_stable (λ ballot. stable_done (record { from = from; to = to; id = id; ballot = ballot })))))

answer_behind_stable : (cells : Bool) → IsStable (answer_behind cells)
answer_behind_stable true = stable_then cells_stable (λ cells. stable_done (Values cells))
answer_behind_stable false = stable_then outcome_stable (λ outcome. stable_done (Known outcome))

answer_stable : IsStable answer_at
unfolding answer_at
answer_stable = stable_then (between_stable 1 2) (λ number. answer_behind_stable (number == 1))

proposal_stable : IsStable proposal_at
unfolding proposal_at
proposal_stable = stable_then body_stable (λ body. stable_then settled_stable (λ settled. stable_done (body, settled)))

pre_accept_stable : (e : Envelope) → IsStable (pre_accept_at e)
unfolding pre_accept_at
pre_accept_stable e = stable_then body_stable (λ body. stable_done (PreAccept e.from e.to e.id e.ballot body))

accept_stable : (e : Envelope) → IsStable (accept_at e)
unfolding accept_at
accept_stable e = stable_then proposal_stable (λ p. stable_done (Accept e.from e.to e.id e.ballot p.0 p.1.t p.1.deps))

commit_stable : (e : Envelope) → IsStable (commit_at e)
unfolding commit_at
commit_stable e = stable_then proposal_stable (λ p. stable_done (Commit e.from e.to e.id e.ballot p.0 p.1.t p.1.deps))

stable_stable : (e : Envelope) → IsStable (stable_at e)
unfolding stable_at
stable_stable e = stable_then proposal_stable (λ p. stable_done (Stable e.from e.to e.id e.ballot p.0 p.1.t p.1.deps))

apply_stable : (e : Envelope) → IsStable (apply_at e)
unfolding apply_at
apply_stable e = stable_then proposal_stable (λ p. stable_then outcome_stable (λ outcome. stable_done (Apply e.from e.to e.id e.ballot p.0 p.1.t p.1.deps outcome)))

recover_stable : (e : Envelope) → IsStable (recover_at e)
unfolding recover_at
recover_stable e = stable_then body_stable (λ body. stable_done (Recover e.from e.to e.id e.ballot body))

pre_accept_ok_stable : (e : Envelope) → IsStable (pre_accept_ok_at e)
unfolding pre_accept_ok_at
pre_accept_ok_stable e = stable_then settled_stable (λ dated. stable_done (PreAcceptOk e.from e.to e.id e.ballot dated.t dated.deps))

accept_ok_stable : (e : Envelope) → IsStable (accept_ok_at e)
unfolding accept_ok_at
accept_ok_stable e = stable_then deps_stable (λ deps. stable_done (AcceptOk e.from e.to e.id e.ballot deps))

read_ok_stable : (e : Envelope) → IsStable (read_ok_at e)
unfolding read_ok_at
read_ok_stable e = stable_then answer_stable (λ answer. stable_done (ReadOk e.from e.to e.id e.ballot answer))

recover_ok_stable : (e : Envelope) → IsStable (recover_ok_at e)
unfolding recover_ok_at
recover_ok_stable e = stable_then view_stable (λ view. stable_done (RecoverOk e.from e.to e.id e.ballot view))

nack_stable : (e : Envelope) → IsStable (nack_at e)
unfolding nack_at
nack_stable e = stable_then ballot_stable (λ promised. stable_done (Nack e.from e.to e.id e.ballot promised))

decided_stable : (e : Envelope) → IsStable (decided_at e)
unfolding decided_at
decided_stable e = stable_then settled_stable (λ dated. stable_done (Decided e.from e.to e.id e.ballot dated.t dated.deps))

inform_stable : (e : Envelope) → IsStable (inform_at e)
unfolding inform_at
inform_stable e = stable_then outcome_stable (λ outcome. stable_done (Inform e.from e.to e.id e.ballot outcome))

request_stable : (number : ℕ) (e : Envelope) → IsStable (request_at number e)
request_stable number e =
    stable_either (number == 1) (pre_accept_stable e)
    (stable_either (number == 3) (accept_stable e)
    (stable_either (number == 5) (commit_stable e)
    (stable_either (number == 7) (stable_stable e)
    (stable_either (number == 9) (apply_stable e) (recover_stable e)))))

reply_stable : (number : ℕ) (e : Envelope) → IsStable (reply_at number e)
reply_stable number e =
    stable_either (number == 2) (pre_accept_ok_stable e)
    (stable_either (number == 4) (accept_ok_stable e)
    (stable_either (number == 6) (stable_done (CommitOk e.from e.to e.id e.ballot))
    (stable_either (number == 8) (read_ok_stable e)
    (stable_either (number == 11) (recover_ok_stable e)
    (stable_either (number == 12) (nack_stable e)
    (stable_either (number == 13) (decided_stable e) (inform_stable e)))))))

content_stable : (number : ℕ) (e : Envelope) → IsStable (content_at number e)
content_stable number e = stable_either (is_request number) (request_stable number e) (reply_stable number e)

message_stable : IsStable message_at
unfolding message_at
message_stable = stable_then (between_stable 1 14) (λ number. stable_then envelope_stable (λ e. content_stable number e))

-- ---- a cut message

-- the bytes end inside a field, which begins no later than they end
abbrev EndsAt : ℕ → Read Message → Type 0
EndsAt k read = (place : ℕ) × (place ≤ k) × (read ≡ Err (record { kind = Short; place = place }))

abbrev length_left : Read Message → ℕ
length_left (Ok x) = length x.1.bytes
length_left (Err e) = 0

-- what is read where nothing is left after it isn't read where bytes are missing
ends_at : (k : ℕ) (more : List ℕ) (cut : Read Message) (m : Message) (place : ℕ) → 0 < length more → Agrees more k cut (Ok (m, unread [] place)) → EndsAt k cut
ends_at k more (Ok x) m place some h =
    let e : length (x.1.bytes ++ more) ≡ 0 = ap length_left (sym h.0) in
    absurd (omega (arith, e, some, length-append x.1.bytes more))
ends_at k more (Err e) m place some h =
    elim h.1 [
      | inl short ↦ (e.place, h.0, ap (λ kind. Err (record { kind = kind; place = e.place })) short)
      | inr same ↦ absurd cc
    ]

-- the message of a cut spelling, which isn't there
cut_message : (k : ℕ) (bytes : List ℕ) → EndsAt k (message_at (unread bytes 0)) → (place : ℕ) × (place ≤ k) × (message_of bytes ≡ Err (record { kind = Short; place = place }))
unfolding message_of
cut_message k bytes h = (h.0, h.1, rw h.2 refl)

pub message_cut : (m : Message) (k : ℕ) → FitsMessage m → k < length (message_bytes m) → (place : ℕ) × (place ≤ k) × (message_of (take k (message_bytes m)) ≡ Err (record { kind = Short; place = place }))
message_cut m k fits lt =
    let whole = message_bytes m in
    let front = take k whole in
    let more = drop k whole in
    let rest = unread [] (length whole) in
    let passes : Passes (unread whole 0) rest whole = record { bytes = sym (append-nil whole); place = omega arith } in
    let read : message_at (unread whole 0) ≡ Ok (m, rest) = message_field.again (unread whole 0) rest m fits passes in
    let joined : front ++ more ≡ whole = take-append-drop k whole in
    let h = message_stable.agrees more (unread front 0) in
    let ends : end_of (unread front 0) ≡ k = omega (arith, length-take k whole, lt) in
    let some : 0 < length more = omega (arith, length-drop k whole, lt) in
    let agrees : Agrees more k (message_at (unread front 0)) (Ok (m, rest)) =
    subst (λ (end : ℕ). Agrees more end (message_at (unread front 0)) (Ok (m, rest))) ends
    (subst (λ (r : Read Message). Agrees more (end_of (unread front 0)) (message_at (unread front 0)) r) (ap (λ (bytes : List ℕ). message_at (unread bytes 0)) joined ∙ read) h) in
    cut_message k front (ends_at k more (message_at (unread front 0)) m (length whole) some agrees)
