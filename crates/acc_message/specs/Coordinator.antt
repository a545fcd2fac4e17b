-- Coordinator: how an attempt at a transaction goes on with each message.
use Rattle.std.specs.Prelude.{ℕ, Bool, true, false, not, cond, ◌==◌, ◌&&◌, ◌||◌, List, [], ◌∷◌, ◌++◌, Option, None, Some, map, if◌then◌else◌}
use Rattle.acc_stamp.specs.declared.stamps.TxnId.{TxnId}
use Rattle.acc_stamp.specs.declared.stamps.Ballot.{Ballot}
use Rattle.acc_stamp.specs.declared.actors.Actor.{Actor}
use Rattle.acc_stamp.specs.Actor.{actor_of, node_of_stamp}
use Rattle.acc_stamp.specs.Stamp.{ballot_lt, ballot_eq, zero_ballot}
use Rattle.acc_topology.specs.Layout.{Layout}
use Rattle.acc_deps.specs.declared.records.Settled.{Settled}
use Rattle.acc_deps.specs.declared.records.Choice.{Choice}
use Rattle.acc_deps.specs.declared.records.Choice.TheVariants.{Accept as GoAccept, Commit as GoCommit, Stable as GoStable}
use Rattle.acc_deps.specs.Deps.{deps_union}
use Rattle.acc_txn.specs.declared.parts.BodyParts.{BodyParts}
use Rattle.acc_txn.specs.declared.outcome.Outcome.{Outcome}
use Rattle.acc_message.specs.declared.message.Message.{Message}
use Rattle.acc_message.specs.declared.message.Message.TheVariants.{PreAccept, PreAcceptOk, Accept, AcceptOk, Commit, CommitOk, Stable, ReadOk, Apply, Recover, RecoverOk, Nack, Decided, Inform}
use Rattle.acc_message.specs.declared.note.Path.{Path}
use Rattle.acc_message.specs.declared.note.Path.TheVariants.{Fast, Slow, Recovered, Adopted}
use Rattle.acc_message.specs.declared.note.Note.{Note}
use Rattle.acc_message.specs.declared.note.Note.TheVariants.{Begin as BeginNote, Recover as RecoverNote, Blocked, Ended, Decide, Outcome as OutcomeNote, Reply as ReplyNote}
use Rattle.acc_message.specs.declared.entry.Emitted.{Emitted}
use Rattle.acc_message.specs.Fields.{ballot_of}
use Rattle.acc_message.specs.Items.{same_actor}
use Rattle.acc_message.specs.Shares.{stores_used}
use Rattle.acc_message.specs.Attempts.{Attempt, Phase, Voting, Recovering, Accepting, Committing, Executing, counts, greatest_vote, union_of, majority_everywhere, fast_everywhere, fast_lost_somewhere, outcome_from}
use Rattle.acc_message.specs.RecoveryDecision.{Ruling, Go, Blocks, recovery_decision}

abbrev pub silence : Emitted
silence = record { notes = []; out = [] }

-- what an attempt emits in a step, and what becomes of it, none where it ends. The reply to the client isn't in it
pub record Reaction : Type 0 where
  pub emitted : Emitted
  pub next : Option Attempt

abbrev pub stay : Attempt → Reaction
stay a = record { emitted = silence; next = Some a }

abbrev pub to_all : Layout → BodyParts → (Actor → Message) → List Message
to_all layout body message_to = map message_to (stores_used layout body)

-- the same attempt in a new phase
abbrev pub in_phase : Attempt → Phase → Attempt
in_phase a phase = record { ballot = a.ballot; body = a.body; phase = phase; answers = [] }

-- ---- the first messages

abbrev pub begun : BodyParts → Attempt
begun body = record { ballot = zero_ballot; body = body; phase = Voting; answers = [] }

abbrev pub ask_for_votes : Layout → Actor → TxnId → BodyParts → List Message
ask_for_votes layout own x body = to_all layout body (λ store. PreAccept own store x zero_ballot body)

abbrev pub recovering : Ballot → BodyParts → Attempt
recovering b body = record { ballot = b; body = body; phase = Recovering; answers = [] }

abbrev pub ask_for_views : Layout → Actor → TxnId → Ballot → BodyParts → List Message
ask_for_views layout own x b body = to_all layout body (λ store. Recover own store x b body)

-- ---- the later ones

abbrev pub propose : Layout → Actor → TxnId → Attempt → Settled → Reaction
propose layout own x a s =
    record {
      emitted = record { notes = []; out = to_all layout a.body (λ store. Accept own store x a.ballot a.body s.t s.deps) };
      next = Some (in_phase a (Accepting s));
    }

abbrev pub commit : Layout → Actor → TxnId → Attempt → Settled → Reaction
commit layout own x a s =
    record {
      emitted = record { notes = []; out = to_all layout a.body (λ store. Commit own store x a.ballot a.body s.t s.deps) };
      next = Some (in_phase a (Committing s));
    }

-- a decision goes to all stores
abbrev pub decide : Layout → Actor → TxnId → Attempt → Path → Settled → Reaction
decide layout own x a path s =
    record {
      emitted = record {
        notes = Decide x s.t path s.deps ∷ [];
        out = to_all layout a.body (λ store. Stable own store x a.ballot a.body s.t s.deps);
      };
      next = Some (in_phase a (Executing s));
    }

-- the outcome goes to all stores, and to the node that began the transaction where this is another one
abbrev pub home_node : TxnId → Actor
home_node x = actor_of (node_of_stamp x.0) 0

abbrev pub inform : Actor → TxnId → Ballot → Outcome → List Message
inform own x b outcome = cond (same_actor own (home_node x)) [] (Inform own (home_node x) x b outcome ∷ [])

abbrev pub finish : Layout → Actor → TxnId → Attempt → Settled → Outcome → Reaction
finish layout own x a s outcome =
    record {
      emitted = record {
        notes = OutcomeNote x outcome.reply ∷ [];
        out = to_all layout a.body (λ store. Apply own store x a.ballot a.body s.t s.deps outcome) ++ inform own x a.ballot outcome;
      };
      next = None;
    }

abbrev pub block : TxnId → Attempt → List TxnId → Reaction
block x a by = record { emitted = record { notes = Blocked x a.ballot by ∷ []; out = [] }; next = None }

abbrev pub end : TxnId → Attempt → Ballot → Reaction
end x a by = record { emitted = record { notes = Ended x a.ballot by ∷ []; out = [] }; next = None }

-- ---- the conditions

-- an attempt goes on where the condition holds, and else stays as it is
abbrev pub when : Bool → (Attempt → Reaction) → Attempt → Reaction
when true go_on a = go_on a
when false go_on a = stay a

-- an attempt goes on in the one way where the condition holds, and else in the other
abbrev pub either : Bool → (Attempt → Reaction) → (Attempt → Reaction) → Attempt → Reaction
either true one other a = one a
either false one other a = other a

-- votes for the transaction's own timestamp that are fast in every shard decide it. Else, with a majority everywhere and
-- a fast quorum lost somewhere, the greatest vote is proposed
abbrev pub own_stamp : TxnId → Attempt → Settled
own_stamp x a = record { t = x.0; deps = union_of x a.answers }

abbrev pub highest_vote : TxnId → Attempt → Settled
highest_vote x a = record { t = greatest_vote x a.answers; deps = union_of x a.answers }

abbrev pub slow_down : Layout → Actor → TxnId → Attempt → Reaction
slow_down layout own x a = propose layout own x a (highest_vote x a)

abbrev pub after_vote : Layout → Actor → TxnId → Attempt → Reaction
after_vote layout own x a =
    either (fast_everywhere layout x a.body a.answers)
    (λ a. decide layout own x a Fast (own_stamp x a))
    (λ a. when (majority_everywhere layout x a.body a.answers && fast_lost_somewhere layout x a.body a.answers) (slow_down layout own x) a)
    a

abbrev pub go : Layout → Actor → TxnId → Attempt → Choice → Reaction
go layout own x a (GoAccept s) = propose layout own x a s
go layout own x a (GoCommit s) = commit layout own x a s
go layout own x a (GoStable s) = decide layout own x a Adopted s

abbrev pub follow_ruling : Layout → Actor → TxnId → Attempt → Ruling → Reaction
follow_ruling layout own x a (Go choice) = go layout own x a choice
follow_ruling layout own x a (Blocks by) = block x a by

abbrev pub after_view : Layout → Actor → TxnId → Attempt → Reaction
after_view layout own x a =
    when (majority_everywhere layout x a.body a.answers)
    (λ a. follow_ruling layout own x a (recovery_decision layout x a.body a.answers)) a

-- what is committed has the proposed dependencies with those of all answers
abbrev pub agreed : TxnId → Settled → Attempt → Settled
agreed x s a = record { t = s.t; deps = deps_union s.deps (union_of x a.answers) }

abbrev pub after_accept : Layout → Actor → TxnId → Attempt → Settled → Reaction
after_accept layout own x a s =
    when (majority_everywhere layout x a.body a.answers) (λ a. commit layout own x a (agreed x s a)) a

abbrev pub path_of : Ballot → Path
path_of b = if ballot_eq b zero_ballot then Slow else Recovered

abbrev pub after_commit : Layout → Actor → TxnId → Attempt → Settled → Reaction
after_commit layout own x a s =
    when (majority_everywhere layout x a.body a.answers) (λ a. decide layout own x a (path_of a.ballot) s) a

abbrev pub finish_with : Layout → Actor → TxnId → Attempt → Settled → Option Outcome → Reaction
finish_with layout own x a s None = stay a
finish_with layout own x a s (Some outcome) = finish layout own x a s outcome

abbrev pub after_read : Layout → Actor → TxnId → Attempt → Settled → Reaction
after_read layout own x a s = finish_with layout own x a s (outcome_from layout a.body a.answers)

-- an attempt to which an answer that counts was just added
abbrev pub after_answer : Layout → Actor → TxnId → Attempt → Phase → Reaction
after_answer layout own x a Voting = after_vote layout own x a
after_answer layout own x a Recovering = after_view layout own x a
after_answer layout own x a (Accepting s) = after_accept layout own x a s
after_answer layout own x a (Committing s) = after_commit layout own x a s
after_answer layout own x a (Executing s) = after_read layout own x a s

abbrev pub with_answer : Attempt → Message → Attempt
with_answer a m = record { ballot = a.ballot; body = a.body; phase = a.phase; answers = m ∷ a.answers }

-- ---- refusals

abbrev pub is_decided : Phase → Bool
is_decided (Executing s) = true
is_decided _ = false

abbrev pub is_past_recover : Phase → Bool
is_past_recover (Accepting s) = true
is_past_recover (Committing s) = true
is_past_recover (Executing s) = true
is_past_recover _ = false

-- a greater ballot ends an undecided attempt
abbrev pub on_nack : TxnId → Attempt → Ballot → Reaction
on_nack x a promised = when (not (is_decided a.phase) && ballot_lt a.ballot promised) (λ a. end x a promised) a

-- a store tells that there is a decision. An attempt that has none takes it over if its ballot is zero or its phase comes
-- after Recover
abbrev pub on_decided : Layout → Actor → TxnId → Attempt → Settled → Reaction
on_decided layout own x a s =
    when (not (is_decided a.phase) && (is_past_recover a.phase || ballot_eq a.ballot zero_ballot))
    (λ a. decide layout own x a Adopted s) a

-- ---- every message

-- Nack and Decided are heard in any phase, as often as they come
abbrev pub on_message : Layout → Actor → TxnId → Attempt → Message → Reaction
on_message layout own x a (Nack from to id ballot promised) = on_nack x a promised
on_message layout own x a (Decided from to id ballot t deps) = on_decided layout own x a (record { t = t; deps = deps })
on_message layout own x a m =
    when (counts layout a m) (λ a. after_answer layout own x (with_answer a m) a.phase) a

-- a message of another attempt changes nothing
abbrev pub reaction : Layout → Actor → TxnId → Attempt → Message → Reaction
reaction layout own x a m = when (ballot_eq (ballot_of m) a.ballot) (λ a. on_message layout own x a m) a

-- the event slow, in the first phase and with a majority of answers everywhere
abbrev pub may_slow_down : Layout → TxnId → Attempt → Phase → Bool
may_slow_down layout x a Voting = majority_everywhere layout x a.body a.answers
may_slow_down layout x a _ = false

abbrev pub slow_reaction : Layout → Actor → TxnId → Attempt → Reaction
slow_reaction layout own x a = when (may_slow_down layout x a a.phase) (slow_down layout own x) a
