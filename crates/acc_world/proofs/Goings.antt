-- What a reaction makes of an attempt: it stays as it is, it goes to a new phase with messages that ask for it, or it is over.
use Rattle.std.proofs.Common.{◌≡◌, ◌<◌, Bool, true, false, not, ◌&&◌, cond, List, [], ◌∷◌, length, Option, None, Some, refl, sym, ◌∙◌, ap, subst}
use Rattle.std.specs.List.{list_any}
use Rattle.acc_stamp.specs.declared.stamps.Stamp.{Stamp}
use Rattle.acc_stamp.specs.declared.stamps.TxnId.{TxnId}
use Rattle.acc_stamp.specs.declared.stamps.Ballot.{Ballot}
use Rattle.acc_stamp.specs.declared.actors.Actor.{Actor}
use Rattle.acc_stamp.specs.Stamp.{id_eq, ballot_eq, ballot_lt}
use Rattle.acc_stamp.proofs.Order.{id_order, eq_itself}
use Rattle.acc_topology.specs.Layout.{Layout}
use Rattle.acc_deps.specs.declared.shards.ShardDeps.{ShardDeps}
use Rattle.acc_deps.specs.declared.records.Settled.{Settled}
use Rattle.acc_deps.specs.declared.records.Choice.TheVariants.{Accept as GoAccept, Commit as GoCommit, Stable as GoStable}
use Rattle.acc_txn.specs.declared.outcome.Outcome.{Outcome}
use Rattle.acc_message.specs.declared.message.Message.{Message}
use Rattle.acc_message.specs.declared.message.Message.TheVariants.{PreAccept, PreAcceptOk, Accept, AcceptOk, Commit, CommitOk, Stable, ReadOk, Apply, Recover, RecoverOk, Nack, Decided, Inform}
use Rattle.acc_message.specs.declared.note.Path.{Path}
use Rattle.acc_message.specs.declared.note.Path.TheVariants.{Fast, Adopted}
use Rattle.acc_message.specs.Fields.{from_of, ballot_of}
use Rattle.acc_message.specs.Items.{same_actor}
use Rattle.acc_message.specs.Shares.{stores_used, is_store_of}
use Rattle.acc_message.specs.Attempts.{Attempt, Phase, Voting, Recovering, Accepting, Committing, Executing, fits, same_seat, counts, majority_everywhere, fast_everywhere, fast_lost_somewhere, outcome_from}
use Rattle.acc_message.specs.RecoveryDecision.{Ruling, Go, Blocks, recovery_decision}
use Rattle.acc_message.specs.Coordinator.{Reaction, stay, when, either, in_phase, own_stamp, agreed, path_of, propose, commit, decide, end, home_node, slow_down, follow_ruling, finish_with, after_answer, with_answer, is_decided, on_nack, on_decided, on_message, reaction, may_slow_down, slow_reaction}
use Rattle.acc_safety.specs.NodeMoves.{Move, Wait, Propose, CommitTo, DecideBy, FinishWith, BlockBy, EndBy, made}
use Rattle.acc_safety.proofs.NodeMoved.{hears_all, slow_moved}
use Rattle.acc_world.specs.Told.{asked_in}
use Rattle.acc_world.proofs.Asked.{asked_all, asked_none, asked_neither}

-- what becomes of the attempt at x
pub data Goes (layout : Layout) (x : TxnId) (a : Attempt) (r : Reaction) : Type 0 where
  Stays : r ≡ stay a → Goes layout x a r
  Turns : (phase : Phase) → r.next ≡ Some (in_phase a phase) → (0 < length (stores_used layout a.body) → asked_in x r.emitted.out ≡ Some phase)
      → Goes layout x a r
  IsOver : r.next ≡ None → Goes layout x a r

-- the attempt with the message among its answers, where it counts
abbrev pub counting : Attempt → Message → Bool → Attempt
counting a m b = record { ballot = a.ballot; body = a.body; phase = a.phase; answers = cond b (m ∷ a.answers) a.answers }

itself : (x : TxnId) → id_eq x x ≡ true
itself x = eq_itself id_order x

module _ (layout : Layout) (own : Actor) (x : TxnId) where
  proposes : (a : Attempt) (s : Settled) → Goes layout x a (propose layout own x a s)
  proposes a s =
      Turns (Accepting s) refl
      (asked_all x (λ store. Accept own store x a.ballot a.body s.t s.deps) (Accepting s) (λ store. itself x) (λ store. refl) (stores_used layout a.body))

  commits : (a : Attempt) (s : Settled) → Goes layout x a (commit layout own x a s)
  commits a s =
      Turns (Committing s) refl
      (asked_all x (λ store. Commit own store x a.ballot a.body s.t s.deps) (Committing s) (λ store. itself x) (λ store. refl) (stores_used layout a.body))

  decides : (a : Attempt) (path : Path) (s : Settled) → Goes layout x a (decide layout own x a path s)
  decides a path s =
      Turns (Executing s) refl
      (asked_all x (λ store. Stable own store x a.ballot a.body s.t s.deps) (Executing s) (λ store. itself x) (λ store. refl) (stores_used layout a.body))

  when_goes : (b : Bool) (go_on : Attempt → Reaction) (a : Attempt) → Goes layout x a (go_on a) → Goes layout x a (when b go_on a)
  when_goes true go_on a h = h
  when_goes false go_on a h = Stays refl

  either_goes : (b : Bool) (one other : Attempt → Reaction) (a : Attempt) → Goes layout x a (one a) → Goes layout x a (other a)
      → Goes layout x a (either b one other a)
  either_goes true one other a h k = h
  either_goes false one other a h k = k

  -- ---- an answer that counts

  ruled : (a : Attempt) (ruling : Ruling) → Goes layout x a (follow_ruling layout own x a ruling)
  ruled a (Go (GoAccept s)) = proposes a s
  ruled a (Go (GoCommit s)) = commits a s
  ruled a (Go (GoStable s)) = decides a Adopted s
  ruled a (Blocks by) = IsOver refl

  read : (a : Attempt) (s : Settled) (o : Option Outcome) → Goes layout x a (finish_with layout own x a s o)
  read a s None = Stays refl
  read a s (Some outcome) = IsOver refl

  slowed : (a : Attempt) → Goes layout x a (slow_down layout own x a)
  slowed a = proposes a _

  answered : (a : Attempt) (phase : Phase) → Goes layout x a (after_answer layout own x a phase)
  answered a Voting =
      either_goes (fast_everywhere layout x a.body a.answers) (λ b. decide layout own x b Fast (own_stamp x b))
      (λ b. when (majority_everywhere layout x b.body b.answers && fast_lost_somewhere layout x b.body b.answers) (slow_down layout own x) b) a
      (decides a Fast (own_stamp x a))
      (when_goes (majority_everywhere layout x a.body a.answers && fast_lost_somewhere layout x a.body a.answers) (slow_down layout own x) a (slowed a))
  answered a Recovering =
      when_goes (majority_everywhere layout x a.body a.answers)
      (λ b. follow_ruling layout own x b (recovery_decision layout x b.body b.answers)) a
      (ruled a (recovery_decision layout x a.body a.answers))
  answered a (Accepting s) =
      when_goes (majority_everywhere layout x a.body a.answers) (λ b. commit layout own x b (agreed x s b)) a (commits a (agreed x s a))
  answered a (Committing s) =
      when_goes (majority_everywhere layout x a.body a.answers) (λ b. decide layout own x b (path_of b.ballot) s) a (decides a (path_of a.ballot) s)
  answered a (Executing s) = read a s (outcome_from layout a.body a.answers)

  -- ---- a message

  counted : (a : Attempt) (m : Message) (b : Bool)
      → Goes layout x (counting a m b) (when b (λ c. after_answer layout own x (with_answer c m) c.phase) a)
  counted a m true = answered (with_answer a m) a.phase
  counted a m false = Stays refl

  -- these are no answers of any phase
  no_nack : (phase : Phase) (from to : Actor) (id : TxnId) (b promised : Ballot) → fits phase (Nack from to id b promised) ≡ false
  no_nack Voting from to id b promised = refl
  no_nack Recovering from to id b promised = refl
  no_nack (Accepting s) from to id b promised = refl
  no_nack (Committing s) from to id b promised = refl
  no_nack (Executing s) from to id b promised = refl

  no_decided : (phase : Phase) (from to : Actor) (id : TxnId) (b : Ballot) (t : Stamp) (deps : List ShardDeps) → fits phase (Decided from to id b t deps) ≡ false
  no_decided Voting from to id b t deps = refl
  no_decided Recovering from to id b t deps = refl
  no_decided (Accepting s) from to id b t deps = refl
  no_decided (Committing s) from to id b t deps = refl
  no_decided (Executing s) from to id b t deps = refl

  no_inform : (phase : Phase) (from to : Actor) (id : TxnId) (b : Ballot) (outcome : Outcome) → fits phase (Inform from to id b outcome) ≡ false
  no_inform Voting from to id b outcome = refl
  no_inform Recovering from to id b outcome = refl
  no_inform (Accepting s) from to id b outcome = refl
  no_inform (Committing s) from to id b outcome = refl
  no_inform (Executing s) from to id b outcome = refl

  uncounted : (a : Attempt) (m : Message) → fits a.phase m ≡ false → counts layout a m ≡ false
  uncounted a m none =
      ap (λ b. (b && is_store_of layout a.body (from_of m)) && not (list_any (λ earlier. same_seat a.phase (from_of earlier) (from_of m)) a.answers)) none

  nacked : (a : Attempt) (promised : Ballot) (b : Bool) → Goes layout x a (when b (λ c. end x c promised) a)
  nacked a promised true = IsOver refl
  nacked a promised false = Stays refl

  takes_over : (a : Attempt) (s : Settled) (b : Bool) → Goes layout x a (when b (λ c. decide layout own x c Adopted s) a)
  takes_over a s b = when_goes b (λ c. decide layout own x c Adopted s) a (decides a Adopted s)

  -- of a message that isn't counted
  as_it_is : (a : Attempt) (m : Message) (r : Reaction) → counts layout a m ≡ false → Goes layout x a r → Goes layout x (counting a m (counts layout a m)) r
  as_it_is a m r none h = subst (λ b. Goes layout x (counting a m b) r) (sym none) h

  heard : (a : Attempt) (m : Message) → Goes layout x (counting a m (counts layout a m)) (on_message layout own x a m)
  heard a (Nack from to id ballot promised) =
      as_it_is a (Nack from to id ballot promised) (on_nack x a promised)
      (uncounted a (Nack from to id ballot promised) (no_nack a.phase from to id ballot promised))
      (nacked a promised (not (is_decided a.phase) && ballot_lt a.ballot promised))
  heard a (Decided from to id ballot t deps) =
      as_it_is a (Decided from to id ballot t deps) (on_decided layout own x a (record { t = t; deps = deps }))
      (uncounted a (Decided from to id ballot t deps) (no_decided a.phase from to id ballot t deps))
      (takes_over a (record { t = t; deps = deps }) _)
  heard a (PreAccept from to id ballot body) = counted a (PreAccept from to id ballot body) (counts layout a (PreAccept from to id ballot body))
  heard a (PreAcceptOk from to id ballot vote deps) = counted a (PreAcceptOk from to id ballot vote deps) (counts layout a (PreAcceptOk from to id ballot vote deps))
  heard a (Accept from to id ballot body t deps) = counted a (Accept from to id ballot body t deps) (counts layout a (Accept from to id ballot body t deps))
  heard a (AcceptOk from to id ballot deps) = counted a (AcceptOk from to id ballot deps) (counts layout a (AcceptOk from to id ballot deps))
  heard a (Commit from to id ballot body t deps) = counted a (Commit from to id ballot body t deps) (counts layout a (Commit from to id ballot body t deps))
  heard a (CommitOk from to id ballot) = counted a (CommitOk from to id ballot) (counts layout a (CommitOk from to id ballot))
  heard a (Stable from to id ballot body t deps) = counted a (Stable from to id ballot body t deps) (counts layout a (Stable from to id ballot body t deps))
  heard a (ReadOk from to id ballot answer) = counted a (ReadOk from to id ballot answer) (counts layout a (ReadOk from to id ballot answer))
  heard a (Apply from to id ballot body t deps outcome) =
      counted a (Apply from to id ballot body t deps outcome) (counts layout a (Apply from to id ballot body t deps outcome))
  heard a (Recover from to id ballot body) = counted a (Recover from to id ballot body) (counts layout a (Recover from to id ballot body))
  heard a (RecoverOk from to id ballot view) = counted a (RecoverOk from to id ballot view) (counts layout a (RecoverOk from to id ballot view))
  heard a (Inform from to id ballot outcome) = counted a (Inform from to id ballot outcome) (counts layout a (Inform from to id ballot outcome))

  of_ballot : (a : Attempt) (m : Message) (b : Bool)
      → Goes layout x (counting a m (b && counts layout a m)) (when b (λ c. on_message layout own x c m) a)
  of_ballot a m true = heard a m
  of_ballot a m false = Stays refl

  pub reacts : (a : Attempt) (m : Message)
      → Goes layout x (counting a m (ballot_eq (ballot_of m) a.ballot && counts layout a m)) (reaction layout own x a m)
  reacts a m = of_ballot a m (ballot_eq (ballot_of m) a.ballot)

  pub inform_stays : (a : Attempt) (from to : Actor) (id : TxnId) (ballot : Ballot) (outcome : Outcome)
      → reaction layout own x a (Inform from to id ballot outcome) ≡ stay a
  inform_stays a from to id ballot outcome = by (ballot_eq ballot a.ballot)
    where
      by : (b : Bool) → when b (λ c. on_message layout own x c (Inform from to id ballot outcome)) a ≡ stay a
      by true =
          ap (λ c. when c (λ b. after_answer layout own x (with_answer b (Inform from to id ballot outcome)) b.phase) a)
          (uncounted a (Inform from to id ballot outcome) (no_inform a.phase from to id ballot outcome))
      by false = refl

  pub slows : (a : Attempt) → Goes layout x a (slow_reaction layout own x a)
  slows a = when_goes (may_slow_down layout x a a.phase) (slow_down layout own x) a (slowed a)

  -- ---- another transaction isn't asked for

  module _ (y : TxnId) (apart : id_eq x y ≡ false) where
    informed_none : (test : Bool) (ballot : Ballot) (outcome : Outcome)
        → asked_in y (cond test [] (Inform own (home_node x) x ballot outcome ∷ [])) ≡ None
    informed_none true ballot outcome = refl
    informed_none false ballot outcome = asked_none y (λ node. Inform own node x ballot outcome) (λ node. apart) (home_node x ∷ [])

    made_none : (a : Attempt) (move : Move) → asked_in y (made layout own x a move).emitted.out ≡ None
    made_none a Wait = refl
    made_none a (Propose s) = asked_none y (λ store. Accept own store x a.ballot a.body s.t s.deps) (λ store. apart) (stores_used layout a.body)
    made_none a (CommitTo s) = asked_none y (λ store. Commit own store x a.ballot a.body s.t s.deps) (λ store. apart) (stores_used layout a.body)
    made_none a (DecideBy path s) = asked_none y (λ store. Stable own store x a.ballot a.body s.t s.deps) (λ store. apart) (stores_used layout a.body)
    made_none a (FinishWith s outcome) =
        asked_neither y _ _ (asked_none y (λ store. Apply own store x a.ballot a.body s.t s.deps outcome) (λ store. apart) (stores_used layout a.body))
        (informed_none (same_actor own (home_node x)) a.ballot outcome)
    made_none a (BlockBy by) = refl
    made_none a (EndBy by) = refl

    pub reaction_none : (a : Attempt) (m : Message) → asked_in y (reaction layout own x a m).emitted.out ≡ None
    reaction_none a m =
        let h = hears_all layout own x a m in
        ap (λ (r : Reaction). asked_in y r.emitted.out) h.is ∙ made_none h.moving h.move

    pub slow_none : (a : Attempt) → asked_in y (slow_reaction layout own x a).emitted.out ≡ None
    slow_none a =
        let h = slow_moved layout own x a in ap (λ (r : Reaction). asked_in y r.emitted.out) h.is ∙ made_none a h.move
