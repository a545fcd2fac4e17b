-- What a node sends in a step that isn't a first message is what the one move of that step sends.
use Rattle.std.proofs.Common.{◌≡◌, ℕ, Bool, cond, List, [], ◌∷◌, ◌++◌, Option, None, Some, map, refl, sym, ◌∙◌, ap, subst, ⊎_elim, ◌⊎◌, inl, inr}
use Rattle.std.specs.List.{flat_map}
use Rattle.acc_stamp.specs.declared.stamps.Stamp.{Stamp}
use Rattle.acc_stamp.specs.declared.stamps.TxnId.{TxnId}
use Rattle.acc_stamp.specs.declared.stamps.Ballot.{Ballot}
use Rattle.acc_stamp.specs.declared.actors.Actor.{Actor}
use Rattle.acc_stamp.specs.Actor.{actor_of}
use Rattle.acc_stamp.proofs.Order.{id_order, eq_itself}
use Rattle.acc_topology.specs.Layout.{Layout}
use Rattle.acc_deps.specs.declared.shards.ShardDeps.{ShardDeps}
use Rattle.acc_deps.specs.declared.records.Settled.{Settled}
use Rattle.acc_txn.specs.declared.parts.BodyParts.{BodyParts}
use Rattle.acc_txn.specs.declared.outcome.Outcome.{Outcome}
use Rattle.acc_message.specs.declared.message.Message.{Message}
use Rattle.acc_message.specs.declared.message.Message.TheVariants.{PreAccept, PreAcceptOk, Accept, AcceptOk, Commit, CommitOk, Stable, ReadOk, Apply, Recover, RecoverOk, Nack, Decided, Inform}
use Rattle.acc_message.specs.declared.note.Path.{Path}
use Rattle.acc_message.specs.declared.note.Note.TheVariants.{Begin as BeginNote, Recover as RecoverNote, Blocked, Ended, Decide as DecideNote, Outcome as OutcomeNote, Reply as ReplyNote}
use Rattle.acc_message.specs.declared.entry.Emitted.{Emitted}
use Rattle.acc_message.specs.Fields.{id_of}
use Rattle.acc_message.specs.Items.{same_actor}
use Rattle.acc_message.specs.Shares.{stores_used}
use Rattle.acc_message.specs.Attempts.{Attempt}
use Rattle.acc_message.specs.Coordinator.{Reaction, home_node, inform, reaction, slow_reaction}
use Rattle.acc_message.specs.NodeRules.{Act, Begins, Recovers, Slows, Takes, Restarts, Deed, is_open, next_id, next_ballot, next_by, where_about, attempt_after, attempt_of, emitted_by, replied, with_reply, on_taking, node_emits}
use Rattle.acc_safety.specs.Places.{IsIn}
use Rattle.acc_safety.specs.NodeMoves.{Move, Wait, Propose, CommitTo, DecideBy, FinishWith, BlockBy, EndBy, made, Reacts, ToSlow, ToMessage}
use Rattle.acc_safety.proofs.PlaceOrder.{only, none_is_in, IsIn-append_cases, IsIn-cond_cases, IsIn-map, IsIn-cases}
use Rattle.acc_safety.proofs.NodeMoved.{hears_all, slow_moved}

-- ---- what a move sends

same_accept : (f g h k : Actor) (x y : TxnId) (b c : Ballot) (body other : BodyParts) (t s : Stamp) (deps more : List ShardDeps)
    → Accept f g x b body t deps ≡ Accept h k y c other s more → (x ≡ y) × (b ≡ c) × (body ≡ other) × (t ≡ s) × (deps ≡ more)
same_accept f g h k x y b c body other t s deps more e = (cc, cc, cc, cc, cc)

same_commit : (f g h k : Actor) (x y : TxnId) (b c : Ballot) (body other : BodyParts) (t s : Stamp) (deps more : List ShardDeps)
    → Commit f g x b body t deps ≡ Commit h k y c other s more → (x ≡ y) × (b ≡ c) × (body ≡ other) × (t ≡ s) × (deps ≡ more)
same_commit f g h k x y b c body other t s deps more e = (cc, cc, cc, cc, cc)

-- the move proposes this about x
pub record IsProposal (layout : Layout) (x : TxnId) (a : Attempt) (move : Move) (y : TxnId) (b : Ballot) (body : BodyParts) (t : Stamp) (deps : List ShardDeps) : Type 0 where
  pub store : Actor
  pub store_in : IsIn store (stores_used layout a.body)
  pub move_is : move ≡ Propose (record { t = t; deps = deps })
  pub about : x ≡ y
  pub of_ballot : a.ballot ≡ b
  pub of_body : a.body ≡ body

pub record IsCommitment (layout : Layout) (x : TxnId) (a : Attempt) (move : Move) (y : TxnId) (b : Ballot) (body : BodyParts) (t : Stamp) (deps : List ShardDeps) : Type 0 where
  pub store : Actor
  pub store_in : IsIn store (stores_used layout a.body)
  pub move_is : move ≡ CommitTo (record { t = t; deps = deps })
  pub about : x ≡ y
  pub of_ballot : a.ballot ≡ b
  pub of_body : a.body ≡ body

settled_same : (s : Settled) (t : Stamp) (deps : List ShardDeps) → s.t ≡ t → s.deps ≡ deps → s ≡ record { t = t; deps = deps }
settled_same s t deps p q = λ i. record { t = p i; deps = q i }

module _ (layout : Layout) (own : Actor) (x : TxnId) (a : Attempt) where
  -- a message that was sent to all stores is one of these
  one_of : (message_to : Actor → Message) (s : Message) → IsIn s (map message_to (stores_used layout a.body)) → (store : Actor) × (s ≡ message_to store) × IsIn store (stores_used layout a.body)
  one_of message_to s h = let f = IsIn-map message_to s (stores_used layout a.body) h in (f.source, f.is, f.there)

  -- an outcome goes out by Apply and Inform
  finish_sends : (s : Settled) (outcome : Outcome) (m : Message) → IsIn m (made layout own x a (FinishWith s outcome)).emitted.out
      → ((store : Actor) × (m ≡ Apply own store x a.ballot a.body s.t s.deps outcome)) ⊎ (m ≡ Inform own (home_node x) x a.ballot outcome)
  finish_sends s outcome m h =
      ⊎_elim (λ applies. let one = one_of (λ store. Apply own store x a.ballot a.body s.t s.deps outcome) m applies in inl (one.0, one.1))
      (λ informs.
      ⊎_elim (λ none. absurd (none_is_in m none.1)) (λ one. inr (only m (Inform own (home_node x) x a.ballot outcome) one.1))
      (IsIn-cond_cases m (same_actor own (home_node x)) [] (Inform own (home_node x) x a.ballot outcome ∷ []) informs))
      (IsIn-append_cases m (map (λ store. Apply own store x a.ballot a.body s.t s.deps outcome) (stores_used layout a.body)) (inform own x a.ballot outcome) h)

  pub accept_sent : (move : Move) (f g : Actor) (y : TxnId) (b : Ballot) (body : BodyParts) (t : Stamp) (deps : List ShardDeps)
      → IsIn (Accept f g y b body t deps) (made layout own x a move).emitted.out → IsProposal layout x a move y b body t deps
  accept_sent Wait f g y b body t deps h = absurd (none_is_in (Accept f g y b body t deps) h)
  accept_sent (Propose s) f g y b body t deps h =
      let one = one_of (λ store. Accept own store x a.ballot a.body s.t s.deps) (Accept f g y b body t deps) h in
      let same = same_accept f g own one.0 y x b a.ballot body a.body t s.t deps s.deps one.1 in
      record { store = one.0; store_in = one.2; move_is = ap Propose (settled_same s t deps (sym same.3) (sym same.4)); about = sym same.0; of_ballot = sym same.1; of_body = sym same.2 }
  accept_sent (CommitTo s) f g y b body t deps h =
      absurd (apart (one_of (λ store. Commit own store x a.ballot a.body s.t s.deps) (Accept f g y b body t deps) h).1)
    where
      apart : {store : Actor} → Accept f g y b body t deps ≡ Commit own store x a.ballot a.body s.t s.deps → ⊥
      apart e = cc
  accept_sent (DecideBy path s) f g y b body t deps h =
      absurd (apart (one_of (λ store. Stable own store x a.ballot a.body s.t s.deps) (Accept f g y b body t deps) h).1)
    where
      apart : {store : Actor} → Accept f g y b body t deps ≡ Stable own store x a.ballot a.body s.t s.deps → ⊥
      apart e = cc
  accept_sent (FinishWith s outcome) f g y b body t deps h =
      absurd (⊎_elim (λ applies. apart applies.1) informs (finish_sends s outcome (Accept f g y b body t deps) h))
    where
      apart : {store : Actor} → Accept f g y b body t deps ≡ Apply own store x a.ballot a.body s.t s.deps outcome → ⊥
      apart e = cc

      informs : Accept f g y b body t deps ≡ Inform own (home_node x) x a.ballot outcome → ⊥
      informs e = cc
  accept_sent (BlockBy by) f g y b body t deps h = absurd (none_is_in (Accept f g y b body t deps) h)
  accept_sent (EndBy by) f g y b body t deps h = absurd (none_is_in (Accept f g y b body t deps) h)

  pub commit_sent : (move : Move) (f g : Actor) (y : TxnId) (b : Ballot) (body : BodyParts) (t : Stamp) (deps : List ShardDeps)
      → IsIn (Commit f g y b body t deps) (made layout own x a move).emitted.out → IsCommitment layout x a move y b body t deps
  commit_sent Wait f g y b body t deps h = absurd (none_is_in (Commit f g y b body t deps) h)
  commit_sent (CommitTo s) f g y b body t deps h =
      let one = one_of (λ store. Commit own store x a.ballot a.body s.t s.deps) (Commit f g y b body t deps) h in
      let same = same_commit f g own one.0 y x b a.ballot body a.body t s.t deps s.deps one.1 in
      record { store = one.0; store_in = one.2; move_is = ap CommitTo (settled_same s t deps (sym same.3) (sym same.4)); about = sym same.0; of_ballot = sym same.1; of_body = sym same.2 }
  commit_sent (Propose s) f g y b body t deps h =
      absurd (apart (one_of (λ store. Accept own store x a.ballot a.body s.t s.deps) (Commit f g y b body t deps) h).1)
    where
      apart : {store : Actor} → Commit f g y b body t deps ≡ Accept own store x a.ballot a.body s.t s.deps → ⊥
      apart e = cc
  commit_sent (DecideBy path s) f g y b body t deps h =
      absurd (apart (one_of (λ store. Stable own store x a.ballot a.body s.t s.deps) (Commit f g y b body t deps) h).1)
    where
      apart : {store : Actor} → Commit f g y b body t deps ≡ Stable own store x a.ballot a.body s.t s.deps → ⊥
      apart e = cc
  commit_sent (FinishWith s outcome) f g y b body t deps h =
      absurd (⊎_elim (λ applies. apart applies.1) informs (finish_sends s outcome (Commit f g y b body t deps) h))
    where
      apart : {store : Actor} → Commit f g y b body t deps ≡ Apply own store x a.ballot a.body s.t s.deps outcome → ⊥
      apart e = cc

      informs : Commit f g y b body t deps ≡ Inform own (home_node x) x a.ballot outcome → ⊥
      informs e = cc
  commit_sent (BlockBy by) f g y b body t deps h = absurd (none_is_in (Commit f g y b body t deps) h)
  commit_sent (EndBy by) f g y b body t deps h = absurd (none_is_in (Commit f g y b body t deps) h)

-- ---- what a move notes

-- the move decides this about x
pub record IsDecision (x : TxnId) (a : Attempt) (move : Move) (y : TxnId) (t : Stamp) (path : Path) (deps : List ShardDeps) : Type 0 where
  pub move_is : move ≡ DecideBy path (record { t = t; deps = deps })
  pub about : x ≡ y

same_decide : (x y : TxnId) (t s : Stamp) (path other : Path) (deps more : List ShardDeps) → DecideNote x t path deps ≡ DecideNote y s other more
    → (x ≡ y) × (t ≡ s) × (path ≡ other) × (deps ≡ more)
same_decide x y t s path other deps more e = (cc, cc, cc, cc)

module _ (layout : Layout) (own : Actor) (x : TxnId) (a : Attempt) where
  one_decision : (path : Path) (s : Settled) (y : TxnId) (t : Stamp) (other : Path) (deps : List ShardDeps)
      → IsIn (DecideNote y t other deps) (DecideNote x s.t path s.deps ∷ []) → IsDecision x a (DecideBy path s) y t other deps
  one_decision path s y t other deps h =
      let same = same_decide y x t s.t other path deps s.deps (only (DecideNote y t other deps) (DecideNote x s.t path s.deps) h) in
      record { move_is = ap (λ q. DecideBy q s) (sym same.2) ∙ ap (DecideBy other) (settled_same s t deps (sym same.1) (sym same.3)); about = sym same.0 }

  pub decision_noted : (move : Move) (y : TxnId) (t : Stamp) (path : Path) (deps : List ShardDeps)
      → IsIn (DecideNote y t path deps) (made layout own x a move).emitted.notes → IsDecision x a move y t path deps
  decision_noted Wait y t path deps h = absurd (none_is_in (DecideNote y t path deps) h)
  decision_noted (Propose s) y t path deps h = absurd (none_is_in (DecideNote y t path deps) h)
  decision_noted (CommitTo s) y t path deps h = absurd (none_is_in (DecideNote y t path deps) h)
  decision_noted (DecideBy other s) y t path deps h = one_decision other s y t path deps h
  decision_noted (FinishWith s outcome) y t path deps h = absurd (apart (only (DecideNote y t path deps) (OutcomeNote x outcome.reply) h))
    where
      apart : DecideNote y t path deps ≡ OutcomeNote x outcome.reply → ⊥
      apart e = cc
  decision_noted (BlockBy by) y t path deps h = absurd (apart (only (DecideNote y t path deps) (Blocked x a.ballot by) h))
    where
      apart : DecideNote y t path deps ≡ Blocked x a.ballot by → ⊥
      apart e = cc
  decision_noted (EndBy by) y t path deps h = absurd (apart (only (DecideNote y t path deps) (Ended x a.ballot by) h))
    where
      apart : DecideNote y t path deps ≡ Ended x a.ballot by → ⊥
      apart e = cc

  pub decision_replied : (is_open_now : Bool) (move : Move) (y : TxnId) (t : Stamp) (path : Path) (deps : List ShardDeps)
      → IsIn (DecideNote y t path deps) (flat_map (replied is_open_now) (made layout own x a move).emitted.notes) → IsDecision x a move y t path deps
  decision_replied is_open_now Wait y t path deps h = absurd (none_is_in (DecideNote y t path deps) h)
  decision_replied is_open_now (Propose s) y t path deps h = absurd (none_is_in (DecideNote y t path deps) h)
  decision_replied is_open_now (CommitTo s) y t path deps h = absurd (none_is_in (DecideNote y t path deps) h)
  decision_replied is_open_now (DecideBy other s) y t path deps h = one_decision other s y t path deps h
  decision_replied is_open_now (FinishWith s outcome) y t path deps h =
      absurd
      (⊎_elim apart
      (λ rest.
      ⊎_elim
      (λ reply. ⊎_elim (λ one. apart_too (only (DecideNote y t path deps) (ReplyNote x outcome.reply) one.1)) (λ none. none_is_in (DecideNote y t path deps) none.1)
      (IsIn-cond_cases (DecideNote y t path deps) is_open_now (ReplyNote x outcome.reply ∷ []) [] reply))
      (λ none. none_is_in (DecideNote y t path deps) none)
      (IsIn-append_cases (DecideNote y t path deps) (cond is_open_now (ReplyNote x outcome.reply ∷ []) []) [] rest))
      (IsIn-cases (DecideNote y t path deps) (OutcomeNote x outcome.reply) (cond is_open_now (ReplyNote x outcome.reply ∷ []) [] ++ []) h))
    where
      apart : DecideNote y t path deps ≡ OutcomeNote x outcome.reply → ⊥
      apart e = cc

      apart_too : DecideNote y t path deps ≡ ReplyNote x outcome.reply → ⊥
      apart_too e = cc
  decision_replied is_open_now (BlockBy by) y t path deps h = absurd (apart (only (DecideNote y t path deps) (Blocked x a.ballot by) h))
    where
      apart : DecideNote y t path deps ≡ Blocked x a.ballot by → ⊥
      apart e = cc
  decision_replied is_open_now (EndBy by) y t path deps h = absurd (apart (only (DecideNote y t path deps) (Ended x a.ballot by) h))
    where
      apart : DecideNote y t path deps ≡ Ended x a.ballot by → ⊥
      apart e = cc

-- ---- the one move of a step

-- the attempt at x makes this move in the step: all that is sent is the move's, and so is what becomes of the attempt, and a
-- decision that is noted
pub record Acts (layout : Layout) (node start : ℕ) (past : List Deed) (act : Act) (x : TxnId) : Type 0 where
  pub moving : Attempt
  pub move : Move
  pub reacts : Reacts layout node start past x act moving move
  pub out_is : (node_emits layout node start past act).out ≡ (made layout (actor_of node 0) x moving move).emitted.out
  pub next_is : attempt_after layout node start x past (attempt_of layout node start x past) act ≡ (made layout (actor_of node 0) x moving move).next
  pub decides :
      (y : TxnId) (t : Stamp) (path : Path) (deps : List ShardDeps) → IsIn (DecideNote y t path deps) (node_emits layout node start past act).notes
      → IsDecision x moving move y t path deps

-- a message with which no attempt begins
pub data IsLater : Message → Type 0 where
  IsAccept : (f g : Actor) (x : TxnId) (b : Ballot) (body : BodyParts) (t : Stamp) (deps : List ShardDeps) → IsLater (Accept f g x b body t deps)
  IsCommit : (f g : Actor) (x : TxnId) (b : Ballot) (body : BodyParts) (t : Stamp) (deps : List ShardDeps) → IsLater (Commit f g x b body t deps)

-- some attempt acts in the step
pub record SomeActs (layout : Layout) (node start : ℕ) (past : List Deed) (act : Act) : Type 0 where
  pub about : TxnId
  pub acts : Acts layout node start past act about

module _ (layout : Layout) (node start : ℕ) (past : List Deed) where
  slow_some : (x : TxnId) (a : Attempt) → attempt_of layout node start x past ≡ Some a → SomeActs layout node start past (Slows x)
  slow_some x a is =
      let r = slow_moved layout (actor_of node 0) x a in
      record {
        about = x;
        acts =
            record {
              moving = a;
              move = r.move;
              reacts = ToSlow a r.move is r.moves;
              out_is = ap (λ o. (emitted_by (slow_reaction layout (actor_of node 0) x) o).out) is ∙ ap (λ (k : Reaction). k.emitted.out) r.is;
              next_is =
                  ap (λ b. where_about b (next_by (slow_reaction layout (actor_of node 0) x)) (attempt_of layout node start x past)) (eq_itself id_order x)
                  ∙ ap (next_by (slow_reaction layout (actor_of node 0) x)) is ∙ ap (λ (k : Reaction). k.next) r.is;
              decides = λ y t path deps there.
                  decision_noted layout (actor_of node 0) x a r.move y t path deps
                  (subst (IsIn (DecideNote y t path deps))
                  (ap (λ o. (emitted_by (slow_reaction layout (actor_of node 0) x) o).notes) is ∙ ap (λ (k : Reaction). k.emitted.notes) r.is) there);
            };
      }

  -- a message that isn't an Inform is one for the attempt at its transaction
  abbrev answered : Message → Option Attempt → Emitted
  answered n o = emitted_by (λ a. reaction layout (actor_of node 0) (id_of n) a n) o

  hears_some : (n : Message) (a : Attempt) → attempt_of layout node start (id_of n) past ≡ Some a
      → on_taking layout node start past n ≡ with_reply (is_open (id_of n) past) (answered n (attempt_of layout node start (id_of n) past))
      → SomeActs layout node start past (Takes n)
  hears_some n a is emits =
      let x : TxnId = id_of n in
      let r = hears_all layout (actor_of node 0) x a n in
      record {
        about = x;
        acts =
            record {
              moving = r.moving;
              move = r.move;
              reacts = ToMessage a r.moving n r.move is refl r.hears;
              out_is =
                  ap (λ (e : Emitted). e.out) emits ∙ ap (λ o. (answered n o).out) is ∙ ap (λ (k : Reaction). k.emitted.out) r.is;
              next_is =
                  ap (λ b. where_about b (next_by (λ a. reaction layout (actor_of node 0) x a n)) (attempt_of layout node start x past)) (eq_itself id_order x)
                  ∙ ap (next_by (λ a. reaction layout (actor_of node 0) x a n)) is ∙ ap (λ (k : Reaction). k.next) r.is;
              decides = λ y t path deps there.
                  decision_replied layout (actor_of node 0) x r.moving (is_open x past) r.move y t path deps
                  (subst (IsIn (DecideNote y t path deps))
                  (ap (λ (e : Emitted). e.notes) emits ∙ ap (λ o. flat_map (replied (is_open x past)) (answered n o).notes) is
                  ∙ ap (λ (k : Reaction). flat_map (replied (is_open x past)) k.emitted.notes) r.is) there);
            };
      }

  -- something is sent, or a decision noted
  abbrev Speaks : Emitted → Type 0
  Speaks e = ((m : Message) × IsIn m e.out) ⊎ ((y : TxnId) × (t : Stamp) × (path : Path) × (deps : List ShardDeps) × IsIn (DecideNote y t path deps) e.notes)

  silent : Speaks (record { notes = []; out = [] }) → ⊥
  silent h = ⊎_elim (λ m. none_is_in m.0 m.1) (λ d. none_is_in (DecideNote d.0 d.1 d.2 d.3) d.4) h

  slow_acts : (x : TxnId) (o : Option Attempt) → attempt_of layout node start x past ≡ o
      → Speaks (emitted_by (slow_reaction layout (actor_of node 0) x) o) → SomeActs layout node start past (Slows x)
  slow_acts x None is h = absurd (silent h)
  slow_acts x (Some a) is h = slow_some x a is

  hears_acts : (n : Message) (o : Option Attempt) → attempt_of layout node start (id_of n) past ≡ o
      → on_taking layout node start past n ≡ with_reply (is_open (id_of n) past) (answered n (attempt_of layout node start (id_of n) past))
      → Speaks (with_reply (is_open (id_of n) past) (answered n o)) → SomeActs layout node start past (Takes n)
  hears_acts n None is emits h = absurd (silent h)
  hears_acts n (Some a) is emits h = hears_some n a is emits

  inform_silent : (id : TxnId) (outcome : Outcome) → Speaks (record { notes = cond (is_open id past) (ReplyNote id outcome.reply ∷ []) []; out = [] }) → ⊥
  inform_silent id outcome h =
      ⊎_elim (λ m. none_is_in m.0 m.1)
      (λ d.
      ⊎_elim (λ one. apart d.0 d.1 d.2 d.3 (only (DecideNote d.0 d.1 d.2 d.3) (ReplyNote id outcome.reply) one.1)) (λ none. none_is_in (DecideNote d.0 d.1 d.2 d.3) none.1)
      (IsIn-cond_cases (DecideNote d.0 d.1 d.2 d.3) (is_open id past) (ReplyNote id outcome.reply ∷ []) [] d.4)) h
    where
      apart : (y : TxnId) (t : Stamp) (path : Path) (deps : List ShardDeps) → DecideNote y t path deps ≡ ReplyNote id outcome.reply → ⊥
      apart y t path deps e = cc

  taking_acts : (n : Message) → Speaks (on_taking layout node start past n) → SomeActs layout node start past (Takes n)
  taking_acts (Inform from to id b outcome) h = absurd (inform_silent id outcome h)
  taking_acts (PreAccept from to id b body) h = hears_acts (PreAccept from to id b body) (attempt_of layout node start id past) refl refl h
  taking_acts (PreAcceptOk from to id b vote deps) h = hears_acts (PreAcceptOk from to id b vote deps) (attempt_of layout node start id past) refl refl h
  taking_acts (Accept from to id b body t deps) h = hears_acts (Accept from to id b body t deps) (attempt_of layout node start id past) refl refl h
  taking_acts (AcceptOk from to id b deps) h = hears_acts (AcceptOk from to id b deps) (attempt_of layout node start id past) refl refl h
  taking_acts (Commit from to id b body t deps) h = hears_acts (Commit from to id b body t deps) (attempt_of layout node start id past) refl refl h
  taking_acts (CommitOk from to id b) h = hears_acts (CommitOk from to id b) (attempt_of layout node start id past) refl refl h
  taking_acts (Stable from to id b body t deps) h = hears_acts (Stable from to id b body t deps) (attempt_of layout node start id past) refl refl h
  taking_acts (ReadOk from to id b answer) h = hears_acts (ReadOk from to id b answer) (attempt_of layout node start id past) refl refl h
  taking_acts (Apply from to id b body t deps outcome) h = hears_acts (Apply from to id b body t deps outcome) (attempt_of layout node start id past) refl refl h
  taking_acts (Recover from to id b body) h = hears_acts (Recover from to id b body) (attempt_of layout node start id past) refl refl h
  taking_acts (RecoverOk from to id b view) h = hears_acts (RecoverOk from to id b view) (attempt_of layout node start id past) refl refl h
  taking_acts (Nack from to id b promised) h = hears_acts (Nack from to id b promised) (attempt_of layout node start id past) refl refl h
  taking_acts (Decided from to id b t deps) h = hears_acts (Decided from to id b t deps) (attempt_of layout node start id past) refl refl h

  first_none : (message_to : Actor → Message) (stores : List Actor) (m : Message) → IsIn m (map message_to stores) → ((store : Actor) → m ≡ message_to store → ⊥) → ⊥
  first_none message_to stores m h apart = let f = IsIn-map message_to m stores h in apart f.source f.is

  pub later_acts : (act : Act) (m : Message) → IsLater m → IsIn m (node_emits layout node start past act).out → SomeActs layout node start past act
  later_acts (Begins txn body) m later h = absurd (by m later h)
    where
      by : (m : Message) → IsLater m → IsIn m (node_emits layout node start past (Begins txn body)).out → ⊥
      by m (IsAccept f g x b other t deps) h = first_none _ (stores_used layout body) (Accept f g x b other t deps) h (λ store e. cc)
      by m (IsCommit f g x b other t deps) h = first_none _ (stores_used layout body) (Commit f g x b other t deps) h (λ store e. cc)
  later_acts (Recovers y body) m later h = absurd (by m later h)
    where
      by : (m : Message) → IsLater m → IsIn m (node_emits layout node start past (Recovers y body)).out → ⊥
      by m (IsAccept f g x b other t deps) h = first_none _ (stores_used layout body) (Accept f g x b other t deps) h (λ store e. cc)
      by m (IsCommit f g x b other t deps) h = first_none _ (stores_used layout body) (Commit f g x b other t deps) h (λ store e. cc)
  later_acts (Slows x) m later h = slow_acts x (attempt_of layout node start x past) refl (inl (m, h))
  later_acts (Takes n) m later h = taking_acts n (inl (m, h))
  later_acts Restarts m later h = absurd (none_is_in m h)

  pub decided_acts : (act : Act) (y : TxnId) (t : Stamp) (path : Path) (deps : List ShardDeps) → IsIn (DecideNote y t path deps) (node_emits layout node start past act).notes
      → SomeActs layout node start past act
  decided_acts (Begins txn body) y t path deps h = absurd (apart (only (DecideNote y t path deps) (BeginNote (next_id node start past)) h))
    where
      apart : DecideNote y t path deps ≡ BeginNote (next_id node start past) → ⊥
      apart e = cc
  decided_acts (Recovers x body) y t path deps h = absurd (apart (only (DecideNote y t path deps) (RecoverNote x (next_ballot node start past)) h))
    where
      apart : DecideNote y t path deps ≡ RecoverNote x (next_ballot node start past) → ⊥
      apart e = cc
  decided_acts (Slows x) y t path deps h = slow_acts x (attempt_of layout node start x past) refl (inr (y, t, path, deps, h))
  decided_acts (Takes n) y t path deps h = taking_acts n (inr (y, t, path, deps, h))
  decided_acts Restarts y t path deps h = absurd (none_is_in (DecideNote y t path deps) h)
