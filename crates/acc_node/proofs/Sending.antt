-- What a node would send that takes a message.
use Rattle.std.proofs.Common.{◌≡◌, ℕ, ◌<◌, ◌^◌, Bool, false, List, [], Option, None, Some, refl, sym, ap, subst, ◌∙◌}
use Rattle.std.specs.Prelude.{All}
use Rattle.std.specs.BTreeMap.{get}
use Rattle.acc_stamp.specs.declared.stamps.TxnId.{TxnId}
use Rattle.acc_stamp.specs.declared.stamps.Ballot.{Ballot}
use Rattle.acc_stamp.specs.declared.actors.Actor.{Actor}
use Rattle.acc_stamp.specs.Actor.{actor_of, home_of}
use Rattle.acc_stamp.specs.Stamp.{id_cmp}
use Rattle.acc_topology.specs.Layout.{Layout}
use Rattle.acc_txn.specs.declared.parts.BodyParts.{BodyParts}
use Rattle.acc_deps.specs.declared.records.Choice.{Choice}
use Rattle.acc_message.specs.declared.message.Message.{Message}
use Rattle.acc_message.specs.declared.entry.Emitted.{Emitted}
use Rattle.acc_message.specs.Fields.{id_of}
use Rattle.acc_message.specs.Attempts.{Attempt}
use Rattle.acc_message.specs.Coordinator.{Reaction, reaction, go}
use Rattle.acc_message.specs.NodeRules.{Act, Takes as TakesMessage, Deed, is_open, attempt_of, emitted_by, with_reply, node_replay}
use Rattle.acc_message_code.specs.Short.{IsShortMessage}
use Rattle.acc_message_code.specs.Weight.{weight_of_all}
use Rattle.acc_coord.specs.declared.coord.Coord.{Coord}
use Rattle.acc_coord.specs.Stands.{Answers}
use Rattle.acc_coord.specs.Weighing.{sent_on}
use Rattle.acc_recover.specs.declared.recovery.Recovery.{Recovery}
use Rattle.acc_recover.specs.Stands.{StandsFor as Recovers}
use Rattle.acc_node.specs.declared.node.Node.{Node}
use Rattle.acc_node.specs.declared.running.Running.{Running}
use Rattle.acc_node.specs.Stands.{RunsAs, Runs, StandsFor}
use Rattle.acc_node.specs.Weighing.{is_inform, node_sends, SendsShort, AttemptSendsShort}
use Rattle.acc_node.proofs.Slowing.{own_is}
use Rattle.acc_node.proofs.Taking.{other_taken}

-- ---- a choice

pub choice_sends : (layout : Layout) (x : TxnId) (recovery : Recovery) (choice : Choice) (ballot : Ballot) (body : BodyParts) (coord : Coord) (emitted : Emitted)
    → ((a : Attempt) → Recovers layout x recovery a → ballot ≡ a.ballot) → ((a : Attempt) → Recovers layout x recovery a → body ≡ a.body)
    → ((a : Attempt) → a.ballot ≡ ballot → a.body ≡ body → Answers layout x coord emitted false (go layout (home_of x ballot) x a choice))
    → (a : Attempt) (r : Reaction) → Recovers layout x recovery a → r ≡ go layout (home_of x a.ballot) x a choice → emitted.out ≡ r.emitted.out
choice_sends layout x recovery choice ballot body coord emitted of_ballot of_body gone a r s h =
    let same : ballot ≡ a.ballot = of_ballot a s in
    ap (λ (e : Emitted). e.out) (gone a (sym same) (sym (of_body a s))).emits
    ∙ ap (λ (b : Ballot). (go layout (home_of x b) x a choice).emitted.out) same
    ∙ ap (λ (k : Reaction). k.emitted.out) (sym h)

-- ---- a message that is no Inform

-- the attempt that the node runs, and what it sends
abbrev pub Sending : Layout → ℕ → ℕ → List Act → Message → Running → Type 0
Sending layout number start acts m running =
    (a : Attempt) × RunsAs layout (id_of m) running a × (sent_on layout (id_of m) a m ≡ node_sends layout number start acts (TakesMessage m))

module _ (layout : Layout) (number start : ℕ) (acts : List Act) (n : Node) (m : Message) (s : StandsFor layout number start n acts) (other : is_inform m ≡ false) where
  sends_by : (o : Option Attempt) → attempt_of layout number start (id_of m) (node_replay layout number start acts) ≡ o
      → node_sends layout number start acts (TakesMessage m)
      ≡ (emitted_by (λ a. reaction layout (actor_of number 0) (id_of m) a m) o).out
  sends_by o is =
      let before : List Deed = node_replay layout number start acts in
      ap (λ (e : Emitted). e.out) (other_taken layout number start before m other)
      ∙ ap (λ (k : Option Attempt). (with_reply (is_open (id_of m) before) (emitted_by (λ a. reaction layout (actor_of number 0) (id_of m) a m) k)).out) is

  -- without an attempt it sends nothing
  none_by : (o : Option Attempt) → attempt_of layout number start (id_of m) (node_replay layout number start acts) ≡ o → Runs layout (id_of m) None o
      → node_sends layout number start acts (TakesMessage m) ≡ []
  none_by None is h = sends_by None is
  none_by (Some a) is h = absurd h

  pub none_sends : get id_cmp n.attempts (id_of m) ≡ None → node_sends layout number start acts (TakesMessage m) ≡ []
  none_sends e = none_by _ refl (subst (λ (r : Option Running). Runs layout (id_of m) r (attempt_of layout number start (id_of m) (node_replay layout number start acts))) e (s.attempts (id_of m)))

  some_by : (running : Running) (o : Option Attempt) → attempt_of layout number start (id_of m) (node_replay layout number start acts) ≡ o
      → Runs layout (id_of m) (Some running) o → Sending layout number start acts m running
  some_by running None is h = absurd h
  some_by running (Some a) is h = (
    a,
    h,
    sym (sends_by (Some a) is
        ∙ ap (λ (z : Actor). (reaction layout z (id_of m) a m).emitted.out) (own_is layout number start (node_replay layout number start acts) (id_of m) a is)),
  )

  pub some_sends : (running : Running) → get id_cmp n.attempts (id_of m) ≡ Some running → Sending layout number start acts m running
  some_sends running e =
      some_by running _ refl (subst (λ (r : Option Running). Runs layout (id_of m) r (attempt_of layout number start (id_of m) (node_replay layout number start acts))) e (s.attempts (id_of m)))

pub attempt_sends_short : (layout : Layout) (n : Node) (m : Message) (running : Running) → SendsShort layout n (TakesMessage m) → is_inform m ≡ false
    → get id_cmp n.attempts (id_of m) ≡ Some running → AttemptSendsShort layout (id_of m) running m
attempt_sends_short layout n m running h other e =
    let w = some_sends layout h.number h.start h.acts n m h.stands other running e in
    record {
      attempt = w.0;
      runs = w.1;
      short = subst (All IsShortMessage) (sym w.2) h.short;
      fits = subst (λ (list : List Message). weight_of_all list < 2 ^ 64) (sym w.2) h.fits;
    }

-- the weight of the attempt is that of the node
pub attempt_weighs : (layout : Layout) (n : Node) (m : Message) (running : Running) (weight : ℕ) → is_inform m ≡ false → get id_cmp n.attempts (id_of m) ≡ Some running
    → ((a : Attempt) → RunsAs layout (id_of m) running a → weight ≡ weight_of_all (sent_on layout (id_of m) a m))
    → (number start : ℕ) (acts : List Act) → StandsFor layout number start n acts → weight ≡ weight_of_all (node_sends layout number start acts (TakesMessage m))
attempt_weighs layout n m running weight other e h number start acts s =
    let w = some_sends layout number start acts n m s other running e in
    h w.0 w.1 ∙ ap weight_of_all w.2
