-- What the home does that gives the fast path of a transaction up, or refuses to.
use Rattle.std.proofs.Common.{◌≡◌, ℕ, true, false, List, Option, None, Some, Result, Ok, Err, IfErr, unwrap_or, refl, sym, ◌∙◌, ap, subst}
use Rattle.std.specs.Option.{option_map}
use Rattle.acc_stamp.specs.declared.stamps.TxnId.{TxnId}
use Rattle.acc_stamp.specs.declared.actors.Actor.{Actor}
use Rattle.acc_stamp.specs.Actor.{node_of, actor_of}
use Rattle.acc_message.specs.declared.entry.Emitted.{Emitted}
use Rattle.acc_message.specs.declared.entry.Event.TheVariants.{Slow as SlowEvent}
use Rattle.acc_message.specs.declared.item.Skip.{Skip}
use Rattle.acc_message.specs.declared.item.Item.{Item}
use Rattle.acc_message.specs.Items.{id_of_txn}
use Rattle.acc_message.specs.NodeRules.{Act, Slows, Deed, begun_id, attempt_of, node_replay}
use Rattle.acc_message.specs.Run.{Cluster, clock_start, deeds_of, is_node, IsHomeOf}
use Rattle.acc_actor_laws.proofs.OpeningFacts.{some_is}
use Rattle.acc_safety.specs.RunLaws.{acts_done}
use Rattle.acc_safety.specs.Valid.{IsStanding}
use Rattle.acc_safety.proofs.DrawFacts.{node_is, is_node-node}
use Rattle.acc_run_laws.specs.Asks.{home_of_txn, slow_skip}
use Rattle.acc_run_laws.specs.Calls.{replayed_deeds}
use Rattle.acc_pasts.specs.Entries.{MayTake}
use Rattle.acc_pasts.proofs.Replayed.{node_replayed, node_emits_next}
use Rattle.acc_pasts.proofs.SlowingFacts.{begun_at_home}
use Rattle.acc_pasts.proofs.Standing.{slow_may}
use Rattle.acc_pasts.specs.Slowing.{slow_cause}
use Rattle.acc_pasts.proofs.Slowed.{slow_is_told}
use Rattle.acc_history.specs.declared.history.History.{History}
use Rattle.acc_node.specs.declared.error.NodeError.{NodeError}
use Rattle.acc_node.specs.declared.error.NodeError.TheVariants.{Begun, Unknown, NoQuorum, OutOfMemory}
use Rattle.acc_node.specs.declared.node.Node.{Node}
use Rattle.acc_node.specs.Stands as node
use Rattle.acc_world.specs.declared.setup.Setup.{Setup}
use Rattle.acc_world.specs.declared.held.Held.TheVariants.{Node as HeldNode}
use Rattle.acc_world.specs.Held.{moment, cluster_of, IsAsked, HasTaken, IsSlowRefused}
use Rattle.acc_world.proofs.Acting.{as_act}

-- ---- what the home tells

abbrev cause : Cluster → ℕ → ℕ → List Deed → Option Skip
cause cluster txn number deeds =
    slow_cause txn (node.may_slow cluster.layout number (clock_start cluster.starts number) txn deeds)
    (node.is_answered cluster.layout number (clock_start cluster.starts number) txn deeds)

module _ (cluster : Cluster) (items : List Item) (txn : ℕ) (a : Actor) (home : IsHomeOf cluster txn a) (standing : IsStanding cluster items) where
  abbrev past : List Deed
  past = replayed_deeds cluster a items

  abbrev start : ℕ
  start = clock_start cluster.starts (node_of a)

  node_kind : is_node a ≡ true
  node_kind = ap is_node home.2 ∙ is_node-node home.0

  -- what is told of a node's deeds, of the actor's
  moved : {T : Type 0} (f : ℕ → List Deed → T) → f home.0 (deeds_of cluster (actor_of home.0 0) items) ≡ f (node_of a) past
  moved f =
      ap (λ number. f number (deeds_of cluster (actor_of home.0 0) items)) (sym (node_is home.0))
      ∙ ap (λ (x : Actor). f (node_of x) (deeds_of cluster x items)) (sym home.2)
      ∙ ap (f (node_of a)) (node_replayed cluster items a standing node_kind)

  pub told : slow_skip cluster items txn (id_of_txn items txn) ≡ cause cluster txn (node_of a) past
  told = slow_is_told cluster txn home.0 home.1 items standing.stands ∙ moved (cause cluster txn)

  pub id_told : id_of_txn items txn ≡ begun_id (node_of a) start txn past
  id_told =
      sym (begun_at_home cluster txn home.0 home.1 items standing.stands)
      ∙ moved (λ number deeds. begun_id number (clock_start cluster.starts number) txn deeds)

  at_home : home_of_txn cluster txn ≡ a
  at_home = ap (λ o. actor_of (unwrap_or o 0) 0) home.1 ∙ sym home.2

  module _ (x : TxnId) (begun : begun_id (node_of a) start txn past ≡ Some x) (waits : node.is_first_voting (attempt_of cluster.layout (node_of a) start x past) ≡ true)
      (majority : node.has_majority cluster.layout x (attempt_of cluster.layout (node_of a) start x past) ≡ true) where
    none : cause cluster txn (node_of a) past ≡ None
    none =
        ap (λ o. slow_cause txn (node.if_begun cluster.layout (node_of a) start past (λ x a. node.is_first_voting a) o)
        (node.if_begun cluster.layout (node_of a) start past (node.has_majority cluster.layout) o)) begun
        ∙ ap (λ b. slow_cause txn b (node.has_majority cluster.layout x (attempt_of cluster.layout (node_of a) start x past))) waits
        ∙ ap (slow_cause txn true) majority

    pub has_id : id_of_txn items txn ≡ Some x
    has_id = id_told ∙ begun

    pub may_slow_now : MayTake cluster items a (SlowEvent txn) (Slows x)
    may_slow_now =
        subst (λ b. MayTake cluster items b (SlowEvent txn) (Slows x)) at_home
        (slow_may cluster items txn x standing.stands has_id (ap (slow_skip cluster items txn) (sym has_id) ∙ told ∙ none))

-- ---- one actor

module _ (setup : Setup) (history : History) (a : Actor) (txn : ℕ) (items earlier : List Item) (act : Act) (old : Node)
    (s : IsAsked setup history a (SlowEvent txn) (HeldNode old) (moment items earlier) act) where
  abbrev of : Cluster
  of = cluster_of setup

  abbrev acts : List Act
  acts = acts_done (deeds_of of a earlier)

  pub slow_took : (new : Node) (emitted : Emitted)
      → ((number start : ℕ) (acts : List Act) → node.StandsFor setup.topology number start old acts → node.SlowsBegun setup.topology number start new acts txn emitted)
      → HasTaken of earlier a (SlowEvent txn) act emitted (HeldNode new)
  slow_took new emitted slows =
      let did : node.SlowsBegun setup.topology (node_of a) (clock_start setup.starts (node_of a)) new acts txn emitted =
      slows (node_of a) (clock_start setup.starts (node_of a)) acts s.stands.stands in
      let is : Slows did.id ≡ act =
      some_is (Slows did.id) act
      (sym (ap (option_map Slows) (has_id of earlier txn a s.may.place s.standing did.id did.begun did.waits did.majority)) ∙ s.may.act_is) in
      as_act setup history a (SlowEvent txn) items earlier act (Slows did.id) emitted (HeldNode new) is
      (subst (λ x. MayTake of earlier a (SlowEvent txn) x) is
      (may_slow_now of earlier txn a s.may.place s.standing did.id did.begun did.waits did.majority))
      (did.takes.emits ∙ sym (node_emits_next of earlier a (Slows did.id) s.standing s.stands.kind))
      (record { kind = s.stands.kind; stands = did.takes.stands })

  pub slow_refused : (error : NodeError)
      → ((number start : ℕ) (acts : List Act) → node.StandsFor setup.topology number start old acts
      → error ≡ Unknown → node.may_slow setup.topology number start txn (node_replay setup.topology number start acts) ≡ false)
      → ((number start : ℕ) (acts : List Act) → node.StandsFor setup.topology number start old acts
      → error ≡ NoQuorum → (node.may_slow setup.topology number start txn (node_replay setup.topology number start acts) ≡ true)
      × (node.is_answered setup.topology number start txn (node_replay setup.topology number start acts) ≡ false))
      → IsSlowRefused of earlier txn error
  slow_refused Begun unknown no_quorum = tt
  slow_refused Unknown unknown no_quorum =
      let number = node_of a in
      let start = clock_start setup.starts (node_of a) in
      told of earlier txn a s.may.place s.standing
      ∙ ap (λ b. slow_cause txn b (node.is_answered setup.topology number start txn (replayed_deeds of a earlier)))
      (unknown number start acts s.stands.stands refl)
  slow_refused NoQuorum unknown no_quorum =
      let number = node_of a in
      let start = clock_start setup.starts (node_of a) in
      let why = no_quorum number start acts s.stands.stands refl in
      told of earlier txn a s.may.place s.standing
      ∙ ap (λ b. slow_cause txn b (node.is_answered setup.topology number start txn (replayed_deeds of a earlier))) why.0
      ∙ ap (slow_cause txn true) why.1
  slow_refused OutOfMemory unknown no_quorum = tt

-- a claim of an error, by what the result is
pub refused_with : {A E : Type 0} (r : Result A E) (P : E → Type 0) → ((error : E) → r ≡ Err error → P error) → IfErr r P
refused_with (Ok x) P h = tt
refused_with (Err error) P h = h error refl
