-- What a node does that gives the fast path of an attempt up.
use Rattle.std.proofs.Common.{◌≡◌, ℕ, ◌&&◌, ◌||◌, Bool, true, false, not, List, [], ◌∷◌, Option, None, Some, is_some, refl, sym, ap, subst, ◌∙◌}
use Rattle.std.proofs.lemmas.Bool.{true≢false}
use Rattle.std.specs.List.{list_any}
use Rattle.std.specs.Ordering.{nat_cmp}
use Rattle.std.specs.BTreeMap.{get, BTreeMap}
use Rattle.acc_stamp.specs.declared.stamps.TxnId.{TxnId}
use Rattle.acc_stamp.specs.declared.actors.Actor.{Actor}
use Rattle.acc_stamp.specs.Actor.{actor_of, home_of}
use Rattle.acc_stamp.specs.Stamp.{id_cmp, id_eq, ballot_eq, zero_ballot}
use Rattle.acc_stamp.proofs.Order.{id_order, ballot_order, eq_itself}
use Rattle.acc_topology.specs.Layout.{Layout}
use Rattle.acc_message.specs.declared.message.Message.{Message}
use Rattle.acc_message.specs.declared.entry.Emitted.{Emitted}
use Rattle.acc_message.specs.Items.{begins, replies}
use Rattle.acc_message.specs.Attempts.{Attempt, Phase, Voting, Recovering, Accepting, Committing, Executing, majority_everywhere}
use Rattle.acc_message.specs.Coordinator.{Reaction, when, slow_down, slow_reaction, may_slow_down}
use Rattle.acc_message.specs.NodeRules.{Act, Slows, Deed, begun_id, is_open, attempt_of, next_by, where_about, emitted_by, node_emits, node_replay}
use Rattle.acc_actor_laws.proofs.PhaseFacts.{first_has_zero}
use Rattle.acc_safety.proofs.Attempted.{origin_of}
use Rattle.acc_safety.proofs.Draws.{origin_home}
use Rattle.acc_coord.specs.Stands.{is_voting_phase}
use Rattle.acc_node.specs.declared.error.NodeError.{NodeError}
use Rattle.acc_node.specs.declared.node.Node.{Node}
use Rattle.acc_node.specs.declared.running.Running.{Running}
use Rattle.acc_node.specs.Stands.{Runs, StandsFor, Takes, HasSlowed, SlowsAt, SlowsDown, SlowsBegun, Refuses, is_voting_at, is_first_voting, has_majority, if_begun, may_slow, is_answered}
use Rattle.acc_node.proofs.Standing.{or_none}

-- the node that runs an attempt is the home of its ballot
pub own_is : (layout : Layout) (number start : ℕ) (past : List Deed) (x : TxnId) (a : Attempt) → attempt_of layout number start x past ≡ Some a
    → actor_of number 0 ≡ home_of x a.ballot
own_is layout number start past x a is = origin_home layout number start past x a (origin_of layout number start x past a is)

voting_is : (p : Phase) → is_voting_phase p ≡ true → p ≡ Voting
voting_is Voting h = refl
voting_is Recovering h = absurd (true≢false (sym h))
voting_is (Accepting s) h = absurd (true≢false (sym h))
voting_is (Committing s) h = absurd (true≢false (sym h))
voting_is (Executing s) h = absurd (true≢false (sym h))

and_false : (b : Bool) → (b && false) ≡ false
and_false true = refl
and_false false = refl

module _ (layout : Layout) (number start : ℕ) (past : List Deed) (x : TxnId) where
  -- an attempt that waits for votes is the first one
  first_at : (a : Attempt) (b : Bool) → attempt_of layout number start x past ≡ Some a → is_voting_phase a.phase ≡ b → is_first_voting (Some a) ≡ b
  first_at a true is h =
      ap (λ b. ballot_eq a.ballot zero_ballot && b) h
      ∙ ap (λ b. ballot_eq b zero_ballot && true) (first_has_zero layout number start x past a is (voting_is a.phase h))
  first_at a false is h = ap (λ b. ballot_eq a.ballot zero_ballot && b) h ∙ and_false (ballot_eq a.ballot zero_ballot)

  pub first_is : (o : Option Attempt) → attempt_of layout number start x past ≡ o → is_first_voting o ≡ is_voting_at o
  first_is None is = refl
  first_is (Some a) is = first_at a (is_voting_phase a.phase) is refl

  -- an attempt refuses as its begun transaction does
  pub refuses_begun : (txn : ℕ) (error : NodeError) → begun_id number start txn past ≡ Some x
      → Refuses (is_voting_at (attempt_of layout number start x past)) (has_majority layout x (attempt_of layout number start x past)) error
      → Refuses (may_slow layout number start txn past) (is_answered layout number start txn past) error
  refuses_begun txn error is h =
      subst (λ b. Refuses b (is_answered layout number start txn past) error)
      (sym (first_is _ refl) ∙ ap (if_begun layout number start past (λ y a. is_first_voting a)) (sym is))
      (subst (λ b. Refuses (is_voting_at (attempt_of layout number start x past)) b error)
      (ap (if_begun layout number start past (has_majority layout)) (sym is)) h)

module _ (layout : Layout) (number start : ℕ) (acts : List Act) (old new : Node) (x : TxnId) (out : List Message)
    (slowed : HasSlowed layout old new x out) (s : StandsFor layout number start old acts) where
  slows : (running : Running) (a : Attempt) → attempt_of layout number start x (node_replay layout number start acts) ≡ Some a
      → SlowsDown layout x running out a → slow_reaction layout (actor_of number 0) x a ≡ slow_down layout (home_of x a.ballot) x a
  slows running a is h =
      ap (λ (p : Phase). when (may_slow_down layout x a p) (slow_down layout (actor_of number 0) x) a) (voting_is a.phase h.voting)
      ∙ ap (λ b. when b (slow_down layout (actor_of number 0) x) a) h.majority
      ∙ ap (λ (o : Actor). slow_down layout o x a) (own_is layout number start (node_replay layout number start acts) x a is)

  emits_at : (o : Option Attempt) (r : Option Running) → attempt_of layout number start x (node_replay layout number start acts) ≡ o
      → SlowsAt layout x r out o → (record { notes = []; out = out }) ≡ emitted_by (slow_reaction layout (actor_of number 0) x) o
  emits_at None None is h = absurd h
  emits_at None (Some running) is h = absurd h
  emits_at (Some a) None is h = absurd h
  emits_at (Some a) (Some running) is h =
      ap (λ (o : List Message). record { notes = []; out = o }) h.sends ∙ sym (ap (λ (r : Reaction). r.emitted) (slows running a is h))

  runs_at : (o : Option Attempt) (r : Option Running) → attempt_of layout number start x (node_replay layout number start acts) ≡ o
      → SlowsAt layout x r out o → Runs layout x r (next_by (slow_reaction layout (actor_of number 0) x) o)
  runs_at None None is h = absurd h
  runs_at None (Some running) is h = absurd h
  runs_at (Some a) None is h = absurd h
  runs_at (Some a) (Some running) is h =
      subst (λ (r : Reaction). Runs layout x (Some running) r.next) (sym (slows running a is h)) h.goes_on

  votes_at : (o : Option Attempt) (r : Option Running) → attempt_of layout number start x (node_replay layout number start acts) ≡ o
      → SlowsAt layout x r out o → (is_voting_at o ≡ true) × (has_majority layout x o ≡ true)
  votes_at None None is h = absurd h
  votes_at None (Some running) is h = absurd h
  votes_at (Some a) None is h = absurd h
  votes_at (Some a) (Some running) is h = (h.voting, h.majority)

  here : SlowsAt layout x (get id_cmp new.attempts x) out (attempt_of layout number start x (node_replay layout number start acts))
  here = slowed.here (attempt_of layout number start x (node_replay layout number start acts)) (s.attempts x)

  emits : (record { notes = []; out = out }) ≡ node_emits layout number start (node_replay layout number start acts) (Slows x)
  emits = emits_at _ _ refl here

  attempts_at : (y : TxnId) (b : Bool) → id_eq x y ≡ b → Runs layout y (get id_cmp new.attempts y)
      (where_about b (next_by (slow_reaction layout (actor_of number 0) y)) (attempt_of layout number start y (node_replay layout number start acts)))
  attempts_at y true e =
      subst (λ (z : TxnId). Runs layout z (get id_cmp new.attempts z) (next_by (slow_reaction layout (actor_of number 0) z) (attempt_of layout number start z (node_replay layout number start acts))))
      ((id_order.decides x y).0 e) (runs_at _ _ refl here)
  attempts_at y false e =
      subst (λ (o : Option Running). Runs layout y o (attempt_of layout number start y (node_replay layout number start acts))) (sym (slowed.others y e)) (s.attempts y)

  slow_takes : Takes layout number start new acts (Slows x) (record { notes = []; out = out })
  slow_takes =
      let before : List Deed = node_replay layout number start acts in
      record {
        emits = emits;
        stands = record {
          clock_is = slowed.clock ∙ s.clock_is;
          begun = λ t. ap (λ (m : BTreeMap ℕ TxnId). get nat_cmp m t) slowed.begun ∙ s.begun t ∙ sym (or_none (begun_id number start t before));
          clients = λ y. ap (λ (m : BTreeMap TxnId (Unit {0})). is_some (get id_cmp m y)) slowed.clients ∙ s.clients y
              ∙ ap (λ (e : Emitted). not (list_any (replies y) e.notes) && (list_any (begins y) e.notes || is_open y before)) emits;
          attempts = λ y. attempts_at y (id_eq x y) refl;
        };
      }

  pub slows_begun : (txn : ℕ) → begun_id number start txn (node_replay layout number start acts) ≡ Some x
      → SlowsBegun layout number start new acts txn (record { notes = []; out = out })
  slows_begun txn is =
      let has = votes_at _ _ refl here in
      record {
        id = x;
        begun = is;
        waits = first_is layout number start (node_replay layout number start acts) x _ refl ∙ has.0;
        majority = has.1;
        takes = slow_takes;
      }

module _ (layout : Layout) (number start : ℕ) (acts : List Act) where
  -- an event that is taken waits for votes with a majority
  pub slow_granted : (new : Node) (txn : ℕ) (emitted : Emitted) → SlowsBegun layout number start new acts txn emitted
      → (may_slow layout number start txn (node_replay layout number start acts) ≡ true)
      × (is_answered layout number start txn (node_replay layout number start acts) ≡ true)
  slow_granted new txn emitted s =
      let past : List Deed = node_replay layout number start acts in (
        ap (if_begun layout number start past (λ y a. is_first_voting a)) s.begun ∙ s.waits,
        ap (if_begun layout number start past (has_majority layout)) s.begun ∙ s.majority,
      )
