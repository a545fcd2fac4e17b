-- What a node emits that begins a transaction or takes one over, by what it drew.
use Rattle.std.proofs.Common.{◌≡◌, ℕ, ◌==◌, ◌||◌, Bool, false, cond, if◌then◌else◌, List, [], ◌∷◌, Option, None, Some, is_some, ap, ◌∙◌, arith}
use Rattle.std.proofs.lemmas.Bool.Decides.{nat_tests}
use Rattle.std.specs.Ordering.{nat_cmp}
use Rattle.std.specs.BTreeMap.{get}
use Rattle.acc_stamp.specs.declared.stamps.TxnId.{TxnId}
use Rattle.acc_stamp.specs.declared.stamps.Ballot.{Ballot}
use Rattle.acc_stamp.specs.Actor.{actor_of, node_of_stamp, home_of}
use Rattle.acc_stamp.specs.Stamp.{id_cmp, id_eq, ballot_eq, zero_ballot}
use Rattle.acc_stamp.specs.Clock.{ClockState, next_stamp, after_draw}
use Rattle.acc_topology.specs.Layout.{Layout}
use Rattle.acc_txn.specs.declared.parts.BodyParts.{BodyParts}
use Rattle.acc_message.specs.declared.message.Message.{Message}
use Rattle.acc_message.specs.declared.entry.Emitted.{Emitted}
use Rattle.acc_message.specs.declared.note.Note.TheVariants.{Begin as BeginNote, Recover as RecoverNote}
use Rattle.acc_message.specs.Coordinator.{begun, recovering, ask_for_votes, ask_for_views}
use Rattle.acc_message.specs.NodeRules.{Act, Begins, Recovers, Deed, clock_of, next_draw, next_id, next_ballot, node_emits, node_replay}
use Rattle.acc_safety.proofs.Draws.{node_of_draw, not_zero}
use Rattle.acc_node.specs.declared.node.Node.{Node}
use Rattle.acc_node.specs.declared.running.Running.{Running}
use Rattle.acc_node.specs.Stands.{RunsAs, StandsFor}

-- no drawn ballot is zero
pub drawn_not_zero : (clock : ClockState) → ballot_eq (record { 0 = next_stamp clock }) zero_ballot ≡ false
drawn_not_zero clock = grind (arith, nat_tests)

module _ (layout : Layout) (number start : ℕ) (acts : List Act) (old : Node) (s : StandsFor layout number start old acts) where
  pub begin_emits : (txn : ℕ) (x : TxnId) (body : BodyParts) (out : List Message) → x ≡ (record { 0 = next_stamp old.clock })
      → out ≡ ask_for_votes layout (home_of x zero_ballot) x body
      → (let e : Emitted = record { notes = BeginNote x ∷ []; out = out } in e) ≡ node_emits layout number start (node_replay layout number start acts) (Begins txn body)
  begin_emits txn x body out drawn sends =
      let before : List Deed = node_replay layout number start acts in
      let x_is : x ≡ next_id number start before = drawn ∙ ap (λ (k : ClockState). record { 0 = next_stamp k }) s.clock_is in
      let e : (TxnId → List Message → Emitted) = λ z o. record { notes = BeginNote z ∷ []; out = o } in
      ap (e x) sends
      ∙ ap (λ (z : TxnId). e z (ask_for_votes layout (home_of z zero_ballot) z body)) x_is
      ∙ ap (λ n. e (next_id number start before) (ask_for_votes layout (actor_of n 0) (next_id number start before) body)) (node_of_draw number start before)

  pub recover_emits : (x : TxnId) (ballot : Ballot) (body : BodyParts) (out : List Message) → ballot ≡ (record { 0 = next_stamp old.clock })
      → out ≡ ask_for_views layout (home_of x ballot) x ballot body
      → (let e : Emitted = record { notes = RecoverNote x ballot ∷ []; out = out } in e) ≡ node_emits layout number start (node_replay layout number start acts) (Recovers x body)
  recover_emits x ballot body out drawn sends =
      let before : List Deed = node_replay layout number start acts in
      let b_is : ballot ≡ next_ballot number start before = drawn ∙ ap (λ (k : ClockState). record { 0 = next_stamp k }) s.clock_is in
      let e : (Ballot → List Message → Emitted) = λ z o. record { notes = RecoverNote x z ∷ []; out = o } in
      ap (e ballot) sends
      ∙ ap (λ (z : Ballot). e z (ask_for_views layout (home_of x z) x z body)) b_is
      ∙ ap (λ b. e (next_ballot number start before) (ask_for_views layout (actor_of (if b then node_of_stamp x.0 else node_of_stamp (next_draw number start before)) 0) x (next_ballot number start before) body)) (not_zero number start before)
      ∙ ap (λ n. e (next_ballot number start before) (ask_for_views layout (actor_of n 0) x (next_ballot number start before) body)) (node_of_draw number start before)
