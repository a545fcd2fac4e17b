-- Journals that a run left break no rule, and the actors that are opened from them stand for the run.
use Rattle.std.proofs.Common.{◌≡◌, ℕ, ◌<◌, ◌^◌, Bool, true, false, List, ◌∷◌, length, map, reverse, Contains, sym, ap, subst, ◌∙◌}
use Rattle.std.proofs.lemmas.List.{reverse-reverse}
use Rattle.acc_stamp.specs.declared.actors.Actor.{Actor}
use Rattle.acc_stamp.specs.Actor.{node_of}
use Rattle.acc_journal.specs.Layout.{Reads}
use Rattle.acc_message.specs.declared.message.Message.{Message}
use Rattle.acc_message.specs.declared.item.Item.{Item}
use Rattle.acc_message.specs.NodeRules.{Act, Restarts, Deed, node_replay}
use Rattle.acc_message.specs.Run.{Cluster, clock_start, deeds_of, is_node, EachStands}
use Rattle.acc_message_code.specs.MessageSpelling.{message_bytes}
use Rattle.acc_safety.specs.RunLaws.{acts_done}
use Rattle.acc_safety.specs.Valid.{IsValidCluster}
use Rattle.acc_safety.proofs.Bridge.{each_emits}
use Rattle.acc_safety.proofs.Replays.{node_is_replay}
use Rattle.acc_payloads.specs.declared.draw.Draw.{Draw}
use Rattle.acc_payloads.specs.Acts.{AreDrawsOf}
use Rattle.acc_payloads.specs.Items.{without_marks}
use Rattle.acc_payloads.specs.Store.{StoreMay}
use Rattle.acc_schedule.specs.Actors.{actors}
use Rattle.acc_schedule.specs.Content.{Content}
use Rattle.acc_schedule.specs.Plan.{IsPlan}
use Rattle.acc_schedule_runs.specs.Schedules.{cluster_of}
use Rattle.acc_schedule_runs.specs.Situations.{Situation}
use Rattle.acc_left.specs.declared.image.Image.{Image}
use Rattle.acc_left.specs.Rules.{AreLeft, IsStoreImage, StoreMayLeave}
use Rattle.acc_left_laws.specs.Laws.{ActorsStand, HoldsDraws, HoldsMessages, NodeStands}
use Rattle.acc_left_laws.specs.Left.{journal_at, HasLeft, HasLeftBytes, HasRoomAfter, reopened_run}
use Rattle.acc_left_laws.proofs.Drawers.{begins_of, bytes_left, few_bodies, few_items, node_has, nodes_left, payloads_are, recovers_of, stands, valid}
use Rattle.acc_left_laws.proofs.Drawn.{draws_of}
use Rattle.acc_left_laws.proofs.Journals.{journal_is}
use Rattle.acc_left_laws.proofs.Messages.{message_left}
use Rattle.acc_left_laws.proofs.NodeDraws.{draws_known, Draws}
use Rattle.acc_left_laws.proofs.NodeImages.{is_node_journal, HasDraws}
use Rattle.acc_left_laws.proofs.StoreImages.{messages_journal, messages_left, HasMessages}
use Rattle.acc_left_laws.proofs.Spellings.{spellings}
use Rattle.acc_left_laws.proofs.StoreTakes.{taken, takings_known, HaveSpellings, Takings}
use Rattle.acc_left_laws.proofs.Turns.{reopened_ends, reopened_payloads, EndsWithRestart}

module _ (plan : Content) (s : Situation) (keeps : Actor → Bool) (images : List Image) (is : IsPlan plan) (left : HasLeft plan s keeps images) (room : HasRoomAfter (reopened_run plan s keeps)) where
  abbrev cluster : Cluster
  cluster = cluster_of plan

  abbrev items : List Item
  items = reopened_run plan s keeps

  is_valid : IsValidCluster cluster
  is_valid = valid plan s keeps images is left room

  each_stands : EachStands cluster items
  each_stands = stands plan s keeps images is left room

  are_few : length items < 2 ^ 31
  are_few = few_items plan s keeps images is left room

  spelled : HaveSpellings items
  spelled = spellings cluster is_valid (few_bodies plan s keeps images is left room) left.numbered items each_stands are_few

  -- ---- nodes

  module _ (a : Actor) (known : Contains (actors plan.topology) a) (node : is_node a ≡ true) where
    abbrev start : ℕ
    start = clock_start plan.starts (node_of a)

    abbrev AreDrawn : List Deed → List Draw → Type 0
    AreDrawn deeds draws = AreDrawsOf (node_of a) start deeds draws

    -- a restart draws nothing
    before_restart : (deeds : List Deed) (acts : List Act) (draws : List Draw) → acts_done deeds ≡ Restarts ∷ acts → deeds ≡ node_replay plan.topology (node_of a) start (acts_done deeds)
        → AreDrawn deeds draws → AreDrawn (node_replay plan.topology (node_of a) start acts) draws
    before_restart deeds acts draws done replay are =
        subst (λ (l : List Act). AreDrawn (node_replay plan.topology (node_of a) start l) draws) done (subst (λ (l : List Deed). AreDrawn l draws) replay are)

    node_holds : (acts : List Act) → acts_done (deeds_of cluster a items) ≡ Restarts ∷ acts → (payloads : List (List ℕ)) → Reads (journal_at images a) payloads
        → HoldsDraws plan items a acts payloads
    node_holds acts done payloads reads =
        let own : HasLeftBytes plan s (keeps a) a (journal_at images a) = bytes_left plan s keeps images is left room a known in
        let has : HasDraws plan (node_of a) own.payloads (draws_of a items) = node_has plan s keeps images is left room a known node in
        let draws : Draws plan is_valid (few_bodies plan s keeps images is left room) a node items =
        draws_known plan is_valid (few_bodies plan s keeps images is left room) a node items each_stands are_few in
        subst (HoldsDraws plan items a acts) (sym (payloads_are plan s keeps images is left room a known payloads reads))
        (record {
          entries = has.items;
          journal = is_node_journal plan (node_of a) own.payloads has.items has.journal;
          drawn =
              subst (AreDrawn (node_replay plan.topology (node_of a) start acts)) (sym has.draws_are)
              (before_restart (deeds_of cluster a items) acts (draws_of a items) done
              (node_is_replay plan.topology (node_of a) start (deeds_of cluster a items) (each_emits cluster a items each_stands node)) draws.are);
          held = own.holds ∙ sym (reopened_payloads plan is s keeps a known left.sound);
        })

    node_stands : NodeStands plan items a (journal_at images a)
    node_stands =
        let ends : EndsWithRestart cluster keeps a items = reopened_ends plan is s keeps a known in
        record { acts = ends.acts; done = ends.done; holds = node_holds ends.acts ends.done }

  -- ---- stores

  module _ (a : Actor) (known : Contains (actors plan.topology) a) (store : is_node a ≡ false) where
    takings : Takings plan is_valid items spelled are_few a store items
    takings = takings_known plan is_valid items spelled are_few a store each_stands

    abbrev messages : List Message
    messages = reverse (taken plan is_valid items spelled are_few a store items)

    abbrev own_left : HasLeftBytes plan s (keeps a) a (journal_at images a)
    own_left = bytes_left plan s keeps images is left room a known

    store_holds : without_marks own_left.payloads ≡ map message_bytes messages
    store_holds =
        let own : HasLeftBytes plan s (keeps a) a (journal_at images a) = own_left in
        let t : Takings plan is_valid items spelled are_few a store items = takings in
        own.holds ∙ sym (reopened_payloads plan is s keeps a known left.sound) ∙ t.payloads

    left_messages : HasMessages plan items a (StoreMayLeave plan images a) own_left.payloads messages
    left_messages =
        let own : HasLeftBytes plan s (keeps a) a (journal_at images a) = own_left in
        let t : Takings plan is_valid items spelled are_few a store items = takings in
        messages_left plan items a own.payloads messages own.marks store_holds t.each images
        (λ before m next.
        message_left plan is_valid items each_stands images (begins_of plan s keeps images is left room) (recovers_of plan s keeps images is left room) a store before m next)

    journal_messages : HasMessages plan items a (StoreMay plan.topology plan.version a) own_left.payloads messages
    journal_messages =
        let own : HasLeftBytes plan s (keeps a) a (journal_at images a) = own_left in
        let t : Takings plan is_valid items spelled are_few a store items = takings in
        messages_journal plan items a own.payloads messages own.marks store_holds t.each

    store_stands : (payloads : List (List ℕ)) → Reads (journal_at images a) payloads → HoldsMessages plan items a payloads
    store_stands payloads reads =
        let own : HasLeftBytes plan s (keeps a) a (journal_at images a) = own_left in
        let has : HasMessages plan items a (StoreMay plan.topology plan.version a) own.payloads messages = journal_messages in
        subst (HoldsMessages plan items a) (sym (payloads_are plan s keeps images is left room a known payloads reads))
        (record {
          entries = has.items;
          journal = has.journal;
          taken = ap reverse has.messages_are ∙ reverse-reverse (taken plan is_valid items spelled are_few a store items);
          held = own.holds ∙ sym (reopened_payloads plan is s keeps a known left.sound);
        })

  store_image : (image : Image) → Contains images image → is_node image.actor ≡ false → IsStoreImage plan images image
  store_image image there store =
      let known : Contains (actors plan.topology) image.actor = left.are.known image there in
      let own : HasLeftBytes plan s (keeps image.actor) image.actor (journal_at images image.actor) = own_left image.actor known store in
      let has : HasMessages plan items image.actor (StoreMayLeave plan images image.actor) own.payloads (messages image.actor known store) = left_messages image.actor known store in
      record {
        payloads = own.payloads;
        items = has.items;
        reads = subst (λ (bytes : List ℕ). Reads bytes own.payloads) (journal_is images image left.are.rise there) own.reads;
        journal = has.journal;
      }

  -- ---- all of them

  pub journals_accepted : AreLeft plan images
  journals_accepted = record { nodes = nodes_left plan s keeps images is left room; stores = store_image }

  pub actors_stand : ActorsStand plan items images
  actors_stand = record { nodes = node_stands; stores = store_stands }
