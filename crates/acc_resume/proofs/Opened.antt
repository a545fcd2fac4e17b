-- Actors that journals give back, and the cluster of them.
use Rattle.std.proofs.Common.{◌≡◌, ℕ, ◌^◌, ◌≤◌, true, false, IsTrue, List, [], ◌∷◌, ◌++◌, length, map, Result, Ok, Err, IfOk, refl, sym, ◌∙◌, ap, subst, Contains, arith}
use Rattle.std.specs.Prelude.{◌==◌}
use Rattle.std.proofs.lemmas.Bool.{eqb-true}
use Rattle.std.proofs.lemmas.List.{append-nil}
use Rattle.acc_ports.specs.declared.disk.Disk.{Ghosts}
use Rattle.acc_stamp.specs.declared.actors.Actor.{Actor}
use Rattle.acc_stamp.specs.Actor.{actor_of, node_of}
use Rattle.acc_topology.specs.Layout.{Layout}
use Rattle.acc_topology.specs.Sets.{is_among}
use Rattle.acc_journal.specs.Layout.{Reads}
use Rattle.acc_journal.specs.Calls.{after_calls, ReadsDisk}
use Rattle.acc_message.specs.declared.item.Item.{Item}
use Rattle.acc_message.specs.declared.message.Message.{Message}
use Rattle.acc_message.specs.NodeRules.{Act, Restarts, clock_of}
use Rattle.acc_message.specs.Run.{clock_start, deeds_of, taken_of, is_node}
use Rattle.acc_message.specs.StoreRules.{replay}
use Rattle.acc_message.specs.VoteRule.{greatest_h}
use Rattle.acc_actor_laws.specs.TakenAlone.{messages_taken}
use Rattle.acc_safety.specs.RunLaws.{acts_done}
use Rattle.acc_safety.specs.Places.{IsIn}
use Rattle.acc_safety.proofs.PlaceOrder.{passing, IsIn-append_left, IsIn-Contains, map-IsIn}
use Rattle.acc_safety.proofs.DrawFacts.{is_node-node, node_is}
use Rattle.acc_payloads.specs.declared.node.NodePayload.{NodePayload}
use Rattle.acc_payloads.specs.declared.store.StorePayload.{StorePayload}
use Rattle.acc_payloads.specs.Items.{payloads_in, without_marks}
use Rattle.acc_payloads.specs.Journals.{IsJournalOf}
use Rattle.acc_payloads.specs.Node.{node_bytes, IsNodeJournal, NodeMay}
use Rattle.acc_payloads.specs.Store.{taken_in, IsStoreJournal}
use Rattle.acc_payloads.proofs.Journals.{each_alike}
use Rattle.acc_run_laws.specs.Heights.{IsLowClock}
use Rattle.acc_schedule.specs.Actors.{actors, stores_from}
use Rattle.acc_schedule.specs.Content.{Content}
use Rattle.acc_schedule_runs.specs.Schedules.{cluster_of}
use Rattle.acc_durable_node.specs.declared.name.NodeName.{NodeName}
use Rattle.acc_durable_node.specs.Names.{deeds_by, IsNodeName}
use Rattle.acc_durable_node.specs.declared.node.DurableNode.{DurableNode}
use Rattle.acc_durable_node.specs.Node as node
use Rattle.acc_durable_store.specs.declared.store.DurableStore.{DurableStore}
use Rattle.acc_durable_store.specs.Store as store
use Rattle.acc_actors.specs.Opened.{HasDone, HasTaken, IsUnarmed}
use Rattle.acc_actors.specs.Slots.{node_name}
use Rattle.acc_cluster.specs.Safe.{most_opened, HasLowPast, TookLow}
use Rattle.acc_left.specs.declared.image.Image.{Image}
use Rattle.acc_left.specs.Rules.{greatest_height, AreLeft, NodeMayLeave}
use Rattle.acc_left_laws.specs.Left.{journal_at}
use Rattle.acc_left_laws.specs.Laws.{NodeStands, StoreStands}
use Rattle.acc_resume.specs.Opened.{HoldsJournal, IsOpenedNode, IsOpenedStore}
use Rattle.acc_resume.specs.Resumed.{OfEachRun}
use Rattle.acc_resume.proofs.Journals.{node_items, store_items}
use Rattle.acc_resume.proofs.LowNodes.{low_past}
use Rattle.acc_resume.proofs.LowStores.{low_store, one_journal}

-- ---- disks

module _ {D : Type 0} (port : Ghosts D) (bytes : List ℕ) (disk new : D) (holds : HoldsJournal port bytes disk) (read : ReadsDisk port disk new (Ok tt)) where
  -- all its images read as what was read
  images_read : (payloads : List (List ℕ)) → Reads (port.state disk).content payloads → (image : List ℕ) → port.is_image new image → Reads image payloads
  images_read payloads reads image there = subst (λ (l : List ℕ). Reads l payloads) (sym (read.only image there)) reads

  still_unarmed : IsUnarmed port new
  still_unarmed =
      let strict = holds.unarmed.0 in
      (subst IsTrue (sym read.calls.kind) strict, (read.calls.strict strict).counts ∙ ap (after_calls 2) holds.unarmed.1)

-- ---- answers

-- what is handed on unless there are too many
pub if_same : {T E : Type 0} (P Few : T → Type 0) (r : Result T E) (x : T) → IfOk r (λ t. t ≡ x) → IfOk r Few → (Few x → P x) → IfOk r P
if_same P Few (Ok t) x is few holds = subst P (sym is) (holds (subst Few is few))
if_same P Few (Err e) x is few holds = tt

-- ---- a node

-- it is an actor of the plan
pub node_known : (layout : Layout) (number : ℕ) → is_among layout.nodes number ≡ true → Contains (actors layout) (actor_of number 0)
node_known layout number there =
    let found = passing (λ (n : ℕ). n == number) layout.nodes there in
    let at : IsIn number layout.nodes = subst (λ (n : ℕ). IsIn n layout.nodes) (eqb-true found.element number found.passes) found.there in
    IsIn-Contains (actor_of number 0) (actors layout)
    (IsIn-append_left (actor_of number 0) (map (λ (n : ℕ). actor_of n 0) layout.nodes) (stores_from 1 layout.shards)
    (map-IsIn (λ (n : ℕ). actor_of n 0) number layout.nodes at))

module _ {D : Type 0} (port : Ghosts D) (plan : Content) (images : List Image) (left : AreLeft plan images) where
  module _ (number : ℕ) (name : NodeName) (disk : D) (n : DurableNode D) (holds : HoldsJournal port (journal_at images (actor_of number 0)) disk)
      (is : name ≡ node_name plan number) (range : IsNodeName name) (named : n.name ≡ name) (reads : Reads (port.state disk).content n.journal.payloads)
      (stands : (layout : Layout) (acts : List Act) (payloads : List (List ℕ)) → Reads (port.state disk).content payloads
      → node.IsJournalAfter layout name payloads acts → node.StandsFor layout n (Restarts ∷ acts)) where
    abbrev a : Actor
    a = actor_of number 0

    -- as the plan names it
    abbrev own : NodeName
    own = node_name plan (node_of a)

    is_own : name ≡ own
    is_own = is ∙ ap (node_name plan) (sym (node_is number))

    own_reads : Reads (journal_at images a) n.journal.payloads
    own_reads = subst (λ (l : List ℕ). Reads l n.journal.payloads) holds.content reads

    stands_for : (acts : List Act) → node.IsJournalAfter plan.topology own n.journal.payloads acts → node.StandsFor plan.topology n (Restarts ∷ acts)
    stands_for acts journal =
        stands plan.topology acts n.journal.payloads reads (subst (λ (x : NodeName). node.IsJournalAfter plan.topology x n.journal.payloads acts) (sym is_own) journal)

    start_low : own.start ≤ greatest_height
    start_low = let low : own.start ≤ 10 ^ 12 = subst (λ (x : NodeName). x.start ≤ 10 ^ 12) is_own range.start_in_range in omega (arith, low)

    module _ (items : List NodePayload) (journal : IsJournalOf node_bytes (NodeMayLeave plan (node_of a)) n.journal.payloads items) where
      journal_of : IsNodeJournal plan.version (clock_start plan.starts (node_of a)) n.journal.payloads items
      journal_of = record {
        spelled = journal.spelled;
        each =
            each_alike (NodeMayLeave plan (node_of a)) (NodeMay plan.version (clock_start plan.starts (node_of a))) (λ before p may. may.0) [] items journal.each;
      }

      has_low : HasLowPast plan n
      has_low =
          let past = low_past plan.topology own plan (node_of a) refl n.journal.payloads items start_low journal in
          record {
            acts = Restarts ∷ past.acts;
            stands = stands_for past.acts (record { items = items; journal = journal_of; drawn = past.drawn });
            low =
                subst (λ (x : NodeName). IsLowClock most_opened (clock_of x.number x.start (deeds_by plan.topology x (Restarts ∷ past.acts)))) (sym (named ∙ is_own)) past.low;
          }

    did_in : (earlier : List Item) → NodeStands plan earlier a (journal_at images a) → HasDone plan earlier n
    did_in earlier did =
        let held = did.holds n.journal.payloads own_reads in
        let here : node.StandsFor plan.topology n (acts_done (deeds_of (cluster_of plan) a earlier)) =
        subst (node.StandsFor plan.topology n) (sym did.done) (stands_for did.acts (record { items = held.entries; journal = held.journal; drawn = held.drawn })) in
        let numbered : number ≡ n.name.number = sym (ap (λ (x : NodeName). x.number) (named ∙ is)) in
        record {
          stands = subst (λ (k : ℕ). node.StandsFor plan.topology n (acts_done (deeds_of (cluster_of plan) (actor_of k 0) earlier))) numbered here;
          held = subst (λ (k : ℕ). without_marks n.journal.payloads ≡ payloads_in (actor_of k 0) earlier) numbered held.held;
        }

    pub opened_node : ReadsDisk port disk n.journal.disk (Ok tt) → OfEachRun plan images (λ earlier. NodeStands plan earlier a (journal_at images a))
        → IsOpenedNode port plan images number n
    opened_node read each =
        let items = node_items plan images left a n.journal.payloads own_reads (is_node-node number) in
        let low = has_low items.0 items.1 in
        let numbered : n.name.number ≡ number = ap (λ (x : NodeName). x.number) (named ∙ is) in
        record {
          number_is = numbered;
          of_plan =
              record {
                sound = low.stands.sound;
                named = named ∙ is ∙ ap (node_name plan) (sym numbered);
                lasts = images_read port (journal_at images a) disk n.journal.disk holds read n.journal.payloads reads;
              };
          unarmed = still_unarmed port (journal_at images a) disk n.journal.disk holds read;
          low = low;
          did = λ s keeps has room. did_in _ (each s keeps has room);
        }

  -- ---- a store

  module _ (own : Actor) (kind : is_node own ≡ false) (disk : D) (t : DurableStore D) (holds : HoldsJournal port (journal_at images own) disk)
      (reopened : store.IsReopened plan.topology t t.journal.payloads) (owned : store.actor_in t ≡ own) (version : t.version ≡ plan.version)
      (reads : Reads (port.state disk).content t.journal.payloads) where
    store_reads : Reads (journal_at images own) t.journal.payloads
    store_reads = subst (λ (l : List ℕ). Reads l t.journal.payloads) holds.content reads

    abbrev read_items : List StorePayload
    read_items = reopened.stands.held.items

    -- nothing is staged
    all_read : IsStoreJournal plan.topology t.version own t.journal.payloads read_items
    all_read =
        subst (λ (b : Actor). IsStoreJournal plan.topology t.version b t.journal.payloads read_items) owned
        (subst (λ (l : List (List ℕ)). IsStoreJournal plan.topology t.version (store.actor_in t) l read_items)
        (ap (λ (g : List (List ℕ)). t.journal.payloads ++ g) reopened.none_staged ∙ append-nil t.journal.payloads) reopened.stands.held.journal)

    took_low : length (without_marks t.journal.payloads) ≤ 2 ^ 60 → TookLow plan t
    took_low few =
        let items = store_items plan images left own t.journal.payloads store_reads kind in
        let low : greatest_h own (replay plan.topology own (taken_in read_items)) ≤ 2 ^ 61 =
        low_store plan images own t.version t.journal.payloads items.0 read_items items.1 all_read few in
        let here : greatest_h own (replay plan.topology own reopened.messages) ≤ 2 ^ 61 =
        subst (λ (ms : List Message). greatest_h own (replay plan.topology own ms) ≤ 2 ^ 61) reopened.stands.held.taken low in
        record {
          messages = reopened.messages;
          stands = reopened.stands;
          low = subst (λ (b : Actor). greatest_h b (replay plan.topology b reopened.messages) ≤ most_opened) (sym owned) here;
        }

    took_in : (earlier : List Item) → StoreStands plan earlier own (journal_at images own) → HasTaken plan earlier t
    took_in earlier took =
        let held = took t.journal.payloads store_reads in
        let same : reopened.messages ≡ messages_taken (taken_of (cluster_of plan) own earlier) =
        sym reopened.stands.held.taken
        ∙ ap taken_in (one_journal plan.topology t.version plan.version own t.journal.payloads read_items held.entries all_read held.journal) ∙ held.taken in
        record {
          stands =
              subst (λ (b : Actor). store.StandsFor plan.topology t (messages_taken (taken_of (cluster_of plan) b earlier))) (sym owned)
              (subst (store.StandsFor plan.topology t) same reopened.stands);
          held = subst (λ (b : Actor). without_marks t.journal.payloads ≡ payloads_in b earlier) (sym owned) held.held;
        }

    pub opened_store : length (without_marks t.journal.payloads) ≤ 2 ^ 60 → ReadsDisk port disk t.journal.disk (Ok tt)
        → (Contains (actors plan.topology) own → OfEachRun plan images (λ earlier. StoreStands plan earlier own (journal_at images own)))
        → IsOpenedStore port plan images t
    opened_store few read each =
        record {
          kind = ap is_node owned ∙ kind;
          of_plan =
              record {
                sound = reopened.stands.sound;
                none_staged = reopened.none_staged;
                version_is = version;
                lasts = images_read port (journal_at images own) disk t.journal.disk holds read t.journal.payloads reads;
              };
          unarmed = still_unarmed port (journal_at images own) disk t.journal.disk holds read;
          low = took_low few;
          took = λ known s keeps has room. took_in _ (each (subst (Contains (actors plan.topology)) owned known) s keeps has room);
        }
