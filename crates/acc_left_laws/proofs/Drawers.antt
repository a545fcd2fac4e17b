-- The journals of nodes that a run left: each reads as the draws of its node, and so tells each draw of the run.
use Rattle.std.proofs.Common.{◌≡◌, ℕ, ◌*◌, ◌+◌, ◌<◌, ◌^◌, Bool, true, List, [], ◌∷◌, length, map, Contains, refl, sym, ap, subst, ◌∙◌, arith}
use Rattle.acc_stamp.specs.declared.actors.Actor.{Actor}
use Rattle.acc_stamp.specs.declared.stamps.Ballot.{Ballot}
use Rattle.acc_stamp.specs.declared.stamps.Stamp.{Stamp}
use Rattle.acc_stamp.specs.declared.stamps.TxnId.{TxnId}
use Rattle.acc_stamp.specs.Actor.{node_of}
use Rattle.acc_journal.specs.Layout.{Reads}
use Rattle.acc_journal.proofs.Unique.{one_list}
use Rattle.acc_message.specs.declared.item.Item.{Item}
use Rattle.acc_message.specs.Run.{is_node, EachStands}
use Rattle.acc_safety.specs.Places.{IsIn}
use Rattle.acc_safety.specs.Valid.{IsValidCluster}
use Rattle.acc_safety.proofs.PlaceOrder.{none_is_in, IsIn-Contains}
use Rattle.acc_run_laws.specs.Sends.{HasFewBodies}
use Rattle.acc_payloads.specs.declared.draw.Purpose.{Purpose}
use Rattle.acc_payloads.specs.declared.draw.Purpose.TheVariants.{Begin, Recover}
use Rattle.acc_payloads.specs.declared.draw.Draw.{Draw}
use Rattle.acc_payloads.specs.declared.node.NodePayload.{NodePayload}
use Rattle.acc_payloads.specs.Items.{without_marks}
use Rattle.acc_payloads.specs.Node.{draws_in}
use Rattle.acc_payloads.specs.Spelling.{draw_bytes}
use Rattle.acc_schedule.specs.Actors.{actors}
use Rattle.acc_schedule.specs.Content.{Content}
use Rattle.acc_schedule.specs.Plan.{IsPlan}
use Rattle.acc_schedule_runs.specs.Schedules.{cluster_of}
use Rattle.acc_schedule_runs.specs.Situations.{Situation}
use Rattle.acc_left.specs.declared.image.Image.{Image}
use Rattle.acc_left.specs.Rules.{Begins, HasDrawn, IsNodeImage, NodesAreLeft, Recovers}
use Rattle.acc_left_laws.specs.Laws.{GoesOn}
use Rattle.acc_left_laws.specs.Left.{journal_at, HasLeft, HasLeftBytes, HasRoomAfter, reopened_run}
use Rattle.acc_left_laws.proofs.Drawn.{draws_of, draws_spelled}
use Rattle.acc_left_laws.proofs.Journals.{has_journal, journal_is, HasJournal, IsEmpty, IsThere}
use Rattle.acc_left_laws.proofs.NodeDraws.{draws_known}
use Rattle.acc_left_laws.proofs.NodeImages.{has_draws, HasDraws}
use Rattle.acc_left_laws.proofs.ReopenedFacts.{goes_on}
use Rattle.acc_left_laws.proofs.Sources.{DrewStamp}
use Rattle.acc_left_laws.proofs.Turns.{reopened_payloads}

-- a journal with nothing in it
empty_reads : Reads (1 ∷ 0 ∷ []) []
empty_reads = record { gate = 0; behind = []; closed = λ e. absurd (omega (arith, e)); short = tt; spelled = refl }

no_draws : (draws : List Draw) → [] ≡ map draw_bytes draws → draws ≡ []
no_draws [] e = refl
no_draws (d ∷ draws) e = absurd cc

module _ (plan : Content) (s : Situation) (keeps : Actor → Bool) (images : List Image) (is : IsPlan plan) (left : HasLeft plan s keeps images) (room : HasRoomAfter (reopened_run plan s keeps)) where
  abbrev pub run : List Item
  run = reopened_run plan s keeps

  pub valid : IsValidCluster (cluster_of plan)
  valid = let sound = left.sound in sound.valid

  pub few_bodies : HasFewBodies (cluster_of plan)
  few_bodies = let sound = left.sound in sound.few_bodies

  pub stands : EachStands (cluster_of plan) run
  stands = let goes : GoesOn plan s keeps = goes_on plan s keeps images is left in goes.run.stands

  pub few_items : length run < 2 ^ 31
  few_items = let less : length run + 1000000 < 2 ^ 31 = room in omega (arith, less)

  module _ (a : Actor) (known : Contains (actors plan.topology) a) where
    pub bytes_left : HasLeftBytes plan s (keeps a) a (journal_at images a)
    bytes_left = left.each a known

    pub payloads_are : (payloads : List (List ℕ)) → Reads (journal_at images a) payloads → payloads ≡ bytes_left.payloads
    payloads_are payloads reads = let own : HasLeftBytes plan s (keeps a) a (journal_at images a) = bytes_left in one_list (journal_at images a) payloads own.payloads reads own.reads

    node_holds : is_node a ≡ true → without_marks bytes_left.payloads ≡ map draw_bytes (draws_of a run)
    node_holds node =
        let own : HasLeftBytes plan s (keeps a) a (journal_at images a) = bytes_left in
        own.holds ∙ sym (reopened_payloads plan is s keeps a known left.sound) ∙ draws_spelled a run node

    pub node_has : is_node a ≡ true → HasDraws plan (node_of a) bytes_left.payloads (draws_of a run)
    node_has node =
        let own : HasLeftBytes plan s (keeps a) a (journal_at images a) = bytes_left in
        has_draws plan (node_of a) own.payloads (draws_of a run) own.marks (node_holds node) (draws_known plan valid few_bodies a node run stands few_items).each

  -- ---- the journal of a node among them

  record IsOfNode (image : Image) : Type 0 where
    items : List NodePayload
    journal : IsNodeImage plan image items
    draws_are : draws_in items ≡ draws_of image.actor run

  node_image : (image : Image) → Contains images image → is_node image.actor ≡ true → IsOfNode image
  node_image image there node =
      let known : Contains (actors plan.topology) image.actor = left.are.known image there in
      let own : HasLeftBytes plan s (keeps image.actor) image.actor (journal_at images image.actor) = bytes_left image.actor known in
      let has : HasDraws plan (node_of image.actor) own.payloads (draws_of image.actor run) = node_has image.actor known node in
      record {
        items = has.items;
        journal =
            record {
              payloads = own.payloads;
              reads = subst (λ (bytes : List ℕ). Reads bytes own.payloads) (journal_is images image left.are.rise there) own.reads;
              journal = has.journal;
            };
        draws_are = has.draws_are;
      }

  pub nodes_left : NodesAreLeft plan images
  nodes_left image there node = let of : IsOfNode image = node_image image there node in (of.items, of.journal)

  -- ---- what they tell

  module _ (purpose : Purpose) (txn : ℕ) (stamp : Stamp) (drew : DrewStamp (cluster_of plan) run purpose txn stamp) where
    no_journal : journal_at images drew.actor ≡ 1 ∷ 0 ∷ [] → ⊥
    no_journal empty =
        let none : [] ≡ (bytes_left drew.actor drew.known).payloads =
        payloads_are drew.actor drew.known [] (subst (λ (bytes : List ℕ). Reads bytes []) (sym empty) empty_reads) in
        let draws : draws_of drew.actor run ≡ [] = no_draws (draws_of drew.actor run) (ap without_marks none ∙ node_holds drew.actor drew.known drew.node) in
        none_is_in drew.draw (subst (IsIn drew.draw) draws drew.there)

    by_journal : HasJournal images drew.actor → HasDrawn plan images stamp drew.draw
    by_journal (IsEmpty empty) = absurd (no_journal empty)
    by_journal (IsThere image there own bytes) =
        let among : Contains images image = IsIn-Contains image images there in
        let node : is_node image.actor ≡ true = ap is_node own ∙ drew.node in
        let of : IsOfNode image = node_image image among node in
        record {
          image = image;
          among = among;
          node = node;
          items = of.items;
          journal = of.journal;
          draws =
              subst (λ (l : List Draw). Contains l drew.draw) (ap (λ (b : Actor). draws_of b run) (sym own) ∙ sym of.draws_are)
              (IsIn-Contains drew.draw (draws_of drew.actor run) drew.there);
          stamp_is = drew.stamp_is ∙ ap (λ (b : Actor). record { h = drew.draw.h; origin = node_of b * 64 }) (sym own);
        }

    has_drawn : HasDrawn plan images stamp drew.draw
    has_drawn = by_journal (has_journal images drew.actor)

  pub begins_of : (x : TxnId) (txn : ℕ) → DrewStamp (cluster_of plan) run Begin txn x.0 → Begins plan images x txn
  begins_of x txn drew = record { draw = drew.draw; drawn = has_drawn Begin txn x.0 drew; begins = drew.purpose_is; number = drew.number }

  pub recovers_of : (b : Ballot) (txn : ℕ) → DrewStamp (cluster_of plan) run Recover txn b.0 → Recovers plan images b txn
  recovers_of b txn drew = record { draw = drew.draw; drawn = has_drawn Recover txn b.0 drew; recovers = drew.purpose_is; number = drew.number }
