-- A ballot other than zero is drawn before a message of it is sent.
use Rattle.std.proofs.Common.{◌≡◌, ℕ, true, false, List, [], ◌∷◌, refl, sym, ◌∙◌, ap, subst}
use Rattle.std.proofs.lemmas.Bool.{true≢false}
use Rattle.acc_stamp.specs.declared.stamps.TxnId.{TxnId}
use Rattle.acc_stamp.specs.declared.actors.Actor.{Actor}
use Rattle.acc_stamp.specs.Actor.{node_of}
use Rattle.acc_stamp.specs.Stamp.{ballot_eq, zero_ballot}
use Rattle.acc_stamp.proofs.Order.{ballot_order, eq_itself}
use Rattle.acc_txn.specs.declared.parts.BodyParts.{BodyParts}
use Rattle.acc_message.specs.declared.message.Message.{Message}
use Rattle.acc_message.specs.declared.entry.Emitted.{Emitted}
use Rattle.acc_message.specs.declared.item.Item.{Item}
use Rattle.acc_message.specs.declared.note.Note.TheVariants.{Recover as RecoverNote}
use Rattle.acc_message.specs.Fields.{from_of, id_of, ballot_of}
use Rattle.acc_message.specs.Taken.{Taken, taking}
use Rattle.acc_message.specs.StoreRules.{stable_ballots}
use Rattle.acc_message.specs.Attempts.{Attempt}
use Rattle.acc_message.specs.NodeRules.{Act, Recovers, Deed, next_ballot, node_emits}
use Rattle.acc_message.specs.Run.{Cluster, clock_start, deeds_of, taken_of, is_node, EachStands}
use Rattle.acc_safety.specs.Places.{IsIn, First, StandsAt, IsPast}
use Rattle.acc_safety.specs.Histories.{Sending, Noting, Sender, IsStore, IsNode}
use Rattle.acc_safety.specs.Attempted.{Origin, FromBegin, FromRecover}
use Rattle.acc_safety.specs.NodeMoves.{Move, Reacts, NodeSends, AsksForVotes, AsksForViews, Proposes, Commits as CommitsTo, Decides, Finishes, Informs}
use Rattle.acc_safety.specs.StoreSends.{StoreSends, Votes, Accepts, Commits, Reveals, ReadsAtOnce, ReadsOnOpening, Refuses, Tells}
use Rattle.acc_safety.proofs.PlaceOrder.{StandsAt-whole, StandsAt-IsPast}
use Rattle.acc_safety.proofs.Bridge.{node_step, each_emits, emits_at, sender, Noting-past}
use Rattle.acc_safety.proofs.Frame.{store_sent, node_sent, before_reacts, past_of}
use Rattle.acc_safety.proofs.Attempted.{origin_of}
use Rattle.acc_safety.proofs.Prefixes.{SentBefore, store_took_before}
use Rattle.acc_safety_laws.proofs.Recovered.{each_of_run}
use Rattle.acc_calm.proofs.ZeroBallots.{AskedWith, opening_asked}
use Rattle.acc_delivered.specs.Laws.{BallotsAreDrawn}

module _ (cluster : Cluster) (items : List Item) (h : EachStands cluster items) (a : Actor) (node : is_node a ≡ true) where
  abbrev start : ℕ
  start = clock_start cluster.starts (node_of a)

  -- a recover notes the ballot that it draws
  pub recover_noted : (deed : Deed) (past : List Deed) (x : TxnId) (body : BodyParts) → StandsAt deed past (deeds_of cluster a items) → deed.act ≡ Recovers x body
      → Noting items (RecoverNote x (next_ballot (node_of a) start past))
  recover_noted deed past x body at act_is =
      let n = node_step cluster a items h deed past at in
      record {
        entry = n.entry;
        earlier = n.earlier;
        at = n.at;
        noted =
            subst (λ (e : Emitted). IsIn (RecoverNote x (next_ballot (node_of a) start past)) e.notes)
            (sym (n.emitted_is ∙ emits_at cluster.layout (node_of a) start (deeds_of cluster a items) deed past (each_emits cluster a items h node) at
            ∙ ap (node_emits cluster.layout (node_of a) start past) act_is))
            (First (RecoverNote x (next_ballot (node_of a) start past)) []);
      }

  -- the ballot of an attempt was drawn, or is zero
  pub attempt_drawn : (past : List Deed) (x : TxnId) (at : Attempt) → IsPast past (deeds_of cluster a items) → Origin cluster.layout (node_of a) start x past at
      → ballot_eq at.ballot zero_ballot ≡ false → Noting items (RecoverNote x at.ballot)
  attempt_drawn past x at within (FromBegin txn deed before there act_is drawn of_zero) drew =
      absurd (true≢false (sym ((ballot_order.decides at.ballot zero_ballot).1 of_zero) ∙ drew))
  attempt_drawn past x at within (FromRecover deed before there act_is drawn) drew =
      subst (λ b. Noting items (RecoverNote x b)) (sym drawn)
      (recover_noted deed before x at.body (StandsAt-whole deed before past (deeds_of cluster a items) there within) act_is)

  moving_drawn : (past : List Deed) (x : TxnId) (act : Act) (at : Attempt) (move : Move) → IsPast past (deeds_of cluster a items)
      → Reacts cluster.layout (node_of a) start past x act at move → ballot_eq at.ballot zero_ballot ≡ false → Noting items (RecoverNote x at.ballot)
  moving_drawn past x act at move within reacts drew =
      let b = before_reacts cluster.layout (node_of a) start past x act at move reacts in
      subst (λ k. Noting items (RecoverNote x k)) b.same_ballot
      (attempt_drawn past x b.attempt within (origin_of cluster.layout (node_of a) start x past b.attempt b.is)
      (ap (λ k. ballot_eq k zero_ballot) b.same_ballot ∙ drew))

  node_drawn : (deed : Deed) (past : List Deed) (act : Act) (m : Message) → StandsAt deed past (deeds_of cluster a items) → deed.act ≡ act
      → NodeSends cluster.layout (node_of a) start past act m → ballot_eq (ballot_of m) zero_ballot ≡ false → Noting items (RecoverNote (id_of m) (ballot_of m))
  node_drawn deed past act m at act_is (AsksForVotes txn body store) drew = absurd (true≢false (sym (eq_itself ballot_order zero_ballot) ∙ drew))
  node_drawn deed past act m at act_is (AsksForViews x body store) drew = recover_noted deed past x body at act_is
  node_drawn deed past act m at act_is (Proposes on x k s store reacts) drew = moving_drawn past x on k _ (past_of deed past (deeds_of cluster a items) at) reacts drew
  node_drawn deed past act m at act_is (CommitsTo on x k s store reacts) drew = moving_drawn past x on k _ (past_of deed past (deeds_of cluster a items) at) reacts drew
  node_drawn deed past act m at act_is (Decides on x k path s store reacts noted) drew = moving_drawn past x on k _ (past_of deed past (deeds_of cluster a items) at) reacts drew
  node_drawn deed past act m at act_is (Finishes on x k s outcome store reacts) drew = moving_drawn past x on k _ (past_of deed past (deeds_of cluster a items) at) reacts drew
  node_drawn deed past act m at act_is (Informs on x k s outcome reacts) drew = moving_drawn past x on k _ (past_of deed past (deeds_of cluster a items) at) reacts drew

module _ (cluster : Cluster) (items : List Item) where
  IsDrawn : Message → Type 0
  IsDrawn m = ballot_eq (ballot_of m) zero_ballot ≡ false → Noting items (RecoverNote (id_of m) (ballot_of m))

  module _ (past : List Item) (within : IsPast past items) (h : EachStands cluster past) (before : (m : Message) → SentBefore past m → IsDrawn m) where
    store_drawn : (a : Actor) (step : Taken) (history : List Taken) → StandsAt step history (taken_of cluster a past) → (taken m : Message) → step.message ≡ taken
        → IsDrawn taken → StoreSends cluster.layout a history taken m → IsDrawn m
    unfolding IsDrawn
    store_drawn a step history at taken m is d (Votes from to x b body counting v s p k e) = d
    store_drawn a step history at taken m is d (Accepts from to x b body counting t proposed deps s p k e) = d
    store_drawn a step history at taken m is d (Commits from to x b body t deps s p) = d
    store_drawn a step history at taken m is d (Reveals from to x b body counting view p k e) = d
    store_drawn a step history at taken m is d (ReadsAtOnce from to x b body t deps answer p e) = d
    store_drawn a step history at taken m is d (ReadsOnOpening n c b answer among_before among opens there e) = asked_drawn
      where
        k : AskedWith c.id b (step ∷ history)
        k = opening_asked c.id b step history (subst (λ j. IsIn b (stable_ballots (taking j history) c.id)) (sym is) there)

        asked_drawn : IsDrawn m
        asked_drawn =
            subst IsDrawn k.message_is
            (before k.step.message
            (store_took_before cluster a past h k.step k.past
            (StandsAt-whole k.step k.past (step ∷ history) (taken_of cluster a past) k.at (StandsAt-IsPast step history (taken_of cluster a past) at))))
    store_drawn a step history at taken m is d (Refuses n promised e) = d
    store_drawn a step history at taken m is d (Tells n s e) = d

    drawn_step : (m : Message) → Sending past m → IsDrawn m
    unfolding IsDrawn
    drawn_step m s = by (sender cluster past m h s)
      where
        by : Sender cluster past m → IsDrawn m
        by (IsStore f) =
            store_drawn (from_of m) f.step f.past f.at f.step.message m refl (before f.step.message (store_took_before cluster (from_of m) past h f.step f.past f.at))
            (store_sent cluster past (from_of m) m h f)
        by (IsNode f) = λ drew.
            Noting-past past items (RecoverNote (id_of m) (ballot_of m)) within
            (node_drawn cluster past h (from_of m) f.is_node f.deed f.past f.deed.act m f.at refl (node_sent cluster past (from_of m) m h f) drew)

  pub ballots_are_drawn : EachStands cluster items → BallotsAreDrawn items
  unfolding IsDrawn
  ballots_are_drawn h m s = each_of_run cluster items IsDrawn drawn_step h m s
