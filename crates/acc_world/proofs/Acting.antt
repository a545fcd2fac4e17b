-- What an actor does that takes an event.
use Rattle.std.proofs.Common.{◌≡◌, ◌<◌, ◌^◌, ℕ, IsTrue, List, [], ◌∷◌, Option, None, Some, length, refl, sym, ◌∙◌, ap, subst}
use Rattle.std.specs.List.{slice_get, slice_index_or}
use Rattle.std.specs.Option.{option_map}
use Rattle.std.proofs.lemmas.Option.{slice_get_read}
use Rattle.acc_stamp.specs.declared.stamps.TxnId.{TxnId}
use Rattle.acc_stamp.specs.declared.actors.Actor.{Actor}
use Rattle.acc_stamp.specs.Actor.{node_of}
use Rattle.acc_stamp.specs.Clock.{ClockState}
use Rattle.acc_txn.specs.declared.parts.BodyParts.{BodyParts}
use Rattle.acc_message.specs.declared.message.Message.{Message}
use Rattle.acc_message.specs.declared.note.Note.{Note}
use Rattle.acc_message.specs.declared.entry.Emitted.{Emitted}
use Rattle.acc_message.specs.declared.entry.Event.{Event}
use Rattle.acc_message.specs.declared.entry.Event.TheVariants.{Message as MessageEvent, Restart as RestartEvent}
use Rattle.acc_message.specs.declared.item.Item.{Item}
use Rattle.acc_message.specs.Fields.{to_of}
use Rattle.acc_message.specs.VoteRule.{greatest_h}
use Rattle.acc_message.specs.Items.{message_at, id_of_txn}
use Rattle.acc_message.specs.NodeRules.{Act, Begins, Recovers, Slows, Takes, Restarts, Deed}
use Rattle.acc_message.specs.StoreRules.{store_answer, replay}
use Rattle.acc_message.specs.Coordinator.{silence}
use Rattle.acc_message.specs.Run.{Cluster, recovers, clock_start, deeds_of, emits, is_node, goes_to}
use Rattle.acc_actor_laws.proofs.Standing.{not_none}
use Rattle.acc_actor_laws.proofs.OpeningFacts.{some_is}
use Rattle.acc_safety.specs.RunLaws.{acts_done}
use Rattle.acc_safety.proofs.Bridge.{same}
use Rattle.acc_run_laws.specs.Calls.{IsDeliverable, replayed_steps}
use Rattle.acc_run_laws.proofs.Sendable.{node_meets, store_meets, is_deliverable}
use Rattle.acc_pasts.specs.Entries.{MayTake}
use Rattle.acc_pasts.proofs.Replayed.{node_emits_next, store_emits_next, restart_emits}
use Rattle.acc_pasts.proofs.Situations.{joined_alone}
use Rattle.acc_schedule_runs.specs.Situations.{whole}
use Rattle.acc_history.specs.declared.history.History.{History}
use Rattle.acc_record.specs.Stands.{IsFor}
use Rattle.acc_node.specs.declared.node.Node.{Node}
use Rattle.acc_node.specs.Stands as node
use Rattle.acc_store.specs.declared.store.Store.{Store}
use Rattle.acc_store.specs.Stands as store
use Rattle.acc_world.specs.declared.setup.Setup.{Setup}
use Rattle.acc_world.specs.declared.held.Held.{Held}
use Rattle.acc_world.specs.declared.held.Held.TheVariants.{Node as HeldNode, Store as HeldStore}
use Rattle.acc_world.specs.Held.{moment, cluster_of, HeldStands, IsAsked, HasTaken, past_of, restarted}

-- ---- what was read

pub read_is : {T : Type 0} (xs ys : List T) (i : ℕ) (x : T) → xs ≡ ys → i < length xs → x ≡ slice_index_or xs i x → slice_get ys i ≡ Some x
read_is xs ys i x same less is = subst (λ l. slice_get l i ≡ Some x) same (slice_get_read xs (length xs) i x refl less is)

pub begins_it : (txn : ℕ) (o : Option BodyParts) (body : BodyParts) (act : Act) → o ≡ Some body → option_map (Begins txn) o ≡ Some act → Begins txn body ≡ act
begins_it txn o body act has is = some_is (Begins txn body) act (sym (ap (option_map (Begins txn)) has) ∙ is)

pub recovers_it : (x : TxnId) (body : BodyParts) (i : Option TxnId) (o : Option BodyParts) (act : Act) → i ≡ Some x → o ≡ Some body → recovers i o ≡ Some act
    → Recovers x body ≡ act
recovers_it x body i o act found has is =
    some_is (Recovers x body) act (sym (ap (λ k. recovers k o) found ∙ ap (recovers (Some x)) has) ∙ is)

pub takes_it : (m : Message) (o : Option Message) (act : Act) → o ≡ Some m → option_map Takes o ≡ Some act → Takes m ≡ act
takes_it m o act has is = some_is (Takes m) act (sym (ap (option_map Takes) has) ∙ is)

taken_or : Message → Act → Message
taken_or m (Begins txn body) = m
taken_or m (Recovers id body) = m
taken_or m (Slows id) = m
taken_or m (Takes other) = other
taken_or m Restarts = m

message_found : (m : Message) (o : Option Message) → option_map Takes o ≡ Some (Takes m) → o ≡ Some m
unfolding taken_or
message_found m None is = absurd (not_none (Takes m) is)
message_found m (Some x) is = ap Some (ap (taken_or m) (some_is (Takes x) (Takes m) is))

-- the history's whole past are its items
pub id_known : (items : List Item) (txn : ℕ) (o : Option TxnId) → o ≡ id_of_txn (whole (past_of items)) txn → id_of_txn items txn ≡ o
id_known items txn o is = ap (λ l. id_of_txn l txn) (sym (joined_alone items)) ∙ sym is

-- ---- one actor

module _ (setup : Setup) (history : History) (a : Actor) (event : Event) (items earlier : List Item) (act : Act) where
  abbrev cluster : Cluster
  cluster = cluster_of setup

  abbrev start : ℕ
  start = clock_start setup.starts (node_of a)

  abbrev acts : List Act
  acts = acts_done (deeds_of cluster a earlier)

  pub as_act : (x : Act) (emitted : Emitted) (held : Held) → x ≡ act → MayTake cluster earlier a event act → emitted ≡ emits cluster earlier a x
      → HeldStands cluster a (record { act = x; emitted = emitted } ∷ deeds_of cluster a earlier) held → HasTaken cluster earlier a event act emitted held
  as_act x emitted held is may emits_it stands =
      record {
        may = may;
        emits_it = emits_it ∙ ap (emits cluster earlier a) is;
        stands = subst (λ (y : Act). HeldStands cluster a (record { act = y; emitted = emitted } ∷ deeds_of cluster a earlier) held) is stands;
      }

  pub node_took : (old new : Node) (x : Act) (emitted : Emitted) → x ≡ act → MayTake cluster earlier a event act
      → ((number start : ℕ) (acts : List Act) → node.StandsFor setup.topology number start old acts → node.Takes setup.topology number start new acts x emitted)
      → IsAsked setup history a event (HeldNode old) (moment items earlier) act → HasTaken cluster earlier a event act emitted (HeldNode new)
  node_took old new x emitted is may takes s =
      let took : node.Takes setup.topology (node_of a) start new acts x emitted = takes (node_of a) start acts s.stands.stands in
      as_act x emitted (HeldNode new) is may (took.emits ∙ sym (node_emits_next cluster earlier a x s.standing s.stands.kind))
      (record { kind = s.stands.kind; stands = took.stands })

  pub drawn_low : (n : Node) → IsAsked setup history a event (HeldNode n) (moment items earlier) act → n.clock.drawn < 2 ^ 62
  drawn_low n s =
      subst (λ (k : ClockState). k.drawn < 2 ^ 62) (sym s.stands.stands.clock_is) (node_meets cluster earlier a s.standing s.few s.stands.kind).drawn

  pub seen_low : (n : Node) → IsAsked setup history a event (HeldNode n) (moment items earlier) act → n.clock.seen < 2 ^ 62
  seen_low n s =
      subst (λ (k : ClockState). k.seen < 2 ^ 62) (sym s.stands.stands.clock_is) (node_meets cluster earlier a s.standing s.few s.stands.kind).seen

-- an actor that is a node or a store, by what it is
pub as_held : (setup : Setup) (history : History) (a : Actor) (event : Event) (held is : Held) (items earlier : List Item) (act : Act) → held ≡ is
    → IsAsked setup history a event held (moment items earlier) act → IsAsked setup history a event is (moment items earlier) act
as_held setup history a event held is items earlier act e s = subst (λ h. IsAsked setup history a event h (moment items earlier) act) e s

-- ---- a message

module _ (setup : Setup) (history : History) (a : Actor) (number : ℕ) (m : Message) (items earlier : List Item) (act : Act) where
  abbrev of : Cluster
  of = cluster_of setup

  module _ (held : Held) (found : Some m ≡ message_at items number) (s : IsAsked setup history a (MessageEvent number) held (moment items earlier) act) where
    pub taking : Takes m ≡ act
    taking = takes_it m (message_at items number) act (sym found) s.known

    there : message_at earlier number ≡ Some m
    there = message_found m (message_at earlier number) (s.may.act_is ∙ ap Some (sym taking))

    pub deliverable : IsDeliverable of earlier m
    deliverable = is_deliverable of earlier number m s.standing s.few there

    pub goes : to_of m ≡ a
    goes = same (to_of m) a (subst (λ (x : Act). IsTrue (goes_to a x)) (sym taking) s.may.place)

    pub may_take : MayTake of earlier a (MessageEvent number) act
    may_take = record { act_is = s.may.act_is; place = s.may.place }

  module _ (old : Store) (found : Some m ≡ message_at items number) (s : IsAsked setup history a (MessageEvent number) (HeldStore old) (moment items earlier) act) where
    abbrev messages : List Message
    messages = replayed_steps of a earlier

    pub is_for : IsFor (store.actor_of old) m
    is_for =
        record {
          goes_to = goes (HeldStore old) found s ∙ sym s.stands.actor;
          brings = (deliverable (HeldStore old) found s).brings (ap is_node (goes (HeldStore old) found s) ∙ s.stands.kind);
        }

    stands_own : store.StandsFor of.layout old (replay of.layout (store.actor_of old) messages)
    stands_own = subst (λ (x : Actor). store.StandsFor of.layout old (replay of.layout x messages)) (sym s.stands.actor) s.stands.stands

    pub standing_store : store.IsStanding setup.topology old
    standing_store = (messages, stands_own)

    pub greatest_low : store.greatest_in old < 2 ^ 62
    greatest_low =
        subst (λ n. n < 2 ^ 62)
        (sym (s.stands.stands.greatest ∙ ap (λ (x : Actor). greatest_h x (replay of.layout a messages)) s.stands.actor))
        (store_meets of earlier a s.standing s.few s.stands.kind).greatest

    pub store_took : (new : Store) (sent : List Message) (notes : List Note) → notes ≡ [] → store.Answers setup.topology old new m sent
        → HasTaken of earlier a (MessageEvent number) act (record { notes = notes; out = sent }) (HeldStore new)
    store_took new sent notes none answers =
        subst (λ (ns : List Note). HasTaken of earlier a (MessageEvent number) act (record { notes = ns; out = sent }) (HeldStore new)) (sym none)
        (as_act setup history a (MessageEvent number) items earlier act (Takes m) (record { notes = []; out = sent }) (HeldStore new)
        (taking (HeldStore old) found s) (may_take (HeldStore old) found s)
        (ap (λ out. record { notes = []; out = out })
        (answers.answers messages stands_own ∙ ap (λ (x : Actor). store_answer of.layout x (replay of.layout x messages) m) s.stands.actor)
        ∙ sym (store_emits_next of earlier a m s.standing s.stands.kind))
        (record {
          kind = s.stands.kind;
          actor = answers.actor ∙ s.stands.actor;
          stands = subst (λ (x : Actor). store.StandsFor of.layout new (replay of.layout x (m ∷ messages))) s.stands.actor (answers.stands messages stands_own);
        }))

-- ---- a restart

pub restarts : (setup : Setup) (history : History) (a : Actor) (kept : ℕ) (old new : Held) (items earlier : List Item) (act : Act)
    → IsAsked setup history a (RestartEvent kept) old (moment items earlier) act
    → ((cluster : Cluster) (a : Actor) (deeds : List Deed) → HeldStands cluster a deeds old → HeldStands cluster a (restarted ∷ deeds) new)
    → (emitted : Emitted) → emitted ≡ silence → HasTaken (cluster_of setup) earlier a (RestartEvent kept) act emitted new
restarts setup history a kept old new items earlier act s comes emitted none =
    let c = cluster_of setup in
    as_act setup history a (RestartEvent kept) items earlier act Restarts emitted new (some_is Restarts act s.may.act_is)
    (record { act_is = s.may.act_is; place = s.may.place }) (none ∙ sym (restart_emits c earlier a))
    (subst (λ (e : Emitted). HeldStands c a (record { act = Restarts; emitted = e } ∷ deeds_of c a earlier) new) (sym none) (comes c a (deeds_of c a earlier) s.stands))
