-- The histories of actors in a run: each step is what the rules say, and has its entry.
use Rattle.std.proofs.Common.{◌≡◌, ℕ, zero, suc, Bool, true, false, List, [], ◌∷◌, ◌++◌, Option, None, Some, IsTrue, refl, sym, ◌∙◌, ap, subst, ⊎_elim, ◌⊎◌, inl, inr, arith, ◌%◌, ◌/◌, ◌*◌, ◌+◌}
use Rattle.std.specs.List.{slice_get}
use Rattle.std.specs.Option.{option_map}
use Rattle.std.proofs.lemmas.Bool.{eqb-true, eq-eqb}
use Rattle.acc_stamp.specs.declared.stamps.TxnId.{TxnId}
use Rattle.acc_stamp.specs.declared.actors.Actor.{Actor}
use Rattle.acc_stamp.specs.Actor.{node_of, actor_of}
use Rattle.acc_topology.specs.Layout.{Layout}
use Rattle.acc_txn.specs.declared.parts.BodyParts.{BodyParts}
use Rattle.acc_message.specs.declared.message.Message.{Message}
use Rattle.acc_message.specs.declared.note.Note.{Note}
use Rattle.acc_message.specs.declared.entry.Emitted.{Emitted}
use Rattle.acc_message.specs.declared.entry.Entry.{Entry}
use Rattle.acc_message.specs.declared.entry.Event.{Event}
use Rattle.acc_message.specs.declared.entry.Event.TheVariants.{Begin, Recover, Slow, Message as TakesMessage, Restart}
use Rattle.acc_message.specs.declared.item.Item.{Item}
use Rattle.acc_message.specs.declared.item.Item.TheVariants.{Step, Skipped, Down}
use Rattle.acc_message.specs.Fields.{from_of, to_of}
use Rattle.acc_message.specs.Items.{same_actor, sent_in, sent_of, message_at, id_of_txn}
use Rattle.acc_message.specs.Taken.{Taken}
use Rattle.acc_message.specs.StoreRules.{store_answer}
use Rattle.acc_message.specs.NodeRules.{Act, Begins, Recovers, Slows, Takes, Restarts, Deed, node_emits}
use Rattle.acc_message.specs.Run.{Cluster, clock_start, act_of, recovers, deed_with, deed_if, deeds_in, deeds_of, taken_with, taken_from, taken_of, store_emits, is_node, emits_by, emits, goes_to, MayStand, StandsOn, EachStands}
use Rattle.acc_actor_laws.proofs.Standing.{not_none}
use Rattle.acc_actor_laws.proofs.OpeningFacts.{some_is}
use Rattle.acc_safety.specs.Places.{IsIn, First, Later, StandsAt, Here, Back, IsPast, Whole, Behind}
use Rattle.acc_safety.specs.Histories.{EachAnswers, EachEmits, Sending, Noting, StoreStep, NodeStep, TakenByNode, FromStore, FromNode, Sender, IsStore, IsNode, NotedBy}
use Rattle.acc_safety.specs.StoreSends.{StoreSends, Votes, Accepts, Commits, Reveals, ReadsAtOnce, ReadsOnOpening, Refuses, Tells}
use Rattle.acc_safety.specs.NodeMoves.{NodeSends, AsksForVotes, AsksForViews, Proposes, Commits as CommitsTo, Decides, Finishes, Informs}
use Rattle.acc_safety.proofs.PlaceOrder.{none_is_in, IsIn-append_cases, StandsAt-whole, StandsAt-IsPast, IsPast-rest}
use Rattle.acc_safety.proofs.StoreSent.{store_sends}
use Rattle.acc_safety.proofs.NodeSent.{node_sends}

-- ---- actors

pub same : (a b : Actor) → same_actor a b ≡ true → a ≡ b
same a b h = place (eqb-true a.0 b.0 h)
  where
    place : a.0 ≡ b.0 → a ≡ b
    place p = λ i. record { 0 = p i }

pub same_itself : (a : Actor) → same_actor a a ≡ true
same_itself a = eq-eqb a.0 a.0 refl

-- ---- places in the histories of pasts

pub EachStands-past : (cluster : Cluster) (past items : List Item) → IsPast past items → EachStands cluster items → EachStands cluster past
EachStands-past cluster past items (Whole xs) h = h
EachStands-past cluster past items (Behind y ys xs there) h = EachStands-past cluster ys xs there h.1

-- an entry of the items stands on those before it
pub stands_at : (cluster : Cluster) (items earlier : List Item) (e : Entry) → StandsAt (Step e) earlier items → EachStands cluster items
    → StandsOn cluster earlier e
stands_at cluster items earlier e at h = (EachStands-past cluster (Step e ∷ earlier) items (StandsAt-IsPast (Step e) earlier items at) h).0

pub EachAnswers-past : (layout : Layout) (own : Actor) (past history : List Taken) → IsPast past history → EachAnswers layout own history → EachAnswers layout own past
EachAnswers-past layout own past history (Whole xs) h = h
EachAnswers-past layout own past history (Behind y ys xs there) h = EachAnswers-past layout own ys xs there h.1

pub EachEmits-past : (layout : Layout) (node start : ℕ) (past deeds : List Deed) → IsPast past deeds → EachEmits layout node start deeds → EachEmits layout node start past
EachEmits-past layout node start past deeds (Whole xs) h = h
EachEmits-past layout node start past deeds (Behind y ys xs there) h = EachEmits-past layout node start ys xs there h.1

append_past : {T : Type 0} (front past xs : List T) → IsPast past xs → IsPast past (front ++ xs)
append_past [] past xs h = h
append_past (y ∷ front) past xs h = Behind y past (front ++ xs) (append_past front past xs h)

pub deeds_of-past : (cluster : Cluster) (a : Actor) (past items : List Item) → IsPast past items → IsPast (deeds_of cluster a past) (deeds_of cluster a items)
deeds_of-past cluster a past items (Whole xs) = Whole (deeds_of cluster a xs)
deeds_of-past cluster a past items (Behind y ys xs there) =
    append_past (deeds_in cluster a xs y) (deeds_of cluster a ys) (deeds_of cluster a xs) (deeds_of-past cluster a ys xs there)

taken_from-past : (past deeds : List Deed) → IsPast past deeds → IsPast (taken_from past) (taken_from deeds)
taken_from-past past deeds (Whole xs) = Whole (taken_from xs)
taken_from-past past deeds (Behind y ys xs there) =
    append_past (taken_with y.act y.emitted) (taken_from ys) (taken_from xs) (taken_from-past ys xs there)

pub taken_of-past : (cluster : Cluster) (a : Actor) (past items : List Item) → IsPast past items → IsPast (taken_of cluster a past) (taken_of cluster a items)
taken_of-past cluster a past items h = taken_from-past (deeds_of cluster a past) (deeds_of cluster a items) (deeds_of-past cluster a past items h)

pub Sending-past : (past items : List Item) (m : Message) → IsPast past items → Sending past m → Sending items m
Sending-past past items m h s = record { entry = s.entry; earlier = s.earlier; at = StandsAt-whole (Step s.entry) s.earlier past items s.at h; sent = s.sent }

pub Noting-past : (past items : List Item) (note : Note) → IsPast past items → Noting past note → Noting items note
Noting-past past items note h s = record { entry = s.entry; earlier = s.earlier; at = StandsAt-whole (Step s.entry) s.earlier past items s.at h; noted = s.noted }

-- ---- each deed has its entry

step_here : (cluster : Cluster) (a : Actor) (earlier : List Item) (e : Entry) (s : StandsOn cluster earlier e) → e.actor ≡ a
    → NodeStep cluster a (Step e ∷ earlier) (record { act = s.act; emitted = e.emitted }) (deeds_of cluster a earlier)
step_here cluster a earlier e s is =
    record {
      entry = e;
      earlier = earlier;
      at = Here (Step e) earlier;
      actor_is = is;
      past_is = refl;
      act_is = s.act_is;
      place = subst (λ b. MayStand cluster earlier b s.act e.event) is s.place;
      emitted_is = refl;
    }

step_back : (cluster : Cluster) (a : Actor) (item : Item) (earlier : List Item) (deed : Deed) (past : List Deed)
    → NodeStep cluster a earlier deed past → NodeStep cluster a (item ∷ earlier) deed past
step_back cluster a item earlier deed past n =
    record {
      entry = n.entry;
      earlier = n.earlier;
      at = Back (Step n.entry) item n.earlier earlier n.at;
      actor_is = n.actor_is;
      past_is = n.past_is;
      act_is = n.act_is;
      place = n.place;
      emitted_is = n.emitted_is;
    }

-- the newest deed, or an older one
first_or_back : (d deed : Deed) (past deeds : List Deed) → StandsAt d past (deed ∷ deeds) → ((d ≡ deed) × (past ≡ deeds)) ⊎ StandsAt d past deeds
first_or_back d deed past deeds (Here x rest) = inl (refl, refl)
first_or_back d deed past deeds (Back x y rest ys there) = inr there

entry_step : (cluster : Cluster) (a : Actor) (earlier : List Item) (e : Entry) → StandsOn cluster earlier e → (here : Bool) → same_actor e.actor a ≡ here
    → (deed : Deed) (past : List Deed) → StandsAt deed past (deed_if here cluster earlier e ++ deeds_of cluster a earlier)
    → (StandsAt deed past (deeds_of cluster a earlier) → NodeStep cluster a earlier deed past)
    → NodeStep cluster a (Step e ∷ earlier) deed past
entry_step cluster a earlier e s false is deed past at rest = step_back cluster a (Step e) earlier deed past (rest at)
entry_step cluster a earlier e s true is deed past at rest =
    ⊎_elim
    (λ first.
    subst (λ d. NodeStep cluster a (Step e ∷ earlier) d past) (sym first.0)
    (subst (λ p. NodeStep cluster a (Step e ∷ earlier) (record { act = s.act; emitted = e.emitted }) p) (sym first.1)
    (step_here cluster a earlier e s (same e.actor a is))))
    (λ back. step_back cluster a (Step e) earlier deed past (rest back))
    (first_or_back deed (record { act = s.act; emitted = e.emitted }) past (deeds_of cluster a earlier)
    (subst (λ o. StandsAt deed past (deed_with o e.emitted ++ deeds_of cluster a earlier)) s.act_is at))

pub node_step : (cluster : Cluster) (a : Actor) (items : List Item) → EachStands cluster items → (deed : Deed) (past : List Deed)
    → StandsAt deed past (deeds_of cluster a items) → NodeStep cluster a items deed past
node_step cluster a [] h deed past at = elim at [ ]
node_step cluster a (Step e ∷ earlier) h deed past at =
    entry_step cluster a earlier e h.0 (same_actor e.actor a) refl deed past at (node_step cluster a earlier h.1 deed past)
node_step cluster a (Skipped step cause ∷ earlier) h deed past at =
    step_back cluster a (Skipped step cause) earlier deed past (node_step cluster a earlier h.1 deed past at)
node_step cluster a (Down actor ∷ earlier) h deed past at =
    step_back cluster a (Down actor) earlier deed past (node_step cluster a earlier h.1 deed past at)

-- ---- each deed is what the rules say

-- the entry of a deed emits by the rules
emitted_by_rules : (cluster : Cluster) (a : Actor) (items : List Item) (deed : Deed) (past : List Deed) → EachStands cluster items
    → NodeStep cluster a items deed past → deed.emitted ≡ emits_by (is_node a) cluster a past deed.act
emitted_by_rules cluster a items deed past h n =
    let s : StandsOn cluster n.earlier n.entry = stands_at cluster items n.earlier n.entry n.at h in
    sym n.emitted_is ∙ s.emitted
    ∙ ap (λ act. emits cluster n.earlier n.entry.actor act) (some_is s.act deed.act (sym s.act_is ∙ n.act_is))
    ∙ ap (λ b. emits_by (is_node b) cluster b (deeds_of cluster b n.earlier) deed.act) n.actor_is
    ∙ ap (λ p. emits_by (is_node a) cluster a p deed.act) n.past_is

emits_each : (cluster : Cluster) (a : Actor) (items : List Item) → EachStands cluster items → is_node a ≡ true → (deeds : List Deed)
    → IsPast deeds (deeds_of cluster a items) → EachEmits cluster.layout (node_of a) (clock_start cluster.starts (node_of a)) deeds
emits_each cluster a items h node [] within = tt
emits_each cluster a items h node (deed ∷ past) within = (
  emitted_by_rules cluster a items deed past h (node_step cluster a items h deed past (StandsAt-whole deed past (deed ∷ past) (deeds_of cluster a items) (Here deed past) within))
      ∙ ap (λ b. emits_by b cluster a past deed.act) node,
  emits_each cluster a items h node past (IsPast-rest deed past (deeds_of cluster a items) within),
)

-- what a node did emits by the rules
pub each_emits : (cluster : Cluster) (a : Actor) (items : List Item) → EachStands cluster items → is_node a ≡ true
    → EachEmits cluster.layout (node_of a) (clock_start cluster.starts (node_of a)) (deeds_of cluster a items)
each_emits cluster a items h node = emits_each cluster a items h node (deeds_of cluster a items) (Whole (deeds_of cluster a items))

taken_answers : (cluster : Cluster) (a : Actor) (past : List Deed) (act : Act) (emitted : Emitted) → emitted ≡ emits_by false cluster a past act
    → EachAnswers cluster.layout a (taken_from past) → EachAnswers cluster.layout a (taken_with act emitted ++ taken_from past)
taken_answers cluster a past (Takes m) emitted is h = (ap (λ (e : Emitted). e.out) is, h)
taken_answers cluster a past (Begins txn body) emitted is h = h
taken_answers cluster a past (Recovers x body) emitted is h = h
taken_answers cluster a past (Slows x) emitted is h = h
taken_answers cluster a past Restarts emitted is h = h

answers_each : (cluster : Cluster) (a : Actor) (items : List Item) → EachStands cluster items → is_node a ≡ false → (deeds : List Deed)
    → IsPast deeds (deeds_of cluster a items) → EachAnswers cluster.layout a (taken_from deeds)
answers_each cluster a items h store [] within = tt
answers_each cluster a items h store (deed ∷ past) within =
    taken_answers cluster a past deed.act deed.emitted
    (emitted_by_rules cluster a items deed past h (node_step cluster a items h deed past (StandsAt-whole deed past (deed ∷ past) (deeds_of cluster a items) (Here deed past) within))
    ∙ ap (λ b. emits_by b cluster a past deed.act) store)
    (answers_each cluster a items h store past (IsPast-rest deed past (deeds_of cluster a items) within))

-- what a store took it answers by the rules
pub each_answers : (cluster : Cluster) (a : Actor) (items : List Item) → EachStands cluster items → is_node a ≡ false
    → EachAnswers cluster.layout a (taken_of cluster a items)
each_answers cluster a items h store = answers_each cluster a items h store (deeds_of cluster a items) (Whole (deeds_of cluster a items))

-- the answers of a step of a store
pub answers_at : (layout : Layout) (own : Actor) (history : List Taken) (step : Taken) (past : List Taken) → EachAnswers layout own history
    → StandsAt step past history → step.sent ≡ store_answer layout own past step.message
answers_at layout own history step past h at =
    (EachAnswers-past layout own (step ∷ past) history (StandsAt-IsPast step past history at) h).0

pub emits_at : (layout : Layout) (node start : ℕ) (deeds : List Deed) (deed : Deed) (past : List Deed) → EachEmits layout node start deeds
    → StandsAt deed past deeds → deed.emitted ≡ node_emits layout node start past deed.act
emits_at layout node start deeds deed past h at =
    (EachEmits-past layout node start (deed ∷ past) deeds (StandsAt-IsPast deed past deeds at) h).0

-- ---- messages that were taken

get-IsIn : (ms : List Message) (number : ℕ) (m : Message) → slice_get ms number ≡ Some m → IsIn m ms
get-IsIn [] number m e = absurd (not_none m e)
get-IsIn (n ∷ ms) zero m e = subst (λ k. IsIn k (n ∷ ms)) (some_is n m e) (First n ms)
get-IsIn (n ∷ ms) (suc number) m e = Later m n ms (get-IsIn ms number m e)

sending_back : (item : Item) (earlier : List Item) (m : Message) → Sending earlier m → Sending (item ∷ earlier) m
sending_back item earlier m s = Sending-past earlier (item ∷ earlier) m (Behind item earlier earlier (Whole earlier)) s

sending_here : (item : Item) (earlier : List Item) (m : Message) → IsIn m (sent_in item) → Sending (item ∷ earlier) m
sending_here (Step e) earlier m h = record { entry = e; earlier = earlier; at = Here (Step e) earlier; sent = h }
sending_here (Skipped step cause) earlier m h = absurd (none_is_in m h)
sending_here (Down actor) earlier m h = absurd (none_is_in m h)

pub sent_is_sending : (items : List Item) (m : Message) → IsIn m (sent_of items) → Sending items m
sent_is_sending [] m h = absurd (none_is_in m h)
sent_is_sending (item ∷ earlier) m h =
    ⊎_elim (λ old. sending_back item earlier m (sent_is_sending earlier m old)) (sending_here item earlier m)
    (IsIn-append_cases m (sent_of earlier) (sent_in item) h)

-- an actor takes a message that was sent to it
takes_sent : (earlier : List Item) (a : Actor) (m : Message) (o : Option Message) → (number : ℕ) → message_at earlier number ≡ o
    → option_map Takes o ≡ Some (Takes m) → IsTrue (goes_to a (Takes m)) → TakenByNode earlier a m
takes_sent earlier a m None number is act to = absurd (not_none (Takes m) act)
takes_sent earlier a m (Some n) number is act to =
    record {
      sending = sent_is_sending earlier m (get-IsIn (sent_of earlier) number m (is ∙ ap Some (taken_same n m (some_is (Takes n) (Takes m) act))));
      addressed = same (to_of m) a to;
    }
  where
    taken_same : (n m : Message) → Takes n ≡ Takes m → n ≡ m
    taken_same n m e = cc

recovers_takes : (m : Message) (x : Option TxnId) (body : Option BodyParts) → recovers x body ≡ Some (Takes m) → ⊥
recovers_takes m None body e = not_none (Takes m) e
recovers_takes m (Some x) None e = not_none (Takes m) e
recovers_takes m (Some x) (Some body) e = cc

begins_takes : (m : Message) (txn : ℕ) (body : Option BodyParts) → option_map (Begins txn) body ≡ Some (Takes m) → ⊥
begins_takes m txn None e = not_none (Takes m) e
begins_takes m txn (Some body) e = cc

slows_takes : (m : Message) (x : Option TxnId) → option_map Slows x ≡ Some (Takes m) → ⊥
slows_takes m None e = not_none (Takes m) e
slows_takes m (Some x) e = cc

event_taken : (cluster : Cluster) (earlier : List Item) (a : Actor) (m : Message) (event : Event) → act_of cluster earlier event ≡ Some (Takes m)
    → MayStand cluster earlier a (Takes m) event → TakenByNode earlier a m
event_taken cluster earlier a m (TakesMessage number) is place = takes_sent earlier a m (message_at earlier number) number refl is place
event_taken cluster earlier a m (Begin txn) is place = absurd (begins_takes m txn (slice_get cluster.bodies txn) is)
event_taken cluster earlier a m (Recover txn) is place = absurd (recovers_takes m (id_of_txn earlier txn) (slice_get cluster.bodies txn) is)
event_taken cluster earlier a m (Slow txn) is place = absurd (slows_takes m (id_of_txn earlier txn) is)
event_taken cluster earlier a m (Restart kept) is place = absurd (restarts_takes is)
  where
    restarts_takes : Some Restarts ≡ Some (Takes m) → ⊥
    restarts_takes e = cc

-- what an actor took was sent to it by an earlier entry
pub taken_was_sent : (cluster : Cluster) (a : Actor) (items : List Item) (deed : Deed) (past : List Deed) (m : Message)
    → (n : NodeStep cluster a items deed past) → deed.act ≡ Takes m → TakenByNode n.earlier a m
taken_was_sent cluster a items deed past m n is =
    event_taken cluster n.earlier a m n.entry.event (n.act_is ∙ ap Some is)
    (subst (λ act. MayStand cluster n.earlier a act n.entry.event) is n.place)

-- ---- a store's steps

-- the deed of a store's step
pub record TakingDeed (deeds : List Deed) (step : Taken) (past : List Taken) : Type 0 where
  pub deed : Deed
  pub before : List Deed
  pub at : StandsAt deed before deeds
  pub act_is : deed.act ≡ Takes step.message
  pub out_is : deed.emitted.out ≡ step.sent
  pub past_is : taken_from before ≡ past

deed_back : (d : Deed) (deeds : List Deed) (step : Taken) (past : List Taken) → TakingDeed deeds step past → TakingDeed (d ∷ deeds) step past
deed_back d deeds step past t =
    record { deed = t.deed; before = t.before; at = Back t.deed d t.before deeds t.at; act_is = t.act_is; out_is = t.out_is; past_is = t.past_is }

taken_first : (m : Message) (emitted : Emitted) (deeds : List Deed) (step : Taken) (past : List Taken)
    → StandsAt step past (record { message = m; sent = emitted.out } ∷ taken_from deeds)
    → (StandsAt step past (taken_from deeds) → TakingDeed deeds step past)
    → TakingDeed (record { act = Takes m; emitted = emitted } ∷ deeds) step past
taken_first m emitted deeds step past (Here s rest) k =
    record { deed = record { act = Takes m; emitted = emitted }; before = deeds; at = Here _ deeds; act_is = refl; out_is = refl; past_is = refl }
taken_first m emitted deeds step past (Back s t rest others there) k = deed_back (record { act = Takes m; emitted = emitted }) deeds s rest (k there)

taken_by : (act : Act) (emitted : Emitted) (deeds : List Deed) (step : Taken) (past : List Taken)
    → StandsAt step past (taken_with act emitted ++ taken_from deeds)
    → (StandsAt step past (taken_from deeds) → TakingDeed deeds step past)
    → TakingDeed (record { act = act; emitted = emitted } ∷ deeds) step past
taken_by (Takes m) emitted deeds step past at k = taken_first m emitted deeds step past at k
taken_by (Begins txn body) emitted deeds step past at k = deed_back (record { act = Begins txn body; emitted = emitted }) deeds step past (k at)
taken_by (Recovers x body) emitted deeds step past at k = deed_back (record { act = Recovers x body; emitted = emitted }) deeds step past (k at)
taken_by (Slows x) emitted deeds step past at k = deed_back (record { act = Slows x; emitted = emitted }) deeds step past (k at)
taken_by Restarts emitted deeds step past at k = deed_back (record { act = Restarts; emitted = emitted }) deeds step past (k at)

pub taking_deed : (deeds : List Deed) (step : Taken) (past : List Taken) → StandsAt step past (taken_from deeds) → TakingDeed deeds step past
taking_deed [] step past at = elim at [ ]
taking_deed (deed ∷ deeds) step past at = taken_by deed.act deed.emitted deeds step past at (taking_deed deeds step past)

pub store_step : (cluster : Cluster) (a : Actor) (items : List Item) → EachStands cluster items → (step : Taken) (past : List Taken)
    → StandsAt step past (taken_of cluster a items) → StoreStep cluster a items step past
store_step cluster a items h step past at =
    let t = taking_deed (deeds_of cluster a items) step past at in
    let n = node_step cluster a items h t.deed t.before t.at in
    let was = taken_was_sent cluster a items t.deed t.before step.message n t.act_is in
    record {
      entry = n.entry;
      earlier = n.earlier;
      at = n.at;
      actor_is = n.actor_is;
      past_is = ap taken_from n.past_is ∙ t.past_is;
      sending = was.sending;
      addressed = was.addressed;
      out_is = ap (λ (e : Emitted). e.out) n.emitted_is ∙ t.out_is;
    }

-- ---- who sent a message

-- the deed of an entry
deed_at : (cluster : Cluster) (items earlier : List Item) (e : Entry) (act : Act) → StandsAt (Step e) earlier items → act_of cluster earlier e.event ≡ Some act
    → StandsAt (record { act = act; emitted = e.emitted }) (deeds_of cluster e.actor earlier) (deeds_of cluster e.actor items)
deed_at cluster items earlier e act at is =
    StandsAt-whole (record { act = act; emitted = e.emitted }) (deeds_of cluster e.actor earlier) (deeds_of cluster e.actor (Step e ∷ earlier)) (deeds_of cluster e.actor items)
    (subst (λ b. StandsAt (record { act = act; emitted = e.emitted }) (deeds_of cluster e.actor earlier) (deed_if b cluster earlier e ++ deeds_of cluster e.actor earlier))
    (sym (same_itself e.actor))
    (subst (λ o. StandsAt (record { act = act; emitted = e.emitted }) (deeds_of cluster e.actor earlier) (deed_with o e.emitted ++ deeds_of cluster e.actor earlier))
    (sym is) (Here (record { act = act; emitted = e.emitted }) (deeds_of cluster e.actor earlier))))
    (deeds_of-past cluster e.actor (Step e ∷ earlier) items (StandsAt-IsPast (Step e) earlier items at))

-- a store that sends something takes a message in that step
taken_there : (act : Act) (emitted : Emitted) (deeds before : List Deed) (m : Message) (cluster : Cluster) (a : Actor)
    → StandsAt (record { act = act; emitted = emitted }) before deeds → emitted ≡ emits_by false cluster a before act → IsIn m emitted.out
    → (step : Taken) × (past : List Taken) × StandsAt step past (taken_from deeds) × IsIn m step.sent
taken_there (Takes n) emitted deeds before m cluster a at is sent = (
  record { message = n; sent = emitted.out },
  taken_from before,
  StandsAt-whole (record { message = n; sent = emitted.out }) (taken_from before) (taken_from (record { act = Takes n; emitted = emitted } ∷ before)) (taken_from deeds)
      (Here (record { message = n; sent = emitted.out }) (taken_from before))
      (taken_from-past (record { act = Takes n; emitted = emitted } ∷ before) deeds (StandsAt-IsPast (record { act = Takes n; emitted = emitted }) before deeds at)),
  sent,
)
taken_there (Begins txn body) emitted deeds before m cluster a at is sent = absurd (none_is_in m (subst (λ (e : Emitted). IsIn m e.out) is sent))
taken_there (Recovers x body) emitted deeds before m cluster a at is sent = absurd (none_is_in m (subst (λ (e : Emitted). IsIn m e.out) is sent))
taken_there (Slows x) emitted deeds before m cluster a at is sent = absurd (none_is_in m (subst (λ (e : Emitted). IsIn m e.out) is sent))
taken_there Restarts emitted deeds before m cluster a at is sent = absurd (none_is_in m (subst (λ (e : Emitted). IsIn m e.out) is sent))

store_from : (layout : Layout) (own : Actor) (past : List Taken) (taken m : Message) → StoreSends layout own past taken m → from_of m ≡ own
store_from layout own past taken m (Votes from to x b body counting v s p k e) = refl
store_from layout own past taken m (Accepts from to x b body counting t proposed deps s p k e) = refl
store_from layout own past taken m (Commits from to x b body t deps s p) = refl
store_from layout own past taken m (Reveals from to x b body counting view p k e) = refl
store_from layout own past taken m (ReadsAtOnce from to x b body t deps answer p e) = refl
store_from layout own past taken m (ReadsOnOpening n c b answer before among opens there e) = refl
store_from layout own past taken m (Refuses n promised e) = refl
store_from layout own past taken m (Tells n s e) = refl

node_from : (layout : Layout) (node start : ℕ) (past : List Deed) (act : Act) (m : Message) → NodeSends layout node start past act m → from_of m ≡ actor_of node 0
node_from layout node start past act m (AsksForVotes txn body store) = refl
node_from layout node start past act m (AsksForViews x body store) = refl
node_from layout node start past act m (Proposes on x a s store r) = refl
node_from layout node start past act m (CommitsTo on x a s store r) = refl
node_from layout node start past act m (Decides on x a path s store r noted) = refl
node_from layout node start past act m (Finishes on x a s outcome store r) = refl
node_from layout node start past act m (Informs on x a s outcome r) = refl

-- a node is the actor of its number
pub node_is_actor : (a : Actor) → is_node a ≡ true → actor_of (node_of a) 0 ≡ a
node_is_actor a h = place (number (eqb-true (a.0 % 64) 0 h))
  where
    number : a.0 % 64 ≡ 0 → a.0 / 64 * 64 + 0 ≡ a.0
    number e = omega arith

    place : a.0 / 64 * 64 + 0 ≡ a.0 → actor_of (node_of a) 0 ≡ a
    place p = λ i. record { 0 = p i }

from_entry : (cluster : Cluster) (items : List Item) (m : Message) → EachStands cluster items → (s : Sending items m) (kind : Bool)
    → is_node s.entry.actor ≡ kind → Sender cluster items m
from_entry cluster items m h s kind is = by kind is
  where
    a : Actor
    a = s.entry.actor

    on : StandsOn cluster s.earlier s.entry
    on = stands_at cluster items s.earlier s.entry s.at h

    at : StandsAt (record { act = on.act; emitted = s.entry.emitted }) (deeds_of cluster a s.earlier) (deeds_of cluster a items)
    at = deed_at cluster items s.earlier s.entry on.act s.at on.act_is

    as_store : is_node a ≡ false → FromStore cluster items a m
    as_store store =
        let t = taken_there on.act s.entry.emitted (deeds_of cluster a items) (deeds_of cluster a s.earlier) m cluster a at
        (on.emitted ∙ ap (λ b. emits_by b cluster a (deeds_of cluster a s.earlier) on.act) store) s.sent in
        record { is_store = store; step = t.0; past = t.1; at = t.2; sent = t.3 }

    from_store : (f : FromStore cluster items a m) → from_of m ≡ a
    from_store f =
        store_from cluster.layout a f.past f.step.message m
        (store_sends cluster.layout a f.past f.step.message m
        (subst (λ out. IsIn m out) (answers_at cluster.layout a (taken_of cluster a items) f.step f.past (each_answers cluster a items h f.is_store) f.at) f.sent))

    as_node : is_node a ≡ true → FromNode cluster items a m
    as_node node = record { is_node = node; deed = record { act = on.act; emitted = s.entry.emitted }; past = deeds_of cluster a s.earlier; at = at; sent = s.sent }

    from_node : (f : FromNode cluster items a m) → from_of m ≡ a
    from_node f =
        node_from cluster.layout (node_of a) (clock_start cluster.starts (node_of a)) f.past f.deed.act m
        (node_sends cluster.layout (node_of a) (clock_start cluster.starts (node_of a)) f.past f.deed.act m
        (subst (λ (e : Emitted). IsIn m e.out) (emits_at cluster.layout (node_of a) (clock_start cluster.starts (node_of a)) (deeds_of cluster a items) f.deed f.past (each_emits cluster a items h f.is_node) f.at) f.sent))
        ∙ node_is_actor a f.is_node

    by : (kind : Bool) → is_node a ≡ kind → Sender cluster items m
    by false store = let f = as_store store in IsStore (subst (λ b. FromStore cluster items b m) (sym (from_store f)) f)
    by true node = let f = as_node node in IsNode (subst (λ b. FromNode cluster items b m) (sym (from_node f)) f)

-- every message was sent by its sender, a store or a node
pub sender : (cluster : Cluster) (items : List Item) (m : Message) → EachStands cluster items → Sending items m → Sender cluster items m
sender cluster items m h s = from_entry cluster items m h s (is_node s.entry.actor) refl

-- ---- who made a note

store_notes_nothing : (act : Act) (layout : Layout) (a : Actor) (past : List Taken) (note : Note) → IsIn note (store_emits layout a past act).notes → ⊥
store_notes_nothing (Takes m) layout a past note h = none_is_in note h
store_notes_nothing (Begins txn body) layout a past note h = none_is_in note h
store_notes_nothing (Recovers x body) layout a past note h = none_is_in note h
store_notes_nothing (Slows x) layout a past note h = none_is_in note h
store_notes_nothing Restarts layout a past note h = none_is_in note h

-- a store makes no note
pub store_made_none : (cluster : Cluster) (items earlier : List Item) (e : Entry) (note : Note) → EachStands cluster items → StandsAt (Step e) earlier items
    → IsIn note e.emitted.notes → is_node e.actor ≡ false → ⊥
store_made_none cluster items earlier e note h at noted store =
    let on = stands_at cluster items earlier e at h in
    store_notes_nothing on.act cluster.layout e.actor (taken_from (deeds_of cluster e.actor earlier)) note
    (subst (λ (m : Emitted). IsIn note m.notes) (on.emitted ∙ ap (λ b. emits_by b cluster e.actor (deeds_of cluster e.actor earlier) on.act) store) noted)

note_by : (cluster : Cluster) (items : List Item) (note : Note) → EachStands cluster items → (s : Noting items note) (kind : Bool)
    → is_node s.entry.actor ≡ kind → NotedBy cluster items note
note_by cluster items note h s false store = absurd (store_made_none cluster items s.earlier s.entry note h s.at s.noted store)
note_by cluster items note h s true node =
    let on = stands_at cluster items s.earlier s.entry s.at h in
    record {
      actor = s.entry.actor;
      is_node = node;
      deed = record { act = on.act; emitted = s.entry.emitted };
      past = deeds_of cluster s.entry.actor s.earlier;
      at = deed_at cluster items s.earlier s.entry on.act s.at on.act_is;
      noted = s.noted;
    }

-- every note was made by a node
pub noted_by : (cluster : Cluster) (items : List Item) (note : Note) → EachStands cluster items → Noting items note → NotedBy cluster items note
noted_by cluster items note h s = note_by cluster items note h s (is_node s.entry.actor) refl
