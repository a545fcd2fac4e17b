-- In a calm run each message that was sent is taken where it goes to, and actors only begin and take messages.
use Rattle.std.proofs.Common.{◌≡◌, ℕ, zero, suc, ◌<◌, Bool, true, List, [], ◌∷◌, ◌++◌, length, Option, None, Some, refl, sym, ◌∙◌, ap, subst, arith}
use Rattle.std.specs.List.{slice_get, list_all}
use Rattle.std.specs.Option.{option_map}
use Rattle.std.proofs.lemmas.Bool.{true≢false, and_parts, eqb-true}
use Rattle.acc_stamp.specs.declared.actors.Actor.{Actor}
use Rattle.acc_txn.specs.declared.parts.BodyParts.{BodyParts}
use Rattle.acc_message.specs.declared.message.Message.{Message}
use Rattle.acc_message.specs.declared.entry.Entry.{Entry}
use Rattle.acc_message.specs.declared.entry.Event.{Event}
use Rattle.acc_message.specs.declared.entry.Event.TheVariants.{Begin, Recover, Slow, Message as TakesMessage, Restart}
use Rattle.acc_message.specs.declared.item.Item.{Item}
use Rattle.acc_message.specs.declared.item.Item.TheVariants.{Step, Skipped, Down}
use Rattle.acc_message.specs.Fields.{to_of}
use Rattle.acc_message.specs.Items.{sent_in, sent_of, message_at}
use Rattle.acc_message.specs.Taken.{Taken}
use Rattle.acc_message.specs.NodeRules.{Act, Begins, Recovers, Slows, Takes, Restarts, Deed}
use Rattle.acc_message.specs.Run.{Cluster, act_of, deed_with, deed_if, deeds_of, taken_with, taken_from, goes_to, MayStand, StandsOn, EachStands}
use Rattle.acc_actor_laws.proofs.Standing.{not_none}
use Rattle.acc_actor_laws.proofs.OpeningFacts.{some_is}
use Rattle.acc_safety.specs.Calm.{is_calm_event, is_calm_item, event_takes, item_takes, IsCalm}
use Rattle.acc_safety.specs.Places.{IsIn, First, Later, StandsAt, Here, Back, IsPast, Whole, Behind}
use Rattle.acc_safety.specs.Histories.{Sending}
use Rattle.acc_safety.specs.Attempted.{Took}
use Rattle.acc_safety.proofs.PlaceOrder.{passing, StandsAt-IsIn, StandsAt-whole, StandsAt-IsPast, IsPast-rest}
use Rattle.acc_safety.proofs.Bridge.{same, same_itself, stands_at, node_step, deeds_of-past}
use Rattle.acc_safety_laws.proofs.Parts.{sending_is_sent}

-- ---- lists

pub place_of : {T : Type 0} (x : T) (xs : List T) → IsIn x xs → (past : List T) × StandsAt x past xs
place_of x xs (First y ys) = (ys, Here y ys)
place_of x xs (Later y z ys there) = let at = place_of y ys there in (at.0, Back y z at.0 ys at.1)

pub all_in : {T : Type 0} (test : T → Bool) (xs : List T) (x : T) → list_all test xs ≡ true → IsIn x xs → test x ≡ true
all_in test xs x h (First y ys) = (and_parts (test y) (list_all test ys) h).0
all_in test xs x h (Later y z ys there) = all_in test ys y (and_parts (test z) (list_all test ys) h).1 there

pub numbered : (m : Message) (ms : List Message) → IsIn m ms → (n : ℕ) × ((slice_get ms n ≡ Some m) × (n < length ms))
numbered m ms (First k ks) = (0, (refl, omega arith))
numbered m ms (Later k j ks there) = let rest = numbered k ks there in (suc rest.0, (rest.1.0, omega (arith, rest.1.1)))

pub get-more : (ms more : List Message) (n : ℕ) (m : Message) → slice_get ms n ≡ Some m → slice_get (ms ++ more) n ≡ Some m
get-more [] more n m is = absurd (not_none m is)
get-more (k ∷ ms) more zero m is = is
get-more (k ∷ ms) more (suc n) m is = get-more ms more n m is

pub get-past : (earlier items : List Item) (n : ℕ) (m : Message) → IsPast earlier items → message_at earlier n ≡ Some m → message_at items n ≡ Some m
get-past earlier items n m (Whole xs) is = is
get-past earlier items n m (Behind y ys xs there) is = get-more (sent_of xs) (sent_in y) n m (get-past ys xs n m there is)

-- ---- the entry that takes a message

pub taking_event : (n : ℕ) (event : Event) → event_takes n event ≡ true → event ≡ TakesMessage n
taking_event n (TakesMessage k) h = ap TakesMessage (eqb-true k n h)
taking_event n (Begin txn) h = absurd (true≢false (sym h))
taking_event n (Recover txn) h = absurd (true≢false (sym h))
taking_event n (Slow txn) h = absurd (true≢false (sym h))
taking_event n (Restart kept) h = absurd (true≢false (sym h))

pub record TakingItem (n : ℕ) (item : Item) : Type 0 where
  pub entry : Entry
  pub is : item ≡ Step entry
  pub takes : entry.event ≡ TakesMessage n

pub taking_item : (n : ℕ) (item : Item) → item_takes n item ≡ true → TakingItem n item
taking_item n (Step e) h = record { entry = e; is = refl; takes = taking_event n e.event h }
taking_item n (Skipped step cause) h = absurd (true≢false (sym h))
taking_item n (Down actor) h = absurd (true≢false (sym h))

pub mapped : (o : Option Message) (act : Act) → option_map Takes o ≡ Some act → (m : Message) × ((o ≡ Some m) × (act ≡ Takes m))
mapped None act is = absurd (not_none act is)
mapped (Some m) act is = (m, (refl, sym (some_is (Takes m) act is)))

-- a begin, or a message that is taken
abbrev pub IsCalmAct : Act → Type 0
IsCalmAct (Begins txn body) = Unit {0}
IsCalmAct (Recovers x body) = ⊥
IsCalmAct (Slows x) = ⊥
IsCalmAct (Takes m) = Unit {0}
IsCalmAct Restarts = ⊥

-- the deed of an entry
pub entry_deed : (cluster : Cluster) (items earlier : List Item) (e : Entry) (act : Act) → StandsAt (Step e) earlier items → act_of cluster earlier e.event ≡ Some act
    → StandsAt (record { act = act; emitted = e.emitted }) (deeds_of cluster e.actor earlier) (deeds_of cluster e.actor items)
entry_deed cluster items earlier e act at is =
    StandsAt-whole (record { act = act; emitted = e.emitted }) (deeds_of cluster e.actor earlier) (deeds_of cluster e.actor (Step e ∷ earlier)) (deeds_of cluster e.actor items)
    (subst (λ b. StandsAt (record { act = act; emitted = e.emitted }) (deeds_of cluster e.actor earlier) (deed_if b cluster earlier e ++ deeds_of cluster e.actor earlier))
    (sym (same_itself e.actor))
    (subst (λ o. StandsAt (record { act = act; emitted = e.emitted }) (deeds_of cluster e.actor earlier) (deed_with o e.emitted ++ deeds_of cluster e.actor earlier))
    (sym is) (Here (record { act = act; emitted = e.emitted }) (deeds_of cluster e.actor earlier))))
    (deeds_of-past cluster e.actor (Step e ∷ earlier) items (StandsAt-IsPast (Step e) earlier items at))

module _ (cluster : Cluster) (items : List Item) (h : EachStands cluster items) (calm : IsCalm items) where
  took_by : (m : Message) (n : ℕ) (e : Entry) (earlier : List Item) → message_at items n ≡ Some m → e.event ≡ TakesMessage n
      → StandsAt (Step e) earlier items → Took (deeds_of cluster (to_of m) items) m
  took_by m n e earlier is takes at =
      let on : StandsOn cluster earlier e = stands_at cluster items earlier e at h in
      let found = mapped (message_at earlier n) on.act (subst (λ event. act_of cluster earlier event ≡ Some on.act) takes on.act_is) in
      let same_message : found.0 ≡ m =
      some_is found.0 m (sym (get-past earlier items n found.0 (IsPast-rest (Step e) earlier items (StandsAt-IsPast (Step e) earlier items at)) found.1.0) ∙ is) in
      let act_is : on.act ≡ Takes m = found.1.1 ∙ ap Takes same_message in
      let to : goes_to e.actor on.act ≡ true = subst (λ event. MayStand cluster earlier e.actor on.act event) takes on.place in
      let there : e.actor ≡ to_of m = sym (same (to_of m) e.actor (subst (λ act. goes_to e.actor act ≡ true) act_is to)) in
      subst (λ a. Took (deeds_of cluster a items) m) there
      (record {
        deed = record { act = on.act; emitted = e.emitted };
        past = deeds_of cluster e.actor earlier;
        at = entry_deed cluster items earlier e on.act at on.act_is;
        act_is = act_is;
      })

  -- what was sent was taken
  pub delivered : (m : Message) → Sending items m → Took (deeds_of cluster (to_of m) items) m
  delivered m s =
      let n = numbered m (sent_of items) (sending_is_sent items m s) in
      let p = passing (item_takes n.0) items (calm.taken n.0 n.1.1) in
      let t = taking_item n.0 p.element p.passes in
      let at = place_of p.element items p.there in
      took_by m n.0 t.entry at.0 n.1.0 t.takes (subst (λ i. StandsAt i at.0 items) t.is at.1)

  -- ---- acts

  calm_act : (earlier : List Item) (event : Event) (act : Act) → is_calm_event event ≡ true → act_of cluster earlier event ≡ Some act → IsCalmAct act
  calm_act earlier (Begin txn) act c is = begun_act (slice_get cluster.bodies txn) is
    where
      begun_act : (o : Option BodyParts) → option_map (Begins txn) o ≡ Some act → IsCalmAct act
      begun_act None e = absurd (not_none act e)
      begun_act (Some body) e = subst IsCalmAct (some_is (Begins txn body) act e) tt
  calm_act earlier (TakesMessage number) act c is = subst IsCalmAct (sym (mapped (message_at earlier number) act is).1.1) tt
  calm_act earlier (Recover txn) act c is = absurd (true≢false (sym c))
  calm_act earlier (Slow txn) act c is = absurd (true≢false (sym c))
  calm_act earlier (Restart kept) act c is = absurd (true≢false (sym c))

  pub acts_are_calm : (a : Actor) (deed : Deed) (past : List Deed) → StandsAt deed past (deeds_of cluster a items) → IsCalmAct deed.act
  acts_are_calm a deed past at =
      let n = node_step cluster a items h deed past at in
      calm_act n.earlier n.entry.event deed.act (all_in is_calm_item items (Step n.entry) calm.events (StandsAt-IsIn (Step n.entry) n.earlier items n.at)) n.act_is

-- ---- what a store took

module _ (m : Message) where
  -- a step of a store that takes the message
  pub record TookStep (history : List Taken) : Type 0 where
    pub step : Taken
    pub past : List Taken
    pub at : StandsAt step past history
    pub message_is : step.message ≡ m

  behind : (front history : List Taken) → TookStep history → TookStep (front ++ history)
  behind [] history t = t
  behind (s ∷ front) history t =
      let rest = behind front history t in
      record { step = rest.step; past = rest.past; at = Back rest.step s rest.past (front ++ history) rest.at; message_is = rest.message_is }

  step_at : (deed : Deed) (past deeds : List Deed) → StandsAt deed past deeds → deed.act ≡ Takes m → TookStep (taken_from deeds)
  step_at deed past deeds (Here d rest) is =
      subst (λ act. TookStep (taken_with act d.emitted ++ taken_from rest)) (sym is)
      (record { step = record { message = m; sent = d.emitted.out }; past = taken_from rest; at = Here (record { message = m; sent = d.emitted.out }) (taken_from rest); message_is = refl })
  step_at deed past deeds (Back d e rest others there) is = behind (taken_with e.act e.emitted) (taken_from others) (step_at d rest others there is)

pub took_step : (m : Message) (deeds : List Deed) → Took deeds m → TookStep m (taken_from deeds)
took_step m deeds t = step_at m t.deed t.past deeds t.at t.act_is
