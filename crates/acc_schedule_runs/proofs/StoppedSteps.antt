-- A step that a fault stopped can still be entered when its actor comes back: while the actor is down nothing takes that away.
use Rattle.std.proofs.Common.{◌≡◌, ℕ, zero, suc, Bool, true, false, not, cond, ◌||◌, List, [], ◌∷◌, ◌++◌, Option, None, Some, refl, sym, ◌∙◌, ap, subst, arith}
use Rattle.std.specs.List.{slice_get}
use Rattle.std.specs.Option.{option_map}
use Rattle.std.proofs.lemmas.Bool.{true≢false, and_from, or_left, or_right}
use Rattle.std.proofs.lemmas.Bool.Decides.{nat_tests}
use Rattle.acc_base.specs.Faults.{or_else}
use Rattle.acc_stamp.specs.declared.stamps.TxnId.{TxnId}
use Rattle.acc_stamp.specs.declared.actors.Actor.{Actor}
use Rattle.acc_stamp.specs.Actor.{actor_of}
use Rattle.acc_txn.specs.declared.parts.BodyParts.{BodyParts}
use Rattle.acc_message.specs.declared.message.Message.{Message}
use Rattle.acc_message.specs.declared.entry.Entry.{Entry}
use Rattle.acc_message.specs.declared.entry.Event.{Event}
use Rattle.acc_message.specs.declared.entry.Event.TheVariants.{Begin, Recover, Slow, Message as TakesMessage, Restart}
use Rattle.acc_message.specs.declared.item.Item.{Item}
use Rattle.acc_message.specs.declared.item.Item.TheVariants.{Step, Skipped, Down}
use Rattle.acc_message.specs.Items.{same_actor, sent_of, sent_in, event_begins, begins_txn, is_begun, id_begun, id_of_txn}
use Rattle.acc_message.specs.NodeRules.{Act, Takes}
use Rattle.acc_message.specs.Run.{Cluster, act_of, recovers, IsHomeOf, MayStand, StandsOn, Stands, kept_of, is_down}
use Rattle.acc_run_laws.specs.Asks.{emits_if, entry_at}
use Rattle.acc_run_laws.specs.AskLaws.{IsLostOf}
use Rattle.acc_actor_laws.proofs.Standing.{not_none}
use Rattle.acc_actor_laws.proofs.OpeningFacts.{some_is}
use Rattle.acc_safety.proofs.Bridge.{same_itself}
use Rattle.acc_schedule_runs.specs.Moves.{is_journalled}

-- the actor is down, and may take the event
pub record CanGoOn (cluster : Cluster) (items : List Item) (a : Actor) (event : Event) : Type 0 where
  pub down : is_down a items ≡ true
  pub journalled : is_journalled a event ≡ true
  pub act : Act
  pub act_is : act_of cluster items event ≡ Some act
  pub place : MayStand cluster items a act event

-- the item is no entry of the actor
abbrev pub is_other : Actor → Item → Bool
is_other a (Step e) = not (same_actor e.actor a)
is_other a (Skipped step cause) = true
is_other a (Down actor) = true

down_still : (a : Actor) (items : List Item) (item : Item) → is_other a item ≡ true → is_down a items ≡ true → is_down a (item ∷ items) ≡ true
down_still a items (Step e) other down = and_from _ _ down (or_left (not (same_actor e.actor a)) e.lost other)
down_still a items (Skipped step cause) other down = down
down_still a items (Down actor) other down = or_right (same_actor actor a) (is_down a items) down

-- ---- what it takes

recovers_still : (o other : Option TxnId) (body : Option BodyParts) (act : Act) → recovers o body ≡ Some act → recovers (or_else o other) body ≡ Some act
recovers_still None other body act h = absurd (not_none act h)
recovers_still (Some x) other body act h = h

takes_still : (ms more : List Message) (n : ℕ) (act : Act) → option_map Takes (slice_get ms n) ≡ Some act
    → option_map Takes (slice_get (ms ++ more) n) ≡ Some act
takes_still [] more n act h = absurd (not_none act h)
takes_still (m ∷ ms) more zero act h = h
takes_still (m ∷ ms) more (suc n) act h = takes_still ms more n act h

act_still : (cluster : Cluster) (items : List Item) (item : Item) (a : Actor) (act : Act) (event : Event) → is_journalled a event ≡ true
    → act_of cluster items event ≡ Some act → act_of cluster (item ∷ items) event ≡ Some act
act_still cluster items item a act (Begin txn) journalled h = h
act_still cluster items item a act (Recover txn) journalled h =
    recovers_still (id_of_txn items txn) (id_begun txn item) (slice_get cluster.bodies txn) act h
act_still cluster items item a act (Slow txn) journalled h = absurd (true≢false (sym journalled))
act_still cluster items item a act (TakesMessage number) journalled h = takes_still (sent_of items) (sent_in item) number act h
act_still cluster items item a act (Restart kept) journalled h = absurd (true≢false (sym journalled))

-- ---- where it stands

-- an entry of another actor doesn't begin what the actor is to begin
not_begun_by : (cluster : Cluster) (items : List Item) (e : Entry) (a : Actor) (txn : ℕ) → StandsOn cluster items e → not (same_actor e.actor a) ≡ true
    → IsHomeOf cluster txn a → event_begins txn e.event ≡ false
not_begun_by cluster items e a txn stands other home = by e.event refl
  where
    here : (number : ℕ) → e.event ≡ Begin number → (begins : Bool) → event_begins txn (Begin number) ≡ begins → begins ≡ false
    here number is false begins = refl
    here number is true begins =
        absurd (true≢false (sym other ∙ ap not (ap (λ b. same_actor b a) actor_is ∙ same_itself a)))
      where
        home_too : IsHomeOf cluster number e.actor
        home_too = (subst (λ event. MayStand cluster items e.actor stands.act event) is stands.place).0

        node_is : home_too.0 ≡ home.0
        node_is =
            some_is home_too.0 home.0
            (sym home_too.1 ∙ ap (slice_get cluster.homes) (number_is number txn begins) ∙ home.1)
          where
            number_is : (n k : ℕ) → event_begins k (Begin n) ≡ true → n ≡ k
            number_is n k h = grind (arith, nat_tests)

        actor_is : e.actor ≡ a
        actor_is = home_too.2 ∙ ap (λ node. actor_of node 0) node_is ∙ sym home.2

    by : (event : Event) → e.event ≡ event → event_begins txn event ≡ false
    by (Begin number) is = here number is (event_begins txn (Begin number)) refl
    by (Recover number) is = refl
    by (Slow number) is = refl
    by (TakesMessage number) is = refl
    by (Restart kept) is = refl

begins_not : (cluster : Cluster) (items : List Item) (item : Item) (a : Actor) (txn : ℕ) → Stands cluster items item → is_other a item ≡ true
    → IsHomeOf cluster txn a → begins_txn txn item ≡ false
begins_not cluster items (Step e) a txn stands other home = not_begun_by cluster items e a txn stands other home
begins_not cluster items (Skipped step cause) a txn stands other home = refl
begins_not cluster items (Down actor) a txn stands other home = refl

place_still : (cluster : Cluster) (items : List Item) (item : Item) (a : Actor) (act : Act) (event : Event) → Stands cluster items item
    → is_other a item ≡ true → is_journalled a event ≡ true → MayStand cluster items a act event → MayStand cluster (item ∷ items) a act event
place_still cluster items item a act (Begin txn) stands other journalled place =
    (place.0, ap (λ b. not (b || is_begun items txn)) (begins_not cluster items item a txn stands other place.0) ∙ place.1)
place_still cluster items item a act (Recover txn) stands other journalled place =
    (place.0, or_right (begins_txn txn item) (is_begun items txn) place.1)
place_still cluster items item a act (Slow txn) stands other journalled place = absurd (true≢false (sym journalled))
place_still cluster items item a act (TakesMessage number) stands other journalled place = place
place_still cluster items item a act (Restart kept) stands other journalled place = absurd (true≢false (sym journalled))

pub still : (cluster : Cluster) (items : List Item) (item : Item) (a : Actor) (event : Event) → Stands cluster items item → is_other a item ≡ true
    → CanGoOn cluster items a event → CanGoOn cluster (item ∷ items) a event
still cluster items item a event stands other h =
    record {
      down = down_still a items item other h.down;
      journalled = h.journalled;
      act = h.act;
      act_is = act_still cluster items item a h.act event h.journalled h.act_is;
      place = place_still cluster items item a h.act event stands other h.journalled h.place;
    }

-- a step that goes down with its actor
pub gone_down : (cluster : Cluster) (items : List Item) (a : Actor) (event : Event) → is_journalled a event ≡ true
    → StandsOn cluster items (entry_at cluster items a event) → CanGoOn cluster (Down a ∷ items) a event
gone_down cluster items a event journalled stands =
    record {
      down = or_left (same_actor a a) (is_down a items) (same_itself a);
      journalled = journalled;
      act = stands.act;
      act_is = act_still cluster items (Down a) a stands.act event journalled stands.act_is;
      place = place_still cluster items (Down a) a stands.act event tt refl journalled stands.place;
    }

-- a step that comes back is entered as lost
pub comes_back : (cluster : Cluster) (items : List Item) (a : Actor) (event : Event) → CanGoOn cluster items a event
    → IsLostOf cluster a items (record { actor = a; event = event; emitted = emits_if cluster items a (act_of cluster items event); lost = true })
comes_back cluster items a event h =
    record {
      stands = record { act = h.act; act_is = h.act_is; place = h.place; emitted = ap (emits_if cluster items a) h.act_is };
      actor_is = refl;
      lost = refl;
      kept_none = no_restart event h.journalled;
    }
  where
    no_restart : (event : Event) → is_journalled a event ≡ true → kept_of event ≡ 0
    no_restart (Begin txn) journalled = refl
    no_restart (Recover txn) journalled = refl
    no_restart (Slow txn) journalled = refl
    no_restart (TakesMessage number) journalled = refl
    no_restart (Restart kept) journalled = absurd (true≢false (sym journalled))
