-- A transaction that no command that went by begins isn't begun.
use Rattle.std.proofs.Common.{◌≡◌, ℕ, ◌==◌, Bool, true, false, ◌||◌, List, Option, None, Some, refl, sym, ◌∙◌, ap, subst, eqb-true}
use Rattle.std.specs.List.{slice_get, list_any}
use Rattle.std.proofs.lemmas.Bool.{true≢false}
use Rattle.acc_stamp.specs.declared.actors.Actor.{Actor}
use Rattle.acc_stamp.specs.Actor.{actor_of}
use Rattle.acc_message.specs.declared.entry.Event.{Event}
use Rattle.acc_message.specs.declared.entry.Event.TheVariants.{Begin as BeginEvent, Recover as RecoverEvent, Slow as SlowEvent, Message as MessageEvent, Restart as RestartEvent}
use Rattle.acc_message.specs.declared.item.Item.{Item}
use Rattle.acc_message.specs.declared.item.Item.TheVariants.{Step as StepItem, Skipped, Down}
use Rattle.acc_message.specs.Items.{same_actor, event_begins, begins_txn, is_begun}
use Rattle.acc_message.specs.Run.{Cluster, MayStand, Stands, EachStands}
use Rattle.acc_payloads.specs.Items.{is_item_of}
use Rattle.acc_safety.proofs.Bridge.{same_itself}
use Rattle.acc_schedule.specs.declared.plan.Step.{Step}
use Rattle.acc_schedule.specs.declared.plan.Step.TheVariants.{Begin, Deliver, Drop, Recover, Slow, Restart, Fail, Drain}
use Rattle.acc_free_laws.specs.Commands.{is_event_of, is_message}
use Rattle.acc_free_laws.specs.Turns.{Went, begins, aside, delivered, took, came_up, stopped, stayed, went_down, kept, kept_message, passed}
use Rattle.acc_desk.specs.Commands.{begins_it}

none_first : (a b : Bool) → (a || b) ≡ false → a ≡ false
none_first true b e = e
none_first false b e = refl

none_later : (a b : Bool) → (a || b) ≡ false → b ≡ false
none_later true b e = absurd (true≢false e)
none_later false b e = e

-- an event that begins the transaction is of a command that does
event_is_no_begin : (txn : ℕ) (command : Step) (event : Event) → is_event_of command event ≡ true → begins_it txn command ≡ false → event_begins txn event ≡ false
event_is_no_begin txn (Begin n) (BeginEvent number) is none = ap (λ k. k == txn) (sym (eqb-true n number is)) ∙ none
event_is_no_begin txn command (RecoverEvent number) is none = refl
event_is_no_begin txn command (SlowEvent number) is none = refl
event_is_no_begin txn command (MessageEvent number) is none = refl
event_is_no_begin txn command (RestartEvent number) is none = refl
event_is_no_begin txn (Deliver n) (BeginEvent number) is none = absurd (true≢false (sym is))
event_is_no_begin txn (Drop n) (BeginEvent number) is none = absurd (true≢false (sym is))
event_is_no_begin txn (Recover n node) (BeginEvent number) is none = absurd (true≢false (sym is))
event_is_no_begin txn (Slow n) (BeginEvent number) is none = absurd (true≢false (sym is))
event_is_no_begin txn (Restart n choice) (BeginEvent number) is none = absurd (true≢false (sym is))
event_is_no_begin txn (Fail n calls) (BeginEvent number) is none = absurd (true≢false (sym is))
event_is_no_begin txn Drain (BeginEvent number) is none = absurd (true≢false (sym is))

message_is_no_begin : (txn : ℕ) (event : Event) → is_message event ≡ true → event_begins txn event ≡ false
message_is_no_begin txn (BeginEvent n) is = absurd (true≢false (sym is))
message_is_no_begin txn (RecoverEvent n) is = refl
message_is_no_begin txn (SlowEvent n) is = refl
message_is_no_begin txn (MessageEvent n) is = refl
message_is_no_begin txn (RestartEvent n) is = refl

module _ (a : Actor) (txn : ℕ) where
  -- the command whose turn entered the last down went by
  stop_none : (items : List Item) (gone : List Step) (stop : Option Step) → Went a items gone stop → list_any (begins_it txn) gone ≡ false → (command : Step) → stop ≡ Some command → begins_it txn command ≡ false
  stop_none _ _ _ begins none command is = absurd (cc)
  stop_none _ _ _ (aside item items gone stop apart went) none command is = stop_none items gone stop went none command is
  stop_none _ _ _ (delivered e items gone stop one went) none command is = stop_none items gone stop went none command is
  stop_none _ _ _ (took e one items gone stop taken other went) none command is = stop_none items gone stop went (none_later (begins_it txn one) _ none) command is
  stop_none _ _ _ (came_up e one items gone stop taken other went) none command is = absurd (cc)
  stop_none _ _ _ (stopped actor one items gone stop own other before went) none command is = let same : one ≡ command = cc in ap (begins_it txn) (sym same) ∙ none_first (begins_it txn one) _ none
  stop_none _ _ _ (stayed actor one items gone stop own other went) none command is = stop_none items gone stop went (none_later (begins_it txn one) _ none) command is
  stop_none _ _ _ (went_down actor items gone stop own before went) none command is = absurd (cc)
  stop_none _ _ _ (kept e one items gone taken went) none command is = absurd (cc)
  stop_none _ _ _ (kept_message e items gone one went) none command is = absurd (cc)
  stop_none _ _ _ (passed one items gone stop is_passed went) none command is = stop_none items gone stop went (none_later (begins_it txn one) _ none) command is

  module _ (cluster : Cluster) (home : ℕ) (home_is : slice_get cluster.homes txn ≡ Some home) (actor_is : a ≡ actor_of home 0) where
    -- only the home begins it
    other_begins_not : (earlier : List Item) (item : Item) → is_item_of a item ≡ false → Stands cluster earlier item → begins_txn txn item ≡ false
    other_begins_not earlier (Skipped step cause) apart stands = refl
    other_begins_not earlier (Down actor) apart stands = refl
    other_begins_not earlier (StepItem e) apart stands = by e.event (event_begins txn e.event) refl refl
      where
        by : (event : Event) (t : Bool) → e.event ≡ event → event_begins txn event ≡ t → event_begins txn e.event ≡ false
        by event false is found = ap (event_begins txn) is ∙ found
        by (BeginEvent n) true is found =
            let same : n ≡ txn = eqb-true n txn found in
            let place : MayStand cluster earlier e.actor stands.act (BeginEvent txn) = subst (λ event. MayStand cluster earlier e.actor stands.act event) (is ∙ ap BeginEvent same) stands.place in
            let node : place.0.0 ≡ home = (let s : Some place.0.0 ≡ Some home = sym place.0.1 ∙ home_is in cc) in
            let own : e.actor ≡ a = place.0.2 ∙ ap (λ k. actor_of k 0) node ∙ sym actor_is in
            absurd (true≢false (sym (ap (λ b. same_actor b a) own ∙ same_itself a) ∙ apart))
        by (RecoverEvent n) true is found = absurd (true≢false (sym found))
        by (SlowEvent n) true is found = absurd (true≢false (sym found))
        by (MessageEvent n) true is found = absurd (true≢false (sym found))
        by (RestartEvent n) true is found = absurd (true≢false (sym found))

    both : (x y : Bool) → x ≡ false → y ≡ false → (x || y) ≡ false
    both x y p q = (λ i. p i || q i)

    pub unbegun : (items : List Item) (gone : List Step) (stop : Option Step) → Went a items gone stop → EachStands cluster items → list_any (begins_it txn) gone ≡ false → is_begun items txn ≡ false
    unbegun _ _ _ begins stands none = refl
    unbegun _ _ _ (aside item items gone stop apart went) stands none = both (begins_txn txn item) _ (other_begins_not items item apart stands.0) (unbegun items gone stop went stands.1 none)
    unbegun _ _ _ (delivered e items gone stop one went) stands none = both (event_begins txn e.event) _ (message_is_no_begin txn e.event one.1) (unbegun items gone stop went stands.1 none)
    unbegun _ _ _ (took e one items gone stop taken other went) stands none =
        both (event_begins txn e.event) _ (event_is_no_begin txn one e.event taken.1 (none_first (begins_it txn one) _ none)) (unbegun items gone stop went stands.1 (none_later (begins_it txn one) _ none))
    unbegun _ _ _ (came_up e one items gone stop taken other went) stands none =
        both (event_begins txn e.event) _ (event_is_no_begin txn one e.event taken.1 (none_first (begins_it txn one) _ none)) (unbegun items gone stop went stands.1 (none_later (begins_it txn one) _ none))
    unbegun _ _ _ (stopped actor one items gone stop own other before went) stands none = unbegun items gone stop went stands.1 (none_later (begins_it txn one) _ none)
    unbegun _ _ _ (stayed actor one items gone stop own other went) stands none = unbegun items gone stop went stands.1 (none_later (begins_it txn one) _ none)
    unbegun _ _ _ (went_down actor items gone stop own before went) stands none = unbegun items gone stop went stands.1 none
    unbegun _ _ _ (kept e one items gone taken went) stands none =
        both (event_begins txn e.event) _ (event_is_no_begin txn one e.event taken.1 (stop_none items gone (Some one) went none one refl)) (unbegun items gone (Some one) went stands.1 none)
    unbegun _ _ _ (kept_message e items gone one went) stands none = both (event_begins txn e.event) _ (message_is_no_begin txn e.event one.1) (unbegun items gone None went stands.1 none)
    unbegun _ _ _ (passed one items gone stop is_passed went) stands none = unbegun items gone stop went stands (none_later (begins_it txn one) _ none)
