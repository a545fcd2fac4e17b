-- A step is passed over exactly where it has a cause for that.
use Rattle.std.proofs.Common.{◌≡◌, ◌⊎◌, ℕ, suc, ◌<◌, ◌≤◌, nat_lt, Bool, true, false, not, ◌&&◌, List, [], ◌∷◌, length, Option, None, Some, inl, inr, refl, sym, ◌∙◌, ap, arith}
use Rattle.std.proofs.lemmas.Bool.{not-false, not-true}
use Rattle.std.proofs.lemmas.Bool.Decides.{nat_tests}
use Rattle.acc_base.specs.Faults.{or_else}
use Rattle.acc_stamp.specs.declared.actors.Actor.{Actor}
use Rattle.acc_stamp.specs.Actor.{actor_of}
use Rattle.acc_message.specs.declared.entry.Event.{Event}
use Rattle.acc_message.specs.declared.entry.Event.TheVariants.{Begin as BeginEvent, Recover as RecoverEvent, Slow as SlowEvent, Message as MessageEvent}
use Rattle.acc_message.specs.declared.item.Skip.{Skip}
use Rattle.acc_message.specs.declared.item.Skip.TheVariants.{NoMessage, Down as IsDown, Begun, Unknown}
use Rattle.acc_message.specs.declared.item.Item.{Item}
use Rattle.acc_message.specs.declared.item.Item.TheVariants.{Step as StepItem, Skipped, Down}
use Rattle.acc_message.specs.Items.{sent_of, is_begun, id_of_txn}
use Rattle.acc_message.specs.Run.{Cluster, is_down}
use Rattle.acc_run_laws.specs.Asks.{home_of_txn, skip_if, slow_skip}
use Rattle.acc_run_laws.proofs.AskFacts.{skip_if-none}
use Rattle.acc_schedule.specs.declared.plan.Step.{Step}
use Rattle.acc_schedule.specs.declared.plan.Step.TheVariants.{Begin, Deliver, Drop, Recover, Slow, Restart, Fail, Drain}
use Rattle.acc_actor_laws.proofs.Standing.{not_none}
use Rattle.acc_actor_laws.proofs.OpeningFacts.{some_is}
use Rattle.acc_schedule_runs.specs.Situations.{Situation, whole, receiver_in}
use Rattle.acc_schedule_runs.specs.Moves.{Answers, fails_in, with_item, is_journalled, tried_if, tried, stepped_unless, dropped_unless, down_skip, begin_skip, recover_skip, slowing_skip, message_skip, deliver_skip, restarted_if, Drains, stops, delivers, IsNext}
use Rattle.acc_schedule_runs.specs.Causes.{IsForDown, IsUp, IsForNoMessage, IsCause}

-- ---- the first cause

by_first : (o other : Option Skip) (cause : Skip) → o ≡ Some cause → or_else o other ≡ Some cause
by_first None other cause h = absurd (not_none cause h)
by_first (Some one) other cause h = h

by_second : (o other : Option Skip) (cause : Skip) → o ≡ None → other ≡ Some cause → or_else o other ≡ Some cause
by_second None other cause e h = h
by_second (Some one) other cause e h = absurd (not_none one (sym e))

one_of : (o other : Option Skip) (cause : Skip) → or_else o other ≡ Some cause → (o ≡ Some cause) ⊎ ((o ≡ None) × (other ≡ Some cause))
one_of None other cause h = inr (refl, h)
one_of (Some one) other cause h = inl h

skip_if-some : (test : Bool) (skip cause : Skip) → skip_if test skip ≡ Some cause → (test ≡ true) × (cause ≡ skip)
skip_if-some true skip cause h = (refl, sym (some_is skip cause h))
skip_if-some false skip cause h = absurd (not_none cause h)

is_skip_if : (test : Bool) (skip cause : Skip) → test ≡ true → cause ≡ skip → skip_if test skip ≡ Some cause
is_skip_if test skip cause t is = ap (λ b. skip_if b skip) t ∙ ap Some (sym is)

no_skip_if : (test : Bool) (skip : Skip) → test ≡ false → skip_if test skip ≡ None
no_skip_if test skip t = ap (λ b. skip_if b skip) t

below : {n k : ℕ} → nat_lt n k ≡ true → n < k
below h = grind (arith, nat_tests)

is_below : {n k : ℕ} → n < k → nat_lt n k ≡ true
is_below h = grind (arith, nat_tests)

not_below : {n k : ℕ} → nat_lt n k ≡ false → k ≤ n
not_below h = grind (arith, nat_tests)

is_not_below : {n k : ℕ} → k ≤ n → nat_lt n k ≡ false
is_not_below h = grind (arith, nat_tests)

-- ---- the rules as one function

abbrev skip_for : Cluster → Situation → Step → Option Skip
skip_for cluster s (Begin txn) = begin_skip cluster s txn
skip_for cluster s (Recover txn node) = recover_skip s txn node
skip_for cluster s (Slow txn) = slowing_skip cluster s txn
skip_for cluster s (Deliver message) = deliver_skip s message
skip_for cluster s (Drop message) = message_skip s message
skip_for cluster s (Restart actor choice) = None
skip_for cluster s (Fail actor calls) = None
skip_for cluster s Drain = None

module _ (s : Situation) where
  down_is : (a : Actor) (cause : Skip) → IsForDown s a cause → down_skip s a ≡ Some cause
  down_is a cause h = is_skip_if (is_down a (whole s)) (IsDown a) cause h.0 h.1

  is_for_down : (a : Actor) (cause : Skip) → down_skip s a ≡ Some cause → IsForDown s a cause
  is_for_down a cause h = skip_if-some (is_down a (whole s)) (IsDown a) cause h

  up_is : (a : Actor) → IsUp s a → down_skip s a ≡ None
  up_is a h = no_skip_if (is_down a (whole s)) (IsDown a) h

  is_up : (a : Actor) → down_skip s a ≡ None → IsUp s a
  is_up a h = skip_if-none (is_down a (whole s)) (IsDown a) h

  no_message_is : (message : ℕ) (cause : Skip) → IsForNoMessage s message cause → message_skip s message ≡ Some cause
  no_message_is message cause h = is_skip_if _ (NoMessage message (length (sent_of s.own))) cause (ap not (is_not_below h.0)) h.1

  is_for_no_message : (message : ℕ) (cause : Skip) → message_skip s message ≡ Some cause → IsForNoMessage s message cause
  is_for_no_message message cause h =
      let parts = skip_if-some (not (nat_lt message (length (sent_of s.own)))) (NoMessage message (length (sent_of s.own))) cause h in
      (not_below (not-true (nat_lt message (length (sent_of s.own))) parts.0), parts.1)

  sent_is : (message : ℕ) → message < length (sent_of s.own) → message_skip s message ≡ None
  sent_is message less = no_skip_if _ (NoMessage message (length (sent_of s.own))) (ap not (is_below less))

  is_sent : (message : ℕ) → message_skip s message ≡ None → message < length (sent_of s.own)
  is_sent message h =
      below (not-false (nat_lt message (length (sent_of s.own)))
      (skip_if-none (not (nat_lt message (length (sent_of s.own)))) (NoMessage message (length (sent_of s.own))) h))

skip_is : (cluster : Cluster) (s : Situation) (step : Step) (cause : Skip) → IsCause cluster s step cause → skip_for cluster s step ≡ Some cause
skip_is cluster s (Begin txn) cause (inl down) = by_first _ (skip_if (is_begun (whole s) txn) (Begun txn)) cause (down_is s (home_of_txn cluster txn) cause down)
skip_is cluster s (Begin txn) cause (inr h) =
    by_second (down_skip s (home_of_txn cluster txn)) _ cause (up_is s (home_of_txn cluster txn) h.0)
    (is_skip_if (is_begun (whole s) txn) (Begun txn) cause h.1 h.2)
skip_is cluster s (Recover txn node) cause (inl down) =
    by_first _ (skip_if (not (is_begun (whole s) txn)) (Unknown txn)) cause (down_is s (actor_of node 0) cause down)
skip_is cluster s (Recover txn node) cause (inr h) =
    by_second (down_skip s (actor_of node 0)) _ cause (up_is s (actor_of node 0) h.0)
    (is_skip_if (not (is_begun (whole s) txn)) (Unknown txn) cause (ap not h.1) h.2)
skip_is cluster s (Slow txn) cause (inl down) =
    by_first _ (slow_skip cluster (whole s) txn (id_of_txn (whole s) txn)) cause (down_is s (home_of_txn cluster txn) cause down)
skip_is cluster s (Slow txn) cause (inr h) =
    by_second (down_skip s (home_of_txn cluster txn)) _ cause (up_is s (home_of_txn cluster txn) h.0) h.1
skip_is cluster s (Deliver message) cause (inl none) = by_first _ (down_skip s (receiver_in s message)) cause (no_message_is s message cause none)
skip_is cluster s (Deliver message) cause (inr h) =
    by_second (message_skip s message) _ cause (sent_is s message h.0) (down_is s (receiver_in s message) cause h.1)
skip_is cluster s (Drop message) cause h = no_message_is s message cause h
skip_is cluster s (Restart actor choice) cause h = absurd h
skip_is cluster s (Fail actor calls) cause h = absurd h
skip_is cluster s Drain cause h = absurd h

cause_is : (cluster : Cluster) (s : Situation) (step : Step) (cause : Skip) → skip_for cluster s step ≡ Some cause → IsCause cluster s step cause
cause_is cluster s (Begin txn) cause h =
    by (one_of (down_skip s (home_of_txn cluster txn)) (skip_if (is_begun (whole s) txn) (Begun txn)) cause h)
  where
    by : (down_skip s (home_of_txn cluster txn) ≡ Some cause)
        ⊎ ((down_skip s (home_of_txn cluster txn) ≡ None) × (skip_if (is_begun (whole s) txn) (Begun txn) ≡ Some cause))
        → IsCause cluster s (Begin txn) cause
    by (inl down) = inl (is_for_down s (home_of_txn cluster txn) cause down)
    by (inr later) =
        let parts = skip_if-some (is_begun (whole s) txn) (Begun txn) cause later.1 in
        inr (is_up s (home_of_txn cluster txn) later.0, parts.0, parts.1)
cause_is cluster s (Recover txn node) cause h =
    by (one_of (down_skip s (actor_of node 0)) (skip_if (not (is_begun (whole s) txn)) (Unknown txn)) cause h)
  where
    by : (down_skip s (actor_of node 0) ≡ Some cause)
        ⊎ ((down_skip s (actor_of node 0) ≡ None) × (skip_if (not (is_begun (whole s) txn)) (Unknown txn) ≡ Some cause))
        → IsCause cluster s (Recover txn node) cause
    by (inl down) = inl (is_for_down s (actor_of node 0) cause down)
    by (inr later) =
        let parts = skip_if-some (not (is_begun (whole s) txn)) (Unknown txn) cause later.1 in
        inr (is_up s (actor_of node 0) later.0, not-true (is_begun (whole s) txn) parts.0, parts.1)
cause_is cluster s (Slow txn) cause h =
    by (one_of (down_skip s (home_of_txn cluster txn)) (slow_skip cluster (whole s) txn (id_of_txn (whole s) txn)) cause h)
  where
    by : (down_skip s (home_of_txn cluster txn) ≡ Some cause)
        ⊎ ((down_skip s (home_of_txn cluster txn) ≡ None) × (slow_skip cluster (whole s) txn (id_of_txn (whole s) txn) ≡ Some cause))
        → IsCause cluster s (Slow txn) cause
    by (inl down) = inl (is_for_down s (home_of_txn cluster txn) cause down)
    by (inr later) = inr (is_up s (home_of_txn cluster txn) later.0, later.1)
cause_is cluster s (Deliver message) cause h =
    by (one_of (message_skip s message) (down_skip s (receiver_in s message)) cause h)
  where
    by : (message_skip s message ≡ Some cause) ⊎ ((message_skip s message ≡ None) × (down_skip s (receiver_in s message) ≡ Some cause))
        → IsCause cluster s (Deliver message) cause
    by (inl none) = inl (is_for_no_message s message cause none)
    by (inr later) = inr (is_sent s message later.0, is_for_down s (receiver_in s message) cause later.1)
cause_is cluster s (Drop message) cause h = is_for_no_message s message cause h
cause_is cluster s (Restart actor choice) cause h = absurd (not_none cause h)
cause_is cluster s (Fail actor calls) cause h = absurd (not_none cause h)
cause_is cluster s Drain cause h = absurd (not_none cause h)

-- ---- what is entered

module _ (cluster : Cluster) (answers : Answers) (number : ℕ) where
  passes : (step : Step) (s next : Situation) (cause : Skip) → IsNext cluster answers number step s next → skip_for cluster s step ≡ Some cause
      → next ≡ with_item (Skipped number cause) s
  passes (Begin txn) s next cause is skip =
      is ∙ ap (λ o. stepped_unless o cluster answers number s (home_of_txn cluster txn) (BeginEvent txn)) skip
  passes (Recover txn node) s next cause is skip =
      is ∙ ap (λ o. stepped_unless o cluster answers number s (actor_of node 0) (RecoverEvent txn)) skip
  passes (Slow txn) s next cause is skip =
      is ∙ ap (λ o. stepped_unless o cluster answers number s (home_of_txn cluster txn) (SlowEvent txn)) skip
  passes (Deliver message) s next cause is skip =
      is ∙ ap (λ o. stepped_unless o cluster answers number s (receiver_in s message) (MessageEvent message)) skip
  passes (Drop message) s next cause is skip = is ∙ ap (λ o. dropped_unless o number s message) skip
  passes (Restart actor choice) s next cause is skip = absurd (not_none cause skip)
  passes (Fail actor calls) s next cause is skip = absurd (not_none cause skip)
  passes Drain s next cause is skip = absurd (not_none cause skip)

  -- ---- no skip is entered otherwise

  -- the cause of the newest item, if that is a skip
  abbrev newest : List Item → Option Skip
  newest [] = None
  newest (StepItem e ∷ items) = None
  newest (Skipped step cause ∷ items) = Some cause
  newest (Down actor ∷ items) = None

  tried_no_skip : (s : Situation) (a : Actor) (event : Event) → newest (tried cluster answers s a event).own ≡ None
  tried_no_skip s a event = by (is_journalled a event && fails_in answers s)
    where
      by : (test : Bool) → newest (tried_if test cluster s a event).own ≡ None
      by true = refl
      by false = refl

  stepped_skip : (o : Option Skip) (s : Situation) (a : Actor) (event : Event)
      → newest (stepped_unless o cluster answers number s a event).own ≡ o
  stepped_skip (Some cause) s a event = refl
  stepped_skip None s a event = tried_no_skip s a event

  restarted_no_skip : (fails : Bool) (s : Situation) (a : Actor) → newest (restarted_if fails cluster answers s a).own ≡ None
  restarted_no_skip true s a = refl
  restarted_no_skip false s a = refl

  drained_no_skip : (last s : Situation) → Drains cluster answers last s → newest s.own ≡ None → newest last.own ≡ None
  drained_no_skip last s (stops _ none is) h = ap (λ (t : Situation). newest t.own) is ∙ h
  drained_no_skip last s (delivers _ n oldest rest) h =
      drained_no_skip last (tried cluster answers s (receiver_in s n) (MessageEvent n)) rest (tried_no_skip s (receiver_in s n) (MessageEvent n))

  one_more : (item : Item) (items : List Item) → items ≡ item ∷ items → ⊥
  one_more item items is = longer (length items) (ap length is)
    where
      longer : (n : ℕ) → n ≡ suc n → ⊥
      longer n h = omega arith

  found : (o : Option Skip) (next s : Situation) (cause : Skip) → newest next.own ≡ o → next.own ≡ Skipped number cause ∷ s.own → o ≡ Some cause
  found o next s cause is h = sym is ∙ ap newest h

  module _ (s next : Situation) (cause : Skip) (h : next.own ≡ Skipped number cause ∷ s.own) where
    of_stepped : (o : Option Skip) (a : Actor) (event : Event) → next ≡ stepped_unless o cluster answers number s a event → o ≡ Some cause
    of_stepped o a event is = found o next s cause (ap (λ (t : Situation). newest t.own) is ∙ stepped_skip o s a event) h

    of_dropped : (o : Option Skip) (message : ℕ) → next ≡ dropped_unless o number s message → o ≡ Some cause
    of_dropped (Some other) message is = found (Some other) next s cause (ap (λ (t : Situation). newest t.own) is) h
    of_dropped None message is = absurd (one_more (Skipped number cause) s.own (sym (ap (λ (t : Situation). t.own) is) ∙ h))

    of_restarted : (a : Actor) (fails : Bool) → next ≡ restarted_if fails cluster answers s a → ⊥
    of_restarted a fails is =
        not_none cause (found None next s cause (ap (λ (t : Situation). newest t.own) is ∙ restarted_no_skip fails s a) h)

    of_same : next ≡ s → ⊥
    of_same is = one_more (Skipped number cause) s.own (sym (ap (λ (t : Situation). t.own) is) ∙ h)

    of_drained : (t : Situation) → t ≡ s → Drains cluster answers next t → ⊥
    of_drained t same (stops _ none is) = of_same (is ∙ same)
    of_drained t same (delivers _ n oldest rest) =
        not_none cause
        (found None next s cause
        (drained_no_skip next (tried cluster answers t (receiver_in t n) (MessageEvent n)) rest (tried_no_skip t (receiver_in t n) (MessageEvent n))) h)

  skips : (step : Step) (s next : Situation) (cause : Skip) → IsNext cluster answers number step s next
      → next.own ≡ Skipped number cause ∷ s.own → skip_for cluster s step ≡ Some cause
  skips (Begin txn) s next cause is h = of_stepped s next cause h (begin_skip cluster s txn) (home_of_txn cluster txn) (BeginEvent txn) is
  skips (Recover txn node) s next cause is h = of_stepped s next cause h (recover_skip s txn node) (actor_of node 0) (RecoverEvent txn) is
  skips (Slow txn) s next cause is h = of_stepped s next cause h (slowing_skip cluster s txn) (home_of_txn cluster txn) (SlowEvent txn) is
  skips (Deliver message) s next cause is h =
      of_stepped s next cause h (deliver_skip s message) (receiver_in s message) (MessageEvent message) is
  skips (Drop message) s next cause is h = of_dropped s next cause h (message_skip s message) message is
  skips (Restart actor choice) s next cause is h = absurd (of_restarted s next cause h actor (fails_in answers s) is)
  skips (Fail actor calls) s next cause is h = absurd (of_same s next cause h is)
  skips Drain s next cause drains h = absurd (of_drained s next cause h s refl drains)

pub passed_over : (cluster : Cluster) (answers : Answers) (number : ℕ) (step : Step) (s next : Situation) (cause : Skip)
    → IsNext cluster answers number step s next → IsCause cluster s step cause → next ≡ with_item (Skipped number cause) s
passed_over cluster answers number step s next cause is has = passes cluster answers number step s next cause is (skip_is cluster s step cause has)

pub only_for_causes : (cluster : Cluster) (answers : Answers) (number : ℕ) (step : Step) (s next : Situation) (cause : Skip)
    → IsNext cluster answers number step s next → next.own ≡ Skipped number cause ∷ s.own → IsCause cluster s step cause
only_for_causes cluster answers number step s next cause is h =
    cause_is cluster s step cause (skips cluster answers number step s next cause is h)
