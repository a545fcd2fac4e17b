-- What steps of a schedule do to a situation: what stood before stays, items are added, and only messages that were sent are dropped.
use Rattle.std.proofs.Common.{◌≡◌, ℕ, ◌+◌, ◌<◌, Bool, true, false, not, ◌&&◌, List, [], ◌∷◌, length, Option, None, Some, refl, sym, ◌∙◌, ap, subst, arith, ⊎_elim}
use Rattle.std.specs.Prelude.{nat_lt, ◌==◌}
use Rattle.std.proofs.lemmas.Bool.{or_cases, eqb-true}
use Rattle.std.proofs.lemmas.List.{length-append}
use Rattle.acc_stamp.specs.declared.actors.Actor.{Actor}
use Rattle.acc_topology.specs.Sets.{is_among}
use Rattle.acc_message.specs.declared.entry.Event.{Event}
use Rattle.acc_message.specs.declared.entry.Event.TheVariants.{Message as TakesMessage}
use Rattle.acc_message.specs.declared.item.Item.{Item}
use Rattle.acc_message.specs.declared.item.Skip.{Skip}
use Rattle.acc_message.specs.declared.item.Skip.TheVariants.{NoMessage}
use Rattle.acc_message.specs.Items.{sent_in, sent_of}
use Rattle.acc_message.specs.Run.{Cluster}
use Rattle.acc_safety.specs.Places.{IsPast, Whole, Behind}
use Rattle.acc_safety.proofs.PlaceOrder.{IsPast-trans}
use Rattle.acc_run_laws.specs.Asks.{skip_if}
use Rattle.acc_schedule.specs.declared.plan.Step.{Step}
use Rattle.acc_schedule.specs.declared.plan.Step.TheVariants.{Begin, Deliver, Drop, Recover, Slow, Restart, Fail, Drain}
use Rattle.acc_schedule_runs.specs.Situations.{Situation, receiver_in}
use Rattle.acc_schedule_runs.specs.Moves.{Answers, with_item, entered, entered_all, stopped_by, tried_if, tried, stepped_unless, begin_skip, recover_skip, slowing_skip, message_skip, deliver_skip, dropped_unless, with_kept, reopened, restarted_if, kept_if, fails_in, is_journalled, Drains, stops, delivers, IsNext}
use Rattle.acc_schedule_runs.specs.Schedules.{Follows}

-- ---- one step

pub record GoesTo (s next : Situation) : Type 0 where
  pub earlier_is : next.earlier ≡ s.earlier
  pub grows : IsPast s.own next.own
  pub drops :
      ((n : ℕ) → is_among s.dropped n ≡ true → n < length (sent_of s.own))
      → (n : ℕ) → is_among next.dropped n ≡ true → n < length (sent_of next.own)

pub stays_there : (s : Situation) → GoesTo s s
stays_there s = record { earlier_is = refl; grows = Whole s.own; drops = λ known. known }

pub goes_trans : (s between next : Situation) → GoesTo s between → GoesTo between next → GoesTo s next
goes_trans s between next one two =
    record {
      earlier_is = two.earlier_is ∙ one.earlier_is;
      grows = IsPast-trans s.own between.own next.own one.grows two.grows;
      drops = λ known. two.drops (one.drops known);
    }

more_sent : (item : Item) (own : List Item) (n : ℕ) → n < length (sent_of own) → n < length (sent_of (item ∷ own))
more_sent item own n h = omega (arith, h, length-append (sent_of own) (sent_in item))

-- an item more, and the rest as before
goes_by : (s next : Situation) (item : Item) → next.earlier ≡ s.earlier → next.dropped ≡ s.dropped → next.own ≡ item ∷ s.own → GoesTo s next
goes_by s next item earlier dropped own =
    record {
      earlier_is = earlier;
      grows = subst (IsPast s.own) (sym own) (Behind item s.own s.own (Whole s.own));
      drops = λ known n h.
          subst (λ l. n < length (sent_of l)) (sym own) (more_sent item s.own n (known n (subst (λ l. is_among l n ≡ true) dropped h)));
    }

pub tried_goes : (cluster : Cluster) (fails : Bool) (s : Situation) (a : Actor) (event : Event) → GoesTo s (tried_if fails cluster s a event)
tried_goes cluster true s a event = goes_by s (stopped_by a (event ∷ []) s) _ refl refl refl
tried_goes cluster false s a event = goes_by s (entered cluster s a event false) _ refl refl refl

stepped_goes : (skip : Option Skip) (cluster : Cluster) (answers : Answers) (number : ℕ) (s : Situation) (a : Actor) (event : Event)
    → GoesTo s (stepped_unless skip cluster answers number s a event)
stepped_goes (Some cause) cluster answers number s a event = goes_by s (with_item _ s) _ refl refl refl
stepped_goes None cluster answers number s a event = tried_goes cluster (is_journalled a event && fails_in answers s) s a event

entered_goes : (cluster : Cluster) (s : Situation) (a : Actor) (events : List Event) (lost : Bool) → GoesTo s (entered_all cluster s a events lost)
entered_goes cluster s a [] lost = stays_there s
entered_goes cluster s a (event ∷ events) lost =
    goes_trans s (entered cluster s a event lost) (entered_all cluster (entered cluster s a event lost) a events lost)
    (goes_by s (entered cluster s a event lost) _ refl refl refl) (entered_goes cluster (entered cluster s a event lost) a events lost)

restarted_goes : (cluster : Cluster) (fails : Bool) (answers : Answers) (s : Situation) (a : Actor) → GoesTo s (restarted_if fails cluster answers s a)
restarted_goes cluster true answers s a = goes_by s (with_item _ s) _ refl refl refl
restarted_goes cluster false answers s a =
    let kept : List Event = kept_if (answers.keeps (length s.own)) a s in
    goes_trans s (with_kept cluster s a kept) (reopened cluster s a kept) (entered_goes cluster s a kept true)
    (goes_by (with_kept cluster s a kept) (reopened cluster s a kept) _ refl refl refl)

dropped_goes : (skip : Option Skip) (number : ℕ) (s : Situation) (message : ℕ) → message_skip s message ≡ skip → GoesTo s (dropped_unless skip number s message)
dropped_goes (Some cause) number s message is = goes_by s (with_item _ s) _ refl refl refl
dropped_goes None number s message is =
    record {
      earlier_is = refl;
      grows = Whole s.own;
      drops = λ known n h.
          ⊎_elim (λ same. subst (λ k. k < length (sent_of s.own)) (eqb-true message n same) (sent (nat_lt message (length (sent_of s.own))) refl is)) (known n)
          (or_cases (message == n) (is_among s.dropped n) h);
    }
  where
    sent : (o : Bool) → nat_lt message (length (sent_of s.own)) ≡ o → message_skip s message ≡ None → message < length (sent_of s.own)
    sent true less none = below message (length (sent_of s.own)) less
      where
        below : (n k : ℕ) → nat_lt n k ≡ true → n < k
        below n k h = grind arith
    sent false more none = absurd (skipped none)
      where
        skipped : message_skip s message ≡ None → ⊥
        skipped e = no_skip (sym (ap (λ t. skip_if (not t) (NoMessage message (length (sent_of s.own)))) more) ∙ e)
          where
            no_skip : {k : Skip} → Some k ≡ None → ⊥
            no_skip e = cc

pub drained_goes : (cluster : Cluster) (answers : Answers) (last s : Situation) → Drains cluster answers last s → GoesTo s last
drained_goes cluster answers last s (stops t none is) = subst (GoesTo t) (sym is) (stays_there t)
drained_goes cluster answers last s (delivers t message oldest rest) =
    goes_trans t (tried cluster answers t (receiver_in t message) (TakesMessage message)) last
    (tried_goes cluster (is_journalled (receiver_in t message) (TakesMessage message) && fails_in answers t) t (receiver_in t message) (TakesMessage message))
    (drained_goes cluster answers last (tried cluster answers t (receiver_in t message) (TakesMessage message)) rest)

pub next_goes : (cluster : Cluster) (answers : Answers) (number : ℕ) (step : Step) (s next : Situation) → IsNext cluster answers number step s next → GoesTo s next
next_goes cluster answers number (Begin txn) s next is = subst (GoesTo s) (sym is) (stepped_goes (begin_skip cluster s txn) cluster answers number s _ _)
next_goes cluster answers number (Recover txn node) s next is = subst (GoesTo s) (sym is) (stepped_goes (recover_skip s txn node) cluster answers number s _ _)
next_goes cluster answers number (Slow txn) s next is = subst (GoesTo s) (sym is) (stepped_goes (slowing_skip cluster s txn) cluster answers number s _ _)
next_goes cluster answers number (Deliver message) s next is = subst (GoesTo s) (sym is) (stepped_goes (deliver_skip s message) cluster answers number s _ _)
next_goes cluster answers number (Drop message) s next is = subst (GoesTo s) (sym is) (dropped_goes (message_skip s message) number s message refl)
next_goes cluster answers number (Fail actor calls) s next is = subst (GoesTo s) (sym is) (stays_there s)
next_goes cluster answers number (Restart actor choice) s next is = subst (GoesTo s) (sym is) (restarted_goes cluster (fails_in answers s) answers s actor)
next_goes cluster answers number Drain s next is = drained_goes cluster answers next s is

pub follows_goes : (cluster : Cluster) (answers : Answers) (number : ℕ) (steps : List Step) (s last : Situation) → Follows cluster answers number steps s last → GoesTo s last
follows_goes cluster answers number [] s last f = subst (GoesTo s) (sym f) (stays_there s)
follows_goes cluster answers number (step ∷ steps) s last f =
    goes_trans s f.0 last (next_goes cluster answers number step s f.0 f.1) (follows_goes cluster answers (number + 1) steps f.0 last f.2)
