-- Where nobody restarts, recovers or goes down, what is served is calm, so all that was begun is answered.
use Rattle.std.proofs.Common.{◌≡◌, ℕ, ◌<◌, ◌-◌, nat_lt, Bool, true, false, not, cond, max, ◌&&◌, ◌||◌, List, [], ◌∷◌, length, Contains, refl, sym, ◌∙◌, ap, subst, arith}
use Rattle.std.specs.Bool.{beq}
use Rattle.std.specs.List.{list_any, list_all}
use Rattle.std.proofs.lemmas.Bool.{true≢false, and_parts, and_from}
use Rattle.std.proofs.lemmas.Bool.Decides.{nat_tests}
use Rattle.acc_stamp.specs.declared.actors.Actor.{Actor}
use Rattle.acc_message.specs.declared.entry.Entry.{Entry}
use Rattle.acc_message.specs.declared.entry.Event.{Event}
use Rattle.acc_message.specs.declared.entry.Event.TheVariants.{Begin, Recover, Slow, Message as TakesMessage, Restart}
use Rattle.acc_message.specs.declared.item.Item.{Item}
use Rattle.acc_message.specs.declared.item.Item.TheVariants.{Step as StepItem, Skipped, Down}
use Rattle.acc_message.specs.Items.{same_actor, sent_of}
use Rattle.acc_message.specs.Run.{kept_of, lost_fit, is_down}
use Rattle.acc_safety.specs.Calm.{is_calm_event, is_calm_item, item_takes, IsCalm}
use Rattle.acc_safety.proofs.Bridge.{same_itself}
use Rattle.acc_schedule.specs.Actors.{actors}
use Rattle.acc_schedule.specs.Content.{Content}
use Rattle.acc_schedule.specs.declared.plan.Step.{Step}
use Rattle.acc_schedule_runs.specs.Situations.{Situation, whole, is_sent_lost, receiver_in, NothingWaits}
use Rattle.acc_free_laws.specs.Commands.{IsHeld}
use Rattle.acc_free_laws.specs.FreeRun.{alone}
use Rattle.acc_free_laws.specs.Serving.{IsServing, HasGone}
use Rattle.acc_free_laws.specs.Served.{IsServed, is_quiet, IsQuiet}
use Rattle.acc_free_laws.proofs.Alone.{alone_whole}
use Rattle.acc_free_laws.proofs.Quiet.{no_downs, nobody_down}

-- ---- the end

pub served_end : (plan : Content) (s : Situation) → IsServing plan s → NothingWaits s
    → ((a : Actor) → Contains (actors plan.topology) a → (left : List Step) × HasGone plan s a left × IsHeld s.own left) → IsServed plan s.own
served_end plan s h none each =
    record {
      free = h.free;
      commands = λ a there.
          let last = each a there in
          record {
            gone = last.1.gone;
            left = last.0;
            stop = last.1.stop;
            split = last.1.split;
            went = last.1.went;
            held = last.2;
          };
      taken = subst NothingWaits same_waits none;
    }
  where
    same_waits : s ≡ alone s.own s.stopped
    same_waits = λ i. record { earlier = h.earlier i; own = s.own; dropped = h.dropped i; stopped = s.stopped }

-- ---- quiet items

kept_none : (event : Event) → is_calm_event event ≡ true → kept_of event ≡ 0
kept_none (Begin txn) calm = refl
kept_none (Recover txn) calm = refl
kept_none (Slow txn) calm = refl
kept_none (TakesMessage number) calm = refl
kept_none (Restart kept) calm = absurd (true≢false (sym calm))

calm_events : (items : List Item) → IsQuiet items → list_all is_calm_item items ≡ true
calm_events [] quiet = refl
calm_events (StepItem e ∷ earlier) quiet =
    let parts = and_parts (is_calm_event e.event) (list_all is_quiet earlier) quiet in
    and_from (is_calm_event e.event) _ parts.0 (calm_events earlier parts.1)
calm_events (Skipped step cause ∷ earlier) quiet = calm_events earlier quiet
calm_events (Down actor ∷ earlier) quiet = absurd (true≢false (sym quiet))

-- none is owed after an entry that is no restart
none_owed : (a : Actor) (e : Entry) (earlier : List Item) → is_calm_event e.event ≡ true → lost_fit a 0 (StepItem e ∷ earlier) ≡ true
    → (not (same_actor e.actor a) || beq e.lost (nat_lt 0 0)) ≡ true × (lost_fit a 0 earlier ≡ true)
none_owed a e earlier calm fits =
    let parts = and_parts (not (same_actor e.actor a) || beq e.lost (nat_lt 0 0)) (lost_fit a (cond (same_actor e.actor a) (max (0 - 1) (kept_of e.event)) 0) earlier) fits in
    (parts.0, sym (ap (λ n. lost_fit a n earlier) (owed (same_actor e.actor a) (kept_of e.event) (kept_none e.event calm))) ∙ parts.1)
  where
    owed : (here : Bool) (kept : ℕ) → kept ≡ 0 → cond here (max (0 - 1) kept) 0 ≡ 0
    owed true kept none = ap (max (0 - 1)) none
    owed false kept none = refl

nothing_lost : (items : List Item) (number : ℕ) → IsQuiet items → ((a : Actor) → lost_fit a 0 items ≡ true) → is_sent_lost items number ≡ false
nothing_lost [] number quiet fits = refl
nothing_lost (StepItem e ∷ earlier) number quiet fits =
    let parts = and_parts (is_calm_event e.event) (list_all is_quiet earlier) quiet in
    let here = (none_owed e.actor e earlier parts.0 (fits e.actor)).0 in
    both (nat_lt number (length (sent_of earlier))) (is_sent_lost earlier number) e.lost
    (nothing_lost earlier number parts.1 (λ a. (none_owed a e earlier parts.0 (fits a)).1))
    (unlost e.lost (sym (ap (λ b. not b || beq e.lost (nat_lt 0 0)) (same_itself e.actor)) ∙ here))
  where
    both : (test one other : Bool) → one ≡ false → other ≡ false → cond test one other ≡ false
    both true one other h k = h
    both false one other h k = k

    unlost : (lost : Bool) → (not true || beq lost (nat_lt 0 0)) ≡ true → lost ≡ false
    unlost true h = absurd (true≢false (sym h))
    unlost false h = refl
nothing_lost (Skipped step cause ∷ earlier) number quiet fits =
    past (nat_lt number (length (sent_of earlier))) (is_sent_lost earlier number) (nothing_lost earlier number quiet fits)
  where
    past : (test one : Bool) → one ≡ false → cond test one false ≡ false
    past true one h = h
    past false one h = refl
nothing_lost (Down actor ∷ earlier) number quiet fits = absurd (true≢false (sym quiet))

-- ---- then each message was taken

taken_of : (sent taken lost down : Bool) → sent ≡ true → lost ≡ false → down ≡ false → (sent && (not (taken || lost) && not down)) ≡ false → taken ≡ true
taken_of true true lost down a b c h = refl
taken_of true false true down a b c h = absurd (true≢false b)
taken_of true false false true a b c h = absurd (true≢false c)
taken_of true false false false a b c h = absurd (true≢false h)
taken_of false taken lost down a b c h = absurd (true≢false (sym a))

pub served_is_calm : (plan : Content) (items : List Item) → IsServed plan items → IsQuiet items → IsCalm items
served_is_calm plan items h quiet =
    record {
      events = calm_events items quiet;
      taken = λ number less.
          taken_of (nat_lt number (length (sent_of items))) (list_any (item_takes number) items)
          (is_sent_lost items number) (is_down (receiver_in (alone items []) number) (whole (alone items [])))
          (test less) (nothing_lost items number quiet h.free.run.lost)
          (ap (is_down (receiver_in (alone items []) number)) (alone_whole items [])
          ∙ nobody_down items (receiver_in (alone items []) number) (no_downs items quiet))
          (h.taken number);
    }
  where
    test : {n k : ℕ} → n < k → nat_lt n k ≡ true
    test h = grind (arith, nat_tests)
