-- The whole past of a situation, its messages, and its events.
use Rattle.std.proofs.Common.{◌≡◌, ◌≢◌, ℕ, suc, ◌+◌, ◌-◌, Bool, List, [], ◌∷◌, ◌++◌, length, refl, sym, ◌∙◌, ap, arith}
use Rattle.std.specs.List.{slice_get}
use Rattle.std.proofs.lemmas.List.{append_assoc, append-nil}
use Rattle.acc_stamp.specs.declared.actors.Actor.{Actor}
use Rattle.acc_message.specs.declared.message.Message.{Message}
use Rattle.acc_message.specs.declared.entry.Event.{Event}
use Rattle.acc_message.specs.declared.entry.Event.TheVariants.{Begin, Recover, Slow, Message as TakesMessage, Restart}
use Rattle.acc_message.specs.declared.item.Item.{Item}
use Rattle.acc_message.specs.declared.item.Item.TheVariants.{Step, Skipped, Down}
use Rattle.acc_message.specs.Items.{sent_in, sent_of, message_at}
use Rattle.acc_message.specs.Run.{Cluster}
use Rattle.acc_schedule_runs.specs.Situations.{Situation, raised_event, raised, joined, whole}
use Rattle.acc_schedule_runs.specs.Moves.{event_in, entered, is_journalled}
use Rattle.acc_pasts.specs.Entries.{entering}

-- ---- the whole past

pub whole_entered : (cluster : Cluster) (s : Situation) (a : Actor) (event : Event) (lost : Bool)
    → whole (entered cluster s a event lost) ≡ entering cluster (whole s) a (event_in s event) lost ∷ whole s
whole_entered cluster s a event lost = refl

sent_raised : (by : ℕ) (item : Item) → sent_in (raised by item) ≡ sent_in item
sent_raised by (Step e) = refl
sent_raised by (Skipped step cause) = refl
sent_raised by (Down actor) = refl

sent_joined : (earlier own : List Item) → sent_of (joined earlier own) ≡ sent_of earlier ++ sent_of own
sent_joined earlier [] = sym (append-nil (sent_of earlier))
sent_joined earlier (item ∷ own) =
    ap (λ ms. ms ++ sent_in (raised (length (sent_of earlier)) item)) (sent_joined earlier own)
    ∙ ap (λ ms. (sent_of earlier ++ sent_of own) ++ ms) (sent_raised (length (sent_of earlier)) item)
    ∙ append_assoc (sent_of earlier) (sent_of own) (sent_in item)

get_behind : (xs ys : List Message) (n : ℕ) → slice_get (xs ++ ys) (length xs + n) ≡ slice_get ys n
get_behind [] ys n =
    let none : 0 + n ≡ n = omega arith in ap (slice_get ys) none
get_behind (x ∷ xs) ys n =
    let one_less : suc (length xs) + n ≡ suc (length xs + n) = omega arith in
    ap (slice_get (x ∷ xs ++ ys)) one_less ∙ get_behind xs ys n

-- a message of the cluster's own, in the whole past
pub message_whole : (s : Situation) (n : ℕ) → message_at (whole s) (length (sent_of s.earlier) + n) ≡ message_at s.own n
message_whole s n =
    ap (λ ms. slice_get ms (length (sent_of s.earlier) + n)) (sent_joined s.earlier s.own) ∙ get_behind (sent_of s.earlier) (sent_of s.own) n

-- ---- after nothing

event_alone : (event : Event) → raised_event 0 event ≡ event
event_alone (Begin txn) = refl
event_alone (Recover txn) = refl
event_alone (Slow txn) = refl
event_alone (TakesMessage number) =
    let none : 0 + number ≡ number = omega arith in ap TakesMessage none
event_alone (Restart kept) = refl

alone : (item : Item) → raised 0 item ≡ item
alone (Step e) = ap (λ event. Step (record { actor = e.actor; event = event; emitted = e.emitted; lost = e.lost })) (event_alone e.event)
alone (Skipped step cause) = refl
alone (Down actor) = refl

pub joined_alone : (own : List Item) → joined [] own ≡ own
joined_alone [] = refl
joined_alone (item ∷ own) = ap (λ i. i ∷ joined [] own) (alone item) ∙ ap (λ items. item ∷ items) (joined_alone own)

-- a cluster that was opened after nothing
pub whole_alone : (s : Situation) → s.earlier ≡ [] → whole s ≡ s.own
whole_alone s none = ap (λ items. joined items s.own) none ∙ joined_alone s.own

-- ---- events

pub journalled_in : (s : Situation) (a : Actor) (event : Event) → is_journalled a (event_in s event) ≡ is_journalled a event
journalled_in s a (Begin txn) = refl
journalled_in s a (Recover txn) = refl
journalled_in s a (Slow txn) = refl
journalled_in s a (TakesMessage number) = refl
journalled_in s a (Restart kept) = refl

-- different events stay so
abbrev lowered : ℕ → Event → Event
lowered by (Begin txn) = Begin txn
lowered by (Recover txn) = Recover txn
lowered by (Slow txn) = Slow txn
lowered by (TakesMessage number) = TakesMessage (number - by)
lowered by (Restart kept) = Restart kept

lowered_back : (by : ℕ) (event : Event) → lowered by (raised_event by event) ≡ event
lowered_back by (Begin txn) = refl
lowered_back by (Recover txn) = refl
lowered_back by (Slow txn) = refl
lowered_back by (TakesMessage number) =
    let same : by + number - by ≡ number = omega arith in ap TakesMessage same
lowered_back by (Restart kept) = refl

pub different_in : (s : Situation) (one other : Event) → one ≢ other → event_in s one ≢ event_in s other
different_in s one other differ same =
    differ (sym (lowered_back (length (sent_of s.earlier)) one) ∙ ap (lowered (length (sent_of s.earlier))) same ∙ lowered_back (length (sent_of s.earlier)) other)
