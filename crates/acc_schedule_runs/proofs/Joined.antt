-- What items say after an earlier run.
use Rattle.std.proofs.Common.{◌≡◌, ℕ, suc, ◌+◌, nat_lt, true, List, [], ◌∷◌, ◌++◌, length, refl, sym, ◌∙◌, ap, arith}
use Rattle.std.specs.List.{slice_get}
use Rattle.std.proofs.lemmas.List.{length-append, append_assoc, append-nil}
use Rattle.std.proofs.lemmas.Bool.Decides.{nat_tests}
use Rattle.acc_message.specs.declared.message.Message.{Message}
use Rattle.acc_message.specs.declared.entry.Event.{Event}
use Rattle.acc_message.specs.declared.entry.Event.TheVariants.{Begin, Recover, Slow, Message as TakesMessage, Restart}
use Rattle.acc_message.specs.declared.item.Item.{Item}
use Rattle.acc_message.specs.declared.item.Item.TheVariants.{Step, Skipped, Down}
use Rattle.acc_message.specs.Items.{sent_in, sent_of, message_at}
use Rattle.acc_schedule_runs.specs.Situations.{Situation, raised_event, raised, joined, whole}

-- ---- messages

sent_raised : (by : ℕ) (item : Item) → sent_in (raised by item) ≡ sent_in item
sent_raised by (Step e) = refl
sent_raised by (Skipped step cause) = refl
sent_raised by (Down actor) = refl

sent_joined : (earlier own : List Item) → sent_of (joined earlier own) ≡ sent_of earlier ++ sent_of own
sent_joined earlier [] = sym (append-nil (sent_of earlier))
sent_joined earlier (item ∷ own) =
    ap (λ ms. ms ++ sent_in (raised (length (sent_of earlier)) item)) (sent_joined earlier own)
    ∙ ap (λ ms. (sent_of earlier ++ sent_of own) ++ ms) (sent_raised (length (sent_of earlier)) item)
    ∙ append_assoc (sent_of earlier) (sent_of own) (sent_in item)

get_behind : (xs ys : List Message) (n : ℕ) → slice_get (xs ++ ys) (length xs + n) ≡ slice_get ys n
get_behind [] ys n =
    let none : 0 + n ≡ n = omega arith in ap (slice_get ys) none
get_behind (x ∷ xs) ys n =
    let one_less : suc (length xs) + n ≡ suc (length xs + n) = omega arith in
    ap (slice_get (x ∷ xs ++ ys)) one_less ∙ get_behind xs ys n

pub message_whole : (s : Situation) (n : ℕ) → message_at (whole s) (length (sent_of s.earlier) + n) ≡ message_at s.own n
message_whole s n =
    ap (λ ms. slice_get ms (length (sent_of s.earlier) + n)) (sent_joined s.earlier s.own) ∙ get_behind (sent_of s.earlier) (sent_of s.own) n

pub is_sent_whole : (s : Situation) (n : ℕ) → nat_lt n (length (sent_of s.own)) ≡ true
    → nat_lt (length (sent_of s.earlier) + n) (length (sent_of (whole s))) ≡ true
is_sent_whole s n less =
    ap (λ ms. nat_lt (length (sent_of s.earlier) + n) (length ms)) (sent_joined s.earlier s.own)
    ∙ ap (nat_lt (length (sent_of s.earlier) + n)) (length-append (sent_of s.earlier) (sent_of s.own))
    ∙ more (length (sent_of s.earlier)) n (length (sent_of s.own)) less
  where
    more : (by n k : ℕ) → nat_lt n k ≡ true → nat_lt (by + n) (by + k) ≡ true
    more by n k h = grind (arith, nat_tests)

-- ---- after nothing

event_alone : (event : Event) → raised_event 0 event ≡ event
event_alone (Begin txn) = refl
event_alone (Recover txn) = refl
event_alone (Slow txn) = refl
event_alone (TakesMessage number) =
    let none : 0 + number ≡ number = omega arith in ap TakesMessage none
event_alone (Restart kept) = refl

alone : (item : Item) → raised 0 item ≡ item
alone (Step e) = ap (λ event. Step (record { actor = e.actor; event = event; emitted = e.emitted; lost = e.lost })) (event_alone e.event)
alone (Skipped step cause) = refl
alone (Down actor) = refl

pub joined_alone : (own : List Item) → joined [] own ≡ own
joined_alone [] = refl
joined_alone (item ∷ own) = ap (λ i. i ∷ joined [] own) (alone item) ∙ ap (λ items. item ∷ items) (joined_alone own)
