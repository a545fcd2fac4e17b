-- What holds of every run of a valid cluster, and of what an actor would send next.
use Rattle.std.proofs.Common.{ℕ, ◌+◌, ◌≤◌, false, List, ◌∷◌, length, refl, arith, get_or}
use Rattle.std.specs.Prelude.{All}
use Rattle.std.proofs.lemmas.List.Elements.{Contains-get_or}
use Rattle.acc_stamp.specs.declared.stamps.Stamp.{Stamp}
use Rattle.acc_stamp.specs.declared.actors.Actor.{Actor}
use Rattle.acc_stamp.proofs.Rising.{each_weaker}
use Rattle.acc_message.specs.declared.message.Message.{Message}
use Rattle.acc_message.specs.declared.entry.Entry.{Entry}
use Rattle.acc_message.specs.declared.item.Item.{Item}
use Rattle.acc_message.specs.declared.item.Item.TheVariants.{Step}
use Rattle.acc_message.specs.Fields.{top_of}
use Rattle.acc_message.specs.NodeRules.{Act}
use Rattle.acc_message.specs.Run.{Cluster, taken_of, emits, StandsOn}
use Rattle.acc_safety.specs.Valid.{IsStanding}
use Rattle.acc_safety.specs.Places.{IsIn, Here}
use Rattle.acc_safety.specs.Histories.{Sending}
use Rattle.acc_safety.specs.RunLaws.{drawn_of}
use Rattle.acc_safety.proofs.PlaceOrder.{Contains-IsIn}
use Rattle.acc_safety.proofs.SetsNamed.{deps_are_sets}
use Rattle.acc_message_code.specs.Short.{IsShortMessage}
use Rattle.acc_run_laws.specs.Next.{MayDo, sends_next}
use Rattle.acc_run_laws.specs.Heights.{most_h, AreLow}
use Rattle.acc_run_laws.specs.Sends.{HasFewBodies}
use Rattle.acc_run_laws.proofs.Bounded.{IsLow, bounded_top}
use Rattle.acc_run_laws.proofs.StoreBounds.{greatest_h_low}
use Rattle.acc_run_laws.proofs.Begun.{begun_of, begun_few}
use Rattle.acc_run_laws.proofs.RunBounds.{Stage}
use Rattle.acc_run_laws.proofs.Stages.{took_bounded, sent_bounded, new_message, stage_of}
use Rattle.acc_run_laws.proofs.ShortMessages.{short_message}

pub all_from : {T : Type 0} (P : T → Type 0) (xs : List T) → ((x : T) → IsIn x xs → P x) → All P xs
all_from P xs h = λ k d lt. h (get_or xs k d) (Contains-IsIn (get_or xs k d) xs (Contains-get_or xs k d lt))

module _ (cluster : Cluster) (items : List Item) (standing : IsStanding cluster items) where
  pub stage : Stage cluster items
  stage = stage_of cluster standing.valid items standing.stands

  pub are_low : AreLow cluster items
  are_low = record {
    messages = λ m sending. bounded_top (most_h items) (begun_of items) m (stage.messages m sending);
    drawn = each_weaker (IsLow (most_h items)) (λ (s : Stamp). s.h ≤ most_h items) (drawn_of items) (λ s h. h.h) stage.drawn;
    clocks = stage.clocks;
    stores = λ a.
        greatest_h_low (most_h items) (begun_of items) a (taken_of cluster a items)
        (took_bounded cluster standing.valid items standing.stands stage a) (sent_bounded cluster standing.valid items standing.stands stage a);
  }

  pub is_short : HasFewBodies cluster → (m : Message) → Sending items m → IsShortMessage m
  is_short bodies m sending =
      short_message (begun_of items) (few (length (begun_of items)) (begun_few cluster items standing.stands)) (most_h items) m
      ((deps_are_sets cluster items standing.stands).messages m sending) (stage.messages m sending)
    where
      few : (n : ℕ) → n ≤ length cluster.bodies → n ≤ 10000
      few n le = omega (arith, le, bodies)

-- ---- what comes next

module _ (cluster : Cluster) (items : List Item) (a : Actor) (act : Act) (standing : IsStanding cluster items) (may : MayDo cluster items a act) where
  abbrev pub entry : Entry
  entry = record { actor = a; event = may.event; emitted = emits cluster items a act; lost = false }

  pub stands_next : StandsOn cluster items entry
  stands_next = record { act = act; act_is = may.act_is; place = may.place; emitted = refl }

  pub standing_next : IsStanding cluster (Step entry ∷ items)
  standing_next = record { valid = standing.valid; stands = (stands_next, standing.stands) }

  pub sending_next : (m : Message) → IsIn m (sends_next cluster items a act)
      → Sending (Step entry ∷ items) m
  sending_next m there = record {
    entry = entry;
    earlier = items;
    at = Here (Step entry) items;
    sent = there;
  }

  pub next_low : All (λ m. top_of m ≤ most_h items + 1) (sends_next cluster items a act)
  next_low =
      all_from (λ m. top_of m ≤ most_h items + 1) (sends_next cluster items a act)
      (λ m there.
      let new = new_message cluster standing.valid items standing.stands (stage cluster items standing)
      entry stands_next m there in
      bounded_top (most_h items + 1) (begun_of (Step entry ∷ items)) m new)

  pub next_short : HasFewBodies cluster → All IsShortMessage (sends_next cluster items a act)
  next_short bodies =
      all_from IsShortMessage (sends_next cluster items a act)
      (λ m there.
      is_short cluster (Step entry ∷ items) standing_next bodies m (sending_next m there))
