-- What one entry sends is counted in 63 bits, and what the calls of nodes and stores ask for.
use Rattle.std.proofs.Common.{◌≡◌, ℕ, suc, ◌+◌, ◌*◌, ◌≤◌, ◌<◌, ◌^◌, Bool, true, false, List, [], ◌∷◌, length, Some, sym, ap, subst, arith}
use Rattle.std.specs.List.{AllByRecursion}
use Rattle.std.specs.Option.{option_map}
use Rattle.acc_stamp.specs.declared.actors.Actor.{Actor}
use Rattle.acc_stamp.specs.Actor.{node_of}
use Rattle.acc_message.specs.declared.message.Message.{Message}
use Rattle.acc_message.specs.declared.entry.Emitted.{Emitted}
use Rattle.acc_message.specs.declared.entry.Entry.{Entry}
use Rattle.acc_message.specs.declared.item.Item.{Item}
use Rattle.acc_message.specs.declared.item.Item.TheVariants.{Step, Skipped, Down}
use Rattle.acc_message.specs.declared.entry.Event.TheVariants.{Message as MessageEvent}
use Rattle.acc_message.specs.Fields.{to_of, top_of}
use Rattle.acc_message.specs.Items.{sent_in, sent_of, message_at}
use Rattle.acc_message.specs.Taken.{Taken}
use Rattle.acc_message.specs.VoteRule.{greatest_h}
use Rattle.acc_message.specs.NodeRules.{Act, Begins, Recovers, Slows, Takes, Restarts, Deed, clock_of, node_emits, node_replay}
use Rattle.acc_message.specs.StoreRules.{store_answer, replay}
use Rattle.acc_message.specs.Run.{Cluster, clock_start, deeds_of, taken_of, store_emits, emits_by, is_node, StandsOn}
use Rattle.acc_message_code.specs.MessageSpelling.{message_bytes}
use Rattle.acc_message_code.specs.Short.{IsShortMessage}
use Rattle.acc_message_code.specs.Weight.{weight_of_all}
use Rattle.acc_safety.specs.Valid.{IsStanding}
use Rattle.acc_safety.specs.Places.{IsIn, First, Later, Whole}
use Rattle.acc_safety.specs.Histories.{Sending}
use Rattle.acc_safety.specs.RunLaws.{acts_done}
use Rattle.acc_actor_laws.specs.TakenAlone.{messages_taken}
use Rattle.acc_safety.proofs.PlaceOrder.{each_from, none_is_in}
use Rattle.acc_safety.proofs.Bridge.{same_itself, each_emits, each_answers, sent_is_sending}
use Rattle.acc_safety.proofs.Replays.{store_is_replay, node_is_replay}
use Rattle.acc_run_laws.specs.Next.{MayDo, sends_next}
use Rattle.acc_run_laws.specs.Heights.{most_h, clock_at}
use Rattle.acc_run_laws.specs.Sends.{AreFew, HasFewBodies, AreSendable}
use Rattle.acc_run_laws.specs.Calls.{NodeMeets, StoreMeets, IsDeliverable}
use Rattle.acc_run_laws.proofs.Begun.{begun_of}
use Rattle.acc_run_laws.proofs.RunBounds.{valid_start, act_bounded, get_is_in}
use Rattle.acc_run_laws.proofs.Stages.{known_act, new_message}
use Rattle.acc_run_laws.proofs.Addresses.{node_addressed}
use Rattle.acc_run_laws.proofs.StoreCounts.{answer_few, taken_of_few}
use Rattle.acc_run_laws.proofs.ByteBounds.{message_most, weight_most}
use Rattle.acc_run_laws.proofs.Everywhere.{all_from, stage, are_low, is_short, entry, stands_next, standing_next, sending_next, next_short}

-- ---- what comes next

module _ (cluster : Cluster) (items : List Item) (a : Actor) (act : Act) (standing : IsStanding cluster items) (may : MayDo cluster items a act) where
  by_store : (c : Act) → length (store_emits cluster.layout a (taken_of cluster a items) c).out ≤ length items + 113
  by_store (Takes m) =
      let sent = answer_few cluster.layout a (taken_of cluster a items) m in let taken = taken_of_few cluster a items in omega (arith, sent, taken)
  by_store (Begins txn body) = omega arith
  by_store (Recovers x body) = omega arith
  by_store (Slows x) = omega arith
  by_store Restarts = omega arith

  few_sent : (b : Bool) → length (emits_by b cluster a (deeds_of cluster a items) act).out ≤ length items + 113
  few_sent true =
      let few = (node_addressed (most_h items) (begun_of items) cluster.layout standing.valid.layout (node_of a) (clock_start cluster.starts (node_of a)) (deeds_of cluster a items) act
      (known_act (most_h items) (begun_of items) cluster.layout standing.valid.layout act
      (act_bounded cluster standing.valid items (stage cluster items standing) items (Whole items) may.event act may.act_is))).few in
      omega (arith, few)
  few_sent false = by_store act

  each_length : HasFewBodies cluster → AllByRecursion (λ m. length (message_bytes m) ≤ 2147483648) (sends_next cluster items a act)
  each_length bodies =
      each_from (λ m. length (message_bytes m) ≤ 2147483648) (sends_next cluster items a act)
      (λ m there.
      let bounded = new_message cluster standing.valid items standing.stands (stage cluster items standing) (entry cluster items a act standing may) (stands_next cluster items a act standing may) m there in
      let short = is_short cluster (Step (entry cluster items a act standing may) ∷ items) (standing_next cluster items a act standing may) bodies m (sending_next cluster items a act standing may m there) in
      message_most (most_h items + 1) (begun_of (Step (entry cluster items a act standing may) ∷ items)) m bounded.content short.content)

  next_weight : HasFewBodies cluster → AreFew items → weight_of_all (sends_next cluster items a act) < 2 ^ 63
  next_weight bodies few =
      below (weight_of_all (sends_next cluster items a act)) (length (sends_next cluster items a act)) (length items)
      (weight_most (sends_next cluster items a act) (each_length bodies)) (few_sent (is_node a)) few
    where
      below : (w n k : ℕ) → w ≤ 2147483648 * n → n ≤ k + 113 → k < 2 ^ 31 → w < 2 ^ 63
      below w n k h i j = omega (arith, h, i, j)

  pub next_sendable : HasFewBodies cluster → AreFew items → AreSendable (sends_next cluster items a act)
  next_sendable bodies few = record { short = next_short cluster items a act standing may bodies; weight = next_weight bodies few }

-- ---- what an entry sent

nothing_sendable : AreSendable []
nothing_sendable = record { short = all_from IsShortMessage [] (λ m there. absurd (none_is_in m there)); weight = omega arith }

entry_sendable : (cluster : Cluster) (earlier : List Item) (e : Entry) → IsStanding cluster earlier → HasFewBodies cluster → AreFew earlier → StandsOn cluster earlier e → AreSendable e.emitted.out
entry_sendable cluster earlier e standing bodies few s =
    subst (λ (m : Emitted). AreSendable m.out) (sym s.emitted)
    (next_sendable cluster earlier e.actor s.act standing (record { event = e.event; act_is = s.act_is; place = s.place }) bodies few)

fewer : (n : ℕ) → suc n < 2 ^ 31 → n < 2 ^ 31
fewer n h = omega (arith, h)

pub each_sendable : (cluster : Cluster) (item : Item) (items : List Item) → IsStanding cluster items → HasFewBodies cluster → AreFew items → IsIn item items → AreSendable (sent_in item)
each_sendable cluster item items standing bodies few (First (Step e) earlier) =
    entry_sendable cluster earlier e (record { valid = standing.valid; stands = standing.stands.1 }) bodies (fewer (length earlier) few) standing.stands.0
each_sendable cluster item items standing bodies few (First (Skipped step cause) earlier) = nothing_sendable
each_sendable cluster item items standing bodies few (First (Down actor) earlier) = nothing_sendable
each_sendable cluster item items standing bodies few (Later x y earlier there) =
    each_sendable cluster x earlier (record { valid = standing.valid; stands = standing.stands.1 }) bodies (fewer (length earlier) few) there

-- ---- the calls

low_height : (items : List Item) (n : ℕ) → AreFew items → n ≤ most_h items → n < 2 ^ 62
low_height items n few h = omega (arith, few, h)

module _ (cluster : Cluster) (items : List Item) (a : Actor) (standing : IsStanding cluster items) (few : AreFew items) where
  clock_low : (deeds : List Deed) → deeds_of cluster a items ≡ deeds → (clock_of (node_of a) (clock_start cluster.starts (node_of a)) deeds).drawn < 2 ^ 62
  clock_low deeds is =
      subst (λ (ds : List Deed). (clock_of (node_of a) (clock_start cluster.starts (node_of a)) ds).drawn < 2 ^ 62) is
      (low_height items (clock_at cluster a items).drawn few ((are_low cluster items standing).clocks a).drawn)

  seen_low : (deeds : List Deed) → deeds_of cluster a items ≡ deeds → (clock_of (node_of a) (clock_start cluster.starts (node_of a)) deeds).seen < 2 ^ 62
  seen_low deeds is =
      subst (λ (ds : List Deed). (clock_of (node_of a) (clock_start cluster.starts (node_of a)) ds).seen < 2 ^ 62) is
      (low_height items (clock_at cluster a items).seen few ((are_low cluster items standing).clocks a).seen)

  node_sendable : is_node a ≡ true → HasFewBodies cluster → (deeds : List Deed) → deeds_of cluster a items ≡ deeds → (act : Act) → MayDo cluster items a act
      → AreSendable (node_emits cluster.layout (node_of a) (clock_start cluster.starts (node_of a)) deeds act).out
  node_sendable node bodies deeds is act may =
      subst (λ (ds : List Deed). AreSendable (node_emits cluster.layout (node_of a) (clock_start cluster.starts (node_of a)) ds act).out) is
      (subst (λ b. AreSendable (emits_by b cluster a (deeds_of cluster a items) act).out) node (next_sendable cluster items a act standing may bodies few))

  pub node_meets : is_node a ≡ true → NodeMeets cluster items a
  node_meets node =
      let is = node_is_replay cluster.layout (node_of a) (clock_start cluster.starts (node_of a)) (deeds_of cluster a items) (each_emits cluster a items standing.stands node) in
      record {
        start = valid_start cluster (node_of a) standing.valid;
        drawn = clock_low (node_replay cluster.layout (node_of a) (clock_start cluster.starts (node_of a)) (acts_done (deeds_of cluster a items))) is;
        seen = seen_low (node_replay cluster.layout (node_of a) (clock_start cluster.starts (node_of a)) (acts_done (deeds_of cluster a items))) is;
        sends = λ bodies. node_sendable node bodies (node_replay cluster.layout (node_of a) (clock_start cluster.starts (node_of a)) (acts_done (deeds_of cluster a items))) is;
      }

  greatest_low : (history : List Taken) → taken_of cluster a items ≡ history → greatest_h a history < 2 ^ 62
  greatest_low history is =
      subst (λ h. greatest_h a h < 2 ^ 62) is (low_height items (greatest_h a (taken_of cluster a items)) few ((are_low cluster items standing).stores a))

  store_sendable : is_node a ≡ false → HasFewBodies cluster → (history : List Taken) → taken_of cluster a items ≡ history → (m : Message) → MayDo cluster items a (Takes m)
      → AreSendable (store_answer cluster.layout a history m)
  store_sendable store bodies history is m may =
      subst (λ h. AreSendable (store_answer cluster.layout a h m)) is
      (subst (λ b. AreSendable (emits_by b cluster a (deeds_of cluster a items) (Takes m)).out) store (next_sendable cluster items a (Takes m) standing may bodies few))

  pub store_meets : is_node a ≡ false → StoreMeets cluster items a
  store_meets store =
      let is = store_is_replay cluster.layout a (taken_of cluster a items) (each_answers cluster a items standing.stands store) in
      record {
        greatest = greatest_low (replay cluster.layout a (messages_taken (taken_of cluster a items))) is;
        sends = λ bodies. store_sendable store bodies (replay cluster.layout a (messages_taken (taken_of cluster a items))) is;
      }

pub is_deliverable : (cluster : Cluster) (items : List Item) (number : ℕ) (m : Message) → IsStanding cluster items → AreFew items → message_at items number ≡ Some m → IsDeliverable cluster items m
is_deliverable cluster items number m standing few is =
    let sending : Sending items m = sent_is_sending items m (get_is_in (sent_of items) number m is) in
    record {
      may = record { event = MessageEvent number; act_is = ap (option_map Takes) is; place = same_itself (to_of m) };
      top = low_height items (top_of m) few ((are_low cluster items standing).messages m sending);
      short = λ bodies. is_short cluster items standing bodies m sending;
      brings = ((stage cluster items standing).messages m sending).address.brings;
    }
