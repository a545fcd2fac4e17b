-- What a store of a run took: its journal holds just that, and each message may stand after those before it.
use Rattle.std.proofs.Common.{◌≡◌, ℕ, ◌^◌, ◌<◌, ◌≤◌, Bool, true, false, cond, List, [], ◌∷◌, ◌++◌, length, map, reverse, append-nil, Option, None, Some, is_some, refl, sym, ap, subst, ◌∙◌, arith}
use Rattle.std.specs.Option.{option_map}
use Rattle.std.proofs.lemmas.Bool.{and_from, true≢false}
use Rattle.std.proofs.lemmas.List.{map-append, reverse-append, reverse-reverse}
use Rattle.acc_stamp.specs.declared.actors.Actor.{Actor}
use Rattle.acc_stamp.specs.Actor.{actor_eq, actor_of}
use Rattle.acc_message.specs.declared.message.Message.{Message}
use Rattle.acc_message.specs.declared.note.Note.{Note}
use Rattle.acc_message.specs.declared.entry.Entry.{Entry}
use Rattle.acc_message.specs.declared.entry.Event.{Event}
use Rattle.acc_message.specs.declared.entry.Event.TheVariants.{Begin as BeginEvent, Recover as RecoverEvent, Slow as SlowEvent, Message as MessageEvent, Restart as RestartEvent}
use Rattle.acc_message.specs.declared.item.Item.{Item}
use Rattle.acc_message.specs.declared.item.Item.TheVariants.{Step, Skipped, Down}
use Rattle.acc_message.specs.Fields.{to_of, top_of}
use Rattle.acc_message.specs.Items.{message_at, same_actor, sent_of}
use Rattle.acc_message.specs.NodeRules.{Act, Begins, Recovers, Restarts, Slows, Takes, Deed}
use Rattle.acc_message.specs.Run.{Cluster, act_of, deeds_of, is_node, taken_from, taken_of, EachStands, MayStand, StandsOn}
use Rattle.acc_message.specs.StoreRules.{replay}
use Rattle.acc_message.specs.Taken.{Taken, body_in}
use Rattle.acc_message.specs.VoteRule.{greatest_h}
use Rattle.acc_message_code.specs.Fitting.{FitsMessage}
use Rattle.acc_message_code.specs.MessageSpelling.{message_bytes}
use Rattle.acc_actor_laws.specs.TakenAlone.{messages_taken}
use Rattle.acc_actor_laws.proofs.Standing.{not_none}
use Rattle.acc_actor_laws.proofs.OpeningFacts.{some_is}
use Rattle.acc_safety.specs.Histories.{Sending}
use Rattle.acc_safety.specs.Places.{IsPast, Whole}
use Rattle.acc_safety.specs.Valid.{IsStanding, IsValidCluster}
use Rattle.acc_safety.proofs.Bridge.{each_answers, same, same_itself, sent_is_sending, Sending-past}
use Rattle.acc_safety.proofs.DrawFacts.{is_node-node}
use Rattle.acc_safety.proofs.PlaceOrder.{IsPast-rest}
use Rattle.acc_safety.proofs.Replays.{store_is_replay}
use Rattle.acc_run_laws.specs.Heights.{most_h}
use Rattle.acc_run_laws.proofs.Everywhere.{are_low, stage}
use Rattle.acc_run_laws.proofs.RunBounds.{get_is_in}
use Rattle.acc_payloads.specs.Items.{payload_by, payload_in, payloads_in}
use Rattle.acc_payloads.specs.Journals.{EachMay}
use Rattle.acc_payloads.specs.Store.{is_for}
use Rattle.acc_payloads.proofs.Journals.{each_snoc}
use Rattle.acc_pasts.proofs.Deeds.{deeds_more, deeds_same}
use Rattle.acc_pasts.proofs.Payloads.{payloads_more, store_payload}
use Rattle.acc_schedule.specs.Content.{Content}
use Rattle.acc_schedule_runs.specs.Schedules.{cluster_of}
use Rattle.acc_left.specs.Rules.{greatest_height}

-- each message that goes to a store has a spelling
abbrev pub HaveSpellings : List Item → Type 0
HaveSpellings items = (m : Message) → Sending items m → is_node (to_of m) ≡ false → FitsMessage m

-- A message that was sent in the run may stand after these in the journal of the store that it goes to.
pub record NextMessage (plan : Content) (run : List Item) (own : Actor) (before : List Message) (m : Message) : Type 0 where
  pub fits : FitsMessage m
  pub goes_to : is_for own m ≡ true
  pub addressed : to_of m ≡ own
  pub top : top_of m ≤ greatest_height
  pub greatest : greatest_h own (replay plan.topology own (reverse before)) < 2 ^ 62
  pub sending : Sending run m

module _ (plan : Content) (valid : IsValidCluster (cluster_of plan)) (run : List Item) (spelled : HaveSpellings run) (few_items : length run < 2 ^ 31) (a : Actor) (store : is_node a ≡ false) where
  abbrev cluster : Cluster
  cluster = cluster_of plan

  -- the newest first
  abbrev pub taken : List Item → List Message
  taken items = messages_taken (taken_of cluster a items)

  abbrev pub Next : List Message → Message → Type 0
  Next = NextMessage plan run a

  pub record Takings (items : List Item) : Type 0 where
    pub payloads : payloads_in a items ≡ map message_bytes (reverse (taken items))
    pub each : EachMay Next [] (reverse (taken items))

  no_home : (node : ℕ) → a ≡ actor_of node 0 → ⊥
  no_home node is = true≢false (sym (ap is_node is ∙ is_node-node node) ∙ store)

  module _ (earlier : List Item) (stands : EachStands cluster earlier) (past : IsPast earlier run) (fewer : length earlier < 2 ^ 31) (known : Takings earlier) where
    standing : IsStanding cluster earlier
    standing = record { valid = valid; stands = stands }

    history : replay plan.topology a (reverse (reverse (taken earlier))) ≡ taken_of cluster a earlier
    history =
        ap (replay plan.topology a) (reverse-reverse (taken earlier)) ∙ sym (store_is_replay plan.topology a (taken_of cluster a earlier) (each_answers cluster a earlier stands store))

    next : (number : ℕ) (m : Message) → message_at earlier number ≡ Some m → to_of m ≡ a → Next (reverse (taken earlier)) m
    next number m found to =
        let sent : Sending earlier m = sent_is_sending earlier m (get_is_in (sent_of earlier) number m found) in
        let at_store : is_node (to_of m) ≡ false = ap is_node to ∙ store in
        let top : top_of m ≤ most_h earlier = (are_low cluster earlier standing).messages m sent in
        let high : greatest_h a (taken_of cluster a earlier) ≤ most_h earlier = (are_low cluster earlier standing).stores a in
        record {
          fits = spelled m (Sending-past earlier run m past sent) at_store;
          goes_to =
              and_from (actor_eq (to_of m) a) (is_some (body_in m)) (ap (λ (b : Actor). actor_eq b a) to ∙ same_itself a)
              (((stage cluster earlier standing).messages m sent).address.brings at_store);
          addressed = to;
          top = omega (arith, top, fewer);
          greatest = subst (λ (l : List Taken). greatest_h a l < 2 ^ 62) (sym history) (omega (arith, high, fewer));
          sending = Sending-past earlier run m past sent;
        }

    -- ---- after an entry

    record After (now : List Message) (payload : List (List ℕ)) : Type 0 where
      payloads : payloads_in a earlier ++ payload ≡ map message_bytes (reverse now)
      each : EachMay Next [] (reverse now)

    nothing_more : After (taken earlier) []
    nothing_more = record { payloads = append-nil (payloads_in a earlier) ∙ known.payloads; each = known.each }

    one_more : (number : ℕ) (m : Message) → message_at earlier number ≡ Some m → to_of m ≡ a → After (m ∷ taken earlier) (message_bytes m ∷ [])
    one_more number m found to =
        let more : reverse (m ∷ taken earlier) ≡ reverse (taken earlier) ++ m ∷ [] = reverse-append (m ∷ []) (taken earlier) in
        record {
          payloads =
              ap (λ (l : List (List ℕ)). l ++ message_bytes m ∷ []) known.payloads ∙ sym (map-append message_bytes (reverse (taken earlier)) (m ∷ []))
              ∙ ap (map message_bytes) (sym more);
          each = subst (EachMay Next []) (sym more) (each_snoc Next [] (reverse (taken earlier)) m known.each (next number m found to));
        }

    abbrev taken_by : Act → List Message
    taken_by (Takes m) = m ∷ taken earlier
    taken_by _ = taken earlier

    module _ (act : Act) (notes : List Note) where
      message_after : (number : ℕ) (o : Option Message) → message_at earlier number ≡ o → option_map Takes o ≡ Some act → MayStand cluster earlier a act (MessageEvent number)
          → After (taken_by act) (payload_by earlier a (MessageEvent number) notes)
      message_after number None found e place = absurd (not_none act e)
      message_after number (Some m) found e place =
          let one : Takes m ≡ act = some_is (Takes m) act e in
          let to : to_of m ≡ a = same (to_of m) a (subst (λ (c : Act). MayStand cluster earlier a c (MessageEvent number)) (sym one) place) in
          subst (λ (c : Act). After (taken_by c) (payload_by earlier a (MessageEvent number) notes)) one
          (subst (After (m ∷ taken earlier)) (sym (store_payload earlier a number m notes store found)) (one_more number m found to))

      event_after : (event : Event) → act_of cluster earlier event ≡ Some act → MayStand cluster earlier a act event → After (taken_by act) (payload_by earlier a event notes)
      event_after (BeginEvent txn) is place = absurd (no_home place.0.0 place.0.2)
      event_after (RecoverEvent txn) is place = absurd (no_home place.0.0 place.0.2)
      event_after (SlowEvent txn) is place = absurd (no_home place.0.0 place.0.2)
      event_after (MessageEvent number) is place = message_after number (message_at earlier number) refl is place
      event_after (RestartEvent kept) is place = subst (λ (c : Act). After (taken_by c) []) (some_is Restarts act is) nothing_more

    taken_after : (act : Act) (e : Entry) → taken_by act ≡ messages_taken (taken_from (record { act = act; emitted = e.emitted } ∷ deeds_of cluster a earlier))
    taken_after (Takes m) e = refl
    taken_after (Begins txn body) e = refl
    taken_after (Recovers x body) e = refl
    taken_after (Slows x) e = refl
    taken_after Restarts e = refl

    own_entry : (e : Entry) → StandsOn cluster earlier e → same_actor e.actor a ≡ true → Takings (Step e ∷ earlier)
    own_entry e s here =
        let own : e.actor ≡ a = same e.actor a here in
        let after : After (taken_by s.act) (payload_by earlier a e.event e.emitted.notes) =
        event_after s.act e.emitted.notes e.event s.act_is (subst (λ (b : Actor). MayStand cluster earlier b s.act e.event) own s.place) in
        let now : taken_by s.act ≡ taken (Step e ∷ earlier) =
        taken_after s.act e ∙ ap (λ (deeds : List Deed). messages_taken (taken_from deeds)) (sym (deeds_more cluster earlier e a s.act here s.act_is)) in
        record {
          payloads = payloads_more earlier e a here ∙ after.payloads ∙ ap (λ (l : List Message). map message_bytes (reverse l)) now;
          each = subst (λ (l : List Message). EachMay Next [] (reverse l)) now after.each;
        }

    unchanged : (item : Item) → deeds_of cluster a (item ∷ earlier) ≡ deeds_of cluster a earlier → payload_in a earlier item ≡ [] → Takings (item ∷ earlier)
    unchanged item deeds none =
        let now : taken earlier ≡ taken (item ∷ earlier) = ap (λ (d : List Deed). messages_taken (taken_from d)) (sym deeds) in
        record {
          payloads =
              ap (λ (l : List (List ℕ)). payloads_in a earlier ++ l) none ∙ append-nil (payloads_in a earlier) ∙ known.payloads
              ∙ ap (λ (l : List Message). map message_bytes (reverse l)) now;
          each = subst (λ (l : List Message). EachMay Next [] (reverse l)) now known.each;
        }

    entry : (e : Entry) → StandsOn cluster earlier e → (here : Bool) → same_actor e.actor a ≡ here → Takings (Step e ∷ earlier)
    entry e s true here = own_entry e s here
    entry e s false apart =
        unchanged (Step e) (deeds_same cluster earlier e a apart) (ap (λ (b : Bool). cond b (payload_by earlier a e.event e.emitted.notes) []) apart)

  takings_in : (items : List Item) → EachStands cluster items → IsPast items run → length items < 2 ^ 31 → Takings items
  takings_in [] stands past fewer = record { payloads = refl; each = tt }
  takings_in (Step e ∷ earlier) stands past fewer =
      let less : length earlier < 2 ^ 31 = omega (arith, fewer) in
      let within : IsPast earlier run = IsPast-rest (Step e) earlier run past in
      entry earlier stands.1 within less (takings_in earlier stands.1 within less) e stands.0 (same_actor e.actor a) refl
  takings_in (Skipped step cause ∷ earlier) stands past fewer =
      let less : length earlier < 2 ^ 31 = omega (arith, fewer) in
      let within : IsPast earlier run = IsPast-rest (Skipped step cause) earlier run past in
      unchanged earlier stands.1 within less (takings_in earlier stands.1 within less) (Skipped step cause) refl refl
  takings_in (Down actor ∷ earlier) stands past fewer =
      let less : length earlier < 2 ^ 31 = omega (arith, fewer) in
      let within : IsPast earlier run = IsPast-rest (Down actor) earlier run past in
      unchanged earlier stands.1 within less (takings_in earlier stands.1 within less) (Down actor) refl refl

  pub takings_known : EachStands cluster run → Takings run
  takings_known stands = takings_in run stands (Whole run) few_items
