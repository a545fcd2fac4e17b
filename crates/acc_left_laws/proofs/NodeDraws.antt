-- What a node of a run drew: its acts tell it, and each draw may stand after those before it.
use Rattle.std.proofs.Common.{◌≡◌, ℕ, ◌^◌, ◌<◌, ◌≤◌, Bool, true, false, cond, List, [], ◌∷◌, ◌++◌, length, append-nil, Option, None, Some, refl, sym, ap, subst, ◌∙◌, arith}
use Rattle.std.specs.Prelude.{nat_le}
use Rattle.std.specs.List.{slice_get}
use Rattle.std.specs.Option.{option_map}
use Rattle.std.proofs.lemmas.Bool.{and_from, eq-eqb, le-leb, not-true}
use Rattle.std.proofs.lemmas.Option.{slice_get_within}
use Rattle.acc_stamp.specs.declared.actors.Actor.{Actor}
use Rattle.acc_stamp.specs.declared.stamps.TxnId.{TxnId}
use Rattle.acc_stamp.specs.Actor.{node_of}
use Rattle.acc_stamp.specs.Clock.{ClockState, next_stamp}
use Rattle.acc_txn.specs.declared.parts.BodyParts.{BodyParts}
use Rattle.acc_message.specs.declared.message.Message.{Message}
use Rattle.acc_message.specs.declared.note.Note.{Note}
use Rattle.acc_message.specs.declared.entry.Emitted.{Emitted}
use Rattle.acc_message.specs.declared.entry.Entry.{Entry}
use Rattle.acc_message.specs.declared.entry.Event.{Event}
use Rattle.acc_message.specs.declared.entry.Event.TheVariants.{Begin as BeginEvent, Recover as RecoverEvent, Slow as SlowEvent, Message as MessageEvent, Restart as RestartEvent}
use Rattle.acc_message.specs.declared.item.Item.{Item}
use Rattle.acc_message.specs.declared.item.Item.TheVariants.{Step, Skipped, Down}
use Rattle.acc_message.specs.Items.{id_of_txn, is_begun, message_at, same_actor}
use Rattle.acc_message.specs.NodeRules.{Act, Begins, Recovers, Slows, Takes, Restarts, Deed}
use Rattle.acc_message.specs.Run.{Cluster, act_of, clock_start, deeds_of, emits, emits_by, is_node, recovers, EachStands, MayStand, StandsOn}
use Rattle.acc_actor_laws.proofs.Standing.{not_none}
use Rattle.acc_actor_laws.proofs.OpeningFacts.{some_is}
use Rattle.acc_safety.specs.Valid.{IsValidCluster}
use Rattle.acc_safety.proofs.BegunFacts.{WasBegun, begun_has}
use Rattle.acc_safety.proofs.Bridge.{same}
use Rattle.acc_safety.proofs.DrawFacts.{node_is}
use Rattle.acc_run_laws.specs.Heights.{clock_at, most_h, IsLowClock}
use Rattle.acc_run_laws.specs.Sends.{HasFewBodies}
use Rattle.acc_run_laws.proofs.Everywhere.{are_low}
use Rattle.acc_payloads.specs.declared.draw.Purpose.{Purpose}
use Rattle.acc_payloads.specs.declared.draw.Purpose.TheVariants.{Begin, Recover}
use Rattle.acc_payloads.specs.declared.draw.Draw.{Draw}
use Rattle.acc_payloads.specs.Acts.{next_draw_of, AreDrawsOf, DrawnAfter, MayDraw}
use Rattle.acc_payloads.specs.Journals.{EachMay}
use Rattle.acc_payloads.specs.Node.{may_draw}
use Rattle.acc_payloads.specs.Spelling.{FitsDraw}
use Rattle.acc_payloads.proofs.Acts.{next_may}
use Rattle.acc_payloads.proofs.Journals.{each_snoc}
use Rattle.acc_pasts.proofs.Deeds.{deeds_more, deeds_same}
use Rattle.acc_pasts.proofs.SlowingFacts.{not_begun}
use Rattle.acc_schedule.specs.Content.{Content}
use Rattle.acc_schedule_runs.specs.Schedules.{cluster_of}
use Rattle.acc_left.specs.Rules.{greatest_height, is_draw_of, may_be_drawn}
use Rattle.acc_left_laws.proofs.Drawn.{draws_at, draws_by, draws_of}

-- a draw may stand after these, is of the plan, and has a spelling
pub record NextDraw (plan : Content) (node : ℕ) (before : List Draw) (d : Draw) : Type 0 where
  pub may : may_draw (clock_start plan.starts node) before d ≡ true
  pub of_plan : is_draw_of plan node d ≡ true
  pub fits : FitsDraw d

module _ (plan : Content) (valid : IsValidCluster (cluster_of plan)) (few : HasFewBodies (cluster_of plan)) (a : Actor) (node : is_node a ≡ true) where
  abbrev cluster : Cluster
  cluster = cluster_of plan

  abbrev number : ℕ
  number = node_of a

  abbrev start : ℕ
  start = clock_start plan.starts number

  abbrev pub Next : List Draw → Draw → Type 0
  Next = NextDraw plan number

  pub record Draws (items : List Item) : Type 0 where
    pub are : AreDrawsOf number start (deeds_of cluster a items) (draws_of a items)
    pub each : EachMay Next [] (draws_of a items)

  module _ (earlier : List Item) (stands : EachStands cluster earlier) (few_items : length earlier < 2 ^ 31) (known : Draws earlier) where
    abbrev past : List Deed
    past = deeds_of cluster a earlier

    abbrev clock : ClockState
    clock = clock_at cluster a earlier

    low : IsLowClock (most_h earlier) clock
    low = (are_low cluster earlier (record { valid = valid; stands = stands })).clocks a

    may_draw_next : MayDraw number start past
    may_draw_next = let is_low = low in record { drawn = omega (arith, is_low.drawn, few_items); seen = omega (arith, is_low.seen, few_items) }

    is_low : (next_stamp clock).h ≤ greatest_height
    is_low = let is = low in omega (arith, is.drawn, is.seen, few_items)

    fits : (purpose : Purpose) (txn : ℕ) (body : BodyParts) → slice_get plan.bodies txn ≡ Some body → FitsDraw (next_draw_of clock purpose txn)
    fits purpose txn body found =
        let within : txn < length plan.bodies = slice_get_within plan.bodies txn body found in
        let lower = is_low in
        record { txn = omega (arith, within, few); h = omega (arith, lower) }

    of_plan : (purpose : Purpose) (txn : ℕ) → may_be_drawn number purpose (slice_get plan.homes txn) ≡ true → is_draw_of plan number (next_draw_of clock purpose txn) ≡ true
    of_plan purpose txn drawn = and_from (may_be_drawn number purpose (slice_get plan.homes txn)) (nat_le (next_stamp clock).h greatest_height) drawn (le-leb (next_stamp clock).h greatest_height is_low)

    begin_draws : (txn other : ℕ) (body : BodyParts) → draws_by (BeginEvent txn) (emits cluster earlier a (Begins other body)).notes ≡ next_draw_of clock Begin txn ∷ []
    begin_draws txn other body = ap (λ (b : Bool). draws_by (BeginEvent txn) (emits_by b cluster a past (Begins other body)).notes) node

    recover_draws : (txn : ℕ) (x : TxnId) (body : BodyParts) → draws_by (RecoverEvent txn) (emits cluster earlier a (Recovers x body)).notes ≡ next_draw_of clock Recover txn ∷ []
    recover_draws txn x body = ap (λ (b : Bool). draws_by (RecoverEvent txn) (emits_by b cluster a past (Recovers x body)).notes) node

    -- the draws after an entry
    record After (act : Act) (draws : List Draw) : Type 0 where
      are : DrawnAfter clock act (AreDrawsOf number start past) (draws_of a earlier ++ draws)
      each : EachMay Next [] (draws_of a earlier ++ draws)

    one_more : (d : Draw) (draws : List Draw) → draws ≡ d ∷ [] → Next (draws_of a earlier) d → EachMay Next [] (draws_of a earlier ++ draws)
    one_more d draws is next = subst (λ (l : List Draw). EachMay Next [] (draws_of a earlier ++ l)) (sym is) (each_snoc Next [] (draws_of a earlier) d known.each next)

    no_more : (act : Act) → DrawnAfter clock act (AreDrawsOf number start past) (draws_of a earlier) → After act []
    no_more act are = record {
      are = subst (DrawnAfter clock act (AreDrawsOf number start past)) (sym (append-nil (draws_of a earlier))) are;
      each = subst (EachMay Next []) (sym (append-nil (draws_of a earlier))) known.each;
    }

    module _ (act : Act) (notes : List Note) (noted : notes ≡ (emits cluster earlier a act).notes) where
      begin_after : (txn : ℕ) → MayStand cluster earlier a act (BeginEvent txn) → (o : Option BodyParts) → slice_get plan.bodies txn ≡ o → option_map (Begins txn) o ≡ Some act
          → After act (draws_by (BeginEvent txn) notes)
      begin_after txn place None found e = absurd (not_none act e)
      begin_after txn place (Some body) found e =
          let one : Begins txn body ≡ act = some_is (Begins txn body) act e in
          let d : Draw = next_draw_of clock Begin txn in
          let drawn : draws_by (BeginEvent txn) notes ≡ d ∷ [] =
          ap (draws_by (BeginEvent txn)) noted ∙ ap (λ (c : Act). draws_by (BeginEvent txn) (emits cluster earlier a c).notes) (sym one) ∙ begin_draws txn txn body in
          let home : ℕ = place.0.0 in
          record {
            are =
                subst (λ (c : Act). DrawnAfter clock c (AreDrawsOf number start past) (draws_of a earlier ++ draws_by (BeginEvent txn) notes)) one
                (draws_of a earlier, known.are, ap (λ (l : List Draw). draws_of a earlier ++ l) drawn);
            each =
                one_more d (draws_by (BeginEvent txn) notes) drawn
                (record {
                  may =
                      next_may number start past (draws_of a earlier) Begin txn known.are may_draw_next
                      (λ _. not_begun cluster earlier a number start txn (not-true (is_begun earlier txn) place.1));
                  of_plan = of_plan Begin txn (ap (may_be_drawn number Begin) place.0.1 ∙ eq-eqb home number (sym (ap node_of place.0.2 ∙ node_is home)));
                  fits = fits Begin txn body found;
                });
          }

      recover_after : (txn : ℕ) → MayStand cluster earlier a act (RecoverEvent txn) → (x : Option TxnId) (o : Option BodyParts) → slice_get plan.bodies txn ≡ o
          → recovers x o ≡ Some act → After act (draws_by (RecoverEvent txn) notes)
      recover_after txn place None o found e = absurd (not_none act e)
      recover_after txn place (Some x) None found e = absurd (not_none act e)
      recover_after txn place (Some x) (Some body) found e =
          let one : Recovers x body ≡ act = some_is (Recovers x body) act e in
          let d : Draw = next_draw_of clock Recover txn in
          let drawn : draws_by (RecoverEvent txn) notes ≡ d ∷ [] =
          ap (draws_by (RecoverEvent txn)) noted ∙ ap (λ (c : Act). draws_by (RecoverEvent txn) (emits cluster earlier a c).notes) (sym one) ∙ recover_draws txn x body in
          let begun : WasBegun cluster earlier txn = begun_has cluster earlier txn stands place.1 in
          record {
            are =
                subst (λ (c : Act). DrawnAfter clock c (AreDrawsOf number start past) (draws_of a earlier ++ draws_by (RecoverEvent txn) notes)) one
                (draws_of a earlier, txn, known.are, ap (λ (l : List Draw). draws_of a earlier ++ l) drawn);
            each =
                one_more d (draws_by (RecoverEvent txn) notes) drawn
                (record {
                  may = next_may number start past (draws_of a earlier) Recover txn known.are may_draw_next (λ same. absurd cc);
                  of_plan = of_plan Recover txn (ap (may_be_drawn number Recover) begun.home_is);
                  fits = fits Recover txn body found;
                });
          }

      slow_after : (x : Option TxnId) → option_map Slows x ≡ Some act → After act []
      slow_after None e = absurd (not_none act e)
      slow_after (Some x) e = subst (λ (c : Act). After c []) (some_is (Slows x) act e) (no_more (Slows x) known.are)

      message_after : (o : Option Message) → option_map Takes o ≡ Some act → After act []
      message_after None e = absurd (not_none act e)
      message_after (Some m) e = subst (λ (c : Act). After c []) (some_is (Takes m) act e) (no_more (Takes m) known.are)

      event_after : (event : Event) → act_of cluster earlier event ≡ Some act → MayStand cluster earlier a act event → After act (draws_by event notes)
      event_after (BeginEvent txn) is place = begin_after txn place (slice_get plan.bodies txn) refl is
      event_after (RecoverEvent txn) is place = recover_after txn place (id_of_txn earlier txn) (slice_get plan.bodies txn) refl is
      event_after (SlowEvent txn) is place = slow_after (id_of_txn earlier txn) is
      event_after (MessageEvent n) is place = message_after (message_at earlier n) is
      event_after (RestartEvent kept) is place = subst (λ (c : Act). After c []) (some_is Restarts act is) (no_more Restarts known.are)

    own_entry : (e : Entry) → StandsOn cluster earlier e → same_actor e.actor a ≡ true → Draws (Step e ∷ earlier)
    own_entry e s here =
        let own : e.actor ≡ a = same e.actor a here in
        let noted : e.emitted.notes ≡ (emits cluster earlier a s.act).notes = ap (λ (m : Emitted). m.notes) s.emitted ∙ ap (λ (b : Actor). (emits cluster earlier b s.act).notes) own in
        let after : After s.act (draws_by e.event e.emitted.notes) =
        event_after s.act e.emitted.notes noted e.event s.act_is (subst (λ (b : Actor). MayStand cluster earlier b s.act e.event) own s.place) in
        let drawn : draws_of a (Step e ∷ earlier) ≡ draws_of a earlier ++ draws_by e.event e.emitted.notes =
        ap (λ (b : Bool). draws_of a earlier ++ cond b (draws_by e.event e.emitted.notes) []) here in
        record {
          are =
              subst (λ (l : List Draw). AreDrawsOf number start (deeds_of cluster a (Step e ∷ earlier)) l) (sym drawn)
              (subst (λ (deeds : List Deed). AreDrawsOf number start deeds (draws_of a earlier ++ draws_by e.event e.emitted.notes))
              (sym (deeds_more cluster earlier e a s.act here s.act_is)) after.are);
          each = subst (EachMay Next []) (sym drawn) after.each;
        }

    other_entry : (e : Entry) → same_actor e.actor a ≡ false → Draws (Step e ∷ earlier)
    other_entry e apart =
        let drawn : draws_of a (Step e ∷ earlier) ≡ draws_of a earlier =
        ap (λ (b : Bool). draws_of a earlier ++ cond b (draws_by e.event e.emitted.notes) []) apart ∙ append-nil (draws_of a earlier) in
        record {
          are =
              subst (λ (l : List Draw). AreDrawsOf number start (deeds_of cluster a (Step e ∷ earlier)) l) (sym drawn)
              (subst (λ (deeds : List Deed). AreDrawsOf number start deeds (draws_of a earlier)) (sym (deeds_same cluster earlier e a apart)) known.are);
          each = subst (EachMay Next []) (sym drawn) known.each;
        }

    entry : (e : Entry) → StandsOn cluster earlier e → (here : Bool) → same_actor e.actor a ≡ here → Draws (Step e ∷ earlier)
    entry e s true here = own_entry e s here
    entry e s false apart = other_entry e apart

    idle : (item : Item) → deeds_of cluster a (item ∷ earlier) ≡ deeds_of cluster a earlier → draws_at a item ≡ [] → Draws (item ∷ earlier)
    idle item deeds none =
        let drawn : draws_of a (item ∷ earlier) ≡ draws_of a earlier = ap (λ (l : List Draw). draws_of a earlier ++ l) none ∙ append-nil (draws_of a earlier) in
        record {
          are =
              subst (λ (l : List Draw). AreDrawsOf number start (deeds_of cluster a (item ∷ earlier)) l) (sym drawn)
              (subst (λ (d : List Deed). AreDrawsOf number start d (draws_of a earlier)) (sym deeds) known.are);
          each = subst (EachMay Next []) (sym drawn) known.each;
        }

  pub draws_known : (items : List Item) → EachStands cluster items → length items < 2 ^ 31 → Draws items
  draws_known [] stands few_items = record { are = refl; each = tt }
  draws_known (Step e ∷ earlier) stands few_items =
      let fewer : length earlier < 2 ^ 31 = omega (arith, few_items) in
      entry earlier stands.1 fewer (draws_known earlier stands.1 fewer) e stands.0 (same_actor e.actor a) refl
  draws_known (Skipped step cause ∷ earlier) stands few_items =
      let fewer : length earlier < 2 ^ 31 = omega (arith, few_items) in
      idle earlier stands.1 fewer (draws_known earlier stands.1 fewer) (Skipped step cause) refl refl
  draws_known (Down actor ∷ earlier) stands few_items =
      let fewer : length earlier < 2 ^ 31 = omega (arith, few_items) in
      idle earlier stands.1 fewer (draws_known earlier stands.1 fewer) (Down actor) refl refl
