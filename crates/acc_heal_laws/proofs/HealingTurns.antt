-- A healing in which nobody goes down gives each transaction that was begun its turn.
use Rattle.std.proofs.Common.{◌≡◌, ℕ, zero, suc, ◌+◌, ◌<◌, ◌≤◌, Bool, true, false, not, cond, List, [], ◌∷◌, ◌++◌, length, Option, None, Some, refl, sym, ◌∙◌, ap, subst, arith, ⊎_elim}
use Rattle.std.specs.List.{list_any, list_all}
use Rattle.std.specs.Option.{option_map}
use Rattle.std.specs.Prelude.{Contains, IsTrue}
use Rattle.std.proofs.lemmas.Bool.{true≢false, and_parts}
use Rattle.std.proofs.lemmas.List.{append_assoc, length-append}
use Rattle.acc_base.specs.Faults.{or_else}
use Rattle.acc_stamp.specs.declared.stamps.TxnId.{TxnId}
use Rattle.acc_stamp.specs.declared.stamps.Ballot.{Ballot}
use Rattle.acc_stamp.specs.Actor.{node_of_stamp, actor_of}
use Rattle.acc_stamp.proofs.Order.{id_order}
use Rattle.acc_topology.specs.Layout.{Layout}
use Rattle.acc_topology.specs.Sets.{is_among}
use Rattle.acc_message.specs.declared.message.Message.{Message}
use Rattle.acc_message.specs.declared.entry.Entry.{Entry}
use Rattle.acc_message.specs.declared.entry.Event.TheVariants.{Recover as RecoverEvent}
use Rattle.acc_message.specs.declared.note.Note.TheVariants.{Recover as RecoverNote}
use Rattle.acc_message.specs.declared.item.Skip.TheVariants.{Down as IsDown, Unknown}
use Rattle.acc_message.specs.declared.item.Item.{Item}
use Rattle.acc_message.specs.declared.item.Item.TheVariants.{Step as StepItem, Skipped, Down}
use Rattle.acc_message.specs.Fields.{to_of}
use Rattle.acc_message.specs.Items.{sent_of, message_at, noted_in, txn_of, is_begun}
use Rattle.acc_message.specs.Shares.{stores_used}
use Rattle.acc_message.specs.Coordinator.{home_node}
use Rattle.acc_message.specs.Run.{Cluster, EachStands, is_down}
use Rattle.acc_actor_laws.proofs.Standing.{not_none}
use Rattle.acc_run_laws.specs.Asks.{skip_if, entry_at}
use Rattle.acc_run_laws.proofs.AskFacts.{nothing_is_run}
use Rattle.acc_safety.specs.Decisions.{body_at}
use Rattle.acc_safety.specs.Places.{IsIn, First, Later, IsPast, Whole, Behind}
use Rattle.acc_safety.specs.Valid.{IsStanding, IsValidCluster}
use Rattle.acc_safety.proofs.PlaceOrder.{IsPast-trans, IsIn-cases}
use Rattle.acc_safety.proofs.Bridge.{EachStands-past}
use Rattle.acc_calm.proofs.Delivered.{all_in}
use Rattle.acc_schedule.specs.declared.plan.Step.{Step}
use Rattle.acc_schedule.specs.declared.plan.Step.TheVariants.{Recover, Drain}
use Rattle.acc_schedule.specs.Actors.{actors}
use Rattle.acc_schedule.specs.Content.{Content}
use Rattle.acc_schedule.specs.Plan.{IsPlan}
use Rattle.acc_schedule_runs.specs.Situations.{Situation, opened, whole, is_lost}
use Rattle.acc_schedule_runs.specs.Moves.{Answers, entered, tried, stepped_unless, recover_skip, Drains, IsNext}
use Rattle.acc_schedule_runs.specs.Schedules.{Follows, cluster_of}
use Rattle.acc_schedule_runs.specs.Fronts.{Begins}
use Rattle.acc_schedule_runs.specs.Laws.{NobodyIsDown}
use Rattle.acc_schedule_runs.proofs.GivesRuns.{Sound, sound_last, sound_opened, sound_run, sound_earlier, steps_of_plan}
use Rattle.acc_pasts.proofs.Situations.{whole_alone}
use Rattle.acc_delivered.proofs.Deliveries.{append_is_past}
use Rattle.acc_delivered.specs.Rounds.{IsRound, is_delivery}
use Rattle.acc_delivered.specs.Stretches.{item_takes_from}
use Rattle.acc_delivered.specs.Ends.{is_ended, took_apply}
use Rattle.acc_heal_laws.specs.Stages.{Stage, Turns, EndsFirst, Repeats, EndsSecond, Turn, turn_or, turn_at, turn_step, recover_unless, all_took_apply, next_turn, reopening, due, newest_ballot, ballot_in, stage_of_turn, begun_ids}
use Rattle.acc_heal_laws.specs.Healings.{Standing, Goes, standing_after, moving_with, beginning, IsHealing}
use Rattle.acc_heal_laws.specs.Turned.{EachTookApply, Turned, NoneLeft, PassedOver, Once, Twice, HasTurned}
use Rattle.acc_heal_laws.specs.Laws.{is_recover_of, IsHealingWithoutDowns, HealingTurns}
use Rattle.acc_heal_laws.proofs.Growing.{GoesTo, next_goes, drained_goes, follows_goes}
use Rattle.acc_heal_laws.proofs.Delivering.{IsSane, Through, drained, entered_sane, entered_through, tried_enters, all_through, all_taken, all_append}
use Rattle.acc_heal_laws.proofs.Reopened.{each_reopens, down_is_reopened, goes_goes, reopens, TurnsBegin}
use Rattle.acc_heal_laws.proofs.KnownSteps.{reopening_known}
use Rattle.acc_heal_laws.proofs.Recovers.{few_none, few_nothing}
use Rattle.acc_heal_laws.proofs.Numbers.{Numbered, numbered, numbered_past, NotesRecover, recover_notes}
use Rattle.acc_heal_laws.proofs.SoundHealing.{one_step, is_turn, goes_sound}

-- ---- items that others begin with

pub past_begins : (past items : List Item) → IsPast past items → Begins past items
past_begins past items (Whole ys) = record { later = []; items_are = refl }
past_begins past items (Behind item ys zs there) =
    let rest = past_begins ys zs there in record { later = item ∷ rest.later; items_are = ap (λ k. item ∷ k) rest.items_are }

-- each transaction has its turn, and none is recovered before the turns
pub record TurnedAlone (cluster : Cluster) (before items : List Item) : Type 0 where
  pub turned : HasTurned cluster before items
  pub none : (x : TxnId) → list_any (is_recover_of x) turned.begins.later ≡ false

-- ---- turns that are passed over

no_step : {T : Type 0} (x : T) → Some x ≡ None → ⊥
no_step x e = cc

took_unless : (cluster : Cluster) (items : List Item) (x : TxnId) → turn_step cluster items x ≡ None → EachTookApply cluster items x
took_unless cluster items x none body store is there = by (txn_of items x) is none
  where
    by : (o : Option ℕ) → body_at cluster o ≡ Some body → turn_at cluster items x o ≡ None → took_apply cluster items x store ≡ true
    by None found e = absurd (not_none body found)
    by (Some txn) found e =
        all_in (took_apply cluster items x) (stores_used cluster.layout body) store
        (all (all_took_apply cluster items x (Some body)) (subst (λ o. recover_unless (all_took_apply cluster items x o) x txn ≡ None) found e)) there
      where
        all : (o : Bool) → recover_unless o x txn ≡ None → o ≡ true
        all true f = refl
        all false f = absurd (no_step (Recover txn (node_of_stamp x.0)) f)

none_turns : (cluster : Cluster) (items : List Item) (ids : List TxnId) → next_turn cluster items ids ≡ None → Turned cluster items ids items
none_turns cluster items [] e = NoneLeft
none_turns cluster items (x ∷ ids) e = by (turn_step cluster items x) refl e (none_turns cluster items ids)
  where
    by : (o : Option Step) → turn_step cluster items x ≡ o → turn_or o x ids (next_turn cluster items ids) ≡ None
        → (next_turn cluster items ids ≡ None → Turned cluster items ids items) → Turned cluster items (x ∷ ids) items
    by None was f rest = PassedOver x ids items (took_unless cluster items x was) (rest f)
    by (Some step) was f rest = absurd (no_step (record { id = x; step = step; rest = ids }) f)

turned_from : (cluster : Cluster) (items base : List Item) (ids : List TxnId) (turn : Turn) → next_turn cluster base ids ≡ Some turn
    → Turned cluster items (turn.id ∷ turn.rest) base → Turned cluster items ids base
turned_from cluster items base [] turn e turned = absurd (not_none turn e)
turned_from cluster items base (x ∷ ids) turn e turned = by (turn_step cluster base x) refl e (turned_from cluster items base ids turn)
  where
    by : (o : Option Step) → turn_step cluster base x ≡ o → turn_or o x ids (next_turn cluster base ids) ≡ Some turn
        → (next_turn cluster base ids ≡ Some turn → Turned cluster items (turn.id ∷ turn.rest) base → Turned cluster items ids base)
        → Turned cluster items (x ∷ ids) base
    by None was f rest = PassedOver x ids base (took_unless cluster base x was) (rest f turned)
    by (Some step) was f rest =
        subst (λ (t : Turn). Turned cluster items (t.id ∷ t.rest) base) (sym (one_step (record { id = x; step = step; rest = ids }) turn f)) turned

-- ---- lists

delivery_kept : (item : Item) → is_delivery item ≡ true → is_lost item ≡ false
delivery_kept (StepItem e) h = not_lost e.lost (and_parts _ (not e.lost) h).1
  where
    not_lost : (o : Bool) → not o ≡ true → o ≡ false
    not_lost true f = absurd (true≢false (sym f))
    not_lost false f = refl
delivery_kept (Skipped step cause) h = refl
delivery_kept (Down actor) h = refl

all_kept : (deliveries : List Item) (last : Item) → list_all is_delivery deliveries ≡ true → is_lost last ≡ false → (item : Item) → IsIn item (deliveries ++ last ∷ []) → is_lost item ≡ false
all_kept [] last all kept item (First _ _) = kept
all_kept [] last all kept item (Later _ _ _ never) = elim never [ ]
all_kept (d ∷ deliveries) last all kept item there =
    let parts = and_parts (is_delivery d) (list_all is_delivery deliveries) all in
    ⊎_elim (λ is. subst (λ k. is_lost k ≡ false) (sym is) (delivery_kept d parts.0)) (λ more. all_kept deliveries last parts.1 kept item more)
    (IsIn-cases item d (deliveries ++ last ∷ []) there)

newest_is : (x : TxnId) (item : Item) (earlier : List Item) (b : Ballot) → noted_in item ≡ RecoverNote x b ∷ [] → newest_ballot x (item ∷ earlier) ≡ Some b
newest_is x item earlier b notes =
    ap (ballot_in x) notes ∙ ap (λ o. cond o (Some b) None) ((id_order.decides x x).1 refl)

-- ---- rounds of a healing

module _ (plan : Content) (answers : Answers) (bound final later : List Item) (final_is : final ≡ later ++ bound) (nobody : NobodyIsDown later)
    (standing : IsStanding (cluster_of plan) final)
    (receivers : (items : List Item) (number : ℕ) (m : Message) → IsStanding (cluster_of plan) items → message_at items number ≡ Some m → Contains (actors plan.topology) (to_of m))
    (nodes : (node : ℕ) → IsTrue (is_among plan.topology.nodes node) → Contains (actors plan.topology) (actor_of node 0)) where
  abbrev cluster : Cluster
  cluster = cluster_of plan

  -- all actors are up, all messages are through, and the healing has begun
  record Quiet (s : Situation) : Type 0 where
    sane : IsSane cluster bound final later final_is nobody standing receivers s
    through : Through cluster bound final later final_is nobody standing receivers s (length (sent_of s.own))
    behind : IsPast bound s.own

  -- what a recover enters
  abbrev recover_of : Situation → TxnId → ℕ → Entry
  recover_of s x txn = entry_at cluster (whole s) (home_node x) (RecoverEvent txn)

  record Recovered (s next : Situation) (x : TxnId) (txn : ℕ) : Type 0 where
    next_is : next ≡ entered cluster s (home_node x) (RecoverEvent txn) false
    ballot : Ballot
    notes : (recover_of s x txn).emitted.notes ≡ RecoverNote x ballot ∷ []
    newest : newest_ballot x (whole next) ≡ Some ballot

  not_skipped : (s : Situation) (x : TxnId) (txn : ℕ) → Quiet s → Numbered cluster s.own x txn → recover_skip s txn (node_of_stamp x.0) ≡ None
  not_skipped s x txn quiet n =
      let alone = whole_alone s quiet.sane.earlier_is in
      let up : is_down (home_node x) (whole s) ≡ false = ap (is_down (home_node x)) alone ∙ quiet.sane.up (home_node x) (nodes (node_of_stamp x.0) n.node) in
      let begun : is_begun (whole s) txn ≡ true = ap (λ items. is_begun items txn) alone ∙ n.begun in
      ap (λ o. or_else (skip_if o (IsDown (home_node x))) (skip_if (not (is_begun (whole s) txn)) (Unknown txn))) up
      ∙ ap (λ o. skip_if (not o) (Unknown txn)) begun

  recovered : (number : ℕ) (s next : Situation) (x : TxnId) (txn : ℕ) → Quiet s → IsPast next.own final → Numbered cluster s.own x txn
      → IsNext cluster answers number (Recover txn (node_of_stamp x.0)) s next → Recovered s next x txn
  recovered number s next x txn quiet inside n is =
      let to_tried : next ≡ tried cluster answers s (home_node x) (RecoverEvent txn) =
      is ∙ ap (λ o. stepped_unless o cluster answers number s (home_node x) (RecoverEvent txn)) (not_skipped s x txn quiet n) in
      let next_is : next ≡ entered cluster s (home_node x) (RecoverEvent txn) false =
      to_tried ∙ tried_enters cluster bound final later final_is nobody standing receivers answers s (home_node x) (RecoverEvent txn) quiet.behind
      (subst (λ (k : Situation). IsPast k.own final) to_tried inside) in
      let alone : whole s ≡ s.own = whole_alone s quiet.sane.earlier_is in
      let stands : EachStands cluster (StepItem (recover_of s x txn) ∷ s.own) =
      EachStands-past cluster (StepItem (recover_of s x txn) ∷ s.own) final (subst (λ (k : Situation). IsPast k.own final) next_is inside) standing.stands in
      let noted : NotesRecover (recover_of s x txn) x =
      recover_notes cluster s.own (recover_of s x txn) x txn (node_of_stamp x.0) stands.0 refl refl n.id_is in
      record {
        next_is = next_is;
        ballot = noted.ballot;
        notes = noted.notes;
        newest =
            ap (λ (k : Situation). newest_ballot x (whole k)) next_is
            ∙ ap (newest_ballot x) (whole_alone (entered cluster s (home_node x) (RecoverEvent txn) false) quiet.sane.earlier_is)
            ∙ newest_is x (StepItem (recover_of s x txn)) s.own noted.ballot noted.notes;
      }

  record Rounded (s last : Situation) (x : TxnId) (b : Ballot) : Type 0 where
    items : List Item
    own_is : last.own ≡ items ++ s.own
    round : IsRound (home_node x) x b s.own items
    quiet : Quiet last

  rounded : (s next last : Situation) (x : TxnId) (txn : ℕ) → Quiet s → (r : Recovered s next x txn) → Drains cluster answers last next → IsPast last.own final
      → Rounded s last x r.ballot
  rounded s next last x txn quiet r drains inside =
      let item : Item = StepItem (recover_of s x txn) in
      let now : Situation = entered cluster s (home_node x) (RecoverEvent txn) false in
      let drains_now : Drains cluster answers last now = subst (Drains cluster answers last) r.next_is drains in
      let grown : GoesTo now last = drained_goes cluster answers last now drains_now in
      let s_now : IsPast s.own now.own = Behind item s.own s.own (Whole s.own) in
      let s_inside : IsPast s.own final = IsPast-trans s.own now.own final s_now (IsPast-trans now.own last.own final grown.grows inside) in
      let d =
      drained cluster bound final later final_is nobody standing receivers answers (length (sent_of s.own)) last now drains_now
      (entered_sane cluster bound final later final_is nobody standing receivers s (home_node x) (RecoverEvent txn) quiet.sane)
      (entered_through cluster bound final later final_is nobody standing receivers s (home_node x) (RecoverEvent txn) quiet.sane (length (sent_of s.own)) (omega arith) quiet.through)
      (more (length (sent_of s.own)) (length (recover_of s x txn).emitted.out) (length (sent_of now.own)) (length-append (sent_of s.own) (recover_of s x txn).emitted.out)) (IsPast-trans bound s.own now.own quiet.behind s_now) inside in
      let through = all_through cluster bound final later final_is nobody standing receivers last d.sane inside d.none in
      let own_is : last.own ≡ (d.deliveries ++ item ∷ []) ++ s.own = d.own_is ∙ sym (append_assoc d.deliveries (item ∷ []) s.own) in
      record {
        items = d.deliveries ++ item ∷ [];
        own_is = own_is;
        round = record {
          entry = recover_of s x txn;
          deliveries = d.deliveries;
          items_are = refl;
          recover = record { txn = txn; event_is = refl; actor_is = refl; noted = r.notes };
          kept = refl;
          only = d.only;
          own = all_append (item_takes_from (length (sent_of s.own))) d.deliveries (item ∷ []) d.takes refl;
          all =
              all_taken cluster bound final later final_is nobody standing receivers s last (d.deliveries ++ item ∷ []) own_is (all_kept d.deliveries item d.only refl) quiet.sane
              d.dropped_is s_inside through;
        };
        quiet = record {
          sane = d.sane;
          through = through;
          behind = IsPast-trans bound now.own last.own (IsPast-trans bound s.own now.own quiet.behind s_now) grown.grows;
        };
      }
    where
      more : (i j k : ℕ) → k ≡ i + j → i ≤ k
      more i j k e = omega (arith, e)

  -- ---- turns

  abbrev Place : Stage → Situation → Standing Situation
  Place stage s = record { stage = stage; at = s }

  abbrev Going : ℕ → List Step → Stage → Situation → Standing Situation → Type 0
  Going number steps stage s to = Goes (moving_with plan answers) number steps (Place stage s) to

  abbrev IsDone : Standing Situation → Type 0
  IsDone to = due cluster to.stage (whole to.at) ≡ None

  -- healings of at most so many steps give the transactions their turns
  abbrev Walks : ℕ → Type 0
  Walks most =
      (ids : List TxnId) (number : ℕ) (steps : List Step) (s : Situation) (to : Standing Situation) → length steps < most → Quiet s → IsPast to.at.own final
      → Going number steps (Turns ids) s to → IsDone to → Turned cluster to.at.own ids s.own

  not_done : (step : Step) (stage : Stage) (s : Situation) (to : Standing Situation) → to ≡ Place stage s → due cluster stage (whole s) ≡ Some step → IsDone to → ⊥
  not_done step stage s to is due_is done =
      no_step step (sym due_is ∙ subst (λ (k : Standing Situation). due cluster k.stage (whole k.at) ≡ None) is done)

  next_inside : (number : ℕ) (step : Step) (steps : List Step) (stage : Stage) (s : Situation) (to : Standing Situation) → IsPast to.at.own final
      → (g : Going number (step ∷ steps) stage s to) → IsPast g.0.own final
  next_inside number step steps stage s to inside g =
      IsPast-trans g.0.own to.at.own final
      (goes_goes plan answers (number + 1) steps (standing_after (moving_with plan answers) (Place stage s) g.0) to g.3).grows inside

  next_by : (number : ℕ) (step other : Step) (s next : Situation) → Some other ≡ Some step → IsNext cluster answers number step s next → IsNext cluster answers number other s next
  next_by number step other s next e is = subst (λ k. IsNext cluster answers number k s next) (sym (one_step other step e)) is

  fewer : {n k : ℕ} → suc n < suc k → n < k
  fewer h = omega (arith, h)

  less : {n k : ℕ} → suc n < k → n < k
  less h = omega (arith, h)

  module _ (most : ℕ) (rest : Walks most) (x : TxnId) (txn : ℕ) (turn : Turn) (id_is : turn.id ≡ x) (step_is : turn.step ≡ Recover txn (node_of_stamp x.0)) where
    -- the drain of the second recover, and what comes after it
    second_ends : (number : ℕ) (steps : List Step) (s next : Situation) (to : Standing Situation) → length steps < most → Quiet s → (r : Recovered s next x txn)
        → IsPast to.at.own final → Going number steps (EndsSecond turn) next to → IsDone to
        → (Goal : Type 0) → ((last : Situation) → Rounded s last x r.ballot → Turned cluster to.at.own turn.rest last.own → Goal) → Goal
    second_ends number [] s next to few quiet r inside g done Goal made = absurd (not_done Drain (EndsSecond turn) next to g refl done)
    second_ends number (step ∷ steps) s next to few quiet r inside g done Goal made =
        let round = rounded s next g.0 x txn quiet r (next_by number step Drain next g.0 g.1 g.2) (next_inside number step steps (EndsSecond turn) next to inside g) in
        made g.0 round (rest turn.rest (number + 1) steps g.0 to (less few) round.quiet inside g.3 done)

    -- the second recover
    repeats : (number : ℕ) (steps : List Step) (s : Situation) (to : Standing Situation) → length steps < most → Quiet s → Numbered cluster s.own x txn
        → IsPast to.at.own final → Going number steps (Repeats turn) s to → IsDone to
        → (Goal : Type 0) → ((last : Situation) (c : Ballot) → Rounded s last x c → Turned cluster to.at.own turn.rest last.own → Goal) → Goal
    repeats number [] s to few quiet n inside g done Goal made = absurd (not_done turn.step (Repeats turn) s to g refl done)
    repeats number (step ∷ steps) s to few quiet n inside g done Goal made =
        let r = recovered number s g.0 x txn quiet (next_inside number step steps (Repeats turn) s to inside g) n
        (next_by number step (Recover txn (node_of_stamp x.0)) s g.0 (ap Some (sym step_is) ∙ g.1) g.2) in
        second_ends (number + 1) steps s g.0 to (less few) quiet r inside g.3 done Goal (λ last round turned. made last r.ballot round turned)

    after_first : (number : ℕ) (steps : List Step) (s last : Situation) (b : Ballot) (to : Standing Situation) → length steps < most → Numbered cluster s.own x txn
        → (round : Rounded s last x b) → IsPast to.at.own final → (o : Bool) → is_ended x b last.own ≡ o
        → Going number steps (cond o (Repeats turn) (Turns turn.rest)) last to → IsDone to → Turned cluster to.at.own (x ∷ turn.rest) s.own
    after_first number steps s last b to few n round inside false ended g done =
        Once x turn.rest b s.own round.items round.round (subst (λ l. is_ended x b l ≡ false) round.own_is ended)
        (subst (Turned cluster to.at.own turn.rest) round.own_is (rest turn.rest number steps last to few round.quiet inside g done))
    after_first number steps s last b to few n round inside true ended g done =
        repeats number steps last to few round.quiet
        (numbered_past cluster s.own last.own x txn (subst (IsPast s.own) (sym round.own_is) (append_is_past round.items s.own)) n) inside g done
        (Turned cluster to.at.own (x ∷ turn.rest) s.own)
        (λ end c second turned.
        Twice x turn.rest b c s.own round.items second.items round.round (subst (λ l. is_ended x b l ≡ true) round.own_is ended)
        (subst (λ l. IsRound (home_node x) x c l second.items) round.own_is second.round)
        (subst (λ l. Turned cluster to.at.own turn.rest (second.items ++ l)) round.own_is (subst (Turned cluster to.at.own turn.rest) second.own_is turned)))

    -- the drain of the first recover
    first_ends : (number : ℕ) (steps : List Step) (s next : Situation) (to : Standing Situation) → length steps < most → Quiet s → Numbered cluster s.own x txn
        → (r : Recovered s next x txn) → IsPast to.at.own final → Going number steps (EndsFirst turn (Some r.ballot)) next to → IsDone to
        → Turned cluster to.at.own (x ∷ turn.rest) s.own
    first_ends number [] s next to few quiet n r inside g done = absurd (not_done Drain (EndsFirst turn (Some r.ballot)) next to g refl done)
    first_ends number (step ∷ steps) s next to few quiet n r inside g done =
        let round =
        rounded s next g.0 x txn quiet r (next_by number step Drain next g.0 g.1 g.2)
        (next_inside number step steps (EndsFirst turn (Some r.ballot)) next to inside g) in
        after_first (number + 1) steps s g.0 r.ballot to (less few) n round inside (is_ended x r.ballot g.0.own) refl
        (subst (λ o. Going (number + 1) steps (cond o (Repeats turn) (Turns turn.rest)) g.0 to)
        (ap (λ y. is_ended y r.ballot (whole g.0)) id_is ∙ ap (is_ended x r.ballot) (whole_alone g.0 round.quiet.sane.earlier_is)) g.3) done

  one_turn : (most : ℕ) → Walks most → Walks (suc most)
  one_turn most rest ids number [] s to few quiet inside g done =
      let own : to.at.own ≡ s.own = ap (λ (k : Standing Situation). k.at.own) g in
      subst (λ l. Turned cluster l ids s.own) (sym own)
      (none_turns cluster s.own ids (none (next_turn cluster s.own ids)
      (subst (λ l. option_map (λ (turn : Turn). turn.step) (next_turn cluster l ids) ≡ None) (whole_alone s quiet.sane.earlier_is)
      (subst (λ (k : Standing Situation). due cluster k.stage (whole k.at) ≡ None) g done))))
    where
      none : (o : Option Turn) → option_map (λ (turn : Turn). turn.step) o ≡ None → o ≡ None
      none None e = refl
      none (Some turn) e = absurd (no_step turn.step e)
  one_turn most rest ids number (step ∷ steps) s to few quiet inside g done = by (next_turn cluster (whole s) ids) refl g.1
    where
      by : (o : Option Turn) → next_turn cluster (whole s) ids ≡ o → option_map (λ (turn : Turn). turn.step) o ≡ Some step → Turned cluster to.at.own ids s.own
      by None was e = absurd (not_none step e)
      by (Some turn) was e =
          let alone : whole s ≡ s.own = whole_alone s quiet.sane.earlier_is in
          let t = is_turn cluster (whole s) ids turn was in
          let n : Numbered cluster s.own turn.id t.txn =
          numbered cluster standing.valid s.own turn.id t.txn
          (EachStands-past cluster s.own final (IsPast-trans s.own g.0.own final (next_goes cluster answers number step s g.0 g.2).grows (next_inside number step steps (Turns ids) s to inside g)) standing.stands)
          (subst (λ l. txn_of l turn.id ≡ Some t.txn) alone t.txn_is) in
          let r =
          recovered number s g.0 turn.id t.txn quiet (next_inside number step steps (Turns ids) s to inside g) n
          (next_by number step (Recover t.txn (node_of_stamp turn.id.0)) s g.0 (ap Some (sym t.step_is) ∙ e) g.2) in
          turned_from cluster to.at.own s.own ids turn (subst (λ l. next_turn cluster l ids ≡ Some turn) alone was)
          (first_ends most rest turn.id t.txn turn refl t.step_is (number + 1) steps s g.0 to (fewer few) quiet n r inside
          (subst (λ o. Going (number + 1) steps (EndsFirst turn o) g.0 to) r.newest
          (subst (λ o. Going (number + 1) steps (stage_of_turn o (whole g.0)) g.0 to) was g.3)) done)

  walks : (most : ℕ) → Walks most
  walks zero ids number steps s to few quiet inside g done = absurd (never few)
    where
      never : {n : ℕ} → n < 0 → ⊥
      never h = omega (arith, h)
  walks (suc most) ids number steps s to few quiet inside g done = one_turn most (walks most) ids number steps s to few quiet inside g done

  pub walks_all : (to : Standing Situation) → TurnsBegin plan answers bound final later final_is nobody standing receivers to → IsPast to.at.own final
      → IsDone to → TurnedAlone cluster bound to.at.own
  walks_all to t inside done =
      let begins : Begins bound t.quiet.own = past_begins bound t.quiet.own t.behind in
      record {
        turned = record {
          base = t.quiet.own;
          begins = begins;
          turned =
              walks (suc (length t.steps)) (begun_ids t.quiet.own) t.number t.steps t.quiet to (omega arith)
              (record { sane = t.sane; through = t.through; behind = t.behind }) inside t.goes done;
        };
        none = λ x. few_nothing x bound t.quiet.own begins.later (t.few x) begins.items_are;
      }

-- ---- all of it

-- what a healing comes to
pub record Comes (plan : Content) (between last : Situation) : Type 0 where
  pub starts : Sound (cluster_of plan) [] between
  pub ends : Sound (cluster_of plan) [] last

pub between_sound : (plan : Content) (answers : Answers) (between : Situation) → IsPlan plan → Follows (cluster_of plan) answers 0 plan.steps (opened []) between
    → Sound (cluster_of plan) [] between
between_sound plan answers between is_plan follows =
    sound_last (cluster_of plan) [] answers 0 plan.steps (opened []) between (steps_of_plan plan is_plan plan.steps is_plan.steps_known) follows
    (sound_opened (cluster_of plan) [] (nothing_is_run (cluster_of plan)).run)

pub healing_comes : (plan : Content) (answers : Answers) (steps : List Step) (between last : Situation) → IsPlan plan → IsValidCluster (cluster_of plan)
    → IsHealing plan answers steps between last → Comes plan between last
healing_comes plan answers steps between last is_plan valid h =
    let first = between_sound plan answers between is_plan h.follows in
    record {
      starts = first;
      ends =
          (goes_sound plan answers is_plan valid (length plan.steps) steps (beginning plan between) (record { stage = h.heals.stage; at = last })
          (record { carried = reopening_known plan (whole between); sound = first }) h.heals.goes).sound;
    }

pub healing_stands : (plan : Content) (answers : Answers) (steps : List Step) (between last : Situation) → IsPlan plan → IsValidCluster (cluster_of plan)
    → IsHealing plan answers steps between last → IsStanding (cluster_of plan) last.own
healing_stands plan answers steps between last is_plan valid h =
    let comes = healing_comes plan answers steps between last is_plan valid h in
    record {
      valid = valid;
      stands =
          subst (EachStands (cluster_of plan)) (whole_alone last (sound_earlier (cluster_of plan) [] last comes.ends))
          (sound_run (cluster_of plan) [] last comes.ends).stands;
    }

module _ (valid_of : (plan : Content) → IsPlan plan → IsValidCluster (cluster_of plan))
    (receivers : (cluster : Cluster) (items : List Item) (number : ℕ) (m : Message) → IsStanding cluster items → message_at items number ≡ Some m → Contains (actors cluster.layout) (to_of m))
    (nodes : (layout : Layout) (node : ℕ) → IsTrue (is_among layout.nodes node) → Contains (actors layout) (actor_of node 0)) where
  pub turned_alone : (plan : Content) (answers : Answers) (steps : List Step) (between last : Situation) → IsHealingWithoutDowns plan answers steps between last
      → TurnedAlone (cluster_of plan) between.own last.own
  turned_alone plan answers steps between last h =
      let cluster : Cluster = cluster_of plan in
      let valid = valid_of plan h.is_plan in
      let todo : List Step = reopening plan (whole between) in
      let to : Standing Situation = record { stage = h.healing.heals.stage; at = last } in
      let first_sound = (healing_comes plan answers steps between last h.is_plan valid h.healing).starts in
      let alone : whole between ≡ between.own = whole_alone between (sound_earlier cluster [] between first_sound) in
      let standing : IsStanding cluster last.own = healing_stands plan answers steps between last h.is_plan valid h.healing in
      let begin =
      reopens plan answers between.own last.own h.later h.items_are h.nobody_down standing (receivers cluster) todo (length plan.steps) steps between to
      (each_reopens plan (whole between)) (sound_earlier cluster [] between first_sound)
      ((follows_goes cluster answers 0 plan.steps (opened []) between h.healing.follows).drops (λ n none. absurd (true≢false (sym none))))
      (λ a there down. down_is_reopened plan (whole between) a there (ap (is_down a) alone ∙ down)) (Whole between.own) (Whole last.own)
      (λ x. few_none x between.own between.own refl) h.healing.heals.goes h.healing.heals.done in
      walks_all plan answers between.own last.own h.later h.items_are h.nobody_down standing (receivers cluster) (nodes plan.topology) to begin (Whole last.own)
      h.healing.heals.done

  pub healing_turns : HealingTurns
  healing_turns plan answers steps between last h = (turned_alone plan answers steps between last h).turned
