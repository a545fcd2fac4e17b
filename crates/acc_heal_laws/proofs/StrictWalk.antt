-- A healing over strict disks, stage by stage: it recovers each transaction twice at most, so no armed call is met.
use Rattle.std.proofs.Common.{◌≡◌, ℕ, suc, ◌+◌, ◌*◌, ◌/◌, ◌<◌, ◌≤◌, Bool, true, false, cond, List, [], ◌∷◌, length, Option, None, Some, refl, sym, ◌∙◌, ap, subst, arith}
use Rattle.std.specs.Option.{option_map}
use Rattle.std.specs.List.{flat_map}
use Rattle.std.specs.Prelude.{if◌then◌else◌}
use Rattle.std.proofs.lemmas.List.{length-append}
use Rattle.std.proofs.lemmas.Grind.{flat_map-append}
use Rattle.acc_stamp.specs.declared.stamps.TxnId.{TxnId}
use Rattle.acc_stamp.specs.declared.stamps.Ballot.{Ballot}
use Rattle.acc_stamp.specs.declared.actors.Actor.{Actor}
use Rattle.acc_stamp.specs.Rising.{rising_with, rising_union}
use Rattle.acc_stamp.specs.Stamp.{id_lt}
use Rattle.acc_message.specs.declared.note.Note.{Note}
use Rattle.acc_message.specs.declared.note.Note.TheVariants.{Begin as BeginNote, Recover as RecoverNote, Blocked, Ended, Decide, Outcome as OutcomeNote, Reply as ReplyNote}
use Rattle.acc_message.specs.declared.item.Item.{Item}
use Rattle.acc_message.specs.Items.{notes_of, noted_in}
use Rattle.acc_message.specs.Run.{Cluster, EachStands}
use Rattle.acc_actor_laws.proofs.Standing.{not_none}
use Rattle.acc_run_laws.proofs.Begun.{begun_in, begun_of, begun_few}
use Rattle.acc_schedule.specs.declared.plan.Step.{Step}
use Rattle.acc_schedule.specs.declared.plan.Step.TheVariants.{Begin, Deliver, Drop, Recover, Slow, Restart, Fail, Drain}
use Rattle.acc_schedule.specs.Content.{Content}
use Rattle.acc_schedule_runs.specs.Situations.{whole}
use Rattle.acc_schedule_runs.specs.Schedules.{cluster_of}
use Rattle.acc_schedule_runs.specs.Disks.{Disks, after_fail, step_answers}
use Rattle.acc_schedule_runs.specs.StrictMoves.{StrictSituation, IsStrictNext}
use Rattle.acc_schedule_runs.specs.StrictLaws.{after_steps}
use Rattle.acc_delivered.specs.Ends.{is_ended}
use Rattle.acc_heal_laws.specs.Stages.{Stage, Reopens, Turns, EndsFirst, Repeats, EndsSecond, Turn, turn_or, turn_step, next_turn, due, stage_after, stage_of_turn, id_begun_by, begun_ids}
use Rattle.acc_heal_laws.specs.Healings.{Standing, Goes, standing_after, moving_strictly}
use Rattle.acc_heal_laws.proofs.SoundHealing.{one_step, is_turn}
use Rattle.acc_heal_laws.proofs.StrictDisks.{AreFine, most_recovers}
use Rattle.acc_heal_laws.proofs.StrictAdds.{Adds, adds_same, adds_chain, AddsFine, drain, recover}

-- ---- how many transactions have a turn

with_length : (x : TxnId) (xs : List TxnId) → length (rising_with id_lt x xs) ≤ suc (length xs)
with_length x [] = omega arith
with_length x (y ∷ ys) = by (id_lt x y) (id_lt y x) (with_length x ys)
  where
    by : (o p : Bool) → length (rising_with id_lt x ys) ≤ suc (length ys)
        → length (if o then x ∷ y ∷ ys else (if p then y ∷ rising_with id_lt x ys else y ∷ ys)) ≤ suc (suc (length ys))
    by true p h = omega arith
    by false true h = omega (arith, h)
    by false false h = omega arith

union_length : (ys : List TxnId) → length (rising_union id_lt [] ys) ≤ length ys
union_length [] = omega arith
union_length (y ∷ ys) = omega (arith, with_length y (rising_union id_lt [] ys), union_length ys)

same_begun : (note : Note) → length (id_begun_by note) ≡ length (begun_in note)
same_begun (BeginNote id) = refl
same_begun (RecoverNote id ballot) = refl
same_begun (Blocked id ballot by) = refl
same_begun (Ended id ballot by) = refl
same_begun (Decide id t path deps) = refl
same_begun (OutcomeNote id reply) = refl
same_begun (ReplyNote id reply) = refl

all_begun : (notes : List Note) → length (flat_map id_begun_by notes) ≡ length (flat_map begun_in notes)
all_begun [] = refl
all_begun (note ∷ notes) =
    omega (arith, length-append (id_begun_by note) (flat_map id_begun_by notes), length-append (begun_in note) (flat_map begun_in notes), same_begun note, all_begun notes)

begun_length : (items : List Item) → length (flat_map id_begun_by (notes_of items)) ≡ length (begun_of items)
begun_length [] = refl
begun_length (item ∷ earlier) =
    ap length (flat_map-append id_begun_by (notes_of earlier) (noted_in item))
    ∙ sum (length-append (flat_map id_begun_by (notes_of earlier)) (flat_map id_begun_by (noted_in item))) (all_begun (noted_in item)) (begun_length earlier)
    (length-append (flat_map begun_in (noted_in item)) (begun_of earlier))
  where
    sum : {a b c d e f : ℕ} → a ≡ b + c → c ≡ d → b ≡ e → f ≡ d + e → a ≡ f
    sum p q r s = omega (arith, p, q, r, s)

pub few_turns : (cluster : Cluster) (items : List Item) → EachStands cluster items → length (begun_ids items) ≤ length cluster.bodies
few_turns cluster items h =
    let one = union_length (flat_map id_begun_by (notes_of items)) in
    let two = begun_length items in
    let three = begun_few cluster items h in
    chain one two three
  where
    chain : {a b c d : ℕ} → a ≤ b → b ≡ c → c ≤ d → a ≤ d
    chain p q r = omega (arith, p, q, r)

-- ---- stages

-- how many recovers a healing can still begin
abbrev pub budget : Stage → ℕ
budget (Reopens todo) = 0
budget (Turns ids) = 2 * length ids
budget (EndsFirst turn drawn) = 1 + 2 * length turn.rest
budget (Repeats turn) = 1 + 2 * length turn.rest
budget (EndsSecond turn) = 2 * length turn.rest

abbrev IsRecoverStep : Step → Type 0
IsRecoverStep (Recover txn node) = Unit {0}
IsRecoverStep _ = ⊥

-- the healing is at its turns, and each turn recovers
abbrev pub IsTurning : Stage → Type 0
IsTurning (Reopens todo) = ⊥
IsTurning (Turns ids) = Unit {0}
IsTurning (EndsFirst turn drawn) = IsRecoverStep turn.step
IsTurning (Repeats turn) = IsRecoverStep turn.step
IsTurning (EndsSecond turn) = Unit {0}

turn_recovers : (cluster : Cluster) (items : List Item) (ids : List TxnId) (turn : Turn) → next_turn cluster items ids ≡ Some turn → IsRecoverStep turn.step
turn_recovers cluster items ids turn e = let t = is_turn cluster items ids turn e in subst IsRecoverStep (sym t.step_is) tt

fewer_turns : (cluster : Cluster) (items : List Item) (ids : List TxnId) (turn : Turn) → next_turn cluster items ids ≡ Some turn → suc (length turn.rest) ≤ length ids
fewer_turns cluster items [] turn e = absurd (not_none turn e)
fewer_turns cluster items (x ∷ ids) turn e = by (turn_step cluster items x) e (fewer_turns cluster items ids turn)
  where
    by : (o : Option Step) → turn_or o x ids (next_turn cluster items ids) ≡ Some turn
        → (next_turn cluster items ids ≡ Some turn → suc (length turn.rest) ≤ length ids) → suc (length turn.rest) ≤ suc (length ids)
    by None f rest = let h = rest f in omega (arith, h)
    by (Some step) f rest =
        subst (λ (t : Turn). suc (length t.rest) ≤ suc (length ids)) (same_turn f) (omega arith)
      where
        same_turn : Some (record { id = x; step = step; rest = ids }) ≡ Some turn → record { id = x; step = step; rest = ids } ≡ turn
        same_turn g = cc

module _ (plan : Content)
    (law : (a : Actor) (disks : Disks) (calls steps place : ℕ) → steps < calls / 4
    → (step_answers (after_steps steps a (after_fail a calls disks)) a).fails place ≡ false) where
  abbrev cluster : Cluster
  cluster = cluster_of plan

  -- a step was taken, and so many recovers were begun until after it
  record Took (stage : Stage) (most : ℕ) (s next : StrictSituation) : Type 0 where
    used : ℕ
    adds : AddsFine used s next
    within : used + budget (stage_after cluster stage (whole s.found) (whole next.found)) ≤ most_recovers
    turning : IsTurning (stage_after cluster stage (whole s.found) (whole next.found))

  recovered : (number : ℕ) (s next : StrictSituation) (step : Step) (most : ℕ) → IsRecoverStep step → most ≤ most_recovers → AreFine most s.disks
      → IsStrictNext cluster number step s next → AddsFine (suc most) s next
  recovered number s next (Recover txn node) most is within fine next_is = recover cluster law most within number s next txn node next_is fine
  recovered number s next (Begin txn) most is within fine next_is = absurd is
  recovered number s next (Deliver message) most is within fine next_is = absurd is
  recovered number s next (Drop message) most is within fine next_is = absurd is
  recovered number s next (Slow txn) most is within fine next_is = absurd is
  recovered number s next (Restart a choice) most is within fine next_is = absurd is
  recovered number s next (Fail a calls) most is within fine next_is = absurd is
  recovered number s next Drain most is within fine next_is = absurd is

  as_due : (number : ℕ) (step other : Step) (s next : StrictSituation) → Some other ≡ Some step → IsStrictNext cluster number step s next
      → IsStrictNext cluster number other s next
  as_due number step other s next e is = subst (λ k. IsStrictNext cluster number k s next) (sym (one_step other step e)) is

  takes : (stage : Stage) (number : ℕ) (step : Step) (most : ℕ) (s next : StrictSituation) → IsTurning stage → most + budget stage ≤ most_recovers
      → AreFine most s.disks → due cluster stage (whole s.found) ≡ Some step → IsStrictNext cluster number step s next → Took stage most s next
  takes (Reopens todo) number step most s next turning within fine due_is is = absurd turning
  takes (Turns ids) number step most s next turning within fine due_is is = by (next_turn cluster (whole s.found) ids) refl due_is
    where
      by : (o : Option Turn) → next_turn cluster (whole s.found) ids ≡ o → option_map (λ (turn : Turn). turn.step) o ≡ Some step → Took (Turns ids) most s next
      by None was e = absurd (not_none step e)
      by (Some turn) was e =
          let recovers = turn_recovers cluster (whole s.found) ids turn was in
          let fewer = fewer_turns cluster (whole s.found) ids turn was in
          record {
            used = suc most;
            adds = recovered number s next turn.step most recovers (low (2 * length ids) within) fine (as_due number step turn.step s next e is);
            within = subst (λ o. suc most + budget (stage_of_turn o (whole next.found)) ≤ most_recovers) (sym was) (left fewer within);
            turning = subst (λ o. IsTurning (stage_of_turn o (whole next.found))) (sym was) recovers;
          }
        where
          low : (k : ℕ) → most + k ≤ most_recovers → most ≤ most_recovers
          low k h = omega (arith, h)

          left : {n k : ℕ} → suc n ≤ k → most + 2 * k ≤ most_recovers → suc most + (1 + 2 * n) ≤ most_recovers
          left h w = omega (arith, h, w)
  takes (EndsFirst turn drawn) number step most s next turning within fine due_is is =
      by drawn
    where
      low : (k : ℕ) → most + k ≤ most_recovers → most ≤ most_recovers
      low k h = omega (arith, h)

      adds : AddsFine most s next
      adds = drain cluster law most (low (1 + 2 * length turn.rest) within) next s (as_due number step Drain s next due_is is) fine

      short : (n : ℕ) → most + (1 + n) ≤ most_recovers → most + n ≤ most_recovers
      short n h = omega (arith, h)

      ended : (o : Bool) → most + budget (cond o (Repeats turn) (Turns turn.rest)) ≤ most_recovers
      ended true = within
      ended false = short (2 * length turn.rest) within

      turns : (o : Bool) → IsTurning (cond o (Repeats turn) (Turns turn.rest))
      turns true = turning
      turns false = tt

      by : (o : Option Ballot) → Took (EndsFirst turn o) most s next
      by None = record { used = most; adds = adds; within = short (2 * length turn.rest) within; turning = tt }
      by (Some b) =
          record {
            used = most;
            adds = adds;
            within = ended (is_ended turn.id b (whole next.found));
            turning = turns (is_ended turn.id b (whole next.found));
          }
  takes (Repeats turn) number step most s next turning within fine due_is is =
      record {
        used = suc most;
        adds = recovered number s next turn.step most turning (low (1 + 2 * length turn.rest) within) fine (as_due number step turn.step s next due_is is);
        within = moved (2 * length turn.rest) within;
        turning = tt;
      }
    where
      low : (k : ℕ) → most + k ≤ most_recovers → most ≤ most_recovers
      low k h = omega (arith, h)

      moved : (n : ℕ) → most + (1 + n) ≤ most_recovers → suc most + n ≤ most_recovers
      moved n h = omega (arith, h)
  takes (EndsSecond turn) number step most s next turning within fine due_is is =
      record {
        used = most;
        adds = drain cluster law most (low (2 * length turn.rest) within) next s (as_due number step Drain s next due_is is) fine;
        within = within;
        turning = tt;
      }
    where
      low : (k : ℕ) → most + k ≤ most_recovers → most ≤ most_recovers
      low k h = omega (arith, h)

  pub turns_add : (number : ℕ) (steps : List Step) (from to : Standing StrictSituation) (most : ℕ) → IsTurning from.stage
      → most + budget from.stage ≤ most_recovers → AreFine most from.at.disks → Goes (moving_strictly plan) number steps from to
      → Adds from.at.found.own to.at.found.own
  turns_add number [] from to most turning within fine g =
      adds_same from.at.found.own to.at.found.own (ap (λ (k : Standing StrictSituation). k.at.found.own) g)
  turns_add number (step ∷ steps) from to most turning within fine g =
      let one = takes from.stage number step most from.at g.0 turning within fine g.1 g.2 in
      let rest =
      turns_add (number + 1) steps (standing_after (moving_strictly plan) from g.0) to one.used one.turning one.within one.adds.fine g.3 in
      adds_chain from.at.found.own g.0.found.own to.at.found.own one.adds.adds rest
