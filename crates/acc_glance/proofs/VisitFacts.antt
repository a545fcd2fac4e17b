-- What the parts of a visit give.
use Rattle.std.proofs.Common.{◌≡◌, ℕ, ◌==◌, Bool, true, false, ◌&&◌, List, ◌∷◌, [], ◌++◌, count_by, reverse, cond, Option, Some, None, refl, sym, ◌∙◌, ap, subst, arith}
use Rattle.std.proofs.lemmas.Bool.{true≢false}
use Rattle.std.specs.Prelude.{nat_le, length}
use Rattle.std.proofs.lemmas.List.{length-reverse}
use Rattle.acc_base.specs.Faults.{or_else}
use Rattle.acc_stamp.specs.declared.stamps.TxnId.{TxnId}
use Rattle.acc_stamp.specs.declared.actors.Actor.{Actor}
use Rattle.acc_stamp.specs.Actor.{shard_of}
use Rattle.acc_stamp.specs.Rising.{ids_union}
use Rattle.acc_topology.specs.Layout.{Layout, shard_at}
use Rattle.acc_topology.specs.Keys.{shard_of_key}
use Rattle.acc_topology.specs.Quorums.{is_majority, majority_size}
use Rattle.acc_topology.specs.Sets.{in_set, is_among, members}
use Rattle.acc_value.specs.declared.key.Key.{Key}
use Rattle.acc_value.specs.declared.value.Value.{Value}
use Rattle.acc_message.specs.declared.item.Item.{Item}
use Rattle.acc_message.specs.declared.message.Message.{Message}
use Rattle.acc_message.specs.Run.{Cluster, taken_of}
use Rattle.acc_message.specs.StoreRules.{replay}
use Rattle.acc_message.specs.Taken.{Taken}
use Rattle.acc_pasts.specs.Stopped.{IsSound}
use Rattle.acc_run_laws.specs.Calls.{replayed_steps}
use Rattle.acc_schedule.specs.Content.{Content}
use Rattle.acc_schedule_runs.specs.Schedules.{cluster_of}
use Rattle.acc_schedule_runs.specs.Situations.{Situation, whole}
use Rattle.acc_store.specs.declared.store.Store.{Store}
use Rattle.acc_store.specs.Stands as store
use Rattle.acc_glance.specs.declared.looks.Look.{Look}
use Rattle.acc_glance.specs.declared.stages.Course.{Course}
use Rattle.acc_glance.specs.declared.stages.Stage.{Stage}
use Rattle.acc_glance.specs.declared.stages.Stage.TheVariants.{Waiting, Visiting, Read, Open}
use Rattle.acc_glance.specs.Stages.{after_reading, asked_at, begun_at, cell_at, first_left, has_asked, moved, next_to_ask, next_to_read, read_at, shown_at, stage_of, store_at, visited, writers_at}
use Rattle.acc_glance.specs.Visits.{is_due, IsFirst, IsLed, IsNextToRead, IsStoreAt, IsVisitOf, ReadsAfterAsking}
use Rattle.acc_glance.specs.declared.visits.Visitor.{Visitor}
use Rattle.acc_glance.proofs.NodeSets.{counted}
use Rattle.acc_glance.proofs.StoreFacts.{replayed}

-- ---- a majority was asked

pub asked_is : (plan : Content) (key : Key) (course : Course) (shard nodes set : ℕ) → shard ≡ shard_of_key plan.topology key
    → members nodes ≡ (shard_at plan.topology shard).replicas → ((n : ℕ) → in_set set n ≡ (in_set nodes n && is_among course.asked n))
    → is_majority (shard_at plan.topology shard) (in_set set) ≡ has_asked (cluster_of plan) key course
asked_is plan key course shard nodes set is listed set_is =
    ap (nat_le (majority_size (shard_at plan.topology shard)))
    (ap (count_by (in_set set)) (sym listed) ∙ counted set nodes course.asked set_is ∙ ap (count_by (is_among course.asked)) listed)
    ∙ ap (λ (k : ℕ). is_majority (shard_at plan.topology k) (is_among course.asked)) is

-- ---- what a store tells

module _ {X : Type 0} (tells : Layout → ℕ → List Taken → X) (told : X) (plan : Content) (s : Situation) (key : Key) (node : ℕ) (t : Store) where
  pub told_is : IsSound (cluster_of plan) s → IsStoreAt plan s key node t
      → ((layout : Layout) (messages : List Message) → store.StandsFor layout t (replay layout (store.actor_of t) messages)
      → told ≡ tells layout (shard_of (store.actor_of t)) (replay layout (store.actor_of t) messages))
      → told ≡ tells plan.topology (shard_of_key plan.topology key) (taken_of (cluster_of plan) (store_at (cluster_of plan) key node) (whole s))
  told_is sound at tell =
      let a = store_at (cluster_of plan) key node in
      let steps = replayed_steps (cluster_of plan) a (whole s) in
      let same = replayed plan s sound a at.kind in
      let own : store.actor_of t ≡ a = at.is.actor_is in
      tell plan.topology steps
      (subst (λ h. store.StandsFor plan.topology t h) (same ∙ ap (λ (b : Actor). replay plan.topology b steps) (sym own)) at.is.stands)
      ∙ ap (λ (b : Actor). tells plan.topology (shard_of b) (replay plan.topology b steps)) own
      ∙ ap (λ (k : ℕ). tells plan.topology k (replay plan.topology a steps)) at.shard
      ∙ ap (λ h. tells plan.topology (shard_of_key plan.topology key) h) (sym same)

-- ---- a moment

pub not_due : (plan : Content) (look : Look) (over : Bool) (number : ℕ) (s : Situation) (stage : Stage) → false ≡ is_due number look stage
    → stage ≡ moved (cluster_of plan) look over number s stage
not_due plan look over number s Waiting isnt = ap (λ b. cond b (visited (cluster_of plan) s look.key over (begun_at (length s.own))) Waiting) isnt
not_due plan look over number s (Visiting course) isnt = absurd cc
not_due plan look over number s (Read from to cell) isnt = refl
not_due plan look over number s (Open from) isnt = refl

pub due_moves : (plan : Content) (look : Look) (over : Bool) (number : ℕ) (s : Situation) (stage : Stage) (course : Course) → true ≡ is_due number look stage
    → IsVisitOf s stage course → visited (cluster_of plan) s look.key over course ≡ moved (cluster_of plan) look over number s stage
due_moves plan look over number s Waiting course is visit =
    ap (visited (cluster_of plan) s look.key over) visit ∙ ap (λ b. cond b (visited (cluster_of plan) s look.key over (begun_at (length s.own))) Waiting) is
due_moves plan look over number s (Visiting before) course is visit = ap (visited (cluster_of plan) s look.key over) visit
due_moves plan look over number s (Read from to cell) course is visit = absurd cc
due_moves plan look over number s (Open from) course is visit = absurd cc

pub asks : (plan : Content) (s : Situation) (key : Key) (over : Bool) (course : Course) → false ≡ has_asked (cluster_of plan) key course
    → asked_at (cluster_of plan) s key over course (next_to_ask (cluster_of plan) s key course) ≡ visited (cluster_of plan) s key over course
asks plan s key over course isnt =
    ap (λ b. cond b (read_at (cluster_of plan) s key over course (next_to_read (cluster_of plan) s key course))
    (asked_at (cluster_of plan) s key over course (next_to_ask (cluster_of plan) s key course))) isnt

pub reads : (plan : Content) (s : Situation) (key : Key) (over : Bool) (course : Course) → true ≡ has_asked (cluster_of plan) key course
    → read_at (cluster_of plan) s key over course (next_to_read (cluster_of plan) s key course) ≡ visited (cluster_of plan) s key over course
reads plan s key over course is =
    ap (λ b. cond b (read_at (cluster_of plan) s key over course (next_to_read (cluster_of plan) s key course))
    (asked_at (cluster_of plan) s key over course (next_to_ask (cluster_of plan) s key course))) is

-- ---- what a visit leaves

pub asked_more : (plan : Content) (s : Situation) (key : Key) (over : Bool) (course : Course) (node : ℕ) (asked : List ℕ) (told writers : List TxnId)
    → next_to_ask (cluster_of plan) s key course ≡ Some node → writers ≡ writers_at (cluster_of plan) s key node
    → told ≡ ids_union [] (writers ++ course.told) → asked ≡ course.asked ++ node ∷ []
    → Visiting (record { from = course.from; asked = asked; told = told; last = course.last; late = course.late })
    ≡ asked_at (cluster_of plan) s key over course (next_to_ask (cluster_of plan) s key course)
asked_more plan s key over course node asked told writers due writers_are told_are asked_are =
    ap (λ (l : List ℕ). Visiting (record { from = course.from; asked = l; told = told; last = course.last; late = course.late })) asked_are
    ∙ ap (λ (l : List TxnId). Visiting (record { from = course.from; asked = course.asked ++ node ∷ []; told = l; last = course.last; late = course.late }))
    (told_are ∙ ap (λ (w : List TxnId). ids_union [] (w ++ course.told)) writers_are)
    ∙ ap (asked_at (cluster_of plan) s key over course) (sym due)

pub shown_cell : (plan : Content) (s : Situation) (key : Key) (over : Bool) (course : Course) (node to : ℕ) (cell : Option Value)
    → next_to_read (cluster_of plan) s key course ≡ Some node → Some cell ≡ cell_at (cluster_of plan) s key course.told node → to ≡ length s.own
    → Read course.from to cell ≡ read_at (cluster_of plan) s key over course (next_to_read (cluster_of plan) s key course)
shown_cell plan s key over course node to cell due told to_is =
    ap (λ (n : ℕ). Read course.from n cell) to_is ∙ ap (shown_at s over course node) told ∙ ap (read_at (cluster_of plan) s key over course) (sym due)

pub shown_none : (plan : Content) (s : Situation) (key : Key) (over : Bool) (course passed : Course) (node : ℕ)
    → next_to_read (cluster_of plan) s key course ≡ Some node → None ≡ cell_at (cluster_of plan) s key course.told node → passed ≡ after_reading over course node
    → Visiting passed ≡ read_at (cluster_of plan) s key over course (next_to_read (cluster_of plan) s key course)
shown_none plan s key over course passed node due told passed_is =
    ap (λ (c : Course). Visiting c) passed_is ∙ ap (shown_at s over course node) told ∙ ap (read_at (cluster_of plan) s key over course) (sym due)

-- before the last step is taken only the node visited last changes
pub passed_before : (plan : Content) (s : Situation) (look : Look) (over : Bool) (number : ℕ) (course : Course) (node : ℕ) → over ≡ false
    → true ≡ has_asked (cluster_of plan) look.key course → next_to_read (cluster_of plan) s look.key course ≡ Some node
    → None ≡ cell_at (cluster_of plan) s look.key course.told node
    → Visiting (record { from = course.from; asked = course.asked; told = course.told; last = node; late = course.late })
    ≡ moved (cluster_of plan) look over number s (Visiting course)
passed_before plan s look over number course node before asked due told =
    shown_none plan s look.key over course (record { from = course.from; asked = course.asked; told = course.told; last = node; late = course.late }) node due told
    (ap (λ b. record { from = course.from; asked = course.asked; told = course.told; last = node; late = cond b (course.late ++ node ∷ []) course.late })
    (sym before)) ∙ reads plan s look.key over course asked

-- ---- the second phase comes after the first

module _ (cluster : Cluster) (s : Situation) (key : Key) (over : Bool) where
  stays_so : (b : Bool) (course : Course) → ReadsAfterAsking cluster key (Visiting course) → ReadsAfterAsking cluster key (cond b (Open course.from) (Visiting course))
  stays_so true course so = tt
  stays_so false course so = so

  reading_so : (course : Course) (next : Option ℕ) → has_asked cluster key course ≡ true → ReadsAfterAsking cluster key (read_at cluster s key over course next)
  reading_so course None is = stays_so over course (λ low. is)
  reading_so course (Some node) is = by (cell_at cluster s key course.told node)
    where
      by : (cell : Option (Option Value)) → ReadsAfterAsking cluster key (shown_at s over course node cell)
      by None = λ low. is
      by (Some cell) = tt

  asking_so : (course : Course) (next : Option ℕ) → ReadsAfterAsking cluster key (Visiting course) → has_asked cluster key course ≡ false
      → ReadsAfterAsking cluster key (asked_at cluster s key over course next)
  asking_so course None so isnt = stays_so over course so
  asking_so course (Some node) so isnt = λ low. absurd (true≢false (sym (so low) ∙ isnt))

  visited_so : (course : Course) → ReadsAfterAsking cluster key (Visiting course) → ReadsAfterAsking cluster key (visited cluster s key over course)
  visited_so course so = by (has_asked cluster key course) refl
    where
      by : (b : Bool) → has_asked cluster key course ≡ b
          → ReadsAfterAsking cluster key (cond b (read_at cluster s key over course (next_to_read cluster s key course)) (asked_at cluster s key over course (next_to_ask cluster s key course)))
      by true is = reading_so course (next_to_read cluster s key course) is
      by false isnt = asking_so course (next_to_ask cluster s key course) so isnt

moved_so : (cluster : Cluster) (look : Look) (over : Bool) (number : ℕ) (s : Situation) (stage : Stage) → ReadsAfterAsking cluster look.key stage
    → ReadsAfterAsking cluster look.key (moved cluster look over number s stage)
moved_so cluster look over number s Waiting so = by (number == look.at)
  where
    by : (b : Bool) → ReadsAfterAsking cluster look.key (cond b (visited cluster s look.key over (begun_at (length s.own))) Waiting)
    by true = visited_so cluster s look.key over (begun_at (length s.own)) (λ low. absurd (omega (arith, low)))
    by false = tt
moved_so cluster look over number s (Visiting course) so = visited_so cluster s look.key over course so
moved_so cluster look over number s (Read from to cell) so = tt
moved_so cluster look over number s (Open from) so = tt

pub stage_so : (cluster : Cluster) (look : Look) (steps : ℕ) (moments : List Situation) → ReadsAfterAsking cluster look.key (stage_of cluster look steps moments)
stage_so cluster look steps [] = tt
stage_so cluster look steps (s ∷ earlier) =
    moved_so cluster look (nat_le steps (length earlier)) (length earlier) s (stage_of cluster look steps earlier) (stage_so cluster look steps earlier)

pub led_so : (plan : Content) (moments : List Situation) (visitor : Visitor) → IsLed plan moments visitor → ReadsAfterAsking (cluster_of plan) visitor.look.key visitor.stage
led_so plan moments visitor led =
    subst (ReadsAfterAsking (cluster_of plan) visitor.look.key) (sym led) (stage_so (cluster_of plan) visitor.look (length plan.steps) moments)

-- ---- the second phase goes round

pub due_further : (plan : Content) (s : Situation) (key : Key) (course : Course) (node : ℕ) (t : Store) → IsFirst plan s key course.last course.late node t
    → IsNextToRead plan s key course node t
due_further plan s key course node t first =
    record { due = ap (λ o. or_else o (first_left (cluster_of plan) s key 0 course.late)) first.left; stands = first.stands }

pub due_anew : (plan : Content) (s : Situation) (key : Key) (course : Course) (node : ℕ) (t : Store) → first_left (cluster_of plan) s key course.last course.late ≡ None
    → IsFirst plan s key 0 course.late node t → IsNextToRead plan s key course node t
due_anew plan s key course node t none first =
    record { due = ap (λ o. or_else o (first_left (cluster_of plan) s key 0 course.late)) none ∙ first.left; stands = first.stands }

pub none_due : (plan : Content) (s : Situation) (key : Key) (course : Course) → first_left (cluster_of plan) s key course.last course.late ≡ None
    → first_left (cluster_of plan) s key 0 course.late ≡ None → next_to_read (cluster_of plan) s key course ≡ None
none_due plan s key course one other = ap (λ o. or_else o (first_left (cluster_of plan) s key 0 course.late)) one ∙ other

-- ---- one look further

pub led_one : (plan : Content) (s : Situation) (moments : List Situation) (number : ℕ) (over : Bool) (old new : Visitor) → new.look ≡ old.look
    → new.stage ≡ moved (cluster_of plan) old.look over number s old.stage → number ≡ length moments → over ≡ nat_le (length plan.steps) (length moments)
    → IsLed plan moments old → IsLed plan (s ∷ moments) new
led_one plan s moments number over old new look stage number_is over_is led =
    stage
    ∙ ap (λ (l : Look). moved (cluster_of plan) l over number s old.stage) (sym look)
    ∙ ap (moved (cluster_of plan) new.look over number s) (led ∙ ap (λ (l : Look). stage_of (cluster_of plan) l (length plan.steps) moments) (sym look))
    ∙ ap (λ (n : ℕ). moved (cluster_of plan) new.look over n s (stage_of (cluster_of plan) new.look (length plan.steps) moments)) number_is
    ∙ ap (λ b. moved (cluster_of plan) new.look b (length moments) s (stage_of (cluster_of plan) new.look (length plan.steps) moments)) over_is

-- how many items there are
pub as_many : (own items : List Item) (count : ℕ) → count ≡ length items → items ≡ reverse own → count ≡ length own
as_many own items count is are = is ∙ ap length are ∙ length-reverse own

pub begins_there : (s : Situation) (items : List Item) (count : ℕ) (course : Course) → course ≡ begun_at count → count ≡ length items → items ≡ reverse s.own
    → course ≡ begun_at (length s.own)
begins_there s items count course is many are = is ∙ ap begun_at (as_many s.own items count many are)
