-- A look that has read a cell asked a majority and read a store that has applied all, so its cell was there at some moment.
use Rattle.std.proofs.Common.{◌≡◌, ℕ, ◌==◌, ◌<◌, ◌≤◌, ◌+◌, Bool, true, false, ◌||◌, IsTrue, cond, List, [], ◌∷◌, ◌++◌, length, map, Option, Some, None, length-append, ⊎_elim, refl, sym, ◌∙◌, ap, subst, arith}
use Rattle.std.specs.Prelude.{nat_le}
use Rattle.std.specs.List.{AllByRecursion}
use Rattle.std.proofs.lemmas.List.Folds.{list_any-append}
use Rattle.acc_stamp.specs.declared.stamps.TxnId.{TxnId}
use Rattle.acc_stamp.specs.Actor.{actor_of}
use Rattle.acc_stamp.specs.Rising.{id_among, ids_union}
use Rattle.acc_stamp.proofs.Order.{id_order}
use Rattle.acc_stamp.proofs.Rising.{is_among-union}
use Rattle.acc_topology.specs.Keys.{shard_of_key}
use Rattle.acc_topology.specs.Quorums.{is_majority, majority_size}
use Rattle.acc_topology.specs.Sets.{is_among}
use Rattle.acc_topology.proofs.Bits.{count_by-same}
use Rattle.acc_value.specs.declared.key.Key.{Key}
use Rattle.acc_value.specs.declared.value.Value.{Value}
use Rattle.acc_message.specs.declared.item.Item.{Item}
use Rattle.acc_message.specs.Run.{Cluster, IsRun, taken_of}
use Rattle.acc_store.specs.Queries.{known_writers, cell_if_applied}
use Rattle.acc_safety.specs.Valid.{IsValidCluster}
use Rattle.acc_schedule_runs.specs.Situations.{Situation, whole}
use Rattle.acc_schedule_runs.specs.Fronts.{Begins}
use Rattle.acc_cluster.proofs.Filled.{all_push}
use Rattle.acc_glance_laws.specs.SerialCells.{oldest}
use Rattle.acc_glance_laws.specs.Looks.{Visit, IsAsked, IsRead, WasThere, is_visited, cell_told, writers_told}
use Rattle.acc_glance.specs.declared.looks.Look.{Look}
use Rattle.acc_glance.specs.declared.sights.Finding.{Finding}
use Rattle.acc_glance.specs.Sights.{HasMoment, IsSettled, SettledBelow}
use Rattle.acc_glance.specs.declared.stages.Course.{Course}
use Rattle.acc_glance.specs.declared.stages.Stage.{Stage}
use Rattle.acc_glance.specs.declared.stages.Stage.TheVariants.{Waiting, Visiting, Read, Open}
use Rattle.std.proofs.lemmas.Bool.{cases_lt}
use Rattle.acc_glance.specs.Stages.{after_asking, asked_at, begun_at, cell_at, has_asked, moved, next_to_ask, next_to_read, read_at, shard_for, shown_at, stage_of, unvisited, visited, writers_at}
use Rattle.acc_glance.proofs.Pushed.{map_push}

-- ---- small facts

or_left : (a b : Bool) → a ≡ true → (a || b) ≡ true
or_left a b is = ap (λ c. c || b) is

or_right : (a b : Bool) → b ≡ true → (a || b) ≡ true
or_right true b is = refl
or_right false b is = is

at_most_more : (n a b : ℕ) → n ≤ a → a ≤ b → n ≤ b
at_most_more n a b low more = omega (arith, low, more)

as_long : (n : ℕ) → n ≤ n
as_long n = omega arith

added : (n k : ℕ) → n ≤ k + n
added n k = omega arith

no_shorter : (a b : List Item) → Begins a b → length a ≤ length b
no_shorter a b begins = subst (λ n. length a ≤ n) (sym (ap length begins.items_are ∙ length-append begins.later a)) (added (length a) (length begins.later))

-- ---- told writers

told_all : (x : TxnId) (ids : List TxnId) → id_among x (ids_union [] ids) ≡ id_among x ids
told_all x ids = is_among-union id_order x [] ids

module _ (x : TxnId) (writers told : List TxnId) where
  both_told : id_among x (ids_union [] (writers ++ told)) ≡ (id_among x writers || id_among x told)
  both_told = told_all x (writers ++ told) ∙ list_any-append _ writers told

  told_now : id_among x writers ≡ true → id_among x (ids_union [] (writers ++ told)) ≡ true
  told_now is = both_told ∙ or_left (id_among x writers) (id_among x told) is

  told_before : id_among x told ≡ true → id_among x (ids_union [] (writers ++ told)) ≡ true
  told_before is = both_told ∙ or_right (id_among x writers) (id_among x told) is

-- ---- visits

abbrev nodes_of : List Visit → List ℕ
nodes_of visits = map (λ (v : Visit). v.node) visits

visited_are : (visits : List Visit) (n : ℕ) → is_visited visits n ≡ is_among (nodes_of visits) n
visited_are [] n = refl
visited_are (v ∷ visits) n = ap (λ b. v.node == n || b) (visited_are visits n)

abbrev Tells : Cluster → List Item → Key → List TxnId → Visit → Type 0
Tells cluster items key ids v = (x : TxnId) → IsTrue (id_among x (writers_told cluster items key v)) → IsTrue (id_among x ids)

-- these visits were made since the look began, and told these ids
record AreMade (cluster : Cluster) (items : List Item) (key : Key) (from : ℕ) (visits : List Visit) (ids : List TxnId) : Type 0 where
  begun : from ≤ length items
  since : AllByRecursion (λ (v : Visit). from ≤ v.moment) visits
  within : AllByRecursion (λ (v : Visit). v.moment ≤ length items) visits
  told : AllByRecursion (Tells cluster items key ids) visits

record HasMade (cluster : Cluster) (items : List Item) (key : Key) (course : Course) : Type 0 where
  visits : List Visit
  nodes : nodes_of visits ≡ course.asked
  made : AreMade cluster items key course.from visits course.told

record HasRead (cluster : Cluster) (items : List Item) (key : Key) (from to : ℕ) (cell : Option Value) : Type 0 where
  visits : List Visit
  ids : List TxnId
  node : ℕ
  made : AreMade cluster items key from visits ids
  majority : is_majority (shard_for cluster key) (is_visited visits) ≡ true
  since : from ≤ to
  within : to ≤ length items
  told : cell_told cluster items key ids (record { node = node; moment = to }) ≡ Some cell

-- where a look stands, as far as its visits fix it
abbrev IsFair : Cluster → List Item → Key → Stage → Type 0
IsFair cluster items key Waiting = Unit {0}
IsFair cluster items key (Visiting course) = HasMade cluster items key course
IsFair cluster items key (Read from to cell) = HasRead cluster items key from to cell
IsFair cluster items key (Open from) = Unit {0}

-- ---- items are added

module _ (stay : (more items : List Item) (n : ℕ) → n ≤ length items → oldest n (more ++ items) ≡ oldest n items) (cluster : Cluster) (key : Key) (items now : List Item)
    (begins : Begins items now) where
  older : (n : ℕ) → n ≤ length items → oldest n now ≡ oldest n items
  older n low = ap (oldest n) begins.items_are ∙ stay begins.later items n low

  longer : (n : ℕ) → n ≤ length items → n ≤ length now
  longer n low = at_most_more n (length items) (length now) low (no_shorter items now begins)

  all_longer : (visits : List Visit) → AllByRecursion (λ (v : Visit). v.moment ≤ length items) visits → AllByRecursion (λ (v : Visit). v.moment ≤ length now) visits
  all_longer [] all = tt
  all_longer (v ∷ visits) all = (longer v.moment all.0, all_longer visits all.1)

  tells_on : (ids : List TxnId) (v : Visit) → v.moment ≤ length items → Tells cluster items key ids v → Tells cluster now key ids v
  tells_on ids v low tells = λ x among.
      tells x
      (subst
      (λ (h : List Item).
      IsTrue (id_among x (known_writers cluster.layout (shard_of_key cluster.layout key) (taken_of cluster (actor_of v.node (shard_of_key cluster.layout key)) h) key)))
      (older v.moment low) among)

  all_tell : (ids : List TxnId) (visits : List Visit) → AllByRecursion (λ (v : Visit). v.moment ≤ length items) visits → AllByRecursion (Tells cluster items key ids) visits
      → AllByRecursion (Tells cluster now key ids) visits
  all_tell ids [] within told = tt
  all_tell ids (v ∷ visits) within told = (tells_on ids v within.0 told.0, all_tell ids visits within.1 told.1)

  made_on : (from : ℕ) (visits : List Visit) (ids : List TxnId) → AreMade cluster items key from visits ids → AreMade cluster now key from visits ids
  made_on from visits ids m =
      record { begun = longer from m.begun; since = m.since; within = all_longer visits m.within; told = all_tell ids visits m.within m.told }

  fair_on : (stage : Stage) → IsFair cluster items key stage → IsFair cluster now key stage
  fair_on Waiting h = tt
  fair_on (Visiting course) h = record { visits = h.visits; nodes = h.nodes; made = made_on course.from h.visits course.told h.made }
  fair_on (Read from to cell) h =
      record {
        visits = h.visits;
        ids = h.ids;
        node = h.node;
        made = made_on from h.visits h.ids h.made;
        majority = h.majority;
        since = h.since;
        within = longer to h.within;
        told =
            ap
            (λ (l : List Item).
            cell_if_applied cluster.layout (shard_of_key cluster.layout key) (taken_of cluster (actor_of h.node (shard_of_key cluster.layout key)) l) h.ids key)
            (older to h.within) ∙ h.told;
      }
  fair_on (Open from) h = tt

-- ---- a moment

module _ (present : (items : List Item) → oldest (length items) items ≡ items) (cluster : Cluster) (s : Situation) (alone : whole s ≡ s.own) (key : Key) where
  now_is : oldest (length s.own) s.own ≡ whole s
  now_is = present s.own ∙ sym alone

  abbrev visit_of : ℕ → Visit
  visit_of node = record { node = node; moment = length s.own }

  wider : (writers told : List TxnId) (visits : List Visit) → AllByRecursion (Tells cluster s.own key told) visits
      → AllByRecursion (Tells cluster s.own key (ids_union [] (writers ++ told))) visits
  wider writers told [] all = tt
  wider writers told (v ∷ visits) all = (λ x among. told_before x writers told (all.0 x among), wider writers told visits all.1)

  asked_visit : (course : Course) (node : ℕ) → HasMade cluster s.own key course → HasMade cluster s.own key (after_asking course node (writers_at cluster s key node))
  asked_visit course node h =
      let writers = writers_at cluster s key node in
      let told = ids_union [] (writers ++ course.told) in
      record {
        visits = h.visits ++ visit_of node ∷ [];
        nodes = map_push (λ (v : Visit). v.node) h.visits (visit_of node) ∙ ap (λ (l : List ℕ). l ++ node ∷ []) h.nodes;
        made = record {
          begun = h.made.begun;
          since = all_push (λ (v : Visit). course.from ≤ v.moment) h.visits (visit_of node) h.made.since h.made.begun;
          within = all_push (λ (v : Visit). v.moment ≤ length s.own) h.visits (visit_of node) h.made.within (as_long (length s.own));
          told =
              all_push (Tells cluster s.own key told) h.visits (visit_of node) (wider writers course.told h.visits h.made.told)
              (λ x among.
              told_now x writers course.told
              (subst
              (λ (l : List Item).
              IsTrue (id_among x (known_writers cluster.layout (shard_of_key cluster.layout key) (taken_of cluster (actor_of node (shard_of_key cluster.layout key)) l) key)))
              now_is among));
        };
      }

  read_visit : (course : Course) (node : ℕ) (cell : Option Value) → HasMade cluster s.own key course → has_asked cluster key course ≡ true
      → cell_at cluster s key course.told node ≡ Some cell → HasRead cluster s.own key course.from (length s.own) cell
  read_visit course node cell h asked tells =
      record {
        visits = h.visits;
        ids = course.told;
        node = node;
        made = h.made;
        majority =
            ap (nat_le (majority_size (shard_for cluster key)))
            (count_by-same (is_visited h.visits) (is_among course.asked) (λ n. visited_are h.visits n ∙ ap (λ (l : List ℕ). is_among l n) h.nodes) (shard_for cluster key).replicas)
            ∙ asked;
        since = h.made.begun;
        within = as_long (length s.own);
        told =
            ap
            (λ (l : List Item).
            cell_if_applied cluster.layout (shard_of_key cluster.layout key) (taken_of cluster (actor_of node (shard_of_key cluster.layout key)) l) course.told key)
            now_is ∙ tells;
      }

  fair_unvisited : (over : Bool) (course : Course) → HasMade cluster s.own key course → IsFair cluster s.own key (unvisited over course)
  fair_unvisited true course h = tt
  fair_unvisited false course h = h

  fair_asked : (over : Bool) (course : Course) (node : Option ℕ) → HasMade cluster s.own key course → IsFair cluster s.own key (asked_at cluster s key over course node)
  fair_asked over course None h = fair_unvisited over course h
  fair_asked over course (Some node) h = asked_visit course node h

  fair_shown : (over : Bool) (course : Course) (node : ℕ) (told : Option (Option Value)) → HasMade cluster s.own key course → has_asked cluster key course ≡ true
      → cell_at cluster s key course.told node ≡ told → IsFair cluster s.own key (shown_at s over course node told)
  fair_shown over course node None h asked tells = record { visits = h.visits; nodes = h.nodes; made = h.made }
  fair_shown over course node (Some cell) h asked tells = read_visit course node cell h asked tells

  fair_read : (over : Bool) (course : Course) (node : Option ℕ) → HasMade cluster s.own key course → has_asked cluster key course ≡ true
      → IsFair cluster s.own key (read_at cluster s key over course node)
  fair_read over course None h asked = fair_unvisited over course h
  fair_read over course (Some node) h asked = fair_shown over course node (cell_at cluster s key course.told node) h asked refl

  fair_visited : (over : Bool) (course : Course) → HasMade cluster s.own key course → IsFair cluster s.own key (visited cluster s key over course)
  fair_visited over course h = by (has_asked cluster key course) refl
    where
      by : (b : Bool) → has_asked cluster key course ≡ b
          → IsFair cluster s.own key (cond b (read_at cluster s key over course (next_to_read cluster s key course)) (asked_at cluster s key over course (next_to_ask cluster s key course)))
      by true asked = fair_read over course (next_to_read cluster s key course) h asked
      by false asked = fair_asked over course (next_to_ask cluster s key course) h

  begins_fair : HasMade cluster s.own key (begun_at (length s.own))
  begins_fair = record { visits = []; nodes = refl; made = record { begun = as_long (length s.own); since = tt; within = tt; told = tt } }

  fair_moved : (look : Look) (over : Bool) (number : ℕ) → look.key ≡ key → (stage : Stage) → IsFair cluster s.own key stage
      → IsFair cluster s.own key (moved cluster look over number s stage)
  fair_moved look over number is Waiting h =
      subst (λ (k : Key). IsFair cluster s.own key (cond (number == look.at) (visited cluster s k over (begun_at (length s.own))) Waiting)) (sym is) (by (number == look.at))
    where
      by : (b : Bool) → IsFair cluster s.own key (cond b (visited cluster s key over (begun_at (length s.own))) Waiting)
      by true = fair_visited over (begun_at (length s.own)) begins_fair
      by false = tt
  fair_moved look over number is (Visiting course) h =
      subst (λ (k : Key). IsFair cluster s.own key (visited cluster s k over course)) (sym is) (fair_visited over course h)
  fair_moved look over number is (Read from to cell) h = h
  fair_moved look over number is (Open from) h = h

-- ---- all moments

-- each of the situations goes on from those before it, and these items from all
abbrev pub AreInTurn : List Item → List Situation → Type 0
AreInTurn items [] = Unit {0}
AreInTurn items (s ∷ earlier) = (whole s ≡ s.own) × Begins s.own items × AreInTurn s.own earlier

module _ (stay : (more items : List Item) (n : ℕ) → n ≤ length items → oldest n (more ++ items) ≡ oldest n items)
    (present : (items : List Item) → oldest (length items) items ≡ items) (cluster : Cluster) (look : Look) (steps : ℕ) where
  all_fair : (moments : List Situation) (items : List Item) → AreInTurn items moments → IsFair cluster items look.key (stage_of cluster look steps moments)
  all_fair [] items turn = tt
  all_fair (s ∷ earlier) items turn =
      fair_on stay cluster look.key s.own items turn.1 (stage_of cluster look steps (s ∷ earlier))
      (fair_moved present cluster s turn.0 look.key look (nat_le steps (length earlier)) (length earlier) refl (stage_of cluster look steps earlier)
      (all_fair earlier s.own turn.2))

-- the laws of looks
pub record LookLaws : Type 0 where
  pub there :
      (cluster : Cluster) (items : List Item) → IsValidCluster cluster → IsRun cluster items → (key : Key) (from : ℕ) (visits : List Visit) (ids : List TxnId) (read : Visit)
      (cell : Option Value) → IsAsked cluster items key from visits ids → IsRead cluster items key from ids read cell → WasThere cluster items key from read.moment cell
  pub stay : (more items : List Item) (n : ℕ) → n ≤ length items → oldest n (more ++ items) ≡ oldest n items
  pub present : (items : List Item) → oldest (length items) items ≡ items

-- ---- the least moment is found

module _ (laws : LookLaws) (cluster : Cluster) (items : List Item) (steps : ℕ) (moments : List Situation) (valid : IsValidCluster cluster) (run : IsRun cluster items)
    (turn : AreInTurn items moments) where
  was_there : (key : Key) (from to : ℕ) (cell : Option Value) → HasRead cluster items key from to cell → WasThere cluster items key from to cell
  was_there key from to cell h =
      laws.there cluster items valid run key from h.visits h.ids (record { node = h.node; moment = to }) cell
      (record { majority = h.majority; since = h.made.since; told = h.made.told }) (record { since = h.since; within = h.within; told = h.told })

  moment_at : (key : Key) (from to : ℕ) (cell : Option Value) (at : Option ℕ) → HasRead cluster items key from to cell
      → SettledBelow cluster items (length items + 1) key (Read from to cell) at → (m : ℕ) × (at ≡ Some m) × (m ≤ to)
  moment_at key from to cell None h settled =
      let w = was_there key from to cell h in absurd (settled w.at w.since (low w.at to (length items) w.until h.within) w.shows)
    where
      low : (a b n : ℕ) → a ≤ b → b ≤ n → a < n + 1
      low a b n one two = omega (arith, one, two)
  moment_at key from to cell (Some m) h settled =
      let w = was_there key from to cell h in
      (m, refl, ⊎_elim (λ less. absurd (settled.none_before w.at w.since less w.shows)) (λ le. at_most_more m w.at to le w.until) (cases_lt w.at m))

  has_moment : (finding : Finding) → finding.stage ≡ stage_of cluster finding.look steps moments → IsSettled cluster items (length items + 1) finding → HasMoment finding
  has_moment finding found settled = λ from to cell is.
      moment_at finding.look.key from to cell finding.at
      (subst (IsFair cluster items finding.look.key) (sym found ∙ is) (all_fair laws.stay laws.present cluster finding.look steps moments items turn))
      (subst (λ (stage : Stage). SettledBelow cluster items (length items + 1) finding.look.key stage finding.at) is settled)

  pub have_moments : (findings : List Finding) → AllByRecursion (λ (f : Finding). f.stage ≡ stage_of cluster f.look steps moments) findings
      → AllByRecursion (IsSettled cluster items (length items + 1)) findings → AllByRecursion HasMoment findings
  have_moments [] found settled = tt
  have_moments (f ∷ findings) found settled = (has_moment f found.0 settled.0, have_moments findings found.1 settled.1)
