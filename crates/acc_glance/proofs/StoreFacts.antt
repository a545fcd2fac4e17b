-- The stores of a plan, as a cluster shows them.
use Rattle.std.proofs.Common.{◌≡◌, ℕ, zero, suc, ◌+◌, ◌-◌, ◌<◌, ◌≤◌, ◌==◌, Bool, true, false, not, ◌&&◌, List, [], ◌∷◌, length, get_or, find, cond, Option, Some, None, refl, sym, ◌∙◌, ap, subst, arith}
use Rattle.std.specs.Prelude.{nat_lt}
use Rattle.std.specs.List.{list_all}
use Rattle.std.proofs.lemmas.Bool.Decides.{nat_tests}
use Rattle.acc_stamp.specs.declared.actors.Actor.{Actor}
use Rattle.acc_stamp.specs.declared.stamps.TxnId.{TxnId}
use Rattle.acc_stamp.specs.Actor.{actor_of, shard_of}
use Rattle.acc_topology.specs.Layout.{Layout, HasShard, shard_at}
use Rattle.acc_topology.specs.Keys.{shard_of_key}
use Rattle.acc_topology.specs.Sets.{in_set, is_among, members, IsSetOf}
use Rattle.acc_value.specs.declared.key.Key.{Key}
use Rattle.acc_value.specs.declared.value.Value.{Value}
use Rattle.acc_message.specs.Opening.{is_applied, cells_at}
use Rattle.acc_message.specs.Run.{is_down, is_node, taken_of}
use Rattle.acc_message.specs.StoreRules.{replay}
use Rattle.acc_message.specs.Taken.{Taken}
use Rattle.acc_pasts.proofs.Replayed.{store_replayed}
use Rattle.acc_pasts.specs.Stopped.{IsSound}
use Rattle.acc_run_laws.specs.Calls.{replayed_steps}
use Rattle.acc_run_laws.proofs.Layouts.{is_in_among, store_is}
use Rattle.acc_safety.proofs.PlaceOrder.{IsIn-Contains}
use Rattle.acc_schedule.specs.Actors.{actors}
use Rattle.acc_schedule.specs.Content.{Content}
use Rattle.acc_schedule_runs.specs.Schedules.{cluster_of}
use Rattle.acc_schedule_runs.specs.Situations.{Situation, whole}
use Rattle.acc_store.specs.declared.store.Store.{Store}
use Rattle.acc_store.specs.Queries.{cell_if_applied}
use Rattle.acc_actors.specs.Stores.{IsStoreUp, IsStoreOf}
use Rattle.acc_glance.specs.Stages.{first_left, is_left, is_up, shard_for, store_at}
use Rattle.acc_glance.specs.Visits.{IsFirst, IsLeftAt, IsStoreAt}
use Rattle.acc_glance.proofs.Lefts.{below, first_is, none_is, none_to}

-- ---- which nodes are left

pub not_member : (set node : ℕ) (b : Bool) → false ≡ in_set set node → (in_set set node && b) ≡ false
not_member set node b isnt = ap (λ c. c && b) (sym isnt)

both_false : (a : Bool) → (a && false) ≡ false
both_false true = refl
both_false false = refl

module _ (plan : Content) (s : Situation) (key : Key) (after : ℕ) (visited : List ℕ) (set node : ℕ) where
  pub not_after : node ≤ after → (in_set set node && is_left (cluster_of plan) s key after visited node) ≡ false
  not_after le =
      ap (λ b. in_set set node && (b && (not (is_among visited node) && is_up (cluster_of plan) s key node))) (isnt after node le) ∙ both_false (in_set set node)
    where
      isnt : (a n : ℕ) → n ≤ a → nat_lt a n ≡ false
      isnt a n le = grind (arith, nat_tests)

  pub was_visited : true ≡ is_among visited node → (in_set set node && is_left (cluster_of plan) s key after visited node) ≡ false
  was_visited is =
      ap (λ b. in_set set node && (nat_lt after node && (not b && is_up (cluster_of plan) s key node))) (sym is)
      ∙ ap (λ b. in_set set node && b) (both_false (nat_lt after node)) ∙ both_false (in_set set node)

  pub is_down_there : (IsStoreUp plan s (store_at (cluster_of plan) key node) → ⊥) → (is_down (store_at (cluster_of plan) key node) (whole s) ≡ false → IsStoreUp plan s (store_at (cluster_of plan) key node))
      → (in_set set node && is_left (cluster_of plan) s key after visited node) ≡ false
  is_down_there isnt up_is = by (is_down (store_at (cluster_of plan) key node) (whole s)) refl
    where
      by : (b : Bool) → is_down (store_at (cluster_of plan) key node) (whole s) ≡ b → (in_set set node && (nat_lt after node && (not (is_among visited node) && not b))) ≡ false
      by false up = absurd (isnt (up_is up))
      by true down =
          ap (λ b. in_set set node && (nat_lt after node && b)) (both_false (not (is_among visited node))) ∙ ap (λ b. in_set set node && b) (both_false (nat_lt after node))
          ∙ both_false (in_set set node)

  pub left_there : after < node → false ≡ is_among visited node → is_down (store_at (cluster_of plan) key node) (whole s) ≡ false
      → is_left (cluster_of plan) s key after visited node ≡ true
  left_there less new up =
      ap (λ b. b && (not (is_among visited node) && is_up (cluster_of plan) s key node)) (is after node less)
      ∙ ap (λ b. not b && is_up (cluster_of plan) s key node) (sym new) ∙ ap not up
    where
      is : (a n : ℕ) → a < n → nat_lt a n ≡ true
      is a n less = grind (arith, nat_tests)

-- ---- the store at a node

pub store_up : (plan : Content) (s : Situation) (key : Key) (set node shard : ℕ) → shard ≡ shard_of_key plan.topology key → HasShard plan.topology shard
    → shard_of (actor_of node shard) ≡ shard → IsSetOf set (shard_for (cluster_of plan) key).replicas → true ≡ in_set set node
    → is_down (store_at (cluster_of plan) key node) (whole s) ≡ false → IsStoreUp plan s (store_at (cluster_of plan) key node)
store_up plan s key set node shard is has own replicas member up =
    subst (λ (a : ℕ). is_down (actor_of node a) (whole s) ≡ false → IsStoreUp plan s (actor_of node a)) is
    (λ up. record {
      member =
          IsIn-Contains (actor_of node shard) (actors plan.topology)
          (store_is plan.topology node shard has
          (is_in_among node (shard_at plan.topology shard).replicas
          (ap (λ (k : ℕ). is_among (shard_at plan.topology k).replicas node) is ∙ sym (replicas node) ∙ sym member)));
      kind = no_node (shard_of (actor_of node shard)) shard own has.0;
      up = up;
    }) up
  where
    no_node : (a k : ℕ) → a ≡ k → 1 ≤ k → (a == 0) ≡ false
    no_node a k same low = grind (arith, nat_tests)

-- the store that a cluster shows there
pub at_there : (plan : Content) (s : Situation) (key : Key) (node shard : ℕ) (a : Actor) (t : Store) → shard ≡ shard_of_key plan.topology key → a ≡ actor_of node shard
    → shard_of a ≡ shard → IsStoreUp plan s a → IsStoreOf plan s a t
    → IsStoreAt plan s key node t × (is_down (store_at (cluster_of plan) key node) (whole s) ≡ false)
at_there plan s key node shard a t is number own up of =
    let same : a ≡ store_at (cluster_of plan) key node = number ∙ ap (actor_of node) is in (
      record {
        shard = ap shard_of (sym same) ∙ own ∙ is;
        kind = ap is_node (sym same) ∙ up.kind;
        is = subst (λ (b : Actor). IsStoreOf plan s b t) same of;
      },
      ap (λ (b : Actor). is_down b (whole s)) (sym same) ∙ up.up,
    )

pub none_there : (plan : Content) (s : Situation) (key : Key) (node shard : ℕ) (a : Actor) → shard ≡ shard_of_key plan.topology key → a ≡ actor_of node shard
    → (IsStoreUp plan s a → ⊥) → IsStoreUp plan s (store_at (cluster_of plan) key node) → ⊥
none_there plan s key node shard a is number isnt up = isnt (subst (λ (b : Actor). IsStoreUp plan s b) (sym (number ∙ ap (actor_of node) is)) up)

-- ---- the replicas of a key's shard

pub replicas_are : (plan : Content) (key : Key) (shard nodes : ℕ) → shard ≡ shard_of_key plan.topology key → members nodes ≡ (shard_at plan.topology shard).replicas
    → members nodes ≡ (shard_for (cluster_of plan) key).replicas
replicas_are plan key shard nodes is listed = listed ∙ ap (λ (k : ℕ). (shard_at plan.topology k).replicas) is

pub set_is : (plan : Content) (key : Key) (shard nodes : ℕ) → shard ≡ shard_of_key plan.topology key → IsSetOf nodes (shard_at plan.topology shard).replicas
    → IsSetOf nodes (shard_for (cluster_of plan) key).replicas
set_is plan key shard nodes is set = subst (λ (k : ℕ). IsSetOf nodes (shard_at plan.topology k).replicas) is set

pub first_at : (plan : Content) (s : Situation) (key : Key) (after : ℕ) (visited : List ℕ) (nodes node found : ℕ) (t : Store)
    → members nodes ≡ (shard_for (cluster_of plan) key).replicas → node ≤ 15
    → find (is_left (cluster_of plan) s key after visited) (below (is_left (cluster_of plan) s key after visited) nodes node) ≡ None
    → found ≡ node → IsLeftAt plan s key after visited node t × (in_set nodes node ≡ true) → IsFirst plan s key after visited found t
first_at plan s key after visited nodes node found t listed low none same at =
    let p = is_left (cluster_of plan) s key after visited in
    record {
      left =
          ap (find p) (sym listed) ∙ first_is p nodes node low none at.1 at.0.left ∙ ap (λ (n : ℕ). Some n) (sym same);
      stands = subst (λ (n : ℕ). IsStoreAt plan s key n t) (sym same) at.0.stands;
    }

pub none_at : (plan : Content) (s : Situation) (key : Key) (after : ℕ) (visited : List ℕ) (nodes node : ℕ)
    → members nodes ≡ (shard_for (cluster_of plan) key).replicas → node ≡ 16
    → find (is_left (cluster_of plan) s key after visited) (below (is_left (cluster_of plan) s key after visited) nodes node) ≡ None
    → first_left (cluster_of plan) s key after visited ≡ None
none_at plan s key after visited nodes node listed full none =
    let p = is_left (cluster_of plan) s key after visited in
    ap (find p) (sym listed) ∙ none_is p nodes node full none

-- none of the nodes from the first to the second is left, and none after these
module _ (plan : Content) (s : Situation) (key : Key) (after : ℕ) (visited : List ℕ) (set : ℕ) where
  pub none_up_to : (d : ℕ) → d ≤ after + 1
      → find (is_left (cluster_of plan) s key after visited) (below (is_left (cluster_of plan) s key after visited) set d) ≡ None
  none_up_to d low =
      let p = is_left (cluster_of plan) s key after visited in
      ap (λ (k : ℕ). find p (below p set k)) (whole d) ∙ none_to p set 0 d refl (λ k least less. not_after plan s key after visited set k (omega (arith, less, low)))
    where
      whole : (d : ℕ) → d ≡ 0 + d
      whole d = omega arith

  pub none_further : (node : ℕ) → node ≤ 16 → ((n : ℕ) → node ≤ n → in_set set n ≡ false)
      → find (is_left (cluster_of plan) s key after visited) (below (is_left (cluster_of plan) s key after visited) set node) ≡ None
      → find (is_left (cluster_of plan) s key after visited) (below (is_left (cluster_of plan) s key after visited) set 16) ≡ None
  none_further node low empty none =
      let p = is_left (cluster_of plan) s key after visited in
      ap (λ (k : ℕ). find p (below p set k)) (rest node low)
      ∙ none_to p set node (16 - node) none (λ k least less. not_member set k (p k) (sym (empty k least)))
    where
      rest : (n : ℕ) → n ≤ 16 → 16 ≡ n + (16 - n)
      rest n low = omega (arith, low)

-- what a store tells of itself it tells of its past
module _ (plan : Content) (s : Situation) (sound : IsSound (cluster_of plan) s) (a : Actor) (node_no : is_node a ≡ false) where
  pub replayed : taken_of (cluster_of plan) a (whole s) ≡ replay plan.topology a (replayed_steps (cluster_of plan) a (whole s))
  replayed = store_replayed (cluster_of plan) (whole s) a (record { valid = sound.valid; stands = sound.run.stands }) node_no

-- ---- reading

one_lacks : (test : TxnId → Bool) (ids : List TxnId) (i : ℕ) (d : TxnId) → i < length ids → test (get_or ids i d) ≡ false → list_all test ids ≡ false
one_lacks test [] i d less lacks = absurd (omega arith)
one_lacks test (x ∷ ids) zero d less lacks = ap (λ b. b && list_all test ids) lacks
one_lacks test (x ∷ ids) (suc i) d less lacks = ap (λ b. test x && b) (one_lacks test ids i d (omega arith) lacks) ∙ both_false (test x)

alone : (b : Bool) → (b && true) ≡ b
alone true = refl
alone false = refl

untold : (b : Bool) (cell : Option Value) → None ≡ cond b (Some cell) None → b ≡ false
untold true cell h = absurd cc
untold false cell h = refl

-- a transaction that isn't applied there
pub lacking : (layout : Layout) (shard : ℕ) (history : List Taken) (ids : List TxnId) (key : Key) (i : ℕ) (x d : TxnId) → i < length ids → x ≡ get_or ids i d
    → None ≡ cell_if_applied layout shard history (x ∷ []) key → None ≡ cell_if_applied layout shard history ids key
lacking layout shard history ids key i x d less is none =
    sym (ap (λ b. cond b (Some (cells_at layout shard history key)) None)
    (one_lacks (is_applied shard history) ids i d less
    (ap (is_applied shard history) (sym is) ∙ sym (alone (is_applied shard history x)) ∙ untold (is_applied shard history x && true) (cells_at layout shard history key) none)))
