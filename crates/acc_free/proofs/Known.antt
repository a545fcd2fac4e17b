-- The actors of a plan whose desks are made.
use Rattle.std.proofs.Common.{◌≡◌, ℕ, ◌+◌, ◌*◌, ◌≤◌, ◌<◌, Bool, true, false, IsTrue, List, [], ◌∷◌, ◌++◌, length, map, Contains, refl, sym, ◌∙◌, ap, arith}
use Rattle.std.proofs.lemmas.List.{append_assoc, append-nil}
use Rattle.acc_stamp.specs.declared.actors.Actor.{Actor}
use Rattle.acc_stamp.specs.Actor.{actor_of}
use Rattle.acc_topology.specs.Layout.{Layout, HasShard, shard_at}
use Rattle.acc_topology.specs.Sets.{is_among, in_set, members}
use Rattle.acc_run_laws.proofs.Layouts.{is_in_among, node_is, store_is}
use Rattle.acc_safety.proofs.PlaceOrder.{IsIn-Contains}
use Rattle.acc_schedule.specs.Actors.{actors}
use Rattle.acc_run.proofs.Numbers.{stores_to, shard_more, members_below, one_more_store, no_more_store, all_named}

pub node_known : (layout : Layout) (node : ℕ) → IsTrue (is_among layout.nodes node) → Contains (actors layout) (actor_of node 0)
node_known layout node h = IsIn-Contains (actor_of node 0) (actors layout) (node_is layout node h)

pub store_known : (layout : Layout) (node shard : ℕ) → HasShard layout shard → is_among (shard_at layout shard).replicas node ≡ true → Contains (actors layout) (actor_of node shard)
store_known layout node shard has h =
    IsIn-Contains (actor_of node shard) (actors layout) (store_is layout node shard has (is_in_among node (shard_at layout shard).replicas h))

-- the set has a number that the list has
pub listed_among : (set : ℕ) (ns : List ℕ) (n : ℕ) (b : Bool) → in_set set n ≡ is_among ns n → b ≡ in_set set n → b ≡ true → is_among ns n ≡ true
listed_among set ns n b same told is = sym same ∙ sym told ∙ is

-- ---- the stores of one shard more

pub shard_on : (layout : Layout) (front : List Actor) (place : ℕ) → place < length layout.shards
    → (front ++ stores_to layout place) ++ map (λ node. actor_of node (place + 1)) (shard_at layout (place + 1)).replicas ≡ front ++ stores_to layout (place + 1)
shard_on layout front place within =
    append_assoc front (stores_to layout place) (map (λ node. actor_of node (place + 1)) (shard_at layout (place + 1)).replicas)
    ∙ ap (λ (l : List Actor). front ++ l) (sym (shard_more layout place within))

pub no_shard_on : (layout : Layout) (front : List Actor) → front ≡ front ++ stores_to layout 0
no_shard_on layout front = sym (append-nil front)

pub sixteen_more : (n : ℕ) → n * 16 + 16 ≡ (n + 1) * 16
sixteen_more n = omega arith

-- ---- one actor more

pub store_on : (front names : List Actor) (shard set n : ℕ) (b : Bool) → names ≡ front ++ map (λ node. actor_of node shard) (members_below set n) → b ≡ true → b ≡ in_set set n
    → names ++ actor_of n shard ∷ [] ≡ front ++ map (λ node. actor_of node shard) (members_below set (n + 1))
store_on front names shard set n b named is told =
    ap (λ (l : List Actor). l ++ actor_of n shard ∷ []) named ∙ sym (one_more_store front shard set n b is told)

pub no_store_on : (front : List Actor) (shard set n : ℕ) (b : Bool) → b ≡ false → b ≡ in_set set n
    → front ++ map (λ node. actor_of node shard) (members_below set n) ≡ front ++ map (λ node. actor_of node shard) (members_below set (n + 1))
no_store_on front shard set n b is told = sym (no_more_store front shard set n b is told)

-- the members of a set that are below 16 are all that are listed
pub all_stores : (front : List Actor) (shard set n : ℕ) (listed nodes : List ℕ) → n ≡ 16 → members set ≡ listed → listed ≡ nodes
    → front ++ map (λ node. actor_of node shard) (members_below set n) ≡ front ++ map (λ node. actor_of node shard) nodes
all_stores front shard set n listed nodes full lists is =
    all_named (λ (ns : List ℕ). front ++ map (λ node. actor_of node shard) ns) (front ++ map (λ node. actor_of node shard) (members_below set n)) set n listed nodes refl full lists is

pub at_most : (m n : ℕ) → m ≡ n → m ≤ n
at_most m n is = omega (arith, is)

pub itself_at_most : (n : ℕ) → n ≤ n
itself_at_most n = omega arith

pub one_after : (n : ℕ) → n ≤ n + 1
one_after n = omega arith
