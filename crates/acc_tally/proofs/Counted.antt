-- A tally after one more answer, and the tests of a shard by what is marked.
use Rattle.std.proofs.Common.{◌≡◌, ℕ, ◌<◌, Bool, true, false, not, ◌&&◌, ◌||◌, List, ◌∷◌, refl, sym, ap, ◌∙◌}
use Rattle.std.specs.Prelude.{slice_index}
use Rattle.std.proofs.Math.Bool.{or_comm, and-true}
use Rattle.std.proofs.lemmas.Bool.{and_right}
use Rattle.acc_stamp.specs.declared.stamps.Stamp.{Stamp}
use Rattle.acc_stamp.specs.declared.actors.Actor.{Actor}
use Rattle.acc_stamp.specs.Actor.{actor_of, actor_eq}
use Rattle.acc_deps.specs.declared.shards.ShardDeps.{ShardDeps}
use Rattle.acc_topology.specs.Sets.{in_set}
use Rattle.acc_quorum.specs.Answers.{Answer, has_answered, has_kept, has_changed}
use Rattle.acc_tally.specs.Stands.{answer_of, AreMarked}

-- the sets after a store was marked
abbrev pub IsMarkedWith : List ℕ → List ℕ → Actor → Type 0
IsMarkedWith old new store = (s n : ℕ) → s < 16 → in_set (slice_index new s) n ≡ (in_set (slice_index old s) n || actor_eq store (actor_of n s))

more : (old new : List ℕ) (test mine : ℕ → ℕ → Bool) (store : Actor) → AreMarked old test → IsMarkedWith old new store → ((s n : ℕ) → mine s n ≡ actor_eq store (actor_of n s)) → AreMarked new (λ s n. mine s n || test s n)
more old new test mine store before marked same =
    λ s n small. marked s n small ∙ ap (λ b. b || actor_eq store (actor_of n s)) (before s n small) ∙ or_comm (test s n) (actor_eq store (actor_of n s)) ∙ ap (λ b. b || test s n) (sym (same s n))

unmarked : (old : List ℕ) (test mine : ℕ → ℕ → Bool) → AreMarked old test → ((s n : ℕ) → mine s n ≡ false) → AreMarked old (λ s n. mine s n || test s n)
unmarked old test mine before none = λ s n small. before s n small ∙ ap (λ b. b || test s n) (sym (none s n))

module _ (old new : List ℕ) (answers : List Answer) (store : Actor) (t : Stamp) (deps : List ShardDeps) where
  pub one_answered : (u : Bool) → AreMarked old (has_answered answers) → IsMarkedWith old new store → AreMarked new (has_answered (answer_of store u t deps ∷ answers))
  one_answered u before marked = more old new (has_answered answers) (λ s n. actor_eq store (actor_of n s)) store before marked (λ s n. refl)

  pub one_kept : (u : Bool) → true ≡ u → AreMarked old (has_kept answers) → IsMarkedWith old new store → AreMarked new (has_kept (answer_of store u t deps ∷ answers))
  one_kept u e before marked =
      more old new (has_kept answers) (λ s n. actor_eq store (actor_of n s) && u) store before marked
      (λ s n. ap (λ b. actor_eq store (actor_of n s) && b) (sym e) ∙ and-true (actor_eq store (actor_of n s)))

  pub none_kept : (u : Bool) → false ≡ u → AreMarked old (has_kept answers) → AreMarked old (has_kept (answer_of store u t deps ∷ answers))
  none_kept u e before = unmarked old (has_kept answers) (λ s n. actor_eq store (actor_of n s) && u) before (λ s n. and_right (actor_eq store (actor_of n s)) u (sym e))

  pub one_changed : (u : Bool) → false ≡ u → AreMarked old (has_changed answers) → IsMarkedWith old new store → AreMarked new (has_changed (answer_of store u t deps ∷ answers))
  one_changed u e before marked =
      more old new (has_changed answers) (λ s n. actor_eq store (actor_of n s) && not u) store before marked
      (λ s n. ap (λ b. actor_eq store (actor_of n s) && not b) (sym e) ∙ and-true (actor_eq store (actor_of n s)))

  pub none_changed : (u : Bool) → true ≡ u → AreMarked old (has_changed answers) → AreMarked old (has_changed (answer_of store u t deps ∷ answers))
  none_changed u e before = unmarked old (has_changed answers) (λ s n. actor_eq store (actor_of n s) && not u) before (λ s n. and_right (actor_eq store (actor_of n s)) (not u) (ap not (sym e)))

-- the nodes of a shard that pass a test, as a test
pub marked_at : (sets : List ℕ) (test : ℕ → ℕ → Bool) (s : ℕ) → AreMarked sets test → s < 16 → in_set (slice_index sets s) ≡ test s
marked_at sets test s h small = λ i n. h s n small i
