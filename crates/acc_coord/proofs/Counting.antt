-- Which answers count: the first of each store of the transaction.
use Rattle.std.proofs.Common.{◌≡◌, ℕ, ◌+◌, ◌*◌, ◌/◌, ◌%◌, Bool, true, false, not, ◌||◌, eqb, List, [], ◌∷◌, Some, None, refl, sym, ap, subst, ◌∙◌, arith}
use Rattle.std.specs.List.{list_any}
use Rattle.std.proofs.lemmas.Bool.{and_from, and_left, and_right}
use Rattle.acc_stamp.specs.declared.stamps.TxnId.{TxnId}
use Rattle.acc_stamp.specs.declared.stamps.Stamp.{Stamp}
use Rattle.acc_stamp.specs.declared.actors.Actor.{Actor}
use Rattle.acc_stamp.specs.Stamp.{stamp_eq}
use Rattle.acc_stamp.specs.Actor.{node_of, shard_of}
use Rattle.acc_deps.specs.declared.shards.ShardDeps.{ShardDeps}
use Rattle.acc_topology.specs.Layout.{Layout}
use Rattle.acc_quorum.specs.Answers.{Answer, has_answered}
use Rattle.acc_message.specs.declared.message.Message.{Message}
use Rattle.acc_message.specs.Fields.{from_of}
use Rattle.acc_message.specs.Items.{same_actor}
use Rattle.acc_message.specs.Shares.{shards_used, is_store_of}
use Rattle.acc_message.specs.Attempts.{plain, plainly, vote_in_answer, deps_in_answer}
use Rattle.acc_tally.specs.declared.tally.Tally.{Tally}
use Rattle.acc_tally.specs.Stands.{StandsFor as Tallies, Counts, answer_of}
use Rattle.acc_coord.specs.declared.coord.Coord.{Coord}
use Rattle.acc_coord.specs.Stands.{CountedIs}

whole : (n : ℕ) → n / 64 * 64 + n % 64 ≡ n
whole n = omega arith

pub same_seats : (x : TxnId) (store : Actor) (answers : List Message) → has_answered (plainly x answers) (shard_of store) (node_of store) ≡ list_any (λ earlier. same_actor (from_of earlier) store) answers
same_seats x store [] = refl
same_seats x store (m ∷ answers) =
    ap (λ (n : ℕ). eqb (from_of m).0 n || has_answered (plainly x answers) (shard_of store) (node_of store)) (whole store.0)
    ∙ ap (λ (b : Bool). eqb (from_of m).0 store.0 || b) (same_seats x store answers)

plain_is : (x : TxnId) (m : Message) (store : Actor) (u : Bool) (t : Stamp) (deps : List ShardDeps) → from_of m ≡ store → vote_in_answer m ≡ t → deps_in_answer m ≡ deps → u ≡ stamp_eq t x.0 → answer_of store u t deps ≡ plain x m
plain_is x m store u t deps from vote with_deps unchanged =
    let kept : u ≡ stamp_eq (vote_in_answer m) x.0 = unchanged ∙ ap (λ (s : Stamp). stamp_eq s x.0) (sym vote) in
    ap (λ (s : Actor). answer_of s u t deps) (sym from) ∙ ap (λ (b : Bool). answer_of (from_of m) b t deps) kept
    ∙ ap (λ (s : Stamp). answer_of (from_of m) (stamp_eq (vote_in_answer m) x.0) s deps) (sym vote)
    ∙ ap (λ (d : List ShardDeps). answer_of (from_of m) (stamp_eq (vote_in_answer m) x.0) (vote_in_answer m) d) (sym with_deps)

module _ (layout : Layout) (c : Coord) (m : Message) (answers : List Message) (store : Actor) (from : from_of m ≡ store) where
  seats : list_any (λ earlier. same_actor (from_of earlier) (from_of m)) answers ≡ has_answered (plainly c.id answers) (shard_of store) (node_of store)
  seats = ap (λ (s : Actor). list_any (λ earlier. same_actor (from_of earlier) s) answers) from ∙ sym (same_seats c.id store answers)

  pub other_actor : is_store_of layout c.body store ≡ false → CountedIs layout c m answers None
  other_actor apart = and_left _ _ (ap (is_store_of layout c.body) from ∙ apart)

  pub one_again : (old new : Tally) (a : Answer) → a.store ≡ store → Counts old new (shards_used layout c.body) (plainly c.id answers) a false → CountedIs layout c m answers None
  one_again old new a is counts =
      let before : has_answered (plainly c.id answers) (shard_of store) (node_of store) ≡ true = subst (λ (s : Actor). has_answered (plainly c.id answers) (shard_of s) (node_of s) ≡ true) is counts.0 in
      and_right _ _ (ap not (seats ∙ before))

  pub one_more : (old new : Tally) (u : Bool) (t : Stamp) (deps : List ShardDeps) → is_store_of layout c.body store ≡ true → vote_in_answer m ≡ t → deps_in_answer m ≡ deps → u ≡ stamp_eq t c.id.0
      → Counts old new (shards_used layout c.body) (plainly c.id answers) (answer_of store u t deps) true → CountedIs layout c m answers (Some new)
  one_more old new u t deps is vote with_deps unchanged counts = (
    and_from _ _ (ap (is_store_of layout c.body) from ∙ is) (ap not (seats ∙ counts.0)),
    subst (λ (a : Answer). Tallies new (shards_used layout c.body) (a ∷ plainly c.id answers)) (plain_is c.id m store u t deps from vote with_deps unchanged) counts.1,
  )
