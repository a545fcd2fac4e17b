-- In a run a store has sent at most as many messages as it took.
use Rattle.std.proofs.Common.{◌≡◌, ℕ, ◌+◌, Bool, true, false, ◌&&◌, cond, List, [], ◌∷◌, ◌++◌, length, Option, None, Some, refl, sym, ◌∙◌, ap, subst, arith}
use Rattle.std.specs.Option.{option_map}
use Rattle.std.specs.List.{slice_get}
use Rattle.acc_stamp.specs.declared.stamps.TxnId.{TxnId}
use Rattle.acc_stamp.specs.declared.actors.Actor.{Actor}
use Rattle.acc_topology.specs.Layout.{Layout}
use Rattle.acc_topology.proofs.Bits.{one_if, count_by-cons}
use Rattle.acc_txn.specs.declared.parts.BodyParts.{BodyParts}
use Rattle.acc_message.specs.declared.entry.Emitted.{Emitted}
use Rattle.acc_message.specs.declared.entry.Entry.{Entry}
use Rattle.acc_message.specs.declared.entry.Event.{Event}
use Rattle.acc_message.specs.declared.entry.Event.TheVariants.{Begin, Recover, Slow, Message as TakesMessage, Restart}
use Rattle.acc_message.specs.declared.item.Item.{Item}
use Rattle.acc_message.specs.declared.item.Item.TheVariants.{Step, Skipped, Down}
use Rattle.acc_message.specs.Items.{same_actor, message_at, id_of_txn}
use Rattle.acc_message.specs.Taken.{Taken}
use Rattle.acc_message.specs.Coordinator.{silence}
use Rattle.acc_message.specs.NodeRules.{Act, Begins, Recovers, Slows, Takes, Restarts}
use Rattle.acc_message.specs.Run.{Cluster, act_of, recovers, deed_with, deed_if, deeds_of, taken_with, taken_from, taken_of, store_emits, is_node, emits, emits_by, StandsOn, EachStands}
use Rattle.acc_actor_laws.proofs.Standing.{not_none}
use Rattle.acc_actor_laws.proofs.OpeningFacts.{some_is}
use Rattle.acc_safety.proofs.Bridge.{same, each_answers}
use Rattle.acc_calm.specs.MessageCounts.{sent_by, takes_message, takes_at, taken_by, StoresOnlyAnswer}
use Rattle.acc_calm.proofs.StoreCounts.{sent_in_all, history_pays}

takes_act : Act → Bool
takes_act (Takes m) = true
takes_act (Begins txn body) = false
takes_act (Recovers x body) = false
takes_act (Slows x) = false
takes_act Restarts = false

module _ (b : Bool) (act : Act) where
  mapped_takes : {T : Type 0} (f : T → Act) (o : Option T) → ((t : T) → takes_act (f t) ≡ b) → option_map f o ≡ Some act → takes_act act ≡ b
  mapped_takes f None h is = absurd (not_none act is)
  mapped_takes f (Some t) h is = ap takes_act (sym (some_is (f t) act is)) ∙ h t

recover_takes : (x : Option TxnId) (body : Option BodyParts) (act : Act) → recovers x body ≡ Some act → takes_act act ≡ false
unfolding takes_act
recover_takes None body act is = absurd (not_none act is)
recover_takes (Some x) None act is = absurd (not_none act is)
recover_takes (Some x) (Some body) act is = ap takes_act (sym (some_is (Recovers x body) act is))

takes_same : (cluster : Cluster) (earlier : List Item) (event : Event) (act : Act) → act_of cluster earlier event ≡ Some act → takes_act act ≡ takes_message event
unfolding takes_act
takes_same cluster earlier (Begin txn) act is = mapped_takes false act (Begins txn) (slice_get cluster.bodies txn) (λ body. refl) is
takes_same cluster earlier (Recover txn) act is = recover_takes (id_of_txn earlier txn) (slice_get cluster.bodies txn) act is
takes_same cluster earlier (Slow txn) act is = mapped_takes false act Slows (id_of_txn earlier txn) (λ x. refl) is
takes_same cluster earlier (TakesMessage number) act is = mapped_takes true act Takes (message_at earlier number) (λ m. refl) is
takes_same cluster earlier (Restart kept) act is = ap takes_act (sym (some_is Restarts act is))

-- what a store's entry adds to the counts
Adds : Bool → Act → Emitted → List Taken → Type 0
Adds takes act emitted rest =
    (length emitted.out + sent_in_all rest ≡ sent_in_all (taken_with act emitted ++ rest)) × (one_if takes + length rest ≡ length (taken_with act emitted ++ rest))

silent : (rest : List Taken) (emitted : Emitted) → emitted ≡ silence → length emitted.out + sent_in_all rest ≡ sent_in_all rest
silent rest emitted is = let none : length emitted.out ≡ 0 = ap (λ (e : Emitted). length e.out) is in omega (arith, none)

adds : (layout : Layout) (a : Actor) (past rest : List Taken) (act : Act) (emitted : Emitted) → emitted ≡ store_emits layout a past act → Adds (takes_act act) act emitted rest
unfolding takes_act Adds
adds layout a past rest (Takes m) emitted is = (refl, omega arith)
adds layout a past rest (Begins txn body) emitted is = (silent rest emitted is, omega arith)
adds layout a past rest (Recovers x body) emitted is = (silent rest emitted is, omega arith)
adds layout a past rest (Slows x) emitted is = (silent rest emitted is, omega arith)
adds layout a past rest Restarts emitted is = (silent rest emitted is, omega arith)

module _ (cluster : Cluster) (a : Actor) (store : is_node a ≡ false) where
  Counted : List Item → Type 0
  Counted items = (sent_by a items ≡ sent_in_all (taken_of cluster a items)) × (taken_by a items ≡ length (taken_of cluster a items))

  own_step : (earlier : List Item) (e : Entry) → StandsOn cluster earlier e → e.actor ≡ a → (sent taken : ℕ)
      → sent ≡ sent_in_all (taken_of cluster a earlier) → taken ≡ length (taken_of cluster a earlier)
      → (length e.emitted.out + sent ≡ sent_in_all (taken_from (deed_if true cluster earlier e ++ deeds_of cluster a earlier)))
      × (one_if (takes_message e.event) + taken ≡ length (taken_from (deed_if true cluster earlier e ++ deeds_of cluster a earlier)))
  unfolding Adds
  own_step earlier e s its sent taken sent_is taken_is =
      let more = adds cluster.layout a (taken_of cluster a earlier) (taken_of cluster a earlier) s.act e.emitted
      (s.emitted ∙ ap (λ b. emits cluster earlier b s.act) its ∙ ap (λ b. emits_by b cluster a (deeds_of cluster a earlier) s.act) store) in
      let kind = takes_same cluster earlier e.event s.act s.act_is in
      subst
      (λ o. (length e.emitted.out + sent ≡ sent_in_all (taken_from (deed_with o e.emitted ++ deeds_of cluster a earlier)))
      × (one_if (takes_message e.event) + taken ≡ length (taken_from (deed_with o e.emitted ++ deeds_of cluster a earlier))))
      (sym s.act_is)
      (ap (λ n. length e.emitted.out + n) sent_is ∙ more.0, ap (λ b. one_if b + taken) (sym kind) ∙ ap (λ n. one_if (takes_act s.act) + n) taken_is ∙ more.1)

  entry_counted : (earlier : List Item) (e : Entry) → StandsOn cluster earlier e
      → (sent_by a earlier ≡ sent_in_all (taken_of cluster a earlier)) × (taken_by a earlier ≡ length (taken_of cluster a earlier))
      → (sent_by a (Step e ∷ earlier) ≡ sent_in_all (taken_of cluster a (Step e ∷ earlier)))
      × (one_if (takes_at a (Step e)) + taken_by a earlier ≡ length (taken_of cluster a (Step e ∷ earlier)))
  entry_counted earlier e s rest = by (same_actor e.actor a) refl
    where
      by : (b : Bool) → same_actor e.actor a ≡ b
          → (cond b (length e.emitted.out) 0 + sent_by a earlier ≡ sent_in_all (taken_from (deed_if b cluster earlier e ++ deeds_of cluster a earlier)))
          × (one_if (b && takes_message e.event) + taken_by a earlier ≡ length (taken_from (deed_if b cluster earlier e ++ deeds_of cluster a earlier)))
      by false other = (omega (arith, rest.0), omega (arith, rest.1))
      by true its = own_step earlier e s (same e.actor a its) (sent_by a earlier) (taken_by a earlier) rest.0 rest.1

  counted : (items : List Item) → EachStands cluster items → Counted items
  unfolding Counted
  counted [] h = (refl, refl)
  counted (Skipped step cause ∷ earlier) h =
      let rest = counted earlier h.1 in (omega (arith, rest.0), omega (arith, rest.1, count_by-cons (takes_at a) (Skipped step cause) earlier))
  counted (Down actor ∷ earlier) h =
      let rest = counted earlier h.1 in (omega (arith, rest.0), omega (arith, rest.1, count_by-cons (takes_at a) (Down actor) earlier))
  counted (Step e ∷ earlier) h =
      let both = entry_counted earlier e h.0 (counted earlier h.1) in (both.0, count_by-cons (takes_at a) (Step e) earlier ∙ both.1)

pub stores_only_answer : (cluster : Cluster) (items : List Item) → EachStands cluster items → StoresOnlyAnswer items
unfolding Counted
stores_only_answer cluster items h a store =
    omega (arith, (counted cluster a store items h).0, (counted cluster a store items h).1, history_pays cluster.layout a (taken_of cluster a items) (each_answers cluster a items h store))
