-- What steps of a healing add over strict disks: no down, and no lost entry.
use Rattle.std.proofs.Common.{◌≡◌, ℕ, suc, ◌/◌, ◌<◌, ◌≤◌, Bool, true, false, not, ◌&&◌, List, [], ◌∷◌, ◌++◌, Option, None, Some, refl, sym, ◌∙◌, ap, subst}
use Rattle.std.specs.Prelude.{◌==◌}
use Rattle.std.proofs.lemmas.List.{append_assoc}
use Rattle.acc_stamp.specs.declared.actors.Actor.{Actor}
use Rattle.acc_stamp.specs.Actor.{actor_of}
use Rattle.acc_message.specs.declared.entry.Event.TheVariants.{Recover as RecoverEvent, Message as MessageEvent, Restart as RestartEvent}
use Rattle.acc_message.specs.declared.item.Item.{Item}
use Rattle.acc_message.specs.declared.item.Item.TheVariants.{Skipped}
use Rattle.acc_message.specs.declared.item.Skip.{Skip}
use Rattle.acc_message.specs.declared.entry.Event.{Event}
use Rattle.acc_message.specs.Run.{Cluster, is_node}
use Rattle.acc_run_laws.specs.AskLaws.{is_no_down}
use Rattle.acc_journal.specs.Journal.{keeps_group}
use Rattle.acc_payloads.specs.Appends.{fails_append}
use Rattle.acc_schedule_runs.specs.Situations.{Situation, is_lost, receiver_in}
use Rattle.acc_schedule_runs.specs.Moves.{entry_of, tried_if, kept_if, reopened, recover_skip, is_journalled}
use Rattle.acc_schedule_runs.specs.Laws.{NobodyIsDown, NothingIsLost}
use Rattle.acc_schedule_runs.specs.Disks.{Disks, after_step, after_fail, step_answers}
use Rattle.acc_schedule_runs.specs.StrictLaws.{after_steps}
use Rattle.acc_schedule_runs.specs.StrictMoves.{StrictSituation, tried_strictly, stepped_strictly, restarted_strictly, StrictDrains, stops, delivers}
use Rattle.acc_heal_laws.proofs.Delivering.{all_append}
use Rattle.acc_heal_laws.proofs.StrictDisks.{AreFine, most_recovers, all_more, step_fine, store_fine, passes}

pub record Adds (before after : List Item) : Type 0 where
  pub later : List Item
  pub items_are : after ≡ later ++ before
  pub nobody : NobodyIsDown later
  pub nothing : NothingIsLost later

abbrev is_kept : Item → Bool
is_kept item = not (is_lost item)

pub adds_none : (items : List Item) → Adds items items
adds_none items = record { later = []; items_are = refl; nobody = refl; nothing = refl }

pub adds_same : (before after : List Item) → after ≡ before → Adds before after
adds_same before after is = record { later = []; items_are = is; nobody = refl; nothing = refl }

-- an entry that isn't lost
pub adds_entry : (cluster : Cluster) (s : Situation) (a : Actor) (event : Event) (after : List Item) → after ≡ entry_of cluster s a event false ∷ s.own → Adds s.own after
adds_entry cluster s a event after is =
    record { later = entry_of cluster s a event false ∷ []; items_are = is; nobody = refl; nothing = refl }

pub adds_chain : (one two three : List Item) → Adds one two → Adds two three → Adds one three
adds_chain one two three a b =
    record {
      later = b.later ++ a.later;
      items_are = b.items_are ∙ ap (λ k. b.later ++ k) a.items_are ∙ sym (append_assoc b.later a.later one);
      nobody = all_append is_no_down b.later a.later b.nobody a.nobody;
      nothing = all_append is_kept b.later a.later b.nothing a.nothing;
    }

-- what a step adds, and that the disks are fine after it
pub record AddsFine (most : ℕ) (s next : StrictSituation) : Type 0 where
  pub adds : Adds s.found.own next.found.own
  pub fine : AreFine most next.disks

none_fails : (o : Bool) → (false && o) ≡ false
none_fails o = refl

module _ (cluster : Cluster)
    (law : (a : Actor) (disks : Disks) (calls steps place : ℕ) → steps < calls / 4
    → (step_answers (after_steps steps a (after_fail a calls disks)) a).fails place ≡ false)
    (most : ℕ) (within : most ≤ most_recovers) where
  -- a step that its disk doesn't stop
  enters : (s : StrictSituation) (a : Actor) (event : Event) → (is_journalled a event && fails_append (s.disks.armed a)) ≡ false
      → Adds s.found.own (tried_strictly cluster s a event).found.own
  enters s a event passes_it =
      adds_entry cluster s.found a event (tried_strictly cluster s a event).found.own
      (ap (λ o. (tried_if o cluster s.found a event).own) passes_it)

  message : (s : StrictSituation) (a : Actor) (n : ℕ) → AreFine most s.disks → AddsFine most s (tried_strictly cluster s a (MessageEvent n))
  message s a n fine = by (is_node a) refl
    where
      by : (o : Bool) → is_node a ≡ o → AddsFine most s (tried_strictly cluster s a (MessageEvent n))
      by true node =
          record {
            adds = enters s a (MessageEvent n) (ap (λ o. not o && fails_append (s.disks.armed a)) node);
            fine = subst (λ o. AreFine most (after_step (not o) a s.disks)) (sym node) fine;
          }
      by false store =
          record {
            adds =
                enters s a (MessageEvent n)
                (ap (λ o. not o && fails_append (s.disks.armed a)) store ∙ passes law most s.disks a within (fine a));
            fine = subst (λ o. AreFine most (after_step (not o) a s.disks)) (sym store) (store_fine most s.disks a store fine);
          }

  pub drain : (last s : StrictSituation) → StrictDrains cluster last s → AreFine most s.disks → AddsFine most s last
  drain last s (stops _ none is) fine =
      record {
        adds = adds_same s.found.own last.found.own (ap (λ (t : StrictSituation). t.found.own) is);
        fine = subst (λ (t : StrictSituation). AreFine most t.disks) (sym is) fine;
      }
  drain last s (delivers _ n oldest rest) fine =
      let t : StrictSituation = tried_strictly cluster s (receiver_in s.found n) (MessageEvent n) in
      let one = message s (receiver_in s.found n) n fine in
      let more = drain last t rest one.fine in
      record { adds = adds_chain s.found.own t.found.own last.found.own one.adds more.adds; fine = more.fine }

  pub recover : (number : ℕ) (s next : StrictSituation) (txn node : ℕ)
      → next ≡ stepped_strictly (recover_skip s.found txn node) cluster number s (actor_of node 0) (RecoverEvent txn) → AreFine most s.disks
      → AddsFine (suc most) s next
  recover number s next txn node is fine = subst (AddsFine (suc most) s) (sym is) (by (recover_skip s.found txn node))
    where
      by : (skip : Option Skip) → AddsFine (suc most) s (stepped_strictly skip cluster number s (actor_of node 0) (RecoverEvent txn))
      by (Some cause) =
          record {
            adds = record { later = Skipped number cause ∷ []; items_are = refl; nobody = refl; nothing = refl };
            fine = all_more most s.disks fine;
          }
      by None =
          record {
            adds = enters s (actor_of node 0) (RecoverEvent txn) (passes law most s.disks (actor_of node 0) within (fine (actor_of node 0)));
            fine = step_fine most s.disks (actor_of node 0) fine;
          }

-- a restart with choice 0 keeps nothing
keeps_none : (passed : Option ℕ) → keeps_group passed 0 ≡ false
keeps_none None = refl
keeps_none (Some n) = by (n == 3)
  where
    by : (o : Bool) → (o && false) ≡ false
    by true = refl
    by false = refl

pub restart_adds : (cluster : Cluster) (s next : StrictSituation) (a : Actor) (choice : ℕ) → choice ≡ 0 → next ≡ restarted_strictly cluster s a choice
    → Adds s.found.own next.found.own
restart_adds cluster s next a choice none is =
    adds_entry cluster s.found a (RestartEvent 0) next.found.own
    (ap (λ (t : StrictSituation). t.found.own) is ∙ ap (λ k. (restarted_strictly cluster s a k).found.own) none
    ∙ ap (λ o. (reopened cluster s.found a (kept_if o a s.found)).own) (keeps_none (s.disks.passed a)))
