-- What is planned and sent by the records of a shelf is what the rules send.
use Rattle.std.proofs.Common.{◌≡◌, ℕ, List, [], Option, sym, ap, ◌∙◌, subst}
use Rattle.acc_stamp.specs.declared.stamps.TxnId.{TxnId}
use Rattle.acc_stamp.specs.declared.actors.Actor.{Actor}
use Rattle.acc_stamp.specs.Actor.{shard_of}
use Rattle.acc_topology.specs.Layout.{Layout}
use Rattle.acc_value.specs.declared.key.Key.{Key}
use Rattle.acc_value.specs.declared.value.Value.{Value}
use Rattle.acc_value.specs.Cells.{applied}
use Rattle.acc_message.specs.declared.message.Message.{Message}
use Rattle.acc_message.specs.Taken.{Taken, taking}
use Rattle.acc_message.specs.Opening.{Change, changes_of, cells_at, written_by_all}
use Rattle.acc_message.specs.StoreRules.{replay, release, released as released_by_rules}
use Rattle.acc_record.specs.declared.record.Record.{Record}
use Rattle.acc_record.specs.declared.shelf.Shelf.{Shelf}
use Rattle.acc_record.specs.Shelf.{record_at, cell_at}
use Rattle.acc_record.specs.Stands.{StandsFor}
use Rattle.acc_opening.specs.Plan.{IsPlan}
use Rattle.acc_opening.proofs.PlanLaw.{plan_is}
use Rattle.acc_opening.specs.Lookup.{lookup}
use Rattle.acc_opening.specs.declared.releasing.Released.{Released}
use Rattle.acc_opening.specs.Release.{IsReleased, release_by, written_at_all}
use Rattle.acc_opening.proofs.RulesLaw.{release_is, written_all_is}
use Rattle.acc_execute.specs.Own.{IsOwn}
use Rattle.acc_execute.proofs.Taking.{is_taking, are_of}

module _ (layout : Layout) (messages : List Message) (m : Message) (shelf : Shelf) (own : Record) (stands : StandsFor layout shelf (replay layout shelf.actor messages)) (o : IsOwn shelf.records m own) (changes : List Change) (plan : IsPlan (shard_of shelf.actor) (lookup shelf.records own) changes) (sent : Released) (is : IsReleased layout shelf.actor (lookup shelf.records own) changes (cell_at shelf.cells) sent) where
  changes_are : changes ≡ changes_of (shard_of shelf.actor) (record { message = m; sent = [] }) (replay layout shelf.actor messages)
  changes_are =
      plan_is (shard_of shelf.actor) (record { message = m; sent = [] }) (replay layout shelf.actor messages) (lookup shelf.records own)
      (is_taking layout shelf.actor (shard_of shelf.actor) messages m shelf.records own stands.records o) changes plan

  cells_are : cell_at shelf.cells ≡ cells_at layout (shard_of shelf.actor) (replay layout shelf.actor messages)
  cells_are = λ i key. stands.cells key i

  -- what is sent
  pub sends : sent.sent ≡ released_by_rules layout shelf.actor (replay layout shelf.actor messages) m
  sends =
      is.sent
      ∙ release_is layout shelf.actor (taking m (replay layout shelf.actor messages)) (lookup shelf.records own) (shard_of shelf.actor) [] changes (cell_at shelf.cells)
      (are_of layout shelf.actor (shard_of shelf.actor) messages m shelf.records own stands.records o) plan.each
      ∙ ap (λ list. release layout shelf.actor (taking m (replay layout shelf.actor messages)) list (cell_at shelf.cells)) changes_are
      ∙ ap (release layout shelf.actor (taking m (replay layout shelf.actor messages)) (changes_of (shard_of shelf.actor) (record { message = m; sent = [] }) (replay layout shelf.actor messages))) cells_are

  -- what the cells come to
  pub writes : (key : Key) → applied (cell_at shelf.cells) sent.writes key ≡ cells_at layout (shard_of shelf.actor) (taking m (replay layout shelf.actor messages)) key
  writes key =
      is.writes key
      ∙ ap (λ (f : Key → Option Value). f key)
      (written_all_is layout (shard_of shelf.actor) (taking m (replay layout shelf.actor messages)) (lookup shelf.records own) (shard_of shelf.actor) [] changes (cell_at shelf.cells)
      (are_of layout shelf.actor (shard_of shelf.actor) messages m shelf.records own stands.records o) plan.each
      ∙ ap (λ list. written_by_all layout (shard_of shelf.actor) (taking m (replay layout shelf.actor messages)) list (cell_at shelf.cells)) changes_are
      ∙ ap (written_by_all layout (shard_of shelf.actor) (taking m (replay layout shelf.actor messages)) (changes_of (shard_of shelf.actor) (record { message = m; sent = [] }) (replay layout shelf.actor messages))) cells_are)
