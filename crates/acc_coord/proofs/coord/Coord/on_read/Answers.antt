use Rattle.std.proofs.Common.{◌≡◌, true, false, not, ◌&&◌, sym, ap, subst, ◌∙◌, arith}
use Rattle.std.proofs.lemmas.Bool.{and_from, and_left, and_right}
use Rattle.std.proofs.lemmas.Result.{IfOk-weaker}
use Rattle.acc_stamp.specs.Actor.{shard_of}
use Rattle.acc_topology.specs.Sets.{in_set}
use Rattle.acc_message.specs.declared.message.Message.{Message}
use Rattle.acc_message.specs.declared.message.Message.TheVariants.{ReadOk}
use Rattle.acc_message.specs.Shares.{is_store_of}
use Rattle.acc_message.specs.Attempts.{Executing, has_read, counts}
use Rattle.acc_message.specs.Coordinator.{on_message}
use Rattle.acc_coord.specs.declared.step.Stage.{Stage}
use Rattle.acc_coord.specs.Stands.{own_of, attempt_at, attempt_in, phase_in, StageKeeps, ReadsAre, Follows}
use Rattle.acc_coord.proofs.Moves.{when_goes, when_stays}
use Rattle.acc_coord.proofs.coord.Coord.on_read.Goals as goal
use Rattle.acc_coord.proofs.coord.Coord.on_read.Goals.{then-not-is_store-via-then-not-is_store, then-not-is_store-via-else-not-is_store+then-contains}

pub returns-then-not-is_store : goal.returns-then-not-is_store
returns-then-not-is_store c = λ to id ballot answers keeps.
    let self = c.args.self.now in
    let layout = c.args.topology.now in
    let store = c.args.store in
    let m : Message = ReadOk store to id ballot c.args.answer.now in
    let are : ReadsAre layout c.in-Reads.reads answers = subst (λ (stage : Stage). StageKeeps layout self.id self.body stage answers) c.in-Reads.is keeps.stage in
    let is_there = c.is_store.ensures.value self.body keeps.placed.shards in
    let left_out : (is_store_of layout self.body store && not (has_read answers (shard_of store))) ≡ false =
    elim c.then-not-is_store.branch [
      | then-not-is_store-via-then-not-is_store w ↦
          let other : c.is_store.result ≡ false = cc in
          and_left _ _ (sym is_there ∙ other)
      | then-not-is_store-via-else-not-is_store+then-contains w ↦
          let yes : c.is_store.result ≡ true = cc in
          let most = c.is_store.ensures.shard yes in
          let heard : in_set c.in-Reads.reads.heard (shard_of store) ≡ true = cc in
          and_right _ _ (ap not (sym (are.heard (shard_of store) (omega (arith, most))) ∙ heard))
    ] in
    let no : counts layout (attempt_in self answers) m ≡ false = subst (λ (stage : Stage). counts layout (attempt_at self (phase_in stage) answers) m ≡ false) (sym c.in-Reads.is) left_out in
    when_stays layout self answers c.silent.result _ _ no c.silent.ensures.emitted c.silent.ensures.next

pub returns-else-contains : goal.returns-else-contains
returns-else-contains c =
    let self = c.args.self.now in
    let layout = c.args.topology.now in
    let store = c.args.store in
    IfOk-weaker c.read_one.result _ _
    (λ step h. λ to id ballot answers keeps.
    let m : Message = ReadOk store to id ballot c.args.answer.now in
    let are : ReadsAre layout c.in-Reads.reads answers = subst (λ (stage : Stage). StageKeeps layout self.id self.body stage answers) c.in-Reads.is keeps.stage in
    let is_there = c.is_store.ensures.value self.body keeps.placed.shards in
    let yes : c.is_store.result ≡ true = cc in
    let most = c.is_store.ensures.shard yes in
    let unheard : in_set c.in-Reads.reads.heard c.shard-shard.result ≡ false = cc in
    let unread : has_read answers (shard_of store) ≡ false =
    sym (are.heard (shard_of store) (omega (arith, most))) ∙ ap (in_set c.in-Reads.reads.heard) (sym c.shard-shard.ensures) ∙ unheard in
    subst (λ (stage : Stage). Follows layout self answers step (on_message layout (own_of self) self.id (attempt_at self (phase_in stage) answers) m)) (sym c.in-Reads.is)
    (when_goes layout self answers step _ _ (attempt_at self (Executing c.in-Reads.settled) answers) (and_from _ _ (sym is_there ∙ yes) (ap not unread))
    (h store to id ballot answers keeps.placed are (sym c.shard-shard.ensures) unheard)))
    c.read_one.ensures
