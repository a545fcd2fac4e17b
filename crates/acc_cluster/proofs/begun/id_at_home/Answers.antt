-- The home has begun it or not; every other node is passed over.
use Rattle.std.proofs.Common.{rules, ◌<◌, Some, length, sym, ◌∙◌, ap}
use Rattle.std.proofs.lemmas.Bool.{ne_eqb}
use Rattle.std.specs.List.{slice_index_or}
use Rattle.acc_schedule.specs.View.{content}
use Rattle.acc_cluster.proofs.HomesTell.{other_here, number_read, node_within, tells_at}
use Rattle.acc_cluster.proofs.Homes.{home_at}
use Rattle.acc_cluster.proofs.begun.id_at_home.Goals as goal

pub loop-place-preserved : goal.loop-place-preserved
loop-place-preserved g c =
    let numbers = c.args.numbers.now in
    let home = slice_index_or c.as_slice.result.now c.args.txn 0 in
    let place = c.loop-place.place in
    let low : place < length numbers = search rules in
    other_here numbers place home 0 low (ne_eqb (slice_index_or numbers place 0) home c.if-numbers-place.false) c.loop-place.invariant

pub returns-then-numbers-place : goal.returns-then-numbers-place
returns-then-numbers-place g c =
    let plan = c.args.plan.now in
    let nodes = c.args.nodes.now in
    let numbers = c.args.numbers.now in
    let place = c.loop-place.place in
    let n = c.index-nodes-place.result in
    let low : place < length numbers = search rules in
    let within = node_within nodes numbers place c.requires.numbers low in
    let number = number_read nodes numbers place n c.requires.numbers within c.index-nodes-place.is in
    tells_at g.D.Disk plan nodes place n c.args.txn c.id_of.result within c.index-nodes-place.is
    (home_at plan (content c.plan.inside) c.as_slice.result.now c.args.txn c.plan.view_is c.as_slice.ensures c.plan.invariant c.requires.known
    ∙ ap Some (sym (number ∙ c.if-numbers-place.true)))
    c.requires.nodes c.id_of.ensures
