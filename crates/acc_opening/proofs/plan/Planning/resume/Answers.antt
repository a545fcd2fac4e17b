use Rattle.std.proofs.Common.{◌∷◌, [], is_some, sym, ap, ◌∙◌, subst}
use Rattle.std.proofs.lemmas.Bool.{true≢false}
use Rattle.std.proofs.lemmas.Result.{IfOk-weaker}
use Rattle.acc_stamp.specs.declared.stamps.TxnId.{TxnId}
use Rattle.acc_opening.specs.Plan.{Lookup}
use Rattle.acc_opening.specs.Lookup.{lookup}
use Rattle.acc_opening.specs.Touched.{watches_now}
use Rattle.acc_opening.specs.Turns.{turn_lt, HasTurn}
use Rattle.acc_stamp.specs.Rising.{IsRisingBy}
use Rattle.acc_opening.specs.State.{IsUnderWay}
use Rattle.acc_opening.proofs.Start.{untouched}
use Rattle.acc_opening.proofs.QueueFacts.{alone}
use Rattle.acc_opening.proofs.Resume.{resumed_idle, resumed_due}
use Rattle.acc_opening.proofs.plan.Planning.resume.Goals as goal

pub unreachable-requires : goal.unreachable-requires
unreachable-requires c = true≢false (sym c.requires.known.stable ∙ ap is_some c.in_default.is)

pub returns-then-not-is_due : goal.returns-then-not-is_due
returns-then-not-is_due c =
    let known = c.args.known.now in
    let at : Lookup = lookup known.records.now known.own.now in
    let after = watches_now c.args.self.now.touched known.waits.now in
    let same = λ (y : TxnId). untouched c.args.self.now.touched known.waits.now y c.requires.starts.touched in
    let s = resumed_idle known.shard known.records.now known.own.now known.waits.now c.requires.known c.requires.stable after same (sym c.is_due.ensures ∙ c.if-not-is_due.true) in
    subst (λ list. IsUnderWay known.shard at after [] list c.args.self.now.queue) (sym c.requires.starts.done)
    (subst (λ list. IsUnderWay known.shard at after [] [] list) (sym c.requires.starts.queue) s)

pub insert-requires : goal.insert-requires
insert-requires c = subst (IsRisingBy turn_lt) (sym c.requires.starts.queue) tt

pub returns : goal.returns
returns c =
    let known = c.args.known.now in
    let at : Lookup = lookup known.records.now known.own.now in
    let after = watches_now c.args.self.now.touched known.waits.now in
    let same = λ (y : TxnId). untouched c.args.self.now.touched known.waits.now y c.requires.starts.touched in
    let turn = c.turn_of.result in
    let s = resumed_due known.shard known.records.now known.own.now known.waits.now c.requires.known c.requires.stable after same c.in-Some.settled c.in-Some.is (sym c.is_due.ensures ∙ c.if-not-is_due.false) in
    let t = subst (λ z. IsUnderWay known.shard at after [] [] (z ∷ [])) (sym c.turn_of.ensures) s in
    IfOk-weaker _ _ _
    (λ _ has.
    let queue = alone turn c.insert.new.queue (subst (λ list. HasTurn turn list c.insert.new.queue) c.requires.starts.queue has) in
    subst (λ list. IsUnderWay known.shard at after [] list c.insert.new.queue) (sym c.requires.starts.done)
    (subst (λ list. IsUnderWay known.shard at after [] [] list) (sym queue) t))
    c.insert.ensures
