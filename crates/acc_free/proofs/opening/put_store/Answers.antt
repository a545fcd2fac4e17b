-- A store that has done nothing, over a new disk.
use Rattle.std.proofs.Common.{◌≡◌, ◌≢◌, ℕ, false, sym, ◌∙◌, ap}
use Rattle.std.proofs.lemmas.Bool.{true≢false}
use Rattle.acc_stamp.specs.declared.actors.Actor.{Actor}
use Rattle.acc_message.specs.Run.{is_node}
use Rattle.acc_free.proofs.opening.put_store.Goals as goal

not_zero : (a : Actor) → is_node a ≡ false → a.0 ≢ 0
not_zero a kind is = true≢false (sym (ap (λ (n : ℕ). is_node (record { 0 = n })) is) ∙ kind)

pub fresh_store-slot-requires-clause-rest : goal.fresh_store-slot-requires-clause-rest
fresh_store-slot-requires-clause-rest g c =
    c.in_ok-disk.ensures.fresh.rest

pub put-requires-clause-some : goal.put-requires-clause-some
put-requires-clause-some g c = not_zero c.args.own c.requires.kind

pub put-requires-clause-strict : goal.put-requires-clause-strict
put-requires-clause-strict g c = λ is. c.fresh_store-slot.ensures.strict (c.in_ok-disk.ensures.strict (sym c.requires.strict ∙ is), c.in_ok-disk.ensures.fresh.armed)
