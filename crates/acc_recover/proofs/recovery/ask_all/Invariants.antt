use Rattle.std.proofs.Common.{◌≡◌, map, take}
use Rattle.acc_message.specs.declared.message.Message.TheVariants.{Recover}
use Rattle.acc_recover.proofs.recovery.ask_all.Given as goal

abbrev pub invariant-loop-to : goal.invariant-loop-to
invariant-loop-to l = l.messages ≡ map (λ store. Recover l.from store l.id l.ballot l.body) (take l.to-index l.stores)
