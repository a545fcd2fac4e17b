use Rattle.std.proofs.Common.{◌≡◌, map, List, ◌∙◌, ap}
use Rattle.std.proofs.lemmas.Result.{IfOk-weaker}
use Rattle.acc_stamp.specs.declared.actors.Actor.{Actor}
use Rattle.acc_stamp.specs.Actor.{home_of}
use Rattle.acc_message.specs.declared.message.Message.{Message}
use Rattle.acc_message.specs.declared.message.Message.TheVariants.{Recover}
use Rattle.acc_message.specs.Coordinator.{ask_for_views}
use Rattle.acc_recover.proofs.recovery.ask.Goals as goal

pub returns : goal.returns
returns c =
    IfOk-weaker c.ask_all.result
    (λ (messages : List Message). messages ≡ map (λ (store : Actor). Recover c.home.result store c.args.id c.args.ballot c.args.body.now) c.as_slice.result.now)
    (λ (messages : List Message). messages ≡ ask_for_views c.args.topology.now (home_of c.args.id c.args.ballot) c.args.id c.args.ballot c.args.body.now)
    (λ messages h.
    h ∙ ap (λ (from : Actor). map (λ (store : Actor). Recover from store c.args.id c.args.ballot c.args.body.now) c.as_slice.result.now) c.home.ensures
    ∙ ap (map (λ (store : Actor). Recover (home_of c.args.id c.args.ballot) store c.args.id c.args.ballot c.args.body.now))
    (c.as_slice.ensures ∙ c.in_ok-asked.ensures c.args.body.now c.requires))
    c.ask_all.ensures
