-- One message more.
use Rattle.std.proofs.Common.{◌≡◌, ◌+◌, ◌∷◌, [], ◌++◌, map, take, sym, ◌∙◌, ap}
use Rattle.std.proofs.lemmas.List.{append_assoc, map-append, take_more}
use Rattle.acc_heal.specs.Applies.{applied_by}
use Rattle.acc_heal.proofs.applies.Applies.extend.Goals as goal

pub loop-message-preserved : goal.loop-message-preserved
loop-message-preserved c =
    let out = c.args.messages.now in
    let i = c.loop-message.message-index in
    let m = c.message-item.result in
    let so_far = map applied_by (take i out) in
    let more : map applied_by (take (i + 1) out) ≡ so_far ++ applied_by m ∷ [] =
    ap (map applied_by) (take_more out i m c.loop-message-test.true ∙ ap (λ one. take i out ++ one ∷ []) (sym c.message-item.is)) ∙ map-append applied_by (take i out) (m ∷ []) in
    c.in_ok-push.ensures ∙ ap (λ l. l ++ applied_by m ∷ []) c.loop-message.invariant ∙ append_assoc c.args.self.now so_far (applied_by m ∷ [])
    ∙ ap (λ l. c.args.self.now ++ l) (sym more)
