use Rattle.std.proofs.Common.{◌≡◌, ℕ, Bool, ◌&&◌, sym, ap, ◌∙◌}
use Rattle.std.specs.Prelude.{nat_le}
use Rattle.acc_topology.specs.Keys.{shards_of}
use Rattle.acc_topology.specs.Sets.{in_order}
use Rattle.acc_message.specs.Fields.{top_of}
use Rattle.acc_message.specs.Shares.{is_store_of}
use Rattle.acc_schedule.specs.Content.{Content}
use Rattle.acc_left.specs.Rules.{deps_brought, greatest_height}
use Rattle.acc_left.specs.Told.{are_begun, is_from_attempt}
use Rattle.acc_left.proofs.MessageFacts.{else_and, then_and}
use Rattle.acc_left.proofs.stores.comes.Goals as goal
use Rattle.acc_left.proofs.stores.comes.Goals.{then-is_store, else-is_store, then-is_from_attempt, else-is_from_attempt}

pub returns-then-are_begun : goal.returns-then-are_begun
returns-then-are_begun c =
    let store = is_store_of c.args.plan.now.topology c.args.body.now c.args.own in
    let from = is_from_attempt c.args.drawn.now.drawn.draws c.args.m.now c.args.txn in
    let all = are_begun c.args.drawn.now.drawn.draws (deps_brought c.args.m.now) in
    let is : c.is_store.result ≡ store =
    c.is_store.ensures.value c.args.body.now (c.shards_of.ensures.listed ∙ ap (λ f. in_order (shards_of c.plan.inside.topology f)) c.uses.ensures)
    ∙ ap (λ (p : Content). is_store_of p.topology c.args.body.now c.args.own) c.plan.view_is in
    let first : c.if-is_store.value ≡ (store && from) =
    elim c.if-is_store.branch [
      | then-is_store w ↦ then_and store from c.if-is_store.value (sym is ∙ w.if-is_store.true) (w.value-is ∙ w.is_from_attempt.ensures)
      | else-is_store w ↦ else_and store from c.if-is_store.value (sym is ∙ w.if-is_store.false) (w.value-is ∙ is)
    ] in
    let second : c.if-is_from_attempt.value ≡ ((store && from) && all) =
    elim c.if-is_from_attempt.branch [
      | then-is_from_attempt w ↦
          then_and (store && from) all c.if-is_from_attempt.value (sym first ∙ w.if-is_from_attempt.true) (w.value-is ∙ w.are_begun.ensures)
      | else-is_from_attempt w ↦ else_and (store && from) all c.if-is_from_attempt.value (sym first ∙ w.if-is_from_attempt.false) (w.value-is ∙ first)
    ] in
    ap (λ (n : ℕ). nat_le n greatest_height) c.top.ensures
    ∙ sym (ap (λ (b : Bool). b && nat_le (top_of c.args.m.now) greatest_height) (sym second ∙ c.if-are_begun.true))

pub returns-else-are_begun : goal.returns-else-are_begun
returns-else-are_begun c =
    let store = is_store_of c.args.plan.now.topology c.args.body.now c.args.own in
    let from = is_from_attempt c.args.drawn.now.drawn.draws c.args.m.now c.args.txn in
    let all = are_begun c.args.drawn.now.drawn.draws (deps_brought c.args.m.now) in
    let is : c.is_store.result ≡ store =
    c.is_store.ensures.value c.args.body.now (c.shards_of.ensures.listed ∙ ap (λ f. in_order (shards_of c.plan.inside.topology f)) c.uses.ensures)
    ∙ ap (λ (p : Content). is_store_of p.topology c.args.body.now c.args.own) c.plan.view_is in
    let first : c.if-is_store.value ≡ (store && from) =
    elim c.if-is_store.branch [
      | then-is_store w ↦ then_and store from c.if-is_store.value (sym is ∙ w.if-is_store.true) (w.value-is ∙ w.is_from_attempt.ensures)
      | else-is_store w ↦ else_and store from c.if-is_store.value (sym is ∙ w.if-is_store.false) (w.value-is ∙ is)
    ] in
    let second : c.if-is_from_attempt.value ≡ ((store && from) && all) =
    elim c.if-is_from_attempt.branch [
      | then-is_from_attempt w ↦
          then_and (store && from) all c.if-is_from_attempt.value (sym first ∙ w.if-is_from_attempt.true) (w.value-is ∙ w.are_begun.ensures)
      | else-is_from_attempt w ↦ else_and (store && from) all c.if-is_from_attempt.value (sym first ∙ w.if-is_from_attempt.false) (w.value-is ∙ first)
    ] in
    else_and ((store && from) && all) (nat_le (top_of c.args.m.now) greatest_height) c.if-is_from_attempt.value (sym second ∙ c.if-are_begun.false) second
