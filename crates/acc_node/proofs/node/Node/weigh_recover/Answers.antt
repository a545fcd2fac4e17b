use Rattle.std.proofs.Common.{◌≡◌, ◌<◌, ◌^◌, false, sym, ap, subst, ◌∙◌}
use Rattle.acc_stamp.specs.declared.stamps.Stamp.{Stamp}
use Rattle.acc_stamp.specs.declared.stamps.Ballot.{Ballot}
use Rattle.acc_stamp.specs.Actor.{home_of}
use Rattle.acc_stamp.specs.Clock.{next_stamp}
use Rattle.acc_message.specs.declared.entry.Emitted.{Emitted}
use Rattle.acc_message.specs.Coordinator.{ask_for_views}
use Rattle.acc_message_code.specs.Weight.{weight_of_all}
use Rattle.acc_node.proofs.Drawing.{recover_emits}
use Rattle.acc_node.proofs.Weighing.{home_short}
use Rattle.acc_node.proofs.node.Node.weigh_recover.Goals as goal

pub questions_length-requires : goal.questions_length-requires
questions_length-requires c =
    let x = c.args.id in
    let ballot_from : (Stamp → Ballot) = λ t. record { 0 = t } in
    let ballot : Ballot = ballot_from c.peek.result in
    record {
      is_first = false;
      from = home_of x ballot;
      id = x;
      ballot = ballot;
      sender =
          subst (λ (t : Stamp). (home_of x (ballot_from t)).0 < 2 ^ 16) (sym c.peek.ensures)
          (home_short c.args.self.now.clock x c.requires.node_in_range);
      asks = c.as_slice.ensures ∙ c.in_ok-out.ensures.asks ∙ ap (ask_for_views c.args.topology.now (home_of x ballot) x ballot) c.in_ok-copy.ensures;
    }

pub returns : goal.returns
returns c = λ number start acts s.
    let layout = c.args.topology.now in
    let old = c.args.self.now in
    let x = c.args.id in
    let ballot_from : (Stamp → Ballot) = λ t. record { 0 = t } in
    let ballot : Ballot = ballot_from c.peek.result in
    let drawn : ballot ≡ ballot_from (next_stamp old.clock) = ap ballot_from c.peek.ensures in
    let asks = c.in_ok-out.ensures.asks ∙ ap (ask_for_views layout (home_of x ballot) x ballot) c.in_ok-copy.ensures in
    c.questions_length.ensures
    ∙ ap weight_of_all
    (c.as_slice.ensures
    ∙ ap (λ (e : Emitted). e.out) (recover_emits layout number start acts old s x ballot c.args.body.now c.in_ok-out.out drawn asks))
