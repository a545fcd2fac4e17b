use Rattle.std.proofs.Common.{◌≡◌, ◌<◌, ◌^◌, true, sym, ap, subst, ◌∙◌}
use Rattle.acc_stamp.specs.declared.stamps.Stamp.{Stamp}
use Rattle.acc_stamp.specs.declared.stamps.TxnId.{TxnId}
use Rattle.acc_stamp.specs.Actor.{home_of}
use Rattle.acc_stamp.specs.Stamp.{zero_ballot}
use Rattle.acc_stamp.specs.Clock.{next_stamp}
use Rattle.acc_message.specs.declared.entry.Emitted.{Emitted}
use Rattle.acc_message_code.specs.Weight.{weight_of_all}
use Rattle.acc_node.proofs.Drawing.{begin_emits}
use Rattle.acc_node.proofs.Weighing.{first_home_short}
use Rattle.acc_node.proofs.node.Node.weigh_begin.Goals as goal

pub questions_length-requires : goal.questions_length-requires
questions_length-requires c =
    let id_from : (Stamp → TxnId) = λ t. record { 0 = t } in
    record {
      is_first = true;
      from = home_of (id_from c.peek.result) zero_ballot;
      id = id_from c.peek.result;
      ballot = zero_ballot;
      sender =
          subst (λ (t : Stamp). (home_of (id_from t) zero_ballot).0 < 2 ^ 16) (sym c.peek.ensures)
          (first_home_short c.args.self.now.clock c.requires.node_in_range);
      asks = c.as_slice.ensures ∙ c.in_ok-out.ensures.sends;
    }

pub returns : goal.returns
returns c = λ number start acts s.
    let old = c.args.self.now in
    let id_from : (Stamp → TxnId) = λ t. record { 0 = t } in
    let drawn : id_from c.peek.result ≡ id_from (next_stamp old.clock) = ap id_from c.peek.ensures in
    c.questions_length.ensures
    ∙ ap weight_of_all
    (c.as_slice.ensures
    ∙ ap (λ (e : Emitted). e.out)
    (begin_emits c.args.topology.now number start acts old s c.args.txn (id_from c.peek.result) c.args.body.now c.in_ok-out.out drawn c.in_ok-out.ensures.sends))
