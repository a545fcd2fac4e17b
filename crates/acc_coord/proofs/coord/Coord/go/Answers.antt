use Rattle.std.proofs.Common.{◌≡◌, [], sym, ap, subst, ◌∙◌}
use Rattle.acc_stamp.specs.declared.stamps.TxnId.{TxnId}
use Rattle.acc_stamp.specs.declared.stamps.Ballot.{Ballot}
use Rattle.acc_stamp.specs.Actor.{home_of}
use Rattle.acc_message.specs.Coordinator.{Reaction, go}
use Rattle.acc_coord.specs.declared.coord.Coord.{Coord}
use Rattle.acc_coord.specs.Stands.{own_of, attempt_in, GoesOn}
use Rattle.acc_coord.proofs.Made.{made_goes_on, go_same, go_goes_on}
use Rattle.acc_coord.proofs.coord.Coord.go.Goals as goal

pub returns : goal.returns
returns c = λ a ballot_is body_is.
    let layout = c.args.topology.now in
    let coord = c.in_ok-coord.coord in
    let new = c.in_ok-coord.ensures in
    let f = c.in_ok-step.ensures layout [] new.keeps.placed in
    let same : go layout (own_of coord) coord.id (attempt_in coord []) c.args.choice ≡ go layout (home_of c.args.id c.args.ballot) c.args.id a c.args.choice =
    ap (λ (x : TxnId). go layout (home_of x coord.ballot) x (attempt_in coord []) c.args.choice) new.id
    ∙ ap (λ (b : Ballot). go layout (home_of c.args.id b) c.args.id (attempt_in coord []) c.args.choice) new.ballot_is
    ∙ go_same layout (home_of c.args.id c.args.ballot) c.args.id (attempt_in coord []) a c.args.choice (new.ballot_is ∙ sym ballot_is) (new.body_is ∙ sym body_is) in
    record {
      emits = c.make-emitted.ensures.emits ∙ f.emitted ∙ ap (λ (r : Reaction). r.emitted) same;
      ends = go_goes_on layout (home_of c.args.id c.args.ballot) c.args.id a c.args.choice;
      goes_on =
          subst (λ (r : Reaction). GoesOn layout c.args.id c.make-emitted.new.self r.next) same
          (subst (λ (x : TxnId). GoesOn layout x c.make-emitted.new.self (go layout (own_of coord) coord.id (attempt_in coord []) c.args.choice).next) new.id
          (subst (λ (n : Coord). GoesOn layout coord.id n (go layout (own_of coord) coord.id (attempt_in coord []) c.args.choice).next) (sym c.make-emitted.ensures.made)
          (made_goes_on layout coord [] c.in_ok-step.step.next (go layout (own_of coord) coord.id (attempt_in coord []) c.args.choice).next new.keeps f.next)));
    }
