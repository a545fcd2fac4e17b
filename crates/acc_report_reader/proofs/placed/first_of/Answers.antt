use Rattle.std.proofs.Common.{Some, None, ◌≡◌, false, rules, sym, ◌∙◌, ap, ◌∷◌, ℕ, List}
use Rattle.acc_report_reader.specs.Fields.{piece_at}
use Rattle.acc_report_reader.proofs.Pieces.{piece-none, piece-some}
use Rattle.acc_report_reader.proofs.placed.first_of.Goals as goal

pub returns-in-Some : goal.returns-in-Some
returns-in-Some c =
    let cut : Some (c.in-Some.first.now, c.in-Some.others.now) ≡ piece_at false c.args.text.now = cc in
    piece-some false c.args.text.now (c.in-Some.first.now, c.in-Some.others.now) (sym cut)
    ∙ ap (λ (others : List (List ℕ)). c.in-Some.first.now ∷ others) (sym c.of.ensures)

pub returns-in-None : goal.returns-in-None
returns-in-None c =
    let cut : None ≡ piece_at false c.args.text.now = search rules in
    piece-none false c.args.text.now (sym cut) ∙ ap (λ (others : List (List ℕ)). c.args.text.now ∷ others) (sym c.none.ensures)
