use Rattle.std.proofs.Common.{◌≡◌, ◌≤◌, ◌-◌, ℕ, [], ◌∷◌, ◌++◌, length, ap, ◌∙◌, sym, subst, arith}
use Rattle.acc_tape.specs.Messages.{messages_from}
use Rattle.acc_tape.specs.Kept.{after_messages}
use Rattle.acc_tape.proofs.Mailing.{keeps_more}
use Rattle.acc_tape.proofs.board.Board.put.Goals as goal

pub invariant_of-self : goal.invariant_of-self
invariant_of-self g c =
    let p = g.E.Posted in
    let is = c.self.view_is in
    let kept = c.self.invariant.0 in
    let some : c.args.count ≤ c.self.inside.reserved = (let e = ap (λ v. v.reserved) is in let q = c.requires.reserved.1 in omega arith) in
    let low : c.args.weight ≤ c.self.inside.reserved_weight = (let e = ap (λ v. v.reserved_weight) is in let q = c.requires.reserved.2 in omega arith) in
    let place : c.len-place.result ≡ length (p.in_list c.self.inside.items) = c.len-place.ensures in
    let released = c.release.ensures.released ∙ ap (λ (n : ℕ). record c.note_taking.new.posts { room = c.note_taking.new.posts.room - (c.args.weight - n); takings = c.note_taking.new.posts.takings - (c.args.count - 1) }) c.sent-sent.ensures in
    let noted = c.note_messages.ensures ∙ (λ k. after_messages (messages_from (place k) 0 (p.is_lost c.args.item) (p.sent_to c.args.item)) c.release.new.self) in
    let items = c.release-3.ensures.items ∙ c.release-2.ensures.items ∙ c.push.ensures.items in (
      keeps_more p.took p.sent_to p.is_lost p.bytes g.R.Rules.fits _ _ _ _ _ _ _ kept c.args.item c.args.count c.args.weight c.args.bytes c.requires.bytes.0 c.requires.bytes.1 (g.met.E.Posted.enough c.args.item) c.requires.reserved.0 some low _ _ _ c.note_taking.ensures released noted _
          (let r3 = c.release-3.ensures.room in let r2 = c.release-2.ensures.room in let r = c.push.ensures.room in let s = c.sent-sent.ensures in omega arith)
          (subst (λ l. g.R.Rules.fits l → g.R.Rules.fits (l ++ c.args.item ∷ [])) (ap (λ v. v.items) (sym is)) c.requires.fits) _ items,
      (let n3 = c.release-3.ensures.notes in let n2 = c.release-2.ensures.notes in let n1 = c.push.ensures.notes in let n = c.self.invariant.1 in let few = c.requires.notes in let one = c.requires.reserved.0 in omega arith),
    )
