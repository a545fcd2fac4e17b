use Rattle.std.proofs.Common.{◌+◌, [], ◌∷◌, length, ap, ◌∙◌, sym, subst, length-append}
use Rattle.std.proofs.lemmas.Option.{slice_get_within}
use Rattle.std.specs.Prelude.{slice_get}
use Rattle.acc_tape.specs.Messages.{IsOldest, IsSentBy, behind_last}
use Rattle.acc_tape.proofs.Mailing.{found_more}
use Rattle.acc_tape.proofs.board.Board.collect.Goals as goal

pub returns-in_default-clause-within : goal.returns-in_default-clause-within
returns-in_default-clause-within g c = rw (c.next_behind.ensures.same ∙ c.loop.invariant.same) c.confirm.ensures.within

pub returns-in_default-clause-all : goal.returns-in_default-clause-all
returns-in_default-clause-all g c = λ low. rw (sym (ap (λ b. b.items) c.loop.invariant.same), sym c.loop.invariant.last) c.in_default.ensures.next

pub message-requires : goal.message-requires
message-requires g c =
    let s = c.in-Some.ensures.next.stands in
    (s.0, ap (λ b. slice_get b.items c.in-Some.post.place) c.next_behind.ensures.same ∙ s.1, slice_get_within (g.E.Posted.sent_to s.0) c.in-Some.post.index c.args.actor s.2)

pub returns-in_err-message-clause-within : goal.returns-in_err-message-clause-within
returns-in_err-message-clause-within g c = rw (c.next_behind.ensures.same ∙ c.loop.invariant.same) c.confirm.ensures.within

pub loop-preserved : goal.loop-preserved
loop-preserved g c =
    let p = g.E.Posted in
    let l = c.loop.invariant in
    let now = c.next_behind.ensures.same ∙ l.same in
    let next = subst (λ b. IsOldest p.took p.sent_to p.is_lost b.items c.args.actor (behind_last c.loop.last) c.in-Some.post) l.same c.in-Some.ensures.next in
    let by = subst (λ b. IsSentBy p.is_sent b.items (c.in-Some.post, c.in_ok-message.message)) now c.in_ok-message.ensures.message in
    let more = found_more p.took p.sent_to p.is_lost p.is_sent c.args.self.now.items c.args.actor c.loop.found.items c.push_reserved.new.self.items c.in-Some.post c.in_ok-message.message _ c.push_reserved.ensures.items l.last l.oldest l.sent next by in record {
      same = now;
      capacity = c.push_reserved.ensures.capacity ∙ l.capacity;
      count = ap (λ found. length found) c.push_reserved.ensures.items ∙ length-append c.loop.found.items ((c.in-Some.post, c.in_ok-message.message) ∷ []) ∙ ap (λ n. n + 1) l.count;
      last = more.0;
      oldest = more.1;
      sent = more.2;
    }

pub returns-clause-within : goal.returns-clause-within
returns-clause-within g c = rw c.loop.invariant.same c.confirm.ensures.within
