-- A timestamp that a record shows is noted, and learning it changes nothing but the greatest h.
use Rattle.std.proofs.Common.{◌≡◌, ℕ, max, Bool, true, false, cond, ◌||◌, List, ◌++◌, Option, None, Some, refl, sym, ap, ◌∙◌, subst, arith}
use Rattle.std.proofs.lemmas.Bool.{true≢false}
use Rattle.std.proofs.lemmas.Bool.Decides.{nat_tests}
use Rattle.std.proofs.lemmas.List.{append-nil}
use Rattle.acc_stamp.specs.declared.stamps.Stamp.{Stamp}
use Rattle.acc_stamp.specs.declared.stamps.TxnId.{TxnId}
use Rattle.acc_stamp.specs.Stamp.{stamp_lt, stamp_le, id_eq}
use Rattle.acc_stamp.proofs.Order.{id_order, stamp_order}
use Rattle.acc_value.specs.declared.key.Key.{Key}
use Rattle.acc_txn.specs.declared.parts.BodyParts.{BodyParts}
use Rattle.acc_record.specs.declared.record.Record.{Record}
use Rattle.acc_record.specs.declared.shelf.Shelf.{Shelf}
use Rattle.acc_record.specs.Shelf.{Waits, record_at, watchers}
use Rattle.acc_record.specs.Learning.{known_or_fresh, later_of, is_below_accepted, is_below_settled, is_covered_by, stamp_to_note, notes_with, IsLearnt}
use Rattle.acc_opening.specs.declared.plan.Plan.{Plan}
use Rattle.acc_execute.specs.Executed.{AllFit, is_vote, shows, IsLearntWithRoom}

le_itself : (s : Stamp) → stamp_le s s ≡ true
le_itself s = grind (arith, nat_tests)

le_from_lt : (a b : Stamp) → stamp_lt a b ≡ true → stamp_le a b ≡ true
le_from_lt a b h = grind (arith, nat_tests)

below_later : (b : Bool) (s t : Stamp) → stamp_lt t s ≡ b → stamp_le t (cond b s t) ≡ true
below_later true s t h = le_from_lt t s h
below_later false s t h = le_itself t

by_vote : (s t : Stamp) (vote : Option Stamp) → is_vote vote t ≡ true → stamp_le t (later_of s vote) ≡ true
by_vote s t None h = absurd (true≢false (sym h))
by_vote s t (Some v) h =
    subst (λ u. stamp_le t (later_of s (Some u)) ≡ true) (sym ((stamp_order.decides v t).0 h)) (below_later (stamp_lt t s) s t refl)

or_first : (a b c d : Bool) → a ≡ true → (a || b || c || d) ≡ true
or_first true b c d h = refl
or_first false b c d h = absurd (true≢false (sym h))

or_last : (a b c d : Bool) → d ≡ true → (a || b || c || d) ≡ true
or_last true b c d h = refl
or_last false true c d h = refl
or_last false false true d h = refl
or_last false false false d h = h

covered : (x : TxnId) (r : Record) (t : Stamp) (b : Bool) → is_vote r.vote t ≡ b → (b || is_below_settled t r.stable) ≡ true → is_covered_by x r t ≡ true
covered x r t true e h =
    or_first (stamp_le t (later_of x.0 r.vote)) (is_below_accepted t r.accepted) (is_below_accepted t r.committed) (is_below_settled t r.stable)
    (by_vote x.0 t r.vote e)
covered x r t false e h =
    or_last (stamp_le t (later_of x.0 r.vote)) (is_below_accepted t r.accepted) (is_below_accepted t r.committed) (is_below_settled t r.stable) h

none_noted : (o : Option Record) (x : TxnId) (t : Stamp) → shows o t ≡ true → stamp_to_note o x (Some t) ≡ None
none_noted None x t h = absurd (true≢false (sym h))
none_noted (Some r) x t h = ap (λ b. cond b None (Some t)) (covered x r t (is_vote r.vote t) refl h)

kept_as_known : (o : Option Record) (x : TxnId) (body : BodyParts) (t : Stamp) → shows o t ≡ true → o ≡ Some (known_or_fresh o x body)
kept_as_known None x body t h = absurd (true≢false (sym h))
kept_as_known (Some r) x body t h = refl

pub learnt_shown : (old : Shelf) (x : TxnId) (body : BodyParts) (share : List (Key × Bool)) (t : Stamp) (top : ℕ) → shows (record_at old.records x) t ≡ true
    → IsLearnt old (record old { greatest = max old.greatest top }) x body share (Some t) top
learnt_shown old x body share t top h =
    record {
      actor = refl;
      records = λ y. by y (id_eq x y) refl;
      index = sym (append-nil old.index) ∙ ap (λ stamp. old.index ++ notes_with x share stamp) (sym (none_noted (record_at old.records x) x t h));
      cells = refl;
      waits = refl;
      greatest = refl;
    }
  where
    by : (y : TxnId) (b : Bool) → id_eq x y ≡ b → record_at old.records y ≡ cond b (Some (known_or_fresh (record_at old.records x) x body)) (record_at old.records y)
    by y true e = ap (record_at old.records) (sym ((id_order.decides x y).0 e)) ∙ kept_as_known (record_at old.records x) x body t h
    by y false e = refl

-- the same in the room that is made
pub shown_roomy : (old : Shelf) (waits : Waits) → ((y : TxnId) → watchers waits y ≡ watchers old.waits y) → (x : TxnId) (plan : Plan) (body : BodyParts) (share : List (Key × Bool)) (t : Stamp) (top greatest : ℕ)
    → greatest ≡ max old.greatest top → AllFit plan.touched waits → shows (record_at old.records x) t ≡ true
    → IsLearntWithRoom old (record old { waits = waits; greatest = greatest }) x plan share (record { body = body; t = t; top = top })
shown_roomy old waits same x plan body share t top greatest is fits h =
    record {
      learns = subst (λ g. IsLearnt old (record old { greatest = g }) x body share (Some t) top) (sym is) (learnt_shown old x body share t top h);
      waits = same;
      room = fits;
    }
