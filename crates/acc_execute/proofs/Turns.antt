-- Turns that are taken one after another do to the records what their changes do.
use Rattle.std.proofs.Common.{◌≡◌, Bool, true, false, cond, ◌||◌, ◌&&◌, List, [], ◌∷◌, ◌++◌, Option, None, Some, refl, sym, ap, ◌∙◌}
use Rattle.std.specs.List.{list_any}
use Rattle.std.specs.Option.{option_map}
use Rattle.acc_stamp.specs.declared.stamps.TxnId.{TxnId}
use Rattle.acc_stamp.specs.declared.stamps.Ballot.{Ballot}
use Rattle.acc_stamp.specs.Stamp.{id_eq}
use Rattle.acc_stamp.proofs.Order.{id_order, eq-sym}
use Rattle.acc_actor_laws.proofs.OpeningFacts.{some_is}
use Rattle.acc_message.specs.Opening.{Change}
use Rattle.acc_actor_laws.specs.OpeningOrder.{opens_in, applies_in}
use Rattle.acc_record.specs.declared.record.Record.{Record}
use Rattle.acc_opening.specs.declared.turns.Turn.{Turn}
use Rattle.acc_opening.specs.Turns.{change_of, changes_in}
use Rattle.acc_execute.specs.Opened.{executed}
use Rattle.acc_execute.specs.Executed.{after_turn}

-- ---- tests

or_false : (a : Bool) → (a || false) ≡ a
or_false true = refl
or_false false = refl

or_or : (a b c : Bool) → ((a || b) || c) ≡ (a || (b || c))
or_or true b c = refl
or_or false b c = refl

any_more : (p : Change → Bool) (ds : List Change) (c : Change) → list_any p (ds ++ c ∷ []) ≡ (list_any p ds || p c)
any_more p [] c = or_false (p c)
any_more p (d ∷ ds) c = ap (λ b. p d || b) (any_more p ds c) ∙ sym (or_or (p d) (list_any p ds) (p c))

changes_more : (done : List Turn) (turn : Turn) → changes_in (done ++ turn ∷ []) ≡ changes_in done ++ change_of turn ∷ []
changes_more [] turn = refl
changes_more (d ∷ done) turn = ap (λ list. change_of d ∷ list) (changes_more done turn)

-- ---- records

abbrev done_to : Bool → Bool → Record → Record
done_to opens applies r =
    record r { opened = r.opened || opens; applied = r.applied || applies; waiters = cond opens [] r.waiters }

emptied_twice : (a b : Bool) (w : List Ballot) → cond b [] (cond a [] w) ≡ cond (a || b) [] w
emptied_twice true true w = refl
emptied_twice true false w = refl
emptied_twice false b w = refl

done_twice : (o a p b : Bool) (r : Record) → done_to p b (done_to o a r) ≡ done_to (o || p) (a || b) r
done_twice o a p b r =
    λ i. record r { opened = or_or r.opened o p i; applied = or_or r.applied a b i; waiters = emptied_twice o p r.waiters i }

undone : (r : Record) → done_to false false r ≡ r
undone r = λ i. record r { opened = or_false r.opened i; applied = or_false r.applied i; waiters = r.waiters }

map_twice : (o a p b : Bool) (v : Option Record) → option_map (done_to p b) (option_map (done_to o a) v) ≡ option_map (done_to (o || p) (a || b)) v
map_twice o a p b None = refl
map_twice o a p b (Some r) = ap Some (done_twice o a p b r)

pub no_own_turns : (y : TxnId) (r : Record) → r ≡ executed [] y r
no_own_turns y r = sym (undone r)

-- nothing changes as long as no turn is taken
pub no_turns : (y : TxnId) (v : Option Record) → v ≡ option_map (executed [] y) v
no_turns y None = refl
no_turns y (Some r) = ap Some (sym (undone r))

either_way : (b : Bool) (v : Option Record) → v ≡ cond b v v
either_way true v = refl
either_way false v = refl

pub no_other_turns : (id y : TxnId) (v : Option Record) → v ≡ cond (id_eq id y) v (option_map (executed [] y) v)
no_other_turns id y v = either_way (id_eq id y) v ∙ ap (cond (id_eq id y) v) (no_turns y v)

some_cond : (b : Bool) (p q : Record) → Some (cond b p q) ≡ cond b (Some p) (Some q)
some_cond true p q = refl
some_cond false p q = refl

module _ (done : List Turn) (turn : Turn) (y : TxnId) where
  abbrev opened : Bool
  opened = opens_in y (changes_in done)

  abbrev applied : Bool
  applied = applies_in y (changes_in done)

  abbrev after : Bool → Option Record → Option Record
  after b v = option_map (done_to (opened || (b && turn.opens)) (applied || (b && turn.applies))) v

  all_done : (v : Option Record) → after (id_eq turn.id y) v ≡ option_map (executed (changes_in (done ++ turn ∷ [])) y) v
  all_done v =
      (λ i. option_map (done_to (sym (any_more (λ c. id_eq c.id y && c.opens) (changes_in done) (change_of turn)) i) (sym (any_more (λ c. id_eq c.id y && c.applies) (changes_in done) (change_of turn)) i)) v)
      ∙ ap (λ list. option_map (executed list y) v) (sym (changes_more done turn))

  more_by : (b : Bool) (v : Option Record)
      → cond b (option_map (after_turn turn) (option_map (executed (changes_in done) y) v)) (option_map (executed (changes_in done) y) v) ≡ after b v
  more_by true v = map_twice opened applied turn.opens turn.applies v
  more_by false v = (λ i. option_map (done_to (sym (or_false opened) i) (sym (or_false applied) i)) v)

  -- one more turn
  pub one_more : (before now : TxnId → Option Record) → ((z : TxnId) → before z ≡ option_map (executed (changes_in done) z) (now z))
      → cond (id_eq turn.id y) (option_map (after_turn turn) (before turn.id)) (before y) ≡ option_map (executed (changes_in (done ++ turn ∷ [])) y) (now y)
  one_more before now is =
      by (id_eq turn.id y) refl
      ∙ ap (λ v. cond (id_eq turn.id y) (option_map (after_turn turn) v) v) (is y) ∙ more_by (id_eq turn.id y) (now y) ∙ all_done (now y)
    where
      by : (b : Bool) → id_eq turn.id y ≡ b
          → cond b (option_map (after_turn turn) (before turn.id)) (before y) ≡ cond b (option_map (after_turn turn) (before y)) (before y)
      by true e = ap (λ z. option_map (after_turn turn) (before z)) ((id_order.decides turn.id y).0 e)
      by false e = refl

  -- one more turn, of the own record
  pub one_own : (own : Record) → cond (id_eq turn.id y) (after_turn turn (executed (changes_in done) y own)) (executed (changes_in done) y own) ≡ executed (changes_in (done ++ turn ∷ [])) y own
  one_own own =
      some_is _ _
      (some_cond (id_eq turn.id y) (after_turn turn (executed (changes_in done) y own)) (executed (changes_in done) y own)
      ∙ more_by (id_eq turn.id y) (Some own) ∙ all_done (Some own))

  -- one more turn, where it is of another record than the own one
  pub one_other : (id : TxnId) (before now : TxnId → Option Record)
      → ((z : TxnId) → before z ≡ cond (id_eq id z) (now z) (option_map (executed (changes_in done) z) (now z)))
      → cond (id_eq turn.id id) (before y) (cond (id_eq turn.id y) (option_map (after_turn turn) (before turn.id)) (before y))
      ≡ cond (id_eq id y) (now y) (option_map (executed (changes_in (done ++ turn ∷ [])) y) (now y))
  one_other id before now is = by (id_eq id y) refl (id_eq turn.id id) refl
    where
      taken : TxnId → Option Record
      taken z = option_map (executed (changes_in done) z) (now z)

      more : cond (id_eq turn.id y) (option_map (after_turn turn) (taken turn.id)) (taken y) ≡ option_map (executed (changes_in (done ++ turn ∷ [])) y) (now y)
      more = one_more taken now (λ z. refl)

      is_by : (z : TxnId) (b : Bool) → id_eq id z ≡ b → before z ≡ cond b (now z) (taken z)
      is_by z b e = is z ∙ ap (λ c. cond c (now z) (taken z)) e

      by : (b : Bool) → id_eq id y ≡ b → (c : Bool) → id_eq turn.id id ≡ c
          → cond c (before y) (cond (id_eq turn.id y) (option_map (after_turn turn) (before turn.id)) (before y))
          ≡ cond b (now y) (option_map (executed (changes_in (done ++ turn ∷ [])) y) (now y))
      by true e true f = is_by y true e
      by true e false f =
          ap (λ c. cond c (option_map (after_turn turn) (before turn.id)) (before y)) (ap (id_eq turn.id) (sym ((id_order.decides id y).0 e)) ∙ f)
          ∙ is_by y true e
      by false e true f =
          is_by y false e
          ∙ ap (λ c. cond c (option_map (after_turn turn) (taken turn.id)) (taken y)) (sym (ap (λ z. id_eq z y) ((id_order.decides turn.id id).0 f) ∙ e))
          ∙ more
      by false e false f =
          (λ i. cond (id_eq turn.id y) (option_map (after_turn turn) (is_by turn.id false (eq-sym id_order id turn.id ∙ f) i)) (is_by y false e i)) ∙ more
