-- What has become of the attempt that a recover started, where the node neither restarts nor starts another one: it runs, or it was ended,
-- was blocked, or has finished.
use Rattle.std.proofs.Common.{◌≡◌, ℕ, Bool, true, false, cond, ◌||◌, List, [], ◌∷◌, Option, Some, map, refl, sym, ◌∙◌, ap, subst, ◌⊎◌, inl, inr, ◌&&◌}
use Rattle.std.specs.List.{list_any}
use Rattle.std.proofs.lemmas.Bool.{true≢false, and_parts}
use Rattle.acc_stamp.specs.declared.stamps.TxnId.{TxnId}
use Rattle.acc_stamp.specs.declared.stamps.Ballot.{Ballot}
use Rattle.acc_stamp.specs.declared.actors.Actor.{Actor}
use Rattle.acc_stamp.specs.Actor.{actor_of}
use Rattle.acc_stamp.specs.Stamp.{id_eq}
use Rattle.acc_stamp.proofs.Order.{id_order, eq_itself}
use Rattle.acc_topology.specs.Layout.{Layout}
use Rattle.acc_deps.specs.declared.records.Settled.{Settled}
use Rattle.acc_txn.specs.declared.parts.BodyParts.{BodyParts}
use Rattle.acc_txn.specs.declared.outcome.Outcome.{Outcome}
use Rattle.acc_message.specs.declared.message.Message.{Message}
use Rattle.acc_message.specs.declared.message.Message.TheVariants.{Apply}
use Rattle.acc_message.specs.declared.note.Note.{Note}
use Rattle.acc_message.specs.declared.note.Note.TheVariants.{Begin as BeginNote, Recover as RecoverNote, Blocked, Ended, Decide as DecideNote, Outcome as OutcomeNote, Reply as ReplyNote}
use Rattle.acc_message.specs.declared.entry.Emitted.{Emitted}
use Rattle.acc_message.specs.Fields.{id_of}
use Rattle.acc_message.specs.Shares.{stores_used, is_store_of}
use Rattle.acc_message.specs.Attempts.{Attempt, Executing, fits}
use Rattle.acc_message.specs.Coordinator.{Reaction, begun, recovering, when, slow_down, reaction, may_slow_down, slow_reaction, inform}
use Rattle.acc_message.specs.NodeRules.{Act, Begins, Recovers, Slows, Takes, Restarts, Deed, next_id, next_ballot, next_by, where_about, attempt_after, attempt_of, is_open, is_restart, replied, with_reply, node_emits}
use Rattle.acc_safety.specs.Places.{IsIn, First, Later, StandsAt, Here, Back, IsPast, Whole, Behind}
use Rattle.acc_safety.specs.Histories.{EachEmits}
use Rattle.acc_safety.specs.NodeMoves.{Move, Wait, Propose, CommitTo, DecideBy, FinishWith, BlockBy, EndBy, made, HasOutcome, Hears, Ignores, Counts, IsEnded, TakesOver}
use Rattle.acc_safety.proofs.PlaceOrder.{IsIn-append_left, flat_map-IsIn, map-IsIn}
use Rattle.acc_safety.proofs.NodeMoved.{hears_all}
use Rattle.acc_delivered.specs.Ends.{starts}
use Rattle.acc_delivered.proofs.Courses.{is_inform, unfit_inform}
use Rattle.acc_delivered.proofs.Asked.{taking_reacts}

or_none : (b : Bool) → (b || false) ≡ false → b ≡ false
or_none true h = h
or_none false h = h

-- a note stands among what is noted with replies
note_first : (client : Bool) (note : Note) → IsIn note (replied client note)
note_first client (OutcomeNote id reply) = First (OutcomeNote id reply) _
note_first client (BeginNote id) = First (BeginNote id) []
note_first client (RecoverNote id ballot) = First (RecoverNote id ballot) []
note_first client (Blocked id ballot by) = First (Blocked id ballot by) []
note_first client (Ended id ballot by) = First (Ended id ballot by) []
note_first client (DecideNote id t path deps) = First (DecideNote id t path deps) []
note_first client (ReplyNote id reply) = First (ReplyNote id reply) []

pub note_stays : (client : Bool) (r : Emitted) (note : Note) → IsIn note r.notes → IsIn note (with_reply client r).notes
note_stays client r note there = flat_map-IsIn (replied client) note note r.notes there (note_first client note)

-- ---- what moves

hears_same : (layout : Layout) (x : TxnId) (before : Attempt) (m : Message) (a : Attempt) (move : Move) → Hears layout x before m a move
    → (a.ballot ≡ before.ballot) × (a.body ≡ before.body)
hears_same layout x before m a move (Ignores n) = (refl, refl)
hears_same layout x before m a move (Counts n moved same counting moves) = (refl, refl)
hears_same layout x before m a move (IsEnded from to id ballot promised same above) = (refl, refl)
hears_same layout x before m a move (TakesOver from to id ballot t deps same undecided ready) = (refl, refl)

-- only a message to the attempt moves it
hears_told : (layout : Layout) (x : TxnId) (before : Attempt) (m : Message) (a : Attempt) (move : Move) → Hears layout x before m a move
    → (is_inform m ≡ false) ⊎ (move ≡ Wait)
hears_told layout x before m a move (Ignores n) = inr refl
hears_told layout x before m a move (Counts n moved same counting moves) =
    inl (unfit_inform before.phase n
    (and_parts (fits before.phase n) _ (and_parts (fits before.phase n && is_store_of layout before.body _) _ counting).0).0)
hears_told layout x before m a move (IsEnded from to id ballot promised same above) = inl refl
hears_told layout x before m a move (TakesOver from to id ballot t deps same undecided ready) = inl refl

finish_phase : (layout : Layout) (x : TxnId) (before a : Attempt) (m : Message) (s : Settled) (outcome : Outcome) → Hears layout x before m a (FinishWith s outcome)
    → before.phase ≡ Executing s
finish_phase layout x before a m s outcome (Counts n moved same counting (HasOutcome r o phase is)) = phase

module _ (layout : Layout) (node start : ℕ) (x : TxnId) (deed : Deed) (past : List Deed) (body : BodyParts) (act_is : deed.act ≡ Recovers x body) where
  abbrev own : Actor
  own = actor_of node 0

  abbrev pub b : Ballot
  b = next_ballot node start past

  abbrev at_it : List Deed → Option Attempt
  at_it deeds = attempt_of layout node start x deeds

  pub record NotedIn (note : Note) (deeds : List Deed) : Type 0 where
    pub noting : Deed
    pub before : List Deed
    pub at : StandsAt noting before deeds
    pub noted : IsIn note noting.emitted.notes

  -- the step in which the attempt had its outcome: it told all stores, and the client if it was open
  pub record FinishedIn (deeds : List Deed) : Type 0 where
    pub finishing : Deed
    pub before : List Deed
    pub at : StandsAt finishing before deeds
    pub attempt : Attempt
    pub is : at_it before ≡ Some attempt
    pub of_ballot : attempt.ballot ≡ b
    pub of_body : attempt.body ≡ body
    pub settled : Settled
    pub phase : attempt.phase ≡ Executing settled
    pub outcome : Outcome
    pub applies :
        (store : Actor) → IsIn store (stores_used layout body)
        → IsIn (Apply own store x b body settled.t settled.deps outcome) finishing.emitted.out
    pub noted : IsIn (OutcomeNote x outcome.reply) finishing.emitted.notes
    pub replies : is_open x before ≡ true → IsIn (ReplyNote x outcome.reply) finishing.emitted.notes

  pub data Became (deeds : List Deed) : Type 0 where
    Runs : (a : Attempt) → at_it deeds ≡ Some a → a.ballot ≡ b → a.body ≡ body → Became deeds
    WasEnded : (by : Ballot) → NotedIn (Ended x b by) deeds → Became deeds
    WasBlocked : (by : List TxnId) → NotedIn (Blocked x b by) deeds → Became deeds
    HasFinished : FinishedIn deeds → Became deeds

  -- since the recover the node neither restarted nor started an attempt at x
  abbrev pub Undisturbed : List Deed → Type 0
  Undisturbed deeds =
      (d : Deed) (p : List Deed) → StandsAt d p deeds → IsPast (deed ∷ past) p
      → (is_restart d.act ≡ false) × (list_any (starts x) d.emitted.notes ≡ false)

  noted_back : (d : Deed) (p : List Deed) (note : Note) → NotedIn note p → NotedIn note (d ∷ p)
  noted_back d p note n = record { noting = n.noting; before = n.before; at = Back n.noting d n.before p n.at; noted = n.noted }

  finished_back : (d : Deed) (p : List Deed) → FinishedIn p → FinishedIn (d ∷ p)
  finished_back d p f =
      record {
        finishing = f.finishing;
        before = f.before;
        at = Back f.finishing d f.before p f.at;
        attempt = f.attempt;
        is = f.is;
        of_ballot = f.of_ballot;
        of_body = f.of_body;
        settled = f.settled;
        phase = f.phase;
        outcome = f.outcome;
        applies = f.applies;
        noted = f.noted;
        replies = f.replies;
      }

  -- ---- one step of a running attempt

  module _ (d : Deed) (p : List Deed) (a : Attempt) (is : at_it p ≡ Some a) (of_ballot : a.ballot ≡ b) (of_body : a.body ≡ body) where
    keeps : at_it (d ∷ p) ≡ at_it p → Became (d ∷ p)
    keeps same = Runs a (same ∙ is) of_ballot of_body

    -- it ends
    noted_here : (note : Note) → IsIn note d.emitted.notes → NotedIn note (d ∷ p)
    noted_here note there = record { noting = d; before = p; at = Here d p; noted = there }

    by_move : (m : Message) (moving : Attempt) (move : Move) → Hears layout x a m moving move → moving.ballot ≡ b → moving.body ≡ body
        → at_it (d ∷ p) ≡ (made layout own x moving move).next
        → ((move ≡ Wait → ⊥) → d.emitted ≡ with_reply (is_open x p) (made layout own x moving move).emitted) → Became (d ∷ p)
    by_move m moving Wait hears mb mbody next emits = Runs moving next mb mbody
    by_move m moving (Propose s) hears mb mbody next emits = Runs _ next mb mbody
    by_move m moving (CommitTo s) hears mb mbody next emits = Runs _ next mb mbody
    by_move m moving (DecideBy path s) hears mb mbody next emits = Runs _ next mb mbody
    by_move m moving (FinishWith s outcome) hears mb mbody next emits = HasFinished finished_here
      where
        no_wait : FinishWith s outcome ≡ Wait → ⊥
        no_wait e = cc

        e : d.emitted ≡ with_reply (is_open x p) (made layout own x moving (FinishWith s outcome)).emitted
        e = emits no_wait

        applied : (store : Actor) → IsIn store (stores_used layout body) → IsIn (Apply own store x b body s.t s.deps outcome) d.emitted.out
        applied store there =
            subst (λ (w : Emitted). IsIn (Apply own store x b body s.t s.deps outcome) w.out) (sym e)
            (IsIn-append_left (Apply own store x b body s.t s.deps outcome) _ (inform own x moving.ballot outcome)
            (subst (λ k. IsIn (Apply own store x b body s.t s.deps outcome) (map (λ j. Apply own j x k moving.body s.t s.deps outcome) (stores_used layout moving.body))) (sym mb)
            (subst (λ k. IsIn (Apply own store x b body s.t s.deps outcome) (map (λ j. Apply own j x b k s.t s.deps outcome) (stores_used layout k))) (sym mbody)
            (map-IsIn (λ j. Apply own j x b body s.t s.deps outcome) store (stores_used layout body) there))))

        finished_here : FinishedIn (d ∷ p)
        finished_here =
            record {
              finishing = d;
              before = p;
              at = Here d p;
              attempt = a;
              is = is;
              of_ballot = of_ballot;
              of_body = of_body;
              settled = s;
              phase = finish_phase layout x a moving m s outcome hears;
              outcome = outcome;
              applies = applied;
              noted =
                  subst (λ (w : Emitted). IsIn (OutcomeNote x outcome.reply) w.notes) (sym e)
                  (note_stays (is_open x p) (made layout own x moving (FinishWith s outcome)).emitted (OutcomeNote x outcome.reply) (First (OutcomeNote x outcome.reply) []));
              replies = λ client.
                  subst (λ (w : Emitted). IsIn (ReplyNote x outcome.reply) w.notes) (sym e)
                  (subst (λ o. IsIn (ReplyNote x outcome.reply) (with_reply o (made layout own x moving (FinishWith s outcome)).emitted).notes) (sym client)
                  (Later (ReplyNote x outcome.reply) (OutcomeNote x outcome.reply) (ReplyNote x outcome.reply ∷ []) (First (ReplyNote x outcome.reply) [])));
            }
    by_move m moving (BlockBy by) hears mb mbody next emits =
        WasBlocked by
        (noted_here (Blocked x b by)
        (subst (λ (w : Emitted). IsIn (Blocked x b by) w.notes) (sym (emits no_wait))
        (note_stays (is_open x p) (made layout own x moving (BlockBy by)).emitted (Blocked x b by)
        (subst (λ k. IsIn (Blocked x b by) (Blocked x k by ∷ [])) (sym mb) (First (Blocked x b by) [])))))
      where
        no_wait : BlockBy by ≡ Wait → ⊥
        no_wait e = cc
    by_move m moving (EndBy by) hears mb mbody next emits =
        WasEnded by
        (noted_here (Ended x b by)
        (subst (λ (w : Emitted). IsIn (Ended x b by) w.notes) (sym (emits no_wait))
        (note_stays (is_open x p) (made layout own x moving (EndBy by)).emitted (Ended x b by)
        (subst (λ k. IsIn (Ended x b by) (Ended x k by ∷ [])) (sym mb) (First (Ended x b by) [])))))
      where
        no_wait : EndBy by ≡ Wait → ⊥
        no_wait e = cc

    -- ---- by the acts

    module _ (emits : d.emitted ≡ node_emits layout node start p d.act) (up : is_restart d.act ≡ false) (alone : list_any (starts x) d.emitted.notes ≡ false) where
      taken : (m : Message) → d.act ≡ Takes m → id_of m ≡ x → Became (d ∷ p)
      taken m takes about =
          let r = hears_all layout own x a m in
          let k = hears_same layout x a m r.moving r.move r.hears in
          by_move m r.moving r.move r.hears (k.0 ∙ of_ballot) (k.1 ∙ of_body)
          (ap (attempt_after layout node start x p (at_it p)) takes
          ∙ ap (λ o. where_about o (next_by (λ j. reaction layout own x j m)) (at_it p)) ((id_order.decides (id_of m) x).1 about)
          ∙ ap (next_by (λ j. reaction layout own x j m)) is ∙ ap (λ (w : Reaction). w.next) r.is)
          (λ moves. emitted_is r.moving r.move r.hears r.is moves)
        where
          emitted_is : (moving : Attempt) (move : Move) → Hears layout x a m moving move → reaction layout own x a m ≡ made layout own x moving move → (move ≡ Wait → ⊥)
              → d.emitted ≡ with_reply (is_open x p) (made layout own x moving move).emitted
          emitted_is moving move hears reacts moves = by (hears_told layout x a m moving move hears)
            where
              by : (is_inform m ≡ false) ⊎ (move ≡ Wait) → d.emitted ≡ with_reply (is_open x p) (made layout own x moving move).emitted
              by (inl told) =
                  emits ∙ ap (node_emits layout node start p) takes ∙ taking_reacts layout node start x d p m a told about is
                  ∙ ap (λ y. with_reply (is_open y p) (reaction layout own x a m).emitted) about
                  ∙ ap (λ (w : Reaction). with_reply (is_open x p) w.emitted) reacts
              by (inr waits) = absurd (moves waits)

      slowed : (y : TxnId) → d.act ≡ Slows y → y ≡ x → (o : Bool) → may_slow_down layout x a a.phase ≡ o → Became (d ∷ p)
      slowed y slows same true may = Runs _ (next ∙ ap (λ w. (when w (slow_down layout own x) a).next) may) of_ballot of_body
        where
          next : at_it (d ∷ p) ≡ (slow_reaction layout own x a).next
          next =
              ap (attempt_after layout node start x p (at_it p)) slows
              ∙ ap (λ o. where_about o (next_by (slow_reaction layout own x)) (at_it p)) ((id_order.decides y x).1 same)
              ∙ ap (next_by (slow_reaction layout own x)) is
      slowed y slows same false may = Runs a (next ∙ ap (λ w. (when w (slow_down layout own x) a).next) may) of_ballot of_body
        where
          next : at_it (d ∷ p) ≡ (slow_reaction layout own x a).next
          next =
              ap (attempt_after layout node start x p (at_it p)) slows
              ∙ ap (λ o. where_about o (next_by (slow_reaction layout own x)) (at_it p)) ((id_order.decides y x).1 same)
              ∙ ap (next_by (slow_reaction layout own x)) is

      by_act : (act : Act) → d.act ≡ act → Became (d ∷ p)
      by_act (Begins txn bd) act_is = keeps (ap (attempt_after layout node start x p (at_it p)) act_is ∙ ap (λ o. cond o (Some (begun bd)) (at_it p)) other)
        where
          other : id_eq (next_id node start p) x ≡ false
          other = or_none (id_eq (next_id node start p) x) (sym (ap (λ (w : Emitted). list_any (starts x) w.notes) (emits ∙ ap (node_emits layout node start p) act_is)) ∙ alone)
      by_act (Recovers y bd) act_is = keeps (ap (attempt_after layout node start x p (at_it p)) act_is ∙ ap (λ o. cond o (Some (recovering (next_ballot node start p) bd)) (at_it p)) other)
        where
          other : id_eq y x ≡ false
          other = or_none (id_eq y x) (sym (ap (λ (w : Emitted). list_any (starts x) w.notes) (emits ∙ ap (node_emits layout node start p) act_is)) ∙ alone)
      by_act (Slows y) act_is = by (id_eq y x) refl
        where
          by : (o : Bool) → id_eq y x ≡ o → Became (d ∷ p)
          by true same = slowed y act_is ((id_order.decides y x).0 same) (may_slow_down layout x a a.phase) refl
          by false other =
              keeps (ap (attempt_after layout node start x p (at_it p)) act_is ∙ ap (λ o. where_about o (next_by (slow_reaction layout own x)) (at_it p)) other)
      by_act (Takes m) act_is = by (id_eq (id_of m) x) refl
        where
          by : (o : Bool) → id_eq (id_of m) x ≡ o → Became (d ∷ p)
          by true about = taken m act_is ((id_order.decides (id_of m) x).0 about)
          by false other =
              keeps (ap (attempt_after layout node start x p (at_it p)) act_is ∙ ap (λ o. where_about o (next_by (λ j. reaction layout own x j m)) (at_it p)) other)
      by_act Restarts act_is = absurd (true≢false (sym (ap is_restart act_is) ∙ up))

  one_more : (d : Deed) (p : List Deed) → d.emitted ≡ node_emits layout node start p d.act → is_restart d.act ≡ false → list_any (starts x) d.emitted.notes ≡ false
      → Became p → Became (d ∷ p)
  one_more d p emits up alone (Runs a is of_ballot of_body) = by_act d p a is of_ballot of_body emits up alone d.act refl
  one_more d p emits up alone (WasEnded by n) = WasEnded by (noted_back d p (Ended x b by) n)
  one_more d p emits up alone (WasBlocked by n) = WasBlocked by (noted_back d p (Blocked x b by) n)
  one_more d p emits up alone (HasFinished f) = HasFinished (finished_back d p f)

  begins_it : Became (deed ∷ past)
  begins_it =
      Runs (recovering b body)
      (ap (attempt_after layout node start x past (at_it past)) act_is ∙ ap (λ o. cond o (Some (recovering b body)) (at_it past)) (eq_itself id_order x))
      refl refl

  became_by : (front deeds : List Deed) → IsPast front deeds → front ≡ deed ∷ past → EachEmits layout node start deeds → Undisturbed deeds → Became deeds
  became_by front deeds (Whole xs) same each alone = subst Became (sym same) begins_it
  became_by front deeds (Behind d ys p there) same each alone =
      let now = alone d p (Here d p) (subst (λ k. IsPast k p) same there) in
      one_more d p each.0 now.0 now.1 (became_by ys p there same each.1 (λ e q at since. alone e q (Back e d q p at) since))

  pub became : (deeds : List Deed) → IsPast (deed ∷ past) deeds → EachEmits layout node start deeds → Undisturbed deeds → Became deeds
  became deeds within each alone = became_by (deed ∷ past) deeds within refl each alone
