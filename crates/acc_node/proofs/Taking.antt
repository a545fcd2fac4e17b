-- What a node does that takes a message.
use Rattle.std.proofs.Common.{◌≡◌, ℕ, ◌&&◌, ◌||◌, Bool, true, false, not, cond, List, [], ◌∷◌, Option, None, Some, is_some, refl, sym, ap, subst, ◌∙◌}
use Rattle.std.proofs.lemmas.Bool.{false≢true, true≢false, and_left}
use Rattle.std.specs.Prelude.{is_none}
use Rattle.std.specs.List.{list_any, flat_map}
use Rattle.std.specs.Ordering.{nat_cmp}
use Rattle.std.specs.BTreeMap.{get, BTreeMap}
use Rattle.acc_base.specs.Faults.{or_else}
use Rattle.acc_stamp.specs.declared.stamps.TxnId.{TxnId}
use Rattle.acc_stamp.specs.declared.stamps.Ballot.{Ballot}
use Rattle.acc_stamp.specs.declared.actors.Actor.{Actor}
use Rattle.acc_stamp.specs.Actor.{actor_of, home_of}
use Rattle.acc_stamp.specs.Stamp.{id_cmp, id_eq, ballot_eq}
use Rattle.acc_stamp.specs.Clock.{ClockState, after_seeing}
use Rattle.acc_stamp.proofs.Order.{id_order, eq_itself}
use Rattle.acc_topology.specs.Layout.{Layout}
use Rattle.acc_txn.specs.declared.outcome.Outcome.{Outcome}
use Rattle.acc_txn.specs.declared.outcome.Reply.{Reply}
use Rattle.acc_message.specs.declared.message.Message.{Message}
use Rattle.acc_message.specs.declared.message.Message.TheVariants.{PreAccept, Inform}
use Rattle.acc_message.specs.declared.note.Note.{Note}
use Rattle.acc_message.specs.declared.note.Note.TheVariants.{Reply as ReplyNote, Decide}
use Rattle.acc_message.specs.declared.note.Path.TheVariants.{Fast}
use Rattle.acc_message.specs.declared.entry.Emitted.{Emitted}
use Rattle.acc_message.specs.Fields.{id_of, top_of}
use Rattle.acc_message.specs.Items.{begins, replies}
use Rattle.acc_message.specs.Attempts.{Attempt, Phase, Voting, Recovering, Accepting, Committing, Executing, fits, counts, union_of}
use Rattle.acc_message.specs.Coordinator.{Reaction, silence, stay, when, after_answer, with_answer, reaction}
use Rattle.acc_message.specs.NodeRules.{Act, Takes as TakesMessage, Deed, clock_of, begun_id, is_open, attempt_of, next_by, where_about, emitted_by, replied, with_reply, on_taking, node_emits, node_replay}
use Rattle.acc_coord.specs.Stands.{MakesFastQuorum}
use Rattle.acc_coord.proofs.Made.{decides_fast}
use Rattle.acc_node.specs.declared.heard.Heard.{Heard}
use Rattle.acc_node.specs.declared.node.Node.{Node}
use Rattle.acc_node.specs.declared.running.Running.{Running}
use Rattle.acc_node.specs.Notes.{Noted}
use Rattle.acc_node.specs.Stands.{Runs, RunsOn, StandsFor, Takes, Hears, HearsOnly, HearsAt, heard_emitted, heard_next, HasHeard, HasInformed, HasTaken, Drops, Closes, DecidesAtOnce}
use Rattle.acc_node.specs.Weighing.{is_inform}
use Rattle.acc_node.proofs.Noting.{noted, OfOnly, of_only}
use Rattle.acc_node.proofs.Slowing.{own_is}
use Rattle.acc_node.proofs.Standing.{or_none}

-- ---- the attempt at one transaction

module _ (layout : Layout) (x : TxnId) (m : Message) (is_open : Bool) where
  hears_emits : (r : Option Running) (heard : Heard) (a : Option Attempt) → HearsOnly layout x r is_open heard m a → heard.emitted ≡ heard_emitted layout x is_open m a
  hears_emits None heard None h = ap (λ (d : Heard). d.emitted) h
  hears_emits None heard (Some a) h = absurd h
  hears_emits (Some running) heard None h = absurd h
  hears_emits (Some running) heard (Some a) h = h.emits

  hears_replied : (r : Option Running) (heard : Heard) (a : Option Attempt) → HearsOnly layout x r is_open heard m a
      → heard.has_replied ≡ list_any (replies x) heard.emitted.notes
  hears_replied None heard None h = ap (λ (d : Heard). d.has_replied) h ∙ sym (ap (λ (d : Heard). list_any (replies x) d.emitted.notes) h)
  hears_replied None heard (Some a) h = absurd h
  hears_replied (Some running) heard None h = absurd h
  hears_replied (Some running) heard (Some a) h = h.answers

  -- it is dropped where it has ended
  drops_on : (running : Running) (b : Bool) (o : Option Attempt) → b ≡ is_none o → RunsOn layout x running o → Runs layout x (cond b None (Some running)) o
  drops_on running b None e h = subst (λ (c : Bool). Runs layout x (cond c None (Some running)) None) (sym e) tt
  drops_on running b (Some a) e h = subst (λ (c : Bool). Runs layout x (cond c None (Some running)) (Some a)) (sym e) h

  none_left : (b : Bool) → Runs layout x (cond b None None) None
  none_left true = tt
  none_left false = tt

  hears_next : (r : Option Running) (heard : Heard) (a : Option Attempt) → HearsOnly layout x r is_open heard m a
      → Runs layout x (cond heard.has_ended None r) (heard_next layout x m a)
  hears_next None heard None h = none_left heard.has_ended
  hears_next None heard (Some a) h = absurd h
  hears_next (Some running) heard None h = absurd h
  hears_next (Some running) heard (Some a) h =
      drops_on running heard.has_ended (reaction layout (home_of x a.ballot) x a m).next h.ends h.goes_on

-- ---- the maps, once an attempt that has ended is dropped, and a client that has its reply closed

and_true : (b : Bool) → (b && true) ≡ b
and_true true = refl
and_true false = refl

and_false : (b : Bool) → (b && false) ≡ false
and_false true = refl
and_false false = refl

module _ (layout : Layout) (old heard_by ended new : Node) (m : Message) (heard : Heard)
    (hears : HearsAt layout old heard_by (id_of m) (is_some (get id_cmp old.clients (id_of m))) m heard)
    (drops : Drops heard_by ended (id_of m) heard.has_ended) (closes : Closes ended new (id_of m) heard.has_replied) where
  attempts_are : (y : TxnId) → get id_cmp new.attempts y ≡ cond (heard.has_ended && id_eq (id_of m) y) None (get id_cmp heard_by.attempts y)
  attempts_are y = ap (λ (t : BTreeMap TxnId Running). get id_cmp t y) closes.attempts ∙ drops.attempts y

  others_are : (y : TxnId) → id_eq (id_of m) y ≡ false → get id_cmp new.attempts y ≡ get id_cmp old.attempts y
  others_are y e =
      attempts_are y
      ∙ ap (λ b. cond (heard.has_ended && b) None (get id_cmp heard_by.attempts y)) e
      ∙ ap (λ b. cond b None (get id_cmp heard_by.attempts y)) (and_false heard.has_ended)
      ∙ hears.others y e

  here_is : get id_cmp new.attempts (id_of m) ≡ cond heard.has_ended None (get id_cmp heard_by.attempts (id_of m))
  here_is =
      attempts_are (id_of m)
      ∙ ap (λ b. cond (heard.has_ended && b) None (get id_cmp heard_by.attempts (id_of m))) (eq_itself id_order (id_of m))
      ∙ ap (λ b. cond b None (get id_cmp heard_by.attempts (id_of m))) (and_true heard.has_ended)

  clients_are : (y : TxnId) → is_some (get id_cmp ended.clients y) ≡ is_some (get id_cmp old.clients y)
  clients_are y = ap (λ (t : BTreeMap TxnId (Unit {0})). is_some (get id_cmp t y)) (drops.clients ∙ hears.clients)

  pub has_heard : HasHeard layout old new m heard.emitted
  has_heard =
      record {
        clock = closes.clock ∙ drops.clock ∙ hears.clock;
        begun = closes.begun ∙ drops.begun ∙ hears.begun;
        clients = λ a runs y.
            closes.clients y
            ∙ ap (λ b. b && not (heard.has_replied && id_eq (id_of m) y)) (clients_are y)
            ∙ ap (λ b. is_some (get id_cmp old.clients y) && not (b && id_eq (id_of m) y))
            (hears_replied layout (id_of m) m (is_some (get id_cmp old.clients (id_of m))) (get id_cmp heard_by.attempts (id_of m)) heard a (hears.here a runs));
        others = others_are;
        emits = λ a runs.
            hears_emits layout (id_of m) m (is_some (get id_cmp old.clients (id_of m))) (get id_cmp heard_by.attempts (id_of m)) heard a (hears.here a runs);
        here = λ a runs.
            subst (λ (o : Option Running). Runs layout (id_of m) o (heard_next layout (id_of m) m a)) (sym here_is)
            (hears_next layout (id_of m) m (is_some (get id_cmp old.clients (id_of m))) (get id_cmp heard_by.attempts (id_of m)) heard a (hears.here a runs));
      }

-- the same, about the id of the message
pub has_heard_at : (layout : Layout) (old heard_by ended new : Node) (m : Message) (heard : Heard) (x : TxnId) (open_now : Bool)
    → x ≡ id_of m → open_now ≡ is_some (get id_cmp old.clients x) → HearsAt layout old heard_by x open_now m heard
    → Drops heard_by ended x heard.has_ended → Closes ended new x heard.has_replied → HasHeard layout old new m heard.emitted
has_heard_at layout old heard_by ended new m heard x open_now of_message is_it hears drops closes =
    has_heard layout old heard_by ended new m heard
    (subst (λ (z : TxnId). HearsAt layout old heard_by z (is_some (get id_cmp old.clients z)) m heard) of_message
    (subst (λ (b : Bool). HearsAt layout old heard_by x b m heard) is_it hears))
    (subst (λ (z : TxnId). Drops heard_by ended z heard.has_ended) of_message drops)
    (subst (λ (z : TxnId). Closes ended new z heard.has_replied) of_message closes)

-- ---- an Inform

-- a client is closed where it was open
closed : (now here same : Bool) → (same ≡ true → now ≡ here) → (now && not (here && same)) ≡ (now && not same)
closed now true same h = refl
closed true false true h = h refl
closed true false false h = refl
closed false false same h = refl

pub has_informed : (old new : Node) (id : TxnId) (reply : Reply) (notes : List Note) (out : List Message) (open_now : Bool)
    → open_now ≡ is_some (get id_cmp old.clients id) → notes ≡ cond open_now (ReplyNote id reply ∷ []) [] → out ≡ [] → Closes old new id open_now
    → HasInformed old new id reply (record { notes = notes; out = out })
has_informed old new id reply notes out open_now is_it noted_is silent closes =
    record {
      clock = closes.clock;
      begun = closes.begun;
      attempts = closes.attempts;
      clients = λ y.
          closes.clients y
          ∙ closed (is_some (get id_cmp old.clients y)) open_now (id_eq id y)
          (λ e. ap (λ (z : TxnId). is_some (get id_cmp old.clients z)) (sym ((id_order.decides id y).0 e)) ∙ sym is_it);
      emits =
          ap (λ (list : List Note). record { notes = list; out = out }) (noted_is ∙ ap (λ (b : Bool). cond b (ReplyNote id reply ∷ []) []) is_it)
          ∙ ap (λ (list : List Message). record { notes = cond (is_some (get id_cmp old.clients id)) (ReplyNote id reply ∷ []) []; out = list }) silent;
    }

fits_no_inform : (phase : Phase) (from to : Actor) (id : TxnId) (b : Ballot) (o : Outcome) → fits phase (Inform from to id b o) ≡ false
fits_no_inform Voting from to id b o = refl
fits_no_inform Recovering from to id b o = refl
fits_no_inform (Accepting s) from to id b o = refl
fits_no_inform (Committing s) from to id b o = refl
fits_no_inform (Executing s) from to id b o = refl

counts_no_inform : (layout : Layout) (a : Attempt) (from to : Actor) (id : TxnId) (b : Ballot) (o : Outcome) → counts layout a (Inform from to id b o) ≡ false
counts_no_inform layout a from to id b o = and_left _ _ (and_left _ _ (fits_no_inform a.phase from to id b o))

inform_stays : (layout : Layout) (own : Actor) (x : TxnId) (a : Attempt) (from to : Actor) (id : TxnId) (b : Ballot) (o : Outcome)
    → reaction layout own x a (Inform from to id b o) ≡ stay a
inform_stays layout own x a from to id b o = by (ballot_eq b a.ballot)
  where
    within : (t : Bool) → t ≡ false → when t (λ c. after_answer layout own x (with_answer c (Inform from to id b o)) c.phase) a ≡ stay a
    within true e = absurd (true≢false e)
    within false e = refl

    by : (t : Bool) → when t (λ c. when (counts layout c (Inform from to id b o)) (λ d. after_answer layout own x (with_answer d (Inform from to id b o)) d.phase) c) a ≡ stay a
    by false = refl
    by true = within (counts layout a (Inform from to id b o)) (counts_no_inform layout a from to id b o)

inform_leaves : (layout : Layout) (own : Actor) (x : TxnId) (from to : Actor) (id : TxnId) (b : Ballot) (outcome : Outcome) (t : Bool) (o : Option Attempt)
    → where_about t (next_by (λ a. reaction layout own x a (Inform from to id b outcome))) o ≡ o
inform_leaves layout own x from to id b outcome true None = refl
inform_leaves layout own x from to id b outcome true (Some a) = ap (λ (r : Reaction). r.next) (inform_stays layout own x a from to id b outcome)
inform_leaves layout own x from to id b outcome false o = refl

-- the clients after a reply to an open one, by whether it is the one of the reply
told_clients : (now same here : Bool) (x y : TxnId) (reply : Reply) → id_eq x y ≡ same → (same ≡ true → now ≡ here)
    → (now && not same) ≡ (not (list_any (replies y) (cond here (ReplyNote x reply ∷ []) [])) && (list_any (begins y) (cond here (ReplyNote x reply ∷ []) []) || now))
told_clients now same true x y reply e h =
    swap now same ∙ ap (λ b. not (b || false) && now) (sym e)
  where
    swap : (p q : Bool) → (p && not q) ≡ (not (q || false) && p)
    swap true true = refl
    swap true false = refl
    swap false true = refl
    swap false false = refl
told_clients now true false x y reply e h = and_false now ∙ sym (h refl)
told_clients now false false x y reply e h = and_true now

module _ (layout : Layout) (number start : ℕ) (acts : List Act) (old new : Node) (s : StandsFor layout number start old acts) where
  pub inform_taken : (from to : Actor) (id : TxnId) (b : Ballot) (outcome : Outcome) (emitted : Emitted) → HasInformed old new id outcome.reply emitted
      → HasTaken layout number start new acts (Inform from to id b outcome) emitted
  inform_taken from to id b outcome emitted h =
      let before : List Deed = node_replay layout number start acts in
      record {
        clock = h.clock ∙ s.clock_is;
        emits = h.emits ∙ ap (λ (t : Bool). record { notes = cond t (ReplyNote id outcome.reply ∷ []) []; out = [] }) (s.clients id);
        begun = λ txn. ap (λ (t : BTreeMap ℕ TxnId). get nat_cmp t txn) h.begun ∙ s.begun txn;
        clients = λ y.
            h.clients y ∙ ap (λ t. t && not (id_eq id y)) (s.clients y)
            ∙ told_clients (is_open y before) (id_eq id y) (is_open id before) id y outcome.reply refl
            (λ e. ap (λ (z : TxnId). is_open z before) (sym ((id_order.decides id y).0 e)));
        attempts = λ y.
            subst (λ (o : Option Attempt). Runs layout y (get id_cmp new.attempts y) o)
            (sym (inform_leaves layout (actor_of number 0) y from to id b outcome (id_eq id y) (attempt_of layout number start y before)))
            (subst (λ (t : BTreeMap TxnId Running). Runs layout y (get id_cmp t y) (attempt_of layout number start y before)) (sym h.attempts) (s.attempts y));
      }

-- ---- every other message

pub not_inform : (m : Message) → ((from to : Actor) (id : TxnId) (b : Ballot) (outcome : Outcome) → m ≡ Inform from to id b outcome → ⊥) → is_inform m ≡ false
not_inform (Inform from to id b outcome) h = absurd (h from to id b outcome refl)
not_inform (PreAccept from to id b body) h = refl
not_inform m h = refl

pub other_taken : (layout : Layout) (number start : ℕ) (past : List Deed) (m : Message) → is_inform m ≡ false
    → on_taking layout number start past m
    ≡ with_reply (is_open (id_of m) past) (emitted_by (λ a. reaction layout (actor_of number 0) (id_of m) a m) (attempt_of layout number start (id_of m) past))
other_taken layout number start past (Inform from to id b outcome) e = absurd (true≢false e)
other_taken layout number start past (PreAccept from to id b body) e = refl
other_taken layout number start past m e = refl

-- the clients, where the notes reply to x alone
heard_clients : (now l b : Bool) (L B : Bool) → L ≡ l → B ≡ b → b ≡ false → (now && not l) ≡ (not L && (B || now))
heard_clients true true b L B e f g = sym (ap (λ t. not t && (B || true)) e)
heard_clients true false b L B e f g = sym (ap (λ t. not t && (B || true)) e ∙ ap (λ t. t || true) (f ∙ g))
heard_clients false l b L B e f g = sym (ap (λ t. not L && (t || false)) (f ∙ g) ∙ and_false (not L))

module _ (layout : Layout) (number start : ℕ) (acts : List Act) (old new : Node) (m : Message) (emitted : Emitted) (s : StandsFor layout number start old acts)
    (h : HasHeard layout old new m emitted) (other : is_inform m ≡ false) where
  emits_by : (o : Option Attempt) (open_now : Bool) → attempt_of layout number start (id_of m) (node_replay layout number start acts) ≡ o
      → heard_emitted layout (id_of m) open_now m o ≡ with_reply open_now (emitted_by (λ a. reaction layout (actor_of number 0) (id_of m) a m) o)
  emits_by None open_now is = refl
  emits_by (Some a) open_now is =
      ap (λ (z : Actor). with_reply open_now (reaction layout z (id_of m) a m).emitted)
      (sym (own_is layout number start (node_replay layout number start acts) (id_of m) a is))

  next_by_own : (o : Option Attempt) → attempt_of layout number start (id_of m) (node_replay layout number start acts) ≡ o
      → heard_next layout (id_of m) m o ≡ next_by (λ a. reaction layout (actor_of number 0) (id_of m) a m) o
  next_by_own None is = refl
  next_by_own (Some a) is =
      ap (λ (z : Actor). (reaction layout z (id_of m) a m).next) (sym (own_is layout number start (node_replay layout number start acts) (id_of m) a is))

  notes_of_only : (o : Option Attempt) (open_now : Bool) → OfOnly (id_of m) (with_reply open_now (emitted_by (λ a. reaction layout (actor_of number 0) (id_of m) a m) o)).notes
  notes_of_only None open_now = record { replies_to = λ y. refl; begins_none = λ y. refl }
  notes_of_only (Some a) open_now = of_only (id_of m) _ _ open_now (noted layout (actor_of number 0) (id_of m) a m)

  pub heard_emits : emitted ≡ with_reply (is_open (id_of m) (node_replay layout number start acts)) (emitted_by (λ a. reaction layout (actor_of number 0) (id_of m) a m) (attempt_of layout number start (id_of m) (node_replay layout number start acts)))
  heard_emits =
      let before : List Deed = node_replay layout number start acts in
      let o : Option Attempt = attempt_of layout number start (id_of m) before in
      h.emits o (s.attempts (id_of m))
      ∙ ap (λ t. heard_emitted layout (id_of m) t m o) (s.clients (id_of m))
      ∙ emits_by o (is_open (id_of m) before) refl

  node_emits_it : emitted ≡ node_emits layout number start (node_replay layout number start acts) (TakesMessage m)
  node_emits_it = heard_emits ∙ sym (other_taken layout number start (node_replay layout number start acts) m other)

  only : OfOnly (id_of m) emitted.notes
  only =
      let before : List Deed = node_replay layout number start acts in
      subst (λ (e : Emitted). OfOnly (id_of m) e.notes) (sym heard_emits) (notes_of_only (attempt_of layout number start (id_of m) before) (is_open (id_of m) before))

  attempts_by : (y : TxnId) (b : Bool) → id_eq (id_of m) y ≡ b → Runs layout y (get id_cmp new.attempts y)
      (where_about b (next_by (λ a. reaction layout (actor_of number 0) y a m)) (attempt_of layout number start y (node_replay layout number start acts)))
  attempts_by y true e =
      let before : List Deed = node_replay layout number start acts in
      let o : Option Attempt = attempt_of layout number start (id_of m) before in
      subst (λ (z : TxnId). Runs layout z (get id_cmp new.attempts z) (next_by (λ a. reaction layout (actor_of number 0) z a m) (attempt_of layout number start z before)))
      ((id_order.decides (id_of m) y).0 e)
      (subst (λ (k : Option Attempt). Runs layout (id_of m) (get id_cmp new.attempts (id_of m)) k) (next_by_own o refl) (h.here o (s.attempts (id_of m))))
  attempts_by y false e =
      subst (λ (o : Option Running). Runs layout y o (attempt_of layout number start y (node_replay layout number start acts))) (sym (h.others y e)) (s.attempts y)

  pub heard_taken : HasTaken layout number start new acts m emitted
  heard_taken =
      let before : List Deed = node_replay layout number start acts in
      let o : Option Attempt = attempt_of layout number start (id_of m) before in
      record {
        clock = h.clock ∙ s.clock_is;
        emits = node_emits_it;
        begun = λ txn. ap (λ (t : BTreeMap ℕ TxnId). get nat_cmp t txn) h.begun ∙ s.begun txn;
        clients = λ y.
            h.clients o (s.attempts (id_of m)) y
            ∙ ap (λ t. t && not (list_any (replies (id_of m)) emitted.notes && id_eq (id_of m) y)) (s.clients y)
            ∙ heard_clients (is_open y before) (list_any (replies (id_of m)) emitted.notes && id_eq (id_of m) y) false
            (list_any (replies y) emitted.notes) (list_any (begins y) emitted.notes) (only.replies_to y) (only.begins_none y) refl
            ∙ ap (λ (e : Emitted). not (list_any (replies y) e.notes) && (list_any (begins y) e.notes || is_open y before)) node_emits_it;
        attempts = λ y. attempts_by y (id_eq (id_of m) y) refl;
      }

-- ---- a fast quorum

-- a message that makes one isn't an Inform
fast_is_no_inform : (layout : Layout) (x : TxnId) (a : Attempt) (m : Message) → MakesFastQuorum layout x a m → is_inform m ≡ false
fast_is_no_inform layout x a (Inform from to id b outcome) q = absurd (true≢false (sym q.is_counted ∙ counts_no_inform layout a from to id b outcome))
fast_is_no_inform layout x a (PreAccept from to id b body) q = refl
fast_is_no_inform layout x a m q = refl

pub decides_at_once : (layout : Layout) (number start : ℕ) (acts : List Act) (m : Message) (emitted : Emitted)
    → emitted ≡ node_emits layout number start (node_replay layout number start acts) (TakesMessage m) → DecidesAtOnce layout number start acts m emitted
decides_at_once layout number start acts m emitted emits = λ a is q.
    let before : List Deed = node_replay layout number start acts in
    let open_now : Bool = is_open (id_of m) before in
    ap (λ (e : Emitted). e.notes) (emits ∙ other_taken layout number start before m (fast_is_no_inform layout (id_of m) a m q))
    ∙ ap (λ (o : Option Attempt). flat_map (replied open_now) (emitted_by (λ b. reaction layout (actor_of number 0) (id_of m) b m) o).notes) is
    ∙ ap (λ (notes : List Note). flat_map (replied open_now) notes) (decides_fast layout (actor_of number 0) (id_of m) a m q)

-- ---- once its clock has seen the message

pub stepped : (layout : Layout) (number start : ℕ) (acts : List Act) (taken new : Node) (m : Message) (emitted : Emitted) (top : ℕ)
    → HasTaken layout number start taken acts m emitted
    → new.clock ≡ after_seeing taken.clock top → top ≡ top_of m → new.begun ≡ taken.begun → new.clients ≡ taken.clients → new.attempts ≡ taken.attempts
    → Takes layout number start new acts (TakesMessage m) emitted
stepped layout number start acts taken new m emitted top t clock is begun clients attempts =
    let before : List Deed = node_replay layout number start acts in
    record {
      emits = t.emits;
      stands = record {
        clock_is = clock ∙ ap (λ (k : ClockState). after_seeing k top) t.clock ∙ ap (after_seeing (clock_of number start before)) is;
        begun = λ txn. ap (λ (b : BTreeMap ℕ TxnId). get nat_cmp b txn) begun ∙ t.begun txn ∙ sym (or_none (begun_id number start txn before));
        clients = λ x. ap (λ (b : BTreeMap TxnId (Unit {0})). is_some (get id_cmp b x)) clients ∙ t.clients x;
        attempts = λ x.
            subst (λ (b : BTreeMap TxnId Running). Runs layout x (get id_cmp b x) (attempt_of layout number start x (node_replay layout number start (TakesMessage m ∷ acts)))) (sym attempts)
            (t.attempts x);
      };
    }
