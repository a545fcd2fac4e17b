-- What an attempt emits settles what is decided, and it applies the outcome that it notes.
use Rattle.std.proofs.Common.{◌≡◌, false, cond, List, [], ◌∷◌, ◌++◌, Option, None, Some, map, refl, sym, ◌∙◌, ap, subst, ⊎_elim}
use Rattle.std.specs.List.{AllByRecursion}
use Rattle.std.proofs.lemmas.Bool.{false≢true, or_cases, cond-true, cond_both}
use Rattle.acc_stamp.specs.declared.stamps.TxnId.{TxnId}
use Rattle.acc_stamp.specs.declared.stamps.Ballot.{Ballot}
use Rattle.acc_stamp.specs.declared.actors.Actor.{Actor}
use Rattle.acc_stamp.specs.Stamp.{id_eq}
use Rattle.acc_stamp.proofs.Order.{id_order}
use Rattle.acc_stamp.proofs.Rising.{each_append}
use Rattle.acc_deps.specs.declared.records.Settled.{Settled}
use Rattle.acc_txn.specs.declared.parts.BodyParts.{BodyParts}
use Rattle.acc_txn.specs.declared.outcome.Outcome.{Outcome}
use Rattle.acc_base.specs.Faults.{or_else}
use Rattle.acc_message.specs.declared.message.Message.{Message}
use Rattle.acc_message.specs.declared.message.Message.TheVariants.{Apply, Inform}
use Rattle.acc_message.specs.declared.note.Path.{Path}
use Rattle.acc_message.specs.declared.note.Note.TheVariants.{Decide, Outcome as OutcomeNote}
use Rattle.acc_message.specs.declared.item.Item.{Item}
use Rattle.acc_message.specs.Fields.{id_of}
use Rattle.acc_message.specs.BallotRules.{settled_in}
use Rattle.acc_message.specs.Items.{same_actor}
use Rattle.acc_message.specs.Shares.{stores_used}
use Rattle.acc_message.specs.Attempts.{Attempt, Accepting, Committing, Executing}
use Rattle.acc_message.specs.Coordinator.{Reaction, to_all, inform, home_node}
use Rattle.acc_message.specs.Run.{Cluster}
use Rattle.acc_actor_laws.proofs.Standing.{not_none}
use Rattle.acc_actor_laws.proofs.OpeningFacts.{some_is}
use Rattle.acc_safety.specs.Polls.{IsBody}
use Rattle.acc_safety_laws.proofs.Notions.{first_apply, IsDecision, Answered, SettlesDecided}
use Rattle.acc_safety.specs.NodeMoves.{Move, Wait, Propose, CommitTo, DecideBy, FinishWith, BlockBy, EndBy, made}
use Rattle.acc_safety_laws.proofs.Going.{Finishing, Goes, Heard, Before, Counted}
use Rattle.acc_safety_laws.proofs.Frame.{ReadsDecided, HasApply, each_map}

abbrev pub EachSettles : Cluster → List Item → List Message → Type 0
EachSettles cluster part ms = AllByRecursion (SettlesDecided cluster part) ms

accepting_apart : (r s : Settled) → Accepting r ≡ Executing s → ⊥
accepting_apart r s e = cc

committing_apart : (r s : Settled) → Committing r ≡ Executing s → ⊥
committing_apart r s e = cc

executing_same : (r s : Settled) → Executing r ≡ Executing s → r ≡ s
executing_same r s e = cc

module _ (cluster : Cluster) (part : List Item) (own : Actor) (x : TxnId) where
  -- ---- requests to all stores

  all_settle : (body : BodyParts) (f : Actor → Message) → ((store : Actor) → SettlesDecided cluster part (f store)) → EachSettles cluster part (to_all cluster.layout body f)
  all_settle body f h = each_map (SettlesDecided cluster part) f (stores_used cluster.layout body) h

  -- requests that settle nothing
  pub none_settle : (body : BodyParts) (f : Actor → Message) → ((store : Actor) → settled_in (id_of (f store)) (f store) ≡ None) → EachSettles cluster part (to_all cluster.layout body f)
  none_settle body f h = all_settle body f (λ store s e. absurd (not_none s (sym (h store) ∙ e)))

  settle_decided : (body : BodyParts) (f : Actor → Message) (s : Settled) → ((store : Actor) → settled_in (id_of (f store)) (f store) ≡ cond (id_eq (id_of (f store)) (id_of (f store))) (Some s) None)
      → ((store : Actor) → id_of (f store) ≡ x) → IsDecision cluster part x s.t s.deps → EachSettles cluster part (to_all cluster.layout body f)
  settle_decided body f s settles about decided =
      all_settle body f
      (λ store r e. subst (λ y. IsDecision cluster part y r.t r.deps) (sym (about store))
      (subst (λ (q : Settled). IsDecision cluster part x q.t q.deps)
      (some_is s r (sym (settles store ∙ cond-true (id_eq (id_of (f store)) (id_of (f store))) (Some s) None ((id_order.decides (id_of (f store)) (id_of (f store))).1 refl)) ∙ e)) decided))

  inform_settles : (b : Ballot) (o : Outcome) → EachSettles cluster part (inform own x b o)
  inform_settles b o =
      cond_both (same_actor own (home_node x)) [] (Inform own (home_node x) x b o ∷ []) (EachSettles cluster part)
      (λ _. tt) (λ _. ((λ s e. absurd (not_none s e)), tt))

  -- ---- what a move emits, and where it leads

  pub record IsFramedReaction (r : Reaction) : Type 0 where
    pub out : EachSettles cluster part r.emitted.out
    pub applied : (y : TxnId) → Answered r.emitted.notes y → HasApply cluster part r.emitted.out y
    pub next : (a : Attempt) → r.next ≡ Some a → ReadsDecided cluster part x a

  -- a Decide that the reaction notes is a decision
  abbrev pub Decided_by : Reaction → Type 0
  Decided_by r = (s : Settled) (path : Path) → r.emitted.notes ≡ Decide x s.t path s.deps ∷ [] → IsDecision cluster part x s.t s.deps

  first_of_stores : (a : Attempt) (s : Settled) (o : Outcome) (stores : List Actor) (more : List Message) → (stores ≡ [] → ⊥)
      → first_apply (map (λ store. Apply own store x a.ballot a.body s.t s.deps o) stores ++ more) x ≡ Some o
  first_of_stores a s o [] more some = absurd (some refl)
  first_of_stores a s o (store ∷ stores) more some =
      ap (λ (k : Option Outcome). or_else k (first_apply (map (λ store. Apply own store x a.ballot a.body s.t s.deps o) stores ++ more) x))
      (cond-true (id_eq x x) (Some o) None ((id_order.decides x x).1 refl))

  apply_sent : (a : Attempt) (s : Settled) (o : Outcome) (y : TxnId) → IsBody cluster part x a.body → Answered (OutcomeNote x o.reply ∷ []) y
      → HasApply cluster part (to_all cluster.layout a.body (λ store. Apply own store x a.ballot a.body s.t s.deps o) ++ inform own x a.ballot o) y
  apply_sent a s o y has h =
      subst (HasApply cluster part (to_all cluster.layout a.body (λ store. Apply own store x a.ballot a.body s.t s.deps o) ++ inform own x a.ballot o)) same
      (record { body = a.body; body_is = has; sent = λ some. (o, first_of_stores a s o (stores_used cluster.layout a.body) (inform own x a.ballot o) some) })
    where
      same : x ≡ y
      same = (id_order.decides x y).0 (⊎_elim (λ is. is) (λ none. absurd (false≢true none)) (or_cases (id_eq x y) false h))

  in_phase_of : (b : Attempt) → ReadsDecided cluster part x b → (c : Attempt) → ◌≡◌ {A = Option Attempt} (Some b) (Some c) → ReadsDecided cluster part x c
  in_phase_of b h c e = subst (ReadsDecided cluster part x) (some_is b c e) h

  pub move_framed : (a : Attempt) (move : Move) → IsBody cluster part x a.body → ReadsDecided cluster part x a → Finishing cluster.layout a move
      → Decided_by (made cluster.layout own x a move) → IsFramedReaction (made cluster.layout own x a move)
  move_framed a Wait has reads finishing decides =
      record { out = tt; applied = λ y h. absurd (false≢true h); next = in_phase_of a reads }
  move_framed a (Propose s) has reads finishing decides =
      record { out = none_settle a.body _ (λ store. refl); applied = λ y h. absurd (false≢true h); next = in_phase_of _ (λ r e. absurd (accepting_apart s r e)) }
  move_framed a (CommitTo s) has reads finishing decides =
      record { out = none_settle a.body _ (λ store. refl); applied = λ y h. absurd (false≢true h); next = in_phase_of _ (λ r e. absurd (committing_apart s r e)) }
  move_framed a (DecideBy path s) has reads finishing decides =
      record {
        out = settle_decided a.body _ s (λ store. refl) (λ store. refl) (decides s path refl);
        applied = λ y h. absurd (false≢true h);
        next = in_phase_of _ (λ r e. subst (λ (q : Settled). IsDecision cluster part x q.t q.deps) (executing_same s r e) (decides s path refl));
      }
  move_framed a (FinishWith s o) has reads finishing decides =
      record {
        out = each_append (SettlesDecided cluster part) (to_all cluster.layout a.body (λ store. Apply own store x a.ballot a.body s.t s.deps o)) (inform own x a.ballot o)
            (settle_decided a.body _ s (λ store. refl) (λ store. refl) (reads s finishing.executes)) (inform_settles a.ballot o);
        applied = λ y h. apply_sent a s o y has h;
        next = λ c e. absurd (not_none c e);
      }
  move_framed a (BlockBy by) has reads finishing decides = record { out = tt; applied = λ y h. absurd (false≢true h); next = λ c e. absurd (not_none c e) }
  move_framed a (EndBy by) has reads finishing decides = record { out = tt; applied = λ y h. absurd (false≢true h); next = λ c e. absurd (not_none c e) }

  -- the same of a reaction that goes by some move
  pub goes_framed : (Now : Attempt → Type 0) → ((a : Attempt) → Now a → IsBody cluster part x a.body) → ((a : Attempt) → Now a → ReadsDecided cluster part x a)
      → (r : Reaction) → Goes cluster.layout own x Now r → Decided_by r → IsFramedReaction r
  goes_framed Now has reads r g decides =
      subst IsFramedReaction (sym g.is)
      (move_framed g.attempt g.move (has g.attempt g.now) (reads g.attempt g.now) g.finishing (subst Decided_by g.is decides))

  -- an answer more leaves an attempt as it is
  pub heard_body : (before : Attempt) (m : Message) (a : Attempt) → IsBody cluster part x before.body → Heard cluster.layout before m a → IsBody cluster part x a.body
  heard_body before m a has Before = has
  heard_body before m a has (Counted is) = has

  pub heard_reads : (before : Attempt) (m : Message) (a : Attempt) → ReadsDecided cluster part x before → Heard cluster.layout before m a → ReadsDecided cluster part x a
  heard_reads before m a reads Before s e = reads s e
  heard_reads before m a reads (Counted is) s e = reads s e
