-- What an entry emits settles what is decided, and it applies the outcomes that it notes.
use Rattle.std.proofs.Common.{◌≡◌, ℕ, Bool, cond, List, [], ◌∷◌, Option, None, Some, Contains, refl, sym, ◌∙◌, ap, subst, ⊎_elim}
use Rattle.std.specs.List.{flat_map}
use Rattle.std.proofs.lemmas.Bool.{false≢true, cond_both}
use Rattle.acc_stamp.specs.declared.stamps.TxnId.{TxnId}
use Rattle.acc_stamp.specs.declared.actors.Actor.{Actor}
use Rattle.acc_stamp.specs.Actor.{actor_of}
use Rattle.acc_stamp.specs.Stamp.{id_eq}
use Rattle.acc_deps.specs.declared.records.Settled.{Settled}
use Rattle.acc_txn.specs.declared.parts.BodyParts.{BodyParts}
use Rattle.acc_message.specs.declared.message.Message.{Message}
use Rattle.acc_message.specs.declared.message.Message.TheVariants.{Inform}
use Rattle.acc_message.specs.declared.note.Path.{Path}
use Rattle.acc_message.specs.declared.note.Note.{Note}
use Rattle.acc_message.specs.declared.note.Note.TheVariants.{Decide}
use Rattle.acc_message.specs.declared.entry.Emitted.{Emitted}
use Rattle.acc_message.specs.declared.entry.Entry.{Entry}
use Rattle.acc_message.specs.declared.item.Item.{Item}
use Rattle.acc_message.specs.declared.item.Item.TheVariants.{Step}
use Rattle.acc_message.specs.Fields.{id_of}
use Rattle.acc_message.specs.Taken.{Taken}
use Rattle.acc_message.specs.Attempts.{Attempt, Voting, Recovering, Executing}
use Rattle.acc_message.specs.Coordinator.{Reaction, begun, recovering, reaction, slow_reaction}
use Rattle.acc_message.specs.NodeRules.{Act, Begins, Recovers, Slows, Takes, Restarts, Deed, next_id, next_ballot, attempt_after, attempt_of, is_open, emitted_by, replied, node_emits}
use Rattle.acc_message.specs.Run.{Cluster, taken_from, store_emits}
use Rattle.acc_message.specs.StoreRules.{store_answer}
use Rattle.acc_safety.specs.Decisions.{Decision, decisions_of, is_answered}
use Rattle.acc_safety.specs.Places.{First}
use Rattle.acc_safety.specs.StoreSends.{StoreSends, Refuses, Tells}
use Rattle.acc_safety.proofs.PlaceOrder.{each_from, IsIn-Contains}
use Rattle.acc_safety.proofs.StoreSent.{store_sends}
use Rattle.acc_actor_laws.proofs.Standing.{not_none}
use Rattle.acc_actor_laws.proofs.OpeningFacts.{some_is}
use Rattle.acc_safety.specs.Polls.{IsBody}
use Rattle.acc_safety_laws.proofs.Notions.{IsDecision, Answered, SettlesDecided}
use Rattle.acc_safety_laws.proofs.Going.{Heard, reaction_goes, slow_goes}
use Rattle.acc_safety_laws.proofs.Steps.{about_cases, Told, Outcome_told, Other_told, told, told_stays, reply_alone, replied_outcomes}
use Rattle.acc_safety_laws.proofs.Frame.{ReadsDecided, body_kept, decision_now, reads_still, HasApply}
use Rattle.acc_safety_laws.proofs.FrameSteps.{EachSettles, none_settle, IsFramedReaction, Decided_by, goes_framed, heard_body, heard_reads}

no_decision : (note : Note) (notes : List Note) → [] ≡ note ∷ notes → ⊥
no_decision note notes e = cc

pub voting_apart : (s : Settled) → Voting ≡ Executing s → ⊥
voting_apart s e = cc

pub recovering_apart : (s : Settled) → Recovering ≡ Executing s → ⊥
recovering_apart s e = cc

-- ---- answers of stores settle nothing

answer_settles : (cluster : Cluster) (part : List Item) (own : Actor) (past : List Taken) (m s : Message) → StoreSends cluster.layout own past m s → SettlesDecided cluster part s
answer_settles cluster part own past m s (Refuses n promised is) r e = absurd (not_none r e)
answer_settles cluster part own past m s (Tells n settled is) r e = absurd (not_none r e)
answer_settles cluster part own past m s _ r e = absurd (not_none r e)

pub store_settles : (cluster : Cluster) (part : List Item) (own : Actor) (past : List Deed) (act : Act)
    → EachSettles cluster part (store_emits cluster.layout own (taken_from past) act).out
store_settles cluster part own past (Takes m) =
    each_from (SettlesDecided cluster part) (store_answer cluster.layout own (taken_from past) m)
    (λ s there. answer_settles cluster part own (taken_from past) m s (store_sends cluster.layout own (taken_from past) m s there))
store_settles cluster part own past (Begins txn body) = tt
store_settles cluster part own past _ = tt

-- ---- a node's entry

module _ (cluster : Cluster) (earlier : List Item) (e : Entry) (node start : ℕ) (past : List Deed)
    (has : (x : TxnId) (a : Attempt) → attempt_of cluster.layout node start x past ≡ Some a → IsBody cluster earlier x a.body)
    (reads : (x : TxnId) (a : Attempt) → attempt_of cluster.layout node start x past ≡ Some a → ReadsDecided cluster earlier x a) where
  -- a decision that the entry notes
  noted : (x : TxnId) (s : Settled) (path : Path) → e.emitted.notes ≡ Decide x s.t path s.deps ∷ [] → IsDecision cluster (Step e ∷ earlier) x s.t s.deps
  noted x s path is =
      let d : Decision = record { id = x; t = s.t; deps = s.deps } in
      decision_now cluster (Step e) earlier d (subst (λ notes. Contains (decisions_of notes) d) (sym is) (IsIn-Contains d (d ∷ []) (First d [])))

  still : (x : TxnId) (a : Attempt) → attempt_of cluster.layout node start x past ≡ Some a → ReadsDecided cluster (Step e ∷ earlier) x a
  still x a is = reads_still cluster (Step e) earlier x a (reads x a is)

  has_still : (x : TxnId) (a : Attempt) → attempt_of cluster.layout node start x past ≡ Some a → IsBody cluster (Step e ∷ earlier) x a.body
  has_still x a is = body_kept cluster (Step e) earlier x a.body (has x a is)

  reaction_framed : (x : TxnId) (a : Attempt) (m : Message) → attempt_of cluster.layout node start x past ≡ Some a
      → Decided_by cluster (Step e ∷ earlier) (actor_of node 0) x (reaction cluster.layout (actor_of node 0) x a m)
      → IsFramedReaction cluster (Step e ∷ earlier) (actor_of node 0) x (reaction cluster.layout (actor_of node 0) x a m)
  reaction_framed x a m is decides =
      goes_framed cluster (Step e ∷ earlier) (actor_of node 0) x (Heard cluster.layout a m)
      (λ b h. heard_body cluster (Step e ∷ earlier) (actor_of node 0) x a m b (has_still x a is) h)
      (λ b h. heard_reads cluster (Step e ∷ earlier) (actor_of node 0) x a m b (still x a is) h) _ (reaction_goes cluster.layout (actor_of node 0) x a m) decides

  slow_framed : (x : TxnId) (a : Attempt) → attempt_of cluster.layout node start x past ≡ Some a
      → Decided_by cluster (Step e ∷ earlier) (actor_of node 0) x (slow_reaction cluster.layout (actor_of node 0) x a)
      → IsFramedReaction cluster (Step e ∷ earlier) (actor_of node 0) x (slow_reaction cluster.layout (actor_of node 0) x a)
  slow_framed x a is decides =
      goes_framed cluster (Step e ∷ earlier) (actor_of node 0) x (λ b. b ≡ a)
      (λ b same. subst (λ (c : Attempt). IsBody cluster (Step e ∷ earlier) x c.body) (sym same) (has_still x a is))
      (λ b same. subst (ReadsDecided cluster (Step e ∷ earlier) x) (sym same) (still x a is)) _ (slow_goes cluster.layout (actor_of node 0) x a) decides

  -- what the entry emits, and the attempts that it leaves
  pub record IsFramedEntry (act : Act) : Type 0 where
    pub out : EachSettles cluster (Step e ∷ earlier) (node_emits cluster.layout node start past act).out
    pub applied : (y : TxnId) → Answered (node_emits cluster.layout node start past act).notes y → HasApply cluster (Step e ∷ earlier) (node_emits cluster.layout node start past act).out y
    pub next : (x : TxnId) (a : Attempt) → attempt_after cluster.layout node start x past (attempt_of cluster.layout node start x past) act ≡ Some a
        → ReadsDecided cluster (Step e ∷ earlier) x a

  -- an attempt that begins or takes over reads nothing yet
  new_reads : (y : TxnId) (same : Bool) (made a : Attempt) → ((s : Settled) → made.phase ≡ Executing s → ⊥)
      → cond same (Some made) (attempt_of cluster.layout node start y past) ≡ Some a → ReadsDecided cluster (Step e ∷ earlier) y a
  new_reads y same made a apart =
      cond_both same (Some made) (attempt_of cluster.layout node start y past) (λ o. o ≡ Some a → ReadsDecided cluster (Step e ∷ earlier) y a)
      (λ _ is. subst (ReadsDecided cluster (Step e ∷ earlier) y) (some_is made a is) (λ s k. absurd (apart s k))) (λ _ is. still y a is)

  begins_framed : (txn : ℕ) (body : BodyParts) → IsFramedEntry (Begins txn body)
  begins_framed txn body =
      record {
        out = none_settle cluster (Step e ∷ earlier) (actor_of node 0) (next_id node start past) body _ (λ store. refl);
        applied = λ y h. absurd (false≢true h);
        next = λ y a. new_reads y (id_eq (next_id node start past) y) (begun body) a voting_apart;
      }

  recovers_framed : (x : TxnId) (body : BodyParts) → IsFramedEntry (Recovers x body)
  recovers_framed x body =
      record {
        out = none_settle cluster (Step e ∷ earlier) (actor_of node 0) x body _ (λ store. refl);
        applied = λ y h. absurd (false≢true h);
        next = λ y a. new_reads y (id_eq x y) (recovering (next_ballot node start past) body) a recovering_apart;
      }

  slows_framed : (x : TxnId) → e.emitted ≡ node_emits cluster.layout node start past (Slows x) → IsFramedEntry (Slows x)
  slows_framed x emitted =
      record {
        out = (at (attempt_of cluster.layout node start x past) refl).0;
        applied = (at (attempt_of cluster.layout node start x past) refl).1;
        next = λ y a k. ⊎_elim (still y a) (λ h. by y h.0 a h.1.0 h.1.1 h.1.2)
            (about_cases x y (slow_reaction cluster.layout (actor_of node 0) y) (attempt_of cluster.layout node start y past) a k);
      }
    where
      decides : (a : Attempt) → attempt_of cluster.layout node start x past ≡ Some a
          → Decided_by cluster (Step e ∷ earlier) (actor_of node 0) x (slow_reaction cluster.layout (actor_of node 0) x a)
      decides a is s path n =
          noted x s path (ap (λ (m : Emitted). m.notes) emitted ∙ ap (λ o. (emitted_by (slow_reaction cluster.layout (actor_of node 0) x) o).notes) is ∙ n)

      at : (o : Option Attempt) → attempt_of cluster.layout node start x past ≡ o
          → EachSettles cluster (Step e ∷ earlier) (emitted_by (slow_reaction cluster.layout (actor_of node 0) x) o).out
          × ((y : TxnId) → Answered (emitted_by (slow_reaction cluster.layout (actor_of node 0) x) o).notes y
          → HasApply cluster (Step e ∷ earlier) (emitted_by (slow_reaction cluster.layout (actor_of node 0) x) o).out y)
      at None is = (tt, λ y h. absurd (false≢true h))
      at (Some a) is = let f = slow_framed x a is (decides a is) in (f.out, f.applied)

      by : (y : TxnId) → x ≡ y → (a b : Attempt) → attempt_of cluster.layout node start y past ≡ Some b
          → (slow_reaction cluster.layout (actor_of node 0) y b).next ≡ Some a → ReadsDecided cluster (Step e ∷ earlier) y a
      by y same a b =
          subst (λ z. attempt_of cluster.layout node start z past ≡ Some b → (slow_reaction cluster.layout (actor_of node 0) z b).next ≡ Some a
          → ReadsDecided cluster (Step e ∷ earlier) z a) same
          (λ is k. (slow_framed x b is (decides b is)).next a k)

  -- an attempt that hears a message
  heard_next : (m : Message)
      → ((a : Attempt) → attempt_of cluster.layout node start (id_of m) past ≡ Some a
      → Decided_by cluster (Step e ∷ earlier) (actor_of node 0) (id_of m) (reaction cluster.layout (actor_of node 0) (id_of m) a m))
      → (y : TxnId) (a : Attempt) → attempt_after cluster.layout node start y past (attempt_of cluster.layout node start y past) (Takes m) ≡ Some a
      → ReadsDecided cluster (Step e ∷ earlier) y a
  heard_next m decides y a k =
      ⊎_elim (still y a) (λ h. by y h.0 a h.1.0 h.1.1 h.1.2)
      (about_cases (id_of m) y (λ b. reaction cluster.layout (actor_of node 0) y b m) (attempt_of cluster.layout node start y past) a k)
    where
      by : (y : TxnId) → id_of m ≡ y → (a b : Attempt) → attempt_of cluster.layout node start y past ≡ Some b
          → (reaction cluster.layout (actor_of node 0) y b m).next ≡ Some a → ReadsDecided cluster (Step e ∷ earlier) y a
      by y same a b =
          subst (λ z. attempt_of cluster.layout node start z past ≡ Some b → (reaction cluster.layout (actor_of node 0) z b m).next ≡ Some a
          → ReadsDecided cluster (Step e ∷ earlier) z a) same
          (λ is k. (reaction_framed (id_of m) b m is (decides b is)).next a k)

  takes_framed : (m : Message) → Told cluster.layout node start past m → e.emitted ≡ node_emits cluster.layout node start past (Takes m) → IsFramedEntry (Takes m)
  takes_framed m (Outcome_told from to id b o) emitted =
      record {
        out = tt;
        applied = λ y h. absurd (false≢true (sym (reply_alone (is_open id past) id y o.reply) ∙ h));
        next = heard_next (Inform from to id b o)
            (λ a is s path n. absurd (no_decision _ _ (sym (ap (λ (r : Reaction). r.emitted.notes) (told_stays cluster.layout (actor_of node 0) id a from to id b o)) ∙ n)));
      }
  takes_framed m (Other_told n is) emitted =
      record {
        out = subst (λ (t : Emitted). EachSettles cluster (Step e ∷ earlier) t.out) (sym is) (at (attempt_of cluster.layout node start (id_of m) past) refl).0;
        applied = subst (λ (t : Emitted). (y : TxnId) → Answered t.notes y → HasApply cluster (Step e ∷ earlier) t.out y) (sym is)
            (at (attempt_of cluster.layout node start (id_of m) past) refl).1;
        next = heard_next m decides;
      }
    where
      decides : (a : Attempt) → attempt_of cluster.layout node start (id_of m) past ≡ Some a
          → Decided_by cluster (Step e ∷ earlier) (actor_of node 0) (id_of m) (reaction cluster.layout (actor_of node 0) (id_of m) a m)
      decides a at s path k =
          noted (id_of m) s path
          (ap (λ (t : Emitted). t.notes) (emitted ∙ is)
          ∙ ap (λ p. flat_map (replied (is_open (id_of m) past)) (emitted_by (λ b. reaction cluster.layout (actor_of node 0) (id_of m) b m) p).notes) at
          ∙ ap (flat_map (replied (is_open (id_of m) past))) k)

      at : (o : Option Attempt) → attempt_of cluster.layout node start (id_of m) past ≡ o
          → EachSettles cluster (Step e ∷ earlier) (emitted_by (λ a. reaction cluster.layout (actor_of node 0) (id_of m) a m) o).out
          × ((y : TxnId) → Answered (flat_map (replied (is_open (id_of m) past)) (emitted_by (λ a. reaction cluster.layout (actor_of node 0) (id_of m) a m) o).notes) y
          → HasApply cluster (Step e ∷ earlier) (emitted_by (λ a. reaction cluster.layout (actor_of node 0) (id_of m) a m) o).out y)
      at None is' = (tt, λ y h. absurd (false≢true h))
      at (Some a) is' =
          let f = reaction_framed (id_of m) a m is' (decides a is') in (
            f.out,
            λ y h. f.applied y (ap (is_answered y) (sym (replied_outcomes (is_open (id_of m) past) (reaction cluster.layout (actor_of node 0) (id_of m) a m).emitted.notes)) ∙ h),
          )

  pub entry_framed : (act : Act) → e.emitted ≡ node_emits cluster.layout node start past act → IsFramedEntry act
  entry_framed (Begins txn body) emitted = begins_framed txn body
  entry_framed (Recovers x body) emitted = recovers_framed x body
  entry_framed (Slows x) emitted = slows_framed x emitted
  entry_framed (Takes m) emitted = takes_framed m (told cluster.layout node start past m) emitted
  entry_framed Restarts emitted = record { out = tt; applied = λ y h. absurd (false≢true h); next = λ x a k. absurd (not_none a k) }
