-- What an entry makes of attempts and of notes.
use Rattle.std.proofs.Common.{◌≡◌, ℕ, Bool, true, false, cond, List, [], ◌∷◌, ◌++◌, Option, None, Some, refl, sym, ◌∙◌, ap, ◌⊎◌, inl, inr}
use Rattle.std.specs.List.{flat_map}
use Rattle.std.proofs.lemmas.Bool.{true≢false, and_left, or_cases}
use Rattle.std.proofs.lemmas.List.Concat.{flat_map-append}
use Rattle.std.proofs.lemmas.List.Folds.{list_any-append}
use Rattle.acc_stamp.specs.declared.stamps.TxnId.{TxnId}
use Rattle.acc_stamp.specs.declared.stamps.Ballot.{Ballot}
use Rattle.acc_stamp.specs.declared.actors.Actor.{Actor}
use Rattle.acc_stamp.specs.Actor.{actor_of, node_of}
use Rattle.acc_stamp.specs.Stamp.{id_eq, ballot_eq}
use Rattle.acc_stamp.proofs.Order.{id_order}
use Rattle.acc_topology.specs.Layout.{Layout}
use Rattle.acc_txn.specs.declared.outcome.Outcome.{Outcome}
use Rattle.acc_txn.specs.declared.outcome.Reply.{Reply}
use Rattle.acc_message.specs.declared.message.Message.{Message}
use Rattle.acc_message.specs.declared.message.Message.TheVariants.{PreAccept, Inform}
use Rattle.acc_message.specs.declared.note.Note.{Note}
use Rattle.acc_message.specs.declared.note.Note.TheVariants.{Begin as BeginNote, Recover as RecoverNote, Blocked as BlockedNote, Ended as EndedNote, Decide, Outcome as OutcomeNote, Reply as ReplyNote}
use Rattle.acc_message.specs.declared.entry.Entry.{Entry}
use Rattle.acc_message.specs.declared.item.Item.{Item}
use Rattle.acc_message.specs.declared.item.Item.TheVariants.{Step}
use Rattle.acc_message.specs.Fields.{id_of}
use Rattle.acc_message.specs.Items.{same_actor}
use Rattle.acc_message.specs.Attempts.{Attempt, Phase, Voting, Recovering, Accepting, Committing, Executing, counts, fits}
use Rattle.acc_message.specs.Coordinator.{Reaction, stay, when, reaction, after_answer, with_answer}
use Rattle.acc_message.specs.NodeRules.{Act, Begins, Takes, Deed, next_by, where_about, attempt_of, is_open, emitted_by, replied, with_reply, on_taking, node_emits}
use Rattle.acc_message.specs.Run.{Cluster, clock_start, act_of, deed_with, deed_if, deeds_of, taken_from, store_emits, is_node, emits_by, emits, StandsOn}
use Rattle.acc_safety.specs.Decisions.{Answered as Answer, outcomes_in, outcomes_of, is_answered}
use Rattle.acc_safety.proofs.Bridge.{same}
use Rattle.acc_actor_laws.proofs.Standing.{not_none}
use Rattle.acc_actor_laws.proofs.OpeningFacts.{some_is}
use Rattle.acc_safety_laws.proofs.Notions.{Answered}

-- ---- an actor's own entries

-- what an actor did, with an entry more: what it did before, and the entry's act where it is its own
pub deeds_cases : (cluster : Cluster) (a : Actor) (e : Entry) (earlier : List Item) (P : List Deed → Type 0) → P (deeds_of cluster a earlier)
    → ((act : Act) → e.actor ≡ a → act_of cluster earlier e.event ≡ Some act → P (record { act = act; emitted = e.emitted } ∷ deeds_of cluster a earlier))
    → P (deeds_of cluster a (Step e ∷ earlier))
deeds_cases cluster a e earlier P before own = by (same_actor e.actor a) refl
  where
    with_act : e.actor ≡ a → (o : Option Act) → act_of cluster earlier e.event ≡ o → P (deed_with o e.emitted ++ deeds_of cluster a earlier)
    with_act its None is = before
    with_act its (Some act) is = own act its is

    by : (b : Bool) → same_actor e.actor a ≡ b → P (deed_if b cluster earlier e ++ deeds_of cluster a earlier)
    by false other = before
    by true its = with_act (same e.actor a its) (act_of cluster earlier e.event) refl

-- what a node emits, by the rules of nodes
pub node_emitted : (cluster : Cluster) (earlier : List Item) (e : Entry) (s : StandsOn cluster earlier e) (a : Actor) (act : Act) → is_node a ≡ true → e.actor ≡ a
    → act_of cluster earlier e.event ≡ Some act
    → e.emitted ≡ node_emits cluster.layout (node_of a) (clock_start cluster.starts (node_of a)) (deeds_of cluster a earlier) act
node_emitted cluster earlier e s a act node same is =
    s.emitted ∙ ap (λ b. emits cluster earlier b s.act) same ∙ ap (emits cluster earlier a) (some_is s.act act (sym s.act_is ∙ is))
    ∙ ap (λ b. emits_by b cluster a (deeds_of cluster a earlier) act) node

-- ---- the attempt after an act

-- the attempt of x after a message: as it was, or where the message is about x what the reaction leaves
pub about_cases : (id x : TxnId) (react : Attempt → Reaction) (before : Option Attempt) (a : Attempt)
    → where_about (id_eq id x) (next_by react) before ≡ Some a
    → (before ≡ Some a) ⊎ ((id ≡ x) × ((b : Attempt) × (before ≡ Some b) × ((react b).next ≡ Some a)))
about_cases id x react before a = by (id_eq id x) refl before
  where
    by : (t : Bool) → id_eq id x ≡ t → (o : Option Attempt) → where_about t (next_by react) o ≡ Some a
        → (o ≡ Some a) ⊎ ((id ≡ x) × ((b : Attempt) × (o ≡ Some b) × ((react b).next ≡ Some a)))
    by false other o e = inl e
    by true same None e = absurd (not_none a e)
    by true same (Some b) e = inr ((id_order.decides id x).0 same, (b, refl, e))

-- a message that tells an outcome, or any other
pub data Told (layout : Layout) (node start : ℕ) (past : List Deed) : Message → Type 0 where
  Outcome_told : (from to : Actor) (id : TxnId) (b : Ballot) (o : Outcome) → Told layout node start past (Inform from to id b o)
  Other_told : (m : Message)
      → on_taking layout node start past m
      ≡ with_reply (is_open (id_of m) past) (emitted_by (λ a. reaction layout (actor_of node 0) (id_of m) a m) (attempt_of layout node start (id_of m) past))
      → Told layout node start past m

pub told : (layout : Layout) (node start : ℕ) (past : List Deed) (m : Message) → Told layout node start past m
told layout node start past (Inform from to id ballot outcome) = Outcome_told from to id ballot outcome
told layout node start past (PreAccept from to id ballot body) = Other_told (PreAccept from to id ballot body) refl
told layout node start past m = Other_told m refl

-- ---- a told outcome moves no attempt

fits_no_outcome : (phase : Phase) (from to : Actor) (id : TxnId) (b : Ballot) (o : Outcome) → fits phase (Inform from to id b o) ≡ false
fits_no_outcome Voting from to id b o = refl
fits_no_outcome Recovering from to id b o = refl
fits_no_outcome (Accepting s) from to id b o = refl
fits_no_outcome (Committing s) from to id b o = refl
fits_no_outcome (Executing s) from to id b o = refl

counts_no_outcome : (layout : Layout) (a : Attempt) (from to : Actor) (id : TxnId) (b : Ballot) (o : Outcome) → counts layout a (Inform from to id b o) ≡ false
counts_no_outcome layout a from to id b o = and_left _ _ (and_left _ _ (fits_no_outcome a.phase from to id b o))

pub told_stays : (layout : Layout) (own : Actor) (x : TxnId) (a : Attempt) (from to : Actor) (id : TxnId) (b : Ballot) (o : Outcome)
    → reaction layout own x a (Inform from to id b o) ≡ stay a
told_stays layout own x a from to id b o = by (ballot_eq b a.ballot)
  where
    within : (t : Bool) → t ≡ false → when t (λ c. after_answer layout own x (with_answer c (Inform from to id b o)) c.phase) a ≡ stay a
    within true e = absurd (true≢false e)
    within false e = refl

    by : (t : Bool) → when t (λ c. when (counts layout c (Inform from to id b o)) (λ d. after_answer layout own x (with_answer d (Inform from to id b o)) d.phase) c) a ≡ stay a
    by false = refl
    by true = within (counts layout a (Inform from to id b o)) (counts_no_outcome layout a from to id b o)

-- ---- the reply tells no outcome

pub reply_alone : (is_open : Bool) (id y : TxnId) (reply : Reply) → is_answered y (outcomes_of (cond is_open (ReplyNote id reply ∷ []) [])) ≡ false
reply_alone true id y reply = refl
reply_alone false id y reply = refl

one_replied : (is_open : Bool) (note : Note) → outcomes_of (replied is_open note) ≡ outcomes_in note
one_replied true (OutcomeNote id reply) = refl
one_replied false (OutcomeNote id reply) = refl
one_replied is_open (BeginNote id) = refl
one_replied is_open (RecoverNote id ballot) = refl
one_replied is_open (BlockedNote id ballot by) = refl
one_replied is_open (EndedNote id ballot by) = refl
one_replied is_open (Decide id t path deps) = refl
one_replied is_open (ReplyNote id reply) = refl

pub replied_outcomes : (is_open : Bool) (notes : List Note) → outcomes_of (flat_map (replied is_open) notes) ≡ outcomes_of notes
replied_outcomes is_open [] = refl
replied_outcomes is_open (note ∷ notes) =
    flat_map-append outcomes_in (replied is_open note) (flat_map (replied is_open) notes)
    ∙ ap (λ list. list ++ outcomes_of (flat_map (replied is_open) notes)) (one_replied is_open note)
    ∙ ap (λ list. outcomes_in note ++ list) (replied_outcomes is_open notes)

-- an outcome that is noted stands among the first or the later notes
pub answered_cases : (notes more : List Note) (x : TxnId) → Answered (notes ++ more) x → Answered notes x ⊎ Answered more x
answered_cases notes more x h =
    or_cases (is_answered x (outcomes_of notes)) (is_answered x (outcomes_of more))
    (sym (list_any-append (λ (a : Answer). id_eq a.id x) (outcomes_of notes) (outcomes_of more)) ∙ ap (is_answered x) (sym (flat_map-append outcomes_in notes more)) ∙ h)

pub store_is_silent : (layout : Layout) (own : Actor) (past : List Deed) (act : Act) → (store_emits layout own (taken_from past) act).notes ≡ []
store_is_silent layout own past (Takes m) = refl
store_is_silent layout own past (Begins txn body) = refl
store_is_silent layout own past _ = refl
