-- A step that follows a plan answers by the rules.
use Rattle.std.proofs.Common.{◌≡◌, ℕ, Bool, true, max, List, [], ◌∷◌, ◌++◌, Option, None, Some, refl, sym, ap, ◌∙◌, subst, arith}
use Rattle.std.specs.Option.{option_map}
use Rattle.acc_stamp.specs.declared.stamps.Stamp.{Stamp}
use Rattle.acc_stamp.specs.declared.stamps.TxnId.{TxnId}
use Rattle.acc_stamp.specs.Actor.{shard_of}
use Rattle.acc_topology.specs.Layout.{Layout}
use Rattle.acc_topology.specs.Keys.{share_of}
use Rattle.acc_value.specs.declared.key.Key.{Key}
use Rattle.acc_txn.specs.declared.parts.BodyParts.{BodyParts}
use Rattle.acc_txn.specs.Uses.{footprint_of}
use Rattle.acc_message.specs.declared.message.Message.{Message}
use Rattle.acc_message.specs.Fields.{id_of, top_of}
use Rattle.acc_message.specs.Taken.{Taken, taking, body_in}
use Rattle.acc_message.specs.VoteRule.{times_in}
use Rattle.acc_message.specs.Opening.{may_open, cells_at}
use Rattle.acc_message.specs.StoreRules.{replay, store_answer, released as released_by_rules}
use Rattle.acc_record.specs.declared.record.Record.{Record}
use Rattle.acc_record.specs.declared.shelf.Shelf.{Shelf}
use Rattle.acc_record.specs.Shelf.{record_at, cell_at}
use Rattle.acc_record.specs.Stands.{StandsFor, AnswersByRules}
use Rattle.acc_record.specs.Steps.{record_from, record_after, stamps_in, stamps_told, NotesTold, QuietStep}
use Rattle.acc_record.specs.Learning.{body_of, known_or_fresh, share_at, IsLearnt}
use Rattle.acc_actor_laws.proofs.OpeningFacts.{some_is}
use Rattle.acc_actor_laws.proofs.TakenAlone.{taken_alone}
use Rattle.acc_record.specs.LearntAs.{IsLearntAs}
use Rattle.acc_record.proofs.After.{after_unanswered}
use Rattle.acc_record.proofs.Learnt.{Tells, learnt_as, quiet_from_learnt}
use Rattle.acc_record.proofs.Telling.{tells_time}
use Rattle.acc_opening.specs.Plan.{IsTaking}
use Rattle.acc_opening.proofs.PlanLaw.{plan_is}
use Rattle.acc_opening.specs.Lookup.{lookup}
use Rattle.acc_execute.specs.Own.{with_message, IsOwn}
use Rattle.acc_execute.proofs.Joined.{sends, writes}
use Rattle.acc_execute.specs.Opened.{executed, OpeningStep}
use Rattle.acc_execute.proofs.Answered.{opening_grants}
use Rattle.acc_execute.proofs.OpenedTaking.{begun_here, taking as taking_is}
use Rattle.acc_execute.proofs.OpeningSteps.{opening_stands}
use Rattle.acc_execute.specs.Executed.{IsExecuted}
use Rattle.acc_execute.proofs.Waiting.{waits_now}

begins_by : (before : Option Record) (x : TxnId) (body : BodyParts) → record_from before x (Some body) ≡ Some (known_or_fresh before x body)
begins_by None x body = refl
begins_by (Some r) x body = refl

raised : (g t : ℕ) → max g t ≡ max (max t 0) g
raised g t = omega arith

raised_alone : (g t : ℕ) → max g t ≡ max t g
raised_alone g t = omega arith

-- the own record of a message that brings this body
module _ (old : Shelf) (m : Message) (body : BodyParts) where
  abbrev pub begins : Record
  begins = known_or_fresh (record_at old.records (id_of m)) (id_of m) body

  pub from_body : body_in m ≡ Some body → record_from (record_at old.records (id_of m)) (id_of m) (body_in m) ≡ Some begins
  from_body brings = ap (record_from (record_at old.records (id_of m)) (id_of m)) brings ∙ begins_by (record_at old.records (id_of m)) (id_of m) body

  pub is_own : (own : Record) → body_in m ≡ Some body → own ≡ with_message begins m → IsOwn old.records m own
  is_own own brings owned = record { begins = begins; from = from_body brings; is = owned }

-- what a message of this kind says
pub record Brings (layout : Layout) (old : Shelf) (m : Message) (body : BodyParts) (share : List (Key × Bool)) (t : Stamp) (top : ℕ) (first : List Message) (own : Record) : Type 0 where
  pub opening : may_open m ≡ true
  pub brings : body_in m ≡ Some body
  pub times : times_in (id_of m) m ≡ t ∷ []
  pub shared : share ≡ share_of layout (footprint_of (body_of (record_at old.records (id_of m)) body)) (shard_of old.actor)
  pub raises : top ≡ top_of m
  pub owned : own ≡ with_message (begins old m body) m
  pub answers :
      (messages : List Message) → StandsFor layout old (replay layout old.actor messages)
      → first ++ released_by_rules layout old.actor (replay layout old.actor messages) m ≡ store_answer layout old.actor (replay layout old.actor messages) m

module _ (layout : Layout) (old new : Shelf) (m : Message) (body : BodyParts) (share : List (Key × Bool)) (t : Stamp) (top : ℕ) (first sent : List Message)
    (own : Record) (b : Brings layout old m body share t top first own) (e : IsExecuted layout old new own (record { body = body; t = t; top = top }) first sent) where
  abbrev x : TxnId
  x = id_of m

  abbrev r : Record
  r = begins old m body

  abbrev shard : ℕ
  shard = shard_of old.actor

  from : record_from (record_at old.records x) x (body_in m) ≡ Some r
  from = from_body old m body b.brings

  own_is : IsOwn old.records m own
  own_is = is_own old m body own b.brings b.owned

  answered : (messages : List Message) → StandsFor layout old (replay layout old.actor messages)
      → sent ≡ store_answer layout old.actor (replay layout old.actor messages) m
  answered messages stands =
      e.sends ∙ ap (λ list. first ++ list) (sends layout messages m old own stands own_is e.changes e.plan e.released e.releases) ∙ b.answers messages stands

  module _ (messages : List Message) (stands : StandsFor layout old (replay layout old.actor messages)) where
    abbrev past : List Taken
    past = replay layout old.actor messages

    abbrev step : Taken
    step = record { message = m; sent = store_answer layout old.actor past m }

    own_id : own.id ≡ x
    own_id =
        ap (λ (q : Record). q.id) b.owned
        ∙ ap (λ (q : Record). q.id) (begun_here layout old messages stands m r from step.sent).is

    unchanged : record_after r m [] ≡ r
    unchanged = after_unanswered r m [] (opening_grants x m [] b.opening) refl

    told : Tells x (record_at old.records x) (stamps_told (record_after r m []) m) (Some t)
    told =
        subst (λ (q : Record). Tells x (record_at old.records x) (stamps_told q m) (Some t)) (sym unchanged)
        (subst (λ ts. Tells x (record_at old.records x) ((x.0 ∷ ts) ++ stamps_in r.vote) (Some t)) (sym b.times)
        (tells_time x body (record_at old.records x) t))

    learnt : IsLearnt old e.learnt x body share (Some t) top
    learnt =
        subst (λ (s : List (Key × Bool)). IsLearnt old e.learnt x body s (Some t) top) (sym b.shared)
        (subst (λ z. IsLearnt old e.learnt z body (share_at layout old z body) (Some t) top) own_id e.learns)

    quiet : QuietStep layout old e.learnt m []
    quiet =
        quiet_from_learnt layout old e.learnt m [] body share (Some t) top b.brings b.shared
        (ap (max old.greatest) b.raises ∙ raised old.greatest (top_of m)) told
        (subst (λ (q : Record). IsLearntAs old e.learnt x share (Some t) top q) (sym unchanged)
        (learnt_as old e.learnt x body share (Some t) top learnt))

    noted : NotesTold layout shard m (record_at old.records x) r old.index new.index
    noted =
        subst (λ index. NotesTold layout shard m (record_at old.records x) r old.index index) (sym e.index)
        (subst (λ (q : Record). NotesTold layout shard m (record_at old.records x) q old.index e.learnt.index) unchanged notes_at)
      where
        begins_same : quiet.begins ≡ r
        begins_same = some_is quiet.begins r (sym quiet.from ∙ from)

        notes_at : NotesTold layout shard m (record_at old.records x) (record_after r m []) old.index e.learnt.index
        notes_at = subst (λ (q : Record). NotesTold layout shard m (record_at old.records x) (record_after q m []) old.index e.learnt.index) begins_same quiet.notes

    opening_step : OpeningStep layout old new m e.changes
    opening_step =
        record {
          actor = e.actor;
          begins = r;
          from = from;
          records = λ y. e.records y ∙ ap (λ (q : Record). option_map (executed e.changes y) (lookup old.records q y)) b.owned;
          notes = record { kept = noted.kept; only = noted.only; told = noted.told };
          waits = waits_now shard (lookup old.records own) e.changes (record_at new.records) e.records new.waits e.waiting;
          greatest = e.greatest ∙ learnt.greatest ∙ ap (max old.greatest) b.raises ∙ raised_alone old.greatest (top_of m);
        }

    taking_here : IsTaking shard step past (lookup old.records own)
    taking_here = subst (λ (q : Record). IsTaking shard step past (lookup old.records q)) (sym b.owned) (taking_is layout old messages stands m r from step.sent)

    cells_are : (key : Key) → cell_at new.cells key ≡ cells_at layout shard (step ∷ past) key
    cells_are key =
        e.cells key ∙ writes layout messages m old own stands own_is e.changes e.plan e.released e.releases key
        ∙ ap (λ cells. cells key) ((taken_alone (taking m past) (step ∷ past) refl).cells_are layout shard)

    stood : StandsFor layout new (step ∷ past)
    stood =
        opening_stands layout old new messages m e.changes b.opening stands
        (plan_is shard step past (lookup old.records own) taking_here e.changes e.plan) opening_step cells_are

  pub answers_by_rules : AnswersByRules layout old new m sent
  answers_by_rules = record { actor = e.actor; answers = answered; stands = stood }
