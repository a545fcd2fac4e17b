-- A store that took a Stable about a transaction, with whatever ballot, and has opened it, has answered it since.
use Rattle.std.proofs.Common.{◌≡◌, true, false, List, ◌∷◌, refl, sym, ◌∙◌, ap, subst, ⊎_elim}
use Rattle.std.proofs.lemmas.Bool.{cases_Bool}
use Rattle.acc_stamp.specs.declared.stamps.Stamp.{Stamp}
use Rattle.acc_stamp.specs.declared.stamps.TxnId.{TxnId}
use Rattle.acc_stamp.specs.declared.stamps.Ballot.{Ballot}
use Rattle.acc_stamp.specs.declared.actors.Actor.{Actor}
use Rattle.acc_stamp.specs.Actor.{shard_of, home_of}
use Rattle.acc_stamp.specs.Rising.{id_among}
use Rattle.acc_topology.specs.Layout.{Layout}
use Rattle.acc_deps.specs.declared.shards.ShardDeps.{ShardDeps}
use Rattle.acc_txn.specs.declared.parts.BodyParts.{BodyParts}
use Rattle.acc_message.specs.declared.answer.ReadAnswer.{ReadAnswer}
use Rattle.acc_message.specs.declared.message.Message.{Message}
use Rattle.acc_message.specs.declared.message.Message.TheVariants.{Stable, ReadOk}
use Rattle.acc_message.specs.Taken.{Taken, taking}
use Rattle.acc_message.specs.Opening.{is_opened}
use Rattle.acc_message.specs.StoreRules.{store_answer}
use Rattle.acc_actor_laws.proofs.TakenAlone.{taken_alone}
use Rattle.acc_safety.specs.Places.{IsIn, StandsAt, Here, Back, IsPast, Whole, Behind}
use Rattle.acc_safety.specs.Histories.{EachAnswers}
use Rattle.acc_safety.proofs.PlaceOrder.{StandsAt-IsPast}
use Rattle.acc_calm.proofs.Delivered.{TookStep}
use Rattle.acc_calm.proofs.ReadsAnswered.{bare_took, sent_at_once, sent_on_opening}
use Rattle.acc_delivered.specs.Laws.{ReadWasSent, StablesAreAnswered}

module _ (layout : Layout) (own : Actor) (x : TxnId) (b : Ballot) (body : BodyParts) (t : Stamp) (deps : List ShardDeps) (from to : Actor) where
  abbrev request : Message
  request = Stable from to x b body t deps

  Answers : List Taken → Message → Type 0
  Answers past m = (answer : ReadAnswer) × IsIn (ReadOk own (home_of x b) x b answer) (store_answer layout own past m)

  opening_now : (past : List Taken) (step : Taken) → TookStep request (step ∷ past) → is_opened (shard_of own) (step ∷ past) x ≡ true
      → is_opened (shard_of own) past x ≡ false → Answers past step.message
  unfolding Answers
  opening_now past step took opened closed =
      sent_on_opening layout own x b from to body t deps past step.message (bare_took layout own x b from to body t deps step past took)
      (ap (id_among x) (sym ((taken_alone (step ∷ past) (taking step.message past) refl).opened_is (shard_of own))) ∙ opened) closed

  answered_in : (step first : Taken) (past before history : List Taken) → StandsAt first before history → IsPast (step ∷ past) (first ∷ before)
      → first.sent ≡ store_answer layout own before first.message → Answers before first.message → ReadWasSent own step past history x b
  unfolding Answers
  answered_in step first past before history at since sent_is s =
      record {
        reading = first;
        before = before;
        at = at;
        since = since;
        answer = s.0;
        sent = subst (IsIn (ReadOk own (home_of x b) x b s.0)) (sym sent_is) s.1;
      }

  sent_back : (step newer : Taken) (past history : List Taken) → ReadWasSent own step past history x b → ReadWasSent own step past (newer ∷ history) x b
  sent_back step newer past history r =
      record {
        reading = r.reading;
        before = r.before;
        at = Back r.reading newer r.before history r.at;
        since = r.since;
        answer = r.answer;
        sent = r.sent;
      }

  answered_since : (step : Taken) (past history : List Taken) → EachAnswers layout own history → StandsAt step past history → step.message ≡ request
      → is_opened (shard_of own) history x ≡ true → ReadWasSent own step past history x b
  unfolding Answers
  answered_since step past history each (Here s rest) is opened =
      answered_in s s rest rest (s ∷ rest) (Here s rest) (Whole (s ∷ rest)) each.0
      (⊎_elim (λ before. subst (Answers rest) (sym is) (sent_at_once layout own x b from to body t deps rest before))
      (λ closed. opening_now rest s (record { step = s; past = rest; at = Here s rest; message_is = is }) opened closed)
      (cases_Bool (is_opened (shard_of own) rest x)))
  answered_since step past history each (Back s newer rest others there) is opened =
      ⊎_elim (λ before. sent_back s newer rest others (answered_since s rest others each.1 there is before))
      (λ closed.
      answered_in s newer rest others (newer ∷ others) (Here newer others) (Behind newer (s ∷ rest) others (StandsAt-IsPast s rest others there)) each.0
      (opening_now others newer (record { step = s; past = rest; at = Back s newer rest others there; message_is = is }) opened closed))
      (cases_Bool (is_opened (shard_of own) others x))

pub stables_are_answered : (layout : Layout) (own : Actor) (history : List Taken) → EachAnswers layout own history → StablesAreAnswered layout own history
stables_are_answered layout own history each x b body t deps from to step past at is opened =
    answered_since layout own x b body t deps from to step past history each at is opened
