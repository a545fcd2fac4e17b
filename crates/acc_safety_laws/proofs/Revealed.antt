-- What a view reveals of a rival that its store knows.
use Rattle.std.proofs.Common.{◌≡◌, ℕ, true, false, not, List, [], ◌∷◌, Option, None, Some, is_none, map, filter, refl, sym, ◌∙◌, ap, subst, ⊎_elim}
use Rattle.std.specs.List.{cons_option}
use Rattle.std.proofs.lemmas.Bool.{true≢false, and_from, or_left, or_right, not_from_false}
use Rattle.acc_stamp.specs.declared.stamps.TxnId.{TxnId}
use Rattle.acc_stamp.specs.declared.stamps.Ballot.{Ballot}
use Rattle.acc_stamp.specs.declared.actors.Actor.{Actor}
use Rattle.acc_stamp.specs.Actor.{shard_of}
use Rattle.acc_stamp.specs.Stamp.{id_eq, id_lt, stamp_lt}
use Rattle.acc_stamp.specs.Rising.{id_among}
use Rattle.acc_stamp.proofs.Order.{id_order, eq_itself}
use Rattle.acc_stamp.proofs.Rising.{is_among-union}
use Rattle.acc_topology.specs.Layout.{Layout}
use Rattle.acc_deps.specs.declared.records.Accepted.{Accepted}
use Rattle.acc_deps.specs.declared.records.Settled.{Settled}
use Rattle.acc_deps.specs.declared.records.View.{View}
use Rattle.acc_deps.specs.Deps.{deps_has}
use Rattle.acc_deps.specs.Records.{waits_of}
use Rattle.acc_txn.specs.declared.parts.BodyParts.{BodyParts}
use Rattle.acc_message.specs.declared.message.Message.{Message}
use Rattle.acc_message.specs.declared.message.Message.TheVariants.{PreAccept, PreAcceptOk, Accept, AcceptOk, Commit, CommitOk, Stable, ReadOk, Apply, Recover, RecoverOk, Nack, Decided, Inform}
use Rattle.acc_message.specs.Fields.{from_of, to_of, id_of, ballot_of}
use Rattle.acc_message.specs.Taken.{Taken, taking, Heard, rivals}
use Rattle.acc_message.specs.BallotRules.{is_recover_ok, accepted_of, stable_of}
use Rattle.acc_message.specs.Evidence.{accepted_without, stable_without, supersedes, accepted_above, is_awaited}
use Rattle.acc_message.specs.RecoveryDecision.{view_in, views_in}
use Rattle.acc_message.specs.declared.item.Item.{Item}
use Rattle.acc_message.specs.Run.{Cluster, taken_of, EachStands}
use Rattle.acc_safety.specs.Places.{IsIn, First, Later, StandsAt}
use Rattle.acc_safety.specs.Polls.{IsBody, IsAnswer}
use Rattle.acc_safety.proofs.Bridge.{each_answers}
use Rattle.acc_safety.specs.StoreFactStatements.{IsKnownRival}
use Rattle.acc_safety.proofs.PlaceOrder.{any_from, filter-IsIn, map-IsIn, IsIn-cases}
use Rattle.acc_actor_laws.proofs.Standing.{not_none}
use Rattle.acc_actor_laws.proofs.OpeningFacts.{some_is}
use Rattle.acc_safety_laws.proofs.Knowing.{step_answers, step_sends}
use Rattle.acc_safety_laws.proofs.Sent.{SentView, sent_view}
use Rattle.acc_safety_laws.proofs.Unheard.{body_there}
use Rattle.acc_safety_laws.proofs.Named.{rival_is_in}

-- ---- the view of an answer

pub record HasView (m : Message) : Type 0 where
  pub view : View
  pub is : m ≡ RecoverOk (from_of m) (to_of m) (id_of m) (ballot_of m) view
  pub in_answer : view_in m ≡ Some view

pub has_view : (m : Message) → is_recover_ok m ≡ true → HasView m
has_view (RecoverOk from to id ballot view) h = record { view = view; is = refl; in_answer = refl }
has_view (PreAccept from to id ballot body) h = absurd (true≢false (sym h))
has_view (PreAcceptOk from to id ballot vote deps) h = absurd (true≢false (sym h))
has_view (Accept from to id ballot body t deps) h = absurd (true≢false (sym h))
has_view (AcceptOk from to id ballot deps) h = absurd (true≢false (sym h))
has_view (Commit from to id ballot body t deps) h = absurd (true≢false (sym h))
has_view (CommitOk from to id ballot) h = absurd (true≢false (sym h))
has_view (Stable from to id ballot body t deps) h = absurd (true≢false (sym h))
has_view (ReadOk from to id ballot answer) h = absurd (true≢false (sym h))
has_view (Apply from to id ballot body t deps outcome) h = absurd (true≢false (sym h))
has_view (Recover from to id ballot body) h = absurd (true≢false (sym h))
has_view (Nack from to id ballot promised) h = absurd (true≢false (sym h))
has_view (Decided from to id ballot t deps) h = absurd (true≢false (sym h))
has_view (Inform from to id ballot outcome) h = absurd (true≢false (sym h))

later_option : (view : View) (o : Option View) (views : List View) → IsIn view views → IsIn view (cons_option o views)
later_option view None views h = h
later_option view (Some v) views h = Later view v views h

pub views_in-IsIn : (view : View) (m : Message) (answers : List Message) → IsIn m answers → view_in m ≡ Some view → IsIn view (views_in answers)
views_in-IsIn view m answers (First a rest) e = subst (λ o. IsIn view (cons_option o (views_in rest))) (sym e) (First view (views_in rest))
views_in-IsIn view m answers (Later a b rest there) e = later_option view (view_in b) (views_in rest) (views_in-IsIn view a rest there e)

-- the answer with a view
pub record FromAnswer (answers : List Message) (view : View) : Type 0 where
  pub message : Message
  pub there : IsIn message answers
  pub is : message ≡ RecoverOk (from_of message) (to_of message) (id_of message) (ballot_of message) view

view_in-is : (m : Message) (view : View) → view_in m ≡ Some view → m ≡ RecoverOk (from_of m) (to_of m) (id_of m) (ballot_of m) view
view_in-is (RecoverOk from to id ballot shown) view e = ap (RecoverOk from to id ballot) (some_is shown view e)
view_in-is _ view e = absurd (not_none view e)

from_by : (view : View) (m : Message) (rest : List Message) (o : Option View) → view_in m ≡ o → IsIn view (cons_option o (views_in rest))
    → (IsIn view (views_in rest) → FromAnswer rest view) → FromAnswer (m ∷ rest) view
from_by view m rest None is h more =
    let f = more h in
    record { message = f.message; there = Later f.message m rest f.there; is = f.is }
from_by view m rest (Some v) is h more =
    ⊎_elim (λ same. record { message = m; there = First m rest; is = view_in-is m view (is ∙ ap Some (sym same)) })
    (λ later.
    let f = more later in
    record { message = f.message; there = Later f.message m rest f.there; is = f.is })
    (IsIn-cases view v (views_in rest) h)

pub view_from : (answers : List Message) (view : View) → IsIn view (views_in answers) → FromAnswer answers view
view_from [] view h = elim h [ ]
view_from (m ∷ rest) view h = from_by view m rest (view_in m) refl h (view_from rest view)

-- what one view waits for all do
pub waits_of-has : (x : TxnId) (view : View) (views : List View) → IsIn view views → id_among x view.waits ≡ true → id_among x (waits_of views) ≡ true
waits_of-has x view views (First a rest) h = is_among-union id_order x (waits_of rest) a.waits ∙ or_right (id_among x (waits_of rest)) (id_among x a.waits) h
waits_of-has x view views (Later a b rest there) h =
    is_among-union id_order x (waits_of rest) b.waits ∙ or_left (id_among x (waits_of rest)) (id_among x b.waits) (waits_of-has x a rest there h)

-- ---- a known rival in a view

module _ (layout : Layout) (own : Actor) (past : List Taken) (m : Message) (x y : TxnId) (b : Ballot) (body : BodyParts) (view : View) (s : SentView layout own past m y b view) (r : IsKnownRival layout own (taking m past) x body y s.counting) where
  pub rival_supersedes : supersedes (shard_of own) past y x ≡ true → view.superseded ≡ true
  rival_supersedes h =
      ap (λ (v : View). v.superseded) s.view_is
      ∙ any_from (λ (k : Heard). supersedes (shard_of own) past y k.id) (record { id = x; body = body }) (rivals layout (shard_of own) (taking m past) y s.counting)
      (rival_is_in layout own (taking m past) x body y s.counting r) h

  pub rival_is_awaited : is_awaited past y x ≡ true → id_among x view.waits ≡ true
  rival_is_awaited h =
      ap (λ (v : View). id_among x v.waits) s.view_is
      ∙ is_among-union id_order x [] (map (λ (k : Heard). k.id) (filter (λ (k : Heard). is_awaited past y k.id) (rivals layout (shard_of own) (taking m past) y s.counting)))
      ∙ any_from (λ z. id_eq z x) x (map (λ (k : Heard). k.id) (filter (λ (k : Heard). is_awaited past y k.id) (rivals layout (shard_of own) (taking m past) y s.counting)))
      (map-IsIn (λ (k : Heard). k.id) (record { id = x; body = body }) (filter (λ (k : Heard). is_awaited past y k.id) (rivals layout (shard_of own) (taking m past) y s.counting))
      (filter-IsIn (λ (k : Heard). is_awaited past y k.id) (record { id = x; body = body }) (rivals layout (shard_of own) (taking m past) y s.counting)
      (rival_is_in layout own (taking m past) x body y s.counting r) h))
      (eq_itself id_order x)

-- ---- when a rival supersedes or is awaited

pub superseded_by_accepted : (shard : ℕ) (past : List Taken) (x y : TxnId) (a : Accepted) → accepted_of past x ≡ Some a → id_lt y x ≡ true
    → deps_has a.deps shard y ≡ false → supersedes shard past y x ≡ true
superseded_by_accepted shard past x y a is younger lacks =
    or_left (accepted_without shard y x (accepted_of past x)) (stable_without shard y (stable_of past x))
    (ap (accepted_without shard y x) is ∙ and_from (id_lt y x) (not (deps_has a.deps shard y)) younger (not_from_false (deps_has a.deps shard y) lacks))

pub superseded_by_stable : (shard : ℕ) (past : List Taken) (x y : TxnId) (s : Settled) → stable_of past x ≡ Some s → stamp_lt y.0 s.t ≡ true
    → deps_has s.deps shard y ≡ false → supersedes shard past y x ≡ true
superseded_by_stable shard past x y s is above lacks =
    or_right (accepted_without shard y x (accepted_of past x)) (stable_without shard y (stable_of past x))
    (ap (stable_without shard y) is ∙ and_from (stamp_lt y.0 s.t) (not (deps_has s.deps shard y)) above (not_from_false (deps_has s.deps shard y) lacks))

pub awaited_by_accepted : (past : List Taken) (x y : TxnId) (a : Accepted) → accepted_of past x ≡ Some a → id_lt x y ≡ true → stamp_lt y.0 a.t ≡ true
    → stable_of past x ≡ None → is_awaited past y x ≡ true
awaited_by_accepted past x y a is older above unstable =
    and_from (accepted_above y x (accepted_of past x)) (is_none (stable_of past x))
    (ap (accepted_above y x) is ∙ and_from (id_lt x y) (stamp_lt y.0 a.t) older above)
    (ap is_none unstable)

-- ---- a view in its store's history

module _ (cluster : Cluster) (items : List Item) (h : EachStands cluster items) where
  pub record ViewThere (a : Actor) (y : TxnId) (theirs : BodyParts) (b : Ballot) (view : View) : Type 0 where
    pub step : Taken
    pub past : List Taken
    pub at : StandsAt step past (taken_of cluster a items)
    pub answer : SentView cluster.layout a past step.message y b view
    pub counting_is : answer.counting ≡ theirs

  pub view_there : (y : TxnId) (theirs : BodyParts) (b : Ballot) (m : Message) (view : View) → IsBody cluster items y theirs
      → IsAnswer cluster items y theirs b is_recover_ok m → m ≡ RecoverOk (from_of m) (to_of m) (id_of m) (ballot_of m) view
      → ViewThere (from_of m) y theirs b view
  view_there y theirs b m view is a m_is =
      record {
        step = a.place.step;
        past = a.place.past;
        at = a.place.at;
        answer = s;
        counting_is = body_there cluster items h (from_of m) a.place.step a.place.past y s.counting theirs a.place.at s.known is;
      }
    where
      sent : IsIn (RecoverOk (from_of m) (to_of m) y b view) a.place.step.sent
      sent =
          subst (λ z. IsIn z a.place.step.sent)
          (m_is ∙ ap (λ z. RecoverOk (from_of m) (to_of m) z (ballot_of m) view) a.about ∙ ap (λ z. RecoverOk (from_of m) (to_of m) y z view) a.of_ballot)
          a.place.sent

      s : SentView cluster.layout (from_of m) a.place.past a.place.step.message y b view
      s =
          sent_view cluster.layout (from_of m) a.place.past a.place.step.message (from_of m) (to_of m) y b view
          (step_sends cluster.layout (from_of m) a.place.step a.place.past (RecoverOk (from_of m) (to_of m) y b view)
          (step_answers cluster.layout (from_of m) a.place.step a.place.past (taken_of cluster (from_of m) items)
          (each_answers cluster (from_of m) items h a.place.is_store) a.place.at)
          sent)
