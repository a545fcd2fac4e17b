-- What is planned for a Recover answers it by the rules.
use Rattle.std.proofs.Common.{◌≡◌, ℕ, max, Bool, true, false, cond, List, [], ◌∷◌, Option, None, Some, Result, Ok, Err, IfOk, refl, sym, ◌∙◌, ap, subst, arith}
use Rattle.acc_stamp.specs.declared.stamps.TxnId.{TxnId}
use Rattle.acc_stamp.specs.declared.stamps.Ballot.{Ballot}
use Rattle.acc_stamp.specs.declared.actors.Actor.{Actor}
use Rattle.acc_stamp.specs.Actor.{home_of}
use Rattle.acc_topology.specs.Layout.{Layout}
use Rattle.acc_deps.specs.declared.records.View.{View}
use Rattle.acc_value.specs.declared.key.Key.{Key}
use Rattle.acc_txn.specs.declared.parts.BodyParts.{BodyParts}
use Rattle.acc_message.specs.declared.message.Message.{Message}
use Rattle.acc_message.specs.declared.message.Message.TheVariants.{Recover}
use Rattle.acc_message.specs.Fields.{top_of}
use Rattle.acc_message.specs.VoteRule.{drawn_as}
use Rattle.acc_message.specs.StoreRules.{store_answer, replay}
use Rattle.acc_record.specs.declared.change.Change.{Change}
use Rattle.acc_record.specs.declared.plan.QuietParts.{QuietParts}
use Rattle.acc_record.specs.declared.record.Record.{Record}
use Rattle.acc_record.specs.declared.shelf.Shelf.{Shelf}
use Rattle.acc_record.specs.Shelf.{record_at}
use Rattle.acc_record.specs.Stands.{StandsFor}
use Rattle.acc_record.specs.Changes.{changed}
use Rattle.acc_record.specs.Planned.{IsPlannedAs, IsPlanned}
use Rattle.acc_record.specs.Steps.{stamps_told, QuietStep}
use Rattle.acc_record.specs.Learning.{known_or_fresh, new_vote_at}
use Rattle.acc_record.specs.LearntAs.{IsLearntAs}
use Rattle.acc_record.proofs.Planned.{planned}
use Rattle.acc_record.proofs.Learnt.{Tells, quiet_from_learnt}
use Rattle.acc_record.proofs.After.{after_nack, after_recover}
use Rattle.acc_record.proofs.Telling.{tells_nothing, tells_vote}
use Rattle.acc_reveal.specs.Revealed.{promised_in, view_at, is_allowed, revealed, refused, answer_at, top_with, share_at, stamp_if, top_if, change_if}
use Rattle.acc_reveal.proofs.Revealing.{answer_is}

raised : (old top drawn : ℕ) → max old (max top drawn) ≡ max (max top (max drawn 0)) old
raised old top drawn = omega arith

raised_plain : (old top : ℕ) → max old top ≡ max (max top (max 0 0)) old
raised_plain old top = omega arith

module _ (layout : Layout) (old new : Shelf) (from to : Actor) (x : TxnId) (b : Ballot) (body : BodyParts) where
  abbrev m : Message
  m = Recover from to x b body

  abbrev share : List (Key × Bool)
  share = share_at layout old x body

  abbrev view : View
  view = view_at old x share (top_of m)

  abbrev before : Option Record
  before = record_at old.records x

  abbrev begins : Record
  begins = known_or_fresh before x body

  -- the step, where the ballot is allowed or not
  abbrev QuietBy : Bool → Type 0
  QuietBy c =
      IsLearntAs old new x share (stamp_if c view) (top_if c old (top_of m) view) (changed (change_if c b view) begins)
      → QuietStep layout old new m (cond c (revealed old x b view) (refused old x b) ∷ [])

  quiet_granted : QuietBy true
  quiet_granted learnt =
      let sent : List Message = revealed old x b view ∷ [] in
      let is = after_recover begins from to old.actor (home_of x b) x b body view in
      quiet_from_learnt layout old new m sent body share (Some view.vote) (top_with old (top_of m) view.vote) refl refl
      (raised old.greatest (top_of m) (drawn_as old.actor.0 view.vote))
      (subst (λ r. Tells x before (stamps_told r m) (Some view.vote)) (sym is) (tells_vote x body before (new_vote_at old x share (top_of m))))
      (subst (IsLearntAs old new x share (Some view.vote) (top_with old (top_of m) view.vote)) (sym is) learnt)

  quiet_refused : QuietBy false
  quiet_refused learnt =
      let sent : List Message = refused old x b ∷ [] in
      let is = after_nack begins m old.actor (home_of x b) x b (promised_in before) in
      quiet_from_learnt layout old new m sent body share None (top_of m) refl refl (raised_plain old.greatest (top_of m))
      (subst (λ r. Tells x before (stamps_told r m) None) (sym is) (tells_nothing x body before))
      (subst (IsLearntAs old new x share None (top_of m)) (sym is) learnt)

  quiet_by : (c : Bool) → QuietBy c
  quiet_by true = quiet_granted
  quiet_by false = quiet_refused

-- ---- the result of the call

module _ (layout : Layout) (shelf : Shelf) (m : Message) (from to : Actor) (x : TxnId) (b : Ballot) (body : BodyParts) (share : List (Key × Bool)) (top : ℕ)
    (is : m ≡ Recover from to x b body) (shared : share ≡ share_at layout shelf x body) (raises : top ≡ top_of m) where
  abbrev own : Message
  own = Recover from to x b body

  height : top ≡ top_of own
  height = raises ∙ ap top_of is

  abbrev view_here : List (Key × Bool) → ℕ → View
  view_here keys n = view_at shelf x keys n

  abbrev Learns : Shelf → List (Key × Bool) → ℕ → Change → Type 0
  Learns new keys n c =
      IsLearntAs shelf new x keys (stamp_if (is_allowed shelf x b) (view_here keys n)) (top_if (is_allowed shelf x b) shelf n (view_here keys n))
      (changed c (known_or_fresh (record_at shelf.records x) x body))

  abbrev Quiet : Shelf → List (Key × Bool) → ℕ → Type 0
  Quiet new keys n =
      Learns new keys n (change_if (is_allowed shelf x b) b (view_here keys n)) → QuietStep layout shelf new own (answer_at shelf x b keys n ∷ [])

  quiet_here : (new : Shelf) → Quiet new share top
  quiet_here new =
      subst (λ keys. Quiet new keys top) (sym shared)
      (subst (Quiet new (share_at layout shelf x body)) (sym height) (quiet_by layout shelf new from to x b body (is_allowed shelf x b)))

  answers_here : (messages : List Message) → StandsFor layout shelf (replay layout shelf.actor messages)
      → answer_at shelf x b share top ∷ [] ≡ store_answer layout shelf.actor (replay layout shelf.actor messages) own
  answers_here messages stands =
      (λ i. answer_at shelf x b (shared i) (height i) ∷ []) ∙ answer_is layout shelf messages stands own body refl b

  pub prepared : {E : Type 0} (result : Result QuietParts E)
      → IfOk result (IsPlannedAs shelf x body share (stamp_if (is_allowed shelf x b) (view_here share top)) (top_if (is_allowed shelf x b) shelf top (view_here share top)))
      → IfOk result (λ plan. plan.change ≡ change_if (is_allowed shelf x b) b (view_here share top))
      → IfOk result (λ plan. plan.sent ≡ answer_at shelf x b share top ∷ []) → IfOk result (IsPlanned layout shelf m)
  prepared (Ok plan) p changes sends =
      subst (λ z. IsPlanned layout shelf z plan) (sym is)
      (planned shelf x body share _ _ plan p layout own (answer_at shelf x b share top) refl sends answers_here
      (λ new l. quiet_here new (subst (Learns new share top) changes l)))
  prepared (Err e) p changes sends = tt
