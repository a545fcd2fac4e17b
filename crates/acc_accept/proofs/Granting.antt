-- A step that grants a message with a timestamp, or refuses it, is a quiet one.
use Rattle.std.proofs.Common.{◌≡◌, ℕ, Bool, max, List, [], ◌∷◌, ◌++◌, Option, None, Some, sym, ap, subst, ◌∙◌, arith}
use Rattle.acc_stamp.specs.declared.stamps.Stamp.{Stamp}
use Rattle.acc_stamp.specs.declared.stamps.TxnId.{TxnId}
use Rattle.acc_stamp.specs.declared.stamps.Ballot.{Ballot}
use Rattle.acc_stamp.specs.Actor.{shard_of, home_of}
use Rattle.acc_topology.specs.Layout.{Layout}
use Rattle.acc_value.specs.declared.key.Key.{Key}
use Rattle.acc_deps.specs.declared.shards.ShardDeps.{ShardDeps}
use Rattle.acc_txn.specs.declared.parts.BodyParts.{BodyParts}
use Rattle.acc_message.specs.declared.message.Message.{Message}
use Rattle.acc_message.specs.declared.message.Message.TheVariants.{Nack, Decided}
use Rattle.acc_message.specs.Fields.{id_of, top_of}
use Rattle.acc_message.specs.Taken.{body_in}
use Rattle.acc_message.specs.VoteRule.{times_in, greatest_drawn}
use Rattle.acc_record.specs.declared.change.Change.{Change}
use Rattle.acc_record.specs.declared.record.Record.{Record}
use Rattle.acc_record.specs.declared.shelf.Shelf.{Shelf}
use Rattle.acc_record.specs.Changes.{changed}
use Rattle.acc_record.specs.Shelf.{record_at}
use Rattle.acc_record.specs.Steps.{record_after, stamps_in, stamps_told, QuietStep}
use Rattle.acc_record.specs.Learning.{body_of, known_or_fresh}
use Rattle.acc_record.specs.LearntAs.{IsLearntAs}
use Rattle.acc_record.proofs.After.{after_nack, after_decided}
use Rattle.acc_record.proofs.Learnt.{Tells, quiet_from_learnt}
use Rattle.acc_record.specs.Refusal.{refusal_or}
use Rattle.acc_record.proofs.Rivals.{share_in}
use Rattle.acc_record.proofs.Telling.{refusal_cases, tells_time}
use Rattle.acc_accept.specs.Accepting.{refusal_at, record_then}

raised : (g t : ℕ) → max g t ≡ max (max t 0) g
raised g t = omega arith

module _ (layout : Layout) (shelf new : Shelf) (m : Message) (b : Ballot) (body : BodyParts) (t : Stamp) (granted : Message) (change : Change) (share : List (Key × Bool)) where
  abbrev x : TxnId
  x = id_of m

  abbrev before : Option Record
  before = record_at shelf.records x

  abbrev r : Record
  r = known_or_fresh before x body

  -- what the message and the answer are
  pub record IsGrant : Type 0 where
    pub brings : body_in m ≡ Some body
    pub shared : share ≡ share_in layout (shard_of shelf.actor) (body_of before body)
    pub times : times_in x m ≡ t ∷ []
    pub drawn : greatest_drawn shelf.actor.0 (granted ∷ []) ≡ 0
    pub after : record_after r m (granted ∷ []) ≡ changed change r
    pub vote : (changed change r).vote ≡ r.vote

  module _ (g : IsGrant) where
    abbrev QuietBy : Option Message → Type 0
    QuietBy refusal = IsLearntAs shelf new x share (Some t) (top_of m) (record_then refusal change shelf x body) → QuietStep layout shelf new m (refusal_or refusal granted ∷ [])

    -- the timestamp is told
    tells : (a : Record) → a.vote ≡ r.vote → Tells x before (stamps_told a m) (Some t)
    tells a same =
        subst (λ (list : List Stamp). Tells x before list (Some t)) (λ i. x.0 ∷ (sym g.times) i ++ stamps_in ((sym same) i)) (tells_time x body before t)

    by_grant : QuietBy None
    by_grant l =
        quiet_from_learnt layout shelf new m (granted ∷ []) body share (Some t) (top_of m) g.brings g.shared
        (raised shelf.greatest (top_of m) ∙ ap (λ d. max (max (top_of m) d) shelf.greatest) (sym g.drawn))
        (tells (record_after r m (granted ∷ [])) (ap (λ (a : Record). a.vote) g.after ∙ g.vote))
        (subst (λ (a : Record). IsLearntAs shelf new x share (Some t) (top_of m) a) (sym g.after) l)

    by_decided : (u : Stamp) (deps : List ShardDeps) → QuietBy (Some (Decided shelf.actor (home_of x b) x b u deps))
    by_decided u deps l =
        let sent : List Message = Decided shelf.actor (home_of x b) x b u deps ∷ [] in
        let after : record_after r m sent ≡ r = after_decided r m shelf.actor (home_of x b) x b u deps in
        quiet_from_learnt layout shelf new m sent body share (Some t) (top_of m) g.brings g.shared (raised shelf.greatest (top_of m))
        (tells (record_after r m sent) (ap (λ (a : Record). a.vote) after))
        (subst (λ (a : Record). IsLearntAs shelf new x share (Some t) (top_of m) a) (sym after) l)

    by_nack : (promised : Ballot) → QuietBy (Some (Nack shelf.actor (home_of x b) x b promised))
    by_nack promised l =
        let sent : List Message = Nack shelf.actor (home_of x b) x b promised ∷ [] in
        let after : record_after r m sent ≡ r = after_nack r m shelf.actor (home_of x b) x b promised in
        quiet_from_learnt layout shelf new m sent body share (Some t) (top_of m) g.brings g.shared (raised shelf.greatest (top_of m))
        (tells (record_after r m sent) (ap (λ (a : Record). a.vote) after))
        (subst (λ (a : Record). IsLearntAs shelf new x share (Some t) (top_of m) a) (sym after) l)

    pub quiet : QuietBy (refusal_at shelf x b)
    quiet = refusal_cases shelf.actor x b b QuietBy by_grant by_decided by_nack before
