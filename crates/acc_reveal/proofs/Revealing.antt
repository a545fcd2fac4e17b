-- What a shelf reveals is what the rules reveal of the history that it stands for.
use Rattle.std.proofs.Common.{◌≡◌, ℕ, Bool, true, false, ◌&&◌, ◌||◌, cond, List, [], ◌∷◌, Some, is_none, map, filter, refl, sym, ◌∙◌, ap}
use Rattle.std.specs.List.{list_any}
use Rattle.acc_stamp.specs.declared.stamps.TxnId.{TxnId}
use Rattle.acc_stamp.specs.declared.stamps.Ballot.{Ballot}
use Rattle.acc_stamp.specs.Actor.{shard_of, home_of}
use Rattle.acc_stamp.specs.Stamp.{ballot_lt}
use Rattle.acc_stamp.specs.Rising.{ids_union}
use Rattle.acc_topology.specs.Layout.{Layout}
use Rattle.acc_value.specs.declared.key.Key.{Key}
use Rattle.acc_txn.specs.declared.parts.BodyParts.{BodyParts}
use Rattle.acc_index.specs.Noted.{Noted, rivals as noted_rivals, rival_ids}
use Rattle.acc_message.specs.declared.message.Message.{Message}
use Rattle.acc_message.specs.declared.message.Message.TheVariants.{RecoverOk}
use Rattle.acc_message.specs.Fields.{id_of, top_of}
use Rattle.acc_message.specs.Taken.{Taken, Heard, taking, body_in, rivals}
use Rattle.acc_message.specs.BallotRules.{promise_of, accepted_of, committed_of, stable_of}
use Rattle.acc_message.specs.Evidence.{accepted_without, stable_without, supersedes, superseded, accepted_above, is_awaited, awaited, view_of}
use Rattle.acc_message.specs.StoreRules.{nack, on_recover, body_counting, replay}
use Rattle.acc_record.specs.declared.shelf.Shelf.{Shelf}
use Rattle.acc_record.specs.Shelf.{record_at}
use Rattle.acc_record.specs.Stands.{StandsFor}
use Rattle.acc_record.specs.Learning.{body_of}
use Rattle.acc_record.proofs.KeptFields.{kept_field}
use Rattle.acc_record.proofs.Rivals.{names_by}
use Rattle.acc_record.proofs.VoteLaw.{counts, votes}
use Rattle.acc_reveal.specs.Revealed.{promised_in, accepted_in, committed_in, stable_in, rules_out, keeps_waiting, superseded_at, awaited_at, view_at, is_allowed, revealed, refused, answer_at, share_at}
use Rattle.acc_reveal.proofs.Names.{any_names, filter_names, any_named, filter_named, filter_all}

module _ (layout : Layout) (shelf : Shelf) (messages : List Message) (stands : StandsFor layout shelf (replay layout shelf.actor messages)) where
  abbrev past : List Taken
  past = replay layout shelf.actor messages

  abbrev shard : ℕ
  shard = shard_of shelf.actor

  -- ---- records

  pub promised_is : (y : TxnId) → promised_in (record_at shelf.records y) ≡ promise_of past y
  promised_is y = kept_field layout shelf messages stands promised_in (promise_of past y) y (λ body. refl) (λ u. sym u.promise)

  accepted_is : (y : TxnId) → accepted_in (record_at shelf.records y) ≡ accepted_of past y
  accepted_is y = kept_field layout shelf messages stands accepted_in (accepted_of past y) y (λ body. refl) (λ u. sym u.accepted)

  committed_is : (y : TxnId) → committed_in (record_at shelf.records y) ≡ committed_of past y
  committed_is y = kept_field layout shelf messages stands committed_in (committed_of past y) y (λ body. refl) (λ u. sym u.committed)

  stable_is : (y : TxnId) → stable_in (record_at shelf.records y) ≡ stable_of past y
  stable_is y = kept_field layout shelf messages stands stable_in (stable_of past y) y (λ body. refl) (λ u. sym u.stable)

  rules_out_is : (x y : TxnId) → rules_out shard x y (record_at shelf.records y) ≡ supersedes shard past x y
  rules_out_is x y = λ i. accepted_without shard x y (accepted_is y i) || stable_without shard x (stable_is y i)

  keeps_waiting_is : (x y : TxnId) → keeps_waiting x y (record_at shelf.records y) ≡ is_awaited past x y
  keeps_waiting_is x y = λ i. accepted_above x y (accepted_is y i) && is_none (stable_is y i)

  module _ (m : Message) (body : BodyParts) (brings : body_in m ≡ Some body) where
    abbrev x : TxnId
    x = id_of m

    abbrev now : List Taken
    now = taking m past

    abbrev counted : BodyParts
    counted = body_of (record_at shelf.records x) body

    abbrev share : List (Key × Bool)
    share = share_at layout shelf x body

    abbrev others : List Heard
    others = rivals layout shard now x counted

    abbrev seen : List Noted
    seen = noted_rivals shelf.index x share

    -- ---- the conflicting transactions

    names_are : rival_ids shelf.index x share ≡ ids_union [] (map (λ (k : Heard). k.id) others)
    names_are =
        ap (λ (list : List Noted). ids_union [] (map (λ (t : Noted). t.id) list)) (sym (filter_all seen))
        ∙ names_by layout shard shelf.index past stands.index m counted (λ y. true)
        ∙ ap (λ (list : List Heard). ids_union [] (map (λ (k : Heard). k.id) list)) (filter_all others)

    superseded_is : superseded_at shelf x (rival_ids shelf.index x share) ≡ superseded layout shelf.actor past now x counted
    superseded_is =
        ap (list_any rules) names_are
        ∙ any_names rules (map (λ (k : Heard). k.id) others)
        ∙ any_named (λ (k : Heard). k.id) rules others
        ∙ (λ i. list_any (λ (k : Heard). rules_out_is x k.id i) others)
      where
        rules : TxnId → Bool
        rules y = rules_out shard x y (record_at shelf.records y)

    awaited_is : awaited_at shelf x (rival_ids shelf.index x share) ≡ awaited layout shelf.actor past now x counted
    awaited_is =
        filter_names waits (map (λ (t : Noted). t.id) seen)
        ∙ ap (ids_union []) (filter_named (λ (t : Noted). t.id) waits seen)
        ∙ names_by layout shard shelf.index past stands.index m counted waits
        ∙ (λ i. ids_union [] (map (λ (k : Heard). k.id) (filter (λ (k : Heard). keeps_waiting_is x k.id i) others)))
      where
        waits : TxnId → Bool
        waits y = keeps_waiting x y (record_at shelf.records y)

    -- ---- the view and the answer

    view_is : view_at shelf x share (top_of m) ≡ view_of layout shelf.actor past now x counted
    view_is = λ i.
        record {
          store = shelf.actor;
          vote = (sym (votes layout shelf messages stands m body brings) i).stamp;
          vote_deps = (sym (votes layout shelf messages stands m body brings) i).deps;
          accepted = accepted_is x i;
          committed = committed_is x i;
          stable = stable_is x i;
          superseded = superseded_is i;
          waits = awaited_is i;
        }

    alone : (b : Bool) (one other : Message) → cond b one other ∷ [] ≡ cond b (one ∷ []) (other ∷ [])
    alone true one other = refl
    alone false one other = refl

    pub answer_is : (b : Ballot) → answer_at shelf x b share (top_of m) ∷ [] ≡ on_recover layout shelf.actor past now x b (body_counting now x body)
    answer_is b =
        alone (is_allowed shelf x b) (revealed shelf x b (view_at shelf x share (top_of m))) (refused shelf x b)
        ∙ (λ i. cond (ballot_lt (promised_is x i) b) (RecoverOk shelf.actor (home_of x b) x b (view_is i) ∷ []) (nack shelf.actor x b (promised_is x i)))
        ∙ ap (λ c. on_recover layout shelf.actor past now x b c) (counts layout shelf messages stands m body brings)
