-- What the records tell of bodies, of what is stable and of transactions that aren't applied is what the rules tell.
use Rattle.std.proofs.Common.{◌≡◌, ℕ, Bool, true, false, not, List, [], ◌∷◌, ◌++◌, cond, map, Option, None, Some, is_some, Result, Ok, Err, IfOk, refl, sym, ap, ◌∙◌}
use Rattle.std.specs.Cmp.{IsEquivalence}
use Rattle.std.specs.List.{Contains, filter}
use Rattle.std.specs.Option.{option_map}
use Rattle.std.specs.HashMap.{HashMap, IsUnique, get}
use Rattle.std.proofs.lemmas.Bool.{true≢false}
use Rattle.std.proofs.lemmas.Bool.Decides.{same_from_decides}
use Rattle.std.proofs.lemmas.List.{append_assoc}
use Rattle.std.proofs.lemmas.Map.Views.{hash_map_get_iff}
use Rattle.acc_stamp.specs.declared.stamps.TxnId.{TxnId}
use Rattle.acc_stamp.specs.Actor.{shard_of}
use Rattle.acc_stamp.specs.Stamp.{id_eq}
use Rattle.acc_stamp.specs.Rising.{IsRising, id_among, ids_union}
use Rattle.acc_stamp.proofs.Order.{id_order, eq_itself, eq-sym}
use Rattle.acc_stamp.proofs.Places.{is_among-Decides}
use Rattle.acc_stamp.proofs.Rising.{is_among-union, same_from_among}
use Rattle.acc_lanes.proofs.Members.{Contains-filter, Contains-from_filter, Contains-map, Contains-from_map}
use Rattle.acc_topology.specs.Layout.{Layout}
use Rattle.acc_txn.specs.declared.parts.BodyParts.{BodyParts}
use Rattle.acc_deps.specs.declared.records.Settled.{Settled}
use Rattle.acc_index.proofs.Ids.{IsRising-names}
use Rattle.acc_message.specs.declared.message.Message.{Message}
use Rattle.acc_message.specs.Taken.{Taken, Heard, known, body_known}
use Rattle.acc_message.specs.BallotRules.{stable_of}
use Rattle.acc_message.specs.Opening.{is_applied}
use Rattle.acc_message.specs.StoreRules.{replay}
use Rattle.acc_record.specs.declared.record.Record.{Record}
use Rattle.acc_record.specs.declared.shelf.Shelf.{Shelf}
use Rattle.acc_record.specs.Shelf.{record_at}
use Rattle.acc_record.specs.Stands.{StandsFor, record_with, record_for}
use Rattle.acc_actor_laws.proofs.Standing.{stable_of-known}
use Rattle.acc_record.proofs.Apart.{heard_is_known}
use Rattle.acc_record.proofs.KnownOnes.{heard_there, known_told}
use Rattle.acc_store.specs.Queries.{body_in, stable_in, is_unapplied_in, unapplied, unapplied_among}

-- ---- the entries of a table

abbrev is_open : TxnId × Record → Bool
is_open e = not e.1.applied

-- one that isn't applied is among them, and one that is applied is not
pub one_open : (found : List TxnId) (id : TxnId) (r : Record) (rest : List (TxnId × Record)) (all : List TxnId) → not r.applied ≡ true
    → found ++ unapplied_among ((id, r) ∷ rest) ≡ all → (found ++ id ∷ []) ++ unapplied_among rest ≡ all
one_open found id r rest all waits h =
    append_assoc found (id ∷ []) (unapplied_among rest)
    ∙ ap (λ b. found ++ map (λ (e : TxnId × Record). e.0) (cond b ((id, r) ∷ filter is_open rest) (filter is_open rest))) (sym waits)
    ∙ h

pub one_applied : (found : List TxnId) (id : TxnId) (r : Record) (rest : List (TxnId × Record)) (all : List TxnId) → not r.applied ≡ false
    → found ++ unapplied_among ((id, r) ∷ rest) ≡ all → found ++ unapplied_among rest ≡ all
one_applied found id r rest all applied h =
    ap (λ b. found ++ map (λ (e : TxnId × Record). e.0) (cond b ((id, r) ∷ filter is_open rest) (filter is_open rest))) (sym applied) ∙ h

ids_alike : IsEquivalence id_eq
ids_alike =
    record {
      refl = eq_itself id_order;
      symm = eq-sym id_order;
      congr = λ x y z e. ap (λ w. id_eq w z) ((id_order.decides x y).0 e);
    }

module _ {S : Type 0} (m : HashMap TxnId Record S) (unique : IsUnique id_eq m) where
  found_open : (y : TxnId) (o : Option Record) → get id_eq m y ≡ o → is_unapplied_in o ≡ true → Contains (unapplied_among m.entries) y
  found_open y None is h = absurd (true≢false (sym h))
  found_open y (Some r) is h =
      Contains-map (λ (e : TxnId × Record). e.0) (filter is_open m.entries) (y, r)
      (Contains-filter is_open m.entries (y, r) ((hash_map_get_iff ids_alike (λ x z e. (id_order.decides x z).0 e) m unique y r).0 is) h)

  open_there : (y : TxnId) → Contains (unapplied_among m.entries) y → is_unapplied_in (get id_eq m y) ≡ true
  open_there y c =
      let q = Contains-from_map (λ (e : TxnId × Record). e.0) (filter is_open m.entries) y c in
      let f = Contains-from_filter is_open m.entries q.0 q.1 in
      let got : get id_eq m q.0.0 ≡ Some q.0.1 = (hash_map_get_iff ids_alike (λ x z e. (id_order.decides x z).0 e) m unique q.0.0 q.0.1).1 f.0 in
      ap (λ z. is_unapplied_in (get id_eq m z)) (sym q.2) ∙ ap is_unapplied_in got ∙ f.1

  pub same_entries : (y : TxnId) → id_among y (unapplied_among m.entries) ≡ is_unapplied_in (get id_eq m y)
  same_entries y =
      same_from_decides (id_among y (unapplied_among m.entries)) (is_unapplied_in (get id_eq m y))
      (is_among-Decides id_order (unapplied_among m.entries) y)
      ((λ h. found_open y (get id_eq m y) refl h), (λ c. open_there y c))

-- ---- the history

module _ (layout : Layout) (shelf : Shelf) (messages : List Message) (stands : StandsFor layout shelf (replay layout shelf.actor messages)) where
  abbrev history : List Taken
  history = replay layout shelf.actor messages

  abbrev shard : ℕ
  shard = shard_of shelf.actor

  body_by : (y : TxnId) (o : Option BodyParts) → body_in (option_map (record_with shard history y) o) ≡ o
  body_by y None = refl
  body_by y (Some body) = refl

  pub told_body : (y : TxnId) → body_in (record_at shelf.records y) ≡ body_known history y
  told_body y = ap body_in (stands.records y) ∙ body_by y (body_known history y)

  not_settled : (y : TxnId) (o : Option Settled) → body_known history y ≡ None → stable_of history y ≡ o → o ≡ None
  not_settled y None unknown is = refl
  not_settled y (Some s) unknown is =
      absurd (true≢false (sym (stable_of-known history y s is) ∙ heard_is_known y (known history) ∙ ap is_some unknown))

  stable_by : (y : TxnId) (o : Option BodyParts) → body_known history y ≡ o → stable_in (option_map (record_with shard history y) o) ≡ stable_of history y
  stable_by y None is = sym (not_settled y (stable_of history y) is refl)
  stable_by y (Some body) is = refl

  pub told_stable : (y : TxnId) → stable_in (record_at shelf.records y) ≡ stable_of history y
  told_stable y = ap stable_in (stands.records y) ∙ stable_by y (body_known history y) refl

  abbrev is_left : Heard → Bool
  is_left k = not (is_applied shard history k.id)

  abbrev left_ids : List TxnId
  left_ids = map (λ (k : Heard). k.id) (filter is_left (known history))

  left_there : (y : TxnId) (o : Option BodyParts) → body_known history y ≡ o → is_unapplied_in (option_map (record_with shard history y) o) ≡ true → Contains left_ids y
  left_there y None is h = absurd (true≢false (sym h))
  left_there y (Some body) is h =
      let k : Heard = record { id = y; body = body } in
      Contains-map (λ (k : Heard). k.id) (filter is_left (known history)) k
      (Contains-filter is_left (known history) k (heard_there y body (known history) is) h)

  left_told : (y : TxnId) → Contains left_ids y → is_unapplied_in (record_for shard history y) ≡ true
  left_told y c =
      let q = Contains-from_map (λ (k : Heard). k.id) (filter is_left (known history)) y c in
      let f = Contains-from_filter is_left (known history) q.0 q.1 in
      let is : body_known history q.0.id ≡ Some q.0.body = known_told history q.0 f.0 in
      ap (λ z. is_unapplied_in (record_for shard history z)) (sym q.2)
      ∙ ap (λ o. is_unapplied_in (option_map (record_with shard history q.0.id) o)) is
      ∙ f.1

  same_left : (y : TxnId) → id_among y left_ids ≡ is_unapplied_in (record_at shelf.records y)
  same_left y =
      same_from_decides (id_among y left_ids) (is_unapplied_in (record_for shard history y)) (is_among-Decides id_order left_ids y)
      ((λ h. left_there y (body_known history y) refl h), (λ c. left_told y c))
      ∙ ap is_unapplied_in (sym (stands.records y))

  pub told_unapplied : (ids : List TxnId) → IsRising ids → ((y : TxnId) → id_among y ids ≡ is_unapplied_in (record_at shelf.records y))
      → ids ≡ unapplied shard history
  told_unapplied ids rises those =
      same_from_among id_order ids (ids_union [] left_ids) rises (IsRising-names left_ids)
      (λ q. those q ∙ sym (same_left q) ∙ sym (is_among-union id_order q [] left_ids))

pub told : {E : Type 0} (shelf : Shelf) (result : Result (List TxnId) E)
    → IfOk result (λ ids. (y : TxnId) → id_among y ids ≡ is_unapplied_in (record_at shelf.records y)) → IfOk result IsRising
    → IfOk result (λ ids. (layout : Layout) (messages : List Message) → StandsFor layout shelf (replay layout shelf.actor messages)
    → ids ≡ unapplied (shard_of shelf.actor) (replay layout shelf.actor messages))
told shelf (Ok ids) those rises = λ layout messages stands. told_unapplied layout shelf messages stands ids rises those
told shelf (Err e) those rises = tt
