-- Whether a transaction may execute is the same by the records and by the rules.
use Rattle.std.proofs.Common.{◌≡◌, ℕ, false, List, [], ◌∷◌, Option, None, Some, refl, sym, ap, ◌∙◌}
use Rattle.std.specs.List.{list_all}
use Rattle.std.specs.Option.{option_map}
use Rattle.acc_base.specs.Faults.{or_else}
use Rattle.acc_stamp.specs.declared.stamps.Stamp.{Stamp}
use Rattle.acc_stamp.specs.declared.stamps.TxnId.{TxnId}
use Rattle.acc_stamp.specs.Actor.{shard_of}
use Rattle.acc_stamp.specs.Rising.{id_among}
use Rattle.acc_topology.specs.Layout.{Layout}
use Rattle.acc_deps.specs.Deps.{of_shard}
use Rattle.acc_deps.specs.declared.records.Settled.{Settled}
use Rattle.acc_txn.specs.declared.parts.BodyParts.{BodyParts}
use Rattle.acc_message.specs.Taken.{Taken, body_known}
use Rattle.acc_message.specs.BallotRules.{stable_of}
use Rattle.acc_message.specs.Opening.{is_past, applied_of}
use Rattle.acc_record.specs.declared.shelf.Shelf.{Shelf}
use Rattle.acc_record.specs.Shelf.{record_at}
use Rattle.acc_record.specs.Stands.{StandsFor, record_with}
use Rattle.acc_record.specs.Waits.{is_past_record}
use Rattle.acc_actor_laws.proofs.AppliedFacts.{applied_is}
use Rattle.acc_record.proofs.Apart.{concerns, or_else-none, settled_apart, known_apart}
use Rattle.acc_record.proofs.Resting.{unknown_apart_from}
use Rattle.acc_opening.specs.Plan.{settled_in}
use Rattle.acc_execute.specs.Now.{is_ready_with, is_ready_at, may_execute_with, may_execute}

-- what isn't known isn't stable
unknown_unstable : (history : List Taken) (x : TxnId) → body_known history x ≡ None → stable_of history x ≡ None
unknown_unstable [] x unknown = refl
unknown_unstable (step ∷ past) x unknown =
    let apart : concerns x step.message ≡ false = unknown_apart_from step past x unknown in
    ap (or_else (stable_of past x)) (settled_apart x step.message apart) ∙ or_else-none (stable_of past x)
    ∙ unknown_unstable past x (sym (known_apart step past x apart) ∙ unknown)

module _ (layout : Layout) (shelf : Shelf) (history : List Taken) (stands : StandsFor layout shelf history) where
  abbrev shard : ℕ
  shard = shard_of shelf.actor

  past_by : (t : Stamp) (y : TxnId) (body : Option BodyParts) → body_known history y ≡ body
      → is_past_record t (option_map (record_with shard history y) body) ≡ is_past t (id_among y (applied_of shard history)) (stable_of history y)
  past_by t y None unknown = sym (ap (is_past t (id_among y (applied_of shard history))) (unknown_unstable history y unknown))
  past_by t y (Some body) known = ap (λ b. is_past t b (stable_of history y)) (sym (applied_is shard history y))

  past_is : (t : Stamp) (y : TxnId) → is_past_record t (record_at shelf.records y) ≡ is_past t (id_among y (applied_of shard history)) (stable_of history y)
  past_is t y = ap (is_past_record t) (stands.records y) ∙ past_by t y (body_known history y) refl

  settled_by : (x : TxnId) (body : Option BodyParts) → body_known history x ≡ body
      → settled_in (option_map (record_with shard history x) body) ≡ stable_of history x
  settled_by x None unknown = sym (unknown_unstable history x unknown)
  settled_by x (Some body) known = refl

  settled_is : (x : TxnId) → settled_in (record_at shelf.records x) ≡ stable_of history x
  settled_is x = ap settled_in (stands.records x) ∙ settled_by x (body_known history x) refl

  ready_with : (s : Option Settled) → is_ready_with shard (record_at shelf.records) s ≡ may_execute_with shard history s
  ready_with None = refl
  ready_with (Some s) = λ i. list_all (λ y. past_is s.t y i) (of_shard s.deps shard)

  pub ready_is : (x : TxnId) → is_ready_at shelf x ≡ may_execute shard history x
  ready_is x = ready_with (settled_in (record_at shelf.records x)) ∙ ap (may_execute_with shard history) (settled_is x)
