-- Each transaction that was begun is known by its number, which has a name.
use Rattle.std.proofs.Common.{◌≡◌, ℕ, ◌<◌, List, [], ◌∷◌, length, Option, None, Some, subst, ⊎_elim}
use Rattle.std.specs.List.{flat_map}
use Rattle.std.proofs.lemmas.Option.{slice_get_within}
use Rattle.acc_stamp.specs.declared.stamps.TxnId.{TxnId}
use Rattle.acc_txn.specs.declared.parts.BodyParts.{BodyParts}
use Rattle.acc_message.specs.declared.note.Note.{Note}
use Rattle.acc_message.specs.declared.note.Note.TheVariants.{Begin as BeginNote, Recover as RecoverNote, Blocked, Ended, Decide, Outcome as OutcomeNote, Reply as ReplyNote}
use Rattle.acc_message.specs.declared.item.Item.{Item}
use Rattle.acc_message.specs.declared.item.Item.TheVariants.{Step, Skipped, Down}
use Rattle.acc_message.specs.Items.{txn_of}
use Rattle.acc_message.specs.Run.{Cluster, EachStands}
use Rattle.acc_actor_laws.proofs.Standing.{not_none}
use Rattle.acc_safety.specs.Decisions.{body_at}
use Rattle.acc_safety.specs.Histories.{Noting}
use Rattle.acc_safety.specs.Places.{IsIn, Here, Back}
use Rattle.acc_safety.proofs.PlaceOrder.{only, none_is_in, IsIn-append_cases, IsIn-flat_map}
use Rattle.acc_safety_laws.proofs.BegunIds.{was_begun}
use Rattle.acc_run_laws.proofs.Begun.{begun_in, begun_of}
use Rattle.acc_report_laws.specs.Fits.{IsNumbered, IsKnown}

begin_is : (note : Note) (x : TxnId) → IsIn x (begun_in note) → note ≡ BeginNote x
begin_is (BeginNote id) x there = same id (only x id there)
  where
    same : (id : TxnId) → x ≡ id → BeginNote id ≡ BeginNote x
    same id e = cc
begin_is (RecoverNote id ballot) x there = absurd (none_is_in x there)
begin_is (Blocked id ballot by) x there = absurd (none_is_in x there)
begin_is (Ended id ballot by) x there = absurd (none_is_in x there)
begin_is (Decide id t path deps) x there = absurd (none_is_in x there)
begin_is (OutcomeNote id reply) x there = absurd (none_is_in x there)
begin_is (ReplyNote id reply) x there = absurd (none_is_in x there)

further : (item : Item) (earlier : List Item) (note : Note) → Noting earlier note → Noting (item ∷ earlier) note
further item earlier note n =
    record { entry = n.entry; earlier = n.earlier; at = Back (Step n.entry) item n.earlier earlier n.at; noted = n.noted }

begin_noted : (items : List Item) (x : TxnId) → IsIn x (begun_of items) → Noting items (BeginNote x)
begin_noted [] x there = absurd (none_is_in x there)
begin_noted (Step e ∷ earlier) x there =
    ⊎_elim
    (λ here.
    let found = IsIn-flat_map begun_in x e.emitted.notes here in
    record {
      entry = e;
      earlier = earlier;
      at = Here (Step e) earlier;
      noted = subst (λ note. IsIn note e.emitted.notes) (begin_is found.source x found.within) found.there;
    })
    (λ before. further (Step e) earlier (BeginNote x) (begin_noted earlier x before))
    (IsIn-append_cases x (flat_map begun_in e.emitted.notes) (begun_of earlier) there)
begin_noted (Skipped step cause ∷ earlier) x there = further (Skipped step cause) earlier (BeginNote x) (begin_noted earlier x there)
begin_noted (Down actor ∷ earlier) x there = further (Down actor) earlier (BeginNote x) (begin_noted earlier x there)

numbered : (cluster : Cluster) (names : List (List ℕ)) (o : Option ℕ) (body : BodyParts) → length cluster.bodies ≡ length names
    → body_at cluster o ≡ Some body → IsNumbered names o
numbered cluster names None body same is = absurd (not_none body is)
numbered cluster names (Some txn) body same is = subst (λ n. txn < n) same (slice_get_within cluster.bodies txn body is)

pub begun_known : (cluster : Cluster) (items : List Item) (names : List (List ℕ)) (x : TxnId) → EachStands cluster items
    → length cluster.bodies ≡ length names → IsIn x (begun_of items) → IsKnown names (txn_of items) x
begun_known cluster items names x stands same there =
    let begun = was_begun cluster items x stands (begin_noted items x there) in
    numbered cluster names (txn_of items x) begun.body same begun.is
