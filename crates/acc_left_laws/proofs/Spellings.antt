-- Each message that a run sends to a store has a spelling, where each number in a body has 64 bits.
use Rattle.std.proofs.Common.{◌≡◌, ℕ, ◌<◌, ◌^◌, true, List, [], ◌∷◌, length, is_some, sym, subst, ⊎_elim, arith}
use Rattle.std.specs.List.{flat_map, AllByRecursion}
use Rattle.std.proofs.lemmas.Bool.{true≢false}
use Rattle.acc_stamp.specs.declared.stamps.Stamp.{Stamp}
use Rattle.acc_stamp.specs.declared.stamps.TxnId.{TxnId}
use Rattle.acc_stamp.specs.Rising.{IsRising}
use Rattle.acc_deps.specs.declared.shards.ShardDeps.{ShardDeps}
use Rattle.acc_deps.specs.Deps.{AreDeps}
use Rattle.acc_txn.specs.Short.{IsNumberedBody}
use Rattle.acc_message.specs.declared.message.Message.{Message}
use Rattle.acc_message.specs.declared.message.Message.TheVariants.{PreAccept, PreAcceptOk, Accept, AcceptOk, Commit, CommitOk, Stable, ReadOk, Apply, Recover, RecoverOk, Nack, Decided, Inform}
use Rattle.acc_message.specs.declared.note.Note.{Note}
use Rattle.acc_message.specs.declared.note.Note.TheVariants.{Begin as BeginNote}
use Rattle.acc_message.specs.declared.item.Item.{Item}
use Rattle.acc_message.specs.Items.{noted_in}
use Rattle.acc_message.specs.Run.{Cluster, EachStands}
use Rattle.acc_message.specs.Taken.{body_in}
use Rattle.acc_message_code.specs.Fitting.{FitDeps, FitStamps, FitsMessage, FitsSettled, FitsShard, FitsStamp, HasFittingContent}
use Rattle.acc_message_code.specs.Short.{AreShortDeps, HasShortContent, IsShortMessage, IsShortShard}
use Rattle.acc_safety.specs.Places.{IsIn, First}
use Rattle.acc_safety.specs.RunLaws.{drawn_in, drawn_of}
use Rattle.acc_safety.specs.Statements.{deps_named}
use Rattle.acc_safety.specs.Valid.{IsStanding, IsValidCluster}
use Rattle.acc_safety.proofs.PlaceOrder.{each_at, flat_map-IsIn, none_is_in, IsIn-append_cases, IsIn-append_left, IsIn-append_right, IsIn-flat_map}
use Rattle.acc_safety.proofs.SetsNamed.{deps_are_sets}
use Rattle.acc_run_laws.specs.Heights.{most_h}
use Rattle.acc_run_laws.specs.Sends.{HasFewBodies}
use Rattle.acc_run_laws.proofs.Begun.{begun_in, begun_of}
use Rattle.acc_run_laws.proofs.Bounded.{AreBegunDeps, HasBoundedContent, IsBounded, IsLow}
use Rattle.acc_run_laws.proofs.Everywhere.{is_short, stage}
use Rattle.acc_left_laws.proofs.Beginnings.{note_begins}
use Rattle.acc_left_laws.proofs.CellContents.{HasFittingCells}
use Rattle.acc_left_laws.proofs.CellsEverywhere.{all_fit}
use Rattle.acc_left_laws.proofs.StoreTakes.{HaveSpellings}

-- what was begun was drawn
begun_drawn : (items : List Item) (x : TxnId) → IsIn x (begun_of items) → IsIn x.0 (drawn_of items)
begun_drawn [] x there = absurd (none_is_in x there)
begun_drawn (item ∷ earlier) x there =
    ⊎_elim
    (λ here.
    let from = IsIn-flat_map begun_in x (noted_in item) here in
    IsIn-append_left x.0 (flat_map drawn_in (noted_in item)) (drawn_of earlier)
    (flat_map-IsIn drawn_in x.0 (BeginNote x) (noted_in item) (subst (λ (note : Note). IsIn note (noted_in item)) (note_begins x from.source from.within) from.there) (First x.0 [])))
    (λ rest. IsIn-append_right x.0 (flat_map drawn_in (noted_in item)) (drawn_of earlier) (begun_drawn earlier x rest))
    (IsIn-append_cases x (flat_map begun_in (noted_in item)) (begun_of earlier) there)

module _ (most : ℕ) (low : most < 2 ^ 64) (begun : List TxnId) (each_low : (x : TxnId) → IsIn x begun → IsLow most x.0) where
  fits_stamp : (s : Stamp) → IsLow most s → FitsStamp s
  fits_stamp s is = let h = is.h in let origin = is.origin in record { h = omega (arith, h, low); origin = omega (arith, origin) }

  fit_stamps : (ids : List TxnId) → AllByRecursion (λ id. IsIn id begun) ids → FitStamps ids
  fit_stamps [] h = tt
  fit_stamps (x ∷ ids) h = (fits_stamp x.0 (each_low x h.0), fit_stamps ids h.1)

  fit_shards : (deps : List ShardDeps) → AllByRecursion (λ (d : ShardDeps). IsRising d.ids) deps → AllByRecursion (λ (d : ShardDeps). 0 < length d.ids) deps
      → AllByRecursion IsShortShard deps → AreBegunDeps begun deps → AllByRecursion FitsShard deps
  fit_shards [] rise some short known = tt
  fit_shards (d ∷ deps) rise some short known = (
    record {
      least = known.0.least;
      most = known.0.most;
      some = some.0;
      ids = record { count = short.0.ids; stamps = fit_stamps d.ids known.0.ids; rise = rise.0 };
    },
    fit_shards deps rise.1 some.1 short.1 known.1,
  )

  fit_deps : (deps : List ShardDeps) → AreDeps deps → AreShortDeps deps → AreBegunDeps begun deps → FitDeps deps
  fit_deps deps set short known = record { count = short.count; shards = fit_shards deps set.ids set.some short.shards known; rise = set.shards }

  fits_dated : (t : Stamp) (deps : List ShardDeps) → IsLow most t → AreDeps deps → AreShortDeps deps → AreBegunDeps begun deps → FitsSettled (record { t = t; deps = deps })
  fits_dated t deps is set short known = record { t = fits_stamp t is; deps = fit_deps deps set short known }

  -- a message that brings a body
  content_fits : (m : Message) → is_some (body_in m) ≡ true → AllByRecursion AreDeps (deps_named m) → HasBoundedContent most begun m → HasShortContent m → HasFittingCells m
      → HasFittingContent m
  content_fits (PreAccept from to id ballot body) brings sets known short cells = cells
  content_fits (Accept from to id ballot body t deps) brings sets known short cells = (cells, fits_dated t deps known.t_low sets.0 short known.deps_begun)
  content_fits (Commit from to id ballot body t deps) brings sets known short cells = (cells, fits_dated t deps known.t_low sets.0 short known.deps_begun)
  content_fits (Stable from to id ballot body t deps) brings sets known short cells = (cells, fits_dated t deps known.t_low sets.0 short known.deps_begun)
  content_fits (Apply from to id ballot body t deps outcome) brings sets known short cells =
      ((cells.0, fits_dated t deps known.0.t_low sets.0 short.0 known.0.deps_begun), cells.1.fits)
  content_fits (Recover from to id ballot body) brings sets known short cells = cells
  content_fits (PreAcceptOk from to id ballot vote deps) brings sets known short cells = absurd (true≢false (sym brings))
  content_fits (AcceptOk from to id ballot deps) brings sets known short cells = absurd (true≢false (sym brings))
  content_fits (CommitOk from to id ballot) brings sets known short cells = absurd (true≢false (sym brings))
  content_fits (ReadOk from to id ballot answer) brings sets known short cells = absurd (true≢false (sym brings))
  content_fits (RecoverOk from to id ballot view) brings sets known short cells = absurd (true≢false (sym brings))
  content_fits (Nack from to id ballot promised) brings sets known short cells = absurd (true≢false (sym brings))
  content_fits (Decided from to id ballot t deps) brings sets known short cells = absurd (true≢false (sym brings))
  content_fits (Inform from to id ballot outcome) brings sets known short cells = absurd (true≢false (sym brings))

  message_fits : (m : Message) → is_some (body_in m) ≡ true → AllByRecursion AreDeps (deps_named m) → IsBounded most begun m → IsShortMessage m → HasFittingCells m → FitsMessage m
  message_fits m brings sets known short cells = record {
    envelope = record { from = short.from; to = short.to; id = fits_stamp _ known.id.low; ballot = fits_stamp _ known.ballot };
    content = content_fits m brings sets known.content short.content cells;
  }

pub spellings : (cluster : Cluster) → IsValidCluster cluster → HasFewBodies cluster → AllByRecursion IsNumberedBody cluster.bodies → (items : List Item) → EachStands cluster items
    → length items < 2 ^ 31 → HaveSpellings items
spellings cluster valid few numbered items stands few_items m sending at_store =
    let standing : IsStanding cluster items = record { valid = valid; stands = stands } in
    let known : IsBounded (most_h items) (begun_of items) m = (stage cluster items standing).messages m sending in
    message_fits (most_h items) (omega (arith, few_items)) (begun_of items)
    (λ x there. each_at (IsLow (most_h items)) x.0 (drawn_of items) (stage cluster items standing).drawn (begun_drawn items x there)) m (known.address.brings at_store)
    ((deps_are_sets cluster items stands).messages m sending) known (is_short cluster items standing few m sending) (all_fit cluster numbered items stands m sending)
