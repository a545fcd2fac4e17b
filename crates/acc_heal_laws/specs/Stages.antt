-- Where a healing stands, and the step that is due there. First the actors are reopened and all is delivered; then each begun
-- transaction has its turn, rising by id: where some store of it lacks its outcome the node of its id recovers it, once more if that
-- attempt was ended, each time with a drain.
use Rattle.std.specs.Prelude.{ℕ, Bool, true, false, cond, nat_lt, List, [], ◌∷◌, Option, None, Some}
use Rattle.std.specs.List.{list_any, list_all, slice_get, flat_map, filter_map}
use Rattle.std.specs.Option.{option_map}
use Rattle.acc_stamp.specs.declared.stamps.TxnId.{TxnId}
use Rattle.acc_stamp.specs.declared.stamps.Ballot.{Ballot}
use Rattle.acc_stamp.specs.declared.actors.Actor.{Actor}
use Rattle.acc_stamp.specs.Actor.{node_of_stamp}
use Rattle.acc_stamp.specs.Stamp.{id_eq}
use Rattle.acc_stamp.specs.Rising.{ids_union, rising_union}
use Rattle.acc_topology.specs.Layout.{Layout}
use Rattle.acc_txn.specs.declared.parts.BodyParts.{BodyParts}
use Rattle.acc_message.specs.declared.note.Note.{Note}
use Rattle.acc_message.specs.declared.note.Note.TheVariants.{Begin as BeginNote, Recover as RecoverNote, Blocked, Ended, Decide, Outcome as OutcomeNote, Reply as ReplyNote}
use Rattle.acc_message.specs.declared.item.Item.{Item}
use Rattle.acc_message.specs.Items.{same_actor, noted_in, notes_of, txn_of}
use Rattle.acc_message.specs.Shares.{stores_used}
use Rattle.acc_message.specs.Run.{Cluster, is_node, is_down}
use Rattle.acc_schedule.specs.declared.plan.Step.{Step}
use Rattle.acc_schedule.specs.declared.plan.Step.TheVariants.{Recover, Restart, Fail, Drain}
use Rattle.acc_schedule.specs.Actors.{actors}
use Rattle.acc_schedule.specs.Content.{Content}
use Rattle.acc_delivered.specs.Ends.{is_ended, took_apply}

-- ---- the reopening

-- the actors of a layout, rising by their numbers
abbrev pub actor_lt : Actor → Actor → Bool
actor_lt a b = nat_lt a.0 b.0

abbrev pub actors_rising : Layout → List Actor
actors_rising layout = rising_union actor_lt [] (actors layout)

-- the step names the actor as one whose disk is to fail
abbrev pub fails : Actor → Step → Bool
fails a (Fail actor calls) = same_actor actor a
fails a _ = false

abbrev pub is_armed : List Step → Actor → Bool
is_armed steps a = list_any (fails a) steps

-- more calls than a node makes in a healing: four for each of its recovers, so 80,000 at most
abbrev pub calls_let_pass : ℕ
calls_let_pass = 1000000

-- What reopens the actor: a restart of one that is down, or is a store whose disk may be armed. A node that is up keeps its clients,
-- so its disk is armed for a call that it never comes to.
abbrev pub step_of_armed : Actor → Step
step_of_armed a = cond (is_node a) (Fail a calls_let_pass) (Restart a 0)

abbrev pub reopening_step : List Step → List Item → Actor → Option Step
reopening_step steps items a = cond (is_down a items) (Some (Restart a 0)) (cond (is_armed steps a) (Some (step_of_armed a)) None)

abbrev pub reopening : Content → List Item → List Step
reopening plan items = filter_map (reopening_step plan.steps items) (actors_rising plan.topology)

-- ---- turns

-- the ids that notes begin, rising, each once
abbrev pub id_begun_by : Note → List TxnId
id_begun_by (BeginNote id) = id ∷ []
id_begun_by (RecoverNote id ballot) = []
id_begun_by (Blocked id ballot by) = []
id_begun_by (Ended id ballot by) = []
id_begun_by (Decide id t path deps) = []
id_begun_by (OutcomeNote id reply) = []
id_begun_by (ReplyNote id reply) = []

abbrev pub begun_ids : List Item → List TxnId
begun_ids items = ids_union [] (flat_map id_begun_by (notes_of items))

-- Each store of the body took an Apply of x. A transaction that a plan's items begin has a number and a body.
abbrev pub all_took_apply : Cluster → List Item → TxnId → Option BodyParts → Bool
all_took_apply cluster items x None = true
all_took_apply cluster items x (Some body) = list_all (took_apply cluster items x) (stores_used cluster.layout body)

-- the recover of x at the node of its id, where some store lacks its Apply
abbrev pub recover_unless : Bool → TxnId → ℕ → Option Step
recover_unless true x txn = None
recover_unless false x txn = Some (Recover txn (node_of_stamp x.0))

abbrev pub turn_at : Cluster → List Item → TxnId → Option ℕ → Option Step
turn_at cluster items x None = None
turn_at cluster items x (Some txn) = recover_unless (all_took_apply cluster items x (slice_get cluster.bodies txn)) x txn

abbrev pub turn_step : Cluster → List Item → TxnId → Option Step
turn_step cluster items x = turn_at cluster items x (txn_of items x)

-- a turn with its recover, and the transactions whose turns come after it
pub record Turn : Type 0 where
  pub id : TxnId
  pub step : Step
  pub rest : List TxnId

abbrev pub turn_or : Option Step → TxnId → List TxnId → Option Turn → Option Turn
turn_or None x ids later = later
turn_or (Some step) x ids later = Some (record { id = x; step = step; rest = ids })

-- the first of these that isn't passed over
abbrev pub next_turn : Cluster → List Item → List TxnId → Option Turn
next_turn cluster items [] = None
next_turn cluster items (x ∷ ids) = turn_or (turn_step cluster items x) x ids (next_turn cluster items ids)

-- ---- stages

pub data Stage : Type 0 where
  -- these steps of the reopening are left, and a drain
  Reopens : List Step → Stage
  -- these turns are left
  Turns : List TxnId → Stage
  -- the drain after the first recover of a turn, which drew a ballot unless it was passed over or stopped
  EndsFirst : Turn → Option Ballot → Stage
  -- the second recover of a turn, and the drain after it
  Repeats : Turn → Stage
  EndsSecond : Turn → Stage

-- the step that is due after these items
abbrev pub due : Cluster → Stage → List Item → Option Step
due cluster (Reopens []) items = Some Drain
due cluster (Reopens (step ∷ steps)) items = Some step
due cluster (Turns ids) items = option_map (λ (turn : Turn). turn.step) (next_turn cluster items ids)
due cluster (EndsFirst turn drawn) items = Some Drain
due cluster (Repeats turn) items = Some turn.step
due cluster (EndsSecond turn) items = Some Drain

-- the ballot with which these notes recover x, where that is all they say
abbrev pub ballot_in : TxnId → List Note → Option Ballot
ballot_in x (RecoverNote id ballot ∷ []) = cond (id_eq id x) (Some ballot) None
ballot_in x _ = None

-- the same of the newest item
abbrev pub newest_ballot : TxnId → List Item → Option Ballot
newest_ballot x [] = None
newest_ballot x (item ∷ earlier) = ballot_in x (noted_in item)

abbrev pub stage_of_turn : Option Turn → List Item → Stage
stage_of_turn None now = Turns []
stage_of_turn (Some turn) now = EndsFirst turn (newest_ballot turn.id now)

abbrev pub stage_after_first : Turn → Option Ballot → List Item → Stage
stage_after_first turn None now = Turns turn.rest
stage_after_first turn (Some b) now = cond (is_ended turn.id b now) (Repeats turn) (Turns turn.rest)

-- where the healing stands after the due step, which took the earlier items to the ones now
abbrev pub stage_after : Cluster → Stage → List Item → List Item → Stage
stage_after cluster (Reopens []) earlier now = Turns (begun_ids now)
stage_after cluster (Reopens (step ∷ steps)) earlier now = Reopens steps
stage_after cluster (Turns ids) earlier now = stage_of_turn (next_turn cluster earlier ids) now
stage_after cluster (EndsFirst turn drawn) earlier now = stage_after_first turn drawn now
stage_after cluster (Repeats turn) earlier now = EndsSecond turn
stage_after cluster (EndsSecond turn) earlier now = Turns turn.rest
