-- The notes and decisions of a run are those of its entries.
use Rattle.std.proofs.Common.{List, [], ◌∷◌, Contains, sym, subst, ⊎_elim}
use Rattle.acc_message.specs.declared.note.Path.{Path}
use Rattle.acc_message.specs.declared.note.Note.{Note}
use Rattle.acc_message.specs.declared.note.Note.TheVariants.{Begin, Recover, Blocked, Ended, Decide, Outcome, Reply}
use Rattle.acc_message.specs.declared.item.Item.{Item}
use Rattle.acc_message.specs.declared.item.Item.TheVariants.{Step, Skipped, Down}
use Rattle.acc_message.specs.Items.{noted_in, notes_of}
use Rattle.acc_safety.specs.Decisions.{Decision, decisions_in, decisions_of}
use Rattle.acc_safety.specs.Places.{IsIn, Here, Back}
use Rattle.acc_safety.specs.Histories.{Noting}
use Rattle.acc_safety.proofs.PlaceOrder.{only, none_is_in, IsIn-append_cases, Contains-IsIn, IsIn-flat_map}

noting_back : (item : Item) (earlier : List Item) (note : Note) → Noting earlier note → Noting (item ∷ earlier) note
noting_back item earlier note n = record { entry = n.entry; earlier = n.earlier; at = Back (Step n.entry) item n.earlier earlier n.at; noted = n.noted }

noting_now : (item : Item) (earlier : List Item) (note : Note) → IsIn note (noted_in item) → Noting (item ∷ earlier) note
noting_now (Step e) earlier note h = record { entry = e; earlier = earlier; at = Here (Step e) earlier; noted = h }
noting_now (Skipped step cause) earlier note h = absurd (none_is_in note h)
noting_now (Down actor) earlier note h = absurd (none_is_in note h)

-- an entry made each note
pub noting : (items : List Item) (note : Note) → IsIn note (notes_of items) → Noting items note
noting [] note h = absurd (none_is_in note h)
noting (item ∷ earlier) note h =
    ⊎_elim (λ old. noting_back item earlier note (noting earlier note old)) (noting_now item earlier note)
    (IsIn-append_cases note (notes_of earlier) (noted_in item) h)

-- a decision is noted, with its path
pub record DecisionNoted (items : List Item) (d : Decision) : Type 0 where
  pub path : Path
  pub noted : Noting items (Decide d.id d.t path d.deps)

decision_by : (items : List Item) (d : Decision) (note : Note) → Noting items note → IsIn d (decisions_in note) → DecisionNoted items d
decision_by items d (Decide id t path deps) n h =
    record {
      path = path;
      noted = subst (λ (e : Decision). Noting items (Decide e.id e.t path e.deps)) (sym (only d (record { id = id; t = t; deps = deps }) h)) n;
    }
decision_by items d (Begin id) n h = absurd (none_is_in d h)
decision_by items d (Recover id ballot) n h = absurd (none_is_in d h)
decision_by items d (Blocked id ballot by) n h = absurd (none_is_in d h)
decision_by items d (Ended id ballot by) n h = absurd (none_is_in d h)
decision_by items d (Outcome id reply) n h = absurd (none_is_in d h)
decision_by items d (Reply id reply) n h = absurd (none_is_in d h)

pub decision_noted : (items : List Item) (d : Decision) → Contains (decisions_of (notes_of items)) d → DecisionNoted items d
decision_noted items d h =
    let from = IsIn-flat_map decisions_in d (notes_of items) (Contains-IsIn d (decisions_of (notes_of items)) h) in
    decision_by items d from.source (noting items from.source from.there) from.within
