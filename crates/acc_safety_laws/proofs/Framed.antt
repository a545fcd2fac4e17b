-- In every run what is stable or applied is decided, and what is noted as an outcome is applied.
use Rattle.std.proofs.Common.{◌≡◌, Bool, true, false, List, [], ◌∷◌, Some, refl, sym, ◌∙◌, ap, subst, ⊎_elim}
use Rattle.std.proofs.lemmas.Bool.{false≢true}
use Rattle.acc_stamp.specs.declared.stamps.TxnId.{TxnId}
use Rattle.acc_stamp.specs.declared.actors.Actor.{Actor}
use Rattle.acc_stamp.specs.Actor.{node_of}
use Rattle.acc_stamp.proofs.Rising.{each_append, each_weaker}
use Rattle.acc_message.specs.declared.entry.Emitted.{Emitted}
use Rattle.acc_message.specs.declared.entry.Entry.{Entry}
use Rattle.acc_message.specs.declared.item.Item.{Item}
use Rattle.acc_message.specs.declared.item.Item.TheVariants.{Step, Skipped, Down}
use Rattle.acc_message.specs.Items.{sent_in, sent_of, noted_in, notes_of}
use Rattle.acc_safety.specs.Decisions.{outcomes_of, is_answered}
use Rattle.acc_message.specs.Attempts.{Attempt}
use Rattle.acc_message.specs.NodeRules.{Act, attempt_of}
use Rattle.acc_message.specs.Run.{Cluster, clock_start, act_of, deeds_of, taken_from, store_emits, is_node, emits_by, attempt_at, StandsOn, EachStands}
use Rattle.acc_actor_laws.proofs.Standing.{not_none}
use Rattle.acc_safety.specs.Places.{Whole}
use Rattle.acc_safety.proofs.BodiesBegun.{attempt_body}
use Rattle.acc_safety.specs.Polls.{IsBody}
use Rattle.acc_safety_laws.proofs.Notions.{Answered, SettlesDecided}
use Rattle.acc_safety_laws.proofs.Steps.{deeds_cases, node_emitted, answered_cases, store_is_silent}
use Rattle.acc_safety_laws.proofs.Frame.{ReadsDecided, settles_still, reads_still, HasApply, has_apply_kept, has_apply_now}
use Rattle.acc_safety_laws.proofs.FrameSteps.{EachSettles}
use Rattle.acc_safety_laws.proofs.FrameRuns.{store_settles, IsFramedEntry, entry_framed}

pub record IsFramedRun (cluster : Cluster) (items : List Item) : Type 0 where
  pub messages : EachSettles cluster items (sent_of items)
  pub applied : (y : TxnId) → Answered (notes_of items) y → HasApply cluster items (sent_of items) y
  pub reads : (a : Actor) (x : TxnId) (t : Attempt) → is_node a ≡ true → attempt_at cluster items a x ≡ Some t → ReadsDecided cluster items x t

-- an attempt has the begun body
pub has_body : (cluster : Cluster) (items : List Item) → EachStands cluster items → (a : Actor) (x : TxnId) (t : Attempt) → is_node a ≡ true → attempt_at cluster items a x ≡ Some t
    → IsBody cluster items x t.body
has_body cluster items stands a x t node at = attempt_body cluster items stands a node (deeds_of cluster a items) x t (Whole (deeds_of cluster a items)) at

module _ (cluster : Cluster) (e : Entry) (earlier : List Item) (stands : EachStands cluster earlier) (s : StandsOn cluster earlier e)
    (framed : IsFramedRun cluster earlier) where
  -- an entry of a node
  node_framed : (a : Actor) (node : is_node a ≡ true) → e.actor ≡ a → (act : Act) → act_of cluster earlier e.event ≡ Some act
      → IsFramedEntry cluster earlier e (node_of a) (clock_start cluster.starts (node_of a)) (deeds_of cluster a earlier)
      (λ x t at. has_body cluster earlier stands a x t node at) (λ x t at. framed.reads a x t node at) act
  node_framed a node same act is =
      entry_framed cluster earlier e (node_of a) (clock_start cluster.starts (node_of a)) (deeds_of cluster a earlier)
      (λ x t at. has_body cluster earlier stands a x t node at) (λ x t at. framed.reads a x t node at) act (node_emitted cluster earlier e s a act node same is)

  out_framed : EachSettles cluster (Step e ∷ earlier) e.emitted.out × ((y : TxnId) → Answered e.emitted.notes y → HasApply cluster (Step e ∷ earlier) e.emitted.out y)
  out_framed = by (is_node e.actor) refl
    where
      by : (b : Bool) → is_node e.actor ≡ b
          → EachSettles cluster (Step e ∷ earlier) e.emitted.out × ((y : TxnId) → Answered e.emitted.notes y → HasApply cluster (Step e ∷ earlier) e.emitted.out y)
      by false store =
          let sent : e.emitted ≡ store_emits cluster.layout e.actor (taken_from (deeds_of cluster e.actor earlier)) s.act =
          s.emitted ∙ ap (λ b. emits_by b cluster e.actor (deeds_of cluster e.actor earlier) s.act) store in (
            subst (λ (m : Emitted). EachSettles cluster (Step e ∷ earlier) m.out) (sym sent) (store_settles cluster (Step e ∷ earlier) e.actor (deeds_of cluster e.actor earlier) s.act),
            (λ y h. absurd (false≢true (sym (ap (λ notes. is_answered y (outcomes_of notes)) (store_is_silent cluster.layout e.actor (deeds_of cluster e.actor earlier) s.act))
                ∙ ap (λ (m : Emitted). is_answered y (outcomes_of m.notes)) (sym sent) ∙ h))),
          )
      by true node =
          let f = node_framed e.actor node refl s.act s.act_is in
          let same = node_emitted cluster earlier e s e.actor s.act node refl s.act_is in (
            subst (λ (m : Emitted). EachSettles cluster (Step e ∷ earlier) m.out) (sym same) f.out,
            subst (λ (m : Emitted). (y : TxnId) → Answered m.notes y → HasApply cluster (Step e ∷ earlier) m.out y) (sym same) f.applied,
          )

  attempt_reads : (a : Actor) (x : TxnId) (t : Attempt) → is_node a ≡ true → attempt_at cluster (Step e ∷ earlier) a x ≡ Some t → ReadsDecided cluster (Step e ∷ earlier) x t
  attempt_reads a x t node =
      deeds_cases cluster a e earlier
      (λ deeds. attempt_of cluster.layout (node_of a) (clock_start cluster.starts (node_of a)) x deeds ≡ Some t → ReadsDecided cluster (Step e ∷ earlier) x t)
      (λ k. reads_still cluster (Step e) earlier x t (framed.reads a x t node k))
      (λ act same is k. (node_framed a node same act is).next x t k)

  step_framed : IsFramedRun cluster (Step e ∷ earlier)
  step_framed =
      record {
        messages = each_append (SettlesDecided cluster (Step e ∷ earlier)) (sent_of earlier) e.emitted.out
            (each_weaker (SettlesDecided cluster earlier) (SettlesDecided cluster (Step e ∷ earlier)) (sent_of earlier) (settles_still cluster (Step e) earlier) framed.messages) out_framed.0;
        applied = λ y h. ⊎_elim
            (λ old. has_apply_kept cluster (Step e) earlier (sent_of earlier) e.emitted.out y (framed.applied y old))
            (λ new. has_apply_now cluster (Step e) earlier (sent_of earlier) e.emitted.out y (out_framed.1 y new))
            (answered_cases (notes_of earlier) e.emitted.notes y h);
        reads = attempt_reads;
      }

quiet_framed : (cluster : Cluster) (item : Item) (earlier : List Item) → sent_in item ≡ [] → noted_in item ≡ []
    → ((a : Actor) → deeds_of cluster a (item ∷ earlier) ≡ deeds_of cluster a earlier) → IsFramedRun cluster earlier → IsFramedRun cluster (item ∷ earlier)
quiet_framed cluster item earlier sent noted deeds framed =
    record {
      messages = each_append (SettlesDecided cluster (item ∷ earlier)) (sent_of earlier) (sent_in item)
          (each_weaker (SettlesDecided cluster earlier) (SettlesDecided cluster (item ∷ earlier)) (sent_of earlier) (settles_still cluster item earlier) framed.messages)
          (subst (EachSettles cluster (item ∷ earlier)) (sym sent) tt);
      applied = λ y h. has_apply_kept cluster item earlier (sent_of earlier) (sent_in item) y (framed.applied y
          (⊎_elim (λ old. old) (λ new. absurd (false≢true (ap (λ notes. is_answered y (outcomes_of notes)) (sym noted) ∙ new)))
          (answered_cases (notes_of earlier) (noted_in item) y h)));
      reads = λ a x t node k. reads_still cluster item earlier x t (framed.reads a x t node
          (ap (attempt_of cluster.layout (node_of a) (clock_start cluster.starts (node_of a)) x) (sym (deeds a)) ∙ k));
    }

pub run_framed : (cluster : Cluster) (items : List Item) → EachStands cluster items → IsFramedRun cluster items
run_framed cluster [] stands = record { messages = tt; applied = λ y h. absurd (false≢true h); reads = λ a x t node k. absurd (not_none t k) }
run_framed cluster (Step e ∷ earlier) stands = step_framed cluster e earlier stands.1 stands.0 (run_framed cluster earlier stands.1)
run_framed cluster (Skipped step cause ∷ earlier) stands = quiet_framed cluster (Skipped step cause) earlier refl refl (λ a. refl) (run_framed cluster earlier stands.1)
run_framed cluster (Down actor ∷ earlier) stands = quiet_framed cluster (Down actor) earlier refl refl (λ a. refl) (run_framed cluster earlier stands.1)
