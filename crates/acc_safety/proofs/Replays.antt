-- A history in which each step is what the rules say is the replay of what was taken.
use Rattle.std.proofs.Common.{◌≡◌, ℕ, List, [], ◌∷◌, refl, ◌∙◌, ap}
use Rattle.acc_stamp.specs.declared.actors.Actor.{Actor}
use Rattle.acc_topology.specs.Layout.{Layout}
use Rattle.acc_message.specs.declared.message.Message.{Message}
use Rattle.acc_message.specs.declared.entry.Emitted.{Emitted}
use Rattle.acc_message.specs.Taken.{Taken}
use Rattle.acc_message.specs.StoreRules.{store_answer, replay}
use Rattle.acc_message.specs.NodeRules.{Deed, node_emits, node_replay}
use Rattle.acc_actor_laws.specs.TakenAlone.{messages_taken}
use Rattle.acc_safety.specs.RunLaws.{acts_done}
use Rattle.acc_safety.specs.Histories.{EachAnswers, EachEmits}

pub store_is_replay : (layout : Layout) (own : Actor) (history : List Taken) → EachAnswers layout own history
    → history ≡ replay layout own (messages_taken history)
store_is_replay layout own [] h = refl
store_is_replay layout own (step ∷ past) h =
    ap (λ (sent : List Message). record { message = step.message; sent = sent } ∷ past) h.0
    ∙ ap (λ (taken : List Taken). record { message = step.message; sent = store_answer layout own taken step.message } ∷ taken) (store_is_replay layout own past h.1)

pub node_is_replay : (layout : Layout) (node start : ℕ) (deeds : List Deed) → EachEmits layout node start deeds
    → deeds ≡ node_replay layout node start (acts_done deeds)
node_is_replay layout node start [] h = refl
node_is_replay layout node start (deed ∷ past) h =
    ap (λ (e : Emitted). record { act = deed.act; emitted = e } ∷ past) h.0
    ∙ ap (λ (deeds : List Deed). record { act = deed.act; emitted = node_emits layout node start deeds deed.act } ∷ deeds) (node_is_replay layout node start past h.1)
