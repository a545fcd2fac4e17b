-- What messages to all stores ask for.
use Rattle.std.proofs.Common.{◌≡◌, ◌<◌, true, false, cond, List, [], ◌∷◌, ◌++◌, length, map, Option, None, Some, refl, ◌∙◌, ap, arith}
use Rattle.acc_base.specs.Faults.{or_else}
use Rattle.acc_stamp.specs.declared.stamps.TxnId.{TxnId}
use Rattle.acc_stamp.specs.declared.actors.Actor.{Actor}
use Rattle.acc_message.specs.declared.message.Message.{Message}
use Rattle.acc_message.specs.Fields.{is_about}
use Rattle.acc_message.specs.Attempts.{Phase}
use Rattle.acc_world.specs.Told.{phase_asked, asked_in}

pub asked_all : (x : TxnId) (message_to : Actor → Message) (phase : Phase) → ((store : Actor) → is_about x (message_to store) ≡ true)
    → ((store : Actor) → phase_asked (message_to store) ≡ Some phase) → (stores : List Actor) → 0 < length stores
    → asked_in x (map message_to stores) ≡ Some phase
asked_all x message_to phase about asks [] some = absurd (omega arith)
asked_all x message_to phase about asks (store ∷ stores) some =
    ap (λ b. or_else (cond b (phase_asked (message_to store)) None) (asked_in x (map message_to stores))) (about store)
    ∙ ap (λ o. or_else o (asked_in x (map message_to stores))) (asks store)

pub asked_none : (x : TxnId) (message_to : Actor → Message) → ((store : Actor) → is_about x (message_to store) ≡ false) → (stores : List Actor)
    → asked_in x (map message_to stores) ≡ None
asked_none x message_to apart [] = refl
asked_none x message_to apart (store ∷ stores) =
    ap (λ b. or_else (cond b (phase_asked (message_to store)) None) (asked_in x (map message_to stores))) (apart store)
    ∙ asked_none x message_to apart stores

pub asked_neither : (x : TxnId) (messages more : List Message) → asked_in x messages ≡ None → asked_in x more ≡ None
    → asked_in x (messages ++ more) ≡ None
asked_neither x [] more none others = others
asked_neither x (m ∷ messages) more none others = by (cond (is_about x m) (phase_asked m) None) none (λ h. asked_neither x messages more h others)
  where
    by : (here : Option Phase) → or_else here (asked_in x messages) ≡ None → (asked_in x messages ≡ None → asked_in x (messages ++ more) ≡ None)
        → or_else here (asked_in x (messages ++ more)) ≡ None
    by None h rest = rest h
    by (Some phase) h rest = h
