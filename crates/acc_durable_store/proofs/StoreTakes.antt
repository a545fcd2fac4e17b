-- A message that a store stages and settles at once.
use Rattle.std.proofs.Common.{◌≡◌, ℕ, ◌-◌, List, [], ◌∷◌, ◌++◌, take, append-nil, Vec, Option, Some, refl, sym, ap, subst, ◌∙◌}
use Rattle.std.specs.declared.alloc.Global.{Global}
use Rattle.acc_topology.specs.Layout.{Layout}
use Rattle.acc_ports.specs.declared.disk.Disk.{Ghosts}
use Rattle.acc_message.specs.declared.message.Message.{Message}
use Rattle.acc_payloads.specs.declared.stops.Unsent.{Unsent}
use Rattle.acc_durable_store.specs.declared.name.StoreName.{StoreName}
use Rattle.acc_durable_store.specs.declared.actor.StoreActor.{StoreActor}
use Rattle.acc_payloads.specs.Stops.{Stop, Past, with_step, IsUnsent}
use Rattle.acc_durable_store.specs.Actor.{emits_next, message_stop, StandsFor, Steps, Settles, IsStrictAt}
use Rattle.acc_payloads.proofs.Left.{none_unsent}

-- ---- what was given

module _ {T : Type 0} where
  pub one_there : (x : T) → x ∷ [] ≡ [] → ⊥
  one_there x e = absurd cc

  -- the last one of one
  last_one : (xs : List T) (x only : T) → only ∷ [] ≡ xs ++ x ∷ [] → (xs ≡ []) × (only ≡ x)
  last_one [] x only e = (refl, cc)
  last_one (y ∷ []) x only e = absurd cc
  last_one (y ∷ z ∷ ys) x only e = absurd cc

  -- nothing comes out of an empty list alone
  pub none_left : (xs ys : List T) (n : ℕ) → xs ≡ ys ++ [] → ys ≡ take (n - 1) xs → n ≡ 0 → xs ≡ []
  none_left xs ys n e f g = e ∙ append-nil ys ∙ f ∙ ap (λ (k : ℕ). take (k - 1) xs) g

module _ (layout : Layout) (name : StoreName) (past : Past Message) (number : ℕ) (m : Message) where
  abbrev stop : Stop Message
  stop = message_stop number m

  abbrev IsGiven : List Unsent → Type 0
  IsGiven given = IsUnsent (emits_next layout name.actor) past (stop ∷ []) given

  pub one_given : (given : List Unsent) → IsGiven given → given ≡ [] → ⊥
  one_given given h e = subst IsGiven e h

  only_given : (given xs : List Unsent) (x : Unsent) → IsGiven given → given ≡ xs ++ x ∷ [] → (xs ≡ []) × (x.emitted ≡ emits_next layout name.actor past m)
  only_given [] xs x h e = absurd h
  only_given (only ∷ []) xs x h e =
      let one = last_one xs x only e in
      (one.0, sym (ap (λ (u : Unsent). u.emitted) one.1) ∙ h.1)
  only_given (only ∷ second ∷ others) xs x h e = absurd h.2

  -- ---- what the store is

  module _ {D : Type 0} (port : Ghosts D) (new : StoreActor D) (given : List Unsent) (settles : Settles port layout name past (stop ∷ []) new (Some given)) where
    pub took : (room : Vec Unsent Global) (last : Unsent) → given ≡ room.items ++ last ∷ [] → Steps port layout name past stop (record new { unsent = room }) (Some last.emitted)
    took room last e =
        let one = only_given given room.items last settles.emits e in
        let stands : StandsFor port layout name (with_step past stop) new = settles.stands in
        record {
          emits = one.1;
          stands = record {
            name_is = stands.name_is;
            left = stands.left;
            unsent = none_unsent (emits_next layout name.actor) (with_step past stop) [] room.items refl one.0;
            up = stands.up;
            down = stands.down;
            kept_is = stands.kept_is;
          };
        }

-- over a strict disk: what isn't sent yet makes no difference
pub took_strictly : {D : Type 0} (port : Ghosts D) (layout : Layout) (name : StoreName) (armed passed : Option ℕ) (past : Past Message)
    (actor : StoreActor D) (room : Vec Unsent Global) → IsStrictAt port layout name armed passed past actor
    → IsStrictAt port layout name armed passed past (record actor { unsent = room })
took_strictly port layout name armed passed past actor room at = record { is_strict = at.is_strict; armed_is = at.armed_is; left = at.left }
