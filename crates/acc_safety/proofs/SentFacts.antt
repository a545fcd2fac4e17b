-- Each message that is taken was sent by an earlier entry to the actor that takes it.
use Rattle.std.proofs.Common.{◌≡◌, ℕ, zero, suc, arith, List, [], ◌∷◌, ◌++◌, Option, None, Some, Contains, IsTrue, refl, sym, subst, inl, inr, ⊎_elim}
use Rattle.std.specs.List.{slice_get}
use Rattle.std.specs.Option.{option_map}
use Rattle.std.proofs.lemmas.List.Elements.{Contains-append_left, Contains-append_right, Contains-append_cases, Contains-push}
use Rattle.acc_stamp.specs.declared.actors.Actor.{Actor}
use Rattle.acc_message.specs.declared.message.Message.{Message}
use Rattle.acc_message.specs.declared.entry.Entry.{Entry}
use Rattle.acc_message.specs.declared.entry.Event.TheVariants.{Message as TakesMessage}
use Rattle.acc_message.specs.declared.item.Item.{Item}
use Rattle.acc_message.specs.declared.item.Item.TheVariants.{Step}
use Rattle.acc_message.specs.Items.{sent_in, sent_of, message_at}
use Rattle.acc_message.specs.NodeRules.{Act, Takes}
use Rattle.acc_message.specs.Run.{Cluster, act_of, goes_to, MayStand, StandsOn, EachStands}
use Rattle.acc_safety.specs.RunLaws.{IsSentIn, WasSent}
use Rattle.acc_actor_laws.proofs.Standing.{not_none}
use Rattle.acc_actor_laws.proofs.OpeningFacts.{some_is}

get-Contains : (ms : List Message) (number : ℕ) (m : Message) → slice_get ms number ≡ Some m → Contains ms m
get-Contains [] number m e = absurd (not_none m e)
get-Contains (n ∷ ms) zero m e =
    Contains-append_left (n ∷ []) ms m (subst (λ k. Contains (k ∷ []) m) (sym (some_is n m e)) (Contains-push [] m))
get-Contains (n ∷ ms) (suc number) m e = Contains-append_right (n ∷ []) ms m (get-Contains ms number m e)

sent_of-IsSentIn : (items : List Item) (m : Message) → Contains (sent_of items) m → IsSentIn m items
sent_of-IsSentIn [] m h = absurd (empty h)
  where
    empty : Contains [] m → ⊥
    empty h = omega (arith, h.1)
sent_of-IsSentIn (item ∷ earlier) m h =
    ⊎_elim (λ old. inr (sent_of-IsSentIn earlier m old)) inl (Contains-append_cases (sent_of earlier) (sent_in item) m h)

taken : (earlier : List Item) (number : ℕ) (actor : Actor) (act : Act) (o : Option Message) → message_at earlier number ≡ o
    → option_map Takes o ≡ Some act → IsTrue (goes_to actor act) → WasSent earlier number actor
taken earlier number actor act None is e to = absurd (not_none act e)
taken earlier number actor act (Some m) is e to =
    record {
      message = m;
      numbered = is;
      sent = sent_of-IsSentIn earlier m (get-Contains (sent_of earlier) number m is);
      addressed = subst (λ a. IsTrue (goes_to actor a)) (sym (some_is (Takes m) act e)) to;
    }

taken_by : (cluster : Cluster) (earlier : List Item) (e : Entry) (number : ℕ) → e.event ≡ TakesMessage number
    → StandsOn cluster earlier e → WasSent earlier number e.actor
taken_by cluster earlier e number is s =
    taken earlier number e.actor s.act (message_at earlier number) refl
    (subst (λ event. act_of cluster earlier event ≡ Some s.act) is s.act_is)
    (subst (λ event. MayStand cluster earlier e.actor s.act event) is s.place)

pub EachStands-after : (cluster : Cluster) (after rest : List Item) → EachStands cluster (after ++ rest) → EachStands cluster rest
EachStands-after cluster [] rest h = h
EachStands-after cluster (item ∷ after) rest h = EachStands-after cluster after rest h.1

pub messages_were_sent : (cluster : Cluster) (items after earlier : List Item) (e : Entry) (number : ℕ) → EachStands cluster items
    → items ≡ after ++ Step e ∷ earlier → e.event ≡ TakesMessage number → WasSent earlier number e.actor
messages_were_sent cluster items after earlier e number h is takes =
    taken_by cluster earlier e number takes (EachStands-after cluster after (Step e ∷ earlier) (subst (EachStands cluster) is h)).0
