-- What the actor of a desk may take next.
use Rattle.std.proofs.Common.{◌≡◌, ℕ, ◌+◌, Bool, true, false, List, [], ◌∷◌, length, map, reverse, take, drop, Option, Some, unwrap_or, refl, sym, ◌∙◌, ap, subst, eq-eqb, inl, inr}
use Rattle.std.specs.Prelude.{All, sum_by}
use Rattle.std.specs.List.{slice_get, list_any}
use Rattle.std.specs.Option.{option_map}
use Rattle.std.proofs.lemmas.Option.{slice_get-map}
use Rattle.std.proofs.lemmas.List.Elements.{All-head}
use Rattle.acc_stamp.specs.declared.stamps.TxnId.{TxnId}
use Rattle.acc_stamp.specs.declared.actors.Actor.{Actor}
use Rattle.acc_stamp.specs.Actor.{actor_of}
use Rattle.acc_topology.specs.Sets.{is_among}
use Rattle.acc_txn.specs.declared.parts.BodyParts.{BodyParts}
use Rattle.acc_ports.specs.declared.disk.Disk.{Ghosts}
use Rattle.acc_message.specs.declared.message.Message.{Message}
use Rattle.acc_message.specs.declared.entry.Event.TheVariants.{Begin as BeginEvent, Recover as RecoverEvent, Message as MessageEvent}
use Rattle.acc_message.specs.declared.item.Item.{Item}
use Rattle.acc_message.specs.Fields.{to_of}
use Rattle.acc_message.specs.Items.{sent_in, message_at, is_begun, id_of_txn}
use Rattle.acc_message.specs.NodeRules.{Begins, Recovers, Takes}
use Rattle.acc_message.specs.Run.{is_down}
use Rattle.acc_message_index.specs.declared.posting.Post.{Post}
use Rattle.acc_safety.proofs.Bridge.{same}
use Rattle.acc_run_laws.specs.Asks.{home_of_txn}
use Rattle.acc_schedule.specs.Content.{Content}
use Rattle.acc_schedule.specs.declared.plan.Step.{Step}
use Rattle.acc_schedule.specs.declared.plan.Step.TheVariants.{Begin, Recover}
use Rattle.acc_pasts.specs.Entries.{MayTake}
use Rattle.acc_pasts.proofs.Standing.{begin_may, recover_may}
use Rattle.acc_schedule_runs.specs.Schedules.{cluster_of}
use Rattle.acc_actors.specs.declared.slot.Slot.{Slot}
use Rattle.acc_free_laws.specs.Commands.{commands_of}
use Rattle.acc_tape.specs.ItemViews.{addressee, taken_by_item, is_lost_item}
use Rattle.acc_tape.specs.Messages.{IsOldest, AreOldest, IsSentBy, posts_in}
use Rattle.acc_desk.specs.Commands.{begins_it}
use Rattle.acc_desk.specs.Desks.{IsAt, MayStep}
use Rattle.acc_desk.proofs.Next.{drop_next, own_command, none_gone}
use Rattle.acc_desk.proofs.Posts.{sent_through, sent_reversed, message_through, untaken_reversed}
use Rattle.acc_desk.proofs.Unbegun.{unbegun}

-- ---- commands

module _ {D : Type 0} (port : Ghosts D) (strict_run : Bool) (plan : Content) (a : Actor) (items : List Item) (slot : Slot D) (commands : List Step) (gone : ℕ)
    (all : commands ≡ commands_of plan a) (at : IsAt port strict_run plan a items slot (drop gone commands)) (up : is_down a items ≡ false) where
  -- a transaction of the actor that none of the commands that went by begins isn't begun
  pub begin_fresh : (txn : ℕ) → slice_get commands gone ≡ Some (Begin txn) → (home : ℕ) → slice_get plan.homes txn ≡ Some home → list_any (begins_it txn) (take gone commands) ≡ false
      → is_begun items txn ≡ false
  begin_fresh txn found home home_is none =
      let cluster = cluster_of plan in
      let mine : a ≡ home_of_txn cluster txn = sym (same (home_of_txn cluster txn) a (own_command plan a commands gone (Begin txn) all found)) in
      let actor_is : a ≡ actor_of home 0 = mine ∙ ap (λ (h : Option ℕ). actor_of (unwrap_or h 0) 0) home_is in
      let passed = none_gone (begins_it txn) commands at.gone.gone gone (all ∙ at.gone.split) none in
      unbegun a txn cluster home home_is actor_is items at.gone.gone at.gone.stop at.gone.went at.serving.free.run.stands passed

  -- the home of a transaction that none of the commands that went by begins
  pub may_begin : (txn : ℕ) → slice_get commands gone ≡ Some (Begin txn) → (home : ℕ) → slice_get plan.homes txn ≡ Some home → (body : BodyParts) → slice_get plan.bodies txn ≡ Some body
      → list_any (begins_it txn) (take gone commands) ≡ false
      → MayStep plan items a (BeginEvent txn) (Begins txn body) (drop gone commands) (drop (gone + 1) commands)
  may_begin txn found home home_is body body_is none =
      let cluster = cluster_of plan in
      let mine : a ≡ home_of_txn cluster txn = sym (same (home_of_txn cluster txn) a (own_command plan a commands gone (Begin txn) all found)) in
      let fresh = begin_fresh txn found home home_is none in
      record {
        up = up;
        may = subst (λ (b : Actor). MayTake cluster items b (BeginEvent txn) (Begins txn body)) (sym mine)
            (begin_may cluster items txn (record { home = home; home_is = home_is; body = body; body_is = body_is }) fresh);
        plain = refl;
        kept = refl;
        untaken = tt;
        turn = inr (Begin txn, drop_next commands gone (Begin txn) found, eq-eqb txn txn refl, refl);
      }

  -- a node, of a transaction that is begun
  pub may_recover : (txn node : ℕ) → slice_get commands gone ≡ Some (Recover txn node) → is_among plan.topology.nodes node ≡ true → (body : BodyParts) → slice_get plan.bodies txn ≡ Some body
      → (id : TxnId) → id_of_txn items txn ≡ Some id
      → MayStep plan items a (RecoverEvent txn) (Recovers id body) (drop gone commands) (drop (gone + 1) commands)
  may_recover txn node found among body body_is id is =
      let cluster = cluster_of plan in
      let mine : a ≡ actor_of node 0 = sym (same (actor_of node 0) a (own_command plan a commands gone (Recover txn node) all found)) in
      record {
        up = up;
        may = subst (λ (b : Actor). MayTake cluster items b (RecoverEvent txn) (Recovers id body)) (sym mine) (recover_may cluster items txn node id body among is body_is);
        plain = refl;
        kept = refl;
        untaken = tt;
        turn = inr (Recover txn node, drop_next commands gone (Recover txn node) found, eq-eqb txn txn refl, refl);
      }

-- ---- messages

-- the oldest message that waits for the actor and has a number from this one on
abbrev pub IsOldestHere : List Item → ℕ → ℕ → Post → Type 0
IsOldestHere seen actor from post = IsOldest taken_by_item (λ item. map addressee (sent_in item)) is_lost_item seen actor from post

goes_there : (ms : List Message) (index actor : ℕ) (m : Message) → slice_get ms index ≡ Some m → slice_get (map addressee ms) index ≡ Some actor → (to_of m).0 ≡ actor
goes_there ms index actor m is to =
    let e : Some (addressee m) ≡ Some actor = sym (slice_get-map addressee ms index ∙ ap (option_map addressee) is) ∙ to in cc

module _ (plan : Content) (a : Actor) (seen : List Item) (from : ℕ) (post : Post) (oldest : IsOldestHere seen a.0 from post) (item : Item) (there : slice_get seen post.place ≡ Some item) (m : Message) (is : slice_get (sent_in item) post.index ≡ Some m) where
  number_is : post.number ≡ sum_by (λ i. length (map addressee (sent_in i))) (take post.place seen) + post.index
  number_is = oldest.stands.3

  -- the item that it names is that at its place
  to_actor : slice_get (map addressee (sent_in item)) post.index ≡ Some a.0
  to_actor =
      let own : oldest.stands.0 ≡ item = (let e : Some oldest.stands.0 ≡ Some item = sym oldest.stands.1 ∙ there in cc) in
      subst (λ (i : Item). slice_get (map addressee (sent_in i)) post.index ≡ Some a.0) own oldest.stands.2

  message_is : message_at (reverse seen) post.number ≡ Some m
  message_is =
      ap (λ (ms : List Message). slice_get ms post.number) (sent_reversed seen)
      ∙ ap (λ n. slice_get (sent_through seen) n) number_is
      ∙ message_through seen post.place post.index item m there is

  -- the oldest message that waits at the tape for an actor that is up
  pub may_take : is_down a (reverse seen) ≡ false → (left : List Step) → MayStep plan (reverse seen) a (MessageEvent post.number) (Takes m) left left
  may_take up left =
      record {
        up = up;
        may = record { act_is = ap (option_map Takes) message_is; place = eq-eqb (to_of m).0 a.0 (goes_there (sent_in item) post.index a.0 m is to_actor) };
        plain = refl;
        kept = refl;
        untaken = untaken_reversed seen post.number ∙ oldest.waits.4;
        turn = inl (refl, refl);
      }

-- ---- what was found

-- the item has this message as the one with this index
abbrev pub HasSent : Item → ℕ → Message → Type 0
HasSent item index m = slice_get (sent_in item) index ≡ Some m

first_found : (seen : List Item) (actor : ℕ) (found : List (Post × Message)) (pair : Post × Message)
    → AreOldest taken_by_item (λ item. map addressee (sent_in item)) is_lost_item seen actor 0 (posts_in found) → All (IsSentBy HasSent seen) found → slice_get found 0 ≡ Some pair
    → IsOldestHere seen actor 0 pair.0 × IsSentBy HasSent seen pair
first_found seen actor [] pair oldest sent is = absurd (cc)
first_found seen actor (x ∷ found) pair oldest sent is =
    let same : x ≡ pair = cc in
    subst (λ (p : Post × Message). IsOldestHere seen actor 0 p.0 × IsSentBy HasSent seen p) same (oldest.0, All-head (IsSentBy HasSent seen) x found sent)

-- the first message that was found is one that an actor that is up may take
pub found_may : (plan : Content) (a : Actor) (seen : List Item) (found : List (Post × Message)) (pair : Post × Message)
    → AreOldest taken_by_item (λ item. map addressee (sent_in item)) is_lost_item seen a.0 0 (posts_in found) → All (IsSentBy HasSent seen) found → slice_get found 0 ≡ Some pair
    → is_down a (reverse seen) ≡ false → (left : List Step) → MayStep plan (reverse seen) a (MessageEvent pair.0.number) (Takes pair.1) left left
found_may plan a seen found pair oldest sent is up left =
    let first = first_found seen a.0 found pair oldest sent is in
    may_take plan a seen 0 pair.0 first.0 first.1.0 first.1.1 pair.1 first.1.2 up left
