-- What agreement and coverage say of times, writers and conflicts.
use Rattle.std.proofs.Common.{◌≡◌, ◌==◌, Bool, true, false, ◌||◌, cond, List, [], ◌∷◌, Option, None, Some, refl, sym, ◌∙◌, ap, subst, ◌⊎◌, inl, inr, ⊎_elim}
use Rattle.std.specs.List.{AllByRecursion}
use Rattle.std.proofs.lemmas.Bool.{true≢false, or_from, or_right, cases_Bool, cond_both, cond-true, eq-eqb}
use Rattle.acc_stamp.specs.declared.stamps.Stamp.{Stamp}
use Rattle.acc_stamp.specs.declared.stamps.TxnId.{TxnId}
use Rattle.acc_stamp.specs.Stamp.{id_eq, stamp_lt}
use Rattle.acc_stamp.proofs.Order.{id_order, stamp_order}
use Rattle.acc_topology.specs.Layout.{IsLayout}
use Rattle.acc_topology.specs.Keys.{shard_of_key, share_of}
use Rattle.acc_deps.specs.declared.shards.ShardDeps.{ShardDeps}
use Rattle.acc_deps.specs.declared.records.Settled.{Settled}
use Rattle.acc_value.specs.declared.key.Key.{Key}
use Rattle.acc_value.specs.Pairs.{find}
use Rattle.acc_value.proofs.Rising.{find-filter}
use Rattle.acc_value.proofs.Clash.{clashes-at}
use Rattle.acc_txn.specs.declared.parts.BodyParts.{BodyParts}
use Rattle.acc_txn.specs.declared.outcome.Outcome.{Outcome}
use Rattle.acc_txn.specs.Uses.{is_read, is_updated, footprint_of}
use Rattle.acc_txn.proofs.UsesFacts.{find-footprint_of}
use Rattle.acc_base.specs.Faults.{or_else}
use Rattle.acc_message.specs.declared.message.Message.{Message}
use Rattle.acc_message.specs.declared.message.Message.TheVariants.{PreAccept, Apply}
use Rattle.acc_message.specs.declared.item.Item.{Item}
use Rattle.acc_message.specs.Fields.{id_of}
use Rattle.acc_message.specs.Items.{sent_of, notes_of}
use Rattle.acc_message.specs.Shares.{conflict_in}
use Rattle.acc_message.specs.BallotRules.{settled_in, outcome_in}
use Rattle.acc_message.specs.Run.{Cluster}
use Rattle.acc_safety.specs.Decisions.{Decision, decisions_of, body_of}
use Rattle.acc_safety.specs.Agreement.{Agreement}
use Rattle.acc_safety.specs.Coverage.{Coverage}
use Rattle.acc_safety.specs.Polls.{IsBody}
use Rattle.acc_safety_laws.proofs.Cell.{Cell}
use Rattle.acc_actor_laws.proofs.Standing.{not_none}
use Rattle.acc_safety.specs.Places.{IsIn, First, Later}
use Rattle.acc_safety.proofs.PlaceOrder.{none_is_in, IsIn-cases, Contains-IsIn, IsIn-Contains}
use Rattle.acc_safety_laws.proofs.Notions.{time_among, first_apply, written_at, uses, IsDecision, time_of, IsDecided, outcome_first, wrote, Below, SettlesDecided}

-- what the proof of serial outcomes starts from
pub record Premises (cluster : Cluster) (whole : List Item) : Type 0 where
  pub layout : IsLayout cluster.layout
  pub agreement : Agreement whole
  pub coverage : Coverage cluster whole
  pub settled : AllByRecursion (SettlesDecided cluster whole) (sent_of whole)

-- ---- times

time_is_that : (decisions : List Decision) (x : TxnId) (t : Stamp) → ((d : Decision) → IsIn d decisions → d.id ≡ x → d.t ≡ t)
    → (d : Decision) → IsIn d decisions → d.id ≡ x → time_among decisions x ≡ t
time_is_that [] x t all d h is = absurd (none_is_in d h)
time_is_that (e ∷ decisions) x t all d h is =
    cond_both (id_eq e.id x) e.t (time_among decisions x) (λ s. s ≡ t)
    (λ same. all e (First e decisions) ((id_order.decides e.id x).0 same))
    (λ other. ⊎_elim (λ first. absurd (true≢false (sym ((id_order.decides e.id x).1 (ap (λ (k : Decision). k.id) (sym first) ∙ is)) ∙ other)))
    (λ later. time_is_that decisions x t (λ k in' same. all k (Later k e decisions in') same) d later is)
    (IsIn-cases d e decisions h))

pub or_else_cases : {T : Type 0} (a b : Option T) (x : T) → or_else a b ≡ Some x → (a ≡ Some x) ⊎ (b ≡ Some x)
or_else_cases None b x e = inr e
or_else_cases (Some y) b x e = inl e

module _ (cluster : Cluster) (whole : List Item) (given : Premises cluster whole) where
  pub time_is : (x : TxnId) (t : Stamp) (deps : List ShardDeps) → IsDecision cluster whole x t deps → time_of cluster whole x ≡ t
  time_is x t deps h =
      let mine : Decision = record { id = x; t = t; deps = deps } in
      time_is_that (decisions_of (notes_of whole)) x t (λ d in' same. (given.agreement d mine (IsIn-Contains d (decisions_of (notes_of whole)) in') h).same same) mine (Contains-IsIn mine (decisions_of (notes_of whole)) h) refl

  pub decided_from : (x : TxnId) (t : Stamp) (deps : List ShardDeps) → IsDecision cluster whole x t deps → IsDecided cluster whole x
  decided_from x t deps h = (deps, subst (λ s. IsDecision cluster whole x s deps) (sym (time_is x t deps h)) h)

  -- those that are decided have timestamps of their own
  pub own_times : (y z : TxnId) → IsDecided cluster whole y → IsDecided cluster whole z → time_of cluster whole y ≡ time_of cluster whole z → y ≡ z
  own_times y z first second same =
      ⊎_elim (λ is. (id_order.decides y z).0 is)
      (λ other. absurd ((given.agreement _ _ first.1 second.1).different (λ is. true≢false (sym ((id_order.decides y z).1 is) ∙ other)) same))
      (cases_Bool (id_eq y z))

  -- ---- what is applied is decided

  outcome_settles : (m : Message) (x : TxnId) (o : Outcome) → outcome_in x m ≡ Some o → (s : Settled) × (settled_in (id_of m) m ≡ Some s) × (id_of m ≡ x)
  outcome_settles (Apply from to id ballot body t deps outcome) x o e =
      (record { t = t; deps = deps }, cond-true (id_eq id id) _ None ((id_order.decides id id).1 refl), (id_order.decides id x).0 (by (id_eq id x) e))
    where
      by : (b : Bool) → cond b (Some outcome) None ≡ Some o → b ≡ true
      by true e = refl
      by false e = absurd (not_none o e)
  outcome_settles (PreAccept from to id ballot body) x o e = absurd (not_none o e)
  outcome_settles _ x o e = absurd (not_none o e)

  apply_decided : (ms : List Message) (x : TxnId) (o : Outcome) → AllByRecursion (SettlesDecided cluster whole) ms → first_apply ms x ≡ Some o → IsDecided cluster whole x
  apply_decided [] x o each e = absurd (not_none o e)
  apply_decided (m ∷ ms) x o each e =
      ⊎_elim
      (λ here. let found = outcome_settles m x o here in
      subst (IsDecided cluster whole) found.2 (decided_from (id_of m) found.0.t found.0.deps (each.0 found.0 found.1)))
      (apply_decided ms x o each.1) (or_else_cases (outcome_in x m) (first_apply ms x) o e)

  -- ---- what is written

  -- a transaction wrote the cell to the key
  pub record Wrote (x : TxnId) (key : Key) (cell : Cell) : Type 0 where
    pub body : BodyParts
    pub body_is : IsBody cluster whole x body
    pub outcome : Outcome
    pub outcome_is : outcome_first cluster whole x ≡ Some outcome
    pub updates : is_updated body key ≡ true
    pub found : find outcome.writes key ≡ Some cell
    pub decided : IsDecided cluster whole x

  pub wrote_tells : (x : TxnId) (key : Key) (cell : Cell) → wrote cluster whole x key ≡ Some cell → Wrote x key cell
  wrote_tells x key cell = by (body_of cluster whole x) (outcome_first cluster whole x) refl refl
    where
      by : (b : Option BodyParts) (o : Option Outcome) → body_of cluster whole x ≡ b → outcome_first cluster whole x ≡ o
          → written_at b o key ≡ Some cell → Wrote x key cell
      by None o is made e = absurd (not_none cell e)
      by (Some body) None is made e = absurd (not_none cell e)
      by (Some body) (Some outcome) is made e =
          cond_both (is_updated body key) (find outcome.writes key) None (λ c. c ≡ Some cell → Wrote x key cell)
          (λ updates found. record {
            body = body;
            body_is = is;
            outcome = outcome;
            outcome_is = made;
            updates = updates;
            found = found;
            decided = apply_decided (sent_of whole) x outcome given.settled made;
          })
          (λ _ none. absurd (not_none cell none)) e

  -- ---- conflicts

  found_in_share : (body : BodyParts) (key : Key) (w : Bool) → find (footprint_of body) key ≡ Some w
      → find (share_of cluster.layout (footprint_of body) (shard_of_key cluster.layout key)) key ≡ Some w
  found_in_share body key w e =
      find-filter (λ k. shard_of_key cluster.layout k == shard_of_key cluster.layout key) (footprint_of body) key
      ∙ cond-true (shard_of_key cluster.layout key == shard_of_key cluster.layout key) (find (footprint_of body) key) None (eq-eqb (shard_of_key cluster.layout key) (shard_of_key cluster.layout key) refl)
      ∙ e

  pub updated_is_found : (body : BodyParts) (key : Key) → is_updated body key ≡ true → find (footprint_of body) key ≡ Some true
  updated_is_found body key h = find-footprint_of body key ∙ cond-true (is_updated body key) (Some true) (cond (is_read body key) (Some false) None) h

  pub used_is_found : (body : BodyParts) (key : Key) → uses body key ≡ true → (w : Bool) × (find (footprint_of body) key ≡ Some w)
  used_is_found body key h =
      cond_both (is_updated body key) (Some true) (cond (is_read body key) (Some false) None)
      (λ o. find (footprint_of body) key ≡ o → (w : Bool) × (find (footprint_of body) key ≡ Some w))
      (λ _ e. (true, e))
      (λ no. cond_both (is_read body key) (Some false) None (λ o. find (footprint_of body) key ≡ o → (w : Bool) × (find (footprint_of body) key ≡ Some w))
      (λ _ e. (false, e))
      (λ not_read _. absurd (true≢false (sym h ∙ or_from (is_read body key) (is_updated body key) not_read no))))
      (find-footprint_of body key)

  conflict_at : (a b : BodyParts) (key : Key) (v w : Bool) → find (footprint_of a) key ≡ Some v → find (footprint_of b) key ≡ Some w → (v || w) ≡ true
      → conflict_in cluster.layout (shard_of_key cluster.layout key) a b ≡ true
  conflict_at a b key v w first second writes =
      clashes-at (share_of cluster.layout (footprint_of a) (shard_of_key cluster.layout key)) (share_of cluster.layout (footprint_of b) (shard_of_key cluster.layout key))
      key v w (found_in_share a key v first) (found_in_share b key w second) writes

  below_at : (y x : TxnId) (a b : BodyParts) (key : Key) (v w : Bool) → IsBody cluster whole y a → IsBody cluster whole x b
      → find (footprint_of a) key ≡ Some v → find (footprint_of b) key ≡ Some w → (v || w) ≡ true → IsDecided cluster whole y → IsDecided cluster whole x
      → stamp_lt (time_of cluster whole y) (time_of cluster whole x) ≡ true → Below cluster whole (shard_of_key cluster.layout key) y x
  below_at y x a b key v w first_is second_is found found_too writes first second earlier =
      record {
        conflict = record {
          first = a;
          second = b;
          first_is = first_is;
          second_is = second_is;
          different = λ same. true≢false (sym earlier ∙ ap (λ z. stamp_lt (time_of cluster whole z) (time_of cluster whole x)) same ∙ stamp_order.irrefl (time_of cluster whole x));
          conflict = conflict_at a b key v w found found_too writes;
        };
        first = first;
        second = second;
        earlier = earlier;
      }

  -- a writer of a key and one that uses it
  pub writer_below : (y x : TxnId) (body : BodyParts) (key : Key) (cell : Cell) → wrote cluster whole y key ≡ Some cell → IsBody cluster whole x body → uses body key ≡ true
      → IsDecided cluster whole x → stamp_lt (time_of cluster whole y) (time_of cluster whole x) ≡ true → Below cluster whole (shard_of_key cluster.layout key) y x
  writer_below y x body key cell w body_is used decided earlier =
      let made = wrote_tells y key cell w in
      let found = used_is_found body key used in
      below_at y x made.body body key true found.0 made.body_is body_is (updated_is_found made.body key made.updates) found.1 refl made.decided decided earlier

  pub below_writer : (y x : TxnId) (body : BodyParts) (key : Key) (cell : Cell) → wrote cluster whole y key ≡ Some cell → IsBody cluster whole x body → uses body key ≡ true
      → IsDecided cluster whole x → stamp_lt (time_of cluster whole x) (time_of cluster whole y) ≡ true → Below cluster whole (shard_of_key cluster.layout key) x y
  below_writer y x body key cell w body_is used decided later =
      let made = wrote_tells y key cell w in
      let found = used_is_found body key used in
      below_at x y body made.body key found.0 true body_is made.body_is found.1 (updated_is_found made.body key made.updates) (or_right found.0 true refl) decided made.decided later
