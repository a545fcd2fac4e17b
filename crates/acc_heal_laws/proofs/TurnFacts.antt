-- What stays true of a transaction while items are added: its body, its stable record, that it was applied.
use Rattle.std.proofs.Common.{◌≡◌, ℕ, ◌<◌, ◌≤◌, Bool, true, false, ◌||◌, cond, List, [], ◌∷◌, ◌++◌, length, Option, None, Some, is_some, refl, sym, ◌∙◌, ap, subst, arith, ◌⊎◌, inl, inr}
use Rattle.std.specs.List.{list_any}
use Rattle.std.proofs.lemmas.Bool.{true≢false, or_left, or_right, cases_Bool}
use Rattle.std.proofs.lemmas.List.{append_assoc}
use Rattle.acc_message.specs.NodeRules.{Act}
use Rattle.acc_stamp.specs.declared.stamps.Stamp.{Stamp}
use Rattle.acc_deps.specs.declared.shards.ShardDeps.{ShardDeps}
use Rattle.acc_txn.specs.declared.outcome.Outcome.{Outcome}
use Rattle.acc_message.specs.declared.message.Message.{Message}
use Rattle.acc_message.specs.declared.message.Message.TheVariants.{Stable, Apply}
use Rattle.std.specs.Prelude.{nat_lt}
use Rattle.std.proofs.lemmas.List.Folds.{list_any-append}
use Rattle.acc_base.specs.Faults.{or_else}
use Rattle.acc_stamp.specs.declared.stamps.TxnId.{TxnId}
use Rattle.acc_stamp.specs.declared.stamps.Ballot.{Ballot}
use Rattle.acc_stamp.specs.declared.actors.Actor.{Actor}
use Rattle.acc_stamp.specs.Actor.{node_of}
use Rattle.acc_stamp.specs.Stamp.{id_eq, ballot_eq}
use Rattle.acc_stamp.specs.Rising.{ballot_among}
use Rattle.acc_stamp.proofs.Order.{id_order, ballot_order, eq_itself}
use Rattle.acc_deps.specs.declared.records.Settled.{Settled}
use Rattle.acc_txn.specs.declared.parts.BodyParts.{BodyParts}
use Rattle.acc_message.specs.declared.item.Item.{Item}
use Rattle.acc_message.specs.declared.note.Note.{Note}
use Rattle.acc_message.specs.declared.note.Note.TheVariants.{Begin as BeginNote}
use Rattle.acc_message.specs.Items.{begins, sent_of, notes_of, txn_in, txn_of}
use Rattle.acc_message.specs.Taken.{Taken}
use Rattle.acc_message.specs.BallotRules.{stable_of, kept_outcome, outcome_in}
use Rattle.acc_message.specs.StoreRules.{stable_ballots}
use Rattle.acc_message.specs.Run.{Cluster, clock_start, EachStands}
use Rattle.acc_actor_laws.proofs.Standing.{not_none}
use Rattle.acc_safety.specs.Calm.{item_takes}
use Rattle.acc_safety.specs.Decisions.{body_at, body_of}
use Rattle.acc_safety.specs.Places.{IsIn, IsPast, Whole, Behind, StandsAt, Here, Back}
use Rattle.acc_safety.specs.Histories.{NotedBy}
use Rattle.acc_safety.specs.Polls.{IsBody}
use Rattle.acc_safety.specs.NodeMoves.{NodeNotes, NotesBegin, NotesRecover, NotesDecision, NotesOutcome, NotesReply, NotesTold, NotesBlocked, NotesEnded}
use Rattle.acc_safety.proofs.PlaceOrder.{passing}
use Rattle.acc_safety.proofs.Bridge.{noted_by}
use Rattle.acc_safety.proofs.BodiesBegun.{begins_is, begin_body}
use Rattle.acc_safety.proofs.Frame.{node_noted}
use Rattle.acc_safety_laws.proofs.Noted.{noting}
use Rattle.acc_calm.proofs.ZeroBallots.{asked_with}
use Rattle.acc_calm.proofs.Finished.{took_stable as taken_is_stable}
use Rattle.acc_delivered.specs.Stretches.{TakesAll}
use Rattle.acc_heal_laws.specs.Healed.{was_begun}

-- ---- bodies

pub kept_first : {T : Type 0} (o p : Option T) (t : T) → o ≡ Some t → or_else o p ≡ Some t
kept_first o p t is = ap (λ q. or_else q p) is

pub txn_still : (x : TxnId) (past items : List Item) (txn : ℕ) → IsPast past items → txn_of past x ≡ Some txn → txn_of items x ≡ Some txn
txn_still x past items txn (Whole xs) is = is
txn_still x past items txn (Behind item ys xs there) is = kept_first (txn_of xs x) (txn_in x item) txn (txn_still x ys xs txn there is)

pub body_still : (cluster : Cluster) (past items : List Item) (x : TxnId) (body : BodyParts) → IsPast past items → IsBody cluster past x body → IsBody cluster items x body
body_still cluster past items x body within is = by (txn_of past x) refl is
  where
    by : (o : Option ℕ) → txn_of past x ≡ o → body_at cluster o ≡ Some body → body_of cluster items x ≡ Some body
    by None none k = absurd (not_none body k)
    by (Some txn) was k = ap (body_at cluster) (txn_still x past items txn within was) ∙ k

-- what was begun has a body
pub begun_has_body : (cluster : Cluster) (items : List Item) (x : TxnId) → EachStands cluster items → was_begun x items ≡ true → (body : BodyParts) × IsBody cluster items x body
begun_has_body cluster items x h begun =
    let p = passing (begins x) (notes_of items) begun in
    let note_is = begins_is x p.element p.passes in
    let n = noted_by cluster items (BeginNote x) h (noting items (BeginNote x) (subst (λ k. IsIn k (notes_of items)) note_is p.there)) in
    by n (BeginNote x) refl (node_noted cluster items (BeginNote x) h n)
  where
    same_id : {y z : TxnId} → BeginNote y ≡ BeginNote z → y ≡ z
    same_id e = cc

    by : (n : NotedBy cluster items (BeginNote x)) (note : Note) → note ≡ BeginNote x
        → NodeNotes cluster.layout (node_of n.actor) (clock_start cluster.starts (node_of n.actor)) n.past n.deed.act note → (body : BodyParts) × IsBody cluster items x body
    by n note is notes = of_note n n.deed.act refl note is notes
      where
        of_note : (n : NotedBy cluster items (BeginNote x)) (act : Act) → n.deed.act ≡ act → (note : Note) → note ≡ BeginNote x
            → NodeNotes cluster.layout (node_of n.actor) (clock_start cluster.starts (node_of n.actor)) n.past act note → (body : BodyParts) × IsBody cluster items x body
        of_note n act act_is note is (NotesBegin txn body) =
            (body, subst (λ y. IsBody cluster items y body) (same_id is) (begin_body cluster items h n.actor n.is_node n.deed n.past txn body n.at act_is))
        of_note n act act_is note is (NotesRecover y body) = absurd (grind arith)
        of_note n act act_is note is (NotesDecision on y k path s reacts) = absurd (grind arith)
        of_note n act act_is note is (NotesOutcome on y k s outcome reacts) = absurd (grind arith)
        of_note n act act_is note is (NotesReply on y k s outcome reacts client) = absurd (grind arith)
        of_note n act act_is note is (NotesTold from to y d outcome client) = absurd (grind arith)
        of_note n act act_is note is (NotesBlocked on y k ids reacts) = absurd (grind arith)
        of_note n act act_is note is (NotesEnded on y k above reacts) = absurd (grind arith)

-- ---- stable and kept

pub some_still : {T : Type 0} (o p : Option T) → is_some o ≡ true → is_some (or_else o p) ≡ true
some_still None p h = absurd (true≢false (sym h))
some_still (Some t) p h = refl

pub outcome_still : (past history : List Taken) (x : TxnId) → IsPast past history → is_some (kept_outcome past x) ≡ true → is_some (kept_outcome history x) ≡ true
outcome_still past history x (Whole xs) h = h
outcome_still past history x (Behind step ys xs there) h = some_still (kept_outcome xs x) (outcome_in x step.message) (outcome_still ys xs x there h)

-- a store that kept an outcome took an Apply
pub record TookApply (history : List Taken) (x : TxnId) : Type 0 where
  pub step : Taken
  pub past : List Taken
  pub at : StandsAt step past history
  pub from : Actor
  pub to : Actor
  pub ballot : Ballot
  pub body : BodyParts
  pub t : Stamp
  pub deps : List ShardDeps
  pub outcome : Outcome
  pub message_is : step.message ≡ Apply from to x ballot body t deps outcome

pub took_back : (step : Taken) (past : List Taken) (x : TxnId) → TookApply past x → TookApply (step ∷ past) x
took_back step past x k =
    record {
      step = k.step;
      past = k.past;
      at = Back k.step step k.past past k.at;
      from = k.from;
      to = k.to;
      ballot = k.ballot;
      body = k.body;
      t = k.t;
      deps = k.deps;
      outcome = k.outcome;
      message_is = k.message_is;
    }

pub took_now : (step : Taken) (past : List Taken) (x : TxnId) (m : Message) → step.message ≡ m → is_some (outcome_in x m) ≡ true → TookApply (step ∷ past) x
took_now step past x (Apply from to id ballot body t deps outcome) is h = by (id_eq id x) refl h
  where
    by : (o : Bool) → id_eq id x ≡ o → is_some (cond o (Some outcome) None) ≡ true → TookApply (step ∷ past) x
    by true same k =
        record {
          step = step;
          past = past;
          at = Here step past;
          from = from;
          to = to;
          ballot = ballot;
          body = body;
          t = t;
          deps = deps;
          outcome = outcome;
          message_is = is ∙ ap (λ y. Apply from to y ballot body t deps outcome) ((id_order.decides id x).0 same);
        }
    by false other k = absurd (true≢false (sym k))
took_now step past x m is h = absurd (true≢false (sym h))

pub took_apply_step : (history : List Taken) (x : TxnId) → is_some (kept_outcome history x) ≡ true → TookApply history x
took_apply_step [] x h = absurd (true≢false (sym h))
took_apply_step (step ∷ past) x h = by (kept_outcome past x) refl h (took_apply_step past x)
  where
    by : (o : Option Outcome) → kept_outcome past x ≡ o → is_some (or_else o (outcome_in x step.message)) ≡ true → (is_some (kept_outcome past x) ≡ true → TookApply past x)
        → TookApply (step ∷ past) x
    by None none k old = took_now step past x step.message refl k
    by (Some kept) was k old = took_back step past x (old (ap is_some was))

-- what an Apply or a Stable was taken of is stable
pub apply_is_stable : (history : List Taken) (x : TxnId) → is_some (kept_outcome history x) ≡ true → is_some (stable_of history x) ≡ true
apply_is_stable history x h =
    let k = took_apply_step history x h in
    let s : Settled = record { t = k.t; deps = k.deps } in
    ap is_some
    (taken_is_stable (Apply k.from k.to x k.ballot k.body k.t k.deps k.outcome) x s (ap (λ o. cond o (Some s) None) (eq_itself id_order x)) history
    (record { step = k.step; past = k.past; at = k.at; message_is = k.message_is })).1

pub ballot_in : (b : Ballot) (bs : List Ballot) → ballot_among b bs ≡ true → IsIn b bs
ballot_in b bs h = let p = passing (λ c. ballot_eq c b) bs h in subst (λ c. IsIn c bs) ((ballot_order.decides p.element b).0 p.passes) p.there

pub stable_is_stable : (history : List Taken) (x : TxnId) (b : Ballot) → ballot_among b (stable_ballots history x) ≡ true → is_some (stable_of history x) ≡ true
stable_is_stable history x b h =
    let k = asked_with x b history (ballot_in b (stable_ballots history x) h) in
    let s : Settled = record { t = k.t; deps = k.deps } in
    ap is_some
    (taken_is_stable (Stable k.from k.to x b k.body k.t k.deps) x s (ap (λ o. cond o (Some s) None) (eq_itself id_order x)) history
    (record { step = k.step; past = k.past; at = k.at; message_is = k.message_is })).1

-- ---- stretches

-- the stretches after the base and after the middle are one
pub takes_both : (base first later : List Item) → TakesAll base first → TakesAll (first ++ base) later → TakesAll base (later ++ first)
takes_both base first later one two number from within =
    list_any-append (item_takes number) later first
    ∙ by (cases_Bool (nat_lt number (length (sent_of (first ++ base)))))
  where
    by : (nat_lt number (length (sent_of (first ++ base))) ≡ true) ⊎ (nat_lt number (length (sent_of (first ++ base))) ≡ false)
        → (list_any (item_takes number) later || list_any (item_takes number) first) ≡ true
    by (inl early) = or_right (list_any (item_takes number) later) (list_any (item_takes number) first) (one number from (less number _ early))
      where
        less : (n k : ℕ) → nat_lt n k ≡ true → n < k
        less n k h = grind arith
    by (inr late) =
        or_left (list_any (item_takes number) later) (list_any (item_takes number) first)
        (two number (not_less number _ late) (subst (λ l. number < length (sent_of l)) (append_assoc later first base) within))
      where
        not_less : (n k : ℕ) → nat_lt n k ≡ false → k ≤ n
        not_less n k h = grind arith
