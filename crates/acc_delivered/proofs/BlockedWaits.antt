-- A blocked attempt was told by a store of an older transaction that it awaited.
use Rattle.std.proofs.Common.{◌≡◌, Bool, true, false, not, ◌&&◌, ◌||◌, cond, List, [], ◌∷◌, map, filter, Option, None, Some, refl, sym, ◌∙◌, ap, subst, arith, ⊎_elim}
use Rattle.std.specs.List.{list_any}
use Rattle.std.specs.Prelude.{is_none}
use Rattle.std.proofs.lemmas.Bool.{true≢false, and_parts, or_cases, or_left}
use Rattle.acc_stamp.specs.declared.stamps.TxnId.{TxnId}
use Rattle.acc_stamp.specs.declared.stamps.Ballot.{Ballot}
use Rattle.acc_stamp.specs.declared.actors.Actor.{Actor}
use Rattle.acc_stamp.specs.Actor.{actor_of, node_of, shard_of}
use Rattle.acc_stamp.specs.Stamp.{id_eq, id_lt, stamp_lt, ballot_eq}
use Rattle.acc_stamp.specs.Rising.{id_among}
use Rattle.acc_stamp.proofs.Order.{id_order, ballot_order, eq_itself}
use Rattle.acc_stamp.proofs.Rising.{is_among-union}
use Rattle.acc_topology.specs.Layout.{Layout}
use Rattle.acc_deps.specs.declared.records.View.{View}
use Rattle.acc_deps.specs.declared.records.Accepted.{Accepted}
use Rattle.acc_deps.specs.declared.records.Choice.{Choice}
use Rattle.acc_deps.specs.declared.records.Choice.TheVariants.{Accept as GoAccept, Commit as GoCommit, Stable as GoStable}
use Rattle.acc_deps.specs.Records.{Stably, Claim, waits_of, stably_all, least_stably, highest_claim, claims_of}
use Rattle.acc_txn.specs.declared.parts.BodyParts.{BodyParts}
use Rattle.acc_message.specs.declared.message.Message.{Message}
use Rattle.acc_message.specs.declared.message.Message.TheVariants.{RecoverOk}
use Rattle.acc_message.specs.declared.entry.Emitted.{Emitted}
use Rattle.acc_message.specs.declared.item.Item.{Item}
use Rattle.acc_message.specs.declared.note.Note.{Note}
use Rattle.acc_message.specs.declared.note.Note.TheVariants.{Begin as BeginNote, Recover as RecoverNote, Blocked, Ended, Decide as DecideNote, Outcome as OutcomeNote, Reply as ReplyNote}
use Rattle.acc_message.specs.declared.note.Path.TheVariants.{Adopted}
use Rattle.acc_message.specs.Fields.{from_of, id_of, ballot_of}
use Rattle.acc_message.specs.Items.{notes_of}
use Rattle.acc_message.specs.Shares.{is_store_of, conflict_in}
use Rattle.acc_message.specs.Taken.{Taken, taking, Heard, known, rivals}
use Rattle.acc_message.specs.BallotRules.{is_recover_ok, accepted_of, stable_of}
use Rattle.acc_message.specs.Evidence.{accepted_above, is_awaited}
use Rattle.acc_message.specs.Attempts.{Attempt, Recovering, fits, counts, majority_everywhere, may_be_fast_everywhere, greatest_vote, union_of}
use Rattle.acc_message.specs.RecoveryDecision.{Ruling, Go, Blocks, views_in, unless_blocked, without_records, by_claim, by_stable, recovery_decision}
use Rattle.acc_message.specs.Coordinator.{Reaction, when, slow_down, may_slow_down, slow_reaction, with_answer, follow_ruling, after_answer, on_message, reaction}
use Rattle.acc_message.specs.NodeRules.{Act, Takes, Deed, attempt_of, is_open, emitted_by, with_reply, node_emits}
use Rattle.acc_message.specs.Run.{Cluster, clock_start, deeds_of, taken_of, is_node}
use Rattle.acc_safety.specs.Places.{IsIn, First, Later, StandsAt}
use Rattle.acc_safety.specs.Polls.{IsBody, AreAnswers}
use Rattle.acc_safety.specs.Attempted.{kind_of}
use Rattle.acc_safety.specs.NodeMoves.{BlockBy, IsBlocked, Hears, Counts, Reacts, ToSlow, ToMessage, NodeNotes, NotesBegin, NotesRecover, NotesDecision, NotesOutcome, NotesReply, NotesTold, NotesBlocked, NotesEnded}
use Rattle.acc_safety.specs.Valid.{IsStanding}
use Rattle.acc_safety.proofs.PlaceOrder.{passing, none_is_in, only, IsIn-map, IsIn-filter, StandsAt-IsPast}
use Rattle.acc_safety.proofs.Bridge.{each_emits, emits_at, noted_by}
use Rattle.acc_safety.proofs.BodiesBegun.{attempt_body}
use Rattle.acc_safety.proofs.Frame.{past_of, bodies_are_begun, node_noted}
use Rattle.acc_safety.proofs.Meetings.{are_rivals}
use Rattle.acc_safety.proofs.Polled.{moving_polled}
use Rattle.acc_safety_laws.proofs.Knowing.{known_itself, body_known-past}
use Rattle.acc_safety_laws.proofs.Noted.{noting}
use Rattle.acc_safety_laws.proofs.Polled.{known_body}
use Rattle.acc_safety_laws.proofs.Revealed.{view_from, view_there}
use Rattle.acc_delivered.specs.Ends.{tells_blocked, is_blocked}
use Rattle.acc_delivered.specs.Laws.{HasWaited, BlockedHaveWaited}
use Rattle.acc_delivered.proofs.Courses.{is_inform}
use Rattle.acc_delivered.proofs.Asked.{taking_reacts}

-- ---- a ruling that blocks has something to wait for

unless_waits : (x : TxnId) (answers : List Message) (waits : List TxnId) (ids : List TxnId) → unless_blocked x answers waits ≡ Blocks ids → (z : TxnId) × (zs : List TxnId) × (waits ≡ z ∷ zs)
unless_waits x answers [] ids is = absurd (go_is_none is)
  where
    go_is_none : {c : Choice} → Go c ≡ Blocks ids → ⊥
    go_is_none e = cc
unless_waits x answers (z ∷ zs) ids is = (z, zs, refl)

blocks_waits : (layout : Layout) (x : TxnId) (body : BodyParts) (answers : List Message) (ids : List TxnId) → recovery_decision layout x body answers ≡ Blocks ids
    → (z : TxnId) × (zs : List TxnId) × (waits_of (views_in answers) ≡ z ∷ zs)
blocks_waits layout x body answers ids is =
    by_stables (least_stably (stably_all (views_in answers))) (by_claim (highest_claim (claims_of (views_in answers))) (without_records layout x body answers)) is
    (λ rest.
    by_claims (highest_claim (claims_of (views_in answers))) (without_records layout x body answers) rest
    (λ k.
    by_cond (GoAccept (record { t = greatest_vote x answers; deps = union_of x answers })) (unless_blocked x answers (waits_of (views_in answers))) (not (may_be_fast_everywhere layout x body answers) || list_any (λ (v : View). v.superseded) (views_in answers)) k
    (λ blocked. unless_waits x answers (waits_of (views_in answers)) ids blocked)))
  where
    go_is_none : {c : Choice} → Go c ≡ Blocks ids → ⊥
    go_is_none e = cc

    by_stables : (o : Option Stably) (r : Ruling) → by_stable o r ≡ Blocks ids → (r ≡ Blocks ids → (z : TxnId) × (zs : List TxnId) × (waits_of (views_in answers) ≡ z ∷ zs))
        → (z : TxnId) × (zs : List TxnId) × (waits_of (views_in answers) ≡ z ∷ zs)
    by_stables None r e k = k e
    by_stables (Some s) r e k = absurd (go_is_none e)

    by_claims : (o : Option Claim) (r : Ruling) → by_claim o r ≡ Blocks ids → (r ≡ Blocks ids → (z : TxnId) × (zs : List TxnId) × (waits_of (views_in answers) ≡ z ∷ zs))
        → (z : TxnId) × (zs : List TxnId) × (waits_of (views_in answers) ≡ z ∷ zs)
    by_claims None r e k = k e
    by_claims (Some c) r e k = absurd (go_is_none e)

    by_cond : (c : Choice) (r : Ruling) (o : Bool) → cond o (Go c) r ≡ Blocks ids → (r ≡ Blocks ids → (z : TxnId) × (zs : List TxnId) × (waits_of (views_in answers) ≡ z ∷ zs))
        → (z : TxnId) × (zs : List TxnId) × (waits_of (views_in answers) ≡ z ∷ zs)
    by_cond c r true e k = absurd (go_is_none e)
    by_cond c r false e k = k e

-- some view waits for it
waits_from : (z : TxnId) (views : List View) → id_among z (waits_of views) ≡ true → (view : View) × IsIn view views × (id_among z view.waits ≡ true)
waits_from z [] h = absurd (true≢false (sym h))
waits_from z (v ∷ views) h =
    ⊎_elim (λ rest. let r = waits_from z views rest in (r.0, Later r.0 v views r.1, r.2)) (λ here. (v, First v views, here))
    (or_cases (id_among z (waits_of views)) (id_among z v.waits) (sym (is_among-union id_order z (waits_of views) v.waits) ∙ h))

-- ---- the reaction that blocks

recover_message : (layout : Layout) (own : Actor) (x : TxnId) (before : Attempt) (m : Message) → fits Recovering m ≡ true
    → (on_message layout own x before m ≡ when (counts layout before m) (λ a. after_answer layout own x (with_answer a m) a.phase) before) × (is_inform m ≡ false)
recover_message layout own x before (RecoverOk from to id ballot view) h = (refl, refl)
recover_message layout own x before m h = absurd (true≢false (sym h))

module _ (layout : Layout) (own : Actor) (x : TxnId) (before : Attempt) (m : Message) (same : ballot_of m ≡ before.ballot) (counting : counts layout before m ≡ true)
    (phase : before.phase ≡ Recovering) (major : majority_everywhere layout x before.body (m ∷ before.answers) ≡ true) where
  abbrev more : Attempt
  more = with_answer before m

  fit : fits Recovering m ≡ true
  fit =
      subst (λ p. fits p m ≡ true) phase
      (and_parts (fits before.phase m) (is_store_of layout before.body (from_of m)) (and_parts (fits before.phase m && is_store_of layout before.body (from_of m)) _ counting).0).0

  pub no_inform : is_inform m ≡ false
  no_inform = (recover_message layout own x before m fit).1

  pub follows_ruling : reaction layout own x before m ≡ follow_ruling layout own x more (recovery_decision layout x before.body (m ∷ before.answers))
  follows_ruling =
      ap (λ o. when o (λ a. on_message layout own x a m) before) ((ballot_order.decides (ballot_of m) before.ballot).1 same)
      ∙ (recover_message layout own x before m fit).0
      ∙ ap (λ o. when o (λ a. after_answer layout own x (with_answer a m) a.phase) before) counting
      ∙ ap (λ p. after_answer layout own x more p) phase
      ∙ ap (λ o. when o (λ a. follow_ruling layout own x a (recovery_decision layout x a.body a.answers)) more) major

-- a note that tells of a block comes of a ruling that blocks
ruled_blocked : (layout : Layout) (own : Actor) (x : TxnId) (a : Attempt) (client : Bool) (r : Ruling) (y : TxnId) (b : Ballot) (by : List TxnId)
    → IsIn (Blocked y b by) (with_reply client (follow_ruling layout own x a r).emitted).notes → (ids : List TxnId) × (r ≡ Blocks ids)
ruled_blocked layout own x a client (Go (GoAccept s)) y b by there = absurd (none_is_in (Blocked y b by) there)
ruled_blocked layout own x a client (Go (GoCommit s)) y b by there = absurd (none_is_in (Blocked y b by) there)
ruled_blocked layout own x a client (Go (GoStable s)) y b by there = absurd (no_decision (only (Blocked y b by) (DecideNote x s.t Adopted s.deps) there))
  where
    no_decision : Blocked y b by ≡ DecideNote x s.t Adopted s.deps → ⊥
    no_decision e = cc
ruled_blocked layout own x a client (Blocks ids) y b by there = (ids, refl)

module _ (cluster : Cluster) (items : List Item) (standing : IsStanding cluster items) where
  -- ---- the view that told

  older_by : (x y : TxnId) (o : Option Accepted) → accepted_above x y o ≡ true → id_lt y x ≡ true
  older_by x y None h = absurd (true≢false (sym h))
  older_by x y (Some a) h = (and_parts (id_lt y x) (stamp_lt x.0 a.t) h).0

  waited : (x : TxnId) (body : BodyParts) (b : Ballot) (answers : List Message) → IsBody cluster items x body → AreAnswers cluster items x body b is_recover_ok answers
      → (z : TxnId) → id_among z (waits_of (views_in answers)) ≡ true → HasWaited cluster items x b
  waited x body b answers body_is are z h =
      let w = waits_from z (views_in answers) h in
      let f = view_from answers w.0 w.1 in
      let answer = are f.message f.there in
      let v = view_there cluster items standing.stands x body b f.message w.0 body_is answer f.is in
      let own : Actor = from_of f.message in
      let now : List Taken = taking v.step.message v.past in
      let others : List Heard = rivals cluster.layout (shard_of own) now x v.answer.counting in
      let p = passing (λ y. id_eq y z) (map (λ (k : Heard). k.id) (filter (λ (k : Heard). is_awaited v.past x k.id) others))
      (sym (is_among-union id_order z [] (map (λ (k : Heard). k.id) (filter (λ (k : Heard). is_awaited v.past x k.id) others)))
      ∙ ap (id_among z) (sym (ap (λ (k : View). k.waits) v.answer.view_is)) ∙ w.2) in
      let from = IsIn-map (λ (k : Heard). k.id) p.element (filter (λ (k : Heard). is_awaited v.past x k.id) others) p.there in
      let waits = IsIn-filter (λ (k : Heard). is_awaited v.past x k.id) from.source others from.there in
      let rival = IsIn-filter (λ (k : Heard). not (id_eq k.id x) && conflict_in cluster.layout (shard_of own) k.body v.answer.counting) from.source (known now) waits.0 in
      let parts = and_parts (not (id_eq from.source.id x)) (conflict_in cluster.layout (shard_of own) from.source.body v.answer.counting) rival.1 in
      let is = known_body cluster items standing.stands (bodies_are_begun cluster items standing.stands) own from.source.id from.source.body
      (body_known-past from.source.id from.source.body (v.step ∷ v.past) (taken_of cluster own items) (known_itself from.source (v.step ∷ v.past) rival.0)
      (StandsAt-IsPast v.step v.past (taken_of cluster own items) v.at)) in
      let r = are_rivals cluster items (shard_of own) from.source.id x from.source.body body standing.valid.layout is body_is
      (λ same. true≢false (sym parts.0 ∙ ap not ((id_order.decides from.source.id x).1 same)))
      (subst (λ k. conflict_in cluster.layout (shard_of own) from.source.body k ≡ true) v.counting_is parts.1) in
      record {
        store = own;
        is_store = answer.place.is_store;
        step = v.step;
        past = v.past;
        at = v.at;
        from = v.answer.from;
        to = v.answer.to;
        body = v.answer.body;
        message_is = v.answer.message_is;
        awaited = from.source.id;
        older = older_by x from.source.id (accepted_of v.past from.source.id) (and_parts (accepted_above x from.source.id (accepted_of v.past from.source.id)) (is_none (stable_of v.past from.source.id)) waits.1).0;
        their_body = from.source.body;
        their_body_is = is;
        used = r.first_uses;
        waits = waits.1;
      }

  -- ---- the step that was blocked

  blocked_step : (a : Actor) (node : is_node a ≡ true) (deed : Deed) (past : List Deed) (at : StandsAt deed past (deeds_of cluster a items)) (y : TxnId) (k : Attempt) (ids : List TxnId)
      → Reacts cluster.layout (node_of a) (clock_start cluster.starts (node_of a)) past y deed.act k (BlockBy ids)
      → {x : TxnId} {b : Ballot} {by : List TxnId} → IsIn (Blocked x b by) deed.emitted.notes → HasWaited cluster items y k.ballot
  blocked_step a node deed past at y k ids reacts {x} {b} {by} noted = by_act deed.act refl reacts (moving_polled cluster items standing.stands a node deed past y k (BlockBy ids) at reacts)
    where
      of_message : (m : Message) (before : Attempt) → deed.act ≡ Takes m → attempt_of cluster.layout (node_of a) (clock_start cluster.starts (node_of a)) y past ≡ Some before → id_of m ≡ y
          → (j : Attempt) → Hears cluster.layout y before m j (BlockBy ids) → AreAnswers cluster items y j.body j.ballot (kind_of j.phase) j.answers → HasWaited cluster items y j.ballot
      of_message m before act_is is about j (Counts n moved same counting (IsBlocked ids_by phase major)) are =
          let own : Actor = actor_of (node_of a) 0 in
          let emitted_is = emits_at cluster.layout (node_of a) (clock_start cluster.starts (node_of a)) (deeds_of cluster a items) deed past (each_emits cluster a items standing.stands node) at
          ∙ ap (node_emits cluster.layout (node_of a) (clock_start cluster.starts (node_of a)) past) act_is
          ∙ taking_reacts cluster.layout (node_of a) (clock_start cluster.starts (node_of a)) y deed past m before (no_inform cluster.layout own y before m same counting phase major) about is
          ∙ ap (λ (w : Reaction). with_reply (is_open (id_of m) past) w.emitted) (follows_ruling cluster.layout own y before m same counting phase major) in
          let r = ruled_blocked cluster.layout own y (with_answer before m) (is_open (id_of m) past) (recovery_decision cluster.layout y before.body (m ∷ before.answers)) x b by
          (subst (λ (w : Emitted). IsIn (Blocked x b by) w.notes) emitted_is noted) in
          let w = blocks_waits cluster.layout y before.body (m ∷ before.answers) r.0 r.1 in
          waited y before.body before.ballot (m ∷ before.answers)
          (attempt_body cluster items standing.stands a node past y before (past_of deed past (deeds_of cluster a items) at) is)
          (subst (λ p. AreAnswers cluster items y before.body before.ballot (kind_of p) (m ∷ before.answers)) phase are) w.0
          (ap (id_among w.0) w.2 ∙ among_first w.0 w.1)
        where
          among_first : (z : TxnId) (zs : List TxnId) → id_among z (z ∷ zs) ≡ true
          among_first z zs = or_left (id_eq z z) (id_among z zs) (eq_itself id_order z)

      no_slow_note : (o : Option Attempt) → IsIn (Blocked x b by) (emitted_by (slow_reaction cluster.layout (actor_of (node_of a) 0) y) o).notes → ⊥
      no_slow_note None there = none_is_in (Blocked x b by) there
      no_slow_note (Some j) there = by_may (may_slow_down cluster.layout y j j.phase) there
        where
          by_may : (o : Bool) → IsIn (Blocked x b by) (when o (slow_down cluster.layout (actor_of (node_of a) 0) y) j).emitted.notes → ⊥
          by_may true there = none_is_in (Blocked x b by) there
          by_may false there = none_is_in (Blocked x b by) there

      by_act : (act : Act) → deed.act ≡ act → Reacts cluster.layout (node_of a) (clock_start cluster.starts (node_of a)) past y act k (BlockBy ids)
          → AreAnswers cluster items y k.body k.ballot (kind_of k.phase) k.answers → HasWaited cluster items y k.ballot
      by_act act act_is (ToMessage before j m moved is about hears) are = of_message m before act_is is about j hears are
      by_act act act_is (ToSlow j moved is moves) are =
          absurd (no_slow_note (attempt_of cluster.layout (node_of a) (clock_start cluster.starts (node_of a)) y past)
          (subst (λ (w : Emitted). IsIn (Blocked x b by) w.notes)
          (emits_at cluster.layout (node_of a) (clock_start cluster.starts (node_of a)) (deeds_of cluster a items) deed past (each_emits cluster a items standing.stands node) at
          ∙ ap (node_emits cluster.layout (node_of a) (clock_start cluster.starts (node_of a)) past) act_is) noted))

  blocked_note : (x : TxnId) (b : Ballot) (note : Note) → tells_blocked x b note ≡ true → (by : List TxnId) × (note ≡ Blocked x b by)
  blocked_note x b (Blocked id ballot by) is =
      let parts = and_parts (id_eq id x) (ballot_eq ballot b) is in
      (by, ap (λ y. Blocked y ballot by) ((id_order.decides id x).0 parts.0) ∙ ap (λ d. Blocked x d by) ((ballot_order.decides ballot b).0 parts.1))
  blocked_note x b (BeginNote id) is = absurd (true≢false (sym is))
  blocked_note x b (RecoverNote id ballot) is = absurd (true≢false (sym is))
  blocked_note x b (Ended id ballot by) is = absurd (true≢false (sym is))
  blocked_note x b (DecideNote id t path deps) is = absurd (true≢false (sym is))
  blocked_note x b (OutcomeNote id reply) is = absurd (true≢false (sym is))
  blocked_note x b (ReplyNote id reply) is = absurd (true≢false (sym is))

  pub has_waited : (x : TxnId) (b : Ballot) → is_blocked x b items ≡ true → HasWaited cluster items x b
  has_waited x b blocked =
      let p = passing (tells_blocked x b) (notes_of items) blocked in
      let k = blocked_note x b p.element p.passes in
      let f = noted_by cluster items (Blocked x b k.0) standing.stands (noting items (Blocked x b k.0) (subst (λ n. IsIn n (notes_of items)) k.1 p.there)) in
      by f.actor f.is_node f.deed f.past f.at f.noted (Blocked x b k.0) refl (node_noted cluster items (Blocked x b k.0) standing.stands f)
    where
      same_id : {y z : TxnId} {d e : Ballot} {u v : List TxnId} → Blocked y d u ≡ Blocked z e v → y ≡ z
      same_id e = cc

      same_ballot : {y z : TxnId} {d e : Ballot} {u v : List TxnId} → Blocked y d u ≡ Blocked z e v → d ≡ e
      same_ballot e = cc

      by : (a : Actor) (node : is_node a ≡ true) (deed : Deed) (past : List Deed) (at : StandsAt deed past (deeds_of cluster a items)) → {ids : List TxnId} → IsIn (Blocked x b ids) deed.emitted.notes
          → (note : Note) → note ≡ Blocked x b ids → NodeNotes cluster.layout (node_of a) (clock_start cluster.starts (node_of a)) past deed.act note → HasWaited cluster items x b
      by a node deed past at noted note is (NotesBegin txn body) = absurd (grind arith)
      by a node deed past at noted note is (NotesRecover y body) = absurd (grind arith)
      by a node deed past at noted note is (NotesDecision act y k path s reacts) = absurd (grind arith)
      by a node deed past at noted note is (NotesOutcome act y k s outcome reacts) = absurd (grind arith)
      by a node deed past at noted note is (NotesReply act y k s outcome reacts client) = absurd (grind arith)
      by a node deed past at noted note is (NotesTold from to y d outcome client) = absurd (grind arith)
      by a node deed past at noted note is (NotesBlocked act y k ids reacts) =
          subst (λ z. HasWaited cluster items z b) (same_id is)
          (subst (λ d. HasWaited cluster items y d) (same_ballot is) (blocked_step a node deed past at y k ids reacts noted))
      by a node deed past at noted note is (NotesEnded act y k above reacts) = absurd (grind arith)

pub blocked_have_waited : (cluster : Cluster) → BlockedHaveWaited cluster
blocked_have_waited cluster items x b standing blocked = has_waited cluster items standing x b blocked
