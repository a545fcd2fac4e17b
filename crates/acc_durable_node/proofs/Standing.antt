-- What a durable node stands for after a draw, and reopened.
use Rattle.std.proofs.Common.{◌≡◌, ℕ, suc, ◌+◌, ◌-◌, ◌^◌, ◌<◌, ◌≤◌, min, max, map, Bool, true, false, not, cond, ◌&&◌, ◌||◌, eqb, ltb, leb, List, [], ◌∷◌, ◌++◌, length, length-append, Option, None, Some, is_some, Result, Ok, Err, inl, refl, sym, ap, subst, ◌∙◌, arith}
use Rattle.std.specs.List.{list_any}
use Rattle.std.specs.Ordering.{nat_cmp}
use Rattle.std.specs.BTreeMap.{get}
use Rattle.acc_stamp.specs.declared.stamps.TxnId.{TxnId}
use Rattle.acc_stamp.specs.Stamp.{id_cmp}
use Rattle.std.proofs.lemmas.Bool.{leb-true}
use Rattle.std.proofs.lemmas.List.Folds.{list_any-append}
use Rattle.acc_base.specs.Faults.{or_else}
use Rattle.acc_stamp.specs.Clock.{ClockState, after_restart}
use Rattle.acc_stamp.specs.History.{ClockEvent, Draw as DrawEvent, See, Restart, clock_after}
use Rattle.acc_topology.specs.Layout.{Layout}
use Rattle.acc_txn.specs.declared.parts.BodyParts.{BodyParts}
use Rattle.acc_message.specs.declared.entry.Emitted.{Emitted}
use Rattle.acc_message.specs.NodeRules.{Act, Begins, Recovers, Restarts, Deed, clock_of, clock_events, begun_id, node_replay}
use Rattle.acc_node.specs.declared.node.Node.{Node}
use Rattle.acc_node.specs.declared.running.Running.{Running}
use Rattle.acc_node.specs.Stands as node
use Rattle.acc_journal.specs.declared.error.JournalError.{JournalError}
use Rattle.acc_journal.specs.declared.error.JournalError.TheVariants as errors
use Rattle.acc_journal.specs.Layout.{Reads}
use Rattle.acc_journal.specs.Journal.{JournalState, IsOfTheDisk}
use Rattle.acc_journal.proofs.Unique.{one_list}
use Rattle.acc_payloads.specs.declared.draw.Purpose.{Purpose}
use Rattle.acc_payloads.specs.declared.draw.Purpose.TheVariants.{Begin, Recover}
use Rattle.acc_payloads.specs.declared.draw.Draw.{Draw}
use Rattle.acc_payloads.specs.Spelling.{draw_bytes, FitsDraw}
use Rattle.acc_payloads.specs.declared.node.NodePayload.{NodePayload}
use Rattle.acc_payloads.specs.declared.node.NodePayload.TheVariants.{Mark, Draws}
use Rattle.acc_payloads.specs.declared.node.NodeTold.{NodeTold}
use Rattle.acc_payloads.specs.Journals.{EachMay, IsRefusedAs, appended, marked_after}
use Rattle.acc_payloads.specs.Node.{node_bytes, NodeMay, IsNodeJournal, is_mark, has_mark, draws_in, is_begin, begins, may_draw, greatest_drawn, begun_by, IsReadAs, GrowsBy}
use Rattle.acc_payloads.specs.Acts.{next_draw_of, AreDrawsOf, DrawsTell}
use Rattle.acc_payloads.proofs.Acts.{draws_tell, next_may}
use Rattle.acc_payloads.proofs.NodeJournals.{grows, never_bad}
use Rattle.acc_durable_node.specs.declared.node.DurableNode.{DurableNode}
use Rattle.acc_durable_node.specs.Names.{deeds_by, emits_by, id_begun}
use Rattle.acc_durable_node.specs.declared.error.DurableError.{DurableError}
use Rattle.acc_durable_node.specs.declared.error.DurableError.TheVariants.{Begun, DiskFault, OutOfMemory}
use Rattle.acc_durable_node.specs.Node.{IsLow, with_parts, with_spare, Drew, Holds, StandsFor, TakesOn, IsJournalAfter, IsReopened, Refuses, FailsToAppend, draw_group}
use Rattle.std.specs.Prelude.{IfOk, IfErr, OnOk}

-- ---- a draw more

counted_on : (a n m : ℕ) → a ≡ min n (2 ^ 64 - 1) → m ≡ n + 1 → min (a + 1) (2 ^ 64 - 1) ≡ min m (2 ^ 64 - 1)
counted_on a n m e f = omega (arith, e, f)

module _ {D : Type 0} (layout : Layout) (old : DurableNode D) (acts : List Act) (purpose : Purpose) (txn : ℕ)
    (small : txn < 2 ^ 32) (is_low : IsLow old.node.clock) (stands : StandsFor layout old acts)
    (fresh : purpose ≡ Begin → id_begun layout old.name txn acts ≡ None) where
  abbrev past : List Deed
  past = deeds_by layout old.name acts

  abbrev clock : ClockState
  clock = clock_of old.name.number old.name.start past

  clock_is : old.node.clock ≡ clock
  clock_is = stands.stands.clock_is

  low_now : IsLow clock
  low_now = subst IsLow clock_is is_low

  abbrev drawn : Draw
  drawn = next_draw_of clock purpose txn

  may : may_draw old.name.start stands.draws drawn ≡ true
  may = next_may old.name.number old.name.start past stands.draws purpose txn stands.drawn (record { drawn = low_now.drawn; seen = low_now.seen }) fresh

  fits : FitsDraw drawn
  fits = record { txn = small; h = omega (arith, low_now.drawn, low_now.seen) }

  grown : GrowsBy old.name.version old.name.start old.journal.payloads stands.held.items drawn
  grown = grows old.name.version old.name.start old.journal.payloads stands.held.items drawn stands.held.journal fits (ap (λ (l : List Draw). may_draw old.name.start l drawn) stands.held.draws_are ∙ may)

  group_is : draw_group old purpose txn ≡ appended old.name.version (has_mark stands.held.items) (draw_bytes drawn)
  group_is =
      ap (λ (c : ClockState). appended old.name.version old.marked (draw_bytes (next_draw_of c purpose txn))) clock_is
      ∙ ap (λ (m : Bool). appended old.name.version m (draw_bytes drawn)) stands.held.marked

  grown_journal : IsNodeJournal old.name.version old.name.start (old.journal.payloads ++ draw_group old purpose txn) grown.later
  grown_journal = subst (λ (group : List (List ℕ)). IsNodeJournal old.name.version old.name.start (old.journal.payloads ++ group) grown.later) (sym group_is) grown.journal

  grown_draws : draws_in grown.later ≡ stands.draws ++ drawn ∷ []
  grown_draws = grown.draws ∙ ap (λ (l : List Draw). l ++ drawn ∷ []) stands.held.draws_are

  pub doubt_with : (act : Act) → AreDrawsOf old.name.number old.name.start (deeds_by layout old.name (act ∷ acts)) (stands.draws ++ drawn ∷ [])
      → IsJournalAfter layout old.name (old.journal.payloads ++ draw_group old purpose txn) (act ∷ acts)
  doubt_with act are = record {
    items = grown.later;
    journal = grown_journal;
    drawn = subst (AreDrawsOf old.name.number old.name.start (deeds_by layout old.name (act ∷ acts))) (sym grown_draws) are;
  }

  module _ (node_now : Node) (journal_now : JournalState D) (marked_now : Bool) (kept_now : ℕ) (drew : Drew old journal_now marked_now kept_now (draw_group old purpose txn)) where
    abbrev now : DurableNode D
    now = with_parts old node_now journal_now marked_now kept_now

    held : Holds now (stands.draws ++ drawn ∷ [])
    held = record {
      items = grown.later;
      journal = subst (λ (l : List (List ℕ)). IsNodeJournal old.name.version old.name.start l grown.later) (sym drew.payloads) grown_journal;
      draws_are = grown_draws;
      marked = drew.marked ∙ ap (marked_after old.name.version) stands.held.marked ∙ sym grown.marked;
      kept = drew.kept ∙ counted_on old.kept (length stands.draws) (length (stands.draws ++ drawn ∷ [])) stands.held.kept (omega (arith, length-append stands.draws (drawn ∷ [])));
    }

    pub stands_with : (act : Act) → AreDrawsOf old.name.number old.name.start (deeds_by layout old.name (act ∷ acts)) (stands.draws ++ drawn ∷ [])
        → node.StandsFor layout old.name.number old.name.start node_now (act ∷ acts) → StandsFor layout now (act ∷ acts)
    stands_with act are node_stands = record { sound = drew.sound; stands = node_stands; draws = stands.draws ++ drawn ∷ []; drawn = are; held = held }

begin_is : Recover ≡ Begin → ⊥
begin_is e = cc

module _ {D : Type 0} (layout : Layout) (old : DurableNode D) (acts : List Act) (txn : ℕ) (small : txn < 2 ^ 32) (is_low : IsLow old.node.clock) (stands : StandsFor layout old acts) where
  module _ (body : BodyParts) (fresh : id_begun layout old.name txn acts ≡ None) where
    pub begin_in_doubt : IsJournalAfter layout old.name (old.journal.payloads ++ draw_group old Begin txn) (Begins txn body ∷ acts)
    begin_in_doubt = doubt_with layout old acts Begin txn small is_low stands (λ _. fresh) (Begins txn body) (stands.draws, stands.drawn, refl)

    pub after_begin : (node_now : Node) (journal_now : JournalState D) (marked_now : Bool) (kept_now : ℕ) → Drew old journal_now marked_now kept_now (draw_group old Begin txn)
        → node.StandsFor layout old.name.number old.name.start node_now (Begins txn body ∷ acts) → StandsFor layout (with_parts old node_now journal_now marked_now kept_now) (Begins txn body ∷ acts)
    after_begin node_now journal_now marked_now kept_now drew node_stands =
        stands_with layout old acts Begin txn small is_low stands (λ _. fresh) node_now journal_now marked_now kept_now drew (Begins txn body) (stands.draws, stands.drawn, refl) node_stands

  module _ (x : TxnId) (body : BodyParts) where
    pub recover_in_doubt : IsJournalAfter layout old.name (old.journal.payloads ++ draw_group old Recover txn) (Recovers x body ∷ acts)
    recover_in_doubt = doubt_with layout old acts Recover txn small is_low stands (λ e. absurd (begin_is e)) (Recovers x body) (stands.draws, txn, stands.drawn, refl)

    pub after_recover : (node_now : Node) (journal_now : JournalState D) (marked_now : Bool) (kept_now : ℕ) → Drew old journal_now marked_now kept_now (draw_group old Recover txn)
        → node.StandsFor layout old.name.number old.name.start node_now (Recovers x body ∷ acts) → StandsFor layout (with_parts old node_now journal_now marked_now kept_now) (Recovers x body ∷ acts)
    after_recover node_now journal_now marked_now kept_now drew node_stands =
        stands_with layout old acts Recover txn small is_low stands (λ e. absurd (begin_is e)) node_now journal_now marked_now kept_now drew (Recovers x body) (stands.draws, txn, stands.drawn, refl) node_stands

-- ---- reopened

same_node_after : (number start : ℕ) (events : List ClockEvent) → (clock_after number start events).node ≡ number
same_node_after number start [] = refl
same_node_after number start (DrawEvent ∷ events) = same_node_after number start events
same_node_after number start (See h ∷ events) = same_node_after number start events
same_node_after number start (Restart ∷ events) = same_node_after number start events

same_start_after : (number start : ℕ) (events : List ClockEvent) → (clock_after number start events).start ≡ start
same_start_after number start [] = refl
same_start_after number start (DrawEvent ∷ events) = same_start_after number start events
same_start_after number start (See h ∷ events) = same_start_after number start events
same_start_after number start (Restart ∷ events) = same_start_after number start events

same_clock : (c : ClockState) (number start drawn : ℕ) → c.node ≡ number → c.start ≡ start → c.drawn ≡ drawn → record { node = number; start = start; drawn = drawn; seen = drawn } ≡ after_restart c
same_clock c number start drawn e f g =
    let make : ℕ → ℕ → ℕ → ClockState = λ n s d. record { node = n; start = s; drawn = d; seen = d } in
    ap (λ n. make n start drawn) (sym e) ∙ ap (λ s. make c.node s drawn) (sym f) ∙ ap (λ d. make c.node c.start d) (sym g)

or_none : {A : Type 0} (o : Option A) → or_else o None ≡ o
or_none None = refl
or_none (Some x) = refl

none_runs : (layout : Layout) (x : TxnId) (o : Option Running) → o ≡ None → node.Runs layout x o None
none_runs layout x None e = tt
none_runs layout x (Some r) e = absurd cc

-- what the journal told a node
pub record IsTold (n : Node) (number start : ℕ) (draws : List Draw) : Type 0 where
  pub clock : n.clock ≡ record { node = number; start = start; drawn = greatest_drawn start draws; seen = greatest_drawn start draws }
  pub begun : (txn : ℕ) → get nat_cmp n.begun txn ≡ begun_by number txn draws
  pub attempts : (x : TxnId) → get id_cmp n.attempts x ≡ None
  pub clients : (x : TxnId) → get id_cmp n.clients x ≡ None

pub restarted : (layout : Layout) (n : Node) (number start : ℕ) (draws : List Draw) (acts : List Act) → IsTold n number start draws
    → AreDrawsOf number start (node_replay layout number start acts) draws → node.StandsFor layout number start n (Restarts ∷ acts)
restarted layout n number start draws acts told are =
    let past = node_replay layout number start acts in
    let t : DrawsTell number start past draws = draws_tell number start past draws are in
    record {
      clock_is = told.clock ∙ same_clock (clock_of number start past) number start (greatest_drawn start draws) (same_node_after number start (clock_events past)) (same_start_after number start (clock_events past)) t.drawn;
      begun = λ txn. told.begun txn ∙ sym (or_none (begun_id number start txn past) ∙ t.begun txn);
      clients = λ x. ap is_some (told.clients x);
      attempts = λ x. none_runs layout x (get id_cmp n.attempts x) (told.attempts x);
    }

-- ---- fresh

pub fresh_stands : {D : Type 0} (layout : Layout) (n : DurableNode D) → n.journal.broken ≡ false → n.journal.payloads ≡ [] → n.marked ≡ false → n.kept ≡ 0
    → node.StandsFor layout n.name.number n.name.start n.node [] → StandsFor layout n []
fresh_stands layout n sound payloads marked kept node_stands = record {
  sound = sound;
  stands = node_stands;
  draws = [];
  drawn = refl;
  held = record { items = []; journal = record { spelled = payloads; each = tt }; draws_are = refl; marked = marked; kept = kept };
}

-- ---- what a journal tells

greatest_above : (start : ℕ) (draws : List Draw) → start ≤ greatest_drawn start draws
greatest_above start [] = omega arith
greatest_above start (d ∷ draws) = omega (arith, greatest_above (max start d.h) draws)

and_first : (a b : Bool) → (a && b) ≡ true → a ≡ true
and_first true b e = refl
and_first false b e = e

and_second : (a b : Bool) → (a && b) ≡ true → b ≡ true
and_second true b e = e
and_second false b e = absurd cc

draw_most : (start : ℕ) (before : List Draw) (d : Draw) → may_draw start before d ≡ true → d.h ≤ 2 ^ 62
draw_most start before d may =
    leb-true d.h (2 ^ 62) (and_second (ltb (greatest_drawn start before) d.h) (leb d.h (2 ^ 62)) (and_first (ltb (greatest_drawn start before) d.h && leb d.h (2 ^ 62)) (not (is_begin d.purpose && list_any (begins d.txn) before)) may))

greatest_most : (version start s : ℕ) (before items : List NodePayload) → s ≤ 2 ^ 62 → EachMay (NodeMay version start) before items → greatest_drawn s (draws_in items) ≤ 2 ^ 62
greatest_most version start s before [] le each = le
greatest_most version start s before (Mark ∷ items) le each = greatest_most version start s (before ++ Mark ∷ []) items le each.1
greatest_most version start s before (Draws d ∷ items) le each =
    greatest_most version start (max s d.h) (before ++ Draws d ∷ []) items (omega (arith, le, draw_most start (draws_in before) d each.0.1)) each.1

pub told_above : (number version start : ℕ) (payloads : List (List ℕ)) (told : NodeTold) → IsReadAs number version start payloads told → start ≤ told.drawn
told_above number version start payloads told r = omega (arith, r.tells.drawn, greatest_above start (draws_in r.items))

pub told_most : (number version start : ℕ) (payloads : List (List ℕ)) (told : NodeTold) → start ≤ 10 ^ 12 → IsReadAs number version start payloads told → told.drawn ≤ 2 ^ 62
told_most number version start payloads told le r =
    omega (arith, r.tells.drawn, greatest_most version start start [] r.items (omega (arith, le)) r.journal.each)

or_false : (b : Bool) → (b || false) ≡ b
or_false true = refl
or_false false = refl

or_left : (a b : Bool) → a ≡ true → (a || b) ≡ true
or_left true b e = refl
or_left false b e = absurd cc

not_true : (b : Bool) → not b ≡ true → b ≡ true → ⊥
not_true true e f = cc
not_true false e f = cc

-- there is one mark at most
any_more : (before : List NodePayload) (p : NodePayload) → has_mark (before ++ p ∷ []) ≡ (has_mark before || is_mark p)
any_more before p = list_any-append is_mark before (p ∷ []) ∙ ap (λ (b : Bool). has_mark before || b) (or_false (is_mark p))

no_marks : (version start : ℕ) (before items : List NodePayload) → has_mark before ≡ true → EachMay (NodeMay version start) before items → has_mark items ≡ false
no_marks version start before [] e each = refl
no_marks version start before (Mark ∷ items) e each = absurd (not_true (has_mark before) (and_second (eqb version 2) (not (has_mark before)) each.0.1) e)
no_marks version start before (Draws d ∷ items) e each =
    no_marks version start (before ++ Draws d ∷ []) items (any_more before (Draws d) ∙ or_left (has_mark before) false e) each.1

or_right : (b : Bool) → (b || true) ≡ true
or_right true = refl
or_right false = refl

counted : (version start : ℕ) (before items : List NodePayload) → EachMay (NodeMay version start) before items → length items ≡ length (draws_in items) + cond (has_mark items) 1 0
counted version start before [] each = refl
counted version start before (Mark ∷ items) each =
    let marked : has_mark (before ++ Mark ∷ []) ≡ true = any_more before Mark ∙ or_right (has_mark before) in
    let none : has_mark items ≡ false = no_marks version start (before ++ Mark ∷ []) items marked each.1 in
    let rest : length items ≡ length (draws_in items) + cond (has_mark items) 1 0 = counted version start (before ++ Mark ∷ []) items each.1 in
    let plain : length items ≡ length (draws_in items) + 0 = rest ∙ ap (λ (b : Bool). length (draws_in items) + cond b 1 0) none in
    omega (arith, plain)
counted version start before (Draws d ∷ items) each =
    omega (arith, counted version start (before ++ Draws d ∷ []) items each.1)

kept_is : (payloads items draws : ℕ) (marked kept : ℕ) → payloads ≡ items → items ≡ draws + marked → kept ≡ payloads - marked → payloads < 2 ^ 64 → kept ≡ min draws (2 ^ 64 - 1)
kept_is payloads items draws marked kept e f g lt = omega (arith, e, f, g, lt)

map_long : (items : List NodePayload) → length (map node_bytes items) ≡ length items
map_long [] = refl
map_long (p ∷ items) = ap suc (map_long items)

pub reopened_is : {D : Type 0} (n : DurableNode D) (told : NodeTold) (payloads : List (List ℕ)) → IsReadAs n.name.number n.name.version n.name.start payloads told
    → n.journal.payloads ≡ payloads → n.journal.broken ≡ false → n.node.clock ≡ record { node = n.name.number; start = n.name.start; drawn = told.drawn; seen = told.drawn }
    → ((txn : ℕ) → get nat_cmp n.node.begun txn ≡ get nat_cmp told.begun txn) → ((x : TxnId) → get id_cmp n.node.attempts x ≡ None) → ((x : TxnId) → get id_cmp n.node.clients x ≡ None)
    → n.marked ≡ told.marked → n.kept ≡ length payloads - cond told.marked 1 0 → length payloads < 2 ^ 64 → IsReopened n
reopened_is n told payloads r same sound clock_so begun attempts clients marked kept lt =
    let draws = draws_in r.items in
    let is_told : IsTold n.node n.name.number n.name.start draws = record {
      clock = clock_so ∙ ap (λ (d : ℕ). record { node = n.name.number; start = n.name.start; drawn = d; seen = d }) r.tells.drawn;
      begun = λ txn. begun txn ∙ r.tells.begun txn;
      attempts = attempts;
      clients = clients;
    } in
    let longs : length payloads ≡ length r.items = ap length r.journal.spelled ∙ map_long r.items in
    let kept_so : n.kept ≡ length payloads - cond (has_mark r.items) 1 0 = kept ∙ ap (λ (b : Bool). length payloads - cond b 1 0) r.tells.marked in
    record {
      sound = sound;
      draws = draws;
      held = record {
        items = r.items;
        journal = subst (λ (l : List (List ℕ)). IsNodeJournal n.name.version n.name.start l r.items) (sym same) r.journal;
        draws_are = refl;
        marked = marked ∙ r.tells.marked;
        kept = kept_is (length payloads) (length r.items) (length draws) (cond (has_mark r.items) 1 0) n.kept longs (counted n.name.version n.name.start [] r.items r.journal.each) kept_so lt;
      };
      restarted = λ layout acts are. restarted layout n.node n.name.number n.name.start draws acts is_told are;
    }

-- ---- refusals

pub refused_never : (version start : ℕ) (content : List ℕ) (read given : List (List ℕ)) (items : List NodePayload) (e : JournalError) → Reads content read → Reads content given
    → IsNodeJournal version start given items → IsRefusedAs node_bytes (NodeMay version start) read e → IsOfTheDisk e
refused_never version start content read given items errors.DiskFault r g journal refused = tt
refused_never version start content read given items (errors.BadVersion byte) r g journal refused = absurd refused
refused_never version start content read given items (errors.BadRecord place) r g journal refused =
    absurd (never_bad version start read items (subst (λ (l : List (List ℕ)). IsNodeJournal version start l items) (one_list content given read g r) journal) place refused)
refused_never version start content read given items errors.OutOfMemory r g journal refused = tt

-- ---- a step that draws

module _ {D : Type 0} (layout : Layout) (old mid new : DurableNode D) (node_now : Node) (group : List (List ℕ)) (txn : ℕ) (act : Act) (emitted : Emitted) (purpose : Purpose)
    (room : mid ≡ with_spare old mid.journal.spare) (given : group ≡ draw_group old purpose txn)
    (put : new ≡ with_parts (record mid { node = node_now }) node_now new.journal new.marked new.kept) where
  abbrev after : DurableNode D
  after = with_parts old node_now new.journal new.marked new.kept

  new_is : new ≡ after
  new_is = put ∙ ap (λ (m : DurableNode D). with_parts m node_now new.journal new.marked new.kept) room

  drew_of_old : Drew (record mid { node = node_now }) new.journal new.marked new.kept group → Drew old new.journal new.marked new.kept (draw_group old purpose txn)
  drew_of_old d = record {
    sound = d.sound;
    payloads = d.payloads ∙ ap (λ (m : DurableNode D). m.journal.payloads ++ group) room ∙ ap (λ (g : List (List ℕ)). old.journal.payloads ++ g) given;
    marked = d.marked ∙ ap (λ (m : DurableNode D). marked_after m.name.version m.marked) room;
    kept = d.kept ∙ ap (λ (m : DurableNode D). min (m.kept + 1) (2 ^ 64 - 1)) room;
  }

  -- what the node emits by its rules, and for what it stands then
  pub record Steps (acts : List Act) : Type 0 where
    pub emits : emitted ≡ emits_by layout old.name acts act
    pub goes_on : Drew old new.journal new.marked new.kept (draw_group old purpose txn) → StandsFor layout after (act ∷ acts)

  pub drawn_ok : ((acts : List Act) → StandsFor layout old acts → Steps acts) → (r : Result Emitted DurableError) → IfOk r (λ sent. sent ≡ emitted)
      → OnOk r (Drew (record mid { node = node_now }) new.journal new.marked new.kept group)
      → IfOk r (TakesOn layout old new act)
  drawn_ok steps (Ok sent) same drew = λ acts stands. record {
    emits = same ∙ (steps acts stands).emits;
    stands = subst (λ (n : DurableNode D). StandsFor layout n (act ∷ acts)) (sym new_is) ((steps acts stands).goes_on (drew_of_old drew));
  }
  drawn_ok steps (Err e) same drew = tt

  pub drawn_err : ((acts : List Act) → StandsFor layout old acts → Steps acts) → (r : Result Emitted DurableError) → IfErr r (FailsToAppend emitted new.journal.broken) → IfErr r (Refuses layout old new act)
  drawn_err steps (Ok sent) fails = tt
  drawn_err steps (Err Begun) fails = absurd fails
  drawn_err steps (Err (DiskFault unsent)) fails = (fails.0, λ acts stands. fails.1 ∙ (steps acts stands).emits)
  drawn_err steps (Err OutOfMemory) fails = inl fails

none_there : {A : Type 0} (o : Option A) → is_some o ≡ false → o ≡ None
none_there None e = refl
none_there (Some x) e = absurd cc

pub not_begun : (o given : Option TxnId) (b : Bool) → o ≡ given → b ≡ is_some o → b ≡ false → given ≡ None
not_begun o given b e f g = sym e ∙ none_there o (sym f ∙ g)

module _ {D : Type 0} (layout : Layout) (old mid new : DurableNode D) (node_now : Node) (group : List (List ℕ)) (txn : ℕ) (body : BodyParts) (emitted : Emitted) (small : txn < 2 ^ 32) (is_low : IsLow old.node.clock)
    (room : mid ≡ with_spare old mid.journal.spare) (given : group ≡ draw_group old Begin txn) (put : new ≡ with_parts (record mid { node = node_now }) node_now new.journal new.marked new.kept)
    (ran : (acts : List Act) → node.StandsFor layout old.name.number old.name.start mid.node acts → node.Takes layout old.name.number old.name.start node_now acts (Begins txn body) emitted)
    (fresh : (acts : List Act) → StandsFor layout old acts → id_begun layout old.name txn acts ≡ None) where
  begin_steps : (acts : List Act) → StandsFor layout old acts → Steps layout old mid new node_now group txn (Begins txn body) emitted Begin room given put acts
  begin_steps acts stands =
      let takes = ran acts (subst (λ (m : DurableNode D). node.StandsFor layout old.name.number old.name.start m.node acts) (sym room) stands.stands) in
      record {
        emits = takes.emits;
        goes_on = λ drew. after_begin layout old acts txn small is_low stands body (fresh acts stands) node_now new.journal new.marked new.kept drew takes.stands;
      }

  pub begin_ok : (r : Result Emitted DurableError) → IfOk r (λ sent. sent ≡ emitted) → OnOk r (Drew (record mid { node = node_now }) new.journal new.marked new.kept group)
      → IfOk r (TakesOn layout old new (Begins txn body))
  begin_ok = drawn_ok layout old mid new node_now group txn (Begins txn body) emitted Begin room given put begin_steps

  pub begin_err : (r : Result Emitted DurableError) → IfErr r (FailsToAppend emitted new.journal.broken) → IfErr r (Refuses layout old new (Begins txn body))
  begin_err = drawn_err layout old mid new node_now group txn (Begins txn body) emitted Begin room given put begin_steps

module _ {D : Type 0} (layout : Layout) (old mid new : DurableNode D) (node_now : Node) (group : List (List ℕ)) (txn : ℕ) (x : TxnId) (body : BodyParts) (emitted : Emitted) (small : txn < 2 ^ 32) (is_low : IsLow old.node.clock)
    (room : mid ≡ with_spare old mid.journal.spare) (given : group ≡ draw_group old Recover txn) (put : new ≡ with_parts (record mid { node = node_now }) node_now new.journal new.marked new.kept)
    (ran : (acts : List Act) → node.StandsFor layout old.name.number old.name.start mid.node acts → node.Takes layout old.name.number old.name.start node_now acts (Recovers x body) emitted) where
  recover_steps : (acts : List Act) → StandsFor layout old acts → Steps layout old mid new node_now group txn (Recovers x body) emitted Recover room given put acts
  recover_steps acts stands =
      let takes = ran acts (subst (λ (m : DurableNode D). node.StandsFor layout old.name.number old.name.start m.node acts) (sym room) stands.stands) in
      record {
        emits = takes.emits;
        goes_on = λ drew. after_recover layout old acts txn small is_low stands x body node_now new.journal new.marked new.kept drew takes.stands;
      }

  pub recover_ok : (r : Result Emitted DurableError) → IfOk r (λ sent. sent ≡ emitted) → OnOk r (Drew (record mid { node = node_now }) new.journal new.marked new.kept group)
      → IfOk r (TakesOn layout old new (Recovers x body))
  recover_ok = drawn_ok layout old mid new node_now group txn (Recovers x body) emitted Recover room given put recover_steps

  pub recover_err : (r : Result Emitted DurableError) → IfErr r (FailsToAppend emitted new.journal.broken) → IfErr r (Refuses layout old new (Recovers x body))
  recover_err = drawn_err layout old mid new node_now group txn (Recovers x body) emitted Recover room given put recover_steps
