-- What steps that were stopped leave of a journal, and what a restart finds of them.
use Rattle.std.proofs.Common.{◌≡◌, inl, inr, ℕ, ◌+◌, ◌-◌, ◌^◌, ◌<◌, min, Bool, true, false, cond, ◌&&◌, ltb, List, [], ◌∷◌, ◌++◌, length, length-append, append_assoc, append-nil, Option, None, Some, Result, Ok, Err, refl, sym, ap, subst, ◌∙◌, arith}
use Rattle.std.specs.Prelude.{IfOk, OnErr, IsErr}
use Rattle.std.proofs.lemmas.Bool.Decides.{nat_tests}
use Rattle.std.proofs.lemmas.Bool.{lt-ltb}
use Rattle.acc_message.specs.declared.entry.Emitted.{Emitted}
use Rattle.acc_journal.specs.Layout.{Reads}
use Rattle.acc_journal.specs.Calls.{FailsWithin}
use Rattle.acc_journal.specs.Journal.{ReadsAsEither}
use Rattle.acc_payloads.specs.Items.{AreMarked, AreKept, without_marks}
use Rattle.acc_payloads.specs.Appends.{fails_append, passed_in}
use Rattle.acc_payloads.specs.declared.stops.Unsent.{Unsent}
use Rattle.acc_payloads.specs.Stops.{Stop, Past, count_of, some, group_of, with_step, with_stops, with_act, kept_with, kept_if, past_with, ReadsAs, ReadsIf, IsLeft, HoldsPayloads, IsUnsent, IsKept}

pub if_err : {A E : Type 0} (r : Result A E) (P : A → Type 0) → IsErr r → IfOk r P
if_err (Ok x) P e = absurd cc
if_err (Err x) P e = tt

pub not_err : {A : Type 0} (E : Type 0) (x : A) → IsErr {T = A} {E = E} (Ok x) → ⊥
not_err E x e = cc

pub not_ok : {A E : Type 0} (r : Result A E) (x : A) → IsErr r → r ≡ Ok x → ⊥
not_ok (Ok y) x e is = cc e
not_ok (Err y) x e is = cc is

pub if_all : {A E : Type 0} (r : Result A E) (P Q : A → Type 0) → ((x : A) → P x → Q x) → IfOk r P → IfOk r Q
if_all (Ok x) P Q f p = f x p
if_all (Err x) P Q f p = tt

pub on_err : {A E : Type 0} (r : Result A E) (P : Type 0) → P → OnErr r P
on_err (Ok x) P p = tt
on_err (Err x) P p = p

pub not_both : (b : Bool) → b ≡ true → b ≡ false → ⊥
not_both b e f = let g : true ≡ false = sym e ∙ f in cc

-- ---- a past with what was kept

pub held_kept : {T : Type 0} (stops : List (Stop T)) (past : Past T) → (kept_with stops past).held ≡ past.held ++ group_of stops
held_kept [] past = sym (append-nil past.held)
held_kept (stop ∷ stops) past = held_kept stops (with_step past stop) ∙ append_assoc past.held (stop.payload ∷ []) (group_of stops)

many_kept : {T : Type 0} (stops : List (Stop T)) (past : Past T) → length (kept_with stops past).held ≡ length past.held + length stops
many_kept [] past = omega arith
many_kept (stop ∷ stops) past =
    let longer : length (past.held ++ stop.payload ∷ []) ≡ length past.held + 1 = length-append past.held (stop.payload ∷ []) in
    omega (arith, many_kept stops (with_step past stop), longer)

-- and one more
pub kept_more : {T : Type 0} (stops : List (Stop T)) (stop : Stop T) (past : Past T) → kept_with (stops ++ stop ∷ []) past ≡ with_step (kept_with stops past) stop
kept_more [] stop past = refl
kept_more (first ∷ stops) stop past = kept_more stops stop (with_step past first)

-- whatever was stopped before
pub kept_stopped : {T : Type 0} (stops others : List (Stop T)) (past : Past T) → kept_with stops (with_stops past others) ≡ kept_with stops past
kept_stopped [] others past = refl
kept_stopped (stop ∷ stops) others past = refl

abbrev either : {T : Type 0} → Bool → List (Stop T) → Past T → Past T
either true stopped past = kept_with stopped past
either false stopped past = kept_with [] past

either_is : {T : Type 0} (keeps : Bool) (past : Past T) → kept_if keeps past ≡ either keeps past.stopped past
either_is true past = refl
either_is false past = refl

pub none_stopped : {T : Type 0} (stopped : List (Stop T)) (past : Past T) → (kept_with stopped past).stopped ≡ []
none_stopped [] past = refl
none_stopped (stop ∷ stops) past = none_stopped stops (with_step past stop)

pub none_after : {T : Type 0} (keeps : Bool) (past : Past T) → (kept_if keeps past).stopped ≡ []
none_after true past = none_stopped past.stopped past
none_after false past = refl

-- where nothing was stopped it is all one
pub none_kept : {T : Type 0} (keeps other : Bool) (past : Past T) → past.stopped ≡ [] → kept_if keeps past ≡ kept_if other past
none_kept keeps other past e = is_none keeps ∙ sym (is_none other)
  where
    is_none : (b : Bool) → kept_if b past ≡ kept_with [] past
    is_none true = ap (λ (l : List (Stop _)). kept_with l past) e
    is_none false = refl

-- ---- how much the journal has

abbrev most : ℕ
most = 2 ^ 64 - 1

-- A reopened journal has more payloads than were held exactly where it kept what was stopped.
more_at : {T : Type 0} (keeps : Bool) (stopped : List (Stop T)) (past : Past T) (kept found : ℕ) → kept ≡ count_of past → kept < most
    → found ≡ min (length (either keeps stopped past).held) most
    → (either (ltb kept found) stopped past ≡ either keeps stopped past) × ((ltb kept found && some stopped) ≡ (keeps && some stopped))
more_at true [] past kept found e small f = let same : ltb kept found ≡ false = grind (arith, nat_tests) in rw same (refl, refl)
more_at true (stop ∷ stops) past kept found e small f =
    let longer : length (kept_with (stop ∷ stops) past).held ≡ length past.held + length (stop ∷ stops) = many_kept (stop ∷ stops) past in
    let more : ltb kept found ≡ true = lt-ltb kept found (omega (arith, e, small, f, longer)) in
    rw more (refl, refl)
more_at false [] past kept found e small f = let same : ltb kept found ≡ false = grind (arith, nat_tests) in rw same (refl, refl)
more_at false (stop ∷ stops) past kept found e small f = let same : ltb kept found ≡ false = grind (arith, nat_tests) in rw same (refl, refl)

module _ {T : Type 0} (keeps : Bool) (past : Past T) (kept found : ℕ) (e : kept ≡ count_of past) (small : kept < most) (f : found ≡ min (length (kept_if keeps past).held) most) where
  both : (either (ltb kept found) past.stopped past ≡ either keeps past.stopped past) × ((ltb kept found && some past.stopped) ≡ (keeps && some past.stopped))
  both = more_at keeps past.stopped past kept found e small (f ∙ ap (λ (p : Past T). min (length p.held) most) (either_is keeps past))

  pub more_is : kept_if (ltb kept found) past ≡ kept_if keeps past
  more_is = either_is (ltb kept found) past ∙ both.0 ∙ sym (either_is keeps past)

  pub tells : (ltb kept found && some past.stopped) ≡ (keeps && some past.stopped)
  tells = both.1

-- ---- what is left of a journal

module _ {T : Type 0} (IsJournal : List (List ℕ) → List T → Type 0) where
  -- with steps that were stopped
  module _ (past : Past T) (stops : List (Stop T)) (before group : List (List ℕ)) (journal : IsJournal before past.acts) (held : without_marks before ≡ past.held)
      (longer : IsJournal (before ++ group) (kept_with stops past).acts) (held_more : without_marks (before ++ group) ≡ (kept_with stops past).held) where
    pub reads_if : (keeps : Bool) (bytes : List ℕ) → Reads bytes (cond keeps (before ++ group) before) → ReadsIf IsJournal (with_stops past stops) keeps bytes
    reads_if true bytes r =
        subst (λ (p : Past T). ReadsAs IsJournal p.acts p.held bytes) (sym (kept_stopped stops stops past)) (record { payloads = before ++ group; reads = r; journal = longer; held_are = held_more })
    reads_if false bytes r = record { payloads = before; reads = r; journal = journal; held_are = held }

    pub left_with : (bytes : List ℕ) → ReadsAsEither before group bytes → IsLeft IsJournal (with_stops past stops) bytes
    left_with bytes (inl r) = inl (reads_if false bytes r)
    left_with bytes (inr r) = inr (reads_if true bytes r)

  -- of an actor that is up
  pub left_up : (past : Past T) (payloads : List (List ℕ)) (bytes : List ℕ) → Reads bytes payloads → IsJournal payloads past.acts → without_marks payloads ≡ past.held → IsLeft IsJournal past bytes
  left_up past payloads bytes r journal held = inl (record { payloads = payloads; reads = r; journal = journal; held_are = held })

  -- it breaks no rule on marks, if no journal does
  module _ (version : ℕ) (marked : (payloads : List (List ℕ)) (acts : List T) → IsJournal payloads acts → AreMarked version payloads) (past : Past T) (bytes : List ℕ) where
    further : (stopped : List (Stop T)) (payloads : List (List ℕ)) → without_marks payloads ≡ past.held → AreKept (some stopped) past.held (without_marks payloads)
    further [] payloads e = e
    further (stop ∷ stops) payloads e = ([], e ∙ sym (append-nil past.held))

    kept : (stopped : List (Stop T)) (payloads : List (List ℕ)) → without_marks payloads ≡ (kept_with stopped past).held → AreKept (some stopped) past.held (without_marks payloads)
    kept [] payloads e = e
    kept (stop ∷ stops) payloads e = (group_of (stop ∷ stops), e ∙ held_kept (stop ∷ stops) past)

    pub holds : IsLeft IsJournal past bytes → HoldsPayloads version past bytes
    holds (inl r) = record { payloads = r.payloads; reads = r.reads; marks = marked r.payloads _ r.journal; kept = further past.stopped r.payloads r.held_are }
    holds (inr r) = record { payloads = r.payloads; reads = r.reads; marks = marked r.payloads _ r.journal; kept = kept past.stopped r.payloads r.held_are }

-- ---- strict disks

-- the append passes
pub passes : (armed : Option ℕ) → (FailsWithin 4 armed → ⊥) → false ≡ fails_append armed
passes None never = refl
passes (Some calls) never = grind (arith, nat_tests)

within : (armed : Option ℕ) → fails_append armed ≡ true → passed_in armed ≡ armed
within None e = refl
within (Some calls) e = ap (λ (b : Bool). cond b (Some calls) None) e

-- it fails
pub fails : (armed : Option ℕ) → ((FailsWithin 4 armed → ⊥) → ⊥) → true ≡ fails_append armed
fails None never = absurd (never (λ none. none))
fails (Some calls) never = at (ltb calls 4) refl
  where
    at : (b : Bool) → ltb calls 4 ≡ b → true ≡ ltb calls 4
    at true e = sym e
    at false e = absurd (never (λ (below : calls < 4). let yes : ltb calls 4 ≡ true = lt-ltb calls 4 below in cc))

pub passed_is : (armed : Option ℕ) → ((FailsWithin 4 armed → ⊥) → ⊥) → passed_in armed ≡ armed
passed_is armed never = within armed (sym (fails armed never))

-- ---- what is told

module _ {T : Type 0} (rules : Past T → T → Emitted) where
  -- what a restart hands out is what was stopped
  pub kept_is : (past : Past T) (unsent : List Unsent) → IsUnsent rules past past.stopped unsent → IsKept rules past unsent
  kept_is past [] u = tt
  kept_is past (x ∷ xs) u = u

  -- by what was found, whether more stands there
  pub told_past : (past : Past T) (unsent : List Unsent) → IsUnsent rules past past.stopped unsent → kept_if true past ≡ past_with unsent past
  told_past past unsent u = at past.stopped unsent u refl
    where
      at : (stopped : List (Stop T)) (l : List Unsent) → IsUnsent rules past stopped l → past.stopped ≡ stopped → kept_if true past ≡ past_with l past
      at [] [] u e = ap (λ (s : List (Stop T)). kept_with s past) e
      at [] (x ∷ xs) u e = absurd u
      at (stop ∷ stops) [] u e = absurd u
      at (stop ∷ stops) (x ∷ xs) u e = refl

  pub told_some : (past : Past T) (stopped : List (Stop T)) (unsent : List Unsent) → IsUnsent rules past stopped unsent → some unsent ≡ some stopped
  told_some past [] [] u = refl
  told_some past [] (x ∷ xs) u = absurd u
  told_some past (stop ∷ stops) [] u = absurd u
  told_some past (stop ∷ stops) (x ∷ xs) u = refl

  -- where nothing was stopped nothing is kept
  pub none_items : (past : Past T) (stopped : List (Stop T)) (unsent : List Unsent) → stopped ≡ [] → IsUnsent rules past stopped unsent → unsent ≡ []
  none_items past stopped unsent e u = at unsent (subst (λ (s : List (Stop T)). IsUnsent rules past s unsent) e u)
    where
      at : (l : List Unsent) → IsUnsent rules past [] l → l ≡ []
      at [] u = refl
      at (x ∷ xs) u = absurd u

  -- nothing is unsent where nothing is kept
  pub none_unsent : (past : Past T) (stopped : List (Stop T)) (unsent : List Unsent) → stopped ≡ [] → unsent ≡ [] → IsUnsent rules past stopped unsent
  none_unsent past stopped unsent e f =
      subst (λ (s : List (Stop T)). IsUnsent rules past s unsent) (sym e) (subst (λ (l : List Unsent). IsUnsent rules past [] l) (sym f) tt)

-- where nothing was stopped, and what is taken more isn't journalled
pub left_on : {T : Type 0} (IsJournal : List (List ℕ) → List T → Type 0) (past : Past T) (act : T) (bytes : List ℕ) → past.stopped ≡ []
    → ((payloads : List (List ℕ)) → IsJournal payloads past.acts → IsJournal payloads (act ∷ past.acts)) → IsLeft IsJournal past bytes → IsLeft IsJournal (with_act act past) bytes
left_on IsJournal past act bytes none on (inl r) = inl (record { payloads = r.payloads; reads = r.reads; journal = on r.payloads r.journal; held_are = r.held_are })
left_on IsJournal past act bytes none on (inr r) =
    let lower : ReadsIf IsJournal past false bytes = subst (λ (p : Past _). ReadsAs IsJournal p.acts p.held bytes) (none_kept true false past none) r in
    inl (record { payloads = lower.payloads; reads = lower.reads; journal = on lower.payloads lower.journal; held_are = lower.held_are })
