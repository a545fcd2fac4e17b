-- What an attempt has sent, by its phase: to each store of its body one message for each phase that it came to.
use Rattle.std.proofs.Common.{◌≡◌, ℕ, zero, suc, ◌+◌, ◌≤◌, Bool, false, ◌&&◌, List, [], ◌∷◌, ◌++◌, length, count_by, map, refl, sym, ◌∙◌, ap, subst, arith, ◌⊎◌, inl, inr, ⊎_elim}
use Rattle.std.proofs.lemmas.Bool.{true≢false, cond_both}
use Rattle.std.proofs.lemmas.List.{length-map}
use Rattle.std.proofs.lemmas.List.Sums.{count_by-le-length}
use Rattle.acc_stamp.specs.declared.stamps.TxnId.{TxnId}
use Rattle.acc_stamp.specs.declared.stamps.Ballot.{Ballot}
use Rattle.acc_stamp.specs.declared.actors.Actor.{Actor}
use Rattle.acc_stamp.specs.Stamp.{id_eq, ballot_eq, zero_ballot}
use Rattle.acc_stamp.proofs.Order.{ballot_order}
use Rattle.acc_topology.specs.Layout.{Layout}
use Rattle.acc_topology.proofs.Bits.{one_if, count_by-cons}
use Rattle.acc_deps.specs.declared.records.Settled.{Settled}
use Rattle.acc_txn.specs.declared.outcome.Outcome.{Outcome}
use Rattle.acc_message.specs.declared.message.Message.{Message}
use Rattle.acc_message.specs.declared.message.Message.TheVariants.{Accept, Commit, Stable, Apply, Inform}
use Rattle.acc_message.specs.Items.{same_actor}
use Rattle.acc_message.specs.Shares.{stores_used}
use Rattle.acc_message.specs.Attempts.{Attempt, Phase, Voting, Recovering, Accepting, Committing, Executing}
use Rattle.acc_message.specs.Coordinator.{home_node, inform, is_decided}
use Rattle.acc_message.specs.NodeRules.{Deed, next_draw, next_id, next_ballot}
use Rattle.acc_safety.specs.Places.{StandsAt, Back}
use Rattle.acc_safety.specs.NodeMoves.{Move, Wait, Propose, CommitTo, DecideBy, FinishWith, BlockBy, EndBy, made, Moves, DecidesFast, AdoptsStable, DecidesCommitted, Hears, Ignores, Counts, IsEnded, TakesOver}
use Rattle.acc_safety.specs.Attempted.{Origin, FromBegin, FromRecover}
use Rattle.acc_safety_laws.proofs.Ranks.{rank, proposes_low, commits_low}
use Rattle.acc_safety.proofs.Draws.{IsDraw, DrawsId, DrawsBallot, draw_differs, not_zero}
use Rattle.acc_calm.specs.MessageCounts.{is_of_attempt}

-- ---- counts

pub count_by-append : {X : Type 0} (p : X → Bool) (xs ys : List X) → count_by p (xs ++ ys) ≡ count_by p xs + count_by p ys
count_by-append p [] ys = omega arith
count_by-append p (x ∷ xs) ys = omega (arith, count_by-cons p x (xs ++ ys), count_by-cons p x xs, count_by-append p xs ys)

pub none_counted : (p : Message → Bool) (f : Actor → Message) (stores : List Actor) → ((store : Actor) → p (f store) ≡ false) → count_by p (map f stores) ≡ 0
none_counted p f [] h = refl
none_counted p f (store ∷ stores) h =
    let here : one_if (p (f store)) ≡ 0 = ap one_if (h store) in
    omega (arith, count_by-cons p (f store) (map f stores), here, none_counted p f stores h)

pub at_most_all : (p : Message → Bool) (f : Actor → Message) (stores : List Actor) → count_by p (map f stores) ≤ length stores
at_most_all p f stores = subst (λ n. count_by p (map f stores) ≤ n) (length-map stores f) (count_by-le-length p (map f stores))

-- ---- what may be sent up to a phase

-- n messages for each phase up to that of this rank
abbrev pub allowed : ℕ → ℕ → ℕ
allowed n zero = n
allowed n (suc r) = n + allowed n r

pub allowed_less : (n r q : ℕ) → r ≤ q → allowed n r ≤ allowed n q
allowed_less n zero zero h = omega arith
allowed_less n zero (suc q) h = omega (arith, allowed_less n zero q (omega arith))
allowed_less n (suc r) zero h = absurd (omega arith)
allowed_less n (suc r) (suc q) h = omega (arith, allowed_less n r q (omega arith))

pub rank_most : (phase : Phase) → rank phase ≤ 3
rank_most Voting = omega arith
rank_most Recovering = omega arith
rank_most (Accepting s) = omega arith
rank_most (Committing s) = omega arith
rank_most (Executing s) = omega arith

-- ---- moves go on

-- the move comes no later than the phase in which it is made
abbrev pub HasRoom : Move → Phase → Type 0
HasRoom Wait phase = Unit {0}
HasRoom (Propose s) phase = rank phase ≤ 0
HasRoom (CommitTo s) phase = rank phase ≤ 1
HasRoom (DecideBy path s) phase = rank phase ≤ 2
HasRoom (FinishWith s outcome) phase = Unit {0}
HasRoom (BlockBy by) phase = Unit {0}
HasRoom (EndBy by) phase = Unit {0}

low : (phase other : Phase) (n : ℕ) → phase ≡ other → rank other ≤ n → rank phase ≤ n
low phase other n same h = subst (λ p. rank p ≤ n) (sym same) h

pub undecided_low : (phase : Phase) → is_decided phase ≡ false → rank phase ≤ 2
undecided_low Voting h = omega arith
undecided_low Recovering h = omega arith
undecided_low (Accepting s) h = omega arith
undecided_low (Committing s) h = omega arith
undecided_low (Executing s) h = absurd (true≢false h)

module _ (layout : Layout) (x : TxnId) where
  pub moves_room : (a : Attempt) (move : Move) → Moves layout x a move → HasRoom move a.phase
  moves_room a Wait moves = tt
  moves_room a (Propose s) moves = proposes_low layout x a s moves
  moves_room a (CommitTo s) moves = commits_low layout x a s moves
  moves_room a (DecideBy path s) (DecidesFast phase fast) = low a.phase Voting 2 phase (omega arith)
  moves_room a (DecideBy path s) (AdoptsStable r phase major is) = low a.phase Recovering 2 phase (omega arith)
  moves_room a (DecideBy path s) (DecidesCommitted r phase major) = low a.phase (Committing r) 2 phase (omega arith)
  moves_room a (FinishWith s outcome) moves = tt
  moves_room a (BlockBy by) moves = tt
  moves_room a (EndBy by) moves = tt

  -- the attempt that moves is the one before, perhaps with an answer more
  pub record GoesOn (before a : Attempt) (move : Move) : Type 0 where
    pub same_ballot : a.ballot ≡ before.ballot
    pub same_body : a.body ≡ before.body
    pub same_phase : a.phase ≡ before.phase
    pub room : HasRoom move before.phase

  pub hears_room : (before : Attempt) (m : Message) (a : Attempt) (move : Move) → Hears layout x before m a move → GoesOn before a move
  hears_room before m a move (Ignores n) = record { same_ballot = refl; same_body = refl; same_phase = refl; room = tt }
  hears_room before m a move (Counts n moved same counting moves) =
      record { same_ballot = refl; same_body = refl; same_phase = refl; room = moves_room a moved moves }
  hears_room before m a move (IsEnded from to id ballot promised same above) = record { same_ballot = refl; same_body = refl; same_phase = refl; room = tt }
  hears_room before m a move (TakesOver from to id ballot t deps same undecided ready) =
      record { same_ballot = refl; same_body = refl; same_phase = refl; room = undecided_low before.phase undecided }

-- ---- what a move sends for the attempt at x with a ballot

module _ (layout : Layout) (own : Actor) (x : TxnId) (b : Ballot) where
  -- a move of another attempt sends nothing for it
  pub other_made : (y : TxnId) (a : Attempt) (move : Move) → (id_eq y x && ballot_eq a.ballot b) ≡ false
      → count_by (is_of_attempt x b) (made layout own y a move).emitted.out ≡ 0
  other_made y a Wait other = refl
  other_made y a (Propose s) other = none_counted (is_of_attempt x b) (λ store. Accept own store y a.ballot a.body s.t s.deps) (stores_used layout a.body) (λ _. other)
  other_made y a (CommitTo s) other = none_counted (is_of_attempt x b) (λ store. Commit own store y a.ballot a.body s.t s.deps) (stores_used layout a.body) (λ _. other)
  other_made y a (DecideBy path s) other = none_counted (is_of_attempt x b) (λ store. Stable own store y a.ballot a.body s.t s.deps) (stores_used layout a.body) (λ _. other)
  other_made y a (FinishWith s outcome) other =
      let applies : count_by (is_of_attempt x b) (map (λ store. Apply own store y a.ballot a.body s.t s.deps outcome) (stores_used layout a.body)) ≡ 0 =
      none_counted (is_of_attempt x b) (λ store. Apply own store y a.ballot a.body s.t s.deps outcome) (stores_used layout a.body) (λ _. other) in
      let informs : count_by (is_of_attempt x b) (inform own y a.ballot outcome) ≡ 0 =
      cond_both (same_actor own (home_node y)) [] (Inform own (home_node y) y a.ballot outcome ∷ []) (λ out. count_by (is_of_attempt x b) out ≡ 0) (λ _. refl)
      (λ _. count_by-cons (is_of_attempt x b) (Inform own (home_node y) y a.ballot outcome) [] ∙ ap (λ c. one_if c + 0) other) in
      omega (arith, count_by-append (is_of_attempt x b) (map (λ store. Apply own store y a.ballot a.body s.t s.deps outcome) (stores_used layout a.body)) (inform own y a.ballot outcome), applies, informs)
  other_made y a (BlockBy by) other = refl
  other_made y a (EndBy by) other = refl

  told_once : (y : TxnId) (ballot : Ballot) (outcome : Outcome) → count_by (is_of_attempt x b) (inform own y ballot outcome) ≤ 1
  told_once y ballot outcome =
      cond_both (same_actor own (home_node y)) [] (Inform own (home_node y) y ballot outcome ∷ []) (λ out. count_by (is_of_attempt x b) out ≤ 1)
      (λ _. omega arith) (λ _. count_by-le-length (is_of_attempt x b) (Inform own (home_node y) y ballot outcome ∷ []))

  pub finish_made : (a : Attempt) (s : Settled) (outcome : Outcome)
      → count_by (is_of_attempt x b) (made layout own x a (FinishWith s outcome)).emitted.out ≤ length (stores_used layout a.body) + 1
  finish_made a s outcome =
      omega (
        arith,
        count_by-append (is_of_attempt x b) (map (λ store. Apply own store x a.ballot a.body s.t s.deps outcome) (stores_used layout a.body)) (inform own x a.ballot outcome),
        at_most_all (is_of_attempt x b) (λ store. Apply own store x a.ballot a.body s.t s.deps outcome) (stores_used layout a.body),
        told_once x a.ballot outcome,
      )

-- ---- the start of the attempt

-- some step began or recovered x with this ballot
pub record Started (node start : ℕ) (x : TxnId) (b : Ballot) (deeds : List Deed) : Type 0 where
  pub deed : Deed
  pub past : List Deed
  pub at : StandsAt deed past deeds
  pub draws : IsDraw deed.act
  pub by : ((next_draw node start past ≡ x.0) × (b ≡ zero_ballot)) ⊎ (b ≡ next_ballot node start past)

module _ (layout : Layout) (node start : ℕ) (x : TxnId) (b : Ballot) where
  pub started_back : (deed : Deed) (past : List Deed) → Started node start x b past → Started node start x b (deed ∷ past)
  started_back deed past s = record { deed = s.deed; past = s.past; at = Back s.deed deed s.past past s.at; draws = s.draws; by = s.by }

  pub started_from : (deeds : List Deed) (a : Attempt) → a.ballot ≡ b → Origin layout node start x deeds a → Started node start x b deeds
  started_from deeds a same (FromBegin txn deed before at act_is drawn at_zero) =
      record { deed = deed; past = before; at = at; draws = subst IsDraw (sym act_is) (DrawsId txn a.body); by = inl (ap (λ (y : TxnId). y.0) drawn, sym same ∙ at_zero) }
  started_from deeds a same (FromRecover deed before at act_is drawn) =
      record { deed = deed; past = before; at = at; draws = subst IsDraw (sym act_is) (DrawsBallot x a.body); by = inr (sym same ∙ drawn) }

  never_zero : (past : List Deed) → b ≡ zero_ballot → b ≡ next_ballot node start past → ⊥
  never_zero past zero_is is =
      true≢false (sym ((ballot_order.decides (next_ballot node start past) zero_ballot).1 (sym is ∙ zero_is)) ∙ not_zero node start past)

  pub not_begun_again : (deeds : List Deed) → Started node start x b deeds → next_id node start deeds ≡ x → b ≡ zero_ballot → ⊥
  not_begun_again deeds s drawn at_zero =
      ⊎_elim (λ both. draw_differs node start s.deed s.past deeds s.at s.draws (both.0 ∙ sym (ap (λ (y : TxnId). y.0) drawn))) (λ is. never_zero s.past at_zero is) s.by

  pub not_recovered_again : (deeds : List Deed) → Started node start x b deeds → b ≡ next_ballot node start deeds → ⊥
  not_recovered_again deeds s drawn =
      ⊎_elim (λ both. never_zero deeds both.1 drawn)
      (λ is. draw_differs node start s.deed s.past deeds s.at s.draws (ap (λ (k : Ballot). k.0) (sym is ∙ drawn))) s.by
