-- The worked examples are safe runs, by computation.
use Rattle.std.proofs.Common.{◌≡◌, ℕ, Bool, true, ◌&&◌, List, [], ◌∷◌, Option, None, Some, refl, sym, ◌∙◌, ap}
use Rattle.std.specs.Prelude.{is_some}
use Rattle.std.specs.List.{slice_get, list_all}
use Rattle.std.proofs.lemmas.Bool.{true≢false, and_parts}
use Rattle.acc_topology.specs.Sets.{numbers, is_among}
use Rattle.acc_message.specs.declared.item.Item.{Item}
use Rattle.acc_message.specs.Run.{Cluster}
use Rattle.acc_run_laws.specs.declared.ask.Ask.{Ask}
use Rattle.acc_run_laws.specs.declared.ask.Ask.TheVariants.{Begin, Recover, Slow, Deliver, Restart}
use Rattle.acc_run_laws.specs.Asks.{after_asks}
use Rattle.acc_run_laws.specs.Schedules.{drained}
use Rattle.acc_run_laws.specs.AskLaws.{IsAskOf, AreAsksOf, IsRunWithoutDowns}
use Rattle.acc_safety.specs.Safe.{IsSafeRun}
use Rattle.acc_examples.specs.OneUpdate as one_update
use Rattle.acc_examples.specs.LostVote as lost_vote
use Rattle.acc_examples.specs.NoLostVote as no_lost_vote
use Rattle.acc_examples.specs.ConflictHeardFirst as conflict_heard_first
use Rattle.acc_examples.specs.ReadsDoNotConflict as reads_do_not_conflict
use Rattle.acc_examples.specs.FourOfFive as four_of_five
use Rattle.acc_examples.specs.SlowNeedsMajority as slow_needs_majority
use Rattle.acc_examples.specs.PrintedOrder as printed_order
use Rattle.acc_examples.specs.SilentUntilApplied as silent_until_applied
use Rattle.acc_examples.specs.RecoveryAfterRestart as recovery_after_restart
use Rattle.acc_examples.specs.OneUnchangedOfTwo as one_unchanged_of_two
use Rattle.acc_examples.specs.SupersededByAccept as superseded_by_accept
use Rattle.acc_examples.specs.BlockedRecovery as blocked_recovery
use Rattle.acc_examples.specs.NackWithOwnBallot as nack_with_own_ballot
use Rattle.acc_examples.specs.TransferBetweenShards as transfer_between_shards
use Rattle.acc_run_laws.proofs.AskFacts.{asks_are_run, drains_are_run, nothing_is_run}
use Rattle.acc_examples.proofs.AgreementTested.{agreement_test, agreement-sound}
use Rattle.acc_examples.proofs.CoverageTested.{coverage_test, coverage-sound}
use Rattle.acc_examples.proofs.SerialTested.{serial_test, serial-sound}
use Rattle.acc_examples.proofs.TransferStates.{after_two, after_three}
use Rattle.acc_examples.proofs.Computed.{transfer_between_shards-parts}

-- ---- asks of a cluster

abbrev ask_test : Cluster → Ask → Bool
ask_test cluster (Begin txn) = is_some (slice_get cluster.homes txn) && is_some (slice_get cluster.bodies txn)
ask_test cluster (Recover txn node) = is_among cluster.layout.nodes node
ask_test cluster (Slow txn) = true
ask_test cluster (Deliver number) = true
ask_test cluster (Restart actor) = true

there : {T : Type 0} (o : Option T) → is_some o ≡ true → (x : T) × (o ≡ Some x)
there None h = absurd (true≢false (sym h))
there (Some x) h = (x, refl)

is_ask : (cluster : Cluster) (ask : Ask) → ask_test cluster ask ≡ true → IsAskOf cluster ask
is_ask cluster (Begin txn) h =
    let parts = and_parts (is_some (slice_get cluster.homes txn)) (is_some (slice_get cluster.bodies txn)) h in
    let home = there (slice_get cluster.homes txn) parts.0 in
    let body = there (slice_get cluster.bodies txn) parts.1 in
    record { home = home.0; home_is = home.1; body = body.0; body_is = body.1 }
is_ask cluster (Recover txn node) h = h
is_ask cluster (Slow txn) h = tt
is_ask cluster (Deliver number) h = tt
is_ask cluster (Restart actor) h = tt

are_asks : (cluster : Cluster) (asks : List Ask) → list_all (ask_test cluster) asks ≡ true → AreAsksOf cluster asks
are_asks cluster [] h = tt
are_asks cluster (ask ∷ asks) h =
    let parts = and_parts (ask_test cluster ask) (list_all (ask_test cluster) asks) h in (is_ask cluster ask parts.0, are_asks cluster asks parts.1)

asked : (cluster : Cluster) (step : ℕ) (asks : List Ask) (items : List Item) → list_all (ask_test cluster) asks ≡ true
    → IsRunWithoutDowns cluster items → IsRunWithoutDowns cluster (after_asks cluster step asks items)
asked cluster step asks items h run = asks_are_run cluster step asks items run (are_asks cluster asks h)

safe : (cluster : Cluster) (items : List Item) → IsRunWithoutDowns cluster items → agreement_test items ≡ true → coverage_test cluster items ≡ true
    → serial_test cluster items ≡ true → IsSafeRun cluster items
safe cluster items h agrees covers serial =
    record {
      run = h.run;
      agreement = agreement-sound items agrees;
      coverage = coverage-sound cluster items covers;
      serial_outcomes = serial-sound cluster items serial;
    }

-- ---- the examples

one_update-run : IsRunWithoutDowns one_update.cluster one_update.items
one_update-run = drains_are_run one_update.cluster [] _ (asked one_update.cluster 0 one_update.asks [] refl (nothing_is_run one_update.cluster))

pub one_update-safe : IsSafeRun one_update.cluster one_update.items
unfolding numbers
one_update-safe = safe one_update.cluster one_update.items one_update-run refl refl refl

lost_vote-run : IsRunWithoutDowns lost_vote.cluster lost_vote.items
lost_vote-run = drains_are_run lost_vote.cluster (11 ∷ []) _ (asked lost_vote.cluster 0 lost_vote.asks [] refl (nothing_is_run lost_vote.cluster))

pub lost_vote-safe : IsSafeRun lost_vote.cluster lost_vote.items
unfolding numbers
lost_vote-safe = safe lost_vote.cluster lost_vote.items lost_vote-run refl refl refl

no_lost_vote-run : IsRunWithoutDowns no_lost_vote.cluster no_lost_vote.items
no_lost_vote-run = drains_are_run no_lost_vote.cluster [] _ (asked no_lost_vote.cluster 0 no_lost_vote.asks [] refl (nothing_is_run no_lost_vote.cluster))

pub no_lost_vote-safe : IsSafeRun no_lost_vote.cluster no_lost_vote.items
unfolding numbers
no_lost_vote-safe = safe no_lost_vote.cluster no_lost_vote.items no_lost_vote-run refl refl refl

conflict_heard_first-run : IsRunWithoutDowns conflict_heard_first.cluster conflict_heard_first.items
conflict_heard_first-run = drains_are_run conflict_heard_first.cluster [] _ (asked conflict_heard_first.cluster 0 conflict_heard_first.asks [] refl (nothing_is_run conflict_heard_first.cluster))

pub conflict_heard_first-safe : IsSafeRun conflict_heard_first.cluster conflict_heard_first.items
unfolding numbers
conflict_heard_first-safe = safe conflict_heard_first.cluster conflict_heard_first.items conflict_heard_first-run refl refl refl

reads_do_not_conflict-run : IsRunWithoutDowns reads_do_not_conflict.cluster reads_do_not_conflict.items
reads_do_not_conflict-run = drains_are_run reads_do_not_conflict.cluster [] _ (asked reads_do_not_conflict.cluster 0 reads_do_not_conflict.asks [] refl (nothing_is_run reads_do_not_conflict.cluster))

pub reads_do_not_conflict-safe : IsSafeRun reads_do_not_conflict.cluster reads_do_not_conflict.items
unfolding numbers
reads_do_not_conflict-safe = safe reads_do_not_conflict.cluster reads_do_not_conflict.items reads_do_not_conflict-run refl refl refl

four_of_five-run : IsRunWithoutDowns four_of_five.cluster four_of_five.items
four_of_five-run = drains_are_run four_of_five.cluster (4 ∷ []) _ (asked four_of_five.cluster 0 four_of_five.asks [] refl (nothing_is_run four_of_five.cluster))

pub four_of_five-safe : IsSafeRun four_of_five.cluster four_of_five.items
unfolding numbers
four_of_five-safe = safe four_of_five.cluster four_of_five.items four_of_five-run refl refl refl

slow_needs_majority-run : IsRunWithoutDowns slow_needs_majority.cluster slow_needs_majority.items
slow_needs_majority-run = drains_are_run slow_needs_majority.cluster [] _ (asked slow_needs_majority.cluster 0 slow_needs_majority.asks [] refl (nothing_is_run slow_needs_majority.cluster))

pub slow_needs_majority-safe : IsSafeRun slow_needs_majority.cluster slow_needs_majority.items
unfolding numbers
slow_needs_majority-safe = safe slow_needs_majority.cluster slow_needs_majority.items slow_needs_majority-run refl refl refl

printed_order-run : IsRunWithoutDowns printed_order.cluster printed_order.items
printed_order-run =
    begun_and_drained 4 2 _ refl (begun_and_drained 2 1 _ refl (begun_and_drained 0 0 [] refl (nothing_is_run printed_order.cluster)))
  where
    begun_and_drained : (step txn : ℕ) (items : List Item) → list_all (ask_test printed_order.cluster) (Begin txn ∷ []) ≡ true
        → IsRunWithoutDowns printed_order.cluster items
        → IsRunWithoutDowns printed_order.cluster (drained printed_order.cluster [] (after_asks printed_order.cluster step (Begin txn ∷ []) items))
    begun_and_drained step txn items h run =
        drains_are_run printed_order.cluster [] _ (asked printed_order.cluster step (Begin txn ∷ []) items h run)

pub printed_order-safe : IsSafeRun printed_order.cluster printed_order.items
unfolding numbers
printed_order-safe = safe printed_order.cluster printed_order.items printed_order-run refl refl refl

silent_until_applied-run : IsRunWithoutDowns silent_until_applied.cluster silent_until_applied.items
silent_until_applied-run = asked silent_until_applied.cluster 0 silent_until_applied.asks [] refl (nothing_is_run silent_until_applied.cluster)

pub silent_until_applied-safe : IsSafeRun silent_until_applied.cluster silent_until_applied.items
unfolding numbers
silent_until_applied-safe = safe silent_until_applied.cluster silent_until_applied.items silent_until_applied-run refl refl refl

recovery_after_restart-run : IsRunWithoutDowns recovery_after_restart.cluster recovery_after_restart.items
recovery_after_restart-run = drains_are_run recovery_after_restart.cluster [] _ (asked recovery_after_restart.cluster 0 recovery_after_restart.asks [] refl (nothing_is_run recovery_after_restart.cluster))

pub recovery_after_restart-safe : IsSafeRun recovery_after_restart.cluster recovery_after_restart.items
unfolding numbers
recovery_after_restart-safe = safe recovery_after_restart.cluster recovery_after_restart.items recovery_after_restart-run refl refl refl

one_unchanged_of_two-run : IsRunWithoutDowns one_unchanged_of_two.cluster one_unchanged_of_two.items
one_unchanged_of_two-run = drains_are_run one_unchanged_of_two.cluster [] _ (asked one_unchanged_of_two.cluster 0 one_unchanged_of_two.asks [] refl (nothing_is_run one_unchanged_of_two.cluster))

pub one_unchanged_of_two-safe : IsSafeRun one_unchanged_of_two.cluster one_unchanged_of_two.items
unfolding numbers
one_unchanged_of_two-safe = safe one_unchanged_of_two.cluster one_unchanged_of_two.items one_unchanged_of_two-run refl refl refl

superseded_by_accept-run : IsRunWithoutDowns superseded_by_accept.cluster superseded_by_accept.items
superseded_by_accept-run = drains_are_run superseded_by_accept.cluster [] _ (asked superseded_by_accept.cluster 0 superseded_by_accept.asks [] refl (nothing_is_run superseded_by_accept.cluster))

pub superseded_by_accept-safe : IsSafeRun superseded_by_accept.cluster superseded_by_accept.items
unfolding numbers
superseded_by_accept-safe = safe superseded_by_accept.cluster superseded_by_accept.items superseded_by_accept-run refl refl refl

blocked_recovery-run : IsRunWithoutDowns blocked_recovery.cluster blocked_recovery.items
blocked_recovery-run = drains_are_run blocked_recovery.cluster (5 ∷ []) _ (asked blocked_recovery.cluster 18 blocked_recovery.later_asks _ refl (drains_are_run blocked_recovery.cluster (5 ∷ []) _ (asked blocked_recovery.cluster 15 blocked_recovery.more_asks _ refl (asked blocked_recovery.cluster 0 blocked_recovery.asks [] refl (nothing_is_run blocked_recovery.cluster)))))

pub blocked_recovery-safe : IsSafeRun blocked_recovery.cluster blocked_recovery.items
unfolding numbers
blocked_recovery-safe = safe blocked_recovery.cluster blocked_recovery.items blocked_recovery-run refl refl refl

nack_with_own_ballot-run : IsRunWithoutDowns nack_with_own_ballot.cluster nack_with_own_ballot.items
nack_with_own_ballot-run = drains_are_run nack_with_own_ballot.cluster [] _ (asked nack_with_own_ballot.cluster 0 nack_with_own_ballot.asks [] refl (nothing_is_run nack_with_own_ballot.cluster))

pub nack_with_own_ballot-safe : IsSafeRun nack_with_own_ballot.cluster nack_with_own_ballot.items
unfolding numbers
nack_with_own_ballot-safe = safe nack_with_own_ballot.cluster nack_with_own_ballot.items nack_with_own_ballot-run refl refl refl

-- the transfer is computed in parts

transfer_round : (step txn : ℕ) (items : List Item) → list_all (ask_test transfer_between_shards.cluster) (Begin txn ∷ []) ≡ true
    → IsRunWithoutDowns transfer_between_shards.cluster items
    → IsRunWithoutDowns transfer_between_shards.cluster (transfer_between_shards.round step txn items)
unfolding transfer_between_shards.round
transfer_round step txn items h run =
    drains_are_run transfer_between_shards.cluster [] _ (asked transfer_between_shards.cluster step (Begin txn ∷ []) items h run)

transfer_between_shards-run : IsRunWithoutDowns transfer_between_shards.cluster transfer_between_shards.items
transfer_between_shards-run =
    transfer_round 6 3 _ refl (transfer_round 4 2 _ refl (transfer_round 2 1 _ refl (transfer_round 0 0 [] refl (nothing_is_run transfer_between_shards.cluster))))

transfer_agrees : agreement_test (transfer_between_shards.round 6 3 after_three) ≡ true
unfolding numbers transfer_between_shards.round after_two after_three
transfer_agrees = refl

transfer_covers : coverage_test transfer_between_shards.cluster (transfer_between_shards.round 6 3 after_three) ≡ true
unfolding numbers transfer_between_shards.round after_two after_three
transfer_covers = refl

transfer_serial : serial_test transfer_between_shards.cluster (transfer_between_shards.round 6 3 after_three) ≡ true
unfolding numbers transfer_between_shards.round after_two after_three
transfer_serial = refl

pub transfer_between_shards-safe : IsSafeRun transfer_between_shards.cluster transfer_between_shards.items
transfer_between_shards-safe =
    safe transfer_between_shards.cluster transfer_between_shards.items transfer_between_shards-run
    (ap agreement_test transfer_between_shards-parts ∙ transfer_agrees)
    (ap (coverage_test transfer_between_shards.cluster) transfer_between_shards-parts ∙ transfer_covers)
    (ap (serial_test transfer_between_shards.cluster) transfer_between_shards-parts ∙ transfer_serial)
