-- The view whose record a recovery adopts.
--     has_record      the view shows a record
--     goes_before      the record of the first view counts before that of the second one
--     HasNone views      no view shows a record
--     GoesFirst views v      the record that is adopted from the views is that of v
--     adopted views      how a recovery goes on with it
use Rattle.std.specs.Prelude.{◌≡◌, Bool, true, false, ◌||◌, IsTrue, is_some, List, [], Option, None, Some}
use Rattle.acc_base.specs.Faults.{or_else}
use Rattle.acc_stamp.specs.declared.actors.Actor.{Actor}
use Rattle.acc_deps.specs.declared.records.Accepted.{Accepted}
use Rattle.acc_deps.specs.declared.records.Settled.{Settled}
use Rattle.acc_deps.specs.declared.records.View.{View}
use Rattle.acc_deps.specs.declared.records.Choice.{Choice}
use Rattle.acc_deps.specs.declared.records.Choice.TheVariants.{Stable as GoStable}
use Rattle.acc_recover.specs.declared.ranking.Precedence.{Precedence}
use Rattle.acc_deps.specs.Records.{store_lt, Stably, stably_in, stably_all, least_stably, Claim, claims_in, claims_of, outranks, highest_claim, choice_of_claim}

abbrev pub has_record : View → Bool
has_record v = is_some v.stable || is_some v.committed || is_some v.accepted

-- ---- the order of records

abbrev pub claim_before : Option Claim → Option Claim → Bool
claim_before None d = false
claim_before (Some c) None = true
claim_before (Some c) (Some d) = outranks c d

-- a stable record goes before all others, and that of the first store before other stable ones
abbrev pub stable_before : Actor → Option Settled → Actor → Option Settled → Bool → Bool
stable_before a None b None other = other
stable_before a None b (Some s) other = false
stable_before a (Some r) b None other = true
stable_before a (Some r) b (Some s) other = store_lt a b

abbrev pub goes_before : View → View → Bool
goes_before v w =
    stable_before v.store v.stable w.store w.stable (claim_before (highest_claim (claims_in v)) (highest_claim (claims_in w)))

-- ---- what is adopted from a list of views

pub record HasNone (views : List View) : Type 0 where
  pub stable : stably_all views ≡ []
  pub claims : claims_of views ≡ []

pub record GoesFirst (views : List View) (v : View) : Type 0 where
  pub recorded : IsTrue (has_record v)
  pub stable : least_stably (stably_in v.store v.stable) ≡ least_stably (stably_all views)
  pub claim : least_stably (stably_all views) ≡ None → highest_claim (claims_in v) ≡ highest_claim (claims_of views)

-- what there is of a claim in a view, and what of it the order of records looks at
abbrev pub claim_at : Actor → Accepted → Bool → Claim
claim_at store a is_committed =
    record { store = store; ballot = a.ballot; is_committed = is_committed; settled = record { t = a.t; deps = a.deps } }

abbrev pub precedence_of : Claim → Precedence
precedence_of c = record { ballot = c.ballot; is_committed = c.is_committed; store = c.store }

abbrev pub precedence_if : Option Claim → Option Precedence
precedence_if None = None
precedence_if (Some c) = Some (precedence_of c)

-- ---- how a recovery goes on with it

abbrev pub stable_choice : Option Stably → Option Choice
stable_choice None = None
stable_choice (Some s) = Some (GoStable s.settled)

abbrev pub claimed_choice : Option Claim → Option Choice
claimed_choice None = None
claimed_choice (Some c) = Some (choice_of_claim c)

abbrev pub adopted : List View → Option Choice
adopted views =
    or_else (stable_choice (least_stably (stably_all views))) (claimed_choice (highest_claim (claims_of views)))

-- the same of one view
abbrev pub shown_choice : View → Option Choice
shown_choice v =
    or_else (stable_choice (least_stably (stably_in v.store v.stable))) (claimed_choice (highest_claim (claims_in v)))
