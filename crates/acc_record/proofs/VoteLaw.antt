-- The votes, dependencies and refusals of a shelf are those of the rules for the history that it stands for.
use Rattle.std.proofs.Common.{◌≡◌, ℕ, ◌+◌, Bool, true, false, cond, max, List, [], ◌∷◌, Option, None, Some, refl, sym, ap, ◌∙◌, arith}
use Rattle.std.specs.Option.{option_map}
use Rattle.std.proofs.lemmas.Bool.Decides.{nat_tests}
use Rattle.acc_base.specs.Faults.{or_else}
use Rattle.acc_stamp.specs.declared.stamps.Stamp.{Stamp}
use Rattle.acc_stamp.specs.declared.stamps.TxnId.{TxnId}
use Rattle.acc_stamp.specs.declared.stamps.Ballot.{Ballot}
use Rattle.acc_stamp.specs.declared.actors.Actor.{Actor}
use Rattle.acc_stamp.specs.Actor.{shard_of, home_of}
use Rattle.acc_stamp.specs.Stamp.{stamp_lt, ballot_lt, zero_ballot}
use Rattle.acc_topology.specs.Layout.{Layout}
use Rattle.acc_deps.specs.declared.records.Settled.{Settled}
use Rattle.acc_deps.specs.Deps.{deps_of}
use Rattle.acc_value.specs.declared.key.Key.{Key}
use Rattle.acc_txn.specs.declared.parts.BodyParts.{BodyParts}
use Rattle.acc_message.specs.declared.message.Message.{Message}
use Rattle.acc_message.specs.declared.message.Message.TheVariants.{Nack}
use Rattle.acc_message.specs.Fields.{id_of, top_of}
use Rattle.acc_message.specs.Taken.{Taken, taking, body_in, body_known}
use Rattle.acc_message.specs.VoteRule.{Vote as Given, vote_of, vote_for, vote_given, new_vote, new_stamp, known_below, greatest_h}
use Rattle.acc_message.specs.BallotRules.{stable_of, promise_of}
use Rattle.acc_message.specs.StoreRules.{replay, body_or, body_counting, unless_stable, unless_promised}
use Rattle.acc_record.specs.declared.shelf.Shelf.{Shelf}
use Rattle.acc_record.specs.declared.vote.Vote.{Vote}
use Rattle.acc_record.specs.Shelf.{record_at}
use Rattle.acc_record.specs.Stands.{StandsFor, record_with, stamp_of_vote, deps_of_vote}
use Rattle.acc_record.specs.Learning.{vote_with, earlier_vote, stamp_at, deps_below, given, vote_at, body_of}
use Rattle.acc_record.proofs.Apart.{known_here}
use Rattle.acc_record.proofs.Resting.{IsUntouched, untouched}
use Rattle.acc_record.specs.Refusal.{refusal_with, refusal_of, refusal_or}
use Rattle.acc_record.proofs.Rivals.{share_in, below, names_by}

abbrev pub given_as : Given → Vote
given_as v = record { stamp = v.vote; deps = v.deps }

given_either : (o : Option Given) (made : Given) → given_as (vote_given o made) ≡ given (option_map given_as o) (given_as made)
given_either None made = refl
given_either (Some v) made = refl

kept_vote : (o : Option Given) → vote_with (stamp_of_vote o) (deps_of_vote o) ≡ option_map given_as o
kept_vote None = refl
kept_vote (Some v) = refl

never_below : (b : Ballot) → ballot_lt b zero_ballot ≡ false
never_below b = grind (arith, nat_tests)

max_zero : (a b : ℕ) → max (max a 0) b ≡ max a b
max_zero a b = omega arith

refused_by : (own : Actor) (x : TxnId) (b least promised : Ballot) (c : Bool) (answer : Message)
    → cond c (Nack own (home_of x b) x b promised ∷ []) (answer ∷ []) ≡ refusal_or (cond c (Some (Nack own (home_of x b) x b promised)) None) answer ∷ []
refused_by own x b least promised true answer = refl
refused_by own x b least promised false answer = refl

refused_with : (own : Actor) (x : TxnId) (b least promised : Ballot) (o : Option Settled) (answer : Message)
    → unless_stable own x b o (unless_promised own x b promised least (answer ∷ [])) ≡ refusal_or (refusal_with own x b least o promised) answer ∷ []
refused_with own x b least promised (Some s) answer = refl
refused_with own x b least promised None answer = refused_by own x b least promised (ballot_lt least promised) answer

module _ (layout : Layout) (shelf : Shelf) (messages : List Message) (stands : StandsFor layout shelf (replay layout shelf.actor messages)) (m : Message) (body : BodyParts) (brings : body_in m ≡ Some body) where
  abbrev past : List Taken
  past = replay layout shelf.actor messages

  abbrev now : List Taken
  now = taking m past

  abbrev counted : BodyParts
  counted = body_of (record_at shelf.records (id_of m)) body

  abbrev share : List (Key × Bool)
  share = share_in layout (shard_of shelf.actor) counted

  counted_by : (o : Option BodyParts) → body_of (option_map (record_with (shard_of shelf.actor) past (id_of m)) o) body ≡ body_or (or_else o (Some body)) body
  counted_by None = refl
  counted_by (Some b) = refl

  -- the body that counts
  pub counts : counted ≡ body_counting now (id_of m) body
  counts =
      ap (λ r. body_of r body) (stands.records (id_of m))
      ∙ counted_by (body_known past (id_of m))
      ∙ ap (λ o. body_or (or_else (body_known past (id_of m)) o) body) (sym brings)
      ∙ ap (λ o. body_or o body) (sym (known_here (record { message = m; sent = [] }) past))

  -- ---- refusals

  refused_at : (b least : Ballot) (answer : Message) (o : Option BodyParts) → body_known past (id_of m) ≡ o
      → unless_stable shelf.actor (id_of m) b (stable_of past (id_of m)) (unless_promised shelf.actor (id_of m) b (promise_of past (id_of m)) least (answer ∷ []))
      ≡ refusal_or (refusal_of shelf.actor (id_of m) b least (option_map (record_with (shard_of shelf.actor) past (id_of m)) o)) answer ∷ []
  refused_at b least answer (Some known) is = refused_with shelf.actor (id_of m) b least (promise_of past (id_of m)) (stable_of past (id_of m)) answer
  refused_at b least answer None is =
      let u : IsUntouched past (id_of m) = untouched layout shelf.actor messages (id_of m) is in
      ap (λ o. unless_stable shelf.actor (id_of m) b o (unless_promised shelf.actor (id_of m) b (promise_of past (id_of m)) least (answer ∷ []))) u.stable
      ∙ ap (λ p. unless_promised shelf.actor (id_of m) b p least (answer ∷ [])) u.promise
      ∙ ap (λ c. cond c (Nack shelf.actor (home_of (id_of m) b) (id_of m) b zero_ballot ∷ []) (answer ∷ [])) (never_below least)

  pub refused : (b least : Ballot) (answer : Message)
      → unless_stable shelf.actor (id_of m) b (stable_of past (id_of m)) (unless_promised shelf.actor (id_of m) b (promise_of past (id_of m)) least (answer ∷ []))
      ≡ refusal_or (refusal_of shelf.actor (id_of m) b least (record_at shelf.records (id_of m))) answer ∷ []
  refused b least answer =
      refused_at b least answer (body_known past (id_of m)) refl
      ∙ ap (λ r. refusal_or (refusal_of shelf.actor (id_of m) b least r) answer ∷ []) (sym (stands.records (id_of m)))

  -- ---- votes

  earlier_by : (o : Option BodyParts) → body_known past (id_of m) ≡ o
      → earlier_vote (option_map (record_with (shard_of shelf.actor) past (id_of m)) o) ≡ option_map given_as (vote_of past (id_of m))
  earlier_by (Some known) is = kept_vote (vote_of past (id_of m))
  earlier_by None is =
      let u : IsUntouched past (id_of m) = untouched layout shelf.actor messages (id_of m) is in
      ap (option_map given_as) (sym u.vote)

  earlier : earlier_vote (record_at shelf.records (id_of m)) ≡ option_map given_as (vote_of past (id_of m))
  earlier = ap earlier_vote (stands.records (id_of m)) ∙ earlier_by (body_known past (id_of m)) refl

  greatest_now : greatest_h shelf.actor now ≡ max (top_of m) shelf.greatest
  greatest_now = max_zero (top_of m) (greatest_h shelf.actor past) ∙ ap (max (top_of m)) (sym stands.greatest)

  stamps : new_stamp layout shelf.actor now (id_of m) counted ≡ stamp_at shelf (id_of m) share (top_of m)
  stamps = λ i.
      cond (below layout (shard_of shelf.actor) shelf.index past stands.index m counted i) (id_of m).0
      (record { h = 1 + greatest_now i; origin = shelf.actor.0 })

  pub dependencies : (bound : Stamp) → known_below layout shelf.actor now (id_of m) counted bound ≡ deps_below shelf (id_of m) share bound
  dependencies bound =
      ap (deps_of (shard_of shelf.actor))
      (sym (names_by layout (shard_of shelf.actor) shelf.index past stands.index m counted (λ y. stamp_lt y.0 bound)))

  pub votes : given_as (vote_for layout shelf.actor past now (id_of m) counted) ≡ vote_at shelf (id_of m) share (top_of m)
  votes =
      given_either (vote_of past (id_of m)) (new_vote layout shelf.actor now (id_of m) counted)
      ∙ (λ i. given (sym earlier i) (record { stamp = stamps i; deps = dependencies (id_of m).0 i }))
