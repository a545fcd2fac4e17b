use Rattle.std.proofs.Common.{◌≡◌, List, map, Err, Some, None, string_bytes, sym, ap, subst, ◌∙◌, ℕ}
use Rattle.std.proofs.lemmas.Map.Iter.{rest_all, rest_more}
use Rattle.std.proofs.lemmas.Result.{err_from_is_err_and}
use Rattle.std.specs.Map.Iter.{deref_pair}
use Rattle.serde_json.specs.View.{view}
use Rattle.acc_base.specs.Faults.{must}
use Rattle.acc_schedule.specs.declared.error.PlanKind.TheVariants.{Name, Shape}
use Rattle.acc_schedule.specs.declared.error.PlanError.{PlanError}
use Rattle.acc_schedule.specs.Actors.{actor_named as named_among}
use Rattle.acc_schedule.specs.Faults.{bad, fault, IsFault}
use Rattle.acc_schedule.specs.Paths.{escaped}
use Rattle.acc_left.specs.declared.members.NamedActor.{NamedActor}
use Rattle.acc_left.specs.Leaves.{actors_rising}
use Rattle.acc_left.specs.Reading.{is_image, member_path}
use Rattle.acc_left.proofs.MemberFacts.{name_fails, named_all, named_more, value_fails}
use Rattle.acc_left.proofs.members.images_in.Goals as goal

pub returns-in_default : goal.returns-in_default
returns-in_default c = λ d object.
    let name = c.in-Some.name.now in
    let next = rest_more deref_pair c.loop-name.name-iterator c.next.new.self c.next.result (c.in-Some.name, c.in-Some.value) c.in-Some.is c.next.ensures.steps in
    let known =
    c.actor_named.ensures (actors_rising c.args.topology.now) (ap (map (λ (n : NamedActor). n.actor)) c.deref.ensures.value ∙ c.in_ok-actors.ensures.actors)
    (ap (map (λ (n : NamedActor). string_bytes n.name)) c.deref.ensures.value ∙ c.in_ok-actors.ensures.names) in
    let none : named_among (actors_rising c.args.topology.now) (string_bytes name) ≡ None = ap (named_among (actors_rising c.args.topology.now)) (sym c.as_str.ensures.value) ∙ sym known ∙ c.in_default.is in
    name_fails c.args.topology.now d c.args.journals.now.entries c.loop-name.name-iterator c.next.new.self c.loop-name.images (name, c.in-Some.value.now) c.no_actor.result object c.loop-name.invariant next none
    (subst (λ (text : List ℕ). IsFault (fault Name (member_path (escaped text))) c.no_actor.result) c.as_str-in_default.ensures.value c.no_actor.ensures)

pub returns-in_err-bytes : goal.returns-in_err-bytes
returns-in_err-bytes c =
    let name = c.in-Some.name.now in
    let value = c.in-Some.value.now in
    let next = rest_more deref_pair c.loop-name.name-iterator c.next.new.self c.next.result (c.in-Some.name, c.in-Some.value) c.in-Some.is c.next.ensures.steps in
    let known =
    c.actor_named.ensures (actors_rising c.args.topology.now) (ap (map (λ (n : NamedActor). n.actor)) c.deref.ensures.value ∙ c.in_ok-actors.ensures.actors)
    (ap (map (λ (n : NamedActor). string_bytes n.name)) c.deref.ensures.value ∙ c.in_ok-actors.ensures.names) in
    let some : named_among (actors_rising c.args.topology.now) (string_bytes name) ≡ Some c.in-Some-actor_named.actor =
    ap (named_among (actors_rising c.args.topology.now)) (sym c.as_str.ensures.value) ∙ sym known ∙ c.in-Some-actor_named.is in
    let given : PlanError = c.in_err-bytes.field-0.0 in
    let breaks : IsFault (must (is_image (view value)) (bad Shape (member_path (string_bytes name)))) given =
    subst (λ (text : List ℕ). IsFault (must (is_image (view value)) (bad Shape (member_path text))) given) c.as_str-in-loop-name.ensures.value c.in_err-bytes.ensures in
    let p : (e : PlanError) × (c.from_residual-in_err-bytes.result ≡ Err e) × (e ≡ given) = err_from_is_err_and c.from_residual-in_err-bytes.result c.from_residual-in_err-bytes.ensures.1 in
    rw (p.1, p.2)
    (λ d object.
    value_fails c.args.topology.now d c.args.journals.now.entries c.loop-name.name-iterator c.next.new.self c.loop-name.images (name, value) c.in-Some-actor_named.actor given object c.loop-name.invariant next some breaks)

pub loop-name-preserved : goal.loop-name-preserved
loop-name-preserved c =
    let name = c.in-Some.name.now in
    let value = c.in-Some.value.now in
    let next = rest_more deref_pair c.loop-name.name-iterator c.next.new.self c.next.result (c.in-Some.name, c.in-Some.value) c.in-Some.is c.next.ensures.steps in
    let known =
    c.actor_named.ensures (actors_rising c.args.topology.now) (ap (map (λ (n : NamedActor). n.actor)) c.deref.ensures.value ∙ c.in_ok-actors.ensures.actors)
    (ap (map (λ (n : NamedActor). string_bytes n.name)) c.deref.ensures.value ∙ c.in_ok-actors.ensures.names) in
    let some : named_among (actors_rising c.args.topology.now) (string_bytes name) ≡ Some c.in-Some-actor_named.actor =
    ap (named_among (actors_rising c.args.topology.now)) (sym c.as_str.ensures.value) ∙ sym known ∙ c.in-Some-actor_named.is in
    let keeps : must (is_image (view value)) (bad Shape (member_path (string_bytes name))) ≡ None =
    ap (λ (text : List ℕ). must (is_image (view value)) (bad Shape (member_path text))) (sym c.as_str-in-loop-name.ensures.value) ∙ c.in_ok-bytes.ensures.0 in
    named_more c.args.topology.now c.args.journals.now.entries c.loop-name.name-iterator c.next.new.self c.loop-name.images c.push.new.self (name, value) c.in-Some-actor_named.actor c.in_ok-bytes.bytes c.loop-name.invariant
    next some keeps c.in_ok-bytes.ensures.1 c.in_ok-push.ensures.ok

pub returns : goal.returns
returns c = λ d object.
    let ends = rest_all deref_pair c.loop-name.name-iterator c.next.new.self c.next.result c.in-None.is c.next.ensures.steps in
    let all = named_all c.args.topology.now d c.args.journals.now.entries c.loop-name.name-iterator c.loop-name.images object c.loop-name.invariant ends c.into_iter-name-iterator.ensures.into_iter_gives.5 in
    (all.0, (all.1, all.2))
