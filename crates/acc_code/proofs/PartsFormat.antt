-- Bodies: what is read is what is spelled.
use Rattle.std.proofs.Common.{◌≡◌, ℕ, not, List, ◌++◌, length, append_assoc, Ok, refl, sym, ap, subst, ◌∙◌, IsTrue}
use Rattle.acc_wire.specs.Reading.{◌>>=◌}
use Rattle.acc_wire.proofs.Fields.{IsField}
use Rattle.acc_txn.specs.declared.parts.Let.{Let}
use Rattle.acc_txn.specs.declared.parts.Select.{Select}
use Rattle.acc_txn.specs.declared.parts.Condition.{Condition}
use Rattle.acc_txn.specs.declared.parts.Update.{Update}
use Rattle.acc_txn.specs.declared.parts.BodyParts.{BodyParts}
use Rattle.acc_txn.specs.Rules.{has_no_key}
use Rattle.acc_code.specs.Spelling.{listed}
use Rattle.acc_txn.specs.BodySpelling.{let_bytes, select_bytes, condition_bytes, update_bytes, body_bytes}
use Rattle.acc_code.specs.BodyReading.{select_at, conditions_at, least_updates, updates_at, read_uses, parts_at, body_at}
use Rattle.acc_code.proofs.Formats.{IsThen, then_field, made_field, same_field, passing_field}
use Rattle.acc_code.proofs.BodyFits.{FitsSelect, FitLets, FitConditions, FitUpdates, FitsParts}
use Rattle.acc_code.proofs.BodyFormats.{lets_field, select_field, conditions_field, updates_field}

abbrev make_parts : List Let → Select → List Condition → List Update → BodyParts
make_parts lets select guards updates = record { lets = lets; select = select; guards = guards; updates = updates }

-- what is known of the parts once some of them are read
abbrev BehindGuards : List Let → Select → List Condition → BodyParts → Type 0
BehindGuards lets select guards c = (c.lets ≡ lets) × (c.select ≡ select) × (c.guards ≡ guards) × FitUpdates lets select guards c.updates

abbrev BehindSelect : List Let → Select → BodyParts → Type 0
BehindSelect lets select c = (c.lets ≡ lets) × (c.select ≡ select) × FitConditions (length lets) c.guards × FitUpdates lets select c.guards c.updates

abbrev BehindLets : List Let → BodyParts → Type 0
BehindLets lets c = (c.lets ≡ lets) × FitsSelect lets c.select × FitConditions (length lets) c.guards × FitUpdates lets c.select c.guards c.updates

abbrev updates_of : BodyParts → List ℕ
updates_of c = listed update_bytes c.updates

abbrev guards_of : BodyParts → List ℕ
guards_of c = listed condition_bytes c.guards ++ updates_of c

abbrev select_of : BodyParts → List ℕ
select_of c = select_bytes c.select ++ guards_of c

same_parts : (lets : List Let) (select : Select) (guards : List Condition) (c : BodyParts) → c.lets ≡ lets → c.select ≡ select → c.guards ≡ guards → c ≡ make_parts lets select guards c.updates
same_parts lets select guards c e f g =
    ap (λ x. make_parts x c.select c.guards c.updates) e ∙ ap (λ x. make_parts lets x c.guards c.updates) f ∙ ap (λ x. make_parts lets select x c.updates) g

behind_guards : (lets : List Let) (select : Select) (guards : List Condition) → IsField (BehindGuards lets select guards) updates_of (λ u. updates_at (length lets) (read_uses lets select) (least_updates guards) u >>= λ updates. Ok (make_parts lets select guards updates.0, updates.1))
behind_guards lets select guards = same_field (made_field (make_parts lets select guards) updates_of (λ x fits. refl) (updates_field lets select guards)) (record {
  to = λ c m. subst (BehindGuards lets select guards) (sym m.2) (refl, refl, refl, m.1);
  from = λ c h. (c.updates, h.3, same_parts lets select guards c h.0 h.1 h.2);
  bytes_are = λ c h. refl;
})

behind_select : (lets : List Let) (select : Select) → IsField (BehindSelect lets select) guards_of (λ u. conditions_at (length lets) u >>= λ guards. updates_at (length lets) (read_uses lets select) (least_updates guards.0) guards.1 >>= λ updates. Ok (make_parts lets select guards.0 updates.0, updates.1))
behind_select lets select =
    let then : IsThen (FitConditions (length lets)) (listed condition_bytes) (BehindGuards lets select) (λ guards c. updates_of c) (BehindSelect lets select) guards_of = record {
      fits = λ guards c fits h. (h.0, h.1, subst (FitConditions (length lets)) (sym h.2) fits, subst (λ (g : List Condition). FitUpdates lets select g c.updates) (sym h.2) h.3);
      bytes = λ guards c h. ap (λ (g : List Condition). listed condition_bytes g ++ updates_of c) h.2;
      parts = λ c h. (c.guards, h.2, (h.0, h.1, refl, h.3));
    } in
    then_field {k = λ guards u. updates_at (length lets) (read_uses lets select) (least_updates guards) u >>= λ updates. Ok (make_parts lets select guards updates.0, updates.1)} (conditions_field (length lets)) (λ guards fits. behind_guards lets select guards) then

behind_lets : (lets : List Let) → IsField (BehindLets lets) select_of (λ u. select_at lets u >>= λ select. conditions_at (length lets) select.1 >>= λ guards. updates_at (length lets) (read_uses lets select.0) (least_updates guards.0) guards.1 >>= λ updates. Ok (make_parts lets select.0 guards.0 updates.0, updates.1))
behind_lets lets =
    let then : IsThen (FitsSelect lets) select_bytes (BehindSelect lets) (λ select c. guards_of c) (BehindLets lets) select_of = record {
      fits = λ select c fits h. (h.0, subst (FitsSelect lets) (sym h.1) fits, h.2, subst (λ (s : Select). FitUpdates lets s c.guards c.updates) (sym h.1) h.3);
      bytes = λ select c h. ap (λ (s : Select). select_bytes s ++ guards_of c) h.1;
      parts = λ c h. (c.select, h.1, (h.0, refl, h.2, h.3));
    } in
    then_field {k = λ select u. conditions_at (length lets) u >>= λ guards. updates_at (length lets) (read_uses lets select) (least_updates guards.0) guards.1 >>= λ updates. Ok (make_parts lets select guards.0 updates.0, updates.1)} (select_field lets) (λ select fits. behind_select lets select) then

abbrev FitTogether : BodyParts → Type 0
FitTogether c = FitLets c.lets × FitsSelect c.lets c.select × FitConditions (length c.lets) c.guards × FitUpdates c.lets c.select c.guards c.updates

-- the four parts are spelled one after the other
grouped : (a b c d : List ℕ) → a ++ (b ++ (c ++ d)) ≡ ((a ++ b) ++ c) ++ d
grouped a b c d = sym (append_assoc a b (c ++ d)) ∙ sym (append_assoc (a ++ b) c d)

pub parts_field : IsField FitsParts body_bytes parts_at
unfolding parts_at body_bytes
parts_field =
    let then : IsThen FitLets (listed let_bytes) BehindLets (λ lets c. select_of c) FitTogether (λ c. listed let_bytes c.lets ++ select_of c) = record {
      fits = λ lets c fits h. subst (λ (l : List Let). FitLets l × FitsSelect l c.select × FitConditions (length l) c.guards × FitUpdates l c.select c.guards c.updates) (sym h.0) (fits, h.1, h.2, h.3);
      bytes = λ lets c h. ap (λ (l : List Let). listed let_bytes l ++ select_of c) h.0;
      parts = λ c h. (c.lets, h.0, (refl, h.1, h.2, h.3));
    } in
    same_field (then_field {k = λ lets u. select_at lets u >>= λ select. conditions_at (length lets) select.1 >>= λ guards. updates_at (length lets) (read_uses lets select.0) (least_updates guards.0) guards.1 >>= λ updates. Ok (make_parts lets select.0 guards.0 updates.0, updates.1)} lets_field (λ lets fits. behind_lets lets) then) (record {
      to = λ c h. record { lets = h.0; select = h.1; guards = h.2; updates = h.3 };
      from = λ c h. (h.lets, h.select, h.guards, h.updates);
      bytes_are = λ c h. grouped (listed let_bytes c.lets) (select_bytes c.select) (listed condition_bytes c.guards) (listed update_bytes c.updates);
    })

pub body_field : IsField (λ parts. FitsParts parts × IsTrue (not (has_no_key parts))) body_bytes body_at
unfolding body_at
body_field = passing_field (λ parts. not (has_no_key parts)) parts_field
