-- Whatever a run of numbered bodies answers are replies that have forms: they are those of a serial run.
use Rattle.std.proofs.Common.{◌≡◌, ℕ, Bool, true, false, List, [], ◌∷◌, map, Option, None, Some, Result, Ok, Err, unwrap_or, Contains, refl, sym, subst}
use Rattle.std.specs.List.{AllByRecursion}
use Rattle.std.proofs.lemmas.Bool.{cond_both}
use Rattle.acc_stamp.specs.declared.stamps.TxnId.{TxnId}
use Rattle.acc_stamp.proofs.Rising.{each_weaker}
use Rattle.acc_value.specs.declared.key.Key.{Key}
use Rattle.acc_value.specs.declared.value.Value.{Value}
use Rattle.acc_value.specs.declared.value.Value.TheVariants.{Number as NumberValue, Text as TextValue}
use Rattle.acc_value.specs.Key.{key_eq}
use Rattle.acc_value.specs.Pairs.{find}
use Rattle.acc_txn.specs.declared.evaluate.Overflow.{Overflow}
use Rattle.acc_txn.specs.declared.outcome.Reply.{Reply}
use Rattle.acc_txn.specs.declared.parts.BodyParts.{BodyParts}
use Rattle.acc_txn.specs.Meaning.{bound_cells, all_hold, writes_of, selected, decided, outcome_of}
use Rattle.acc_txn.specs.Serial.{map_after, replies_from}
use Rattle.acc_code.specs.Short.{IsCell, IsNumberedBody}
use Rattle.acc_code.proofs.AnswersFit.{answer_fits}
use Rattle.acc_message.specs.declared.note.Note.TheVariants.{Outcome as OutcomeNote, Reply as ReplyNote}
use Rattle.acc_message.specs.declared.item.Item.{Item}
use Rattle.acc_message.specs.Items.{notes_of, txn_of}
use Rattle.acc_message.specs.Run.{Cluster}
use Rattle.acc_report_line.specs.Forms.{IsReply, IsCell as IsFormedCell}
use Rattle.acc_actor_laws.proofs.Standing.{not_none}
use Rattle.acc_safety.specs.Decisions.{Answered, outcomes_in, outcomes_of, replies_in, replies_of, first_outcomes, body_at, body_of}
use Rattle.acc_safety.specs.Places.{IsIn, First}
use Rattle.acc_safety.specs.SerialOutcomes.{SerialOutcomes}
use Rattle.acc_safety.proofs.PlaceOrder.{each_at, Contains-IsIn, IsIn-Contains, map-IsIn, flat_map-IsIn}
use Rattle.acc_run_laws.proofs.RunBounds.{get_each}

-- ---- one body

cell_formed : (cell : Option Value) → IsCell cell → IsFormedCell cell
cell_formed None h = tt
cell_formed (Some (NumberValue number)) h = h
cell_formed (Some (TextValue text)) h = h

formed : (values : List (Option Value)) (held : Result Bool Overflow) (writes : Result (List (Key × Option Value)) Overflow)
    → AllByRecursion IsFormedCell (decided values held writes).reply.values → IsReply (decided values held writes).reply
formed values (Err error) writes h = refl
formed values (Ok false) writes h = h
formed values (Ok true) (Err error) h = refl
formed values (Ok true) (Ok writes) h = h

reply_formed : (body : BodyParts) (cells : Key → Option Value) → IsNumberedBody body → ((key : Key) → IsCell (cells key)) → IsReply (outcome_of body cells).reply
reply_formed body cells numbered fit =
    formed (selected (bound_cells body.lets cells) cells body.select) (all_hold (bound_cells body.lets cells) body.guards) (writes_of (bound_cells body.lets cells) body.updates)
    (each_weaker IsCell IsFormedCell (outcome_of body cells).reply.values cell_formed (answer_fits body cells numbered fit).values)

applied_fits : (pairs : List (Key × Option Value)) (key : Key) (other : Option Value) → AllByRecursion (λ p. IsCell p.1) pairs → IsCell other
    → IsCell (unwrap_or (find pairs key) other)
applied_fits [] key other h k = k
applied_fits (p ∷ pairs) key other h k =
    cond_both (key_eq key p.0) (Some p.1) (find pairs key) (λ (o : Option (Option Value)). IsCell (unwrap_or o other)) (λ _. h.0) (λ _. applied_fits pairs key other h.1 k)

-- ---- bodies in turn

serial_formed : (cells : Key → Option Value) (bodies : List BodyParts) → ((key : Key) → IsCell (cells key)) → AllByRecursion IsNumberedBody bodies
    → AllByRecursion IsReply (replies_from cells bodies)
serial_formed cells [] fit numbered = tt
serial_formed cells (body ∷ bodies) fit numbered = (
  reply_formed body cells numbered.0 fit,
  serial_formed (map_after cells body) bodies
      (λ key. applied_fits (outcome_of body cells).writes key (cells key) (answer_fits body cells numbered.0 fit).writes.cells (fit key)) numbered.1,
)

cons_parts : {X : Type 0} (x y : X) (xs ys : List X) → x ∷ xs ≡ y ∷ ys → (x ≡ y) × (xs ≡ ys)
cons_parts x y xs ys e = (cc, cc)

none_is_cons : {X : Type 0} (y : X) (ys : List X) → [] ≡ y ∷ ys → ⊥
none_is_cons y ys e = cc

module _ (cluster : Cluster) (items : List Item) (numbered : AllByRecursion IsNumberedBody cluster.bodies) where
  body_numbered : (o : Option ℕ) (body : BodyParts) → body_at cluster o ≡ Some body → IsNumberedBody body
  body_numbered None body is = absurd (not_none body is)
  body_numbered (Some txn) body is = get_each IsNumberedBody cluster.bodies txn body numbered is

  bodies_numbered : (firsts : List Answered) (bodies : List BodyParts) → map (λ (a : Answered). body_of cluster items a.id) firsts ≡ map (λ b. Some b) bodies
      → AllByRecursion IsNumberedBody bodies
  bodies_numbered firsts [] e = tt
  bodies_numbered [] (body ∷ bodies) e = absurd (none_is_cons (Some body) (map (λ b. Some b) bodies) e)
  bodies_numbered (a ∷ firsts) (body ∷ bodies) e =
      let parts = cons_parts (body_of cluster items a.id) (Some body) (map (λ (b : Answered). body_of cluster items b.id) firsts) (map (λ b. Some b) bodies) e in
      (body_numbered (txn_of items a.id) body parts.0, bodies_numbered firsts bodies parts.1)

  -- ---- what was noted

  module _ (s : SerialOutcomes cluster items) where
    firsts_formed : (a : Answered) → Contains (first_outcomes (notes_of items)) a → IsReply a.reply
    firsts_formed a there =
        each_at IsReply a.reply (map (λ (b : Answered). b.reply) (first_outcomes (notes_of items)))
        (subst (AllByRecursion IsReply) (sym s.serial_run)
        (serial_formed (λ _. None) s.bodies (λ key. tt) (bodies_numbered (first_outcomes (notes_of items)) s.bodies s.bodies_are)))
        (map-IsIn (λ (b : Answered). b.reply) a (first_outcomes (notes_of items)) (Contains-IsIn a (first_outcomes (notes_of items)) there))

    pub outcome_formed : (x : TxnId) (reply : Reply) → IsIn (OutcomeNote x reply) (notes_of items) → IsReply reply
    outcome_formed x reply there =
        let a : Answered = record { id = x; reply = reply } in
        firsts_formed a
        (s.outcomes_agree a
        (IsIn-Contains a (outcomes_of (notes_of items)) (flat_map-IsIn outcomes_in a (OutcomeNote x reply) (notes_of items) there (First a []))))

    pub answer_formed : (x : TxnId) (reply : Reply) → IsIn (ReplyNote x reply) (notes_of items) → IsReply reply
    answer_formed x reply there =
        let a : Answered = record { id = x; reply = reply } in
        firsts_formed a
        (s.replies_agree a
        (IsIn-Contains a (replies_of (notes_of items)) (flat_map-IsIn replies_in a (ReplyNote x reply) (notes_of items) there (First a []))))
