-- What is taken from the items of a run are journals that this run left.
use Rattle.std.proofs.Common.{◌≡◌, ℕ, zero, suc, ◌≤◌, Bool, true, false, List, [], ◌∷◌, ◌++◌, length, map, reverse, Contains, Some, refl, sym, ap, subst, ◌∙◌, ◌⊎◌, inl, inr, ⊎_elim, arith}
use Rattle.std.specs.Prelude.{nat_lt}
use Rattle.std.specs.List.{slice_get, AllByRecursion}
use Rattle.std.proofs.lemmas.Bool.{true≢false}
use Rattle.acc_wire.specs.Spelling.{u32_bytes, u64_bytes}
use Rattle.acc_lang.specs.Texts.{has_text_value}
use Rattle.acc_stamp.specs.declared.actors.Actor.{Actor}
use Rattle.acc_stamp.specs.Rising.{IsRisingBy}
use Rattle.acc_journal.specs.Layout.{Reads}
use Rattle.acc_message.specs.declared.message.Message.{Message}
use Rattle.acc_message.specs.declared.item.Item.{Item}
use Rattle.acc_message.specs.declared.item.Item.TheVariants.{Step}
use Rattle.acc_message.specs.Items.{message_at, sent_in, sent_of}
use Rattle.acc_message.specs.Run.{Cluster, is_down, is_node}
use Rattle.acc_message_code.specs.MessageSpelling.{message_bytes}
use Rattle.acc_safety.specs.Histories.{Sending}
use Rattle.acc_safety.specs.Places.{IsIn, First, Later, StandsAt, Here, Back}
use Rattle.acc_safety.specs.Valid.{IsStanding}
use Rattle.acc_safety.proofs.PlaceOrder.{Contains-IsIn, IsIn-append_left, IsIn-append_right, IsIn-Contains, IsIn-map, map-IsIn}
use Rattle.acc_run_laws.specs.Heights.{most_h}
use Rattle.acc_run_laws.specs.Sends.{AreFew}
use Rattle.acc_run_laws.proofs.Begun.{begun_of}
use Rattle.acc_run_laws.proofs.ByteBounds.{message_most}
use Rattle.acc_run_laws.proofs.Everywhere.{is_short, stage}
use Rattle.acc_payloads.specs.declared.draw.Draw.{Draw}
use Rattle.acc_payloads.specs.Items.{payloads_in}
use Rattle.acc_payloads.specs.Journals.{EachMay}
use Rattle.acc_payloads.specs.Spelling.{draw_bytes}
use Rattle.acc_payloads.specs.Texts.{has_text}
use Rattle.acc_payloads.proofs.Marks.{draw_no_mark, no_draw}
use Rattle.acc_payloads.proofs.StoreJournals.{same_message}
use Rattle.acc_schedule.specs.Actors.{actors}
use Rattle.acc_schedule.specs.Content.{Content}
use Rattle.acc_schedule.specs.Plan.{IsPlan}
use Rattle.acc_schedule_runs.specs.Moves.{kept_if, with_kept}
use Rattle.acc_schedule_runs.specs.Schedules.{cluster_of}
use Rattle.acc_schedule_runs.specs.Situations.{whole, Situation}
use Rattle.acc_pasts.specs.Stopped.{IsSound}
use Rattle.acc_left.specs.declared.image.Image.{Image}
use Rattle.acc_left.specs.Leaves.{actors_rising, images_left, leaves, marked}
use Rattle.acc_left.proofs.OrderFacts.{actors_rise}
use Rattle.acc_left_laws.specs.Left.{journal_at, AreOfActors, HasLeft, HasLeftBytes, HasNumberedBodies}
use Rattle.acc_left_laws.proofs.Drawn.{draws_of, draws_spelled}
use Rattle.acc_left_laws.proofs.InTurn.{in_turn}
use Rattle.acc_left_laws.proofs.Journals.{journal_is}
use Rattle.acc_left_laws.proofs.Kept.{all_mapped}
use Rattle.acc_left_laws.proofs.MarkedFirst.{first_kept, first_marked, first_short, ArePayloads, IsPayload}
use Rattle.acc_left_laws.proofs.MarkFacts.{no_mark_spells}
use Rattle.acc_left_laws.proofs.Spellings.{spellings}
use Rattle.acc_left_laws.proofs.StoreTakes.{taken, takings_known, HaveSpellings, NextMessage, Takings}
use Rattle.acc_left_laws.proofs.TurnsBack.{turn_known}

-- ---- messages and their numbers

sent_at : (item : Item) (earlier items : List Item) (m : Message) → StandsAt item earlier items → IsIn m (sent_in item) → IsIn m (sent_of items)
sent_at item earlier items m (Here i past) there = IsIn-append_right m (sent_of past) (sent_in i) there
sent_at item earlier items m (Back i j past rest at) there = IsIn-append_left m (sent_of rest) (sent_in j) (sent_at i past rest m at there)

got : (m : Message) (ms : List Message) → IsIn m ms → (number : ℕ) × (slice_get ms number ≡ Some m)
got m ms (First n rest) = (0, refl)
got m ms (Later n k rest there) = let later = got n rest there in (suc later.0, later.1)

numbered : (items : List Item) (m : Message) → Sending items m → (number : ℕ) × (message_at items number ≡ Some m)
numbered items m s = got m (sent_of items) (sent_at (Step s.entry) s.earlier items m s.at s.sent)

-- ---- journals of the actors that rise

mapped_rise : (f : Actor → List ℕ) (us : List Actor) → IsRisingBy (λ (a b : Actor). nat_lt a.0 b.0) us
    → IsRisingBy (λ (i j : Image). nat_lt i.actor.0 j.actor.0) (map (λ (a : Actor). record { actor = a; bytes = f a }) us)
mapped_rise f [] rises = tt
mapped_rise f (a ∷ us) rises = (
  all_mapped (λ (j : Image). nat_lt a.0 j.actor.0 ≡ true) (λ (b : Actor). record { actor = b; bytes = f b }) us rises.0,
  mapped_rise f us rises.1,
)

draw_long : (d : Draw) → length (draw_bytes d) ≡ 13
unfolding draw_bytes u32_bytes u64_bytes
draw_long d = refl

each_draw : (version : ℕ) (draws : List Draw) → ArePayloads version (map draw_bytes draws)
each_draw version [] = tt
each_draw version (d ∷ draws) = (
  record { other = draw_no_mark d; short = omega (arith, draw_long d); texts = λ m fits is text. absurd (no_draw d m is) },
  each_draw version draws,
)

-- where no message of version 1 has a text value
abbrev pub HaveNumbersAlone : Type 0
HaveNumbersAlone =
    (cluster : Cluster) (items : List Item) (number : ℕ) (m : Message) → IsStanding cluster items → AllByRecursion (λ body. has_text_value body ≡ false) cluster.bodies
    → message_at items number ≡ Some m → has_text m ≡ false

module _ (alone : HaveNumbersAlone) (plan : Content) (is : IsPlan plan) (numbers : HasNumberedBodies plan) (s : Situation) (sound : IsSound (cluster_of plan) s) (few : AreFew (whole s)) where
  abbrev items : List Item
  items = whole s

  standing : IsStanding (cluster_of plan) items
  standing = record { valid = sound.valid; stands = sound.run.stands }

  spelled : HaveSpellings items
  spelled = spellings (cluster_of plan) sound.valid sound.few_bodies numbers items sound.run.stands few

  one_or_two : (plan.version ≡ 1) ⊎ (plan.version ≡ 2)
  one_or_two = by plan.version is.version
    where
      by : (n : ℕ) → (1 ≤ n) × (n ≤ 2) → (n ≡ 1) ⊎ (n ≡ 2)
      by zero h = absurd (omega (arith, h.0))
      by (suc zero) h = inl refl
      by (suc (suc zero)) h = inr refl
      by (suc (suc (suc n))) h = absurd (omega (arith, h.1))

  module _ (a : Actor) where
    one_message : (before : List Message) (m : Message) → NextMessage plan items a before m → IsPayload plan.version (message_bytes m)
    one_message before m next =
        let known = (stage (cluster_of plan) items standing).messages m next.sending in
        let short = is_short (cluster_of plan) items standing sound.few_bodies m next.sending in
        let most : length (message_bytes m) ≤ 2147483648 = message_most (most_h items) (begun_of items) m known.content short.content in
        record {
          other = no_mark_spells m;
          short = omega (arith, most);
          texts = λ n fits same text.
              let one : m ≡ n = same_message m n next.fits fits same in
              ⊎_elim
              (λ first.
              let number = numbered items m next.sending in
              absurd (true≢false (sym text ∙ ap has_text (sym one) ∙ alone (cluster_of plan) items number.0 m standing (is.numbers_alone first) number.1)))
              (λ second. second) one_or_two;
        }

    each_message : (messages before : List Message) → EachMay (NextMessage plan items a) before messages → ArePayloads plan.version (map message_bytes messages)
    each_message [] before each = tt
    each_message (m ∷ messages) before each = (one_message before m each.0, each_message messages (before ++ m ∷ []) each.1)

    by_kind : (b : Bool) → is_node a ≡ b → ArePayloads plan.version (payloads_in a items)
    by_kind true node = subst (ArePayloads plan.version) (sym (draws_spelled a items node)) (each_draw plan.version (draws_of a items))
    by_kind false store =
        let t : Takings plan sound.valid items spelled few a store items = takings_known plan sound.valid items spelled few a store sound.run.stands in
        subst (ArePayloads plan.version) (sym t.payloads) (each_message (reverse (taken plan sound.valid items spelled few a store items)) [] t.each)

    are_payloads : ArePayloads plan.version (payloads_in a items)
    are_payloads = by_kind (is_node a) refl

    leaves_read : Reads (leaves plan items a) (marked plan.version (payloads_in a items))
    leaves_read = record {
      gate = 0;
      behind = [];
      closed = λ e. absurd (omega (arith, e));
      short = first_short plan.version (payloads_in a items) are_payloads;
      spelled = refl;
    }

  abbrev image : Actor → Image
  image a = record { actor = a; bytes = leaves plan items a }

  are : AreOfActors plan (images_left plan items)
  are = record {
    rise = mapped_rise (leaves plan items) (actors_rising plan.topology) (actors_rise plan.topology is.layout);
    known = λ i there.
        let from = IsIn-map image i (actors_rising plan.topology) (Contains-IsIn i (images_left plan items) there) in
        subst (λ (j : Image). Contains (actors plan.topology) j.actor) (sym from.is) (turn_known plan.topology from.source from.there);
  }

  module _ (keeps : Actor → Bool) (none : (a : Actor) → keeps a ≡ false) where
    each_left : (a : Actor) → Contains (actors plan.topology) a → HasLeftBytes plan s (keeps a) a (journal_at (images_left plan items) a)
    each_left a known =
        let there : Contains (images_left plan items) (image a) =
        IsIn-Contains (image a) (images_left plan items) (map-IsIn image a (actors_rising plan.topology) (in_turn plan.topology is.layout a known)) in
        let bytes : journal_at (images_left plan items) a ≡ leaves plan items a = let own : AreOfActors plan (images_left plan items) = are in journal_is (images_left plan items) (image a) own.rise there in
        record {
          payloads = marked plan.version (payloads_in a items);
          reads = subst (λ (b : List ℕ). Reads b (marked plan.version (payloads_in a items))) (sym bytes) (leaves_read a);
          marks = first_marked plan.version (payloads_in a items) (are_payloads a);
          holds =
              first_kept plan.version (payloads_in a items) (are_payloads a)
              ∙ ap (λ (b : Bool). payloads_in a (whole (with_kept (cluster_of plan) s a (kept_if b a s)))) (sym (none a));
        }

    pub items_leave : ((a : Actor) → is_down a items ≡ true → Contains (actors plan.topology) a) → HasLeft plan s keeps (images_left plan items)
    items_leave down = record { numbered = numbers; sound = sound; down = down; are = are; each = each_left }
