-- Reading a line is exact.
use Rattle.std.proofs.Common.{◌≡◌, ℕ, Bool, true, false, cond, List, ◌++◌, Some, None, refl, sym, ap, ◌∙◌, subst}
use Rattle.std.specs.Prelude.{codes, option_map}
use Rattle.std.specs.Str.{bytes_eq}
use Rattle.acc_stamp.specs.declared.stamps.Stamp.{Stamp}
use Rattle.acc_txn.specs.declared.outcome.Reply.{Reply as ReplyValue}
use Rattle.acc_report_line.specs.declared.line.Line.{Line}
use Rattle.acc_report_line.specs.declared.line.Line.TheVariants.{Begin, Recover, Outcome, Reply, Down}
use Rattle.acc_report_line.specs.Forms.{HasForm}
use Rattle.acc_report_line.specs.Texts.{line_text}
use Rattle.acc_report_reader.specs.Fields.{parts_at, actor_in}
use Rattle.acc_report_reader.specs.Reading.{stamped_in, blocked_in, ended_in, decide_in, replied_in, skip_in, restart_in, decided_in, end_in, note_in, kind_in, line_in}
use Rattle.acc_report_reader.proofs.Options.{bind_some, map_some}
use Rattle.acc_report_reader.proofs.Slices.{parts-is, same_bytes}
use Rattle.acc_report_reader.proofs.Digits.{actor-is}
use Rattle.acc_report_reader.proofs.LinesSaid.{IsLine, stamped-is, replied-is, blocked-is, ended-is, decide-is, skip-is, restart-is, decided-is, end-is}

begin-is : (bytes : List ℕ) (line : Line) → option_map (λ p. Begin p.0 p.1) (stamped_in bytes) ≡ Some line → IsLine (codes "begin") bytes line
begin-is bytes line e =
    let f : List ℕ × Stamp → Line = λ p. Begin p.0 p.1 in
    let p = map_some f (stamped_in bytes) line e in
    let is = stamped-is bytes p.0 p.1 in
    subst (IsLine (codes "begin") bytes) p.2 ((is.0, is.1), ap (λ l. codes "begin " ++ l) is.2)

recover-is : (bytes : List ℕ) (line : Line) → option_map (λ p. Recover p.0 p.1) (stamped_in bytes) ≡ Some line → IsLine (codes "recover") bytes line
recover-is bytes line e =
    let f : List ℕ × Stamp → Line = λ p. Recover p.0 p.1 in
    let p = map_some f (stamped_in bytes) line e in
    let is = stamped-is bytes p.0 p.1 in
    subst (IsLine (codes "recover") bytes) p.2 ((is.0, is.1), ap (λ l. codes "recover " ++ l) is.2)

outcome-is : (bytes : List ℕ) (line : Line) → option_map (λ p. Outcome p.0 p.1) (replied_in bytes) ≡ Some line → IsLine (codes "outcome") bytes line
outcome-is bytes line e =
    let f : List ℕ × ReplyValue → Line = λ p. Outcome p.0 p.1 in
    let p = map_some f (replied_in bytes) line e in
    let is = replied-is bytes p.0 p.1 in
    subst (IsLine (codes "outcome") bytes) p.2 ((is.0, is.1), ap (λ l. codes "outcome " ++ l) is.2)

reply_line-is : (bytes : List ℕ) (line : Line) → option_map (λ p. Reply p.0 p.1) (replied_in bytes) ≡ Some line → IsLine (codes "reply") bytes line
reply_line-is bytes line e =
    let f : List ℕ × ReplyValue → Line = λ p. Reply p.0 p.1 in
    let p = map_some f (replied_in bytes) line e in
    let is = replied-is bytes p.0 p.1 in
    subst (IsLine (codes "reply") bytes) p.2 ((is.0, is.1), ap (λ l. codes "reply " ++ l) is.2)

down_line-is : (bytes : List ℕ) (line : Line) → option_map (λ actor. Down actor) (actor_in bytes) ≡ Some line → IsLine (codes "down") bytes line
down_line-is bytes line e =
    let a = map_some (λ actor. Down actor) (actor_in bytes) line e in
    let actor = actor-is bytes a.0 a.1 in
    subst (IsLine (codes "down") bytes) a.2 (actor.0, ap (λ l. codes "down " ++ l) actor.1)

like : (word known rest : List ℕ) (line : Line) → bytes_eq word known ≡ true → IsLine known rest line → IsLine word rest line
like word known rest line is found =
    let P : List ℕ → Type 0 = λ w. IsLine w rest line in subst P (sym (same_bytes word known is)) found

note_found : (word rest : List ℕ) (line : Line) (a b c d e f g : Bool)
    → bytes_eq word (codes "begin") ≡ a → bytes_eq word (codes "recover") ≡ b → bytes_eq word (codes "blocked") ≡ c → bytes_eq word (codes "ended") ≡ d → bytes_eq word (codes "decide") ≡ e
    → bytes_eq word (codes "outcome") ≡ f → bytes_eq word (codes "reply") ≡ g
    → cond a (option_map (λ p. Begin p.0 p.1) (stamped_in rest)) (cond b (option_map (λ p. Recover p.0 p.1) (stamped_in rest)) (cond c (blocked_in rest) (cond d (ended_in rest) (cond e (decide_in rest)
    (cond f (option_map (λ p. Outcome p.0 p.1) (replied_in rest)) (cond g (option_map (λ p. Reply p.0 p.1) (replied_in rest)) None)))))) ≡ Some line → IsLine word rest line
note_found word rest line true b c d e f g h i j k l m n is = like word (codes "begin") rest line h (begin-is rest line is)
note_found word rest line false true c d e f g h i j k l m n is = like word (codes "recover") rest line i (recover-is rest line is)
note_found word rest line false false true d e f g h i j k l m n is = like word (codes "blocked") rest line j (blocked-is rest line is)
note_found word rest line false false false true e f g h i j k l m n is = like word (codes "ended") rest line k (ended-is rest line is)
note_found word rest line false false false false true f g h i j k l m n is = like word (codes "decide") rest line l (decide-is rest line is)
note_found word rest line false false false false false true g h i j k l m n is = like word (codes "outcome") rest line m (outcome-is rest line is)
note_found word rest line false false false false false false true h i j k l m n is = like word (codes "reply") rest line n (reply_line-is rest line is)
note_found word rest line false false false false false false false h i j k l m n is = cc

note-is : (word rest : List ℕ) (line : Line) → note_in word rest ≡ Some line → IsLine word rest line
unfolding note_in
note-is word rest line e =
    note_found word rest line (bytes_eq word (codes "begin")) (bytes_eq word (codes "recover")) (bytes_eq word (codes "blocked")) (bytes_eq word (codes "ended")) (bytes_eq word (codes "decide"))
    (bytes_eq word (codes "outcome")) (bytes_eq word (codes "reply")) refl refl refl refl refl refl refl e

kind_found : (word rest : List ℕ) (line : Line) (a b c d e : Bool)
    → bytes_eq word (codes "skip") ≡ a → bytes_eq word (codes "down") ≡ b → bytes_eq word (codes "restart") ≡ c → bytes_eq word (codes "decided") ≡ d → bytes_eq word (codes "end") ≡ e
    → cond a (skip_in rest) (cond b (option_map (λ actor. Down actor) (actor_in rest)) (cond c (restart_in rest) (cond d (decided_in rest) (cond e (end_in rest) (note_in word rest))))) ≡ Some line
    → IsLine word rest line
kind_found word rest line true b c d e p q r s t is = like word (codes "skip") rest line p (skip-is rest line is)
kind_found word rest line false true c d e p q r s t is = like word (codes "down") rest line q (down_line-is rest line is)
kind_found word rest line false false true d e p q r s t is = like word (codes "restart") rest line r (restart-is rest line is)
kind_found word rest line false false false true e p q r s t is = like word (codes "decided") rest line s (decided-is rest line is)
kind_found word rest line false false false false true p q r s t is = like word (codes "end") rest line t (end-is rest line is)
kind_found word rest line false false false false false p q r s t is = note-is word rest line is

kind-is : (word rest : List ℕ) (line : Line) → kind_in word rest ≡ Some line → IsLine word rest line
unfolding kind_in
kind-is word rest line e =
    kind_found word rest line (bytes_eq word (codes "skip")) (bytes_eq word (codes "down")) (bytes_eq word (codes "restart")) (bytes_eq word (codes "decided")) (bytes_eq word (codes "end"))
    refl refl refl refl refl e

pub line-is : (bytes : List ℕ) (line : Line) → line_in bytes ≡ Some line → HasForm line × (line_text line ≡ bytes)
unfolding line_in
line-is bytes line e =
    let c = bind_some (parts_at 32 bytes) _ line e in
    let is = kind-is c.0.0 c.0.1 line c.2 in
    (is.0, is.1 ∙ parts-is 32 bytes c.0 c.1)
