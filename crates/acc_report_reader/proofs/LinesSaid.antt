-- What is read from a line is a line with its form, whose text it is.
use Rattle.std.proofs.Common.{◌≡◌, ℕ, Bool, true, false, cond, List, ◌∷◌, ◌++◌, Some, None, refl, sym, ap, ◌∙◌, subst, append_assoc}
use Rattle.std.specs.Prelude.{codes, decimal, option_map}
use Rattle.std.specs.Str.{bytes_eq}
use Rattle.acc_stamp.specs.declared.stamps.Stamp.{Stamp}
use Rattle.acc_txn.specs.declared.outcome.Reply.{Reply as ReplyValue}
use Rattle.acc_report_line.specs.declared.line.Line.{Line}
use Rattle.acc_report_line.specs.declared.line.Line.TheVariants.{Blocked, Ended, Decide, SkipNoMessage, SkipDown, SkipBegun, SkipUnknown, SkipNoQuorum, Restart, Decided, End}
use Rattle.acc_report_line.specs.Forms.{IsName, IsCount, IsStamp, IsReply, HasForm}
use Rattle.acc_report_line.specs.Texts.{stamp_text, actor_text, names_text, path_text, reply_text, line_text}
use Rattle.acc_report_reader.specs.Fields.{parts_at, behind_word, name_in, names_in, number_in, count_in, stamp_in, actor_in, path_in, reply_in}
use Rattle.acc_report_reader.specs.Reading.{stamped_in, blocked_in, ended_in, decide_in, replied_in, no_message_in, cause_in, skip_in, restart_in, decided_in, end_in}
use Rattle.acc_report_reader.proofs.Options.{bind_some, map_some, some_is}
use Rattle.acc_report_reader.proofs.Slices.{parts-is, behind_word-is, same_bytes}
use Rattle.acc_report_reader.proofs.Digits.{number-is, count-is, stamp-is, actor-is}
use Rattle.acc_report_reader.proofs.Names.{name-is, names-is, path-is}
use Rattle.acc_report_reader.proofs.Values.{reply-is}
use Rattle.acc_report_reader.proofs.Regroup.{regroup5, regroup7}

-- a line with its form, whose text is a word, a space and these bytes
abbrev pub IsLine : List ℕ → List ℕ → Line → Type 0
IsLine word bytes line = HasForm line × (line_text line ≡ word ++ 32 ∷ bytes)

pub stamped-is : (bytes : List ℕ) (p : List ℕ × Stamp) → stamped_in bytes ≡ Some p → IsName p.0 × IsStamp p.1 × ((p.0 ++ codes " ") ++ stamp_text p.1 ≡ bytes)
unfolding stamped_in
stamped-is bytes p e =
    let c = bind_some (parts_at 32 bytes) _ p e in
    let n = bind_some (name_in c.0.0) _ p c.2 in
    let s = bind_some (stamp_in c.0.1) _ p n.2 in
    let name = name-is c.0.0 n.0 n.1 in
    let stamp = stamp-is c.0.1 s.0 s.1 in
    let same : (n.0, s.0) ≡ p = some_is _ _ s.2 in
    let P : List ℕ × Stamp → Type 0 = λ p. IsName p.0 × IsStamp p.1 × ((p.0 ++ codes " ") ++ stamp_text p.1 ≡ bytes) in
    let whole = parts-is 32 bytes c.0 c.1 in
    subst P same (
      name.0,
      stamp.0,
      append_assoc n.0 (codes " ") (stamp_text s.0) ∙ ap (λ a. a ++ 32 ∷ stamp_text s.0) name.1 ∙ ap (λ b. c.0.0 ++ 32 ∷ b) stamp.1 ∙ whole,
    )

pub replied-is : (bytes : List ℕ) (p : List ℕ × ReplyValue) → replied_in bytes ≡ Some p → IsName p.0 × IsReply p.1 × ((p.0 ++ codes " ") ++ reply_text p.1 ≡ bytes)
unfolding replied_in
replied-is bytes p e =
    let c = bind_some (parts_at 32 bytes) _ p e in
    let n = bind_some (name_in c.0.0) _ p c.2 in
    let r = bind_some (reply_in c.0.1) _ p n.2 in
    let name = name-is c.0.0 n.0 n.1 in
    let reply = reply-is c.0.1 r.0 r.1 in
    let same : (n.0, r.0) ≡ p = some_is _ _ r.2 in
    let P : List ℕ × ReplyValue → Type 0 = λ p. IsName p.0 × IsReply p.1 × ((p.0 ++ codes " ") ++ reply_text p.1 ≡ bytes) in
    let whole = parts-is 32 bytes c.0 c.1 in
    subst P same (
      name.0,
      reply.0,
      append_assoc n.0 (codes " ") (reply_text r.0) ∙ ap (λ a. a ++ 32 ∷ reply_text r.0) name.1 ∙ ap (λ b. c.0.0 ++ 32 ∷ b) reply.1 ∙ whole,
    )

-- a name, a timestamp, the word by, and what follows
joined_by : (name stamp rest a b c d bytes : List ℕ) → name ≡ a → stamp ≡ c → a ++ 32 ∷ b ≡ bytes → c ++ 32 ∷ d ≡ b → codes "by" ++ 32 ∷ rest ≡ d
    → (((name ++ codes " ") ++ stamp) ++ codes " by ") ++ rest ≡ bytes
joined_by name stamp rest a b c d bytes e f g h k =
    regroup5 name (codes " ") stamp (codes " by ") rest
    ∙ ap (λ n. n ++ 32 ∷ (stamp ++ (codes " by " ++ rest))) e ∙ ap (λ s. a ++ 32 ∷ (s ++ (codes " by " ++ rest))) f
    ∙ ap (λ l. a ++ 32 ∷ (c ++ 32 ∷ l)) k ∙ ap (λ l. a ++ 32 ∷ l) h ∙ g

pub blocked-is : (bytes : List ℕ) (line : Line) → blocked_in bytes ≡ Some line → IsLine (codes "blocked") bytes line
unfolding blocked_in
blocked-is bytes line e =
    let c = bind_some (parts_at 32 bytes) _ line e in
    let n = bind_some (name_in c.0.0) _ line c.2 in
    let d = bind_some (parts_at 32 c.0.1) _ line n.2 in
    let s = bind_some (stamp_in d.0.0) _ line d.2 in
    let r = bind_some (behind_word (codes "by") d.0.1) _ line s.2 in
    let b = bind_some (names_in r.0) _ line r.2 in
    let name = name-is c.0.0 n.0 n.1 in
    let stamp = stamp-is d.0.0 s.0 s.1 in
    let by = names-is r.0 b.0 b.1 in
    let same : Blocked n.0 s.0 b.0 ≡ line = some_is _ _ b.2 in
    let rest = ap (λ l. codes "by" ++ 32 ∷ l) by.1 ∙ behind_word-is (codes "by") d.0.1 r.0 r.1 in
    subst (IsLine (codes "blocked") bytes) same
    ((name.0, stamp.0, by.0), ap (λ l. codes "blocked " ++ l) (joined_by n.0 (stamp_text s.0) (names_text b.0) c.0.0 c.0.1 d.0.0 d.0.1 bytes name.1 stamp.1 (parts-is 32 bytes c.0 c.1) (parts-is 32 c.0.1 d.0 d.1) rest))

pub ended-is : (bytes : List ℕ) (line : Line) → ended_in bytes ≡ Some line → IsLine (codes "ended") bytes line
unfolding ended_in
ended-is bytes line e =
    let c = bind_some (parts_at 32 bytes) _ line e in
    let n = bind_some (name_in c.0.0) _ line c.2 in
    let d = bind_some (parts_at 32 c.0.1) _ line n.2 in
    let s = bind_some (stamp_in d.0.0) _ line d.2 in
    let r = bind_some (behind_word (codes "by") d.0.1) _ line s.2 in
    let b = bind_some (stamp_in r.0) _ line r.2 in
    let name = name-is c.0.0 n.0 n.1 in
    let stamp = stamp-is d.0.0 s.0 s.1 in
    let by = stamp-is r.0 b.0 b.1 in
    let same : Ended n.0 s.0 b.0 ≡ line = some_is _ _ b.2 in
    let rest = ap (λ l. codes "by" ++ 32 ∷ l) by.1 ∙ behind_word-is (codes "by") d.0.1 r.0 r.1 in
    subst (IsLine (codes "ended") bytes) same
    ((name.0, stamp.0, by.0), ap (λ l. codes "ended " ++ l) (joined_by n.0 (stamp_text s.0) (stamp_text b.0) c.0.0 c.0.1 d.0.0 d.0.1 bytes name.1 stamp.1 (parts-is 32 bytes c.0 c.1) (parts-is 32 c.0.1 d.0 d.1) rest))

-- a name, a timestamp, a path, the word deps, and what follows
joined_deps : (name stamp path rest a b c d x y bytes : List ℕ) → name ≡ a → stamp ≡ c → path ≡ x → a ++ 32 ∷ b ≡ bytes → c ++ 32 ∷ d ≡ b → x ++ 32 ∷ y ≡ d → codes "deps" ++ 32 ∷ rest ≡ y
    → (((((name ++ codes " ") ++ stamp) ++ codes " ") ++ path) ++ codes " deps ") ++ rest ≡ bytes
joined_deps name stamp path rest a b c d x y bytes e f p g h k l =
    regroup7 name (codes " ") stamp (codes " ") path (codes " deps ") rest
    ∙ ap (λ n. n ++ 32 ∷ (stamp ++ 32 ∷ (path ++ (codes " deps " ++ rest)))) e ∙ ap (λ s. a ++ 32 ∷ (s ++ 32 ∷ (path ++ (codes " deps " ++ rest)))) f
    ∙ ap (λ q. a ++ 32 ∷ (c ++ 32 ∷ (q ++ (codes " deps " ++ rest)))) p
    ∙ ap (λ r. a ++ 32 ∷ (c ++ 32 ∷ (x ++ 32 ∷ r))) l ∙ ap (λ r. a ++ 32 ∷ (c ++ 32 ∷ r)) k ∙ ap (λ r. a ++ 32 ∷ r) h ∙ g

pub decide-is : (bytes : List ℕ) (line : Line) → decide_in bytes ≡ Some line → IsLine (codes "decide") bytes line
unfolding decide_in
decide-is bytes line e =
    let c = bind_some (parts_at 32 bytes) _ line e in
    let n = bind_some (name_in c.0.0) _ line c.2 in
    let d = bind_some (parts_at 32 c.0.1) _ line n.2 in
    let s = bind_some (stamp_in d.0.0) _ line d.2 in
    let o = bind_some (parts_at 32 d.0.1) _ line s.2 in
    let p = bind_some (path_in o.0.0) _ line o.2 in
    let r = bind_some (behind_word (codes "deps") o.0.1) _ line p.2 in
    let b = bind_some (names_in r.0) _ line r.2 in
    let name = name-is c.0.0 n.0 n.1 in
    let stamp = stamp-is d.0.0 s.0 s.1 in
    let path = path-is o.0.0 p.0 p.1 in
    let deps = names-is r.0 b.0 b.1 in
    let same : Decide n.0 s.0 p.0 b.0 ≡ line = some_is _ _ b.2 in
    let rest = ap (λ l. codes "deps" ++ 32 ∷ l) deps.1 ∙ behind_word-is (codes "deps") o.0.1 r.0 r.1 in
    subst (IsLine (codes "decide") bytes) same (
      (name.0, stamp.0, deps.0),
      ap (λ l. codes "decide " ++ l)
          (joined_deps n.0 (stamp_text s.0) (path_text p.0) (names_text b.0) c.0.0 c.0.1 d.0.0 d.0.1 o.0.0 o.0.1 bytes name.1 stamp.1 path
          (parts-is 32 bytes c.0 c.1) (parts-is 32 c.0.1 d.0 d.1) (parts-is 32 d.0.1 o.0 o.1) rest),
    )

pub restart-is : (bytes : List ℕ) (line : Line) → restart_in bytes ≡ Some line → IsLine (codes "restart") bytes line
unfolding restart_in
restart-is bytes line e =
    let c = bind_some (parts_at 32 bytes) _ line e in
    let a = bind_some (actor_in c.0.0) _ line c.2 in
    let r = bind_some (behind_word (codes "kept") c.0.1) _ line a.2 in
    let k = bind_some (number_in r.0) _ line r.2 in
    let actor = actor-is c.0.0 a.0 a.1 in
    let kept = number-is r.0 k.0 k.1 in
    let same : Restart a.0 k.0 ≡ line = some_is _ _ k.2 in
    let rest = ap (λ l. codes "kept" ++ 32 ∷ l) kept.1 ∙ behind_word-is (codes "kept") c.0.1 r.0 r.1 in
    let text = append_assoc (actor_text a.0) (codes " kept ") (decimal k.0) ∙ ap (λ l. l ++ (codes " kept " ++ decimal k.0)) actor.1 ∙ ap (λ l. c.0.0 ++ 32 ∷ l) rest ∙ parts-is 32 bytes c.0 c.1 in
    subst (IsLine (codes "restart") bytes) same ((actor.0, kept.0), ap (λ l. codes "restart " ++ l) text)

pub decided-is : (bytes : List ℕ) (line : Line) → decided_in bytes ≡ Some line → IsLine (codes "decided") bytes line
unfolding decided_in
decided-is bytes line e =
    let c = bind_some (parts_at 32 bytes) _ line e in
    let f = bind_some (count_in (codes "fast") c.0.0) _ line c.2 in
    let d = bind_some (parts_at 32 c.0.1) _ line f.2 in
    let s = bind_some (count_in (codes "slow") d.0.0) _ line d.2 in
    let o = bind_some (parts_at 32 d.0.1) _ line s.2 in
    let r = bind_some (count_in (codes "recovered") o.0.0) _ line o.2 in
    let a = bind_some (count_in (codes "adopted") o.0.1) _ line r.2 in
    let fast = count-is (codes "fast") c.0.0 f.0 f.1 in
    let slow = count-is (codes "slow") d.0.0 s.0 s.1 in
    let recovered = count-is (codes "recovered") o.0.0 r.0 r.1 in
    let adopted = count-is (codes "adopted") o.0.1 a.0 a.1 in
    let same : Decided f.0 s.0 r.0 a.0 ≡ line = some_is _ _ a.2 in
    let third = ap (λ l. (codes "recovered=" ++ decimal r.0) ++ 32 ∷ l) adopted.1 ∙ ap (λ l. l ++ 32 ∷ o.0.1) recovered.1 ∙ parts-is 32 d.0.1 o.0 o.1 in
    let second = ap (λ l. (codes "slow=" ++ decimal s.0) ++ 32 ∷ l) third ∙ ap (λ l. l ++ 32 ∷ d.0.1) slow.1 ∙ parts-is 32 c.0.1 d.0 d.1 in
    let first = ap (λ l. (codes "fast=" ++ decimal f.0) ++ 32 ∷ l) second ∙ ap (λ l. l ++ 32 ∷ c.0.1) fast.1 ∙ parts-is 32 bytes c.0 c.1 in
    let text = regroup7 (codes "fast=" ++ decimal f.0) (codes " slow=") (decimal s.0) (codes " recovered=") (decimal r.0) (codes " adopted=") (decimal a.0) ∙ first in
    subst (IsLine (codes "decided") bytes) same ((fast.0, slow.0, recovered.0, adopted.0), ap (λ l. codes "decided " ++ l) text)

pub end-is : (bytes : List ℕ) (line : Line) → end_in bytes ≡ Some line → IsLine (codes "end") bytes line
unfolding end_in
end-is bytes line e =
    let c = bind_some (parts_at 32 bytes) _ line e in
    let t = bind_some (count_in (codes "txns") c.0.0) _ line c.2 in
    let d = bind_some (parts_at 32 c.0.1) _ line t.2 in
    let r = bind_some (count_in (codes "replied") d.0.0) _ line d.2 in
    let u = bind_some (count_in (codes "open") d.0.1) _ line r.2 in
    let txns = count-is (codes "txns") c.0.0 t.0 t.1 in
    let replied = count-is (codes "replied") d.0.0 r.0 r.1 in
    let unreplied = count-is (codes "open") d.0.1 u.0 u.1 in
    let same : End t.0 r.0 u.0 ≡ line = some_is _ _ u.2 in
    let second = ap (λ l. (codes "replied=" ++ decimal r.0) ++ 32 ∷ l) unreplied.1 ∙ ap (λ l. l ++ 32 ∷ d.0.1) replied.1 ∙ parts-is 32 c.0.1 d.0 d.1 in
    let first = ap (λ l. (codes "txns=" ++ decimal t.0) ++ 32 ∷ l) second ∙ ap (λ l. l ++ 32 ∷ c.0.1) txns.1 ∙ parts-is 32 bytes c.0 c.1 in
    let text = regroup5 (codes "txns=" ++ decimal t.0) (codes " replied=") (decimal r.0) (codes " open=") (decimal u.0) ∙ first in
    subst (IsLine (codes "end") bytes) same ((txns.0, replied.0, unreplied.0), ap (λ l. codes "end " ++ l) text)

-- ---- steps that were passed over

abbrev IsCause : ℕ → List ℕ → List ℕ → Line → Type 0
IsCause step word rest line = IsCount step → HasForm line × (line_text line ≡ codes "skip " ++ (decimal step ++ 32 ∷ (word ++ 32 ∷ rest)))

no_message-is : (step : ℕ) (rest : List ℕ) (line : Line) → no_message_in step rest ≡ Some line → IsCause step (codes "nomessage") rest line
unfolding no_message_in
no_message-is step rest line e h =
    let c = bind_some (parts_at 32 rest) _ line e in
    let n = bind_some (number_in c.0.0) _ line c.2 in
    let s = bind_some (number_in c.0.1) _ line n.2 in
    let number = number-is c.0.0 n.0 n.1 in
    let sent = number-is c.0.1 s.0 s.1 in
    let same : SkipNoMessage step n.0 s.0 ≡ line = some_is _ _ s.2 in
    let P : Line → Type 0 = λ line. HasForm line × (line_text line ≡ codes "skip " ++ (decimal step ++ 32 ∷ (codes "nomessage" ++ 32 ∷ rest))) in
    let tail = ap (λ l. l ++ 32 ∷ decimal s.0) number.1 ∙ ap (λ l. c.0.0 ++ 32 ∷ l) sent.1 ∙ parts-is 32 rest c.0 c.1 in
    let text = regroup5 (decimal step) (codes " nomessage ") (decimal n.0) (codes " ") (decimal s.0) ∙ ap (λ l. decimal step ++ (codes " nomessage " ++ l)) tail in
    subst P same ((h, number.0, sent.0), ap (λ l. codes "skip " ++ l) text)

down-is : (step : ℕ) (rest : List ℕ) (line : Line) → option_map (λ actor. SkipDown step actor) (actor_in rest) ≡ Some line → IsCause step (codes "down") rest line
down-is step rest line e h =
    let a = map_some (λ actor. SkipDown step actor) (actor_in rest) line e in
    let actor = actor-is rest a.0 a.1 in
    let P : Line → Type 0 = λ line. HasForm line × (line_text line ≡ codes "skip " ++ (decimal step ++ 32 ∷ (codes "down" ++ 32 ∷ rest))) in
    subst P a.2 ((h, actor.0), ap (λ l. codes "skip " ++ l) (append_assoc (decimal step) (codes " down ") (actor_text a.0) ∙ ap (λ l. decimal step ++ (codes " down " ++ l)) actor.1))

begun-is : (step : ℕ) (rest : List ℕ) (line : Line) → option_map (λ name. SkipBegun step name) (name_in rest) ≡ Some line → IsCause step (codes "begun") rest line
begun-is step rest line e h =
    let n = map_some (λ name. SkipBegun step name) (name_in rest) line e in
    let name = name-is rest n.0 n.1 in
    let P : Line → Type 0 = λ line. HasForm line × (line_text line ≡ codes "skip " ++ (decimal step ++ 32 ∷ (codes "begun" ++ 32 ∷ rest))) in
    subst P n.2 ((h, name.0), ap (λ l. codes "skip " ++ l) (append_assoc (decimal step) (codes " begun ") n.0 ∙ ap (λ l. decimal step ++ (codes " begun " ++ l)) name.1))

unknown-is : (step : ℕ) (rest : List ℕ) (line : Line) → option_map (λ name. SkipUnknown step name) (name_in rest) ≡ Some line → IsCause step (codes "unknown") rest line
unknown-is step rest line e h =
    let n = map_some (λ name. SkipUnknown step name) (name_in rest) line e in
    let name = name-is rest n.0 n.1 in
    let P : Line → Type 0 = λ line. HasForm line × (line_text line ≡ codes "skip " ++ (decimal step ++ 32 ∷ (codes "unknown" ++ 32 ∷ rest))) in
    subst P n.2 ((h, name.0), ap (λ l. codes "skip " ++ l) (append_assoc (decimal step) (codes " unknown ") n.0 ∙ ap (λ l. decimal step ++ (codes " unknown " ++ l)) name.1))

no_quorum-is : (step : ℕ) (rest : List ℕ) (line : Line) → option_map (λ name. SkipNoQuorum step name) (name_in rest) ≡ Some line → IsCause step (codes "noquorum") rest line
no_quorum-is step rest line e h =
    let n = map_some (λ name. SkipNoQuorum step name) (name_in rest) line e in
    let name = name-is rest n.0 n.1 in
    let P : Line → Type 0 = λ line. HasForm line × (line_text line ≡ codes "skip " ++ (decimal step ++ 32 ∷ (codes "noquorum" ++ 32 ∷ rest))) in
    subst P n.2 ((h, name.0), ap (λ l. codes "skip " ++ l) (append_assoc (decimal step) (codes " noquorum ") n.0 ∙ ap (λ l. decimal step ++ (codes " noquorum " ++ l)) name.1))

-- what holds after the word that was compared holds after the word that stands there
like_cause : (step : ℕ) (word known rest : List ℕ) (line : Line) → bytes_eq word known ≡ true → IsCause step known rest line → IsCause step word rest line
like_cause step word known rest line is found h =
    let P : List ℕ → Type 0 = λ w. HasForm line × (line_text line ≡ codes "skip " ++ (decimal step ++ 32 ∷ (w ++ 32 ∷ rest))) in
    subst P (sym (same_bytes word known is)) (found h)

cause_found : (step : ℕ) (word rest : List ℕ) (line : Line) (a b c d e : Bool)
    → bytes_eq word (codes "nomessage") ≡ a → bytes_eq word (codes "down") ≡ b → bytes_eq word (codes "begun") ≡ c → bytes_eq word (codes "unknown") ≡ d → bytes_eq word (codes "noquorum") ≡ e
    → cond a (no_message_in step rest) (cond b (option_map (λ actor. SkipDown step actor) (actor_in rest)) (cond c (option_map (λ name. SkipBegun step name) (name_in rest))
    (cond d (option_map (λ name. SkipUnknown step name) (name_in rest)) (cond e (option_map (λ name. SkipNoQuorum step name) (name_in rest)) None)))) ≡ Some line
    → IsCause step word rest line
cause_found step word rest line true b c d e p q r s t is = like_cause step word (codes "nomessage") rest line p (no_message-is step rest line is)
cause_found step word rest line false true c d e p q r s t is = like_cause step word (codes "down") rest line q (down-is step rest line is)
cause_found step word rest line false false true d e p q r s t is = like_cause step word (codes "begun") rest line r (begun-is step rest line is)
cause_found step word rest line false false false true e p q r s t is = like_cause step word (codes "unknown") rest line s (unknown-is step rest line is)
cause_found step word rest line false false false false true p q r s t is = like_cause step word (codes "noquorum") rest line t (no_quorum-is step rest line is)
cause_found step word rest line false false false false false p q r s t is = cc

cause-is : (step : ℕ) (word rest : List ℕ) (line : Line) → cause_in step word rest ≡ Some line → IsCause step word rest line
unfolding cause_in
cause-is step word rest line e =
    cause_found step word rest line (bytes_eq word (codes "nomessage")) (bytes_eq word (codes "down")) (bytes_eq word (codes "begun")) (bytes_eq word (codes "unknown")) (bytes_eq word (codes "noquorum"))
    refl refl refl refl refl e

pub skip-is : (bytes : List ℕ) (line : Line) → skip_in bytes ≡ Some line → IsLine (codes "skip") bytes line
unfolding skip_in
skip-is bytes line e =
    let c = bind_some (parts_at 32 bytes) _ line e in
    let n = bind_some (number_in c.0.0) _ line c.2 in
    let d = bind_some (parts_at 32 c.0.1) _ line n.2 in
    let step = number-is c.0.0 n.0 n.1 in
    let found = cause-is n.0 d.0.0 d.0.1 line d.2 step.0 in (
      found.0,
      found.1 ∙ ap (λ l. codes "skip " ++ l)
          (ap (λ l. decimal n.0 ++ 32 ∷ l) (parts-is 32 c.0.1 d.0 d.1) ∙ ap (λ l. l ++ 32 ∷ c.0.1) step.1 ∙ parts-is 32 bytes c.0 c.1),
    )
