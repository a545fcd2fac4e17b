-- Each line with its form is read from its text.
use Rattle.std.proofs.Common.{◌≡◌, ℕ, List, ◌∷◌, ◌++◌, Some, refl, ap, ◌∙◌, append_assoc}
use Rattle.std.specs.Prelude.{codes, decimal, option_map}
use Rattle.acc_stamp.specs.declared.stamps.Stamp.{Stamp}
use Rattle.acc_stamp.specs.declared.actors.Actor.{Actor}
use Rattle.acc_message.specs.declared.note.Path.{Path}
use Rattle.acc_txn.specs.declared.outcome.Reply.{Reply as ReplyValue}
use Rattle.acc_report_line.specs.declared.line.Line.{Line}
use Rattle.acc_report_line.specs.declared.line.Line.TheVariants.{Begin, Recover, Blocked, Ended, Decide, Outcome, Reply, SkipNoMessage, SkipDown, SkipBegun, SkipUnknown, SkipNoQuorum, Down, Restart, Decided, End}
use Rattle.acc_report_line.specs.Forms.{IsName, AreNames, IsCount, IsStamp, IsActor, IsReply, HasForm}
use Rattle.acc_report_line.specs.Texts.{stamp_text, actor_text, names_text, path_text, reply_text, line_text}
use Rattle.acc_report_reader.specs.Fields.{parts_at}
use Rattle.acc_report_reader.specs.Reading.{stamped_in, blocked_in, ended_in, decide_in, replied_in, no_message_in, cause_in, skip_in, restart_in, decided_in, end_in, note_in, kind_in, line_in}
use Rattle.acc_report_reader.proofs.Slices.{Lacks, parts-of, behind_word-of, lacks_both}
use Rattle.acc_report_reader.proofs.Digits.{number-of, count-of, stamp-of, stamp_lacks, actor-of, actor_lacks, decimal_lacks}
use Rattle.acc_report_reader.proofs.Names.{name-of, name_lacks, names-of, path-of, path_lacks}
use Rattle.acc_report_reader.proofs.Values.{reply-of}
use Rattle.acc_report_reader.proofs.Regroup.{regroup3, regroup5, regroup7}

stamped-of : (name : List ℕ) (s : Stamp) → IsName name → IsStamp s → stamped_in ((name ++ codes " ") ++ stamp_text s) ≡ Some (name, s)
unfolding stamped_in
stamped-of name s h k =
    ap stamped_in (append_assoc name (codes " ") (stamp_text s))
    ∙ rw (parts-of 32 name (stamp_text s) (name_lacks 32 name refl h)) (rw (name-of name h) (rw (stamp-of s k) refl))

replied-of : (name : List ℕ) (reply : ReplyValue) → IsName name → IsReply reply → replied_in ((name ++ codes " ") ++ reply_text reply) ≡ Some (name, reply)
unfolding replied_in
replied-of name reply h k =
    ap replied_in (append_assoc name (codes " ") (reply_text reply))
    ∙ rw (parts-of 32 name (reply_text reply) (name_lacks 32 name refl h)) (rw (name-of name h) (rw (reply-of reply k) refl))

blocked-of : (name : List ℕ) (b : Stamp) (by : List (List ℕ)) → IsName name → IsStamp b → AreNames by
    → blocked_in ((((name ++ codes " ") ++ stamp_text b) ++ codes " by ") ++ names_text by) ≡ Some (Blocked name b by)
unfolding blocked_in
blocked-of name b by h k l =
    ap blocked_in (regroup5 name (codes " ") (stamp_text b) (codes " by ") (names_text by))
    ∙ rw (parts-of 32 name (stamp_text b ++ (codes " by " ++ names_text by)) (name_lacks 32 name refl h))
    (rw (name-of name h)
    (rw (parts-of 32 (stamp_text b) (codes "by " ++ names_text by) (stamp_lacks 32 b refl refl k))
    (rw (stamp-of b k) (rw (behind_word-of (codes "by") (names_text by) refl) (rw (names-of by l) refl)))))

ended-of : (name : List ℕ) (b by : Stamp) → IsName name → IsStamp b → IsStamp by
    → ended_in ((((name ++ codes " ") ++ stamp_text b) ++ codes " by ") ++ stamp_text by) ≡ Some (Ended name b by)
unfolding ended_in
ended-of name b by h k l =
    ap ended_in (regroup5 name (codes " ") (stamp_text b) (codes " by ") (stamp_text by))
    ∙ rw (parts-of 32 name (stamp_text b ++ (codes " by " ++ stamp_text by)) (name_lacks 32 name refl h))
    (rw (name-of name h)
    (rw (parts-of 32 (stamp_text b) (codes "by " ++ stamp_text by) (stamp_lacks 32 b refl refl k))
    (rw (stamp-of b k) (rw (behind_word-of (codes "by") (stamp_text by) refl) (rw (stamp-of by l) refl)))))

decide-of : (name : List ℕ) (t : Stamp) (path : Path) (deps : List (List ℕ)) → IsName name → IsStamp t → AreNames deps
    → decide_in ((((((name ++ codes " ") ++ stamp_text t) ++ codes " ") ++ path_text path) ++ codes " deps ") ++ names_text deps) ≡ Some (Decide name t path deps)
unfolding decide_in
decide-of name t path deps h k l =
    ap decide_in (regroup7 name (codes " ") (stamp_text t) (codes " ") (path_text path) (codes " deps ") (names_text deps))
    ∙ rw (parts-of 32 name (stamp_text t ++ (codes " " ++ (path_text path ++ (codes " deps " ++ names_text deps)))) (name_lacks 32 name refl h))
    (rw (name-of name h)
    (rw (parts-of 32 (stamp_text t) (path_text path ++ (codes " deps " ++ names_text deps)) (stamp_lacks 32 t refl refl k))
    (rw (stamp-of t k)
    (rw (parts-of 32 (path_text path) (codes "deps " ++ names_text deps) (path_lacks path))
    (rw (path-of path) (rw (behind_word-of (codes "deps") (names_text deps) refl) (rw (names-of deps l) refl)))))))

no_message-of : (step n sent : ℕ) → IsCount n → IsCount sent → no_message_in step (decimal n ++ 32 ∷ decimal sent) ≡ Some (SkipNoMessage step n sent)
unfolding no_message_in
no_message-of step n sent h k =
    rw (parts-of 32 (decimal n) (decimal sent) (decimal_lacks 32 n refl h)) (rw (number-of n h) (rw (number-of sent k) refl))

-- the step, the word of the cause, and what follows
skip-of : (step : ℕ) (word rest : List ℕ) → parts_at 32 (word ++ 32 ∷ rest) ≡ Some (word, rest) → IsCount step → skip_in (decimal step ++ 32 ∷ (word ++ 32 ∷ rest)) ≡ cause_in step word rest
unfolding skip_in
skip-of step word rest cut h =
    rw (parts-of 32 (decimal step) (word ++ 32 ∷ rest) (decimal_lacks 32 step refl h)) (rw (number-of step h) (rw cut refl))

restart-of : (actor : Actor) (kept : ℕ) → IsActor actor → IsCount kept → restart_in ((actor_text actor ++ codes " kept ") ++ decimal kept) ≡ Some (Restart actor kept)
unfolding restart_in
restart-of actor kept h k =
    ap restart_in (append_assoc (actor_text actor) (codes " kept ") (decimal kept))
    ∙ rw (parts-of 32 (actor_text actor) (codes "kept " ++ decimal kept) (actor_lacks 32 actor refl refl h))
    (rw (actor-of actor h) (rw (behind_word-of (codes "kept") (decimal kept) refl) (rw (number-of kept k) refl)))

label_lacks : (label : List ℕ) (n : ℕ) → Lacks 32 label → IsCount n → Lacks 32 (label ++ decimal n)
label_lacks label n h small = lacks_both 32 label (decimal n) h (decimal_lacks 32 n refl small)

decided-of : (fast slow recovered adopted : ℕ) → IsCount fast → IsCount slow → IsCount recovered → IsCount adopted
    → decided_in (((((((codes "fast=" ++ decimal fast) ++ codes " slow=") ++ decimal slow) ++ codes " recovered=") ++ decimal recovered) ++ codes " adopted=") ++ decimal adopted)
    ≡ Some (Decided fast slow recovered adopted)
unfolding decided_in
decided-of fast slow recovered adopted f s r a =
    ap decided_in (regroup7 (codes "fast=" ++ decimal fast) (codes " slow=") (decimal slow) (codes " recovered=") (decimal recovered) (codes " adopted=") (decimal adopted))
    ∙ rw (parts-of 32 (codes "fast=" ++ decimal fast) (codes "slow=" ++ (decimal slow ++ (codes " recovered=" ++ (decimal recovered ++ (codes " adopted=" ++ decimal adopted))))) (label_lacks (codes "fast=") fast refl f))
    (rw (count-of (codes "fast") fast refl f)
    (rw (parts-of 32 (codes "slow=" ++ decimal slow) (codes "recovered=" ++ (decimal recovered ++ (codes " adopted=" ++ decimal adopted))) (label_lacks (codes "slow=") slow refl s))
    (rw (count-of (codes "slow") slow refl s)
    (rw (parts-of 32 (codes "recovered=" ++ decimal recovered) (codes "adopted=" ++ decimal adopted) (label_lacks (codes "recovered=") recovered refl r))
    (rw (count-of (codes "recovered") recovered refl r) (rw (count-of (codes "adopted") adopted refl a) refl))))))

end-of : (txns replied unreplied : ℕ) → IsCount txns → IsCount replied → IsCount unreplied
    → end_in (((((codes "txns=" ++ decimal txns) ++ codes " replied=") ++ decimal replied) ++ codes " open=") ++ decimal unreplied) ≡ Some (End txns replied unreplied)
unfolding end_in
end-of txns replied unreplied t r u =
    ap end_in (regroup5 (codes "txns=" ++ decimal txns) (codes " replied=") (decimal replied) (codes " open=") (decimal unreplied))
    ∙ rw (parts-of 32 (codes "txns=" ++ decimal txns) (codes "replied=" ++ (decimal replied ++ (codes " open=" ++ decimal unreplied))) (label_lacks (codes "txns=") txns refl t))
    (rw (count-of (codes "txns") txns refl t)
    (rw (parts-of 32 (codes "replied=" ++ decimal replied) (codes "open=" ++ decimal unreplied) (label_lacks (codes "replied=") replied refl r))
    (rw (count-of (codes "replied") replied refl r) (rw (count-of (codes "open") unreplied refl u) refl))))

pub line-of : (line : Line) → HasForm line → line_in (line_text line) ≡ Some line
unfolding line_in kind_in note_in cause_in
line-of (Begin name id) h = let f : List ℕ × Stamp → Line = λ p. Begin p.0 p.1 in ap (option_map f) (stamped-of name id h.0 h.1)
line-of (Recover name b) h = let f : List ℕ × Stamp → Line = λ p. Recover p.0 p.1 in ap (option_map f) (stamped-of name b h.0 h.1)
line-of (Blocked name b by) h = blocked-of name b by h.0 h.1 h.2
line-of (Ended name b by) h = ended-of name b by h.0 h.1 h.2
line-of (Decide name t path deps) h = decide-of name t path deps h.0 h.1 h.2
line-of (Outcome name reply) h = let f : List ℕ × ReplyValue → Line = λ p. Outcome p.0 p.1 in ap (option_map f) (replied-of name reply h.0 h.1)
line-of (Reply name reply) h = let f : List ℕ × ReplyValue → Line = λ p. Reply p.0 p.1 in ap (option_map f) (replied-of name reply h.0 h.1)
line-of (SkipNoMessage step n sent) h =
    ap skip_in (regroup5 (decimal step) (codes " nomessage ") (decimal n) (codes " ") (decimal sent))
    ∙ skip-of step (codes "nomessage") (decimal n ++ 32 ∷ decimal sent) refl h.0 ∙ no_message-of step n sent h.1 h.2
line-of (SkipDown step actor) h =
    ap skip_in (regroup3 (decimal step) (codes " down ") (actor_text actor))
    ∙ skip-of step (codes "down") (actor_text actor) refl h.0 ∙ ap (option_map (λ actor. SkipDown step actor)) (actor-of actor h.1)
line-of (SkipBegun step name) h =
    ap skip_in (regroup3 (decimal step) (codes " begun ") name)
    ∙ skip-of step (codes "begun") name refl h.0 ∙ ap (option_map (λ name. SkipBegun step name)) (name-of name h.1)
line-of (SkipUnknown step name) h =
    ap skip_in (regroup3 (decimal step) (codes " unknown ") name)
    ∙ skip-of step (codes "unknown") name refl h.0 ∙ ap (option_map (λ name. SkipUnknown step name)) (name-of name h.1)
line-of (SkipNoQuorum step name) h =
    ap skip_in (regroup3 (decimal step) (codes " noquorum ") name)
    ∙ skip-of step (codes "noquorum") name refl h.0 ∙ ap (option_map (λ name. SkipNoQuorum step name)) (name-of name h.1)
line-of (Down actor) h = ap (option_map (λ actor. Down actor)) (actor-of actor h)
line-of (Restart actor kept) h = restart-of actor kept h.0 h.1
line-of (Decided fast slow recovered adopted) h = decided-of fast slow recovered adopted h.0 h.1 h.2 h.3
line-of (End txns replied unreplied) h = end-of txns replied unreplied h.0 h.1 h.2
