-- No line has a line feed.
use Rattle.std.proofs.Common.{◌≡◌, ℕ, suc, Bool, true, false, not, ◌&&◌, cond, List, [], ◌∷◌, ◌++◌, length, nat_le, Option, Some, None, pos, negsuc, refl, arith}
use Rattle.std.specs.Prelude.{codes, decimal, flat_map, ◌==◌}
use Rattle.std.specs.List.{list_all, join_by, AllByRecursion}
use Rattle.std.specs.Str.{is_utf8}
use Rattle.std.proofs.lemmas.Bool.{and_parts}
use Rattle.acc_value.specs.declared.value.Value.{Value}
use Rattle.acc_value.specs.declared.value.Value.TheVariants.{Number as NumberValue, Text as TextValue}
use Rattle.acc_txn.specs.declared.outcome.Verdict.{Verdict}
use Rattle.acc_txn.specs.declared.outcome.Verdict.TheVariants.{Ok as Done, Skipped, Overflow}
use Rattle.acc_txn.specs.Words.{is_printed, is_text_value}
use Rattle.acc_message.specs.declared.note.Path.{Path}
use Rattle.acc_message.specs.declared.note.Path.TheVariants.{Fast, Slow, Recovered, Adopted}
use Rattle.acc_txn.specs.declared.outcome.Reply.{Reply as ReplyValue}
use Rattle.acc_report_line.specs.declared.line.Line.{Line}
use Rattle.acc_report_line.specs.declared.line.Line.TheVariants.{Begin, Recover, Blocked, Ended, Decide, Outcome, Reply, SkipNoMessage, SkipDown, SkipBegun, SkipUnknown, SkipNoQuorum, Down, Restart, Decided, End}
use Rattle.acc_report_line.specs.Forms.{is_name, IsName, AreNames, IsCount, IsCell, MayHave, IsReply, HasForm}
use Rattle.acc_report_line.specs.Texts.{stamp_text, actor_text, names_text, path_text, verdict_text, quoted_byte, cell_text, values_text, reply_text, line_text}
use Rattle.acc_report_reader.proofs.Slices.{Lacks, lacks_from, lacks_both}
use Rattle.acc_report_reader.proofs.Digits.{decimal_lacks, stamp_lacks, actor_lacks}
use Rattle.acc_report_reader.proofs.Names.{name_lacks}

-- ---- lists

more_lacks : {Y : Type 0} (form : Y → Type 0) (text : Y → List ℕ) → ((y : Y) → form y → Lacks 10 (text y)) → (ys : List Y) → AllByRecursion form ys → Lacks 10 (flat_map (λ y. codes "," ++ text y) ys)
more_lacks form text each [] h = refl
more_lacks form text each (y ∷ ys) h =
    lacks_both 10 (codes "," ++ text y) (flat_map (λ y. codes "," ++ text y) ys) (each y h.0) (more_lacks form text each ys h.1)

joined_lacks : {Y : Type 0} (form : Y → Type 0) (text : Y → List ℕ) → ((y : Y) → form y → Lacks 10 (text y)) → (ys : List Y) → AllByRecursion form ys → Lacks 10 (join_by text (codes ",") ys)
joined_lacks form text each [] h = refl
joined_lacks form text each (y ∷ ys) h =
    lacks_both 10 (text y) (flat_map (λ y. codes "," ++ text y) ys) (each y h.0) (more_lacks form text each ys h.1)

all_names : (names : List (List ℕ)) → AreNames names → AllByRecursion IsName names
all_names [] h = tt
all_names (n ∷ ns) h = let p = and_parts (is_name n) (list_all is_name ns) h in (p.0, all_names ns p.1)

names_lacks : (names : List (List ℕ)) → AreNames names → Lacks 10 (names_text names)
names_lacks [] h = refl
names_lacks (n ∷ ns) h = joined_lacks IsName (λ n. n) (λ n is. name_lacks 10 n refl is) (n ∷ ns) (all_names (n ∷ ns) h)

-- ---- replies

byte_lacks : (c : ℕ) (quote : Bool) → not (c == 10) ≡ true → Lacks 10 (cond quote (39 ∷ 39 ∷ []) (c ∷ []))
byte_lacks c true h = refl
byte_lacks c false h = rw h refl

said_lacks : (text : List ℕ) → Lacks 10 text → Lacks 10 (flat_map quoted_byte text)
said_lacks [] h = refl
said_lacks (c ∷ cs) h =
    let p = and_parts (not (c == 10)) (list_all (λ b. not (b == 10)) cs) h in
    lacks_both 10 (quoted_byte c) (flat_map quoted_byte cs) (byte_lacks c (c == 39) p.0) (said_lacks cs p.1)

text_lacks : (text : List ℕ) → is_text_value text ≡ true → Lacks 10 text
text_lacks text h =
    let p = and_parts (nat_le (length text) 255 && list_all is_printed text) (is_utf8 text) h in
    let q = and_parts (nat_le (length text) 255) (list_all is_printed text) p.0 in
    lacks_from is_printed 10 text refl q.1

cell_lacks : (cell : Option Value) → IsCell cell → Lacks 10 (cell_text cell)
cell_lacks None h = refl
cell_lacks (Some (NumberValue (pos n))) h = decimal_lacks 10 n refl (omega arith)
cell_lacks (Some (NumberValue (negsuc n))) h = decimal_lacks 10 (suc n) refl (omega arith)
cell_lacks (Some (TextValue text)) h = lacks_both 10 (codes "'" ++ flat_map quoted_byte text) (codes "'") (said_lacks text (text_lacks text h)) refl

values_lacks : (cells : List (Option Value)) → AllByRecursion IsCell cells → Lacks 10 (values_text cells)
values_lacks [] h = refl
values_lacks (c ∷ cs) h = joined_lacks IsCell cell_text cell_lacks (c ∷ cs) h

verdict_lacks : (verdict : Verdict) (values : List (Option Value)) → MayHave verdict values → Lacks 10 (verdict_text verdict ++ values_text values)
verdict_lacks Done values h = values_lacks values h
verdict_lacks Skipped values h = values_lacks values h
verdict_lacks Overflow [] h = refl
verdict_lacks Overflow (c ∷ cs) h = cc

reply_lacks : (reply : ReplyValue) → IsReply reply → Lacks 10 (reply_text reply)
reply_lacks reply h = verdict_lacks reply.verdict reply.values h

path_lacks : (path : Path) → Lacks 10 (path_text path)
path_lacks Fast = refl
path_lacks Slow = refl
path_lacks Recovered = refl
path_lacks Adopted = refl

-- ---- lines

-- one after another
then2 : (a b : List ℕ) → Lacks 10 a → Lacks 10 b → Lacks 10 (a ++ b)
then2 a b h k = lacks_both 10 a b h k

digits_lack : (n : ℕ) → IsCount n → Lacks 10 (decimal n)
digits_lack n h = decimal_lacks 10 n refl h

skip_lacks : (step : ℕ) (word rest : List ℕ) → IsCount step → Lacks 10 word → Lacks 10 rest → Lacks 10 (((codes "skip " ++ decimal step) ++ word) ++ rest)
skip_lacks step word rest h k l = then2 ((codes "skip " ++ decimal step) ++ word) rest (then2 (decimal step) word (digits_lack step h) k) l

named_lacks : (name s : List ℕ) → IsName name → Lacks 10 s → Lacks 10 ((name ++ codes " ") ++ s)
named_lacks name s h k = then2 (name ++ codes " ") s (then2 name (codes " ") (name_lacks 10 name refl h) refl) k

by_lacks : (name s rest : List ℕ) → IsName name → Lacks 10 s → Lacks 10 rest → Lacks 10 ((((name ++ codes " ") ++ s) ++ codes " by ") ++ rest)
by_lacks name s rest h k l = then2 (((name ++ codes " ") ++ s) ++ codes " by ") rest (then2 ((name ++ codes " ") ++ s) (codes " by ") (named_lacks name s h k) refl) l

deps_lacks : (name s path rest : List ℕ) → IsName name → Lacks 10 s → Lacks 10 path → Lacks 10 rest → Lacks 10 ((((((name ++ codes " ") ++ s) ++ codes " ") ++ path) ++ codes " deps ") ++ rest)
deps_lacks name s path rest h k p l =
    then2 (((((name ++ codes " ") ++ s) ++ codes " ") ++ path) ++ codes " deps ") rest
    (then2 ((((name ++ codes " ") ++ s) ++ codes " ") ++ path) (codes " deps ")
    (then2 (((name ++ codes " ") ++ s) ++ codes " ") path (then2 ((name ++ codes " ") ++ s) (codes " ") (named_lacks name s h k) refl) p) refl) l

counts_lack : (one two three a b : List ℕ) → Lacks 10 one → Lacks 10 two → Lacks 10 three → Lacks 10 a → Lacks 10 b → Lacks 10 ((((one ++ a) ++ two) ++ b) ++ three)
counts_lack one two three a b h k l m n =
    then2 (((one ++ a) ++ two) ++ b) three (then2 ((one ++ a) ++ two) b (then2 (one ++ a) two (then2 one a h m) k) n) l

pub line_lacks : (line : Line) → HasForm line → Lacks 10 (line_text line)
line_lacks (Begin name id) h = named_lacks name (stamp_text id) h.0 (stamp_lacks 10 id refl refl h.1)
line_lacks (Recover name b) h = named_lacks name (stamp_text b) h.0 (stamp_lacks 10 b refl refl h.1)
line_lacks (Blocked name b by) h = by_lacks name (stamp_text b) (names_text by) h.0 (stamp_lacks 10 b refl refl h.1) (names_lacks by h.2)
line_lacks (Ended name b by) h = by_lacks name (stamp_text b) (stamp_text by) h.0 (stamp_lacks 10 b refl refl h.1) (stamp_lacks 10 by refl refl h.2)
line_lacks (Decide name t path deps) h =
    deps_lacks name (stamp_text t) (path_text path) (names_text deps) h.0 (stamp_lacks 10 t refl refl h.1) (path_lacks path) (names_lacks deps h.2)
line_lacks (Outcome name reply) h = named_lacks name (reply_text reply) h.0 (reply_lacks reply h.1)
line_lacks (Reply name reply) h = named_lacks name (reply_text reply) h.0 (reply_lacks reply h.1)
line_lacks (SkipNoMessage step n sent) h =
    then2 ((((codes "skip " ++ decimal step) ++ codes " nomessage ") ++ decimal n) ++ codes " ") (decimal sent)
    (then2 (((codes "skip " ++ decimal step) ++ codes " nomessage ") ++ decimal n) (codes " ") (skip_lacks step (codes " nomessage ") (decimal n) h.0 refl (digits_lack n h.1)) refl) (digits_lack sent h.2)
line_lacks (SkipDown step actor) h = skip_lacks step (codes " down ") (actor_text actor) h.0 refl (actor_lacks 10 actor refl refl h.1)
line_lacks (SkipBegun step name) h = skip_lacks step (codes " begun ") name h.0 refl (name_lacks 10 name refl h.1)
line_lacks (SkipUnknown step name) h = skip_lacks step (codes " unknown ") name h.0 refl (name_lacks 10 name refl h.1)
line_lacks (SkipNoQuorum step name) h = skip_lacks step (codes " noquorum ") name h.0 refl (name_lacks 10 name refl h.1)
line_lacks (Down actor) h = actor_lacks 10 actor refl refl h
line_lacks (Restart actor kept) h = then2 (actor_text actor ++ codes " kept ") (decimal kept) (then2 (actor_text actor) (codes " kept ") (actor_lacks 10 actor refl refl h.0) refl) (digits_lack kept h.1)
line_lacks (Decided fast slow recovered adopted) h =
    then2 ((((((codes "decided fast=" ++ decimal fast) ++ codes " slow=") ++ decimal slow) ++ codes " recovered=") ++ decimal recovered) ++ codes " adopted=") (decimal adopted)
    (then2 (((((codes "decided fast=" ++ decimal fast) ++ codes " slow=") ++ decimal slow) ++ codes " recovered=") ++ decimal recovered) (codes " adopted=")
    (then2 ((((codes "decided fast=" ++ decimal fast) ++ codes " slow=") ++ decimal slow) ++ codes " recovered=") (decimal recovered)
    (counts_lack (codes "decided fast=") (codes " slow=") (codes " recovered=") (decimal fast) (decimal slow) refl refl refl (digits_lack fast h.0) (digits_lack slow h.1)) (digits_lack recovered h.2)) refl) (digits_lack adopted h.3)
line_lacks (End txns replied unreplied) h =
    then2 ((((codes "end txns=" ++ decimal txns) ++ codes " replied=") ++ decimal replied) ++ codes " open=") (decimal unreplied)
    (counts_lack (codes "end txns=") (codes " replied=") (codes " open=") (decimal txns) (decimal replied) refl refl refl (digits_lack txns h.0) (digits_lack replied h.1)) (digits_lack unreplied h.2)
