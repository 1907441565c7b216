-- A line that leaves nothing of what a step shows out is read as that.
use Rattle.std.proofs.Common.{◌≡◌, ◌∙◌, ℕ, ◌^◌, ◌<◌, ◌≤◌, true, false, ◌==◌, nat_le, nat_lt, ◌&&◌, List, [], ◌∷◌, ◌++◌, ◌+◌, ◌-◌, drop, map, length, codes, Some, None, Option}
use Rattle.std.proofs.Common.{Bool, IfSome, Result, Ok, Err, refl, ap, sym, arith, if◌then◌else◌}
use Rattle.std.specs.Fmt.{decimal}
use Rattle.std.specs.List.{position_or_len}
use Rattle.std.proofs.Math.Seq.{take-append_seam, drop-append-add}
use Rattle.std.specs.Char.{is_ascii_digit}
use Rattle.std.specs.Str.{all_ascii_digits}
use Rattle.std.proofs.lemmas.Bool.{and_from, le-leb, lt-ltb}
use Rattle.std.proofs.lemmas.List.{length-append}
use borrow.Author.Tests.{tests}
use Rattle.zy_isa.specs.Limits.{max_cap, max_key, max_txns, max_value}
use Rattle.zy_isa.specs.declared.row.Row.{Row}
use Rattle.zy_isa.specs.Rows.{Rising, RowsFit, row}
use Rattle.zy_isa.specs.declared.node.Node.{Node}
use Rattle.zy_isa.specs.declared.node.Node.TheVariants.{A, B}
use Rattle.zy_isa.specs.declared.choice.Choice.{Choice}
use Rattle.zy_isa.specs.declared.choice.Choice.TheVariants.{Start, Begin, Kill, Run, Take, Finish, Push}
use Rattle.zy_isa.specs.Choices.{actor_at, actor_of, names_below}
use Rattle.zy_isa.specs.declared.node.Actor.{Actor}
use Rattle.zy_isa.specs.declared.node.Actor.TheVariants as actor
use Rattle.zy_isa.specs.Results.{◌>>=◌}
use Rattle.zy_isa.proofs.ResultLemmas.{both, neither}
use Rattle.zy_model.specs.declared.kind.Kind.{Kind}
use Rattle.zy_page.specs.declared.page_rows.PageRows.{PageRows}
use Rattle.zy_page.specs.RowLists.{of_rows, rows_in}
use Rattle.zy_page.proofs.Padded.{rows_first}
use Rattle.zy_model.specs.declared.kind.Kind.TheVariants as kind
use Rattle.zy_table.specs.declared.observation.Observation.{Observation}
use Rattle.zy_table.specs.declared.outcome.Why.{Why}
use Rattle.zy_table.specs.declared.outcome.Why.TheVariants as why
use Rattle.zy_table.specs.declared.outcome.Outcome.{Outcome}
use Rattle.zy_table.specs.declared.outcome.Outcome.TheVariants as outcome
use Rattle.zy_text.specs.Canon.{node_text, choice_words}
use Rattle.zy_text.specs.Names.{is_name}
use Rattle.zy_text.specs.Words.{number_of, is_numeral}
use Rattle.zy_patterns.specs.declared.paged.PagedOutcome.{PagedOutcome}
use Rattle.zy_patterns.specs.declared.paged.PagedOutcome.TheVariants as paged
use Rattle.zy_patterns.specs.declared.patterns.OutcomePattern.{OutcomePattern}
use Rattle.zy_patterns.specs.declared.patterns.OutcomePattern.TheVariants as pattern
use Rattle.zy_patterns.specs.declared.patterns.ReasonPattern.TheVariants as reason_pattern
use Rattle.zy_patterns.specs.Paged.{with_page}
use Rattle.zy_patterns.specs.Patterns.{exactly, exactly_reason}
use Rattle.zy_patterns.specs.Vocabulary as word
use Rattle.zy_logs.specs.declared.expected.ExpectedInLog.TheVariants as expected
use Rattle.zy_logs.specs.declared.log_line.LogLine.{LogLine}
use Rattle.zy_logs.specs.declared.log_line.Logged.TheVariants.{Step}
use Rattle.zy_logs.specs.declared.txns.Txns.{Txns}
use Rattle.zy_logs.specs.declared.reading.cursor.Misfit.{Misfit}
use Rattle.zy_logs.specs.InFull.{in_full, IsPage, HasPage, IsTold, IsShown, ArePageRows, AreShown, reason_words, outcome_words, value_words, sent_words}
use Rattle.zy_logs.specs.InFull.{row_word, rows_words, shown_words, step_words, log_word, in_log, words_in}
use Rattle.zy_logs.specs.Words.{Word, Read, after, are_none, begin_with, message_or_end, end_outcome, stop, refused, gives, made}
use Rattle.zy_logs.specs.Txns.{named}
use Rattle.zy_logs.specs.Parts.{or_none, number_in, page, place, value, numbered, txn, node_at, reason}
use Rattle.zy_logs.specs.Lines as line
use Rattle.zy_logs.specs.Lines.{split, outcome_of, whose, choice_of, possible, told_of, logged, is_did, value_behind, sent_of, some_rows, rows_of, whole, placed, line_of}
use Rattle.zy_logs.specs.Possible.{can_give, can_have_rows, can_stand}
use Rattle.zy_logs.specs.Rows.{row_cut, sign_of, fitting, onto, rows_from, page_rows}
use Rattle.zy_logs.proofs.StandLemmas.{own_stands}
use Rattle.zy_text.proofs.WordLemmas.{number_of-decimal, digits_of, decimal_some}

-- opens the definitions of what words begin with
unfoldable open_all : ℕ
unfolding word.node word.kind word.lone_reason word.lone_outcome word.lone_got word.paged_outcome word.paged_got line.outcome_of
open_all = 0

-- ---- numbers

-- a word that begins with a digit
abbrev Digits : Word → Type 0
Digits w = (0 < length w) × (all_ascii_digits w ≡ true)

-- it is a numeral
are_numeral : (w : Word) → Digits w → is_numeral w ≡ true
are_numeral [] d = absurd (omega (arith, d.0))
are_numeral (b ∷ bs) d = (both (is_ascii_digit b) (all_ascii_digits bs) d.1).0

-- a digit is no `!`, no `r` and no `=`
no_mark : (b : ℕ) → is_ascii_digit b ≡ true → ((b == 33) ≡ false) × ((b == 114) ≡ false) × ((b == 61) ≡ false)
no_mark b h = (grind (arith, tests), grind (arith, tests), grind (arith, tests))

-- so an outcome does not end before it
goes_on : (w : Word) (ws : List Word) → Digits w → end_outcome (w ∷ ws) ≡ false
goes_on [] ws d = absurd (omega (arith, d.0))
goes_on (b ∷ bs) ws d = let m = no_mark b (both (is_ascii_digit b) (all_ascii_digits bs) d.1).0 in rw (m.0, m.1) refl

-- nor does a transaction's place
names_on : (w : Word) (ws : List Word) → Digits w → message_or_end (w ∷ ws) ≡ false
names_on w ws d = (neither (message_or_end (w ∷ ws)) (begin_with (codes "rows") (w ∷ ws)) (goes_on w ws d)).0

-- the digits of a number of 32 bits
decimal_digits : (n : ℕ) → n < 2 ^ 32 → Digits (decimal n)
decimal_digits n h = (decimal_some n h, digits_of n h)

-- a part that is read where it is not left out
given : {T : Type 0} (none : Bool) (part : List Word → Read T) (ws rest : List Word) (x : T) → none ≡ false → part ws ≡ Ok (x, rest)
    → (if none then Ok (None, ws) else made Some (part ws)) ≡ Ok (Some x, rest)
given none part ws rest x e h = ap (λ b. if b then Ok (None, ws) else made Some (part ws)) e ∙ ap (made Some) h

-- a number that is small enough
number_given : (most n : ℕ) (part : Word) (ws : List Word) → number_of part ≡ Some n → n ≤ most → number_in most part ws ≡ Ok (n, after ws)
number_given most n part ws e h =
    let after_digits : Option ℕ → Read ℕ = λ o. gives o expected.Number ws >>= λ m. if nat_le m.0 most then Ok m else refused (expected.AtMost most) ws in
    ap after_digits e ∙ ap (λ b. if b then Ok (n, after ws) else refused (expected.AtMost most) ws) (le-leb n most h)

-- the number of a transaction that there is
numbered_given : (count t : ℕ) (w : Word) (rest : List Word) → number_of w ≡ Some t → t < count → numbered count (w ∷ rest) ≡ Ok (t, rest)
numbered_given count t w rest e h =
    let ws = w ∷ rest in
    let after_digits : Option ℕ → Read ℕ = λ o. gives o expected.Number ws >>= λ m. if nat_lt m.0 count then Ok m else refused expected.KnownTxn ws in
    ap after_digits e ∙ ap (λ b. if b then Ok (t, rest) else refused expected.KnownTxn ws) (lt-ltb t count h)

-- a page or a key
page_given : (p : ℕ) (rest : List Word) → IsPage p → or_none page (decimal p ∷ rest) ≡ Ok (Some p, rest)
page_given p rest h =
    let few : p < 2 ^ 32 = omega (arith, h) in
    given _ page (decimal p ∷ rest) rest p (goes_on (decimal p) rest (decimal_digits p few))
    (number_given max_key p (decimal p) (decimal p ∷ rest) (number_of-decimal p few) h)

-- the number of a commit
place_given : (i : ℕ) (rest : List Word) → i ≤ max_txns → or_none place (decimal i ∷ rest) ≡ Ok (Some i, rest)
place_given i rest h =
    let few : i < 2 ^ 32 = omega (arith, h) in
    given _ place (decimal i ∷ rest) rest i (goes_on (decimal i) rest (decimal_digits i few))
    (number_given max_txns i (decimal i) (decimal i ∷ rest) (number_of-decimal i few) h)

-- a transaction by its number
txn_given : (txns : Txns) (t : ℕ) (rest : List Word) → txns.count ≤ 64 → t < txns.count → txn txns (decimal t ∷ rest) ≡ Ok (t, rest)
txn_given txns t rest most h =
    let few : t < 2 ^ 32 = omega (arith, most, h) in
    let w = decimal t in
    let ws = w ∷ rest in
    let other = if is_name w then gives (named txns w) expected.KnownTxn ws else refused expected.Txn ws in
    ap (λ b. if b then numbered txns.count ws else other) (are_numeral w (decimal_digits t few))
    ∙ numbered_given txns.count t (decimal t) rest (number_of-decimal t few) h

-- ---- an outcome

-- of one page
paged_given : (x : PagedOutcome) (p : ℕ) (rest : List Word) → IsPage p
    → made (with_page x) (or_none page (decimal p ∷ rest)) ≡ Ok (with_page x (Some p), rest)
paged_given x p rest h = ap (made (with_page x)) (page_given p rest h)

-- a split
split_given : (p q k : ℕ) (rest : List Word) → IsPage p → IsPage q → IsPage k
    → split (decimal p ∷ decimal q ∷ decimal k ∷ rest) ≡ Ok (pattern.Split (Some p) (Some q) (Some k), rest)
split_given p q k rest h i j =
    let third : Option ℕ → Option ℕ → Read (Option ℕ) → Read OutcomePattern = λ a b r. r >>= λ c. Ok (pattern.Split a b c.0, c.1) in
    let second : Option ℕ → Read (Option ℕ) → Read OutcomePattern = λ a r. r >>= λ b. third a b.0 (or_none page b.1) in
    let all : Read (Option ℕ) → Read OutcomePattern = λ r. r >>= λ a. second a.0 (or_none page a.1) in
    ap all (page_given p (decimal q ∷ decimal k ∷ rest) h)
    ∙ ap (second (Some p)) (page_given q (decimal k ∷ rest) i)
    ∙ ap (third (Some p) (Some q)) (page_given k rest j)

-- a reason
reason_given : (w : Why) (rest : List Word) → HasPage w → or_none reason (reason_words w ++ rest) ≡ Ok (Some (exactly_reason w), rest)
unfolding open_all
reason_given (why.Frozen p) rest h = ap (λ r. made Some (made reason_pattern.Frozen r)) (page_given p rest h)
reason_given (why.Gone p) rest h = ap (λ r. made Some (made reason_pattern.Gone r)) (page_given p rest h)
reason_given why.Own rest h = refl
reason_given why.Killed rest h = refl
reason_given why.BadKey rest h = refl
reason_given why.Missing rest h = refl
reason_given why.Duplicate rest h = refl
reason_given why.NoPage rest h = refl

-- a node
node_given : (n : Node) (rest : List Word) → or_none node_at (node_text n ∷ rest) ≡ Ok (Some n, rest)
unfolding open_all
node_given A rest = refl
node_given B rest = refl

-- an outcome is read as the pattern that leaves nothing out
pub outcome_given : (txns : Txns) (o : Outcome) (rest : List Word) → txns.count ≤ 64 → IsTold txns.count o
    → outcome_of txns (outcome_words o ++ rest) ≡ Ok (exactly o, rest)
unfolding open_all
outcome_given txns outcome.Started rest most h = refl
outcome_given txns outcome.BadMode rest most h = refl
outcome_given txns (outcome.Began n) rest most h = ap (made pattern.Began) (node_given n rest)
outcome_given txns outcome.Idle rest most h = refl
outcome_given txns outcome.Elsewhere rest most h = refl
outcome_given txns outcome.NotYet rest most h = refl
outcome_given txns outcome.Did rest most h = refl
outcome_given txns (outcome.Split p q k) rest most h = split_given p q k rest h.0 h.1 h.2
outcome_given txns (outcome.Aborted w) rest most h = ap (made pattern.Aborted) (reason_given w rest h)
outcome_given txns (outcome.Committed i) rest most h = ap (made pattern.Committed) (place_given i rest h)
outcome_given txns (outcome.Waits p) rest most h = paged_given paged.Waits p rest h
outcome_given txns (outcome.Pulls p) rest most h = paged_given paged.Pulls p rest h
outcome_given txns (outcome.Awaits p) rest most h = paged_given paged.Awaits p rest h
outcome_given txns outcome.NoMessage rest most h = refl
outcome_given txns outcome.GotWire rest most h = refl
outcome_given txns outcome.GotReady rest most h = refl
outcome_given txns outcome.GotDual rest most h = refl
outcome_given txns (outcome.Stale p) rest most h = paged_given paged.Stale p rest h
outcome_given txns (outcome.Held p) rest most h = paged_given paged.Held p rest h
outcome_given txns (outcome.GotPull p) rest most h = paged_given paged.GotPull p rest h
outcome_given txns (outcome.GotPage p) rest most h = paged_given paged.GotPage p rest h
outcome_given txns outcome.GotFinish rest most h = refl
outcome_given txns outcome.GotDone rest most h = refl
outcome_given txns outcome.Stray rest most h = refl
outcome_given txns outcome.Finishing rest most h = refl
outcome_given txns (outcome.Active t) rest most h =
    let few : t < 2 ^ 32 = omega (arith, most, h) in
    ap (made pattern.Active) (given _ (txn txns) (decimal t ∷ rest) rest t (names_on (decimal t) rest (decimal_digits t few)) (txn_given txns t rest most h))
outcome_given txns (outcome.Pushed p) rest most h = paged_given paged.Pushed p rest h
outcome_given txns outcome.NoPush rest most h = refl

-- it does not begin with `?`
known : (o : Outcome) (rest : List Word) → begin_with (codes "?") (outcome_words o ++ rest) ≡ false
known outcome.Started rest = refl
known outcome.BadMode rest = refl
known (outcome.Began n) rest = refl
known outcome.Idle rest = refl
known outcome.Elsewhere rest = refl
known outcome.NotYet rest = refl
known outcome.Did rest = refl
known (outcome.Split p q k) rest = refl
known (outcome.Aborted w) rest = refl
known (outcome.Committed n) rest = refl
known (outcome.Waits n) rest = refl
known (outcome.Pulls n) rest = refl
known (outcome.Awaits n) rest = refl
known outcome.NoMessage rest = refl
known outcome.GotWire rest = refl
known outcome.GotReady rest = refl
known outcome.GotDual rest = refl
known (outcome.Stale n) rest = refl
known (outcome.Held n) rest = refl
known (outcome.GotPull n) rest = refl
known (outcome.GotPage n) rest = refl
known outcome.GotFinish rest = refl
known outcome.GotDone rest = refl
known outcome.Stray rest = refl
known outcome.Finishing rest = refl
known (outcome.Active n) rest = refl
known (outcome.Pushed n) rest = refl
known outcome.NoPush rest = refl

-- ---- a line

-- a transaction that is named is below the count
below : (t count : ℕ) → nat_lt t count ≡ true → t < count
below t count h = grind (arith, tests)

-- a choice is read as itself in the log of its actor
own_given : (txns : Txns) (c : Choice) (rest : List Word) → txns.count ≤ 64 → names_below txns.count c ≡ true
    → choice_of txns (actor_of c) (after (choice_words c) ++ rest) ≡ Ok (c, rest)
own_given txns Start rest most h = refl
own_given txns (Begin t) rest most h = ap (made Begin) (txn_given txns t rest most (below t txns.count h))
own_given txns (Kill t) rest most h = ap (made Kill) (txn_given txns t rest most (below t txns.count h))
own_given txns (Run A t) rest most h = ap (made (Run A)) (txn_given txns t rest most (below t txns.count h))
own_given txns (Run B t) rest most h = ap (made (Run B)) (txn_given txns t rest most (below t txns.count h))
own_given txns (Take A) rest most h = refl
own_given txns (Take B) rest most h = refl
own_given txns (Finish A) rest most h = refl
own_given txns (Finish B) rest most h = refl
own_given txns (Push A) rest most h = refl
own_given txns (Push B) rest most h = refl

-- so is a choice of the client in the log of a node
client_given : (txns : Txns) (n : Node) (c : Choice) (rest : List Word) → actor_of c ≡ actor.C → txns.count ≤ 64 → names_below txns.count c ≡ true
    → choice_of txns (actor_at n) (after (choice_words c) ++ rest) ≡ Ok (c, rest)
client_given txns A Start rest x most h = refl
client_given txns B Start rest x most h = refl
client_given txns A (Begin t) rest x most h = ap (made Begin) (txn_given txns t rest most (below t txns.count h))
client_given txns B (Begin t) rest x most h = ap (made Begin) (txn_given txns t rest most (below t txns.count h))
client_given txns A (Kill t) rest x most h = ap (made Kill) (txn_given txns t rest most (below t txns.count h))
client_given txns B (Kill t) rest x most h = ap (made Kill) (txn_given txns t rest most (below t txns.count h))
client_given txns n (Run A t) rest x most h = cc
client_given txns n (Run B t) rest x most h = cc
client_given txns n (Take A) rest x most h = cc
client_given txns n (Take B) rest x most h = cc
client_given txns n (Finish A) rest x most h = cc
client_given txns n (Finish B) rest x most h = cc
client_given txns n (Push A) rest x most h = cc
client_given txns n (Push B) rest x most h = cc

-- the name of the actor is read as the actor
whose_given : (x : Actor) (rest : List Word) → whose (log_word x ∷ rest) ≡ Ok (x, rest)
whose_given actor.C rest = refl
whose_given actor.A rest = refl
whose_given actor.B rest = refl

-- it is the first word of a choice
own_first : (c : Choice) (rest : List Word) → log_word (actor_of c) ∷ (after (choice_words c) ++ rest) ≡ choice_words c ++ rest
own_first Start rest = refl
own_first (Begin t) rest = refl
own_first (Kill t) rest = refl
own_first (Run A t) rest = refl
own_first (Run B t) rest = refl
own_first (Take A) rest = refl
own_first (Take B) rest = refl
own_first (Finish A) rest = refl
own_first (Finish B) rest = refl
own_first (Push A) rest = refl
own_first (Push B) rest = refl

-- the second word of a line is no `...`
no_gap : (c : Choice) (rest : List Word) → begin_with (codes "...") (after (choice_words c) ++ rest) ≡ false
no_gap Start rest = refl
no_gap (Begin t) rest = refl
no_gap (Kill t) rest = refl
no_gap (Run n t) rest = refl
no_gap (Take n) rest = refl
no_gap (Finish n) rest = refl
no_gap (Push n) rest = refl

-- an outcome that the choice can give, and a line of the log can tell
possible_given : (txns : Txns) (x : Actor) (c : Choice) (o : Outcome) (rest : List Word) → txns.count ≤ 64 → IsTold txns.count o
    → can_give c (exactly o) ≡ true → can_stand x (exactly o) ≡ true → possible txns x c (outcome_words o ++ rest) ≡ Ok (exactly o, rest)
possible_given txns x c o rest most h can stands =
    let ws = outcome_words o ++ rest in
    let tested : Read OutcomePattern → Read OutcomePattern = λ r. r >>= λ t.
    if can_give c t.0 && can_stand x t.0 then Ok t else refused (expected.OutcomeOf c) ws in
    ap tested (outcome_given txns o rest most h)
    ∙ ap (λ b. if b then Ok (exactly o, rest) else refused (expected.OutcomeOf c) ws) (and_from _ _ can stands)

-- so it is told
told_given : (txns : Txns) (x : Actor) (c : Choice) (o : Outcome) (rest : List Word) → txns.count ≤ 64 → IsTold txns.count o
    → can_give c (exactly o) ≡ true → can_stand x (exactly o) ≡ true
    → told_of txns x c (codes "->" ∷ (outcome_words o ++ rest)) ≡ Ok (Some (exactly o), rest)
told_given txns x c o rest most h can stands =
    let ws = outcome_words o ++ rest in
    ap (λ b. if b then Ok (None, after ws) else made Some (possible txns x c ws)) (known o rest)
    ∙ ap (made Some) (possible_given txns x c o rest most h can stands)

-- a line of the choice may tell the rows, if there are any
abbrev MayTell : Choice → Option PageRows → Type 0
MayTell c o = IfSome o (λ rows. (can_have_rows c ≡ true) × ArePageRows rows)

-- the message that was sent
sent_given : (c : Choice) (k : Option Kind) (rows : Option PageRows) → MayTell c rows
    → sent_of c (sent_words k ++ rows_words rows) ≡ Ok (k, rows_words rows)
unfolding open_all
sent_given c None None h = refl
sent_given c None (Some rows) h =
    let ws = rows_words (Some rows) in
    ap (λ b. if b then Ok (None, ws) else refused (expected.AfterOutcome c) ws) h.0
sent_given c (Some kind.Wire) rows h = refl
sent_given c (Some kind.Ready) rows h = refl
sent_given c (Some kind.Dual) rows h = refl
sent_given c (Some kind.Pull) rows h = refl
sent_given c (Some kind.Page) rows h = refl
sent_given c (Some kind.Finish) rows h = refl
sent_given c (Some kind.Done) rows h = refl

-- no value comes before it
no_value : (did : Bool) (k : Option Kind) (rows : Option PageRows) → let ws = sent_words k ++ rows_words rows in
    (if did then or_none value ws else Ok (None, ws)) ≡ Ok (None, ws)
no_value true None None = refl
no_value true None (Some rows) = refl
no_value true (Some k) rows = refl
no_value false k rows = refl

-- the value, which only `did` has
value_given : (o : Outcome) (v : Option ℕ) (k : Option Kind) (rows : Option PageRows) → IfSome v (λ n. (n ≤ max_value) × (o ≡ outcome.Did))
    → value_behind (Some (exactly o)) (value_words v ++ (sent_words k ++ rows_words rows)) ≡ Ok (v, sent_words k ++ rows_words rows)
value_given o None k rows h = no_value (is_did (Some (exactly o))) k rows
value_given o (Some n) k rows h =
    let rest = sent_words k ++ rows_words rows in
    let few : n < 2 ^ 32 = omega (arith, h.0) in
    ap (λ came. value_behind (Some (exactly came)) (decimal n ∷ rest)) h.1
    ∙ given _ value (decimal n ∷ rest) rest n (goes_on (decimal n) rest (decimal_digits n few))
    (number_given max_value n (decimal n) (decimal n ∷ rest) (number_of-decimal n few) h.0)

-- ---- rows

-- `=` behind digits is at their end
sign_place : (ds vs : List ℕ) → all_ascii_digits ds ≡ true → position_or_len (λ b. b == 61) (ds ++ 61 ∷ vs) ≡ length ds
sign_place [] vs h = refl
sign_place (d ∷ ds) vs h =
    let p = both (is_ascii_digit d) (all_ascii_digits ds) h in
    rw (no_mark d p.0).2 (rw (sign_place ds vs p.1) (omega arith))

-- so it is found there
sign_given : (ds vs : List ℕ) → all_ascii_digits ds ≡ true → sign_of (ds ++ 61 ∷ vs) ≡ Some (length ds)
sign_given ds vs h =
    let w = ds ++ 61 ∷ vs in
    ap (λ n. if nat_lt n (length w) then Some n else None) (sign_place ds vs h)
    ∙ ap (λ b. if b then Some (length ds) else None) (lt-ltb (length ds) (length w) (omega (arith, length-append ds (61 ∷ vs))))

-- a row is read as itself
row_given : (r : Row) (ws : List Word) → r.key ≤ max_key → r.value ≤ max_value → row_cut (sign_of (row_word r)) (row_word r ∷ ws) ≡ Ok r
row_given r rest h i =
    let few : r.key < 2 ^ 32 = omega (arith, h) in
    let ws = row_word r ∷ rest in
    let ks = decimal r.key in
    let vs = decimal r.value in
    let second : Word → ℕ × List Word → Result Row Misfit = λ part k. number_in max_value part ws >>= λ v. Ok (row k.0 v.0) in
    ap (λ o. row_cut o ws) (sign_given ks vs (digits_of r.key few))
    ∙ ap (λ part. number_in max_key part ws >>= second (drop (length ks + 1) (row_word r))) (take-append_seam ks (61 ∷ vs))
    ∙ ap (λ k. k >>= second (drop (length ks + 1) (row_word r))) (number_given max_key r.key ks ws (number_of-decimal r.key few) h)
    ∙ ap (λ part. second part (r.key, rest)) (drop-append-add ks (61 ∷ vs) 1)
    ∙ ap (λ v. v >>= λ x. Ok (row r.key x.0)) (number_given max_value r.value vs ws (number_of-decimal r.value (omega (arith, i))) i)

-- one that may come next
fitting_given : (low room : ℕ) (ws : List Word) (r : Row) → low ≤ r.key → 0 < room → fitting low room ws r ≡ Ok r
fitting_given low room ws r h k =
    let is_low : nat_lt r.key low ≡ false = grind (arith, tests) in
    let is_full : (room == 0) ≡ false = grind (arith, tests) in
    ap (λ b. if b then Err (stop expected.HigherKey ws) else if room == 0 then Err (stop expected.FewerRows ws) else Ok r) is_low
    ∙ ap (λ b. if b then Err (stop expected.FewerRows ws) else Ok r) is_full

-- rows in order, for which there is room
all_given : (low room : ℕ) (rows : List Row) → length rows ≤ room → Rising low rows → RowsFit rows → rows_from low room (map row_word rows) ≡ Ok rows
all_given low room [] few rise fit = refl
all_given low room (r ∷ rows) few rise fit =
    let rest = map row_word rows in
    let ws = row_word r ∷ rest in
    let behind : Result Row Misfit → Result (List Row) Misfit = λ o. o >>= λ x. onto x (rows_from (x.key + 1) (room - 1) rest) in
    ap (λ o. behind (o >>= fitting low room ws)) (row_given r rest (omega (arith, fit.0)) (omega (arith, fit.1)))
    ∙ ap behind (fitting_given low room ws r rise.0 (omega (arith, few)))
    ∙ ap (onto r) (all_given (r.key + 1) (room - 1) rows (omega (arith, few)) rise.1 fit.2)

-- the rows, and nothing after them
rows_given : (c : Choice) (rows : Option PageRows) → MayTell c rows → rows_of c (rows_words rows) ≡ Ok rows
rows_given c None h = refl
rows_given c (Some x) h =
    let ws = rows_words (Some x) in
    let rows = h.1.0 in
    let came = h.1.1 in
    let kept = h.1.2 in
    let told : List Row → Result (Option PageRows) Misfit = λ rs. some_rows (page_rows (map row_word rs)) in
    ap (λ b. if b then some_rows (page_rows (after ws)) else if are_none ws then Ok None else Err (stop (expected.AfterMessage c) ws)) h.0
    ∙ ap (λ (y : PageRows). told (rows_in y)) came
    ∙ ap told (rows_first rows)
    ∙ ap (λ r. some_rows (r >>= λ rs. Ok (of_rows rs))) (all_given 0 max_cap rows kept.0 kept.1.rise kept.1.fit)
    ∙ ap (λ y. Ok (Some y)) (sym came)

-- ---- the whole line

-- what comes behind the choice
abbrev told_words : Observation → List Word
told_words o = codes "->" ∷ (outcome_words o.entry.outcome ++ shown_words o)

-- its words in the log of an actor
abbrev logged_words : Actor → Observation → List Word
logged_words x o = log_word x ∷ (after (choice_words o.entry.choice) ++ told_words o)

-- the choice is read in the log of an actor, and the outcome may stand there
abbrev MayStand : Txns → Actor → Observation → Type 0
MayStand txns x o =
    (choice_of txns x (after (choice_words o.entry.choice) ++ told_words o) ≡ Ok (o.entry.choice, told_words o))
    × (can_stand x (exactly o.entry.outcome) ≡ true)

-- all of a step
whole_given : (txns : Txns) (x : Actor) (o : Observation) → txns.count ≤ 64 → MayStand txns x o → IsTold txns.count o.entry.outcome
    → can_give o.entry.choice (exactly o.entry.outcome) ≡ true → IsShown o → AreShown o → whole txns (logged_words x o) ≡ Ok (in_log x o)
whole_given txns x o most may h can shown rows =
    let e = o.entry in
    let told = exactly e.outcome in
    let last : Actor → Choice → Option OutcomePattern → Option ℕ → Option Kind → Result (Option PageRows) Misfit → Result LogLine Misfit =
    λ y c t v k r. r >>= λ rs. Ok (record { log = y; choice = c; told = t; value = v; sent = k; rows = rs }) in
    let fifth : Actor → Choice → Option OutcomePattern → Option ℕ → Read (Option Kind) → Result LogLine Misfit = λ y c t v r.
    r >>= λ k. last y c t v k.0 (rows_of c k.1) in
    let fourth : Actor → Choice → Option OutcomePattern → Read (Option ℕ) → Result LogLine Misfit = λ y c t r.
    r >>= λ v. fifth y c t v.0 (sent_of c v.1) in
    let third : Actor → Choice → Read (Option OutcomePattern) → Result LogLine Misfit = λ y c r.
    r >>= λ t. fourth y c t.0 (value_behind t.0 t.1) in
    let second : Actor → Read Choice → Result LogLine Misfit = λ y r. r >>= λ c. third y c.0 (told_of txns y c.0 c.1) in
    let all : Read Actor → Result LogLine Misfit = λ r. r >>= λ y. second y.0 (choice_of txns y.0 y.1) in
    ap all (whose_given x (after (choice_words e.choice) ++ told_words o))
    ∙ ap (second x) may.0
    ∙ ap (third x e.choice) (told_given txns x e.choice e.outcome (shown_words o) most h can may.1)
    ∙ ap (fourth x e.choice (Some told)) (value_given e.outcome o.value e.sent o.rows shown)
    ∙ ap (fifth x e.choice (Some told) o.value) (sent_given e.choice e.sent o.rows rows)
    ∙ ap (last x e.choice (Some told) o.value e.sent) (rows_given e.choice o.rows rows)

-- they are a line of a log, which leaves nothing of the step out
line_given : (txns : Txns) (x : Actor) (o : Observation) → txns.count ≤ 64 → MayStand txns x o → IsTold txns.count o.entry.outcome
    → can_give o.entry.choice (exactly o.entry.outcome) ≡ true → IsShown o → AreShown o → line_of txns (logged_words x o) ≡ Ok (Step (in_log x o))
line_given txns x o most may h can shown rows =
    let ws = logged_words x o in
    ap (λ b. placed (length ws) (if b then line.gap ws else line.step (whole txns ws))) (no_gap o.entry.choice (told_words o))
    ∙ ap (λ r. placed (length ws) (line.step r)) (whole_given txns x o most may h can shown rows)

-- so are the words of a step in the log of its actor
pub step_given : (txns : Txns) (o : Observation) → txns.count ≤ 64 → names_below txns.count o.entry.choice ≡ true → IsTold txns.count o.entry.outcome
    → can_give o.entry.choice (exactly o.entry.outcome) ≡ true → IsShown o → AreShown o → line_of txns (step_words o) ≡ Ok (Step (in_full o))
step_given txns o most named h can shown rows =
    let c = o.entry.choice in
    ap (line_of txns) (sym (own_first c (told_words o)))
    ∙ line_given txns (actor_of c) o most (own_given txns c (told_words o) most named, own_stands c (exactly o.entry.outcome) can) h can shown rows

-- and those of a choice of the client in the log of a node
pub shared_given : (txns : Txns) (n : Node) (o : Observation) → txns.count ≤ 64 → actor_of o.entry.choice ≡ actor.C
    → names_below txns.count o.entry.choice ≡ true → IsTold txns.count o.entry.outcome
    → can_give o.entry.choice (exactly o.entry.outcome) ≡ true → can_stand (actor_at n) (exactly o.entry.outcome) ≡ true
    → IsShown o → AreShown o → line_of txns (words_in (actor_at n) o) ≡ Ok (Step (in_log (actor_at n) o))
shared_given txns n o most client named h can stands shown rows =
    let c = o.entry.choice in
    let x = actor_at n in
    ap (λ ws. line_of txns (log_word x ∷ after ws)) (sym (own_first c (told_words o)))
    ∙ line_given txns x o most (client_given txns n c (told_words o) client most named, stands) h can shown rows
