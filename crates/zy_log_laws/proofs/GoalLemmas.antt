-- What a log reads of an outcome, a goal reads behind `then`.
use Rattle.std.proofs.Common.{◌≡◌, ◌∙◌, ℕ, ◌≤◌, Bool, true, false, ◌&&◌, ◌||◌, not, nat_le, nat_lt, List, [], ◌∷◌, codes, Option, Some, None}
use Rattle.std.proofs.Common.{Ok, Err, refl, ap, sym, arith, ◌++◌, if◌then◌else◌, length, append-nil}
use Rattle.std.specs.Prelude.{option_map}
use Rattle.std.specs.Option.{option_and_then}
use Rattle.std.specs.Fmt.{decimal}
use Rattle.std.specs.Char.{is_ascii_digit}
use Rattle.std.specs.Str.{bytes_eq}
use Rattle.std.proofs.Math.Bool.{false≢true, true≢false}
use Rattle.std.proofs.lemmas.Slice.Eq.{bytes_eq-Decides}
use borrow.Author.Tests.{tests}
use Rattle.zy_table.specs.declared.outcome.Outcome.{Outcome}
use Rattle.zy_table.specs.declared.outcome.Outcome.TheVariants as outcome
use Rattle.zy_isa.specs.Limits.{max_key}
use Rattle.zy_isa.specs.Results.{◌>>=◌}
use Rattle.zy_isa.proofs.ResultLemmas.{bind_ok, neither}
use Rattle.zy_text.specs.Names as text_names
use Rattle.zy_text.specs.Words.{number_of, is_numeral, is_word}
use Rattle.zy_patterns.specs.declared.paged.PagedOutcome.{PagedOutcome}
use Rattle.zy_patterns.specs.declared.patterns.ReasonPattern.{ReasonPattern}
use Rattle.zy_patterns.specs.declared.patterns.ReasonPattern.TheVariants as reason_pattern
use Rattle.zy_patterns.specs.declared.patterns.OutcomePattern.{OutcomePattern}
use Rattle.zy_patterns.specs.declared.patterns.OutcomePattern.TheVariants as pattern
use Rattle.zy_patterns.specs.Paged.{with_page}
use Rattle.zy_patterns.specs.Patterns.{exactly}
use Rattle.zy_patterns.specs.Vocabulary as word
use Rattle.zy_logs.specs.declared.expected.ExpectedInLog.{ExpectedInLog}
use Rattle.zy_logs.specs.declared.expected.ExpectedInLog.TheVariants as expected
use Rattle.zy_logs.specs.declared.txns.Txns.{Txns}
use Rattle.zy_logs.specs.Txns as log_txns
use Rattle.zy_logs.specs.Words as log
use Rattle.zy_logs.specs.Words.{Word, first, after, begin_with, message_or_end, end_outcome, gives, refused}
use Rattle.zy_logs.specs.Parts as log_part
use Rattle.zy_logs.specs.Lines as log_line
use Rattle.zy_queries.specs.declared.names.Names.{Names}
use Rattle.zy_queries.specs.declared.names.Names.TheVariants.{Known}
use Rattle.zy_queries.specs.Grammar.{whole, ending}
use Rattle.zy_queries.specs.Words as goal
use Rattle.zy_queries.specs.Vocabulary as goal_word
use Rattle.zy_queries.specs.Phrases as phrase
use Rattle.zy_listing.specs.Texts.{outcome_text}
use Rattle.zy_logs.specs.InFull.{IsTold, outcome_words}
use Rattle.zy_logs.proofs.FullLemmas.{outcome_given}
use Rattle.zy_text.proofs.WordLemmas.{number_of-decimal}
use Rattle.zy_log_laws.specs.ReadBack.{names_several}
use Rattle.zy_log_laws.proofs.TextLemmas.{outcome_spaced, outcome_parted}
use Rattle.zy_log_laws.proofs.GoalTexts.{spaced_front, spaced_words}

-- what the one reads, the other reads, too
abbrev Follows : {T : Type 0} → log.Read T → goal.Read T → Type 0
Follows {T} r o = (x : T × List Word) → r ≡ Ok x → o ≡ Some x

-- so is what a function makes of it
made_follows : {T U : Type 0} (f : T → U) (r : log.Read T) (o : goal.Read T) → Follows r o → Follows (log.made f r) (goal.made f o)
made_follows f (Err s) o h x e = cc
made_follows f (Ok y) o h x e = ap (goal.made f) (h y refl) ∙ cc

-- and what a function makes of it where it may be left out
some_follows : {T U : Type 0} (f : T → U) (r : log.Read T) (o : goal.Read T) → Follows r o
    → Follows (log.made Some (log.made f r)) (goal.made (λ y. Some (f y)) o)
some_follows f (Err s) o h x e = cc
some_follows f (Ok y) o h x e = ap (goal.made (λ y. Some (f y))) (h y refl) ∙ cc

-- so is what both choose by the same test
if_follows : {T : Type 0} (b : Bool) (r s : log.Read T) (o p : goal.Read T) → (b ≡ true → Follows r o) → Follows s p
    → Follows (if b then r else s) (if b then o else p)
if_follows true r s o p h k = h refl
if_follows false r s o p h k = k

-- ---- one word

-- what a word stands for
gives_follows : {T : Type 0} (o : Option T) (e : ExpectedInLog) (ws : List Word) → Follows (gives o e ws) (option_map (λ x. (x, after ws)) o)
gives_follows None e ws x h = cc
gives_follows (Some y) e ws x h = cc

-- where something is read, it stands for something
gives_some : {T : Type 0} (o : Option T) (e : ExpectedInLog) (ws : List Word) (y : T × List Word) → gives o e ws ≡ Ok y → o ≡ Some y.0
gives_some None e ws y h = cc
gives_some (Some x) e ws y h = let i : (x, after ws) ≡ y = cc in ap (λ p. Some p.0) i

-- what it stands for, if it may be left out and an outcome does not end there
lone_follows : {T : Type 0} (ends : Bool) (o : Option T) (e : ExpectedInLog) (ws : List Word) → (ends ≡ true → o ≡ None)
    → Follows (if ends then Ok (None, ws) else log.made Some (gives o e ws)) (phrase.one_or_none o ws)
lone_follows true None e ws h x k = cc
lone_follows true (Some y) e ws h x k = let none = h refl in cc
lone_follows false None e ws h x k = cc
lone_follows false (Some y) e ws h x k = cc

-- where the message comes or no word is left, the first word is none, or `!`
at_message : {A : Type 0} (f : Word → A) (y : A) → f [] ≡ y → f (codes "!") ≡ y → (ws : List Word) → message_or_end ws ≡ true → f (first ws) ≡ y
at_message f y none mark [] e = none
at_message f y none mark (w ∷ ws) e = ap f ((bytes_eq-Decides w (codes "!")).0 e) ∙ mark

-- one of two tests passes
one_passes : {P : Type 0} (a b : Bool) → (a || b) ≡ true → (a ≡ true → P) → (b ≡ true → P) → P
one_passes true b e left right = left refl
one_passes false b e left right = right e

-- where an outcome ends, the first word is none, `!` or `rows`
at_end : {A : Type 0} (f : Word → A) (y : A) → f [] ≡ y → f (codes "!") ≡ y → f (codes "rows") ≡ y → (ws : List Word) → end_outcome ws ≡ true
    → f (first ws) ≡ y
at_end f y none mark rows [] e = none
at_end f y none mark rows (w ∷ ws) e =
    one_passes (begin_with (codes "!") (w ∷ ws)) (begin_with (codes "rows") (w ∷ ws)) e (λ h. ap f ((bytes_eq-Decides w (codes "!")).0 h) ∙ mark)
    (λ h. ap f ((bytes_eq-Decides w (codes "rows")).0 h) ∙ rows)

-- ---- parts that may be left out

-- a part that the goal reads where the log reads it
part_follows : {T : Type 0} (ends is : Bool) (r : log.Read T) (o : goal.Read T) (ws : List Word) → (ends ≡ true → is ≡ false)
    → ((y : T × List Word) → r ≡ Ok y → is ≡ true) → Follows r o
    → Follows (if ends then Ok (None, ws) else log.made Some r) (if is then goal.made Some o else Some (None, ws))
part_follows true true r o ws left there h = absurd (true≢false (left refl))
part_follows true false r o ws left there h = λ x e. cc
part_follows false true r o ws left there h = made_follows Some r o h
part_follows false false (Err s) o ws left there h = λ x e. cc
part_follows false false (Ok y) o ws left there h = absurd (false≢true (there y refl))

-- a number that passes a test
passed_follows : (b c : Bool) (n : ℕ) (e : ExpectedInLog) (ws : List Word) → (b ≡ true → c ≡ true)
    → Follows (gives (if b then Some n else None) e ws) (option_map (λ x. (x, after ws)) (if c then Some n else None))
passed_follows true true n e ws h = gives_follows (Some n) e ws
passed_follows true false n e ws h = absurd (false≢true (h refl))
passed_follows false c n e ws h = λ x k. cc

module _ (p q : ℕ → Bool) (h : (n : ℕ) → p n ≡ true → q n ≡ true) where
  -- a number that is there, and passes it
  placed_follows : (o : Option ℕ) (e : ExpectedInLog) (ws : List Word)
      → Follows (gives (option_and_then (λ n. if p n then Some n else None) o) e ws)
      (option_map (λ x. (x, after ws)) (option_and_then (λ n. if q n then Some n else None) o))
  placed_follows None e ws = gives_follows None e ws
  placed_follows (Some n) e ws = passed_follows (p n) (q n) n e ws (h n)

  -- a number that is read, and passes it
  number_follows : (o : Option ℕ) (d e : ExpectedInLog) (ws : List Word)
      → Follows (gives o d ws >>= λ n. if p n.0 then Ok n else refused e ws)
      (option_map (λ x. (x, after ws)) (option_and_then (λ n. if q n then Some n else None) o))
  number_follows None d e ws = gives_follows None d ws
  number_follows (Some n) d e ws = λ x k. passed_follows (p n) (q n) n e ws (h n) x (given (p n) ∙ k)
    where
      given : (b : Bool) → gives (if b then Some n else None) e ws ≡ (if b then Ok (n, after ws) else refused e ws)
      given true = refl
      given false = refl

-- a number below at most 64 is at most 63
few : (count : ℕ) → count ≤ 64 → (n : ℕ) → nat_lt n count ≡ true → nat_le n 63 ≡ true
few count most n h = grind (arith, tests)

-- a word that spells a number begins with a digit
numeral_of : (w : Word) (n : ℕ) → number_of w ≡ Some n → is_numeral w ≡ true
numeral_of [] n e = cc
numeral_of (d ∷ ds) n e = digit (is_word (d ∷ ds) && nat_le (length (d ∷ ds)) 10) (is_ascii_digit d) _ e
  where
    digit : (b c : Bool) (o : Option ℕ) → (if b then (if c then o else None) else None) ≡ Some n → c ≡ true
    digit true true o k = refl
    digit true false o k = cc
    digit false c o k = cc

-- so does one that is read as a number
number_numeral : (most : ℕ) (ws : List Word) (y : ℕ × List Word) → log_part.number most ws ≡ Ok y → is_numeral (first ws) ≡ true
number_numeral most ws y e =
    let n = bind_ok (log_part.digits ws) _ y e in
    numeral_of (first ws) n.0.0 (gives_some (number_of (first ws)) expected.Number ws n.0 n.1)

-- a number up to some number
most_follows : (most : ℕ) (ws : List Word)
    → Follows (log_part.or_none (log_part.number most) ws) (phrase.or_none (is_numeral (first ws)) (goal.one (goal_word.number_to most) ws) ws)
unfolding goal_word.number_to
most_follows most ws =
    part_follows (end_outcome ws) (is_numeral (first ws)) (log_part.number most ws) (goal.one (goal_word.number_to most) ws) ws
    (at_end is_numeral false refl refl refl ws) (number_numeral most ws)
    (number_follows (λ n. nat_le n most) (λ n. nat_le n most) (λ n e. e) (number_of (first ws)) expected.Number (expected.AtMost most) ws)

-- a page or a key
page_follows : (ws : List Word) → Follows (log_part.or_none log_part.page ws) (phrase.page_or_none ws)
page_follows ws = most_follows max_key ws

-- a node
node_follows : (ws : List Word) → Follows (log_part.or_none log_part.node_at ws) (phrase.one_or_none (word.node (first ws)) ws)
unfolding word.node
node_follows ws = lone_follows (end_outcome ws) (word.node (first ws)) expected.Node ws (at_end word.node None refl refl refl ws)

-- a reason
reason_follows : (ws : List Word) → Follows (log_part.or_none log_part.reason ws) (phrase.reason_or_none ws)
unfolding phrase.reason_or_none word.lone_reason
reason_follows ws =
    read (end_outcome ws) (begin_with (codes "frozen") ws) (begin_with (codes "gone") ws) (word.lone_reason (first ws))
    (at_end is_one false refl refl refl ws) (at_end word.lone_reason None refl refl refl ws)
  where
    is_one : Word → Bool
    is_one w = bytes_eq w (codes "frozen") || bytes_eq w (codes "gone")

    read : (ends frozen gone : Bool) (o : Option ReasonPattern) → (ends ≡ true → (frozen || gone) ≡ false) → (ends ≡ true → o ≡ None)
        → Follows (if ends then Ok (None, ws) else log.made Some (
        if frozen then log.made reason_pattern.Frozen (log_part.or_none log_part.page (after ws)) else
        if gone then log.made reason_pattern.Gone (log_part.or_none log_part.page (after ws)) else
        gives o expected.Reason ws))
        (if frozen then goal.made (λ p. Some (reason_pattern.Frozen p)) (phrase.page_or_none (after ws)) else
        if gone then goal.made (λ p. Some (reason_pattern.Gone p)) (phrase.page_or_none (after ws)) else
        phrase.one_or_none o ws)
    read true true gone o left none = absurd (true≢false (left refl))
    read true false true o left none = absurd (true≢false (left refl))
    read true false false o left none = lone_follows true o expected.Reason ws none
    read false true gone o left none = some_follows reason_pattern.Frozen _ _ (page_follows (after ws))
    read false false true o left none = some_follows reason_pattern.Gone _ _ (page_follows (after ws))
    read false false false o left none = lone_follows false o expected.Reason ws none

-- ---- transactions

-- a numeral is no name
no_name : (w : Word) → is_numeral w ≡ true → text_names.is_name w ≡ false
no_name [] h = absurd (false≢true h)
no_name (b ∷ bs) h = rw (letter b h) refl
  where
    letter : (c : ℕ) → is_ascii_digit c ≡ true → text_names.is_letter c ≡ false
    letter c k = grind (arith, tests)

-- a word in the place of a transaction is a numeral, or it is neither `any` nor `all`, and the goal knows it where the log does
abbrev IsKnown : Txns → Names → List Word → Type 0
IsKnown txns names ws = is_numeral (first ws) ≡ false
    → (begin_with (codes "any") ws ≡ false) × (begin_with (codes "all") ws ≡ false)
    × Follows (gives (log_txns.named txns (first ws)) expected.KnownTxn ws) (goal.one (goal_word.named names) ws)

-- a transaction by its number or by its name, by the tests of its word
named_follows : (numeral name any all : Bool) (r s : log.Read ℕ) (o p : Option ℕ) (ws : List Word) → (numeral ≡ true → name ≡ false)
    → (numeral ≡ false → (any ≡ false) × (all ≡ false) × Follows s (option_map (λ x. (x, after ws)) p)) → Follows r (option_map (λ x. (x, after ws)) o)
    → Follows (if numeral then r else if name then s else refused expected.Txn ws)
    (option_map (λ x. (x, after ws)) (if name && not any && not all then p else o))
named_follows true true any all r s o p ws lone known h = absurd (true≢false (lone refl))
named_follows true false any all r s o p ws lone known h = h
named_follows false true true all r s o p ws lone known h = absurd (true≢false (known refl).0)
named_follows false true false true r s o p ws lone known h = absurd (true≢false (known refl).1)
named_follows false true false false r s o p ws lone known h = (known refl).2
named_follows false false any all r s o p ws lone known h = λ x e. cc

-- where one is read, the goal takes the word for one
named_comes : (numeral name any all : Bool) (r s : log.Read ℕ) (ws : List Word) (y : ℕ × List Word)
    → (numeral ≡ false → (any ≡ false) × (all ≡ false)) → (if numeral then r else if name then s else refused expected.Txn ws) ≡ Ok y
    → (numeral || (name && not any && not all)) ≡ true
named_comes true name any all r s ws y known e = refl
named_comes false true true all r s ws y known e = absurd (true≢false (known refl).0)
named_comes false true false true r s ws y known e = absurd (true≢false (known refl).1)
named_comes false true false false r s ws y known e = refl
named_comes false false any all r s ws y known e = cc

-- a transaction
txn_follows : (txns : Txns) (names : Names) (ws : List Word) → txns.count ≤ 64 → IsKnown txns names ws
    → Follows (log_part.txn_or_none txns ws)
    (phrase.or_none (is_numeral (first ws) || goal_word.is_name (first ws)) (goal.one (goal_word.txn names) ws) ws)
unfolding goal_word.txn goal_word.number_to
txn_follows txns names ws most known =
    let numeral = is_numeral (first ws) in
    let name = text_names.is_name (first ws) in
    let any = begin_with (codes "any") ws in
    let all = begin_with (codes "all") ws in
    let by_number = log_part.numbered txns.count ws in
    let by_name = gives (log_txns.named txns (first ws)) expected.KnownTxn ws in
    let number = goal_word.number_to 63 (first ws) in
    part_follows (message_or_end ws) (numeral || goal_word.is_name (first ws)) (log_part.txn txns ws) (goal.one (goal_word.txn names) ws) ws
    (at_message (λ w. is_numeral w || goal_word.is_name w) false refl refl ws)
    (λ y e. named_comes numeral name any all by_number by_name ws y (λ n. ((known n).0, (known n).1)) e)
    (named_follows numeral name any all by_number by_name number (goal_word.named names (first ws)) ws (no_name (first ws)) known
    (number_follows (λ n. nat_lt n txns.count) (λ n. nat_le n 63) (few txns.count most) (number_of (first ws)) expected.Number expected.KnownTxn ws))

-- ---- outcomes

-- a split
split_follows : (ws : List Word) → Follows (log_line.split ws) (phrase.outcome_split ws)
split_follows ws x e =
    let p = bind_ok (log_part.or_none log_part.page ws) _ x e in
    let q = bind_ok (log_part.or_none log_part.page p.0.1) _ x p.2 in
    let b = bind_ok (log_part.or_none log_part.page q.0.1) _ x q.2 in
    rw (page_follows ws p.0 p.1, page_follows p.0.1 q.0 q.1, page_follows q.0.1 b.0 b.1) (let same = b.2 in cc)

-- an outcome of a page, or of one word
paged_follows : (p : Option PagedOutcome) (o : Option OutcomePattern) (e : ExpectedInLog) (ws : List Word)
    → Follows (log_line.paged_or p o e ws) (phrase.paged_or p o ws)
paged_follows (Some p) o e ws = made_follows (with_page p) _ _ (page_follows (after ws))
paged_follows None o e ws = gives_follows o e ws

-- an outcome
outcome_follows : (txns : Txns) (names : Names) (ws : List Word) → txns.count ≤ 64
    → (begin_with (codes "active") ws ≡ true → IsKnown txns names (after ws)) → Follows (log_line.outcome_of txns ws) (phrase.outcome_of names ws)
unfolding log_line.outcome_of phrase.outcome_of
outcome_follows txns names ws most known =
    if_follows (begin_with (codes "began") ws) _ _ _ _ (λ e. made_follows pattern.Began _ _ (node_follows (after ws)))
    (if_follows (begin_with (codes "committed") ws) _ _ _ _ (λ e. made_follows pattern.Committed _ _ (most_follows 64 (after ws)))
    (if_follows (begin_with (codes "aborted") ws) _ _ _ _ (λ e. made_follows pattern.Aborted _ _ (reason_follows (after ws)))
    (if_follows (begin_with (codes "active") ws) _ _ _ _ (λ e. made_follows pattern.Active _ _ (txn_follows txns names (after ws) most (known e)))
    (if_follows (begin_with (codes "split") ws) _ _ _ _ (λ e. split_follows (after ws))
    (if_follows (begin_with (codes "got") ws) _ _ _ _
    (λ e. paged_follows (word.paged_got (first (after ws))) (word.lone_got (first (after ws))) expected.Got (after ws))
    (paged_follows (word.paged_outcome (first ws)) (word.lone_outcome (first ws)) expected.Outcome ws))))))

-- ---- the laws

-- a name that the log knows among the names that the goal knows
same_names : (txns : Txns) (ws : List Word) → txns.count ≤ 64
    → Follows (gives (log_txns.named txns (first ws)) expected.KnownTxn ws) (goal.one (goal_word.named (Known txns.names)) ws)
unfolding goal_word.named
same_names txns ws most =
    placed_follows (λ n. nat_lt n txns.count) (λ n. nat_le n 63) (few txns.count most) (text_names.place_among txns.names.now (first ws)) expected.KnownTxn
    ws

-- it is not `active any`, nor `active all`
one_named : (active any all : Bool) → (active && (any || all)) ≡ false → active ≡ true → (any ≡ false) × (all ≡ false)
one_named true any all h e = neither any all h
one_named false any all h e = absurd (false≢true e)

-- what a log reads, a goal does that knows its names, unless it is one of these
pub read_alike : (txns : Txns) (ws : List Word) (x : OutcomePattern × List Word) → txns.count ≤ 64 → names_several ws ≡ false
    → log_line.outcome_of txns ws ≡ Ok x → phrase.outcome_of (Known txns.names) ws ≡ Some x
read_alike txns ws x most one e =
    let named = one_named (begin_with (codes "active") ws) (begin_with (codes "any") (after ws)) (begin_with (codes "all") (after ws)) one in
    outcome_follows txns (Known txns.names) ws most (λ b n. ((named b).0, (named b).1, same_names txns (after ws) most)) x e

-- a number comes behind `active` in the words that tell all of an outcome
numbered : (txns : Txns) (names : Names) (o : Outcome) → txns.count ≤ 64 → IsTold txns.count o → begin_with (codes "active") (outcome_words o) ≡ true
    → IsKnown txns names (after (outcome_words o))
numbered txns names (outcome.Active t) most h b =
    λ other. absurd (true≢false (sym (numeral_of (decimal t) t (number_of-decimal t (omega (arith, most, h)))) ∙ other))
numbered txns names o most h b = absurd (false≢true b)

-- these words are read, all of them, as the pattern that leaves nothing of the outcome out
outcome_read : (txns : Txns) (names : Names) (o : Outcome) → txns.count ≤ 64 → IsTold txns.count o
    → phrase.outcome_of names (outcome_words o) ≡ Some (exactly o, [])
outcome_read txns names o most h =
    outcome_follows txns names (outcome_words o) most (numbered txns names o most h) (exactly o, [])
    (ap (log_line.outcome_of txns) (sym (append-nil (outcome_words o))) ∙ outcome_given txns o [] most h)

-- `then` and the text that a listing has for an outcome ask for that outcome
pub then_read : (txns : Txns) (names : Names) (o : Outcome) → txns.count ≤ 64 → IsTold txns.count o
    → ending names (goal.words_of (codes "then " ++ outcome_text o)) ≡ Some (Some (exactly o))
unfolding ending
then_read txns names o most h =
    let words : goal.words_of (codes "then " ++ outcome_text o) ≡ codes "then" ∷ outcome_words o =
    spaced_front (codes "then") (outcome_text o) refl refl
    ∙ ap (λ l. codes "then" ∷ goal.words_of l) (outcome_spaced o)
    ∙ ap (λ l. codes "then" ∷ l) (spaced_words (outcome_words o) (outcome_parted txns.count o most h)) in
    ap (ending names) words ∙ ap (λ r. option_map Some (whole r)) (outcome_read txns names o most h)
