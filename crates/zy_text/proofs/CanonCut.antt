-- The canonical text is ASCII, and it is the scenario part of each input that begins with it.
use Rattle.std.proofs.Common.{◌≡◌, ◌∙◌, ℕ, ◌+◌, ◌<◌, ◌≤◌, ◌^◌, Bool, true, false, not, ◌&&◌, ◌==◌, nat_lt, List, [], ◌∷◌, ◌++◌, length, map, filter, take, refl}
use Rattle.std.proofs.Common.{sym, ap, subst, arith, append_assoc, lit<, codes}
use Rattle.std.specs.Fmt.{decimal}
use Rattle.std.specs.List.{flat_map, onto_first, prefix_len, slice_split}
use Rattle.std.specs.Str.{IsAscii, all_ascii_digits}
use Rattle.std.specs.Char.{is_ascii_digit}
use Rattle.std.proofs.Math.Seq.{take-append-add}
use Rattle.std.proofs.lemmas.List.{length-append}
use Rattle.std.proofs.lemmas.Grind.{flat_map-append}
use Rattle.std.proofs.lemmas.Fmt.{digits_decimal}
use Rattle.std.proofs.lemmas.Str.{IsAscii-append}
use Rattle.std.proofs.lemmas.Str.Ascii.{IsAscii-nil, IsAscii-cons}
use Rattle.std.proofs.lemmas.Str.Parse.{numerals_by_value, tells_all_ascii_digits}
use borrow.Author.Tests.{tests}
use Rattle.zy_isa.specs.declared.version.Version.TheVariants.{One, Two}
use Rattle.zy_isa.specs.declared.version.Version.{Version}
use Rattle.zy_isa.specs.Versions.{word as version_word}
use Rattle.zy_io.specs.Writing.{line_of}
use Rattle.zy_isa.specs.declared.node.Node.{Node}
use Rattle.zy_isa.specs.declared.node.Node.TheVariants.{A, B}
use Rattle.zy_isa.specs.declared.rule.Rule.{Rule}
use Rattle.zy_isa.specs.declared.rule.Rule.TheVariants.{Held, Loose}
use Rattle.zy_isa.specs.declared.row.Row.{Row}
use Rattle.zy_isa.specs.declared.instr.Reg.{Reg}
use Rattle.zy_isa.specs.declared.instr.Reg.TheVariants.{R0, R1, R2, R3, R4, R5, R6, R7}
use Rattle.zy_isa.specs.declared.instr.Instr.{Instr}
use Rattle.zy_isa.specs.declared.operation.Operation.{Operation}
use Rattle.zy_isa.specs.declared.operation.Operation.TheVariants as op
use Rattle.zy_isa.specs.declared.operation.Parts.{Parts}
use Rattle.zy_isa.specs.declared.operation.Parts.TheVariants.{Number, Pair, Jump, Lone}
use Rattle.zy_isa.specs.declared.choice.Choice.{Choice}
use Rattle.zy_isa.specs.declared.choice.Choice.TheVariants.{Start, Begin, Kill, Run, Take, Finish, Push}
use Rattle.zy_text.specs.Words.{is_space, is_word, lines_of, spaced}
use Rattle.zy_isa.specs.Operations.{mnemonic, parts_of}
use Rattle.zy_text.specs.Canon.{node_text, rule_text, reg_text, parts_words, instr_words, choice_words, row_words, header_words, program_words, canon}
use Rattle.zy_isa.specs.Rows.{RowsFit}
use Rattle.zy_isa.specs.Programs.{PartsFit, HasValue, Values}
use Rattle.zy_isa.specs.Choices.{names_below}
use Rattle.zy_isa.specs.Scenario.{Scenario, IsScenario, ArePrograms, AreNamed}
use Rattle.zy_isa.proofs.OperationLemmas.{each}
use Rattle.zy_isa.proofs.ResultLemmas.{both}
use Rattle.zy_text.proofs.FeedLemmas.{one_plus}
use Rattle.zy_text.specs.Cut.{is_only, is_end, bytes_through_end, cut}

-- ---- bytes of ASCII that end no line

-- a byte below 128 that is no line feed
abbrev is_plain : ℕ → Bool
is_plain b = nat_lt b 128 && not (b == 10)

-- each byte of a text is an ASCII byte other than a line feed
abbrev are_plain : List ℕ → Bool
are_plain [] = true
are_plain (b ∷ bs) = is_plain b && are_plain bs

-- each byte of each word is an ASCII byte other than a line feed
abbrev all_plain : List (List ℕ) → Bool
all_plain [] = true
all_plain (w ∷ ws) = are_plain w && all_plain ws

-- what is not, when negated, is true, is false
pub not_true : (b : Bool) → not b ≡ true → b ≡ false
not_true true h = cc
not_true false h = refl

-- a byte that the test finds below 128 is below 128
below_128 : (b : ℕ) → nat_lt b 128 ≡ true → b < 128
below_128 b h = grind (arith, tests)

-- a plain text and another plain text behind it are plain
plain_append : (xs ys : List ℕ) → are_plain xs ≡ true → are_plain ys ≡ true → are_plain (xs ++ ys) ≡ true
plain_append [] ys h g = g
plain_append (b ∷ bs) ys h g = let p = both (is_plain b) (are_plain bs) h in rw (p.0, plain_append bs ys p.1 g) refl

-- plain words with one space between them are a plain text
plain_spaced : (ws : List (List ℕ)) → all_plain ws ≡ true → are_plain (spaced ws) ≡ true
plain_spaced [] h = refl
plain_spaced (w ∷ []) h = (both (are_plain w) true h).0
plain_spaced (w ∷ v ∷ ws) h =
    let p = both (are_plain w) (all_plain (v ∷ ws)) h in plain_append w (32 ∷ spaced (v ∷ ws)) p.0 (plain_spaced (v ∷ ws) p.1)

-- a plain text is ASCII
plain_ascii : (bs : List ℕ) → are_plain bs ≡ true → IsAscii bs
plain_ascii [] h = IsAscii-nil
plain_ascii (b ∷ bs) h =
    let p = both (is_plain b) (are_plain bs) h in
    IsAscii-cons b bs (below_128 b (both (nat_lt b 128) (not (b == 10)) p.0).0) (plain_ascii bs p.1)

-- a digit is a plain byte
digit_plain : (d : ℕ) → is_ascii_digit d ≡ true → is_plain d ≡ true
digit_plain d h = grind (arith, tests)

-- a text of digits is plain
digits_plain : (ds : List ℕ) → all_ascii_digits ds ≡ true → are_plain ds ≡ true
digits_plain [] h = refl
digits_plain (d ∷ ds) h = let p = both (is_ascii_digit d) (all_ascii_digits ds) h in rw (digit_plain d p.0, digits_plain ds p.1) refl

-- the decimal digits of a number of 32 bits are plain
number_plain : (n : ℕ) → n < 2 ^ 32 → are_plain (decimal n) ≡ true
number_plain n h = digits_plain (decimal n) (digits_decimal (numerals_by_value _ tells_all_ascii_digits) n (omega arith))

-- ---- lines that begin otherwise than `end`

-- the first byte is part of a word, and none that `end` begins with
abbrev opens : List ℕ → Bool
opens [] = false
opens (b ∷ bs) = not (is_space b) && not (b == 59) && not (b == 101)

-- words whose first begins with another byte than `e` are not the one word `end`
more_words : (b : ℕ) (w : List ℕ) (ws : List (List ℕ)) → (b == 101) ≡ false → is_only (codes "end") ((b ∷ w) ∷ ws) ≡ false
more_words b w [] h = rw h refl
more_words b w (v ∷ ws) h = refl

-- a part that has a byte is a word
some_word : (b : ℕ) (w : List ℕ) → is_word (b ∷ w) ≡ true
some_word b w = positive (length (b ∷ w)) (omega arith)
  where
    positive : (n : ℕ) → 0 < n → not (n == 0) ≡ true
    positive n k = grind (arith, tests)

-- the words of parts whose first begins with another byte than `e` are not the one word `end`
other_word : (b : ℕ) (ws : List (List ℕ)) → (b == 101) ≡ false → is_only (codes "end") (filter is_word (onto_first b ws)) ≡ false
other_word b [] h = more_words b [] [] h
other_word b (w ∷ ws) h = rw (some_word b w) (more_words b w (filter is_word ws) h)

-- a line that opens with another byte than a space, a semicolon or `e` is not an end line
no_end : (line : List ℕ) → opens line ≡ true → is_end line ≡ false
no_end [] h = absurd (cc)
no_end (b ∷ bs) h =
    let p = both (not (is_space b) && not (b == 59)) (not (b == 101)) h in
    let q = both (not (is_space b)) (not (b == 59)) p.0 in
    rw (not_true _ q.1, one_plus (prefix_len (λ c. not (c == 59)) bs), not_true _ q.0)
    (other_word b (slice_split is_space (take (prefix_len (λ c. not (c == 59)) bs) bs)) (not_true _ p.1))

-- ---- lines of words

-- the text of lines of words: one space between words, and a line feed behind each line
abbrev pub text_of : List (List (List ℕ)) → List ℕ
text_of ls = flat_map (λ ws. line_of (spaced ws)) ls

-- the words of each line are plain, and the line opens with another byte than a space, a semicolon or `e`
abbrev ArePlain : List (List (List ℕ)) → Type 0
ArePlain [] = Unit {0}
ArePlain (l ∷ ls) = (all_plain l ≡ true) × (opens (spaced l) ≡ true) × ArePlain ls

-- plain lines and other plain lines behind them are plain
ArePlain-append : (ls ms : List (List (List ℕ))) → ArePlain ls → ArePlain ms → ArePlain (ls ++ ms)
ArePlain-append [] ms h g = g
ArePlain-append (l ∷ ls) ms h g = (h.0, h.1, ArePlain-append ls ms h.2 g)

-- a plain text up to a line feed is the first line, and the others are those behind that line feed
first_plain : (xs rest : List ℕ) → are_plain xs ≡ true → lines_of (xs ++ 10 ∷ rest) ≡ xs ∷ lines_of rest
first_plain [] rest h = refl
first_plain (b ∷ bs) rest h =
    let p = both (is_plain b) (are_plain bs) h in
    rw (not_true _ (both (nat_lt b 128) (not (b == 10)) p.0).1, first_plain bs rest p.1) refl

-- the bytes of the end line, with its line feed
abbrev end_line : List ℕ
end_line = codes "end" ++ 10 ∷ []

-- a plain line in front adds its bytes and its line feed to those through the end line
one_line : (l : List (List ℕ)) (rest : List ℕ) → all_plain l ≡ true → opens (spaced l) ≡ true
    → bytes_through_end (lines_of (spaced l ++ 10 ∷ rest)) ≡ length (spaced l) + 1 + bytes_through_end (lines_of rest)
one_line l rest h g = rw (first_plain (spaced l) rest (plain_spaced l h), no_end (spaced l) g) refl

-- the text of lines, and a tail behind it, begins with the first line and its line feed
line_first : (l : List (List ℕ)) (ls : List (List (List ℕ))) (tail : List ℕ) → text_of (l ∷ ls) ++ tail ≡ spaced l ++ 10 ∷ (text_of ls ++ tail)
line_first l ls tail =
    append_assoc (line_of (spaced l)) (text_of ls) tail ∙ append_assoc (spaced l) (10 ∷ []) (text_of ls ++ tail)

-- the bytes through the end line are those of the plain lines above it, and the four of the end line
through : (ls : List (List (List ℕ))) (more : List ℕ) → ArePlain ls → bytes_through_end (lines_of (text_of ls ++ (end_line ++ more))) ≡ length (text_of ls) + 4
through [] more h = refl
through (l ∷ ls) more h =
    ap (λ t. bytes_through_end (lines_of t)) (line_first l ls (end_line ++ more))
    ∙ one_line l (text_of ls ++ (end_line ++ more)) h.0 h.1
    ∙ omega (arith, through ls more h.2, length-append (line_of (spaced l)) (text_of ls), length-append (spaced l) (10 ∷ []))

-- plain lines and an end line, whatever is behind them, have these lines as their scenario part
cut_front : (ls : List (List (List ℕ))) (more : List ℕ) → ArePlain ls → cut (text_of ls ++ (end_line ++ more)) ≡ text_of ls ++ end_line
cut_front ls more h =
    ap (λ n. take n (text_of ls ++ (end_line ++ more))) (through ls more h) ∙ take-append-add (text_of ls) (end_line ++ more) 4

-- a line feed is ASCII
feed_ascii : IsAscii (10 ∷ [])
feed_ascii = IsAscii-cons 10 [] (lit< tt) IsAscii-nil

-- the text of plain lines is ASCII
text_ascii : (ls : List (List (List ℕ))) → ArePlain ls → IsAscii (text_of ls)
text_ascii [] h = IsAscii-nil
text_ascii (l ∷ ls) h =
    IsAscii-append (line_of (spaced l)) (text_of ls)
    (IsAscii-append (spaced l) (10 ∷ []) (plain_ascii (spaced l) (plain_spaced l h.0)) feed_ascii) (text_ascii ls h.2)

-- ---- the lines of the canonical text before the last

-- the name of a register is plain
reg_plain : (r : Reg) → are_plain (reg_text r) ≡ true
reg_plain R0 = refl
reg_plain R1 = refl
reg_plain R2 = refl
reg_plain R3 = refl
reg_plain R4 = refl
reg_plain R5 = refl
reg_plain R6 = refl
reg_plain R7 = refl

-- a word and two registers
pair_plain : (w : List ℕ) (a b : Reg) → are_plain w ≡ true → all_plain (w ∷ reg_text a ∷ reg_text b ∷ []) ≡ true
pair_plain w a b h = rw (h, reg_plain a, reg_plain b) refl

-- words, the last of which is a number
number_last : (w v : List ℕ) (n : ℕ) → n < 2 ^ 32 → are_plain w ≡ true → are_plain v ≡ true → all_plain (w ∷ v ∷ decimal n ∷ []) ≡ true
number_last w v n few h g = rw (h, g, number_plain n few) refl

-- a plain word and a number are plain
number_second : (w : List ℕ) (n : ℕ) → n < 2 ^ 32 → are_plain w ≡ true → all_plain (w ∷ decimal n ∷ []) ≡ true
number_second w n few h = rw (h, number_plain n few) refl

-- a plain word, two registers and the target of a jump are plain
target_last : (w : List ℕ) (a b : Reg) (n : ℕ) → n < 2 ^ 32 → are_plain w ≡ true → all_plain (w ∷ reg_text a ∷ reg_text b ∷ (64 ∷ decimal n) ∷ []) ≡ true
target_last w a b n few h = rw (h, reg_plain a, reg_plain b, number_plain n few) refl

-- each mnemonic is plain, and opens with another byte than a space, a semicolon or `e`
operation_plain : (o : Operation) → (are_plain (mnemonic o) ≡ true) × (opens (mnemonic o) ≡ true)
operation_plain o = both (are_plain (mnemonic o)) (opens (mnemonic o)) (each (λ x. are_plain (mnemonic x) && opens (mnemonic x)) refl o)

-- a text behind a word does not change the byte that the word opens with
opens_more : (w v : List ℕ) → opens w ≡ true → opens (w ++ v) ≡ true
opens_more [] v h = absurd (cc)
opens_more (b ∷ bs) v h = h

-- the words of the parts of an instruction are plain, and their line opens as no end line does
plain_parts : (p : Parts) → PartsFit p → (all_plain (parts_words p) ≡ true) × (opens (spaced (parts_words p)) ≡ true)
plain_parts (Number o a n) h = let w = operation_plain (op.Number o) in (
  number_last (mnemonic (op.Number o)) (reg_text a) n h w.0 (reg_plain a),
  opens_more (mnemonic (op.Number o)) _ w.1,
)
plain_parts (Pair o a b) h = let w = operation_plain (op.Pair o) in (pair_plain (mnemonic (op.Pair o)) a b w.0, opens_more (mnemonic (op.Pair o)) _ w.1)
plain_parts (Jump o a b n) h = let w = operation_plain (op.Jump o) in (target_last (mnemonic (op.Jump o)) a b n h w.0, opens_more (mnemonic (op.Jump o)) _ w.1)
plain_parts (Lone o) h = let w = operation_plain (op.Lone o) in (rw w.0 refl, w.1)

-- the same for the words of an instruction
plain_instr : (i : Instr) → HasValue i → (all_plain (instr_words i) ≡ true) × (opens (spaced (instr_words i)) ≡ true)
plain_instr i h = plain_parts (parts_of i) h

-- the lines of a program's instructions are plain
plain_instrs : (is : List Instr) → Values is → ArePlain (map instr_words is)
plain_instrs [] h = tt
plain_instrs (i ∷ is) h = let p = plain_instr i h.0 in (p.0, p.1, plain_instrs is h.1)

-- the lines of rows that fit are plain
plain_rows : (rows : List Row) → RowsFit rows → ArePlain (map row_words rows)
plain_rows [] h = tt
plain_rows (r ∷ rows) h = (number_last (codes "row") (decimal r.key) r.value h.1 refl (number_plain r.key (omega (arith, h.0))), refl, plain_rows rows h.2)

-- the lines of at most 64 programs, each under its number, are plain
plain_programs : (ps : List (List Instr)) (k : ℕ) → k + length ps ≤ 64 → ArePrograms ps → ArePlain (program_words k ps)
plain_programs [] k few h = tt
plain_programs (p ∷ ps) k few h = (
  number_second (codes "txn") k (omega arith) refl,
  refl,
  ArePlain-append (map instr_words p) (program_words (k + 1) ps) (plain_instrs p h.0.values) (plain_programs ps (k + 1) (omega arith) h.1),
)

-- the number of one of at most 64 transactions has 32 bits
pub under : (t count : ℕ) → count ≤ 64 → nat_lt t count ≡ true → t < 2 ^ 32
under t count few h = let low : t < count = grind (arith, tests) in omega arith

-- the words of a run are plain, and their line opens as no end line does
plain_run : (n : Node) (t : ℕ) → t < 2 ^ 32 → (all_plain (node_text n ∷ codes "run" ∷ decimal t ∷ []) ≡ true)
    × (opens (spaced (node_text n ∷ codes "run" ∷ decimal t ∷ [])) ≡ true)
plain_run A t h = (number_last (codes "A") (codes "run") t h refl refl, refl)
plain_run B t h = (number_last (codes "B") (codes "run") t h refl refl, refl)

-- the same for the letter of a node and one plain word
plain_word : (n : Node) (w : List ℕ) → are_plain w ≡ true → (all_plain (node_text n ∷ w ∷ []) ≡ true) × (opens (spaced (node_text n ∷ w ∷ [])) ≡ true)
plain_word A w h = (rw h refl, refl)
plain_word B w h = (rw h refl, refl)

-- the same for the words of a choice whose transaction is among at most 64
plain_choice : (c : Choice) (count : ℕ) → count ≤ 64 → names_below count c ≡ true → (all_plain (choice_words c) ≡ true)
    × (opens (spaced (choice_words c)) ≡ true)
plain_choice Start count few h = (refl, refl)
plain_choice (Begin t) count few h = (number_last (codes "C") (codes "begin") t (under t count few h) refl refl, refl)
plain_choice (Kill t) count few h = (number_last (codes "C") (codes "kill") t (under t count few h) refl refl, refl)
plain_choice (Run n t) count few h = plain_run n t (under t count few h)
plain_choice (Take n) count few h = plain_word n (codes "take") refl
plain_choice (Finish n) count few h = plain_word n (codes "finish") refl
plain_choice (Push n) count few h = plain_word n (codes "push") refl

-- the lines of choices whose transactions are among at most 64 are plain
plain_choices : (cs : List Choice) (count : ℕ) → count ≤ 64 → AreNamed count cs → ArePlain (map choice_words cs)
plain_choices [] count few h = tt
plain_choices (c ∷ cs) count few h = let p = plain_choice c count few h.0 in (p.0, p.1, plain_choices cs count few h.1)

-- the words of the line of the rule are plain
plain_rule : (r : Rule) → all_plain (codes "rule" ∷ rule_text r ∷ []) ≡ true
plain_rule Held = refl
plain_rule Loose = refl

-- the words of the line of the version are plain
plain_version : (v : Version) → all_plain (codes "zephyr" ∷ version_word v ∷ []) ≡ true
plain_version One = refl
plain_version Two = refl

-- the four lines of the header are plain
plain_header : (s : Scenario) → IsScenario s → ArePlain (header_words s)
plain_header s h = (
  plain_version s.version,
  refl,
  (
    number_second (codes "cap") s.cap (omega (arith, h.cap_most)) refl,
    refl,
    (number_second (codes "pages") s.pages (omega (arith, h.pages_most)) refl, refl, (plain_rule s.rule, refl, tt)),
  ),
)

-- the words of each line of the canonical text but the end line
abbrev body_words : Scenario → List (List (List ℕ))
body_words s = header_words s ++ (map row_words s.rows ++ (program_words 0 s.programs ++ map choice_words s.choices))

-- the lines of the canonical text before the end line are plain
plain_body : (s : Scenario) → IsScenario s → ArePlain (body_words s)
plain_body s h =
    ArePlain-append (header_words s) _ (plain_header s h)
    (ArePlain-append (map row_words s.rows) _ (plain_rows s.rows h.rows_fit)
    (ArePlain-append (program_words 0 s.programs) _ (plain_programs s.programs 0 (omega (arith, h.few_programs)) h.programs)
    (plain_choices s.choices (length s.programs) h.few_programs h.choices_named)))

-- ---- the canonical text

-- a list behind three
behind : {X : Type 0} (a b c d : List X) → a ++ (b ++ (c ++ d)) ≡ (a ++ (b ++ c)) ++ d
behind a b c d = sym (append_assoc a (b ++ c) d ∙ ap (λ l. a ++ l) (append_assoc b c d))

-- the canonical text is the text of the lines before the end line, and the end line
canon_body : (s : Scenario) → canon s ≡ text_of (body_words s) ++ end_line
canon_body s =
    let last = (codes "end" ∷ []) ∷ [] in
    ap text_of (ap (λ l. header_words s ++ l) (behind (map row_words s.rows) (program_words 0 s.programs) (map choice_words s.choices) last)
    ∙ sym (append_assoc (header_words s) (map row_words s.rows ++ (program_words 0 s.programs ++ map choice_words s.choices)) last))
    ∙ flat_map-append (λ ws. line_of (spaced ws)) (body_words s) last

-- whatever is behind it
pub cut-canon : (s : Scenario) (more : List ℕ) → IsScenario s → cut (canon s ++ more) ≡ canon s
cut-canon s more h =
    ap (λ t. cut (t ++ more)) (canon_body s)
    ∙ ap cut (append_assoc (text_of (body_words s)) end_line more)
    ∙ cut_front (body_words s) more (plain_body s h)
    ∙ sym (canon_body s)

-- the end line is ASCII
end_ascii : IsAscii end_line
end_ascii = IsAscii-append (codes "end") (10 ∷ []) (plain_ascii (codes "end") refl) feed_ascii

-- the canonical text of a scenario is ASCII
pub canon-ascii : (s : Scenario) → IsScenario s → IsAscii (canon s)
canon-ascii s h = subst IsAscii (sym (canon_body s)) (IsAscii-append (text_of (body_words s)) end_line (text_ascii (body_words s) (plain_body s h)) end_ascii)
