-- Words with a space between them are read back, and so is a number by its digits.
use Rattle.std.proofs.Common.{◌≡◌, ℕ, ◌+◌, ◌-◌, ◌*◌, ◌^◌, ◌<◌, ◌≤◌, Bool, true, false, not, ◌&&◌, ◌==◌, nat_le, List, [], ◌∷◌, ◌++◌, length, filter, Some}
use Rattle.std.proofs.Common.{refl, ap, subst, arith, rules, append-nil, lit<, codes}
use Rattle.std.specs.Fmt.{decimal}
use Rattle.std.specs.List.{slice_split, prefix_len}
use Rattle.std.specs.Str.{all_ascii_digits}
use Rattle.std.specs.Char.{is_ascii_digit}
use Rattle.std.proofs.lemmas.Str.Parse.{IsNumeralModel, numerals_by_fold}
use Rattle.std.proofs.lemmas.Fmt.{digits_decimal, digits_value-decimal, length-decimal-le, decimal_nonempty}
use Rattle.zy_isa.proofs.ResultLemmas.{both}
use Rattle.zy_isa.specs.declared.node.Node.{Node}
use Rattle.zy_isa.specs.declared.node.Node.TheVariants.{A, B}
use Rattle.zy_isa.specs.declared.choice.Choice.{Choice}
use Rattle.zy_isa.specs.declared.choice.Choice.TheVariants.{Start, Begin, Kill, Run, Take, Finish, Push}
use Rattle.zy_isa.specs.Choices.{names_below}
use Rattle.zy_text.specs.Canon.{node_text, choice_words}
use Rattle.zy_text.specs.Words.{is_space, is_word, has_words, without_comment, lines_of, words_of, number_of, digits_after, spaced}
use Rattle.zy_text.proofs.CanonCut.{not_true, under}
use Rattle.zy_text.proofs.FeedLemmas.{one_plus}
use borrow.Author.Tests.{tests}

-- a byte that may be in a word
abbrev pub is_plain : ℕ → Bool
is_plain b = not (is_space b) && not (b == 59) && not (b == 10)

-- each byte of a word may be in a word
abbrev pub is_clean : List ℕ → Bool
is_clean [] = true
is_clean (b ∷ bs) = is_plain b && is_clean bs

-- words that have a byte, all plain
abbrev pub are_clean : List (List ℕ) → Bool
are_clean [] = true
are_clean (w ∷ ws) = is_word w && is_clean w && are_clean ws

-- a byte that may be in a word is neither a space nor a semicolon nor a line feed
plain_parts : (b : ℕ) → is_plain b ≡ true → (is_space b ≡ false) × ((b == 59) ≡ false) × ((b == 10) ≡ false)
plain_parts b h =
    let p = both (not (is_space b) && not (b == 59)) (not (b == 10)) h in
    let q = both (not (is_space b)) (not (b == 59)) p.0 in
    (not_true _ q.0, not_true _ q.1, not_true _ p.1)

-- a clean word and a space in front of a text are one part more, the first
split_word : (w rest : List ℕ) → is_clean w ≡ true → slice_split is_space (w ++ 32 ∷ rest) ≡ w ∷ slice_split is_space rest
split_word [] rest h = refl
split_word (b ∷ bs) rest h =
    let p = both (is_plain b) (is_clean bs) h in
    rw ((plain_parts b p.0).0, split_word bs rest p.1) refl

-- a clean word alone is one part
split_last : (w : List ℕ) → is_clean w ≡ true → slice_split is_space w ≡ w ∷ []
split_last [] h = refl
split_last (b ∷ bs) h =
    let p = both (is_plain b) (is_clean bs) h in
    rw ((plain_parts b p.0).0, split_last bs p.1) refl

-- the words of spaced words
pub split_spaced : (ws : List (List ℕ)) → are_clean ws ≡ true → filter is_word (slice_split is_space (spaced ws)) ≡ ws
split_spaced [] h = refl
split_spaced (w ∷ []) h =
    let p = both (is_word w && is_clean w) true h in
    let q = both (is_word w) (is_clean w) p.0 in
    rw (split_last w q.1, q.0) refl
split_spaced (w ∷ v ∷ ws) h =
    let p = both (is_word w && is_clean w) (are_clean (v ∷ ws)) h in
    let q = both (is_word w) (is_clean w) p.0 in
    rw (split_word w (spaced (v ∷ ws)) q.1, q.0, split_spaced (v ∷ ws) p.1) refl

-- no comment, and one line
abbrev pub is_text : List ℕ → Bool
is_text [] = true
is_text (b ∷ bs) = not (b == 59) && not (b == 10) && is_text bs

-- a clean word in front of a text without a comment and a line feed leaves it such a text
text_append : (xs ys : List ℕ) → is_clean xs ≡ true → is_text ys ≡ true → is_text (xs ++ ys) ≡ true
text_append [] ys h k = k
text_append (b ∷ bs) ys h k =
    let p = both (is_plain b) (is_clean bs) h in
    let q = plain_parts b p.0 in
    rw (q.1, q.2, text_append bs ys p.1 k) refl

-- clean words with one space between them are a text without a comment and a line feed
pub text_spaced : (ws : List (List ℕ)) → are_clean ws ≡ true → is_text (spaced ws) ≡ true
text_spaced [] h = refl
text_spaced (w ∷ []) h =
    let p = both (is_word w && is_clean w) true h in
    subst (λ x. is_text x ≡ true) (append-nil w) (text_append w [] (both (is_word w) (is_clean w) p.0).1 refl)
text_spaced (w ∷ v ∷ ws) h =
    let p = both (is_word w && is_clean w) (are_clean (v ∷ ws)) h in
    text_append w (32 ∷ spaced (v ∷ ws)) (both (is_word w) (is_clean w) p.0).1 (text_spaced (v ∷ ws) p.1)

-- the first byte of such a text is neither a semicolon nor a line feed, and the rest is such a text
text_parts : (b : ℕ) (bs : List ℕ) → is_text (b ∷ bs) ≡ true → ((b == 59) ≡ false) × ((b == 10) ≡ false) × (is_text bs ≡ true)
text_parts b bs h =
    let p = both (not (b == 59) && not (b == 10)) (is_text bs) h in
    let q = both (not (b == 59)) (not (b == 10)) p.0 in
    (not_true _ q.0, not_true _ q.1, p.1)

-- such a text is whole before its comment
pub uncommented : (xs : List ℕ) → is_text xs ≡ true → without_comment xs ≡ xs
uncommented [] h = refl
uncommented (b ∷ bs) h = let p = text_parts b bs h in rw (p.0, one_plus (prefix_len (λ c. not (c == 59)) bs)) (ap (λ l. b ∷ l) (uncommented bs p.2))

-- such a text up to a line feed is the first line, and the others are those behind that line feed
pub first_of_text : (xs rest : List ℕ) → is_text xs ≡ true → lines_of (xs ++ 10 ∷ rest) ≡ xs ∷ lines_of rest
first_of_text [] rest h = refl
first_of_text (b ∷ bs) rest h = let p = text_parts b bs h in rw (p.1, first_of_text bs rest p.2) refl

-- ---- numbers

-- the number that digits spell behind the number n, without a test
abbrev read_on : ℕ → List ℕ → ℕ
read_on n [] = n
read_on n (c ∷ cs) = read_on (10 * n + (c - 48)) cs

-- to read digits from left to right is a way to read numerals
own : IsNumeralModel (λ ds. all_ascii_digits ds ≡ true) (read_on 0)
own = numerals_by_fold _ (search rules) read_on (search rules)

-- a digit may be in a word
digit_plain : (d : ℕ) → is_ascii_digit d ≡ true → is_plain d ≡ true
digit_plain d h = grind (arith, tests)

-- digits may be in a word
digits_clean : (ds : List ℕ) → all_ascii_digits ds ≡ true → is_clean ds ≡ true
digits_clean [] h = refl
digits_clean (d ∷ ds) h = let p = both (is_ascii_digit d) (all_ascii_digits ds) h in rw (digit_plain d p.0, digits_clean ds p.1) refl

-- digits behind the number n spell a number, which is the one read without a test
digits_read : (n : ℕ) (ds : List ℕ) → all_ascii_digits ds ≡ true → digits_after n ds ≡ Some (read_on n ds)
digits_read n [] h = refl
digits_read n (d ∷ ds) h = let p = both (is_ascii_digit d) (all_ascii_digits ds) h in rw (p.0, digits_read (10 * n + (d - 48)) ds p.1) refl

-- what has a byte is a word
pub some_length : (xs : List ℕ) → 0 < length xs → is_word xs ≡ true
some_length xs h = some (length xs) h
  where
    some : (n : ℕ) → 0 < n → not (n == 0) ≡ true
    some n k = grind (arith, tests)

-- a number of 32 bits has decimal digits
pub decimal_some : (n : ℕ) → n < 2 ^ 32 → 0 < length (decimal n)
decimal_some n h = decimal_nonempty n (omega arith)

-- they are digits
pub digits_of : (n : ℕ) → n < 2 ^ 32 → all_ascii_digits (decimal n) ≡ true
digits_of n h = digits_decimal own n (omega arith)

-- they spell this number
pub number_of-decimal : (n : ℕ) → n < 2 ^ 32 → number_of (decimal n) ≡ Some n
number_of-decimal n h =
    let wide : n < 2 ^ 64 = omega arith in
    let few : length (decimal n) ≤ 10 = length-decimal-le 10 n (lit< tt) (omega arith) wide in
    rw (
      some_length (decimal n) (decimal_nonempty n wide),
      small (length (decimal n)) few,
      digits_read 0 (decimal n) (digits_decimal own n wide),
      digits_value-decimal own n wide,
    ) refl
  where
    small : (k : ℕ) → k ≤ 10 → nat_le k 10 ≡ true
    small k e = grind (arith, tests)

-- they are a clean word
pub number_clean : (n : ℕ) → n < 2 ^ 32 → (is_word (decimal n) ≡ true) × (is_clean (decimal n) ≡ true)
number_clean n h = (some_length (decimal n) (decimal_some n h), digits_clean (decimal n) (digits_of n h))

-- ---- the words of a choice

-- the letter of a node is a clean word
pub node_clean : (n : Node) → (is_word (node_text n) ≡ true) × (is_clean (node_text n) ≡ true)
node_clean A = (refl, refl)
node_clean B = (refl, refl)

-- two clean words and a number are clean
pub number_last : (w v : List ℕ) (n : ℕ) → n < 2 ^ 32 → is_word w ≡ true → is_clean w ≡ true → is_word v ≡ true → is_clean v ≡ true
    → are_clean (w ∷ v ∷ decimal n ∷ []) ≡ true
number_last w v n few h g i j = let p = number_clean n few in rw (h, g, i, j, p.0, p.1) refl

-- the letter of a node and a clean word are clean
plain_clean : (n : Node) (w : List ℕ) → is_word w ≡ true → is_clean w ≡ true → are_clean (node_text n ∷ w ∷ []) ≡ true
plain_clean n w h g = rw ((node_clean n).0, (node_clean n).1, h, g) refl

-- the words of a choice whose transaction is among at most 64 are clean, and there is one at least
pub clean_choice : (c : Choice) (count : ℕ) → count ≤ 64 → names_below count c ≡ true
    → (are_clean (choice_words c) ≡ true) × (has_words (choice_words c) ≡ true)
clean_choice Start count few h = (refl, refl)
clean_choice (Begin t) count few h = (number_last (codes "C") (codes "begin") t (under t count few h) refl refl refl refl, refl)
clean_choice (Kill t) count few h = (number_last (codes "C") (codes "kill") t (under t count few h) refl refl refl refl, refl)
clean_choice (Run n t) count few h = (number_last (node_text n) (codes "run") t (under t count few h) (node_clean n).0 (node_clean n).1 refl refl, refl)
clean_choice (Take n) count few h = (plain_clean n (codes "take") refl refl, refl)
clean_choice (Finish n) count few h = (plain_clean n (codes "finish") refl refl, refl)
clean_choice (Push n) count few h = (plain_clean n (codes "push") refl refl, refl)

-- ---- a line

-- the words of the line that clean words make, one space between them, are these words
pub words_spaced : (ws : List (List ℕ)) → are_clean ws ≡ true → words_of (spaced ws) ≡ ws
words_spaced ws h = rw (uncommented (spaced ws) (text_spaced ws h)) (split_spaced ws h)
