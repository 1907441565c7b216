-- Lines that begin with given bytes.
use Rattle.std.proofs.Common.{◌≡◌, ◌≤◌, ◌+◌, ◌-◌, ◌*◌, ◌∙◌, ◌∷◌, ◌++◌, [], ℕ, List, false, zero, suc, ap, ap₂, ◌/◌, ◌%◌, sym, refl, take, drop, get_or, arith, length, codes}
use Rattle.std.proofs.Math.Seq.{drop-cons, take-length}
use Rattle.std.proofs.lemmas.List.{length-drop}
use Rattle.std.proofs.lemmas.Fmt.{decimal_digit}
use Rattle.std.specs.Fmt.{decimal}
use Rattle.zy_io.proofs.DigitLemmas.{decimal_two}
use Rattle.zy_text.specs.Words.{words_of}
use Rattle.zy_text.specs.Lines.{first_line, ends_word}
use Rattle.zy_text.proofs.LineLemmas.{word_taken, words_space, words_lf}
use Rattle.zy_isa.specs.declared.node.Node.{Node}
use Rattle.zy_isa.specs.declared.node.Node.TheVariants.{A, B}
use Rattle.zy_text.specs.Canon.{node_text}
use borrow.Author.Tests.{tests}

-- ---- the first bytes of a text

-- this many bytes of a text from a place on
abbrev bytes_from : ℕ → ℕ → List ℕ → List ℕ
bytes_from zero i text = []
bytes_from (suc n) i text = get_or text i 0 ∷ bytes_from n (suc i) text

-- what is behind a place is the bytes there one by one, and what is behind them
bytes_behind : (n i : ℕ) (text : List ℕ) → i + n ≤ length text → drop i text ≡ bytes_from n i text ++ drop (i + n) text
bytes_behind zero i text h = ap (λ k. drop k text) (omega arith)
bytes_behind (suc n) i text h = drop-cons text i 0 (omega (arith, h)) ∙ ap (λ l. get_or text i 0 ∷ l) (bytes_behind n (suc i) text (omega (arith, h))
    ∙ ap (λ k. bytes_from n (suc i) text ++ drop k text) (omega arith))

-- what is behind the first bytes, taken by its length, is all of it
rest_whole : (n : ℕ) (text : List ℕ) → take (length text - n) (drop n text) ≡ drop n text
rest_whole n text = ap (λ k. take k (drop n text)) (sym (length-drop n text)) ∙ take-length (drop n text)

-- the words of a text's first line
abbrev line_words : List ℕ → List (List ℕ)
line_words text = words_of (first_line text)

-- ---- words at the front of a line

node_word : (a : ℕ) (rest : List ℕ) → ends_word a ≡ false → line_words (a ∷ 32 ∷ rest) ≡ (a ∷ []) ∷ line_words rest
node_word a rest h = (word_taken (a ∷ 32 ∷ rest) ∙ rw h refl) ∙ ap (λ ws. (a ∷ []) ∷ ws) (words_space 32 rest refl)

run_word : (rest : List ℕ) → line_words (codes "run " ++ rest) ≡ codes "run" ∷ line_words rest
run_word rest = word_taken (codes "run " ++ rest) ∙ ap (λ ws. codes "run" ∷ ws) (words_space 32 rest refl)

begin_word : (rest : List ℕ) → line_words (codes "begin " ++ rest) ≡ codes "begin" ∷ line_words rest
begin_word rest = word_taken (codes "begin " ++ rest) ∙ ap (λ ws. codes "begin" ∷ ws) (words_space 32 rest refl)

-- the letter of an actor and a space
pub behind_actor : (a : ℕ) (text : List ℕ) → 2 ≤ length text → ends_word a ≡ false → get_or text 0 0 ≡ a → get_or text 1 0 ≡ 32
    → line_words text ≡ (a ∷ []) ∷ line_words (take (length text - 2) (drop 2 text))
behind_actor a text n h e f =
    let same : text ≡ a ∷ 32 ∷ drop 2 text = bytes_behind 2 0 text n ∙ cc in
    ap line_words same ∙ node_word a (drop 2 text) h ∙ ap (λ t. (a ∷ []) ∷ line_words t) (sym (rest_whole 2 text))

-- the name of a node is a letter that ends no word
node_letter : (n : Node) (a : ℕ) → node_text n ≡ a ∷ [] → ends_word a ≡ false
node_letter A a h = ap (λ w. ends_word (get_or w 0 0)) (sym h)
node_letter B a h = ap (λ w. ends_word (get_or w 0 0)) (sym h)

-- the name of a node and a space
pub behind_node : (n : Node) (text : List ℕ) → 2 ≤ length text → node_text n ≡ get_or text 0 0 ∷ [] → get_or text 1 0 ≡ 32
    → line_words text ≡ node_text n ∷ line_words (take (length text - 2) (drop 2 text))
behind_node n text m h f = behind_actor (get_or text 0 0) text m (node_letter n (get_or text 0 0) h) refl f
    ∙ ap (λ w. w ∷ line_words (take (length text - 2) (drop 2 text))) (sym h)

-- `run` and a space
pub behind_run : (text : List ℕ) → 4 ≤ length text → bytes_from 4 0 text ≡ codes "run "
    → line_words text ≡ codes "run" ∷ line_words (take (length text - 4) (drop 4 text))
behind_run text n h =
    let same : text ≡ codes "run " ++ drop 4 text = bytes_behind 4 0 text n ∙ ap (λ front. front ++ drop 4 text) h in
    ap line_words same ∙ run_word (drop 4 text) ∙ ap (λ t. codes "run" ∷ line_words t) (sym (rest_whole 4 text))

-- `begin` and a space
pub behind_begin : (text : List ℕ) → 6 ≤ length text → get_or text 0 0 ≡ 98 → get_or text 1 0 ≡ 101 → get_or text 2 0 ≡ 103 → get_or text 3 0 ≡ 105
    → get_or text 4 0 ≡ 110 → get_or text 5 0 ≡ 32
    → line_words text ≡ codes "begin" ∷ line_words (take (length text - 6) (drop 6 text))
behind_begin text n a b c d e f =
    let same : text ≡ codes "begin " ++ drop 6 text = bytes_behind 6 0 text n ∙ cc in
    ap line_words same ∙ begin_word (drop 6 text) ∙ ap (λ t. codes "begin" ∷ line_words t) (sym (rest_whole 6 text))

-- ---- a number at the end of a line

-- a digit ends no word
digit_in_word : (d : ℕ) → d ≤ 9 → ends_word (48 + d) ≡ false
digit_in_word d h = grind (arith, tests)

-- a digit before a line feed
pub one_digit : (d : ℕ) (text : List ℕ) → 2 ≤ length text → d ≤ 9 → get_or text 0 0 ≡ 48 + d → get_or text 1 0 ≡ 10
    → line_words text ≡ decimal d ∷ []
one_digit d text n low f e =
    let same : text ≡ (48 + d) ∷ 10 ∷ drop 2 text = bytes_behind 2 0 text n ∙ cc in
    let number : decimal d ≡ (48 + d) ∷ [] = decimal_digit d (omega (arith, low)) ∙ ap (λ x. x ∷ []) (omega arith) in
    ap line_words same ∙ word_taken ((48 + d) ∷ 10 ∷ drop 2 text) ∙ rw (digit_in_word d low, number, words_lf 10 (drop 2 text) refl) refl

-- two digits before a line feed, the first not 0
pub two_digits : (t o : ℕ) (text : List ℕ) → 3 ≤ length text → t ≤ 9 → 1 ≤ t → o ≤ 9 → get_or text 0 0 ≡ 48 + t → get_or text 1 0 ≡ 48 + o
    → get_or text 2 0 ≡ 10 → line_words text ≡ decimal (10 * t + o) ∷ []
two_digits t o text n low more below f g e =
    let same : text ≡ (48 + t) ∷ (48 + o) ∷ 10 ∷ drop 3 text = bytes_behind 3 0 text n ∙ cc in
    let value = 10 * t + o in
    let tens : 48 + value / 10 ≡ 48 + t = omega arith in
    let ones : 48 + value % 10 ≡ 48 + o = omega arith in
    let number : decimal value ≡ (48 + t) ∷ (48 + o) ∷ [] = decimal_two value (omega arith) (omega arith) ∙ ap₂ (λ x y. x ∷ y ∷ []) tens ones in
    ap line_words same ∙ word_taken ((48 + t) ∷ (48 + o) ∷ 10 ∷ drop 3 text)
    ∙ rw (digit_in_word t low, digit_in_word o below, number, words_lf 10 (drop 3 text) refl) refl
