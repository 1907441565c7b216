-- The words of the line of a log that a step says.
use Rattle.std.proofs.Common.{◌≡◌, ℕ, suc, ◌<◌, ◌≤◌, ◌+◌, Bool, true, false, not, ◌||◌, ◌==◌, List, [], ◌∷◌, ◌++◌, length, take, codes, Option, Some, None, refl, sym, ap, ◌∙◌, subst, arith, append_assoc, append-nil}
use Rattle.std.specs.Char.{is_ascii_digit}
use Rattle.std.specs.Fmt.{decimal}
use Rattle.std.specs.Prelude.{IfSome, filter, All, if◌then◌else◌}
use Rattle.std.specs.List.{list_any, prefix_len, slice_split, onto_first}
use Rattle.std.specs.Str.{all_ascii_digits}
use Rattle.std.proofs.lemmas.List.Elements.{filter-append, All-cons, All-filter, All-head, All-nil, All-tail}
use Rattle.std.proofs.lemmas.List.Folds.{list_any-append}
use Rattle.std.proofs.lemmas.List.Splits.{length-slice_split}
use Rattle.zy_isa.proofs.ResultLemmas.{both}
use Rattle.zy_isa.specs.Limits.{max_value}
use Rattle.zy_isa.specs.declared.node.Actor.{Actor}
use Rattle.zy_isa.specs.declared.node.Actor.TheVariants.{C, A, B}
use Rattle.zy_text.specs.Words.{is_space, is_word, lines_of, words_of, without_comment}
use Rattle.zy_text.proofs.WordLemmas.{digits_of as all_digits, number_clean, split_spaced}
use Rattle.zy_json.specs.Fields.{ends_part}
use Rattle.zy_json.specs.Steps.{Step, actor_text, behind, digits_of, log_text}
use Rattle.zy_json.specs.Words.{IsPart, IsLine, IsBesideDid, signed, numeral, line_words}
use borrow.Author.Tests.{tests}

-- ---- texts that lack a byte

-- whether a byte occurs
abbrev pub has : ℕ → List ℕ → Bool
has b text = list_any (λ c. c == b) text

-- neither of two tests that fail together holds
pub neither : (a b : Bool) → (a || b) ≡ false → (a ≡ false) × (b ≡ false)
neither false b e = (refl, e)
neither true b e = absurd (cc)

none : (a b : Bool) → a ≡ false → b ≡ false → (a || b) ≡ false
none a b p q = rw (p, q) refl

-- two texts that lack a byte lack it together
lacks : (b : ℕ) (xs ys : List ℕ) → has b xs ≡ false → has b ys ≡ false → has b (xs ++ ys) ≡ false
lacks b xs ys p q = list_any-append (λ c. c == b) xs ys ∙ none (has b xs) (has b ys) p q

-- a part lacks the semicolon and the line feed
part_lacks : (text : List ℕ) → list_any ends_part text ≡ false → (has 59 text ≡ false) × (has 10 text ≡ false)
part_lacks [] e = (refl, refl)
part_lacks (x ∷ xs) e =
    let p = neither (x == 10 || x == 33 || x == 59 || x == 62) (list_any ends_part xs) e in
    let q = neither (x == 10 || x == 33 || x == 59) (x == 62) p.0 in
    let r = neither (x == 10 || x == 33) (x == 59) q.0 in
    let s = neither (x == 10) (x == 33) r.0 in
    let more = part_lacks xs p.1 in
    (none (x == 59) (has 59 xs) r.1 more.0, none (x == 10) (has 10 xs) s.0 more.1)

-- one element more is kept, the first
first_kept : (x : ℕ) (xs : List ℕ) (n : ℕ) → take (1 + n) (x ∷ xs) ≡ x ∷ take n xs
first_kept x xs n = let e : 1 + n ≡ suc n = omega arith in ap (λ k. take k (x ∷ xs)) e

-- a text without a semicolon has no comment
bare : (text : List ℕ) → has 59 text ≡ false → without_comment text ≡ text
bare [] e = refl
bare (x ∷ xs) e =
    let p = neither (x == 59) (has 59 xs) e in
    rw p.0 (first_kept x xs (prefix_len (λ c. not (c == 59)) xs) ∙ ap (λ (l : List ℕ). x ∷ l) (bare xs p.1))

-- a text without a line feed is one line
one_line : (text below : List ℕ) → has 10 text ≡ false → lines_of (text ++ 10 ∷ below) ≡ text ∷ lines_of below
one_line [] below e = refl
one_line (x ∷ xs) below e =
    let p = neither (x == 10) (has 10 xs) e in
    rw p.0 (ap (onto_first x) (one_line xs below p.1))

-- ---- words of texts that are parted by a space

-- the words of a text that has no comment
abbrev pub parted : List ℕ → List (List ℕ)
parted text = filter is_word (slice_split is_space text)

-- a byte goes before the first part, whatever comes behind
onto : (x : ℕ) (l more : List (List ℕ)) → 0 < length l → onto_first x (l ++ more) ≡ onto_first x l ++ more
onto x [] more h = absurd (omega arith)
onto x (part ∷ parts) more h = refl

-- a space between two texts parts them
split_space : (xs ys : List ℕ) → slice_split is_space (xs ++ 32 ∷ ys) ≡ slice_split is_space xs ++ slice_split is_space ys
split_space [] ys = refl
split_space (x ∷ xs) ys = by_test (split_space xs ys) (is_space x)
  where
    some : 0 < length (slice_split is_space xs)
    some = omega (arith, length-slice_split is_space xs)

    by_test : slice_split is_space (xs ++ 32 ∷ ys) ≡ slice_split is_space xs ++ slice_split is_space ys
        → (b : Bool) → (if b then [] ∷ slice_split is_space (xs ++ 32 ∷ ys) else onto_first x (slice_split is_space (xs ++ 32 ∷ ys)))
        ≡ (if b then [] ∷ slice_split is_space xs else onto_first x (slice_split is_space xs)) ++ slice_split is_space ys
    by_test ih true = ap (λ (l : List (List ℕ)). [] ∷ l) ih
    by_test ih false = ap (onto_first x) ih ∙ onto x (slice_split is_space xs) (slice_split is_space ys) some

-- so the words are those of both
parted_space : (xs ys : List ℕ) → parted (xs ++ 32 ∷ ys) ≡ parted xs ++ parted ys
parted_space xs ys = ap (filter is_word) (split_space xs ys) ∙ filter-append is_word (slice_split is_space xs) (slice_split is_space ys)

-- the words of a text are its parts, where it has no semicolon
words_are_parted : (text : List ℕ) → has 59 text ≡ false → words_of text ≡ parted text
words_are_parted text e = ap parted (bare text e)

-- a sign, if there is a text, and the words of the text
sign_parted : (xs sign : List ℕ) (o : Option (List ℕ)) → parted sign ≡ sign ∷ [] → IfSome o IsPart
    → parted (xs ++ behind (32 ∷ sign ++ 32 ∷ []) o) ≡ parted xs ++ signed sign o
sign_parted xs sign None alone h = ap parted (append-nil xs) ∙ sym (append-nil (parted xs))
sign_parted xs sign (Some text) alone h =
    ap (λ (l : List ℕ). parted (xs ++ 32 ∷ l)) (append_assoc sign (32 ∷ []) text) ∙ parted_space xs (sign ++ 32 ∷ text)
    ∙ ap (λ (l : List (List ℕ)). parted xs ++ l) (parted_space sign text ∙ ap (λ (l : List (List ℕ)). l ++ parted text) alone
    ∙ ap (λ (l : List (List ℕ)). sign ∷ l) (sym (words_are_parted text (part_lacks text h).0)))

-- the digits of a value are no sign's end, and one word
digits_part : (ds : List ℕ) → all_ascii_digits ds ≡ true → IsPart ds
digits_part [] h = refl
digits_part (d ∷ ds) h = let p = both (is_ascii_digit d) (all_ascii_digits ds) h in rw (digit_part d p.0, digits_part ds p.1) refl
  where
    digit_part : (d : ℕ) → is_ascii_digit d ≡ true → ends_part d ≡ false
    digit_part d h = grind (arith, tests)

value_part : (came : Option (List ℕ)) (o : Option ℕ) → IfSome o (IsBesideDid came) → IfSome (digits_of o) IsPart
value_part came None h = tt
value_part came (Some n) h = let few : n ≤ max_value = h.0 in digits_part (decimal n) (all_digits n (omega arith))

value_parted : (xs : List ℕ) (came : Option (List ℕ)) (o : Option ℕ) → IfSome o (IsBesideDid came)
    → parted (xs ++ behind (codes " ") (digits_of o)) ≡ parted xs ++ numeral o
value_parted xs came None h = ap parted (append-nil xs) ∙ sym (append-nil (parted xs))
value_parted xs came (Some n) h =
    let few : n ≤ max_value = h.0 in
    let clean = number_clean n (omega arith) in
    parted_space xs (decimal n) ∙ ap (λ (l : List (List ℕ)). parted xs ++ l) (split_spaced (decimal n ∷ []) (rw (clean.0, clean.1) refl))

-- what is behind a sign lacks what both lack
behind_lacks : (b : ℕ) (sign : List ℕ) (o : Option (List ℕ)) → has b sign ≡ false → IfSome o (λ text. has b text ≡ false)
    → has b (behind sign o) ≡ false
behind_lacks b sign None p h = refl
behind_lacks b sign (Some text) p h = lacks b sign text p h

letter_lacks : (a : Actor) → (has 59 (actor_text a) ≡ false) × (has 10 (actor_text a) ≡ false)
letter_lacks C = (refl, refl)
letter_lacks A = (refl, refl)
letter_lacks B = (refl, refl)

letter_parted : (a : Actor) → parted (actor_text a) ≡ actor_text a ∷ []
letter_parted C = refl
letter_parted A = refl
letter_parted B = refl

parts_lack : (o : Option (List ℕ)) → IfSome o IsPart → IfSome o (λ text. has 59 text ≡ false) × IfSome o (λ text. has 10 text ≡ false)
parts_lack None h = (tt, tt)
parts_lack (Some text) h = part_lacks text h

-- a byte that neither the letter of an actor, a sign nor a text has
log_lacks : (b : ℕ) (s : Step) → has b (actor_text s.actor) ≡ false → has b (32 ∷ s.action) ≡ false
    → has b (codes " -> ") ≡ false → has b (codes " ") ≡ false → has b (codes " ! ") ≡ false → has b (codes " rows ") ≡ false
    → IfSome s.came (λ text. has b text ≡ false) → IfSome (digits_of s.value) (λ text. has b text ≡ false)
    → IfSome s.sent (λ text. has b text ≡ false) → IfSome s.rows (λ text. has b text ≡ false) → has b (log_text s) ≡ false
log_lacks b s who did p q r t came value sent rows = lacks b (actor_text s.actor) _ who (lacks b (32 ∷ s.action) _ did
    (lacks b (behind (codes " -> ") s.came) _ (behind_lacks b (codes " -> ") s.came p came)
    (lacks b (behind (codes " ") (digits_of s.value)) _ (behind_lacks b (codes " ") (digits_of s.value) q value)
    (lacks b (behind (codes " ! ") s.sent) _ (behind_lacks b (codes " ! ") s.sent r sent)
    (behind_lacks b (codes " rows ") s.rows t rows)))))

-- a step's line lacks the semicolon and the line feed
line_lacks : (s : Step) → IsLine s → (has 59 (log_text s) ≡ false) × (has 10 (log_text s) ≡ false)
line_lacks s line =
    let who = letter_lacks s.actor in
    let did = part_lacks s.action line.action in
    let came = parts_lack s.came line.came in
    let value = parts_lack (digits_of s.value) (value_part s.came s.value line.value) in
    let sent = parts_lack s.sent line.sent in
    let rows = parts_lack s.rows line.rows in (
      log_lacks 59 s who.0 did.0 refl refl refl refl came.0 value.0 sent.0 rows.0,
      log_lacks 10 s who.1 did.1 refl refl refl refl came.1 value.1 sent.1 rows.1,
    )

-- five lists, one after the other
in_one_row : {X : Type 0} (a b c d e : List X) → (((a ++ b) ++ c) ++ d) ++ e ≡ a ++ (b ++ (c ++ (d ++ e)))
in_one_row a b c d e = append_assoc ((a ++ b) ++ c) d e ∙ (append_assoc (a ++ b) c (d ++ e) ∙ append_assoc a b (c ++ (d ++ e)))

-- ---- the three facts

pub words_of-log_text : (s : Step) → IsLine s → words_of (log_text s) ≡ line_words s
words_of-log_text s line =
    let c = behind (codes " -> ") s.came in
    let v = behind (codes " ") (digits_of s.value) in
    let e = behind (codes " ! ") s.sent in
    let r = behind (codes " rows ") s.rows in
    words_are_parted (log_text s) (line_lacks s line).0 ∙ parted_space (actor_text s.actor) (s.action ++ (c ++ (v ++ (e ++ r))))
    ∙ ap (λ (l : List (List ℕ)). l ++ parted (s.action ++ (c ++ (v ++ (e ++ r))))) (letter_parted s.actor)
    ∙ ap (λ (l : List (List ℕ)). actor_text s.actor ∷ l)
    (ap parted (sym (in_one_row s.action c v e r)) ∙ sign_parted (((s.action ++ c) ++ v) ++ e) (codes "rows") s.rows refl line.rows
    ∙ ap (λ (l : List (List ℕ)). l ++ signed (codes "rows") s.rows) (sign_parted ((s.action ++ c) ++ v) (codes "!") s.sent refl line.sent
    ∙ ap (λ (l : List (List ℕ)). l ++ signed (codes "!") s.sent) (value_parted (s.action ++ c) s.came s.value line.value
    ∙ ap (λ (l : List (List ℕ)). l ++ numeral s.value) (sign_parted s.action (codes "->") s.came refl line.came
    ∙ ap (λ (l : List (List ℕ)). l ++ signed (codes "->") s.came) (sym (words_are_parted s.action (part_lacks s.action line.action).0)))))
    ∙ in_one_row (words_of s.action) (signed (codes "->") s.came) (numeral s.value) (signed (codes "!") s.sent)
    (signed (codes "rows") s.rows))

pub lines_of-log_text : (s : Step) (below : List ℕ) → IsLine s → lines_of (log_text s ++ 10 ∷ below) ≡ log_text s ∷ lines_of below
lines_of-log_text s below line = one_line (log_text s) below (line_lacks s line).1

-- a word without a sign that ends a part
abbrev Clean : List ℕ → Type 0
Clean word = list_any ends_part word ≡ false

onto_clean : (x : ℕ) (parts : List (List ℕ)) → ends_part x ≡ false → All Clean parts → All Clean (onto_first x parts)
onto_clean x [] e h = All-cons Clean (x ∷ []) [] (none (ends_part x) false e refl) (All-nil Clean)
onto_clean x (part ∷ parts) e h =
    let both = none (ends_part x) (list_any ends_part part) e (All-head Clean part parts h) in
    All-cons Clean (x ∷ part) parts both (All-tail Clean part parts h)

split_clean : (text : List ℕ) → Clean text → All Clean (slice_split is_space text)
split_clean [] e = All-cons Clean [] [] refl (All-nil Clean)
split_clean (x ∷ xs) e =
    let p = neither (ends_part x) (list_any ends_part xs) e in
    by_test p.0 (split_clean xs p.1) (is_space x)
  where
    by_test : ends_part x ≡ false → All Clean (slice_split is_space xs)
        → (b : Bool) → All Clean (if b then [] ∷ slice_split is_space xs else onto_first x (slice_split is_space xs))
    by_test clean ih true = All-cons Clean [] (slice_split is_space xs) refl ih
    by_test clean ih false = onto_clean x (slice_split is_space xs) clean ih

pub words_are_clean : (text : List ℕ) → IsPart text → All Clean (words_of text)
words_are_clean text part =
    let words = words_are_parted text (part_lacks text part).0 in
    subst (All Clean) (sym words) (All-filter is_word Clean (slice_split is_space text) (split_clean text part))
