-- A text's first line, byte by byte.
use Rattle.std.proofs.Common.{◌++◌, ◌≡◌, ◌∙◌, ℕ, ◌==◌, ◌<◌, true, false, not, List, [], ◌∷◌, length, take, drop, filter, get_or, suc, refl, sym, ap}
use Rattle.std.proofs.Common.{subst, arith, inl, inr}
use Rattle.std.specs.List.{position_or_len, before_first, slice_split, onto_first, prefix_len}
use Rattle.std.proofs.lemmas.Bool.{cases_Bool}
use borrow.Author.Tests.{eqb-true}
use Rattle.zy_text.specs.Words.{is_space, is_word, lines_of, words_of, without_comment}
use Rattle.zy_text.specs.Lines.{first_line, lines_below, ends_word}
use Rattle.zy_text.proofs.FeedLemmas.{one_plus}

-- ---- a byte more in front

-- a byte put in front of the first line is the first line's first byte
first_onto : (b : ℕ) (ls : List (List ℕ)) → get_or (onto_first b ls) 0 [] ≡ b ∷ get_or ls 0 []
first_onto b [] = refl
first_onto b (l ∷ ls) = refl

-- a byte put in front of the first line leaves the lines below as they are
below_onto : (b : ℕ) (ls : List (List ℕ)) → drop 1 (onto_first b ls) ≡ drop 1 ls
below_onto b [] = refl
below_onto b (l ∷ ls) = refl

-- a byte other than a line feed in front of a text is in front of its first line
first_more : (b : ℕ) (bs : List ℕ) → (b == 10) ≡ false → first_line (b ∷ bs) ≡ b ∷ first_line bs
first_more b bs e = rw e (first_onto b (lines_of bs))

-- a byte other than a line feed in front of a text leaves the lines below the first as they are
pub below_more : (b : ℕ) (bs : List ℕ) → (b == 10) ≡ false → lines_below (b ∷ bs) ≡ lines_below bs
below_more b bs e = rw e (below_onto b (lines_of bs))

-- a byte other than a semicolon in front of a line is in front of what is before its comment
comment_more : (b : ℕ) (l : List ℕ) → (b == 59) ≡ false → without_comment (b ∷ l) ≡ b ∷ without_comment l
comment_more b l e = rw (e, one_plus (prefix_len (λ c. not (c == 59)) l)) refl

-- the parts of the first line between its spaces
abbrev parts : List ℕ → List (List ℕ)
parts bs = slice_split is_space (without_comment (first_line bs))

-- a byte in front that ends no word is in front of the first part
parts_more : (b : ℕ) (bs : List ℕ) → (b == 10) ≡ false → (b == 59) ≡ false → is_space b ≡ false → parts (b ∷ bs) ≡ onto_first b (parts bs)
parts_more b bs lf semi space = ap (λ l. slice_split is_space (without_comment l)) (first_more b bs lf)
    ∙ ap (slice_split is_space) (comment_more b (first_line bs) semi) ∙ rw space refl

-- a space is not a line feed
not_lf : (b : ℕ) → is_space b ≡ true → (b == 10) ≡ false
not_lf b h = elim (cases_Bool (b == 10)) [ inr e ↦ e | inl e ↦ absurd (off b (eqb-true b 10 e) h) ]
  where
    off : (b : ℕ) → b ≡ 10 → is_space b ≡ true → ⊥
    off b e h = cc (ap is_space e, h)

-- a space is not a semicolon
not_semi : (b : ℕ) → is_space b ≡ true → (b == 59) ≡ false
not_semi b h = elim (cases_Bool (b == 59)) [ inr e ↦ e | inl e ↦ absurd (off b (eqb-true b 59 e) h) ]
  where
    off : (b : ℕ) → b ≡ 59 → is_space b ≡ true → ⊥
    off b e h = cc (ap is_space e, h)

-- a space in front begins an empty part
parts_space : (b : ℕ) (bs : List ℕ) → is_space b ≡ true → parts (b ∷ bs) ≡ [] ∷ parts bs
parts_space b bs space = ap (λ l. slice_split is_space (without_comment l)) (first_more b bs (not_lf b space))
    ∙ ap (slice_split is_space) (comment_more b (first_line bs) (not_semi b space)) ∙ rw space refl

-- a text that begins with a line feed has one part, which is empty
parts_lf : (b : ℕ) (bs : List ℕ) → (b == 10) ≡ true → parts (b ∷ bs) ≡ [] ∷ []
parts_lf b bs e = rw e refl

-- a text that begins with a semicolon has one part, which is empty
parts_semi : (b : ℕ) (bs : List ℕ) → (b == 59) ≡ true → parts (b ∷ bs) ≡ [] ∷ []
parts_semi b bs e = ap (λ c. parts (c ∷ bs)) (eqb-true b 59 e) ∙ ap (λ l. slice_split is_space (without_comment l)) (first_more 59 bs refl)

-- ---- the words

-- the first line of a text that begins with a line feed has no word
pub words_lf : (b : ℕ) (bs : List ℕ) → (b == 10) ≡ true → words_of (first_line (b ∷ bs)) ≡ []
words_lf b bs e = ap (filter is_word) (parts_lf b bs e)

-- the first line of a text that begins with a semicolon has no word
pub words_semi : (b : ℕ) (bs : List ℕ) → (b == 59) ≡ true → words_of (first_line (b ∷ bs)) ≡ []
words_semi b bs e = ap (filter is_word) (parts_semi b bs e)

-- a space in front leaves the words of the first line as they are
pub words_space : (b : ℕ) (bs : List ℕ) → is_space b ≡ true → words_of (first_line (b ∷ bs)) ≡ words_of (first_line bs)
words_space b bs e = ap (filter is_word) (parts_space b bs e)

-- a semicolon in front leaves the lines below the first as they are
pub below_semi : (b : ℕ) (bs : List ℕ) → (b == 59) ≡ true → lines_below (b ∷ bs) ≡ lines_below bs
below_semi b bs e = ap (λ c. lines_below (c ∷ bs)) (eqb-true b 59 e) ∙ below_more 59 bs refl

-- below a first line that is empty are the lines behind its line feed
pub below_lf : (b : ℕ) (bs : List ℕ) → (b == 10) ≡ true → lines_below (b ∷ bs) ≡ lines_of bs
below_lf b bs e = rw e refl

-- a space in front leaves the lines below the first as they are
pub below_space : (b : ℕ) (bs : List ℕ) → is_space b ≡ true → lines_below (b ∷ bs) ≡ lines_below bs
below_space b bs e = below_more b bs (not_lf b e)

-- ---- a whole word

-- a byte that is neither a space nor a line feed nor a semicolon
record Plain (b : ℕ) : Type 0 where
  space : is_space b ≡ false
  lf : (b == 10) ≡ false
  semi : (b == 59) ≡ false

-- a byte that ends no word is neither a space nor a line feed nor a semicolon
plain : (b : ℕ) → ends_word b ≡ false → Plain b
plain b h = elim (cases_Bool (is_space b)) [
  | inl e ↦ cc
  | inr e ↦ elim (cases_Bool (b == 10)) [
    | inl f ↦ cc
    | inr f ↦ elim (cases_Bool (b == 59)) [ inl g ↦ cc | inr g ↦ record { space = e; lf = f; semi = g } ]
  ]
]

-- the first part of a text that begins with a byte that ends a word is empty
parts_stop : (b : ℕ) (bs : List ℕ) → ends_word b ≡ true → parts (b ∷ bs) ≡ [] ∷ drop 1 (parts (b ∷ bs))
parts_stop b bs h = elim (cases_Bool (is_space b)) [
  | inl e ↦ by_head (parts_space b bs e)
  | inr e ↦ elim (cases_Bool (b == 10)) [
    | inl f ↦ by_head (parts_lf b bs f)
    | inr f ↦ elim (cases_Bool (b == 59)) [ inl g ↦ by_head (parts_semi b bs g) | inr g ↦ cc ]
  ]
]
  where
    by_head : {ps qs : List (List ℕ)} → ps ≡ [] ∷ qs → ps ≡ [] ∷ drop 1 ps
    by_head e = rw e refl

-- how many bytes are before the first that ends a word
abbrev len : List ℕ → ℕ
len bs = position_or_len ends_word bs

-- a byte in front that ends no word is one byte more before the first that ends a word
len_more : (b : ℕ) (bs : List ℕ) → ends_word b ≡ false → len (b ∷ bs) ≡ suc (len bs)
len_more b bs e = rw e (omega arith)

-- no byte is before one in front that ends a word
len_stop : (b : ℕ) (bs : List ℕ) → ends_word b ≡ true → len (b ∷ bs) ≡ 0
len_stop b bs e = rw e refl

-- the first part is the word that the text begins with, and the others are those of what is behind it
record Begins (n : ℕ) (bs : List ℕ) : Type 0 where
  behind : parts (drop n bs) ≡ [] ∷ drop 1 (parts (drop n bs))
  whole : parts bs ≡ take n bs ∷ drop 1 (parts (drop n bs))
  below : lines_below bs ≡ lines_below (drop n bs)

-- one byte more in front that ends no word is part of the word that the text begins with
begins_more : (b : ℕ) (bs : List ℕ) → ends_word b ≡ false → Begins (len bs) bs → Begins (suc (len bs)) (b ∷ bs)
begins_more b bs e h =
    let p = plain b e in
    record {
      behind = h.behind;
      whole = parts_more b bs p.lf p.semi p.space ∙ ap (onto_first b) h.whole;
      below = below_more b bs p.lf ∙ h.below;
    }

-- a text that begins with a byte that ends a word begins with the empty word
begins_stop : (b : ℕ) (bs : List ℕ) → ends_word b ≡ true → Begins 0 (b ∷ bs)
begins_stop b bs e = record { behind = parts_stop b bs e; whole = parts_stop b bs e; below = refl }

-- each text begins with the word that its bytes before the first that ends a word are
begins : (bs : List ℕ) → Begins (len bs) bs
begins [] = record { behind = refl; whole = refl; below = refl }
begins (b ∷ bs) =
    elim (cases_Bool (ends_word b)) [
      | inl e ↦ subst (λ n. Begins n (b ∷ bs)) (sym (len_stop b bs e)) (begins_stop b bs e)
      | inr e ↦ subst (λ n. Begins n (b ∷ bs)) (sym (len_more b bs e)) (begins_more b bs e (begins bs))
    ]

-- the words of parts are the first part, if it is one, and those of the others
kept_or_not : (w : List ℕ) (ps : List (List ℕ)) → filter is_word (w ∷ ps) ≡ filter is_word (w ∷ []) ++ filter is_word ps
kept_or_not w ps = elim (cases_Bool (length w == 0)) [ inl e ↦ rw e refl | inr e ↦ rw e refl ]

-- what is before the first byte that ends a word is the first word, if it is one
pub word_taken : (bs : List ℕ) → words_of (first_line bs) ≡ filter is_word (before_first ends_word bs ∷ [])
    ++ words_of (first_line (drop (position_or_len ends_word bs) bs))
word_taken bs =
    let here = begins bs in
    let w = before_first ends_word bs in
    ap (filter is_word) here.whole ∙ kept_or_not w (drop 1 (parts (drop (len bs) bs)))
    ∙ ap (λ ws. filter is_word (w ∷ []) ++ ws) (sym (ap (filter is_word) here.behind))

-- without the word that it begins with, a text has the same lines below the first
pub word_below : (bs : List ℕ) → lines_below bs ≡ lines_below (drop (position_or_len ends_word bs) bs)
word_below bs = (begins bs).below

-- a text of no bytes is empty
pub none_left : (bs : List ℕ) → length bs ≡ 0 → bs ≡ []
none_left [] h = refl
none_left (b ∷ bs) h = absurd (omega (arith, h))

-- the byte behind a word ends it
pub word_stops : (bs : List ℕ) (b : ℕ) (cs : List ℕ) → drop (position_or_len ends_word bs) bs ≡ b ∷ cs → ends_word b ≡ true
word_stops [] b cs h = cc
word_stops (a ∷ bs) b cs h = elim (cases_Bool (ends_word a)) [
  | inl e ↦ here (subst (λ n. drop n (a ∷ bs) ≡ b ∷ cs) (len_stop a bs e) h) e
  | inr e ↦ word_stops bs b cs (subst (λ n. drop n (a ∷ bs) ≡ b ∷ cs) (len_more a bs e) h)
]
  where
    here : {x y : ℕ} {xs ys : List ℕ} → x ∷ xs ≡ y ∷ ys → ends_word x ≡ true → ends_word y ≡ true
    here {x} {y} h e = let p : x ≡ y = cc (h) in ap ends_word (sym p) ∙ e

-- a byte that is not another fails the test for it
differs : (b k : ℕ) → (b ≡ k → ⊥) → (b == k) ≡ false
differs b k h = elim (cases_Bool (b == k)) [ inl e ↦ absurd (h (eqb-true b k e)) | inr e ↦ e ]

-- a byte that ends a word, and is neither a line feed nor a semicolon, is a space
pub space_of : (b : ℕ) → ends_word b ≡ true → (b ≡ 10 → ⊥) → (b ≡ 59 → ⊥) → is_space b ≡ true
space_of b h f g = elim (cases_Bool (is_space b)) [ inl e ↦ e | inr e ↦ absurd (off e) ]
  where
    off : is_space b ≡ false → ⊥
    off e = let p : ends_word b ≡ false = rw (e, differs b 10 f, differs b 59 g) refl in cc (h, p)

-- the lines of a text that is not empty are the first line and those below it
lines_parted : (bs : List ℕ) → 0 < length bs → lines_of bs ≡ first_line bs ∷ lines_below bs
lines_parted [] h = absurd (omega (arith, h))
lines_parted (b ∷ bs) h = elim (cases_Bool (b == 10)) [ inl e ↦ rw e refl | inr e ↦ rw e (onto_parted b (lines_of bs)) ]
  where
    onto_parted : (b : ℕ) (ls : List (List ℕ)) → onto_first b ls ≡ get_or (onto_first b ls) 0 [] ∷ drop 1 (onto_first b ls)
    onto_parted b [] = refl
    onto_parted b (l ∷ ls) = refl

-- a text that is left begins with a line, and goes on below it
pub line_taken : (text below : List ℕ) → (length text == 0) ≡ false → lines_of below ≡ lines_below text → lines_of text ≡ first_line text ∷ lines_of below
line_taken [] below some h = cc
line_taken (b ∷ bs) below some h = lines_parted (b ∷ bs) (omega arith) ∙ ap (λ ls. first_line (b ∷ bs) ∷ ls) (sym h)
