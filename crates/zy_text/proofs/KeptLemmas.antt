-- At most six words are kept.
use Rattle.std.proofs.Common.{append_assoc, drop, ◌==◌, true, false, filter, ◌≡◌, ◌∙◌, ℕ, ◌<◌, ◌≤◌, ◌+◌, List, [], ◌∷◌, ◌++◌, length, take, refl, sym, ap}
use Rattle.std.proofs.Common.{arith, suc, zero, append-nil, length-take}
use Rattle.std.proofs.lemmas.List.{take_more_set, take_all, map-set, length-append, length-take-le, length-map}
use Rattle.std.specs.Prelude.{slice_set}
use Rattle.std.specs.List.{before_first, position_or_len}
use Rattle.zy_text.specs.Words.{is_word, words_of}
use Rattle.std.specs.Borrow.{Bor}
use Rattle.zy_text.specs.Lines.{texts, first_words, first_line, ends_word}
use Rattle.zy_text.proofs.LineLemmas.{word_taken}

-- one word more, put behind fewer than six kept words, is kept
pub kept_more : (ws : List (Bor (List ℕ))) (n : ℕ) (w : Bor (List ℕ)) → n < length ws → n < 6
    → take (n + 1) (texts (slice_set ws n w)) ≡ first_words (take n (texts ws) ++ w.now ∷ [])
kept_more ws n w lt few =
    ap (take (n + 1)) (map-set (λ (v : Bor (List ℕ)). v.now) ws n w) ∙ take_more_set (texts ws) n w.now
    (omega (arith, length-map ws (λ (v : Bor (List ℕ)). v.now), lt))
    ∙ sym
    (take_all 6 (take n (texts ws) ++ w.now ∷ []) (omega (
      arith,
      length-append (take n (texts ws)) (w.now ∷ []),
      length-take-le n (texts ws) (omega (arith, length-map ws (λ (v : Bor (List ℕ)). v.now), lt)),
      few,
    )))

-- the first n of a list's first n and another list are the first n of both lists
take_front : (n : ℕ) (vs ws : List (List ℕ)) → take n (take n vs ++ ws) ≡ take n (vs ++ ws)
take_front zero vs ws = refl
take_front (suc n) [] ws = refl
take_front (suc n) (v ∷ vs) ws = ap (λ l. v ∷ l) (take_front n vs ws)

-- words on top of those that are kept
pub kept_front : (vs ws : List (List ℕ)) → first_words (first_words vs ++ ws) ≡ first_words (vs ++ ws)
kept_front vs ws = take_front 6 vs ws

-- what is kept of a line once its first word, if it begins with one, is pushed
pub word_pushed : (ws pushed all : List (List ℕ)) (rest word behind : List ℕ) → word ≡ before_first ends_word rest
    → behind ≡ drop (position_or_len ends_word rest) rest → pushed ≡ first_words (ws ++ filter is_word (word ∷ []))
    → first_words (ws ++ words_of (first_line rest)) ≡ all → first_words (pushed ++ words_of (first_line behind)) ≡ all
word_pushed ws pushed all rest word behind e f g h =
    ap (λ vs. first_words (vs ++ words_of (first_line behind))) (g ∙ ap (λ w. first_words (ws ++ filter is_word (w ∷ []))) e)
    ∙ kept_front (ws ++ filter is_word (before_first ends_word rest ∷ [])) (words_of (first_line behind))
    ∙ ap first_words (append_assoc ws (filter is_word (before_first ends_word rest ∷ [])) (words_of (first_line behind)))
    ∙ ap (λ r. first_words (ws ++ (filter is_word (before_first ends_word rest ∷ []) ++ words_of (first_line r)))) f
    ∙ ap (λ vs. first_words (ws ++ vs)) (sym (word_taken rest)) ∙ h

-- at most six words are kept whole
pub kept_all : (vs : List (List ℕ)) → length vs ≤ 6 → first_words (vs ++ []) ≡ vs
kept_all vs h = ap first_words (append-nil vs) ∙ take_all 6 vs h

-- at most six words are kept
pub few_words : (vs : List (List ℕ)) → length (first_words vs) ≤ 6
few_words vs = omega (arith, length-take 6 vs)

-- a word alone, and none
pub one_word : (w : List ℕ) → (length w == 0) ≡ false → filter is_word (w ∷ []) ≡ w ∷ []
one_word w e = rw e refl

-- a part without a byte adds no word to at most six kept words
pub no_word : (vs : List (List ℕ)) (w : List ℕ) → (length w == 0) ≡ true → length vs ≤ 6 → vs ≡ first_words (vs ++ filter is_word (w ∷ []))
no_word vs w e h = rw e (sym (kept_all vs h))

-- where six words are there already, none is kept
pub kept_full : (vs ws : List (List ℕ)) → length vs ≡ 6 → vs ≡ first_words (vs ++ ws)
kept_full vs ws h = sym (front 6 vs ws h)
  where
    front : (n : ℕ) (vs ws : List (List ℕ)) → length vs ≡ n → take n (vs ++ ws) ≡ vs
    front zero [] ws h = refl
    front zero (v ∷ vs) ws h = absurd (omega (arith, h))
    front (suc n) [] ws h = absurd (omega (arith, h))
    front (suc n) (v ∷ vs) ws h = ap (λ l. v ∷ l) (front n vs ws (omega (arith, h)))

-- as many words are seen as are counted
pub seen_count : (ws : List (Bor (List ℕ))) (n : ℕ) (vs : List (List ℕ)) → n ≤ length ws → take n (texts ws) ≡ vs → length vs ≡ n
seen_count ws n vs h e = omega (arith, ap length e, length-take-le n (texts ws) (omega (arith, length-map ws (λ (v : Bor (List ℕ)). v.now), h)))
