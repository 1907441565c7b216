-- Words of letters and digits with a space between them are words of a goal.
use Rattle.std.proofs.Common.{◌≡◌, ◌∙◌, ℕ, true, false, ◌&&◌, List, [], ◌∷◌, ◌++◌, refl, ap, sym, append-nil}
use Rattle.std.specs.List.{onto_first}
use Rattle.std.proofs.lemmas.Bool.{false≢true}
use Rattle.zy_isa.proofs.ResultLemmas.{both}
use Rattle.zy_text.specs.Names.{are_parts}
use Rattle.zy_text.specs.Words.{is_word, spaced}
use Rattle.zy_queries.specs.Words.{is_space, is_bracket, is_sign, goes_on, words_of}
use Rattle.zy_log_laws.proofs.TextLemmas.{is_part, are_parted, other}

-- a letter or a digit is no space, no bracket and no sign
part_plain : (b : ℕ) → is_part b ≡ true → (is_space b ≡ false) × (is_bracket b ≡ false) × (is_sign b ≡ false)
part_plain b h = (
  rw (other 32 refl b h, other 9 refl b h, other 10 refl b h, other 13 refl b h) refl,
  rw (other 40 refl b h, other 41 refl b h) refl,
  rw (other 61 refl b h, other 33 refl b h, other 60 refl b h, other 62 refl b h) refl,
)

-- they are of one word
one_word : (b c : ℕ) (bs : List ℕ) → is_part b ≡ true → is_part c ≡ true → words_of (b ∷ c ∷ bs) ≡ onto_first b (words_of (c ∷ bs))
unfolding words_of
one_word b c bs h k = let l = part_plain b h in let r = part_plain c k in rw (l.0, l.1, l.2, r.0, r.1, r.2) refl

-- a word of them in front of a text that does not go on with it
word_front : (b : ℕ) (bs text : List ℕ) → are_parts (b ∷ bs) ≡ true → ((c : ℕ) → is_part c ≡ true → goes_on c text ≡ false)
    → words_of ((b ∷ bs) ++ text) ≡ (b ∷ bs) ∷ words_of text
unfolding words_of
word_front b [] text h stops =
    let p = both (is_part b) true h in
    rw ((part_plain b p.0).0, stops b p.0) refl
word_front b (c ∷ bs) text h stops =
    let p = both (is_part b) (are_parts (c ∷ bs)) h in
    one_word b c (bs ++ text) p.0 (both (is_part c) (are_parts bs) p.1).0 ∙ ap (onto_first b) (word_front c bs text p.1 stops)

-- such a word
some_front : (w text : List ℕ) → is_word w ≡ true → are_parts w ≡ true → ((c : ℕ) → is_part c ≡ true → goes_on c text ≡ false)
    → words_of (w ++ text) ≡ w ∷ words_of text
some_front [] text some h stops = absurd (false≢true some)
some_front (b ∷ bs) text some h stops = word_front b bs text h stops

-- a letter or a digit does not go on with a space
no_space : (text : List ℕ) (c : ℕ) → is_part c ≡ true → goes_on c (32 ∷ text) ≡ false
no_space text c h = let p = part_plain c h in rw (p.0, p.1, p.2) refl

-- a word of them and a space in front of a text
pub spaced_front : (w text : List ℕ) → is_word w ≡ true → are_parts w ≡ true → words_of (w ++ 32 ∷ text) ≡ w ∷ words_of text
unfolding words_of
spaced_front w text some h = some_front w (32 ∷ text) some h (no_space text)

-- words of them with a space between them
pub spaced_words : (ws : List (List ℕ)) → are_parted ws ≡ true → words_of (spaced ws) ≡ ws
unfolding words_of
spaced_words [] h = refl
spaced_words (w ∷ []) h =
    let p = both (is_word w) (are_parts w) (both (is_word w && are_parts w) true h).0 in
    ap words_of (sym (append-nil w)) ∙ some_front w [] p.0 p.1 (λ c i. refl)
spaced_words (w ∷ v ∷ ws) h =
    let p = both (is_word w && are_parts w) (are_parted (v ∷ ws)) h in
    let q = both (is_word w) (are_parts w) p.0 in
    spaced_front w (spaced (v ∷ ws)) q.0 q.1 ∙ ap (λ l. w ∷ l) (spaced_words (v ∷ ws) p.1)
