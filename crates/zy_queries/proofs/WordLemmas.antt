-- How a text is cut into words.
use Rattle.std.proofs.Common.{◌≡◌, ◌∙◌, ℕ, suc, Bool, true, false, cond, List, [], ◌∷◌, take, drop, refl, sym, ap, arith, ◌⊎◌, inl, inr, ◌||◌, ◌&&◌}
use Rattle.std.specs.List.{onto_first}
use Rattle.std.proofs.lemmas.Bool.{cond_both, cond-false}
use Rattle.zy_queries.specs.Words.{words_of, word_len, goes_on, are_joined, is_space, is_sign, is_plain, begins_with_space}
use Rattle.zy_queries.specs.Cursors.{words_from}

-- a sign is no space
sign_no_space : (b : ℕ) → is_sign b ≡ true → is_space b ≡ false
sign_no_space b h = grind arith

-- what is plain is no space
plain_no_space : (b : ℕ) → is_plain b ≡ true → is_space b ≡ false
plain_no_space b h = grind arith

-- one of two pairs of tests holds, and so does its second one
second_of_pair : (p q r s : Bool) → ((p && q) || (r && s)) ≡ true → (q ≡ true) ⊎ (s ≡ true)
second_of_pair true true r s h = inl refl
second_of_pair true false r true h = inr refl
second_of_pair true false true false h = cc
second_of_pair true false false false h = cc
second_of_pair false q r true h = inr refl
second_of_pair false q true false h = cc
second_of_pair false q false false h = cc

-- what goes on does not go on with a space
joined_no_space : (b c : ℕ) → are_joined b c ≡ true → is_space c ≡ false
joined_no_space b c h = elim (second_of_pair (is_sign b) (is_sign c) (is_plain b) (is_plain c) h)
    [ inl e ↦ sign_no_space c e | inr e ↦ plain_no_space c e ]

-- the first word of a text has a byte
has_byte : (c : ℕ) (cs : List ℕ) → (m : ℕ) × (word_len (c ∷ cs) ≡ suc m)
unfolding word_len
has_byte c cs = cond_both (goes_on c cs) (suc (word_len cs)) 1 (λ n. (m : ℕ) × (n ≡ suc m)) (λ e. (word_len cs, refl)) (λ e. (0, refl))

-- a byte before a word with a byte
onto_word : (b c : ℕ) (cs r : List ℕ) (n m : ℕ) → n ≡ suc m
    → onto_first b (words_from (take n (c ∷ cs)) r) ≡ words_from (b ∷ take n (c ∷ cs)) r
onto_word b c cs r n m e = rw e refl

-- a byte alone, or with the word behind it
cut_two : (b c : ℕ) (cs : List ℕ) (n : ℕ) (j : Bool) → ((m : ℕ) × (n ≡ suc m))
    → (j ≡ true → words_from (take n (c ∷ cs)) (drop n (c ∷ cs)) ≡ words_of (c ∷ cs))
    → words_from (take (cond j (suc n) 1) (b ∷ c ∷ cs)) (drop (cond j (suc n) 1) (b ∷ c ∷ cs))
    ≡ cond j (onto_first b (words_of (c ∷ cs))) ((b ∷ []) ∷ words_of (c ∷ cs))
cut_two b c cs n true long e = sym (onto_word b c cs (drop n (c ∷ cs)) n long.0 long.1) ∙ ap (onto_first b) (e refl)
cut_two b c cs n false long e = refl

-- a text that begins with no space is its first word and the words behind it
pub cut_word : (bs : List ℕ) → begins_with_space bs ≡ false → words_from (take (word_len bs) bs) (drop (word_len bs) bs) ≡ words_of bs
unfolding words_of word_len
cut_word [] h = refl
cut_word (b ∷ []) h = rw h refl
cut_word (b ∷ c ∷ cs) h =
    cut_two b c cs (word_len (c ∷ cs)) (are_joined b c) (has_byte c cs) (λ e. cut_word (c ∷ cs) (joined_no_space b c e))
    ∙ sym (cond-false (is_space b) _ _ h)
