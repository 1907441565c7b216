-- The first line of a text, by its first line feed.
use Rattle.std.proofs.Common.{◌≡◌, ℕ, ◌==◌, ◌<◌, ◌+◌, Bool, true, false, List, [], ◌∷◌, length, suc, refl, arith, drop, inl, inr, subst, sym, ap, take, Some}
use Rattle.std.proofs.Common.{None}
use Rattle.std.specs.List.{position, position_or_len, before_first, after_first}
use Rattle.std.proofs.lemmas.List.Quantifiers.{position-Some}
use Rattle.std.proofs.lemmas.List.Sums.{position_or_len_is, prefix_len-le-length}
use Rattle.std.specs.Prelude.{if◌then◌else◌, nat_lt, not}
use Rattle.std.proofs.lemmas.Bool.{cases_Bool, ltb-false}
use Rattle.zy_text.specs.Words.{lines_of}

-- a line feed
abbrev is_lf : ℕ → Bool
is_lf b = b == 10

-- where the text begins with a line feed, its lines are the one before that line feed and those behind it
some_here : (b : ℕ) (bs : List ℕ) → (b == 10) ≡ true → lines_of (b ∷ bs) ≡ before_first is_lf (b ∷ bs) ∷ lines_of (after_first is_lf (b ∷ bs))
some_here b bs e = rw e refl

-- one and a number are the number's successor
pub one_plus : (k : ℕ) → 1 + k ≡ suc k
one_plus k = omega arith

-- a number and one are the number's successor
plus_one : (k : ℕ) → k + 1 ≡ suc k
plus_one k = omega arith

-- a byte other than a line feed in front keeps the lines parted at the first line feed
some_later : (b : ℕ) (bs : List ℕ) → (b == 10) ≡ false → lines_of bs ≡ before_first is_lf bs ∷ lines_of (after_first is_lf bs)
    → lines_of (b ∷ bs) ≡ before_first is_lf (b ∷ bs) ∷ lines_of (after_first is_lf (b ∷ bs))
some_later b bs e h = rw (e, h, one_plus (position_or_len is_lf bs), plus_one (suc (position_or_len is_lf bs)), plus_one (position_or_len is_lf bs)) refl

-- a byte other than a line feed in front moves the first line feed by one place
pos_later : (b : ℕ) (bs : List ℕ) → (b == 10) ≡ false → position_or_len is_lf (b ∷ bs) ≡ position_or_len is_lf bs + 1
pos_later b bs e = rw e (omega arith)

-- a text that begins with a line feed has its first line feed at place 0
pos_here : (b : ℕ) (bs : List ℕ) → (b == 10) ≡ true → position_or_len is_lf (b ∷ bs) ≡ 0
pos_here b bs e = rw e refl

-- the lines of a text that has a line feed are the one before the first line feed and those behind it
pub lines_some : (bs : List ℕ) → position_or_len is_lf bs < length bs → lines_of bs ≡ before_first is_lf bs ∷ lines_of (after_first is_lf bs)
lines_some [] h = absurd (omega arith)
lines_some (b ∷ bs) h =
    elim (cases_Bool (b == 10)) [ inl e ↦ some_here b bs e | inr e ↦ some_later b bs e (lines_some bs (omega (arith, pos_later b bs e))) ]

-- one byte other than a line feed is one line
none_last : (b : ℕ) → (b == 10) ≡ false → lines_of (b ∷ []) ≡ (b ∷ []) ∷ []
none_last b e = rw e refl

-- a byte other than a line feed in front of a text of one line leaves it one line
none_later : (b : ℕ) (bs : List ℕ) → (b == 10) ≡ false → lines_of bs ≡ bs ∷ [] → lines_of (b ∷ bs) ≡ (b ∷ bs) ∷ []
none_later b bs e h = rw e (rw h refl)

-- a text that is not empty and has no line feed is one line
pub lines_none : (bs : List ℕ) → 0 < length bs → position_or_len is_lf bs ≡ length bs → lines_of bs ≡ bs ∷ []
lines_none [] p h = absurd (omega arith)
lines_none (b ∷ []) p h = elim (cases_Bool (b == 10)) [ inl e ↦ absurd (omega (arith, pos_here b [] e)) | inr e ↦ none_last b e ]
lines_none (b ∷ c ∷ bs) p h =
    elim (cases_Bool (b == 10)) [
      | inl e ↦ absurd (omega (arith, pos_here b (c ∷ bs) e))
      | inr e ↦ none_later b (c ∷ bs) e (lines_none (c ∷ bs) (omega arith) (omega (arith, pos_later b (c ∷ bs) e)))
    ]

-- the same by the place of the first line feed
pub first_some : (bs : List ℕ) (i : ℕ) → Some i ≡ position is_lf bs → lines_of bs ≡ take i bs ∷ lines_of (drop (i + 1) bs)
first_some bs i h =
    let found = position-Some is_lf bs i 0 (sym h) in
    let place : position_or_len is_lf bs ≡ i = position_or_len_is is_lf bs i 0 (omega (arith, found.0)) found.2 (λ lt. found.1) in
    subst (λ n. lines_of bs ≡ take n bs ∷ lines_of (drop (n + 1) bs)) place (lines_some bs (omega (arith, place, found.0)))

-- a choice between a number and none is none only where its test is false
none_is : (t : Bool) (n : ℕ) → None ≡ (if t then Some n else None) → t ≡ false
none_is true n h = cc
none_is false n h = refl

-- a text that is not empty, and in which no line feed is found, is one line
pub first_none : (bs : List ℕ) → 0 < length bs → None ≡ position is_lf bs → lines_of bs ≡ bs ∷ []
first_none bs p h =
    let past = ltb-false _ _ (none_is (nat_lt (position_or_len is_lf bs) (length bs)) (position_or_len is_lf bs) h) in
    lines_none bs p (omega (arith, past, prefix_len-le-length (λ b. not (is_lf b)) bs))

-- nothing is below a line that the text ends with
pub none_below : (bs : List ℕ) → None ≡ position is_lf bs → drop 1 (lines_of bs) ≡ []
none_below [] h = refl
none_below (b ∷ bs) h = ap (drop 1) (first_none (b ∷ bs) (omega arith) h)
