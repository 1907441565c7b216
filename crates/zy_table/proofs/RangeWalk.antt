-- The pages of a range, one after the other.
use Rattle.std.proofs.Common.{List, [], ap, arith, false, get_or, inl, inr, length, refl, suc, sym, true, zero, ℕ, ◌<◌, ◌≤◌, ◌∙◌, ◌∷◌, ◌≡◌}
use Rattle.std.specs.Prelude.{if◌then◌else◌, nat_le, nat_lt, ◌&&◌, ◌⊎◌}
use Rattle.std.proofs.lemmas.Bool.{and_from, and_left, and_parts, cases_Bool, cond_both, eqb-true, false≢true, false_from_ne_true, le-leb, leb-true, lt-ltb}
use Rattle.std.proofs.lemmas.Bool.{ltb-true, or_cases}
use Rattle.zy_model.specs.Wireframe.{page_of}
use Rattle.zy_model.proofs.PageOf.{page_of-is}
use Rattle.zy_table.specs.Keys.{put_key}
use Rattle.zy_table.specs.Numbers.{has}
use Rattle.zy_table.specs.Ranges.{lows_within}
use Rattle.zy_table.proofs.RangeLists.{has_first, has_rest}

-- a key that is not above others goes before them
put_front : (x : ℕ) (ys : List ℕ) → ((y : ℕ) → has ys y ≡ true → x ≤ y) → put_key x ys ≡ x ∷ ys
put_front x [] h = refl
put_front x (y ∷ ys) h =
    let low : nat_le x y ≡ true = le-leb x y (h y (has_first y ys)) in
    ap (λ b. if b then x ∷ y ∷ ys else y ∷ put_key x ys) low

-- and one that is above the first goes behind it
pub put_behind : (x y : ℕ) (ys : List ℕ) → y < x → put_key x (y ∷ ys) ≡ y ∷ put_key x ys
put_behind x y ys up =
    let far : nat_le x y ≡ false = false_from_ne_true _ (λ h. let le = leb-true x y h in absurd (omega (arith, le, up))) in
    ap (λ b. if b then x ∷ y ∷ ys else y ∷ put_key x ys) far

-- each of the keys with one put among them is that one, or was there
pub has-put : (k : ℕ) (xs : List ℕ) (q : ℕ) → has (put_key k xs) q ≡ true → (k ≡ q) ⊎ (has xs q ≡ true)
has-put k [] q h = elim (or_cases _ _ h) [ inl e ↦ inl (eqb-true _ _ e) | inr e ↦ absurd (false≢true e) ]
has-put k (x ∷ xs) q h =
    cond_both (nat_le k x) (k ∷ x ∷ xs) (x ∷ put_key k xs) (λ ys. has ys q ≡ true → (k ≡ q) ⊎ (has (x ∷ xs) q ≡ true))
    (λ _ g. elim (or_cases _ _ g) [ inl e ↦ inl (eqb-true _ _ e) | inr e ↦ inr e ])
    (λ _ g. elim (or_cases _ _ g) [
      | inl e ↦ let same = eqb-true _ _ e in inr (subst_first x q xs same)
      | inr e ↦ elim (has-put k xs q e) [ inl i ↦ inl i | inr i ↦ inr (has_rest x q xs i) ]
    ]) h
  where
    subst_first : (x q : ℕ) (xs : List ℕ) → x ≡ q → has (x ∷ xs) q ≡ true
    subst_first x q xs same = rw (← same) (has_first x xs)

-- the low keys above a are above a
pub above : (a b : ℕ) (lows : List ℕ) (q : ℕ) → has (lows_within a b lows) q ≡ true → a < q
above a b [] q h = absurd (false≢true h)
above a b (x ∷ xs) q h =
    cond_both (nat_lt a x && nat_le x b) (put_key x (lows_within a b xs)) (lows_within a b xs) (λ ys. has ys q ≡ true → a < q)
    (λ e g. let up = ltb-true a x (and_parts _ _ e).0 in elim (has-put x (lows_within a b xs) q g) [
      | inl same ↦ omega (arith, up, same)
      | inr rest ↦
          above a b xs q rest
    ])
    (λ _ g. above a b xs q g) h

-- no low key is between a and c
abbrev None_between : ℕ → ℕ → List ℕ → Type 0
None_between a c xs = (q : ℕ) → q < length xs → a < get_or xs q 0 → c < get_or xs q 0

-- a test that asks for no more
same_test : (a c x b : ℕ) → a < c → (a < x → c < x) → (nat_lt a x && nat_le x b) ≡ (nat_lt c x && nat_le x b)
same_test a c x b lt up = ap (λ z. z && nat_le x b) (elim (cases_Bool (nat_lt c x)) [
  | inl e ↦ (let h = ltb-true c x e in lt-ltb a x (omega (arith, h, lt)) ∙ sym e)
  | inr e ↦ (false_from_ne_true _ (λ h. false≢true (sym e ∙ lt-ltb c x (up (ltb-true a x h)))) ∙ sym e)
])

-- the low keys above a and not above b are those above c where no low key is between a and c
lows_same : (a c b : ℕ) (xs : List ℕ) → a < c → None_between a c xs → lows_within a b xs ≡ lows_within c b xs
lows_same a c b [] lt h = refl
lows_same a c b (x ∷ xs) lt h =
    let test = same_test a c x b lt (h 0 (omega arith)) in
    let rest = lows_same a c b xs lt (λ q in_it up. h (suc q) (omega arith) up) in
    ap (λ z. if z then put_key x (lows_within a b xs) else lows_within a b xs) test ∙ ap (λ ys. if (nat_lt c x && nat_le x b) then put_key x ys else ys) rest

-- where each low key above a is above b
pub lows_within-none : (a b : ℕ) (lows : List ℕ) → ((q : ℕ) → q < length lows → a < get_or lows q 0 → b < get_or lows q 0) → lows_within a b lows ≡ []
lows_within-none a b [] h = refl
lows_within-none a b (x ∷ xs) h =
    let rest = lows_within-none a b xs (λ q lt up. h (suc q) (omega arith) up) in
    let off : (nat_lt a x && nat_le x b) ≡ false = false_from_ne_true _ (λ e. let both = and_parts _ _ e in
    let over = h 0 (omega arith) (ltb-true a x both.0) in let le = leb-true x b both.1 in absurd (omega (arith, over, le))) in
    ap (λ z. if z then put_key x (lows_within a b xs) else lows_within a b xs) off ∙ rest

-- p's low key is above a, and each other page's that is above a is above it
abbrev pub Least : ℕ → List ℕ → ℕ → Type 0
Least a lows p = (q : ℕ) → q < length lows → a < get_or lows q 0 → (q ≡ p) ⊎ (get_or lows p 0 < get_or lows q 0)

-- where page p + 1 of a list has the least low key above a, page p of the list behind its first has it there
least_rest : (a x : ℕ) (xs : List ℕ) (p : ℕ) → Least a (x ∷ xs) (suc p) → Least a xs p
least_rest a x xs p h = λ q lt up. elim (h (suc q) (omega arith) up) [ inl e ↦ inl (omega (arith, e)) | inr e ↦ inr e ]

-- the low keys above a begin with p's
pub lows_within-next : (a b : ℕ) (lows : List ℕ) (p : ℕ) → p < length lows → a < get_or lows p 0 → get_or lows p 0 ≤ b → Least a lows p
    → lows_within a b lows ≡ get_or lows p 0 ∷ lows_within (get_or lows p 0) b lows
lows_within-next a b [] p lt up le least = absurd (omega arith)
lows_within-next a b (x ∷ xs) zero lt up le least =
    let yes : (nat_lt a x && nat_le x b) ≡ true = and_from _ _ (lt-ltb a x up) (le-leb x b le) in
    let no : (nat_lt x x && nat_le x b) ≡ false = and_left _ _ (false_from_ne_true _ (λ h. let bad = ltb-true x x h in absurd (omega (arith, bad)))) in
    let rest = lows_same a x b xs up (λ q in_it more. elim (least (suc q) (omega arith) more) [ inl e ↦ absurd (omega (arith, e)) | inr e ↦ e ]) in
    ap (λ z. if z then put_key x (lows_within a b xs) else lows_within a b xs) yes
    ∙ ap (put_key x) rest
    ∙ put_front x (lows_within x b xs) (λ y h. let over = above x b xs y h in omega (arith, over))
    ∙ ap (λ z. x ∷ (if z then put_key x (lows_within x b xs) else lows_within x b xs)) (sym no)
lows_within-next a b (x ∷ xs) (suc p) lt up le least =
    let l = get_or xs p 0 in
    let rest = lows_within-next a b xs p (omega arith) up le (least_rest a x xs p least) in
    let test = same_test a l x b up (λ more. elim (least 0 (omega arith) more) [ inl e ↦ absurd (omega (arith, e)) | inr e ↦ e ]) in
    ap (λ z. if z then put_key x (lows_within a b xs) else lows_within a b xs) test
    ∙ ap (λ ys. if (nat_lt l x && nat_le x b) then put_key x ys else ys) rest
    ∙ cond_both (nat_lt l x && nat_le x b) (put_key x (lows_within l b xs)) (lows_within l b xs)
    (λ ys. (if (nat_lt l x && nat_le x b) then put_key x (l ∷ lows_within l b xs) else l ∷ lows_within l b xs) ≡ l ∷ ys)
    (λ e. ap (λ z. if z then put_key x (l ∷ lows_within l b xs) else l ∷ lows_within l b xs) e
    ∙ put_behind x l (lows_within l b xs) (ltb-true l x (and_parts _ _ e).0))
    (λ e. ap (λ z. if z then put_key x (l ∷ lows_within l b xs) else l ∷ lows_within l b xs) e)

-- p is the page of its low key
pub page_of-next : (a : ℕ) (lows : List ℕ) (p : ℕ) → p < length lows → a < get_or lows p 0 → Least a lows p → page_of lows (get_or lows p 0) ≡ p
page_of-next a lows p lt up least =
    page_of-is lows (get_or lows p 0) p lt (omega arith) (λ q in_it le. le)
    (λ q below same. elim (least q (omega (arith, below, lt)) (omega (arith, same, up))) [
      | inl e ↦ absurd (omega (arith, e, below))
      | inr e ↦
          absurd (omega (arith, e, same))
    ])
