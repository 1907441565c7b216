-- From each position `cont` goes to one place, and so does `rcont`.
use Rattle.std.proofs.Common.{◌≡◌, ◌∙◌, ℕ, suc, zero, ◌<◌, ◌≤◌, Bool, true, false, nat_le, nat_lt, length, Option, Some, None, refl, sym, ap, arith, ◌⊎◌, inl}
use Rattle.std.proofs.Common.{inr}
use Rattle.std.proofs.lemmas.Bool.Decides.{nat_tests}
use Rattle.std.proofs.lemmas.Option.{none-some}
use Rattle.zy_isa.specs.Scenario.{Scenario}
use Rattle.zy_debug.specs.Stops.{Slots, firing}
use Rattle.zy_debug.specs.Scans.{IsNext, IsLast, Conts, RConts}

-- What fires at each position.
module _ (F : ℕ → Option ℕ) where
  -- none above p and at most at e
  abbrev NoneTo : ℕ → ℕ → Type 0
  NoneTo p e = (k : ℕ) → p < k → k ≤ e → F k ≡ None

  -- none above b and below p
  abbrev NoneBetween : ℕ → ℕ → Type 0
  NoneBetween b p = (k : ℕ) → b < k → k < p → F k ≡ None

  -- i at m, which is the least position above p and at most at e
  record FirstTo (p e : ℕ) : Type 0 where
    m : ℕ
    i : ℕ
    above : p < m
    most : m ≤ e
    fires : F m ≡ Some i
    least : NoneBetween p m

  -- i at m, which is the greatest position above 0 and below p
  record LastBelow (p : ℕ) : Type 0 where
    m : ℕ
    i : ℕ
    above : 0 < m
    below : m < p
    fires : F m ≡ Some i
    greatest : NoneBetween m p

  -- where none fires up to e, nor at the position above it, none fires up to that one
  none_by : (p e k : ℕ) (t : Bool) → nat_le k e ≡ t → NoneTo p e → F (suc e) ≡ None → p < k → k ≤ suc e → F k ≡ None
  none_by p e k true w h n a b = h k a (grind (arith, nat_tests, w))
  none_by p e k false w h n a b = let same : k ≡ suc e = grind (arith, nat_tests, w, b) in ap F same ∙ n

  -- the least position, with one position more
  first_more : (p e : ℕ) (t : Bool) (o : Option ℕ) → nat_lt p (suc e) ≡ t → F (suc e) ≡ o → NoneTo p e → FirstTo p (suc e) ⊎ NoneTo p (suc e)
  first_more p e false o w f h = inr (λ k a b. absurd (grind (arith, nat_tests, w, a, b)))
  first_more p e true None w f h = inr (λ k a b. none_by p e k (nat_le k e) refl h f a b)
  first_more p e true (Some i) w f h = inl (record {
    m = suc e;
    i = i;
    above = grind (arith, nat_tests, w);
    most = omega arith;
    fires = f;
    least = λ k a b. h k a (omega (arith, b));
  })

  -- there is a least one, or none
  first_to : (p e : ℕ) → FirstTo p e ⊎ NoneTo p e
  first_to p zero = inr (λ k a b. absurd (omega (arith, a, b)))
  first_to p (suc e) = elim (first_to p e) [
    | inl h ↦ inl (record { m = h.m; i = h.i; above = h.above; most = omega (arith, h.most); fires = h.fires; least = h.least })
    | inr h ↦ first_more p e (nat_lt p (suc e)) (F (suc e)) refl refl h
  ]

  -- where none fires below p, nor at it, none fires up to it
  none_below : (b p k : ℕ) (t : Bool) → nat_lt k p ≡ t → NoneBetween b p → F p ≡ None → b < k → k < suc p → F k ≡ None
  none_below b p k true w h n a c = h k a (grind (arith, nat_tests, w))
  none_below b p k false w h n a c = let same : k ≡ p = grind (arith, nat_tests, w, c) in ap F same ∙ n

  -- the greatest position stays so where none fires at the next one
  last_kept : (p : ℕ) → F p ≡ None → LastBelow p ⊎ NoneBetween 0 p → LastBelow (suc p) ⊎ NoneBetween 0 (suc p)
  last_kept p n (inl h) = inl (record {
    m = h.m;
    i = h.i;
    above = h.above;
    below = omega (arith, h.below);
    fires = h.fires;
    greatest = λ k a c. none_below h.m p k (nat_lt k p) refl h.greatest n a c;
  })
  last_kept p n (inr h) = inr (λ k a c. none_below 0 p k (nat_lt k p) refl h n a c)

  -- the greatest position, with one position more
  last_more : (p : ℕ) (t : Bool) (o : Option ℕ) → nat_lt 0 p ≡ t → F p ≡ o → LastBelow p ⊎ NoneBetween 0 p → LastBelow (suc p) ⊎ NoneBetween 0 (suc p)
  last_more p false o w f h = inr (λ k a c. absurd (grind (arith, nat_tests, w, a, c)))
  last_more p true None w f h = last_kept p f h
  last_more p true (Some i) w f h = inl (record {
    m = p;
    i = i;
    above = grind (arith, nat_tests, w);
    below = omega arith;
    fires = f;
    greatest = λ k a c. absurd (omega (arith, a, c));
  })

  -- there is a greatest one, or none
  last_below : (p : ℕ) → LastBelow p ⊎ NoneBetween 0 p
  last_below zero = inr (λ k a c. absurd (omega (arith, c)))
  last_below (suc p) = last_more p (nat_lt 0 p) (F p) refl refl (last_below p)

-- The stops of a scenario, and a position.
module _ (sc : Scenario) (slots : Slots) (p : ℕ) where
  -- there is a place to go on to
  pub goes_on : (m : ℕ) × (i : Option ℕ) × Conts sc slots p i m
  goes_on = elim (first_to (firing sc slots) p (length sc.choices)) [
    | inl h ↦ (h.m, Some h.i, record { above = h.above; most = h.most; fires = h.fires; least = h.least })
    | inr h ↦ (length sc.choices, None, (refl, h))
  ]

  -- and one to go back to
  pub goes_back : (m : ℕ) × (i : Option ℕ) × RConts sc slots p i m
  goes_back = elim (last_below (firing sc slots) p) [
    | inl h ↦ (h.m, Some h.i, record { above = h.above; below = h.below; fires = h.fires; greatest = h.greatest })
    | inr h ↦ (0, None, (refl, h))
  ]

  -- at one position one stop is the lowest
  both : (m n i j : ℕ) → m ≡ n → firing sc slots m ≡ Some i → firing sc slots n ≡ Some j → (m ≡ n) × (Some i ≡ Some j)
  both m n i j same h k = (same, sym h ∙ ap (firing sc slots) same ∙ k)

  -- the next position is one
  next_once : (m n i j : ℕ) (t u : Bool) → nat_lt m n ≡ t → nat_lt n m ≡ u → IsNext sc slots p m i → IsNext sc slots p n j → (m ≡ n) × (Some i ≡ Some j)
  next_once m n i j true u w v h k = absurd (none-some i (sym (k.least m h.above (grind (arith, nat_tests, w))) ∙ h.fires))
  next_once m n i j false true w v h k = absurd (none-some j (sym (h.least n k.above (grind (arith, nat_tests, v))) ∙ k.fires))
  next_once m n i j false false w v h k = both m n i j (grind (arith, nat_tests, w, v)) h.fires k.fires

  -- there is no other place to go on to
  pub goes_on_once : (i j : Option ℕ) (m n : ℕ) → Conts sc slots p i m → Conts sc slots p j n → (m ≡ n) × (i ≡ j)
  goes_on_once (Some i) (Some j) m n h k = next_once m n i j (nat_lt m n) (nat_lt n m) refl refl h k
  goes_on_once (Some i) None m n h k = absurd (none-some i (sym (k.1 m h.above h.most) ∙ h.fires))
  goes_on_once None (Some j) m n h k = absurd (none-some j (sym (h.1 n k.above k.most) ∙ k.fires))
  goes_on_once None None m n h k = (h.0 ∙ sym k.0, refl)

  -- the last position is one
  last_once : (m n i j : ℕ) (t u : Bool) → nat_lt m n ≡ t → nat_lt n m ≡ u → IsLast sc slots 0 p m i → IsLast sc slots 0 p n j → (m ≡ n) × (Some i ≡ Some j)
  last_once m n i j true u w v h k = absurd (none-some j (sym (h.greatest n (grind (arith, nat_tests, w)) k.below) ∙ k.fires))
  last_once m n i j false true w v h k = absurd (none-some i (sym (k.greatest m (grind (arith, nat_tests, v)) h.below) ∙ h.fires))
  last_once m n i j false false w v h k = both m n i j (grind (arith, nat_tests, w, v)) h.fires k.fires

  -- nor to go back to
  pub goes_back_once : (i j : Option ℕ) (m n : ℕ) → RConts sc slots p i m → RConts sc slots p j n → (m ≡ n) × (i ≡ j)
  goes_back_once (Some i) (Some j) m n h k = last_once m n i j (nat_lt m n) (nat_lt n m) refl refl h k
  goes_back_once (Some i) None m n h k = absurd (none-some i (sym (k.1 m h.above h.below) ∙ h.fires))
  goes_back_once None (Some j) m n h k = absurd (none-some j (sym (h.1 n k.above k.below) ∙ k.fires))
  goes_back_once None None m n h k = (h.0 ∙ sym k.0, refl)
