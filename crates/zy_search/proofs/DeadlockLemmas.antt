-- What is left of those that wait is what waits for one another.
use Rattle.std.proofs.Common.{◌≡◌, ◌∙◌, ◌+◌, ◌≤◌, ◌<◌, ◌⊎◌, ◌&&◌, ◌||◌, ◌∷◌, [], inl, inr, ℕ, zero, suc, List, Bool, true, false, not, length, cond}
use Rattle.std.proofs.Common.{refl, sym, ap, subst, arith, ◌==◌}
use Rattle.std.proofs.Math.Bool.{false≢true}
use Rattle.std.specs.List.{list_any, filter}
use Rattle.std.proofs.lemmas.Bool.{cases_lt, or_right}
use Rattle.std.proofs.lemmas.Bool.Decides.{nat_tests}
use Rattle.std.proofs.lemmas.List.Elements.{filter_agree}
use Rattle.zy_isa.specs.Scenario.{Scenario}
use Rattle.zy_table.specs.State.{State}
use Rattle.zy_search.specs.declared.deadlock.Wait.{Wait}
use Rattle.zy_search.specs.Deadlocks.{is_for, kept, left, waits_below, is_deadlocked, IsCycle}

-- ---- filters

-- two tests, in either order
both : (b c : Bool) → b && c ≡ c && b
both true true = refl
both true false = refl
both false true = refl
both false false = refl

-- where b implies c
or_more : (a b c : Bool) → (b ≡ true → c ≡ true) → a || b ≡ true → a || c ≡ true
or_more true b c f e = refl
or_more false b c f e = f e

module _ {X : Type 0} where
  -- where b implies c, what b keeps is no longer than what c keeps
  no_longer : (b c : Bool) (x : X) (us vs : List X) → (b ≡ true → c ≡ true) → length us ≤ length vs
      → length (cond b (x ∷ us) us) ≤ length (cond c (x ∷ vs) vs)
  no_longer true true x us vs f le = omega (arith, le)
  no_longer true false x us vs f le = absurd (false≢true (f refl))
  no_longer false true x us vs f le = omega (arith, le)
  no_longer false false x us vs f le = le

  -- a test that passes wherever another one does keeps at least as many
  at_least : (q p : X → Bool) → ((x : X) → q x ≡ true → p x ≡ true) → (xs : List X) → length (filter q xs) ≤ length (filter p xs)
  at_least q p f [] = omega arith
  at_least q p f (x ∷ xs) = no_longer (q x) (p x) x (filter q xs) (filter p xs) (f x) (at_least q p f xs)

  -- what passes each
  keeps_all : (xs : List X) → filter (λ x. true) xs ≡ xs
  keeps_all [] = refl
  keeps_all (x ∷ xs) = ap (λ us. x ∷ us) (keeps_all xs)

  -- a filter keeps no more than there are
  at_most : (p : X → Bool) (xs : List X) → length (filter p xs) ≤ length xs
  at_most p xs = subst (λ us. length (filter p xs) ≤ length us) (keeps_all xs) (at_least p (λ x. true) (λ x e. refl) xs)

  -- where it keeps as many it keeps all
  whole_at : (b : Bool) (x : X) (us xs : List X) → length us ≤ length xs → (length xs ≤ length us → us ≡ xs) → length xs + 1 ≤ length (cond b (x ∷ us) us)
      → cond b (x ∷ us) us ≡ x ∷ xs
  whole_at true x us xs most same le = ap (λ l. x ∷ l) (same (omega (arith, le)))
  whole_at false x us xs most same le = absurd (omega (arith, most, le))

  whole : (p : X → Bool) (xs : List X) → length xs ≤ length (filter p xs) → filter p xs ≡ xs
  whole p [] le = refl
  whole p (x ∷ xs) le = whole_at (p x) x (filter p xs) xs (at_most p xs) (whole p xs) (omega (arith, le))

  -- so where a test keeps all, one that passes wherever it does keeps all
  keeps_too : (q p : X → Bool) → ((x : X) → q x ≡ true → p x ≡ true) → (xs : List X) → filter q xs ≡ xs → filter p xs ≡ xs
  keeps_too q p f xs e = whole p xs (omega (arith, at_least q p f xs, ap (λ (l : List X). length l) e))

  -- one filter after another
  twice_at : (p : X → Bool) (b : Bool) (x : X) (us vs : List X) → filter p us ≡ vs → filter p (cond b (x ∷ us) us) ≡ cond (b && p x) (x ∷ vs) vs
  twice_at p true x us vs e = ap (λ l. cond (p x) (x ∷ l) l) e
  twice_at p false x us vs e = e

  twice : (p t : X → Bool) (xs : List X) → filter p (filter t xs) ≡ filter (λ x. t x && p x) xs
  twice p t [] = refl
  twice p t (x ∷ xs) = twice_at p (t x) x (filter t xs) (filter (λ y. t y && p y) xs) (twice p t xs)

  -- two filters, in either order
  in_turn : (p t : X → Bool) (xs : List X) → filter t (filter p xs) ≡ filter p (filter t xs)
  in_turn p t xs = twice t p xs ∙ (filter_agree (λ x. p x && t x) (λ x. t x && p x) (λ x. both (p x) (t x)) xs ∙ sym (twice p t xs))

  -- what one of some passes, one of more passes
  any_at : (r : X → Bool) (b : Bool) (x : X) (us xs : List X) → (list_any r us ≡ true → list_any r xs ≡ true) → list_any r (cond b (x ∷ us) us) ≡ true
      → r x || list_any r xs ≡ true
  any_at r true x us xs f e = or_more (r x) (list_any r us) (list_any r xs) f e
  any_at r false x us xs f e = or_right _ _ (f e)

  any_of : (r t : X → Bool) (xs : List X) → list_any r (filter t xs) ≡ true → list_any r xs ≡ true
  any_of r t [] e = e
  any_of r t (x ∷ xs) e = any_at r (t x) x (filter t xs) xs (any_of r t xs) e

-- ---- those that wait

-- at least one
some : (n : ℕ) → not (n == 0) ≡ true → 0 < n
some n e = grind (arith, nat_tests, e)

not_none : (n : ℕ) → 0 < n → not (n == 0) ≡ true
not_none n lt = grind (arith, nat_tests, lt)

-- whether w waits for one of some
abbrev waits_in : State → List Wait → Wait → Bool
waits_in s us w = list_any (λ x. is_for s w x) us

module _ (s : State) (ws : List Wait) where
  -- after n times at least n are gone, or no more go
  settled : (n : ℕ) → (length (left s ws n) + n ≤ length ws) ⊎ (kept s (left s ws n) ≡ left s ws n)
  settled zero = inl (omega arith)
  settled (suc n) =
      let us = left s ws n in
      elim (settled n) [
        | inr e ↦ inr (ap (kept s) e)
        | inl le ↦ elim (cases_lt (length (kept s us)) (length us)) [
          | inl less ↦ inl (omega (arith, le, less))
          | inr ge ↦ inr (ap (kept s) (whole (waits_in s us) us ge))
        ]
      ]

  -- what is left is what passes a test
  chosen : (n : ℕ) → (test : Wait → Bool) × (left s ws n ≡ filter test ws)
  chosen zero = (λ w. true, sym (keeps_all ws))
  chosen (suc n) =
      let c = chosen n in
      let us = left s ws n in
      (λ w. c.0 w && waits_in s us w, ap (λ vs. filter (waits_in s us) vs) c.1 ∙ twice (waits_in s us) c.0 ws)

  -- those that wait for one another are left
  stays : (test : Wait → Bool) → kept s (filter test ws) ≡ filter test ws → (n : ℕ) → filter test (left s ws n) ≡ filter test ws
  stays test closed zero = refl
  stays test closed (suc n) =
      let us = left s ws n in
      let same = stays test closed n in
      let fixed : kept s (filter test us) ≡ filter test us = subst (λ vs. kept s vs ≡ vs) (sym same) closed in
      in_turn (waits_in s us) test us
      ∙ (keeps_too (waits_in s (filter test us)) (waits_in s us) (λ w. any_of (λ x. is_for s w x) test us) (filter test us) fixed ∙ same)

-- where some are left, they wait for one another
pub cycle_of : (sc : Scenario) (s : State) → is_deadlocked sc s ≡ true → (test : Wait → Bool) × IsCycle sc s test
cycle_of sc s e =
    let ws = waits_below sc s (length s.txns) in
    let c = chosen s ws (length ws) in
    let many = some (length (left s ws (length ws))) e in
    let fixed : kept s (left s ws (length ws)) ≡ left s ws (length ws) =
    elim (settled s ws (length ws)) [
      | inl le ↦ absurd (omega (arith, many, le))
      | inr same ↦ same
    ] in
    (c.0, (subst (λ us. 0 < length us) c.1 many, subst (λ us. kept s us ≡ us) c.1 fixed))

-- where some wait for one another, some are left
pub deadlock_of : (sc : Scenario) (s : State) (test : Wait → Bool) → IsCycle sc s test → is_deadlocked sc s ≡ true
deadlock_of sc s test c =
    let ws = waits_below sc s (length s.txns) in
    let us = left s ws (length ws) in
    not_none (length us) (omega (arith, c.0, at_most test us, ap (λ (l : List Wait). length l) (stays s ws test c.1 (length ws))))
