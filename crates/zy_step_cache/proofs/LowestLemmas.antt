-- The lowest active transaction, one after another.
use Rattle.std.proofs.Common.{◌≡◌, ◌∙◌, ◌==◌, ◌&&◌, ◌+◌, ◌<◌, ◌≤◌, ℕ, zero, suc, List, [], ◌∷◌, length, drop, Option, None, slice_get, slice_index_or, true, false, refl, sym, ap, arith, cond}
use Rattle.std.specs.Prelude.{unwrap_or}
use Rattle.std.proofs.lemmas.Option.{unwrap_or-slice_get}
use Rattle.zy_isa.specs.declared.node.Node.{Node}
use Rattle.zy_state_ids.specs.Codes.{node_code}
use Rattle.zy_step_cache.specs.Places.{is_active_in, home_in, lowest_in}

-- no part has a number that is too large
pub none_there : (table : List (List ℕ)) (n : ℕ) → slice_get table n ≡ None → slice_index_or table n [] ≡ []
none_there table n e = sym (unwrap_or-slice_get table n []) ∙ ap (λ (o : Option (List ℕ)). unwrap_or o []) e

module _ (table : List (List ℕ)) (x : Node) where
  -- the one at a place is active there, or those behind it are looked at
  one_more : (ns : List ℕ) (t k d : ℕ) → t < length ns
      → lowest_in table x k (drop t ns)
      ≡ cond (is_active_in table (slice_index_or ns t d) && (home_in table (slice_index_or ns t d) == node_code x)) (suc k) (lowest_in table x (suc k) (drop (suc t) ns))
  one_more [] t k d h = absurd (omega (arith, h))
  one_more (n ∷ ns) zero k d h = refl
  one_more (n ∷ ns) (suc t) k d h = one_more ns t k d (omega (arith, h))

  -- it is
  pub found : (ns : List ℕ) (t m : ℕ) → t < length ns → m ≡ slice_index_or ns t m → (is_active_in table m && (home_in table m == node_code x)) ≡ true
      → lowest_in table x 0 ns ≡ lowest_in table x t (drop t ns) → t + 1 ≡ lowest_in table x 0 ns
  found ns t m h is active so_far =
      let next : t + 1 ≡ suc t = omega arith in
      let test = ap (λ i. is_active_in table i && (home_in table i == node_code x)) (sym is) ∙ active in
      next ∙ sym (so_far ∙ one_more ns t t m h ∙ ap (λ b. cond b (suc t) (lowest_in table x (suc t) (drop (suc t) ns))) test)

  -- it is not
  pub passed : (ns : List ℕ) (t m : ℕ) → t < length ns → m ≡ slice_index_or ns t m → (is_active_in table m && (home_in table m == node_code x)) ≡ false
      → lowest_in table x 0 ns ≡ lowest_in table x t (drop t ns) → lowest_in table x 0 ns ≡ lowest_in table x (t + 1) (drop (t + 1) ns)
  passed ns t m h is idle so_far =
      let next : suc t ≡ t + 1 = omega arith in
      let test = ap (λ i. is_active_in table i && (home_in table i == node_code x)) (sym is) ∙ idle in
      so_far ∙ one_more ns t t m h ∙ ap (λ b. cond b (suc t) (lowest_in table x (suc t) (drop (suc t) ns))) test ∙ ap (λ k. lowest_in table x k (drop k ns)) next

  -- all are passed
  pub none : (ns : List ℕ) (t : ℕ) → length ns ≤ t → lowest_in table x 0 ns ≡ lowest_in table x t (drop t ns) → 0 ≡ lowest_in table x 0 ns
  none ns t h so_far = sym (so_far ∙ ap (lowest_in table x t) (past ns t h))
    where
      past : (xs : List ℕ) (i : ℕ) → length xs ≤ i → drop i xs ≡ []
      past [] zero h = refl
      past [] (suc i) h = refl
      past (y ∷ ys) zero h = absurd (omega (arith, h))
      past (y ∷ ys) (suc i) h = past ys i (omega (arith, h))
