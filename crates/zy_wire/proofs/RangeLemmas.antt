-- The keys that lie on a page.
use Rattle.std.proofs.Common.{◌≡◌, ◌∙◌, ℕ, ◌<◌, ◌≤◌, Bool, true, false, ◌&&◌, List, length, get_or, Option, None, Some, sym, subst, leb, eqb, refl, arith, inl}
use Rattle.std.proofs.Common.{inr}
use Rattle.std.proofs.lemmas.Bool.{and_parts, and_from, leb-true, ltb-true, le-leb, lt-ltb, eq-eqb, ne_eqb, cases_lt, true≢false}
use Rattle.std.proofs.lemmas.List.{get_or_default}
use Rattle.zy_model.specs.Wireframe.{page_of, IsNextLow}
use Rattle.zy_wire.specs.Ranges.{is_before}
use Rattle.zy_wire.specs.Pages.{Apart}
use Rattle.zy_model.proofs.PageOf.{page_of-is, page_of-greatest}

-- no low key from that of a page on, and not above k, is another
most : (lows : List ℕ) (p k q : ℕ) (end : Option ℕ) → IsNextLow lows (get_or lows p 0) end → is_before end k ≡ true → q < length lows → get_or lows q 0 ≤ k
    → get_or lows q 0 ≤ get_or lows p 0
most lows p k q None next before lt le = next q lt
most lows p k q (Some end) next before lt le = elim (cases_lt (get_or lows p 0) (get_or lows q 0)) [
  | inl up ↦ absurd (let least = next.2 q lt up in let b = ltb-true _ _ before in omega arith)
  | inr down ↦ down
]

-- where k lies on p it is below the next low key
ends : (lows : List ℕ) (p k : ℕ) (end : Option ℕ) → IsNextLow lows (get_or lows p 0) end → page_of lows k ≡ p → is_before end k ≡ true
ends lows p k None next on = refl
ends lows p k (Some end) next on = elim (cases_lt k end) [
  | inl below ↦ lt-ltb k end below
  | inr past ↦ absurd (
      let key = next.0 in
      let here : get_or lows key.0 0 ≡ end = get_or_default lows key.0 0 end key.1 ∙ key.2 in
      let g = page_of-greatest lows k key.0 key.1 (omega arith) in
      let held = subst (λ q. get_or lows key.0 0 ≤ get_or lows q 0) on g.1 in
      let up = next.1 in
      omega arith)
]

-- a test that is true if and only if two numbers are equal is the test for their equality
told : (b : Bool) (q p : ℕ) → (b ≡ true → q ≡ p) → (q ≡ p → b ≡ true) → b ≡ eqb q p
told true q p on from = sym (eq-eqb q p (on refl))
told false q p on from = sym (ne_eqb q p (λ same. true≢false (sym (from same))))

-- exactly the keys from p's low key on and below the next one lie on p
pub in_range-is : (lows : List ℕ) (p k : ℕ) (end : Option ℕ) → Apart lows → 1 ≤ length lows → get_or lows 0 0 ≡ 0 → p < length lows
    → IsNextLow lows (get_or lows p 0) end
    → (leb (get_or lows p 0) k && is_before end k) ≡ eqb (page_of lows k) p
in_range-is lows p k end apart some first there next =
    told _ (page_of lows k) p
    (λ is. let parts = and_parts _ _ is in page_of-is lows k p there (leb-true _ _ parts.0) (λ q lt le. most lows p k q end next parts.1 lt le)
    (λ q below same. apart q p below there same))
    (λ on. and_from _ _ (le-leb _ _ (subst (λ q. get_or lows q 0 ≤ k) on (page_of-greatest lows k 0 some (omega arith)).0)) (ends lows p k end next on))
