-- The page that a key lies on when there is one low key more.
use Rattle.std.proofs.Common.{◌≡◌, ◌∙◌, ℕ, ◌<◌, ◌≤◌, List, [], ◌∷◌, ◌++◌, length, length-append, get_or, refl, sym, ap, arith, ◌⊎◌, inl, inr}
use Rattle.std.specs.Prelude.{Contains}
use Rattle.std.proofs.lemmas.Bool.{cases_lt}
use Rattle.std.proofs.lemmas.List.{get_or_append_left, get_or_at, get_or_default}
use Rattle.zy_model.specs.Wireframe.{page_of}
use Rattle.zy_model.proofs.PageOf.{page_of-is, page_of-within, page_of-greatest, page_of-first, low_of_page}

-- what k's page has for a low key
record Lies (lows : List ℕ) (k : ℕ) : Type 0 where
  within : page_of lows k < length lows
  below : get_or lows (page_of lows k) 0 ≤ k
  most : (i : ℕ) → i < length lows → get_or lows i 0 ≤ k → get_or lows i 0 ≤ get_or lows (page_of lows k) 0

-- the page that k lies on is there, and has the greatest low key that is not above k, where page 0 is at 0
lies : (more : List ℕ) (k : ℕ) → Lies (0 ∷ more) k
lies more k =
    let lows = 0 ∷ more in
    let greatest = page_of-greatest lows k in
    record { within = page_of-within lows k (omega arith); below = (greatest 0 (omega arith) (omega arith)).0; most = λ i lt le. (greatest i lt le).1 }

-- no page before the one that k lies on has the same low key
first_there : (more : List ℕ) (k i : ℕ) → i < page_of (0 ∷ more) k → get_or (0 ∷ more) i 0 ≡ get_or (0 ∷ more) (page_of (0 ∷ more) k) 0 → ⊥
first_there more k i lt same = page_of-first (0 ∷ more) k i lt (same ∙ low_of_page (0 ∷ more) k 0 (omega arith) (omega arith))

-- a low key more that is above k, or not above the low key of k's page, changes nothing
stays : (more : List ℕ) (b k : ℕ) → (b ≤ k → b ≤ get_or (0 ∷ more) (page_of (0 ∷ more) k) 0) → page_of ((0 ∷ more) ++ b ∷ []) k ≡ page_of (0 ∷ more) k
stays more b k far =
    let lows = 0 ∷ more in
    let p = page_of lows k in
    let l = lies more k in
    let within = l.within in
    let long = length-append lows (b ∷ []) in
    let here = get_or_append_left lows (b ∷ []) 0 p within in
    let last = get_or_at lows b [] 0 (length lows) refl in
    page_of-is (lows ++ b ∷ []) k p (omega arith) (let low = l.below in omega arith)
    (λ i lt le. elim (cases_lt i (length lows)) [
      | inl less ↦ (let e = get_or_append_left lows (b ∷ []) 0 i less in let m = l.most i less (omega arith) in omega arith)
      | inr rest ↦ (let same : i ≡ length lows = omega arith in let e = ap (λ z. get_or (lows ++ b ∷ []) z 0) same ∙ last in let m = far (omega arith) in
          omega arith)
    ])
    (λ i lt same. let e = get_or_append_left lows (b ∷ []) 0 i (omega arith) in first_there more k i lt (sym e ∙ same ∙ here))

-- the new page takes k
takes : (more : List ℕ) (b k : ℕ) → b ≤ k → ((i : ℕ) → i < length (0 ∷ more) → get_or (0 ∷ more) i 0 ≤ k → get_or (0 ∷ more) i 0 < b)
    → page_of ((0 ∷ more) ++ b ∷ []) k ≡ length (0 ∷ more)
takes more b k le below =
    let lows = 0 ∷ more in
    let long = length-append lows (b ∷ []) in
    let last = get_or_at lows b [] 0 (length lows) refl in
    page_of-is (lows ++ b ∷ []) k (length lows) (omega arith) (omega arith)
    (λ i lt low. elim (cases_lt i (length lows)) [
      | inl less ↦ (let e = get_or_append_left lows (b ∷ []) 0 i less in let m = below i less (omega arith) in omega arith)
      | inr rest ↦ (let same : i ≡ length lows = omega arith in let e = ap (λ z. get_or (lows ++ b ∷ []) z 0) same in omega arith)
    ])
    (λ i lt same. let e = get_or_append_left lows (b ∷ []) 0 i lt in let m = below i lt (omega arith) in omega arith)

-- a key below the new low key stays on its page
pub page_of-cut_below : (more : List ℕ) (b k : ℕ) → k < b → page_of ((0 ∷ more) ++ b ∷ []) k ≡ page_of (0 ∷ more) k
page_of-cut_below more b k lt = stays more b k (λ le. absurd (omega arith))

-- a key of the page of b, and not below b, goes to the new page, where no page had b
pub page_of-cut_above : (more : List ℕ) (b k : ℕ) → (Contains (0 ∷ more) b → ⊥) → page_of (0 ∷ more) b ≡ page_of (0 ∷ more) k → b ≤ k
    → page_of ((0 ∷ more) ++ b ∷ []) k ≡ length (0 ∷ more)
page_of-cut_above more b k new same le =
    let lows = 0 ∷ more in
    let low = (lies more b).below in
    let page = ap (λ p. get_or lows p 0) same in
    takes more b k le (λ i lt under.
    let most = (lies more k).most i lt under in
    elim (cases_lt (get_or lows i 0) b) [
      | inl less ↦ less
      | inr rest ↦ absurd (new (i, lt, get_or_default lows i b 0 lt ∙ (let e : get_or lows i 0 ≡ b = omega arith in e)))
    ])

-- a key stays on its page, or goes to the new one from the page of b
pub page_of-cut : (more : List ℕ) (b k : ℕ) → (page_of ((0 ∷ more) ++ b ∷ []) k ≡ page_of (0 ∷ more) k)
    ⊎ ((page_of ((0 ∷ more) ++ b ∷ []) k ≡ length (0 ∷ more)) × (page_of (0 ∷ more) b ≡ page_of (0 ∷ more) k))
page_of-cut more b k =
    let lows = 0 ∷ more in
    let p = page_of lows k in
    let l = lies more k in
    let within = l.within in
    elim (cases_lt k b) [
      | inl below ↦ inl (page_of-cut_below more b k below)
      | inr above ↦ elim (cases_lt (get_or lows p 0) b) [
        | inl less ↦ inr (
          takes more b k above (λ i lt under. let m = l.most i lt under in omega arith),
          page_of-is lows b p within (omega arith) (λ i lt under. l.most i lt (omega arith)) (first_there more k),
        )
        | inr rest ↦ inl (stays more b k (λ _. rest))
      ]
    ]

-- the other keys stay
pub page_of-others : (more : List ℕ) (b k : ℕ) → (page_of (0 ∷ more) k ≡ page_of (0 ∷ more) b → ⊥) → page_of ((0 ∷ more) ++ b ∷ []) k ≡ page_of (0 ∷ more) k
page_of-others more b k other = elim (page_of-cut more b k) [ inl same ↦ same | inr new ↦ absurd (other (sym new.1)) ]
