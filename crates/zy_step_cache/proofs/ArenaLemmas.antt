-- Lists of numbers that stand one behind the other.
use Rattle.std.proofs.Common.{◌==◌, ◌&&◌, ◌||◌, true, inl, inr, Global, Vec, map, length-append, ◌≡◌, ◌∙◌, ◌++◌, ◌∷◌, ◌+◌, ◌*◌, ◌<◌, ◌≤◌, [], ℕ, zero, suc, List, Some, drop, length, slice_get, take, refl, sym, ap, ap₂, arith}
use Rattle.std.proofs.lemmas.List.{append-nil, append_assoc, drop-append-le, drop-drop, length-drop, length-map, map-append, take-append-le, take_all}
use Rattle.std.proofs.lemmas.Bool.{and_parts, eqb-true, or_cases}
use Rattle.zy_step_cache.specs.Even.{even_lists}

-- there are as many as they say
pub as_many : (w n : ℕ) (ns : List ℕ) → length (even_lists w n ns) ≡ n
as_many w zero ns = refl
as_many w (suc n) ns = ap suc (as_many w n (drop w ns))

-- each stands behind as many numbers as those before it have
pub list_at : (w n : ℕ) (ns : List ℕ) (i : ℕ) → i < n → slice_get (even_lists w n ns) i ≡ Some (take w (drop (i * w) ns))
list_at w zero ns i lt = absurd (omega (arith, lt))
list_at w (suc n) ns zero lt =
    let none : 0 ≡ zero * w = omega arith in
    ap (λ k. Some (take w (drop k ns))) none
list_at w (suc n) ns (suc i) lt =
    let further : w + i * w ≡ suc i * w = omega arith in
    list_at w n (drop w ns) i (omega (arith, lt)) ∙ ap (λ xs. Some (take w xs)) (drop-drop (i * w) w ns ∙ ap (λ k. drop k ns) further)

-- numbers that come behind the others are one list more
pub one_more : (w n : ℕ) (ns more : List ℕ) → length ns ≡ n * w → length more ≡ w → even_lists w (suc n) (ns ++ more) ≡ even_lists w n ns ++ more ∷ []
one_more w zero [] more many wide = ap (λ xs. xs ∷ []) (take_all w more (omega (arith, wide)))
one_more w zero (x ∷ ns) more many wide = absurd (omega (arith, many))
one_more w (suc n) ns more many wide =
    let within : w ≤ length ns = omega (arith, many) in
    let rest : length (drop w ns) ≡ n * w = omega (arith, length-drop w ns, many) in
    ap₂ (λ x xs. x ∷ xs) (take-append-le w ns more within)
    (ap (even_lists w (suc n)) (drop-append-le w ns more within) ∙ one_more w n (drop w ns) more rest wide)

-- a place among the first of two lists
pub get_within : {X : Type 0} (xs ys : List X) (i : ℕ) → i < length xs → slice_get (xs ++ ys) i ≡ slice_get xs i
get_within [] ys i lt = absurd (omega (arith, lt))
get_within (x ∷ xs) ys zero lt = refl
get_within (x ∷ xs) ys (suc i) lt = get_within xs ys i (omega (arith, lt))

-- a place behind them
pub get_behind : {X : Type 0} (xs ys : List X) (i j : ℕ) → i ≡ length xs + j → slice_get (xs ++ ys) i ≡ slice_get ys j
get_behind [] ys i j e =
    let same : i ≡ j = omega (arith, e) in
    ap (slice_get ys) same
get_behind (x ∷ xs) ys zero j e = absurd (omega (arith, e))
get_behind (x ∷ xs) ys (suc i) j e = get_behind xs ys i j (omega (arith, e))

-- the lists behind the even ones
abbrev pub items_of : List (Vec ℕ Global) → List (List ℕ)
items_of vs = map (λ (v : Vec ℕ Global). v.items) vs

-- there are as many lists as even ones and others
pub many_lists : (w n : ℕ) (ns : List ℕ) (vs : List (Vec ℕ Global)) → length (even_lists w n ns ++ items_of vs) ≡ n + length vs
many_lists w n ns vs = omega (arith, length-append (even_lists w n ns) (items_of vs), as_many w n ns, length-map vs (λ (v : Vec ℕ Global). v.items))

-- a list as long as those before it comes behind them
pub even_more : (w even len : ℕ) (ns more : List ℕ) (vs : List (Vec ℕ Global)) → length ns ≡ even * w → len ≡ even + length vs
    → ((len == 0) || ((even == len) && (length more == w))) ≡ true
    → even_lists (length more) (suc len) (ns ++ more) ++ items_of vs ≡ (even_lists w even ns ++ items_of vs) ++ more ∷ []
even_more w even len ns more (v ∷ vs) many all fits = elim (or_cases (len == 0) ((even == len) && (length more == w)) fits) [
  | inl none ↦ absurd (omega (arith, all, eqb-true len 0 none))
  | inr same ↦ absurd (omega (arith, all, eqb-true even len (and_parts (even == len) (length more == w) same).0))
]
even_more w even len ns more [] many all fits = elim (or_cases (len == 0) ((even == len) && (length more == w)) fits) [
  | inl none ↦
      let no : even ≡ 0 = omega (arith, all, eqb-true len 0 none) in
      let empty : length ns ≡ 0 = omega (arith, many, ap (λ k. k * w) no) in
      first len even ns (eqb-true len 0 none) no empty
  | inr same ↦
      let is = and_parts (even == len) (length more == w) same in
      let as_long : length more ≡ w = eqb-true (length more) w is.1 in
      let here : len ≡ even = sym (eqb-true even len is.0) in
      append-nil (even_lists (length more) (suc len) (ns ++ more))
      ∙ ap₂ (λ k n. even_lists k (suc n) (ns ++ more)) as_long here
      ∙ one_more w even ns more many as_long
      ∙ ap (λ xs. xs ++ more ∷ []) (sym (append-nil (even_lists w even ns)))
]
  where
    first : (len even : ℕ) (ns : List ℕ) → len ≡ 0 → even ≡ 0 → length ns ≡ 0
        → even_lists (length more) (suc len) (ns ++ more) ++ [] ≡ (even_lists w even ns ++ []) ++ more ∷ []
    first len even (n ∷ ns) l e z = absurd (omega (arith, z))
    first (suc len) even [] l e z = absurd (omega (arith, l))
    first zero (suc even) [] l e z = absurd (omega (arith, e))
    first zero zero [] l e z = ap (λ xs. xs ∷ []) (take_all (length more) more (omega arith))

-- a list of another length comes behind the others
pub other_more : (xs : List (List ℕ)) (vs : List (Vec ℕ Global)) (v : Vec ℕ Global) → xs ++ items_of (vs ++ v ∷ []) ≡ (xs ++ items_of vs) ++ v.items ∷ []
other_more xs vs v =
    ap (λ ys. xs ++ ys) (map-append (λ (x : Vec ℕ Global). x.items) vs (v ∷ [])) ∙ sym (append_assoc xs (items_of vs) (v.items ∷ []))
