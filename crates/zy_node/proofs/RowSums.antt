-- A sum, row by row.
use Rattle.std.proofs.Common.{Bool, List, [], ap, arith, false, inl, inr, refl, suc, sym, true, zero, ℕ, ◌++◌, ◌+◌, ◌-◌, ◌<◌, ◌≤◌, ◌∙◌, ◌∷◌, ◌≡◌, None, Some}
use Rattle.std.specs.Prelude.{if◌then◌else◌, is_some, nat_le, not, unwrap_or, Option, ◌&&◌, ◌==◌, ◌⊎◌}
use Rattle.std.proofs.lemmas.Bool.{cases_Bool, cases_eq, cases_lt, eq-eqb, false≢true, false_from_ne_true, leb-false, leb-true, ne_eqb}
use Rattle.zy_isa.specs.Rows.{Rising, get_row}
use Rattle.zy_isa.specs.declared.row.Row.{Row}
use Rattle.zy_table.specs.Ranges.{keys_on, range, total}
use Rattle.zy_node.specs.Sums.{value_beside}
use Rattle.zy_table.proofs.RangeLists.{total_same}
use Rattle.zy_table.proofs.RisingRows.{rises_key}

-- the total of two values together is the sum of the total of each
pub total_plus : (f g : ℕ → ℕ) (ks : List ℕ) → total (λ k. f k + g k) ks ≡ total f ks + total g ks
total_plus f g [] = refl
total_plus f g (k ∷ ks) = let rest = total_plus f g ks in omega (arith, rest)

-- the total over two lists in a row is the sum of the total over each
pub total_append : (f : ℕ → ℕ) (xs ys : List ℕ) → total f (xs ++ ys) ≡ total f xs + total f ys
total_append f [] ys = omega arith
total_append f (x ∷ xs) ys = let rest = total_append f xs ys in omega (arith, rest)

-- m + n keys from k on are m keys from k on and n keys behind these
keys_split : (m n k : ℕ) → keys_on (m + n) k ≡ keys_on m k ++ keys_on n (k + m)
keys_split zero n k = let a : 0 + n ≡ n = omega arith in let b : k + 0 ≡ k = omega arith in rw (a, b) refl
keys_split (suc m) n k =
    let a : suc m + n ≡ suc (m + n) = omega arith in
    let b : k + suc m ≡ (k + 1) + m = omega arith in
    rw (a, b) (ap (λ ks. k ∷ ks) (keys_split m n (k + 1)))

-- the keys below c and those from c on
pub range_split : (a b c : ℕ) → a < c → c ≤ b → range a b ≡ range a (c - 1) ++ range c b
range_split a b c up le =
    let m : c - 1 + 1 - a ≡ c - a = omega (arith, up, le) in
    let all : b + 1 - a ≡ (c - a) + (b + 1 - c) = omega (arith, up, le) in
    let from : a + (c - a) ≡ c = omega (arith, up) in
    ap (λ z. keys_on z a) all ∙ keys_split (c - a) (b + 1 - c) a ∙ ap (λ z. keys_on (c - a) a ++ keys_on (b + 1 - c) z) from
    ∙ ap (λ z. keys_on z a ++ keys_on (b + 1 - c) c) (sym m)

-- a value at one key alone
abbrev at_key : ℕ → ℕ → ℕ → ℕ
at_key c v k = if k == c then v else 0

-- a value at key c alone is 0 at each other key
at_other : (c v k : ℕ) → (k ≡ c → ⊥) → at_key c v k ≡ 0
at_other c v k far = ap (λ b. if b then v else 0) (ne_eqb k c far)

-- a value at key c alone has the total 0 over keys without c
point_out : (c v n k : ℕ) → (c < k) ⊎ (k + n ≤ c) → total (at_key c v) (keys_on n k) ≡ 0
point_out c v zero k h = refl
point_out c v (suc n) k h =
    let first : at_key c v k ≡ 0 =
    at_other c v k (λ same. elim h [ inl less ↦ absurd (omega (arith, less, same)) | inr more ↦ absurd (omega (arith, more, same)) ]) in
    let rest = point_out c v n (k + 1) (elim h [ inl less ↦ inl (omega (arith, less)) | inr more ↦ inr (omega (arith, more)) ]) in
    omega (arith, first, rest)

-- a value at key c alone has itself as the total over keys with c
point_in : (c v n k : ℕ) → k ≤ c → c < k + n → total (at_key c v) (keys_on n k) ≡ v
point_in c v zero k low high = absurd (omega (arith, low, high))
point_in c v (suc n) k low high =
    elim (cases_eq k c) [
      | inl same ↦
          let first : at_key c v k ≡ v = ap (λ b. if b then v else 0) (eq-eqb k c same) in
          let rest = point_out c v n (k + 1) (inl (omega (arith, same))) in
          omega (arith, first, rest)
      | inr far ↦
          let first = at_other c v k far in
          let rest = point_in c v n (k + 1) (elim (cases_lt k c) [ inl less ↦ omega (arith, less) | inr not ↦ absurd (far (omega (arith, low, not))) ])
          (omega (arith, high)) in
          omega (arith, first, rest)
    ]

-- what some rows with keys from a to b have together, but for keys that others have
abbrev pub sum_beside : List Row → ℕ → ℕ → List Row → ℕ
sum_beside others a b [] = 0
sum_beside others a b (r ∷ rows) =
    (if nat_le a r.key && (nat_le r.key b && not (is_some (get_row others r.key))) then r.value else 0) + sum_beside others a b rows

-- a row's value, where others lack its key
abbrev own_value : List Row → Row → ℕ
own_value others r = if is_some (get_row others r.key) then 0 else r.value

-- 0 is 0, whichever branch gives it
none_twice : (b : Bool) → (if b then 0 else 0) ≡ (let z : ℕ = 0 in z)
none_twice true = refl
none_twice false = refl

-- what rows that rise have at a key, where others lack it, is what the first row has there and what those behind it have
row_apart : (others : List Row) (low : ℕ) (r : Row) (rows : List Row) (k : ℕ) → Rising low (r ∷ rows)
    → value_beside others (r ∷ rows) k ≡ at_key r.key (own_value others r) k + value_beside others rows k
row_apart others low r rows k rise =
    elim (cases_eq k r.key) [
      | inl same ↦
          let none : is_some (get_row rows k) ≡ false = false_from_ne_true _ (λ h. let up = rises_key (r.key + 1) rows k rise.1 h in
          absurd (omega (arith, up, same))) in
          let here : (r.key == k) ≡ true = eq-eqb _ _ (sym same) in
          let first : at_key r.key (own_value others r) k ≡ own_value others r = ap (λ b. if b then own_value others r else 0) (eq-eqb k r.key same) in
          let rest : value_beside others rows k ≡ 0 = ap (λ o. if is_some (get_row others k) then 0 else unwrap_or o 0) (none_of (get_row rows k) none)
          ∙ none_twice (is_some (get_row others k)) in
          let whole : value_beside others (r ∷ rows) k ≡ own_value others r = ap
          (λ b. if is_some (get_row others k) then 0 else unwrap_or (if b then Some r.value else get_row rows k) 0) here
          ∙ ap (λ z. if is_some (get_row others z) then 0 else r.value) same in
          omega (arith, first, rest, whole)
      | inr far ↦
          let off : (r.key == k) ≡ false = ne_eqb _ _ (λ e. far (sym e)) in
          let first = at_other r.key (own_value others r) k far in
          let whole : value_beside others (r ∷ rows) k ≡ value_beside others rows k =
          ap (λ b. if is_some (get_row others k) then 0 else unwrap_or (if b then Some r.value else get_row rows k) 0) off in
          omega (arith, first, whole)
    ]
  where
    none_of : (o : Option ℕ) → is_some o ≡ false → o ≡ None
    none_of None h = refl
    none_of (Some x) h = absurd (false≢true (sym h))

-- a value that is 0 at each key has the total 0
total_none : (f : ℕ → ℕ) (ks : List ℕ) → ((k : ℕ) → f k ≡ 0) → total f ks ≡ 0
total_none f [] h = refl
total_none f (k ∷ ks) h = let first = h k in let rest = total_none f ks h in omega (arith, first, rest)

-- the row's part of a sum
row_part : (others : List Row) (a b : ℕ) (r : Row) → total (at_key r.key (own_value others r)) (range a b)
    ≡ (if nat_le a r.key && (nat_le r.key b && not (is_some (get_row others r.key))) then r.value else 0)
row_part others a b r =
    elim (cases_Bool (nat_le a r.key)) [
      | inr low ↦ point_out r.key (own_value others r) (b + 1 - a) a (inl (leb-false a r.key low))
          ∙ sym (ap (λ t. if t && (nat_le r.key b && not (is_some (get_row others r.key))) then r.value else 0) low)
      | inl low ↦ elim (cases_Bool (nat_le r.key b)) [
        | inr high ↦
            let up = leb-false r.key b high in
            let from = leb-true a r.key low in
            point_out r.key (own_value others r) (b + 1 - a) a (inr (omega (arith, up, from)))
            ∙ sym (ap (λ t. if nat_le a r.key && (t && not (is_some (get_row others r.key))) then r.value else 0) high ∙ off (nat_le a r.key))
        | inl high ↦
            let from = leb-true a r.key low in
            let to = leb-true r.key b high in
            point_in r.key (own_value others r) (b + 1 - a) a from (omega (arith, from, to))
            ∙ sym (ap (λ t. if t && (nat_le r.key b && not (is_some (get_row others r.key))) then r.value else 0) low
            ∙ ap (λ t. if t && not (is_some (get_row others r.key)) then r.value else 0) high ∙ turned (is_some (get_row others r.key)) r.value)
      ]
    ]
  where
    off : (t : Bool) → (if t && false then r.value else 0) ≡ 0
    off true = refl
    off false = refl

    turned : (t : Bool) (v : ℕ) → (if not t then v else 0) ≡ (if t then 0 else v)
    turned true v = refl
    turned false v = refl

-- the sum over rows that rise, row by row, is the total over the keys of the range
pub sum_of_rows : (others : List Row) (a b low : ℕ) (rows : List Row) → Rising low rows
    → sum_beside others a b rows ≡ total (value_beside others rows) (range a b)
sum_of_rows others a b low [] rise = sym (total_none (value_beside others []) (range a b) (λ k. none_twice (is_some (get_row others k))))
sum_of_rows others a b low (r ∷ rows) rise =
    let rest = sum_of_rows others a b (r.key + 1) rows rise.1 in
    let first = row_part others a b r in
    let both = total_plus (at_key r.key (own_value others r)) (value_beside others rows) (range a b) in
    let whole = total_same (value_beside others (r ∷ rows)) (λ k. at_key r.key (own_value others r) k + value_beside others rows k) (range a b)
    (λ k _. row_apart others low r rows k rise) in
    omega (arith, rest, first, both, whole)

-- no row
pub no_rows : (others : List Row) (a b : ℕ) → total (value_beside others []) (range a b) ≡ 0
no_rows others a b = total_none (value_beside others []) (range a b) (λ k. none_twice (is_some (get_row others k)))

-- own rows and those beside them
pub own_apart : (o p : Option ℕ) → unwrap_or o (unwrap_or p 0) ≡ unwrap_or o 0 + (if is_some o then 0 else unwrap_or p 0)
own_apart None p = omega arith
own_apart (Some v) p = omega arith
