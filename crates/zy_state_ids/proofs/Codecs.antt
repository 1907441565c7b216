-- Prefix codes: what is coded, and what comes behind it, can be told from the bytes.
use Rattle.std.proofs.Common.{◌≡◌, ◌∙◌, ℕ, List, [], ◌∷◌, ◌++◌, length, refl, sym, ap, ap₂, append_assoc, arith}
use Rattle.std.specs.List.{flat_map}
use Rattle.zy_state_ids.specs.Packed.{number, items}

-- where codes begin the same bytes, the same is coded, and the same comes behind it
abbrev pub IsCode : {T : Type 0} → (T → List ℕ) → Type 0
IsCode {T} f = (x y : T) (r s : List ℕ) → f x ++ r ≡ f y ++ s → (x ≡ y) × (r ≡ s)

-- two codes, one behind the other
pub both : {S T : Type 0} (f : S → List ℕ) (g : T → List ℕ) → IsCode f → IsCode g → IsCode (λ (p : S × T). f p.0 ++ g p.1)
both f g cf cg p q r s e =
    let h = cf p.0 q.0 (g p.1 ++ r) (g q.1 ++ s) (sym (append_assoc (f p.0) (g p.1) r) ∙ e ∙ append_assoc (f q.0) (g q.1) s) in
    let k = cg p.1 q.1 r s h.1 in
    (ap₂ (λ x y. (x, y)) h.0 k.0, k.1)

-- the code of what a value shows, from which the value can be made again
pub shown : {S T : Type 0} (view : S → T) (again : T → S) → ((x : S) → again (view x) ≡ x) → (f : T → List ℕ) → IsCode f
    → IsCode (λ (x : S). f (view x))
shown view again back f cf x y r s e = let h = cf (view x) (view y) r s e in (sym (back x) ∙ ap again h.0 ∙ back y, h.1)

-- as many items, one behind the other
alike : {T : Type 0} (f : T → List ℕ) → IsCode f → (xs ys : List T) (r s : List ℕ) → length xs ≡ length ys
    → flat_map f xs ++ r ≡ flat_map f ys ++ s → (xs ≡ ys) × (r ≡ s)
alike f cf [] [] r s n e = (refl, e)
alike f cf [] (y ∷ ys) r s n e = cc
alike f cf (x ∷ xs) [] r s n e = cc
alike f cf (x ∷ xs) (y ∷ ys) r s n e =
    let h = cf x y (flat_map f xs ++ r) (flat_map f ys ++ s) (sym (append_assoc (f x) (flat_map f xs) r) ∙ e ∙ append_assoc (f y) (flat_map f ys) s) in
    let m : length xs ≡ length ys = omega (arith, n) in
    let k = alike f cf xs ys r s m h.1 in
    (ap₂ (λ z zs. z ∷ zs) h.0 k.0, k.1)

-- items with their number in front
pub listed : {T : Type 0} (f : T → List ℕ) → IsCode number → IsCode f → IsCode (items f)
listed f cn cf xs ys r s e =
    let h = cn (length xs) (length ys) (flat_map f xs ++ r) (flat_map f ys ++ s)
    (sym (append_assoc (number (length xs)) (flat_map f xs) r) ∙ e ∙ append_assoc (number (length ys)) (flat_map f ys) s) in
    alike f cf xs ys r s h.0 h.1
