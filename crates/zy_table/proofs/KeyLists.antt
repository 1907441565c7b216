-- How many keys there are.
use Rattle.std.proofs.Common.{List, [], ap, length, refl, suc, ℕ, ◌∙◌, ◌∷◌, ◌≡◌}
use Rattle.std.proofs.lemmas.Bool.{cond_both}
use Rattle.std.specs.Prelude.{nat_le}
use Rattle.zy_isa.specs.declared.row.Row.{Row}
use Rattle.zy_table.specs.Keys.{keys_of, put_key}

-- the keys with one put among them are one more
pub length-put_key : (k : ℕ) (xs : List ℕ) → length (put_key k xs) ≡ suc (length xs)
length-put_key k [] = refl
length-put_key k (x ∷ xs) = cond_both (nat_le k x) (k ∷ x ∷ xs) (x ∷ put_key k xs) (λ y. length y ≡ suc (suc (length xs))) (λ _. refl)
    (λ _. ap suc (length-put_key k xs))

-- there are as many keys as rows
pub length-keys : (rows : List Row) → length (keys_of rows) ≡ length rows
length-keys [] = refl
length-keys (r ∷ rows) = length-put_key r.key (keys_of rows) ∙ ap suc (length-keys rows)
