-- The bytes of a number are a prefix code: they can be read again.
use Rattle.std.proofs.Common.{◌≡◌, ◌∙◌, ℕ, ◌+◌, ◌*◌, ◌/◌, ◌%◌, List, [], ◌∷◌, ◌++◌, sym, ap, ap₂, false, nat_lt, if◌then◌else◌, inl, inr}
use Rattle.std.proofs.lemmas.Bool.{cases_Bool}
use Rattle.std.proofs.lemmas.Nat.{div-add-mod'}
use Rattle.zy_state_ids.specs.Packed.{number, half, long}
use Rattle.zy_state_ids.proofs.Codecs.{IsCode}

-- the first of some numbers, or 0
abbrev head : List ℕ → ℕ
head [] = 0
head (x ∷ xs) = x

-- the numbers behind the first
abbrev tail : List ℕ → List ℕ
tail [] = []
tail (x ∷ xs) = xs

-- the number that two bytes begin with, that four do, and that eight do
abbrev two : List ℕ → ℕ
two xs = head xs * 256 + head (tail xs)

abbrev four : List ℕ → ℕ
four xs = two xs * 65536 + two (tail (tail xs))

abbrev eight : List ℕ → ℕ
eight xs = four xs * 4294967296 + four (tail (tail (tail (tail xs))))

-- the number that bytes begin with, and the bytes behind it
abbrev read : List ℕ → ℕ × List ℕ
read xs =
    if nat_lt (head xs) 254 then (head xs, tail xs) else
    if nat_lt (head xs) 255 then (two (tail xs), tail (tail (tail xs))) else
    (eight (tail xs), tail (tail (tail (tail (tail (tail (tail (tail (tail xs)))))))))

-- two bytes, four and eight are the number again
two_again : (n : ℕ) → n / 256 * 256 + n % 256 ≡ n
two_again n = div-add-mod' n 256

four_again : (n : ℕ) → (n / 65536 / 256 * 256 + n / 65536 % 256) * 65536 + (n % 65536 / 256 * 256 + n % 65536 % 256) ≡ n
four_again n = ap₂ (λ x y. x * 65536 + y) (two_again (n / 65536)) (two_again (n % 65536)) ∙ div-add-mod' n 65536

eight_again : (n : ℕ) (r : List ℕ) → eight (tail (long n ++ r)) ≡ n
eight_again n r = ap₂ (λ x y. x * 4294967296 + y) (four_again (n / 4294967296)) (four_again (n % 4294967296)) ∙ div-add-mod' n 4294967296

-- a number of two bytes or eight
long_again : (n : ℕ) (r : List ℕ) → nat_lt n 254 ≡ false → read (number n ++ r) ≡ (n, r)
long_again n r h =
    let is = ap (λ b. if b then n ∷ [] else if nat_lt n 65536 then 254 ∷ half n else long n) h in
    elim (cases_Bool (nat_lt n 65536)) [
      | inl k ↦ ap (λ x. read (x ++ r)) (is ∙ ap (λ b. if b then 254 ∷ half n else long n) k) ∙ ap (λ x. (x, r)) (two_again n)
      | inr k ↦ ap (λ x. read (x ++ r)) (is ∙ ap (λ b. if b then 254 ∷ half n else long n) k) ∙ ap (λ x. (x, r)) (eight_again n r)
    ]

-- a number is read again from its bytes
read_again : (n : ℕ) (r : List ℕ) → read (number n ++ r) ≡ (n, r)
read_again n r =
    elim (cases_Bool (nat_lt n 254)) [
      | inl h ↦ ap (λ x. read (x ++ r)) (ap (λ b. if b then n ∷ [] else if nat_lt n 65536 then 254 ∷ half n else long n) h)
          ∙ ap (λ b. if b then (n, r) else if nat_lt n 255 then (two r, tail (tail r)) else (eight r, tail (tail (tail (tail (tail (tail (tail (tail r))))))))) h
      | inr h ↦ long_again n r h
    ]

-- so it is known by them
pub number_is_code : IsCode number
number_is_code n m r s e =
    let same = sym (read_again n r) ∙ ap read e ∙ read_again m s in
    (ap (λ p. p.0) same, ap (λ p. p.1) same)
