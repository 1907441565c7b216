-- Results that are Ok, and tests that decided.
use Rattle.std.proofs.Common.{◌≡◌, ℕ, ◌<◌, ◌≤◌, Bool, true, false, ◌&&◌, ◌||◌, nat_lt, nat_le, List, Result, Ok, Err, Option, Some, None, refl, sym, arith}
use Rattle.std.proofs.Common.{if◌then◌else◌, ok_or, inl, inr, ◌⊎◌}
use Rattle.std.specs.Prelude.{option_map}
use Rattle.std.specs.Option.{option_or}
use Rattle.std.specs.Str.{bytes_eq}
use Rattle.std.specs.Cmp.Lexicographic.{same_text}
use Rattle.zy_isa.specs.Results.{◌>>=◌}
use borrow.Author.Tests.{tests}

-- two steps that give Ok: the first gives Ok of some x, and the second, from that x, the result
pub bind_ok : {A B E : Type 0} (r : Result A E) (f : A → Result B E) (t : B) → (r >>= f) ≡ Ok t → (x : A) × (r ≡ Ok x) × (f x ≡ Ok t)
bind_ok (Ok x) f t h = (x, refl, h)
bind_ok (Err e) f t h = cc

-- a choice between a result and an error that gives Ok takes the result: its test is true
pub if_ok : {A E : Type 0} (b : Bool) (r : Result A E) (e : E) (t : A) → (if b then r else Err e) ≡ Ok t → (b ≡ true) × (r ≡ Ok t)
if_ok true r e t h = (refl, h)
if_ok false r e t h = cc

-- a choice between an error and a result that gives Ok takes the result: its test is false
pub if_err : {A E : Type 0} (b : Bool) (r : Result A E) (e : E) (t : A) → (if b then Err e else r) ≡ Ok t → (b ≡ false) × (r ≡ Ok t)
if_err true r e t h = cc
if_err false r e t h = (refl, h)

-- an option with an error for None gives Ok only if it is Some of that value
pub ok_or_ok : {A E : Type 0} (o : Option A) (e : E) (n : A) → ok_or o e ≡ Ok n → o ≡ Some n
ok_or_ok None e n h = cc
ok_or_ok (Some x) e n h = cc

-- both sides of a conjunction that is true are true
pub both : (a b : Bool) → (a && b) ≡ true → (a ≡ true) × (b ≡ true)
both true b h = (refl, h)
both false b h = cc

-- both sides of a disjunction that is false are false
pub neither : (a b : Bool) → (a || b) ≡ false → (a ≡ false) × (b ≡ false)
neither true b h = cc
neither false b h = (refl, h)

-- which branch of a chain of tests gave the value
pub chosen_by : {X : Type 0} (b : Bool) (x y z : X) → (if b then x else y) ≡ z → ((b ≡ true) × (x ≡ z)) ⊎ ((b ≡ false) × (y ≡ z))
chosen_by true x y z h = inl (refl, h)
chosen_by false x y z h = inr (refl, h)

-- the first option is there, or the second gave it
pub first_or : {X Y : Type 0} (f : X → Y) (o : Option X) (r : Option Y) (y : Y) → option_or (option_map f o) r ≡ Some y → ((x : X) × (o ≡ Some x) × (f x ≡ y))
    ⊎ (r ≡ Some y)
first_or f None r y h = inr h
first_or f (Some x) r y h = inl (x, refl, cc)

-- a number that is neither below a nor above b is in the range from a to b
pub in_range : (n a b : ℕ) → (nat_lt n a || nat_lt b n) ≡ false → (a ≤ n) × (n ≤ b)
in_range n a b h = (grind (arith, tests), grind (arith, tests))

-- a number in the range from a to b passes neither test for being outside it
pub out_of_neither : (n a b : ℕ) → a ≤ n → n ≤ b → (nat_lt n a || nat_lt b n) ≡ false
out_of_neither n a b p q = grind (arith, tests)

-- if the test m <= n fails, n is below m
pub below : (n m : ℕ) → nat_le m n ≡ false → n < m
below n m h = grind (arith, tests)

-- if n is below m, the test m <= n fails
pub not_below : (n m : ℕ) → n < m → nat_le m n ≡ false
not_below n m h = grind (arith, tests)

-- if the test b < a fails, a is at most b
pub not_over : (a b : ℕ) → nat_lt b a ≡ false → a ≤ b
not_over a b h = grind (arith, tests)

-- if a is at most b, the test b < a fails
pub over_not : (a b : ℕ) → a ≤ b → nat_lt b a ≡ false
over_not a b h = grind (arith, tests)

-- if the test b <= a fails, the test a < b passes
pub above : (a b : ℕ) → nat_le b a ≡ false → nat_lt a b ≡ true
above a b h = grind (arith, tests)

-- texts that the comparison of bytes finds equal are equal
pub same : (xs ys : List ℕ) → bytes_eq xs ys ≡ true → xs ≡ ys
same xs ys h = same_text xs ys (sym h)
