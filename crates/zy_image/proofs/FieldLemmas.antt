-- A field is a prefix of the bytes, and its number has it as its bytes.
use Rattle.std.proofs.Common.{◌≡◌, ℕ, zero, suc, ◌<◌, ◌^◌, false, nat_lt, List, [], ◌∷◌, ◌++◌, length, get_or, Result, Ok, Err, refl, sym, ap, ◌∙◌, subst}
use Rattle.std.proofs.Common.{arith}
use Rattle.std.proofs.lemmas.List.{take-append-drop, length-take-le, length-append}
use Rattle.std.proofs.Math.Seq.{take-append_seam, drop-append_seam}
use Rattle.std.proofs.lemmas.Nat.{be_bytes_2, from_be_bytes-to_be_bytes_2}
use Rattle.std.specs.Prelude.{take, drop}
use Rattle.std.specs.Int.{w16, to_be_bytes, from_be_bytes}
use Rattle.zy_isa.proofs.ResultLemmas.{bind_ok, if_err, not_over, over_not}
use Rattle.zy_image.specs.declared.faults.LoadFault.TheVariants as fault
use Rattle.zy_image.specs.Reading.{field, byte, half}

-- each is a byte
abbrev pub AreBytes : List ℕ → Type 0
AreBytes [] = Unit {0}
AreBytes (b ∷ bs) = (b < 256) × AreBytes bs

-- each element of a list of bytes is below 256, and so is the 0 behind its end
pub byte_at : (bs : List ℕ) → AreBytes bs → (i : ℕ) → get_or bs i 0 < 256
byte_at [] h i = omega arith
byte_at (b ∷ bs) h zero = h.0
byte_at (b ∷ bs) h (suc i) = byte_at bs h.1 i

-- a list whose elements are below 256 is a list of bytes
pub are_bytes : (bs : List ℕ) → ((i : ℕ) → get_or bs i 0 < 256) → AreBytes bs
are_bytes [] h = tt
are_bytes (b ∷ bs) h = (h 0, are_bytes bs (λ i. h (suc i)))

-- a prefix of bytes is bytes
pub front_bytes : (xs ys : List ℕ) → AreBytes (xs ++ ys) → AreBytes xs
front_bytes [] ys h = tt
front_bytes (x ∷ xs) ys h = (h.0, front_bytes xs ys h.1)

-- what is behind a prefix of bytes is bytes
pub back_bytes : (xs ys : List ℕ) → AreBytes (xs ++ ys) → AreBytes ys
back_bytes [] ys h = h
back_bytes (x ∷ xs) ys h = back_bytes xs ys h.1

-- ---- a field

-- the value of an answer, or this one at a fault
abbrev value_of : {A E : Type 0} → A → Result A E → A
value_of a (Ok b) = b
value_of a (Err e) = a

-- two answers that are one have one value
pub same_value : {A E : Type 0} (r : Result A E) (a b : A) → r ≡ Ok a → r ≡ Ok b → a ≡ b
same_value r a b g h = sym (ap (value_of a) g) ∙ ap (value_of a) h

-- an answer with a value
abbrev value : {A E : Type 0} → A → Result A E
value a = Ok a

-- equal answers have equal values
pub one_value : {A E : Type 0} (a b : A) → value {A = A} {E = E} a ≡ value b → a ≡ b
one_value a b h = ap (value_of a) h

-- the first value of an answer of two, or this one at a fault
abbrev first_of : {A B E : Type 0} → A → Result (A × B) E → A
first_of a (Ok p) = p.0
first_of a (Err e) = a

-- the second value of an answer of two, or this one at a fault
abbrev second_of : {A B E : Type 0} → B → Result (A × B) E → B
second_of b (Ok p) = p.1
second_of b (Err e) = b

-- two answers that are one have one value, and leave the same
pub one_answer : {A B E : Type 0} (a c : A) (b d : B) → value {A = A × B} {E = E} (a, b) ≡ value (c, d) → (a ≡ c) × (b ≡ d)
one_answer a c b d h = (ap (first_of a) h, ap (second_of b) h)

-- a prefix of the bytes was read: this number of bytes
pub record Front (n : ℕ) (bytes w left : List ℕ) : Type 0 where
  pub same : bytes ≡ w ++ left
  pub size : length w ≡ n
  pub front : AreBytes w
  pub back : AreBytes left

-- a field that was read is a prefix of the bytes, and has this number of bytes
pub field_found : (n size : ℕ) (bytes w left : List ℕ) → AreBytes bytes → field n size bytes ≡ Ok (w, left) → Front n bytes w left
field_found n size bytes w left fit h =
    let d = if_err (nat_lt (length bytes) n) (Ok (take n bytes, drop n bytes)) (fault.Truncated size) (w, left) h in
    let p = one_answer (take n bytes) w (drop n bytes) left d.1 in
    let e = p.0 in
    let f = p.1 in
    let all : bytes ≡ w ++ left = sym (take-append-drop n bytes) ∙ rw (e, f) refl in
    record {
      same = all;
      size = rw (sym e) (length-take-le n bytes (not_over n (length bytes) d.0));
      front = front_bytes w left (subst AreBytes all fit);
      back = back_bytes w left (subst AreBytes all fit);
    }

-- a prefix is read as a field of its length, and what is behind it is left
pub field_gives : (size : ℕ) (w left : List ℕ) → field (length w) size (w ++ left) ≡ Ok (w, left)
field_gives size w left =
    let enough : nat_lt (length (w ++ left)) (length w) ≡ false = over_not (length w) (length (w ++ left)) (omega (arith, length-append w left)) in
    rw (enough, take-append_seam w left, drop-append_seam w left) refl

-- ---- numbers

-- a number before the bytes
pub record Number (most : ℕ) (image : ℕ → List ℕ) (bytes : List ℕ) (n : ℕ) (left : List ℕ) : Type 0 where
  pub same : bytes ≡ image n ++ left
  pub fits : n < most
  pub back : AreBytes left

-- a field of one byte is that byte
one_byte : (w : List ℕ) → length w ≡ 1 → w ≡ get_or w 0 0 ∷ []
one_byte [] h = absurd (omega (arith, h))
one_byte (b ∷ []) h = refl
one_byte (b ∷ c ∷ w) h = absurd (omega (arith, h))

-- a number of one byte that was read is the first byte
pub byte_found : (size : ℕ) (bytes : List ℕ) (n : ℕ) (left : List ℕ) → AreBytes bytes → byte size bytes ≡ Ok (n, left) → Number 256 (λ b. b ∷ []) bytes n left
byte_found size bytes n left fit h =
    let f = bind_ok (field 1 size bytes) (λ f. Ok (get_or f.0 0 0, f.1)) (n, left) h in
    let w = f.0.0 in
    let d = field_found 1 size bytes w f.0.1 fit f.1 in
    let p = one_answer (get_or w 0 0) n f.0.1 left f.2 in
    let e = p.0 in
    let l = p.1 in
    record {
      same = d.same ∙ ap (λ x. x ++ f.0.1) (one_byte w d.size) ∙ rw (e, l) refl;
      fits = rw (sym e) (byte_at w d.front 0);
      back = rw (sym l) d.back;
    }

-- a byte is read as a number of one byte, and what is behind it is left
pub byte_gives : (size n : ℕ) (left : List ℕ) → byte size (n ∷ left) ≡ Ok (n, left)
byte_gives size n left = rw (field_gives size (n ∷ []) left) refl

-- a number of two bytes that was read has the first two bytes as its bytes
pub half_found : (size : ℕ) (bytes : List ℕ) (n : ℕ) (left : List ℕ) → AreBytes bytes → half size bytes ≡ Ok (n, left)
    → Number (2 ^ 16) (to_be_bytes w16) bytes n left
half_found size bytes n left fit h =
    let f = bind_ok (field 2 size bytes) (λ f. Ok (from_be_bytes w16 f.0, f.1)) (n, left) h in
    let w = f.0.0 in
    let d = field_found 2 size bytes w f.0.1 fit f.1 in
    let p = one_answer (from_be_bytes w16 w) n f.0.1 left f.2 in
    let e = p.0 in
    let l = p.1 in
    record {
      same = d.same ∙ ap (λ x. x ++ f.0.1) (sym (be_bytes_2 w n d.size (byte_at w d.front) (sym e))) ∙ rw l refl;
      fits = rw (sym e) (half_fits w d.size d.front);
      back = rw (sym l) d.back;
    }
  where
    half_fits : (w : List ℕ) → length w ≡ 2 → AreBytes w → from_be_bytes w16 w < 2 ^ 16
    half_fits [] h b = absurd (omega (arith, h))
    half_fits (x ∷ []) h b = absurd (omega (arith, h))
    half_fits (x ∷ y ∷ []) h b = omega (arith, b.0, b.1.0)
    half_fits (x ∷ y ∷ z ∷ w) h b = absurd (omega (arith, h))

-- the two bytes of a number below 65536 are read as it, and what is behind them is left
pub half_gives : (size n : ℕ) (left : List ℕ) → n < 2 ^ 16 → half size (to_be_bytes w16 n ++ left) ≡ Ok (n, left)
half_gives size n left fits = rw (field_gives size (to_be_bytes w16 n) left, from_be_bytes-to_be_bytes_2 n fits) refl
