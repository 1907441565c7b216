-- A word gives the instruction whose word it is.
use Rattle.std.proofs.Common.{◌≡◌, ◌==◌, ℕ, zero, suc, ◌+◌, ◌<◌, ◌^◌, ◌&&◌, List, [], ◌∷◌, length, get_or, Option, Some, None, IfSome, refl, sym, ap, ◌∙◌}
use Rattle.std.proofs.Common.{subst, arith}
use Rattle.std.proofs.lemmas.Bool.{cond_both}
use Rattle.std.proofs.lemmas.List.{drop_more, drop_all}
use Rattle.std.proofs.lemmas.Nat.{be_bytes_4, from_be_bytes-to_be_bytes_4}
use Rattle.std.specs.Prelude.{option_map, drop}
use Rattle.std.specs.Int.{w32, to_be_bytes, from_be_bytes}
use Rattle.zy_isa.specs.declared.instr.Reg.{Reg}
use Rattle.zy_isa.specs.declared.instr.Reg.TheVariants.{R0, R1, R2, R3, R4, R5, R6, R7}
use Rattle.zy_isa.specs.declared.instr.Instr.{Instr}
use Rattle.zy_isa.specs.declared.operation.Operation.{Operation}
use Rattle.zy_isa.specs.declared.operation.Operation.TheVariants as op
use Rattle.zy_isa.specs.declared.operation.Parts.{Parts}
use Rattle.zy_isa.specs.declared.operation.Parts.TheVariants.{Number, Pair, Jump, Lone}
use Rattle.zy_isa.specs.Registers.{number_of, registers}
use Rattle.zy_isa.specs.Programs.{HasValue, PartsFit}
use Rattle.zy_isa.specs.Operations.{opcode, coded, instr_with, parts_of}
use Rattle.zy_isa.specs.InstrWords.{word, word_with, word_of, IsWordOf}
use Rattle.zy_isa.specs.WordFields.{register_at, pair_of, registers_at, parts_at, instr_at, decoded, register_in, instr_in}
use Rattle.zy_isa.proofs.ResultLemmas.{both}
use Rattle.zy_isa.proofs.OperationLemmas.{same_number, found_passes, coded_is, coded_back, instr_again, parts_again}

-- ---- what the fields give has them

-- the register in an option, if there is one, has this number
abbrev Names : ℕ → Option Reg → Type 0
Names n o = IfSome o (λ r. n ≡ number_of r)

-- the register that is found by a number has that number
register_names : (n : ℕ) → Names n (register_at n)
register_names n = if_some (register_at n) (λ r. n ≡ number_of r) (λ r h. same_number n (number_of r) (found_passes (λ x. n == number_of x) registers r h))
  where
    if_some : {X : Type 0} (o : Option X) (P : X → Type 0) → ((x : X) → o ≡ Some x → P x) → IfSome o P
    if_some None P h = tt
    if_some (Some x) P h = h x refl

-- the two registers in an option, if they are there, have these numbers
abbrev NamePair : ℕ → ℕ → Option (Reg × Reg) → Type 0
NamePair a b o = IfSome o (λ p. (a ≡ number_of p.0) × (b ≡ number_of p.1))

-- two registers with these numbers make a pair with these numbers
pair_names : (a b : ℕ) (x y : Option Reg) → Names a x → Names b y → NamePair a b (pair_of x y)
pair_names a b None y g h = tt
pair_names a b (Some x) None g h = tt
pair_names a b (Some x) (Some y) g h = (g, h)

-- the two registers that are found by two numbers have these numbers
registers_name : (a b : ℕ) → NamePair a b (registers_at a b)
registers_name a b = pair_names a b (register_at a) (register_at b) (register_names a) (register_names b)

-- if what is in an option has P, and f takes each x with P to one with Q, what is in the mapped option has Q
mapped : {X Y : Type 0} (f : X → Y) (o : Option X) (P : X → Type 0) (Q : Y → Type 0) → ((x : X) → P x → Q (f x)) → IfSome o P → IfSome (option_map f o) Q
mapped f None P Q k h = tt
mapped f (Some x) P Q k h = k x h

-- the operands, if the fields hold them, have these fields
module _ (o : Operation) (a b n : ℕ) where
  abbrev Has : Parts → Type 0
  Has p = PartsFit p × (word (opcode o) a b n ≡ word_with p)

  abbrev MayHave : Option Parts → Type 0
  MayHave x = IfSome x Has

-- operands that are read from three fields fit, and make the word of these fields
parts_have : (o : Operation) (a b n : ℕ) → n < 2 ^ 32 → MayHave o a b n (parts_at o a b n)
parts_have (op.Number o) a b n v =
    cond_both (b == 0) _ _ (MayHave (op.Number o) a b n)
    (λ z. mapped (λ r. Number o r n) (register_at a) (λ r. a ≡ number_of r) (Has (op.Number o) a b n) (λ r g. (v, rw (g, same_number b 0 z) refl))
    (register_names a)) (λ _. tt)
parts_have (op.Pair o) a b n v =
    cond_both (n == 0) _ _ (MayHave (op.Pair o) a b n)
    (λ z. mapped (λ p. Pair o p.0 p.1) (registers_at a b) _ (Has (op.Pair o) a b n) (λ p g. (tt, rw (g.0, g.1, same_number n 0 z) refl)) (registers_name a b))
    (λ _. tt)
parts_have (op.Jump o) a b n v = mapped (λ p. Jump o p.0 p.1 n) (registers_at a b) _ (Has (op.Jump o) a b n) (λ p g. (v, rw (g.0, g.1) refl))
    (registers_name a b)
parts_have (op.Lone o) a b n v =
    cond_both (a == 0 && b == 0 && n == 0) _ _ (MayHave (op.Lone o) a b n)
    (λ z.
    let x = both (a == 0 && b == 0) (n == 0) z in
    let y = both (a == 0) (b == 0) x.0 in
    (tt, rw (same_number a 0 y.0, same_number b 0 y.1, same_number n 0 x.1) refl)) (λ _. tt)

-- the instruction that is read from four fields, if there is one, has values that fit, and these fields as its word
instr_has : (k a b n : ℕ) (x : Option Operation) → coded k ≡ x → n < 2 ^ 32 → IfSome (instr_at x a b n) (λ i. HasValue i × (word k a b n ≡ word_of i))
instr_has k a b n None e v = tt
instr_has k a b n (Some o) e v =
    mapped instr_with (parts_at o a b n) (Has o a b n) (λ i. HasValue i × (word k a b n ≡ word_of i))
    (λ p h. (subst PartsFit (sym (parts_again p)) h.0, ap (λ x. word x a b n) (coded_is k o e) ∙ h.1 ∙ ap word_with (sym (parts_again p))))
    (parts_have o a b n v)

-- ---- eight bytes are a word of their fields

-- the bytes of the number
abbrev pub number_bytes : List ℕ → List ℕ
number_bytes w = get_or w 4 0 ∷ get_or w 5 0 ∷ get_or w 6 0 ∷ get_or w 7 0 ∷ []

-- the bytes from index k on are the byte at k and the bytes behind it
more : (w : List ℕ) (k : ℕ) (x : List ℕ) → k < length w → drop (k + 1) w ≡ x → drop k w ≡ get_or w k 0 ∷ x
more w k x p e = drop_more w k 0 p ∙ ap (λ y. get_or w k 0 ∷ y) e

-- a word of eight bytes is four bytes and the four of its number
eight : (w : List ℕ) → length w ≡ 8 → w ≡ get_or w 0 0 ∷ get_or w 1 0 ∷ get_or w 2 0 ∷ get_or w 3 0 ∷ number_bytes w
eight w q =
    more w 0 _ (omega (arith, q)) (more w 1 _ (omega (arith, q)) (more w 2 _ (omega (arith, q)) (more w 3 _ (omega (arith, q)) (
    more w 4 _ (omega (arith, q))
    (more w 5 _ (omega (arith, q)) (more w 6 _ (omega (arith, q)) (more w 7 _ (omega (arith, q)) (drop_all 8 w (omega (arith, q))))))))))

-- the bytes of the number of a word are below 256 if those of the word are
number_fits : (w : List ℕ) → ((i : ℕ) → get_or w i 0 < 256) → (i : ℕ) → get_or (number_bytes w) i 0 < 256
number_fits w h zero = h 4
number_fits w h (suc zero) = h 5
number_fits w h (suc (suc zero)) = h 6
number_fits w h (suc (suc (suc zero))) = h 7
number_fits w h (suc (suc (suc (suc i)))) = omega arith

-- eight bytes whose fourth is 0 are the word of their own fields
word_again : (w : List ℕ) (n : ℕ) → length w ≡ 8 → ((i : ℕ) → get_or w i 0 < 256) → get_or w 3 0 ≡ 0 → n ≡ from_be_bytes w32 (number_bytes w)
    → word (get_or w 0 0) (get_or w 1 0) (get_or w 2 0) n ≡ w
word_again w n len fits z e =
    let bytes : to_be_bytes w32 n ≡ number_bytes w = be_bytes_4 (number_bytes w) n refl (number_fits w fits) e in
    ap (λ x. get_or w 0 0 ∷ get_or w 1 0 ∷ get_or w 2 0 ∷ 0 ∷ x) bytes ∙ ap (λ x. get_or w 0 0 ∷ get_or w 1 0 ∷ get_or w 2 0 ∷ x ∷ number_bytes w) (sym z)
    ∙ sym (eight w len)

-- eight bytes are the word of the instruction that their fields give, if they give one
pub found : (w : List ℕ) (n : ℕ) (o : Option Instr) → length w ≡ 8 → ((i : ℕ) → get_or w i 0 < 256) → get_or w 3 0 ≡ 0 → n ≡ from_be_bytes w32 (number_bytes w)
    → n < 2 ^ 32
    → o ≡ instr_at (coded (get_or w 0 0)) (get_or w 1 0) (get_or w 2 0) n → IfSome o (IsWordOf w)
found w n o len fits z e v g =
    let all = word_again w n len fits z e in
    rw g (subst (λ x. IfSome (instr_at (coded (get_or w 0 0)) (get_or w 1 0) (get_or w 2 0) n) (λ i. HasValue i × (x ≡ word_of i))) all
    (instr_has (get_or w 0 0) (get_or w 1 0) (get_or w 2 0) n (coded (get_or w 0 0)) refl v))

-- ---- the fields of an instruction give it

-- the number of a register finds it
register_back : (r : Reg) → register_at (number_of r) ≡ Some r
register_back R0 = refl
register_back R1 = refl
register_back R2 = refl
register_back R3 = refl
register_back R4 = refl
register_back R5 = refl
register_back R6 = refl
register_back R7 = refl

-- the instruction that the fields of a word give, if there is one
abbrev given : List ℕ → Option Instr
given w = instr_at (coded (get_or w 0 0)) (get_or w 1 0) (get_or w 2 0) (from_be_bytes w32 (number_bytes w))

-- the word of operands that fit gives their instruction
back : (p : Parts) → PartsFit p → given (word_with p) ≡ Some (instr_with p)
back (Number o a n) v = rw (coded_back (op.Number o), from_be_bytes-to_be_bytes_4 n v, register_back a) refl
back (Pair o a b) v = rw (coded_back (op.Pair o), register_back a, register_back b) refl
back (Jump o a b n) v = rw (coded_back (op.Jump o), from_be_bytes-to_be_bytes_4 n v, register_back a, register_back b) refl
back (Lone o) v = rw (coded_back (op.Lone o)) refl

-- if the bytes are the word of an instruction, their fields give that instruction
pub only : (w : List ℕ) (n : ℕ) (o : Option Instr) → n ≡ from_be_bytes w32 (number_bytes w)
    → o ≡ instr_at (coded (get_or w 0 0)) (get_or w 1 0) (get_or w 2 0) n
    → (i : Instr) → IsWordOf w i → o ≡ Some i
only w n o e g i h = g ∙ ap (instr_at (coded (get_or w 0 0)) (get_or w 1 0) (get_or w 2 0)) e ∙ ap given h.1 ∙ back (parts_of i) h.0 ∙ ap Some (instr_again i)

-- ---- eight bytes

-- the bytes of a word of eight from the fifth on are those of its number
back_of_eight : (w : List ℕ) → length w ≡ 8 → drop 4 w ≡ number_bytes w
back_of_eight w q =
    more w 4 _ (omega (arith, q))
    (more w 5 _ (omega (arith, q)) (more w 6 _ (omega (arith, q)) (more w 7 _ (omega (arith, q)) (drop_all 8 w (omega (arith, q))))))

-- the number of four bytes is below 2^32
four_fit : (bs : List ℕ) → length bs ≡ 4 → ((i : ℕ) → get_or bs i 0 < 256) → from_be_bytes w32 bs < 2 ^ 32
four_fit [] h f = absurd (omega (arith, h))
four_fit (a ∷ []) h f = absurd (omega (arith, h))
four_fit (a ∷ b ∷ []) h f = absurd (omega (arith, h))
four_fit (a ∷ b ∷ c ∷ []) h f = absurd (omega (arith, h))
four_fit (a ∷ b ∷ c ∷ d ∷ []) h f = omega (arith, f 0, f 1, f 2, f 3)
four_fit (a ∷ b ∷ c ∷ d ∷ e ∷ bs) h f = absurd (omega (arith, h))

-- the instruction of eight bytes has them as its word
pub decoded_found : (w : List ℕ) → length w ≡ 8 → ((i : ℕ) → get_or w i 0 < 256) → IfSome (decoded w) (IsWordOf w)
decoded_found w len fits =
    let number = from_be_bytes w32 (drop 4 w) in
    let e : number ≡ from_be_bytes w32 (number_bytes w) = ap (from_be_bytes w32) (back_of_eight w len) in
    let v : number < 2 ^ 32 = rw e (four_fit (number_bytes w) refl (number_fits w fits)) in
    cond_both (get_or w 3 0 == 0) _ _ (λ o. IfSome o (IsWordOf w))
    (λ z. found w number _ len fits (same_number (get_or w 3 0) 0 z) e v refl) (λ _. tt)

-- the word of operands that fit decodes to their instruction
decoded_back : (p : Parts) → PartsFit p → decoded (word_with p) ≡ Some (instr_with p)
decoded_back (Number o a n) v = back (Number o a n) v
decoded_back (Pair o a b) v = back (Pair o a b) v
decoded_back (Jump o a b n) v = back (Jump o a b n) v
decoded_back (Lone o) v = back (Lone o) v

-- the word of an instruction gives it
pub decoded_only : (i : Instr) → HasValue i → decoded (word_of i) ≡ Some i
decoded_only i v = decoded_back (parts_of i) v ∙ ap Some (instr_again i)

-- ---- a word that is known to be one

-- the number of a register reads as that register
register_read : (r : Reg) → register_in (number_of r) ≡ r
register_read R0 = refl
register_read R1 = refl
register_read R2 = refl
register_read R3 = refl
register_read R4 = refl
register_read R5 = refl
register_read R6 = refl
register_read R7 = refl

-- the word of operands that fit reads as their instruction
reads_parts : (p : Parts) → PartsFit p → instr_in (word_with p) ≡ instr_with p
reads_parts (Number o a n) v = rw (coded_back (op.Number o), from_be_bytes-to_be_bytes_4 n v, register_read a) refl
reads_parts (Pair o a b) v = rw (coded_back (op.Pair o), register_read a, register_read b) refl
reads_parts (Jump o a b n) v = rw (coded_back (op.Jump o), from_be_bytes-to_be_bytes_4 n v, register_read a, register_read b) refl
reads_parts (Lone o) v = rw (coded_back (op.Lone o)) refl

-- the word of an instruction gives it
pub word_gives : (i : Instr) → HasValue i → instr_in (word_of i) ≡ i
word_gives i v = reads_parts (parts_of i) v ∙ instr_again i

-- the word of an instruction whose value fits is that of the instruction that it reads as
pub is_word : (i : Instr) → HasValue i → IsWordOf (word_of i) (instr_in (word_of i))
is_word i v = rw (word_gives i v) (v, refl)
