-- Where a byte first occurs.
use Rattle.std.proofs.Common.{◌≡◌, ◌<◌, ℕ, Bool, true, false, List, Option, None, Some, length, refl, arith}
use Rattle.std.proofs.lemmas.Grind.{common_steps}
use Rattle.std.specs.List.{position, position_or_len}
use Rattle.std.proofs.lemmas.List.Sums.{position_or_len_is}
use Rattle.memchr.specs.Find.{IsFirstByte, is_byte}

-- what does not hold is false
is_false : (b : Bool) → (b ≡ true → ⊥) → b ≡ false
is_false true never = absurd (never refl)
is_false false never = refl

-- the first place that passes is the one that `position` gives
pub IsFirstByte-position : (a : ℕ) (hay : List ℕ) (r : Option ℕ) → IsFirstByte (is_byte a) hay r → r ≡ position (is_byte a) hay
IsFirstByte-position a hay None nowhere =
    let at : position_or_len (is_byte a) hay ≡ length hay = position_or_len_is (is_byte a) hay (length hay) 0 (omega arith)
    (λ k below. is_false _ (nowhere k (omega arith) below)) (λ beyond. absurd (omega arith)) in
    grind (arith, common_steps)
IsFirstByte-position a hay (Some i) first =
    let within : i < length hay = first.0.high in
    let at : position_or_len (is_byte a) hay ≡ i = position_or_len_is (is_byte a) hay i 0 (omega arith)
    (λ k below. is_false _ (first.0.before k (omega arith) below)) (λ inside. first.1) in
    grind (arith, common_steps)
