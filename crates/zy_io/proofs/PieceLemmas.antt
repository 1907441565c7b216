-- Bytes that are two pieces of themselves.
use lib.Seq.{take-take}
use Rattle.std.proofs.Common.{◌≡◌, ◌≤◌, ◌-◌, ◌++◌, ◌∙◌, ℕ, List, take, take-append-drop, ap, drop}

-- the first bytes up to where the last ones begin, and the last ones
pub two_pieces : (bytes first last : List ℕ) (n k : ℕ) → first ≡ take k bytes → last ≡ drop (n - k) bytes → n - k ≤ k → take (n - k) first ++ last ≡ bytes
two_pieces bytes first last n k e f few = ap (λ l. take (n - k) l ++ last) e ∙ ap (λ l. l ++ last) (take-take (n - k) k bytes few)
    ∙ ap (λ l. take (n - k) bytes ++ l) f ∙ take-append-drop (n - k) bytes
