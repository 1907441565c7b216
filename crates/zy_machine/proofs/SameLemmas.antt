-- Lists that are the same at each place.
use Rattle.std.proofs.Common.{◌≡◌, ◌∙◌, ℕ, suc, ◌+◌, ◌<◌, List, [], ◌∷◌, length, get_or, slice_get, refl, sym, ap, arith, Bool, true, false, nat_lt}
use Rattle.std.proofs.lemmas.Bool.Decides.{nat_tests}
use Rattle.std.proofs.lemmas.List.{get_or_default}
use Rattle.zy_links.specs.declared.message.Message.{Message as Sent}
use Rattle.zy_links.specs.Messages.{message_of, messages_of}
use Rattle.zy_table.specs.State.{Txn}
use Rattle.zy_table.specs.Change.{txn_or}

-- what holds below n and at n holds below n + 1
pub below_more : (P : ℕ → Type 0) (n i : ℕ) (t : Bool) → nat_lt i n ≡ t → ((j : ℕ) → j < n → P j) → P n → i < n + 1 → P i
below_more P n i true w h e lt = h i (grind (arith, nat_tests, w))
below_more P n i false w h e lt = let here : i ≡ n = grind (arith, nat_tests, w, lt) in rw here e

-- lists with equal first elements and equal rests are equal
both : {X : Type 0} (x y : X) (xs ys : List X) → x ≡ y → xs ≡ ys → x ∷ xs ≡ y ∷ ys
both x y xs ys e f = ap (λ z. z ∷ xs) e ∙ ap (λ zs. y ∷ zs) f

-- two lists of numbers of one length that agree at each place are equal
pub same_numbers : (xs ys : List ℕ) → length xs ≡ length ys → ((i : ℕ) → i < length xs → get_or xs i 0 ≡ get_or ys i 0) → xs ≡ ys
same_numbers [] [] e h = refl
same_numbers [] (y ∷ ys) e h = absurd (omega (arith, e))
same_numbers (x ∷ xs) [] e h = absurd (omega (arith, e))
same_numbers (x ∷ xs) (y ∷ ys) e h = both x y xs ys (h 0 (omega arith)) (same_numbers xs ys (omega (arith, e)) (λ i lt. h (suc i) (omega (arith, lt))))

-- two lists of transactions of one length that agree at each place are equal
pub same_txns_at : (xs ys : List Txn) → length xs ≡ length ys → ((i : ℕ) → i < length xs → txn_or (slice_get xs i) ≡ txn_or (slice_get ys i)) → xs ≡ ys
same_txns_at [] [] e h = refl
same_txns_at [] (y ∷ ys) e h = absurd (omega (arith, e))
same_txns_at (x ∷ xs) [] e h = absurd (omega (arith, e))
same_txns_at (x ∷ xs) (y ∷ ys) e h = both x y xs ys (h 0 (omega arith)) (same_txns_at xs ys (omega (arith, e)) (λ i lt. h (suc i) (omega (arith, lt))))

-- the messages at i are the same to everyone
abbrev pub SameAt : List Sent → List Sent → ℕ → Type 0
SameAt xs ys i = (d e : Sent) → message_of (get_or xs i d) ≡ message_of (get_or ys i e)

-- the messages at i are the same whatever defaults are used, if they are with these two
pub same_at : (xs ys : List Sent) (i : ℕ) (x y : Sent) → i < length xs → i < length ys → x ≡ get_or xs i x → y ≡ get_or ys i y → message_of x ≡ message_of y
    → SameAt xs ys i
same_at xs ys i x y lt lu e f g = λ d k.
    ap message_of (get_or_default xs i d x lt) ∙ (ap message_of (sym e) ∙ (g ∙ (ap message_of f ∙ ap message_of (get_or_default ys i y k lu))))

-- two lists of one length whose messages agree at each place show the same messages
pub same_all : (d : Sent) (xs ys : List Sent) → length xs ≡ length ys → ((i : ℕ) → i < length xs → SameAt xs ys i) → messages_of xs ≡ messages_of ys
same_all d [] [] e h = refl
same_all d [] (y ∷ ys) e h = absurd (omega (arith, e))
same_all d (x ∷ xs) [] e h = absurd (omega (arith, e))
same_all d (x ∷ xs) (y ∷ ys) e h = both (message_of x) (message_of y) (messages_of xs) (messages_of ys) (h 0 (omega arith) d d)
    (same_all d xs ys (omega (arith, e)) (λ i lt. h (suc i) (omega (arith, lt))))
