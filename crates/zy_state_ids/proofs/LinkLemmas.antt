-- The bytes of the messages of a link, one after another.
use Rattle.std.proofs.Common.{◌≡◌, ◌∙◌, ℕ, zero, suc, ◌+◌, ◌<◌, List, [], ◌∷◌, ◌++◌, length, take, slice_index_or, sym, ap, arith, append_assoc, append-nil}
use Rattle.std.specs.List.{flat_map}
use Rattle.zy_links.specs.declared.message.Message.{Message as Sent}
use Rattle.zy_links.specs.Messages.{message_of, messages_of}
use Rattle.zy_state_ids.specs.Packed.{message}

-- the bytes of the first messages
abbrev first : ℕ → List Sent → List ℕ
first n ms = flat_map message (take n (messages_of ms))

-- those of one more
one_more : (ms : List Sent) (i : ℕ) (d : Sent) → i < length ms → first (suc i) ms ≡ first i ms ++ message (message_of (slice_index_or ms i d))
one_more [] i d h = absurd (omega (arith, h))
one_more (m ∷ ms) zero d h = append-nil (message (message_of m))
one_more (m ∷ ms) (suc i) d h =
    let k : i < length ms = omega (arith, h) in
    ap (λ x. message (message_of m) ++ x) (one_more ms i d k) ∙ sym (append_assoc (message (message_of m)) (first i ms) _)

-- one more was put
pub put_more : (ms : List Sent) (i : ℕ) (m : Sent) (start before after : List ℕ) → i < length ms → m ≡ slice_index_or ms i m
    → before ≡ start ++ first i ms → after ≡ before ++ message (message_of m) → after ≡ start ++ first (i + 1) ms
put_more ms i m start before after h is b a =
    let next : suc i ≡ i + 1 = omega arith in
    a ∙ ap (λ x. x ++ message (message_of m)) b ∙ append_assoc start (first i ms) (message (message_of m))
    ∙ ap (λ x. start ++ (first i ms ++ message (message_of x))) is
    ∙ ap (λ x. start ++ x) (sym (one_more ms i m h)) ∙ ap (λ n. start ++ first n ms) next
