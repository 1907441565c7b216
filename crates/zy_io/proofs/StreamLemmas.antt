-- Lemmas on bytes that are taken from a source or written to a sink.
use Rattle.std.proofs.Common.{ℕ, List, [], ◌++◌, take, drop, refl, sym, ap, ◌∙◌, take-append-drop, append_assoc}
use Rattle.std.proofs.KnownBytes.{Appends-trans, Appends-nil}
use Rattle.zy_io.specs.Streams.{Sent, Remains, Sends, SendsPrefix}

-- one more call took n bytes
pub Remains-more : (a b c : Sent) (text rest : List ℕ) (n : ℕ) → Remains a b text rest → Sends b c (take n rest) → Remains a c text (drop n rest)
Remains-more a b c text rest n p q = (
  p.0 ++ take n rest,
  p.1 ∙ ap (λ l. p.0 ++ l) (sym (take-append-drop n rest)) ∙ sym (append_assoc p.0 (take n rest) (drop n rest)),
  Appends-trans a.written b.written c.written p.0 (take n rest) p.2 q,
)

-- nothing went out
pub SendsPrefix-none : (a : Sent) (text : List ℕ) → SendsPrefix a a text
SendsPrefix-none a text = ([], text, refl, Appends-nil a.written)
