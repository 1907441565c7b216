-- What a listing left in a comparing sink.
use Rattle.std.proofs.Common.{◌≡◌, ◌<◌, ℕ, List, [], ◌∷◌, ◌++◌, length, drop, get_or, refl, sym, ap, ◌∙◌, arith, append-nil}
use Rattle.zy_io.specs.Streams.{OneFailed, Sends, SendsPrefix}
use Rattle.zy_check.specs.declared.verdict.Verdict.{Verdict}
use Rattle.zy_check.specs.Differs.{verdict}
use Rattle.zy_check.specs.Comparing.{Compared, sent_by, written_by}

-- two lists with one more
longer : (x y : ℕ) (xs ys : List ℕ) → x ≡ y → xs ≡ ys → x ∷ xs ≡ y ∷ ys
longer x y xs ys e f = rw (e, f) refl

-- texts that are parted at the same place
pub same_parts : (xs ys fs gs : List ℕ) → length xs ≡ length ys → xs ++ fs ≡ ys ++ gs → (xs ≡ ys) × (fs ≡ gs)
same_parts [] [] fs gs e h = (refl, h)
same_parts [] (y ∷ ys) fs gs e h = absurd (omega (arith, e))
same_parts (x ∷ xs) [] fs gs e h = absurd (omega (arith, e))
same_parts (x ∷ xs) (y ∷ ys) fs gs e h =
    let short : length xs ≡ length ys = omega (arith, e) in
    let rest = same_parts xs ys fs gs short (ap (drop 1) h) in
    (longer x y xs ys (ap (λ l. get_or l 0 0) h) rest.0, rest.1)

-- a sink that was given nothing yet
abbrev pub fresh : List ℕ → Compared
fresh input = record { input = input; text = []; refusals = 0 }

-- what was reported since shows which input it is and what was taken
pub told_parts : (input more : List ℕ) (s : Compared) → written_by s ≡ written_by (fresh input) ++ more → (s.input ≡ input) × (s.text ≡ more)
told_parts input more s h =
    same_parts s.input input s.text more (ap (λ l. get_or l 0 0) h) (ap (drop 1) h ∙ ap (λ l. l ++ more) (append-nil input))

module _ (input listing : List ℕ) (old new : Compared) (v : Verdict) (begun : old ≡ fresh input) where
  -- a prefix of the listing was taken, and the verdict is that against it and what is behind it
  by_parts : (more back : List ℕ) → listing ≡ more ++ back → written_by new ≡ written_by old ++ more → v ≡ verdict new.input (new.text ++ back)
      → v ≡ verdict input listing
  by_parts more back whole wrote h =
      let p = told_parts input more new (wrote ∙ ap (λ (s : Compared). written_by s ++ more) begun) in
      rw (whole, ← p.0, ← p.1) h

  -- all of it was taken
  pub judged_whole : Sends (sent_by old) (sent_by new) listing → v ≡ verdict new.input new.text → v ≡ verdict input listing
  judged_whole wrote h = by_parts listing [] (sym (append-nil listing)) wrote (h ∙ ap (verdict new.input) (sym (append-nil new.text)))

  -- a prefix of it was, and then something was refused
  pub judged_prefix : SendsPrefix (sent_by old) (sent_by new) listing → OneFailed (sent_by old) (sent_by new)
      → (0 < new.refusals → (back : List ℕ) → v ≡ verdict new.input (new.text ++ back)) → v ≡ verdict input listing
  judged_prefix wrote once h = by_parts wrote.0 wrote.1 wrote.2 wrote.3 (h (omega (arith, once)) wrote.1)
