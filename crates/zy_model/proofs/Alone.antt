-- Who is alone on a page.
use Rattle.std.proofs.Common.{◌≡◌, true, ℕ, List, [], ◌∷◌, inl, inr}
use Rattle.std.specs.Prelude.{◌==◌, ◌&&◌}
use Rattle.std.proofs.lemmas.Bool.{and_from, and_parts}
use Rattle.std.proofs.lemmas.Bool.{or_cases, or_left, or_right}
use Rattle.zy_model.specs.declared.lock.Lock.{Lock}
use Rattle.zy_model.specs.Locks.{holds, holds_alone, is_exclusive}

-- who has an exclusive lock on p has a lock on p
pub exclusive_holds : (xs : List Lock) (p t : ℕ) → holds_alone xs p t ≡ true → holds xs p t ≡ true
exclusive_holds [] p t h = h
exclusive_holds (x ∷ xs) p t h =
    elim (or_cases ((x.page == p) && ((x.txn == t) && is_exclusive x.kind)) (holds_alone xs p t) h) [
      | inl e ↦ let a = and_parts (x.page == p) ((x.txn == t) && is_exclusive x.kind) e in
          or_left _ _ (and_from _ _ a.0 (and_parts (x.txn == t) (is_exclusive x.kind) a.1).0)
      | inr e ↦ or_right _ _ (exclusive_holds xs p t e)
    ]
