-- What is live of a transaction.
use Rattle.std.proofs.Common.{◌≡◌, ◌∙◌, ℕ, List, map, refl, ap, Option, None, Some, option_map, slice_get}
use Rattle.std.proofs.lemmas.Bool.{cond_both}
use Rattle.std.proofs.lemmas.Option.{slice_get-map}
use Rattle.zy_table.specs.State.{Txn}
use Rattle.zy_table.specs.Change.{txn_or}
use Rattle.zy_table.specs.Client.{is_active}
use Rattle.zy_steps.specs.Alike.{live_txn}

-- the status is live
pub live_status : (x : Txn) → (live_txn x).status ≡ x.status
live_status x = cond_both (is_active x.status) x _ (λ (y : Txn). y.status ≡ x.status) (λ _. refl) (λ _. refl)

-- one that may not be there
live_or : (o : Option Txn) → txn_or (option_map live_txn o) ≡ live_txn (txn_or o)
live_or None = refl
live_or (Some x) = refl

-- one by its number
pub live_at : (xs : List Txn) (t : ℕ) → txn_or (slice_get (map live_txn xs) t) ≡ live_txn (txn_or (slice_get xs t))
live_at xs t = ap txn_or (slice_get-map live_txn xs t) ∙ live_or (slice_get xs t)
