-- Entries in order of low key.
use Rattle.std.specs.Prelude.{◌≡◌, ℕ, ◌+◌, ◌<◌, ◌≤◌, List, [], ◌∷◌, length, slice_index_or}
use Rattle.std.specs.List.{AllWithin}
use Rattle.zy_wire.specs.declared.entry.IndexEntry.{IndexEntry}

-- the first low key, or the end where there is none
abbrev pub front : List IndexEntry → ℕ → ℕ
front [] end = end
front (e ∷ es) end = e.low

-- low keys rise, from this one on, and stay below the end
abbrev pub Rise : ℕ → List IndexEntry → ℕ → Type 0
Rise from [] end = from ≤ end
Rise from (e ∷ es) end = (from ≤ e.low) × Rise (e.low + 1) es end

-- i low keys are not above k, and the others are
abbrev pub IsEntryPlace : ℕ → List IndexEntry → ℕ → Type 0
IsEntryPlace k es i = (i ≤ length es) × AllWithin (λ e. e.low ≤ k) es 0 i × AllWithin (λ e. k < e.low) es i (length es)

-- the last entry whose low key is not above k
pub record Leads (k : ℕ) (es : List IndexEntry) (e : IndexEntry) : Type 0 where
  pub at : ℕ
  pub place : IsEntryPlace k es (at + 1)
  pub is : (d : IndexEntry) → slice_index_or es at d ≡ e
