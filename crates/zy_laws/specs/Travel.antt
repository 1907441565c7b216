-- How a page moves.
use Rattle.std.specs.Prelude.{◌≡◌, ◌⊎◌, ℕ, List, Bool, true, false}
use Rattle.std.specs.List.{list_any}
use Rattle.zy_model.specs.Families.{is_source}
use Rattle.zy_isa.specs.declared.node.Node.{Node}
use Rattle.zy_model.specs.Table.{may_pull}
use Rattle.zy_model.specs.declared.mode.NodeMode.TheVariants.{Normal}
use Rattle.zy_table.specs.declared.place.Place.{Place}
use Rattle.zy_table.specs.declared.place.Place.TheVariants.{Nowhere, At, Moving}
use Rattle.zy_table.specs.State.{State, Step, facing, other}
use Rattle.zy_table.specs.declared.entry.Entry.{Entry}
use Rattle.zy_table.specs.declared.outcome.Outcome.{Outcome}
use Rattle.zy_table.specs.declared.outcome.Outcome.TheVariants.{Split, Started}
use Rattle.zy_table.specs.Places.{place_of}

-- what a step of n's side does to the place of page p: a page appears where a Normal node splits it off, under the
-- number in the outcome; it leaves a source, and a destination takes it
pub data Travels (p : ℕ) (n : Node) (s : State) (m : Step) : Type 0 where
  Stays : place_of p m.after ≡ place_of p s → Travels p n s m
  Appears : (q b : ℕ) → m.outcome ≡ Split q p b → (facing n s).me.mode ≡ Normal → place_of p s ≡ Nowhere
      → place_of p m.after ≡ At n → Travels p n s m
  Leaves : is_source (facing n s).me.mode ≡ true → place_of p s ≡ At n → place_of p m.after ≡ Moving n → Travels p n s m
  Arrives : may_pull (facing n s).me.mode ≡ true → place_of p s ≡ Moving (other n) → place_of p m.after ≡ At n
      → Travels p n s m

-- passed to n: in a message to it, or there
abbrev pub IsPassed : Node → Place → Type 0
IsPassed n place = (place ≡ Moving (other n)) ⊎ (place ≡ At n)

-- page p in a state and in a later one: where it has passed to n it stays so, and at n it stays
pub record NeverBack (p : ℕ) (n : Node) (s later : State) : Type 0 where
  pub passed : IsPassed n (place_of p s) → IsPassed n (place_of p later)
  pub there : place_of p s ≡ At n → place_of p later ≡ At n

abbrev pub is_started : Outcome → Bool
is_started Started = true
is_started o = false

-- no start acted
abbrev pub NoneStarted : List Entry → Type 0
NoneStarted entries = list_any (λ (e : Entry). is_started e.outcome) entries ≡ false
