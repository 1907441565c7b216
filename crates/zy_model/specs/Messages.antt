-- The messages between the nodes.
use Rattle.std.specs.Prelude.{ℕ, List}
use Rattle.zy_model.specs.declared.kind.Kind.{Kind}
use Rattle.zy_model.specs.declared.kind.Kind.TheVariants as kind
use Rattle.zy_model.specs.Leaf.{Leaf}

-- the low keys of all pages, the number of a page that is asked for, a page
pub data Message : Type 0 where
  Wire : (lows : List ℕ) → Message
  Ready : Message
  Dual : Message
  Pull : (page : ℕ) → Message
  Page : (leaf : Leaf) → Message
  Finish : Message
  Done : Message

abbrev pub kind_of : Message → Kind
kind_of (Wire lows) = kind.Wire
kind_of Ready = kind.Ready
kind_of Dual = kind.Dual
kind_of (Pull page) = kind.Pull
kind_of (Page leaf) = kind.Page
kind_of Finish = kind.Finish
kind_of Done = kind.Done
