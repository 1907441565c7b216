-- The choices that a search considers.
use Rattle.std.specs.Prelude.{ℕ, ◌≡◌, ◌&&◌, zero, suc, List, [], ◌∷◌, ◌++◌, Bool, true, filter}
use Rattle.zy_isa.specs.declared.node.Node.{Node}
use Rattle.zy_isa.specs.declared.node.Node.TheVariants.{A, B}
use Rattle.zy_isa.specs.declared.choice.Choice.{Choice}
use Rattle.zy_isa.specs.declared.choice.Choice.TheVariants.{Start, Begin, Kill, Run, Take, Finish, Push}
use Rattle.zy_isa.specs.Choices.{names_below}
use Rattle.zy_search.specs.declared.kinds.ChoiceKinds.{ChoiceKinds}

-- the kind of a choice is one of those that are considered
abbrev pub is_of_kinds : ChoiceKinds → Choice → Bool
is_of_kinds kinds Start = kinds.start
is_of_kinds kinds (Begin t) = kinds.begin
is_of_kinds kinds (Kill t) = kinds.kill
is_of_kinds kinds (Run n t) = kinds.run
is_of_kinds kinds (Take n) = kinds.take
is_of_kinds kinds (Finish n) = kinds.finish
is_of_kinds kinds (Push n) = kinds.push

-- it is, and the transaction that the choice names, if it names one, is there
abbrev pub is_considered : ChoiceKinds → ℕ → Choice → Bool
is_considered kinds count c = names_below count c && is_of_kinds kinds c

abbrev pub AreConsidered : ChoiceKinds → ℕ → List Choice → Type 0
AreConsidered kinds count [] = Unit {0}
AreConsidered kinds count (c ∷ cs) = (is_considered kinds count c ≡ true) × AreConsidered kinds count cs

-- a choice for each of the first n transactions
abbrev pub each : (ℕ → Choice) → ℕ → List Choice
each make zero = []
each make (suc n) = each make n ++ make n ∷ []

-- those of a node
abbrev pub of_node : Node → ℕ → List Choice
of_node n count = each (Run n) count ++ Take n ∷ Finish n ∷ Push n ∷ []

-- all choices, in the order in which they are made: the client's, A's and B's
abbrev pub all_choices : ℕ → List Choice
all_choices count = Start ∷ each Begin count ++ (each Kill count ++ (of_node A count ++ of_node B count))

-- those that are considered
abbrev pub considered : ChoiceKinds → ℕ → List Choice
considered kinds count = filter (is_of_kinds kinds) (all_choices count)
