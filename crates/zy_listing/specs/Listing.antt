-- The listing of a scenario under choices.
use Rattle.std.specs.Prelude.{ℕ, ◌+◌, Bool, List, [], ◌∷◌, ◌++◌, map, length, codes}
use Rattle.std.specs.List.{flat_map, range_with_len}
use Rattle.zy_isa.specs.declared.node.Node.TheVariants.{A, B}
use Rattle.zy_isa.specs.declared.choice.Choice.{Choice}
use Rattle.zy_text.specs.Canon.{canon}
use Rattle.zy_isa.specs.Scenario.{Scenario}
use Rattle.zy_io.specs.Writing.{line_of}
use Rattle.zy_table.specs.declared.entry.Entry.{Entry}
use Rattle.zy_table.specs.State.{State}
use Rattle.zy_table.specs.Database.{newest}
use Rattle.zy_table.specs.Play.{play, entries, opening}
use Rattle.zy_listing.specs.Texts.{step_text, mode_text, page_text, link_text, txn_text, serial_text}

-- the steps from number i on
abbrev pub step_texts : ℕ → List Entry → List (List ℕ)
step_texts i [] = []
step_texts i (e ∷ es) = step_text i e ∷ step_texts (i + 1) es

-- the numbers below n, in order
abbrev pub below : ℕ → List ℕ
below n = range_with_len 0 n

abbrev pub page_texts : State → List (List ℕ)
page_texts s = map (page_text s) (below (length (newest s)))

abbrev pub txn_texts : State → List (List ℕ)
txn_texts s = map (txn_text s) (below (length s.txns))

-- the state at the end
abbrev pub final_texts : State → List (List ℕ)
final_texts s =
    (codes "final" ∷ mode_text A s.a.mode ∷ mode_text B s.b.mode ∷ [])
    ++ (page_texts s ++ ((link_text A s.ab ∷ link_text B s.ba ∷ []) ++ txn_texts s))

-- what came of the choices, and whether the serial run agrees
abbrev pub ending_texts : List Entry → State → Bool → List (List ℕ)
ending_texts es s same = (codes "steps" ∷ step_texts 1 es) ++ (final_texts s ++ (serial_text same ∷ codes "end" ∷ []))

-- the scenario with these choices, the steps that they make, and the state at the end
unfoldable pub listing : Scenario → List Choice → Bool → List ℕ
listing sc choices same =
    let s = opening sc in
    canon (record sc { choices = choices }) ++ flat_map line_of
    (ending_texts (entries sc s choices) (play sc s choices) same)
