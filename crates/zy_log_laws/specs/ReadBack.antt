-- Lines of a listing that are read as the steps that they were written for.
use Rattle.std.specs.Prelude.{◌≡◌, ◌&&◌, ◌||◌, ℕ, Bool, List, [], ◌∷◌, codes, None, Ok}
use Rattle.zy_table.specs.declared.entry.Entry.{Entry}
use Rattle.zy_table.specs.declared.observation.Observation.{Observation}
use Rattle.zy_text.specs.Words.{words_of}
use Rattle.zy_logs.specs.declared.log_line.Logged.TheVariants.{Step}
use Rattle.zy_logs.specs.declared.txns.Txns.{Txns}
use Rattle.zy_logs.specs.InFull.{in_full, IsTold}
use Rattle.zy_logs.specs.Lines.{line_of}
use Rattle.zy_logs.specs.Words.{Word, after, begin_with}

-- what a listing shows of a step: no value, no rows and no node
abbrev pub entry_alone : Entry → Observation
entry_alone e = record { entry = e; value = None; rows = None; node = None }

-- the words of each line behind its first word are a line of a log, which leaves nothing out of what the listing shows of the step
abbrev pub AreReadBack : Txns → List (List ℕ) → List Entry → Type 0
AreReadBack txns [] [] = Unit {0}
AreReadBack txns (text ∷ texts) (e ∷ es) = (line_of txns (after (words_of text)) ≡ Ok (Step (in_full (entry_alone e)))) × AreReadBack txns texts es
AreReadBack txns texts es = ⊥

-- the numbers of each outcome are ones that a line may have
abbrev pub HaveNumbers : ℕ → List Entry → Type 0
HaveNumbers count [] = Unit {0}
HaveNumbers count (e ∷ es) = IsTold count e.outcome × HaveNumbers count es

-- `active any` or `active all`: a log may have a transaction of that name, and a goal has none
abbrev pub names_several : List Word → Bool
names_several ws = begin_with (codes "active") ws && (begin_with (codes "any") (after ws) || begin_with (codes "all") (after ws))
