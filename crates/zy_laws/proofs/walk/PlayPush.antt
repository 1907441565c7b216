-- A schedule with one choice more.
use Rattle.std.proofs.Common.{List, [], ap, length, refl, suc, ◌++◌, ◌∷◌, ◌≡◌}
use Rattle.std.specs.Prelude.{map}
use Rattle.zy_isa.specs.Scenario.{Scenario}
use Rattle.zy_isa.specs.declared.choice.Choice.{Choice}
use Rattle.zy_table.specs.Play.{entries, entry_of, play, step}
use Rattle.zy_table.specs.State.{State}
use Rattle.zy_table.specs.declared.entry.Entry.{Entry}

-- the state after one choice more is that after its step
pub play-push : (sc : Scenario) (s : State) (cs : List Choice) (c : Choice) → play sc s (cs ++ c ∷ []) ≡ (step sc c (play sc s cs)).after
play-push sc s [] c = refl
play-push sc s (d ∷ cs) c = play-push sc (step sc d s).after cs c

-- the entries of a schedule with one choice more have one more at the end
pub entries-push : (sc : Scenario) (s : State) (cs : List Choice) (c : Choice)
    → entries sc s (cs ++ c ∷ []) ≡ entries sc s cs ++ entry_of c (step sc c (play sc s cs)) ∷ []
entries-push sc s [] c = refl
entries-push sc s (d ∷ cs) c = ap (λ es. entry_of d (step sc d s) ∷ es) (entries-push sc (step sc d s).after cs c)

-- the history names the choices that were made
pub choices-entries : (sc : Scenario) (s : State) (cs : List Choice) → map (λ (e : Entry). e.choice) (entries sc s cs) ≡ cs
choices-entries sc s [] = refl
choices-entries sc s (c ∷ cs) = ap (λ ds. c ∷ ds) (choices-entries sc (step sc c s).after cs)

-- there is one entry for each choice
pub length-entries : (sc : Scenario) (s : State) (cs : List Choice) → length (entries sc s cs) ≡ length cs
length-entries sc s [] = refl
length-entries sc s (c ∷ cs) = ap suc (length-entries sc (step sc c s).after cs)

-- what every step keeps holds after every schedule
pub play-keeps : (sc : Scenario) (P : State → Type 0) → ((c : Choice) (s : State) → P s → P (step sc c s).after) → (cs : List Choice) (s : State)
    → P s → P (play sc s cs)
play-keeps sc P keeps [] s h = h
play-keeps sc P keeps (c ∷ cs) s h = play-keeps sc P keeps cs (step sc c s).after (keeps c s h)

-- the same beside something that is known of every state on the way
pub play-keeps-with : (sc : Scenario) (Q P : State → Type 0) → ((c : Choice) (s : State) → Q s → Q (step sc c s).after)
    → ((c : Choice) (s : State) → Q s → P s → P (step sc c s).after)
    → (cs : List Choice) (s : State) → Q s → P s → P (play sc s cs)
play-keeps-with sc Q P known keeps cs s q p = (play-keeps sc (λ z. Q z × P z) (λ c z h. (known c z h.0, keeps c z h.0 h.1)) cs s (q, p)).1
