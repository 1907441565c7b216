-- The lines of a state, each under what it is of.
use Rattle.std.specs.Prelude.{ℕ, ◌<◌, ◌&&◌, Bool, false, not, List, [], ◌∷◌, ◌++◌, codes, length, map, if◌then◌else◌}
use Rattle.std.specs.List.{flat_map}
use Rattle.std.specs.Str.{bytes_eq}
use Rattle.zy_isa.specs.declared.node.Node.TheVariants.{A, B}
use Rattle.zy_table.specs.State.{State, facing}
use Rattle.zy_table.specs.Database.{newest}
use Rattle.zy_listing.specs.Texts.{mode_text, link_text, txn_text}
use Rattle.zy_listing.specs.Listing.{below}
use Rattle.zy_listing.specs.Locked.{page_reply}
use Rattle.zy_trace.specs.declared.since.Marks.{Marks}
use Rattle.zy_trace.specs.declared.subject.Subject.{Subject}
use Rattle.zy_trace.specs.declared.subject.Subject.TheVariants.{Mode, Page, Link, Txn}

-- the line of a subject; that of a page has its locks, and says none where there is no such page yet
abbrev pub line_in : State → Subject → List ℕ
line_in s (Mode n) = mode_text n (facing n s).me.mode
line_in s (Page p) = page_reply s p
line_in s (Link n) = link_text n (facing n s).outbox
line_in s (Txn t) = txn_text s t

-- what has a line in a state, in the order of the lines
abbrev pub subjects : State → List Subject
subjects s = (Mode A ∷ Mode B ∷ []) ++ (map Page (below (length (newest s)))
    ++ ((Link A ∷ Link B ∷ []) ++ map Txn (below (length s.txns))))

abbrev pub state_lines : State → List (List ℕ)
state_lines s = map (line_in s) (subjects s)

-- the line of a subject as it is now, where all are shown or it is not what it was
abbrev pub lines_of_subject : Bool → State → State → Subject → List (List ℕ)
lines_of_subject all before now x = if not all && bytes_eq (line_in before x) (line_in now x) then []
    else line_in now x ∷ []

abbrev pub changed : State → State → List (List ℕ)
changed before now = flat_map (lines_of_subject false before now) (subjects now)

-- behind two spaces
abbrev pub inset : List ℕ → List ℕ
inset text = codes "  " ++ text

-- a line between marks
abbrev pub marked : Marks → List ℕ → List ℕ
marked m line = m.before.now ++ (line ++ m.behind.now)

-- the bytes of the line of a subject that is shown, with its marks
abbrev pub shown_text : Marks → Bool → State → State → Subject → List ℕ
shown_text m all before now x = flat_map (marked m) (lines_of_subject all before now x)

abbrev pub shown_texts : Marks → Bool → State → State → List Subject → List ℕ
shown_texts m all before now xs = flat_map (shown_text m all before now) xs

-- a transaction that has a line is there
abbrev pub HasLine : State → Subject → Type 0
HasLine s (Txn t) = t < length s.txns
HasLine s x = Unit {0}
