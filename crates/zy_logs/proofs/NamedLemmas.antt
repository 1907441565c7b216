-- Lines that are read name transactions that there are, stand in a log, and are no more than there may be.
use Rattle.std.proofs.Common.{◌≡◌, ◌⊎◌, ℕ, map, ◌+◌, ◌-◌, ◌≤◌, Bool, true, false, List, [], ◌∷◌, length, codes, refl, subst, inl, inr, arith}
use Rattle.std.specs.Prelude.{Option, Some, None, Result, Ok, Err, nat_le, nat_lt, if◌then◌else◌}
use Rattle.std.specs.Option.{option_and_then}
use Rattle.std.proofs.lemmas.Bool.{cases_Bool, leb-true}
use Rattle.zy_isa.specs.declared.node.Node.{Node}
use Rattle.zy_isa.specs.declared.node.Node.TheVariants.{A, B}
use Rattle.zy_isa.specs.declared.node.Actor.{Actor}
use Rattle.zy_isa.specs.declared.choice.Choice.{Choice}
use Rattle.zy_isa.specs.declared.choice.Choice.TheVariants as choice
use Rattle.zy_isa.specs.Choices.{actor_at, actor_of, names_below}
use Rattle.zy_isa.specs.declared.node.Actor.TheVariants as actor
use Rattle.zy_isa.specs.Results.{◌>>=◌}
use Rattle.zy_isa.specs.Scenario.{AreNamed}
use Rattle.zy_isa.proofs.ResultLemmas.{bind_ok}
use Rattle.zy_text.specs.Words.{lines_of, words_of, number_of, is_numeral}
use Rattle.zy_text.specs.Names.{is_name}
use Rattle.zy_logs.specs.declared.expected.ExpectedInLog.{ExpectedInLog}
use Rattle.zy_logs.specs.declared.expected.ExpectedInLog.TheVariants as expected
use Rattle.zy_logs.specs.declared.expected.Misread.{Misread}
use Rattle.zy_logs.specs.declared.faults.LogLineFault.{LogLineFault}
use Rattle.zy_logs.specs.declared.log_line.LogLine.{LogLine}
use Rattle.zy_logs.specs.declared.log_line.Logged.{Logged}
use Rattle.zy_logs.specs.declared.log_line.Logged.TheVariants.{Step, Gap}
use Rattle.zy_logs.specs.declared.logs.NumberedLine.{NumberedLine}
use Rattle.zy_logs.specs.declared.reading.cursor.Misfit.{Misfit}
use Rattle.zy_logs.specs.declared.txns.Txns.{Txns}
use Rattle.zy_logs.specs.Words.{Word, Read, first, after, are_none, begin_with, stop, refused, gives, made}
use Rattle.zy_logs.specs.Txns.{below}
use Rattle.zy_text.specs.Names.{place_among}
use Rattle.zy_logs.specs.Parts.{txn}
use Rattle.zy_logs.specs.Lines.{client_choice, node_choice, choice_of, told_of, value_behind, sent_of, rows_of, step, whole, whose, gap_end, gap, gap_or_step, placed, line_of}
use Rattle.zy_logs.specs.Logs.{AreInLogs, in_line, steps, steps_of, steps_in, fitting, line_at, listed, joined, lines_from, logs_of, choices_of}

-- ---- the number of a transaction

-- a number that is read is below count
abbrev Below : ℕ → Read ℕ → Type 0
Below count (Ok x) = nat_lt x.0 count ≡ true
Below count (Err s) = Unit {0}

-- one of two
below_either : (count : ℕ) (b : Bool) (x y : Read ℕ) → Below count x → Below count y → Below count (if b then x else y)
below_either count true x y left right = left
below_either count false x y left right = right

-- where it is tested
below_tested : (count n : ℕ) (rest ws : List Word) → Below count (if nat_lt n count then Ok (n, rest) else refused expected.KnownTxn ws)
below_tested count n rest ws = elim (cases_Bool (nat_lt n count)) [ inl e ↦ rw e e | inr e ↦ rw e tt ]

-- by digits
below_digits : (count : ℕ) (ws : List Word) (o : Option ℕ)
    → Below count (gives o expected.Number ws >>= λ n. if nat_lt n.0 count then Ok n else refused expected.KnownTxn ws)
below_digits count ws None = tt
below_digits count ws (Some n) = below_tested count n (after ws) ws

-- by a name
below_place : (count : ℕ) (ws : List Word) (o : Option ℕ) → Below count (gives (option_and_then (below count) o) expected.KnownTxn ws)
below_place count ws None = tt
below_place count ws (Some n) = elim (cases_Bool (nat_lt n count)) [ inl e ↦ rw e e | inr e ↦ rw e tt ]

-- by either
below_txn : (txns : Txns) (ws : List Word) → Below txns.count (txn txns ws)
below_txn txns ws =
    let named = below_place txns.count ws (place_among txns.names.now (first ws)) in
    below_either txns.count (is_numeral (first ws)) _ _ (below_digits txns.count ws (number_of (first ws)))
    (below_either txns.count (is_name (first ws)) _ _ named tt)

-- ---- a choice

-- a choice names a transaction below count, and is of the actor in whose log it stands, or of the client
abbrev Fits : ℕ → Actor → Choice → Type 0
Fits count x c = (names_below count c ≡ true) × ((actor_of c ≡ x) ⊎ (actor_of c ≡ actor.C))

-- so does one that is read in the log of an actor
abbrev ChoiceFits : ℕ → Actor → Read Choice → Type 0
ChoiceFits count x (Ok c) = Fits count x c.0
ChoiceFits count x (Err s) = Unit {0}

-- one of two
fits_either : (count : ℕ) (x : Actor) (b : Bool) (r s : Read Choice) → ChoiceFits count x r → ChoiceFits count x s
    → ChoiceFits count x (if b then r else s)
fits_either count x true r s left right = left
fits_either count x false r s left right = right

-- of the client
begin_fits : (count : ℕ) (x : Actor) (r : Read ℕ) → Below count r → ChoiceFits count x (made choice.Begin r)
begin_fits count x (Ok t) e = (e, inr refl)
begin_fits count x (Err s) e = tt

kill_fits : (count : ℕ) (x : Actor) (r : Read ℕ) → Below count r → ChoiceFits count x (made choice.Kill r)
kill_fits count x (Ok t) e = (e, inr refl)
kill_fits count x (Err s) e = tt

client_fits : (txns : Txns) (x : Actor) (e : ExpectedInLog) (ws : List Word) → ChoiceFits txns.count x (client_choice txns e ws)
client_fits txns x e ws =
    let count = txns.count in
    let t = below_txn txns (after ws) in
    fits_either count x (begin_with (codes "start") ws) _ _ (refl, inr refl)
    (fits_either count x (begin_with (codes "begin") ws) _ _ (begin_fits count x _ t)
    (fits_either count x (begin_with (codes "kill") ws) _ _ (kill_fits count x _ t) tt))

-- of a node
run_fits : (count : ℕ) (n : Node) (r : Read ℕ) → Below count r → ChoiceFits count (actor_at n) (made (choice.Run n) r)
run_fits count n (Ok t) e = (e, inl refl)
run_fits count n (Err s) e = tt

node_fits : (txns : Txns) (n : Node) (ws : List Word) → ChoiceFits txns.count (actor_at n) (node_choice txns n ws)
node_fits txns n ws =
    let count = txns.count in
    let x = actor_at n in
    fits_either count x (begin_with (codes "run") ws) _ _ (run_fits count n _ (below_txn txns (after ws)))
    (fits_either count x (begin_with (codes "take") ws) _ _ (refl, inl refl)
    (fits_either count x (begin_with (codes "finish") ws) _ _ (refl, inl refl)
    (fits_either count x (begin_with (codes "push") ws) _ _ (refl, inl refl) (client_fits txns x expected.NodeAction ws))))

-- in any log
choice_fits : (txns : Txns) (x : Actor) (ws : List Word) → ChoiceFits txns.count x (choice_of txns x ws)
choice_fits txns actor.C ws = client_fits txns actor.C expected.ClientAction ws
choice_fits txns actor.A ws = node_fits txns A ws
choice_fits txns actor.B ws = node_fits txns B ws

-- ---- a line

-- so does the choice of a line that is read
abbrev LineFits : ℕ → Result LogLine Misfit → Type 0
LineFits count (Ok line) = Fits count line.log line.choice
LineFits count (Err s) = Unit {0}

-- the log and the choice of a line are what its first words spell
whole_fits : (txns : Txns) (ws : List Word) (line : LogLine) → whole txns ws ≡ Ok line → Fits txns.count line.log line.choice
whole_fits txns ws line e =
    let x = bind_ok (whose ws) _ line e in
    let c = bind_ok (choice_of txns x.0.0 x.0.1) _ line x.2 in
    let t = bind_ok (told_of txns x.0.0 c.0.0 c.0.1) _ line c.2 in
    let v = bind_ok (value_behind t.0.0 t.0.1) _ line t.2 in
    let k = bind_ok (sent_of c.0.0 v.0.1) _ line v.2 in
    let r = bind_ok (rows_of c.0.0 k.0.1) _ line k.2 in
    subst (LineFits txns.count) r.2 (subst (ChoiceFits txns.count x.0.0) c.1 (choice_fits txns x.0.0 x.0.1))

-- so it is where a line is read, or not
line_fits : (count : ℕ) (r : Result LogLine Misfit) → ((line : LogLine) → r ≡ Ok line → Fits count line.log line.choice) → LineFits count r
line_fits count (Ok line) h = h line refl
line_fits count (Err s) h = tt

-- what is read fits, if it is a step
abbrev LoggedFits : ℕ → Logged → Type 0
LoggedFits count (Step line) = Fits count line.log line.choice
LoggedFits count (Gap x) = Unit {0}

abbrev ReadFits : ℕ → Result Logged Misfit → Type 0
ReadFits count (Ok x) = LoggedFits count x
ReadFits count (Err s) = Unit {0}

-- one of two
either_fits : (count : ℕ) (b : Bool) (x y : Result Logged Misfit) → ReadFits count x → ReadFits count y → ReadFits count (if b then x else y)
either_fits count true x y left right = left
either_fits count false x y left right = right

-- a gap names none
gap_end_fits : (count : ℕ) (x : Actor) (ws : List Word) → ReadFits count (gap_end x ws)
gap_end_fits count x ws = either_fits count (are_none ws) (Ok (Gap x)) (Err (stop expected.EndOfGap ws)) tt tt

gap_fits : (count : ℕ) (r : Read Actor) → ReadFits count (r >>= λ x. gap_end x.0 (after x.1))
gap_fits count (Ok x) = gap_end_fits count x.0 (after x.1)
gap_fits count (Err s) = tt

-- a step does
step_fits : (count : ℕ) (r : Result LogLine Misfit) → LineFits count r → ReadFits count (step r)
step_fits count (Ok x) e = e
step_fits count (Err s) e = tt

-- so does what is read in all
read_fits : (txns : Txns) (ws : List Word) → ReadFits txns.count (gap_or_step txns ws)
read_fits txns ws = either_fits txns.count (begin_with (codes "...") (after ws)) (gap ws) (step (whole txns ws))
    (gap_fits txns.count (whose ws))
    (step_fits txns.count (whole txns ws) (line_fits txns.count (whole txns ws) (whole_fits txns ws)))

-- so does one whose fault has a place
abbrev PlacedFits : ℕ → Result Logged Misread → Type 0
PlacedFits count (Ok logged) = LoggedFits count logged
PlacedFits count (Err e) = Unit {0}

placed_fits : (count size : ℕ) (r : Result Logged Misfit) → ReadFits count r → PlacedFits count (placed size r)
placed_fits count size (Ok x) e = e
placed_fits count size (Err s) e = tt

line_of_fits : (txns : Txns) (ws : List Word) → PlacedFits txns.count (line_of txns ws)
line_of_fits txns ws = placed_fits txns.count (length ws) (gap_or_step txns ws) (read_fits txns ws)

-- ---- the lines of a text

-- lines of steps fit
abbrev AllFit : ℕ → List LogLine → Type 0
AllFit count [] = Unit {0}
AllFit count (line ∷ lines) = Fits count line.log line.choice × AllFit count lines

-- so does what a line of a text says
abbrev AtFits : ℕ → Result (Option NumberedLine) LogLineFault → Type 0
AtFits count (Ok first) = AllFit count (steps (listed first))
AtFits count (Err r) = Unit {0}

-- where it is a step or a gap
numbered_fits : (count n : ℕ) (logged : Logged) → LoggedFits count logged
    → AllFit count (steps (listed (Some (record { number = n; logged = logged }))))
numbered_fits count n (Step line) e = (e, tt)
numbered_fits count n (Gap x) e = tt

fitting_fits : (count gap room n : ℕ) (r : Result Logged Misread) → PlacedFits count r → AtFits count (in_line n r >>= fitting gap room n)
fitting_fits count gap room n (Ok logged) e = elim (nat_le (steps_of gap logged) room) as (λ (b : Bool). AtFits count
    (if b then Ok (Some (record { number = n; logged = logged })) else Err (record { line = n; word = 0; expected = expected.FewerLines })))
    [ true ↦ numbered_fits count n logged e | false ↦ tt ]
fitting_fits count gap room n (Err x) e = tt

at_fits : (txns : Txns) (gap room n : ℕ) (ws : List Word) → AtFits txns.count (line_at txns gap room n ws)
at_fits txns gap room n [] = tt
at_fits txns gap room n (w ∷ ws) = fitting_fits txns.count gap room n (line_of txns (w ∷ ws)) (line_of_fits txns (w ∷ ws))

-- what lines say does
abbrev AllLinesFit : ℕ → Result (List NumberedLine) LogLineFault → Type 0
AllLinesFit count (Ok lines) = AllFit count (steps lines)
AllLinesFit count (Err r) = Unit {0}

-- a line and those that come after it
behind_fits : (count n : ℕ) (logged : Logged) (lines : List NumberedLine) → AllFit count (steps (record { number = n; logged = logged } ∷ []))
    → AllFit count (steps lines) → AllFit count (steps (record { number = n; logged = logged } ∷ lines))
behind_fits count n (Step line) lines a b = (a.0, b)
behind_fits count n (Gap x) lines a b = b

joined_fits : (count : ℕ) (first : Option NumberedLine) (said : Result (List NumberedLine) LogLineFault)
    → AllFit count (steps (listed first)) → AllLinesFit count said → AllLinesFit count (joined (listed first) said)
joined_fits count None (Ok lines) a b = b
joined_fits count (Some l) (Ok lines) a b = behind_fits count l.number l.logged lines a b
joined_fits count None (Err r) a b = tt
joined_fits count (Some l) (Err r) a b = tt

more_fits : (count : ℕ) (r : Result (Option NumberedLine) LogLineFault) (rest : Option NumberedLine → Result (List NumberedLine) LogLineFault)
    → AtFits count r → ((first : Option NumberedLine) → AllLinesFit count (rest first)) → AllLinesFit count (r >>= λ first. joined (listed first) (rest first))
more_fits count (Ok first) rest a b = joined_fits count first (rest first) a (b first)
more_fits count (Err x) rest a b = tt

from_fits : (txns : Txns) (gap room n : ℕ) (ls : List (List ℕ)) → AllLinesFit txns.count (lines_from txns gap room n ls)
from_fits txns gap room n [] = tt
from_fits txns gap room n (l ∷ ls) = more_fits txns.count (line_at txns gap room n (words_of l))
    (λ first. lines_from txns gap (room - steps_in gap (listed first)) (n + 1) ls) (at_fits txns gap room n (words_of l))
    (λ first. from_fits txns gap (room - steps_in gap (listed first)) (n + 1) ls)

-- what the lines of a text say fits
all_fit : (txns : Txns) (gap most first : ℕ) (text : List ℕ) (lines : List NumberedLine)
    → logs_of txns gap most first text ≡ Ok lines → AllFit txns.count (steps lines)
all_fit txns gap most first text lines e = subst (AllLinesFit txns.count) e (from_fits txns gap most first (lines_of text))

-- lines that fit name transactions that there are
all_named : (count : ℕ) (lines : List LogLine) → AllFit count lines → AreNamed count (map (λ (line : LogLine). line.choice) lines)
all_named count [] h = tt
all_named count (line ∷ lines) h = (h.0.0, all_named count lines h.1)

-- each of them stands in the log of its choice's actor, or tells a choice of the client
all_placed : (count : ℕ) (lines : List LogLine) → AllFit count lines → AreInLogs lines
all_placed count [] h = tt
all_placed count (line ∷ lines) h = (h.0.1, all_placed count lines h.1)

-- the lines of a text name transactions that there are
pub logs_named : (txns : Txns) (gap most first : ℕ) (text : List ℕ) (lines : List NumberedLine)
    → logs_of txns gap most first text ≡ Ok lines → AreNamed txns.count (choices_of lines)
logs_named txns gap most first text lines e = all_named txns.count (steps lines) (all_fit txns gap most first text lines e)

-- each line of a text stands in the log of its choice's actor, or tells a choice of the client
pub logs_placed : (txns : Txns) (gap most first : ℕ) (text : List ℕ) (lines : List NumberedLine)
    → logs_of txns gap most first text ≡ Ok lines → AreInLogs (steps lines)
logs_placed txns gap most first text lines e = all_placed txns.count (steps lines) (all_fit txns gap most first text lines e)

-- ---- how many steps they count for

-- what a line says counts for no more steps than there is room for
abbrev AtFew : ℕ → ℕ → Result (Option NumberedLine) LogLineFault → Type 0
AtFew gap room (Ok first) = steps_in gap (listed first) ≤ room
AtFew gap room (Err r) = Unit {0}

few_fitting : (gap room n : ℕ) (r : Result Logged Misread) → AtFew gap room (in_line n r >>= fitting gap room n)
few_fitting gap room n (Ok logged) = elim (cases_Bool (nat_le (steps_of gap logged) room)) [
  | inl e ↦ rw e (omega (arith, leb-true (steps_of gap logged) room e))
  | inr e ↦ rw e tt
]
few_fitting gap room n (Err x) = tt

few_at : (txns : Txns) (gap room n : ℕ) (ws : List Word) → AtFew gap room (line_at txns gap room n ws)
few_at txns gap room n [] = omega arith
few_at txns gap room n (w ∷ ws) = few_fitting gap room n (line_of txns (w ∷ ws))

-- so do lines
abbrev AllFew : ℕ → ℕ → Result (List NumberedLine) LogLineFault → Type 0
AllFew gap room (Ok lines) = steps_in gap lines ≤ room
AllFew gap room (Err r) = Unit {0}

few_joined : (gap room : ℕ) (first : Option NumberedLine) (said : Result (List NumberedLine) LogLineFault) → steps_in gap (listed first) ≤ room
    → AllFew gap (room - steps_in gap (listed first)) said → AllFew gap room (joined (listed first) said)
few_joined gap room None (Ok lines) a h = omega (arith, h)
few_joined gap room (Some l) (Ok lines) a h = omega (arith, a, h)
few_joined gap room None (Err r) a h = tt
few_joined gap room (Some l) (Err r) a h = tt

few_more : (gap room : ℕ) (r : Result (Option NumberedLine) LogLineFault) (rest : Option NumberedLine → Result (List NumberedLine) LogLineFault)
    → AtFew gap room r → ((first : Option NumberedLine) → AllFew gap (room - steps_in gap (listed first)) (rest first))
    → AllFew gap room (r >>= λ first. joined (listed first) (rest first))
few_more gap room (Ok first) rest a b = few_joined gap room first (rest first) a (b first)
few_more gap room (Err x) rest a b = tt

few_from : (txns : Txns) (gap room n : ℕ) (ls : List (List ℕ)) → AllFew gap room (lines_from txns gap room n ls)
few_from txns gap room n [] = omega arith
few_from txns gap room n (l ∷ ls) = few_more gap room (line_at txns gap room n (words_of l))
    (λ first. lines_from txns gap (room - steps_in gap (listed first)) (n + 1) ls) (few_at txns gap room n (words_of l))
    (λ first. few_from txns gap (room - steps_in gap (listed first)) (n + 1) ls)

-- the lines of a text count for no more than there may be
pub logs_few : (txns : Txns) (gap most first : ℕ) (text : List ℕ) (lines : List NumberedLine)
    → logs_of txns gap most first text ≡ Ok lines → steps_in gap lines ≤ most
logs_few txns gap most first text lines e = subst (AllFew gap most) e (few_from txns gap most first (lines_of text))
