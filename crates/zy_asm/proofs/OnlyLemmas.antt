-- What is meant is read.
use Rattle.std.proofs.Common.{◌≡◌, ℕ, ◌+◌, ◌/◌, ◌<◌, ◌≤◌, Bool, true, false, if◌then◌else◌, nat_le, is_some, List, [], ◌∷◌, ◌++◌, length, map, filter, codes}
use Rattle.std.proofs.Common.{Result, Ok, Err, Option, Some, None, refl, sym, ap, ◌∙◌, subst, inl, inr, ◌⊎◌, arith, append_assoc, append-nil, length-append}
use Rattle.std.proofs.Common.{suc, zero}
use Rattle.std.proofs.lemmas.List.{length-replicate}
use Rattle.std.proofs.lemmas.Nat.{le-div}
use Rattle.std.proofs.Math.Nat.{div-mul-le_self}
use Rattle.std.specs.Prelude.{replicate}
use Rattle.std.specs.List.{flat_map}
use Rattle.zy_isa.specs.declared.version.Version.{Version}
use Rattle.zy_isa.proofs.VersionLemmas.{named_back as version_back}
use Rattle.zy_isa.specs.declared.rule.Rule.{Rule}
use Rattle.zy_isa.specs.declared.rule.Rule.TheVariants.{Held, Loose}
use Rattle.zy_isa.specs.declared.node.Node.{Node}
use Rattle.zy_isa.specs.declared.row.Row.{Row}
use Rattle.zy_isa.specs.declared.instr.Instr.{Instr}
use Rattle.zy_isa.specs.declared.node.Actor.{Actor}
use Rattle.zy_isa.specs.declared.node.Actor.TheVariants as actor
use Rattle.zy_isa.specs.declared.choice.Choice.{Choice}
use Rattle.zy_isa.specs.declared.choice.Choice.TheVariants as choice
use Rattle.zy_text.specs.Words.{words_of, lines_of, number_of, has_words, lines_with_words, is_numeral}
use Rattle.zy_text.specs.Canon.{node_text, rule_text}
use Rattle.zy_isa.specs.Rows.{Rising, RowsFit}
use Rattle.zy_isa.specs.Programs.{HasEach, IsProgram, Values}
use Rattle.zy_isa.specs.Choices.{names_below, actor_at}
use Rattle.zy_isa.specs.Scenario.{Scenario, IsScenario, ArePrograms, AreKnown, AreNamed, opening_pages_for, opening_rows}
use Rattle.zy_text.specs.Text as m
use Rattle.zy_text.specs.Names.{Mark, is_name, place, AreNew}
use Rattle.zy_text.specs.Text.{Code, Written, Times, Draft, Statement, Spells, SpellEach, SpellsChoice, SpellsTimes, instr_in, instrs_of, label_at, labels_of}
use Rattle.zy_text.specs.Text.{name_in, names_of, Headed, Labelled, IsDraftOf, program_statements, choice_statements, repeated, statements, Means}
use Rattle.zy_asm.specs.declared.faults.AsmKind.{AsmKind}
use Rattle.zy_asm.specs.declared.faults.AsmKind.TheVariants as kinds
use Rattle.zy_asm.specs.declared.faults.AsmFault.{AsmFault}
use Rattle.zy_asm.specs.declared.state.Stage.{Stage}
use Rattle.zy_asm.specs.declared.state.Stage.TheVariants as stage
use Rattle.zy_isa.specs.Results.{◌>>=◌}
use Rattle.zy_asm.specs.Pending.{Pending, resolved, all_resolved, program_of}
use Rattle.zy_asm.specs.Reading.Progress.{Seen}
use Rattle.zy_asm.specs.Reading.HeadLines.{rule_of}
use Rattle.zy_asm.specs.Reading.ProgramLines.{own_number, open_line}
use Rattle.zy_asm.specs.Reading.ChoiceLines.{choice_line}
use Rattle.zy_asm.specs.Reading.{step, line_step, at_line, read_lines, reading, finish}
use Rattle.zy_asm.specs.Reading.{nothing_seen}
use Rattle.zy_isa.proofs.RowLemmas.{Above, above_more}
use Rattle.zy_isa.proofs.ResultLemmas.{bind_ok, not_below}
use Rattle.zy_isa.proofs.ProgramLemmas.{no_program_fault}
use Rattle.zy_asm.proofs.SpellLemmas.{actor_word, node_word}
use Rattle.zy_asm.proofs.FoundSteps.{Base, base, at, top, fold_lines, choice_same}
use Rattle.zy_asm.proofs.FoundPrograms.{bodies, following}
use Rattle.zy_asm.proofs.FoundLemmas.{found_text, FoundText, shows}
use Rattle.zy_asm.proofs.GivesLemmas.{number_in_gives, code_gives, choice_gives, row_gives, head_gives}

-- ---- lines with words

-- each line has words
abbrev Worded : List (List (List ℕ)) → Type 0
Worded [] = Unit {0}
Worded (l ∷ ls) = (has_words l ≡ true) × Worded ls

-- lines with words stay so with one line more in front, if it has words
worded_at : (b : Bool) (l : List (List ℕ)) (ls : List (List (List ℕ))) → has_words l ≡ b → Worded ls → Worded (if b then l ∷ ls else ls)
worded_at true l ls e h = (e, h)
worded_at false l ls e h = h

-- of any lines, those that pass the test for words have words
worded : (ls : List (List (List ℕ))) → Worded (filter has_words ls)
worded [] = tt
worded (l ∷ ls) = worded_at (has_words l) l (filter has_words ls) refl (worded ls)

-- ---- the choices and the end

-- how often a choice is made is at least once
some_times : (n : ℕ) (ws : List (List ℕ)) → SpellsTimes n ws → 1 ≤ n
some_times n ws h = elim h [ inl e ↦ omega (arith, e.1) | inr e ↦ e.3 ]

-- of a choice made n times in front of others, where all transactions exist, its own does
named_first : (count n : ℕ) (c : Choice) (rest : List Choice) → 1 ≤ n → AreNamed count (replicate n c ++ rest) → names_below count c ≡ true
named_first count zero c rest some h = absurd (omega arith)
named_first count (suc n) c rest some h = h.0

-- the transactions of those behind it exist too
named_rest : (count n : ℕ) (c : Choice) (rest : List Choice) → AreNamed count (replicate n c ++ rest) → AreNamed count rest
named_rest count zero c rest h = h
named_rest count (suc n) c rest h = named_rest count n c rest h.1

-- where lines of actors are read as choices, a line of one whose choice is read is read so
made_by : (s u : Seen) (l : List (List ℕ)) → ((a : Actor) (ws : List (List ℕ)) → step s (actor_word a ∷ ws) ≡ choice_line s a ws)
    → ((a : Actor) × (rest : List (List ℕ)) × (l ≡ actor_word a ∷ rest) × (choice_line s a rest ≡ Ok u)) → step s l ≡ Ok u
made_by s u l t g = ap (step s) g.2 ∙ t g.0 g.1 ∙ g.3

-- lines that spell choices and the end are read as them, whichever stage they begin at
only_choices : (cs : List Times) (ls : List (List (List ℕ))) (st : Stage) (b : Base) (N : List Mark) (P : List (List Instr)) (C : List Choice)
    → ((a : Actor) (ws : List (List ℕ)) → step (at st b N P [] [] C) (actor_word a ∷ ws) ≡ choice_line (at st b N P [] [] C) a ws)
    → step (at st b N P [] [] C) (codes "end" ∷ []) ≡ Ok (at stage.Done b N P [] [] C)
    → SpellEach (choice_statements N cs) ls → AreNamed (length P) (repeated cs) → length C + length (repeated cs) ≤ 4096
    → fold_lines (at st b N P [] [] C) ls ≡ Ok (at stage.Done b N P [] [] (C ++ repeated cs))
only_choices [] [] st b N P C t e h r few = absurd h
only_choices [] (l ∷ []) st b N P C t e h r few = rw (h.0, e, append-nil) refl
only_choices [] (l ∷ k ∷ ls) st b N P C t e h r few = absurd h.1
only_choices (d ∷ cs) [] st b N P C t e h r few = absurd h
only_choices (d ∷ cs) (l ∷ ls) st b N P C t e h r few =
    let more = replicate d.times d.choice in
    let rest = repeated cs in
    let all : length (more ++ rest) ≡ d.times + length rest = length-append more rest ∙ ap (λ n. n + length rest) (length-replicate d.times d.choice) in
    let len : length (C ++ more) ≡ length C + d.times = length-append C more ∙ ap (λ n. length C + n) (length-replicate d.times d.choice) in
    let g = choice_gives (at st b N P [] [] C) d l h.0 (named_first (length P) d.times d.choice rest (some_times d.times h.0.1 h.0.4) r)
    (omega (arith, all, few)) in
    let one : step (at st b N P [] [] C) l ≡ Ok (at stage.Choices b N P [] [] (C ++ more)) =
    made_by (at st b N P [] [] C) (at stage.Choices b N P [] [] (C ++ more)) l t g in
    rw one (only_choices cs ls stage.Choices b N P (C ++ more) (each_actor (C ++ more)) refl h.1 (named_rest (length P) d.times d.choice rest r)
    (omega (arith, all, len, few))
    ∙ ap (λ x. Ok (at stage.Done b N P [] [] x)) (append_assoc C more rest))
  where
    each_actor : (D : List Choice) (a : Actor) (ws : List (List ℕ)) → step (at stage.Choices b N P [] [] D) (actor_word a ∷ ws)
        ≡ choice_line (at stage.Choices b N P [] [] D) a ws
    each_actor D actor.C ws = refl
    each_actor D actor.A ws = refl
    each_actor D actor.B ws = refl

-- ---- the lines of a program

-- some lines passed: those that are left spell these statements, and reading goes on with them from the second state
record Passed (xs : List Statement) (ls : List (List (List ℕ))) (s : Seen) (t : Seen) : Type 0 where
  rest : List (List (List ℕ))
  spelled : SpellEach xs rest
  worded : Worded rest
  same : fold_lines s ls ≡ fold_lines t rest

-- what new labels are, one after the other
label_first : (M : List Mark) (v : Option (List ℕ)) (n : ℕ) (more : List Mark) → AreNew M (label_at v n ++ more) → AreNew M (label_at v n)
    × AreNew (M ++ label_at v n) more
label_first M None n more h = (tt, rw append-nil h)
label_first M (Some w) n more h = ((h.0, tt), h.1)

-- a name, and names behind it, that are new in a row: the first is new, and the others are new behind it
name_first : (N : List Mark) (w : List ℕ) (n : ℕ) (more : List Mark) → AreNew N (name_in w n ++ more) → AreNew N (name_in w n) × AreNew (N ++ name_in w n) more
name_first N w n more h = by (is_name w) h
  where
    by : (b : Bool) → AreNew N ((if b then (w, n) ∷ [] else []) ++ more) → AreNew N (if b then (w, n) ∷ [] else [])
        × AreNew (N ++ (if b then (w, n) ∷ [] else [])) more
    by true h = ((h.0, tt), h.1)
    by false h = (tt, rw append-nil h)

-- the values of the first line's instruction fit, and so do those of the others
values_first : (i : Option Instr) (is : List Instr) → Values (instr_in i ++ is) → Values (instr_in i) × Values is
values_first None is h = (tt, h)
values_first (Some i) is h = ((h.0, tt), h.1)

-- the version has the first line's instruction, and the others
known_first : (version : Version) (i : Option Instr) (is : List Instr) → HasEach version (instr_in i ++ is) → HasEach version (instr_in i) × HasEach version is
known_first version None is h = (tt, h)
known_first version (Some i) is h = ((h.0, tt), h.1)

-- instructions that are resolved, and more that are, are resolved in a row
all_resolved-append : (labels : List Mark) (O Q : List Pending) (I J : List Instr) → all_resolved labels O ≡ Ok I → all_resolved labels Q ≡ Ok J
    → all_resolved labels (O ++ Q) ≡ Ok (I ++ J)
all_resolved-append labels [] Q I J e f = let q : I ≡ [] = cc in rw q f
all_resolved-append labels (p ∷ O) Q I J e f =
    let a = bind_ok (resolved labels p) _ I e in
    let c = bind_ok (all_resolved labels O) _ I a.2 in
    let q : a.0 ∷ c.0 ≡ I = cc (c.2) in
    rw (a.1, all_resolved-append labels O Q c.0 J c.1 f) (ap (λ (x : List Instr). Ok (x ++ J)) q)

-- the lines of a program were read
record Coded (labels : List Mark) (xs : List Statement) (ls : List (List (List ℕ))) (b : Base) (N : List Mark) (P : List (List Instr)) (M : List Mark)
    (O : List Pending) (codes : List Code) (I : List Instr) : Type 0 where
  instrs : List Pending
  resolves : all_resolved labels instrs ≡ Ok (I ++ instrs_of codes)
  passed : Passed xs ls (at stage.Program b N P M O []) (at stage.Program b N P (M ++ labels_of (length O) codes) instrs [])

-- lines that spell the lines of an open program are read as them
only_codes : (labels : List Mark) (cs : List Code) (xs : List Statement) (ls : List (List (List ℕ))) (b : Base) (N : List Mark) (P : List (List Instr))
    (M : List Mark) (O : List Pending) (I : List Instr)
    → SpellEach (map (m.code labels) cs ++ xs) ls → Worded ls → Values (instrs_of cs) → HasEach b.version (instrs_of cs) → AreNew M (labels_of (length O) cs)
    → all_resolved labels O ≡ Ok I → length O + length (instrs_of cs) ≤ 64
    → Coded labels xs ls b N P M O cs I
only_codes labels [] xs ls b N P M O I h w v known new e few = record {
  instrs = O;
  resolves = e ∙ ap Ok (sym (append-nil I));
  passed = record { rest = ls; spelled = h; worded = w; same = ap (λ (x : List Mark). fold_lines (at stage.Program b N P x O []) ls) (sym (append-nil M)) };
}
only_codes labels (c ∷ cs) xs [] b N P M O I h w v known new e few = absurd h
only_codes labels (c ∷ cs) xs (l ∷ ls) b N P M O I h w v known new e few =
    let k = length O in
    let ii = instr_in c.instr in
    let mk = label_at c.label k in
    let n = label_first M c.label k (labels_of (k + length ii) cs) new in
    let value = values_first c.instr (instrs_of cs) v in
    let parts = known_first b.version c.instr (instrs_of cs) known in
    let sum : length (ii ++ instrs_of cs) ≡ length ii + length (instrs_of cs) = length-append ii (instrs_of cs) in
    let g = code_gives labels b N P M O c.label c.instr l h.0.0 h.0.1 h.0.2 h.0.3 h.0.4 w.0 value.0 parts.0 n.0 (omega (arith, few, sum)) in
    let len : length (O ++ g.more) ≡ k + length ii = length-append O g.more ∙ ap (λ x. k + x) g.count in
    let new_rest : AreNew (M ++ mk) (labels_of (length (O ++ g.more)) cs) = subst (λ x. AreNew (M ++ mk) (labels_of x cs)) (sym len) n.1 in
    let r = only_codes labels cs xs ls b N P (M ++ mk) (O ++ g.more) (I ++ ii) h.1 w.1 value.1 parts.1 new_rest
    (all_resolved-append labels O g.more I ii e g.resolves) (omega (arith, few, sum, len)) in
    let marks : M ++ mk ++ labels_of (length (O ++ g.more)) cs ≡ M ++ (mk ++ labels_of (k + length ii) cs) =
    ap (λ x. M ++ mk ++ labels_of x cs) len ∙ append_assoc M mk (labels_of (k + length ii) cs) in
    record {
      instrs = r.instrs;
      resolves = r.resolves ∙ ap Ok (append_assoc I ii (instrs_of cs));
      passed = record {
        rest = r.passed.rest;
        spelled = r.passed.spelled;
        worded = r.passed.worded;
        same = rw g.same (r.passed.same ∙ ap (λ (x : List Mark). fold_lines (at stage.Program b N P x r.instrs []) r.passed.rest) marks);
      };
    }

-- instructions that are resolved into a program give it where it is closed
program_gives : (labels : List Mark) (O : List Pending) (I : List Instr) → all_resolved labels O ≡ Ok I → IsProgram I → program_of labels O ≡ Ok I
program_gives labels O I e h = rw (e, no_program_fault I h) refl

-- ---- a program is closed by the line below it

-- the letter of a node is an actor's word
at_node : (n : Node) (rest front : List (List ℕ)) → front ≡ node_text n ∷ rest → (a : Actor) × (ws : List (List ℕ)) × (front ≡ actor_word a ∷ ws)
at_node n rest front e = (actor_at n, rest, e ∙ ap (λ w. w ∷ rest) (sym (node_word n)))

-- the words of a choice begin with an actor's word
pub choice_shape : (N : List Mark) (x : Choice) (front : List (List ℕ)) → SpellsChoice N x front → (a : Actor) × (rest : List (List ℕ))
    × (front ≡ actor_word a ∷ rest)
choice_shape N choice.Start front g = (actor.C, codes "start" ∷ [], g)
choice_shape N (choice.Begin t) front g = (actor.C, codes "begin" ∷ g.0 ∷ [], g.1)
choice_shape N (choice.Kill t) front g = (actor.C, codes "kill" ∷ g.0 ∷ [], g.1)
choice_shape N (choice.Run n t) front g = at_node n (codes "run" ∷ g.0 ∷ []) front g.1
choice_shape N (choice.Take n) front g = at_node n (codes "take" ∷ []) front g
choice_shape N (choice.Finish n) front g = at_node n (codes "finish" ∷ []) front g
choice_shape N (choice.Push n) front g = at_node n (codes "push" ∷ []) front g

-- a line of an actor closes the open program first, and is then read as below the rows
closed_by : (a : Actor) (ws : List (List ℕ)) (b : Base) (N : List Mark) (P : List (List Instr)) (M : List Mark) (O : List Pending) (I : List Instr)
    → program_of M O ≡ Ok I
    → step (at stage.Program b N P M O []) (actor_word a ∷ ws) ≡ step (top stage.Rows b N (P ++ I ∷ [])) (actor_word a ∷ ws)
closed_by actor.C ws b N P M O I e = rw e (choice_same b N (P ++ I ∷ []) actor.C ws)
closed_by actor.A ws b N P M O I e = rw e (choice_same b N (P ++ I ∷ []) actor.A ws)
closed_by actor.B ws b N P M O I e = rw e (choice_same b N (P ++ I ∷ []) actor.B ws)

-- so does the line of a choice
closed_by_choice : (names : List Mark) (d : Times) (l : List (List ℕ)) (b : Base) (N : List Mark) (P : List (List Instr)) (M : List Mark) (O : List Pending)
    (I : List Instr) → Spells (m.choice names d) l → program_of M O ≡ Ok I
    → step (at stage.Program b N P M O []) l ≡ step (top stage.Rows b N (P ++ I ∷ [])) l
closed_by_choice names d l b N P M O I h e =
    let x = choice_shape names d.choice h.0 h.3 in
    let q : l ≡ actor_word x.0 ∷ (x.1 ++ h.1) = h.2 ∙ ap (λ f. f ++ h.1) x.2 in
    ap (step (at stage.Program b N P M O [])) q ∙ closed_by x.0 (x.1 ++ h.1) b N P M O I e ∙ ap (step (top stage.Rows b N (P ++ I ∷ []))) (sym q)

-- a program is opened alike below the programs and below the rows
open_same : (b : Base) (N : List Mark) (P : List (List Instr)) (w : List ℕ)
    → open_line (top stage.Choices b N P) (w ∷ []) ≡ open_line (top stage.Rows b N P) (w ∷ [])
open_same b N P w = by (is_numeral w) (own_number (length P) w) (is_name w) (is_some (place w N))
  where
    opened : Seen → Result Seen AsmKind
    opened u = if nat_le 64 (length u.programs) then Err kinds.Count else Ok (record u { stage = stage.Program })

    head : Stage → Bool → Result ℕ AsmKind → Bool → Bool → Result Seen AsmKind
    head st x n y z =
        if x then (n >>= λ _. Ok (top st b N P)) else
        if y then (if z then Err kinds.Label else Ok (top st b (N ++ (w, length P) ∷ []) P)) else
        Err kinds.Word

    by : (x : Bool) (n : Result ℕ AsmKind) (y z : Bool) → (head stage.Choices x n y z >>= opened) ≡ (head stage.Rows x n y z >>= opened)
    by true (Ok n) y z = refl
    by true (Err e) y z = refl
    by false n true true = refl
    by false n true false = refl
    by false n false z = refl

-- the lines of programs and choices below an open program close it, and are then read as below the rows
only_close : (ps : List Written) (cs : List Times) (names : List Mark) (ls : List (List (List ℕ))) (b : Base) (N : List Mark) (P : List (List Instr))
    (M : List Mark) (O : List Pending) (I : List Instr)
    → SpellEach (flat_map program_statements ps ++ choice_statements names cs) ls → program_of M O ≡ Ok I
    → fold_lines (at stage.Program b N P M O []) ls ≡ fold_lines (top stage.Rows b N (P ++ I ∷ [])) ls
only_close [] [] names [] b N P M O I h e = absurd h
only_close [] [] names (l ∷ ls) b N P M O I h e = rw (h.0, e) refl
only_close [] (d ∷ cs) names [] b N P M O I h e = absurd h
only_close [] (d ∷ cs) names (l ∷ ls) b N P M O I h e = ap (λ r. r >>= λ t. fold_lines t ls) (closed_by_choice names d l b N P M O I h.0 e)
only_close (q ∷ ps) cs names [] b N P M O I h e = absurd h
only_close (q ∷ ps) cs names (l ∷ ls) b N P M O I h e = rw (h.0, e) (ap (λ r. r >>= λ t. fold_lines t ls) (open_same b N (P ++ I ∷ []) q.head))

-- ---- programs

-- a line of an actor below the rows is read as a choice
top_actor : (b : Base) (N : List Mark) (P : List (List Instr)) (a : Actor) (ws : List (List ℕ))
    → step (top stage.Rows b N P) (actor_word a ∷ ws) ≡ choice_line (top stage.Rows b N P) a ws
top_actor b N P actor.C ws = refl
top_actor b N P actor.A ws = refl
top_actor b N P actor.B ws = refl

-- lines that spell programs, choices and the end are read as them
only_programs : (ps : List Written) (cs : List Times) (ls : List (List (List ℕ))) (b : Base) (N : List Mark) (k : ℕ) (P : List (List Instr)) → k ≡ length P
    → SpellEach (following N k ps cs) ls → Worded ls → Headed k ps → AreNew N (names_of k ps) → Labelled ps → ArePrograms (bodies ps)
    → AreKnown b.version (bodies ps)
    → AreNamed (length (P ++ bodies ps)) (repeated cs) → length (P ++ bodies ps) ≤ 64 → length (repeated cs) ≤ 4096
    → fold_lines (top stage.Rows b N P) ls ≡ Ok (at stage.Done b (N ++ names_of k ps) (P ++ bodies ps) [] [] (repeated cs))
only_programs [] cs ls b N k P e h w heads new labels fit known named few room =
    only_choices cs ls stage.Rows b N P [] (top_actor b N P) refl (subst (λ (x : List Mark). SpellEach (choice_statements x cs) ls) (append-nil N) h)
    (rw append-nil at named) (omega (arith, room))
    ∙ ap (λ (x : List Mark). Ok (at stage.Done b x P [] [] (repeated cs))) (sym (append-nil N))
    ∙ ap (λ (x : List (List Instr)). Ok (at stage.Done b (N ++ []) x [] [] (repeated cs))) (sym (append-nil P))
only_programs (q ∷ ps) cs [] b N k P e h w heads new labels fit known named few room = absurd h
only_programs (q ∷ ps) cs (l ∷ ls) b N k P e h w heads new labels fit known named few room =
    let I = instrs_of q.body in
    let L = labels_of 0 q.body in
    let one = name_in q.head k in
    let n = name_first N q.head k (names_of (k + 1) ps) new in
    let small : length P < 64 = omega (arith, few, length-append P (I ∷ bodies ps)) in
    let opened = open_gives b N P q.head (subst (λ x. (is_name q.head ≡ true) ⊎ (number_of q.head ≡ Some x)) e heads.0)
    (subst (λ x. AreNew N (name_in q.head x)) e n.0) small in
    let first : step (top stage.Rows b N P) l ≡ Ok (top stage.Program b (N ++ one) P) =
    ap (step (top stage.Rows b N P)) h.0 ∙ opened ∙ ap (λ x. Ok (top stage.Program b (N ++ name_in q.head x) P)) (sym e) in
    let names : N ++ (one ++ names_of (k + 1) ps) ≡ N ++ one ++ names_of (k + 1) ps = sym (append_assoc N one (names_of (k + 1) ps)) in
    let lines =
    subst (λ xs. SpellEach xs ls) (append_assoc (map (m.code L) q.body) (flat_map program_statements ps)
    (choice_statements (N ++ (one ++ names_of (k + 1) ps)) cs)) h.1 in
    let lines2 = subst (λ (x : List Mark). SpellEach (map (m.code L) q.body ++ (flat_map program_statements ps ++ choice_statements x cs)) ls) names lines in
    let c = only_codes L q.body (following (N ++ one) (k + 1) ps cs) ls b (N ++ one) P [] [] [] lines2 w.1 fit.0.values known.0 labels.0 refl
    (omega (arith, fit.0.few)) in
    let close = only_close ps cs (N ++ one ++ names_of (k + 1) ps) c.passed.rest b (N ++ one) P L c.instrs I c.passed.spelled
    (program_gives L c.instrs I c.resolves fit.0) in
    let all : P ++ I ∷ [] ++ bodies ps ≡ P ++ (I ∷ bodies ps) = append_assoc P (I ∷ []) (bodies ps) in
    let count : k + 1 ≡ length (P ++ I ∷ []) = omega (arith, e, length-append P (I ∷ [])) in
    let rest = only_programs ps cs c.passed.rest b (N ++ one) (k + 1) (P ++ I ∷ []) count c.passed.spelled c.passed.worded heads.1 n.1 labels.1 fit.1 known.1
    (subst (λ (x : List (List Instr)). AreNamed (length x) (repeated cs)) (sym all) named)
    (subst (λ (x : List (List Instr)). length x ≤ 64) (sym all) few) room in
    rw first (c.passed.same ∙ close ∙ rest ∙ ap (λ (x : List Mark). Ok (at stage.Done b x (P ++ I ∷ [] ++ bodies ps) [] [] (repeated cs))) (sym names)
    ∙ ap (λ (x : List (List Instr)). Ok (at stage.Done b (N ++ (one ++ names_of (k + 1) ps)) x [] [] (repeated cs))) all)
  where
    open_gives : (b : Base) (N : List Mark) (P : List (List Instr)) (w : List ℕ) → (is_name w ≡ true) ⊎ (number_of w ≡ Some (length P))
        → AreNew N (name_in w (length P)) → length P < 64
        → step (top stage.Rows b N P) (codes "txn" ∷ w ∷ []) ≡ Ok (top stage.Program b (N ++ name_in w (length P)) P)
    open_gives b N P w h new small = rw (head_gives stage.Rows b N P w h new) (rw (not_below (length P) 64 small) refl)

-- ---- rows

-- a greater number divided by the same is no less
div_more : (n m k : ℕ) → 0 < k → n ≤ m → n / k ≤ m / k
div_more n m k some h = le-div (n / k) m k some (omega (arith, div-mul-le_self n k))

-- a page of the opening has room for one row at least
half : (c : ℕ) → 2 ≤ c → 0 < opening_rows c
half c h = omega arith

-- fewer rows need no more pages in the opening
fewer_pages : (c p n m : ℕ) → 2 ≤ c → n ≤ m → opening_pages_for c m ≤ p → opening_pages_for c n ≤ p
fewer_pages c p zero zero least h pages = pages
fewer_pages c p zero (suc m) least h pages = omega (arith, pages)
fewer_pages c p (suc n) zero least h pages = absurd (omega arith)
fewer_pages c p (suc n) (suc m) least h pages = omega (arith, pages, div_more n m (opening_rows c) (half c least) (omega arith))

-- lines that spell rows in order, and that there is room for, are read as them
only_rows : (rows : List Row) (xs : List Statement) (ls : List (List (List ℕ))) (b : Base) (low : ℕ) → 2 ≤ b.cap
    → SpellEach (map m.row rows ++ xs) ls → Worded ls → Rising low rows → RowsFit rows → Above low b.rows → length b.rows + length rows ≤ 256
    → opening_pages_for b.cap (length b.rows + length rows) ≤ b.pages
    → Passed xs ls (top stage.Rows b [] []) (top stage.Rows (record b { rows = b.rows ++ rows }) [] [])
only_rows [] xs ls b low least h w rise fit above few pages = record {
  rest = ls;
  spelled = h;
  worded = w;
  same = ap (λ x. fold_lines (top stage.Rows (record b { rows = x }) [] []) ls) (sym (append-nil b.rows));
}
only_rows (r ∷ rows) xs [] b low least h w rise fit above few pages = absurd h
only_rows (r ∷ rows) xs (l ∷ ls) b low least h w rise fit above few pages =
    let R = b.rows in
    let n : length (R ++ r ∷ []) ≡ length R + 1 = length-append R (r ∷ []) in
    let all : length R + length (r ∷ rows) ≡ length (R ++ r ∷ []) + length rows = omega (arith, n) in
    let one =
    row_gives b r l h.0 fit.0 fit.1 (omega (arith, few)) (fewer_pages b.cap b.pages (length R + 1) (length R + length (r ∷ rows)) least (omega arith) pages)
    (above r.key rise.0) in
    let t = only_rows rows xs ls (record b { rows = R ++ r ∷ [] }) (r.key + 1) least h.1 w.1 rise.1 fit.2 (above_more R r) (omega (arith, n, few))
    (subst (λ k. opening_pages_for b.cap k ≤ b.pages) all pages) in
    record {
      rest = t.rest;
      spelled = t.spelled;
      worded = t.worded;
      same = rw one (t.same ∙ ap (λ x. fold_lines (top stage.Rows (record b { rows = x }) [] []) t.rest) (append_assoc R (r ∷ []) rows));
    }

-- ---- the whole text

-- the state that shows the scenario
abbrev all_of : Scenario → List Mark → Seen
all_of s N = at stage.Done (base s.version s.cap s.pages s.rule s.rows) N s.programs [] [] s.choices

-- the word of a rule is read as the rule
rule_gives : (r : Rule) → rule_of (rule_text r) ≡ Some r
rule_gives Held = refl
rule_gives Loose = refl

-- lines that spell the rows, programs and choices of a scenario are read as them
only_body : (s : Scenario) (d : Draft) (ls : List (List (List ℕ))) → IsScenario s → IsDraftOf d s → Worded ls
    → SpellEach (map m.row s.rows ++ following [] 0 d.programs d.choices) ls
    → fold_lines (top stage.Rows (base s.version s.cap s.pages s.rule []) [] []) ls ≡ Ok (all_of s (names_of 0 d.programs))
only_body s d ls fits drafts w h =
    let z : 0 + length s.rows ≡ length s.rows = omega arith in
    let b = base s.version s.cap s.pages s.rule in
    let r = only_rows s.rows (following [] 0 d.programs d.choices) ls (b []) 0 fits.cap_least h w fits.rows_rise fits.rows_fit (λ key h. refl)
    (omega (arith, fits.few_rows)) (subst (λ k. opening_pages_for s.cap k ≤ s.pages) (sym z) fits.few_opening_pages) in
    let programs : ArePrograms (bodies d.programs) = subst ArePrograms (sym drafts.programs) fits.programs in
    let known : AreKnown s.version (bodies d.programs) = subst (AreKnown s.version) (sym drafts.programs) fits.instrs_known in
    let named : AreNamed (length (bodies d.programs)) (repeated d.choices) =
    subst (λ (x : List (List Instr)). AreNamed (length x) (repeated d.choices)) (sym drafts.programs)
    (subst (AreNamed (length s.programs)) (sym drafts.choices) fits.choices_named) in
    let few : length (bodies d.programs) ≤ 64 = subst (λ (x : List (List Instr)). length x ≤ 64) (sym drafts.programs) fits.few_programs in
    let room : length (repeated d.choices) ≤ 4096 = subst (λ (x : List Choice). length x ≤ 4096) (sym drafts.choices) fits.few_choices in
    r.same ∙ only_programs d.programs d.choices r.rest (b s.rows) [] 0 [] refl r.spelled r.worded drafts.headed drafts.names_new drafts.labelled programs known
    named few room
    ∙ ap (λ (x : List (List Instr)). Ok (at stage.Done (b s.rows) (names_of 0 d.programs) x [] [] (repeated d.choices))) drafts.programs
    ∙ ap (λ (x : List Choice). Ok (at stage.Done (b s.rows) (names_of 0 d.programs) s.programs [] [] x)) drafts.choices

-- lines that spell the statements of a scenario are read as the scenario
only_lines : (s : Scenario) (d : Draft) (ls : List (List (List ℕ))) → IsScenario s → IsDraftOf d s → Worded ls → SpellEach (statements s d) ls
    → fold_lines nothing_seen ls ≡ Ok (all_of s (names_of 0 d.programs))
only_lines s d [] fits e w q = absurd q
only_lines s d (x ∷ []) fits e w q = absurd q.1
only_lines s d (x ∷ y ∷ []) fits e w q = absurd q.1.1
only_lines s d (x ∷ y ∷ z ∷ []) fits e w q = absurd q.1.1.1
only_lines s d (x ∷ y ∷ z ∷ f ∷ ls) fits e w q =
    let cap = q.1.0 in
    let pages = q.1.1.0 in
    rw (q.0, version_back s.version, cap.1, number_in_gives cap.0 2 16 s.cap cap.2 fits.cap_least fits.cap_most)
    (rw (pages.1, number_in_gives pages.0 1 512 s.pages pages.2 fits.pages_least fits.pages_most)
    (rw (q.1.1.1.0, rule_gives s.rule) (only_body s d ls fits e w.1.1.1.1 q.1.1.1.1)))

-- ---- lines without words change nothing

-- an answer at a line that is no fault is the answer itself
at_line_ok : {X : Type 0} (n : ℕ) (r : Result X AsmKind) (t : X) → at_line n r ≡ Ok t → r ≡ Ok t
at_line_ok n (Ok x) t h = cc
at_line_ok n (Err k) t h = cc

-- a line that is read, and the lines with words below it, are read with the line left out if it has no words
strip_at : (ws : List (List ℕ)) (rest : List (List (List ℕ))) (s t u : Seen) → line_step s ws ≡ Ok u → fold_lines u (filter has_words rest) ≡ Ok t
    → fold_lines s (filter has_words (ws ∷ rest)) ≡ Ok t
strip_at [] rest s t u h k = let e : s ≡ u = cc in rw e k
strip_at (w ∷ ws) rest s t u h k = rw h k

-- a text that is read is read by its lines with words alone
strip_ok : (ls : List (List ℕ)) (s t : Seen) (n : ℕ) → read_lines s n ls ≡ Ok t → fold_lines s (filter has_words (map words_of ls)) ≡ Ok t
strip_ok [] s t n h = at_line_ok n (finish s) t h
strip_ok (l ∷ ls) s t n h =
    let p = bind_ok (at_line n (line_step s (words_of l))) (λ u. read_lines u (n + 1) ls) t h in
    strip_at (words_of l) (map words_of ls) s t p.0 (at_line_ok n (line_step s (words_of l)) p.0 p.1) (strip_ok ls p.0 t (n + 1) p.2)

-- lines with words that are read are read as the line in front, whether it has words or not, and then the others
back_at : (ws : List (List ℕ)) (rest : List (List (List ℕ))) (s t : Seen) → fold_lines s (filter has_words (ws ∷ rest)) ≡ Ok t → (u : Seen)
    × (line_step s ws ≡ Ok u) × (fold_lines u (filter has_words rest) ≡ Ok t)
back_at [] rest s t h = (s, refl, h)
back_at (w ∷ ws) rest s t h = bind_ok (step s (w ∷ ws)) (λ u. fold_lines u (filter has_words rest)) t h

-- a text whose lines with words are read is read with all its lines
strip_back : (ls : List (List ℕ)) (s t : Seen) (n : ℕ) → fold_lines s (filter has_words (map words_of ls)) ≡ Ok t → read_lines s n ls ≡ Ok t
strip_back [] s t n h = rw h refl
strip_back (l ∷ ls) s t n h = let p = back_at (words_of l) (map words_of ls) s t h in rw p.1 (strip_back ls p.0 t (n + 1) p.2)

-- ---- the laws

-- the lines with words of a text that is read spell the scenario that the state shows
pub read_text : (text : List ℕ) (t : Seen) → reading text ≡ Ok t → FoundText (lines_with_words text) t
read_text text t h = found_text (lines_with_words text) t (strip_ok (lines_of text) nothing_seen t 1 h)

-- a text that spells a scenario means it
pub Means-from_read : (text : List ℕ) (t : Seen) → FoundText (lines_with_words text) t → IsScenario (shows t) → Means text (shows t)
Means-from_read text t f h = (h, (f.draft, f.drafts, f.spelled))

-- the state in which the text of the scenario ends
abbrev ends_in : (text : List ℕ) (s : Scenario) → Means text s → Seen
ends_in text s h = all_of s (names_of 0 h.1.0.programs)

-- a text that means a scenario is read as it
pub only : (text : List ℕ) (s : Scenario) (h : Means text s) → reading text ≡ Ok (ends_in text s h)
only text s h = strip_back (lines_of text) nothing_seen (ends_in text s h) 1
    (only_lines s h.1.0 (lines_with_words text) h.0 h.1.1 (worded (map words_of (lines_of text))) h.1.2)

-- two answers of one reading are equal
one_answer : (t u : Seen) (r : Result Seen AsmFault) → r ≡ Ok t → r ≡ Ok u → t ≡ u
one_answer t u r h k = cc

-- one reading has no answer beside a fault
not_both : (t : Seen) (f : AsmFault) (r : Result Seen AsmFault) → r ≡ Ok t → r ≡ Err f → ⊥
not_both t f r h k = cc

-- a text that is read means no scenario but the one that its state shows
pub only_of : (text : List ℕ) (t : Seen) (s : Scenario) → reading text ≡ Ok t → Means text s → shows t ≡ s
only_of text t s h q = ap shows (one_answer t (ends_in text s q) (reading text) h (only text s q))

-- where reading a text that means a scenario fails, the fault is that of memory
pub fault_of : (text : List ℕ) (f : AsmFault) (s : Scenario) → (f.kind ≡ kinds.Memory) ⊎ (reading text ≡ Err f) → Means text s → f.kind ≡ kinds.Memory
fault_of text f s h q =
    elim h [
      | inl e ↦ e
      | inr w ↦ absurd (not_both (ends_in text s q) f (reading text) (only text s q) w)
    ]
