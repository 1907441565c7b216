-- Worked lines: what some words spell, and what agrees with it, computed.
use Rattle.std.proofs.Common.{◌≡◌, true, ℕ, ◌++◌, List, [], ◌∷◌, Option, None, Some, Ok, Err, codes, refl, ap, inl, inr, arith}
use Rattle.std.specs.Fmt.{digits}
use Rattle.zy_isa.specs.declared.node.Node.TheVariants.{A, B}
use Rattle.zy_isa.specs.declared.node.Actor.{Actor}
use Rattle.zy_isa.specs.declared.node.Actor.TheVariants as actor
use Rattle.zy_isa.specs.declared.choice.Choice.TheVariants.{Take, Push, Finish, Run, Start, Begin, Kill}
use Rattle.zy_isa.specs.Rows.{row}
use Rattle.zy_model.specs.declared.kind.Kind.TheVariants as message
use Rattle.zy_page.specs.declared.page_rows.PageRows.{PageRows}
use Rattle.zy_page.specs.RowLists.{of_rows}
use Rattle.zy_table.specs.declared.observation.Observation.{Observation}
use Rattle.zy_table.specs.declared.outcome.Outcome.TheVariants as outcome
use Rattle.zy_text.specs.Words.{words_of}
use Rattle.zy_logs.specs.declared.expected.ExpectedInLog.TheVariants as expected
use Rattle.zy_logs.specs.declared.log_line.LogLine.{LogLine}
use Rattle.zy_logs.specs.declared.log_line.Logged.TheVariants.{Step, Gap}
use Rattle.zy_patterns.specs.declared.patterns.ReasonPattern.TheVariants as reason
use Rattle.zy_patterns.specs.declared.patterns.OutcomePattern.TheVariants as pattern
use Rattle.zy_logs.specs.declared.txns.Txns.{Txns}
use Rattle.zy_text.specs.Names.{place_among}
use Rattle.zy_patterns.specs.Vocabulary as word
use Rattle.zy_patterns.specs.Patterns.{matches}
use Rattle.zy_logs.specs.Agrees.{Agrees}
use Rattle.zy_logs.specs.InFull.{step_words, words_in}
use Rattle.zy_logs.specs.Lines as line
use Rattle.zy_logs.specs.Lines.{line_of}
use Rattle.zy_logs.specs.Logs.{logs_of}

-- opens the definitions of what words begin with
unfoldable open_all : ℕ
unfolding word.node word.kind word.lone_reason word.lone_outcome word.lone_got word.paged_outcome word.paged_got line.outcome_of
open_all = 0

module _ (txns : Txns) where
  -- a choice, its outcome and a message
  takes : line_of txns (words_of (codes "A take -> got ready ! dual"))
      ≡ Ok (Step (record { log = actor.A; choice = Take A; told = Some pattern.GotReady; value = None; sent = Some message.Dual; rows = None }))
  unfolding open_all
  takes = refl

  -- a choice alone
  alone : line_of txns (words_of (codes "  B take ; nothing was logged")) ≡ Ok (Step (record { log = actor.B; choice = Take B; told = None; value = None; sent = None; rows = None }))
  unfolding open_all
  alone = refl

  -- what came was not logged, and a message was
  unknown : line_of txns (words_of (codes "B push -> ? ! page")) ≡ Ok (Step (record { log = actor.B; choice = Push B; told = None; value = None; sent = Some message.Page; rows = None }))
  unfolding open_all
  unknown = refl

  -- the number is left out before a message
  without_page : line_of txns (words_of (codes "B push -> pushed ! page"))
      ≡ Ok (Step (record { log = actor.B; choice = Push B; told = Some (pattern.Pushed None); value = None; sent = Some message.Page; rows = None }))
  unfolding open_all
  without_page = refl

  -- `took` is no outcome
  no_outcome : line_of txns (words_of (codes "B take -> took page 3")) ≡ Err (record { word = 3; expected = expected.Outcome })
  unfolding open_all
  no_outcome = refl

  -- `take` never gives `started`, whatever comes behind that
  no_step : line_of txns (words_of (codes "A take -> started page 3")) ≡ Err (record { word = 3; expected = expected.OutcomeOf (Take A) })
  unfolding open_all
  no_step = refl

  -- `take` has no number behind it
  no_number : line_of txns (words_of (codes "A take 3")) ≡ Err (record { word = 2; expected = expected.AfterChoice (Take A) })
  unfolding open_all
  no_number = refl

  -- the kind of the message is missing
  no_kind : line_of txns (words_of (codes "A take -> got ready !")) ≡ Err (record { word = 6; expected = expected.Message })
  unfolding open_all
  no_kind = refl

  -- a transaction by its number
  begins : txns.count ≡ 1 → line_of txns (words_of (codes "C begin 0 -> began A"))
      ≡ Ok (Step (record { log = actor.C; choice = Begin 0; told = Some (pattern.Began (Some A)); value = None; sent = None; rows = None }))
  unfolding open_all
  begins one = rw one refl

  -- and by its name; the number of the commit is left out
  commits : txns.count ≡ 1 → place_among txns.names.now (codes "transfer") ≡ Some 0 → line_of txns (words_of (codes "A run transfer -> committed"))
      ≡ Ok (Step (record { log = actor.A; choice = Run A 0; told = Some (pattern.Committed None); value = None; sent = None; rows = None }))
  unfolding open_all
  commits one known = rw (known, one) refl

  -- `did` and its value, up to the greatest
  value : txns.count ≡ 1 → line_of txns (words_of (codes "A run 0 -> did 4294967295"))
      ≡ Ok (Step (record { log = actor.A; choice = Run A 0; told = Some pattern.Did; value = Some 4294967295; sent = None; rows = None }))
  unfolding open_all
  value one = rw one refl

  -- the value is left out before a message
  without_value : txns.count ≡ 1 → line_of txns (words_of (codes "A run 0 -> did ! pull"))
      ≡ Ok (Step (record { log = actor.A; choice = Run A 0; told = Some pattern.Did; value = None; sent = Some message.Pull; rows = None }))
  unfolding open_all
  without_value one = rw one refl

  -- a greater one is none
  large_value : txns.count ≡ 1 → line_of txns (words_of (codes "A run 0 -> did 4294967296"))
      ≡ Err (record { word = 5; expected = expected.AtMost 4294967295 })
  unfolding open_all
  large_value one = rw one refl

  -- nor is a word
  no_value : txns.count ≡ 1 → line_of txns (words_of (codes "A run 0 -> did it")) ≡ Err (record { word = 5; expected = expected.Number })
  unfolding open_all
  no_value one = rw one refl

  -- there is one alone
  two_values : txns.count ≡ 1 → line_of txns (words_of (codes "A run 0 -> did 7 8")) ≡ Err (record { word = 6; expected = expected.AfterOutcome (Run A 0) })
  unfolding open_all
  two_values one = rw one refl

  -- and it comes behind `did` alone
  waits_no_value : txns.count ≡ 1 → line_of txns (words_of (codes "A run 0 -> waits 0 7"))
      ≡ Err (record { word = 6; expected = expected.AfterOutcome (Run A 0) })
  unfolding open_all
  waits_no_value one = rw one refl

  unknown_no_value : txns.count ≡ 1 → line_of txns (words_of (codes "A run 0 -> ? 7")) ≡ Err (record { word = 5; expected = expected.AfterOutcome (Run A 0) })
  unfolding open_all
  unknown_no_value one = rw one refl

  -- rows, behind the message
  push_rows : line_of txns (words_of (codes "A push -> pushed 0 ! page rows 10=1 20=2"))
      ≡ Ok (Step (record {
        log = actor.A;
        choice = Push A;
        told = Some (pattern.Pushed (Some 0));
        value = None;
        sent = Some message.Page;
        rows = Some (of_rows (row 10 1 ∷ row 20 2 ∷ []));
      }))
  unfolding open_all
  push_rows = refl

  -- behind the outcome
  take_rows : line_of txns (words_of (codes "B take -> got page 0 rows 10=1"))
      ≡ Ok (Step (record { log = actor.B; choice = Take B; told = Some (pattern.GotPage (Some 0)); value = None; sent = None; rows = Some (of_rows (row 10 1 ∷ [])) }))
  unfolding open_all
  take_rows = refl

  -- a page without rows
  no_rows : line_of txns (words_of (codes "A take -> got pull 0 ! page rows"))
      ≡ Ok (Step (record { log = actor.A; choice = Take A; told = Some (pattern.GotPull (Some 0)); value = None; sent = Some message.Page; rows = Some (of_rows []) }))
  unfolding open_all
  no_rows = refl

  -- the page is left out before rows
  rows_of_page : line_of txns (words_of (codes "A push -> pushed rows 10=1"))
      ≡ Ok (Step (record { log = actor.A; choice = Push A; told = Some (pattern.Pushed None); value = None; sent = None; rows = Some (of_rows (row 10 1 ∷ [])) }))
  unfolding open_all
  rows_of_page = refl

  -- so is the outcome
  rows_of_choice : line_of txns (words_of (codes "A push rows 65535=4294967295"))
      ≡ Ok (Step (record { log = actor.A; choice = Push A; told = None; value = None; sent = None; rows = Some (of_rows (row 65535 4294967295 ∷ [])) }))
  unfolding open_all
  rows_of_choice = refl

  rows_of_unknown : line_of txns (words_of (codes "A push -> ? rows"))
      ≡ Ok (Step (record { log = actor.A; choice = Push A; told = None; value = None; sent = None; rows = Some (of_rows []) }))
  unfolding open_all
  rows_of_unknown = refl

  -- a finish has no rows, but a transaction may have that name
  named_rows : txns.count ≡ 1 → place_among txns.names.now (codes "rows") ≡ Some 0 → line_of txns (words_of (codes "A finish -> active rows"))
      ≡ Ok (Step (record { log = actor.A; choice = Finish A; told = Some (pattern.Active (Some 0)); value = None; sent = None; rows = None }))
  unfolding open_all
  named_rows one known = rw (known, one) refl

  -- no other choice has rows
  run_rows : txns.count ≡ 1 → line_of txns (words_of (codes "A run 0 -> waits 0 rows 10=1"))
      ≡ Err (record { word = 6; expected = expected.AfterOutcome (Run A 0) })
  unfolding open_all
  run_rows one = rw one refl

  finish_rows : line_of txns (words_of (codes "A finish rows")) ≡ Err (record { word = 2; expected = expected.AfterChoice (Finish A) })
  unfolding open_all
  finish_rows = refl

  -- nothing but rows comes behind `rows`
  no_row : line_of txns (words_of (codes "A push rows 10=1 ! page")) ≡ Err (record { word = 4; expected = expected.Row })
  unfolding open_all
  no_row = refl

  -- a key is a number, not above 65535
  no_key : line_of txns (words_of (codes "A push rows =1")) ≡ Err (record { word = 3; expected = expected.Number })
  unfolding open_all
  no_key = refl

  large_key : line_of txns (words_of (codes "A push rows 65536=1")) ≡ Err (record { word = 3; expected = expected.AtMost 65535 })
  unfolding open_all
  large_key = refl

  -- so is a value, up to its own greatest
  no_row_value : line_of txns (words_of (codes "A push rows 1=2=3")) ≡ Err (record { word = 3; expected = expected.Number })
  unfolding open_all
  no_row_value = refl

  large_row_value : line_of txns (words_of (codes "A push rows 1=4294967296")) ≡ Err (record { word = 3; expected = expected.AtMost 4294967295 })
  unfolding open_all
  large_row_value = refl

  -- keys rise
  same_key : line_of txns (words_of (codes "A push rows 10=1 10=2")) ≡ Err (record { word = 4; expected = expected.HigherKey })
  unfolding open_all
  same_key = refl

  -- there are at most 16 rows
  rows_17 : line_of txns (words_of (codes "B take rows 0=0 1=0 2=0 3=0 4=0 5=0 6=0 7=0 8=0 9=0 10=0 11=0 12=0 13=0 14=0 15=0 16=0"))
      ≡ Err (record { word = 19; expected = expected.FewerRows })
  unfolding open_all
  rows_17 = refl

  -- the message comes before the rows
  behind_message : line_of txns (words_of (codes "A take ! page 1")) ≡ Err (record { word = 4; expected = expected.AfterMessage (Take A) })
  unfolding open_all
  behind_message = refl

  -- `killed` is the client's abort alone
  kills : txns.count ≡ 1 → line_of txns (words_of (codes "C kill 0 -> aborted killed"))
      ≡ Ok (Step (record { log = actor.C; choice = Kill 0; told = Some (pattern.Aborted (Some reason.Killed)); value = None; sent = None; rows = None }))
  unfolding open_all
  kills one = rw one refl

  runs_no_kill : txns.count ≡ 1 → line_of txns (words_of (codes "A run 0 -> aborted killed"))
      ≡ Err (record { word = 4; expected = expected.OutcomeOf (Run A 0) })
  unfolding open_all
  runs_no_kill one = rw one refl

  -- a choice of the client in the log of the node where it took place
  starts_at : line_of txns (words_of (codes "A start -> started ! wire"))
      ≡ Ok (Step (record { log = actor.A; choice = Start; told = Some pattern.Started; value = None; sent = Some message.Wire; rows = None }))
  unfolding open_all
  starts_at = refl

  begins_at : txns.count ≡ 1 → line_of txns (words_of (codes "B begin 0 -> began B"))
      ≡ Ok (Step (record { log = actor.B; choice = Begin 0; told = Some (pattern.Began (Some B)); value = None; sent = None; rows = None }))
  unfolding open_all
  begins_at one = rw one refl

  kills_at : txns.count ≡ 1 → line_of txns (words_of (codes "B kill 0 -> aborted killed"))
      ≡ Ok (Step (record { log = actor.B; choice = Kill 0; told = Some (pattern.Aborted (Some reason.Killed)); value = None; sent = None; rows = None }))
  unfolding open_all
  kills_at one = rw one refl

  -- its node is not the other one
  begins_elsewhere : txns.count ≡ 1 → line_of txns (words_of (codes "B begin 0 -> began A"))
      ≡ Err (record { word = 4; expected = expected.OutcomeOf (Begin 0) })
  unfolding open_all
  begins_elsewhere one = rw one refl

  -- it may be left out
  begins_there : txns.count ≡ 1 → line_of txns (words_of (codes "A begin 0 -> began"))
      ≡ Ok (Step (record { log = actor.A; choice = Begin 0; told = Some (pattern.Began None); value = None; sent = None; rows = None }))
  unfolding open_all
  begins_there one = rw one refl

  -- the client has no choice of a node
  client_takes : line_of txns (words_of (codes "C take")) ≡ Err (record { word = 1; expected = expected.ClientAction })
  unfolding open_all
  client_takes = refl

  -- there is no transaction of this number
  no_txn : txns.count ≡ 1 → line_of txns (words_of (codes "A run 1")) ≡ Err (record { word = 2; expected = expected.KnownTxn })
  unfolding open_all
  no_txn one = rw one refl

  -- a gap tells its actor
  gap_of_a : line_of txns (words_of (codes "A ...")) ≡ Ok (Gap actor.A)
  unfolding open_all
  gap_of_a = refl

  -- with comments and spaces, too
  gap_of_c : line_of txns (words_of (codes "  C   ... ; who knows")) ≡ Ok (Gap actor.C)
  unfolding open_all
  gap_of_c = refl

  -- nothing comes after it
  gap_told : line_of txns (words_of (codes "B ... -> idle")) ≡ Err (record { word = 2; expected = expected.EndOfGap })
  unfolding open_all
  gap_told = refl

  -- it is of an actor
  gap_of_none : line_of txns (words_of (codes "D ...")) ≡ Err (record { word = 0; expected = expected.Actor })
  unfolding open_all
  gap_of_none = refl

  -- four dots are no gap
  no_gap : line_of txns (words_of (codes "A ....")) ≡ Err (record { word = 1; expected = expected.NodeAction })
  unfolding open_all
  no_gap = refl

  -- a text of three lines, the second of which is empty
  abbrev text : List ℕ
  text = codes "A take" ++ 10 ∷ 10 ∷ codes "B push"

  -- its lines have the numbers of lines of the input, the first of which is 5
  numbered : logs_of txns 4 2 5 text ≡ Ok (record { number = 5; logged = Step (record { log = actor.A; choice = Take A; told = None; value = None; sent = None; rows = None }) }
      ∷ record { number = 7; logged = Step (record { log = actor.B; choice = Push B; told = None; value = None; sent = None; rows = None }) } ∷ [])
  unfolding open_all
  numbered = refl

  -- the last one is one too many, where there may be one
  too_many : logs_of txns 4 1 5 text ≡ Err (record { line = 7; word = 0; expected = expected.FewerLines })
  unfolding open_all
  too_many = refl

  -- a line and a gap
  abbrev with_gap : List ℕ
  with_gap = codes "A take" ++ 10 ∷ codes "A ..."

  -- where a gap counts for four steps, they count for five
  gap_counts : logs_of txns 4 5 1 with_gap ≡ Ok (record { number = 1; logged = Step (record { log = actor.A; choice = Take A; told = None; value = None; sent = None; rows = None }) }
      ∷ record { number = 2; logged = Gap actor.A } ∷ [])
  unfolding open_all
  gap_counts = refl

  -- which is one too many for four
  gap_too_long : logs_of txns 4 4 1 with_gap ≡ Err (record { line = 2; word = 0; expected = expected.FewerLines })
  unfolding open_all
  gap_too_long = refl

-- the logged page is the one that came
page_told : matches (pattern.Waits (Some 3)) (outcome.Waits 3) ≡ true
page_told = refl

-- any page may come where none was logged
page_left_out : matches (pattern.Waits None) (outcome.Waits 7) ≡ true
page_left_out = refl

-- a run shows 7
abbrev shows : Observation
shows = record { entry = record { choice = Run A 0; outcome = outcome.Did; sent = None }; value = Some 7; rows = None; node = None }

-- a line of it that tells a value, or none
abbrev tells : Option ℕ → LogLine
tells v = record { log = actor.A; choice = Run A 0; told = Some pattern.Did; value = v; sent = None; rows = None }

-- the logged value is the one that came
value_told : Agrees (tells (Some 7)) shows
value_told = (refl, refl, tt, tt, inl refl)

-- any value may come where none was logged
value_left_out : Agrees (tells None) shows
value_left_out = (refl, tt, tt, tt, inl refl)

-- another value does not agree
value_differs : Agrees (tells (Some 8)) shows → ⊥
value_differs h = grind (arith, h.1)

-- nor does any, where the step shows none
value_of_none : Agrees (tells (Some 0)) (record shows { value = None }) → ⊥
value_of_none h = let e = h.1 in cc

-- a push shows two rows
abbrev pushes : Observation
pushes = record {
  entry = record { choice = Push A; outcome = outcome.Pushed 0; sent = Some message.Page };
  value = None;
  rows = Some (of_rows (row 10 1 ∷ row 20 2 ∷ []));
  node = None;
}

-- a line of it that tells rows, or none
abbrev tells_rows : Option PageRows → LogLine
tells_rows rows = record { log = actor.A; choice = Push A; told = Some (pattern.Pushed (Some 0)); value = None; sent = Some message.Page; rows = rows }

-- the logged rows are those that came
rows_told : Agrees (tells_rows (Some (of_rows (row 10 1 ∷ row 20 2 ∷ [])))) pushes
rows_told = (refl, tt, refl, refl, inl refl)

-- any rows may come where none were logged
rows_left_out : Agrees (tells_rows None) pushes
rows_left_out = (refl, tt, refl, tt, inl refl)

-- how many rows are shown
abbrev count_of : Option PageRows → ℕ
count_of None = 0
count_of (Some x) = x.len

-- no rows are other rows
no_rows_differ : Agrees (tells_rows (Some (of_rows []))) pushes → ⊥
no_rows_differ h = let e : 2 ≡ 0 = ap count_of h.3 in omega (arith, e)

-- so are the first ones alone
fewer_rows_differ : Agrees (tells_rows (Some (of_rows (row 10 1 ∷ [])))) pushes → ⊥
fewer_rows_differ h = let e : 2 ≡ 1 = ap count_of h.3 in omega (arith, e)

-- a begin took place at B
abbrev begins_at_b : Observation
begins_at_b = record { entry = record { choice = Begin 0; outcome = outcome.Began B; sent = None }; value = None; rows = None; node = Some B }

-- a line of it in the log of an actor
abbrev begin_in : Actor → LogLine
begin_in x = record { log = x; choice = Begin 0; told = Some (pattern.Began None); value = None; sent = None; rows = None }

-- it may stand in the client's log, or in that of B
stands_at_client : Agrees (begin_in actor.C) begins_at_b
stands_at_client = (refl, tt, tt, tt, inl refl)

stands_at_b : Agrees (begin_in actor.B) begins_at_b
stands_at_b = (refl, tt, tt, tt, inr refl)

-- and not in that of A
stands_not_at_a : Agrees (begin_in actor.A) begins_at_b → ⊥
stands_not_at_a h = elim h.4 [ inl e ↦ cc | inr e ↦ cc ]

-- all of a step, in words
all_told : step_words (record { entry = record { choice = Take A; outcome = outcome.GotPull 1; sent = Some message.Page }; value = None; rows = Some (of_rows []); node = None })
    ≡ words_of (codes "A take -> got pull 1 ! page rows")
unfolding digits
all_told = refl

-- one that sent no message
all_told_alone : step_words (record { entry = record { choice = Begin 0; outcome = outcome.Began B; sent = None }; value = None; rows = None; node = Some B })
    ≡ words_of (codes "C begin 0 -> began B")
unfolding digits
all_told_alone = refl

-- one that shows a value
all_told_value : step_words shows ≡ words_of (codes "A run 0 -> did 7")
unfolding digits
all_told_value = refl

-- one that shows rows
all_told_rows : step_words pushes ≡ words_of (codes "A push -> pushed 0 ! page rows 10=1 20=2")
unfolding digits
all_told_rows = refl

-- one of the client in the log of a node
all_told_shared : words_in actor.B begins_at_b ≡ words_of (codes "B begin 0 -> began B")
unfolding digits
all_told_shared = refl
