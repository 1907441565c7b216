-- Worked listings, computed.
use Rattle.std.proofs.Common.{◌≡◌, ℕ, List, [], ◌∷◌, refl, true}
use Rattle.std.specs.Prelude.{codes}
use Rattle.std.specs.List.{flat_map}
use Rattle.std.specs.Fmt.{digits}
use Rattle.zy_io.specs.Writing.{line_of}
use Rattle.zy_isa.specs.declared.version.Version.TheVariants.{One}
use Rattle.zy_isa.specs.declared.node.Node.TheVariants.{A}
use Rattle.zy_isa.specs.declared.rule.Rule.TheVariants.{Held}
use Rattle.zy_isa.specs.declared.instr.Reg.TheVariants.{R0, R1, R2}
use Rattle.zy_isa.specs.declared.instr.Instr.TheVariants.{Set, Read, Insert, Commit}
use Rattle.zy_isa.specs.declared.choice.Choice.TheVariants.{Begin, Run}
use Rattle.zy_isa.specs.Rows.{row}
use Rattle.zy_isa.specs.Scenario.{Scenario}
use Rattle.zy_model.specs.Wireframe.{page_of}
use Rattle.zy_table.specs.Change.{txn_at, begun, aborted, did, locked, committed}
use Rattle.zy_table.specs.Client.{begin_at, begin_step, kill_step}
use Rattle.zy_table.specs.Run.{abort_step, set_step, jump_step, commit_or_gone, commit_step, read_step, write_step, full_step, insert_step, access_step}
use Rattle.zy_table.specs.Run.{page_step, key_step, effect_step, instr_step, run_step}
use Rattle.zy_table.specs.Play.{move, step, opening_leaves, opening}
use Rattle.zy_listing.specs.Listing.{listing}

-- opens the whole table
unfoldable table : ℕ
unfolding digits listing page_of txn_at begun aborted did locked committed begin_at begin_step kill_step abort_step set_step jump_step commit_or_gone
    commit_step read_step write_step full_step insert_step access_step page_step key_step effect_step instr_step run_step move step opening_leaves opening
table = 0

-- the smallest scenario: no row, no program and no choice
abbrev smallest : Scenario
smallest = record { version = One; cap = 2; pages = 1; rule = Held; rows = []; programs = []; choices = [] }

-- the text of these lines
abbrev lines : List (List ℕ) → List ℕ
lines texts = flat_map line_of texts

-- the listing of the smallest scenario
smallest-listing : listing smallest [] true ≡ lines (
    codes "zephyr 1" ∷ codes "cap 2" ∷ codes "pages 1" ∷ codes "rule held" ∷ codes "end" ∷ codes "steps" ∷ codes "final" ∷ codes "mode A normal"
    ∷ codes "mode B empty"
    ∷ codes "page 0 A low 0 rows" ∷ codes "link AB" ∷ codes "link BA" ∷ codes "serial same" ∷ codes "end" ∷ [])
unfolding table
smallest-listing = refl

-- a scenario of one program, which reads a row, inserts another and commits
abbrev first_run : Scenario
first_run = record {
  version = One;
  cap = 4;
  pages = 4;
  rule = Held;
  rows = row 10 7 ∷ [];
  programs = (Set R0 10 ∷ Read R1 R0 ∷ Set R2 11 ∷ Insert R2 R1 ∷ Commit ∷ []) ∷ [];
  choices = Begin 0 ∷ Run A 0 ∷ Run A 0 ∷ Run A 0 ∷ Run A 0 ∷ Run A 0 ∷ [];
}

-- the listing of that scenario
first_run-listing : listing first_run first_run.choices true ≡ lines (
    codes "zephyr 1" ∷ codes "cap 4" ∷ codes "pages 4" ∷ codes "rule held" ∷ codes "row 10 7" ∷ codes "txn 0" ∷ codes "set r0 10" ∷ codes "read r1 r0"
    ∷ codes "set r2 11"
    ∷ codes "insert r2 r1" ∷ codes "commit" ∷ codes "C begin 0" ∷ codes "A run 0" ∷ codes "A run 0" ∷ codes "A run 0" ∷ codes "A run 0" ∷ codes "A run 0"
    ∷ codes "end"
    ∷ codes "steps" ∷ codes "1 C begin 0 -> began A" ∷ codes "2 A run 0 -> did" ∷ codes "3 A run 0 -> did" ∷ codes "4 A run 0 -> did" ∷ codes "5 A run 0 -> did"
    ∷ codes "6 A run 0 -> committed 1"
    ∷ codes "final" ∷ codes "mode A normal" ∷ codes "mode B empty" ∷ codes "page 0 A low 0 rows 10=7 11=7" ∷ codes "link AB" ∷ codes "link BA"
    ∷ codes "txn 0 committed A 1 done 5 regs 10 7 11 0 0 0 0 0" ∷ codes "serial same" ∷ codes "end" ∷ [])
unfolding table
first_run-listing = refl
