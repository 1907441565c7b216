-- What the lines so far gave.
use Rattle.std.specs.Prelude.{map, ◌≡◌, ◌⊎◌, ℕ, List}
use Rattle.std.specs.Prelude.{Result, Ok, Err}
use Rattle.zy_isa.specs.declared.rule.Rule.{Rule as LockRule}
use Rattle.zy_isa.specs.declared.row.Row.{Row}
use Rattle.zy_isa.specs.declared.instr.Instr.{Instr}
use Rattle.zy_isa.specs.declared.choice.Choice.{Choice}
use Rattle.zy_isa.specs.declared.version.Version.{Version}
use Rattle.zy_asm.specs.declared.faults.AsmKind.{AsmKind}
use Rattle.zy_asm.specs.declared.faults.AsmKind.TheVariants as kinds
use Rattle.zy_asm.specs.declared.word_fault.WordFault.{WordFault}
use Rattle.zy_asm.specs.Reasons.{kind_of}
use Rattle.zy_asm.specs.declared.state.Stage.{Stage}
use Rattle.zy_asm.specs.declared.state.Reader.{Reader}
use Rattle.zy_text.specs.Names.{Mark}
use Rattle.zy_asm.specs.Pending.{Pending, pending_of}

-- what the lines so far gave
pub record Seen : Type 0 where
  pub stage : Stage
  pub version : Version
  pub cap : ℕ
  pub pages : ℕ
  pub rule : LockRule
  pub rows : List Row
  pub names : List Mark
  pub programs : List (List Instr)
  pub labels : List Mark
  pub instrs : List Pending
  pub choices : List Choice

abbrev pub progress_of : Reader → Seen
progress_of r = record {
  stage = r.stage;
  version = r.version;
  cap = r.cap;
  pages = r.pages;
  rule = r.rule;
  rows = r.rows.items;
  names = r.names;
  programs = r.programs.items;
  labels = r.labels;
  instrs = map pending_of r.instrs.items;
  choices = r.choices.items;
}

-- a call did the step, unless there was no memory
abbrev pub Steps : Result (Unit {0}) WordFault → Seen → Result Seen AsmKind → Type 0
Steps (Ok x) new read = read ≡ Ok new
Steps (Err f) new read = (kind_of f.reason ≡ kinds.Memory) ⊎ (read ≡ Err (kind_of f.reason))
