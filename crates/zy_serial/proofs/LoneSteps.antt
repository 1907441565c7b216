-- The ways of an instruction at a key, and of a run of many.
use Rattle.std.proofs.Common.{List, Bool, ap, arith, false, refl, suc, sym, true, zero, ℕ, ◌+◌, ◌∙◌, ◌≡◌}
use Rattle.std.specs.Prelude.{Option, Result, Ok, Err, OnOk, if◌then◌else◌, is_some, slice_get}
use Rattle.std.specs.FinMap.{empty, get}
use Rattle.zy_isa.specs.declared.instr.Instr.{Instr}
use Rattle.zy_table.specs.Database.{Map, laid}
use Rattle.zy_table.specs.declared.access.Access.TheVariants.{Writes, Inserts}
use Rattle.zy_table.specs.Serial.{Alone, alone, alone_access, alone_instr, alone_step}
use Rattle.zy_isa.specs.Rows.{put_row}
use Rattle.zy_isa.specs.declared.row.Row.{Row}
use Rattle.zy_table.specs.Rows.{put_rows}
use Rattle.zy_serial.specs.Lone.{Lone, map_of, on_map}
use Rattle.zy_laws.proofs.serial.LoneRuns.{laid_put}
use Rattle.zy_serial.proofs.LaidRows.{laid-put_rows}

-- a run that goes on does its next instruction
pub alone-on : (m : Map) (program : List Instr) (n : ℕ) (x : Alone) → alone m program n ≡ x → x.over ≡ false
    → alone m program (suc n) ≡ alone_instr m (slice_get program x.pc) x
unfolding alone_step
alone-on m program n x e on = ap (alone_step m program) e ∙ ap (λ (b : Bool). if b then x else alone_instr m (slice_get program x.pc) x) on

-- a run that ended stays as it is
over_stays : (m : Map) (program : List Instr) (x : Alone) → x.over ≡ true → alone_step m program x ≡ x
unfolding alone_step
over_stays m program x e = ap (λ (b : Bool). if b then x else alone_instr m (slice_get program x.pc) x) e

-- a run that ended stays as it is however many instructions more are run
pub alone-over : (m : Map) (program : List Instr) (n more : ℕ) → (alone m program n).over ≡ true → alone m program (more + n) ≡ alone m program n
alone-over m program n zero e = let z : 0 + n ≡ n = omega arith in ap (alone m program) z
alone-over m program n (suc more) e =
    let s : suc more + n ≡ suc (more + n) = omega arith in
    ap (alone m program) s ∙ ap (alone_step m program) (alone-over m program n more e) ∙ over_stays m program (alone m program n) e

-- a row is written unless memory was wanted
pub written-there : {E : Type 0} (r : Result (Unit {0}) E) (m : Map) (k v : ℕ) (x y : Lone) (there : Option ℕ)
    → x.over ≡ false → there ≡ get (laid x.rows m) k → is_some there ≡ true
    → OnOk r (y ≡ record x { pc = x.pc + 1; rows = put_row k v x.rows }) → OnOk r (on_map m y ≡ alone_access m (Writes v) k (on_map m x))
written-there (Ok u) m k v x y there on e is put =
    let here : is_some (get (laid x.rows m) k) ≡ true = ap is_some (sym e) ∙ is in
    rw (here, put, on, laid_put m x.rows k v) refl
written-there (Err e0) m k v x y there on e is put = tt

-- a row at a key that has no value is inserted, unless memory was wanted
pub inserted-new : {E : Type 0} (r : Result (Unit {0}) E) (m : Map) (k v : ℕ) (x y : Lone) (there : Option ℕ)
    → x.over ≡ false → there ≡ get (laid x.rows m) k → is_some there ≡ false
    → OnOk r (y ≡ record x { pc = x.pc + 1; rows = put_row k v x.rows }) → OnOk r (on_map m y ≡ alone_access m (Inserts v) k (on_map m x))
inserted-new (Ok u) m k v x y there on e is put =
    let none : is_some (get (laid x.rows m) k) ≡ false = ap is_some (sym e) ∙ is in
    rw (none, put, on, laid_put m x.rows k v) refl
inserted-new (Err e0) m k v x y there on e is put = tt

-- the run of a program, with what it wrote laid over the table
pub laid-ok : {E : Type 0} (r : Result (Unit {0}) E) (rs x y : List Row) (n : Map) → laid rs (map_of x) ≡ n → OnOk r (y ≡ put_rows rs x) → OnOk r (map_of y ≡ n)
laid-ok (Ok u) rs x y n e h = rw (h, laid-put_rows empty rs x) e
laid-ok (Err e0) rs x y n e h = tt
