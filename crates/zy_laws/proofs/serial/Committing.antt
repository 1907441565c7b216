-- The row of commit: its private rows are laid over the database, which becomes that of the longer serial run.
use Rattle.std.proofs.Common.{List, [], ap, false, refl, sym, true, ℕ, ◌++◌, ◌+◌, ◌∙◌, ◌∷◌, ◌≡◌}
use Rattle.std.specs.Prelude.{None, Option, Some, is_some, slice_get, slice_set}
use Rattle.std.specs.FinMap.{get}
use Rattle.zy_isa.specs.Rows.{get_row}
use Rattle.zy_isa.specs.Scenario.{Scenario}
use Rattle.zy_isa.specs.declared.instr.Instr.{Instr}
use Rattle.zy_isa.specs.declared.node.Node.{Node}
use Rattle.zy_isa.specs.declared.row.Row.{Row}
use Rattle.zy_model.specs.Locks.{drop_locks}
use Rattle.zy_table.specs.Change.{committed, installed, txn_at}
use Rattle.zy_table.specs.declared.effect.Effect.TheVariants.{Commits}
use Rattle.zy_table.specs.Effects.{effect_of}
use Rattle.zy_table.specs.Database.{Map, laid_leaves}
use Rattle.zy_table.specs.Pages.{owns}
use Rattle.zy_table.specs.Run.{program_of}
use Rattle.zy_table.specs.Serial.{Alone, alone, alone_instr, alone_step, serial}
use Rattle.zy_table.specs.declared.entry.CommitRecord.{CommitRecord}
use Rattle.zy_table.specs.declared.status.Status.TheVariants.{Committed}
use Rattle.zy_table.specs.State.{View}
use Rattle.zy_model.specs.Wireframe.{page_of}
use Rattle.zy_laws.proofs.places.Installing.{found, found-append, get-leaves, installed_none, installed_some, placed_front}
use Rattle.zy_laws.proofs.locks.Locking.{Kept, whole}
use Rattle.zy_laws.proofs.serial.LoneRuns.{or_else}
use Rattle.zy_laws.proofs.places.PageValues.{db, rest_of}
use Rattle.zy_laws.proofs.walk.Txns.{IsAt}

-- all pages after a commit
committed_pages : (t : ℕ) (v : View) → whole (committed t v) ≡ installed v.me.lows (txn_at v t).rows v.me.pages ++ rest_of v
unfolding committed
committed_pages t v = refl

-- what a commit leaves, part by part
pub committed_txns : (t : ℕ) (v : View)
    → (committed t v).txns ≡ slice_set v.txns t (record (txn_at v t) { status = Committed; rows = []; done = (txn_at v t).done + 1 })
unfolding committed
committed_txns t v = refl

-- a commit lets its locks go
pub committed_locks : (t : ℕ) (v : View) → (committed t v).me.locks ≡ drop_locks t v.me.locks
unfolding committed
committed_locks t v = refl

-- a commit leaves the other node
pub committed_them : (t : ℕ) (v : View) → (committed t v).them ≡ v.them
unfolding committed
committed_them t v = refl

-- a commit is at the end of the list
pub committed_list : (t : ℕ) (v : View) → (committed t v).commits ≡ v.commits ++ record { txn = t; done = (txn_at v t).done + 1 } ∷ []
unfolding committed
committed_list t v = refl

-- two lookups are the same by whether there is a private row
by_row : (rows : List Row) (k : ℕ) (o : Option ℕ) (new old : Option ℕ) (rest : Option ℕ) → get_row rows k ≡ o
    → ((w : ℕ) → get_row rows k ≡ Some w → new ≡ Some w) → (get_row rows k ≡ None → new ≡ old)
    → or_else new rest ≡ or_else (get_row rows k) (or_else old rest)
by_row rows k None new old rest e some none = rw (none e, e) refl
by_row rows k (Some w) new old rest e some none = rw (some w e, e) refl

-- after a commit whose rows' pages are here, the database has the private rows, else what it had
pub commit_db : (sc : Scenario) (n : Node) (v : View) (lows : List ℕ) (t : ℕ) → Kept sc n v lows → IsAt v t n
    → ((k : ℕ) → is_some (get_row (txn_at v t).rows k) ≡ true → owns v.me.pages (page_of lows k) ≡ true) → (k : ℕ)
    → get (db (committed t v)) k ≡ or_else (get_row (txn_at v t).rows k) (get (db v) k)
commit_db sc n v lows t h at here k =
    let x = txn_at v t in
    let same : v.me.lows ≡ lows = h.mine.newest (h.mine.busy t at) in
    let front = (placed_front lows v.me.pages (rest_of v) h.placed).0 in
    let after : get (db (committed t v)) k ≡ or_else (found (installed lows x.rows v.me.pages) k) (found (rest_of v) k) =
    ap (λ xs. get (laid_leaves xs) k) (committed_pages t v) ∙ get-leaves (installed v.me.lows x.rows v.me.pages ++ rest_of v) k
    ∙ found-append (installed v.me.lows x.rows v.me.pages) (rest_of v) k
    ∙ ap (λ l. or_else (found (installed l x.rows v.me.pages) k) (found (rest_of v) k)) same in
    let before : get (db v) k ≡ or_else (found v.me.pages k) (found (rest_of v) k) = get-leaves (whole v) k ∙ found-append v.me.pages (rest_of v) k in
    after ∙ by_row x.rows k (get_row x.rows k) (found (installed lows x.rows v.me.pages) k) (found v.me.pages k) (found (rest_of v) k) refl
    (λ w g. installed_some lows x.rows v.me.pages k w g front (here k (ap is_some g)))
    (installed_none lows x.rows v.me.pages k)
    ∙ ap (or_else (get_row x.rows k)) (sym before)

-- a serial run with one commit more goes on by its program
pub serial-push : (sc : Scenario) (m : Map) (cs : List CommitRecord) (c : CommitRecord)
    → serial sc m (cs ++ c ∷ []) ≡ (alone (serial sc m cs) (program_of sc c.txn) c.done).map
serial-push sc m [] c = refl
serial-push sc m (x ∷ xs) c = serial-push sc (alone m (program_of sc x.txn) x.done).map xs c

-- a lone run that has come to its commit keeps its map
pub alone_commit : (m : Map) (program : List Instr) (i : Instr) (x : Alone) → x.over ≡ false → slice_get program x.pc ≡ Some i → effect_of i x.regs ≡ Commits
    → (alone_step m program x).map ≡ x.map
unfolding alone_step alone_instr
alone_commit m program i x on at does = rw (on, at, does) refl

-- a commit leaves the registers of a lone run
pub alone_last : (m : Map) (program : List Instr) (i : Instr) (x : Alone) → x.over ≡ false → slice_get program x.pc ≡ Some i → effect_of i x.regs ≡ Commits
    → (alone_step m program x).regs ≡ x.regs
unfolding alone_step alone_instr
alone_last m program i x on at does = rw (on, at, does) refl
