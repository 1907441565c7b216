-- What holds of each node: a source's transactions run as on the commits at sources alone, the other node's as on the database.
use Rattle.std.proofs.Common.{List, ap, false, inl, inr, refl, subst, sym, true, ℕ, ◌++◌, ◌∙◌, ◌≡◌}
use Rattle.std.specs.Prelude.{Bool, if◌then◌else◌}
use Rattle.std.specs.FinMap.{get}
use Rattle.std.specs.List.Sorted.{IsPermutation}
use Rattle.std.proofs.lemmas.Bool.{cases_Bool, false≢true}
use Rattle.zy_isa.specs.Scenario.{Scenario}
use Rattle.zy_isa.specs.declared.instr.Instr.{Instr}
use Rattle.zy_isa.specs.declared.node.Node.{Node}
use Rattle.zy_model.specs.Families.{is_source}
use Rattle.zy_table.specs.Change.{txn_at}
use Rattle.zy_table.specs.Database.{Map}
use Rattle.zy_table.specs.Holders.{holds}
use Rattle.zy_table.specs.Pages.{owns}
use Rattle.zy_table.specs.Run.{program_of}
use Rattle.zy_table.specs.Serial.{Registers, serial}
use Rattle.zy_table.specs.declared.entry.CommitRecord.{CommitRecord}
use Rattle.zy_table.specs.State.{Lock, NodeState, Txn, View, other}
use Rattle.zy_model.specs.Wireframe.{page_of}
use Rattle.zy_laws.specs.SourceFirst.{Sorted}
use Rattle.zy_laws.proofs.locks.Locking.{Kept}
use Rattle.zy_laws.proofs.places.PageValues.{db}
use Rattle.zy_laws.proofs.serial.Following.{Follows, follows_same}
use Rattle.zy_laws.proofs.serial.LoneRuns.{Agree, Lone, lone, lone_alike}
use Rattle.zy_laws.proofs.sources.Aside.{Aside, aside_fewer}
use Rattle.zy_laws.proofs.walk.Txns.{IsAt, Stands, at_same}

-- what a node's transactions run on: at a source what the commits at sources have come to, and else the database
abbrev pub base : Bool → Map → Map → Map
base source m d = if source then m else d

-- whether the page of a key is at a node
abbrev pub page_here : NodeState → List ℕ → ℕ → Bool
page_here x lows k = owns x.pages (page_of lows k)

-- a node x, named n; m is what the commits at sources come to, and d is the database. Where x is a source, both have the same on the
-- pages that are still at x, and the commits elsewhere have touched nothing there. Each transaction at x runs as on the base of x.
pub record Half (sc : Scenario) (n : Node) (x : NodeState) (v : View) (lows : List ℕ) (m d : Map) (later : List CommitRecord) : Type 0 where
  pub same : is_source x.mode ≡ true → (k : ℕ) → page_here x lows k ≡ true → get m k ≡ get d k
  pub aside : is_source x.mode ≡ true → Aside sc (page_here x lows) m later
  pub runs : (t : ℕ) → IsAt v t n → Follows (program_of sc t) (base (is_source x.mode) m d) lows x.locks t (txn_at v t)

-- the database is that of the serial run in which the commits at sources come first
pub record Divided (sc : Scenario) (n : Node) (v : View) (start : Map) (lows : List ℕ) (o : Sorted) : Type 0 where
  pub kept : Kept sc n v lows
  pub mine : Half sc n v.me v lows (serial sc start o.first) (db v) o.later
  pub theirs : Half sc (other n) v.them v lows (serial sc start o.first) (db v) o.later
  pub is_serial : db v ≡ serial sc (serial sc start o.first) o.later
  pub registers : Registers sc (txn_at v) start (o.first ++ o.later)
  pub permuted : IsPermutation v.commits (o.first ++ o.later)

-- a transaction follows its lone run on another map that has the same on the pages that it has locked
pub follows_agree : {program : List Instr} {d : Map} {lows : List ℕ} {locks more : List Lock} {t : ℕ} {x : Txn} (e : Map) → Follows program d lows locks t x
    → ((k : ℕ) → holds locks (page_of lows k) t ≡ true → get e k ≡ get d k) → ((p : ℕ) → holds locks p t ≡ true → holds more p t ≡ true)
    → Follows program e lows more t x
follows_agree {program = program} {d = d} {lows = lows} {x = x} e f agree grow =
    let on : (lone d program x.done).over ≡ false = ap (λ (z : Lone). z.over) f.run in
    let keys : (lone d program x.done).keys ≡ f.keys = ap (λ (z : Lone). z.keys) f.run in
    let same : Agree d e f.keys = record { each = λ k g. agree k (f.covered k g) } in
    record {
      keys = f.keys;
      run = lone_alike d e program x.done on (subst (Agree d e) (sym keys) same) ∙ f.run;
      covered = λ k g. grow (page_of lows k) (f.covered k g);
    }

-- where a key's page is here, what the node runs on has what the database has
pub base_here : {sc : Scenario} {n : Node} {x : NodeState} {v : View} {lows : List ℕ} {m d : Map} {later : List CommitRecord} (k : ℕ)
    → Half sc n x v lows m d later → page_here x lows k ≡ true → get (base (is_source x.mode) m d) k ≡ get d k
base_here {x = x} {m = m} {d = d} k h here = elim (cases_Bool (is_source x.mode)) [
  | inl source ↦ ap (λ b. get (base b m d) k) source ∙ h.same source k here
  | inr off ↦ ap (λ b. get (base b m d) k) off
]

-- if b is false wherever a is, then a is true wherever b is
true_from : (a b : Bool) → (a ≡ false → b ≡ false) → b ≡ true → a ≡ true
true_from true b h e = refl
true_from false b h e = absurd (false≢true (sym (h refl) ∙ e))

-- a node keeps it that at most loses pages, becomes no source, and stays a source as long as transactions run there
pub half_stays : {sc : Scenario} {n : Node} {x : NodeState} {v : View} {lows : List ℕ} {m d : Map} {later : List CommitRecord}
    (y : NodeState) (w : View) (e : Map)
    → Half sc n x v lows m d later → e ≡ d → w.txns ≡ v.txns → y.locks ≡ x.locks
    → (is_source y.mode ≡ true → (is_source x.mode ≡ true) × ((p : ℕ) → owns x.pages p ≡ false → owns y.pages p ≡ false))
    → ((t : ℕ) → IsAt v t n → is_source y.mode ≡ is_source x.mode) → Half sc n y w lows m e later
half_stays {sc = sc} {n = n} {x = x} {v = v} {lows = lows} {m = m} {d = d} {later = later} y w e h same txns locks less mode = record {
  same = λ source k here. let l = less source in
      h.same l.0 k (true_from (owns x.pages (page_of lows k)) (owns y.pages (page_of lows k)) (l.1 (page_of lows k)) here) ∙ sym (ap (λ z. get z k) same);
  aside = λ source. let l = less source in aside_fewer sc (page_here x lows) (page_here y lows) m later (λ k. l.1 (page_of lows k)) (h.aside l.0);
  runs = λ t a.
      let now = at_same v w t txns in
      let at = subst (λ z. Stands z n) now a in
      follows_same (h.runs t at) (ap (λ b. base b m e) (mode t at) ∙ ap (base (is_source x.mode) m) same) now
      (λ p g. subst (λ xs. holds xs p t ≡ true) (sym locks) g);
}
