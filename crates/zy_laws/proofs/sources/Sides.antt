-- What holds of the sorted commits, from either side and at the opening.
use Rattle.std.proofs.Common.{List, [], refl, subst, sym, ℕ, ◌++◌, ◌∙◌, ◌≡◌}
use Rattle.std.proofs.lemmas.Bool.{false≢true}
use Rattle.std.proofs.lemmas.List.Sorted.{IsPermutation-refl}
use Rattle.zy_isa.specs.Scenario.{Scenario}
use Rattle.zy_isa.specs.declared.node.Node.{Node}
use Rattle.zy_isa.specs.declared.node.Node.TheVariants.{A, B}
use Rattle.zy_table.specs.Change.{txn_at}
use Rattle.zy_table.specs.Database.{Map, database}
use Rattle.zy_table.specs.Play.{opening}
use Rattle.zy_table.specs.Serial.{serial}
use Rattle.zy_table.specs.State.{State, View, facing, other, seen_from}
use Rattle.zy_laws.specs.SourceFirst.{Sorted}
use Rattle.zy_laws.proofs.locks.Reached.{blank_new, opening_reached, turned_kept}
use Rattle.zy_laws.proofs.owner.Roles.{turned}
use Rattle.zy_laws.proofs.places.Opening.{LaidOut}
use Rattle.zy_laws.proofs.places.PageValues.{db}
use Rattle.zy_laws.proofs.serial.Following.{registers_same}
use Rattle.zy_laws.proofs.serial.Values.{turned_db}
use Rattle.zy_laws.proofs.sources.Halves.{Divided, Half, half_stays}
use Rattle.zy_laws.proofs.walk.Txns.{IsAt, at_same}

-- what holds from one side holds from the other
turned_divided : (sc : Scenario) (n m : Node) (v : View) (start : Map) (lows : List ℕ) (o : Sorted) → other m ≡ n → other n ≡ m → Divided sc n v start lows o
    → Divided sc m (turned v) start lows o
turned_divided sc n m v start lows o back forth s =
    let same = turned_db lows v s.kept.placed s.kept.inv.owned in
    let d = serial sc start o.first in
    record {
      kept = turned_kept sc n m v lows back forth s.kept;
      mine = half_stays v.them (turned v) (db (turned v)) (subst (λ z. Half sc z v.them v lows d (db v) o.later) forth s.theirs) same refl refl
          (λ h. (h, λ p g. g)) (λ t a. refl);
      theirs = half_stays v.me (turned v) (db (turned v)) (subst (λ z. Half sc z v.me v lows d (db v) o.later) (sym back) s.mine) same refl refl
          (λ h. (h, λ p g. g)) (λ t a. refl);
      is_serial = same ∙ s.is_serial;
      registers = registers_same sc (txn_at v) (txn_at (turned v)) start (o.first ++ o.later) (λ t _. at_same v (turned v) t refl) s.registers;
      permuted = s.permuted;
    }

-- what holds from A holds from either node
pub divided_from : (sc : Scenario) (n : Node) (s : State) (start : Map) (lows : List ℕ) (o : Sorted) → Divided sc A (facing A s) start lows o
    → Divided sc n (facing n s) start lows o
divided_from sc A s start lows o x = x
divided_from sc B s start lows o x = turned_divided sc A B (facing A s) start lows o refl refl x

-- what holds from either node holds from A
pub divided_to : (sc : Scenario) (n : Node) (w : View) (start : Map) (lows : List ℕ) (o : Sorted) → Divided sc n w start lows o
    → Divided sc A (facing A (seen_from n w)) start lows o
divided_to sc A w start lows o x = x
divided_to sc B w start lows o x = turned_divided sc B A w start lows o refl refl x

-- the whole statement of a state, with the newest low keys
pub record Holds (sc : Scenario) (start : Map) (s : State) (o : Sorted) : Type 0 where
  pub lows : List ℕ
  pub divided : Divided sc A (facing A s) start lows o

-- before any commit
abbrev pub none : Sorted
none = record { first = []; later = [] }

-- it holds at the opening
pub opening_holds : (sc : Scenario) → LaidOut sc → Holds sc (database (opening sc)) (opening sc) none
unfolding opening database txn_at
opening_holds sc laid =
    let a = opening_reached sc laid in
    let idle : (t : ℕ) (n : Node) → IsAt (facing A (opening sc)) t n → ⊥ = λ t n at. false≢true (sym (blank_new sc.programs t) ∙ at.0) in
    record {
      lows = a.lows;
      divided = record {
        kept = a.kept;
        mine = record { same = λ _ k _. refl; aside = λ _. tt; runs = λ t at. absurd (idle t A at) };
        theirs = record { same = λ _ k _. refl; aside = λ _. tt; runs = λ t at. absurd (idle t B at) };
        is_serial = refl;
        registers = tt;
        permuted = IsPermutation-refl [];
      };
    }
