-- What stays true of the machines that an order keeps.
use Rattle.std.specs.List.{All}
use Rattle.std.proofs.Common.{◌≡◌, ◌∙◌, ℕ, zero, suc, ◌<◌, List, [], ◌∷◌, length, sym, ap, subst, arith, Option, None, Some}
use Rattle.std.proofs.Common.{IfSome, Result, Ok, Err, OnOk}
use Rattle.zy_isa.specs.declared.choice.Choice.{Choice}
use Rattle.zy_machine.specs.Histories.{History}
use Rattle.zy_order.specs.declared.placed_machine.PlacedMachine.{PlacedMachine}
use Rattle.zy_order.specs.declared.recent_machines.RecentMachines.{RecentMachines}
use Rattle.zy_search.specs.Searches.{reached}
use Rattle.zy_search.specs.Visits.{IsHere, Grows}
use Rattle.zy_order.specs.Machines.{IsPlaced, AreRecentMachines, IsThere}

-- what holds in any case holds where a call succeeds
pub in_any_case : {X E : Type 0} (P : Type 0) (r : Result X E) → P → OnOk r P
in_any_case P (Ok x) p = p
in_any_case P (Err e) p = tt

-- a machine where a path leads is there, whatever paths are added
pub here_grown : (h : History) (ps qs : List (List Choice)) (at : ℕ) (m : History) → Grows ps qs → at < length ps → IsHere h ps at m → IsHere h qs at m
here_grown h ps qs at m g lt x = record {
  scenario = x.scenario;
  state = x.state ∙ ap (reached h) (sym (g.same at lt));
  entries = omega (arith, x.entries, ap (λ (p : List Choice). length p) (g.same at lt));
}

-- so is the path
there_grown : (h : History) (ps qs : List (List Choice)) (at : ℕ) (m : History) → Grows ps qs → IsThere h ps at m → IsThere h qs at m
there_grown h ps qs at m g x = record { there = omega (arith, x.there, g.longer); here = here_grown h ps qs at m g x.there x.here }

-- and its place, if one is known
here_if_grown : (h : History) (ps qs : List (List Choice)) (m : History) (o : Option ℕ) → Grows ps qs → IfSome o (λ at. IsThere h ps at m)
    → IfSome o (λ at. IsThere h qs at m)
here_if_grown h ps qs m None g x = tt
here_if_grown h ps qs m (Some at) g x = there_grown h ps qs at m g x

-- so a placed machine stays one
pub placed_grown : (h : History) (ps qs : List (List Choice)) (m : PlacedMachine) → Grows ps qs → IsPlaced h ps m → IsPlaced h qs m
placed_grown h ps qs m g x = record { scenario = x.scenario; here = here_if_grown h ps qs m.machine m.at g x.here }

-- and all that are kept do
pub recent_grown : (h : History) (ps qs : List (List Choice)) (s : RecentMachines) → Grows ps qs → AreRecentMachines h ps s → AreRecentMachines h qs s
recent_grown h ps qs s g x = record {
  machines = λ k d lt. placed_grown h ps qs _ g (x.machines k d lt);
  checkpoints = λ k d lt. placed_grown h ps qs _ g (x.checkpoints k d lt);
  spare = placed_grown h ps qs s.spare g x.spare;
}

-- a machine where a path leads is placed there
pub placed_there : (h : History) (ps : List (List Choice)) (at : ℕ) (m : History) → IsThere h ps at m → IsPlaced h ps (record { machine = m; at = Some at })
placed_there h ps at m x = record { scenario = x.here.scenario; here = x }

-- a placed machine with a known place is there
pub there_placed : (h : History) (ps : List (List Choice)) (at : ℕ) (m : PlacedMachine) → m.at ≡ Some at → IsPlaced h ps m → IsThere h ps at m.machine
there_placed h ps at m e x = subst (λ (o : Option ℕ). IfSome o (λ k. IsThere h ps k m.machine)) e x.here

-- a placed machine alone
pub one_machine : (h : History) (ps : List (List Choice)) (m : PlacedMachine) → IsPlaced h ps m → All (IsPlaced h ps) (m ∷ [])
one_machine h ps m is zero d lt = is
one_machine h ps m is (suc k) d lt = absurd (omega (arith, lt))
