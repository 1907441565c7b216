-- Machines that are kept.
use Rattle.std.proofs.Common.{◌≡◌, ℕ, ◌-◌, List, [], ◌∷◌, ◌++◌, length, subst, sym, suc, zero, true, false, Bool, Option, Some, None, IfSome, Result, Ok, Err}
use Rattle.std.proofs.Common.{OnOk, OnErr, if◌then◌else◌}
use Rattle.std.specs.Prelude.{drop, slice_get, take}
use Rattle.circular_buffer.specs.Buffer.{keep_last}
use Rattle.zy_isa.specs.Scenario.{Scenario}
use Rattle.zy_machine.specs.Histories.{History}
use Rattle.zy_debug.specs.Checkpoints.{Kept, AreReplaysOf, IsReplayOf, is_kept, with_copy}

-- the last ones stay
AreReplaysOf-drop : (sc : Scenario) (n : ℕ) (hs : List History) → AreReplaysOf sc hs → AreReplaysOf sc (drop n hs)
AreReplaysOf-drop sc zero hs a = a
AreReplaysOf-drop sc (suc n) [] a = tt
AreReplaysOf-drop sc (suc n) (h ∷ hs) a = AreReplaysOf-drop sc n hs a.1

-- the first ones stay
pub AreReplaysOf-take : (sc : Scenario) (n : ℕ) (hs : List History) → AreReplaysOf sc hs → AreReplaysOf sc (take n hs)
AreReplaysOf-take sc zero hs a = tt
AreReplaysOf-take sc (suc n) [] a = tt
AreReplaysOf-take sc (suc n) (h ∷ hs) a = (a.0, AreReplaysOf-take sc n hs a.1)

-- one more behind them
AreReplaysOf-push : (sc : Scenario) (hs : List History) (h : History) → AreReplaysOf sc hs → IsReplayOf sc h → AreReplaysOf sc (hs ++ h ∷ [])
AreReplaysOf-push sc [] h a r = (r, tt)
AreReplaysOf-push sc (x ∷ hs) h a r = (a.0, AreReplaysOf-push sc hs h a.1 r)

-- one is noted, unless one of its position is kept
noted_by : (sc : Scenario) (h : History) (k : Kept) (kept : Bool) → AreReplaysOf sc k.machines → IsReplayOf sc h
    → AreReplaysOf sc (if kept then k else record k { machines = keep_last k.room (k.machines ++ h ∷ []) }).machines
noted_by sc h k true a r = a
noted_by sc h k false a r = AreReplaysOf-drop sc (length (k.machines ++ h ∷ []) - k.room) (k.machines ++ h ∷ []) (AreReplaysOf-push sc k.machines h a r)

-- one more may be kept
pub AreReplaysOf-noted : (sc : Scenario) (h : History) (k : Kept) → AreReplaysOf sc k.machines → IsReplayOf sc h → AreReplaysOf sc (with_copy h k).machines
AreReplaysOf-noted sc h k a r = noted_by sc h k (is_kept k (length h.entries)) a r

-- each of them is one
pub AreReplaysOf-at : (sc : Scenario) (hs : List History) (i : ℕ) (h : History) → AreReplaysOf sc hs → slice_get hs i ≡ Some h → IsReplayOf sc h
AreReplaysOf-at sc [] i h a e = absurd (cc)
AreReplaysOf-at sc (x ∷ hs) zero h a e = let same : x ≡ h = cc in subst (IsReplayOf sc) same a.0
AreReplaysOf-at sc (x ∷ hs) (suc i) h a e = AreReplaysOf-at sc hs i h a.1 e

-- so is the one at an index, if there is one
pub AreReplaysOf-found : (sc : Scenario) (hs : List History) (i : ℕ) (o : Option History) → AreReplaysOf sc hs → o ≡ slice_get hs i → IfSome o (IsReplayOf sc)
AreReplaysOf-found sc hs i None a e = tt
AreReplaysOf-found sc hs i (Some h) a e = AreReplaysOf-at sc hs i h a (sym e)

-- one more is kept, or there was no memory for it
pub AreReplaysOf-tried : {X Y : Type 0} (sc : Scenario) (h : History) (k j : Kept) (r : Result X Y) → OnOk r (j ≡ with_copy h k) → OnErr r (j ≡ k)
    → AreReplaysOf sc k.machines → IsReplayOf sc h → AreReplaysOf sc j.machines
AreReplaysOf-tried sc h k j (Ok x) o e a r = rw o (AreReplaysOf-noted sc h k a r)
AreReplaysOf-tried sc h k j (Err x) o e a r = rw e a
