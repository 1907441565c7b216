-- The pattern that leaves nothing out matches one outcome alone.
use Rattle.std.proofs.Common.{◌≡◌, ℕ, ◌&&◌, ◌==◌, true, refl, ap}
use Rattle.std.proofs.lemmas.Bool.{eqb-true, eq-eqb, false≢true}
use Rattle.zy_isa.proofs.ResultLemmas.{both}
use Rattle.zy_isa.specs.declared.node.Node.{Node}
use Rattle.zy_isa.specs.declared.node.Node.TheVariants.{A, B}
use Rattle.zy_table.specs.declared.outcome.Why.{Why}
use Rattle.zy_table.specs.declared.outcome.Why.TheVariants as why
use Rattle.zy_table.specs.declared.outcome.Outcome.{Outcome}
use Rattle.zy_table.specs.declared.outcome.Outcome.TheVariants as outcome
use Rattle.zy_table.specs.Run.{same_node}
use Rattle.zy_patterns.specs.Patterns.{exactly, exactly_reason, matches, matches_reason}

-- a number is itself
same : (n : ℕ) → (n == n) ≡ true
same n = eq-eqb n n refl

-- so is a node
node_same : (n : Node) → same_node n n ≡ true
node_same A = refl
node_same B = refl

-- and a reason
reason_matches : (w : Why) → matches_reason (exactly_reason w) w ≡ true
reason_matches (why.Frozen p) = same p
reason_matches (why.Gone p) = same p
reason_matches why.Own = refl
reason_matches why.Killed = refl
reason_matches why.BadKey = refl
reason_matches why.Missing = refl
reason_matches why.Duplicate = refl
reason_matches why.NoPage = refl

-- an outcome is matched by its pattern
pub exact_matches : (o : Outcome) → matches (exactly o) o ≡ true
exact_matches outcome.Started = refl
exact_matches outcome.BadMode = refl
exact_matches (outcome.Began n) = node_same n
exact_matches outcome.Idle = refl
exact_matches outcome.Elsewhere = refl
exact_matches outcome.NotYet = refl
exact_matches outcome.Did = refl
exact_matches (outcome.Split p q k) = rw (same p, same q, same k) refl
exact_matches (outcome.Aborted w) = reason_matches w
exact_matches (outcome.Committed n) = same n
exact_matches (outcome.Waits n) = same n
exact_matches (outcome.Pulls n) = same n
exact_matches (outcome.Awaits n) = same n
exact_matches outcome.NoMessage = refl
exact_matches outcome.GotWire = refl
exact_matches outcome.GotReady = refl
exact_matches outcome.GotDual = refl
exact_matches (outcome.Stale n) = same n
exact_matches (outcome.Held n) = same n
exact_matches (outcome.GotPull n) = same n
exact_matches (outcome.GotPage n) = same n
exact_matches outcome.GotFinish = refl
exact_matches outcome.GotDone = refl
exact_matches outcome.Stray = refl
exact_matches outcome.Finishing = refl
exact_matches (outcome.Active n) = same n
exact_matches (outcome.Pushed n) = same n
exact_matches outcome.NoPush = refl

-- nodes that are tested to be one are one
one_node : (n came : Node) → same_node came n ≡ true → came ≡ n
one_node A A e = refl
one_node B B e = refl
one_node A B e = absurd (false≢true e)
one_node B A e = absurd (false≢true e)

-- a reason that is matched is the one of the pattern
reason_only : (w came : Why) → matches_reason (exactly_reason w) came ≡ true → came ≡ w
reason_only (why.Frozen p) (why.Frozen q) e = ap (λ n. why.Frozen n) (eqb-true q p e)
reason_only (why.Gone p) (why.Gone q) e = ap (λ n. why.Gone n) (eqb-true q p e)
reason_only why.Own why.Own e = refl
reason_only why.Killed why.Killed e = refl
reason_only why.BadKey why.BadKey e = refl
reason_only why.Missing why.Missing e = refl
reason_only why.Duplicate why.Duplicate e = refl
reason_only why.NoPage why.NoPage e = refl
reason_only w came e = absurd (false≢true e)

-- numbers of a split that are tested to be the same make the same split
split_only : (p q k a b c : ℕ) → (a == p && b == q && c == k) ≡ true → outcome.Split a b c ≡ outcome.Split p q k
split_only p q k a b c e =
    let x = both (a == p && b == q) (c == k) e in
    let y = both (a == p) (b == q) x.0 in
    rw (eqb-true a p y.0, eqb-true b q y.1, eqb-true c k x.1) refl

-- an outcome that is matched is the one of the pattern
pub exact_only : (o came : Outcome) → matches (exactly o) came ≡ true → came ≡ o
exact_only outcome.Started outcome.Started e = refl
exact_only outcome.BadMode outcome.BadMode e = refl
exact_only (outcome.Began n) (outcome.Began m) e = ap (λ x. outcome.Began x) (one_node n m e)
exact_only outcome.Idle outcome.Idle e = refl
exact_only outcome.Elsewhere outcome.Elsewhere e = refl
exact_only outcome.NotYet outcome.NotYet e = refl
exact_only outcome.Did outcome.Did e = refl
exact_only (outcome.Split p q k) (outcome.Split a b c) e = split_only p q k a b c e
exact_only (outcome.Aborted w) (outcome.Aborted v) e = ap (λ x. outcome.Aborted x) (reason_only w v e)
exact_only (outcome.Committed n) (outcome.Committed m) e = ap (λ x. outcome.Committed x) (eqb-true m n e)
exact_only (outcome.Waits n) (outcome.Waits m) e = ap (λ x. outcome.Waits x) (eqb-true m n e)
exact_only (outcome.Pulls n) (outcome.Pulls m) e = ap (λ x. outcome.Pulls x) (eqb-true m n e)
exact_only (outcome.Awaits n) (outcome.Awaits m) e = ap (λ x. outcome.Awaits x) (eqb-true m n e)
exact_only outcome.NoMessage outcome.NoMessage e = refl
exact_only outcome.GotWire outcome.GotWire e = refl
exact_only outcome.GotReady outcome.GotReady e = refl
exact_only outcome.GotDual outcome.GotDual e = refl
exact_only (outcome.Stale n) (outcome.Stale m) e = ap (λ x. outcome.Stale x) (eqb-true m n e)
exact_only (outcome.Held n) (outcome.Held m) e = ap (λ x. outcome.Held x) (eqb-true m n e)
exact_only (outcome.GotPull n) (outcome.GotPull m) e = ap (λ x. outcome.GotPull x) (eqb-true m n e)
exact_only (outcome.GotPage n) (outcome.GotPage m) e = ap (λ x. outcome.GotPage x) (eqb-true m n e)
exact_only outcome.GotFinish outcome.GotFinish e = refl
exact_only outcome.GotDone outcome.GotDone e = refl
exact_only outcome.Stray outcome.Stray e = refl
exact_only outcome.Finishing outcome.Finishing e = refl
exact_only (outcome.Active n) (outcome.Active m) e = ap (λ x. outcome.Active x) (eqb-true m n e)
exact_only (outcome.Pushed n) (outcome.Pushed m) e = ap (λ x. outcome.Pushed x) (eqb-true m n e)
exact_only outcome.NoPush outcome.NoPush e = refl
exact_only o came e = absurd (false≢true e)
