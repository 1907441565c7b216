-- A run whose outcome is `did` does the same in another view of its node, where the node and the transaction are the same.
use Rattle.std.proofs.Common.{◌≡◌, ◌∙◌, ℕ, List, [], ◌∷◌, ◌++◌, length, refl, sym, ap, None, Option, append-nil}
use Rattle.std.specs.Prelude.{drop, slice_set}
use Rattle.zy_isa.specs.declared.node.Node.{Node}
use Rattle.zy_isa.specs.declared.choice.Choice.TheVariants.{Run}
use Rattle.zy_isa.specs.Scenario.{Scenario}
use Rattle.zy_model.specs.Messages.{Message}
use Rattle.zy_model.specs.declared.lock.Lock.{Lock}
use Rattle.zy_model.specs.declared.kind.Kind.{Kind}
use Rattle.zy_table.specs.declared.entry.CommitRecord.{CommitRecord}
use Rattle.zy_table.specs.declared.outcome.Outcome.{Outcome}
use Rattle.zy_table.specs.declared.outcome.Outcome.TheVariants as outcome
use Rattle.zy_table.specs.State.{View, NodeState, Move, Txn}
use Rattle.zy_table.specs.Change.{quiet, txn_at}
use Rattle.zy_table.specs.Run.{run_step}
use Rattle.zy_table.specs.Play.{move}
use Rattle.zy_steps.specs.Reads.{uncounted}
use Rattle.zy_steps.proofs.SetTxns.{set_in}
use Rattle.zy_steps.proofs.SameMoves.{move_same, move_changes}
use Rattle.zy_steps.proofs.DidRuns.{put}

-- nothing was put behind
nothing : {T : Type 0} (xs ms : List T) → xs ≡ xs ++ ms → ms ≡ []
nothing [] ms e = sym e
nothing (x ∷ xs) ms e = let behind : xs ≡ xs ++ ms = ap (drop 1) e in nothing xs ms behind

-- what is put behind one list and leaves it leaves another
left : {T : Type 0} (xs ys zs ms : List T) → xs ≡ xs ++ ms → zs ≡ ys ++ ms → zs ≡ ys
left xs ys zs ms e f = f ∙ (ap (λ ns. ys ++ ns) (nothing xs ms e) ∙ append-nil ys)

-- an outcome that is `did`, but for the number of a commit
is_did : (o : Outcome) → uncounted outcome.Did ≡ uncounted o → o ≡ outcome.Did
is_did outcome.Did e = refl
is_did (outcome.Committed i) e = cc
is_did o e = sym e

-- a move with the same parts
same_parts : (x : Move) (v : View) (me : NodeState) (txns : List Txn) (o : Outcome)
    → x.after ≡ record v { me = x.after.me; txns = txns; outbox = x.after.outbox; commits = x.after.commits }
    → x.after.me ≡ me → x.after.outbox ≡ v.outbox → x.after.commits ≡ v.commits → x.outcome ≡ o → x.sent ≡ None
    → x ≡ quiet (record v { me = me; txns = txns }) o
same_parts x v me txns o e a b c p q =
    ap (λ (w : View). record x { after = w }) e
    ∙ (ap (λ (y : NodeState). record x { after = record v { me = y; txns = txns; outbox = x.after.outbox; commits = x.after.commits } }) a
    ∙ (ap (λ (ms : List Message). record x { after = record v { me = me; txns = txns; outbox = ms; commits = x.after.commits } }) b
    ∙ (ap (λ (ds : List CommitRecord). record x { after = record v { me = me; txns = txns; commits = ds } }) c
    ∙ (ap (λ (r : Outcome). record x { after = record v { me = me; txns = txns }; outcome = r }) p
    ∙ ap (λ (k : Option Kind). record x { after = record v { me = me; txns = txns }; outcome = o; sent = k }) q))))

-- it is carried over
pub carried : (sc : Scenario) (n : Node) (t : ℕ) (v w : View) (y : Txn) (ls : List Lock) → length v.txns ≡ length w.txns → v.me ≡ w.me
    → txn_at v t ≡ txn_at w t → run_step sc n t v ≡ quiet (put t y ls v) outcome.Did → run_step sc n t w ≡ quiet (put t y ls w) outcome.Did
unfolding move txn_at
carried sc n t v w y ls many me txn e =
    let k = move_same sc (Run n t) v w many (me, txn) in
    let c = move_changes sc (Run n t) w in
    let x = run_step sc n t w in
    let own : x.after.me ≡ record w.me { locks = ls } =
    sym k.me ∙ (ap (λ (m : Move). m.after.me) e ∙ ap (λ (z : NodeState). record z { locks = ls }) me) in
    let box : x.after.outbox ≡ w.outbox =
    left v.outbox w.outbox _ k.posts.0 (sym (ap (λ (m : Move). m.after.outbox) e) ∙ k.posts.1.0) k.posts.1.1 in
    let commits : x.after.commits ≡ w.commits =
    left v.commits w.commits _ k.commits.0 (sym (ap (λ (m : Move). m.after.commits) e) ∙ k.commits.1.0) k.commits.1.1 in
    let one : slice_set w.txns t (txn_at x.after t) ≡ slice_set w.txns t y =
    ap (slice_set w.txns t) (sym k.txn ∙ ap (λ (m : Move). txn_at m.after t) e) ∙ sym (set_in v.txns w.txns t y many) in
    same_parts x w (record w.me { locks = ls }) (slice_set w.txns t y) outcome.Did
    (c ∙ ap (λ (zs : List Txn). record w { me = x.after.me; txns = zs; outbox = x.after.outbox; commits = x.after.commits }) one)
    own box commits (is_did x.outcome (ap (λ (m : Move). uncounted m.outcome) (sym e) ∙ k.outcome)) (sym k.sent ∙ ap (λ (m : Move). m.sent) e)
