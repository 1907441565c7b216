-- Steps that keep the shape of a node, or change its locks alone, keep roles and owners.
use Rattle.std.proofs.Common.{ap, refl, subst, sym, false, ℕ, ◌∙◌, ◌≡◌}
use Rattle.zy_model.specs.declared.lock.LockKind.{LockKind}
use Rattle.zy_table.specs.Change.{locked}
use Rattle.zy_laws.proofs.walk.Conditions.{has_lock}
use Rattle.std.specs.Prelude.{if◌then◌else◌, nat_lt}
use Rattle.std.proofs.lemmas.Bool.{false≢true}
use Rattle.zy_model.specs.Families.{is_bare}
use Rattle.zy_model.specs.declared.mode.NodeMode.{NodeMode}
use Rattle.zy_laws.specs.OneOwner.{times}
use Rattle.zy_table.specs.State.{NodeState, View}
use Rattle.zy_laws.proofs.owner.PhaseSteps.{SameShape, destination_same, source_same}
use Rattle.zy_laws.proofs.owner.Roles.{Bare, Destination, Inv, Owned, Roles, Source, places, width}

-- a step that keeps a node's shape and the links keeps the roles
roles_same : (v w : View) → SameShape v.me w.me → w.them ≡ v.them → w.inbox ≡ v.inbox → w.outbox ≡ v.outbox → Roles v → Roles w
roles_same v w s a b c (Source ph) = Source (rw (a, b, c) (source_same s ph))
roles_same v w s a b c (Destination ph) = Destination (rw (a, b, c) (destination_same s ph))

-- the counts and the width say all of who owns what
pub owned_same : (v w : View) → ((p : ℕ) → places p w ≡ places p v) → width w ≡ width v → Owned v → Owned w
owned_same v w same wide o = record { once = λ p. same p ∙ o.once p ∙ ap (λ n. if nat_lt p n then 1 else 0) (sym wide) }

-- a change of n's own node that keeps its shape, and of no link
pub shape_inv : (v w : View) → SameShape v.me w.me → w.them ≡ v.them → w.inbox ≡ v.inbox → w.outbox ≡ v.outbox → Inv v → Inv w
shape_inv v w s a b c i = record {
  roles = roles_same v w s a b c i.roles;
  owned = owned_same v w (λ p. rw (a, b, c, s.counts) refl) (rw (a, s.lows) refl) i.owned;
  mine = record { none = λ h. s.none (i.mine.none (ap is_bare (sym s.mode) ∙ h)) };
  theirs = subst Bare (sym a) i.theirs;
}

-- a node that differs in its locks alone
abbrev pub SameButLocks : NodeState → NodeState → Type 0
SameButLocks x y = (y.mode ≡ x.mode) × (y.lows ≡ x.lows) × (y.pages ≡ x.pages)

-- a node that differs by its locks alone has the same shape
pub locks_shape : (x y : NodeState) → SameButLocks x y → SameShape x y
locks_shape x y e = record { mode = e.0; lows = e.1; counts = λ p. ap (times p) e.2; none = λ h. e.2 ∙ h }

-- a step that changes locks alone keeps roles and owners
pub locks_inv : (v w : View) → SameButLocks v.me w.me → w.them ≡ v.them → w.inbox ≡ v.inbox → w.outbox ≡ v.outbox → Inv v → Inv w
locks_inv v w e a b c i = shape_inv v w (locks_shape v.me w.me e) a b c i

-- a node in a mode that is not bare need not be without pages
pub bare_never : (y : NodeState) (m : NodeMode) → y.mode ≡ m → is_bare m ≡ false → Bare y
bare_never y m mode h = record { none = λ s. absurd (false≢true (sym (ap is_bare mode ∙ h) ∙ s)) }

-- a lock keeps roles and owners
pub has_lock_inv : (t k : ℕ) (kind : LockKind) (v : View) → Inv v → Inv (has_lock t k kind v)
unfolding locked
has_lock_inv t k kind v i = locks_inv v (has_lock t k kind v) (refl, refl, refl) refl refl refl i
