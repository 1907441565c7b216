-- The facts that a state decides by itself.
use Rattle.std.specs.Prelude.{ℕ, ◌==◌, ◌&&◌, ◌||◌, not, Bool, true, false, List, length, is_some}
use Rattle.std.specs.List.{list_any}
use Rattle.std.specs.FinMap.{get}
use Rattle.zy_model.specs.declared.mode.NodeMode.{NodeMode}
use Rattle.zy_model.specs.declared.mode.NodeMode.TheVariants.{Empty, Normal, SInit, SDual, SFinish, DInit, DDual}
use Rattle.zy_model.specs.declared.mode.NodeMode.TheVariants.{DFinish}
use Rattle.zy_model.specs.declared.kind.Kind.{Kind}
use Rattle.zy_model.specs.declared.kind.Kind.TheVariants as kind
use Rattle.zy_model.specs.Messages as messages
use Rattle.zy_model.specs.Messages.{Message, kind_of}
use Rattle.zy_model.specs.Locks as locks_locks
use Rattle.zy_table.specs.declared.place.Place.{Place}
use Rattle.zy_table.specs.declared.place.Place.TheVariants as place
use Rattle.zy_table.specs.State.{State, facing}
use Rattle.zy_table.specs.Run.{same_node}
use Rattle.zy_table.specs.Database.{database}
use Rattle.zy_table.specs.Places.{place_of}
use Rattle.zy_goals.specs.declared.goal.PagePlace.{PagePlace}
use Rattle.zy_goals.specs.declared.goal.PagePlace.TheVariants as page_place
use Rattle.zy_goals.specs.declared.goal.Selector.TheVariants as selector
use Rattle.zy_goals.specs.declared.goal.TxnProperty.TheVariants as property
use Rattle.zy_goals.specs.declared.goal.MessagePattern.{MessagePattern}
use Rattle.zy_goals.specs.declared.goal.MessagePattern.TheVariants as pattern
use Rattle.zy_goals.specs.declared.goal.LinkContent.{LinkContent}
use Rattle.zy_goals.specs.declared.goal.LinkContent.TheVariants as content
use Rattle.zy_goals.specs.declared.goal.StateFact.{StateFact}
use Rattle.zy_goals.specs.declared.goal.StateFact.TheVariants as fact
use Rattle.zy_goals.specs.Txns.{selected_have, committed_before}
use Rattle.zy_goals.specs.Terms.{value, compares}

abbrev pub same_mode : NodeMode → NodeMode → Bool
same_mode Empty Empty = true
same_mode Normal Normal = true
same_mode SInit SInit = true
same_mode SDual SDual = true
same_mode SFinish SFinish = true
same_mode DInit DInit = true
same_mode DDual DDual = true
same_mode DFinish DFinish = true
same_mode m n = false

-- a place is the one that is asked for
abbrev pub is_at : PagePlace → Place → Bool
is_at (page_place.At n) (place.At m) = same_node n m
is_at (page_place.OnLinkFrom n) (place.Moving m) = same_node n m
is_at page_place.Moving (place.Moving m) = true
is_at page_place.Absent place.Nowhere = true
is_at x p = false

-- ---- messages

abbrev pub same_kind : Kind → Kind → Bool
same_kind kind.Wire kind.Wire = true
same_kind kind.Ready kind.Ready = true
same_kind kind.Dual kind.Dual = true
same_kind kind.Pull kind.Pull = true
same_kind kind.Page kind.Page = true
same_kind kind.Finish kind.Finish = true
same_kind kind.Done kind.Done = true
same_kind k l = false

-- a message asks for page p
abbrev pub is_pull : ℕ → Message → Bool
is_pull p (messages.Pull q) = q == p
is_pull p m = false

-- a message brings page p
abbrev pub is_page : ℕ → Message → Bool
is_page p (messages.Page leaf) = leaf.number == p
is_page p m = false

-- a message is one of those that are asked for
abbrev pub is_like : MessagePattern → Message → Bool
is_like (pattern.OfKind k) m = same_kind (kind_of m) k
is_like (pattern.Pull p) m = is_pull p m
is_like (pattern.Page p) m = is_page p m

-- a link with these messages has the content that is asked for
abbrev pub has_content : LinkContent → List Message → Bool
has_content content.Empty ms = length ms == 0
has_content (content.Has x) ms = list_any (is_like x) ms

-- ---- no migration

-- of two modes one is Normal, and the other is Empty
abbrev pub are_settled : NodeMode → NodeMode → Bool
are_settled Normal Empty = true
are_settled Empty Normal = true
are_settled m n = false

-- no migration goes on, and no transaction is active: the modes are settled, and no link has a message
abbrev pub is_over : State → Bool
is_over s =
    are_settled s.a.mode s.b.mode && has_content content.Empty s.ab && has_content content.Empty s.ba
    && not (selected_have selector.Any property.Active s.txns)

-- ---- facts

-- a fact holds in a state
abbrev pub holds_in : StateFact → State → Bool
holds_in (fact.Mode n m) s = same_mode (facing n s).me.mode m
holds_in (fact.Page p x) s = is_at x (place_of p s)
holds_in (fact.Locked p) s = locks_locks.is_locked s.a.locks p || locks_locks.is_locked s.b.locks p
holds_in (fact.LockedBy t p) s = locks_locks.holds s.a.locks p t || locks_locks.holds s.b.locks p t
holds_in (fact.Txns w x) s = selected_have w x s.txns
holds_in (fact.CommittedBefore t u) s = committed_before t u s.commits
holds_in (fact.NoRow k) s = not (is_some (get (database s) k))
holds_in (fact.Link n x) s = has_content x (facing n s).outbox
holds_in fact.Over s = is_over s
holds_in (fact.Compare x c y) s = compares c (value x s) (value y s)
