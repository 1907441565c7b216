-- A page with the locks on it.
use Rattle.std.specs.Prelude.{ℕ, ◌==◌, List, [], ◌++◌, codes, is_some, if◌then◌else◌}
use Rattle.std.specs.Fmt.{decimal}
use Rattle.std.specs.List.{flat_map}
use Rattle.zy_text.specs.Canon.{node_text}
use Rattle.zy_isa.specs.declared.node.Node.{Node}
use Rattle.zy_isa.specs.declared.node.Node.TheVariants.{A, B}
use Rattle.zy_model.specs.declared.lock.Lock.{Lock}
use Rattle.zy_model.specs.declared.lock.LockKind.{LockKind}
use Rattle.zy_model.specs.declared.lock.LockKind.TheVariants.{Shared, Exclusive}
use Rattle.zy_table.specs.State.{State}
use Rattle.zy_table.specs.Pages.{page_in}
use Rattle.zy_table.specs.Database.{all_leaves}
use Rattle.zy_listing.specs.Texts.{page_text}

abbrev pub kind_word : LockKind → List ℕ
kind_word Shared = codes "s"
kind_word Exclusive = codes "x"

-- ` N:T:s` or ` N:T:x`
abbrev pub lock_text : Node → Lock → List ℕ
lock_text n x = codes " " ++ (node_text n ++ (codes ":" ++ (decimal x.txn ++ (codes ":" ++ kind_word x.kind))))

-- the text of a lock on page p, and nothing of another
abbrev pub lock_on : Node → ℕ → Lock → List ℕ
lock_on n p x = if x.page == p then lock_text n x else []

-- the locks of a node on page p, as they are there: by transaction
abbrev pub locks_on : Node → ℕ → List Lock → List ℕ
locks_on n p locks = flat_map (lock_on n p) locks

-- the listing's line, and behind it the locks, those of A first
abbrev pub locked_page : State → ℕ → List ℕ
locked_page s p = page_text s p ++ (codes " locks" ++ (locks_on A p s.a.locks ++ locks_on B p s.b.locks))

abbrev pub no_page : ℕ → List ℕ
no_page p = codes "page " ++ (decimal p ++ codes " none")

-- the line of a page with its locks, or that there is no such page
abbrev pub page_reply : State → ℕ → List ℕ
page_reply s p = if is_some (page_in p (all_leaves s)) then locked_page s p else no_page p
