use Rattle.std.proofs.Common.{◌≡◌, ◌∙◌, ◌+◌, ◌/◌, ◌<◌, ◌≤◌, ◌++◌, ℕ, suc, List, length, get_or, refl, sym, ap, subst, arith, length-append}
use Rattle.std.specs.Prelude.{slice_index}
use Rattle.std.proofs.lemmas.Bool.{ltb-false}
use Rattle.std.proofs.lemmas.List.{get_or_read_under}
use Rattle.zy_isa.specs.declared.row.Row.{Row}
use Rattle.zy_table.specs.Keys.{keys_of, put_key}
use Rattle.zy_table.specs.Pages.{rows_of}
use Rattle.zy_node.specs.Nodes.{new_at}
use Rattle.zy_table.proofs.KeyLists.{length-put_key, length-keys}
use Rattle.zy_rules.proofs.run.boundary.Goals as goal

-- the index is one of these keys
within : (keys : List ℕ) (rows new : List Row) (cap key : ℕ) → keys ≡ put_key key (keys_of (rows ++ new)) → cap ≤ length rows + length new
    → (cap + 1) / 2 < length keys
within keys rows new cap key e full =
    let count : length keys ≡ suc (length rows + length new) = ap length e ∙ length-put_key key (keys_of (rows ++ new))
    ∙ ap suc (length-keys (rows ++ new) ∙ length-append rows new) in
    omega (arith, count, full)

pub index-requires : goal.index-requires
index-requires c =
    let x = c.args.me.now in
    let sc = c.args.scenario.now in
    let lt = within c.in_ok-keys.keys.items (rows_of x.pages c.args.p) (new_at c.args.p c.args.txn.now.rows x) sc.cap c.args.key
    (rw c.rows.ensures.value at c.in_ok-keys.ensures) (ltb-false _ _ c.requires) in
    omega (arith, lt, c.from-cap.ensures, c.cap.ensures.value, c.in_ok-keys.keys.ok.0)

-- what is read at an index of some keys
read_at : (keys all : List ℕ) (i j read : ℕ) → keys ≡ all → i ≡ j → read ≡ get_or keys i read → i < length keys → read ≡ slice_index all j
read_at keys all i j read e f is lt = get_or_read_under keys i (length keys) read 0 is lt refl ∙ ap (λ l. slice_index l i) e ∙ ap (slice_index all) f

pub returns : goal.returns
returns c =
    let x = c.args.me.now in
    let sc = c.args.scenario.now in
    let keys = rw c.rows.ensures.value at c.in_ok-keys.ensures in
    let lt = within c.in_ok-keys.keys.items (rows_of x.pages c.args.p) (new_at c.args.p c.args.txn.now.rows x) sc.cap c.args.key keys
    (ltb-false _ _ c.requires) in
    let cap : c.from-cap.result ≡ sc.cap = c.from-cap.ensures ∙ c.cap.ensures.value in
    let at : (c.from-cap.result + 1) / 2 ≡ (sc.cap + 1) / 2 = ap (λ n. (n + 1) / 2) cap in
    read_at c.in_ok-keys.keys.items _ _ _ c.index.result.now keys at c.index.ensures (subst (λ n. (n + 1) / 2 < length c.in_ok-keys.keys.items) (sym cap) lt)
