-- A list is among the even ones or behind them.
use Rattle.std.proofs.Common.{◌≡◌, ◌∙◌, ◌+◌, ◌*◌, ◌-◌, ◌<◌, ◌≤◌, ℕ, Global, Vec, Some, ap, arith, drop, length, option_map, slice_get, refl, sym, take}
use Rattle.std.proofs.lemmas.Bool.{ltb-false, ltb-true}
use Rattle.std.proofs.lemmas.Option.{slice_get-map, slice_get_past, slice_get_read}
use Rattle.std.specs.Option.{option_copied}
use Rattle.zy_step_cache.specs.Even.{even_lists}
use Rattle.zy_step_cache.proofs.ArenaLemmas.{as_many, get_behind, get_within, items_of, list_at, many_lists}
use Rattle.zy_step_cache.proofs.arena.Arena.get.Goals as goal

pub returns : goal.returns
returns c =
    let a = c.self.inside in
    let i = c.args.place in
    let lists = even_lists a.width a.even a.numbers.items in
    let within : i < length lists = omega (arith, c.if-self-place.false, as_many a.width a.even a.numbers.items) in
    let width : i * a.width + a.width - i * a.width ≡ a.width = omega arith in
    ap (λ k. Some (take k (drop (i * a.width) c.deref-2.result.now))) width
    ∙ ap (λ xs. Some (take a.width (drop (i * a.width) xs))) c.deref-2.ensures.value
    ∙ sym (list_at a.width a.even a.numbers.items i c.if-self-place.false)
    ∙ sym (get_within lists (items_of a.others.items) i within)
    ∙ ap (λ xs. slice_get xs i) c.self.view_is

pub returns-then-self-place : goal.returns-then-self-place
returns-then-self-place c =
    let a = c.self.inside in
    let i = c.args.place in
    let j = i - a.even in
    let lists = even_lists a.width a.even a.numbers.items in
    let behind : i ≡ length lists + j = omega (arith, c.if-self-place.true, as_many a.width a.even a.numbers.items) in
    let found = c.in_ok-other.ensures.lookup in
    let other = slice_get_read c.deref.result.now (length c.deref.result.now) j c.in_ok-other.other.now refl (ltb-true j (length c.deref.result.now) (sym found.0)) found.1 in
    ap Some c.as_slice.ensures.value
    ∙ sym (slice_get-map (λ (v : Vec ℕ Global). v.items) a.others.items j
    ∙ ap (option_map (λ (v : Vec ℕ Global). v.items)) (ap (λ vs. slice_get vs j) (sym c.deref.ensures.value) ∙ other))
    ∙ sym (get_behind lists (items_of a.others.items) i j behind)
    ∙ ap (λ xs. slice_get xs i) c.self.view_is

pub returns-in_err-other : goal.returns-in_err-other
returns-in_err-other c =
    let a = c.self.inside in
    let i = c.args.place in
    let past = ltb-false (i - a.even) (length c.deref.result.now) (sym c.in_err-other.ensures.lookup.0) in
    let all : length c.args.self.now ≤ i =
    omega (arith, past, c.if-self-place.true, ap length c.deref.ensures.value, many_lists a.width a.even a.numbers.items a.others.items, ap length c.self.view_is) in
    ap option_copied c.from_residual.ensures ∙ sym (slice_get_past c.args.self.now i all)
