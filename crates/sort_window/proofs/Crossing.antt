-- How many rows stand before a row once changes are carried out.
use Rattle.std.proofs.Common.{◌≡◌, ℕ, ◌+◌, ◌-◌, ◌<◌, ◌≤◌, Bool, List, [], ◌∷◌, Option, None, Some, refl, ap, arith, inl, inr}
use Rattle.std.specs.Prelude.{count_by, ◌⊎◌, nat_lt}
use Rattle.std.proofs.lemmas.Bool.Decides.{nat_tests}
use Rattle.map_model.specs.Maps.{at, set, keyed, IsSorted}
use Rattle.map_model.specs.MapLaws.{sorted-set}
use Rattle.map_model.specs.Changes.{Change, changed, Fit}
use Rattle.value_model.specs.Order.{text_cmp}
use Rattle.ejson_value.specs.Key.{name_order}
use Rattle.sort_window.specs.declared.rows.Row.{Row}
use Rattle.sort_window.specs.Shown.{RowMap}
use Rattle.sort_window.specs.Inside.{AreSameRows}
use Rattle.sort_window.specs.Drafts.{befores, afters}
use Rattle.sort_window.proofs.Ordered.{count-cons}
use Rattle.sort_window.proofs.Counting.{passing, count_set}

pub count_keyed : (test : List ℕ × Row → Bool) (id : List ℕ) (w : Option Row) (rows : RowMap) → count_by test (keyed id w rows) ≡ passing name_order test id w + count_by test rows
count_keyed test id None rows = omega arith
count_keyed test id (Some row) rows = count-cons test (id, row) rows

-- what passes a test after the changes
pub count_changed : (test : List ℕ × Row → Bool) (rows : RowMap) (changes : List (Change (List ℕ) Row)) → IsSorted text_cmp rows → Fit text_cmp rows changes → count_by test (changed text_cmp rows changes) + count_by test (befores changes) ≡ count_by test rows + count_by test (afters changes)
count_changed test rows [] s fit = refl
count_changed test rows (c ∷ changes) s fit =
    let next = set text_cmp rows c.key c.after in
    let rest = count_changed test next changes (sorted-set name_order rows c.key c.after s) fit.1 in
    let one = count_set name_order test rows c.key c.after s in
    let stands : passing name_order test c.key (at text_cmp rows c.key) ≡ passing name_order test c.key c.before = ap (passing name_order test c.key) fit.0 in
    omega (arith, rest, one, stands, count_keyed test c.key c.before (befores changes), count_keyed test c.key c.after (afters changes))

-- by the rows that go and those that come
pub after_changes : (test : List ℕ × Row → Bool) (rows : RowMap) (changes : List (Change (List ℕ) Row)) (going coming : RowMap) → IsSorted text_cmp rows → Fit text_cmp rows changes → AreSameRows going (befores changes) → AreSameRows coming (afters changes) → (count_by test rows + count_by test coming) - count_by test going ≡ count_by test (changed text_cmp rows changes)
after_changes test rows changes going coming s fit go come =
    let all = count_changed test rows changes s fit in
    let goes : count_by test going ≡ count_by test (befores changes) = go test in
    let comes : count_by test coming ≡ count_by test (afters changes) = come test in
    omega (arith, all, goes, comes)

both_less : (a b n : ℕ) → a < n → b < n → nat_lt a n ≡ nat_lt b n
both_less a b n h k = grind (arith, nat_tests)

neither_less : (a b n : ℕ) → n ≤ a → n ≤ b → nat_lt a n ≡ nat_lt b n
neither_less a b n h k = grind (arith, nat_tests)

-- a row that stands far enough from the limit is shown as before
pub far_from_limit : (before after going coming count limit : ℕ) → after + going ≡ before + coming → going ≤ count → coming ≤ count → (before + count < limit) ⊎ (limit + count ≤ before) → nat_lt before limit ≡ nat_lt after limit
far_from_limit before after going coming count limit e g c (inl near) = both_less before after limit (omega arith) (omega arith)
far_from_limit before after going coming count limit e g c (inr far) = neither_less before after limit (omega arith) (omega arith)
