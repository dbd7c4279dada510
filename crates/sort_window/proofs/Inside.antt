-- Both lists of a window after a row is taken or put.
use Rattle.std.proofs.Common.{◌≡◌, ℕ, suc, ◌<◌, Bool, true, false, cond, List, [], ◌∷◌, length, Option, None, Some, refl, ap, sym, ◌∙◌, arith}
use Rattle.std.specs.Prelude.{count_by}
use Rattle.std.specs.Ordering.{eq_by_cmp}
use Rattle.std.specs.Cmp.{eq_by_cmp_equiv}
use Rattle.std.proofs.lemmas.Cmp.{nat_list_cmp_total}
use Rattle.std.proofs.lemmas.Option.{none-some}
use Rattle.map_model.specs.Maps.{at, set, IsSorted}
use Rattle.map_model.specs.MapLaws.{at-set, set-at, sorted-set, same_maps, eq_by_cmp-self}
use Rattle.value_model.specs.Order.{text_cmp}
use Rattle.ejson_value.specs.Key.{name_order}
use Rattle.sort_window.specs.declared.rows.Row.{Row}
use Rattle.sort_window.specs.Shown.{RowMap}
use Rattle.sort_window.specs.Inside.{has_id, is_row, AreSameRows, HasOneMore}
use Rattle.sort_window.proofs.Ordered.{count-cons, count_yes, count_no}
use Rattle.sort_window.proofs.Counting.{one, passing, count_set}
use Rattle.sort_window.proofs.Placed.{row_itself}

-- no row has an id at which there is none
pub no_id : (rows : RowMap) (id : List ℕ) → at text_cmp rows id ≡ None → count_by (has_id id) rows ≡ 0
no_id [] id none = refl
no_id (e ∷ rows) id none =
    let look = λ (b : Bool). cond b (Some e.1) (at text_cmp rows id) in
    elim (eq_by_cmp text_cmp id e.0) as (λ b. eq_by_cmp text_cmp id e.0 ≡ b → count_by (has_id id) (e ∷ rows) ≡ 0) [
      | true ↦ λ t. absurd (none-some e.1 (sym none ∙ ap look t))
      | false ↦ λ t. count_no (has_id id) e rows ((eq_by_cmp_equiv nat_list_cmp_total).symm e.0 id ∙ t) ∙ no_id rows id (sym (ap look t) ∙ none)
    ] refl

twice : (b : Bool) (w old : Option Row) → cond b w (cond b None old) ≡ cond b w old
twice true w old = refl
twice false w old = refl

module _ (by_id : RowMap) (id : List ℕ) (s : IsSorted text_cmp by_id) where
  -- a row that stands there is counted
  pub is_there : (row : Row) → at text_cmp by_id id ≡ Some row → 0 < count_by (is_row (id, row)) by_id
  is_there row stands =
      let test = is_row (id, row) in
      let all = count_set name_order test by_id id None s in
      let here : passing name_order test id (at text_cmp by_id id) ≡ 1 = ap (passing name_order test id) stands ∙ ap one (row_itself (id, row)) in
      omega (arith, all, here)

  pub taken_same : (row : Row) (in_order left : RowMap) → at text_cmp by_id id ≡ Some row → AreSameRows in_order by_id → HasOneMore left (id, row) in_order → AreSameRows left (set text_cmp by_id id None)
  taken_same row in_order left stands same more test =
      let all = count_set name_order test by_id id None s in
      let here : passing name_order test id (at text_cmp by_id id) ≡ one (test (id, row)) = ap (passing name_order test id) stands in
      omega (arith, all, here, same test, more test, count-cons test (id, row) left)

  pub put_same : (row : Row) (in_order more : RowMap) → at text_cmp by_id id ≡ None → AreSameRows in_order by_id → HasOneMore in_order (id, row) more → AreSameRows more (set text_cmp by_id id (Some row))
  put_same row in_order grown none same more test =
      let all = count_set name_order test by_id id (Some row) s in
      let here : passing name_order test id (at text_cmp by_id id) ≡ 0 = ap (passing name_order test id) none in
      omega (arith, all, here, same test, more test, count-cons test (id, row) in_order)

  -- what is taken out is gone
  pub gone : at text_cmp (set text_cmp by_id id None) id ≡ None
  gone = at-set name_order by_id id None id s ∙ ap (λ b. cond b None (at text_cmp by_id id)) (eq_by_cmp-self name_order id)

  -- an entry that is set after it was taken out
  pub set_again : (w : Option Row) → set text_cmp (set text_cmp by_id id None) id w ≡ set text_cmp by_id id w
  set_again w =
      let without = set text_cmp by_id id None in
      let t = sorted-set name_order by_id id None s in
      same_maps name_order (set text_cmp without id w) (set text_cmp by_id id w) (sorted-set name_order without id w t) (sorted-set name_order by_id id w s) (λ q.
      at-set name_order without id w q t
      ∙ ap (cond (eq_by_cmp text_cmp q id) w) (at-set name_order by_id id None q s)
      ∙ twice (eq_by_cmp text_cmp q id) w (at text_cmp by_id q)
      ∙ sym (at-set name_order by_id id w q s))

  -- nothing is taken out where nothing stands
  pub none_set : at text_cmp by_id id ≡ None → by_id ≡ set text_cmp by_id id None
  none_set none = sym (set-at name_order by_id id s) ∙ ap (set text_cmp by_id id) none

all_counted : (rows : RowMap) → count_by (λ row. true) rows ≡ length rows
all_counted [] = refl
all_counted (row ∷ rows) = count_yes (λ row. true) row rows refl ∙ ap suc (all_counted rows)

-- lists with the same rows are equally long
pub same_length : (a b : RowMap) → AreSameRows a b → length a ≡ length b
same_length a b same = sym (all_counted a) ∙ same (λ row. true) ∙ all_counted b
