use Rattle.std.proofs.Common.{[], refl, sym, subst}
use Rattle.map_model.specs.MapLaws.{sorted-nil}
use Rattle.value_model.specs.Order.{text_cmp}
use Rattle.sort_window.specs.Shown.{RowMap}
use Rattle.sort_window.specs.Inside.{row_cmp, IsInside}
use Rattle.sort_window.proofs.window.Window.new.Goals as goal

pub invariant_of-result : goal.invariant_of-result
invariant_of-result c =
    let sort = c.args.sort in
    subst (λ (rows : RowMap). IsInside sort rows c.new-2.result.items) (sym c.new.ensures.items) (subst (λ (rows : RowMap). IsInside sort [] rows) (sym c.new-2.ensures.items) (record {
      ids = sorted-nil text_cmp;
      order = sorted-nil (row_cmp sort);
      same = λ test. refl;
    }))
