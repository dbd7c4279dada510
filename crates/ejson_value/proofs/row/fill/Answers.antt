use Rattle.std.proofs.Common.{◌++◌, subst, sym, ap, ◌∙◌, arith}
use Rattle.std.specs.List.Sorted.{IsStrictlySortedBy}
use Rattle.std.specs.Map.{keys_of}
use Rattle.value_model.specs.Order.{text_cmp}
use Rattle.ejson_value.specs.View.{pairs}
use Rattle.ejson_value.proofs.Moves.{last_of, move_last}
use Rattle.ejson_value.proofs.row.fill.Goals as goal

pub loop-name-preserved : goal.loop-name-preserved
loop-name-preserved c =
    let ms = c.pop.new.self.items in
    let m = c.in-Some.field-0 in
    let es = c.loop-name.map.entries in
    let same = sym (ap (λ ws. pairs ws ++ es) c.in-Some.ensures.items ∙ last_of ms m es) ∙ c.loop-name.invariant.0 in
    let sorted = subst (λ ws. IsStrictlySortedBy text_cmp (keys_of ws)) (sym same) c.requires in
    (ap (λ ws. pairs ms ++ ws) (c.in-Ok.ensures.entries ∙ move_last ms m.name m.value es sorted) ∙ same, omega (arith, c.loop-name.invariant.1, c.pop.ensures.capacity))
