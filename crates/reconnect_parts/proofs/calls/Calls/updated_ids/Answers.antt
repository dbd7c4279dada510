use Rattle.std.specs.List.Sorted.{IsStrictlySortedBy}
use Rattle.std.specs.Map.{keys_of}
use Rattle.std.proofs.Common.{List, ℕ, ◌++◌, filter, not, ap, sym, subst, ◌∙◌}
use Rattle.map_model.specs.MapLaws.{sorted-filter}
use Rattle.value_model.specs.Order.{text_cmp}
use Rattle.ejson_value.specs.Key.{name_order}
use Rattle.reconnect_model.specs.Revival.{Called}
use Rattle.reconnect_parts.proofs.Ids.{enter_some}
use Rattle.reconnect_parts.proofs.calls.Calls.updated_ids.Goals as goal

pub loop-id-preserved-in-Continue-1 : goal.loop-id-preserved-in-Continue-1
loop-id-preserved-in-Continue-1 c =
    let ids = c.loop-id.ids.keys in
    let sorted = subst (λ (rows : List (List ℕ × Called)). IsStrictlySortedBy text_cmp (keys_of rows)) c.self.view_is c.self.invariant in
    let passes = ap (λ (e : Called). e.is_updated) (sym c.call.view_is) ∙ c.if-call.true in (
      tt,
      tt,
      ap (λ ks. ks ++ keys_of (filter (λ (e : List ℕ × Called). e.1.is_updated) c.next.new.self)) c.in_ok-enter.ensures
          ∙ enter_some (λ (e : List ℕ × Called). e.1.is_updated) ids c.in-Some.id.now c.in-Some.call.now c.next.new.self c.loop-id.id-iterator c.args.self.now
          (sorted-filter name_order (λ (e : List ℕ × Called). e.1.is_updated) c.args.self.now sorted) c.in-Some.ensures.steps passes c.loop-id.invariant.2,
    )
