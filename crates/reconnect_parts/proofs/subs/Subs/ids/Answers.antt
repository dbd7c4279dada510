use Rattle.std.specs.List.Sorted.{IsStrictlySortedBy}
use Rattle.std.specs.Map.{keys_of}
use Rattle.std.proofs.Common.{List, ℕ, ◌++◌, ap, sym, subst, ◌∙◌}
use Rattle.value_model.specs.Order.{text_cmp}
use Rattle.reconnect_model.specs.Revival.{Wanted}
use Rattle.reconnect_parts.proofs.Ids.{enter_next}
use Rattle.reconnect_parts.proofs.subs.Subs.ids.Goals as goal

pub loop-id-preserved : goal.loop-id-preserved
loop-id-preserved c =
    let ids = c.loop-id.ids.keys in
    let rest = keys_of c.next.new.self in
    let sorted = subst (λ (rows : List (List ℕ × Wanted)). IsStrictlySortedBy text_cmp (keys_of rows)) c.self.view_is c.self.invariant in
    let all = sym (ap (λ (rows : List (List ℕ × Wanted)). ids ++ keys_of rows) c.in-Some.ensures.steps) ∙ c.loop-id.invariant.2 in
    (tt, tt, ap (λ ks. ks ++ rest) c.in_ok-enter.ensures ∙ enter_next ids c.in-Some.id.now rest (keys_of c.args.self.now) sorted all)
