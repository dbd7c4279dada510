use Rattle.std.proofs.Common.{◌++◌, subst, sym, append-nil}
use Rattle.std.specs.List.Sorted.{IsStrictlySortedBy}
use Rattle.std.specs.Map.{keys_of}
use Rattle.value_model.specs.Order.{text_cmp}
use Rattle.ejson_value.specs.View.{pairs}
use Rattle.ejson_value.specs.Entries.{keys_of-entries}
use Rattle.ejson_value.proofs.row.Row.moved.Goals as goal

pub fill-requires : goal.fill-requires
fill-requires c =
    let ws = pairs c.self.inside.members.items in
    let sorted = subst (IsStrictlySortedBy text_cmp) (keys_of-entries ws) c.self.invariant.names in
    subst (λ es. IsStrictlySortedBy text_cmp (keys_of (ws ++ es))) (sym c.new-map.ensures.empty) (subst (λ es. IsStrictlySortedBy text_cmp (keys_of es)) (sym (append-nil ws)) sorted)
