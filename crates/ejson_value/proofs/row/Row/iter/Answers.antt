use Rattle.std.proofs.Common.{subst, sym, ◌∙◌}
use Rattle.ejson_value.specs.View.{pairs}
use Rattle.std.specs.List.Sorted.{IsStrictlySortedBy}
use Rattle.std.specs.Map.{keys_of}
use Rattle.value_model.specs.Order.{text_cmp}
use Rattle.ejson_value.specs.Entries.{keys_of-entries}
use Rattle.ejson_value.proofs.row.Row.iter.Goals as goal

pub returns-clause-ordered : goal.returns-clause-ordered
returns-clause-ordered c =
    subst (λ ms. IsStrictlySortedBy text_cmp (keys_of (pairs ms))) (sym (c.iter.ensures.rest ∙ c.deref.ensures.value))
    (subst (IsStrictlySortedBy text_cmp) (keys_of-entries (pairs c.self.inside.members.items)) c.self.invariant.names)
