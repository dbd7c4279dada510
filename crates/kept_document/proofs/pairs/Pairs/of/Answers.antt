use Rattle.std.proofs.Common.{sym, subst}
use Rattle.std.specs.List.Sorted.{IsStrictlySortedBy}
use Rattle.map_model.specs.Maps.{IsSorted}
use Rattle.value_model.specs.Order.{text_cmp}
use Rattle.ejson_value.specs.Entries.{keys_of-entries}
use Rattle.kept_document.proofs.pairs.Pairs.of.Goals as goal

pub returns-clause-before_by_name : goal.returns-clause-before_by_name
returns-clause-before_by_name c =
    subst (λ es. IsSorted text_cmp es) c.iter-before_rest.ensures.all
    (subst (IsStrictlySortedBy text_cmp) (sym (keys_of-entries c.iter-before_rest.result)) c.iter-before_rest.ensures.ordered)

pub returns-clause-after_by_name : goal.returns-clause-after_by_name
returns-clause-after_by_name c =
    subst (λ es. IsSorted text_cmp es) c.iter-after_rest.ensures.all
    (subst (IsStrictlySortedBy text_cmp) (sym (keys_of-entries c.iter-after_rest.result)) c.iter-after_rest.ensures.ordered)
