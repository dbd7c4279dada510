use Rattle.std.specs.Prelude.{◌≡◌, List, IfOk}
use Rattle.std.proofs.Common.{ap, sym, subst, ◌∙◌}
use Rattle.value_model.specs.Val.{Val}
use Rattle.value_model.specs.ValLaws.{list_of-vals_of}
use Rattle.ejson_value.specs.declared.value.Value.{Value}
use Rattle.ejson_value.specs.View.{view}
use Rattle.history_log.specs.Entries.{items_in}
use Rattle.history_log.proofs.kept_entry.list_of_value.Goals as goal

pub returns-in-List : goal.returns-in-List
returns-in-List c =
    let same = sym (list_of-vals_of c.in-List.items) ∙ ap (λ (v : Value). items_in (view v)) (sym c.in-List.is) in
    subst (λ (vs : List Val). IfOk c.copy.result (λ items. items ≡ vs)) same c.copy.ensures
