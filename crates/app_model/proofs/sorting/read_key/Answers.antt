use Rattle.std.proofs.Common.{ap, sym, subst, ◌∙◌}
use Rattle.value_model.specs.ValLaws.{list_of-vals_of}
use Rattle.ejson_value.specs.View.{view}
use Rattle.ejson_value.specs.declared.sort.SortKey.{SortKey}
use Rattle.program_reading.specs.Faults.{Gives}
use Rattle.app_model.specs.Fields.{or_bad_shape}
use Rattle.app_model.specs.Sorting.{key_of, key_reading}
use Rattle.app_model.proofs.sorting.read_key.Goals as goal

pub returns-in-List : goal.returns-in-List
returns-in-List c =
    let place = c.args.place.now in
    subst (λ r. Gives (λ (k : SortKey). k) c.read_pair.result r)
    (ap (λ vs. or_bad_shape place (key_of vs)) (sym (list_of-vals_of c.in-List.items)) ∙ ap (λ v. key_reading place (view v)) (sym c.in-List.is))
    c.read_pair.ensures
