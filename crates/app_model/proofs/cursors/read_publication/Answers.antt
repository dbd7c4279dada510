use Rattle.std.proofs.Common.{ap, sym, subst, ◌∙◌}
use Rattle.std.specs.Prelude.{codes}
use Rattle.value_model.specs.Val.{vals_of}
use Rattle.ejson_value.specs.View.{view}
use Rattle.app_model.specs.Rules.{Rules}
use Rattle.program_reading.specs.Faults.{below, Gives}
use Rattle.app_model.specs.Reading.{named_reading, publication_reading}
use Rattle.app_model.proofs.cursors.read_publication.Goals as goal

pub returns-in-List : goal.returns-in-List
returns-in-List c =
    let cs = c.args.collections.now in
    let name = c.args.name.now in
    subst (λ r. Gives (λ (p : Rules). p) c.read_named.result r)
    (ap (λ place. named_reading cs place name (vals_of c.in-List.items)) (c.in_ok-place.ensures ∙ ap (λ key. below (codes "publications") key) c.as_str.ensures) ∙ ap (λ v. publication_reading cs name (view v)) (sym c.in-List.is))
    c.read_named.ensures
