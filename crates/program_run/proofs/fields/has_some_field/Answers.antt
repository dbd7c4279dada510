use Rattle.std.proofs.Common.{ℕ, List, Option, ap, sym, ◌∙◌, rules, tests}
use Rattle.std.specs.List.{list_any}
use Rattle.std.proofs.lemmas.Iterator.{YieldsList-from_slice}
use Rattle.std.proofs.lemmas.Iterator.Search.{any_from_yields_List}
use Rattle.program_model.specs.Guarded.{is_among, has_some_field}
use Rattle.program_run.proofs.fields.has_some_field.Goals as goal

pub returns-in-Some : goal.returns-in-Some
returns-in-Some c =
    any_from_yields_List (is_among c.in-Some.names) _ _ c.any.result c.any.ensures.ran (YieldsList-from_slice c.as_slice.result.now cc) (λ x b q k. search (rules, tests))
    ∙ (ap (λ ps. list_any (is_among c.in-Some.names) ps) c.as_slice.ensures
    ∙ ap (λ (o : Option (List (List ℕ))). has_some_field o c.args.parts.now) (sym c.in-Some.is))
