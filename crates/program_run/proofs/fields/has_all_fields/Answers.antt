use Rattle.std.proofs.Common.{ℕ, List, Option, ap, sym, ◌∙◌, rules, tests}
use Rattle.std.specs.List.{list_all}
use Rattle.std.proofs.lemmas.Iterator.{YieldsList-from_slice}
use Rattle.std.proofs.lemmas.Iterator.Search.{all_from_yields_List}
use Rattle.program_model.specs.Guarded.{is_among, has_all_fields}
use Rattle.program_run.proofs.fields.has_all_fields.Goals as goal

pub returns-in-Some : goal.returns-in-Some
returns-in-Some c =
    all_from_yields_List (is_among c.in-Some.names) _ _ c.all.result c.all.ensures.ran (YieldsList-from_slice c.as_slice.result.now cc) (λ x b q k. search (rules, tests))
    ∙ (ap (λ ps. list_all (is_among c.in-Some.names) ps) c.as_slice.ensures
    ∙ ap (λ (o : Option (List (List ℕ))). has_all_fields o c.args.parts.now) (sym c.in-Some.is))
