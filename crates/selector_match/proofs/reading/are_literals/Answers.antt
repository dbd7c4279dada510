use Rattle.std.proofs.Common.{sym, ◌∙◌, rules}
use Rattle.std.proofs.lemmas.Bool.Decides.{nat_tests}
use Rattle.std.proofs.lemmas.Iterator.{YieldsList-from_slice}
use Rattle.std.proofs.lemmas.Iterator.Search.{all_from_yields_List}
use Rattle.std.proofs.lemmas.List.Folds.{list_all-map}
use Rattle.ejson_value.specs.declared.value.Value.{Value}
use Rattle.ejson_value.specs.View.{view}
use Rattle.selector_match.specs.Reading.{is_literal}
use Rattle.selector_match.proofs.reading.are_literals.Goals as goal

pub returns : goal.returns
returns c =
    all_from_yields_List (λ (v : Value). is_literal (view v)) _ _ c.all.result c.all.ensures.ran (YieldsList-from_slice c.args.values.now cc) (λ x b q k. search (rules, nat_tests))
    ∙ sym (list_all-map is_literal view c.args.values.now)
