use Rattle.std.proofs.Common.{Some, ap, sym, ◌∙◌}
use Rattle.std.specs.Result.{result_ok}
use Rattle.ejson_value.specs.View.{view}
use Rattle.ejson_codec.specs.Reading.{parsed}
use Rattle.checking.specs.InputLaws.{value_of_text, no_value}
use Rattle.checking.proofs.input.read_value.Goals as goal

pub returns-in_default : goal.returns-in_default
returns-in_default c = sym (no_value c.args.line.now c.in_default.ensures.cases.0)

pub returns-in-Ok-parse_in : goal.returns-in-Ok-parse_in
returns-in-Ok-parse_in c =
    sym (value_of_text c.args.line.now (Some (view c.in-Ok-parse_in.value)) c.in-Ok.ensures.cases.1
    (ap (λ text. result_ok (parsed text)) (sym c.in-Ok.ensures.cases.0) ∙ ap result_ok c.in-Ok-parse_in.ensures.exact))
