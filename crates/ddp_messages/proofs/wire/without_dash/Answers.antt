use Rattle.std.proofs.Common.{Some, None, sym, ◌∙◌, arith}
use Rattle.std.proofs.lemmas.Str.Pattern.{strip_prefix_char}
use Rattle.ddp_messages.specs.WireLaws.{own_dash, own_plain}
use Rattle.ddp_messages.proofs.wire.without_dash.Goals as goal

pub returns-in-Some : goal.returns-in-Some
returns-in-Some c = c.behind_dash.ensures ∙ sym (own_dash c.args.wire.now c.in-Some.text.now (strip_prefix_char 45 c.args.wire.now (Some c.in-Some.text) c.in-Some.ensures.cases (omega arith)))

pub returns-in-None : goal.returns-in-None
returns-in-None c = c.as_it_stands.ensures ∙ sym (own_plain c.args.wire.now (strip_prefix_char 45 c.args.wire.now None c.in-None.ensures.cases (omega arith)))
