use Rattle.std.proofs.Common.{rules}
use Rattle.std.proofs.lemmas.Bool.Decides.{nat_tests}
use Rattle.std.proofs.lemmas.Iterator.{YieldsList-from_slice}
use Rattle.std.proofs.lemmas.Iterator.Search.{all_from_yields_List}
use Rattle.ddp_messages.specs.Wire.{is_hex_digit}
use Rattle.ddp_messages.proofs.wire.has_only_digits.Goals as goal

pub returns : goal.returns
returns c = all_from_yields_List is_hex_digit _ _ c.all.result c.all.ensures.ran (YieldsList-from_slice c.args.text.now cc) (λ x b q k. search (rules, nat_tests))
