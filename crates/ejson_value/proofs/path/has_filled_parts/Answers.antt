use Rattle.std.proofs.Common.{List, ℕ, length, lit<, nat_lt, rules}
use Rattle.std.proofs.lemmas.Bool.Decides.{nat_tests}
use Rattle.std.proofs.lemmas.Iterator.Splits.{YieldsList-from_str_split}
use Rattle.std.proofs.lemmas.Iterator.Search.{all_from_yields_List}
use Rattle.ejson_value.proofs.path.has_filled_parts.Goals as goal

pub returns : goal.returns
returns c = all_from_yields_List (λ (part : List ℕ). nat_lt 0 (length part)) _ _ _ c.all.ensures.ran (YieldsList-from_str_split 46 c.args.text.now (lit< tt) c.split.ensures.text c.split.ensures.has_more c.split.ensures.pattern) (λ x b q k. search (rules, nat_tests))
