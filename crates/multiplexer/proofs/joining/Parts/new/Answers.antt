use Rattle.std.proofs.Common.{List, sym, subst}
use Rattle.map_model.specs.Maps.{IsSorted}
use Rattle.map_model.specs.MapLaws.{sorted-nil}
use Rattle.ejson_value.specs.Key.{key_cmp}
use Rattle.multiplexer.specs.declared.joining.Part.{Part}
use Rattle.multiplexer.specs.Parts.{news_of_parts}
use Rattle.multiplexer.proofs.joining.Parts.new.Goals as goal

pub invariant_of-result : goal.invariant_of-result
invariant_of-result c = subst (λ (ps : List Part). IsSorted key_cmp (news_of_parts ps)) (sym c.new.ensures.items) (sorted-nil key_cmp)
