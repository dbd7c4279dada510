use Rattle.std.proofs.Common.{◌≡◌, ◌++◌}
use Rattle.std.specs.Vec.Iter.{into_iter_items}
use Rattle.ejson_value.specs.Changes.{news_of}
use Rattle.multiplexer.specs.Parts.{news_of_parts}
use Rattle.multiplexer.proofs.joining.Parts.listed.Given as goal

abbrev pub invariant-loop-part : goal.invariant-loop-part
invariant-loop-part l =
    (goal.iterator-loop-part).can_next l.part-iterator × (goal.iterator-loop-part).is_finite l.part-iterator
    × (news_of l.list ++ news_of_parts (into_iter_items l.part-iterator) ≡ news_of_parts (into_iter_items l.initial.part-iterator))
