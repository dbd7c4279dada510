use Rattle.std.proofs.Common.{◌≡◌, false, take}
use Rattle.std.specs.List.{list_any}
use Rattle.selector_match.specs.Reading.{begins_with_dollar}
use Rattle.modifier_apply.proofs.reading.has_dollar_part.Given as goal

abbrev pub invariant-loop-part : goal.invariant-loop-part
invariant-loop-part l = list_any (λ part. begins_with_dollar part) (take l.part-index l.part-items) ≡ false
