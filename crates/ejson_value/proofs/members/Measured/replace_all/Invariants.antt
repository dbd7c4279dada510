use Rattle.std.proofs.Common.{◌≡◌, true, is_some, vec_len}
use Rattle.std.specs.List.{list_all}
use Rattle.map_model.specs.Differences.{with_fields}
use Rattle.value_model.specs.Order.{text_cmp}
use Rattle.value_model.specs.Doc.{get}
use Rattle.ejson_value.specs.declared.row.Member.{Member}
use Rattle.ejson_value.specs.View.{pairs, entries}
use Rattle.ejson_value.proofs.members.Measured.replace_all.Given as goal

abbrev pub invariant-loop-member : goal.invariant-loop-member
invariant-loop-member l =
    (with_fields text_cmp l.self (entries (pairs l.members.items)) ≡ with_fields text_cmp l.initial.self (entries (pairs l.initial.members.items))) ×
    (list_all (λ (m : Member). is_some (get l.self m.name)) l.members.items ≡ true)

abbrev pub decreases-loop-member : goal.decreases-loop-member
decreases-loop-member l = vec_len l.members
