use Rattle.std.proofs.Common.{arith, ap, sym, ◌∙◌}
use Rattle.kept_document.specs.Held.{is_shared}
use Rattle.merge_box.specs.Slots.{key_in}
use Rattle.merge_box.proofs.Counting.{one_if, count_changed, shared_counts, count_le}
use Rattle.merge_box.proofs.plan.take_counted.Goals as goal

pub counted-requires-clause-had : goal.counted-requires-clause-had
counted-requires-clause-had c =
    let old = c.args.kept.now in
    omega (arith, shared_counts old.docs (key_in old.keys c.args.slot) c.take_or_trim-was.result c.len-before.ensures.by_key c.take_or_trim-was.ensures.was, c.requires.count)

pub counted-requires-clause-fits : goal.counted-requires-clause-fits
counted-requires-clause-fits c lost gained =
    let old = c.args.kept.now in
    let new = c.take_or_trim-was.new.kept.docs in
    let taken = c.take_or_trim-was.ensures.taken in
    let changed = count_changed old.docs new (key_in old.keys c.args.slot) c.len-before.ensures.by_key c.len-after.ensures.by_key taken.others c.take_or_trim-was.result c.is_shared-is.result
    c.take_or_trim-was.ensures.was (ap is_shared taken.same.publishers ∙ sym c.is_shared-is.ensures) in
    omega (arith, changed, count_le new, c.len-after.ensures.len, c.len-after.type_inv, c.requires.count, ap one_if lost, ap one_if gained)

pub returns-clause-count : goal.returns-clause-count
returns-clause-count c =
    let old = c.args.kept.now in
    let taken = c.take_or_trim-was.ensures.taken in
    let changed = count_changed old.docs c.take_or_trim-was.new.kept.docs (key_in old.keys c.args.slot) c.len-before.ensures.by_key c.len-after.ensures.by_key taken.others c.take_or_trim-was.result c.is_shared-is.result
    c.take_or_trim-was.ensures.was (ap is_shared taken.same.publishers ∙ sym c.is_shared-is.ensures) in
    omega (arith, changed, c.counted.ensures, c.requires.count)
