use Rattle.std.proofs.Common.{[], ◌∙◌}
use Rattle.ejson_value.specs.Key.{name_order}
use Rattle.kept_document.proofs.Puts.{left_or, left_room}
use Rattle.kept_document.proofs.fields.take_fields.Goals as goal

pub loop-name-preserved : goal.loop-name-preserved
loop-name-preserved c =
    let before = c.loop-name.invariant in
    let all = c.loop-name.changes.entries in
    let rest = c.pop_first.new.self.entries in
    let old = c.loop-name.fields.entries in
    let new = c.put_or_clear.new.fields.entries in
    let updates = c.in-Some.ensures.updates.0 in
    record {
      claims = λ f. left_or name_order all rest c.in-Some.name updates old new c.in-Some.claims [] c.in-Some.ensures.value c.put_or_clear.ensures.claims f ∙ before.claims f;
      room = left_room name_order all rest c.in-Some.name updates old new before.room c.put_or_clear.ensures.others;
    }
