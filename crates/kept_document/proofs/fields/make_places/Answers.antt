use Rattle.std.proofs.Common.{◌∷◌, [], ◌++◌, ◌∙◌}
use Rattle.kept_document.proofs.Walks.{walk_on}
use Rattle.kept_document.proofs.KeptAfter.{room_next}
use Rattle.kept_document.proofs.fields.make_places.Goals as goal

pub loop-name-preserved : goal.loop-name-preserved
loop-name-preserved c =
    let walk = c.loop-name.invariant in
    let name = c.in-Some.name.now in
    let claims = c.in-Some.field-0-1.now in
    record {
      can_next = tt;
      is_finite = tt;
      done = walk.done ++ (name, claims) ∷ [];
      whole = walk_on c.into_iter-name-iterator.result walk.done (name, claims) c.loop-name.name-iterator c.next.new.self walk.whole c.in-Some.ensures.steps;
      same = λ f. c.make_place.ensures.same f ∙ walk.same f;
      grows = λ f h. c.make_place.ensures.grows f (walk.grows f h);
      room = room_next walk.done c.loop-name.fields.entries c.make_place.new.fields.entries name claims walk.room c.make_place.ensures.grows c.in_ok-make_place.ensures.room;
    }
