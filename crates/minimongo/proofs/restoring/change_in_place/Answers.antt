use Rattle.minimongo.proofs.InPlace.{fits_in_place, changed_in_place}
use Rattle.minimongo.proofs.restoring.change_in_place.Goals as goal

pub returns-in-Changed-clause-fits : goal.returns-in-Changed-clause-fits
returns-in-Changed-clause-fits c =
    rw (c.in-Changed.is, ← c.as_slice.ensures)
    (fits_in_place c.args.contents.now c.change.new.self c.in-Changed.key c.in-Changed.fields c.as_slice.result.now c.change.result c.change.ensures.there)

pub returns-in-Changed-clause-ok : goal.returns-in-Changed-clause-ok
returns-in-Changed-clause-ok c =
    rw (c.in-Changed.is, ← c.as_slice.ensures)
    (changed_in_place c.args.contents.now c.change.new.self c.in-Changed.key c.in-Changed.fields c.as_slice.result.now c.change.result c.change.ensures.ok)
