use Rattle.std.proofs.Common.{map, ◌∙◌, arith}
use Rattle.session_state.specs.Subs.{as_live}
use Rattle.session_state.proofs.Places.{loaded_at, loaded_none}
use Rattle.session_state.proofs.subs.load.Goals as goal

pub returns-in-Some-clause-loaded : goal.returns-in-Some-clause-loaded
returns-in-Some-clause-loaded c =
    let p = c.in-Some.place in
    c.place_at.ensures.placed ∙ loaded_at c.args.number 0 p p c.args.at (map as_live c.args.subs.now.items) (omega arith) cc

pub returns-in_default-clause-loaded : goal.returns-in_default-clause-loaded
returns-in_default-clause-loaded c = loaded_none c.args.number 0 c.args.at (map as_live c.args.subs.now.items) cc
