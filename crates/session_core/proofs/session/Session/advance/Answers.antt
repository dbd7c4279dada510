use Rattle.std.specs.Prelude.{Bool, Ok, is_some}
use Rattle.std.proofs.Common.{ap, subst, ◌∙◌}
use Rattle.session_core.specs.session_laws.Session.{HadRoom}
use Rattle.session_core.specs.Kept.{seen}
use Rattle.session_core.proofs.Outcomes.{tested_is, advances}
use Rattle.session_core.proofs.session.Session.advance.Goals as goal

pub returns-in_ok-advance_to-in-Some-clause-advances : goal.returns-in_ok-advance_to-in-Some-clause-advances
returns-in_ok-advance_to-in-Some-clause-advances g c =
    let s = seen c.self.inside.inner in
    let room = subst (λ (b : Bool). HadRoom b s) (c.is_some.ensures ∙ ap is_some c.place_after-place.ensures) (tested_is c.is_some.result s (Ok tt) c.in_ok-test.ensures) in
    rw (← c.self.view_is)
    (advances c.args.sub c.args.batch.now.from c.args.batch.now.count c.args.batch.now.changes s (seen c.advance_to.new.inner) room c.in_ok-advance_to-in-Some.ensures.advanced)
