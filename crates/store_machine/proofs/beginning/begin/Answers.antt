use Rattle.std.specs.Prelude.{is_some}
use Rattle.std.proofs.Common.{ap, sym, ◌∙◌}
use Rattle.history_model.specs.History.{status_in, status_of, is_next}
use Rattle.store_machine.specs.declared.called.Called.{Called}
use Rattle.store_machine.specs.State.{held_by}
use Rattle.store_machine.specs.Standing.{begun_of, seen}
use Rattle.store_machine.proofs.Standings.{none_there, or_second}
use Rattle.store_machine.proofs.Beginnings.{begun_before, status_seen}
use Rattle.store_machine.proofs.beginning.begin.Goals as goal

pub returns-in-Some : goal.returns-in-Some
returns-in-Some c =
    let app = c.args.app.now in
    let p = c.args.parts.now in
    let is = status_seen app p c.args.session c.args.k c.requires.stands ∙ (sym (c.in_ok-now.ensures app) ∙ c.in-Some.is) in
    record { stands = c.requires.stands; gives = begun_before app p c.args.session c.args.k c.args.method.now c.args.params.now c.args.seed.now c.in-Some.status is; status = is; refused = tt }

pub begin_new-requires-clause-none : goal.begin_new-requires-clause-none
begin_new-requires-clause-none c = none_there (λ (d : Called). status_of (begun_of c.args.app.now d)) _ (sym (c.in_ok-now.ensures c.args.app.now) ∙ c.in-None.is)

pub begin_new-requires-clause-next : goal.begin_new-requires-clause-next
begin_new-requires-clause-next c =
    let app = c.args.app.now in
    let p = c.args.parts.now in
    let none = status_seen app p c.args.session c.args.k c.requires.stands ∙ (sym (c.in_ok-now.ensures app) ∙ c.in-None.is) in
    or_second (is_some (status_in (held_by (seen app p)) c.args.session c.args.k)) (is_next c.args.session c.args.k (held_by (seen app p)).runs) (ap is_some none) c.requires.next
