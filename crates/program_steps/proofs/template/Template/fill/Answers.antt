use Rattle.std.proofs.Common.{Err, ap, sym, subst, ◌∙◌}
use Rattle.std.proofs.lemmas.Result.{err_from_is_err_and}
use Rattle.ejson_value.specs.View.{view}
use Rattle.ejson_value.specs.Results.{made}
use Rattle.program_steps.specs.Template.{Gives, filling, filled}
use Rattle.program_steps.specs.Measuring.{extent_of}
use Rattle.program_steps.proofs.Extents.{fault-given, past-given}
use Rattle.program_steps.proofs.template.Template.fill.Goals as goal

pub returns-in_err-extent : goal.returns-in_err-extent
returns-in_err-extent c =
    let ps = c.args.params.now in
    let ids = c.args.made.now in
    let p = err_from_is_err_and c.from_residual.result c.from_residual.ensures.1 in
    rw (p.1, p.2)
    (subst (λ v. Gives view (Err c.in_err-extent.field-0.0) (filled ps ids v)) c.self.view_is (fault-given c.in_err-extent.field-0.0 (filling ps ids (view c.self.inside.value)) c.in_err-extent.ensures))

pub returns-in-Some : goal.returns-in-Some
returns-in-Some c =
    let ps = c.args.params.now in
    let ids = c.args.made.now in
    past-given c.in-Some.fault (filling ps ids c.args.self.now) c.in_ok-extent.extent
    (ap (λ v. made extent_of (filling ps ids v)) (sym c.self.view_is) ∙ c.in_ok-extent.ensures)
    (sym c.past_limits.ensures ∙ c.in-Some.is)
