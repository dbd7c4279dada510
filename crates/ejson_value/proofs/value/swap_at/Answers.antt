use Rattle.std.proofs.Common.{ap, ◌∙◌, slice_set}
use Rattle.ejson_value.specs.View.{views}
use Rattle.ejson_value.specs.Entries.{views-set}
use Rattle.ejson_value.proofs.value.swap_at.Goals as goal

pub returns-clause-replaced : goal.returns-clause-replaced
returns-clause-replaced c =
    let vs = c.args.items.now.items in
    ap (λ w. views (slice_set vs c.args.place w)) c.replace.ensures.after ∙ views-set vs c.args.place c.args.value
