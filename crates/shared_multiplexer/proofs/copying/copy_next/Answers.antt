use Rattle.std.specs.Prelude.{Option, Result, Ok}
use Rattle.std.proofs.Common.{ap, sym, subst, ◌∙◌}
use Rattle.ejson_value.specs.declared.memory.Mem.{Mem}
use Rattle.history_log.specs.declared.batch.Batch.{Batch}
use Rattle.shared_store.specs.Store.{over}
use Rattle.shared_multiplexer.specs.Copied.{ACopy, AreCopiedOf}
use Rattle.shared_multiplexer.proofs.Lists.{copied_longer, fetched_next}
use Rattle.shared_multiplexer.proofs.copying.copy_next.Goals as goal

pub returns-in_ok-push-in-Ok-Some-clause-are : goal.returns-in_ok-push-in-Ok-Some-clause-are
returns-in_ok-push-in-Ok-Some-clause-are g c =
    let app = g.N.StoreName.app in
    let list = c.batch.new.pass in
    let x = c.args.entries.now in
    c.in_ok-push-in-Ok-Some.ensures.are (over app list) (copied_longer app c.args.pass.now list c.batch.ensures.shown.seen x c.requires)
    (fetched_next app list x c.next.result c.batch.result c.in-Ok-Some.batch c.next.ensures.next c.batch.ensures.fetches (c.in-Ok-Some.is ∙ ap (λ (o : Option Batch). let r : Result (Option Batch) Mem = Ok o in r) c.in-Ok-Some.field-0-is))

pub returns-in_err-push-in-Ok-Some-clause-are : goal.returns-in_err-push-in-Ok-Some-clause-are
returns-in_err-push-in-Ok-Some-clause-are g c =
    let app = g.N.StoreName.app in
    let list = c.batch.new.pass in
    subst (λ (x : ACopy). AreCopiedOf x (over app list)) (sym c.in_err-push-in-Ok-Some.ensures.err) (copied_longer app c.args.pass.now list c.batch.ensures.shown.seen c.args.entries.now c.requires)

pub returns-in-Ok-None-clause-are : goal.returns-in-Ok-None-clause-are
returns-in-Ok-None-clause-are g c = copied_longer g.N.StoreName.app c.args.pass.now c.batch.new.pass c.batch.ensures.shown.seen c.args.entries.now c.requires

pub returns-in-Err-clause-are : goal.returns-in-Err-clause-are
returns-in-Err-clause-are g c = copied_longer g.N.StoreName.app c.args.pass.now c.batch.new.pass c.batch.ensures.shown.seen c.args.entries.now c.requires
