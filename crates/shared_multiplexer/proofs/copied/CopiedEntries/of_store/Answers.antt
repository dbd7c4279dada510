use Rattle.std.specs.Prelude.{◌∷◌, ◌++◌, [], Option, Result, Ok}
use Rattle.std.proofs.Common.{ap, ◌∙◌}
use Rattle.ejson_value.specs.declared.memory.Mem.{Mem}
use Rattle.history_log.specs.declared.batch.Batch.{Batch}
use Rattle.shared_store.specs.Store.{over}
use Rattle.shared_multiplexer.specs.Copied.{ACopy, with_one}
use Rattle.shared_multiplexer.proofs.Lists.{prefix_then, fetched_first, behind}
use Rattle.shared_multiplexer.proofs.copied.CopiedEntries.of_store.Goals as goal

pub copy_more-requires : goal.copy_more-requires
copy_more-requires g c =
    let app = g.N.StoreName.app in
    let list = c.batch.new.pass in
    let both = fetched_first app list c.new-entries.result c.args.from c.batch.result c.in-Ok-Some.batch c.new-entries.ensures.none c.batch.ensures.fetches (c.in-Ok-Some.is ∙ ap (λ (o : Option Batch). let r : Result (Option Batch) Mem = Ok o in r) c.in-Ok-Some.field-0-is) in
    c.in_ok-push-in-Ok-Some.ensures.are (over app list) both.0 both.1

pub returns-in_ok-copy_more-in-Ok-Some-clause-grows : goal.returns-in_ok-copy_more-in-Ok-Some-clause-grows
returns-in_ok-copy_more-in-Ok-Some-clause-grows g c = prefix_then c.args.pass.now c.batch.new.pass c.copy_more.new.pass c.batch.ensures.shown.seen c.copy_more.ensures.grows

pub returns-in_ok-copy_more-in-Ok-Some-clause-some : goal.returns-in_ok-copy_more-in-Ok-Some-clause-some
returns-in_ok-copy_more-in-Ok-Some-clause-some g c =
    let is = c.in_ok-push-in-Ok-Some.ensures.ok ∙ ap (λ (x : ACopy). with_one x c.in-Ok-Some.batch.changes) c.new-entries.ensures.none in
    behind g.N.StoreName.app c.args.from c.args.most c.copy_more.new.pass c.push.new.self c.copy_more.new.entries c.in-Ok-Some.batch.changes is c.requires c.in_ok-copy_more-in-Ok-Some.ensures.begins c.in_ok-copy_more-in-Ok-Some.ensures.least c.in_ok-copy_more-in-Ok-Some.ensures.few
    c.copy_more.ensures.are c.in_ok-copy_more-in-Ok-Some.ensures.ends

pub returns-in_err-copy_more-in-Ok-Some-clause-grows : goal.returns-in_err-copy_more-in-Ok-Some-clause-grows
returns-in_err-copy_more-in-Ok-Some-clause-grows g c = prefix_then c.args.pass.now c.batch.new.pass c.copy_more.new.pass c.batch.ensures.shown.seen c.copy_more.ensures.grows
