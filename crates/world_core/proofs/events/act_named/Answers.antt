use Rattle.std.proofs.Common.{◌<◌, sym, subst}
use Rattle.world_core.specs.Kept.{seen}
use Rattle.world_core.proofs.ShowingLemmas.{few_enough, names_act, names_none, connected}
use Rattle.world_core.proofs.events.act_named.Goals as goal

pub named-requires : goal.named-requires
named-requires c = subst (λ n. n < 18446744073709551615) (sym c.length-length.ensures) (few_enough (seen c.args.inside.now) c.requires)

pub returns-in-Some : goal.returns-in-Some
returns-in-Some c =
    let x = seen c.args.inside.now in
    let conn = connected x c.requires c.args.client.now c.in-Some.connection.now c.in-Some.ensures.value in
    names_act x c.requires c.args.client.now c.in-Some.connection.now c.in-Some.ensures.value c.args.event.now c.named.result (c.named.ensures x.app c.args.client.now x.history conn c.length-length.ensures)

pub returns-in-None : goal.returns-in-None
returns-in-None c = names_none (seen c.args.inside.now) c.requires c.args.client.now c.in-None.ensures.value c.args.event.now
