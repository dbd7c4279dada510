use Rattle.std.specs.Prelude.{refl}
use Rattle.std.proofs.Common.{◌≡◌, Ok, true, false, Bool, sym, subst}
use Rattle.std.proofs.lemmas.Result.{err_from_is_err_and}
use Rattle.world_core.specs.world_model.declared.events.Event.{Event}
use Rattle.world_core.specs.world_model.declared.events.Event.TheVariants as happening
use Rattle.world_core.specs.connection.Acting.{AsksFor}
use Rattle.world_laws.specs.World.{Names}
use Rattle.lanes.specs.LentLaws.{written_visit}
use Rattle.lanes.specs.UnionsLaws.{visited_none}
use Rattle.world_core.specs.Kept.{seen}
use Rattle.world_core.specs.Happening.{Happens}
use Rattle.world_core.specs.Clients.{AsksIn}
use Rattle.world_core.proofs.Asking.{leaves, stays, leave_left}
use Rattle.world_core.proofs.events.leave.Goals as goal

pub returns-in_default : goal.returns-in_default
returns-in_default c =
    let x = seen c.args.inside.now in
    let name = c.args.client.now in
    let t : AsksIn (happening.Drop name) x.conns _ name (Ok false) = visited_none (AsksFor (happening.Drop name)) (Ok false) x.conns _ name (Ok false) (sym c.in_default.ensures.value) c.get_mut.follows.holds-at-none refl in
    rw c.requires.drops (stays x c.requires.world name _ c.put.new.self c.in_ok-put.ensures.ok t c.asked.result c.asked.ensures)

pub returns-in_err-done : goal.returns-in_err-done
returns-in_err-done c =
    let x = seen c.args.inside.now in
    let name = c.args.client.now in
    let after = c.ask.new.self in
    let put = c.get_mut.follows.lender after in
    let p = err_from_is_err_and c.from_residual-in_err-done.result c.from_residual-in_err-done.ensures.1 in
    let t = written_visit (AsksFor (happening.Drop name)) (Ok false) x.conns put name c.in-Some.connection.now after _ c.in-Some.ensures.value (c.get_mut.follows.holds after) (rw c.requires.drops at c.in_err-done.ensures) in
    rw (p.1, c.requires.drops) (leave_left x c.requires.world name put c.put.new.self c.in_ok-put.ensures.ok _ t)

pub returns-then-not-done : goal.returns-then-not-done
returns-then-not-done c =
    let x = seen c.args.inside.now in
    let name = c.args.client.now in
    let after = c.ask.new.self in
    let put = c.get_mut.follows.lender after in
    let of_drop : AsksIn (happening.Drop name) x.conns put name (Ok c.in_ok-done.done) =
    written_visit (AsksFor (happening.Drop name)) (Ok false) x.conns put name c.in-Some.connection.now after (Ok c.in_ok-done.done) c.in-Some.ensures.value (c.get_mut.follows.holds after) (rw c.requires.drops at c.in_ok-done.ensures) in
    let t : AsksIn (happening.Drop name) x.conns put name (Ok false) = subst (λ b. AsksIn (happening.Drop name) x.conns put name (Ok b)) c.if-not-done.true of_drop in
    subst (λ (e : Event). Happens x e (record x { conns = put; busy = c.put.new.self }) (Ok c.asked-then-not-done.result)) (sym c.requires.drops)
    (stays x c.requires.world name put c.put.new.self c.in_ok-put.ensures.ok t c.asked-then-not-done.result c.asked-then-not-done.ensures)

pub returns : goal.returns
returns c =
    let x = seen c.args.inside.now in
    let name = c.args.client.now in
    let after = c.ask.new.self in
    let put = c.get_mut.follows.lender after in
    let of_drop : AsksIn (happening.Drop name) x.conns put name (Ok c.in_ok-done.done) =
    written_visit (AsksFor (happening.Drop name)) (Ok false) x.conns put name c.in-Some.connection.now after (Ok c.in_ok-done.done) c.in-Some.ensures.value (c.get_mut.follows.holds after) (rw c.requires.drops at c.in_ok-done.ensures) in
    let t : AsksIn (happening.Drop name) x.conns put name (Ok true) = subst (λ b. AsksIn (happening.Drop name) x.conns put name (Ok b)) c.if-not-done.false of_drop in
    subst (λ (e : Event). Happens x e (record x { conns = put; present = c.remove.new.self; busy = c.put.new.self }) (Ok c.asked-2.result)) (sym c.requires.drops)
    (subst (λ (names : Names). Happens x (happening.Drop name) (record x { conns = put; present = names; busy = c.put.new.self }) (Ok c.asked-2.result)) (sym c.remove.ensures)
    (leaves x c.requires.world name put c.put.new.self c.in_ok-put.ensures.ok t c.asked-2.result c.asked-2.ensures))
