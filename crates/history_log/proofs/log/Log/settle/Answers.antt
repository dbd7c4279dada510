use Rattle.std.proofs.Common.{◌≡◌, ◌+◌, ◌-◌, ◌<◌, length, vec_len, ap, ◌∙◌, arith}
use Rattle.history_log.specs.contracts.log.Log.{the_view}
use Rattle.history_log.specs.Log.{settled}
use Rattle.history_log.proofs.Turns.{settled-set, settled-none}
use Rattle.history_log.proofs.log.Log.settle.Goals as goal
use Rattle.history_log.proofs.log.Log.settle.Goals.{in-Some, in_default}

pub returns : goal.returns
returns c =
    let old = c.self.inside.logged in
    let seen = ap (λ ls. settled ls c.args.changes) c.self.view_is in
    elim c.match-last_mut.branch [
      | in-Some w ↦
          let some : 0 < length old.items = w.in-Some.ensures.item.3.0 in
          let last : vec_len old - 1 + 1 ≡ length old.items = omega (arith, old.ok.0, some) in
          ap the_view w.self-inside-is ∙ (settled-set old.items (vec_len old - 1) w.in-Some.last.now c.args.changes last w.in-Some.ensures.value ∙ seen)
      | in_default w ↦
          ap the_view w.self-inside-is ∙ (settled-none old.items c.args.changes (λ some. cc (w.in_default.ensures.item.2 some)) ∙ seen)
    ]
