use Rattle.std.proofs.Common.{◌<◌, ap, sym, subst, ◌∙◌}
use Rattle.std.specs.Prelude.{ℕ, List, IfSome}
use Rattle.world_core.specs.Kept.{seen}
use Rattle.world_core.specs.Runs.{IsListener, IsRun, behind_all}
use Rattle.world_core.proofs.Workers.{left_from, next_is_less}
use Rattle.world_core.proofs.Runs.{run_more, behind_more}
use Rattle.world_core.proofs.rounds.run_from.Goals as goal

pub loop-run-smaller : goal.loop-run-smaller
loop-run-smaller c =
    let x = seen c.args.inside.now in
    let from = c.loop-run.run.from in
    let l : IsListener x from c.in-Some.name = subst (λ o. IfSome o (IsListener x from)) c.in-Some.is c.in_ok-name.ensures in
    subst (λ (f : List ℕ). left_from f x.busy x.present < left_from from x.busy x.present) (sym c.in_ok-add.ensures.from) (next_is_less x from c.in-Some.name l.next)

pub loop-run-preserved : goal.loop-run-preserved
loop-run-preserved c =
    let x = seen c.args.inside.now in
    let from = c.args.from.now in
    let names = c.loop-run.run.names.items in
    let name = c.in-Some.name in
    let l : IsListener x c.loop-run.run.from name = subst (λ o. IfSome o (IsListener x c.loop-run.run.from)) c.in-Some.is c.in_ok-name.ensures in
    let here : IsListener x (behind_all from names) name = subst (λ (f : List ℕ). IsListener x f name) c.loop-run.invariant.1 l in
    (subst (IsRun x from) (sym c.in_ok-add.ensures.names) (run_more x from names name c.loop-run.invariant.0 here), c.in_ok-add.ensures.from ∙ (sym (behind_more from names name) ∙ ap (behind_all from) (sym c.in_ok-add.ensures.names)))
