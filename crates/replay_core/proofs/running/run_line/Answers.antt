use Rattle.std.specs.Prelude.{ℕ, List, ◌++◌}
use Rattle.std.proofs.Common.{ap, subst, ◌∙◌, inr}
use Rattle.world_core.specs.history_log.Entries.{told_operation}
use Rattle.world_core.specs.world_model.declared.events.Event.TheVariants as event
use Rattle.world_core.specs.world_model.Events.{step}
use Rattle.world_core.specs.world_model.Lines.{lines_of}
use Rattle.replay_core.specs.Replay.{all_bytes}
use Rattle.replay_core.specs.Tasks.{IsTask}
use Rattle.replay_core.proofs.running.run_line.Goals as goal

pub admin_told-requires-clause-reads : goal.admin_told-requires-clause-reads
admin_told-requires-clause-reads g c =
    let t = subst (IsTask c.args.read.now.line.now) c.in-Operation.is c.requires.read in
    rw t.1 t.2.operation

pub admin_told-requires-clause-good : goal.admin_told-requires-clause-good
admin_told-requires-clause-good g c =
    let t = subst (IsTask c.args.read.now.line.now) c.in-Operation.is c.requires.read in
    rw t.1 t.2.fits

pub returns-in_ok-add_lines-in-Operation : goal.returns-in_ok-add_lines-in-Operation
returns-in_ok-add_lines-in-Operation g c =
    let l = c.args.read.now.line.now in
    let w = c.args.world.now in
    let before = c.args.output.now.items in
    let t = subst (IsTask l) c.in-Operation.is c.requires.read in
    let told = c.in_ok-admin_told-in-Operation.ensures in
    inr (record {
      is_line = t.0;
      event = event.Admin (told_operation l);
      is_event = t.2.is_event;
      world = told.step ∙ ap (λ (x : List ℕ). step w (event.Admin (told_operation x))) t.1;
      output = c.in_ok-add_lines-in-Operation.ensures
          ∙ ap (λ (ls : List (List ℕ)). before ++ all_bytes ls)
          (c.in_ok-lines-in-Operation.ensures ∙ (told.lines ∙ ap (λ (x : List ℕ). lines_of w (event.Admin (told_operation x))) t.1));
    })

pub returns-in_ok-add_lines-in-Event : goal.returns-in_ok-add_lines-in-Event
returns-in_ok-add_lines-in-Event g c =
    let l = c.args.read.now.line.now in
    let before = c.args.output.now.items in
    let t = subst (IsTask l) c.in-Event.is c.requires.read in
    let ran = c.in_ok-event-in-Event.ensures in
    inr (record {
      is_line = t.0;
      event = c.in-Event.event;
      is_event = t.1;
      world = ran.step;
      output = c.in_ok-add_lines-in-Event.ensures ∙ ap (λ (ls : List (List ℕ)). before ++ all_bytes ls) (c.in_ok-lines-in-Event.ensures ∙ ran.lines);
    })
