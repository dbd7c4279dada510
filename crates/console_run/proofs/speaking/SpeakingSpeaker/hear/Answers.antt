use Rattle.std.proofs.Common.{sym, subst, ◌∙◌, Ok, Err, Result}
use Rattle.ejson_value.specs.declared.memory.Mem.{Mem}
use Rattle.client_core.specs.State.{Own}
use Rattle.client_core.specs.Taken.{Takes}
use Rattle.client_core.specs.declared.fault.TakeFault.{TakeFault}
use Rattle.client_script.specs.declared.speaker.Heard.{Heard}
use Rattle.client_script.specs.Speaking.{Hears}
use Rattle.console_run.specs.Speaking.{look_of, Does}
use Rattle.console_run.proofs.Asking.{hears_taken, hears_failed, hears_refused}
use Rattle.console_run.proofs.speaking.SpeakingSpeaker.hear.Goals.{in-Ok+then-failed, in-Ok+else-failed, in-Err-ServerSent, in-Err-Memory}
use Rattle.console_run.proofs.speaking.SpeakingSpeaker.hear.Goals as goal

pub returns : goal.returns
returns c =
    let P : Result Heard Mem → Type 0 = λ r. Hears look_of Does c.args.self.now c.args.text.now c.take.new.self r in
    elim c.match-take.branch [
      | in-Ok+then-failed w ↦
          let T : Own → Type 0 = λ o. Takes c.args.text.now o c.take.new.self (Ok w.in-Ok.field-0) in
          subst P (sym w.result-is) (hears_failed c.args.self.now c.take.new.self c.args.text.now w.in-Ok.field-0 (subst T c.self.view_is w.in-Ok.ensures) (sym w.failed.ensures ∙ w.if-failed.true))
      | in-Ok+else-failed w ↦
          let T : Own → Type 0 = λ o. Takes c.args.text.now o c.take.new.self (Ok w.in-Ok.field-0) in
          subst P (sym w.result-is) (hears_taken c.args.self.now c.take.new.self c.args.text.now w.in-Ok.field-0 (subst T c.self.view_is w.in-Ok.ensures) (sym w.failed.ensures ∙ w.if-failed.false))
      | in-Err-ServerSent w ↦
          let T : Own → Type 0 = λ o. Takes {X = Unit {0}} c.args.text.now o c.take.new.self (Err w.in-Err-ServerSent.field-0) in
          let F : TakeFault → Type 0 = λ f. Takes {X = Unit {0}} c.args.text.now c.args.self.now c.take.new.self (Err f) in
          subst P (sym w.result-is) (hears_refused c.args.self.now c.take.new.self c.args.text.now w.in-Err-ServerSent.number c.requires (subst F w.in-Err-ServerSent.field-0-is (subst T c.self.view_is w.in-Err-ServerSent.ensures)))
      | in-Err-Memory w ↦ subst P (sym w.result-is) tt
    ]
