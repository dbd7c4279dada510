use Rattle.std.proofs.Common.{sym, subst}
use Rattle.client_core.specs.State.{Own}
use Rattle.client_script.specs.declared.line.Ask.{Ask}
use Rattle.client_script.specs.declared.line.Ask.TheVariants as ask
use Rattle.console_run.specs.Speaking.{IsAsked}
use Rattle.console_run.proofs.Asking.{asks_sub, asks_unsub}
use Rattle.console_run.proofs.speaking.Speaking.request.Goals as goal

pub returns-in-Sub : goal.returns-in-Sub
returns-in-Sub c =
    let P : Own → Type 0 = λ o. IsAsked o (ask.Sub c.in-Sub.id c.in-Sub.name c.in-Sub.params) c.sub.new.self c.sub.result in
    let Q : Ask → Type 0 = λ a. IsAsked c.args.self.now a c.sub.new.self c.sub.result in
    subst Q (sym c.in-Sub.is) (subst P c.self.view_is (asks_sub c.self.inside.client c.sub.new.self c.in-Sub.id c.in-Sub.name c.in-Sub.params c.sub.result c.sub.ensures))

pub returns-in-Unsub : goal.returns-in-Unsub
returns-in-Unsub c =
    let P : Own → Type 0 = λ o. IsAsked o (ask.Unsub c.in-Unsub.id) c.unsub.new.self c.unsub.result in
    let Q : Ask → Type 0 = λ a. IsAsked c.args.self.now a c.unsub.new.self c.unsub.result in
    subst Q (sym c.in-Unsub.is) (subst P c.self.view_is (asks_unsub c.self.inside.client c.unsub.new.self c.in-Unsub.id c.unsub.result c.unsub.ensures))
