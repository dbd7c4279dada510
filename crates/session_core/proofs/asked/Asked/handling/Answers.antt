use Rattle.std.proofs.Common.{sym, subst}
use Rattle.ddp_messages.specs.ClientMessage.{client_view}
use Rattle.session_core.specs.Asked.{Adds, item_in}
use Rattle.std.specs.Prelude.{IfOk}
use Rattle.ddp_messages.specs.declared.from_client.FromClient.{FromClient}
use Rattle.session_core.proofs.asked.Asked.handling.Goals as goal

pub returns-in-Sub : goal.returns-in-Sub
returns-in-Sub c = subst (λ (m : FromClient). IfOk c.sub.result (λ a. Adds c.args.self.now (item_in c.args.self.now (client_view m)) a)) (sym c.in-Sub.is) c.sub.ensures

pub returns-in-Method : goal.returns-in-Method
returns-in-Method c = subst (λ (m : FromClient). IfOk c.method.result (λ a. Adds c.args.self.now (item_in c.args.self.now (client_view m)) a)) (sym c.in-Method.is) c.method.ensures
