use Rattle.std.proofs.Common.{sym, subst}
use Rattle.client_script.specs.declared.line.Ask.{Ask}
use Rattle.revived_client.specs.Asking.{Asks}
use Rattle.revived_client.proofs.speaking.request.Goals as goal

pub returns-in-Sub : goal.returns-in-Sub
returns-in-Sub c = let Q : Ask → Type 0 = λ a. Asks a c.args.client.now c.sub.new.self c.sub.result in subst Q (sym c.in-Sub.is) c.sub.ensures

pub returns-in-Unsub : goal.returns-in-Unsub
returns-in-Unsub c = let Q : Ask → Type 0 = λ a. Asks a c.args.client.now c.unsub.new.self c.unsub.result in subst Q (sym c.in-Unsub.is) c.unsub.ensures
