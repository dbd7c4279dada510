use Rattle.std.proofs.Common.{OnOk, subst}
use Rattle.drive_script.specs.Scripts.{Scripted}
use Rattle.drive_script.specs.Growing.{IsWith}
use Rattle.drive_script.proofs.Grown.{adds_operation, adds_act}
use Rattle.drive_script.proofs.script.Script.add.Goals as goal

pub returns-in-Admin : goal.returns-in-Admin
returns-in-Admin c =
    let inside = c.self.inside in
    let P : Scripted → Type 0 = λ s. OnOk c.push.result (IsWith s c.args.line (record { admins = c.push.new.self; clients = inside.clients.entries })) in
    subst P c.self.view_is (adds_operation c.push.result inside.operations c.push.new.self inside.clients.entries c.args.line c.in-Admin.op c.in-Admin.is c.push.ensures.ok)

pub returns-in-Act : goal.returns-in-Act
returns-in-Act c =
    let inside = c.self.inside in
    let P : Scripted → Type 0 = λ s. OnOk c.act.result (IsWith s c.args.line (record { admins = inside.operations; clients = c.act.new.clients.entries })) in
    subst P c.self.view_is (adds_act c.act.result inside.operations inside.clients.entries c.act.new.clients.entries c.args.line c.in-Act.client c.in-Act.line c.in-Act.is c.act.ensures.acts)
