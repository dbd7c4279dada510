use Rattle.std.proofs.Common.{ap, ◌∙◌}
use Rattle.merge_box.specs.Slots.{named, key_in}
use Rattle.merge_box.proofs.Slots.{found_named, some_named}
use Rattle.merge_box.proofs.kept.KeptMap.key.Goals as goal

pub index-requires : goal.index-requires
index-requires c = some_named c.self.inside.slots c.args.slot (key_in c.args.self.now.keys c.args.slot) (ap (λ v. named v.keys c.args.slot) c.self.view_is ∙ c.requires)

pub returns : goal.returns
returns c = found_named c.self.inside.slots c.args.slot c.index.result.now (key_in c.args.self.now.keys c.args.slot) c.index.ensures (ap (λ v. named v.keys c.args.slot) c.self.view_is ∙ c.requires)
