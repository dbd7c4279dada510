use Rattle.std.proofs.Common.{ℕ, List, Option, Some, ap, ◌∙◌}
use Rattle.revived_client.specs.declared.last.Last.{Last}
use Rattle.revived_client.proofs.Catching.{sent_text, sent_quiet}
use Rattle.revived_client.proofs.last.keep.Goals as goal

pub returns-clause-client : goal.returns-clause-client
returns-clause-client c = sent_quiet c.args.client.now c.next_out-unsaid.new.self c.args.text c.next_out-unsaid.result c.requires c.next_out-unsaid.ensures

pub returns-clause-last : goal.returns-clause-last
returns-clause-last c =
    let f : Option (List ℕ) → Option Last = λ u. Some (record { text = c.args.text; unsaid = u }) in
    c.replace.ensures.after ∙ ap f (sent_text c.args.client.now c.next_out-unsaid.new.self c.args.text c.next_out-unsaid.result c.requires c.next_out-unsaid.ensures)
