use Rattle.std.proofs.Common.{ap, sym, ◌∙◌}
use Rattle.std.specs.List.{list_all}
use Rattle.history_log.specs.Entries.{is_shallow}
use Rattle.history_log.proofs.ReadBack.{operation_back}
use Rattle.history_log.proofs.kept_entry.may_tell_operation.Goals as goal

pub returns : goal.returns
returns c told = operation_back c.args.op.now c.known.ensures (ap (λ vs. list_all (λ v. is_shallow v) vs) (sym c.as_slice.ensures) ∙ sym c.are_shallow.ensures ∙ told)
