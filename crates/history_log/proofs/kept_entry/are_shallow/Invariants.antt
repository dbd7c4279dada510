use Rattle.std.proofs.Common.{◌≡◌, drop}
use Rattle.std.specs.List.{list_all}
use Rattle.ejson_value.specs.View.{views}
use Rattle.history_log.specs.Entries.{is_shallow}
use Rattle.history_log.proofs.kept_entry.are_shallow.Given as goal

abbrev pub invariant-loop-value : goal.invariant-loop-value
invariant-loop-value l = list_all (λ v. is_shallow v) (views (drop l.value-index l.values)) ≡ list_all (λ v. is_shallow v) (views l.values)
