use Rattle.lane_model.specs.AccountLaws.{true_new, true_longer, true_handled, true_free, true_freed, true_refused, true_begins, true_marks}
use Rattle.lane_model.proofs.accounts_stay_true.Goals as goal

pub returns : goal.returns
returns c = record {
  new = true_new;
  longer = true_longer;
  handled = true_handled;
  free = true_free;
  freed = true_freed;
  refused = true_refused;
  begins = true_begins;
  marks = true_marks;
}
