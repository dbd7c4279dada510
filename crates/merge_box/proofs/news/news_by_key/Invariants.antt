use Rattle.std.proofs.Common.{◌≡◌, ◌++◌, Option, List}
use Rattle.value_model.specs.Val.{Entries}
use Rattle.ejson_value.specs.declared.key.Key.{Key}
use Rattle.ejson_value.specs.Changes.{news_of}
use Rattle.merge_box.proofs.news.news_by_key.Given as goal

abbrev pub invariant-loop-key : goal.invariant-loop-key
invariant-loop-key l = record {
  can_next : goal.iterator-loop-key.can_next l.key-iterator;
  is_finite : goal.iterator-loop-key.is_finite l.key-iterator;
  done : List (Key × Option Entries);
  whole : l.initial.key-iterator ≡ done ++ l.key-iterator;
  made : news_of l.news ≡ done;
}
