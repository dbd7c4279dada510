-- What contracts see of a modifier's parts.
use Rattle.std.specs.Prelude.{List, map}
use Rattle.ejson_value.specs.View.{view}
use Rattle.modifier_apply.specs.Change.{Edit, put_value, take_out, add, keep_least, keep_greatest, append_all, add_missing, drop_equal, drop_passing}
use Rattle.modifier_apply.specs.Change.{drop_last, drop_first, Change, Modification, replaced_by, changed_by}
use Rattle.modifier_apply.specs.declared.modifier.Operator.{Operator}
use Rattle.modifier_apply.specs.declared.modifier.Operator.TheVariants as operator
use Rattle.modifier_apply.specs.declared.modifier.Update.{Update}
use Rattle.modifier_apply.specs.declared.modifier.ModifierKind.{ModifierKind}
use Rattle.modifier_apply.specs.declared.modifier.ModifierKind.TheVariants as kind

abbrev pub edit_view : Operator → Edit
edit_view (operator.Set v) = put_value (view v)
edit_view operator.Unset = take_out
edit_view (operator.Increment n) = add n
edit_view (operator.Min v) = keep_least (view v)
edit_view (operator.Max v) = keep_greatest (view v)
edit_view (operator.Push vs) = append_all vs
edit_view (operator.AddToSet vs) = add_missing vs
edit_view (operator.PullEqual v) = drop_equal (view v)
edit_view (operator.PullPassing t) = drop_passing t
edit_view operator.PopLast = drop_last
edit_view operator.PopFirst = drop_first

abbrev pub change_view : Update → Change
change_view u = record { path = u.path; edit = edit_view u.operator }

abbrev pub changes_view : List Update → List Change
changes_view us = map change_view us

abbrev pub kind_view : ModifierKind → Modification
kind_view (kind.Replacement fields) = replaced_by fields
kind_view (kind.Updates us) = changed_by (changes_view us.items)
