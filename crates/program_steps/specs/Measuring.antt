-- How deep a filled template is and how many bytes its text has, from the template and the extents of what is filled in.
use Rattle.std.specs.Prelude.{ℕ, suc, ◌+◌, max, Bool, List, Option, None, Some, ok_or, Ok, nat_lt, if◌then◌else◌}
use Rattle.value_model.specs.Val.{Val, list, object, Vals, no_vals, val, Fields, no_fields, field}
use Rattle.value_model.specs.Depth.{depth}
use Rattle.value_model.specs.Size.{size, text_size, is_special, names_of, escape_wrapper}
use Rattle.ejson_value.specs.Measure.{capped}
use Rattle.ejson_value.specs.Results.{made, with_both}
use Rattle.program_steps.specs.declared.fault.FillFault.{FillFault}
use Rattle.program_steps.specs.declared.fault.FillFault.TheVariants as fault
use Rattle.program_steps.specs.declared.measuring.Extent.{Extent}
use Rattle.program_steps.specs.declared.template.Placeholder.{Placeholder}
use Rattle.program_steps.specs.declared.template.Placeholder.TheVariants as placeholder
use Rattle.program_steps.specs.Template.{Filling, nth, placeholder_in, max_depth, max_size}

abbrev pub extent_by : ℕ → ℕ → Extent
extent_by depth size = record { depth = capped depth; size = capped size }

abbrev pub extent_of : Val → Extent
extent_of v = extent_by (depth v) (size v)

abbrev pub no_extent : Extent
no_extent = extent_by 0 0

abbrev pub list_extent : Extent → Extent
list_extent inside = extent_by (suc inside.depth) (max 2 (1 + inside.size))

abbrev pub object_extent : Bool → Extent → Extent
object_extent special inside = extent_by (suc inside.depth) ((if special then escape_wrapper else 0) + max 2 (1 + inside.size))

abbrev pub item_before : Extent → Extent → Extent
item_before item rest = extent_by (max item.depth rest.depth) (1 + item.size + rest.size)

abbrev pub field_before : List ℕ → Extent → Extent → Extent
field_before name value rest = extent_by (max value.depth rest.depth) (2 + text_size name + value.size + rest.size)

-- elements so far, and one more behind them
abbrev pub item_behind : Extent → Extent → Extent
item_behind so_far item = extent_by (max so_far.depth item.depth) (so_far.size + 1 + item.size)

-- fields so far, and one more behind them, whose name has an extent too
abbrev pub field_behind : Extent → Extent → Extent → Extent
field_behind so_far name value = extent_by (max so_far.depth value.depth) (so_far.size + 2 + name.size + value.size)

-- the extent of what stands for an object
abbrev pub placed : List Extent → List Extent → Option Placeholder → Filling Extent → Filling Extent
placed params ids None inside = inside
placed params ids (Some (placeholder.Parameter z)) inside = ok_or (nth params z) fault.NoParam
placed params ids (Some (placeholder.MadeId z)) inside = ok_or (nth ids z) fault.NoParam

abbrev mutual
  pub measuring : List Extent → List Extent → Val → Filling Extent
  measuring params ids (list vs) = made list_extent (items_measuring params ids vs)
  measuring params ids (object fs) = placed params ids (placeholder_in fs) (made (object_extent (is_special (names_of fs))) (fields_measuring params ids fs))
  measuring params ids v = Ok (extent_of v)

  pub items_measuring : List Extent → List Extent → Vals → Filling Extent
  items_measuring params ids no_vals = Ok no_extent
  items_measuring params ids (val v vs) = with_both item_before (measuring params ids v) (items_measuring params ids vs)

  pub fields_measuring : List Extent → List Extent → Fields → Filling Extent
  fields_measuring params ids no_fields = Ok no_extent
  fields_measuring params ids (field name v fs) = with_both (field_before name) (measuring params ids v) (fields_measuring params ids fs)

-- which limit is passed
abbrev pub past_limits : Extent → Option FillFault
past_limits e = if nat_lt max_depth e.depth then Some fault.TooDeep else (if nat_lt max_size e.size then Some fault.TooLarge else None)
