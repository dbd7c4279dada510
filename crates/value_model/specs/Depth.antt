-- How deep lists, objects and values of user types stand in one another.
use Rattle.std.specs.Prelude.{ℕ, suc, max}
use Rattle.value_model.specs.Val.{Val, null, boolean, int, text, date, bytes, list, object, user, Vals, no_vals, val, Fields, no_fields, field}

-- One more than the greatest depth of what stands inside, 1 where nothing does; what holds no other value has depth 0.
abbrev mutual
  pub depth : Val → ℕ
  depth null = 0
  depth (boolean b) = 0
  depth (int z) = 0
  depth (text s) = 0
  depth (date z) = 0
  depth (bytes s) = 0
  depth (list vs) = suc (vals_depth vs)
  depth (object fs) = suc (fields_depth fs)
  depth (user name v) = suc (depth v)

  -- the greatest depth of the elements
  pub vals_depth : Vals → ℕ
  vals_depth no_vals = 0
  vals_depth (val v vs) = max (depth v) (vals_depth vs)

  -- the greatest depth of the fields' values
  pub fields_depth : Fields → ℕ
  fields_depth no_fields = 0
  fields_depth (field name v fs) = max (depth v) (fields_depth fs)
