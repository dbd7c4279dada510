-- What a projection leaves of a document is a document again, of no more levels.
use Rattle.std.specs.Prelude.{◌≡◌, ℕ, ◌≤◌, List, ◌∷◌, Bool, true, false, not, Option, Some, None, IfSome, if◌then◌else◌, refl}
use Rattle.std.proofs.Common.{ap, sym, subst, arith}
use Rattle.map_model.specs.Maps.{IsSorted, keyed, filter_map_entries}
use Rattle.map_model.specs.MapLaws.{sorted-filter_map_entries}
use Rattle.value_model.specs.Val.{Val, list, object, Vals, no_vals, val, Fields, no_fields, field, Entries, fields_of, entries_of}
use Rattle.value_model.specs.ValLaws.{fields_of-entries_of, entries_of-fields_of}
use Rattle.value_model.specs.Depth.{depth, vals_depth, fields_depth}
use Rattle.value_model.specs.Order.{text_cmp}
use Rattle.value_model.specs.Valid.{IsValue, AreValues, HaveValues, HasRisingNames, IsDocument}
use Rattle.ddp_messages.specs.Limits.{IsShallow}
use Rattle.app_model.specs.declared.publication.Projection.{Projection}
use Rattle.app_model.specs.declared.publication.Projection.TheVariants as projection
use Rattle.publication.specs.Projected.{APath, rests_below, ends_here, reaches_nothing, whole_if, field_projected, element_before, field_before}
use Rattle.publication.specs.Projected.{value_projected, elements_projected, fields_projected, at_field, projected}

-- what is left of a value is a value of no more levels
abbrev Left : Val → Option Val → Type 0
Left v o = IfSome o (λ w. IsValue w × (depth w ≤ depth v))

whole_left : (whole : Bool) (v : Val) → IsValue v → Left v (whole_if whole v)
whole_left true v h = (h, omega arith)
whole_left false v h = tt

field_left : (including : Bool) (rests : List APath) (v : Val) (inside : Option Val) → IsValue v → Left v inside →
    Left v (field_projected including rests v inside)
field_left including rests v inside h i = by (ends_here rests) (reaches_nothing rests)
  where
    by : (a b : Bool) → Left v (if a then whole_if including v else (if b then whole_if (not including) v else inside))
    by true b = whole_left including v h
    by false true = whole_left (not including) v h
    by false false = i

-- the names that are left are some of those before
each_left : (including : Bool) (paths : List APath) (fs : Fields) →
    entries_of (fields_projected including paths fs) ≡ filter_map_entries (at_field including paths) (entries_of fs)
each_left including paths no_fields = refl
each_left including paths (field name v fs) =
    let rest = each_left including paths fs in
    elim (at_field including paths name v)
    as (λ o. entries_of (field_before name o (fields_projected including paths fs))
    ≡ keyed name o (filter_map_entries (at_field including paths) (entries_of fs)))
    [ None ↦ rest | Some w ↦ ap (λ es. (name, w) ∷ es) rest ]

rising_left : (including : Bool) (paths : List APath) (fs : Fields) → HasRisingNames (entries_of fs) →
    HasRisingNames (entries_of (fields_projected including paths fs))
rising_left including paths fs h =
    subst (IsSorted text_cmp) (sym (each_left including paths fs)) (sorted-filter_map_entries text_cmp (at_field including paths) (entries_of fs) h)

element_left : (v : Val) (o : Option Val) (vs ws : Vals) → Left v o → AreValues ws → vals_depth ws ≤ vals_depth vs →
    AreValues (element_before o ws) × (vals_depth (element_before o ws) ≤ vals_depth (val v vs))
element_left v None vs ws l all less = (all, omega (arith, less))
element_left v (Some w) vs ws l all less = ((l.0, all), omega (arith, l.1, less))

one_left : (name : List ℕ) (v : Val) (o : Option Val) (fs gs : Fields) → Left v o → HaveValues gs → fields_depth gs ≤ fields_depth fs →
    HaveValues (field_before name o gs) × (fields_depth (field_before name o gs) ≤ fields_depth (field name v fs))
one_left name v None fs gs l all less = (all, omega (arith, less))
one_left name v (Some w) fs gs l all less = ((l.0, all), omega (arith, l.1, less))

mutual
  value_left : (including : Bool) (paths : List APath) (v : Val) → IsValue v → Left v (value_projected including paths v)
  value_left including paths (object fs) h = let r = fields_left including paths fs h.1 in ((rising_left including paths fs h.0, r.0), omega (arith, r.1))
  value_left including paths (list vs) h = let r = elements_left including paths vs h in (r.0, omega (arith, r.1))
  value_left including paths v h = whole_left (not including) v h

  elements_left : (including : Bool) (paths : List APath) (vs : Vals) → AreValues vs →
      AreValues (elements_projected including paths vs) × (vals_depth (elements_projected including paths vs) ≤ vals_depth vs)
  elements_left including paths no_vals h = (tt, omega arith)
  elements_left including paths (val v vs) h =
      let rest = elements_left including paths vs h.1 in
      element_left v (value_projected including paths v) vs (elements_projected including paths vs) (value_left including paths v h.0) rest.0 rest.1

  fields_left : (including : Bool) (paths : List APath) (fs : Fields) → HaveValues fs →
      HaveValues (fields_projected including paths fs) × (fields_depth (fields_projected including paths fs) ≤ fields_depth fs)
  fields_left including paths no_fields h = (tt, omega arith)
  fields_left including paths (field name v fs) h =
      let rests = rests_below name paths in
      let here = field_left including rests v (value_projected including rests v) h.0 (value_left including rests v h.0) in
      let rest = fields_left including paths fs h.1 in
      one_left name v (at_field including paths name v) fs (fields_projected including paths fs) here rest.0 rest.1

-- a document of the program, of at most 32 levels
abbrev pub IsKeepable : Entries → Type 0
IsKeepable doc = IsDocument doc × IsShallow (object (fields_of doc))

fields_keepable : (including : Bool) (paths : List APath) (doc : Entries) → IsKeepable doc →
    IsKeepable (entries_of (fields_projected including paths (fields_of doc)))
fields_keepable including paths doc k =
    let left = fields_projected including paths (fields_of doc) in
    let r = fields_left including paths (fields_of doc) k.0.values in
    let rising : HasRisingNames (entries_of left) =
    rising_left including paths (fields_of doc) (subst HasRisingNames (sym (entries_of-fields_of doc)) k.0.names) in (
      record { names = rising; values = subst HaveValues (sym (fields_of-entries_of left)) r.0 },
      subst (λ fs. IsShallow (object fs)) (sym (fields_of-entries_of left)) (omega (arith, r.1, k.1)),
    )

pub projected_keepable : (p : Projection) (doc : Entries) → IsKeepable doc → IsKeepable (entries_of (projected p (fields_of doc)))
projected_keepable projection.All doc k = subst IsKeepable (sym (entries_of-fields_of doc)) k
projected_keepable (projection.Only paths) doc k = fields_keepable true paths doc k
projected_keepable (projection.Without paths) doc k = fields_keepable false paths doc k
