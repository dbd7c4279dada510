-- Laws of extents: those of a filled template are what is measured, and a loop's walk over parts from the front measures what the definition does from the back.
use Rattle.std.specs.Prelude.{nat_lt, if◌then◌else◌, ok_or, option_map, max, map, ℤ, pos, negsuc}
use Rattle.std.proofs.Common.{◌≡◌, ℕ, suc, ◌+◌, ◌<◌, ◌^◌, true, false, List, ◌∷◌, Option, None, Some, Ok, Err, refl, ap, sym, ◌∙◌, arith, lit<}
use Rattle.std.proofs.lemmas.Option.{slice_get-map}
use Rattle.std.proofs.lemmas.Bool.Decides.{nat_tests}
use Rattle.value_model.specs.Val.{Val, text, list, object, Vals, no_vals, val, Fields, no_fields, field}
use Rattle.value_model.specs.Depth.{depth, vals_depth, fields_depth}
use Rattle.value_model.specs.Size.{size, vals_size, fields_size, text_size, is_special, names_of, escape_wrapper}
use Rattle.ejson_value.specs.View.{view}
use Rattle.ejson_value.specs.Measure.{capped}
use Rattle.ejson_value.specs.Results.{made, with_both}
use Rattle.program_steps.specs.declared.fault.FillFault.{FillFault}
use Rattle.program_steps.specs.declared.fault.FillFault.TheVariants as fault
use Rattle.program_steps.specs.declared.measuring.Extent.{Extent}
use Rattle.program_steps.specs.declared.template.Placeholder.{Placeholder}
use Rattle.program_steps.specs.declared.template.Placeholder.TheVariants as placeholder
use Rattle.program_steps.specs.Template.{Filling, nth, in_place, placeholder_in, filling, items_filling, fields_filling, within_limits, limited, max_depth, max_size, Gives}
use Rattle.program_steps.specs.Measuring.{extent_by, extent_of, no_extent, list_extent, object_extent, item_before, field_before, item_behind, field_behind, placed, measuring, items_measuring, fields_measuring, past_limits}

abbrev extent : ℕ → ℕ → Extent
extent d s = record { depth = d; size = s }

same_extent : (d s d' s' : ℕ) → d ≡ d' → s ≡ s' → extent d s ≡ extent d' s'
same_extent d s d' s' e f = ap (λ x. extent x s) e ∙ ap (λ x. extent d' x) f

-- the extents of elements, and of fields
abbrev pub items_extent : Vals → Extent
items_extent vs = extent_by (vals_depth vs) (vals_size vs)

abbrev pub fields_extent : Fields → Extent
fields_extent fs = extent_by (fields_depth fs) (fields_size fs)

extent_of-list : (vs : Vals) → list_extent (items_extent vs) ≡ extent_of (list vs)
extent_of-list vs = same_extent _ _ _ _ (omega arith) (omega arith)

extent_of-object : (fs : Fields) → object_extent (is_special (names_of fs)) (fields_extent fs) ≡ extent_of (object fs)
extent_of-object fs = elim (is_special (names_of fs)) as (λ b. object_extent b (fields_extent fs) ≡ extent_by (suc (fields_depth fs)) ((if b then escape_wrapper else 0) + max 2 (1 + fields_size fs))) [
  | true ↦ same_extent _ _ _ _ (omega arith) (omega arith)
  | false ↦ same_extent _ _ _ _ (omega arith) (omega arith)
]

items_extent-val : (v : Val) (vs : Vals) → item_before (extent_of v) (items_extent vs) ≡ items_extent (val v vs)
items_extent-val v vs = same_extent _ _ _ _ (omega arith) (omega arith)

fields_extent-field : (name : List ℕ) (v : Val) (fs : Fields) → field_before name (extent_of v) (fields_extent fs) ≡ fields_extent (field name v fs)
fields_extent-field name v fs = same_extent _ _ _ _ (omega arith) (omega arith)

made-made : {A B C : Type 0} (f : B → C) (g : A → B) (h : A → C) (r : Filling A) → ((a : A) → f (g a) ≡ h a) → made f (made g r) ≡ made h r
made-made f g h (Ok a) is = ap (λ x. Ok x) (is a)
made-made f g h (Err e) is = refl

both-made : {A B C X Y Z : Type 0} (f : X → Y → Z) (g : A → B → C) (p : A → X) (q : B → Y) (r : C → Z) (a : Filling A) (b : Filling B) → ((x : A) (y : B) → f (p x) (q y) ≡ r (g x y)) →
    with_both f (made p a) (made q b) ≡ made r (with_both g a b)
both-made f g p q r (Err e) b is = refl
both-made f g p q r (Ok x) (Err e) is = refl
both-made f g p q r (Ok x) (Ok y) is = ap (λ z. Ok z) (is x y)

nth-map : {A B : Type 0} (f : A → B) (xs : List A) (z : ℤ) → nth (map f xs) z ≡ option_map f (nth xs z)
nth-map f xs (pos n) = slice_get-map f xs n
nth-map f xs (negsuc n) = refl

or_no_param : {A B : Type 0} (f : A → B) (o : Option A) → ok_or (option_map f o) fault.NoParam ≡ made f (ok_or o fault.NoParam)
or_no_param f None = refl
or_no_param f (Some a) = refl

option_map-twice : {A B C : Type 0} (f : B → C) (g : A → B) (o : Option A) → option_map (λ a. f (g a)) o ≡ option_map f (option_map g o)
option_map-twice f g None = refl
option_map-twice f g (Some a) = refl

abbrev of_ids : List (List ℕ) → List Extent
of_ids ids = map (λ id. extent_of (text id)) ids

placed-is : (params : List Val) (ids : List (List ℕ)) (p : Option Placeholder) (inside : Filling Extent) (filled : Filling Val) → inside ≡ made extent_of filled →
    placed (map extent_of params) (of_ids ids) p inside ≡ made extent_of (in_place params ids p filled)
placed-is params ids None inside filled is = is
placed-is params ids (Some (placeholder.Parameter z)) inside filled is = ap (λ o. ok_or o fault.NoParam) (nth-map extent_of params z) ∙ or_no_param extent_of (nth params z)
placed-is params ids (Some (placeholder.MadeId z)) inside filled is =
    ap (λ o. ok_or o fault.NoParam) (nth-map (λ id. extent_of (text id)) ids z ∙ option_map-twice extent_of text (nth ids z)) ∙ or_no_param extent_of (option_map text (nth ids z))

-- a filled object has the names of its template
named_alike : (params : List Val) (ids : List (List ℕ)) (fs : Fields) (name : List ℕ) (a : Filling Val) (b : Filling Fields) (ws : Fields) →
    with_both (λ w ws. field name w ws) a b ≡ Ok ws → ((rest : Fields) → b ≡ Ok rest → names_of rest ≡ names_of fs) → names_of ws ≡ name ∷ names_of fs
named_alike params ids fs name (Err e) b ws is more = cc
named_alike params ids fs name (Ok w) (Err e) ws is more = cc
named_alike params ids fs name (Ok w) (Ok rest) ws is more =
    let same : field name w rest ≡ ws = cc in
    ap names_of (sym same) ∙ ap (λ ns. name ∷ ns) (more rest refl)

names_of-filling : (params : List Val) (ids : List (List ℕ)) (fs ws : Fields) → fields_filling params ids fs ≡ Ok ws → names_of ws ≡ names_of fs
names_of-filling params ids no_fields ws is = let same : no_fields ≡ ws = cc in ap names_of (sym same)
names_of-filling params ids (field name v fs) ws is =
    named_alike params ids fs name (filling params ids v) (fields_filling params ids fs) ws is (λ rest e. names_of-filling params ids fs rest e)

object-is : (params : List Val) (ids : List (List ℕ)) (fs : Fields) (r : Filling Fields) → fields_filling params ids fs ≡ r →
    made (object_extent (is_special (names_of fs))) (made fields_extent r) ≡ made extent_of (made object r)
object-is params ids fs (Err e) is = refl
object-is params ids fs (Ok ws) is =
    ap (λ x. Ok x) (ap (λ ns. object_extent (is_special ns) (fields_extent ws)) (sym (names_of-filling params ids fs ws is)) ∙ extent_of-object ws)

mutual
  pub measured : (params : List Val) (ids : List (List ℕ)) (v : Val) → measuring (map extent_of params) (of_ids ids) v ≡ made extent_of (filling params ids v)
  measured params ids (list vs) =
      ap (λ r. made list_extent r) (items_measured params ids vs)
      ∙ (made-made list_extent items_extent (λ ws. extent_of (list ws)) (items_filling params ids vs) extent_of-list
      ∙ sym (made-made extent_of list (λ ws. extent_of (list ws)) (items_filling params ids vs) (λ ws. refl)))
  measured params ids (object fs) =
      placed-is params ids (placeholder_in fs) _ (made object (fields_filling params ids fs))
      (ap (λ r. made (object_extent (is_special (names_of fs))) r) (fields_measured params ids fs) ∙ object-is params ids fs (fields_filling params ids fs) refl)
  measured params ids v = refl

  items_measured : (params : List Val) (ids : List (List ℕ)) (vs : Vals) → items_measuring (map extent_of params) (of_ids ids) vs ≡ made items_extent (items_filling params ids vs)
  items_measured params ids no_vals = refl
  items_measured params ids (val v vs) =
      ap (λ r. with_both item_before r (items_measuring (map extent_of params) (of_ids ids) vs)) (measured params ids v)
      ∙ (ap (λ r. with_both item_before (made extent_of (filling params ids v)) r) (items_measured params ids vs)
      ∙ both-made item_before val extent_of items_extent items_extent (filling params ids v) (items_filling params ids vs) items_extent-val)

  fields_measured : (params : List Val) (ids : List (List ℕ)) (fs : Fields) → fields_measuring (map extent_of params) (of_ids ids) fs ≡ made fields_extent (fields_filling params ids fs)
  fields_measured params ids no_fields = refl
  fields_measured params ids (field name v fs) =
      ap (λ r. with_both (field_before name) r (fields_measuring (map extent_of params) (of_ids ids) fs)) (measured params ids v)
      ∙ (ap (λ r. with_both (field_before name) (made extent_of (filling params ids v)) r) (fields_measured params ids fs)
      ∙ both-made (field_before name) (λ w ws. field name w ws) extent_of fields_extent fields_extent (filling params ids v) (fields_filling params ids fs) (fields_extent-field name))

-- parts so far, and more behind them
abbrev pub behind : Extent → Extent → Extent
behind so_far rest = extent_by (max so_far.depth rest.depth) (so_far.size + rest.size)

behind_item : (so_far item rest : Extent) → behind so_far (item_before item rest) ≡ behind (item_behind so_far item) rest
behind_item so_far item rest = same_extent _ _ _ _ (omega arith) (omega arith)

pub item_more : (so_far item : Extent) (c r : Filling Extent) → c ≡ Ok item → made (behind so_far) (with_both item_before c r) ≡ made (behind (item_behind so_far item)) r
item_more so_far item c (Ok rest) is = ap (λ o. made (behind so_far) (with_both item_before o (Ok rest))) is ∙ ap (λ e. Ok e) (behind_item so_far item rest)
item_more so_far item c (Err e) is = ap (λ o. made (behind so_far) (with_both item_before o (Err e))) is

behind_field : (so_far value rest : Extent) (name : List ℕ) → behind so_far (field_before name value rest) ≡ behind (field_behind so_far (extent_of (text name)) value) rest
behind_field so_far value rest name = same_extent _ _ _ _ (omega arith) (omega arith)

pub field_more : (so_far value : Extent) (name : List ℕ) (c r : Filling Extent) → c ≡ Ok value →
    made (behind so_far) (with_both (field_before name) c r) ≡ made (behind (field_behind so_far (extent_of (text name)) value)) r
field_more so_far value name c (Ok rest) is = ap (λ o. made (behind so_far) (with_both (field_before name) o (Ok rest))) is ∙ ap (λ e. Ok e) (behind_field so_far value rest name)
field_more so_far value name c (Err e) is = ap (λ o. made (behind so_far) (with_both (field_before name) o (Err e))) is

none_behind : (d s : ℕ) → behind no_extent (extent_by d s) ≡ extent_by d s
none_behind d s = same_extent _ _ _ _ (omega arith) (omega arith)

item_first : (a b : Filling Extent) → made (behind no_extent) (with_both item_before a b) ≡ with_both item_before a b
item_first (Err e) b = refl
item_first (Ok x) (Err e) = refl
item_first (Ok x) (Ok y) = ap (λ e. Ok e) (none_behind (max x.depth y.depth) (1 + x.size + y.size))

field_first : (name : List ℕ) (a b : Filling Extent) → made (behind no_extent) (with_both (field_before name) a b) ≡ with_both (field_before name) a b
field_first name (Err e) b = refl
field_first name (Ok x) (Err e) = refl
field_first name (Ok x) (Ok y) = ap (λ e. Ok e) (none_behind (max x.depth y.depth) (2 + text_size name + x.size + y.size))

pub items_first : (params ids : List Extent) (vs : Vals) → made (behind no_extent) (items_measuring params ids vs) ≡ items_measuring params ids vs
items_first params ids no_vals = refl
items_first params ids (val v vs) = item_first (measuring params ids v) (items_measuring params ids vs)

pub fields_first : (params ids : List Extent) (fs : Fields) → made (behind no_extent) (fields_measuring params ids fs) ≡ fields_measuring params ids fs
fields_first params ids no_fields = refl
fields_first params ids (field name v fs) = field_first name (measuring params ids v) (fields_measuring params ids fs)

pub all_behind : (so_far : Extent) → so_far.depth < 2 ^ 64 → so_far.size < 2 ^ 64 → behind so_far no_extent ≡ so_far
all_behind so_far d s = same_extent _ _ _ _ (omega arith) (omega arith)

-- the limits of an extent are those of the value
limit-capped : (n d : ℕ) → n < 2 ^ 32 → nat_lt n (capped d) ≡ nat_lt n d
limit-capped n d h = grind (arith, nat_tests)

limits-extent_of : (v : Val) → past_limits (extent_of v) ≡ (if nat_lt max_depth (depth v) then Some fault.TooDeep else (if nat_lt max_size (size v) then Some fault.TooLarge else None))
limits-extent_of v =
    ap (λ b. if b then Some fault.TooDeep else (if nat_lt max_size (capped (size v)) then Some fault.TooLarge else None)) (limit-capped max_depth (depth v) (lit< tt))
    ∙ ap (λ b. if nat_lt max_depth (depth v) then Some fault.TooDeep else (if b then Some fault.TooLarge else None)) (limit-capped max_size (size v) (lit< tt))

abbrev or_ok : Option FillFault → Val → Filling Val
or_ok None v = Ok v
or_ok (Some e) v = Err e

within : (v : Val) → within_limits v ≡ or_ok (past_limits (extent_of v)) v
within v =
    elim (nat_lt max_depth (depth v)) as (λ b. (if b then Err fault.TooDeep else (if nat_lt max_size (size v) then Err fault.TooLarge else Ok v)) ≡ or_ok (if b then Some fault.TooDeep else (if nat_lt max_size (size v) then Some fault.TooLarge else None)) v) [
      | true ↦ refl
      | false ↦ elim (nat_lt max_size (size v)) as (λ b. (if b then Err fault.TooLarge else Ok v) ≡ or_ok (if b then Some fault.TooLarge else None) v) [ true ↦ refl | false ↦ refl ]
    ]
    ∙ ap (λ o. or_ok o v) (sym (limits-extent_of v))

-- what is not measured is not filled
pub limited-fault : (r : Filling Val) (e : FillFault) → made extent_of r ≡ Err e → limited r ≡ Err e
limited-fault (Ok v) e is = cc
limited-fault (Err x) e is = let same : x ≡ e = cc in ap (λ y. Err y) same

-- what passes a limit is refused
pub limited-past : (r : Filling Val) (x : Extent) (e : FillFault) → made extent_of r ≡ Ok x → past_limits x ≡ Some e → limited r ≡ Err e
limited-past (Ok v) x e is past = let same : extent_of v ≡ x = cc in within v ∙ ap (λ o. or_ok o v) (ap past_limits same ∙ past)
limited-past (Err y) x e is past = cc

-- and nothing else is
pub limited-within : (r : Filling Val) (x : Extent) → made extent_of r ≡ Ok x → past_limits x ≡ None → limited r ≡ r
limited-within (Ok v) x is past = let same : extent_of v ≡ x = cc in within v ∙ ap (λ o. or_ok o v) (ap past_limits same ∙ past)
limited-within (Err y) x is past = refl

-- what the measuring answers, the filling answers
pub fault-given : (e : FillFault) (r : Filling Val) → Gives (λ (x : Extent). x) (Err e) (made extent_of r) → Gives view (Err e) (limited r)
fault-given fault.Memory r h = tt
fault-given fault.NoParam r h = limited-fault r fault.NoParam h
fault-given fault.TooDeep r h = limited-fault r fault.TooDeep h
fault-given fault.TooLarge r h = limited-fault r fault.TooLarge h

pub past-given : (e : FillFault) (r : Filling Val) (x : Extent) → made extent_of r ≡ Ok x → past_limits x ≡ Some e → Gives view (Err e) (limited r)
past-given fault.Memory r x is past = tt
past-given fault.NoParam r x is past = limited-past r x fault.NoParam is past
past-given fault.TooDeep r x is past = limited-past r x fault.TooDeep is past
past-given fault.TooLarge r x is past = limited-past r x fault.TooLarge is past
