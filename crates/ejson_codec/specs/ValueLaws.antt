-- What a tree with rising keys reads as is a value of the program.
use Rattle.std.specs.Prelude.{◌≡◌, ℕ, ℤ, List, ◌∷◌}
use Rattle.std.proofs.Common.{ap, sym, subst, ◌∙◌}
use Rattle.std.specs.List.Sorted.{IsStrictlySortedBy}
use Rattle.std.specs.Map.{keys_of}
use Rattle.serde_json.specs.Data.{Num, unsigned, negative, float, Data, Items, no_items, item, Members, no_members, member}
use Rattle.serde_json.specs.Data as tree
use Rattle.value_model.specs.Val.{Val, object, vals_of, Entries, fields_of}
use Rattle.value_model.specs.ValLaws.{entries_of-fields_of}
use Rattle.value_model.specs.Order.{text_cmp}
use Rattle.value_model.specs.Valid.{IsWhole, IsUserName, IsValue, AreValues, HaveValues, HasRisingNames}
use Rattle.ejson_codec.specs.Shape.{keys_of_members, shape_of, first_of}
use Rattle.ejson_codec.specs.declared.shape.Shape.{Shape}
use Rattle.ejson_codec.specs.declared.shape.Shape.TheVariants.{Plain, Date, Binary, Escape, User, Unsupported}
use Rattle.ejson_codec.specs.Trees.{HasRisingKeys, ItemsHaveRisingKeys, MembersHaveRisingKeys}
use Rattle.ejson_codec.specs.Reads.{IsAccepted, IsDate, IsBinary, IsNamed, ByShape, Reads, ItemsRead, MembersRead, EscapeReads, UserReads}

accepted_whole : (n : Num) (z : ℤ) → IsAccepted n z → IsWhole z
accepted_whole (unsigned n) z h = h.1
accepted_whole (negative y) z h = h.1
accepted_whole (float x) z h = absurd h

date_valid : (d : Data) (v : Val) → IsDate d v → IsValue v
date_valid (tree.number n) v h = subst IsValue (sym h.2) (accepted_whole n h.0 h.1)
date_valid tree.null v h = absurd h
date_valid (tree.boolean b) v h = absurd h
date_valid (tree.string s) v h = absurd h
date_valid (tree.array ds) v h = absurd h
date_valid (tree.object ms) v h = absurd h

binary_valid : (d : Data) (v : Val) → IsBinary d v → IsValue v
binary_valid (tree.string s) v h = subst IsValue (sym h.3) h.2
binary_valid tree.null v h = absurd h
binary_valid (tree.boolean b) v h = absurd h
binary_valid (tree.number n) v h = absurd h
binary_valid (tree.array ds) v h = absurd h
binary_valid (tree.object ms) v h = absurd h

named_valid : (d : Data) (name : List ℕ) → IsNamed d name → IsUserName name
named_valid (tree.string s) name h = h.1
named_valid tree.null name h = absurd h
named_valid (tree.boolean b) name h = absurd h
named_valid (tree.number n) name h = absurd h
named_valid (tree.array ds) name h = absurd h
named_valid (tree.object ms) name h = absurd h

by_shape : (shape : Shape) (P Q R S T X : Type 0) → (P → X) → (Q → X) → (R → X) → (S → X) → (T → X) → ByShape shape P Q R S T → X
by_shape Plain P Q R S T X p q r s t h = p h
by_shape Date P Q R S T X p q r s t h = q h
by_shape Binary P Q R S T X p q r s t h = r h
by_shape Escape P Q R S T X p q r s t h = s h
by_shape User P Q R S T X p q r s t h = t h
by_shape Unsupported P Q R S T X p q r s t h = absurd h

members_keys : (ms : Members) (es : Entries) → MembersRead ms es → keys_of_members ms ≡ keys_of es
members_keys no_members es h = sym (ap keys_of h)
members_keys (member key d ms) es h = ap (λ ks. key ∷ ks) (members_keys ms h.1 h.3) ∙ sym (ap keys_of h.4)

object_valid : (ms : Members) (es : Entries) → MembersRead ms es → IsStrictlySortedBy text_cmp (keys_of_members ms) → HaveValues (fields_of es) →
    IsValue (object (fields_of es))
object_valid ms es h sorted values =
    (subst HasRisingNames (sym (entries_of-fields_of es)) (subst (IsStrictlySortedBy text_cmp) (members_keys ms es h) sorted), values)

mutual
  pub reads_valid : (d : Data) (v : Val) → Reads d v → HasRisingKeys d → IsValue v
  reads_valid tree.null v h k = subst IsValue (sym h) tt
  reads_valid (tree.boolean b) v h k = subst IsValue (sym h) tt
  reads_valid (tree.number n) v h k = subst IsValue (sym h.2) (accepted_whole n h.0 h.1)
  reads_valid (tree.string s) v h k = subst IsValue (sym h) tt
  reads_valid (tree.array ds) v h k = subst IsValue (sym h.2) (items_valid ds h.0 h.1 k)
  reads_valid (tree.object ms) v h k =
      by_shape (shape_of (keys_of_members ms)) ((es : Entries) × MembersRead ms es × (v ≡ object (fields_of es))) (IsDate (first_of ms) v)
      (IsBinary (first_of ms) v) (EscapeReads ms v) (UserReads ms v) (IsValue v)
      (λ p. subst IsValue (sym p.2) (object_valid ms p.0 p.1 k.0 (fields_valid ms p.0 p.1 k.1)))
      (date_valid (first_of ms) v)
      (binary_valid (first_of ms) v)
      (λ p. escape_valid ms v p k.1)
      (λ p. user_valid ms v p k.1)
      h

  items_valid : (ds : Items) (vs : List Val) → ItemsRead ds vs → ItemsHaveRisingKeys ds → AreValues (vals_of vs)
  items_valid no_items vs h k = subst (λ xs. AreValues (vals_of xs)) (sym h) tt
  items_valid (item d ds) vs h k = subst (λ xs. AreValues (vals_of xs)) (sym h.4) (reads_valid d h.0 h.2 k.0, items_valid ds h.1 h.3 k.1)

  fields_valid : (ms : Members) (es : Entries) → MembersRead ms es → MembersHaveRisingKeys ms → HaveValues (fields_of es)
  fields_valid no_members es h k = subst (λ xs. HaveValues (fields_of xs)) (sym h) tt
  fields_valid (member key d ms) es h k = subst (λ xs. HaveValues (fields_of xs)) (sym h.4) (reads_valid d h.0 h.2 k.0, fields_valid ms h.1 h.3 k.1)

  escape_valid : (ms : Members) (v : Val) → EscapeReads ms v → MembersHaveRisingKeys ms → IsValue v
  escape_valid no_members v h k = absurd h
  escape_valid (member key tree.null ms) v h k = absurd h
  escape_valid (member key (tree.boolean b) ms) v h k = absurd h
  escape_valid (member key (tree.number n) ms) v h k = absurd h
  escape_valid (member key (tree.string s) ms) v h k = absurd h
  escape_valid (member key (tree.array ds) ms) v h k = absurd h
  escape_valid (member key (tree.object inner) ms) v h k = subst IsValue (sym h.2) (object_valid inner h.0 h.1 k.0.0 (fields_valid inner h.0 h.1 k.0.1))

  user_valid : (ms : Members) (v : Val) → UserReads ms v → MembersHaveRisingKeys ms → IsValue v
  user_valid no_members v h k = absurd h
  user_valid (member key named no_members) v h k = absurd h
  user_valid (member key named (member other d ms)) v h k = subst IsValue (sym h.4) (named_valid named h.0 h.2, reads_valid d h.1 h.3 k.1.0)
