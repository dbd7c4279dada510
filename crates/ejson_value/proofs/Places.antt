-- A document at the place of a field, and at the gap for one.
use Rattle.std.proofs.Common.{◌≡◌, ℕ, zero, suc, ◌+◌, ◌-◌, ◌<◌, ◌≤◌, true, false, cond, List, [], ◌∷◌, length, get_or, take, drop, slice_get, slice_set, Some, None, Result, Ok, Err, IfOk, IfErr, refl, ap, sym, subst, ◌∙◌, arith, add-one}
use Rattle.std.specs.Prelude.{option_map}
use Rattle.std.specs.List.{AllWithin, HoldsAt, insert, remove as remove_item}
use Rattle.std.specs.List.Sorted.{IsStrictlySortedBy, IsSortedBy, IsSearchInRange, IsBinarySearchResult}
use Rattle.std.specs.declared.cmp.Ordering.TheVariants.{Less, Equal, Greater}
use Rattle.std.specs.Ordering.{is_eq, is_lt, match_ordering, ordering_reverse}
use Rattle.std.specs.Cmp.{tied_itself}
use Rattle.std.specs.Map.{keys_of}
use Rattle.std.specs.BTreeMap.{is_at}
use Rattle.std.proofs.lemmas.Cmp.{nat_list_cmp_total}
use Rattle.std.proofs.lemmas.Map.Keys.{sorted_head, sorted_tail}
use Rattle.std.proofs.lemmas.Map.Lookups.{exact_bytes}
use Rattle.std.specs.declared.cmp.Ordering.{Ordering}
use Rattle.std.proofs.lemmas.List.Sorted.{searchable_from_sorted}
use Rattle.std.proofs.lemmas.Option.{same_Some, none-some, slice_get_within, slice_get_read}
use Rattle.map_model.specs.MapLaws.{sorted-nil, sorted-put, sorted-remove}
use Rattle.map_model.specs.Orders.{IsAbove}
use Rattle.value_model.specs.Val.{Val, Entries}
use Rattle.value_model.specs.Order.{text_cmp}
use Rattle.value_model.specs.Doc.{get, put, remove}
use Rattle.value_model.specs.Valid.{IsValue, IsDocument}
use Rattle.value_model.specs.ValidLaws.{HaveValues-put, HaveValues-remove}
use Rattle.ejson_value.specs.Key.{name_order}
use Rattle.ejson_value.specs.declared.row.Member.{Member}
use Rattle.ejson_value.specs.declared.value.Value.{Value}
use Rattle.ejson_value.specs.View.{view, pairs, entries}
use Rattle.ejson_value.specs.Places.{name_at, IsBelow, IsGapFor}

behind : (x k : List ℕ) → text_cmp x k ≡ Less → text_cmp k x ≡ Greater
behind x k less = nat_list_cmp_total.antisymm k x ∙ ap ordering_reverse less

before : (x k : List ℕ) → text_cmp x k ≡ Greater → text_cmp k x ≡ Less
before x k more = nat_list_cmp_total.antisymm k x ∙ ap ordering_reverse more

less_at : (x : List ℕ) (ks : List (List ℕ)) (i : ℕ) (k : List ℕ) → IsBelow x ks → slice_get ks i ≡ Some k → text_cmp x k ≡ Less
less_at x [] i k h e = absurd (none-some k e)
less_at x (y ∷ ks) zero k h e = subst (λ z. text_cmp x z ≡ Less) (same_Some y k e) h.0
less_at x (y ∷ ks) (suc i) k h e = less_at x ks i k h.1 e

same_name : (es : Entries) (name x : List ℕ) → Some x ≡ Some name → text_cmp name x ≡ Equal
same_name es name x e = ap (λ k. text_cmp name k) (same_Some x name e) ∙ tied_itself nat_list_cmp_total name

module _ (name : List ℕ) where
  -- the first field is before that at a later place
  past_first : (e : List ℕ × Val) (es : Entries) (i : ℕ) → IsStrictlySortedBy text_cmp (keys_of (e ∷ es)) → name_at es i ≡ Some name → text_cmp name e.0 ≡ Greater
  past_first e es i s is = behind e.0 name (less_at e.0 (keys_of es) i name (sorted_head text_cmp _ _ s) is)

  pub at_get : (es : Entries) (i : ℕ) → IsStrictlySortedBy text_cmp (keys_of es) → name_at es i ≡ Some name → get es name ≡ option_map (λ e. e.1) (slice_get es i)
  at_get [] i s is = absurd (none-some name is)
  at_get (e ∷ es) zero s is = ap (λ o. cond (is_eq o) (Some e.1) (get es name)) (same_name es name e.0 is)
  at_get (e ∷ es) (suc i) s is = ap (λ o. cond (is_eq o) (Some e.1) (get es name)) (past_first e es i s is) ∙ at_get es i (sorted_tail text_cmp _ _ s) is

  pub at_put : (es : Entries) (i : ℕ) (v : Val) → IsStrictlySortedBy text_cmp (keys_of es) → name_at es i ≡ Some name → put es name v ≡ slice_set es i (name, v)
  at_put [] i v s is = absurd (none-some name is)
  at_put (e ∷ es) zero v s is =
      ap (λ o. match_ordering o ((name, v) ∷ e ∷ es) ((e.0, v) ∷ es) (e ∷ put es name v)) (same_name es name e.0 is)
      ∙ ap (λ k. (k, v) ∷ es) (same_Some e.0 name is)
  at_put (e ∷ es) (suc i) v s is =
      ap (λ o. match_ordering o ((name, v) ∷ e ∷ es) ((e.0, v) ∷ es) (e ∷ put es name v)) (past_first e es i s is)
      ∙ ap (λ rest. e ∷ rest) (at_put es i v (sorted_tail text_cmp _ _ s) is)

  pub at_remove : (es : Entries) (i : ℕ) → IsStrictlySortedBy text_cmp (keys_of es) → name_at es i ≡ Some name → remove es name ≡ remove_item es i
  at_remove [] i s is = absurd (none-some name is)
  at_remove (e ∷ es) zero s is = ap (λ o. cond (is_eq o) es (e ∷ remove es name)) (same_name es name e.0 is)
  at_remove (e ∷ es) (suc i) s is =
      ap (λ o. cond (is_eq o) es (e ∷ remove es name)) (past_first e es i s is) ∙ ap (λ rest. e ∷ rest) (at_remove es i (sorted_tail text_cmp _ _ s) is)

  below_get : (es : Entries) → IsBelow name (keys_of es) → get es name ≡ None
  below_get [] b = refl
  below_get (e ∷ es) b = ap (λ o. cond (is_eq o) (Some e.1) (get es name)) b.0 ∙ below_get es b.1

  below_put : (es : Entries) (v : Val) → IsBelow name (keys_of es) → put es name v ≡ (name, v) ∷ es
  below_put [] v b = refl
  below_put (e ∷ es) v b = ap (λ o. match_ordering o ((name, v) ∷ e ∷ es) ((e.0, v) ∷ es) (e ∷ put es name v)) b.0

  below_remove : (es : Entries) → IsBelow name (keys_of es) → remove es name ≡ es
  below_remove [] b = refl
  below_remove (e ∷ es) b = ap (λ o. cond (is_eq o) es (e ∷ remove es name)) b.0 ∙ ap (λ rest. e ∷ rest) (below_remove es b.1)

  gap_get_by : (es : Entries) (i : ℕ) → IsAbove text_cmp name (take i (keys_of es)) → IsBelow name (drop i (keys_of es)) → get es name ≡ None
  gap_get_by es zero a b = below_get es b
  gap_get_by [] (suc i) a b = refl
  gap_get_by (e ∷ es) (suc i) a b = ap (λ o. cond (is_eq o) (Some e.1) (get es name)) a.0 ∙ gap_get_by es i a.1 b

  gap_put_by : (es : Entries) (i : ℕ) (v : Val) → IsAbove text_cmp name (take i (keys_of es)) → IsBelow name (drop i (keys_of es)) → put es name v ≡ insert es i (name, v)
  gap_put_by es zero v a b = below_put es v b
  gap_put_by [] (suc i) v a b = refl
  gap_put_by (e ∷ es) (suc i) v a b =
      ap (λ o. match_ordering o ((name, v) ∷ e ∷ es) ((e.0, v) ∷ es) (e ∷ put es name v)) a.0 ∙ ap (λ rest. e ∷ rest) (gap_put_by es i v a.1 b)

  gap_remove_by : (es : Entries) (i : ℕ) → IsAbove text_cmp name (take i (keys_of es)) → IsBelow name (drop i (keys_of es)) → remove es name ≡ es
  gap_remove_by es zero a b = below_remove es b
  gap_remove_by [] (suc i) a b = refl
  gap_remove_by (e ∷ es) (suc i) a b = ap (λ o. cond (is_eq o) es (e ∷ remove es name)) a.0 ∙ ap (λ rest. e ∷ rest) (gap_remove_by es i a.1 b)

  pub gap_get : (es : Entries) (i : ℕ) → IsGapFor es name i → get es name ≡ None
  gap_get es i g = gap_get_by es i g.above g.below

  pub gap_put : (es : Entries) (i : ℕ) (v : Val) → IsGapFor es name i → put es name v ≡ insert es i (name, v)
  gap_put es i v g = gap_put_by es i v g.above g.below

  pub gap_remove : (es : Entries) (i : ℕ) → IsGapFor es name i → remove es name ≡ es
  gap_remove es i g = gap_remove_by es i g.above g.below

  -- what a search by halves finds
  pub found : (ms : List Member) (i : ℕ) → i < length ms → HoldsAt (λ (m : Member). text_cmp m.name name ≡ Equal) ms i → name_at (entries (pairs ms)) i ≡ Some name
  found [] i lt h = absurd (omega (arith, lt))
  found (m ∷ ms) zero lt h = ap (λ k. Some k) (exact_bytes m.name name (h m))
  found (m ∷ ms) (suc i) lt h = let lt' : i < length ms = omega (arith, lt) in found ms i lt' (λ d. h d)

  above : (ms : List Member) (i : ℕ) → i ≤ length ms → ((k : ℕ) (d : Member) → k < i → text_cmp (get_or ms k d).name name ≡ Less) → IsAbove text_cmp name (take i (keys_of (entries (pairs ms))))
  above ms zero le h = tt
  above [] (suc i) le h = absurd (omega (arith, le))
  above (m ∷ ms) (suc i) le h = (behind m.name name (h zero m (omega arith)), above ms i (omega (arith, le)) (λ k d lt. h (suc k) d (omega (arith, lt))))

  below : (ms : List Member) (i : ℕ) → ((k : ℕ) (d : Member) → i ≤ k → k < length ms → text_cmp (get_or ms k d).name name ≡ Greater) → IsBelow name (drop i (keys_of (entries (pairs ms))))
  below [] zero h = tt
  below [] (suc i) h = tt
  below (m ∷ ms) zero h = (before m.name name (h zero m (omega arith) (omega arith)), below ms zero (λ k d le lt. h (suc k) d (omega arith) (omega (arith, lt))))
  below (m ∷ ms) (suc i) h = below ms i (λ k d le lt. h (suc k) d (omega (arith, le)) (omega (arith, lt)))

  pub gap : (ms : List Member) (i : ℕ) → i ≤ length (entries (pairs ms)) → i ≤ length ms → AllWithin (λ (m : Member). text_cmp m.name name ≡ Less) ms 0 i → AllWithin (λ (m : Member). text_cmp m.name name ≡ Greater) ms i (length ms) → IsGapFor (entries (pairs ms)) name i
  gap ms i within le less more = record { within = within; above = above ms i le (λ k d lt. less k d (omega arith) lt); below = below ms i more }

  -- behind the last name, a name is behind all
  pub above_all : (ks : List (List ℕ)) (i : ℕ) (last : List ℕ) → i + 1 ≡ length ks → IsStrictlySortedBy text_cmp ks → slice_get ks i ≡ Some last → text_cmp last name ≡ Less → IsAbove text_cmp name ks
  above_all [] i last n s is less = tt
  above_all (k ∷ []) zero last n s is less = (behind k name (subst (λ x. text_cmp x name ≡ Less) (sym (same_Some k last is)) less), tt)
  above_all (k ∷ q ∷ ks) zero last n s is less = absurd (omega (arith, n))
  above_all (k ∷ ks) (suc i) last n s is less =
      (behind k name (nat_list_cmp_total.trans k last name (less_at k ks i last (sorted_head text_cmp _ _ s) is) less), above_all ks i last (omega (arith, n)) (sorted_tail text_cmp _ _ s) is less)

next_before : (ms : List Member) (k : ℕ) (d : Member) → IsStrictlySortedBy text_cmp (keys_of (entries (pairs ms))) → suc k < length ms → is_lt (text_cmp (get_or ms (suc k) d).name (get_or ms k d).name) ≡ false
next_before [] k d s lt = absurd (omega (arith, lt))
next_before (m ∷ []) k d s lt = absurd (omega (arith, lt))
next_before (m ∷ n ∷ ms) zero d s lt = let h = sorted_head text_cmp _ _ s in ap is_lt (behind m.name n.name h.0)
next_before (m ∷ n ∷ ms) (suc k) d s lt = next_before (n ∷ ms) k d (sorted_tail text_cmp _ _ s) (omega (arith, lt))

-- fields by rising name are sorted as a search by halves asks
pub sorted_members : (ms : List Member) → IsStrictlySortedBy text_cmp (keys_of (entries (pairs ms))) → IsSortedBy (λ (a b : Member). is_lt (text_cmp a.name b.name)) ms
sorted_members ms s k d low high = rw add-one (next_before ms k d s (omega (arith, high)))

-- edits of the members, as edits of the document
pub entries-set : (ms : List Member) (i : ℕ) (m : Member) → entries (pairs (slice_set ms i m)) ≡ slice_set (entries (pairs ms)) i (m.name, view m.value)
entries-set [] i m = refl
entries-set (x ∷ ms) zero m = refl
entries-set (x ∷ ms) (suc i) m = ap (λ rest. (x.name, view x.value) ∷ rest) (entries-set ms i m)

pub entries-insert : (ms : List Member) (i : ℕ) (m : Member) → entries (pairs (insert ms i m)) ≡ insert (entries (pairs ms)) i (m.name, view m.value)
entries-insert ms zero m = refl
entries-insert [] (suc i) m = refl
entries-insert (x ∷ ms) (suc i) m = ap (λ rest. (x.name, view x.value) ∷ rest) (entries-insert ms i m)

pub entries-remove : (ms : List Member) (i : ℕ) → entries (pairs (remove_item ms i)) ≡ remove_item (entries (pairs ms)) i
entries-remove [] zero = refl
entries-remove [] (suc i) = refl
entries-remove (x ∷ ms) zero = refl
entries-remove (x ∷ ms) (suc i) = ap (λ rest. (x.name, view x.value) ∷ rest) (entries-remove ms i)

pub value_at : (ms : List Member) (i : ℕ) → option_map (λ e. e.1) (slice_get (entries (pairs ms)) i) ≡ option_map (λ m. view m.value) (slice_get ms i)
value_at [] i = refl
value_at (m ∷ ms) zero = refl
value_at (m ∷ ms) (suc i) = value_at ms i

pub length-entries : (ms : List Member) → length (keys_of (entries (pairs ms))) ≡ length ms
length-entries [] = refl
length-entries (m ∷ ms) = ap suc (length-entries ms)

length_pairs : (ms : List Member) → length (entries (pairs ms)) ≡ length ms
length_pairs [] = refl
length_pairs (m ∷ ms) = ap suc (length_pairs ms)

pub lt_of : (o : Ordering) → is_lt o ≡ true → o ≡ Less
lt_of Less e = refl
lt_of Equal e = cc
lt_of Greater e = cc

pub name_of : (ms : List Member) (i : ℕ) → name_at (entries (pairs ms)) i ≡ option_map (λ m. m.name) (slice_get ms i)
name_of [] i = refl
name_of (m ∷ ms) zero = refl
name_of (m ∷ ms) (suc i) = name_of ms i

pub within : (name : List ℕ) (ms : List Member) (i : ℕ) → name_at (entries (pairs ms)) i ≡ Some name → i < length ms
within name ms i is = subst (λ n. i < n) (length-entries ms) (slice_get_within (keys_of (entries (pairs ms))) i name is)

pub got : (name : List ℕ) (ms : List Member) (i : ℕ) (m : Member) → IsStrictlySortedBy text_cmp (keys_of (entries (pairs ms))) → name_at (entries (pairs ms)) i ≡ Some name → m ≡ get_or ms i m → get (entries (pairs ms)) name ≡ Some (view m.value)
got name ms i m s is read =
    at_get name (entries (pairs ms)) i s is ∙ (value_at ms i ∙ ap (option_map (λ (x : Member). view x.value)) (slice_get_read ms (length ms) i m refl (within name ms i is) read))

pub searched : (name : List ℕ) (ms : List Member) (r : Result ℕ ℕ) → IsStrictlySortedBy text_cmp (keys_of (entries (pairs ms))) → IsSearchInRange r (length ms) → IsBinarySearchResult (λ (m : Member). text_cmp m.name name) ms r
    → IfOk r (λ i. name_at (entries (pairs ms)) i ≡ Some name) × IfErr r (IsGapFor (entries (pairs ms)) name)
searched name ms (Ok i) s b h = (found name ms i b h, tt)
searched name ms (Err i) s b h =
    let parted = h (searchable_from_sorted nat_list_cmp_total (λ (m : Member). m.name) ms name (sorted_members ms s)) in
    (tt, gap name ms i (subst (λ n. i ≤ n) (sym (length_pairs ms)) b) b parted.0 parted.1)

-- a name behind the last one
pub behind_last : (name : List ℕ) (ms : List Member) (last : Member) → IsStrictlySortedBy text_cmp (keys_of (entries (pairs ms))) → Some last ≡ slice_get ms (length ms - 1) → text_cmp last.name name ≡ Less → IsAbove text_cmp name (keys_of (entries (pairs ms)))
behind_last name ms last s is less =
    let here = slice_get_within ms (length ms - 1) last (sym is) in
    above_all name (keys_of (entries (pairs ms))) (length ms - 1) last.name (omega (arith, here, length-entries ms)) s (name_of ms (length ms - 1) ∙ ap (option_map (λ (m : Member). m.name)) (sym is)) less

-- what a document keeps
pub IsDocument-none : IsDocument []
IsDocument-none = record { names = sorted-nil text_cmp; values = tt }

pub IsDocument-put : (es : Entries) (name : List ℕ) (v : Val) → IsDocument es → IsValue v → IsDocument (put es name v)
IsDocument-put es name v d one = record { names = sorted-put name_order es name v d.names; values = HaveValues-put es name v d.values one }

pub IsDocument-remove : (es : Entries) (name : List ℕ) → IsDocument es → IsDocument (remove es name)
IsDocument-remove es name d = record { names = sorted-remove name_order es name d.names; values = HaveValues-remove (is_at (text_cmp name)) es d.values }

-- the members after a write, an insertion and a removal
pub set_is_put : (name : List ℕ) (ms : List Member) (i : ℕ) (m : Member) → IsStrictlySortedBy text_cmp (keys_of (entries (pairs ms))) → name_at (entries (pairs ms)) i ≡ Some name → m.name ≡ name → entries (pairs (slice_set ms i m)) ≡ put (entries (pairs ms)) name (view m.value)
set_is_put name ms i m s is same =
    entries-set ms i m ∙ (ap (λ k. slice_set (entries (pairs ms)) i (k, view m.value)) same ∙ sym (at_put name (entries (pairs ms)) i (view m.value) s is))

named : (name : List ℕ) (ms : List Member) (i : ℕ) (m : Member) → name_at (entries (pairs ms)) i ≡ Some name → m ≡ get_or ms i m → m.name ≡ name
named name ms i m is read =
    same_Some m.name name (sym (ap (option_map (λ (x : Member). x.name)) (slice_get_read ms (length ms) i m refl (within name ms i is) read)) ∙ (sym (name_of ms i) ∙ is))

-- a value put in place of that of a member
pub swap_is_put : (name : List ℕ) (ms : List Member) (i : ℕ) (m : Member) (v : Value) → IsStrictlySortedBy text_cmp (keys_of (entries (pairs ms))) → name_at (entries (pairs ms)) i ≡ Some name → m ≡ get_or ms i m →
    entries (pairs (slice_set ms i (record { name = m.name; value = v }))) ≡ put (entries (pairs ms)) name (view v)
swap_is_put name ms i m v s is read = set_is_put name ms i (record { name = m.name; value = v }) s is (named name ms i m is read)

pub insert_is_put : (ms : List Member) (i : ℕ) (m : Member) → IsGapFor (entries (pairs ms)) m.name i → entries (pairs (insert ms i m)) ≡ put (entries (pairs ms)) m.name (view m.value)
insert_is_put ms i m g = entries-insert ms i m ∙ sym (gap_put m.name (entries (pairs ms)) i (view m.value) g)

pub remove_is_remove : (name : List ℕ) (ms : List Member) (i : ℕ) → IsStrictlySortedBy text_cmp (keys_of (entries (pairs ms))) → name_at (entries (pairs ms)) i ≡ Some name → entries (pairs (remove_item ms i)) ≡ remove (entries (pairs ms)) name
remove_is_remove name ms i s is = entries-remove ms i ∙ sym (at_remove name (entries (pairs ms)) i s is)
