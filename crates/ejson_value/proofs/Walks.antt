-- Lemmas of every walk over a value: what is reached lies less deep, and what was passed so far has one more.
use Rattle.std.proofs.Common.{false, ◌≡◌, ℕ, zero, suc, ◌<◌, ◌≤◌, List, [], ◌∷◌, ◌++◌, length, get_or, refl, ap, sym, subst, ◌∙◌, arith}
use Rattle.std.proofs.lemmas.List.{map-append}
use Rattle.std.specs.Map.{keys_of}
use Rattle.std.specs.declared.cmp.Ordering.{Ordering}
use Rattle.std.specs.declared.cmp.Ordering.TheVariants.{Less, Equal, Greater}
use Rattle.std.specs.Ordering.{ordering_then, is_ne}
use Rattle.std.specs.List.Sorted.{IsStrictlySortedBy}
use Rattle.std.proofs.lemmas.Cmp.{nat_list_cmp_total}
use Rattle.std.specs.BTreeMap.{insert_entry}
use Rattle.map_model.specs.Maps.{IsSorted}
use Rattle.map_model.specs.Orders.{IsAbove}
use Rattle.ejson_value.specs.declared.key.Key.{Key}
use Rattle.ejson_value.specs.declared.row.Member.{Member}
use Rattle.ejson_value.specs.Key.{key_cmp, key_total}
use Rattle.ejson_value.specs.Rows.{Rows}
use Rattle.map_model.specs.OrderLaws.{put_last, IsAbove-from_sorted}
use Rattle.value_model.specs.Order.{text_cmp, compare, fields_cmp}
use Rattle.value_model.specs.Doc.{put}
use Rattle.ejson_value.specs.Entries.{keys_of-entries}
use Rattle.value_model.specs.Val.{Val, Entries, vals_of, fields_of}
use Rattle.value_model.specs.Depth.{depth, vals_depth, fields_depth}
use Rattle.ejson_value.specs.declared.value.Value.{Value}
use Rattle.ejson_value.specs.View.{view, views, pairs, entries}

pub item_depth_of : (vs : List Value) (i : ℕ) (d : Value) → i < length vs → depth (view (get_or vs i d)) ≤ vals_depth (vals_of (views vs))
item_depth_of [] i d h = absurd (omega (arith, h))
item_depth_of (v ∷ vs) zero d h = omega arith
item_depth_of (v ∷ vs) (suc i) d h = let h' : i < length vs = omega (arith, h) in omega (arith, item_depth_of vs i d h')

-- an element lies at most as deep as the list's elements
pub item_depth : (vs : List Value) (i : ℕ) (v : Value) (ds : List Val) → v ≡ get_or vs i v → i < length vs → views vs ≡ ds → depth (view v) ≤ vals_depth (vals_of ds)
item_depth vs i v ds e h same =
    subst (λ n. n ≤ vals_depth (vals_of ds)) (ap (λ w. depth (view w)) (sym e))
    (subst (λ ws. depth (view (get_or vs i v)) ≤ vals_depth (vals_of ws)) same (item_depth_of vs i v h))

member_depth_of : (ms : List Member) (i : ℕ) (d : Member) → i < length ms → depth (view (get_or ms i d).value) ≤ fields_depth (fields_of (entries (pairs ms)))
member_depth_of [] i d h = absurd (omega (arith, h))
member_depth_of (m ∷ ms) zero d h = omega arith
member_depth_of (m ∷ ms) (suc i) d h = let h' : i < length ms = omega (arith, h) in omega (arith, member_depth_of ms i d h')

-- a field of a row lies at most as deep as the row's fields
pub member_depth : (ms : List Member) (i : ℕ) (m : Member) → m ≡ get_or ms i m → i < length ms → depth (view m.value) ≤ fields_depth (fields_of (entries (pairs ms)))
member_depth ms i m e h = subst (λ n. n ≤ fields_depth (fields_of (entries (pairs ms)))) (ap (λ (o : Member). depth (view o.value)) (sym e)) (member_depth_of ms i m h)

pub field_depth_of : (done : List (List ℕ × Value)) (name : List ℕ) (v : Value) (more : List (List ℕ × Value)) → depth (view v) ≤ fields_depth (fields_of (entries (done ++ (name, v) ∷ more)))
field_depth_of [] name v more = omega arith
field_depth_of (e ∷ done) name v more = omega (arith, field_depth_of done name v more)

-- a field's value lies at most as deep as the document's fields
pub field_depth : (all done : List (List ℕ × Value)) (name : List ℕ) (v : Value) (more : List (List ℕ × Value)) (ds : Entries) → all ≡ done ++ (name, v) ∷ more → entries all ≡ ds → depth (view v) ≤ fields_depth (fields_of ds)
field_depth all done name v more ds e same =
    subst (λ es. depth (view v) ≤ fields_depth (fields_of es)) (ap entries (sym e) ∙ same) (field_depth_of done name v more)

-- a document made in order, with the next field put
pub one_more_field : (all done : List (List ℕ × Value)) (name : List ℕ) (v : Value) (more : List (List ℕ × Value)) (copies : Entries) (w : Val) →
    all ≡ done ++ (name, v) ∷ more → IsStrictlySortedBy text_cmp (keys_of all) → copies ≡ entries done → w ≡ view v →
    put copies name w ≡ entries (done ++ (name, v) ∷ [])
one_more_field all done name v more copies w is sorted so_far same =
    let above = IsAbove-from_sorted nat_list_cmp_total (keys_of done) name (keys_of more) (subst (IsStrictlySortedBy text_cmp) (ap keys_of is ∙ map-append (λ (e : List ℕ × Value). e.0) done ((name, v) ∷ more)) sorted) in
    ap (λ es. put es name w) so_far
    ∙ (ap (λ x. put (entries done) name x) same
    ∙ (put_last text_cmp (entries done) name (view v) (subst (IsAbove text_cmp name) (sym (keys_of-entries done)) above)
    ∙ sym (map-append (λ (e : List ℕ × Value). (e.0, view e.1)) done ((name, v) ∷ []))))

-- two orders that tie together leave the third to decide
pub then_tied : (o p q : Ordering) → ordering_then o p ≡ Equal → ordering_then o (ordering_then p q) ≡ q
then_tied Less p q e = cc
then_tied Equal Less q e = cc
then_tied Equal Equal q e = refl
then_tied Equal Greater q e = cc
then_tied Greater p q e = cc

pub tie_of : (o : Ordering) → is_ne o ≡ false → o ≡ Equal
tie_of Less e = cc
tie_of Equal e = refl
tie_of Greater e = cc

-- two documents whose first fields tie compare as their rests do
pub next_fields : (it rest others more : List (List ℕ × Value)) (n m : List ℕ) (v w : Value) → it ≡ (n, v) ∷ rest → others ≡ (m, w) ∷ more →
    ordering_then (text_cmp n m) (compare (view v) (view w)) ≡ Equal →
    fields_cmp (fields_of (entries rest)) (fields_of (entries more)) ≡ fields_cmp (fields_of (entries it)) (fields_of (entries others))
next_fields it rest others more n m v w e f tie =
    sym (ap (λ es. fields_cmp (fields_of (entries es)) (fields_of (entries others))) e
    ∙ (ap (λ es. fields_cmp (fields_of (entries ((n, v) ∷ rest))) (fields_of (entries es))) f
    ∙ then_tied (text_cmp n m) (compare (view v) (view w)) (fields_cmp (fields_of (entries rest)) (fields_of (entries more))) tie))

-- contents made in order, with the next row put
pub one_more_row : (all copies : Rows) (key : Key) (doc : Entries) (more : Rows) (key' : Key) (doc' : Entries) →
    all ≡ copies ++ (key, doc) ∷ more → IsSorted key_cmp all → key' ≡ key → doc' ≡ doc → insert_entry key_cmp copies key' doc' ≡ copies ++ (key, doc) ∷ []
one_more_row all copies key doc more key' doc' is sorted same_key same_doc =
    let above = IsAbove-from_sorted key_total (keys_of copies) key (keys_of more) (subst (IsStrictlySortedBy key_cmp) (ap keys_of is ∙ map-append (λ (row : Key × Entries). row.0) copies ((key, doc) ∷ more)) sorted) in
    ap (λ k. insert_entry key_cmp copies k doc') same_key ∙ (ap (λ d. insert_entry key_cmp copies key d) same_doc ∙ put_last key_cmp copies key doc above)
