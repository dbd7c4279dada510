-- The tree that a text reads as has rising keys.
use Rattle.std.specs.Prelude.{◌≡◌, ℕ, List, Option, Some, None, option_map, option_and_then, refl}
use Rattle.std.proofs.Common.{ap, sym, subst, ◌∙◌}
use Rattle.std.proofs.lemmas.Cmp.{nat_list_cmp_total}
use Rattle.std.specs.declared.cmp.Ordering.{Ordering}
use Rattle.std.specs.declared.cmp.Ordering.TheVariants.{Less, Equal, Greater}
use Rattle.std.specs.Ordering.{match_ordering, ordering_reverse}
use Rattle.std.specs.List.{AllByRecursion}
use Rattle.std.specs.List.Sorted.{IsStrictlySortedBy}
use Rattle.json.specs.Json as json
use Rattle.json.specs.Lex.{tokens}
use Rattle.serde_json.specs.Data.{Num, unsigned, negative, float, Data, Items, no_items, item, Members, no_members, member, put}
use Rattle.serde_json.specs.Data as tree
use Rattle.serde_json.specs.Read.{of_json, of_items, of_members, number_of, max_depth, read}
use Rattle.value_model.specs.Order.{text_cmp}
use Rattle.ejson_codec.specs.Shape.{keys_of_members}
use Rattle.ejson_codec.specs.Trees.{HasRisingKeys, ItemsHaveRisingKeys, MembersHaveRisingKeys}

-- ---- keys rise

mapped : {A B : Type 0} (f : A → B) (o : Option A) (b : B) → option_map f o ≡ Some b → (a : A) × (o ≡ Some a) × (f a ≡ b)
mapped f None b h = absurd (cc h)
mapped f (Some a) b h = (a, refl, cc h)

chained : {A B : Type 0} (f : A → Option B) (o : Option A) (b : B) → option_and_then f o ≡ Some b → (a : A) × (o ≡ Some a) × (f a ≡ Some b)
chained f None b h = absurd (cc h)
chained f (Some a) b h = (a, refl, h)

abbrev Above : List ℕ → Members → Type 0
Above key ms = AllByRecursion (λ k. text_cmp key k ≡ Less) (keys_of_members ms)

above_all : (key l : List ℕ) (ms : Members) → text_cmp key l ≡ Less → Above l ms → Above key ms
above_all key l no_members less h = tt
above_all key l (member k d ms) less h = (nat_list_cmp_total.trans key l k less h.0, above_all key l ms less h.1)

above_by : (o : Ordering) (key k l : List ℕ) (d e : Data) (ms : Members) → text_cmp key k ≡ Less → Above key (member l e ms) → Above key (put k d ms) →
    Above key (match_ordering o (member k d (member l e ms)) (member l d ms) (member l e (put k d ms)))
above_by Less key k l d e ms less h rest = (less, h)
above_by Equal key k l d e ms less h rest = h
above_by Greater key k l d e ms less h rest = (h.0, rest)

above_put : (key k : List ℕ) (d : Data) (ms : Members) → text_cmp key k ≡ Less → Above key ms → Above key (put k d ms)
above_put key k d no_members less h = (less, tt)
above_put key k d (member l e ms) less h = above_by (text_cmp k l) key k l d e ms less h (above_put key k d ms less h.1)

abbrev AreSorted : Members → Type 0
AreSorted ms = IsStrictlySortedBy text_cmp (keys_of_members ms) × MembersHaveRisingKeys ms

sorted_by : (o : Ordering) (k l : List ℕ) (d e : Data) (ms : Members) → text_cmp k l ≡ o → HasRisingKeys d → AreSorted (member l e ms) →
    AreSorted (put k d ms) →
    AreSorted (match_ordering o (member k d (member l e ms)) (member l d ms) (member l e (put k d ms)))
unfolding IsStrictlySortedBy
sorted_by Less k l d e ms is new s rest = (((is, above_all k l ms is s.0.0), s.0), (new, s.1))
sorted_by Equal k l d e ms is new s rest = (s.0, (new, s.1.1))
sorted_by Greater k l d e ms is new s rest =
    let less : text_cmp l k ≡ Less = nat_list_cmp_total.antisymm l k ∙ ap ordering_reverse is in
    ((above_put l k d ms less s.0.0, rest.0), (s.1.0, rest.1))

sorted_put : (k : List ℕ) (d : Data) (ms : Members) → HasRisingKeys d → AreSorted ms → AreSorted (put k d ms)
unfolding IsStrictlySortedBy
sorted_put k d no_members new s = ((tt, tt), (new, tt))
sorted_put k d (member l e ms) new s = sorted_by (text_cmp k l) k l d e ms refl new s (sorted_put k d ms new (s.0.1, s.1.1))

mutual
  unfolding IsStrictlySortedBy

  json_rises : (j : json.Json) (d : Data) → of_json j ≡ Some d → HasRisingKeys d
  json_rises json.null d h = let e : d ≡ tree.null = cc h in subst HasRisingKeys (sym e) tt
  json_rises (json.boolean b) d h = let e : d ≡ tree.boolean b = cc h in subst HasRisingKeys (sym e) tt
  json_rises (json.number s) d h = let p = mapped tree.number (number_of s) d h in subst HasRisingKeys p.2 tt
  json_rises (json.string s) d h = let e : d ≡ tree.string s = cc h in subst HasRisingKeys (sym e) tt
  json_rises (json.array js) d h = let p = mapped tree.array (of_items js) d h in subst HasRisingKeys p.2 (items_rise js p.0 p.1)
  json_rises (json.object ms) d h =
      let p = mapped tree.object (of_members ms no_members) d h in subst HasRisingKeys p.2 (members_rise ms no_members p.0 p.1 (tt, tt))

  items_rise : (js : json.Items) (ds : Items) → of_items js ≡ Some ds → ItemsHaveRisingKeys ds
  items_rise json.no_items ds h = let e : ds ≡ no_items = cc h in subst ItemsHaveRisingKeys (sym e) tt
  items_rise (json.item j js) ds h =
      let p = chained (λ d. option_map (item d) (of_items js)) (of_json j) ds h in
      let q = mapped (item p.0) (of_items js) ds p.2 in
      subst ItemsHaveRisingKeys q.2 (json_rises j p.0 p.1, items_rise js q.0 q.1)

  members_rise : (ms : json.Members) (found done : Members) → of_members ms found ≡ Some done → AreSorted found → AreSorted done
  members_rise json.no_members found done h s = let e : found ≡ done = cc h in subst AreSorted e s
  members_rise (json.member k j ms) found done h s =
      let p = chained (λ d. of_members ms (put k d found)) (of_json j) done h in
      members_rise ms (put k p.0 found) done p.2 (sorted_put k p.0 found (json_rises j p.0 p.1) s)

pub read_rises : (t : List ℕ) (d : Data) → read t ≡ Some d → HasRisingKeys d
read_rises t d h =
    let p = chained of_json (option_and_then (λ p. json.if_last p.0 p.1) (json.value max_depth (tokens t))) d h in json_rises p.0 d p.2
