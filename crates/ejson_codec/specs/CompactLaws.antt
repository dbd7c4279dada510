-- The compact text of a tree reads as the tree.
use Rattle.std.specs.Prelude.{◌≡◌, ℕ, suc, ◌≤◌, pos, negsuc, List, [], ◌∷◌, Some, option_map, option_and_then, max, refl}
use Rattle.std.proofs.Common.{ap, ap₂, sym, subst, ◌∙◌, arith, append-nil}
use Rattle.std.proofs.lemmas.Cmp.{nat_list_cmp_total}
use Rattle.std.specs.declared.cmp.Ordering.TheVariants.{Less}
use Rattle.std.specs.Ordering.{match_ordering, ordering_reverse}
use Rattle.std.specs.List.{AllByRecursion}
use Rattle.std.specs.List.Sorted.{IsStrictlySortedBy}
use Rattle.json.specs.Json as json
use Rattle.json.specs.Lex.{tokens}
use Rattle.json.specs.Print.{IsNumber}
use Rattle.json.specs.Tree as tree
use Rattle.json.proofs.Printed.Decimals.{IsNumber-decimal, IsNumber-signed_decimal}
use Rattle.json.proofs.Printed.Tokens.{tokens-print}
use Rattle.json.proofs.Printed.Trees.{ArePrintable-json_tokens, value-json_tokens}
use Rattle.serde_json.specs.Data.{Num, unsigned, negative, float, Data, null, boolean, number, string, array, object, Items, no_items, item, Members}
use Rattle.serde_json.specs.Data.{no_members, member, put, depth, items_depth, members_depth}
use Rattle.serde_json.specs.Read.{of_json, of_items, of_members, number_of, max_depth, read}
use Rattle.serde_json.specs.Written.{number_text, outline, items_outline, members_outline, compact_text}
use Rattle.serde_json.proofs.Numbers.{number_of-decimal, number_of-negative}
use Rattle.serde_json.proofs.Texts.{print-outline}
use Rattle.value_model.specs.Order.{text_cmp}
use Rattle.ejson_codec.specs.Shape.{keys_of_members}
use Rattle.ejson_codec.specs.Trees.{HasRisingKeys, ItemsHaveRisingKeys, MembersHaveRisingKeys}
use Rattle.ejson_codec.specs.Exact.{IsExactNumber, HasExactNumbers, ItemsHaveExactNumbers, MembersHaveExactNumbers}

number_reads : (n : Num) → IsExactNumber n → number_of (number_text n) ≡ Some n
number_reads (unsigned n) h = number_of-decimal n h
number_reads (negative (pos n)) h = absurd h
number_reads (negative (negsuc n)) h = number_of-negative n (omega (arith, h))
number_reads (float x) h = absurd h

number_text_is : (n : Num) → IsExactNumber n → IsNumber (number_text n)
number_text_is (unsigned n) h = IsNumber-decimal n h
number_text_is (negative (pos n)) h = absurd h
number_text_is (negative (negsuc n)) h = IsNumber-signed_decimal (negsuc n) (omega (arith, h))
number_text_is (float x) h = absurd h

-- ---- members that are put in one after another, by rising key

abbrev append : Members → Members → Members
append no_members ms = ms
append (member key d front) ms = member key d (append front ms)

append-none : (ms : Members) → append ms no_members ≡ ms
append-none no_members = refl
append-none (member key d ms) = ap (member key d) (append-none ms)

append-one : (front : Members) (key : List ℕ) (d : Data) (ms : Members) → append (append front (member key d no_members)) ms ≡ append front (member key d ms)
append-one no_members key d ms = refl
append-one (member k e front) key d ms = ap (member k e) (append-one front key d ms)

-- every key of the members is below each of these keys
abbrev AreBelow : Members → List (List ℕ) → Type 0
AreBelow no_members keys = Unit {0}
AreBelow (member key d ms) keys = AllByRecursion (λ k. text_cmp key k ≡ Less) keys × AreBelow ms keys

put_last : (key : List ℕ) (d : Data) (front : Members) (keys : List (List ℕ)) → AreBelow front (key ∷ keys) →
    put key d front ≡ append front (member key d no_members)
put_last key d no_members keys h = refl
put_last key d (member k e front) keys h =
    ap (λ o. match_ordering o (member key d (member k e front)) (member k d front) (member k e (put key d front)))
    (nat_list_cmp_total.antisymm key k ∙ ap ordering_reverse h.0.0)
    ∙ ap (member k e) (put_last key d front keys h.1)

below_more : (key : List ℕ) (d : Data) (front : Members) (keys : List (List ℕ)) → AreBelow front (key ∷ keys) →
    AllByRecursion (λ k. text_cmp key k ≡ Less) keys →
    AreBelow (append front (member key d no_members)) keys
below_more key d no_members keys h above = (above, tt)
below_more key d (member k e front) keys h above = (h.0.1, below_more key d front keys h.1 above)

mutual
  unfolding IsStrictlySortedBy

  data_reads : (d : Data) → HasExactNumbers d → HasRisingKeys d → of_json (outline d) ≡ Some d
  data_reads null h k = refl
  data_reads (boolean b) h k = refl
  data_reads (number n) h k = ap (option_map number) (number_reads n h)
  data_reads (string s) h k = refl
  data_reads (array ds) h k = ap (option_map array) (items_read ds h k)
  data_reads (object ms) h k = ap (option_map object) (members_read ms no_members h k.1 k.0 tt)

  items_read : (ds : Items) → ItemsHaveExactNumbers ds → ItemsHaveRisingKeys ds → of_items (items_outline ds) ≡ Some ds
  items_read no_items h k = refl
  items_read (item d ds) h k =
      ap (option_and_then (λ x. option_map (item x) (of_items (items_outline ds)))) (data_reads d h.0 k.0) ∙ ap (option_map (item d)) (items_read ds h.1 k.1)

  members_read : (ms front : Members) → MembersHaveExactNumbers ms → MembersHaveRisingKeys ms → IsStrictlySortedBy text_cmp (keys_of_members ms) →
      AreBelow front (keys_of_members ms) → of_members (members_outline ms) front ≡ Some (append front ms)
  members_read no_members front h k sorted below = ap Some (sym (append-none front))
  members_read (member key d ms) front h k sorted below =
      ap (option_and_then (λ x. of_members (members_outline ms) (put key x front))) (data_reads d h.0 k.0)
      ∙ (ap (of_members (members_outline ms)) (put_last key d front (keys_of_members ms) below)
      ∙ (members_read ms (append front (member key d no_members)) h.1 k.1 sorted.1 (below_more key d front (keys_of_members ms) below sorted.0)
      ∙ ap Some (append-one front key d ms)))

-- ---- the text

mutual
  has_numbers : (d : Data) → HasExactNumbers d → tree.HasNumbers (outline d)
  has_numbers null h = tt
  has_numbers (boolean b) h = tt
  has_numbers (number n) h = number_text_is n h
  has_numbers (string s) h = tt
  has_numbers (array ds) h = items_have_numbers ds h
  has_numbers (object ms) h = members_have_numbers ms h

  items_have_numbers : (ds : Items) → ItemsHaveExactNumbers ds → tree.ItemsHaveNumbers (items_outline ds)
  items_have_numbers no_items h = tt
  items_have_numbers (item d ds) h = (has_numbers d h.0, items_have_numbers ds h.1)

  members_have_numbers : (ms : Members) → MembersHaveExactNumbers ms → tree.MembersHaveNumbers (members_outline ms)
  members_have_numbers no_members h = tt
  members_have_numbers (member key d ms) h = (has_numbers d h.0, members_have_numbers ms h.1)

mutual
  depth-outline : (d : Data) → tree.depth (outline d) ≡ depth d
  depth-outline null = refl
  depth-outline (boolean b) = refl
  depth-outline (number n) = refl
  depth-outline (string s) = refl
  depth-outline (array ds) = ap suc (items_depth-outline ds)
  depth-outline (object ms) = ap suc (members_depth-outline ms)

  items_depth-outline : (ds : Items) → tree.items_depth (items_outline ds) ≡ items_depth ds
  items_depth-outline no_items = refl
  items_depth-outline (item d ds) = ap₂ max (depth-outline d) (items_depth-outline ds)

  members_depth-outline : (ms : Members) → tree.members_depth (members_outline ms) ≡ members_depth ms
  members_depth-outline no_members = refl
  members_depth-outline (member key d ms) = ap₂ max (depth-outline d) (members_depth-outline ms)

pub read-compact_text : (d : Data) → HasExactNumbers d → HasRisingKeys d → depth d ≤ max_depth → read (compact_text d) ≡ Some d
read-compact_text d h k shallow =
    let j = outline d in
    let shallow' : tree.depth j ≤ max_depth = subst (λ n. n ≤ max_depth) (sym (depth-outline d)) shallow in
    let lexed = ap tokens (sym (print-outline d))
    ∙ (tokens-print (tree.json_tokens j) (ArePrintable-json_tokens j (has_numbers d h)) ∙ sym (append-nil (tree.json_tokens j))) in
    ap (λ ts. option_and_then of_json (option_and_then (λ p. json.if_last p.0 p.1) (json.value max_depth ts))) lexed
    ∙ (ap (λ o. option_and_then of_json (option_and_then (λ p. json.if_last p.0 p.1) o)) (value-json_tokens j max_depth [] shallow') ∙ data_reads d h k)
