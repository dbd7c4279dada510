-- Laws: What a text reads as is a value of the program, of at most 32 levels.
use Rattle.std.specs.Prelude.{◌≡◌, ℕ, List, ◌∷◌, Bool, true, false, Option, Some, None, IfSome, option_map, option_and_then, Result, Ok, Err, refl}
use Rattle.std.specs.Prelude.{if◌then◌else◌}
use Rattle.std.specs.Map.{keys_of}
use Rattle.std.specs.BTreeMap.{insert_entry}
use Rattle.std.specs.List.Sorted.{IsStrictlySortedBy}
use Rattle.std.specs.declared.cmp.Ordering.{Ordering}
use Rattle.std.specs.declared.cmp.Ordering.TheVariants.{Less, Equal, Greater}
use Rattle.std.specs.Ordering.{match_ordering}
use Rattle.std.specs.Result.{result_ok}
use Rattle.std.specs.Str.{is_utf8}
use Rattle.std.proofs.Common.{ap, sym, subst, ◌∙◌}
use Rattle.map_model.specs.Maps.{IsSorted}
use Rattle.map_model.specs.MapLaws.{sorted-nil, sorted-put}
use Rattle.json.specs.Lex.{tokens}
use Rattle.json.specs.Json as json
use Rattle.serde_json.specs.Data.{Data, number, array, object, item, Members, no_members, member, put}
use Rattle.serde_json.specs.Read as json_text
use Rattle.serde_json.specs.Read.{number_of, of_json, of_items, of_members}
use Rattle.value_model.specs.Val.{Val}
use Rattle.value_model.specs.Order.{text_cmp}
use Rattle.ejson_value.specs.Key.{name_order}
use Rattle.ejson_codec.specs.Shape.{keys_of_members}
use Rattle.ejson_codec.specs.Trees.{HasRisingKeys, ItemsHaveRisingKeys, MembersHaveRisingKeys}
use Rattle.ejson_codec.specs.Reading.{max_levels, reading, as_parsed, tree_parsed, parsed}
use Rattle.ejson_codec.specs.ReadingLaws.{reads_ok}
use Rattle.ejson_codec.specs.ValueLaws.{reads_valid}
use Rattle.ejson_codec.specs.declared.fault.EjsonFault.{EjsonFault}
use Rattle.ejson_codec.specs.declared.fault.ParseFault.{ParseFault}
use Rattle.replay_core.specs.ValuesRead.{IsRead, Rise, members_of}

-- ---- options

-- what is so of each answer
pub from_any : {A B : Type 0} (o : Option A) (f : A → Option B) (Q : B → Type 0) → ((a : A) → IfSome (f a) Q) → IfSome (option_and_then f o) Q
from_any None f Q next = tt
from_any (Some a) f Q next = next a

-- what is so where it is so of what came before
pub from_one : {A B : Type 0} (o : Option A) (f : A → Option B) (P : A → Type 0) (Q : B → Type 0) → IfSome o P → ((a : A) → P a → IfSome (f a) Q) →
    IfSome (option_and_then f o) Q
from_one None f P Q is next = tt
from_one (Some a) f P Q is next = next a is

pub made_any : {A B : Type 0} (f : A → B) (o : Option A) (Q : B → Type 0) → ((a : A) → Q (f a)) → IfSome (option_map f o) Q
made_any f None Q next = tt
made_any f (Some a) Q next = next a

pub made_one : {A B : Type 0} (f : A → B) (o : Option A) (P : A → Type 0) (Q : B → Type 0) → IfSome o P → ((a : A) → P a → Q (f a)) →
    IfSome (option_map f o) Q
made_one f None P Q is next = tt
made_one f (Some a) P Q is next = next a is

-- ---- members that are put in one after another

same_keys : (ms : Members) → keys_of (members_of ms) ≡ keys_of_members ms
same_keys no_members = refl
same_keys (member key d ms) = ap (λ (keys : List (List ℕ)). key ∷ keys) (same_keys ms)

of_either : (o : Ordering) (a b c : Members) → members_of (match_ordering o a b c) ≡ match_ordering o (members_of a) (members_of b) (members_of c)
of_either Less a b c = refl
of_either Equal a b c = refl
of_either Greater a b c = refl

put_inserts : (key : List ℕ) (d : Data) (ms : Members) → members_of (put key d ms) ≡ insert_entry text_cmp (members_of ms) key d
put_inserts key d no_members = refl
put_inserts key d (member other e ms) =
    of_either (text_cmp key other) (member key d (member other e ms)) (member other d ms) (member other e (put key d ms))
    ∙ ap (λ (es : List (List ℕ × Data)).
    match_ordering (text_cmp key other) ((key, d) ∷ (other, e) ∷ members_of ms) ((other, d) ∷ members_of ms) ((other, e) ∷ es))
    (put_inserts key d ms)

inside_rise : (key : List ℕ) (d : Data) (ms : Members) → HasRisingKeys d → MembersHaveRisingKeys ms → MembersHaveRisingKeys (put key d ms)
inside_rise key d no_members one all = (one, tt)
inside_rise key d (member other e ms) one all =
    let both = member key d (member other e ms) in
    let behind = member other e (put key d ms) in
    elim (text_cmp key other) as (λ (o : Ordering). MembersHaveRisingKeys (match_ordering o both (member other d ms) behind)) [
      | Less ↦ (one, all)
      | Equal ↦ (one, all.1)
      | Greater ↦ (all.0, inside_rise key d ms one all.1)
    ]

put_rises : (key : List ℕ) (d : Data) (ms : Members) → HasRisingKeys d → Rise ms → Rise (put key d ms)
put_rises key d ms one all =
    let before : IsSorted text_cmp (members_of ms) = subst (IsStrictlySortedBy text_cmp) (sym (same_keys ms)) all.0 in
    let after : IsSorted text_cmp (members_of (put key d ms)) =
    subst (IsSorted text_cmp) (sym (put_inserts key d ms)) (sorted-put name_order (members_of ms) key d before) in
    (subst (IsStrictlySortedBy text_cmp) (same_keys (put key d ms)) after, inside_rise key d ms one all.1)

-- ---- trees that are read

mutual
  tree_rises : (j : json.Json) → IfSome (of_json j) HasRisingKeys
  tree_rises json.null = tt
  tree_rises (json.boolean b) = tt
  tree_rises (json.number s) = made_any number (number_of s) HasRisingKeys (λ n. tt)
  tree_rises (json.string s) = tt
  tree_rises (json.array js) = made_one array (of_items js) ItemsHaveRisingKeys HasRisingKeys (items_rise js) (λ ds rise. rise)
  tree_rises (json.object ms) =
      made_one object (of_members ms no_members) Rise HasRisingKeys (members_rise ms no_members (sorted-nil text_cmp, tt)) (λ fs rise. rise)

  items_rise : (js : json.Items) → IfSome (of_items js) ItemsHaveRisingKeys
  items_rise json.no_items = tt
  items_rise (json.item j js) =
      from_one (of_json j) (λ d. option_map (item d) (of_items js)) HasRisingKeys ItemsHaveRisingKeys (tree_rises j) (λ d one.
      made_one (item d) (of_items js) ItemsHaveRisingKeys ItemsHaveRisingKeys (items_rise js) (λ ds all. (one, all)))

  members_rise : (ms : json.Members) (found : Members) → Rise found → IfSome (of_members ms found) Rise
  members_rise json.no_members found rise = rise
  members_rise (json.member key j ms) found rise =
      from_one (of_json j) (λ d. of_members ms (put key d found)) HasRisingKeys Rise (tree_rises j) (λ d one.
      members_rise ms (put key d found) (put_rises key d found one rise))

read_rises : (input : List ℕ) → IfSome (json_text.read input) HasRisingKeys
read_rises input =
    from_any (option_and_then (λ p. json.if_last p.0 p.1) (json.value json_text.max_depth (tokens input))) of_json HasRisingKeys tree_rises

-- ---- values

read_so : (r : Result Val EjsonFault) (v : Val) → as_parsed r ≡ Ok v → r ≡ Ok v
read_so (Ok w) v is = let same : w ≡ v = cc is in ap (λ x. Ok x) same
read_so (Err e) v is = absurd (cc is)

tree_is : (o : Option Data) (v : Val) → IfSome o HasRisingKeys → tree_parsed o ≡ Ok v → IsRead v
tree_is None v rises is = absurd (cc is)
tree_is (Some d) v rises is =
    let p = reads_ok max_levels d v (read_so (reading max_levels d) v is) in record { value = reads_valid d v p.0 rises; shallow = p.1 }

pub parsed_is : (line : List ℕ) (v : Val) → parsed line ≡ Ok v → IsRead v
parsed_is line v is = tree_is (json_text.read line) v (read_rises line) is

text_is : (b : Bool) (r : Result Val ParseFault) → ((v : Val) → r ≡ Ok v → IsRead v) → IfSome (if b then result_ok r else None) IsRead
text_is true (Ok v) next = next v refl
text_is true (Err e) next = tt
text_is false r next = tt

-- what a line reads as, where it is UTF-8
pub line_is : (line : List ℕ) → IfSome (if is_utf8 line then result_ok (parsed line) else None) IsRead
line_is line = text_is (is_utf8 line) (parsed line) (parsed_is line)
