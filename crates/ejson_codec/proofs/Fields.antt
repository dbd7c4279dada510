-- The turns of the loop that reads an object.
use Rattle.std.proofs.Common.{◌≡◌, ℕ, List, [], ◌∷◌, ◌++◌, map, String, Global, string_bytes, string_cmp, Less, Result, Ok, Err, refl, sym, ap, ◌∙◌, subst}
use Rattle.std.proofs.lemmas.Cmp.{nat_list_cmp_total}
use Rattle.std.proofs.lemmas.List.{map-append, append_assoc, append-nil}
use Rattle.std.specs.List.{AllByRecursion}
use Rattle.std.specs.List.Sorted.{IsStrictlySortedBy}
use Rattle.std.specs.Map.{keys_of}
use Rattle.map_model.specs.OrderLaws.{put_last, IsAbove-from_sorted}
use Rattle.serde_json.specs.View.{view as json_view}
use Rattle.serde_json.specs.View.{members_view}
use Rattle.serde_json.specs.declared.value.Value.{Value as Json}
use Rattle.value_model.specs.Val.{Val, Entries}
use Rattle.value_model.specs.Order.{text_cmp}
use Rattle.value_model.specs.Doc.{put}
use Rattle.ejson_codec.specs.Reading.{with_field, reading, members_reading}
use Rattle.ejson_codec.proofs.Turns.{with_fields, with_fields-with_field, with_fields-nil}
use Rattle.ejson_codec.specs.declared.fault.EjsonFault.{EjsonFault}
use Rattle.ejson_codec.proofs.Members.{Entry}

bytes_above : (first : String Global) (ks : List (String Global)) → AllByRecursion (λ y. string_cmp first y ≡ Less) ks → AllByRecursion (λ y. text_cmp (string_bytes first) y ≡ Less) (map string_bytes ks)
bytes_above first [] h = tt
bytes_above first (k ∷ ks) h = (h.0, bytes_above first ks h.1)

pub sorted_bytes : (ks : List (String Global)) → IsStrictlySortedBy string_cmp ks → IsStrictlySortedBy text_cmp (map string_bytes ks)
unfolding IsStrictlySortedBy
sorted_bytes [] h = tt
sorted_bytes (k ∷ ks) h = (bytes_above k ks h.0, sorted_bytes ks h.1)

pub keys_of-append : {K X : Type 0} (es fs : List (K × X)) → keys_of (es ++ fs) ≡ keys_of es ++ keys_of fs
keys_of-append [] fs = refl
keys_of-append (e ∷ es) fs = ap (λ ks. e.0 ∷ ks) (keys_of-append es fs)

-- the next key is above those read so far
pub put_next : (all done rest : List Entry) (key : String Global) (tree : Json) (v : Val) (doc : Entries) → all ≡ done ++ (key, tree) ∷ rest
    → IsStrictlySortedBy string_cmp (keys_of all) → keys_of doc ≡ map string_bytes (keys_of done) → put doc (string_bytes key) v ≡ doc ++ (string_bytes key, v) ∷ []
put_next all done rest key tree v doc is sorted names =
    let whole : map string_bytes (keys_of all) ≡ keys_of doc ++ string_bytes key ∷ map string_bytes (keys_of rest) =
    ap (λ (es : List Entry). map string_bytes (keys_of es)) is ∙ ap (map string_bytes) (keys_of-append done ((key, tree) ∷ rest))
    ∙ map-append string_bytes (keys_of done) (key ∷ keys_of rest) ∙ ap (λ (ks : List (List ℕ)). ks ++ string_bytes key ∷ map string_bytes (keys_of rest)) (sym names) in
    put_last text_cmp doc (string_bytes key) v (IsAbove-from_sorted nat_list_cmp_total (keys_of doc) (string_bytes key) (map string_bytes (keys_of rest)) (subst (IsStrictlySortedBy text_cmp) whole (sorted_bytes (keys_of all) sorted)))

-- what was read so far of all members, and the answer to the rest
pub record AreRead (levels : ℕ) (all rest : List Entry) (doc : Entries) : Type 0 where
  pub done : List Entry
  pub split : all ≡ done ++ rest
  pub names : keys_of doc ≡ map string_bytes (keys_of done)
  pub answer : members_reading levels (members_view all) ≡ with_fields doc (members_reading levels (members_view rest))
  pub sorted : IsStrictlySortedBy string_cmp (keys_of all)

pub none_read : (levels : ℕ) (all rest : List Entry) (doc : Entries) → rest ≡ all → doc ≡ [] → IsStrictlySortedBy string_cmp (keys_of all) → AreRead levels all rest doc
none_read levels all rest doc is empty sorted = record {
  done = [];
  split = sym is;
  names = ap keys_of empty;
  answer = sym (ap (λ (es : Entries). with_fields es (members_reading levels (members_view rest))) empty ∙ with_fields-nil _ ∙ ap (λ (es : List Entry). members_reading levels (members_view es)) is);
  sorted = sorted;
}

pub one_more_read : (levels : ℕ) (all rest left : List Entry) (key : String Global) (tree : Json) (name : List ℕ) (v : Val) (doc new : Entries)
    → rest ≡ (key, tree) ∷ left → name ≡ string_bytes key → reading levels (json_view tree) ≡ Ok v → new ≡ put doc name v
    → AreRead levels all rest doc → AreRead levels all left new
one_more_read levels all rest left key tree name v doc new is named read put_there so_far =
    let whole : all ≡ so_far.done ++ (key, tree) ∷ left = so_far.split ∙ ap (λ (es : List Entry). so_far.done ++ es) is in
    let last : new ≡ doc ++ (string_bytes key, v) ∷ [] = put_there ∙ ap (λ (n : List ℕ). put doc n v) named ∙ put_next all so_far.done left key tree v doc whole so_far.sorted so_far.names in
    record {
      done = so_far.done ++ (key, tree) ∷ [];
      split = whole ∙ sym (append_assoc so_far.done ((key, tree) ∷ []) left);
      names = ap keys_of last ∙ keys_of-append doc ((string_bytes key, v) ∷ []) ∙ ap (λ (ks : List (List ℕ)). ks ++ string_bytes key ∷ []) so_far.names
          ∙ sym (ap (map string_bytes) (keys_of-append so_far.done ((key, tree) ∷ [])) ∙ map-append string_bytes (keys_of so_far.done) (key ∷ []));
      answer = so_far.answer ∙ ap (λ (es : List Entry). with_fields doc (members_reading levels (members_view es))) is
          ∙ ap (λ (r : Result Val EjsonFault). with_fields doc (with_field (string_bytes key) r (members_reading levels (members_view left)))) read
          ∙ with_fields-with_field doc (string_bytes key) v (members_reading levels (members_view left))
          ∙ ap (λ (es : Entries). with_fields es (members_reading levels (members_view left))) (sym last);
      sorted = so_far.sorted;
    }

pub member_fails : (levels : ℕ) (all rest left : List Entry) (key : String Global) (tree : Json) (e : EjsonFault) (doc : Entries)
    → rest ≡ (key, tree) ∷ left → reading levels (json_view tree) ≡ Err e → AreRead levels all rest doc → members_reading levels (members_view all) ≡ Err e
member_fails levels all rest left key tree e doc is refused so_far =
    so_far.answer ∙ ap (λ (es : List Entry). with_fields doc (members_reading levels (members_view es))) is
    ∙ ap (λ (r : Result Val EjsonFault). with_fields doc (with_field (string_bytes key) r (members_reading levels (members_view left)))) refused

pub all_read : (levels : ℕ) (all rest : List Entry) (doc : Entries) → rest ≡ [] → AreRead levels all rest doc → members_reading levels (members_view all) ≡ Ok doc
all_read levels all rest doc is so_far =
    so_far.answer ∙ ap (λ (es : List Entry). with_fields doc (members_reading levels (members_view es))) is ∙ ap Ok (append-nil doc)
