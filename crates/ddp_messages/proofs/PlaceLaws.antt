-- What becomes of the places for an object's members as one is read after another.
use Rattle.std.proofs.Common.{◌≡◌, ◌≢◌, ℕ, ◌<◌, ◌≤◌, List, [], ◌∷◌, length, Bool, true, false, codes, cond, Option, Some, None, Ordering, Less, Equal, Greater, is_eq, refl, sym, ap, ◌∙◌, arith}
use Rattle.std.specs.Borrow.{Bor}
use Rattle.std.specs.Ordering.{match_ordering}
use Rattle.std.proofs.lemmas.Map.Lookups.{exact_bytes}
use Rattle.std.proofs.lemmas.Map.Text.{is_eq-slice_cmp}
use Rattle.std.proofs.lemmas.Slice.Eq.{bytes_eq-Decides}
use Rattle.json.specs.Token.{Token}
use Rattle.json.specs.Json.{read_key}
use Rattle.json.proofs.Grammar.{read_key-shorter}
use Rattle.value_model.specs.Val.{Val, Entries, text}
use Rattle.value_model.specs.Doc.{get, put}
use Rattle.value_model.specs.Order.{text_cmp}
use Rattle.value_model.specs.Size.{is_name}
use Rattle.ejson_value.specs.View.{view}
use Rattle.ejson_value.specs.declared.value.Value.{Value}
use Rattle.ejson_value.specs.declared.value.Value.TheVariants as shape
use Rattle.ejson_codec.specs.Plain.{ValueRead}
use Rattle.ejson_codec.specs.Reading.{max_levels}
use Rattle.ejson_codec.proofs.PlainTurns.{begins, string_read, MembersSoFar, no_member_yet, member_more, members_all}
use Rattle.ddp_messages.specs.declared.told.Told.{Told}
use Rattle.ddp_messages.specs.Plain.{Lookup}
use Rattle.ddp_messages.specs.Places.{place, text_there, document_there, list_there, found, found_from_id, found_from_collection, found_from_method, found_from_fields, found_from_params, Says, Sets, StandsRead, OtherRead, MemberRead, MembersSaid}

-- ---- a document's value at each name

-- two tests that do not both hold may be asked in either order
swapped : (b c : Bool) (x y p r : Option Val) → (b ≡ true → c ≡ true → true ≡ false) → p ≡ cond c x r → cond b y p ≡ cond c x (cond b y r)
swapped true true x y p r apart is = absurd (cc (apart refl refl))
swapped true false x y p r apart is = refl
swapped false c x y p r apart is = is

again : (b c : Bool) (x y r : Option Val) → b ≡ c → cond b x r ≡ cond c x (cond b y r)
again true true x y r same = refl
again true false x y r same = absurd (cc same)
again false true x y r same = absurd (cc same)
again false false x y r same = refl

-- a name that is both is a name that they share
shared : (q a k : List ℕ) → is_name q a ≡ true → is_name q k ≡ true → is_name k a ≡ true
shared q a k first second = (bytes_eq-Decides k a).1 (sym ((bytes_eq-Decides q k).0 second) ∙ (bytes_eq-Decides q a).0 first)

get_put : (es : Entries) (k : List ℕ) (v : Val) (q : List ℕ) → get (put es k v) q ≡ cond (is_name q k) (Some v) (get es q)
get_put [] k v q = ap (λ (b : Bool). cond b (Some v) None) (is_eq-slice_cmp q k)
get_put (e ∷ es) k v q = by (get_put es k v q) (text_cmp k e.0) refl
  where
    by : get (put es k v) q ≡ cond (is_name q k) (Some v) (get es q) → (o : Ordering) → text_cmp k e.0 ≡ o
        → get (match_ordering o ((k, v) ∷ e ∷ es) ((e.0, v) ∷ es) (e ∷ put es k v)) q ≡ cond (is_name q k) (Some v) (get (e ∷ es) q)
    by below Less is = ap (λ (b : Bool). cond b (Some v) (get (e ∷ es) q)) (is_eq-slice_cmp q k)
    by below Equal is =
        again (is_eq (text_cmp q e.0)) (is_name q k) (Some v) (Some e.1) (get es q)
        (ap (λ (n : List ℕ). is_eq (text_cmp q n)) (sym (exact_bytes k e.0 is)) ∙ is_eq-slice_cmp q k)
    by below Greater is =
        swapped (is_eq (text_cmp q e.0)) (is_name q k) (Some v) (Some e.1) (get (put es k v) q) (get es q)
        (λ (here : is_eq (text_cmp q e.0) ≡ true) (same : is_name q k ≡ true). sym (shared q e.0 k (sym (is_eq-slice_cmp q e.0) ∙ here) same) ∙ sym (is_eq-slice_cmp k e.0) ∙ ap is_eq is)
        below

-- ---- setting a place

below : (other key : List ℕ) (o : Option Val) (v : Val) (before after : Lookup)
    → is_name key other ≡ false → Sets key v before after → Sets key v (place other o before) (place other o after)
below other key o v before after apart sets q =
    swapped (is_name q other) (is_name q key) (Some v) o (after q) (before q)
    (λ (first : is_name q other ≡ true) (second : is_name q key ≡ true). sym (shared q other key first second) ∙ apart) (sets q)

unlike : (key other : List ℕ) → key ≢ other → is_name key other ≡ false
unlike key other apart = by (is_name key other) refl
  where
    by : (b : Bool) → is_name key other ≡ b → b ≡ false
    by true is = absurd (apart ((bytes_eq-Decides key other).0 is))
    by false is = refl

others_set : (es new : Entries) (key : List ℕ) (v : Val) → new ≡ put es key v → Sets key v (get es) (get new)
others_set es new key v is q = ap (λ (x : Entries). get x q) is ∙ get_put es key v q

-- ---- a member in its place

abbrev with_others : Told → Entries → Told
with_others t others = record {
  msg = t.msg;
  id = t.id;
  collection = t.collection;
  method = t.method;
  fields = t.fields;
  params = t.params;
  others = others;
}

pub other_told : (key : List ℕ) (t : Told) (new : Entries) (tokens rest : List Token)
    → key ≢ codes "msg" → key ≢ codes "id" → key ≢ codes "collection" → key ≢ codes "method" → key ≢ codes "fields" → key ≢ codes "params"
    → OtherRead key tokens rest t.others new → MemberRead key tokens rest t (with_others t new)
other_told key t new tokens rest not_msg not_id not_collection not_method not_fields not_params h =
    let u = with_others t new in (
      h.0,
      h.1,
      below (codes "msg") key (text_there t.msg) h.0 (found_from_id t) (found_from_id u) (unlike key (codes "msg") not_msg)
          (below (codes "id") key (text_there t.id) h.0 (found_from_collection t) (found_from_collection u) (unlike key (codes "id") not_id)
          (below (codes "collection") key (text_there t.collection) h.0 (found_from_method t) (found_from_method u) (unlike key (codes "collection") not_collection)
          (below (codes "method") key (text_there t.method) h.0 (found_from_fields t) (found_from_fields u) (unlike key (codes "method") not_method)
          (below (codes "fields") key (document_there t.fields) h.0 (found_from_params t) (found_from_params u) (unlike key (codes "fields") not_fields)
          (below (codes "params") key (list_there t.params) h.0 (get t.others) (get new) (unlike key (codes "params") not_params)
          (others_set t.others new key h.0 h.2)))))),
    )

-- ---- what stands in a place

pub text_stands : (old rest : List Token) (s : Bor (List ℕ)) → old ≡ Token.string s.now ∷ rest → StandsRead old rest (text_there (Some s))
text_stands old rest s is =
    (text s.now, begins max_levels old (Token.string s.now ∷ rest) rest (text s.now) (text s.now) is refl (string_read max_levels s.now rest), refl)

pub document_stands : (old rest : List Token) (v : Value) (doc : Entries) → v ≡ shape.Object doc → ValueRead max_levels old (view v) rest
    → StandsRead old rest (document_there (Some doc))
document_stands old rest v doc is read = (view v, read, ap (λ (x : Value). Some (view x)) (sym is))

pub list_stands : (old rest : List Token) (v : Value) (items : List Val) → v ≡ shape.List items → ValueRead max_levels old (view v) rest
    → StandsRead old rest (list_there (Some items))
list_stands old rest v items is read = (view v, read, ap (λ (x : Value). Some (view x)) (sym is))

-- ---- the loop over the members

said : (key : List ℕ) (v : Val) (before after : Told) (es : Entries)
    → Says before es → Sets key v (found before) (found after) → Says after (put es key v)
said key v before after es says sets q = sets q ∙ ap (λ (o : Option Val). cond (is_name q key) (Some v) o) (says q) ∙ sym (get_put es key v q)

-- of the object that starts at `start`, the members that were read are in their places, and these tokens are left
abbrev pub SaidSoFar : List Token → List Token → Told → Type 0
SaidSoFar start left told = (es : Entries) × MembersSoFar max_levels start left es × Says told es × (length left ≤ length start)

pub nothing_said : (start : List Token) (told : Told) → Says told [] → SaidSoFar start start told
nothing_said start told says = ([], no_member_yet max_levels start [] refl, says, omega arith)

pub one_more_said : (start left inner rest : List Token) (key : List ℕ) (before after : Told)
    → read_key left ≡ Some (Some key, inner) → MemberRead key inner rest before after
    → length rest < length inner → SaidSoFar start left before → SaidSoFar start rest after
one_more_said start left inner rest key before after named read shorter so_far =
    let es = put so_far.0 key read.0 in
    let less = read_key-shorter left (Some key) inner named in (
      es,
      member_more max_levels start left inner rest key so_far.0 es read.0 named read.1 shorter refl so_far.1,
      said key read.0 before after so_far.0 so_far.2 read.2,
      omega (arith, shorter, less, so_far.3),
    )

pub all_said : (start left rest : List Token) (told : Told) → read_key left ≡ Some (None, rest) → SaidSoFar start left told → MembersSaid start rest told
all_said start left rest told over so_far = (so_far.0, members_all max_levels start left rest so_far.0 over so_far.1, so_far.2)
