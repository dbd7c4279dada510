-- What was read from tokens so far, as the values that their trees read as.
use Rattle.std.proofs.Common.{◌≡◌, ℕ, ◌-◌, ◌<◌, ◌≤◌, List, [], ◌∷◌, ◌++◌, length, Bool, false, IfOk, Option, Some, None, Result, Ok, Err, Ordering, Less, Equal, Greater, nat_cmp, ℤ, refl, sym, ap, subst, ◌∙◌, arith}
use Rattle.std.specs.Ordering.{match_ordering}
use Rattle.std.specs.Cmp.Lexicographic.{slice_cmp}
use Rattle.json.specs.Token.{Token}
use Rattle.json.specs.Lex.{tokens}
use Rattle.json.specs.Json.{parse_map, after_end_array, read_key, value, items, members}
use Rattle.json.proofs.Grammar.{value_is, value-begin_array, value-begin_object, read_key-shorter}
use Rattle.serde_json.specs.Data.{Data, Items, no_items, item, Members, no_members, member, put as put_at}
use Rattle.serde_json.specs.Data as json
use Rattle.serde_json.specs.Read as json_text
use Rattle.serde_json.specs.Read.{number_of, of_json, of_items, of_members, converted}
use Rattle.value_model.specs.Val.{Val, null, boolean, int, text, list, object, vals_of, Entries, fields_of}
use Rattle.value_model.specs.Depth.{depth}
use Rattle.value_model.specs.Doc.{put}
use Rattle.value_model.specs.Size.{is_special, names_of}
use Rattle.ejson_value.specs.Results.{made}
use Rattle.ejson_value.specs.View.{view}
use Rattle.ejson_value.specs.declared.value.Value.{Value}
use Rattle.ejson_codec.specs.Shape.{keys_of_members, shape_of}
use Rattle.ejson_codec.specs.Reading.{with_item, with_field, by_shape, object_made, list_made, reading, items_reading, members_reading, max_levels, parsed, tree_parsed, as_parsed}
use Rattle.ejson_codec.specs.Reads.{Reads}
use Rattle.ejson_codec.specs.ReadingLaws.{with_field_ok, reads_ok}
use Rattle.ejson_codec.specs.WrittenLaws.{plain_names}
use Rattle.ejson_codec.specs.Plain.{NumberRead, ValueRead, ItemsRead, MembersRead, IsValueText, IsObjectText}
use Rattle.ejson_codec.specs.declared.fault.EjsonFault.{EjsonFault}
use Rattle.ejson_codec.specs.declared.shape.Shape.{Shape}
use Rattle.ejson_codec.specs.declared.shape.Shape.TheVariants.{Plain}
use Rattle.ejson_codec.proofs.Exits.{below_some}
use Rattle.ejson_codec.proofs.TokenTurns.{converted-array, converted-object, item_read, items_over, member_read, members_over, whole_read}

-- ---- at one token

-- from the token that was found
pub begins : (levels : ℕ) (old first rest : List Token) (v w : Val) → old ≡ first → v ≡ w → ValueRead levels first v rest → ValueRead levels old w rest
begins levels old first rest v w is same h =
    subst (λ (ts : List Token). ValueRead levels ts w rest) (sym is) (subst (λ (x : Val). ValueRead levels first x rest) same h)

pub null_read : (levels : ℕ) (ts : List Token) → ValueRead levels (Token.null ∷ ts) null ts
null_read levels ts depth fits = (json.null, ap (converted of_json) (value_is depth (Token.null ∷ ts)), refl)

pub boolean_read : (levels : ℕ) (b : Bool) (ts : List Token) → ValueRead levels (Token.boolean b ∷ ts) (boolean b) ts
boolean_read levels b ts depth fits = (json.boolean b, ap (converted of_json) (value_is depth (Token.boolean b ∷ ts)), refl)

pub string_read : (levels : ℕ) (s : List ℕ) (ts : List Token) → ValueRead levels (Token.string s ∷ ts) (text s) ts
string_read levels s ts depth fits = (json.string s, ap (converted of_json) (value_is depth (Token.string s ∷ ts)), refl)

pub number_read : (levels : ℕ) (s : List ℕ) (z : ℤ) (ts : List Token) → NumberRead (number_of s) z → ValueRead levels (Token.number s ∷ ts) (int z) ts
number_read levels s z ts h depth fits =
    (json.number h.0, ap (converted of_json) (value_is depth (Token.number s ∷ ts)) ∙ rw h.1 refl, ap (made int) h.2)

-- ---- lists

-- these trees, and then the rest
abbrev pub in_front : List Data → Items → Items
in_front [] rest = rest
in_front (d ∷ ds) rest = item d (in_front ds rest)

in_front-one_more : (ds : List Data) (d : Data) (rest : Items) → in_front ds (item d rest) ≡ in_front (ds ++ d ∷ []) rest
in_front-one_more [] d rest = refl
in_front-one_more (e ∷ ds) d rest = ap (item e) (in_front-one_more ds d rest)

one_more_item : (ds : List Data) (d : Data) (r : Option (Items × List Token)) → parse_map (in_front ds) (parse_map (item d) r) ≡ parse_map (in_front (ds ++ d ∷ [])) r
one_more_item ds d None = refl
one_more_item ds d (Some p) = ap (λ (x : Items). Some (x, p.1)) (in_front-one_more ds d p.0)

none_in_front : (r : Option (Items × List Token)) → r ≡ parse_map (in_front []) r
none_in_front None = refl
none_in_front (Some p) = refl

-- the trees read as the values, one by one
abbrev pub AreRead : ℕ → List Data → List Val → Type 0
AreRead levels [] vs = vs ≡ []
AreRead levels (d ∷ ds) vs = (v : Val) × (more : List Val) × (reading levels d ≡ Ok v) × AreRead levels ds more × (vs ≡ v ∷ more)

one_more_read : (levels : ℕ) (ds : List Data) (vs : List Val) (d : Data) (v : Val) → AreRead levels ds vs → reading levels d ≡ Ok v → AreRead levels (ds ++ d ∷ []) (vs ++ v ∷ [])
one_more_read levels [] vs d v h read = (v, [], read, refl, ap (λ (x : List Val). x ++ v ∷ []) h)
one_more_read levels (e ∷ ds) vs d v h read = (h.0, h.1 ++ v ∷ [], h.2, one_more_read levels ds h.1 d v h.3 read, ap (λ (x : List Val). x ++ v ∷ []) h.4)

all_read : (levels : ℕ) (ds : List Data) (vs : List Val) → AreRead levels ds vs → items_reading levels (in_front ds no_items) ≡ Ok vs
all_read levels [] vs h = ap (λ (x : List Val). Ok x) (sym h)
all_read levels (d ∷ ds) vs h =
    ap (λ (r : Result Val EjsonFault). with_item r (items_reading levels (in_front ds no_items))) h.2
    ∙ ap (made (λ (x : List Val). h.0 ∷ x)) (all_read levels ds h.1 h.3) ∙ ap (λ (x : List Val). Ok x) (sym h.4)

-- of the list that starts at `start`, these values were read, and these tokens are left
pub record ListSoFar (depth levels : ℕ) (start left : List Token) (vs : List Val) : Type 0 where
  pub turns : ℕ
  pub enough : length left ≤ turns
  pub done : List Data
  pub all : converted of_items (items (value depth) (length start) start) ≡ parse_map (in_front done) (converted of_items (items (value depth) turns left))
  pub read : AreRead levels done vs

abbrev pub ItemsSoFar : ℕ → List Token → List Token → List Val → Type 0
ItemsSoFar levels start left vs = (depth : ℕ) → levels ≤ depth → ListSoFar depth levels start left vs

pub no_item_yet : (levels : ℕ) (start : List Token) (vs : List Val) → vs ≡ [] → ItemsSoFar levels start start vs
no_item_yet levels start vs none depth fits = record {
  turns = length start;
  enough = omega arith;
  done = [];
  all = none_in_front _;
  read = none;
}

pub item_more : (levels : ℕ) (start left rest : List Token) (vs new : List Val) (v : Val) → after_end_array left ≡ None → ValueRead levels left v rest → length rest < length left
    → new ≡ vs ++ v ∷ [] → ItemsSoFar levels start left vs → ItemsSoFar levels start rest new
item_more levels start left rest vs new v going read shorter is so_far depth fits =
    let old = so_far depth fits in
    let one = read depth fits in
    let turn = item_read (value depth) old.turns left rest one.0 (omega (arith, shorter, old.enough)) going one.1 in
    record {
      turns = old.turns - 1;
      enough = omega (arith, shorter, old.enough);
      done = old.done ++ one.0 ∷ [];
      all = old.all ∙ ap (parse_map (in_front old.done)) turn ∙ one_more_item old.done one.0 _;
      read = subst (λ (x : List Val). AreRead levels (old.done ++ one.0 ∷ []) x) (sym is) (one_more_read levels old.done vs one.0 v old.read one.2);
    }

pub items_all : (levels : ℕ) (start left rest : List Token) (vs : List Val) → after_end_array left ≡ Some rest → ItemsSoFar levels start left vs → ItemsRead levels start vs rest
items_all levels start left rest vs over so_far depth fits =
    let old = so_far depth fits in (
      in_front old.done no_items,
      old.all ∙ ap (parse_map (in_front old.done)) (items_over (value depth) old.turns left rest old.enough over),
      all_read levels old.done vs old.read,
    )

pub list_read : (levels : ℕ) (ts rest : List Token) (vs : List Val) → 0 < levels → ItemsRead (levels - 1) ts vs rest → ValueRead levels (Token.begin_array ∷ ts) (list (vals_of vs)) rest
list_read levels ts rest vs some inside depth fits =
    let one = inside (depth - 1) (omega (arith, some, fits)) in (
      json.array one.0,
      ap (converted of_json) (value-begin_array depth ts (omega (arith, some, fits))) ∙ converted-array (items (value (depth - 1)) (length ts) ts) ∙ ap (parse_map json.array) one.1,
      ap list_made (below_some levels (λ left. items_reading left one.0) (λ (none : levels ≡ 0). omega (arith, some, none)) ∙ one.2),
    )

-- ---- objects

made_ordering : (o : Ordering) (levels : ℕ) (a b c : Members) (x y z : Entries) → members_reading levels a ≡ Ok x → members_reading levels b ≡ Ok y → members_reading levels c ≡ Ok z
    → members_reading levels (match_ordering o a b c) ≡ Ok (match_ordering o x y z)
made_ordering Less levels a b c x y z ha hb hc = ha
made_ordering Equal levels a b c x y z ha hb hc = hb
made_ordering Greater levels a b c x y z ha hb hc = hc

first_read : (levels : ℕ) (k : List ℕ) (d : Data) (v : Val) (ms : Members) (es : Entries) → reading levels d ≡ Ok v → members_reading levels ms ≡ Ok es
    → members_reading levels (member k d ms) ≡ Ok ((k, v) ∷ es)
first_read levels k d v ms es read rest =
    ap (λ (r : Result Val EjsonFault). with_field k r (members_reading levels ms)) read ∙ ap (made (λ (x : Entries). (k, v) ∷ x)) rest

-- a member that is put where it belongs reads as the value that is put there
put_read : (levels : ℕ) (k : List ℕ) (d : Data) (v : Val) (ms : Members) (es : Entries) → reading levels d ≡ Ok v → members_reading levels ms ≡ Ok es
    → members_reading levels (put_at k d ms) ≡ Ok (put es k v)
put_read levels k d v no_members es read rest =
    let none : [] ≡ es = cc rest in
    first_read levels k d v no_members [] read refl ∙ ap (λ (x : Entries). Ok (put x k v)) none
put_read levels k d v (member l e ms) es read rest =
    let p = with_field_ok l (reading levels e) (members_reading levels ms) es rest in
    let first = p.0 in
    let more = p.1 in
    made_ordering (slice_cmp nat_cmp k l) levels (member k d (member l e ms)) (member l d ms) (member l e (put_at k d ms)) ((k, v) ∷ (l, first) ∷ more) ((l, v) ∷ more) ((l, first) ∷ put more k v)
    (first_read levels k d v (member l e ms) ((l, first) ∷ more) read (first_read levels l e first ms more p.2 p.3))
    (first_read levels l d v ms more read p.3)
    (first_read levels l e first (put_at k d ms) (put more k v) p.2 (put_read levels k d v ms more read p.3))
    ∙ ap (λ (x : Entries). Ok (put x k v)) (sym p.4)

-- the keys stand for the names
names_read : (levels : ℕ) (ms : Members) (es : Entries) → members_reading levels ms ≡ Ok es → keys_of_members ms ≡ names_of (fields_of es)
names_read levels no_members es h = let none : [] ≡ es = cc h in ap (λ (x : Entries). names_of (fields_of x)) none
names_read levels (member k d ms) es h =
    let p = with_field_ok k (reading levels d) (members_reading levels ms) es h in
    ap (λ (ks : List (List ℕ)). k ∷ ks) (names_read levels ms p.1 p.3) ∙ ap (λ (x : Entries). names_of (fields_of x)) (sym p.4)

-- of the object that starts at `start`, these fields were read, and these tokens are left
pub record ObjectSoFar (depth levels : ℕ) (start left : List Token) (es : Entries) : Type 0 where
  pub turns : ℕ
  pub enough : length left ≤ turns
  pub found : Members
  pub all : converted (λ ms. of_members ms no_members) (members (value depth) (length start) start) ≡ converted (λ ms. of_members ms found) (members (value depth) turns left)
  pub read : members_reading levels found ≡ Ok es

abbrev pub MembersSoFar : ℕ → List Token → List Token → Entries → Type 0
MembersSoFar levels start left es = (depth : ℕ) → levels ≤ depth → ObjectSoFar depth levels start left es

pub no_member_yet : (levels : ℕ) (start : List Token) (es : Entries) → es ≡ [] → MembersSoFar levels start start es
no_member_yet levels start es none depth fits = record {
  turns = length start;
  enough = omega arith;
  found = no_members;
  all = refl;
  read = ap (λ (x : Entries). Ok x) (sym none);
}

pub member_more : (levels : ℕ) (start left inner rest : List Token) (k : List ℕ) (es new : Entries) (v : Val) → read_key left ≡ Some (Some k, inner) → ValueRead levels inner v rest
    → length rest < length inner → new ≡ put es k v → MembersSoFar levels start left es → MembersSoFar levels start rest new
member_more levels start left inner rest k es new v key read shorter is so_far depth fits =
    let old = so_far depth fits in
    let one = read depth fits in
    let less = read_key-shorter left (Some k) inner key in
    record {
      turns = old.turns - 1;
      enough = omega (arith, shorter, less, old.enough);
      found = put_at k one.0 old.found;
      all = old.all ∙ member_read (value depth) old.found old.turns k left inner rest one.0 (omega (arith, less, old.enough)) key one.1;
      read = put_read levels k one.0 v old.found es one.2 old.read ∙ ap (λ (x : Entries). Ok x) (sym is);
    }

pub members_all : (levels : ℕ) (start left rest : List Token) (es : Entries) → read_key left ≡ Some (None, rest) → MembersSoFar levels start left es → MembersRead levels start es rest
members_all levels start left rest es over so_far depth fits =
    let old = so_far depth fits in
    (old.found, old.all ∙ members_over (value depth) old.found old.turns left rest old.enough over, old.read)

object_at : (shape : Shape) → shape ≡ Plain → (a b c d e : Result Val EjsonFault) → by_shape shape a b c d e ≡ a
object_at shape is a b c d e = rw is refl

pub object_read : (levels : ℕ) (ts rest : List Token) (es : Entries) → 0 < levels → MembersRead (levels - 1) ts es rest → is_special (names_of (fields_of es)) ≡ false
    → ValueRead levels (Token.begin_object ∷ ts) (object (fields_of es)) rest
object_read levels ts rest es some inside plain depth fits =
    let one = inside (depth - 1) (omega (arith, some, fits)) in
    let names = names_read (levels - 1) one.0 es one.2 in
    let shape : shape_of (keys_of_members one.0) ≡ Plain = plain_names (keys_of_members one.0) (ap is_special names ∙ plain) in (
      json.object one.0,
      ap (converted of_json) (value-begin_object depth ts (omega (arith, some, fits))) ∙ converted-object (members (value (depth - 1)) (length ts) ts) ∙ ap (parse_map json.object) one.1,
      object_at (shape_of (keys_of_members one.0)) shape _ _ _ _ _ ∙ ap object_made (below_some levels (λ left. members_reading left one.0) (λ (none : levels ≡ 0). omega (arith, some, none)) ∙ one.2),
    )

pub object_found : {E : Type 0} (r : Result Value E) (levels : ℕ) (old ts rest : List Token) (es : Entries) → IfOk r (λ v. is_special (names_of (fields_of es)) ≡ false) → IfOk r (λ v. view v ≡ object (fields_of es))
    → old ≡ Token.begin_object ∷ ts → 0 < levels → MembersRead (levels - 1) ts es rest → IfOk r (λ v. ValueRead levels old (view v) rest)
object_found (Ok v) levels old ts rest es plain is first some inside =
    begins levels old (Token.begin_object ∷ ts) rest (object (fields_of es)) (view v) first (sym is) (object_read levels ts rest es some inside plain)
object_found (Err e) levels old ts rest es plain is first some inside = tt

-- ---- the whole text

pub text_read : (input : List ℕ) (old rest : List Token) (v : Val) → old ≡ tokens input → rest ≡ [] → ValueRead max_levels old v rest → IsValueText input v
text_read input old rest v is over h =
    let one = h 127 (omega arith) in
    (one.0, whole_read (value 127 (tokens input)) one.0 (ap (λ (ts : List Token). converted of_json (value 127 ts)) (sym is) ∙ one.1 ∙ ap (λ (ts : List Token). Some (one.0, ts)) over), one.2)

pub object_text_read : (input : List ℕ) (old ts rest : List Token) (es : Entries) → old ≡ tokens input → old ≡ Token.begin_object ∷ ts → rest ≡ [] → MembersRead max_levels ts es rest → IsObjectText input es
object_text_read input old ts rest es is first over h =
    let one = h 126 (omega arith) in
    let opened = ap (converted of_json) (value-begin_object 127 ts (omega arith)) ∙ converted-object (members (value 126) (length ts) ts) ∙ ap (parse_map json.object) one.1 in
    (one.0, whole_read (value 127 (tokens input)) (json.object one.0) (ap (λ (ts : List Token). converted of_json (value 127 ts)) (sym is ∙ first) ∙ opened ∙ ap (λ (ts : List Token). Some (json.object one.0, ts)) over), one.2)

pub value_text_parsed : (input : List ℕ) (v : Val) → IsValueText input v → parsed input ≡ Ok v
value_text_parsed input v h = ap tree_parsed h.1 ∙ ap as_parsed h.2

pub value_text_found : (input : List ℕ) (v : Val) → IsValueText input v → (d : Data) × (json_text.read input ≡ Some d) × Reads d v × (depth v ≤ max_levels)
value_text_found input v h = let p = reads_ok max_levels h.0 v h.2 in (h.0, h.1, p.0, p.1)
