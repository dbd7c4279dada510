-- Laws: What is read as a value of EJSON is one, where the keys of each object rise; so are the values in messages from clients.
use Rattle.std.specs.Prelude.{◌≡◌, ℕ, ℤ, List, [], ◌∷◌, length, codes, Bool, true, false, ◌&&◌, nat_le, Option, None, Some, IfSome, option_map}
use Rattle.std.specs.Prelude.{option_and_then, Result, Ok, Err, refl, if◌then◌else◌}
use Rattle.std.specs.List.Sorted.{IsStrictlySortedBy}
use Rattle.std.specs.Ordering.{nat_cmp, match_ordering}
use Rattle.std.specs.declared.cmp.Ordering.TheVariants.{Less, Equal, Greater}
use Rattle.std.specs.Cmp.Lexicographic.{slice_cmp}
use Rattle.std.proofs.Common.{ap, sym, subst}
use Rattle.std.proofs.lemmas.Bool.{leb-true}
use Rattle.serde_json.specs.Data.{Num, unsigned, negative, float, Data, Items, no_items, item, Members, no_members, member}
use Rattle.serde_json.specs.Data as json
use Rattle.serde_json.specs.Find.{get, get_member, as_str}
use Rattle.value_model.specs.Val.{Val, date, object, user, vals_of, Entries, fields_of}
use Rattle.value_model.specs.Order.{text_cmp}
use Rattle.value_model.specs.Size.{is_name}
use Rattle.value_model.specs.Valid.{IsWhole, IsValue, AreValues}
use Rattle.value_model.specs.ValidLaws.{IsValue-object}
use Rattle.ejson_codec.specs.Shape.{keys_of_members, shape_of_one, shape_of_two, shape_of, first_of}
use Rattle.ejson_codec.specs.Trees.{HasRisingKeys, ItemsHaveRisingKeys, MembersHaveRisingKeys}
use Rattle.ejson_codec.specs.Reads.{IsAccepted, IsDate, IsBinary, IsNamed, ByShape, Reads, ItemsRead, MembersRead, EscapeReads, UserReads}
use Rattle.ejson_codec.specs.Reading.{max_levels, reading}
use Rattle.ejson_codec.specs.ReadingLaws.{reads_ok}
use Rattle.ejson_codec.specs.declared.fault.EjsonFault.{EjsonFault}
use Rattle.ddp_messages.specs.Forms.{max_id, short_enough, id_of, with_first, each_of, ok_of, value_of, values_of}
use Rattle.ddp_messages.specs.Fields.{or_default, may_be}
use Rattle.ddp_messages.specs.Limits.{IsShort, IsShallow}
use Rattle.ddp_messages.specs.ClientMessage.{ClientMessage, ClientReads, client_reading}
use Rattle.ddp_messages.specs.ClientMessage as client
use Rattle.ddp_messages.specs.ClientLaws.{client_ok}
use Rattle.world_values_laws.specs.ReadValues.{AreLike, AreRead, IsFine, IsRead}

-- ---- by what an object stands for

one_of : {O : Type 0} (b : Bool) (x y : O) (P : O → Type 0) → P x → P y → P (if b then x else y)
one_of true x y P f g = f
one_of false x y P f g = g

shaped : (X : Type 0) (keys : List (List ℕ)) (A B C D E : Type 0) → (A → X) → (B → X) → (C → X) → (D → X) → (E → X) → ByShape (shape_of keys) A B C D E → X
shaped X [] A B C D E a b c d e h = a h
shaped X (key ∷ []) A B C D E a b c d e h =
    let unsupported = if is_name key (codes "$InfNaN") then shape_of_one (codes "$InfNaN") else shape_of_one [] in
    let escapes = if is_name key (codes "$escape") then shape_of_one (codes "$escape") else unsupported in
    let binaries = if is_name key (codes "$binary") then shape_of_one (codes "$binary") else escapes in
    one_of (is_name key (codes "$date")) (shape_of_one (codes "$date")) binaries (λ o. ByShape o A B C D E → X) b
    (one_of (is_name key (codes "$binary")) (shape_of_one (codes "$binary")) escapes (λ o. ByShape o A B C D E → X) c
    (one_of (is_name key (codes "$escape")) (shape_of_one (codes "$escape")) unsupported (λ o. ByShape o A B C D E → X) d
    (one_of (is_name key (codes "$InfNaN")) (shape_of_one (codes "$InfNaN")) (shape_of_one []) (λ o. ByShape o A B C D E → X) (λ x. absurd x) a))) h
shaped X (first ∷ second ∷ []) A B C D E a b c d e h =
    let users = if is_name first (codes "$type")
    && is_name second (codes "$value") then shape_of_two (codes "$type") (codes "$value") else shape_of_two [] [] in
    one_of (is_name first (codes "$flags") && is_name second (codes "$regexp")) (shape_of_two (codes "$flags") (codes "$regexp")) users
    (λ o. ByShape o A B C D E → X) (λ x. absurd x)
    (one_of (is_name first (codes "$type") && is_name second (codes "$value")) (shape_of_two (codes "$type") (codes "$value")) (shape_of_two [] [])
    (λ o. ByShape o A B C D E → X) e a) h
shaped X (first ∷ second ∷ third ∷ more) A B C D E a b c d e h = a h

-- ---- values

accepted_is : (n : Num) (z : ℤ) → IsAccepted n z → IsWhole z
accepted_is (unsigned n) z h = h.1
accepted_is (negative y) z h = h.1
accepted_is (float x) z h = absurd h

date_is : (d : Data) (v : Val) → IsDate d v → IsValue v
date_is (json.number n) v h = subst IsValue (sym h.2) (accepted_is n h.0 h.1)
date_is d v h = absurd h

binary_is : (d : Data) (v : Val) → IsBinary d v → IsValue v
binary_is (json.string s) v h = subst IsValue (sym h.3) h.2
binary_is d v h = absurd h

user_is : (named : Data) (name : List ℕ) (w v : Val) → IsNamed named name → IsValue w → v ≡ user name w → IsValue v
user_is (json.string s) name w v h one e = subst IsValue (sym e) (h.1, one)
user_is d name w v h one e = absurd h

object_is : (ms : Members) (es : Entries) (v : Val) → IsStrictlySortedBy text_cmp (keys_of_members ms) → AreLike ms es → v ≡ object (fields_of es) → IsValue v
object_is ms es v rise like e =
    subst IsValue (sym e) (IsValue-object es (record { names = subst (IsStrictlySortedBy text_cmp) (sym like.1) rise; values = like.0 }))

mutual
  read_is : (d : Data) (v : Val) → HasRisingKeys d → Reads d v → IsValue v
  read_is json.null v r h = subst IsValue (sym h) tt
  read_is (json.boolean b) v r h = subst IsValue (sym h) tt
  read_is (json.number n) v r h = subst IsValue (sym h.2) (accepted_is n h.0 h.1)
  read_is (json.string s) v r h = subst IsValue (sym h) tt
  read_is (json.array ds) v r h = subst IsValue (sym h.2) (items_are ds h.0 r h.1)
  read_is (json.object ms) v r h =
      let fields = λ (es : Entries) (m : MembersRead ms es). members_are ms es r.1 m in
      let escaped = λ (m : EscapeReads ms v). escape_is ms v r.1 m in
      let of_user = λ (m : UserReads ms v). of_user_is ms v r.1 m in
      shaped (IsValue v) (keys_of_members ms) ((es : Entries) × MembersRead ms es × (v ≡ object (fields_of es))) (IsDate (first_of ms) v)
      (IsBinary (first_of ms) v) (EscapeReads ms v) (UserReads ms v)
      (λ p. object_is ms p.0 v r.0 (fields p.0 p.1) p.2) (date_is (first_of ms) v) (binary_is (first_of ms) v) escaped of_user h

  items_are : (ds : Items) (vs : List Val) → ItemsHaveRisingKeys ds → ItemsRead ds vs → AreValues (vals_of vs)
  items_are no_items vs r h = subst (λ (ws : List Val). AreValues (vals_of ws)) (sym h) tt
  items_are (item d ds) vs r h = subst (λ (ws : List Val). AreValues (vals_of ws)) (sym h.4) (read_is d h.0 r.0 h.2, items_are ds h.1 r.1 h.3)

  members_are : (ms : Members) (es : Entries) → MembersHaveRisingKeys ms → MembersRead ms es → AreLike ms es
  members_are no_members es r h = subst (AreLike no_members) (sym h) (tt, refl)
  members_are (member key d ms) es r h =
      let rest = members_are ms h.1 r.1 h.3 in
      subst (AreLike (member key d ms)) (sym h.4) ((read_is d h.0 r.0 h.2, rest.0), ap (λ (ks : List (List ℕ)). key ∷ ks) rest.1)

  escape_is : (ms : Members) (v : Val) → MembersHaveRisingKeys ms → EscapeReads ms v → IsValue v
  escape_is (member key (json.object inner) ms) v r h = object_is inner h.0 v r.0.0 (members_are inner h.0 r.0.1 h.1) h.2
  escape_is ms v r h = absurd h

  of_user_is : (ms : Members) (v : Val) → MembersHaveRisingKeys ms → UserReads ms v → IsValue v
  of_user_is (member key named (member other d ms)) v r h = user_is named h.0 h.1 v h.2 (read_is d h.1 r.1.0 h.3) h.4
  of_user_is ms v r h = absurd h

ok_found : {A : Type 0} (r : Result A EjsonFault) (a : A) → ok_of r ≡ Some a → r ≡ Ok a
ok_found (Ok b) a e = ap Ok (cc e)
ok_found (Err x) a e = absurd (cc e)

pub value_is : (d : Data) (v : Val) → HasRisingKeys d → value_of d ≡ Some v → IsRead v
value_is d v r e = let p = reads_ok max_levels d v (ok_found (reading max_levels d) v e) in (read_is d v r p.0, p.1)

-- ---- the fields of a message

first_found : {A : Type 0} (o : Option A) (rest : Option (List A)) (all : List A) → with_first o rest ≡ Some all →
    (a : A) × (more : List A) × (o ≡ Some a) × (rest ≡ Some more) × (a ∷ more ≡ all)
first_found None rest all e = absurd (cc e)
first_found (Some a) None all e = absurd (cc e)
first_found (Some a) (Some more) all e = (a, more, refl, refl, cc e)

each_is : (ds : Items) (vs : List Val) → ItemsHaveRisingKeys ds → each_of value_of ds ≡ Some vs → AreRead vs
each_is no_items vs r e = let none : [] ≡ vs = cc e in subst AreRead none (tt, tt)
each_is (item d ds) vs r e =
    let p = first_found (value_of d) (each_of value_of ds) vs e in
    let one = value_is d p.0 r.0 p.2 in
    let rest = each_is ds p.1 r.1 p.3 in
    subst AreRead p.4 ((one.0, rest.0), (one.1, rest.1))

list_is : (d : Data) (vs : List Val) → HasRisingKeys d → values_of d ≡ Some vs → AreRead vs
list_is (json.array ds) vs r e = each_is ds vs r e
list_is d vs r e = absurd (cc e)

member_rises : (key : List ℕ) (ms : Members) → MembersHaveRisingKeys ms → IfSome (get_member key ms) HasRisingKeys
member_rises key no_members r = tt
member_rises key (member other d ms) r =
    elim (slice_cmp nat_cmp key other) as (λ o. IfSome (match_ordering o (get_member key ms) (Some d) (get_member key ms)) HasRisingKeys) [
      | Less ↦ member_rises key ms r.1
      | Equal ↦ r.0
      | Greater ↦ member_rises key ms r.1
    ]

field_rises : (key : List ℕ) (d : Data) → HasRisingKeys d → IfSome (get key d) HasRisingKeys
field_rises key (json.object ms) r = member_rises key ms r.1
field_rises key d r = tt

shortened : (s id : List ℕ) (b : Bool) → nat_le (length s) max_id ≡ b → (if b then Some s else None) ≡ Some id → IsShort id
shortened s id false is e = absurd (cc e)
shortened s id true is e = let same : s ≡ id = cc e in subst IsShort same (leb-true (length s) max_id is)

short_text : (o : Option (List ℕ)) (id : List ℕ) → option_and_then short_enough o ≡ Some id → IsShort id
short_text None id e = absurd (cc e)
short_text (Some s) id e = shortened s id (nat_le (length s) max_id) refl e

id_is : (o : Option Data) (id : List ℕ) → option_and_then id_of o ≡ Some id → IsShort id
id_is None id e = absurd (cc e)
id_is (Some d) id e = short_text (as_str d) id e

params_are : (o : Option Data) (vs : List Val) → IfSome o HasRisingKeys → or_default [] values_of o ≡ Some vs → AreRead vs
params_are None vs r e = let none : [] ≡ vs = cc e in subst AreRead none (tt, tt)
params_are (Some d) vs r e = list_is d vs r e

mapped : (o : Option Val) (seed : Option Val) → option_map Some o ≡ Some seed → (P : Val → Type 0) → ((v : Val) → o ≡ Some v → P v) → IfSome seed P
mapped None seed e P f = absurd (cc e)
mapped (Some v) seed e P f = let same : Some v ≡ seed = cc e in subst (λ (o : Option Val). IfSome o P) same (f v refl)

seed_is : (o : Option Data) (seed : Option Val) → IfSome o HasRisingKeys → may_be value_of o ≡ Some seed → IfSome seed IsRead
seed_is None seed r e = let none : None ≡ seed = cc e in subst (λ (o : Option Val). IfSome o IsRead) none tt
seed_is (Some d) seed r e = mapped (value_of d) seed e IsRead (λ v is. value_is d v r is)

first_part : (o : Option Val) → IfSome o IsRead → IfSome o IsValue × IfSome o IsShallow
first_part None is = (tt, tt)
first_part (Some v) is = is

-- ---- messages

table_is : (d : Data) (m : ClientMessage) → HasRisingKeys d → ClientReads d m → IsFine m
table_is d (client.connect version support) r h = record { values = tt; limits = tt }
table_is d (client.ping id) r h = record { values = tt; limits = tt }
table_is d (client.pong id) r h = record { values = tt; limits = tt }
table_is d (client.sub id name params) r h =
    let read = params_are (get (codes "params") d) params (field_rises (codes "params") d r) h.3 in
    record { values = read.0; limits = (id_is (get (codes "id") d) id h.1, read.1) }
table_is d (client.unsub id) r h = record { values = tt; limits = id_is (get (codes "id") d) id h.1 }
table_is d (client.method id name params seed) r h =
    let read = params_are (get (codes "params") d) params (field_rises (codes "params") d r) h.3 in
    let given = first_part seed (seed_is (get (codes "randomSeed") d) seed (field_rises (codes "randomSeed") d r) h.4) in
    record { values = (read.0, given.0); limits = (id_is (get (codes "id") d) id h.1, read.1, given.1) }

-- a message that is read has values of the program, within the limits of messages
pub message_is : (d : Data) (m : ClientMessage) → HasRisingKeys d → client_reading d ≡ Some m → IsFine m
message_is d m r e = table_is d m r (client_ok d m e)
