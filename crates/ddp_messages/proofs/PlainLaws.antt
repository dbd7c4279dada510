-- What an object's members are, by the values that they read as.
use Rattle.std.proofs.Common.{◌≡◌, ℕ, ◌+◌, ◌<◌, ◌≤◌, List, [], ◌∷◌, ◌++◌, length, get_or, drop, add-one, drop-cons, Bool, true, false, if◌then◌else◌, codes, cond, Option, Some, None, option_map, option_and_then, Result, Ok, Err, IfOk, Ordering, Less, Equal, Greater, nat_cmp, is_eq, refl, sym, ap, subst, ◌∙◌, arith}
use Rattle.std.proofs.lemmas.List.{append_assoc}
use Rattle.std.specs.Ordering.{match_ordering}
use Rattle.std.specs.Cmp.Lexicographic.{slice_cmp}
use Rattle.serde_json.specs.Data.{Data, Items, no_items, item, Members, no_members, member}
use Rattle.serde_json.specs.Data as json
use Rattle.serde_json.specs.Find.{get_member, as_str, as_array}
use Rattle.value_model.specs.Val.{Val, Vals, no_vals, val, null, boolean, int, text, date, bytes, list, object, user, vals_of, list_of, Entries}
use Rattle.value_model.specs.Doc.{get}
use Rattle.value_model.specs.Size.{is_name}
use Rattle.ejson_value.specs.View.{view, views}
use Rattle.ejson_value.specs.declared.value.Value.{Value}
use Rattle.ejson_value.specs.declared.key.Key.{Key}
use Rattle.ejson_value.specs.declared.message.DataMsg.{DataMsg}
use Rattle.ejson_value.specs.declared.message.DataMsg.TheVariants.{Added, Changed, Removed}
use Rattle.ejson_value.specs.Key.{key_of}
use Rattle.ejson_codec.specs.KindLaws.{text_is, list_is}
use Rattle.ejson_codec.specs.Reading.{max_levels, reading, items_reading, members_reading}
use Rattle.ejson_codec.specs.ReadingLaws.{with_item_ok, with_field_ok, reads_ok, reads_only}
use Rattle.ejson_codec.specs.declared.fault.PlainFault.{PlainFault}
use Rattle.ddp_messages.specs.Wire.{own_of}
use Rattle.ddp_messages.specs.Forms.{short_enough, id_of, document_id_of, with_first, each_of, texts_of, ids_of, ok_of, value_of, values_of, fields_of_value, document_of}
use Rattle.ddp_messages.specs.Fields.{needed, may_be, optional, or_default, defaulted, name_of}
use Rattle.ddp_messages.specs.FieldLaws.{map_some, and_then_some, map₂_some, map₃_some, map₂_from, map₃_from, map₄_from}
use Rattle.ddp_messages.proofs.Each.{behind}
use Rattle.ddp_messages.specs.Plain.{Lookup, Tells, text_in, id_in, document_id_in, each_in, texts_in, ids_in, values_in, needed_in, or_default_in, defaulted_in, unless_there, key_in, added_in, changed_in, removed_in, over_in, finished_with, data_named_in, answer_named_in, server_named_in, server_in, sub_in, unsub_in, method_with, method_in, client_named_in, client_in}
use Rattle.ddp_messages.specs.Places.{found, TextSaid}
use Rattle.ddp_messages.specs.declared.told.Told.{Told}
use Rattle.ddp_messages.specs.ServerMessage.{ServerMessage, server_view, connected, nosub, ready, about, finished, updated, fault_of, key_reading, added_reading, changed_reading, removed_reading, nosub_reading, result_reading, data_named, answer_named, server_named, unknown_unless, server_reading}
use Rattle.ddp_messages.specs.ClientMessage.{ClientMessage, client_view, sub, unsub, method, sub_reading, unsub_reading, method_reading, client_named, client_reading}
use Rattle.ddp_messages.specs.declared.from_server.FromServer.{FromServer}
use Rattle.ddp_messages.specs.declared.from_client.FromClient.{FromClient}
use Rattle.ddp_messages.specs.Answers.{or_bad, server_tree, server_answer, client_tree, client_answer}

-- ---- the member behind a value

found_at : (o : Ordering) (levels : ℕ) (e : Data) (v w : Val) (rest : Option Data) (found : Option Val) → cond (is_eq o) (Some w) found ≡ Some v → reading levels e ≡ Ok w
    → (found ≡ Some v → (d : Data) × (rest ≡ Some d) × (reading levels d ≡ Ok v)) → (d : Data) × (match_ordering o rest (Some e) rest ≡ Some d) × (reading levels d ≡ Ok v)
found_at Less levels e v w rest found h read more = more h
found_at Equal levels e v w rest found h read more = let same : w ≡ v = cc h in (e, refl, read ∙ ap (λ (x : Val). Ok x) same)
found_at Greater levels e v w rest found h read more = more h

missing_at : (o : Ordering) (e : Data) (w : Val) (rest : Option Data) (found : Option Val) → cond (is_eq o) (Some w) found ≡ None → (found ≡ None → rest ≡ None) → match_ordering o rest (Some e) rest ≡ None
missing_at Less e w rest found h more = more h
missing_at Equal e w rest found h more = absurd (cc h)
missing_at Greater e w rest found h more = more h

member_found : (levels : ℕ) (ms : Members) (es : Entries) (k : List ℕ) (v : Val) → members_reading levels ms ≡ Ok es → get es k ≡ Some v → (d : Data) × (get_member k ms ≡ Some d) × (reading levels d ≡ Ok v)
member_found levels no_members es k v h g =
    let none : es ≡ [] = cc h in
    let nothing = subst (λ (x : Entries). get x k ≡ Some v) none g in
    absurd (cc nothing)
member_found levels (member key d ms) es k v h g =
    let p = with_field_ok key (reading levels d) (members_reading levels ms) es h in
    let there = subst (λ (x : Entries). get x k ≡ Some v) p.4 g in
    found_at (slice_cmp nat_cmp k key) levels d v p.0 (get_member k ms) (get p.1 k) there p.2 (λ (more : get p.1 k ≡ Some v). member_found levels ms p.1 k v p.3 more)

member_missing : (levels : ℕ) (ms : Members) (es : Entries) (k : List ℕ) → members_reading levels ms ≡ Ok es → get es k ≡ None → get_member k ms ≡ None
member_missing levels no_members es k h g = refl
member_missing levels (member key d ms) es k h g =
    let p = with_field_ok key (reading levels d) (members_reading levels ms) es h in
    let there = subst (λ (x : Entries). get x k ≡ None) p.4 g in
    missing_at (slice_cmp nat_cmp k key) d p.0 (get_member k ms) (get p.1 k) there (λ (more : get p.1 k ≡ None). member_missing levels ms p.1 k p.3 more)

-- ---- forms

-- a form of trees that finds what a form of values finds
abbrev Finds : {A : Type 0} → (Data → Option A) → (Val → Option A) → Type 0
Finds {A} of form = (levels : ℕ) (d : Data) (v : Val) (a : A) → levels ≤ max_levels → reading levels d ≡ Ok v → form v ≡ Some a → of d ≡ Some a

text_finds : Finds as_str text_in
text_finds levels d (text s) a fits read h = text_is levels d s read ∙ h
text_finds levels d null a fits read h = absurd (cc h)
text_finds levels d (boolean b) a fits read h = absurd (cc h)
text_finds levels d (int z) a fits read h = absurd (cc h)
text_finds levels d (date z) a fits read h = absurd (cc h)
text_finds levels d (bytes s) a fits read h = absurd (cc h)
text_finds levels d (list vs) a fits read h = absurd (cc h)
text_finds levels d (object fs) a fits read h = absurd (cc h)
text_finds levels d (user name v) a fits read h = absurd (cc h)

then_finds : {A : Type 0} (more : List ℕ → Option A) → Finds (λ d. option_and_then more (as_str d)) (λ v. option_and_then more (text_in v))
then_finds more levels d v a fits read h =
    let p = and_then_some more (text_in v) a h in
    ap (option_and_then more) (text_finds levels d v p.0 fits read p.1) ∙ p.2

id_finds : Finds id_of id_in
id_finds = then_finds short_enough

document_id_finds : Finds document_id_of document_id_in
document_id_finds = then_finds own_of

with_first_some : {A : Type 0} (o : Option A) (rest : Option (List A)) (all : List A) → with_first o rest ≡ Some all → (a : A) × (more : List A) × (o ≡ Some a) × (rest ≡ Some more) × (all ≡ a ∷ more)
with_first_some None rest all h = absurd (cc h)
with_first_some (Some a) None all h = absurd (cc h)
with_first_some (Some a) (Some more) all h = (a, more, refl, refl, cc h)

each_finds : (of : Data → Option (List ℕ)) (form : Val → Option (List ℕ)) → Finds of form → (levels : ℕ) (ds : Items) (vs : Vals) (all : List (List ℕ)) → levels ≤ max_levels
    → items_reading levels ds ≡ Ok (list_of vs) → each_in form vs ≡ Some all → each_of of ds ≡ Some all
each_finds of form finds levels no_items no_vals all fits read h = h
each_finds of form finds levels no_items (val v vs) all fits read h = absurd (cc read)
each_finds of form finds levels (item d ds) no_vals all fits read h =
    let p = with_item_ok (reading levels d) (items_reading levels ds) [] read in
    absurd (cc p.4)
each_finds of form finds levels (item d ds) (val v vs) all fits read h =
    let p = with_item_ok (reading levels d) (items_reading levels ds) (v ∷ list_of vs) read in
    let here : p.0 ≡ v = cc (sym p.4) in
    let rest : p.1 ≡ list_of vs = cc (sym p.4) in
    let q = with_first_some (form v) (each_in form vs) all h in
    ap (λ (o : Option (List ℕ)). with_first o (each_of of ds)) (finds levels d v q.0 fits (p.2 ∙ ap (λ (x : Val). Ok x) here) q.2)
    ∙ ap (option_map (λ (more : List (List ℕ)). q.0 ∷ more)) (each_finds of form finds levels ds vs q.1 fits (p.3 ∙ ap (λ (xs : List Val). Ok xs) rest) q.3)
    ∙ ap (λ (xs : List (List ℕ)). Some xs) (sym q.4)

list_finds : (of : Data → Option (List ℕ)) (form : Val → Option (List ℕ)) → Finds of form → (levels : ℕ) (d : Data) (vs : Vals) (all : List (List ℕ)) → levels ≤ max_levels
    → reading levels d ≡ Ok (list vs) → each_in form vs ≡ Some all → option_and_then (each_of of) (as_array d) ≡ Some all
list_finds of form finds levels d vs all fits read h =
    let p = list_is levels d vs read in
    let within : p.1 ≤ max_levels = omega (arith, fits, p.3) in
    ap (option_and_then (each_of of)) p.2 ∙ each_finds of form finds p.1 p.0 vs all within p.4 h

texts_finds : Finds texts_of texts_in
texts_finds levels d (list vs) a fits read h = list_finds as_str text_in text_finds levels d vs a fits read h
texts_finds levels d null a fits read h = absurd (cc h)
texts_finds levels d (boolean b) a fits read h = absurd (cc h)
texts_finds levels d (int z) a fits read h = absurd (cc h)
texts_finds levels d (text s) a fits read h = absurd (cc h)
texts_finds levels d (date z) a fits read h = absurd (cc h)
texts_finds levels d (bytes s) a fits read h = absurd (cc h)
texts_finds levels d (object fs) a fits read h = absurd (cc h)
texts_finds levels d (user name v) a fits read h = absurd (cc h)

ids_finds : Finds ids_of ids_in
ids_finds levels d (list vs) a fits read h = list_finds id_of id_in id_finds levels d vs a fits read h
ids_finds levels d null a fits read h = absurd (cc h)
ids_finds levels d (boolean b) a fits read h = absurd (cc h)
ids_finds levels d (int z) a fits read h = absurd (cc h)
ids_finds levels d (text s) a fits read h = absurd (cc h)
ids_finds levels d (date z) a fits read h = absurd (cc h)
ids_finds levels d (bytes s) a fits read h = absurd (cc h)
ids_finds levels d (object fs) a fits read h = absurd (cc h)
ids_finds levels d (user name v) a fits read h = absurd (cc h)

-- a value that was read with fewer levels is read with all
value_finds : (levels : ℕ) (d : Data) (v : Val) → levels ≤ max_levels → reading levels d ≡ Ok v → value_of d ≡ Some v
value_finds levels d v fits read =
    let r = reads_ok levels d v read in
    ap ok_of (reads_only max_levels d v r.0 (omega (arith, r.1, fits)))

each_value : (levels : ℕ) (ds : Items) (vs : List Val) → levels ≤ max_levels → items_reading levels ds ≡ Ok vs → each_of value_of ds ≡ Some vs
each_value levels no_items vs fits read = let none : [] ≡ vs = cc read in ap (λ (xs : List Val). Some xs) none
each_value levels (item d ds) vs fits read =
    let p = with_item_ok (reading levels d) (items_reading levels ds) vs read in
    ap (λ (o : Option Val). with_first o (each_of value_of ds)) (value_finds levels d p.0 fits p.2)
    ∙ ap (option_map (λ (more : List Val). p.0 ∷ more)) (each_value levels ds p.1 fits p.3) ∙ ap (λ (xs : List Val). Some xs) (sym p.4)

values_finds : Finds values_of values_in
values_finds levels d (list vs) a fits read h =
    let p = list_is levels d vs read in
    let within : p.1 ≤ max_levels = omega (arith, fits, p.3) in
    ap (option_and_then (each_of value_of)) p.2 ∙ each_value p.1 p.0 (list_of vs) within p.4 ∙ h
values_finds levels d null a fits read h = absurd (cc h)
values_finds levels d (boolean b) a fits read h = absurd (cc h)
values_finds levels d (int z) a fits read h = absurd (cc h)
values_finds levels d (text s) a fits read h = absurd (cc h)
values_finds levels d (date z) a fits read h = absurd (cc h)
values_finds levels d (bytes s) a fits read h = absurd (cc h)
values_finds levels d (object fs) a fits read h = absurd (cc h)
values_finds levels d (user name v) a fits read h = absurd (cc h)

document_finds : Finds document_of fields_of_value
document_finds levels d v a fits read h = ap (option_and_then fields_of_value) (value_finds levels d v fits read) ∙ h

-- ---- the fields of an object whose members read as these values

module _ (ms : Members) (es : Entries) (all : members_reading max_levels ms ≡ Ok es) (find : Lookup) (says : (key : List ℕ) → find key ≡ get es key) where
  needed_found : {A : Type 0} (of : Data → Option A) (form : Val → Option A) → Finds of form → (key : List ℕ) (a : A) → needed_in form key find ≡ Some a → needed of key (json.object ms) ≡ Some a
  needed_found of form finds key a h =
      let p = and_then_some form (find key) a h in
      let m = member_found max_levels ms es key p.0 all (sym (says key) ∙ p.1) in
      ap (option_and_then of) m.1 ∙ finds max_levels m.0 p.0 a (omega arith) m.2 p.2

  default_at : {A : Type 0} (default : A) (of : Data → Option A) (form : Val → Option A) → Finds of form → (key : List ℕ) (a : A) (o : Option Val) → find key ≡ o → or_default_in default form o ≡ Some a
      → defaulted default of key (json.object ms) ≡ Some a
  default_at default of form finds key a None g h = ap (or_default default of) (member_missing max_levels ms es key all (sym (says key) ∙ g)) ∙ h
  default_at default of form finds key a (Some v) g h =
      let m = member_found max_levels ms es key v all (sym (says key) ∙ g) in
      ap (or_default default of) m.1 ∙ finds max_levels m.0 v a (omega arith) m.2 h

  defaulted_found : {A : Type 0} (default : A) (of : Data → Option A) (form : Val → Option A) → Finds of form → (key : List ℕ) (a : A) → defaulted_in default form key find ≡ Some a
      → defaulted default of key (json.object ms) ≡ Some a
  defaulted_found default of form finds key a h = default_at default of form finds key a (find key) refl h

  optional_at : (key : List ℕ) (o : Option Val) → find key ≡ o → optional value_of key (json.object ms) ≡ Some o
  optional_at key None g = ap (may_be value_of) (member_missing max_levels ms es key all (sym (says key) ∙ g))
  optional_at key (Some v) g =
      let m = member_found max_levels ms es key v all (sym (says key) ∙ g) in
      ap (may_be value_of) m.1 ∙ ap (option_map (λ (x : Val). Some x)) (value_finds max_levels m.0 v (omega arith) m.2)

  missing_fault : (key : List ℕ) → find key ≡ None → optional fault_of key (json.object ms) ≡ Some None
  missing_fault key g = ap (may_be fault_of) (member_missing max_levels ms es key all (sym (says key) ∙ g))

  text_found : (key s : List ℕ) → needed_in text_in key find ≡ Some s → needed as_str key (json.object ms) ≡ Some s
  text_found key s h = needed_found as_str text_in text_finds key s h

  id_found : (key s : List ℕ) → needed_in id_in key find ≡ Some s → needed id_of key (json.object ms) ≡ Some s
  id_found key s h = needed_found id_of id_in id_finds key s h

  ids_found : (key : List ℕ) (ids : List (List ℕ)) → needed_in ids_in key find ≡ Some ids → needed ids_of key (json.object ms) ≡ Some ids
  ids_found key ids h = needed_found ids_of ids_in ids_finds key ids h

  -- ---- messages from a server

  key_found : (key : Key) → key_in find ≡ Some key → key_reading (json.object ms) ≡ Some key
  key_found key h =
      let p = map₂_some key_of (needed_in text_in (codes "collection") find) (needed_in document_id_in (codes "id") find) key h in
      map₂_from key_of _ _ p.0 p.1 (text_found (codes "collection") p.0 p.2) (needed_found document_id_of document_id_in document_id_finds (codes "id") p.1 p.3) ∙ ap (λ (x : Key). Some x) p.4

  added_found : (m : DataMsg) → added_in find ≡ Some m → added_reading (json.object ms) ≡ Some m
  added_found m h =
      let p = map₂_some Added (key_in find) (defaulted_in [] fields_of_value (codes "fields") find) m h in
      map₂_from Added _ _ p.0 p.1 (key_found p.0 p.2) (defaulted_found [] document_of fields_of_value document_finds (codes "fields") p.1 p.3) ∙ ap (λ (x : DataMsg). Some x) p.4

  changed_found : (m : DataMsg) → changed_in find ≡ Some m → changed_reading (json.object ms) ≡ Some m
  changed_found m h =
      let p = map₃_some Changed (key_in find) (defaulted_in [] fields_of_value (codes "fields") find) (defaulted_in [] texts_in (codes "cleared") find) m h in
      map₃_from Changed _ _ _ p.0 p.1 p.2 (key_found p.0 p.3) (defaulted_found [] document_of fields_of_value document_finds (codes "fields") p.1 p.4)
      (defaulted_found [] texts_of texts_in texts_finds (codes "cleared") p.2 p.5) ∙ ap (λ (x : DataMsg). Some x) p.6

  removed_found : (m : DataMsg) → removed_in find ≡ Some m → removed_reading (json.object ms) ≡ Some m
  removed_found m h =
      let p = map_some Removed (key_in find) m h in
      ap (option_map Removed) (key_found p.0 p.1) ∙ ap (λ (x : DataMsg). Some x) p.2

  about_found : (x y : Option DataMsg) (m : ServerMessage) → ((n : DataMsg) → x ≡ Some n → y ≡ Some n) → option_map about x ≡ Some m → option_map about y ≡ Some m
  about_found x y m found h =
      let p = map_some about x m h in
      ap (option_map about) (found p.0 p.1) ∙ ap (λ (n : ServerMessage). Some n) p.2

  nosub_at : (o : Option Val) (m : ServerMessage) → find (codes "error") ≡ o → unless_there o (option_map over_in (needed_in id_in (codes "id") find)) ≡ Some m → nosub_reading (json.object ms) ≡ Some m
  nosub_at (Some v) m g h = absurd (cc h)
  nosub_at None m g h =
      let p = map_some over_in (needed_in id_in (codes "id") find) m h in
      map₂_from nosub _ _ p.0 None (id_found (codes "id") p.0 p.1) (missing_fault (codes "error") g) ∙ ap (λ (n : ServerMessage). Some n) p.2

  result_at : (o : Option Val) (m : ServerMessage) → find (codes "error") ≡ o → unless_there o (option_map (finished_with (find (codes "result"))) (needed_in id_in (codes "id") find)) ≡ Some m
      → result_reading (json.object ms) ≡ Some m
  result_at (Some v) m g h = absurd (cc h)
  result_at None m g h =
      let p = map_some (finished_with (find (codes "result"))) (needed_in id_in (codes "id") find) m h in
      map₃_from finished _ _ _ p.0 None (find (codes "result")) (id_found (codes "id") p.0 p.1) (missing_fault (codes "error") g) (optional_at (codes "result") (find (codes "result")) refl)
      ∙ ap (λ (n : ServerMessage). Some n) p.2

  by_same_test : {M : Type 0} (b : Bool) (x y p q : Option M) (m : M) → (x ≡ Some m → p ≡ Some m) → (y ≡ Some m → q ≡ Some m) → (if b then x else y) ≡ Some m → (if b then p else q) ≡ Some m
  by_same_test true x y p q m f g h = f h
  by_same_test false x y p q m f g h = g h

  not_here : {M : Type 0} (p : Option M) (m : M) → None ≡ Some m → p ≡ Some m
  not_here p m h = absurd (cc h)

  ids_mapped : (make : List (List ℕ) → ServerMessage) (key : List ℕ) (m : ServerMessage) → option_map make (needed_in ids_in key find) ≡ Some m → option_map make (needed ids_of key (json.object ms)) ≡ Some m
  ids_mapped make key m h =
      let p = map_some make (needed_in ids_in key find) m h in
      ap (option_map make) (ids_found key p.0 p.1) ∙ ap (λ (n : ServerMessage). Some n) p.2

  text_mapped : (make : List ℕ → ServerMessage) (key : List ℕ) (m : ServerMessage) → option_map make (needed_in text_in key find) ≡ Some m → option_map make (needed as_str key (json.object ms)) ≡ Some m
  text_mapped make key m h =
      let p = map_some make (needed_in text_in key find) m h in
      ap (option_map make) (text_found key p.0 p.1) ∙ ap (λ (n : ServerMessage). Some n) p.2

  data_found : (name : List ℕ) (m : ServerMessage) → data_named_in find name ≡ Some m → data_named (json.object ms) name ≡ Some m
  data_found name m h =
      by_same_test (is_name name (codes "added")) _ _ _ _ m (about_found _ _ m added_found)
      (by_same_test (is_name name (codes "changed")) _ _ _ _ m (about_found _ _ m changed_found)
      (by_same_test (is_name name (codes "removed")) _ _ _ _ m (about_found _ _ m removed_found) (not_here _ m))) h

  answer_found : (name : List ℕ) (m : ServerMessage) → answer_named_in find name ≡ Some m → answer_named (json.object ms) name ≡ Some m
  answer_found name m h =
      by_same_test (is_name name (codes "nosub")) _ _ _ _ m (λ r. nosub_at (find (codes "error")) m refl r)
      (by_same_test (is_name name (codes "ready")) _ _ _ _ m (λ r. ids_mapped ready (codes "subs") m r)
      (by_same_test (is_name name (codes "result")) _ _ _ _ m (λ r. result_at (find (codes "error")) m refl r)
      (by_same_test (is_name name (codes "updated")) _ _ _ _ m (λ r. ids_mapped updated (codes "methods") m r)
      (λ r. data_found name m r)))) h

  named_found : (name : List ℕ) (m : ServerMessage) → server_named_in find name ≡ Some m → server_named (json.object ms) name ≡ Some m
  named_found name m h =
      by_same_test (is_name name (codes "connected")) _ _ _ _ m (λ r. text_mapped connected (codes "session") m r)
      (by_same_test (is_name name (codes "failed")) _ _ _ _ m (not_here _ m)
      (by_same_test (is_name name (codes "ping")) _ _ _ _ m (not_here _ m)
      (by_same_test (is_name name (codes "pong")) _ _ _ _ m (not_here _ m)
      (by_same_test (is_name name (codes "error")) _ _ _ _ m (not_here _ m)
      (λ r. answer_found name m r))))) h

  server_found : (m : ServerMessage) → server_in find ≡ Some m → server_reading (json.object ms) ≡ Some m
  server_found m h =
      let p = and_then_some (server_named_in find) (needed_in text_in (codes "msg") find) m h in
      ap (unknown_unless (server_named (json.object ms))) (text_found (codes "msg") p.0 p.1) ∙ named_found p.0 m p.2

  -- ---- messages from a client

  sub_found : (m : ClientMessage) → sub_in find ≡ Some m → sub_reading (json.object ms) ≡ Some m
  sub_found m h =
      let p = map₃_some sub (needed_in id_in (codes "id") find) (needed_in text_in (codes "name") find) (defaulted_in [] values_in (codes "params") find) m h in
      map₃_from sub _ _ _ p.0 p.1 p.2 (id_found (codes "id") p.0 p.3) (text_found (codes "name") p.1 p.4) (defaulted_found [] values_of values_in values_finds (codes "params") p.2 p.5)
      ∙ ap (λ (n : ClientMessage). Some n) p.6

  unsub_found : (m : ClientMessage) → unsub_in find ≡ Some m → unsub_reading (json.object ms) ≡ Some m
  unsub_found m h =
      let p = map_some unsub (needed_in id_in (codes "id") find) m h in
      ap (option_map unsub) (id_found (codes "id") p.0 p.1) ∙ ap (λ (n : ClientMessage). Some n) p.2

  method_found : (m : ClientMessage) → method_in find ≡ Some m → method_reading (json.object ms) ≡ Some m
  method_found m h =
      let seed = find (codes "randomSeed") in
      let p = map₃_some (method_with seed) (needed_in id_in (codes "id") find) (needed_in text_in (codes "method") find) (defaulted_in [] values_in (codes "params") find) m h in
      map₄_from method _ _ _ _ p.0 p.1 p.2 seed (id_found (codes "id") p.0 p.3) (text_found (codes "method") p.1 p.4) (defaulted_found [] values_of values_in values_finds (codes "params") p.2 p.5)
      (optional_at (codes "randomSeed") seed refl) ∙ ap (λ (n : ClientMessage). Some n) p.6

  client_named_found : (name : List ℕ) (m : ClientMessage) → client_named_in find name ≡ Some m → client_named (json.object ms) name ≡ Some m
  client_named_found name m h =
      by_same_test (is_name name (codes "connect")) _ _ _ _ m (not_here _ m)
      (by_same_test (is_name name (codes "ping")) _ _ _ _ m (not_here _ m)
      (by_same_test (is_name name (codes "pong")) _ _ _ _ m (not_here _ m)
      (by_same_test (is_name name (codes "sub")) _ _ _ _ m (λ r. sub_found m r)
      (by_same_test (is_name name (codes "unsub")) _ _ _ _ m (λ r. unsub_found m r)
      (by_same_test (is_name name (codes "method")) _ _ _ _ m (λ r. method_found m r) (not_here _ m)))))) h

  client_found : (m : ClientMessage) → client_in find ≡ Some m → client_reading (json.object ms) ≡ Some m
  client_found m h =
      let p = and_then_some (client_named_in find) (needed_in text_in (codes "msg") find) m h in
      ap (option_and_then (client_named (json.object ms))) (text_found (codes "msg") p.0 p.1) ∙ client_named_found p.0 m p.2

-- ---- the turns of the loops that read lists

none_behind : {A : Type 0} (rest : Option (List A)) → behind [] rest ≡ rest
none_behind None = refl
none_behind (Some more) = refl

behind_one_more : {A : Type 0} (front : List A) (a : A) (rest : Option (List A)) → behind front (with_first (Some a) rest) ≡ behind (front ++ a ∷ []) rest
behind_one_more front a None = refl
behind_one_more {A} front a (Some more) = ap (λ (xs : List A). Some xs) (sym (append_assoc front (a ∷ []) more))

module _ (form : Val → Option (List ℕ)) where
  pub no_value_yet : (vs : List Value) (front : List (List ℕ)) → front ≡ [] → each_in form (vals_of (views vs)) ≡ behind front (each_in form (vals_of (views (drop 0 vs))))
  no_value_yet vs front is = rw is (sym (none_behind (each_in form (vals_of (views vs)))))

  rest_from : (vs : List Value) (i : ℕ) (v : Value) → v ≡ get_or vs i v → i < length vs
      → each_in form (vals_of (views (drop i vs))) ≡ with_first (form (view v)) (each_in form (vals_of (views (drop (i + 1) vs))))
  rest_from vs i v is within =
      let more : drop i vs ≡ get_or vs i v ∷ drop (i + 1) vs = rw (add-one, drop-cons vs i v) refl in
      ap (λ (xs : List Value). each_in form (vals_of (views xs))) (more ∙ ap (λ (x : Value). x ∷ drop (i + 1) vs) (sym is))

  pub one_more_value : (vs : List Value) (i : ℕ) (v : Value) (a : List ℕ) (front new : List (List ℕ)) → v ≡ get_or vs i v → i < length vs → form (view v) ≡ Some a → new ≡ front ++ a ∷ []
      → each_in form (vals_of (views vs)) ≡ behind front (each_in form (vals_of (views (drop i vs))))
      → each_in form (vals_of (views vs)) ≡ behind new (each_in form (vals_of (views (drop (i + 1) vs))))
  one_more_value vs i v a front new is within found pushed so_far =
      let rest : Option (List (List ℕ)) = each_in form (vals_of (views (drop (i + 1) vs))) in
      so_far ∙ ap (behind front) (rest_from vs i v is within ∙ ap (λ (o : Option (List ℕ)). with_first o rest) found) ∙ behind_one_more front a rest
      ∙ ap (λ (xs : List (List ℕ)). behind xs rest) (sym pushed)

-- ---- texts

server_text : (input : List ℕ) (told : Told) (m : ServerMessage) → TextSaid input told → server_in (found told) ≡ Some m → server_answer input ≡ Ok m
server_text input told m h is =
    ap server_tree h.1.1 ∙ ap (or_bad (name_of (json.object h.1.0))) (server_found h.1.0 h.0 h.1.2 (found told) h.2 m is)

client_text : (input : List ℕ) (told : Told) (m : ClientMessage) → TextSaid input told → client_in (found told) ≡ Some m → client_answer input ≡ Ok m
client_text input told m h is =
    ap client_tree h.1.1 ∙ ap (or_bad (name_of (json.object h.1.0))) (client_found h.1.0 h.0 h.1.2 (found told) h.2 m is)

pub server_texts : (r : Result FromServer PlainFault) (input : List ℕ) (told : Told) → TextSaid input told → Tells server_view r (server_in (found told))
    → IfOk r (λ message. server_answer input ≡ Ok (server_view message))
server_texts (Ok message) input told h is = server_text input told (server_view message) h is
server_texts (Err e) input told h is = tt

pub client_texts : (r : Result FromClient PlainFault) (input : List ℕ) (told : Told) → TextSaid input told → Tells client_view r (client_in (found told))
    → IfOk r (λ message. client_answer input ≡ Ok (client_view message))
client_texts (Ok message) input told h is = client_text input told (client_view message) h is
client_texts (Err e) input told h is = tt
