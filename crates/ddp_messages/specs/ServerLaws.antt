-- The messages from a server: the table of fields against the exact answer, and what was written against the table.
use Rattle.std.specs.Prelude.{◌≡◌, ℕ, ◌<◌, length, List, [], ◌∷◌, Bool, true, false, ◌||◌, Option, Some, None, option_map, option_and_then, codes, refl}
use Rattle.std.proofs.Common.{sym, ap, ◌∙◌, subst}
use Rattle.std.specs.List.{list_any}
use Rattle.serde_json.specs.Data.{Data, string}
use Rattle.serde_json.specs.Find.{get, as_str}
use Rattle.value_model.specs.Val.{Val}
use Rattle.value_model.specs.Size.{is_name}
use Rattle.ejson_value.specs.declared.key.Key.{Key}
use Rattle.ejson_value.specs.declared.fault.Fault.{Fault}
use Rattle.ejson_value.specs.declared.message.DataMsg.{DataMsg}
use Rattle.ejson_value.specs.declared.message.DataMsg.TheVariants.{Added, Changed, Removed}
use Rattle.ejson_value.specs.Key.{key_of}
use Rattle.ejson_codec.specs.WrittenLaws.{name_is}
use Rattle.ddp_messages.specs.Wire.{wire_of}
use Rattle.ddp_messages.specs.WireLaws.{own_only}
use Rattle.ddp_messages.specs.Forms.{id_of, document_id_of, texts_of, ids_of, value_of, document_of}
use Rattle.ddp_messages.specs.Fields.{needed, optional, defaulted, name_of, IsNamed}
use Rattle.ddp_messages.specs.FieldLaws.{map_some, map₂_some, map₃_some, by_test, map₂_from, map₃_from, id_back, ids_back, texts_back, value_back}
use Rattle.ddp_messages.specs.FieldLaws.{document_back}
use Rattle.ddp_messages.specs.ServerMessage.{ServerMessage, connected, failed, ping, pong, nosub, ready, about, finished, updated, refused, unknown}
use Rattle.ddp_messages.specs.ServerMessage.{fault_of, HasKey, DataReads, server_names, is_known, ServerReads, key_reading, added_reading}
use Rattle.ddp_messages.specs.ServerMessage.{changed_reading, removed_reading, nosub_reading, result_reading, refused_with, error_reading}
use Rattle.ddp_messages.specs.ServerMessage.{unknown_unless, server_named, server_reading}
use Rattle.ddp_messages.specs.Written.{fault_written, server_written}
use Rattle.ddp_messages.specs.Limits.{DataKeepsLimits, DataHasValues, ServerKeepsLimits, ServerHasValues}

-- ---- the answer is in the table

key_ok : (d : Data) (key : Key) → key_reading d ≡ Some key → HasKey d key
key_ok d key h =
    let p = map₂_some key_of (needed as_str (codes "collection") d) (needed document_id_of (codes "id") d) key h in
    subst (HasKey d) p.4 (p.2, p.3)

added_ok : (d : Data) (m : DataMsg) → IsNamed (codes "added") d → added_reading d ≡ Some m → DataReads d m
added_ok d m named h =
    let p = map₂_some Added (key_reading d) (defaulted [] document_of (codes "fields") d) m h in
    subst (DataReads d) p.4 (named, key_ok d p.0 p.2, p.3)

changed_ok : (d : Data) (m : DataMsg) → IsNamed (codes "changed") d → changed_reading d ≡ Some m → DataReads d m
changed_ok d m named h =
    let p = map₃_some Changed (key_reading d) (defaulted [] document_of (codes "fields") d) (defaulted [] texts_of (codes "cleared") d) m h in
    subst (DataReads d) p.6 (named, key_ok d p.0 p.3, p.4, p.5)

removed_ok : (d : Data) (m : DataMsg) → IsNamed (codes "removed") d → removed_reading d ≡ Some m → DataReads d m
removed_ok d m named h = let p = map_some Removed (key_reading d) m h in subst (DataReads d) p.2 (named, key_ok d p.0 p.1)

about_ok : (d : Data) (m : ServerMessage) (o : Option DataMsg) → ((x : DataMsg) → o ≡ Some x → DataReads d x) → option_map about o ≡ Some m → ServerReads d m
about_ok d m o ok h = let p = map_some about o m h in subst (ServerReads d) p.2 (ok p.0 p.1)

nosub_ok : (d : Data) (m : ServerMessage) → IsNamed (codes "nosub") d → nosub_reading d ≡ Some m → ServerReads d m
nosub_ok d m named h =
    let p = map₂_some nosub (needed id_of (codes "id") d) (optional fault_of (codes "error") d) m h in
    subst (ServerReads d) p.4 (named, p.2, p.3)

ready_ok : (d : Data) (m : ServerMessage) → IsNamed (codes "ready") d → option_map ready (needed ids_of (codes "subs") d) ≡ Some m → ServerReads d m
ready_ok d m named h = let p = map_some ready (needed ids_of (codes "subs") d) m h in subst (ServerReads d) p.2 (named, p.1)

result_ok : (d : Data) (m : ServerMessage) → IsNamed (codes "result") d → result_reading d ≡ Some m → ServerReads d m
result_ok d m named h =
    let p = map₃_some finished (needed id_of (codes "id") d) (optional fault_of (codes "error") d) (optional value_of (codes "result") d) m h in
    subst (ServerReads d) p.6 (named, p.3, p.4, p.5)

updated_ok : (d : Data) (m : ServerMessage) → IsNamed (codes "updated") d → option_map updated (needed ids_of (codes "methods") d) ≡ Some m → ServerReads d m
updated_ok d m named h = let p = map_some updated (needed ids_of (codes "methods") d) m h in subst (ServerReads d) p.2 (named, p.1)

error_ok : (d : Data) (m : ServerMessage) → IsNamed (codes "error") d → error_reading d ≡ Some m → ServerReads d m
error_ok d m named h =
    let p = map_some (refused_with (option_and_then value_of (get (codes "offendingMessage") d))) (needed as_str (codes "reason") d) m h in
    subst (ServerReads d) p.2 (named, p.1, refl)

connected_ok : (d : Data) (m : ServerMessage) → IsNamed (codes "connected") d → option_map connected (needed as_str (codes "session") d) ≡ Some m →
    ServerReads d m
connected_ok d m named h = let p = map_some connected (needed as_str (codes "session") d) m h in subst (ServerReads d) p.2 (named, p.1)

failed_ok : (d : Data) (m : ServerMessage) → IsNamed (codes "failed") d → option_map failed (needed as_str (codes "version") d) ≡ Some m → ServerReads d m
failed_ok d m named h = let p = map_some failed (needed as_str (codes "version") d) m h in subst (ServerReads d) p.2 (named, p.1)

ping_ok : (d : Data) (m : ServerMessage) → IsNamed (codes "ping") d → option_map ping (optional as_str (codes "id") d) ≡ Some m → ServerReads d m
ping_ok d m named h = let p = map_some ping (optional as_str (codes "id") d) m h in subst (ServerReads d) p.2 (named, p.1)

pong_ok : (d : Data) (m : ServerMessage) → IsNamed (codes "pong") d → option_map pong (optional as_str (codes "id") d) ≡ Some m → ServerReads d m
pong_ok d m named h = let p = map_some pong (optional as_str (codes "id") d) m h in subst (ServerReads d) p.2 (named, p.1)

-- no name of the table
abbrev None_of : List ℕ → List (List ℕ) → Type 0
None_of name [] = Unit {0}
None_of name (key ∷ keys) = (is_name name key ≡ false) × None_of name keys

none_known : (name : List ℕ) (keys : List (List ℕ)) → None_of name keys → list_any (is_name name) keys ≡ false
none_known name [] h = refl
none_known name (key ∷ keys) h = ap (λ (b : Bool). b || list_any (is_name name) keys) h.0 ∙ none_known name keys h.1

unknown_ok : (d : Data) (name : List ℕ) (m : ServerMessage) → IsNamed name d → None_of name server_names → Some unknown ≡ Some m → ServerReads d m
unknown_ok d name m named none h =
    let same : unknown ≡ m = cc h in
    let not_known : is_known (name_of d) ≡ false = ap is_known named ∙ none_known name server_names none in
    subst (ServerReads d) same not_known

named_ok : (d : Data) (name : List ℕ) (m : ServerMessage) → IsNamed name d → server_named d name ≡ Some m → ServerReads d m
named_ok d name m named h =
    let at : (key : List ℕ) → is_name name key ≡ true → IsNamed key d = λ key is. named ∙ ap Some (name_is name key is) in
    by_test (is_name name (codes "connected")) _ _ m (λ is r. connected_ok d m (at (codes "connected") is) r)
    (λ n1 h1. by_test (is_name name (codes "failed")) _ _ m (λ is r. failed_ok d m (at (codes "failed") is) r)
    (λ n2 h2. by_test (is_name name (codes "ping")) _ _ m (λ is r. ping_ok d m (at (codes "ping") is) r)
    (λ n3 h3. by_test (is_name name (codes "pong")) _ _ m (λ is r. pong_ok d m (at (codes "pong") is) r)
    (λ n4 h4. by_test (is_name name (codes "error")) _ _ m (λ is r. error_ok d m (at (codes "error") is) r)
    (λ n5 h5. by_test (is_name name (codes "nosub")) _ _ m (λ is r. nosub_ok d m (at (codes "nosub") is) r)
    (λ n6 h6. by_test (is_name name (codes "ready")) _ _ m (λ is r. ready_ok d m (at (codes "ready") is) r)
    (λ n7 h7. by_test (is_name name (codes "result")) _ _ m (λ is r. result_ok d m (at (codes "result") is) r)
    (λ n8 h8. by_test (is_name name (codes "updated")) _ _ m (λ is r. updated_ok d m (at (codes "updated") is) r)
    (λ n9 h9. by_test (is_name name (codes "added")) _ _ m (λ is r. about_ok d m (added_reading d) (λ x e. added_ok d x (at (codes "added") is) e) r)
    (λ n10 h10. by_test (is_name name (codes "changed")) _ _ m (λ is r. about_ok d m (changed_reading d) (λ x e. changed_ok d x (at (codes "changed") is) e) r)
    (λ n11 h11. by_test (is_name name (codes "removed")) _ _ m (λ is r. about_ok d m (removed_reading d) (λ x e. removed_ok d x (at (codes "removed") is) e) r)
    (λ n12 h12. unknown_ok d name m named (n1, (n2, (n3, (n4, (n6, (n7, (n10, (n11, (n12, (n8, (n9, (n5, tt)))))))))))) h12)
    h11) h10) h9) h8) h7) h6) h5) h4) h3) h2) h1) h

server_ok_at : (d : Data) (m : ServerMessage) (name : Option (List ℕ)) → name_of d ≡ name → unknown_unless (server_named d) name ≡ Some m → ServerReads d m
server_ok_at d m None e h = let same : unknown ≡ m = cc h in subst (ServerReads d) same (ap is_known e)
server_ok_at d m (Some name) e h = named_ok d name m e h

pub server_ok : (d : Data) (m : ServerMessage) → server_reading d ≡ Some m → ServerReads d m
server_ok d m h = server_ok_at d m (name_of d) refl h

-- ---- what is in the table is the answer

key_only : (d : Data) (key : Key) → HasKey d key → key_reading d ≡ Some key
key_only d key h = map₂_from key_of (needed as_str (codes "collection") d) (needed document_id_of (codes "id") d) key.collection key.id h.0 h.1

to_named : (d : Data) (name : List ℕ) → IsNamed name d → server_reading d ≡ server_named d name
to_named d name h = ap (unknown_unless (server_named d)) h

data_only : (d : Data) (m : DataMsg) → DataReads d m → server_reading d ≡ Some (about m)
data_only d (Added key fields) h =
    to_named d (codes "added") h.0
    ∙ ap (option_map about) (map₂_from Added (key_reading d) (defaulted [] document_of (codes "fields") d) key fields (key_only d key h.1) h.2)
data_only d (Changed key fields cleared) h =
    to_named d (codes "changed") h.0
    ∙ ap (option_map about)
    (map₃_from Changed (key_reading d) (defaulted [] document_of (codes "fields") d) (defaulted [] texts_of (codes "cleared") d) key fields cleared
    (key_only d key h.1) h.2 h.3)
data_only d (Removed key) h = to_named d (codes "removed") h.0 ∙ ap (λ (o : Option Key). option_map about (option_map Removed o)) (key_only d key h.1)

-- a name that no message has
later_test : (a b : Bool) → (a || b) ≡ false → (a ≡ false) × (b ≡ false)
later_test true b h = absurd (cc h)
later_test false b h = (refl, h)

none_from : (name : List ℕ) (keys : List (List ℕ)) → list_any (is_name name) keys ≡ false → None_of name keys
none_from name [] h = tt
none_from name (key ∷ keys) h = let p = later_test (is_name name key) (list_any (is_name name) keys) h in (p.0, none_from name keys p.1)

unknown_only_at : (d : Data) (name : Option (List ℕ)) → name_of d ≡ name → is_known name ≡ false → unknown_unless (server_named d) name ≡ Some unknown
unknown_only_at d None e h = refl
unknown_only_at d (Some name) e h =
    let n = none_from name server_names h in
    let r = n.1.1.1.1 in
    let s = r.1.1.1.1 in
    rw (n.0, n.1.0, n.1.1.0, n.1.1.1.0, s.1.1.1.0, r.0, r.1.0, s.1.0, s.1.1.0, r.1.1.0, r.1.1.1.0, s.0) refl

pub server_only : (d : Data) (m : ServerMessage) → ServerReads d m → server_reading d ≡ Some m
server_only d (connected session) h = to_named d (codes "connected") h.0 ∙ ap (option_map connected) h.1
server_only d (failed version) h = to_named d (codes "failed") h.0 ∙ ap (option_map failed) h.1
server_only d (ping id) h = to_named d (codes "ping") h.0 ∙ ap (option_map ping) h.1
server_only d (pong id) h = to_named d (codes "pong") h.0 ∙ ap (option_map pong) h.1
server_only d (nosub id fault) h =
    to_named d (codes "nosub") h.0 ∙ map₂_from nosub (needed id_of (codes "id") d) (optional fault_of (codes "error") d) id fault h.1 h.2
server_only d (ready subs) h = to_named d (codes "ready") h.0 ∙ ap (option_map ready) h.1
server_only d (about message) h = data_only d message h
server_only d (finished id fault value) h =
    to_named d (codes "result") h.0
    ∙ map₃_from finished (needed id_of (codes "id") d) (optional fault_of (codes "error") d) (optional value_of (codes "result") d) id fault value h.1 h.2 h.3
server_only d (updated methods) h = to_named d (codes "updated") h.0 ∙ ap (option_map updated) h.1
server_only d (refused reason offending) h =
    to_named d (codes "error") h.0
    ∙ ap (option_map (refused_with (option_and_then value_of (get (codes "offendingMessage") d)))) h.1
    ∙ ap (λ (o : Option Val). Some (refused reason o)) (sym h.2)
server_only d unknown h = unknown_only_at d (name_of d) refl h

-- ---- what was written is in the table

fault_back : (fault : Fault) → fault_of (fault_written fault) ≡ Some fault
fault_back fault = refl

document_id_back : (id : List ℕ) → 0 < length id → document_id_of (string (wire_of id)) ≡ Some id
document_id_back id some = own_only (wire_of id) id (some, refl)

data_back : (m : DataMsg) → DataHasValues m → DataKeepsLimits m → ServerReads (server_written (about m)) (about m)
data_back (Added key fields) is within = (refl, (refl, document_id_back key.id within.0), document_back fields is within.1)
data_back (Changed key [] []) is within = (refl, (refl, document_id_back key.id within.0), refl, refl)
data_back (Changed key [] (s ∷ ss)) is within = (refl, (refl, document_id_back key.id within.0), refl, texts_back (s ∷ ss))
data_back (Changed key (e ∷ es) []) is within = (refl, (refl, document_id_back key.id within.0), document_back (e ∷ es) is within.1, refl)
data_back (Changed key (e ∷ es) (s ∷ ss)) is within = (refl, (refl, document_id_back key.id within.0), document_back (e ∷ es) is within.1, texts_back (s ∷ ss))
data_back (Removed key) is within = (refl, (refl, document_id_back key.id within))

pub server_back : (m : ServerMessage) → ServerHasValues m → ServerKeepsLimits m → ServerReads (server_written m) m
server_back (connected session) is within = (refl, refl)
server_back (failed version) is within = (refl, refl)
server_back (ping None) is within = (refl, refl)
server_back (ping (Some id)) is within = (refl, refl)
server_back (pong None) is within = (refl, refl)
server_back (pong (Some id)) is within = (refl, refl)
server_back (nosub id None) is within = (refl, id_back id within, refl)
server_back (nosub id (Some fault)) is within = (refl, id_back id within, refl)
server_back (ready subs) is within = (refl, ids_back subs within)
server_back (about message) is within = data_back message is within
server_back (finished id None None) is within = (refl, id_back id within.0, refl, refl)
server_back (finished id None (Some v)) is within = (refl, id_back id within.0, refl, ap (option_map Some) (value_back v is within.1))
server_back (finished id (Some fault) None) is within = (refl, id_back id within.0, refl, refl)
server_back (finished id (Some fault) (Some v)) is within = (refl, id_back id within.0, refl, ap (option_map Some) (value_back v is within.1))
server_back (updated methods) is within = (refl, ids_back methods within)
server_back (refused reason None) is within = (refl, refl, refl)
server_back (refused reason (Some v)) is within = (refl, refl, sym (value_back v is within))
server_back unknown is within = refl
