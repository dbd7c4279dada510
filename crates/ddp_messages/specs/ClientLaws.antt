-- The messages from a client: the table of fields against the exact answer, and what was written against the table.
use Rattle.std.specs.Prelude.{◌≡◌, ℕ, List, [], true, Some, None, option_map, option_and_then, codes, refl}
use Rattle.std.proofs.Common.{ap, ◌∙◌, subst}
use Rattle.serde_json.specs.Data.{Data}
use Rattle.serde_json.specs.Find.{as_str}
use Rattle.value_model.specs.Size.{is_name}
use Rattle.ejson_codec.specs.WrittenLaws.{name_is}
use Rattle.ddp_messages.specs.Forms.{id_of, texts_of, value_of, values_of}
use Rattle.ddp_messages.specs.Fields.{needed, optional, defaulted, name_of, IsNamed}
use Rattle.ddp_messages.specs.FieldLaws.{map_some, and_then_some, map₂_some, map₃_some, map₄_some, by_test, map₂_from, map₃_from, map₄_from, id_back}
use Rattle.ddp_messages.specs.FieldLaws.{texts_back, value_back, values_back}
use Rattle.ddp_messages.specs.ClientMessage.{ClientMessage, connect, ping, pong, sub, unsub, method, ClientReads, connect_reading, ping_reading}
use Rattle.ddp_messages.specs.ClientMessage.{pong_reading, sub_reading, unsub_reading, method_reading, client_named, client_reading}
use Rattle.ddp_messages.specs.Written.{client_written}
use Rattle.ddp_messages.specs.Limits.{ClientKeepsLimits, ClientHasValues}

-- ---- the answer is in the table

connect_ok : (d : Data) (m : ClientMessage) → IsNamed (codes "connect") d → connect_reading d ≡ Some m → ClientReads d m
connect_ok d m named h =
    let p = map₂_some connect (needed as_str (codes "version") d) (optional texts_of (codes "support") d) m h in
    subst (ClientReads d) p.4 (named, p.2, p.3)

ping_ok : (d : Data) (m : ClientMessage) → IsNamed (codes "ping") d → ping_reading d ≡ Some m → ClientReads d m
ping_ok d m named h = let p = map_some ping (optional as_str (codes "id") d) m h in subst (ClientReads d) p.2 (named, p.1)

pong_ok : (d : Data) (m : ClientMessage) → IsNamed (codes "pong") d → pong_reading d ≡ Some m → ClientReads d m
pong_ok d m named h = let p = map_some pong (optional as_str (codes "id") d) m h in subst (ClientReads d) p.2 (named, p.1)

sub_ok : (d : Data) (m : ClientMessage) → IsNamed (codes "sub") d → sub_reading d ≡ Some m → ClientReads d m
sub_ok d m named h =
    let p = map₃_some sub (needed id_of (codes "id") d) (needed as_str (codes "name") d) (defaulted [] values_of (codes "params") d) m h in
    subst (ClientReads d) p.6 (named, p.3, p.4, p.5)

unsub_ok : (d : Data) (m : ClientMessage) → IsNamed (codes "unsub") d → unsub_reading d ≡ Some m → ClientReads d m
unsub_ok d m named h = let p = map_some unsub (needed id_of (codes "id") d) m h in subst (ClientReads d) p.2 (named, p.1)

method_ok : (d : Data) (m : ClientMessage) → IsNamed (codes "method") d → method_reading d ≡ Some m → ClientReads d m
method_ok d m named h =
    let p = map₄_some method (needed id_of (codes "id") d) (needed as_str (codes "method") d) (defaulted [] values_of (codes "params") d)
    (optional value_of (codes "randomSeed") d) m h in
    subst (ClientReads d) p.8 (named, p.4, p.5, p.6, p.7)

named_ok : (d : Data) (name : List ℕ) (m : ClientMessage) → IsNamed name d → client_named d name ≡ Some m → ClientReads d m
named_ok d name m named h =
    let at : (key : List ℕ) → is_name name key ≡ true → IsNamed key d = λ key is. named ∙ ap Some (name_is name key is) in
    by_test (is_name name (codes "connect")) (connect_reading d) _ m (λ is r. connect_ok d m (at (codes "connect") is) r)
    (λ _ h1. by_test (is_name name (codes "ping")) (ping_reading d) _ m (λ is r. ping_ok d m (at (codes "ping") is) r)
    (λ _ h2. by_test (is_name name (codes "pong")) (pong_reading d) _ m (λ is r. pong_ok d m (at (codes "pong") is) r)
    (λ _ h3. by_test (is_name name (codes "sub")) (sub_reading d) _ m (λ is r. sub_ok d m (at (codes "sub") is) r)
    (λ _ h4. by_test (is_name name (codes "unsub")) (unsub_reading d) _ m (λ is r. unsub_ok d m (at (codes "unsub") is) r)
    (λ _ h5. by_test (is_name name (codes "method")) (method_reading d) None m (λ is r. method_ok d m (at (codes "method") is) r)
    (λ _ h6. absurd (cc h6)) h5) h4) h3) h2) h1) h

pub client_ok : (d : Data) (m : ClientMessage) → client_reading d ≡ Some m → ClientReads d m
client_ok d m h = let p = and_then_some (client_named d) (name_of d) m h in named_ok d p.0 m p.1 p.2

-- ---- what is in the table is the answer

pub client_only : (d : Data) (m : ClientMessage) → ClientReads d m → client_reading d ≡ Some m
client_only d (connect version support) h =
    ap (option_and_then (client_named d)) h.0
    ∙ map₂_from connect (needed as_str (codes "version") d) (optional texts_of (codes "support") d) version support h.1 h.2
client_only d (ping id) h = ap (option_and_then (client_named d)) h.0 ∙ ap (option_map ping) h.1
client_only d (pong id) h = ap (option_and_then (client_named d)) h.0 ∙ ap (option_map pong) h.1
client_only d (sub id name params) h =
    ap (option_and_then (client_named d)) h.0
    ∙ map₃_from sub (needed id_of (codes "id") d) (needed as_str (codes "name") d) (defaulted [] values_of (codes "params") d) id name params h.1 h.2 h.3
client_only d (unsub id) h = ap (option_and_then (client_named d)) h.0 ∙ ap (option_map unsub) h.1
client_only d (method id name params seed) h =
    ap (option_and_then (client_named d)) h.0
    ∙ map₄_from method (needed id_of (codes "id") d) (needed as_str (codes "method") d) (defaulted [] values_of (codes "params") d)
    (optional value_of (codes "randomSeed") d) id name params seed
    h.1 h.2 h.3 h.4

-- ---- what was written is in the table

pub client_back : (m : ClientMessage) → ClientHasValues m → ClientKeepsLimits m → ClientReads (client_written m) m
client_back (connect version None) is within = (refl, refl, refl)
client_back (connect version (Some ss)) is within = (refl, refl, ap (option_map Some) (texts_back ss))
client_back (ping None) is within = (refl, refl)
client_back (ping (Some id)) is within = (refl, refl)
client_back (pong None) is within = (refl, refl)
client_back (pong (Some id)) is within = (refl, refl)
client_back (sub id name params) is within = (refl, id_back id within.0, refl, values_back params is within.1)
client_back (unsub id) is within = (refl, id_back id within)
client_back (method id name params None) is within = (refl, id_back id within.0, refl, values_back params is.0 within.1, refl)
client_back (method id name params (Some seed)) is within =
    (refl, id_back id within.0, refl, values_back params is.0 within.1, ap (option_map Some) (value_back seed is.1 within.2))
