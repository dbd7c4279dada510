-- What a session makes of a text, from what the text reads as.
use Rattle.std.proofs.Common.{◌≡◌, ℕ, ◌≤◌, List, Bool, true, false, Option, Some, None, refl, ap, sym, subst, ◌∙◌}
use Rattle.std.proofs.lemmas.Bool.{le-ltb}
use Rattle.std.specs.Prelude.{not, cond, ◌&&◌, nat_lt, length, codes, option_and_then, Ok, Err, if◌then◌else◌}
use Rattle.serde_json.specs.Data.{Data}
use Rattle.serde_json.specs.Read as json_text
use Rattle.value_model.specs.Size.{is_name}
use Rattle.ddp_messages.specs.Fields.{name_of}
use Rattle.ddp_messages.specs.ClientMessage.{ClientMessage, client_reading}
use Rattle.ddp_messages.specs.ClientMessage as client
use Rattle.ddp_messages.specs.ClientLaws.{client_ok}
use Rattle.ddp_messages.specs.Answers.{or_bad, client_tree, client_answer}
use Rattle.ddp_messages.specs.declared.fault.MsgFault.TheVariants.{Parse, BadRequest}
use Rattle.session_model.specs.Taking.{max_text, offending_of, taken_as, taken_named, taken_tree, taken_text}
use Rattle.session_texts.specs.Taking.{refused_with, offending_in, reason_of, once_connected, taken_message}

other_named : (connected : Bool) (d : Data) (name : List ℕ) → is_name name (codes "connect") ≡ false → taken_named connected d (Some name) ≡ once_connected connected (offending_of d) (taken_as d (client_reading d))
other_named true d name is = ap (λ b. cond b (refused_with (codes "Already connected") (offending_of d)) (taken_as d (client_reading d))) is
other_named false d name is = ap (λ b. cond (not b) (refused_with (codes "Must connect first") (offending_of d)) (taken_as d (client_reading d))) is

connect_named : (connected : Bool) (d : Data) (name : List ℕ) → is_name name (codes "connect") ≡ true →
    taken_named connected d (Some name) ≡ (if connected then refused_with (codes "Already connected") (offending_of d) else taken_as d (client_reading d))
connect_named true d name is = ap (λ b. cond b (refused_with (codes "Already connected") (offending_of d)) (taken_as d (client_reading d))) is
connect_named false d name is = ap (λ b. cond (not b) (refused_with (codes "Must connect first") (offending_of d)) (taken_as d (client_reading d))) is

-- a message of another name than `connect`
other_taken : (connected : Bool) (d : Data) (m : ClientMessage) (name : List ℕ) → client_reading d ≡ Some m → name_of d ≡ Some name → is_name name (codes "connect") ≡ false →
    once_connected connected (offending_of d) (taken_as d (Some m)) ≡ taken_named connected d (name_of d)
other_taken connected d m name is named other =
    sym (ap (taken_named connected d) named ∙ (other_named connected d name other ∙ ap (λ o. once_connected connected (offending_of d) (taken_as d o)) is))

message_taken : (connected : Bool) (d : Data) (m : ClientMessage) → client_reading d ≡ Some m → taken_message connected (offending_of d) m ≡ taken_named connected d (name_of d)
message_taken connected d (client.connect version support) is =
    let named = (client_ok d (client.connect version support) is).0 in
    sym (ap (taken_named connected d) named
    ∙ (connect_named connected d (codes "connect") refl ∙ ap (λ o. cond connected (refused_with (codes "Already connected") (offending_of d)) (taken_as d o)) is))
message_taken connected d (client.ping id) is = other_taken connected d (client.ping id) (codes "ping") is (client_ok d (client.ping id) is).0 refl
message_taken connected d (client.pong id) is = other_taken connected d (client.pong id) (codes "pong") is (client_ok d (client.pong id) is).0 refl
message_taken connected d (client.sub id name params) is = other_taken connected d (client.sub id name params) (codes "sub") is (client_ok d (client.sub id name params) is).0 refl
message_taken connected d (client.unsub id) is = other_taken connected d (client.unsub id) (codes "unsub") is (client_ok d (client.unsub id) is).0 refl
message_taken connected d (client.method id name params seed) is =
    other_taken connected d (client.method id name params seed) (codes "method") is (client_ok d (client.method id name params seed) is).0 refl

bad_ok : (name : Option (List ℕ)) (o : Option ClientMessage) (m : ClientMessage) → or_bad name o ≡ Ok m → o ≡ Some m
bad_ok name None m is = absurd (cc is)
bad_ok name (Some n) m is = let same : n ≡ m = cc is in ap (λ x. Some x) same

bad_err : (name name' : Option (List ℕ)) (o : Option ClientMessage) → or_bad name o ≡ Err (BadRequest name') → (o ≡ None) × (name ≡ name')
bad_err name name' None is = (refl, cc is)
bad_err name name' (Some m) is = absurd (cc is)

bad_named : (connected b : Bool) (d : Data) → refused_with (if not connected && not b then codes "Must connect first" else (if connected && b then codes "Already connected" else codes "Bad request")) (offending_of d)
    ≡ (if not connected && not b then refused_with (codes "Must connect first") (offending_of d) else (if connected && b then refused_with (codes "Already connected") (offending_of d) else taken_as d None))
bad_named true true d = refl
bad_named true false d = refl
bad_named false true d = refl
bad_named false false d = refl

bad_taken : (connected : Bool) (d : Data) (name : Option (List ℕ)) → client_reading d ≡ None → refused_with (reason_of connected name) (offending_of d) ≡ taken_named connected d name
bad_taken connected d None is = refl
bad_taken connected d (Some n) is =
    let b = is_name n (codes "connect") in
    bad_named connected b d
    ∙ ap (λ o. cond (not connected && not b) (refused_with (codes "Must connect first") (offending_of d)) (cond (connected && b) (refused_with (codes "Already connected") (offending_of d)) (taken_as d o))) (sym is)

tree_message : (connected : Bool) (o : Option Data) (m : ClientMessage) → client_tree o ≡ Ok m → taken_message connected (option_and_then offending_of o) m ≡ taken_tree connected o
tree_message connected None m is = absurd (cc is)
tree_message connected (Some d) m is = message_taken connected d m (bad_ok (name_of d) (client_reading d) m is)

tree_bad : (connected : Bool) (o : Option Data) (name : Option (List ℕ)) → client_tree o ≡ Err (BadRequest name) → refused_with (reason_of connected name) (option_and_then offending_of o) ≡ taken_tree connected o
tree_bad connected None name is = absurd (cc is)
tree_bad connected (Some d) name is =
    let both = bad_err (name_of d) name (client_reading d) is in
    ap (λ n. refused_with (reason_of connected n) (offending_of d)) (sym both.1) ∙ bad_taken connected d (name_of d) both.0

no_parse : (name : Option (List ℕ)) (o : Option ClientMessage) → or_bad name o ≡ Err Parse → ⊥
no_parse name None is = cc is
no_parse name (Some m) is = cc is

tree_parse : (connected : Bool) (o : Option Data) → client_tree o ≡ Err Parse → refused_with (codes "Parse error") None ≡ taken_tree connected o
tree_parse connected None is = refl
tree_parse connected (Some d) is = absurd (no_parse (name_of d) (client_reading d) is)

-- a text that isn't too long
short : (connected : Bool) (t : List ℕ) → nat_lt max_text (length t) ≡ false → taken_text connected t ≡ taken_tree connected (json_text.read t)
short connected t is = ap (λ b. cond b (refused_with (codes "Bad request") None) (taken_tree connected (json_text.read t))) is

pub too_long : (connected : Bool) (t : List ℕ) → nat_lt max_text (length t) ≡ true → refused_with (codes "Bad request") None ≡ taken_text connected t
too_long connected t is = sym (ap (λ b. cond b (refused_with (codes "Bad request") None) (taken_tree connected (json_text.read t))) is)

pub of_message : (connected : Bool) (t : List ℕ) (m : ClientMessage) → nat_lt max_text (length t) ≡ false → client_answer t ≡ Ok m → taken_message connected (offending_in t) m ≡ taken_text connected t
of_message connected t m within is = tree_message connected (json_text.read t) m is ∙ sym (short connected t within)

pub of_bad : (connected : Bool) (t : List ℕ) (name : Option (List ℕ)) → nat_lt max_text (length t) ≡ false → client_answer t ≡ Err (BadRequest name) →
    refused_with (reason_of connected name) (offending_in t) ≡ taken_text connected t
of_bad connected t name within is = tree_bad connected (json_text.read t) name is ∙ sym (short connected t within)

pub of_no_json : (connected : Bool) (t : List ℕ) → nat_lt max_text (length t) ≡ false → client_answer t ≡ Err Parse → refused_with (codes "Parse error") None ≡ taken_text connected t
of_no_json connected t within is = tree_parse connected (json_text.read t) is ∙ sym (short connected t within)

pub within : (len : ℕ) (t : List ℕ) → len ≤ max_text → len ≡ length t → nat_lt max_text (length t) ≡ false
within len t h is = subst (λ n. nat_lt max_text n ≡ false) is (le-ltb max_text len h)
