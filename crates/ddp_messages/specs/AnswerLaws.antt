-- What is answered to a text, against the table of fields.
use Rattle.std.specs.Prelude.{◌≡◌, ℕ, List, Option, Some, None, Result, Ok, Err, Bool, true, false, is_some, IfOk, refl}
use Rattle.std.proofs.Common.{sym, ap, ap₂, ◌∙◌}
use Rattle.serde_json.specs.Data.{Data}
use Rattle.serde_json.specs.Find.{as_object}
use Rattle.serde_json.specs.Read as json
use Rattle.ddp_messages.specs.Fields.{name_of}
use Rattle.ddp_messages.specs.ClientMessage.{ClientMessage, ClientReads, client_reading}
use Rattle.ddp_messages.specs.ClientLaws.{client_ok, client_only}
use Rattle.ddp_messages.specs.ServerMessage.{ServerMessage, ServerReads, server_reading}
use Rattle.ddp_messages.specs.ServerLaws.{server_ok, server_only}
use Rattle.ddp_messages.specs.Answers.{IsClientText, IsServerText, or_bad, client_tree, client_answer, if_object, server_tree, server_answer, GivesMessage}
use Rattle.ddp_messages.specs.declared.fault.MsgFault.{MsgFault}
use Rattle.ddp_messages.specs.declared.fault.MsgFault.TheVariants.{Parse, BadRequest, Memory}

or_bad_ok : {M : Type 0} (name : Option (List ℕ)) (o : Option M) (m : M) → or_bad name o ≡ Ok m → o ≡ Some m
or_bad_ok name None m h = absurd (cc h)
or_bad_ok name (Some x) m h = cc h

client_tree_ok : (o : Option Data) (m : ClientMessage) → client_tree o ≡ Ok m → (d : Data) × (o ≡ Some d) × ClientReads d m
client_tree_ok None m h = absurd (cc h)
client_tree_ok (Some d) m h = (d, refl, client_ok d m (or_bad_ok (name_of d) (client_reading d) m h))

pub client_answer_ok : (input : List ℕ) (m : ClientMessage) → client_answer input ≡ Ok m → IsClientText input m
client_answer_ok input m h = client_tree_ok (json.read input) m h

pub client_answer_only : (input : List ℕ) (m : ClientMessage) → IsClientText input m → client_answer input ≡ Ok m
client_answer_only input m h = ap client_tree h.1 ∙ ap (or_bad (name_of h.0)) (client_only h.0 m h.2)

if_object_ok : {M : Type 0} (b : Bool) (answer : Result M MsgFault) (m : M) → if_object b answer ≡ Ok m → (b ≡ true) × (answer ≡ Ok m)
if_object_ok true answer m h = (refl, h)
if_object_ok false answer m h = absurd (cc h)

server_tree_ok : (o : Option Data) (m : ServerMessage) → server_tree o ≡ Ok m → (d : Data) × (o ≡ Some d) × (is_some (as_object d) ≡ true) × ServerReads d m
server_tree_ok None m h = absurd (cc h)
server_tree_ok (Some d) m h =
    let p = if_object_ok (is_some (as_object d)) (or_bad (name_of d) (server_reading d)) m h in
    (d, refl, p.0, server_ok d m (or_bad_ok (name_of d) (server_reading d) m p.1))

pub server_answer_ok : (input : List ℕ) (m : ServerMessage) → server_answer input ≡ Ok m → IsServerText input m
server_answer_ok input m h = server_tree_ok (json.read input) m h

pub server_answer_only : (input : List ℕ) (m : ServerMessage) → IsServerText input m → server_answer input ≡ Ok m
server_answer_only input m h = ap server_tree h.1 ∙ ap₂ if_object h.2 (ap (or_bad (name_of h.0)) (server_only h.0 m h.3))

-- ---- what a call gives

pub found_from : {A M : Type 0} (view : A → M) (P : M → Type 0) (r : Result A MsgFault) (answer : Result M MsgFault) → GivesMessage view r answer →
    ((m : M) → answer ≡ Ok m → P m) → IfOk r (λ a. P (view a))
found_from view P (Ok a) answer is ok = ok (view a) is
found_from view P (Err e) answer is ok = tt

pub only_from : {A M : Type 0} (view : A → M) (r : Result A MsgFault) (answer : Result M MsgFault) (m : M) → GivesMessage view r answer →
    answer ≡ Ok m → GivesMessage view r (Ok m)
only_from view (Ok a) answer m is known = sym known ∙ is
only_from view (Err Parse) answer m is known = sym known ∙ is
only_from view (Err (BadRequest name)) answer m is known = sym known ∙ is
only_from view (Err Memory) answer m is known = tt

-- one object is one message
pub one_client : (d : Data) (m n : ClientMessage) → ClientReads d m → ClientReads d n → m ≡ n
one_client d m n hm hn = let same : Some m ≡ Some n = sym (client_only d m hm) ∙ client_only d n hn in cc same

pub one_server : (d : Data) (m n : ServerMessage) → ServerReads d m → ServerReads d n → m ≡ n
one_server d m n hm hn = let same : Some m ≡ Some n = sym (server_only d m hm) ∙ server_only d n hn in cc same
