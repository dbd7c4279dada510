-- Laws: What a session makes of a text can be said in messages, and the message that waits is a request within the limits of messages.
use Rattle.std.specs.Prelude.{◌≡◌, ℕ, List, length, codes, Bool, true, false, cond, not, ◌&&◌, nat_lt, Option, None, Some, IfSome, is_some, refl, if◌then◌else◌}
use Rattle.serde_json.specs.Data.{Data}
use Rattle.serde_json.specs.Find.{as_object}
use Rattle.serde_json.specs.Read as json
use Rattle.value_model.specs.Val.{Val}
use Rattle.value_model.specs.Size.{is_name}
use Rattle.ejson_codec.specs.Trees.{HasRisingKeys}
use Rattle.ddp_messages.specs.Fields.{name_of}
use Rattle.ddp_messages.specs.Forms.{value_of}
use Rattle.ddp_messages.specs.ClientMessage.{ClientMessage, client_reading}
use Rattle.ddp_messages.specs.ClientMessage as client
use Rattle.ddp_messages.specs.ReadTreeLaws.{read_rises}
use Rattle.world_model.specs.session_model.Items as item
use Rattle.world_model.specs.session_model.Taking.{max_text, Taken, at_once, refused_for, connected_by, taken_as, taken_named, taken_tree, taken_text}
use Rattle.world_values_laws.specs.ReadValues.{IsRead}
use Rattle.world_values_laws.specs.ReadValuesLaws.{value_is, message_is}
use Rattle.world_values_laws.specs.TakenValues.{IsTaken}

shown : (d : Data) (b : Bool) (o : Option Val) → value_of d ≡ o → HasRisingKeys d → IfSome (if b then o else None) IsRead
shown d true None is r = tt
shown d true (Some v) is r = value_is d v r is
shown d false o is r = tt

refused_is : (reason : List ℕ) (d : Data) → HasRisingKeys d → IsTaken (refused_for reason d)
refused_is reason d r = (refl, shown d (is_some (as_object d)) (value_of d) refl r)

connected_is : (version : List ℕ) → IsTaken (at_once (connected_by version))
connected_is version = elim (is_name version (codes "1")) as
    (λ (b : Bool). IsTaken (at_once (cond b item.connect item.fail))) [ true ↦ (refl, tt) | false ↦ (refl, tt) ]

as_is : (d : Data) (o : Option ClientMessage) → client_reading d ≡ o → HasRisingKeys d → IsTaken (taken_as d o)
as_is d None is r = refused_is (codes "Bad request") d r
as_is d (Some (client.connect version support)) is r = connected_is version
as_is d (Some (client.ping id)) is r = (refl, tt)
as_is d (Some (client.pong id)) is r = (refl, tt)
as_is d (Some (client.sub id name params)) is r = (refl, message_is d (client.sub id name params) r is)
as_is d (Some (client.unsub id)) is r = (refl, message_is d (client.unsub id) r is)
as_is d (Some (client.method id name params seed)) is r = (refl, message_is d (client.method id name params seed) r is)

either : (b : Bool) (x y : Taken) → IsTaken x → IsTaken y → IsTaken (if b then x else y)
either true x y f g = f
either false x y f g = g

named_is : (connected : Bool) (d : Data) (o : Option (List ℕ)) → HasRisingKeys d → IsTaken (taken_named connected d o)
named_is connected d None r = refused_is (codes "Bad request") d r
named_is connected d (Some name) r =
    either (not connected && not (is_name name (codes "connect"))) (refused_for (codes "Must connect first") d)
    (if connected && is_name name (codes "connect") then refused_for (codes "Already connected") d else taken_as d (client_reading d))
    (refused_is (codes "Must connect first") d r)
    (either (connected && is_name name (codes "connect")) (refused_for (codes "Already connected") d) (taken_as d (client_reading d))
    (refused_is (codes "Already connected") d r) (as_is d (client_reading d) refl r))

tree_is : (connected : Bool) (t : List ℕ) (o : Option Data) → json.read t ≡ o → IsTaken (taken_tree connected o)
tree_is connected t None is = (refl, tt)
tree_is connected t (Some d) is = named_is connected d (name_of d) (read_rises t d is)

-- whatever the text is
pub taken_is : (connected : Bool) (t : List ℕ) → IsTaken (taken_text connected t)
taken_is connected t = either (nat_lt max_text (length t)) (at_once (item.bad (codes "Bad request") None)) (taken_tree connected (json.read t))
    (refl, tt) (tree_is connected t (json.read t) refl)
