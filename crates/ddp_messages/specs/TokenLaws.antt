-- Members that are written one after another, by the tokens of their object.
use Rattle.std.specs.Prelude.{◌≡◌, ℕ, List, [], ◌∷◌, ◌++◌, Option, Some, None}
use Rattle.std.proofs.Common.{ap, ◌∙◌, append_assoc, append-nil}
use Rattle.json.specs.Token.{Token, key, begin_object, end_object}
use Rattle.serde_json.specs.Data.{Data, object, Members}
use Rattle.ejson_codec.specs.Tokens.{tree_tokens, members_tokens}
use Rattle.ddp_messages.specs.Tokens.{field_tokens}
use Rattle.ddp_messages.specs.Written.{Table, with_member, present}

-- the tokens of each member in turn, and the closing bracket
abbrev pub WritesTable : Table → List Token → List Token → Type 0
WritesTable [] old new = new ≡ old ++ end_object ∷ []
WritesTable (f ∷ fs) old new = (mid : List Token) × (mid ≡ old ++ field_tokens f.0 f.1) × WritesTable fs mid new

-- a member before others
field_written : (name : List ℕ) (o : Option Data) (ms : Members) (old mid new : List Token) → mid ≡ old ++ field_tokens name o → new ≡ mid ++ members_tokens ms
    → new ≡ old ++ members_tokens (with_member name o ms)
field_written name None ms old mid new first rest = rest ∙ ap (λ ts. ts ++ members_tokens ms) (first ∙ append-nil old)
field_written name (Some d) ms old mid new first rest = rest ∙ ap (λ ts. ts ++ members_tokens ms) first
    ∙ append_assoc old (key name ∷ tree_tokens d) (members_tokens ms)

fields_written : (fs : Table) (old new : List Token) → WritesTable fs old new → new ≡ old ++ members_tokens (present fs)
fields_written [] old new h = h
fields_written (f ∷ fs) old new h = field_written f.0 f.1 (present fs) old h.0 new h.1 (fields_written fs h.0 new h.2)

pub table_written : (fs : Table) (old begun new : List Token) → begun ≡ old ++ begin_object ∷ [] → WritesTable fs begun new →
    new ≡ old ++ tree_tokens (object (present fs))
table_written fs old begun new first rest =
    fields_written fs begun new rest ∙ ap (λ ts. ts ++ members_tokens (present fs)) first ∙ append_assoc old (begin_object ∷ []) (members_tokens (present fs))
