-- The documents and the ids in the texts that are read are such as a message can hold.
use Rattle.std.specs.Prelude.{
  ◌≡◌,
  ℕ,
  ◌<◌,
  ◌≤◌,
  length,
  List,
  [],
  ◌∷◌,
  codes,
  Bool,
  true,
  false,
  nat_le,
  Option,
  Some,
  None,
  IfSome,
  option_and_then,
  Result,
  Ok,
  Err,
  refl,
  if◌then◌else◌,
}
use Rattle.std.specs.Ordering.{nat_cmp, match_ordering}
use Rattle.std.specs.declared.cmp.Ordering.TheVariants.{Less, Equal, Greater}
use Rattle.std.specs.Cmp.Lexicographic.{slice_cmp}
use Rattle.std.proofs.Common.{ap, sym, subst, ◌∙◌, arith}
use Rattle.std.proofs.lemmas.Bool.{leb-true}
use Rattle.serde_json.specs.Data.{Data, Items, no_items, item, Members, no_members, member}
use Rattle.serde_json.specs.Data as json
use Rattle.serde_json.specs.Find.{get, get_member, as_str, as_array}
use Rattle.map_model.specs.MapLaws.{sorted-nil}
use Rattle.value_model.specs.Val.{Val, object, Entries, entries_of, fields_of}
use Rattle.value_model.specs.ValLaws.{fields_of-entries_of}
use Rattle.value_model.specs.Order.{text_cmp}
use Rattle.value_model.specs.Valid.{IsValue, IsDocument}
use Rattle.value_model.specs.ValidLaws.{IsDocument-object}
use Rattle.ejson_value.specs.declared.message.DataMsg.{DataMsg}
use Rattle.ejson_value.specs.declared.message.DataMsg.TheVariants.{Added, Changed, Removed}
use Rattle.ejson_codec.specs.Trees.{HasRisingKeys, MembersHaveRisingKeys}
use Rattle.ejson_codec.specs.Reading.{max_levels, reading}
use Rattle.ejson_codec.specs.ReadingLaws.{reads_ok}
use Rattle.ejson_codec.specs.ValueLaws.{reads_valid}
use Rattle.ejson_codec.specs.declared.fault.EjsonFault.{EjsonFault}
use Rattle.ddp_messages.specs.Wire.{own_of}
use Rattle.ddp_messages.specs.WireLaws.{own_ok}
use Rattle.ddp_messages.specs.Forms.{max_id, short_enough, id_of, document_id_of, with_first, each_of, ids_of, ok_of, value_of, fields_of_value, document_of}
use Rattle.ddp_messages.specs.Fields.{or_default}
use Rattle.ddp_messages.specs.FieldLaws.{and_then_some}
use Rattle.ddp_messages.specs.Limits.{IsShort, AreShort, IsShallow, DataKeepsLimits, DataHasValues}
use Rattle.ddp_messages.specs.Answers.{client_answer, server_answer}
use Rattle.ddp_messages.specs.AnswerLaws.{client_answer_ok, server_answer_ok}
use Rattle.ddp_messages.specs.ReadTreeLaws.{read_rises}
use Rattle.ddp_messages.specs.ClientMessage.{ClientMessage, ClientReads}
use Rattle.ddp_messages.specs.ClientMessage as client
use Rattle.ddp_messages.specs.ServerMessage.{ServerMessage, DataReads, ServerReads}
use Rattle.ddp_messages.specs.ServerMessage as server
use Rattle.reconnect_laws.specs.Sent.{FitMessage}

-- ---- documents

member_rises : (key : List ℕ) (ms : Members) → MembersHaveRisingKeys ms → IfSome (get_member key ms) HasRisingKeys
member_rises key no_members r = tt
member_rises key (member other d ms) r =
    elim (slice_cmp nat_cmp key other) as (λ o. IfSome (match_ordering o (get_member key ms) (Some d) (get_member key ms)) HasRisingKeys) [
      | Less ↦ member_rises key ms r.1
      | Equal ↦ r.0
      | Greater ↦ member_rises key ms r.1
    ]

field_rises : (key : List ℕ) (d : Data) → HasRisingKeys d → IfSome (get key d) HasRisingKeys
field_rises key (json.object ms) r = member_rises key ms r.1
field_rises key d r = tt

ok_found : {A : Type 0} (r : Result A EjsonFault) (a : A) → ok_of r ≡ Some a → r ≡ Ok a
ok_found (Ok b) a e = ap Ok (cc e)
ok_found (Err x) a e = absurd (cc e)

value_is : (d : Data) (v : Val) → HasRisingKeys d → value_of d ≡ Some v → IsValue v × IsShallow v
value_is d v r e = let p = reads_ok max_levels d v (ok_found (reading max_levels d) v e) in (reads_valid d v p.0 r, p.1)

fields_found : (v : Val) (es : Entries) → fields_of_value v ≡ Some es → v ≡ object (fields_of es)
fields_found (object fs) es e = let same : entries_of fs ≡ es = cc e in ap object (sym (fields_of-entries_of fs) ∙ ap fields_of same)
fields_found v es e = absurd (cc e)

document_fits : (d : Data) (es : Entries) → HasRisingKeys d → document_of d ≡ Some es → FitMessage es
document_fits d es r e =
    let p = and_then_some fields_of_value (value_of d) es e in
    let v = value_is d p.0 r p.1 in
    let is = fields_found p.0 es p.2 in
    (IsDocument-object es (subst IsValue is v.0), subst IsShallow is v.1)

pub no_fields-fit : FitMessage []
no_fields-fit = (record { names = sorted-nil text_cmp; values = tt }, omega arith)

fields_fit : (o : Option Data) (es : Entries) → IfSome o HasRisingKeys → or_default [] document_of o ≡ Some es → FitMessage es
fields_fit None es r e = let none : [] ≡ es = cc e in subst FitMessage none no_fields-fit
fields_fit (Some d) es r e = document_fits d es r e

has_id : (o : Option Data) (id : List ℕ) → option_and_then document_id_of o ≡ Some id → 0 < length id
has_id o id e =
    let p = and_then_some document_id_of o id e in
    let q = and_then_some own_of (as_str p.0) id p.2 in
    (own_ok q.0 id q.2).0

data_fits : (d : Data) (m : DataMsg) → HasRisingKeys d → DataReads d m → DataHasValues m × DataKeepsLimits m
data_fits d (Added key fields) r h =
    let f = fields_fit (get (codes "fields") d) fields (field_rises (codes "fields") d r) h.2 in
    (f.0, (has_id (get (codes "id") d) key.id h.1.1, f.1))
data_fits d (Changed key fields cleared) r h =
    let f = fields_fit (get (codes "fields") d) fields (field_rises (codes "fields") d r) h.2 in
    (f.0, (has_id (get (codes "id") d) key.id h.1.1, f.1))
data_fits d (Removed key) r h = (tt, has_id (get (codes "id") d) key.id h.1.1)

pub data_read : (text : List ℕ) (m : DataMsg) → server_answer text ≡ Ok (server.about m) → DataHasValues m × DataKeepsLimits m
data_read text m e =
    let p = server_answer_ok text (server.about m) e in
    data_fits p.0 m (read_rises text p.0 p.1) p.3

-- ---- ids

shortened : (s id : List ℕ) (b : Bool) → nat_le (length s) max_id ≡ b → (if b then Some s else None) ≡ Some id → IsShort id
shortened s id false is e = absurd (cc e)
shortened s id true is e = let same : s ≡ id = cc e in subst IsShort same (leb-true (length s) max_id is)

id_short : (d : Data) (id : List ℕ) → id_of d ≡ Some id → IsShort id
id_short d id e =
    let p = and_then_some short_enough (as_str d) id e in
    shortened p.0 id (nat_le (length p.0) max_id) refl p.2

field_short : (o : Option Data) (id : List ℕ) → option_and_then id_of o ≡ Some id → IsShort id
field_short o id e = let p = and_then_some id_of o id e in id_short p.0 id p.2

first_found : {A : Type 0} (o : Option A) (rest : Option (List A)) (all : List A) → with_first o rest ≡ Some all →
    (a : A) × (more : List A) × (o ≡ Some a) × (rest ≡ Some more) × (a ∷ more ≡ all)
first_found None rest all e = absurd (cc e)
first_found (Some a) None all e = absurd (cc e)
first_found (Some a) (Some more) all e = (a, more, refl, refl, cc e)

each_short : (ds : Items) (ids : List (List ℕ)) → each_of id_of ds ≡ Some ids → AreShort ids
each_short no_items ids e = let none : [] ≡ ids = cc e in subst AreShort none tt
each_short (item d ds) ids e =
    let p = first_found (id_of d) (each_of id_of ds) ids e in
    subst AreShort p.4 (id_short d p.0 p.2, each_short ds p.1 p.3)

ids_short : (o : Option Data) (ids : List (List ℕ)) → option_and_then ids_of o ≡ Some ids → AreShort ids
ids_short o ids e =
    let p = and_then_some ids_of o ids e in
    let q = and_then_some (each_of id_of) (as_array p.0) ids p.2 in
    each_short q.0 ids q.2

-- the ids that a server answers to are those of a client's messages
abbrev pub AnswersShort : ServerMessage → Type 0
AnswersShort (server.nosub id fault) = IsShort id
AnswersShort (server.finished id fault value) = IsShort id
AnswersShort (server.updated ids) = AreShort ids
AnswersShort _ = Unit {0}

answers_short : (d : Data) (m : ServerMessage) → ServerReads d m → AnswersShort m
answers_short d (server.nosub id fault) h = field_short (get (codes "id") d) id h.1
answers_short d (server.finished id fault value) h = field_short (get (codes "id") d) id h.1
answers_short d (server.updated ids) h = ids_short (get (codes "methods") d) ids h.1
answers_short d _ h = tt

pub answers_read : (text : List ℕ) (m : ServerMessage) → server_answer text ≡ Ok m → AnswersShort m
answers_read text m e = let p = server_answer_ok text m e in answers_short p.0 m p.3

-- what a client asks for has such an id
abbrev pub AsksShort : ClientMessage → Type 0
AsksShort (client.unsub id) = IsShort id
AsksShort (client.method id name params seed) = IsShort id
AsksShort _ = Unit {0}

asks_short : (d : Data) (m : ClientMessage) → ClientReads d m → AsksShort m
asks_short d (client.unsub id) h = field_short (get (codes "id") d) id h.1
asks_short d (client.method id name params seed) h = field_short (get (codes "id") d) id h.1
asks_short d _ h = tt

pub asks_read : (text : List ℕ) (m : ClientMessage) → client_answer text ≡ Ok m → AsksShort m
asks_read text m e = let p = client_answer_ok text m e in asks_short p.0 m p.2
