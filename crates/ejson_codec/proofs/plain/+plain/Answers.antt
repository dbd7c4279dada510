use Rattle.std.proofs.Common.{◌≡◌, ◌<◌, List, ◌∷◌, length, Some, None, sym, ap, ◌∙◌, subst, refl, arith}
use Rattle.json.specs.Token.{Token}
use Rattle.json.specs.Json.{after_end_array, read_key}
use Rattle.json.specs.Reads.{token_of}
use Rattle.json.proofs.Grammar.{read_key-shorter}
use Rattle.value_model.specs.Val.{null, boolean, int, text, list, vals_of}
use Rattle.ejson_value.specs.View.{view}
use Rattle.ejson_codec.specs.Plain.{ValueRead, ItemsRead, MembersRead}
use Rattle.ejson_codec.proofs.PlainTurns.{begins, null_read, boolean_read, string_read, number_read, item_more, items_all, list_read, no_member_yet, member_more, members_all, object_found}
use Rattle.ejson_codec.proofs.plain.+plain.Goals as goal

pub fields-fields-init : goal.fields-fields-init
fields-fields-init t c = (no_member_yet c.args.levels c.args.reader.now c.new-doc.result c.new-doc.ensures, omega arith)

pub fields-fields-preserved : goal.fields-fields-preserved
fields-fields-preserved t c =
    let k = c.in-Some.key.now in
    let inner = c.next_key.new.self in
    let named : read_key c.fields.reader ≡ Some (Some k, inner) = grind arith in
    let less = read_key-shorter c.fields.reader (Some k) inner named in
    let done = c.in_ok-value.ensures in
    let shorter = done.shorter in (
      member_more c.args.levels c.args.reader.now c.fields.reader inner c.value.new.reader k c.fields.doc c.put_at.new.doc (view c.in_ok-value.field-0) named done.read shorter c.in_ok-put_at.ensures c.fields.invariant.0,
      omega (arith, shorter, less, c.fields.invariant.1),
    )

pub fields-returns-clause-read : goal.fields-returns-clause-read
fields-returns-clause-read t c =
    let over : read_key c.fields.reader ≡ Some (None, c.next_key.new.self) = grind arith in
    subst (λ es. MembersRead c.args.levels c.args.reader.now es c.next_key.new.self) (sym c.in_ok-finish.ensures)
    (members_all c.args.levels c.args.reader.now c.fields.reader c.next_key.new.self c.fields.doc over c.fields.invariant.0)

pub items-items-preserved : goal.items-items-preserved
items-items-preserved t c =
    let going : (after_end_array c.items.reader ≡ None) × (c.take_end_array.new.self ≡ c.items.reader) = grind arith in
    let rest = c.value.new.reader in
    let v = view c.in_ok-value.field-0 in
    let read = subst (λ (ts : List Token). ValueRead c.args.levels ts v rest) going.1 c.in_ok-value.ensures.read in
    let shorter = subst (λ (ts : List Token). length rest < length ts) going.1 c.in_ok-value.ensures.shorter in (
      item_more c.args.levels c.args.reader.now c.items.reader rest c.items.items c.push.new.self v going.0 read shorter c.in_ok-push.ensures.ok c.items.invariant.0,
      omega (arith, shorter, c.items.invariant.1),
    )

pub items-returns-clause-read : goal.items-returns-clause-read
items-returns-clause-read t c =
    let over : after_end_array c.items.reader ≡ Some c.take_end_array.new.self = grind arith in
    subst (λ vs. ItemsRead c.args.levels c.args.reader.now vs c.take_end_array.new.self) (sym c.in_ok-finish.ensures)
    (items_all c.args.levels c.args.reader.now c.items.reader c.take_end_array.new.self c.items.items over c.items.invariant.0)

pub value-returns-in-Null-clause-read : goal.value-returns-in-Null-clause-read
value-returns-in-Null-clause-read t c =
    let rest = c.next.new.self in
    begins c.args.levels c.args.reader.now (Token.null ∷ rest) rest null null (c.in-Some.ensures.value ∙ ap (λ k. token_of k ∷ rest) c.in-Null.is) refl (null_read c.args.levels rest)

pub value-returns-in-Bool-clause-read : goal.value-returns-in-Bool-clause-read
value-returns-in-Bool-clause-read t c =
    let rest = c.next.new.self in
    let b = c.in-Bool.truth in
    begins c.args.levels c.args.reader.now (Token.boolean b ∷ rest) rest (boolean b) (boolean b) (c.in-Some.ensures.value ∙ ap (λ k. token_of k ∷ rest) c.in-Bool.is) refl (boolean_read c.args.levels b rest)

pub value-returns-in-Some-whole-clause-read : goal.value-returns-in-Some-whole-clause-read
value-returns-in-Some-whole-clause-read t c =
    let rest = c.next.new.self in
    let s = c.in-Number.text.now in
    let z = c.in-Some-whole.whole in
    begins c.args.levels c.args.reader.now (Token.number s ∷ rest) rest (int z) (int z) (c.in-Some.ensures.value ∙ ap (λ k. token_of k ∷ rest) c.in-Number.is) refl (number_read c.args.levels s z rest c.in-Some-whole.ensures)

pub value-returns-in_ok-from_str-in-String-clause-read : goal.value-returns-in_ok-from_str-in-String-clause-read
value-returns-in_ok-from_str-in-String-clause-read t c =
    let rest = c.next.new.self in
    let s = c.in-String.text.now in
    begins c.args.levels c.args.reader.now (Token.string s ∷ rest) rest (text s) (text c.in_ok-from_str-in-String.field-0) (c.in-Some.ensures.value ∙ ap (λ k. token_of k ∷ rest) c.in-String.is)
    (ap text (sym c.in_ok-from_str-in-String.ensures)) (string_read c.args.levels s rest)

pub value-returns-in_ok-items-in-BeginArray-clause-read : goal.value-returns-in_ok-items-in-BeginArray-clause-read
value-returns-in_ok-items-in-BeginArray-clause-read t c =
    let inner = c.next.new.self in
    let found = c.in_ok-items-in-BeginArray in
    let vs = list (vals_of found.field-0) in
    begins c.args.levels c.args.reader.now (Token.begin_array ∷ inner) c.items.new.reader vs vs (c.in-Some.ensures.value ∙ ap (λ k. token_of k ∷ inner) c.in-BeginArray.is) refl
    (list_read c.args.levels inner c.items.new.reader found.field-0 (omega (arith, c.if-levels-gt0.true)) found.ensures.read)

pub value-returns-in_ok-fields-in-BeginObject-clause-read : goal.value-returns-in_ok-fields-in-BeginObject-clause-read
value-returns-in_ok-fields-in-BeginObject-clause-read t c =
    let inner = c.next.new.self in
    let found = c.in_ok-fields-in-BeginObject in
    object_found c.object.result c.args.levels c.args.reader.now inner c.fields.new.reader found.field-0 c.object.ensures.names c.object.ensures.value
    (c.in-Some.ensures.value ∙ ap (λ k. token_of k ∷ inner) c.in-BeginObject.is) (omega (arith, c.if-levels-gt0-2.true)) found.ensures.read
