-- What was read of a line's tokens.
use Rattle.std.specs.Prelude.{IfSome, codes}
use Rattle.std.proofs.Common.{◌≡◌, ℕ, ◌+◌, ◌<◌, ◌≤◌, List, [], ◌∷◌, ◌++◌, length, Bool, true, false, Option, Some, None, refl, sym, ap, subst, ◌∙◌, arith}
use Rattle.std.proofs.lemmas.List.{append_assoc, append-nil}
use Rattle.json.specs.Token.{Token}
use Rattle.json.specs.Lex.{tokens}
use Rattle.json.specs.Json.{after_end_array, value}
use Rattle.json.proofs.Grammar.{value_is, after_end_array-shorter}
use Rattle.serde_json.specs.Read.{converted, of_json}
use Rattle.value_model.specs.Val.{Val, text, list, vals_of}
use Rattle.ejson_codec.specs.Reading.{max_levels}
use Rattle.ejson_codec.specs.ReadingLaws.{reads_ok, reads_only}
use Rattle.ejson_codec.specs.Plain.{ValueRead, ItemsRead, IsValueText}
use Rattle.ejson_codec.proofs.TokenTurns.{whole_read}
use Rattle.ejson_codec.proofs.PlainTurns.{string_read, ItemsSoFar, no_item_yet, item_more, items_all, list_read, value_text_parsed}
use Rattle.collection_store.specs.declared.operation.Op.{Op}
use Rattle.history_model.specs.Operations.{update_in, operation_named}
use Rattle.operation_reading.specs.Tells.{told_value, Tells, OperandRead, AreNext, OperationRead, update_name, IsOver, LineRead}

-- ---- operands

pub one_read : (name collection : List ℕ) (old rest : List Token) (v : Val) (o : Option Op) → OperandRead old v rest → o ≡ operation_named name collection (v ∷ [])
    → IfSome o (λ op. OperationRead name collection old op rest)
one_read name collection old rest v None read is = tt
one_read name collection old rest v (Some op) read is = (v ∷ [], (rest, read.0, read.1, refl), omega (arith, read.2), (read.3, tt), sym is)

pub two_read : (name collection : List ℕ) (old more rest : List Token) (v w : Val) (o : Option Op) → OperandRead old v more → OperandRead more w rest
    → o ≡ operation_named name collection (v ∷ w ∷ []) → IfSome o (λ op. OperationRead name collection old op rest)
two_read name collection old more rest v w None first second is = tt
two_read name collection old more rest v w (Some op) first second is =
    (v ∷ w ∷ [], (more, first.0, first.1, (rest, second.0, second.1, refl)), omega (arith, first.2, second.2), (first.3, (second.3, tt)), sym is)

pub update_named : (all : Bool) (collection : List ℕ) (s m : Val) → update_in collection all s m ≡ operation_named (update_name all) collection (s ∷ m ∷ [])
update_named true collection s m = refl
update_named false collection s m = refl

-- ---- lists

-- no bracket closes a list where a value comes first
going : (levels : ℕ) (ts rest : List Token) (v : Val) → ValueRead levels ts v rest → after_end_array ts ≡ None
going levels [] rest v read = refl
going levels (Token.begin_object ∷ ts) rest v read = refl
going levels (Token.end_object ∷ ts) rest v read = refl
going levels (Token.begin_array ∷ ts) rest v read = refl
going levels (Token.end_array ∷ ts) rest v read =
    let one = read levels (omega arith) in
    let none = ap (converted of_json) (value_is levels (Token.end_array ∷ ts)) in
    absurd (cc (sym none ∙ one.1))
going levels (Token.key s ∷ ts) rest v read = refl
going levels (Token.string s ∷ ts) rest v read = refl
going levels (Token.number s ∷ ts) rest v read = refl
going levels (Token.boolean b ∷ ts) rest v read = refl
going levels (Token.null ∷ ts) rest v read = refl
going levels (Token.bad ∷ ts) rest v read = refl

so_far : (levels : ℕ) (start left rest : List Token) (done vs : List Val) → ItemsSoFar levels start left done → AreNext levels left vs rest → ItemsSoFar levels start rest (done ++ vs)
so_far levels start left rest done [] before read =
    subst (λ (ts : List Token). ItemsSoFar levels start ts (done ++ [])) read (subst (λ (xs : List Val). ItemsSoFar levels start left xs) (sym (append-nil done)) before)
so_far levels start left rest done (v ∷ vs) before read =
    let more = read.0 in
    let next = item_more levels start left more done (done ++ v ∷ []) v (going levels left more v read.1) read.1 read.2 refl before in
    subst (λ (xs : List Val). ItemsSoFar levels start rest xs) (append_assoc done (v ∷ []) vs) (so_far levels start more rest (done ++ v ∷ []) vs next read.3)

items_read : (levels : ℕ) (start left rest : List Token) (vs : List Val) → AreNext levels start vs left → after_end_array left ≡ Some rest → ItemsRead levels start vs rest
items_read levels start left rest vs read over = items_all levels start left rest vs over (so_far levels start start left [] vs (no_item_yet levels start [] refl) read)

fewer : (levels : ℕ) (ts rest : List Token) (vs : List Val) → AreNext levels ts vs rest → length rest ≤ length ts
fewer levels ts rest [] read = omega (arith, ap length read)
fewer levels ts rest (v ∷ vs) read = omega (arith, read.2, fewer levels read.0 rest vs read.3)

-- ---- the line

abbrev line_tokens : List ℕ → List ℕ → List Token → List Token
line_tokens name collection operands = Token.begin_array ∷ Token.string (codes "admin") ∷ Token.begin_array ∷ Token.string name ∷ Token.string collection ∷ operands

whole_line : (name collection : List ℕ) (operands left : List Token) (op : Op) → OperationRead name collection operands op left → IsOver left → LineRead (line_tokens name collection operands) op
whole_line name collection operands left op read over =
    let words = text name ∷ text collection ∷ read.0 in
    let second = Token.string collection ∷ operands in
    let first = Token.string name ∷ second in
    let op_list = Token.begin_array ∷ first in
    let outer = over.0 in
    let inside = items_read max_levels first left outer words
    (second, string_read max_levels name second, omega arith, (operands, string_read max_levels collection operands, omega arith, read.1)) over.1 in
    let less : length outer < length op_list = omega (arith, after_end_array-shorter left outer over.1, fewer max_levels operands left read.0 read.1) in
    let admin = codes "admin" in
    let outside = items_read (max_levels + 1) (Token.string admin ∷ op_list) outer [] (text admin ∷ list (vals_of words) ∷ [])
    (op_list, string_read (max_levels + 1) admin op_list, omega arith, (outer, list_read (max_levels + 1) first outer words (omega arith) inside, less, refl)) over.2 in
    (words, list_read (max_levels + 2) (Token.string admin ∷ op_list) [] (text admin ∷ list (vals_of words) ∷ []) (omega arith) outside, omega (arith, read.2), (tt, (tt, read.3)), read.4)

pub line_read : (name collection : List ℕ) (old inside second operands left : List Token) (o : Option Op) → old ≡ Token.begin_array ∷ Token.string (codes "admin") ∷ Token.begin_array ∷ inside
    → inside ≡ Token.string name ∷ second → second ≡ Token.string collection ∷ operands → IfSome o (λ op. OperationRead name collection operands op left) → IsOver left → IfSome o (λ op. LineRead old op)
line_read name collection old inside second operands left None first next last read over = tt
line_read name collection old inside second operands left (Some op) first next last read over =
    let front = λ (ts : List Token). Token.begin_array ∷ Token.string (codes "admin") ∷ Token.begin_array ∷ ts in
    let all : old ≡ line_tokens name collection operands = first ∙ ap front (next ∙ ap (λ (ts : List Token). Token.string name ∷ ts) last) in
    subst (λ (ts : List Token). LineRead ts op) (sym all) (whole_line name collection operands left op read over)

line_told : (input : List ℕ) (old : List Token) (op : Op) → old ≡ tokens input → LineRead old op → Tells input op
line_told input old op is line =
    let one = line.1 127 (omega arith) in
    let v = told_value line.0 in
    let exact = reads_only max_levels one.0 v (reads_ok (max_levels + 2) one.0 v one.2).0 (omega (arith, line.2)) in
    let found : IsValueText input v = (one.0, whole_read (value 127 (tokens input)) one.0 (ap (λ (ts : List Token). converted of_json (value 127 ts)) (sym is) ∙ one.1), exact) in
    (line.0, value_text_parsed input v found, line.3, line.4)

pub some_told : (input : List ℕ) (old : List Token) (o : Option Op) → old ≡ tokens input → IfSome o (λ op. LineRead old op) → IfSome o (λ op. Tells input op)
some_told input old None is line = tt
some_told input old (Some op) is line = line_told input old op is line
