-- The difference of two maps of documents, message by message as texts: a reader of the first map that takes them has the second.
use Rattle.std.specs.Prelude.{
  ◌≡◌,
  ℕ,
  suc,
  max,
  ◌<◌,
  ◌≤◌,
  length,
  List,
  [],
  ◌∷◌,
  ◌++◌,
  map,
  filter,
  not,
  Bool,
  true,
  false,
  cond,
  Option,
  Some,
  None,
  IfSome,
  Result,
  Ok,
  Err,
  refl,
}
use Rattle.std.specs.Map.{keys_of, remove_entry}
use Rattle.std.specs.BTreeMap.{is_at, insert_entry}
use Rattle.std.specs.declared.cmp.Ordering.TheVariants.{Less, Equal, Greater}
use Rattle.std.specs.Ordering.{eq_by_cmp, match_ordering}
use Rattle.std.proofs.Common.{ap, sym, subst, ◌∙◌, arith}
use Rattle.map_model.specs.Maps.{at, set, IsSorted, keyed, collect, union}
use Rattle.map_model.specs.MapLaws.{at-set, sorted-set, key_is}
use Rattle.map_model.specs.Differences.{
  Step,
  added,
  changed,
  removed,
  without,
  with_fields,
  taken,
  AreDocs,
  all_taken,
  new_fields,
  cleared,
  is_there,
  changed_unless_same,
  between,
  diff,
}
use Rattle.map_model.specs.DifferenceLaws.{sorted-without, sorted-with_fields, sorted-new_fields, diff_taken}
use Rattle.value_model.specs.Val.{Val, object, Entries, fields_of}
use Rattle.value_model.specs.Depth.{depth, fields_depth}
use Rattle.value_model.specs.Order.{text_cmp, compare}
use Rattle.value_model.specs.OrderLaws.{compare_is_eq}
use Rattle.value_model.specs.Valid.{IsValue, HaveValues, IsDocument}
use Rattle.value_model.specs.ValidLaws.{HaveValues-put, HaveValues-remove}
use Rattle.ejson_value.specs.declared.key.Key.{Key}
use Rattle.ejson_value.specs.declared.message.DataMsg.{DataMsg}
use Rattle.ejson_value.specs.declared.message.DataMsg.TheVariants.{Added, Changed, Removed}
use Rattle.ejson_value.specs.Key.{key_cmp, key_order, name_order}
use Rattle.ejson_value.specs.Rows.{Rows}
use Rattle.ejson_value.specs.Messages.{said}
use Rattle.ddp_messages.specs.Answers.{server_answer}
use Rattle.ddp_messages.specs.Limits.{IsShallow, DataKeepsLimits, DataHasValues}
use Rattle.ddp_messages.specs.MessageLaws.{server_text_back}
use Rattle.ddp_messages.specs.ServerMessage.{ServerMessage}
use Rattle.ddp_messages.specs.ServerMessage as server
use Rattle.ejson_value.specs.Messages.{saying}
use Rattle.reconnect_model.specs.Giving.{documents, same_value, step_text, differences}
use Rattle.reconnect_laws.specs.Given.{documents_by, all_documents}
use Rattle.reconnect_laws.specs.Sent.{FitMessage, IsSent, AreSent}

-- ---- a document with more fields, and without some

put_depth : (es : Entries) (name : List ℕ) (v : Val) (n : ℕ) → fields_depth (fields_of es) ≤ n → depth v ≤ n →
    fields_depth (fields_of (insert_entry text_cmp es name v)) ≤ n
put_depth [] name v n all one = omega arith
put_depth (e ∷ es) name v n all one =
    let rest = put_depth es name v n (omega arith) one in
    elim (text_cmp name e.0)
    as (λ o. fields_depth (fields_of (match_ordering o ((name, v) ∷ e ∷ es) ((e.0, v) ∷ es) (e ∷ insert_entry text_cmp es name v))) ≤ n)
    [ Less ↦ omega arith | Equal ↦ omega arith | Greater ↦ omega (arith, rest) ]

remove_depth : (test : List ℕ → Bool) (es : Entries) → fields_depth (fields_of (remove_entry test es)) ≤ fields_depth (fields_of es)
remove_depth test [] = omega arith
remove_depth test (e ∷ es) =
    let rest = remove_depth test es in
    elim (test e.0) as (λ b. fields_depth (fields_of (cond b es (e ∷ remove_entry test es))) ≤ fields_depth (fields_of (e ∷ es)))
    [ true ↦ omega arith | false ↦ omega (arith, rest) ]

without_values : (a : Entries) (names : List (List ℕ)) → HaveValues (fields_of a) → HaveValues (fields_of (without text_cmp a names))
without_values a [] h = h
without_values a (n ∷ names) h = HaveValues-remove (is_at (text_cmp n)) (without text_cmp a names) (without_values a names h)

without_depth : (a : Entries) (names : List (List ℕ)) → fields_depth (fields_of (without text_cmp a names)) ≤ fields_depth (fields_of a)
without_depth a [] = omega arith
without_depth a (n ∷ names) = omega (arith, without_depth a names, remove_depth (is_at (text_cmp n)) (without text_cmp a names))

with_values : (a fields : Entries) → HaveValues (fields_of a) → HaveValues (fields_of fields) → HaveValues (fields_of (with_fields text_cmp a fields))
with_values a [] h f = h
with_values a (e ∷ fields) h f = HaveValues-put (with_fields text_cmp a fields) e.0 e.1 (with_values a fields h f.1) f.0

with_depth : (a fields : Entries) (n : ℕ) → fields_depth (fields_of a) ≤ n → fields_depth (fields_of fields) ≤ n →
    fields_depth (fields_of (with_fields text_cmp a fields)) ≤ n
with_depth a [] n h f = h
with_depth a (e ∷ fields) n h f =
    let rest = with_depth a fields n h (omega arith) in
    put_depth (with_fields text_cmp a fields) e.0 e.1 n rest (omega arith)

changed_fits : (a fields : Entries) (names : List (List ℕ)) → FitMessage a → FitMessage fields →
    FitMessage (with_fields text_cmp (without text_cmp a names) fields)
changed_fits a fields names g h =
    let low = without_depth a names in
    let gd = g.1 in
    let hd = h.1 in
    let deep = with_depth (without text_cmp a names) fields 31 (omega (arith, low, gd)) (omega (arith, hd)) in (
      record {
        names = sorted-with_fields name_order (without text_cmp a names) fields (sorted-without name_order a names g.0.names);
        values = with_values (without text_cmp a names) fields (without_values a names g.0.values) h.0.values;
      },
      omega (arith, deep),
    )

-- ---- what a message makes of documents

taken_sent : (m : DataMsg) → DataHasValues m → DataKeepsLimits m → (old : Option Entries) → IfSome old (IsSent (said m).0) →
    IfSome (taken text_cmp old (said m).1) (IsSent (said m).0)
taken_sent (Added key fields) v l old g = (l.0, (v, l.1))
taken_sent (Changed key fields cleared) v l None g = tt
taken_sent (Changed key fields cleared) v l (Some a) g = (l.0, changed_fits a fields cleared g.1 (v, l.1))
taken_sent (Removed key) v l old g = tt

pub told_sent : (rows : Rows) (m : DataMsg) → DataHasValues m → DataKeepsLimits m → AreSent rows → AreSent (documents rows (server.about m))
told_sent rows m v l w =
    let k = (said m).0 in
    let now = taken text_cmp (at key_cmp rows k) (said m).1 in
    let here = taken_sent m v l (at key_cmp rows k) (w.each k) in
    record {
      sorted = sorted-set key_order rows k now w.sorted;
      each = λ q. subst (λ o. IfSome o (IsSent q)) (sym (at-set key_order rows k now q w.sorted))
          (elim (eq_by_cmp key_cmp q k) as (λ b. eq_by_cmp key_cmp q k ≡ b → IfSome (cond b now (at key_cmp rows q)) (IsSent q)) [
            | true ↦ λ t. subst (λ x. IfSome now (IsSent x)) (sym (key_is key_order q k t)) here
            | false ↦ λ t. w.each q
          ] refl);
    }

-- ---- the texts of a difference

-- the text reads as the message that it was made of
abbrev pub ReadsBack : Key × Step (List ℕ) Val → Type 0
ReadsBack e = server_answer (step_text e) ≡ Ok (server.about (saying e))

abbrev pub AllReadBack : List (Key × Step (List ℕ) Val) → Type 0
AllReadBack [] = Unit {0}
AllReadBack (e ∷ es) = ReadsBack e × AllReadBack es

kept_values : (keep : List ℕ × Val → Bool) (es : Entries) → HaveValues (fields_of es) → HaveValues (fields_of (filter keep es))
kept_values keep [] h = tt
kept_values keep (e ∷ es) h =
    elim (keep e) as
    (λ b. HaveValues (fields_of (cond b (e ∷ filter keep es) (filter keep es)))) [ true ↦ (h.0, kept_values keep es h.1) | false ↦ kept_values keep es h.1 ]

kept_depth : (keep : List ℕ × Val → Bool) (es : Entries) → fields_depth (fields_of (filter keep es)) ≤ fields_depth (fields_of es)
kept_depth keep [] = omega arith
kept_depth keep (e ∷ es) =
    let rest = kept_depth keep es in
    elim (keep e) as (λ b. fields_depth (fields_of (cond b (e ∷ filter keep es) (filter keep es))) ≤ fields_depth (fields_of (e ∷ es)))
    [ true ↦ omega (arith, rest) | false ↦ omega (arith, rest) ]

changed_reads : (key : Key) (fields : Entries) (names : List (List ℕ)) → 0 < length key.id → FitMessage fields →
    IfSome (changed_unless_same text_cmp same_value fields names) (λ s. ReadsBack (key, s))
changed_reads key [] [] id fit = tt
changed_reads key (e ∷ fields) names id fit = server_text_back (server.about (Changed key (e ∷ fields) names)) fit.0 (id, fit.1)
changed_reads key [] (n ∷ names) id fit = server_text_back (server.about (Changed key [] (n ∷ names))) fit.0 (id, fit.1)

abbrev is_new : Entries → List ℕ × Val → Bool
is_new a e = not (is_there text_cmp same_value e.1 (at text_cmp a e.0))

step_reads : (key : Key) (x y : Option Entries) → IfSome x (IsSent key) → IfSome y (IsSent key) →
    IfSome (between text_cmp same_value x y) (λ s. ReadsBack (key, s))
step_reads key None None g h = tt
step_reads key None (Some b) g h = server_text_back (server.about (Added key b)) h.1.0 (h.0, h.1.1)
step_reads key (Some a) None g h = server_text_back (server.about (Removed key)) tt g.0
step_reads key (Some a) (Some b) g h =
    let hd = h.1.1 in
    let low = kept_depth (is_new a) b in
    changed_reads key (new_fields text_cmp same_value a b) (cleared text_cmp same_value a b) h.0 (
      record { names = sorted-new_fields name_order same_value a b h.1.0.names; values = kept_values (is_new a) b h.1.0.values },
      omega (arith, low, hd),
    )

keyed_reads : (key : Key) (s : Option (Step (List ℕ) Val)) (rest : List (Key × Step (List ℕ) Val)) → IfSome s (λ s. ReadsBack (key, s)) → AllReadBack rest →
    AllReadBack (keyed key s rest)
keyed_reads key None rest h r = r
keyed_reads key (Some s) rest h r = (h, r)

collected_reads : (f : Key → Option (Step (List ℕ) Val)) → ((k : Key) → IfSome (f k) (λ s. ReadsBack (k, s))) → (ks : List Key) → AllReadBack (collect f ks)
collected_reads f all [] = tt
collected_reads f all (k ∷ ks) = keyed_reads k (f k) (collect f ks) (all k) (collected_reads f all ks)

pub differences_read : (a b : Rows) → AreSent a → AreSent b → AllReadBack (diff text_cmp same_value key_cmp a b)
differences_read a b g h =
    collected_reads (λ k. between text_cmp same_value (at key_cmp a k) (at key_cmp b k))
    (λ k. step_reads k (at key_cmp a k) (at key_cmp b k) (g.each k) (h.each k)) (keys_of (union key_cmp a b))

said_is : (e : Key × Step (List ℕ) Val) → said (saying e) ≡ e
said_is (key, added fields) = refl
said_is (key, changed fields names) = refl
said_is (key, removed) = refl

abbrev with_step : Rows → Key × Step (List ℕ) Val → Rows
with_step rows e = set key_cmp rows e.0 (taken text_cmp (at key_cmp rows e.0) e.1)

steps_taken : (rows : Rows) (es : List (Key × Step (List ℕ) Val)) → AllReadBack es → all_documents rows (map step_text es) ≡ all_taken text_cmp key_cmp rows es
steps_taken rows [] h = refl
steps_taken rows (e ∷ es) h =
    ap (λ answer. all_documents (documents_by rows answer) (map step_text es)) h.0
    ∙ (ap (λ x. all_documents (with_step rows x) (map step_text es)) (said_is e) ∙ steps_taken (with_step rows e) es h.1)

exact : (v w : Val) → same_value v w ≡ true → v ≡ w
exact v w e = (compare_is_eq v w).0 e

named : (key : Key) (o : Option Entries) → IfSome o (IsSent key) → IfSome o (IsSorted text_cmp)
named key None g = tt
named key (Some doc) g = g.1.0.names

are_docs : (rows : Rows) → AreSent rows → AreDocs text_cmp key_cmp rows
are_docs rows w k = named k (at key_cmp rows k) (w.each k)

pub differences_taken : (a b : Rows) → AreSent a → AreSent b → all_documents a (differences a b) ≡ b
differences_taken a b g h =
    steps_taken a (diff text_cmp same_value key_cmp a b) (differences_read a b g h)
    ∙ diff_taken key_order name_order same_value exact a b g.sorted h.sorted (are_docs a g) (are_docs b h)
