-- Laws: The texts of a client that sends none as it stands: its `connect`, and then one text for each thing that it is asked for, so that there is
-- one method for each of its calls.
use Rattle.std.specs.Prelude.{◌≡◌, ℕ, suc, ◌+◌, ◌<◌, ◌≤◌, List, [], ◌∷◌, ◌++◌, length, decimal, codes, Bool, true, false, cond, not, ◌&&◌, ◌||◌}
use Rattle.std.specs.Prelude.{nat_lt, Option, Some, None, Result, Ok, Err, is_some, refl}
use Rattle.std.specs.List.{list_any}
use Rattle.std.specs.List.Sorted.{IsStrictlySortedBy}
use Rattle.std.proofs.Common.{ap, ap₂, sym, subst, ◌∙◌, arith}
use Rattle.std.proofs.lemmas.Fmt.{decimal_injective, length-decimal-le}
use Rattle.std.proofs.lemmas.Bool.{or_parts, leb-true, le-ltb}
use Rattle.std.proofs.lemmas.List.Folds.{list_any-append}
use Rattle.serde_json.specs.Data.{Data, depth}
use Rattle.serde_json.specs.Read as json
use Rattle.value_model.specs.Val.{Val, text, list, object, no_vals, val, no_fields, field, vals_of}
use Rattle.value_model.specs.Order.{text_cmp}
use Rattle.value_model.specs.Size.{is_name, size}
use Rattle.value_model.specs.Valid.{IsValue, AreValues}
use Rattle.ejson_codec.specs.WrittenLaws.{name_is}
use Rattle.ejson_codec.specs.SizeLaws.{size-written}
use Rattle.ddp_messages.specs.Answers.{or_bad, client_tree, client_answer}
use Rattle.ddp_messages.specs.declared.fault.MsgFault.{MsgFault}
use Rattle.ddp_messages.specs.Fields.{name_of}
use Rattle.ddp_messages.specs.Limits.{IsShallow, AreShallow}
use Rattle.ddp_messages.specs.ClientMessage.{ClientMessage, client_reading}
use Rattle.ddp_messages.specs.ClientMessage as client
use Rattle.ddp_messages.specs.ClientLaws.{client_ok}
use Rattle.ddp_messages.specs.RisingLaws.{client_rising}
use Rattle.ddp_messages.specs.TextLaws.{client_depth}
use Rattle.ddp_messages.specs.Written.{client_written}
use Rattle.ejson_codec.specs.Exact.{HasExactNumbers}
use Rattle.ejson_codec.specs.CompactLaws.{read-compact_text}
use Rattle.ejson_codec.specs.ExactLaws.{exact_items}
use Rattle.ddp_messages.specs.MessageLaws.{client_text_back}
use Rattle.ddp_messages.specs.Texts.{client_text}
use Rattle.client_model.specs.Taking.{number_of}
use Rattle.client_model.specs.Asking.{call_limit}
use Rattle.headline.specs.session_model.Items as item
use Rattle.headline.specs.session_model.Taking.{max_text, Taken, at_once, to_queue, connected_by, taken_as, taken_named, taken_tree, taken_text}
use Rattle.headline.specs.session_model.Taking.{connects, item_of, message_of, answered_from, queued_from, is_connected_by}
use Rattle.headline.specs.session_model.Counting.{one_if}
use Rattle.headline.specs.world_model.Headline.{is_bad}
use Rattle.headline.specs.Known.{methods_in, HasAsks}
use Rattle.headline.specs.Calls.{many}
use Rattle.headline.specs.CallsLaws.{number_is}
use Rattle.headline.specs.Asked.{answer_in}
use Rattle.headline.specs.AskedLaws.{methods-append}
use Rattle.headline.specs.Texts.{AreMild, HasCalls, IsAsking, IsFirst, IsForeign, IsMild, IsNoMethod, IsOf, IsOther, asks_for, is_fail}

-- ---- what a session makes of a text

of_if : (r : Result ClientMessage MsgFault) (b : Bool) (x y : Taken) → IsOf r x → IsOf r y → IsOf r (cond b x y)
of_if r true x y p q = p
of_if r false x y p q = q

of_version : (version : List ℕ) (support : Option (List (List ℕ))) (b : Bool) → is_name version (codes "1") ≡ b →
    IsOf (Ok (client.connect version support)) (at_once (cond b item.connect item.fail))
of_version version support true e = tt
of_version version support false e = e

of_as : (d : Data) (o : Option ClientMessage) → client_reading d ≡ o → IsOf (or_bad (name_of d) (client_reading d)) (taken_as d o)
of_as d None e = tt
of_as d (Some (client.connect version support)) e =
    subst (λ o. IsOf (or_bad (name_of d) o) (at_once (connected_by version))) (sym e) (of_version version support (is_name version (codes "1")) refl)
of_as d (Some (client.ping id)) e = subst (λ o. IsOf (or_bad (name_of d) o) (at_once (item.ping id))) (sym e) tt
of_as d (Some (client.pong id)) e = subst (λ o. IsOf (or_bad (name_of d) o) (at_once item.pong)) (sym e) tt
of_as d (Some (client.sub id name params)) e = ap (or_bad (name_of d)) e
of_as d (Some (client.unsub id)) e = ap (or_bad (name_of d)) e
of_as d (Some (client.method id name params seed)) e = ap (or_bad (name_of d)) e

of_named : (connected : Bool) (d : Data) (o : Option (List ℕ)) → IsOf (or_bad (name_of d) (client_reading d)) (taken_named connected d o)
of_named connected d None = tt
of_named connected d (Some name) =
    let r = or_bad (name_of d) (client_reading d) in
    of_if r (not connected && not (is_name name (codes "connect"))) _ _ tt
    (of_if r (connected && is_name name (codes "connect")) _ _ tt (of_as d (client_reading d) refl))

of_tree : (connected : Bool) (o : Option Data) → IsOf (client_tree o) (taken_tree connected o)
of_tree connected None = tt
of_tree connected (Some d) = of_named connected d (name_of d)

taken_of : (connected : Bool) (t : List ℕ) → IsOf (client_answer t) (taken_text connected t)
taken_of connected t = of_if (client_answer t) (nat_lt max_text (length t)) _ _ tt (of_tree connected (json.read t))

-- ---- the methods among texts

asks_for-append : (id : List ℕ) (xs ys : List (List ℕ)) → asks_for id (xs ++ ys) ≡ asks_for id xs + asks_for id ys
asks_for-append id [] ys = omega arith
asks_for-append id (x ∷ xs) ys = omega (arith, asks_for-append id xs ys)

no_method : (id : List ℕ) (r : Result ClientMessage MsgFault) → IsNoMethod r → answer_in id r ≡ 0
no_method id (Ok (client.method x name params seed)) p = absurd p
no_method id (Ok m) p = refl
no_method id (Err e) p = refl

foreign_none : (id : List ℕ) (r : Result ClientMessage MsgFault) → IsForeign r → answer_in id r ≡ 0
foreign_none id (Ok (client.connect version support)) p = refl
foreign_none id (Ok m) p = absurd p
foreign_none id (Err e) p = absurd p

at_most : (id : List ℕ) (r : Result ClientMessage MsgFault) (x : Taken) → IsOf r x → methods_in id (message_of x) ≤ answer_in id r
at_most id r (at_once i) p = omega arith
at_most id r (to_queue m) p = omega (arith, ap (answer_in id) p)

exactly : (id : List ℕ) (r : Result ClientMessage MsgFault) (x : Taken) → IsOf r x → list_any is_bad (item_of x) ≡ false →
    methods_in id (message_of x) ≡ answer_in id r
exactly id r (at_once (item.bad reason offending)) p e = cc e
exactly id r (at_once item.fail) p e = sym (foreign_none id r p)
exactly id r (at_once i) p e = sym (no_method id r p)
exactly id r (to_queue m) p e = omega (arith, ap (answer_in id) p)

-- no more of them wait or were handled
queued_at_most : (id : List ℕ) (connected : Bool) (ts : List (List ℕ)) → methods_in id (queued_from connected ts) ≤ asks_for id ts
queued_at_most id connected [] = omega arith
queued_at_most id connected (t ∷ ts) =
    let x = taken_text connected t in
    omega (
      arith,
      methods-append id (message_of x) (queued_from (connects connected x) ts),
      at_most id (client_answer t) x (taken_of connected t),
      queued_at_most id (connects connected x) ts,
    )

-- all of them do where no text was refused
pub queued_exactly : (id : List ℕ) (connected : Bool) (ts : List (List ℕ)) → list_any is_bad (answered_from connected ts) ≡ false →
    methods_in id (queued_from connected ts) ≡ asks_for id ts
queued_exactly id connected [] e = refl
queued_exactly id connected (t ∷ ts) e =
    let x = taken_text connected t in
    let c = connects connected x in
    let parts = or_parts (list_any is_bad (item_of x)) (list_any is_bad (answered_from c ts))
    (sym (list_any-append is_bad (item_of x) (answered_from c ts)) ∙ e) in
    omega (
      arith,
      methods-append id (message_of x) (queued_from c ts),
      exactly id (client_answer t) x (taken_of connected t) parts.0,
      queued_exactly id c ts parts.1,
    )

pub calls_asks : (texts : List (List ℕ)) (calls : ℕ) → HasCalls texts calls → HasAsks texts calls
calls_asks texts calls h id = omega (arith, h id, queued_at_most id false texts)

-- ---- versions

never_both : (r : Result ClientMessage MsgFault) → IsForeign r → IsMild r → ⊥
never_both (Ok (client.connect version support)) p q = let differ : true ≡ false = sym q ∙ p in cc differ
never_both (Ok m) p q = absurd p
never_both (Err e) p q = absurd p

mild_item : (r : Result ClientMessage MsgFault) (x : Taken) → IsOf r x → IsMild r → list_any is_fail (item_of x) ≡ false
mild_item r (at_once item.fail) p q = absurd (never_both r p q)
mild_item r (at_once i) p q = refl
mild_item r (to_queue m) p q = refl

-- no session refuses a version of such texts
pub mild_answered : (connected : Bool) (ts : List (List ℕ)) → AreMild ts → list_any is_fail (answered_from connected ts) ≡ false
mild_answered connected [] q = refl
mild_answered connected (t ∷ ts) q =
    let x = taken_text connected t in
    let c = connects connected x in
    list_any-append is_fail (item_of x) (answered_from c ts)
    ∙ ap₂ (λ a b. a || b) (mild_item (client_answer t) x (taken_of connected t) q.0) (mild_answered c ts q.1)

pub mild_first : (xs ys : List (List ℕ)) → AreMild (xs ++ ys) → AreMild xs
mild_first [] ys q = tt
mild_first (x ∷ xs) ys q = (q.0, mild_first xs ys q.1)

mild_more : (xs : List (List ℕ)) (t : List ℕ) → AreMild xs → IsMild (client_answer t) → AreMild (xs ++ t ∷ [])
mild_more [] t q one = (one, tt)
mild_more (x ∷ xs) t q one = (q.0, mild_more xs t q.1 one)

-- ---- the first text

connect_back : (version : List ℕ) →
    client_answer (client_text (client.connect version (Some (version ∷ [])))) ≡ Ok (client.connect version (Some (version ∷ [])))
connect_back version = client_text_back (client.connect version (Some (version ∷ []))) tt tt

connect_read : (version : List ℕ) →
    json.read (client_text (client.connect version (Some (version ∷ [])))) ≡ Some (client_written (client.connect version (Some (version ∷ []))))
connect_read version =
    let m = client.connect version (Some (version ∷ [])) in
    let exact : HasExactNumbers (client_written m) = (tt, ((tt, tt), (tt, tt))) in
    read-compact_text (client_written m) exact (client_rising m tt) (client_depth m tt)

was_some : (name : Option (List ℕ)) (o : Option ClientMessage) (m : ClientMessage) → or_bad name o ≡ Ok m → o ≡ Some m
was_some name None m e = cc e
was_some name (Some x) m e = let same : x ≡ m = cc e in ap (λ y. Some y) same

connect_taken : (version : List ℕ) → nat_lt max_text (length (client_text (client.connect version (Some (version ∷ []))))) ≡ false →
    is_name version (codes "1") ≡ true →
    taken_text false (client_text (client.connect version (Some (version ∷ [])))) ≡ at_once item.connect
connect_taken version short own =
    let m = client.connect version (Some (version ∷ [])) in
    let t = client_text m in
    let d = client_written m in
    let reads : client_reading d ≡ Some m = was_some (name_of d) (client_reading d) m (sym (ap client_tree (connect_read version)) ∙ connect_back version) in
    ap (λ b. cond b (at_once (item.bad (codes "Bad request") None)) (taken_tree false (json.read t))) short
    ∙ (ap (taken_tree false) (connect_read version)
    ∙ (ap (taken_as d) reads
    ∙ ap (λ b. at_once (cond b item.connect item.fail)) own))

connect_first : (version : List ℕ) → nat_lt max_text (length (client_text (client.connect version (Some (version ∷ []))))) ≡ false →
    is_name version (codes "1") ≡ true → IsFirst (client_text (client.connect version (Some (version ∷ []))))
connect_first version short own = record {
  none = λ id. ap (answer_in id) (connect_back version);
  mild = subst IsMild (sym (connect_back version)) own;
  taken = connect_taken version short own;
}

names_rise : IsStrictlySortedBy text_cmp (codes "msg" ∷ codes "support" ∷ codes "version" ∷ [])
unfolding IsStrictlySortedBy
names_rise = ((refl, (refl, tt)), ((refl, tt), (tt, tt)))

-- the `connect` of a client
pub connect_opens : IsFirst (client_text (client.connect (codes "1") (Some (codes "1" ∷ []))))
connect_opens =
    let t = client_text (client.connect (codes "1") (Some (codes "1" ∷ []))) in
    let v = object (field (codes "msg") (text (codes "connect"))
    (field (codes "support") (list (val (text (codes "1")) no_vals)) (field (codes "version") (text (codes "1")) no_fields))) in
    let few : size v ≤ 100 = leb-true (size v) 100 refl in
    let same : size v ≡ length t = size-written v (names_rise, (tt, ((tt, tt), (tt, tt)))) in
    connect_first (codes "1") (le-ltb max_text (length t) (omega (arith, few, same))) refl

connects_stays : (x : Taken) → connects true x ≡ true
connects_stays (at_once item.connect) = refl
connects_stays (at_once i) = refl
connects_stays (to_queue m) = refl

still_connected : (ts : List (List ℕ)) → is_connected_by true ts ≡ true
still_connected [] = refl
still_connected (t ∷ ts) = ap (λ b. is_connected_by b ts) (connects_stays (taken_text true t)) ∙ still_connected ts

-- a session that took it first is connected
pub first_connects : (t : List ℕ) (ts : List (List ℕ)) → IsFirst t → is_connected_by false (t ∷ ts) ≡ true
first_connects t ts f = ap (λ x. is_connected_by (connects false x) ts) f.taken ∙ still_connected ts

-- ---- what is asked for

pub first_asked : (t : List ℕ) → IsFirst t → IsAsking (t ∷ []) 0
first_asked t f = record { first = t; more = []; begins = refl; opens = f; mild = (f.mild, tt); few = omega arith; each = λ id. omega (arith, f.none id) }

named_other : (d : Data) (name id : List ℕ) → name_of d ≡ Some name → is_name name (codes "method") ≡ false → (o : Option ClientMessage) →
    client_reading d ≡ o → answer_in id (or_bad (name_of d) o) ≡ 0
named_other d name id e f None r = refl
named_other d name id e f (Some (client.method x y params seed)) r =
    let same : Some name ≡ Some (codes "method") = sym e ∙ (client_ok d (client.method x y params seed) r).0 in
    let own : name ≡ codes "method" = cc same in
    let differ : true ≡ false = sym (ap (λ n. is_name n (codes "method")) own) ∙ f in cc differ
named_other d name id e f (Some m) r = refl

named_mild : (d : Data) (name : List ℕ) → name_of d ≡ Some name → is_name name (codes "connect") ≡ false → (o : Option ClientMessage) →
    client_reading d ≡ o → IsMild (or_bad (name_of d) o)
named_mild d name e f None r = tt
named_mild d name e f (Some (client.connect version support)) r =
    let same : Some name ≡ Some (codes "connect") = sym e ∙ (client_ok d (client.connect version support) r).0 in
    let own : name ≡ codes "connect" = cc same in
    let differ : true ≡ false = sym (ap (λ n. is_name n (codes "connect")) own) ∙ f in cc differ
named_mild d name e f (Some m) r = tt

other_text : (t : List ℕ) (d : Data) (name : List ℕ) → json.read t ≡ Some d → name_of d ≡ Some name → is_name name (codes "method") ≡ false →
    is_name name (codes "connect") ≡ false → IsOther t
other_text t d name e n f g = record {
  none = λ id. ap (λ o. answer_in id (client_tree o)) e ∙ named_other d name id n f (client_reading d) refl;
  mild = subst (λ o. IsMild (client_tree o)) (sym e) (named_mild d name n g (client_reading d) refl);
}

pub sub_other : (id name : List ℕ) (params : List Val) → AreValues (vals_of params) → AreShallow params → IsOther (client_text (client.sub id name params))
sub_other id name params values shallow =
    let m = client.sub id name params in
    let exact : HasExactNumbers (client_written m) = (tt, (tt, (tt, (exact_items (vals_of params) values, tt)))) in
    let low : depth (client_written m) ≤ json.max_depth = client_depth (client.sub [] name params) (omega arith, shallow) in
    other_text (client_text m) (client_written m) (codes "sub") (read-compact_text (client_written m) exact (client_rising m values) low) refl refl refl

pub unsub_other : (id : List ℕ) → IsOther (client_text (client.unsub id))
unsub_other id =
    let m = client.unsub id in
    let exact : HasExactNumbers (client_written m) = (tt, (tt, tt)) in
    let low : depth (client_written m) ≤ json.max_depth = client_depth (client.unsub []) (omega arith) in
    other_text (client_text m) (client_written m) (codes "unsub") (read-compact_text (client_written m) exact (client_rising m tt) low) refl refl refl

pub other_asked : (texts : List (List ℕ)) (t : List ℕ) (calls : ℕ) → IsOther t → IsAsking texts calls → IsAsking (texts ++ t ∷ []) calls
other_asked texts t calls o a = record {
  first = a.first;
  more = a.more ++ t ∷ [];
  begins = ap (λ (ts : List (List ℕ)). ts ++ t ∷ []) a.begins;
  opens = a.opens;
  mild = mild_more texts t a.mild o.mild;
  few = a.few;
  each = λ id. omega (arith, asks_for-append id texts (t ∷ []), o.none id, a.each id);
}

-- one call more has a number of its own
next_number : (n : ℕ) (id : List ℕ) → suc n < many →
    one_if (is_some (number_of n id)) + one_if (is_name id (decimal (suc n))) ≡ one_if (is_some (number_of (suc n) id))
next_number n id small =
    elim (is_name id (decimal (suc n))) as
    (λ b. is_name id (decimal (suc n)) ≡ b → one_if (is_some (number_of n id)) + one_if b ≡ one_if (is_some (cond b (Some (suc n)) (number_of n id)))) [
      | true ↦ λ t. omega (arith, none (number_of n id) refl (name_is id (decimal (suc n)) t))
      | false ↦ λ t. omega arith
    ] refl
  where
    none : (o : Option ℕ) → number_of n id ≡ o → id ≡ decimal (suc n) → one_if (is_some o) ≡ 0
    none None e s = refl
    none (Some k) e s =
        let number = number_is n id k e in
        let same : k ≡ suc n = decimal_injective k (suc n) (omega (arith, number.within, small)) small (sym number.is ∙ s) in
        absurd (omega (arith, same, number.within))

pub call_asked : (texts : List (List ℕ)) (name : List ℕ) (params : List Val) (seed : Val) (calls : ℕ) → calls < call_limit →
    AreValues (vals_of params) → AreShallow params → IsValue seed → IsShallow seed → IsAsking texts calls →
    IsAsking (texts ++ client_text (client.method (decimal (suc calls)) name params (Some seed)) ∷ []) (suc calls)
call_asked texts name params seed calls less values shallow value low a =
    let m = client.method (decimal (suc calls)) name params (Some seed) in
    let t = client_text m in
    let short = length-decimal-le 5 (suc calls) (omega arith) (omega (arith, less)) (omega (arith, less)) in
    let back : client_answer t ≡ Ok m = client_text_back m (values, value) (omega (arith, short), shallow, low) in record {
      first = a.first;
      more = a.more ++ t ∷ [];
      begins = ap (λ (ts : List (List ℕ)). ts ++ t ∷ []) a.begins;
      opens = a.opens;
      mild = mild_more texts t a.mild (subst IsMild (sym back) tt);
      few = omega (arith, less);
      each = λ id. omega (arith, asks_for-append id texts (t ∷ []), ap (answer_in id) back, a.each id, next_number calls id (omega (arith, less)));
    }
