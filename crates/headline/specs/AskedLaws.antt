-- Laws: A client that sends no text of its own asks for each of its calls once.
use Rattle.std.specs.Prelude.{◌≡◌, ℕ, suc, ◌+◌, ◌<◌, ◌≤◌, List, [], ◌∷◌, ◌++◌, length, decimal, Bool, true, false, cond, not, ◌&&◌, nat_lt, Option}
use Rattle.std.specs.Prelude.{Some, None, Result, Ok, Err, is_some, codes, refl}
use Rattle.std.proofs.Common.{ap, sym, ◌∙◌, arith}
use Rattle.std.proofs.lemmas.List.{append_assoc}
use Rattle.std.proofs.lemmas.Fmt.{decimal_injective, length-decimal-le}
use Rattle.serde_json.specs.Data.{Data, depth}
use Rattle.serde_json.specs.Read as json
use Rattle.value_model.specs.Val.{Val, text, vals_of}
use Rattle.value_model.specs.Size.{is_name}
use Rattle.value_model.specs.Valid.{AreValues}
use Rattle.ejson_codec.specs.WrittenLaws.{name_is}
use Rattle.ddp_messages.specs.Answers.{or_bad, client_tree, client_answer}
use Rattle.ddp_messages.specs.declared.fault.MsgFault.{MsgFault}
use Rattle.ddp_messages.specs.Fields.{name_of}
use Rattle.ddp_messages.specs.Limits.{AreShallow}
use Rattle.ddp_messages.specs.ClientMessage.{ClientMessage, client_reading}
use Rattle.ddp_messages.specs.ClientMessage as client
use Rattle.ddp_messages.specs.ClientLaws.{client_ok}
use Rattle.ddp_messages.specs.RisingLaws.{client_rising}
use Rattle.ddp_messages.specs.TextLaws.{client_depth}
use Rattle.ddp_messages.specs.Written.{client_written}
use Rattle.ejson_codec.specs.Exact.{HasExactNumbers}
use Rattle.ejson_codec.specs.CompactLaws.{read-compact_text}
use Rattle.ejson_codec.specs.ExactLaws.{exact_items}
use Rattle.ddp_messages.specs.MessageLaws.{client_text_back}
use Rattle.ddp_messages.specs.Texts.{client_text}
use Rattle.app_model.specs.App.{App, method}
use Rattle.client_model.specs.Taking.{number_of}
use Rattle.world_invariant_laws.specs.session_model.declared.fault.SubFault.TheVariants as fault
use Rattle.world_invariant_laws.specs.session_model.Publication.{Making, making}
use Rattle.world_invariant_laws.specs.session_model.Items.{Item, handled_by, handled}
use Rattle.world_invariant_laws.specs.session_model.Items as item
use Rattle.world_invariant_laws.specs.session_model.Subscriptions.{sub_named, is_crowded}
use Rattle.world_invariant_laws.specs.session_model.State.{State, started, after}
use Rattle.world_invariant_laws.specs.session_model.Moments.{Moment}
use Rattle.world_invariant_laws.specs.session_model.Taking.{max_text, Taken, at_once, to_queue, taken_as, taken_named, taken_tree, taken_text}
use Rattle.world_invariant_laws.specs.session_model.Taking.{connects, message_of, is_connected_by, queued_from}
use Rattle.world_invariant_laws.specs.session_model.Answering.{Answers}
use Rattle.world_invariant_laws.specs.session_model.Fits.{seed_or, opened_by, closed_by, item_for, CanFollow, FitsFrom, Fits}
use Rattle.world_invariant_laws.specs.session_model.Counting.{one_if, method_by, methods_handled}
use Rattle.headline.specs.Known.{AreAsked, method_in, methods_in, HasAsks}
use Rattle.headline.specs.Calls.{many}
use Rattle.headline.specs.CallsLaws.{number_is}
use Rattle.headline.specs.Asked.{IsOf, answer_in}

pub methods-append : (id : List ℕ) (xs ys : List ClientMessage) → methods_in id (xs ++ ys) ≡ methods_in id xs + methods_in id ys
methods-append id [] ys = omega arith
methods-append id (x ∷ xs) ys = omega (arith, methods-append id xs ys)

-- ---- what was handled

opened_by_none : (m : ClientMessage) (made : Making) (n : ℕ) (i : Item) (id : List ℕ) → opened_by n m made ≡ i → method_by id i ≡ 0
opened_by_none m (Ok cursors) n i id e = ap (method_by id) (sym e)
opened_by_none m (Err x) n i id e = ap (method_by id) (sym e)

closed_by_none : (m : ClientMessage) (o : Option ℕ) (i : Item) (id : List ℕ) → closed_by m o ≡ i → method_by id i ≡ 0
closed_by_none m None i id e = ap (method_by id) (sym e)
closed_by_none m (Some s) i id e = ap (method_by id) (sym e)

-- a method's item is of its message
item_counts : (app : App) (number : ℕ) (st : State) (m : ClientMessage) (i : Item) (id : List ℕ) → item_for app number st m ≡ i →
    method_by id i ≤ method_in id m
item_counts app number st (client.method x name params s) i id e =
    let m = client.method x name params s in
    elim (is_some (method app name)) as
    (λ b. cond b (item.call (length st.methods) m (seed_or number (length st.methods) s)) (item.unknown m) ≡ i → method_by id i ≤ one_if (is_name id x)) [
      | true ↦ λ f. omega (arith, ap (method_by id) f)
      | false ↦ λ f. omega (arith, ap (method_by id) f)
    ] e
item_counts app number st (client.sub x name params) i id e =
    let m = client.sub x name params in
    elim (is_some (sub_named x st.subs)) as
    (λ b. cond b (item.same m) (cond (is_crowded st.subs) (item.nosub m (Some fault.TooMany)) (opened_by st.opened m (making app name params))) ≡ i →
    method_by id i ≤ 0) [
      | true ↦ λ f. omega (arith, ap (method_by id) f)
      | false ↦ elim (is_crowded st.subs) as
          (λ b. cond b (item.nosub m (Some fault.TooMany)) (opened_by st.opened m (making app name params)) ≡ i → method_by id i ≤ 0) [
            | true ↦ λ f. omega (arith, ap (method_by id) f)
            | false ↦ λ f. omega (arith, opened_by_none m (making app name params) st.opened i id f)
          ]
    ] e
item_counts app number st (client.unsub x) i id e = omega (arith, closed_by_none (client.unsub x) (sub_named x st.subs) i id e)
item_counts app number st (client.connect version support) i id e = omega (arith, ap (method_by id) e)
item_counts app number st (client.ping x) i id e = omega (arith, ap (method_by id) e)
item_counts app number st (client.pong x) i id e = omega (arith, ap (method_by id) e)

one_counts : (app : App) (number : ℕ) (C : List Moment) (st : State) (i : Item) (id : List ℕ) → CanFollow app number C st i →
    method_by id i ≤ methods_in id (handled_by i)
one_counts app number C st (item.call k message seed) id f = omega (arith, item_counts app number st message (item.call k message seed) id f.made)
one_counts app number C st (item.unknown message) id f = omega (arith, item_counts app number st message (item.unknown message) id f.made)
one_counts app number C st i id f = omega arith

handled_counts : (app : App) (number : ℕ) (C : List Moment) (st : State) (items : List Item) (id : List ℕ) → FitsFrom app number C st items →
    methods_handled id items ≤ methods_in id (handled items)
handled_counts app number C st [] id f = omega arith
handled_counts app number C st (i ∷ items) id f =
    omega (arith, one_counts app number C st i id f.0, handled_counts app number C (after st i) items id f.1, methods-append id (handled_by i) (handled items))

-- ---- the texts of a client, as if its session took them all

queued-behind : (connected : Bool) (xs ys : List (List ℕ)) →
    queued_from connected (xs ++ ys) ≡ queued_from connected xs ++ queued_from (is_connected_by connected xs) ys
queued-behind connected [] ys = refl
queued-behind connected (x ∷ xs) ys =
    let c = connects connected (taken_text connected x) in
    ap (λ (ms : List ClientMessage). message_of (taken_text connected x) ++ ms) (queued-behind c xs ys)
    ∙ sym (append_assoc (message_of (taken_text connected x)) (queued_from c xs) (queued_from (is_connected_by c xs) ys))

-- no more methods were handled than there are among the texts
pub texts_count : (app : App) (number : ℕ) (C : List Moment) (taken rest : List (List ℕ)) (items : List Item) (waiting : List ClientMessage)
    (id : List ℕ) → Fits app number C items → Answers taken items waiting →
    methods_handled id items ≤ methods_in id (queued_from false (taken ++ rest))
texts_count app number C taken rest items waiting id f a =
    omega (
      arith,
      handled_counts app number C started items id f,
      ap (methods_in id) a.in_turn,
      methods-append id (handled items) waiting,
      ap (methods_in id) (queued-behind false taken rest),
      methods-append id (queued_from false taken) (queued_from (is_connected_by false taken) rest),
    )

-- ---- one text more

of_if : (r : Result ClientMessage MsgFault) (b : Bool) (x y : Taken) → IsOf r x → IsOf r y → IsOf r (cond b x y)
of_if r true x y p q = p
of_if r false x y p q = q

of_as : (d : Data) (o : Option ClientMessage) → client_reading d ≡ o → IsOf (or_bad (name_of d) (client_reading d)) (taken_as d o)
of_as d None e = tt
of_as d (Some (client.connect version support)) e = tt
of_as d (Some (client.ping id)) e = tt
of_as d (Some (client.pong id)) e = tt
of_as d (Some (client.sub id name params)) e = ap (or_bad (name_of d)) e
of_as d (Some (client.unsub id)) e = ap (or_bad (name_of d)) e
of_as d (Some (client.method id name params seed)) e = ap (or_bad (name_of d)) e

of_named : (connected : Bool) (d : Data) (o : Option (List ℕ)) → IsOf (or_bad (name_of d) (client_reading d)) (taken_named connected d o)
of_named connected d None = tt
of_named connected d (Some name) =
    let r = or_bad (name_of d) (client_reading d) in
    of_if r (not connected && not (is_name name (codes "connect"))) _ _ tt
    (of_if r (connected && is_name name (codes "connect")) _ _ tt (of_as d (client_reading d) refl))

of_tree : (connected : Bool) (o : Option Data) → IsOf (client_tree o) (taken_tree connected o)
of_tree connected None = tt
of_tree connected (Some d) = of_named connected d (name_of d)

taken_of : (connected : Bool) (t : List ℕ) → IsOf (client_answer t) (taken_text connected t)
taken_of connected t = of_if (client_answer t) (nat_lt max_text (length t)) _ _ tt (of_tree connected (json.read t))

message_counts : (id : List ℕ) (r : Result ClientMessage MsgFault) (x : Taken) → IsOf r x → methods_in id (message_of x) ≤ answer_in id r
message_counts id r (at_once i) p = omega arith
message_counts id r (to_queue m) p = omega (arith, ap (answer_in id) p)

-- one text more has at most the method that it is
pub text_counts : (id : List ℕ) (ts : List (List ℕ)) (t : List ℕ) →
    methods_in id (queued_from false (ts ++ t ∷ [])) ≤ methods_in id (queued_from false ts) + answer_in id (client_answer t)
text_counts id ts t =
    let b = is_connected_by false ts in
    omega (
      arith,
      ap (methods_in id) (queued-behind false ts (t ∷ [])),
      methods-append id (queued_from false ts) (message_of (taken_text b t) ++ []),
      methods-append id (message_of (taken_text b t)) [],
      message_counts id (client_answer t) (taken_text b t) (taken_of b t),
    )

-- ---- numbers

-- one call more has a number of its own
pub next_number : (n : ℕ) (id : List ℕ) → suc n < many →
    one_if (is_some (number_of n id)) + one_if (is_name id (decimal (suc n))) ≤ one_if (is_some (number_of (suc n) id))
next_number n id small =
    elim (is_name id (decimal (suc n))) as
    (λ b. is_name id (decimal (suc n)) ≡ b → one_if (is_some (number_of n id)) + one_if b ≤ one_if (is_some (cond b (Some (suc n)) (number_of n id)))) [
      | true ↦ λ t. omega (arith, none (number_of n id) refl (name_is id (decimal (suc n)) t))
      | false ↦ λ t. omega arith
    ] refl
  where
    none : (o : Option ℕ) → number_of n id ≡ o → id ≡ decimal (suc n) → one_if (is_some o) ≡ 0
    none None e s = refl
    none (Some k) e s =
        let number = number_is n id k e in
        let same : k ≡ suc n = decimal_injective k (suc n) (omega (arith, number.within, small)) small (sym number.is ∙ s) in
        absurd (omega (arith, same, number.within))

-- ---- what a client asks for

-- the session handled no more methods of an id than its client asked for
pub all_asked : (app : App) (number : ℕ) (C : List Moment) (taken rest : List (List ℕ)) (items : List Item) (waiting : List ClientMessage) (calls : ℕ) →
    Fits app number C items → Answers taken items waiting → HasAsks (taken ++ rest) calls → AreAsked items calls
all_asked app number C taken rest items waiting calls f a h id = omega (arith, texts_count app number C taken rest items waiting id f a, h id)

named_other : (d : Data) (name : List ℕ) (id : List ℕ) → name_of d ≡ Some name → is_name name (codes "method") ≡ false → (o : Option ClientMessage) →
    client_reading d ≡ o → answer_in id (or_bad (name_of d) o) ≡ 0
named_other d name id e f None r = refl
named_other d name id e f (Some (client.method x y params seed)) r =
    let same : Some name ≡ Some (codes "method") = sym e ∙ (client_ok d (client.method x y params seed) r).0 in
    let own : name ≡ codes "method" = cc same in
    let differ : true ≡ false = sym (ap (λ n. is_name n (codes "method")) own) ∙ f in cc differ
named_other d name id e f (Some m) r = refl

other_text : (t : List ℕ) (d : Data) (name id : List ℕ) → json.read t ≡ Some d → name_of d ≡ Some name → is_name name (codes "method") ≡ false →
    answer_in id (client_answer t) ≡ 0
other_text t d name id e n f = ap (λ o. answer_in id (client_tree o)) e ∙ named_other d name id n f (client_reading d) refl

other_asks : (texts : List (List ℕ)) (t : List ℕ) (calls : ℕ) → ((id : List ℕ) → answer_in id (client_answer t) ≡ 0) → HasAsks texts calls →
    HasAsks (texts ++ t ∷ []) calls
other_asks texts t calls none h id = omega (arith, text_counts id texts t, none id, h id)

-- a `sub`, of whatever id
pub sub_asks : (texts : List (List ℕ)) (x name : List ℕ) (params : List Val) (calls : ℕ) → AreValues (vals_of params) → AreShallow params →
    HasAsks texts calls → HasAsks (texts ++ client_text (client.sub x name params) ∷ []) calls
sub_asks texts x name params calls values shallow h =
    let m = client.sub x name params in
    let exact : HasExactNumbers (client_written m) = (tt, (tt, (tt, (exact_items (vals_of params) values, tt)))) in
    let low : depth (client_written m) ≤ json.max_depth = client_depth (client.sub [] name params) (omega arith, shallow) in
    other_asks texts (client_text m) calls
    (λ id. other_text (client_text m) (client_written m) (codes "sub") id (read-compact_text (client_written m) exact (client_rising m values) low) refl refl) h

-- an `unsub`
pub unsub_asks : (texts : List (List ℕ)) (x : List ℕ) (calls : ℕ) → HasAsks texts calls → HasAsks (texts ++ client_text (client.unsub x) ∷ []) calls
unsub_asks texts x calls h =
    let m = client.unsub x in
    let exact : HasExactNumbers (client_written m) = (tt, (tt, tt)) in
    let low : depth (client_written m) ≤ json.max_depth = client_depth (client.unsub []) (omega arith) in
    other_asks texts (client_text m) calls
    (λ id. other_text (client_text m) (client_written m) (codes "unsub") id (read-compact_text (client_written m) exact (client_rising m tt) low) refl refl) h

-- a call, with the next number
pub call_asks : (texts : List (List ℕ)) (name : List ℕ) (params : List Val) (seed : List ℕ) (calls : ℕ) → calls < 65536 → AreValues (vals_of params) →
    AreShallow params → HasAsks texts calls →
    HasAsks (texts ++ client_text (client.method (decimal (suc calls)) name params (Some (text seed))) ∷ []) (suc calls)
call_asks texts name params seed calls few values shallow h id =
    let m = client.method (decimal (suc calls)) name params (Some (text seed)) in
    let short = length-decimal-le 5 (suc calls) (omega arith) (omega (arith, few)) (omega (arith, few)) in
    let back : client_answer (client_text m) ≡ Ok m = client_text_back m (values, tt) (omega (arith, short), shallow, omega arith) in
    omega (arith, text_counts id texts (client_text m), ap (answer_in id) back, h id, next_number calls id (omega (arith, few)))
